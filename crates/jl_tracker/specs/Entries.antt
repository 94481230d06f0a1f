-- The resources of one kind that are registered, in order of registration, with their counts.
use Rattle.std.specs.Prelude.{◌≡◌, ℕ, ◌-◌, List, [], ◌∷◌, Option, Some, None, nat_lt, cond}
use Rattle.std.specs.Str.{bytes_eq}
use Rattle.jl_text.specs.Counts.{counted}
use Rattle.jl_tracker.specs.declared.table.Step.{Step}
use Rattle.jl_tracker.specs.declared.table.Step.TheVariants as step

-- each name with its count
abbrev pub Entries : Type 0
Entries = List (List ℕ × ℕ)

-- the count of a name, if it is registered
abbrev pub count_of : List ℕ → Entries → Option ℕ
count_of name [] = None
count_of name (e ∷ es) = cond (bytes_eq name e.0) (Some e.1) (count_of name es)

-- a name has this count: in its place if it is registered, and else behind the others
abbrev pub put : List ℕ → ℕ → Entries → Entries
put name n [] = (name, n) ∷ []
put name n (e ∷ es) = cond (bytes_eq name e.0) ((e.0, n) ∷ es) (e ∷ put name n es)

-- a name is not registered any more
abbrev pub without : List ℕ → Entries → Entries
without name [] = []
without name (e ∷ es) = cond (bytes_eq name e.0) es (e ∷ without name es)

-- the count that a name gets by one more reference
abbrev pub more_of : Option ℕ → ℕ
more_of None = 1
more_of (Some n) = counted n

-- one reference more
abbrev pub registered : List ℕ → Entries → Entries
registered name es = put name (more_of (count_of name es)) es

-- what is left of a count by one reference fewer; at none the entry goes
abbrev pub released_by : List ℕ → Entries → Option ℕ → Entries
released_by name es None = es
released_by name es (Some n) = cond (nat_lt 1 n) (put name (n - 1) es) (without name es)

abbrev pub released : List ℕ → Entries → Entries
released name es = released_by name es (count_of name es)

-- the answer to one reference fewer
abbrev pub release_answer : Option ℕ → Step
release_answer None = step.Unknown
release_answer (Some n) = cond (nat_lt 1 n) (step.Counted (n - 1)) step.Remove

-- the answer to a drop of all references
abbrev pub drop_answer : Option ℕ → Step
drop_answer None = step.Unknown
drop_answer (Some n) = step.Dropped

-- one reference more; for a new name there may be no memory, and then nothing changes
abbrev pub Registers : List ℕ → Entries → Entries → Step → Type 0
Registers name old new (step.Counted n) = (n ≡ more_of (count_of name old)) × (new ≡ registered name old)
Registers name old new step.Dropped = ⊥
Registers name old new step.Remove = ⊥
Registers name old new step.Unknown = ⊥
Registers name old new step.Nothing = ⊥
Registers name old new step.NoMemory = (count_of name old ≡ None) × (new ≡ old)
