-- Lists that go over lists, and the members of a table.
use Rattle.std.specs.Prelude.{◌≡◌, ℕ, suc, Bool, true, false, ℤ, List, [], ◌∷◌, ◌++◌, Option, Some, None, ⊤}
use Rattle.std.specs.Ordering.{nat_cmp}
use Rattle.std.specs.Cmp.Lexicographic.{slice_cmp}
use Rattle.std.specs.BTreeMap.{insert_entry}
use Rattle.jl_value.specs.Tree.{Tree, truth, whole, list, numbers, items_of, list_of}
use Rattle.jl_value.specs.declared.library.TaskError.TheVariants.{BadKind}
use Rattle.jl_operands.specs.Steps.{Evaluated, done, failed, then', counted}

-- the members that a list or an array has, each as a value
abbrev pub wholes : List ℤ → List Tree
wholes [] = []
wholes (z ∷ zs) = whole z ∷ wholes zs

-- what a list goes over, where there is any
abbrev pub source_of : Tree → Option (List Tree)
source_of (list ts) = Some (list_of ts)
source_of (numbers zs) = Some (wholes zs)
source_of _ = None

-- a list that is made of one value for each member of another, behind those that it has so far
abbrev pub each_over : (Tree → ℕ → Evaluated) → List Tree → List Tree → ℕ → Evaluated
each_over of [] vs n = counted n (list (items_of vs))
each_over of (u ∷ us) vs n = then' (of u n) (λ v m. each_over of us (vs ++ v ∷ []) m)

-- takes a member or leaves it out, by its condition
abbrev pub picked : Tree → ℕ → (ℕ → Evaluated) → (ℕ → Evaluated) → Evaluated
picked (truth true) n take leave = take n
picked (truth false) n take leave = leave n
picked _ n take leave = failed BadKind

-- one member, if its condition lets it through, behind those so far, and what follows
abbrev pub taking : (ℕ → Evaluated) → (ℕ → Evaluated) → List Tree → ℕ → (List Tree → ℕ → Evaluated) → Evaluated
taking if_so of vs n rest = then' (if_so n) (λ c m. picked c m (λ k. then' (of k) (λ v l. rest (vs ++ v ∷ []) l)) (λ k. rest vs k))

-- the same of the members at which a condition holds
abbrev pub filtered_over : (Tree → ℕ → Evaluated) → (Tree → ℕ → Evaluated) → List Tree → List Tree → ℕ → Evaluated
filtered_over if_so of [] vs n = counted n (list (items_of vs))
filtered_over if_so of (u ∷ us) vs n = taking (if_so u) (of u) vs n (λ ws l. filtered_over if_so of us ws l)

-- goes on with the members, where there are any
abbrev pub over : Option (List Tree) → (List Tree → Evaluated) → Evaluated
over None of = failed BadKind
over (Some us) of = of us

-- the members of a table with one more: of two equal keys the later stands
abbrev pub with_entry : Option (List ℕ) → Tree → List (List ℕ × Tree) → List (List ℕ × Tree)
with_entry None v kvs = kvs
with_entry (Some k) v kvs = insert_entry (slice_cmp nat_cmp) kvs k v

-- what a condition answers at each of some members
abbrev pub ConditionAnswers : (Tree → ℕ → Evaluated) → List Tree → List Bool → Type 0
ConditionAnswers if_so [] [] = ⊤
ConditionAnswers if_so [] (b ∷ bs) = ⊥
ConditionAnswers if_so (u ∷ us) [] = ⊥
ConditionAnswers if_so (u ∷ us) (b ∷ bs) = ((n : ℕ) × (m : ℕ) × (if_so u n ≡ done (truth b) m)) × ConditionAnswers if_so us bs

-- how many are true
abbrev pub trues : List Bool → ℕ
trues [] = 0
trues (true ∷ bs) = suc (trues bs)
trues (false ∷ bs) = trues bs

-- a condition answers a truth at each member, and so many times true
pub record LetsThrough (if_so : Tree → ℕ → Evaluated) (us : List Tree) (count : ℕ) : Type 0 where
  pub answers : List Bool
  pub given : ConditionAnswers if_so us answers
  pub holding : trues answers ≡ count
