-- What is counted has paths, and so has what is left.
use Rattle.std.proofs.Common.{ℕ, ◌-◌, List, [], ◌∷◌, ◌++◌, true, false, cond, nat_lt, map, Option, Some, None}
use Rattle.std.specs.Str.{bytes_eq}
use Rattle.jl_tracker.specs.declared.line.Kind.{Kind}
use Rattle.jl_tracker.specs.declared.line.Kind.TheVariants as kind
use Rattle.jl_tracker.specs.declared.counts.Leaked.{Leaked}
use Rattle.jl_tracker.specs.TrackerLines.{LineView, registers, unregisters, may_unlink, probes}
use Rattle.jl_tracker.specs.Entries.{Entries, count_of, put, without, registered, released, released_by, more_of}
use Rattle.jl_tracker.specs.Counting.{CountsView, entries_at, with_entries, after_line, left_of}
use Rattle.jl_tracker.specs.Effects.{IsReading, after_read}
use Rattle.jl_tracker.specs.Tries.{IsRemovable}
use Rattle.jl_tracker.specs.Turns.{IsSaidRemovable, Held, HasPaths, AreRemovable}
use Rattle.jl_tracker.proofs.PlayLemmas.{said_removable}

-- a name with a path was counted
held_put : (k : Kind) (name : List ℕ) (n : ℕ) (es : Entries) → IsRemovable k name → Held k es → Held k (put name n es)
held_put k name n [] ok h = (ok, tt)
held_put k name n (e ∷ es) ok h =
    let more = held_put k name n es ok h.1 in
    elim (bytes_eq name e.0) as (λ v. Held k (cond v ((e.0, n) ∷ es) (e ∷ put name n es))) [ true ↦ h | false ↦ (h.0, more) ]

-- a name is not counted any more
held_without : (k : Kind) (name : List ℕ) (es : Entries) → Held k es → Held k (without name es)
held_without k name [] h = tt
held_without k name (e ∷ es) h =
    let more = held_without k name es h.1 in
    elim (bytes_eq name e.0) as (λ v. Held k (cond v es (e ∷ without name es))) [ true ↦ h.1 | false ↦ (h.0, more) ]

-- one reference fewer
held_released : (k : Kind) (name : List ℕ) (es : Entries) (o : Option ℕ) → IsRemovable k name → Held k es → Held k (released_by name es o)
held_released k name es None ok h = h
held_released k name es (Some n) ok h =
    let lower = held_put k name (n - 1) es ok h in
    let gone = held_without k name es h in
    elim (nat_lt 1 n) as (λ v. Held k (cond v (put name (n - 1) es) (without name es))) [ true ↦ lower | false ↦ gone ]

-- the names of one kind
held_at : (k : Kind) (v : CountsView) → HasPaths v → Held k (entries_at k v)
held_at kind.File v h = h.files
held_at kind.Folder v h = h.folders
held_at kind.Semlock v h = h.semlocks

-- the names of one kind, put in the place of the old ones
held_with : (k : Kind) (es : Entries) (v : CountsView) → Held k es → HasPaths v → HasPaths (with_entries k es v)
held_with kind.File es v e h = record { files = e; semlocks = h.semlocks; folders = h.folders }
held_with kind.Folder es v e h = record { files = h.files; semlocks = h.semlocks; folders = e }
held_with kind.Semlock es v e h = record { files = h.files; semlocks = e; folders = h.folders }

-- a line keeps that what is counted has paths
said_paths : (said : LineView) (v : CountsView) → IsSaidRemovable said → HasPaths v → HasPaths (after_line said v)
said_paths (registers k name) v ok h = held_with k (registered name (entries_at k v)) v (held_put k name (more_of (count_of name (entries_at k v))) (entries_at k v) ok (held_at k v h)) h
said_paths (unregisters k name) v ok h = held_with k (without name (entries_at k v)) v (held_without k name (entries_at k v) (held_at k v h)) h
said_paths (may_unlink k name) v ok h = held_with k (released name (entries_at k v)) v (held_released k name (entries_at k v) (count_of name (entries_at k v)) ok (held_at k v h)) h
said_paths probes v ok h = h

-- all names have paths after a line that was read
pub read_paths : (bytes : List ℕ) (r : Option LineView) (v : CountsView) → IsReading bytes r → HasPaths v → HasPaths (after_read r v)
read_paths bytes None v is h = h
read_paths bytes (Some said) v is h = said_paths said v (said_removable bytes said is) h

-- what is left of two lists
removable_append : (ls ms : List Leaked) → AreRemovable ls → AreRemovable ms → AreRemovable (ls ++ ms)
removable_append [] ms h k = k
removable_append (l ∷ ls) ms h k = (h.0, removable_append ls ms h.1 k)

-- what is left of one kind
removable_of : (k : Kind) (es : Entries) → Held k es → AreRemovable (map (λ e. record { kind = k; name = e.0 }) es)
removable_of k [] h = tt
removable_of k (e ∷ es) h = (h.0, removable_of k es h.1)

-- what is left has paths
pub left_removable : (v : CountsView) → HasPaths v → AreRemovable (left_of v)
left_removable v h = removable_append _ _ (removable_of kind.File v.files h.files) (removable_append _ _ (removable_of kind.Semlock v.semlocks h.semlocks) (removable_of kind.Folder v.folders h.folders))
