-- What the tracker counts.
use Rattle.std.specs.Prelude.{◌≡◌, ℕ, List, [], ◌∷◌, ◌++◌, Option, Some, None, map, length, nat_eq, cond}
use Rattle.jl_tracker.specs.declared.line.Kind.{Kind}
use Rattle.jl_tracker.specs.declared.line.Kind.TheVariants as kind
use Rattle.jl_tracker.specs.declared.table.Step.{Step}
use Rattle.jl_tracker.specs.declared.table.Step.TheVariants as step
use Rattle.jl_tracker.specs.declared.counts.Leaked.{Leaked}
use Rattle.jl_tracker.specs.Entries.{Entries, count_of, without, more_of, registered, released, release_answer, drop_answer}
use Rattle.jl_tracker.specs.TrackerLines.{LineView, registers, unregisters, may_unlink, probes}

-- the resources of each kind, in order of registration
pub record CountsView : Type 0 where
  pub files : Entries
  pub semlocks : Entries
  pub folders : Entries

abbrev pub no_counts : CountsView
no_counts = record { files = []; semlocks = []; folders = [] }

-- those of a kind
abbrev pub entries_at : Kind → CountsView → Entries
entries_at kind.File v = v.files
entries_at kind.Folder v = v.folders
entries_at kind.Semlock v = v.semlocks

abbrev pub with_entries : Kind → Entries → CountsView → CountsView
with_entries kind.File es v = record v { files = es }
with_entries kind.Folder es v = record v { folders = es }
with_entries kind.Semlock es v = record v { semlocks = es }

-- the count of a resource
abbrev pub count_in : Kind → List ℕ → CountsView → Option ℕ
count_in k name v = count_of name (entries_at k v)

-- the counts after a line
abbrev pub after_line : LineView → CountsView → CountsView
after_line (registers k name) v = with_entries k (registered name (entries_at k v)) v
after_line (unregisters k name) v = with_entries k (without name (entries_at k v)) v
after_line (may_unlink k name) v = with_entries k (released name (entries_at k v)) v
after_line probes v = v

-- what a line does
abbrev pub counts_answer : LineView → CountsView → Step
counts_answer (registers k name) v = step.Counted (more_of (count_in k name v))
counts_answer (unregisters k name) v = drop_answer (count_in k name v)
counts_answer (may_unlink k name) v = release_answer (count_in k name v)
counts_answer probes v = step.Nothing

-- the line registers a resource that isn't counted
abbrev pub IsNew : LineView → CountsView → Type 0
IsNew (registers k name) v = count_in k name v ≡ None
IsNew (unregisters k name) v = ⊥
IsNew (may_unlink k name) v = ⊥
IsNew probes v = ⊥

-- the answer and the counts after a line are those of the definition; for a new resource there may be no memory, and then nothing changes
abbrev pub Applies : LineView → CountsView → CountsView → Step → Type 0
Applies line old new (step.Counted n) = (step.Counted n ≡ counts_answer line old) × (new ≡ after_line line old)
Applies line old new step.Dropped = (step.Dropped ≡ counts_answer line old) × (new ≡ after_line line old)
Applies line old new step.Remove = (step.Remove ≡ counts_answer line old) × (new ≡ after_line line old)
Applies line old new step.Unknown = (step.Unknown ≡ counts_answer line old) × (new ≡ after_line line old) × (new ≡ old)
Applies line old new step.Nothing = (step.Nothing ≡ counts_answer line old) × (new ≡ after_line line old)
Applies line old new step.NoMemory = IsNew line old × (new ≡ old)

-- the entries but for the first
abbrev pub tail_of : Entries → Entries
tail_of [] = []
tail_of (e ∷ es) = es

-- what is left at the end: files, then semaphores, then folders, each in order of registration
abbrev pub left_of : CountsView → List Leaked
left_of v = map (λ e. record { kind = kind.File; name = e.0 }) v.files ++ (map (λ e. record { kind = kind.Semlock; name = e.0 }) v.semlocks ++ map (λ e. record { kind = kind.Folder; name = e.0 }) v.folders)

-- the counts without the first of these
abbrev pub without_first : CountsView → CountsView
without_first v = cond (nat_eq (length v.files) 0) (cond (nat_eq (length v.semlocks) 0) (record v { folders = tail_of v.folders }) (record v { semlocks = tail_of v.semlocks })) (record v { files = tail_of v.files })

-- the first of what is left was taken out, or nothing is left
abbrev pub TakesLeaked : CountsView → CountsView → Option Leaked → Type 0
TakesLeaked old new None = (left_of old ≡ []) × (new ≡ old)
TakesLeaked old new (Some leaked) = (left_of old ≡ leaked ∷ left_of new) × (new ≡ without_first old)
