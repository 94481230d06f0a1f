-- What a run promises, by its exit status.
use Rattle.std.specs.Prelude.{◌≡◌, ◌≢◌, ◌⊎◌, ℕ, List, ◌++◌, Option, Some, T, if◌then◌else◌, nat_eq, codes}
use Rattle.jl_text.specs.Counts.{Rose}
use Rattle.jl_text.specs.Paths.{PathView}
use Rattle.jl_streams.specs.Moments.{moments_after}
use Rattle.jl_streams.specs.Streams.{WritesPrefix}
use Rattle.jl_streams.specs.Views.{SinkView}
use Rattle.jl_quota.specs.declared.limits.Limits.{Limits}
use Rattle.jl_value.specs.Library.{next_count}
use Rattle.jl_cmd.specs.Commands.{Command, call, reduce_size}
use Rattle.jl_cmd.specs.Course.{Course, IsClear}
use Rattle.jl_cmd.specs.Endings.{LacksModule}
use Rattle.jl_cmd.specs.Met.{Met, IsMet, output_in}
use Rattle.jl_cmd.specs.Needs.{needs_of, UseClock}
use Rattle.jl_cmd.specs.Saying.{SaidBy}
use Rattle.jl_cmd.specs.Statuses as status
use Rattle.jl_cmd.specs.Uncalled.{IsUncalled}
use Rattle.jl_cmd.specs.Texts.{error_line}

-- the statuses at which the whole output of a command stands: done, a task error, refused input
abbrev pub HasWholeOutput : ℕ → Type 0
HasWholeOutput n = (n ≡ status.done) ⊎ ((n ≡ status.task_error) ⊎ (n ≡ status.refused))

-- the statuses at which nothing was written
abbrev pub IsSilent : ℕ → Type 0
IsSilent n = (n ≡ status.usage) ⊎ ((n ≡ status.no_memory) ⊎ ((n ≡ status.no_module) ⊎ ((n ≡ status.folder_fault) ⊎ (n ≡ status.read_fault))))

-- every status that a run may have
abbrev pub IsStatus : ℕ → Type 0
IsStatus n = HasWholeOutput n ⊎ (IsSilent n ⊎ (n ≡ status.write_fault))

-- the last text on the error stream at a status that has one text alone
abbrev pub text_of_status : ℕ → List ℕ
text_of_status n =
    if nat_eq n status.usage then error_line (codes "usage") else
    (if nat_eq n status.read_fault then error_line (codes "read fault") else
    (if nat_eq n status.write_fault then error_line (codes "write fault") else
    (if nat_eq n status.no_memory then error_line (codes "out of memory") else
    (if nat_eq n status.no_module then error_line (codes "no module") else
    error_line (codes "folder fault")))))

-- the output is that of what the run met: its bytes, its status and its last text, behind what was said before
pub record AnswersWhole (s : Command) (w : Course) (met : Met) (err err' : SinkView) (n : ℕ) : Type 0 where
  pub is_met : IsMet s w met
  pub status : (output_in s w met).status ≡ n
  pub written : w.out.told → w.out'.written ≡ w.out.written ++ (output_in s w met).bytes
  pub text : IsClear err err' → (said : List ℕ) × SaidBy (Some s) w met said × (err'.written ≡ err.written ++ (said ++ (output_in s w met).text))

-- a front of that output was written, and the output failed
pub record AnswersFront (s : Command) (w : Course) (met : Met) : Type 0 where
  pub is_met : IsMet s w met
  pub status : T (needs_of s).buffered → (output_in s w met).status ≡ status.done
  pub front : w.out.told → WritesPrefix (output_in s w met).bytes w.out.written w.out'.written

-- nothing of a command is refused: no state of the run lacked its module's file, and the output of what was met is no refusal
pub record IsValid (s : Command) (w : Course) : Type 0 where
  pub there : LacksModule (needs_of s).file w.folder w.folder' → ⊥
  pub taken : (met : Met) → IsMet s w met → (output_in s w met).status ≢ status.refused

-- no count of faults rose but that of the error stream
pub record IsFaultless (w : Course) : Type 0 where
  pub folder : Rose w.folder.faults w.folder'.faults → ⊥
  pub out : Rose w.out.faults w.out'.faults → ⊥
  pub input : Rose w.input.faults w.input'.faults → ⊥

-- done, a task error, or want of memory
abbrev pub IsComplete : ℕ → Type 0
IsComplete n = (n ≡ status.done) ⊎ ((n ≡ status.task_error) ⊎ (n ≡ status.no_memory))

-- the library's count of calls in a call of a function: at an error of the function it rose by one, where none was called by none, and never by more
pub record CountsCalls (w : Course) (n : ℕ) : Type 0 where
  pub failed : n ≡ status.task_error → w.calls' ≡ next_count w.calls
  pub uncalled : IsUncalled n → w.calls' ≡ w.calls
  pub most : (w.calls' ≡ w.calls) ⊎ (w.calls' ≡ next_count w.calls)

-- how often the clock was read, by the moments that are left where it tells them: not at all where it is not used, nor where a call called nothing, and
-- once by `reduce-size`, where memory was not wanting
pub record ReadsClock (given : Option Command) (w : Course) (n : ℕ) : Type 0 where
  pub unused : (UseClock given → ⊥) → w.host.told → w.host'.moments ≡ w.host.moments
  pub uncalled : (file location : PathView) (name args : List ℕ) → given ≡ Some (call file location name args) → w.host.told → IsUncalled n → w.host'.moments ≡ w.host.moments
  pub reduced : (location : PathView) (limits : Limits) → given ≡ Some (reduce_size location limits) → w.host.told → n ≢ status.no_memory → w.host'.moments ≡ moments_after w.host.moments
