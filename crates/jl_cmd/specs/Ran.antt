-- What a run promises: one record of how it ended and what it did before its last texts were written; and what that says of its exit status.
use Rattle.std.specs.Prelude.{◌≡◌, ◌⊎◌, ℕ, List, [], ◌++◌, Option, Some, None}
use Rattle.jl_text.specs.Counts.{Rose}
use Rattle.jl_text.specs.Paths.{PathView}
use Rattle.jl_value.specs.declared.key.Key.{Key}
use Rattle.jl_quota.specs.declared.limits.Limits.{Limits}
use Rattle.jl_streams.specs.Views.{SinkView, SinkKeeps}
use Rattle.jl_tracker.specs.Stages.{SinkPoint}
use Rattle.jl_cmd.specs.declared.ended.Ended.{Ended}
use Rattle.jl_cmd.specs.declared.ended.Ended.TheVariants.{ReadFault, WriteFault}
use Rattle.jl_cmd.specs.Caches.{IsIdle, RunsLawfully}
use Rattle.jl_cmd.specs.Coming.{PutsOut, CallComes}
use Rattle.jl_cmd.specs.Commands.{Command, call, clear, reduce_size, tracker}
use Rattle.jl_cmd.specs.Course.{Course, stretch_of, IsClear, KeepsCourse}
use Rattle.jl_cmd.specs.Did.{GivenDid}
use Rattle.jl_cmd.specs.Endings.{RunEnds, LacksTold, WritesNothing, status_of, last_text}
use Rattle.jl_cmd.specs.Met.{Met, bytes_in}
use Rattle.jl_cmd.specs.Needs.{needs_of, AreReading, AreCalling, AreBuffered, UseFolder, UseClock, MayFault}
use Rattle.jl_cmd.specs.Premise.{Stated, Premise}
use Rattle.jl_cmd.specs.Promises.{HasWholeOutput, IsSilent, IsStatus, IsComplete, AnswersWhole, AnswersFront, IsValid, IsFaultless, CountsCalls, ReadsClock, text_of_status}
use Rattle.jl_cmd.specs.Puts.{GivenPuts, IsUnprinted}
use Rattle.jl_cmd.specs.Reporting.{sink_at, WroteBoth, WroteLast}
use Rattle.jl_cmd.specs.Saying.{TellsBehind, SaidBy, StatusAt}
use Rattle.jl_cmd.specs.Statuses as status
use Rattle.jl_cmd.specs.Uncalled.{IsUncalled}
use Rattle.jl_cmd.specs.of.Call.{CallLeaves}
use Rattle.jl_cmd.specs.of.Clear.{ClearDid}
use Rattle.jl_cmd.specs.of.Reduce.{ReduceDid}
use Rattle.jl_cmd.specs.of.Track.{RunsTracker}

-- What a command has no use for is as it was: the library but for a call, the folder, the host but for its clock, and the input but for the tracker.
-- And where a call's module was not read, its library and host are.
pub record LeavesUnused {L F H S : Type 0} (given : Option Command) (Unread : Type 0) (lib lib' : L) (disk disk' : F) (machine machine' : H) (source source' : S) : Type 0 where
  pub library : (AreCalling given → ⊥) → lib' ≡ lib
  pub folder : (UseFolder given → ⊥) → disk' ≡ disk
  pub host : (UseClock given → ⊥) → machine' ≡ machine
  pub input : (AreReading given → ⊥) → source' ≡ source
  pub unread : Unread → AreCalling given → (lib' ≡ lib) × (machine' ≡ machine)

-- How a run of what words give ended, where the error stream stood by then, and with the lines of its warnings still to be written. All of it rests
-- on one datum, what the run met.
pub record Ran (given : Option Command) (w : Course) (err : SinkView) (point : SinkPoint) (e : Ended) (said : List ℕ) : Type 0 where
  pub met : Met
  -- Why it ended so.
  pub ends : RunEnds given w e
  -- What was put out: the whole output of what was met, or a front of it; and of a buffered command nothing where it isn't done.
  pub puts : GivenPuts given w met e
  pub withholds : AreBuffered given → IsUnprinted e → WritesNothing w.out w.out'
  -- None but a call has lines of warnings; and a command that has no texts of its own leaves the error stream alone.
  pub says : (AreCalling given → ⊥) → said ≡ []
  pub tells : TellsBehind given err point
  -- Who calls nothing leaves the library's count, and who has no use for the clock its moments.
  pub counts : (AreCalling given → ⊥) → w.calls' ≡ w.calls
  pub clock : (UseClock given → ⊥) → w.host.told → w.host'.moments ≡ w.host.moments
  -- Whatever others do, each of its own moves is of its command's kinds, and lawful wherever all moves before it since its beginning were.
  pub moves : w.folder.told → RunsLawfully given w
  -- What the command did, by its own record.
  pub did : GivenDid given w met err point e said
  -- What stays, and which counts of faults rose.
  pub frame : KeepsCourse (e ≡ ReadFault) (e ≡ WriteFault) w err (sink_at err point)

-- A run that answered this status: some ending has it, before which the run went so; and behind all that was on the error stream by then stand the lines of
-- warnings and the ending's last text, each of them whole or a first part of it where a fault rose in its own writing.
pub record RanTo (given : Option Command) (w : Course) (err err' : SinkView) (n : ℕ) : Type 0 where
  pub ended : Ended
  pub said : List ℕ
  pub point : SinkPoint
  pub ran : Ran given w err point ended said
  pub status : n ≡ status_of ended
  pub text : IsClear (sink_at err point) err' → err'.written ≡ point.written ++ (said ++ last_text ended)
  pub each : err.told → WroteBoth said (last_text ended) (sink_at err point) err'
  pub keeps : SinkKeeps (sink_at err point) err'

-- what a run of what words give promises of its exit status; all of it rests on one datum, what the run met
pub record Runs (given : Option Command) (w : Course) (err err' : SinkView) (n : ℕ) : Type 0 where
  pub met : Met
  -- The headline: where the cache folder was sound and each other run kept its rules, the whole output stands at the statuses 0, 1 and 3:
  -- that of the module's bytes, under their own code, or the line of what was taken away.
  pub output : (s : Command) → given ≡ Some s → HasWholeOutput n → Premise (needs_of s) w → AnswersWhole s w met err err' n
  -- A front of it at a write fault.
  pub write_fault : (s : Command) → given ≡ Some s → n ≡ status.write_fault → Premise (needs_of s) w → AnswersFront s w met
  pub write_fault_rose : n ≡ status.write_fault → Rose w.out.faults w.out'.faults
  -- Nothing at every other status.
  pub nothing : IsSilent n → WritesNothing w.out w.out'
  -- A refusal and an error of the function rest on no cache, and nothing is written then.
  pub refused : (s : Command) → given ≡ Some s → (n ≡ status.task_error) ⊎ (n ≡ status.refused) → Stated (needs_of s) w → AnswersWhole s w met err err' n
  pub refused_nothing : (n ≡ status.task_error) ⊎ (n ≡ status.refused) → WritesNothing w.out w.out'
  -- Where nothing is refused and nothing failed, the run is complete.
  pub complete : (s : Command) → given ≡ Some s → Stated (needs_of s) w → IsValid s w → IsFaultless w → IsComplete n
  pub statuses : IsStatus n
  pub usage : given ≡ None → (n ≡ status.usage) ⊎ (n ≡ status.no_memory)
  pub usage_only : n ≡ status.usage → given ≡ None
  pub no_module : (s : Command) → given ≡ Some s → n ≡ status.no_module → LacksTold (needs_of s).file w.folder w.folder'
  pub read_fault : n ≡ status.read_fault → AreReading given × Rose w.input.faults w.input'.faults
  pub folder_fault : n ≡ status.folder_fault → MayFault given × Rose w.folder.faults w.folder'.faults
  -- The error stream: at every status the lines and texts of what the command had to say, and then the last text of such an ending.
  pub said : (e : Ended) × (n ≡ status_of e) × RunEnds given w e × GivenPuts given w met e
      × (IsClear err err' → (said : List ℕ) × SaidBy given w met said × (err'.written ≡ err.written ++ (said ++ last_text e)))
  pub text : IsSilent n ⊎ (n ≡ status.write_fault) → IsClear err err'
      → (said : List ℕ) × SaidBy given w met said × (err'.written ≡ err.written ++ (said ++ text_of_status n))
  -- A fault of the error stream in another text keeps the last one from nothing.
  pub tried : IsSilent n ⊎ (n ≡ status.write_fault) → err.told → WroteLast (text_of_status n) err err'
  -- How often functions were called.
  pub uncalled : (AreCalling given → ⊥) → w.calls' ≡ w.calls
  pub calls : (file location : PathView) (name args : List ℕ) → given ≡ Some (call file location name args) → CountsCalls w n
  -- How often the clock was read.
  pub clock : ReadsClock given w n
  -- Whatever others do, each of its own moves is lawful wherever all moves before it since its beginning were.
  pub lawful : w.folder.told → RunsLawfully given w
  -- Where the cache folder was sound, no other moved and no fault of the folder rose, a call leaves it so at the statuses 0 and 1.
  pub alone : (file location : PathView) (name args : List ℕ) → given ≡ Some (call file location name args) → CallLeaves file location (bytes_in met) name args (stretch_of w) (StatusAt n)
  -- Whatever others do: the value that was put out was found where its entry was opened, or else the function was called and this is its
  -- answer; and what the call left undone it warned of.
  pub comes : (file location : PathView) (name args : List ℕ) → given ≡ Some (call file location name args)
      → CallComes file location (bytes_in met) name args (stretch_of w) (PutsOut w.out w.out' err err') (StatusAt n)
  -- Whatever others do, a call that called nothing makes no move.
  pub idle : (file location : PathView) (name args : List ℕ) → given ≡ Some (call file location name args) → w.folder.told → IsUncalled n → IsIdle w
  -- The tracker: the lines that it read, what came about, and its texts.
  pub tracks : given ≡ Some tracker → RunsTracker w err err' n
  -- What a clearing took away: done, each name went away, and alone nothing is left of what it was to clear, and all else.
  pub clears : (location : PathView) (m f : Option (List ℕ)) (key : Option Key) → given ≡ Some (clear location m f key)
      → (e : Ended) × (n ≡ status_of e) × ClearDid location m f key w.folder w.folder' e
  -- What `reduce-size` chose, took away and printed.
  pub reduces : (location : PathView) (limits : Limits) → given ≡ Some (reduce_size location limits) → (e : Ended) × (n ≡ status_of e) × ReduceDid location limits w e
  -- What stays, and which counts of faults rose.
  pub frame : KeepsCourse (n ≡ status.read_fault) (n ≡ status.write_fault) w err err'
