-- The commands that the program has, and which of them words give.
use Rattle.std.specs.Prelude.{ℕ, List, Option, Some, None, String, map, string_bytes}
use Rattle.std.specs.Option.{option_and_then}
use Rattle.jl_text.specs.Paths.{PathView}
use Rattle.jl_quota.specs.declared.limits.Limits.{Limits}
use Rattle.jl_value.specs.declared.key.Key.{Key}
use Rattle.jl_words.specs.Settings.{settings_of}
use Rattle.jl_words.specs.declared.types.Settings.{Settings}
use Rattle.jl_words.specs.declared.types.Settings.TheVariants.{Call, Hash, Parallel, Session, Clear, ReduceSize, Worker, Tracker, Gen}

-- a command with all that its words set
pub data Command : Type 0 where
  call : (file location : PathView) (name args : List ℕ) → Command
  hash : (args : List ℕ) → Command
  clear : (location : PathView) (m f : Option (List ℕ)) (key : Option Key) → Command
  reduce_size : (location : PathView) (limits : Limits) → Command
  tracker : Command

-- the command of these settings, where the program has it
abbrev pub command_of : Settings → Option Command
command_of (Call file location name args) = Some (call file location name args)
command_of (Hash args) = Some (hash args)
command_of (Parallel file location jobs backend window batch mode most temp) = None
command_of (Session file location) = None
command_of (Clear location m f key) = Some (clear location m f key)
command_of (ReduceSize location limits) = Some (reduce_size location limits)
command_of Worker = None
command_of Tracker = Some tracker
command_of (Gen location start count) = None

-- the command that words give, on a machine with so many processors
abbrev pub given_of : List (List ℕ) → ℕ → Option Command
given_of words cpus = option_and_then command_of (settings_of words cpus)

-- the command that a program's words give
abbrev pub given_by : {Z : Type 0} → List (String Z) → ℕ → Option Command
given_by words cpus = given_of (map string_bytes words) cpus
