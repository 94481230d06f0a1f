-- What a command needs: the file of a module, a cache, the input, the functions of a library, the folder and the clock; and how it may end and write.
use Rattle.std.specs.Prelude.{Bool, true, false, T, Option, Some, None, IsSome, ⊤}
use Rattle.jl_text.specs.Paths.{PathView}
use Rattle.jl_words.specs.ModuleNames.{module_name_of}
use Rattle.jl_words.specs.Targets.{IsTarget}
use Rattle.jl_cmd.specs.Commands.{Command, call, hash, clear, reduce_size, tracker}

-- the file of the module that is read; where the cache lies that values rest on; whether the input is read, functions are called, the folder and the
-- clock are used; whether a fault of the folder may end it; whether it writes texts of its own to the error stream before the last ones; and
-- whether nothing is written before all that is to be written is known
pub record Needs : Type 0 where
  pub file : Option PathView
  pub cache : Option PathView
  pub reads : Bool
  pub calls : Bool
  pub folder : Bool
  pub clock : Bool
  pub faults : Bool
  pub tells : Bool
  pub buffered : Bool

-- without a command nothing is needed
abbrev pub no_needs : Needs
no_needs = record { file = None; cache = None; reads = false; calls = false; folder = false; clock = false; faults = false; tells = false; buffered = true }

abbrev pub needs_of : Command → Needs
needs_of (call file location name args) = record no_needs { file = Some file; cache = Some location; calls = true; folder = true; clock = true; faults = true }
needs_of (hash args) = no_needs
needs_of (clear location m f key) = record no_needs { folder = true; faults = true }
needs_of (reduce_size location limits) = record no_needs { folder = true; clock = true; faults = true }
needs_of tracker = record no_needs { reads = true; folder = true; tells = true }

-- what is needed for what words give
abbrev pub needs_given : Option Command → Needs
needs_given None = no_needs
needs_given (Some s) = needs_of s

-- ---- whether words give a command

abbrev pub IsGiven : Option Command → Type 0
IsGiven None = ⊥
IsGiven (Some s) = ⊤

-- and one that reads the input
abbrev pub AreReading : Option Command → Type 0
AreReading given = T (needs_given given).reads

-- that calls functions
abbrev pub AreCalling : Option Command → Type 0
AreCalling given = T (needs_given given).calls

-- that uses the folder
abbrev pub UseFolder : Option Command → Type 0
UseFolder given = T (needs_given given).folder

-- that reads the clock
abbrev pub UseClock : Option Command → Type 0
UseClock given = T (needs_given given).clock

-- that a fault of the folder may end: it reads a module, or takes away
abbrev pub MayFault : Option Command → Type 0
MayFault given = T (needs_given given).faults

-- that writes texts of its own to the error stream
abbrev pub AreTelling : Option Command → Type 0
AreTelling given = T (needs_given given).tells

-- that writes nothing before all is known
abbrev pub AreBuffered : Option Command → Type 0
AreBuffered given = T (needs_given given).buffered

-- ---- what words give

-- the module file of the command, if it has one, has a module's name, and what it clears is named by names
abbrev pub HasModule : Command → Type 0
HasModule (call file location name args) = IsSome (module_name_of file)
HasModule (clear location m f key) = IsTarget m f key
HasModule _ = ⊤

-- the same of what words give
abbrev pub GivenHasModule : Option Command → Type 0
GivenHasModule None = ⊤
GivenHasModule (Some s) = HasModule s
