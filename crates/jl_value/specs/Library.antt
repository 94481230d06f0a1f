-- What a library answers, and the limits that each library keeps.
use Rattle.std.specs.Prelude.{◌≡◌, ◌≤◌, ℕ, List, length, Option, Some, None, ⊤}
use Rattle.jl_text.specs.Counts.{counted}
use Rattle.jl_text.specs.declared.limits.TheConstants.{MOST_TEXT_BYTES, MOST_VALUE_DEPTH}
use Rattle.jl_value.specs.Tree.{Tree, nesting}
use Rattle.jl_value.specs.Canonical.{text_of}
use Rattle.jl_value.specs.Form.{tree_of}
use Rattle.jl_value.specs.Proper.{IsProper}
use Rattle.jl_value.specs.declared.library.TaskError.{TaskError}
use Rattle.jl_value.specs.declared.library.Outcome.{Outcome}
use Rattle.jl_value.specs.declared.library.Outcome.TheVariants.{Value, Error}
use Rattle.jl_value.specs.declared.library.Called.{Called}
use Rattle.jl_value.specs.declared.library.Called.TheVariants.{Done, NoMemory}
use Rattle.jl_value.specs.declared.library.ModuleFault.{ModuleFault}
use Rattle.jl_value.specs.declared.library.ReadModule.{ReadModule}
use Rattle.jl_value.specs.declared.library.ReadModule.TheVariants.{Read, Fault, NoMemory as NoMemoryToRead}

-- what a code comes to on arguments: a value or an error
pub data Answer : Type 0 where
  value : Tree → Answer
  error : TaskError → Answer

-- an outcome of the program as such an answer
abbrev pub outcome_of : Outcome → Answer
outcome_of (Value v) = value (tree_of v)
outcome_of (Error e) = error e

-- the answer of a call, where memory was not at fault
abbrev pub IfDone : Called → (Answer → Type 0) → Type 0
IfDone (Done o) P = P (outcome_of o)
IfDone NoMemory P = ⊤

-- a count that stands still at its last value
abbrev pub next_count : ℕ → ℕ
next_count n = counted n

-- a call that was done is counted
abbrev pub Counted : Called → ℕ → ℕ → Type 0
Counted (Done o) old new = new ≡ next_count old
Counted NoMemory old new = new ≡ old

-- the module is taken exactly where it has no fault; else the library keeps the one that it had
abbrev pub TakesModule : ReadModule → Option ModuleFault → List ℕ → List ℕ → List ℕ → Type 0
TakesModule Read fault bytes old new = (fault ≡ None) × (new ≡ bytes)
TakesModule (Fault f) fault bytes old new = (fault ≡ Some f) × (new ≡ old)
TakesModule NoMemoryToRead fault bytes old new = new ≡ old

-- a value of a library keeps the limits of depth and of its text
abbrev pub IsWithin : Answer → Type 0
IsWithin (value t) = IsProper t × (nesting t ≤ MOST_VALUE_DEPTH) × (length (text_of t) ≤ MOST_TEXT_BYTES)
IsWithin (error e) = ⊤
