-- The arguments that a text gives.
use Rattle.std.specs.Prelude.{ℕ, List, length, Result, Ok, Err, if◌then◌else◌, nat_lt}
use Rattle.jl_text.specs.declared.limits.TheConstants.{MOST_TEXT_BYTES, MOST_VALUE_DEPTH}
use Rattle.jl_value.specs.declared.fault.ValueFault.{ValueFault}
use Rattle.jl_value.specs.declared.fault.ValueFault.TheVariants as value
use Rattle.jl_value.specs.Tree.{Tree, null, truth, whole, text, list, table, numbers, pairs_of}
use Rattle.jl_value.specs.Walked.{read_bytes}
use Rattle.jl_value.specs.Canonical.{text_of}
use Rattle.jl_value.specs.Key.{args_tree}
use Rattle.jl_cmd.specs.declared.arguments.ArgumentsFault.{ArgumentsFault}
use Rattle.jl_cmd.specs.declared.arguments.ArgumentsFault.TheVariants.{TooLong, NotJson, NotWhole, BadArray, TooDeep, NotTable, Memory}

abbrev pub fault_of : ValueFault → ArgumentsFault
fault_of value.NotJson = NotJson
fault_of value.TooDeep = TooDeep
fault_of value.BadArray = BadArray
fault_of value.NotWhole = NotWhole
fault_of value.Memory = Memory

-- arguments whose canonical text has at most 1,048,576 bytes
abbrev pub sized_of : List (List ℕ × Tree) → Result (List (List ℕ × Tree)) ArgumentsFault
sized_of ps = if nat_lt MOST_TEXT_BYTES (length (text_of (args_tree ps))) then Err TooLong else Ok ps

-- the members of a table
abbrev pub members_in : Tree → Result (List (List ℕ × Tree)) ArgumentsFault
members_in null = Err NotTable
members_in (truth b) = Err NotTable
members_in (whole z) = Err NotTable
members_in (text s) = Err NotTable
members_in (list ts) = Err NotTable
members_in (table ms) = sized_of (pairs_of ms)
members_in (numbers zs) = Err NotTable

abbrev pub table_in : Result Tree ValueFault → Result (List (List ℕ × Tree)) ArgumentsFault
table_in (Ok t) = members_in t
table_in (Err e) = Err (fault_of e)

-- a JSON table of at most 1,048,576 bytes, nested at most 64 deep, whose canonical text is no longer either
unfoldable pub arguments_of : List ℕ → Result (List (List ℕ × Tree)) ArgumentsFault
arguments_of s = if nat_lt MOST_TEXT_BYTES (length s) then Err TooLong else table_in (read_bytes MOST_VALUE_DEPTH s)
