-- What bytes may stand under a final name, and which of them are true.
use Rattle.std.specs.Prelude.{◌≡◌, ◌≤◌, ◌<◌, ◌^◌, ℕ, List, length, ⊤}
use Rattle.hex.specs.Hex.{encode_lower}
use Rattle.jl_text.specs.declared.limits.TheConstants.{MOST_ENTRY_BYTES}
use Rattle.jl_value.specs.Tree.{Tree}
use Rattle.jl_value.specs.Key.{key_of}
use Rattle.jl_value.specs.Library.{Answer, value}
use Rattle.jl_value.specs.Lines.{IsLine}
use Rattle.jl_entry.specs.Codes.{code_text}
use Rattle.jl_entry.specs.Entry.{Members, IsEntryOf}
use Rattle.jl_entry.specs.Moments.{IsAccess, IsMetadata}
use Rattle.jl_entry.specs.Names.{Final, code_of, entry_of}
use Rattle.jl_entry.specs.declared.names.EntryFile.TheVariants.{Output, Metadata, Access}

-- no text of the store is longer: a reader stops here
abbrev pub most_bytes : ℕ
most_bytes = MOST_ENTRY_BYTES

-- The bytes are a text of the file's format: of a code of one line, whose line's number has 64 bits; of an entry of arguments with its folder's key; of a duration and a moment; of a moment.
abbrev pub IsOfFormat : Final → List ℕ → Type 0
IsOfFormat (code_of m f) bytes = (code : List ℕ) × (line : ℕ) × (1 ≤ line) × (line < 2 ^ 64) × IsLine code × (bytes ≡ code_text code line)
IsOfFormat (entry_of Output m f k) bytes = (code : List ℕ) × (ps : Members) × (t : Tree) × (encode_lower (key_of ps) ≡ k) × IsEntryOf bytes code ps t
IsOfFormat (entry_of Metadata m f k) bytes = (duration time : ℕ) × IsMetadata bytes duration time
IsOfFormat (entry_of Access m f k) bytes = (moment : ℕ) × IsAccess bytes moment

-- the bytes are whole for a final name: of its format, and no longer than a reader reads
unfoldable pub IsWhole : Final → List ℕ → Type 0
IsWhole x bytes = (length bytes ≤ most_bytes) × IsOfFormat x bytes

-- what a code answers on arguments
abbrev pub CodeAnswers : Type 0
CodeAnswers = List ℕ → Members → Answer

-- an output holds what its code answers on its arguments
unfoldable pub IsTruthful : CodeAnswers → Final → List ℕ → Type 0
IsTruthful answer (code_of m f) bytes = ⊤
IsTruthful answer (entry_of Output m f k) bytes = (code : List ℕ) × (ps : Members) × (t : Tree) × (answer code ps ≡ value t) × IsEntryOf bytes code ps t
IsTruthful answer (entry_of Metadata m f k) bytes = ⊤
IsTruthful answer (entry_of Access m f k) bytes = ⊤
