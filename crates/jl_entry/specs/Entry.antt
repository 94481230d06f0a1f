-- The text of a cache entry.
use Rattle.std.specs.Prelude.{◌≡◌, ◌≤◌, ℕ, pos, List, ◌++◌, Option, MatchOption, codes, ⊤, IsUtf8}
use Rattle.json.specs.Print.{quoted}
use Rattle.jl_value.specs.Tree.{Tree, whole, text, table, no_members, member, nesting}
use Rattle.jl_value.specs.Canonical.{text_of}
use Rattle.jl_value.specs.Form.{tree_of}
use Rattle.jl_value.specs.Key.{args_tree}
use Rattle.jl_value.specs.Proper.{IsProper}
use Rattle.jl_value.specs.declared.value.Value.{Value as V}
use Rattle.jl_entry.specs.declared.output.Parts.{Parts}
use Rattle.jl_entry.specs.declared.output.ReadOutput.{ReadOutput}
use Rattle.jl_entry.specs.declared.output.ReadOutput.TheVariants.{Value, NotMine, Damaged, NoMemory}

-- `args`
abbrev pub args_key : List ℕ
args_key = codes "args"

-- `code`
abbrev pub code_key : List ℕ
code_key = codes "code"

-- `format`
abbrev pub format_key : List ℕ
format_key = codes "format"

-- `value`
abbrev pub value_key : List ℕ
value_key = codes "value"

-- arguments: the members of their table
abbrev pub Members : Type 0
Members = List (List ℕ × Tree)

-- a key and its value
abbrev pub KeyValue : Type 0
KeyValue = List ℕ × V

-- the table of an entry: its arguments, its code, the format 1 and its value
abbrev pub entry_tree : List ℕ → Members → Tree → Tree
entry_tree code ps t = table (member args_key (args_tree ps) (member code_key (text code) (member format_key (whole (pos 1)) (member value_key t no_members))))

-- its canonical text
abbrev pub entry_text : List ℕ → Members → Tree → List ℕ
entry_text code ps t = text_of (entry_tree code ps t)

-- the text before the arguments: `{"args":`
abbrev pub first_piece : List ℕ
first_piece = codes "{\"args\":"

-- the text before the code: `,"code":`
abbrev pub code_piece : List ℕ
code_piece = codes ",\"code\":"

-- the text before the value: `,"format":1,"value":`
abbrev pub value_piece : List ℕ
value_piece = codes ",\"format\":1,\"value\":"

-- what an entry of this code and of arguments with this text begins with, up to its value
abbrev pub head_text : List ℕ → List ℕ → List ℕ
head_text code args = (((first_piece ++ args) ++ code_piece) ++ quoted code) ++ value_piece

-- a text is the head of the entries of this code and these arguments
pub record IsHeadOf (head code : List ℕ) (ps : Members) : Type 0 where
  pub text : head ≡ head_text code (text_of (args_tree ps))
  pub coded : IsUtf8 code
  pub proper : IsProper (args_tree ps)

-- the bytes are the entry of this code, these arguments and this value, which a reader 70 deep reads
pub record IsEntryOf (bytes code : List ℕ) (ps : Members) (t : Tree) : Type 0 where
  pub text : bytes ≡ entry_text code ps t
  pub proper : IsProper (entry_tree code ps t)
  pub shallow : nesting (entry_tree code ps t) ≤ 70

-- the bytes are an entry
abbrev pub IsEntry : List ℕ → Type 0
IsEntry bytes = (code : List ℕ) × (ps : Members) × (t : Tree) × IsEntryOf bytes code ps t

-- an entry of other code or other arguments
abbrev pub IsOther : List ℕ → List ℕ → Members → Type 0
IsOther bytes code ps = IsEntry bytes × ((t : Tree) → IsEntryOf bytes code ps t → ⊥)

-- what a reader with this code and these arguments answers
abbrev pub IsOutput : ReadOutput → List ℕ → List ℕ → Members → Type 0
IsOutput (Value v) bytes code ps = IsEntryOf bytes code ps (tree_of v)
IsOutput NotMine bytes code ps = IsOther bytes code ps
IsOutput Damaged bytes code ps = IsEntry bytes → ⊥
IsOutput NoMemory bytes code ps = ⊤

-- in an entry, its parts are found
abbrev pub FindsParts : Option Parts → Tree → Type 0
FindsParts r u = (code : List ℕ) (ps : Members) (t : Tree) → u ≡ entry_tree code ps t → MatchOption r ⊥ (λ p. (p.args.now ≡ ps) × (p.code.now ≡ code) × (tree_of p.value.now ≡ t))
