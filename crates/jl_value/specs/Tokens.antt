-- The tokens of the canonical text, for the walk that writes it.
-- Machinery: nothing here need be believed.
use Rattle.std.specs.Prelude.{ℕ, ℤ, List}
use Rattle.json.specs.Token.{Token}
use Rattle.json.specs.Tree.{json_tokens, items_tokens, members_tokens}
use Rattle.serde_json.specs.Written.{outline, items_outline, members_outline}
use Rattle.jl_value.specs.Tree.{Tree, items_of, members_of}
use Rattle.jl_value.specs.Canonical.{json_of, items_json, members_json, numbers_json}
use Rattle.jl_value.specs.Form.{trees_of, entries_of}
use Rattle.jl_value.specs.declared.value.Value.{Value}

-- the tokens of a value
abbrev pub tokens_of : Tree → List Token
tokens_of t = json_tokens (outline (json_of t))

-- the tokens of the members of a list, with the closing bracket
abbrev pub list_tokens : List Value → List Token
list_tokens vs = items_tokens (items_outline (items_json (items_of (trees_of vs))))

-- those of a table
abbrev pub table_tokens : List (List ℕ × Value) → List Token
table_tokens es = members_tokens (members_outline (members_json (members_of (entries_of es))))

-- those of an array's numbers
abbrev pub numbers_tokens : List ℤ → List Token
numbers_tokens zs = items_tokens (items_outline (numbers_json zs))
