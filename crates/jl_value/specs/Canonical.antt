-- The canonical text of a value, and the JSON data that it is the text of.
use Rattle.std.specs.Prelude.{ℕ, ℤ, Bool, true, false, if◌then◌else◌, List, [], ◌∷◌, ◌++◌, codes}
use Rattle.std.specs.Fmt.{signed_decimal}
use Rattle.json.specs.Print.{quoted}
use Rattle.serde_json.specs.Data as data'
use Rattle.serde_json.specs.Find.{of_integer}
use Rattle.jl_value.specs.Tree.{Tree, null, truth, whole, text, list, table, numbers, Items, no_items, item, Members, no_members, member}

-- the one key of an array
abbrev pub array_key : List ℕ
array_key = codes "$i64"

-- a comma, where something stands before
abbrev pub comma_if : Bool → List ℕ
comma_if later = if later then codes "," else []

-- the numbers of an array from here on, and the closing bracket
abbrev pub numbers_text : Bool → List ℤ → List ℕ
numbers_text later [] = codes "]"
numbers_text later (z ∷ zs) = comma_if later ++ (signed_decimal z ++ numbers_text true zs)

abbrev mutual
  -- the canonical text: `null`, `true`, `false`, decimals, quoted texts, and brackets with no space in them
  pub text_of : Tree → List ℕ
  text_of null = codes "null"
  text_of (truth true) = codes "true"
  text_of (truth false) = codes "false"
  text_of (whole z) = signed_decimal z
  text_of (text s) = quoted s
  text_of (list ts) = codes "[" ++ items_text false ts
  text_of (table ms) = codes "{" ++ members_text false ms
  text_of (numbers zs) = codes "{" ++ (quoted array_key ++ (codes ":[" ++ (numbers_text false zs ++ codes "}")))

  -- the members of a list from here on, and the closing bracket
  pub items_text : Bool → Items → List ℕ
  items_text later no_items = codes "]"
  items_text later (item t ts) = comma_if later ++ (text_of t ++ items_text true ts)

  -- the members of a table from here on, each key before its value, and the closing brace
  pub members_text : Bool → Members → List ℕ
  members_text later no_members = codes "}"
  members_text later (member k t ms) = comma_if later ++ (quoted k ++ (codes ":" ++ (text_of t ++ members_text true ms)))

-- ---- as JSON data

-- numbers as the items of a JSON array
abbrev pub numbers_json : List ℤ → data'.Items
numbers_json [] = data'.no_items
numbers_json (z ∷ zs) = data'.item (data'.number (of_integer z)) (numbers_json zs)

abbrev mutual
  -- a value as JSON data
  pub json_of : Tree → data'.Data
  json_of null = data'.null
  json_of (truth b) = data'.boolean b
  json_of (whole z) = data'.number (of_integer z)
  json_of (text s) = data'.string s
  json_of (list ts) = data'.array (items_json ts)
  json_of (table ms) = data'.object (members_json ms)
  json_of (numbers zs) = data'.object (data'.member array_key (data'.array (numbers_json zs)) data'.no_members)

  -- the members of a list as items
  pub items_json : Items → data'.Items
  items_json no_items = data'.no_items
  items_json (item t ts) = data'.item (json_of t) (items_json ts)

  -- the members of a table as members
  pub members_json : Members → data'.Members
  members_json no_members = data'.no_members
  members_json (member k t ms) = data'.member k (json_of t) (members_json ms)
