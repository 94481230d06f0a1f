-- What bytes are read as; and words of the walk, where what is read so far stands before what is left.
use Rattle.std.specs.Prelude.{ℕ, List, [], ◌∷◌, Option, None}
use Rattle.std.specs.Str.{is_utf8}
use Rattle.std.specs.Prelude.{if◌then◌else◌, Err}
use Rattle.jl_value.specs.declared.fault.ValueFault.TheVariants.{NotJson}
use Rattle.jl_value.specs.Tree.{Tree, Items, item, Members, member}
use Rattle.std.specs.Prelude.{◌==◌, ℤ}
use Rattle.serde_json.specs.Data as json
use Rattle.jl_value.specs.Reading.{Read, read_tree, array_in}

-- the value that bytes are, or the first fault
abbrev pub read_bytes : ℕ → List ℕ → Read Tree
read_bytes n s = if is_utf8 s then read_tree n s else Err NotJson

-- trees before items
abbrev pub items_before : List Tree → Items → Items
items_before [] ts = ts
items_before (u ∷ us) ts = item u (items_before us ts)

-- keys and trees before members
abbrev pub members_before : List (List ℕ × Tree) → Members → Members
members_before [] ms = ms
members_before (p ∷ ps) ms = member p.0 p.1 (members_before ps ms)

-- the numbers of an object with this many members, whose array key has d
abbrev pub array_among : ℕ → json.Data → Option (List ℤ)
array_among len d = if len == 1 then array_in d else None
