-- Each child of a list or a table is lower than it.
-- Machinery: nothing here need be believed.
use Rattle.std.proofs.Common.{ℕ, ◌≤◌, List, [], ◌∷◌, arith}
use denote.Param.Weighed.{most}
use Rattle.jl_value.specs.Tree.{height, items_of, items_height, members_of, members_height}
use Rattle.jl_value.specs.Form.{tree_of, trees_of, entries_of}
use Rattle.jl_value.specs.declared.value.Value.{Value}
use Rattle.jl_value.specs.declared.value.Value.TheVariants.{Null, Truth, Whole, Text, List as Listed, Table, Numbers}
use Rattle.jl_value.specs.declared.value.List.TheDeep.{deep-Value}
use Rattle.jl_value.specs.declared.value.List.TheShapes.{weighed-Table-inner-at-2}

-- what the generated measure counts is no more than the height
pub deep_le : (v : Value) → deep-Value v ≤ height (tree_of v)
deep_le Null = omega arith
deep_le (Truth b) = omega arith
deep_le (Whole z) = omega arith
deep_le (Text s) = omega arith
deep_le (Listed ts) = omega arith
deep_le (Table ms) = omega arith
deep_le (Numbers zs) = omega arith

-- of the members of a list
pub most_trees : (vs : List Value) → most deep-Value vs ≤ items_height (items_of (trees_of vs))
most_trees [] = omega arith
most_trees (v ∷ vs) = let here = deep_le v in let later = most_trees vs in omega arith

-- what the generated measure counts of a member of a table
abbrev pub weight_of_entry : List ℕ × Value → ℕ
weight_of_entry e = weighed-Table-inner-at-2.weight Value deep-Value e

pub entry_le : (e : List ℕ × Value) → weight_of_entry e ≤ height (tree_of e.1)
entry_le e = let here = deep_le e.1 in omega arith

-- of the members of a table
pub most_entries : (es : List (List ℕ × Value)) → most weight_of_entry es ≤ members_height (members_of (entries_of es))
most_entries [] = omega arith
most_entries (e ∷ es) = let here = entry_le e in let later = most_entries es in omega arith
