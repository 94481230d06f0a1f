-- What operands and members of lists stand for, whose whole numbers may be kept as such.
use Rattle.std.specs.Prelude.{◌≡◌, Bool, ℤ, List, Option, Some, None}
use Rattle.jl_value.specs.Tree.{Tree, truth, list, items_of}
use Rattle.jl_value.specs.Form.{tree_of, trees_of}
use Rattle.jl_operands.specs.Lists.{wholes}
use Rattle.jl_operands.specs.declared.operand.Operand.{Operand}
use Rattle.jl_operands.specs.declared.operand.Operand.TheVariants.{Plain, Wholes}
use Rattle.jl_operands.specs.declared.gathered.Gathered.{Gathered}
use Rattle.jl_operands.specs.declared.gathered.Gathered.TheVariants.{Wholes as Whole_members, Values}

-- the list of some whole numbers
abbrev pub list_of_wholes : List ℤ → Tree
list_of_wholes zs = list (items_of (wholes zs))

-- the tree that an operand stands for
abbrev pub tree_of_operand : Operand → Tree
tree_of_operand (Plain v) = tree_of v
tree_of_operand (Wholes zs) = list_of_wholes zs.items

-- the members that were gathered
abbrev pub trees_gathered : Gathered → List Tree
trees_gathered (Whole_members zs) = wholes zs.items
trees_gathered (Values vs) = trees_of vs.items

-- the truth that a value is, if it is one
abbrev pub truth_in : Tree → Option Bool
truth_in (truth b) = Some b
truth_in _ = None

-- a truth, or that there is none
abbrev pub IsTruth : Option Bool → Tree → Type 0
IsTruth (Some b) t = t ≡ truth b
IsTruth None t = truth_in t ≡ None
