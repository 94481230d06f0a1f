-- The members of a list that stands, in either form.
use Rattle.std.specs.Prelude.{List}
use Rattle.jl_value.specs.Tree.{Tree}
use Rattle.jl_value.specs.Form.{trees_of}
use Rattle.jl_operands.specs.Lists.{wholes}
use Rattle.jl_builtins.specs.declared.joined.Listed.{Listed}
use Rattle.jl_builtins.specs.declared.joined.Listed.TheVariants.{Wholes, Values}

-- the members of a list, in either form
abbrev pub trees_listed : Listed → List Tree
trees_listed (Wholes zs) = wholes zs.now
trees_listed (Values vs) = trees_of vs.now
