-- When two nodes are one.
use Rattle.std.specs.Prelude.{Bool, ◌&&◌}
use Rattle.std.proofs.Math.Bool.{beq}
use Rattle.std.specs.Str.{bytes_eq}
use Rattle.jl_folder.specs.declared.moves.Node.{Node}

-- whether two nodes have the same bytes, maker and freedom to be written
abbrev pub node_eq : Node → Node → Bool
node_eq a b = bytes_eq a.bytes b.bytes && (bytes_eq a.maker b.maker && beq a.frozen b.frozen)
