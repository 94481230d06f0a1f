use Rattle.std.proofs.Common.{◌≡◌, map, take}
use Rattle.jl_value.specs.Tiny.{as_text}
use Rattle.jl_value.proofs.testing.tiny.copy_pieces.Given as goal

abbrev pub invariant-loop-piece : goal.invariant-loop-piece
invariant-loop-piece l = l.texts.items ≡ map (λ x. as_text x.now) (take l.piece-index l.pieces)
