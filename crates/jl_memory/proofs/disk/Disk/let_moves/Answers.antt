use Rattle.std.proofs.Common.{refl, ◌∙◌}
use Rattle.jl_memory.proofs.LetLemmas.{let_none, let_on}
use Rattle.jl_memory.proofs.disk.Disk.let_moves.Goals as goal

pub loop-token-init : goal.loop-token-init
loop-token-init c = record { sound = λ s. s; moved = λ s. let_none _; start = refl }

pub loop-token-preserved : goal.loop-token-preserved
loop-token-preserved c = record {
  sound = λ s. c.let_move.ensures.sound (c.loop-token.invariant.sound s);
  moved = λ s. let_on _ _ _ _ _ c.loop-token.invariant.start (c.loop-token.invariant.moved s) (c.let_move.ensures.moved (c.loop-token.invariant.sound s));
  start = c.let_move.ensures.start ∙ c.loop-token.invariant.start;
}
