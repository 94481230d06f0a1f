use Rattle.std.proofs.Common.{length}
use Rattle.std.specs.Prelude.{pos}
use Rattle.jl_batch.proofs.TextLemmas.{Follows}
use Rattle.jl_batch.proofs.ReadLemmas.{Leaves}
use Rattle.jl_batch.proofs.pre_dispatch.run_text.Given as goal

abbrev pub invariant-lexemes : goal.invariant-lexemes
invariant-lexemes l = Follows (pos l.jobs) l.fn.text l.left l.reader × Leaves l.fn.text l.left l.jobs l.reader

abbrev pub decreases-lexemes : goal.decreases-lexemes
decreases-lexemes l = length l.left
