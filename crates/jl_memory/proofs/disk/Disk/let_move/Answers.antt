use Rattle.std.proofs.Common.{◌∙◌, ap}
use Rattle.jl_text.specs.Counts.{counted}
use Rattle.jl_memory.proofs.LetLemmas.{let_out, let_made, let_lost}
use Rattle.jl_memory.proofs.disk.Disk.let_move.Goals as goal

pub returns-then-not-allows-clause-moved : goal.returns-then-not-allows-clause-moved
returns-then-not-allows-clause-moved c = λ sound. let_out _ _ (c.allows.ensures.no c.if-not-allows.true sound)

pub returns-in-Ok-clause-moved : goal.returns-in-Ok-clause-moved
returns-in-Ok-clause-moved c = λ sound. let_made _ _ _ (c.allows.ensures.yes c.if-not-allows.false sound) c.in-Ok.ensures.made c.make.ensures.unmade

pub returns-in-Err-clause-moved : goal.returns-in-Err-clause-moved
returns-in-Err-clause-moved c = λ sound. let_lost _ _ _ (c.allows.ensures.yes c.if-not-allows.false sound) c.in-Err.ensures.kept (c.saturating_add-self.ensures ∙ ap counted c.make.ensures.unmade)
