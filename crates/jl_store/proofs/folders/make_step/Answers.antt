use Rattle.std.proofs.Common.{◌∙◌, sym}
use Rattle.jl_rely.proofs.Moving.{moves_none}
use Rattle.jl_store.specs.Doing.{IsMaking}
use Rattle.jl_store.proofs.FolderCauses.{fixed_there}
use Rattle.jl_store.proofs.folders.make_step.Goals as goal

pub returns-then-is_fixed-clause-moves : goal.returns-then-is_fixed-clause-moves
returns-then-is_fixed-clause-moves g c = λ t. moves_none (IsMaking c.args.path.now) (g.F.Folder.view c.args.folder.now)

pub returns-then-is_fixed-clause-step : goal.returns-then-is_fixed-clause-step
returns-then-is_fixed-clause-step g c = λ t root tidy all store. fixed_there root c.args.path.now _ (sym c.is_fixed.ensures ∙ c.if-is_fixed.true) tidy

pub returns-clause-step : goal.returns-clause-step
returns-clause-step g c = λ t root tidy all store. c.make_one.ensures.step t root (store (sym c.is_fixed.ensures ∙ c.if-is_fixed.false)) tidy all
