use Rattle.jl_folder.proofs.ReadingLemmas.{waits_trans}
use Rattle.jl_array.specs.Dumps.{HasPart, SaysCount}
use Rattle.jl_array.proofs.NodeFacts.{has_as}
use Rattle.jl_array.proofs.JudgeLemmas.{says_read}
use Rattle.jl_array.proofs.opening.judge.Goals as goal

-- readings make no move
pub returns-in-Some-clause-waits : goal.returns-in-Some-clause-waits
returns-in-Some-clause-waits g c =
    λ t. waits_trans _ _ _ c.fill.ensures.frame.token (c.fill.ensures.waits t)
    (c.judge_end.ensures.waits (c.fill.ensures.frame.told t))

-- a head that was read whole says its count
pub returns-in-Some-clause-judges : goal.returns-in-Some-clause-judges
returns-in-Some-clause-judges g c = λ t.
    let mid = g.F.Folder.view c.fill.new.folder in
    let head = c.fill.new.buf in
    c.judge_end.ensures.judges (c.fill.ensures.frame.told t)
    (has_as mid c.args.number.0 (HasPart 0 head) (SaysCount c.in-Some.count)
    (λ bytes has. says_read c.in-Some.count head bytes c.in-Some.ensures.fits c.in-Some.ensures.some
    has) (c.in-Whole.ensures.fills t))
