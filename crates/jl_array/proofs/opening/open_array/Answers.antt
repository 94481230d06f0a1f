use Rattle.std.proofs.Common.{refl, sym, subst, ◌∙◌}
use Rattle.jl_folder.specs.Calls.{NoMove}
use Rattle.jl_folder.proofs.ReadingLemmas.{waits_trans, call_waits}
use Rattle.jl_array.specs.Answers.{OpensArray}
use Rattle.jl_array.proofs.JudgeLemmas.{opened_dump, refused_array}
use Rattle.jl_array.proofs.opening.open_array.Goals as goal

-- neither opening nor reading moves anything
pub returns-in-Ok-clause-waits : goal.returns-in-Ok-clause-waits
returns-in-Ok-clause-waits g c = λ t.
    let call = c.in-Opened.ensures.call t in
    waits_trans _ _ _ c.open_file.ensures.frame.token (call_waits _ _ _ call call.answer.move_is)
    (c.judge.ensures.waits (c.open_file.ensures.frame.told t))

-- nor does closing
pub returns-in-Err-clause-waits : goal.returns-in-Err-clause-waits
returns-in-Err-clause-waits g c = λ t.
    let a = g.F.Folder.view c.args.folder.now in
    let b₁ = g.F.Folder.view c.open_file.new.self in
    let b₂ = g.F.Folder.view c.judge.new.folder in
    let b₃ = g.F.Folder.view c.close.new.self in
    let told₁ = c.open_file.ensures.frame.told t in
    let call = c.in-Opened.ensures.call t in
    let close = c.close.ensures.call (c.judge.ensures.frame.told told₁) in
    waits_trans a b₂ b₃ (c.judge.ensures.frame.token ∙ c.open_file.ensures.frame.token)
    (waits_trans a b₁ b₂ c.open_file.ensures.frame.token
    (call_waits a b₁ _ call call.answer.move_is) (c.judge.ensures.waits told₁))
    (call_waits b₂ b₃ NoMove close close.answer)

-- an array is open on the node that was opened
pub returns-in-Ok-clause-array : goal.returns-in-Ok-clause-array
returns-in-Ok-clause-array g c = λ t.
    let told = c.open_file.ensures.frame.told t in
    opened_dump (g.F.Folder.view c.args.folder.now) (g.F.Folder.view c.open_file.new.self)
    (g.F.Folder.view c.judge.new.folder) c.args.path.now c.in-Opened.no.0
    (c.in-Opened.ensures.call t) (c.judge.ensures.waits told) c.judge.ensures.frame.opens
    (record { no = c.in-Opened.no; count = c.in-Ok.count }) refl (c.in-Ok.ensures.judges told)

-- what is none was closed
pub returns-in-Err-clause-array : goal.returns-in-Err-clause-array
returns-in-Err-clause-array g c = λ t.
    let a = g.F.Folder.view c.args.folder.now in
    let b₁ = g.F.Folder.view c.open_file.new.self in
    let b₂ = g.F.Folder.view c.judge.new.folder in
    let b₃ = g.F.Folder.view c.close.new.self in
    let told = c.open_file.ensures.frame.told t in
    let close = c.close.ensures.call (c.judge.ensures.frame.told told) in
    subst (λ r. OpensArray c.args.path.now r a b₃) (sym c.answer.ensures)
    (refused_array a b₁ b₂ b₃ c.args.path.now c.in-Opened.no.0 (c.in-Opened.ensures.call t)
    (c.judge.ensures.waits told) c.judge.ensures.frame.opens
    (call_waits b₂ b₃ NoMove close close.answer) c.in-Err.why (c.in-Err.ensures.judges told))
