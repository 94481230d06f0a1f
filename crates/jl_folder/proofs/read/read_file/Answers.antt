use Rattle.std.proofs.Common.{sym, ◌∙◌, subst}
use Rattle.jl_folder.specs.Views.{state, moved}
use Rattle.jl_folder.specs.Calls.{NoMove}
use Rattle.jl_folder.specs.Reading.{ReadsFile}
use Rattle.jl_folder.proofs.ReadingLemmas.{waits_trans, call_waits, reads_file}
use Rattle.jl_folder.proofs.read.read_file.Goals as goal

pub returns-in-Opened-clause-waits : goal.returns-in-Opened-clause-waits
returns-in-Opened-clause-waits g c = λ t.
    let view = g.F.Folder.view in
    let a = view c.args.folder.now in
    let b₁ = view c.open_file.new.self in
    let b₂ = view c.read_open-answer.new.folder in
    let b₃ = view c.close.new.self in
    let told₁ = c.open_file.ensures.frame.told t in
    let told₂ = c.read_open-answer.ensures.frame.told told₁ in
    let call = c.in-Opened.ensures.call t in
    let close = c.close.ensures.call told₂ in
    let opened = call_waits a b₁ _ call call.answer.move_is in
    let read = waits_trans a b₁ b₂ c.open_file.ensures.frame.token opened (c.read_open-answer.ensures.waits told₁) in
    waits_trans a b₂ b₃ (c.read_open-answer.ensures.frame.token ∙ c.open_file.ensures.frame.token) read (call_waits b₂ b₃ NoMove close close.answer)

pub returns-in-Opened-clause-reads : goal.returns-in-Opened-clause-reads
returns-in-Opened-clause-reads g c = λ t.
    let view = g.F.Folder.view in
    let a = view c.args.folder.now in
    let b₁ = view c.open_file.new.self in
    let b₂ = view c.read_open-answer.new.folder in
    let b₃ = view c.close.new.self in
    let told₁ = c.open_file.ensures.frame.told t in
    let close = c.close.ensures.call (c.read_open-answer.ensures.frame.told told₁) in
    subst (λ r. ReadsFile c.args.path.now c.args.most r (state a) (moved a b₃)) (sym c.as_file.ensures)
    (reads_file a b₁ b₂ b₃ c.args.path.now c.args.most c.in-Opened.number.0 c.read_open-answer.result (c.in-Opened.ensures.call t)
    (c.read_open-answer.ensures.waits told₁) (call_waits b₂ b₃ NoMove close close.answer) (c.read_open-answer.ensures.reads told₁))
