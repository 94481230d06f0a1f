use Rattle.std.proofs.Common.{◌∙◌, ap, sym, subst}
use Rattle.jl_tracker.specs.declared.line.Kind.TheVariants as kind
use Rattle.jl_tracker.specs.Entries.{count_of, released, release_answer}
use Rattle.jl_tracker.specs.Counting.{Applies}
use Rattle.jl_tracker.specs.TrackerLines.{may_unlink}
use Rattle.jl_tracker.proofs.TableLemmas.{may_unlink_applies}
use Rattle.jl_tracker.proofs.counts.Counts.may_unlink.Goals as goal

pub returns-in-File : goal.returns-in-File
returns-in-File c =
    let is = c.self.view_is in
    let name = c.args.name.now in
    subst (λ k. Applies (may_unlink k name) c.args.self.now (record { files = c.may_unlink.new.self; semlocks = c.self.inside.semlocks; folders = c.self.inside.folders }) c.may_unlink.result) (sym c.in-File.is)
    (may_unlink_applies kind.File name c.args.self.now (record { files = c.may_unlink.new.self; semlocks = c.self.inside.semlocks; folders = c.self.inside.folders }) c.may_unlink.result (c.may_unlink.ensures.answer ∙ ap (λ v. release_answer (count_of name v.files)) is)
    (λ i. record { files = (c.may_unlink.ensures.after ∙ ap (λ v. released name v.files) is) i; semlocks = (is i).semlocks; folders = (is i).folders }))

pub returns-in-Folder : goal.returns-in-Folder
returns-in-Folder c =
    let is = c.self.view_is in
    let name = c.args.name.now in
    subst (λ k. Applies (may_unlink k name) c.args.self.now (record { files = c.self.inside.files; semlocks = c.self.inside.semlocks; folders = c.may_unlink-in-Folder.new.self }) c.may_unlink-in-Folder.result) (sym c.in-Folder.is)
    (may_unlink_applies kind.Folder name c.args.self.now (record { files = c.self.inside.files; semlocks = c.self.inside.semlocks; folders = c.may_unlink-in-Folder.new.self }) c.may_unlink-in-Folder.result (c.may_unlink-in-Folder.ensures.answer ∙ ap (λ v. release_answer (count_of name v.folders)) is)
    (λ i. record { files = (is i).files; semlocks = (is i).semlocks; folders = (c.may_unlink-in-Folder.ensures.after ∙ ap (λ v. released name v.folders) is) i }))

pub returns-in-Semlock : goal.returns-in-Semlock
returns-in-Semlock c =
    let is = c.self.view_is in
    let name = c.args.name.now in
    subst (λ k. Applies (may_unlink k name) c.args.self.now (record { files = c.self.inside.files; semlocks = c.may_unlink-in-Semlock.new.self; folders = c.self.inside.folders }) c.may_unlink-in-Semlock.result) (sym c.in-Semlock.is)
    (may_unlink_applies kind.Semlock name c.args.self.now (record { files = c.self.inside.files; semlocks = c.may_unlink-in-Semlock.new.self; folders = c.self.inside.folders }) c.may_unlink-in-Semlock.result (c.may_unlink-in-Semlock.ensures.answer ∙ ap (λ v. release_answer (count_of name v.semlocks)) is)
    (λ i. record { files = (is i).files; semlocks = (c.may_unlink-in-Semlock.ensures.after ∙ ap (λ v. released name v.semlocks) is) i; folders = (is i).folders }))
