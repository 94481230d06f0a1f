use Rattle.std.proofs.Common.{◌∙◌, ap, sym, subst}
use Rattle.jl_tracker.specs.declared.line.Kind.TheVariants as kind
use Rattle.jl_tracker.specs.Entries.{count_of, without, drop_answer}
use Rattle.jl_tracker.specs.Counting.{Applies}
use Rattle.jl_tracker.specs.TrackerLines.{unregisters}
use Rattle.jl_tracker.proofs.TableLemmas.{unregister_applies}
use Rattle.jl_tracker.proofs.counts.Counts.unregister.Goals as goal

pub returns-in-File : goal.returns-in-File
returns-in-File c =
    let is = c.self.view_is in
    let name = c.args.name.now in
    subst (λ k. Applies (unregisters k name) c.args.self.now (record { files = c.unregister.new.self; semlocks = c.self.inside.semlocks; folders = c.self.inside.folders }) c.unregister.result) (sym c.in-File.is)
    (unregister_applies kind.File name c.args.self.now (record { files = c.unregister.new.self; semlocks = c.self.inside.semlocks; folders = c.self.inside.folders }) c.unregister.result (c.unregister.ensures.answer ∙ ap (λ v. drop_answer (count_of name v.files)) is)
    (λ i. record { files = (c.unregister.ensures.after ∙ ap (λ v. without name v.files) is) i; semlocks = (is i).semlocks; folders = (is i).folders }))

pub returns-in-Folder : goal.returns-in-Folder
returns-in-Folder c =
    let is = c.self.view_is in
    let name = c.args.name.now in
    subst (λ k. Applies (unregisters k name) c.args.self.now (record { files = c.self.inside.files; semlocks = c.self.inside.semlocks; folders = c.unregister-in-Folder.new.self }) c.unregister-in-Folder.result) (sym c.in-Folder.is)
    (unregister_applies kind.Folder name c.args.self.now (record { files = c.self.inside.files; semlocks = c.self.inside.semlocks; folders = c.unregister-in-Folder.new.self }) c.unregister-in-Folder.result (c.unregister-in-Folder.ensures.answer ∙ ap (λ v. drop_answer (count_of name v.folders)) is)
    (λ i. record { files = (is i).files; semlocks = (is i).semlocks; folders = (c.unregister-in-Folder.ensures.after ∙ ap (λ v. without name v.folders) is) i }))

pub returns-in-Semlock : goal.returns-in-Semlock
returns-in-Semlock c =
    let is = c.self.view_is in
    let name = c.args.name.now in
    subst (λ k. Applies (unregisters k name) c.args.self.now (record { files = c.self.inside.files; semlocks = c.unregister-in-Semlock.new.self; folders = c.self.inside.folders }) c.unregister-in-Semlock.result) (sym c.in-Semlock.is)
    (unregister_applies kind.Semlock name c.args.self.now (record { files = c.self.inside.files; semlocks = c.unregister-in-Semlock.new.self; folders = c.self.inside.folders }) c.unregister-in-Semlock.result (c.unregister-in-Semlock.ensures.answer ∙ ap (λ v. drop_answer (count_of name v.semlocks)) is)
    (λ i. record { files = (is i).files; semlocks = (c.unregister-in-Semlock.ensures.after ∙ ap (λ v. without name v.semlocks) is) i; folders = (is i).folders }))
