use Rattle.std.proofs.Common.{sym, subst}
use Rattle.jl_tracker.specs.declared.line.Kind.TheVariants as kind
use Rattle.jl_tracker.specs.Entries.{Registers}
use Rattle.jl_tracker.specs.Counting.{Applies}
use Rattle.jl_tracker.specs.TrackerLines.{registers}
use Rattle.jl_tracker.proofs.TableLemmas.{register_applies}
use Rattle.jl_tracker.proofs.counts.Counts.register.Goals as goal

pub returns-in-File : goal.returns-in-File
returns-in-File c =
    let is = c.self.view_is in
    let name = c.args.name.now in
    subst (λ k. Applies (registers k name) c.args.self.now (record { files = c.register.new.self; semlocks = c.self.inside.semlocks; folders = c.self.inside.folders }) c.register.result) (sym c.in-File.is)
    (register_applies kind.File name c.args.self.now (record { files = c.register.new.self; semlocks = c.self.inside.semlocks; folders = c.self.inside.folders }) c.register.new.self c.register.result (subst (λ v. Registers name v.files c.register.new.self c.register.result) is c.register.ensures)
    (λ i. record { files = c.register.new.self; semlocks = (is i).semlocks; folders = (is i).folders }))

pub returns-in-Folder : goal.returns-in-Folder
returns-in-Folder c =
    let is = c.self.view_is in
    let name = c.args.name.now in
    subst (λ k. Applies (registers k name) c.args.self.now (record { files = c.self.inside.files; semlocks = c.self.inside.semlocks; folders = c.register-in-Folder.new.self }) c.register-in-Folder.result) (sym c.in-Folder.is)
    (register_applies kind.Folder name c.args.self.now (record { files = c.self.inside.files; semlocks = c.self.inside.semlocks; folders = c.register-in-Folder.new.self }) c.register-in-Folder.new.self c.register-in-Folder.result (subst (λ v. Registers name v.folders c.register-in-Folder.new.self c.register-in-Folder.result) is c.register-in-Folder.ensures)
    (λ i. record { files = (is i).files; semlocks = (is i).semlocks; folders = c.register-in-Folder.new.self }))

pub returns-in-Semlock : goal.returns-in-Semlock
returns-in-Semlock c =
    let is = c.self.view_is in
    let name = c.args.name.now in
    subst (λ k. Applies (registers k name) c.args.self.now (record { files = c.self.inside.files; semlocks = c.register-in-Semlock.new.self; folders = c.self.inside.folders }) c.register-in-Semlock.result) (sym c.in-Semlock.is)
    (register_applies kind.Semlock name c.args.self.now (record { files = c.self.inside.files; semlocks = c.register-in-Semlock.new.self; folders = c.self.inside.folders }) c.register-in-Semlock.new.self c.register-in-Semlock.result (subst (λ v. Registers name v.semlocks c.register-in-Semlock.new.self c.register-in-Semlock.result) is c.register-in-Semlock.ensures)
    (λ i. record { files = (is i).files; semlocks = c.register-in-Semlock.new.self; folders = (is i).folders }))
