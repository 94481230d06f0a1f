use Rattle.std.proofs.Common.{sym, ◌∙◌, ap, true≢false}
use Rattle.jl_folder.specs.State.{is_file, is_folder}
use Rattle.jl_memory.specs.Disk.{disk_state}
use Rattle.jl_folder.proofs.PathLemmas.{path_eq-Decides}
use Rattle.jl_memory.proofs.disk.Disk.allows_rename.Goals as goal

pub returns-clause-yes : goal.returns-clause-yes
returns-clause-yes c = λ _ sound.
    let s = disk_state c.args.self.now in (
      (λ is. true≢false (sym ((path_eq-Decides c.args.from.now c.args.to.now).1 is) ∙ sym c.eq.ensures ∙ c.if-eq.false)),
      ap (is_file s) (sym c.parts.ensures.same) ∙ sym (c.is_file.ensures sound) ∙ c.if-not-is_file.false,
      sym (c.has_parent.ensures sound) ∙ c.if-not-has_parent.false,
      ap (is_folder s) (sym c.parts-2.ensures.same) ∙ sym (c.is_folder.ensures sound) ∙ c.if-is_folder.false,
    )

pub returns-then-eq-clause-no : goal.returns-then-eq-clause-no
returns-then-eq-clause-no c = λ _ sound allowed. allowed.0 ((path_eq-Decides c.args.from.now c.args.to.now).0 (sym c.eq.ensures ∙ c.if-eq.true))
