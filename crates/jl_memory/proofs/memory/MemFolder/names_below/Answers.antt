use Rattle.std.proofs.Common.{All, sym, ◌∙◌, ap, subst}
use Rattle.std.specs.Prelude.{IsTrue}
use Rattle.jl_text.specs.Paths.{is_part}
use Rattle.jl_folder.specs.State.{is_folder}
use Rattle.jl_memory.specs.Memory.{mem_state}
use Rattle.jl_memory.specs.Children.{StandsIn, NamesHere}
use Rattle.jl_memory.proofs.ChildLemmas.{stands_at, stands_in}
use Rattle.jl_memory.proofs.memory.MemFolder.names_below.Goals as goal

pub returns-then-not-is_folder-clause-here : goal.returns-then-not-is_folder-clause-here
returns-then-not-is_folder-clause-here c =
    let m = c.args.self.now in
    λ t. ap (is_folder (mem_state m)) (sym c.parts.ensures.same) ∙ sym (c.is_folder.ensures t.disk) ∙ c.if-not-is_folder.true

pub returns-in-Ok-clause-here : goal.returns-in-Ok-clause-here
returns-in-Ok-clause-here c =
    let m = c.args.self.now in
    let p = c.args.path.now in
    let same = c.as_slice.ensures.value in
    λ t. subst (λ ns. NamesHere p ns (mem_state m)) (sym c.new.ensures) (record {
      folder = ap (is_folder (mem_state m)) (sym c.parts.ensures.same) ∙ sym (c.is_folder.ensures t.disk) ∙ c.if-not-is_folder.false;
      each = λ name held. stands_at (mem_state m) _ _ t.disk.agrees p name (subst (λ es. StandsIn es p name) same (c.in-Ok.ensures.each name held));
      every = λ name stands. c.in-Ok.ensures.every name (subst (λ es. StandsIn es p name) (sym same) (stands_in (mem_state m) _ _ t.disk.agrees p name stands));
      once = c.in-Ok.ensures.once;
    })

pub returns-in-Ok-clause-parts : goal.returns-in-Ok-clause-parts
returns-in-Ok-clause-parts c =
    subst (All (λ n. IsTrue (is_part n.part))) (sym c.new.ensures) c.in-Ok.ensures.parts
