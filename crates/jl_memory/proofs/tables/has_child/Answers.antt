use Rattle.std.proofs.Common.{◌≡◌, sym, ◌∙◌, ap, is_some, true≢false}
use Rattle.jl_text.specs.Paths.{is_fixed, parent}
use Rattle.jl_memory.specs.Tables.{found}
use Rattle.jl_folder.proofs.PathLemmas.{path_eq-Decides}
use Rattle.jl_memory.proofs.TableLemmas.{found-step, not_some}
use Rattle.jl_memory.proofs.tables.has_child.Goals as goal
use Rattle.jl_memory.proofs.tables.has_child.Goals.{then-not-is_fixed+then-eq+else-is_some, then-not-is_fixed+else-eq, else-not-is_fixed}

pub returns-then-is_some-clause-yes : goal.returns-then-is_some-clause-yes
returns-then-is_some-clause-yes c = λ _.
    let child : parent c.entry-item.result.0 ≡ c.args.parts.now = sym c.parent_parts.ensures ∙ (path_eq-Decides c.parent_parts.result.now c.args.parts.now).0 (sym c.eq.ensures ∙ c.if-eq.true) in
    (c.entry-item.result.0, sym c.is_fixed.ensures ∙ c.if-not-is_fixed.true, child, ap (λ p. is_some (found c.args.places.now p)) (sym c.parts.ensures.same) ∙ ap is_some (sym c.place_of.ensures) ∙ sym c.is_some.ensures ∙ c.if-is_some.true)

pub loop-entry-preserved : goal.loop-entry-preserved
loop-entry-preserved c = λ q free child.
    elim c.if-not-is_fixed.branch [
      | then-not-is_fixed+then-eq+else-is_some w ↦
          let none = not_some _ (sym w.is_some.ensures ∙ w.if-is_some.false) in
          found-step c.args.places.now c.loop-entry.entry-index c.entry-item.result q c.loop-entry-test.true c.entry-item.is
          (λ is. ap (found c.args.places.now) is ∙ ap (found c.args.places.now) (sym w.parts.ensures.same) ∙ sym w.place_of.ensures ∙ none) (c.loop-entry.invariant q free child)
      | then-not-is_fixed+else-eq w ↦
          found-step c.args.places.now c.loop-entry.entry-index c.entry-item.result q c.loop-entry-test.true c.entry-item.is
          (λ is. absurd (true≢false (sym ((path_eq-Decides w.parent_parts.result.now c.args.parts.now).1 (w.parent_parts.ensures ∙ ap parent (sym is) ∙ child)) ∙ sym w.eq.ensures ∙ w.if-eq.false))) (c.loop-entry.invariant q free child)
      | else-not-is_fixed w ↦
          found-step c.args.places.now c.loop-entry.entry-index c.entry-item.result q c.loop-entry-test.true c.entry-item.is
          (λ is. absurd (true≢false (sym w.if-not-is_fixed.false ∙ c.is_fixed.ensures ∙ ap is_fixed (sym is) ∙ free))) (c.loop-entry.invariant q free child)
    ]
