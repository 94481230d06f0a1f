use Rattle.std.proofs.Common.{◌≡◌, ◌+◌, ◌∙◌, ◌++◌, ◌∷◌, [], take, sym, ap, append_assoc, add-one}
use Rattle.std.proofs.Math.Seq.{take-suc}
use Rattle.std.proofs.lemmas.List.{take_all}
use Rattle.jl_text.specs.Paths.{PathView}
use Rattle.jl_entry.specs.Names.{below}
use Rattle.jl_evict.proofs.reducing.join_all.Goals as goal

pub loop-part-preserved : goal.loop-part-preserved
loop-part-preserved c =
    let parts = c.args.parts.now in
    let i = c.loop-part.part-index in
    let part = c.part-item.result in
    let grown : take (i + 1) parts ≡ take i parts ++ part ∷ [] = ap (λ n. take n parts) (add-one i) ∙ take-suc parts i part c.loop-part-test.true ∙ ap (λ x. take i parts ++ x ∷ []) (sym c.part-item.is) in
    c.in_ok-path-2.ensures ∙ (λ j. c.loop-part.invariant j ++ c.as_str.ensures j ∷ []) ∙ append_assoc c.args.root.now (take i parts) (part ∷ []) ∙ ap (λ (q : PathView). below c.args.root.now q) (sym grown)

pub returns : goal.returns
returns c = c.loop-part.invariant ∙ ap (λ (q : PathView). below c.args.root.now q) (take_all c.loop-part.part-index c.args.parts.now c.loop-part-test.false)
