use Rattle.std.proofs.Common.{◌≡◌, ◌≤◌, ◌+◌, ◌++◌, [], ◌∷◌, take, length, sym, ◌∙◌, ap, arith, take-suc, add-one}
use Rattle.std.specs.List.{enumerate_from}
use Rattle.std.proofs.lemmas.List.{length-take-le}
use Rattle.jl_memory.proofs.DiskLemmas.{enumerate-push}
use Rattle.jl_memory.proofs.disk.nodes_of.Goals as goal

pub loop-node-preserved : goal.loop-node-preserved
loop-node-preserved c =
    let xs = c.args.start.now in
    let i = c.loop-node.node-index in
    let le : i ≤ length xs = omega arith in
    let count : c.loop-node.number ≡ 0 + length (take i xs) = omega (arith, c.loop-node.invariant.count, length-take-le i xs le) in
    record {
      count = omega (arith, c.loop-node.invariant.count);
      copied = c.in_ok-push.ensures.items ∙ (λ j. c.loop-node.invariant.copied j ++ (count j, c.in_ok-copy.ensures j) ∷ []) ∙ sym (enumerate-push 0 (take i xs) c.node-item.result)
          ∙ ap (λ x. enumerate_from 0 (take i xs ++ x ∷ [])) c.node-item.is ∙ ap (enumerate_from 0) (sym (ap (λ n. take n xs) (add-one i) ∙ take-suc xs i c.node-item.result c.loop-node-test.true));
    }
