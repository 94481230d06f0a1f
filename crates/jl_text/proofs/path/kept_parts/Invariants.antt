use Rattle.std.proofs.Common.{◌≡◌, ◌++◌, [], ◌∷◌, map, drop, filter, cond}
use Rattle.jl_text.specs.Paths.{is_kept}
use Rattle.jl_text.proofs.path.kept_parts.Given as goal

abbrev pub invariant-loop-part : goal.invariant-loop-part
invariant-loop-part l = l.kept.items ++ filter is_kept (map (λ x. x.now) (drop l.part-index l.parts)) ≡ cond l.top ([] ∷ []) [] ++ filter is_kept (map (λ x. x.now) l.parts)
