use Rattle.std.proofs.Common.{[], ◌∷◌, Some, None, true≢false, sym, ◌∙◌}
use Rattle.std.proofs.lemmas.Slice.Eq.{strip_prefix_is}
use Rattle.std.proofs.lemmas.Bool.Decides.{Decides-eqb}
use Rattle.jl_entry.specs.Names.{suffix}
use Rattle.jl_entry.proofs.PartLemmas.{suffix_is, token_of}
use Rattle.jl_entry.proofs.parts.is_suffix.Goals as goal

pub returns-in-Some : goal.returns-in-Some
returns-in-Some c =
    let behind = strip_prefix_is Decides-eqb c.args.rest.now (46 ∷ 116 ∷ 109 ∷ 112 ∷ 45 ∷ []) (Some c.in-Some.token) c.in-Some.ensures.cases in (
      λ is. suffix_is c.args.rest.now c.in-Some.token.now behind (sym c.is_token.ensures ∙ is),
      λ of. c.is_token.ensures ∙ token_of c.args.rest.now c.in-Some.token.now behind of,
    )

pub returns-in-None : goal.returns-in-None
unfolding suffix
returns-in-None c = (
  λ is. absurd (true≢false (sym is)),
  λ of. absurd (strip_prefix_is Decides-eqb c.args.rest.now (46 ∷ 116 ∷ 109 ∷ 112 ∷ 45 ∷ []) None c.in-None.ensures.cases of.0 of.2),
)
