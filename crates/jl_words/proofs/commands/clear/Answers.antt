use Rattle.std.proofs.Common.{rules, ◌≡◌, map, sym, ap, ◌∙◌}
use Rattle.std.proofs.lemmas.Result.{IfOk-weaker}
use Rattle.jl_words.specs.Parts.{said_in}
use Rattle.jl_words.specs.Commands.{clear_settings, clear_with}
use Rattle.jl_words.proofs.Settled.{clear_is}
use Rattle.jl_words.proofs.commands.clear.Goals as goal

pub returns-clause-given : goal.returns-clause-given
returns-clause-given c =
    let read : clear_settings (said_in c.args.parts.now) ≡ clear_with c.in_ok-location.location (said_in c.args.parts.now).plain = clear_is (said_in c.args.parts.now) c.in_ok-location.location (search rules) in
    let same : clear_settings (said_in c.args.parts.now) ≡ clear_with c.in_ok-location.location (map (λ w. w.now) c.as_slice.result.now) = read ∙ ap (λ ws. clear_with c.in_ok-location.location (map (λ w. w.now) ws)) (sym c.as_slice.ensures.value) in
    IfOk-weaker c.clear_with.result _ _ (λ s e. same ∙ e) c.clear_with.ensures.given

pub returns-clause-usage : goal.returns-clause-usage
returns-clause-usage c =
    let read : clear_settings (said_in c.args.parts.now) ≡ clear_with c.in_ok-location.location (said_in c.args.parts.now).plain = clear_is (said_in c.args.parts.now) c.in_ok-location.location (search rules) in
    let same : clear_settings (said_in c.args.parts.now) ≡ clear_with c.in_ok-location.location (map (λ w. w.now) c.as_slice.result.now) = read ∙ ap (λ ws. clear_with c.in_ok-location.location (map (λ w. w.now) ws)) (sym c.as_slice.ensures.value) in
    λ e. same ∙ c.clear_with.ensures.usage e
