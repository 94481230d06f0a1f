use Rattle.std.proofs.Common.{rules, ◌≡◌, map, sym, ap, ◌∙◌}
use Rattle.std.proofs.lemmas.Result.{IfOk-weaker}
use Rattle.jl_words.specs.Parts.{said_in}
use Rattle.jl_words.specs.Commands.{call_of, call_with}
use Rattle.jl_words.proofs.Settled.{call_is}
use Rattle.jl_words.proofs.commands.call.Goals as goal

pub returns-clause-given : goal.returns-clause-given
returns-clause-given c =
    let read : call_of (said_in c.args.parts.now) ≡ call_with c.in_ok-module.«module» c.in_ok-location.location (said_in c.args.parts.now).plain = call_is (said_in c.args.parts.now) c.in_ok-module.«module» c.in_ok-location.location (search rules) (search rules) in
    let same : call_of (said_in c.args.parts.now) ≡ call_with c.in_ok-module.«module» c.in_ok-location.location (map (λ w. w.now) c.as_slice.result.now) = read ∙ ap (λ ws. call_with c.in_ok-module.«module» c.in_ok-location.location (map (λ w. w.now) ws)) (sym c.as_slice.ensures.value) in
    IfOk-weaker c.call_with.result _ _ (λ s e. same ∙ e) c.call_with.ensures.given

pub returns-clause-usage : goal.returns-clause-usage
returns-clause-usage c =
    let read : call_of (said_in c.args.parts.now) ≡ call_with c.in_ok-module.«module» c.in_ok-location.location (said_in c.args.parts.now).plain = call_is (said_in c.args.parts.now) c.in_ok-module.«module» c.in_ok-location.location (search rules) (search rules) in
    let same : call_of (said_in c.args.parts.now) ≡ call_with c.in_ok-module.«module» c.in_ok-location.location (map (λ w. w.now) c.as_slice.result.now) = read ∙ ap (λ ws. call_with c.in_ok-module.«module» c.in_ok-location.location (map (λ w. w.now) ws)) (sym c.as_slice.ensures.value) in
    λ e. same ∙ c.call_with.ensures.usage e
