use Rattle.std.proofs.Common.{◌<◌, ◌≤◌, map, length, sym, ap, ◌∙◌, arith}
use Rattle.std.proofs.Math.ListN.{get_or-map}
use Rattle.std.proofs.lemmas.List.{length-map, drop_all}
use Rattle.clap.specs.Words.{App, app_of}
use Rattle.jl_words.specs.Parsing.{option_rule, app_with, with_rules}
use Rattle.jl_words.proofs.ParsedRules.{option_more, with_rules_all, with_rules_none}
use Rattle.jl_words.proofs.parser.command.Goals as goal

pub loop-name-init : goal.loop-name-init
loop-name-init c =
    let names = map (λ n. n.now) c.args.names.now in
    ap (λ (a : App). with_rules a (map option_rule names)) c.in_ok-command.ensures ∙ with_rules_all names

pub loop-name-preserved : goal.loop-name-preserved
loop-name-preserved c =
    let names = map (λ n. n.now) c.args.names.now in
    let within : c.loop-name.name-index < length names = omega (arith, length-map c.args.names.now (λ n. n.now)) in
    option_more (app_of c.loop-name.command) (app_of c.in_ok-command-2.command) names c.loop-name.name-index _ (app_with names) within (sym (get_or-map (λ n. n.now) c.args.names.now c.loop-name.name-index _)) c.in_ok-command-2.ensures c.loop-name.invariant

pub returns : goal.returns
returns c =
    let names = map (λ n. n.now) c.args.names.now in
    let all : length names ≤ c.loop-name.name-index = omega (arith, length-map c.args.names.now (λ n. n.now)) in
    sym (ap (λ l. with_rules (app_of c.loop-name.command) (map option_rule l)) (drop_all c.loop-name.name-index names all) ∙ with_rules_none (app_of c.loop-name.command)) ∙ c.loop-name.invariant
