use Rattle.std.proofs.Common.{◌<◌, map, length, sym, arith}
use Rattle.std.proofs.Math.ListN.{get_or-map}
use Rattle.std.proofs.lemmas.List.{length-map}
use Rattle.clap.specs.Words.{first_value, found_of}
use Rattle.jl_words.specs.Parts.{uses_of}
use Rattle.jl_words.proofs.Gathered.{more_found}
use Rattle.jl_words.proofs.parser.given.Goals as goal

pub loop-name-preserved : goal.loop-name-preserved
loop-name-preserved c =
    let names = map (λ n. n.now) c.args.names.now in
    let within : c.loop-name.name-index < length names = omega (arith, length-map c.args.names.now (λ n. n.now)) in
    more_found (first_value (found_of c.args.matches.now)) names c.loop-name.name-index (uses_of c.loop-name.given.items) (uses_of c.give_found.new.given.items) _ within (sym (get_or-map (λ n. n.now) c.args.names.now c.loop-name.name-index _)) c.in_ok-give_found.ensures c.loop-name.invariant
