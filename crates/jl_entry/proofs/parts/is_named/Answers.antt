use Rattle.std.proofs.Common.{Some, None, true≢false, sym}
use Rattle.std.proofs.lemmas.Slice.Eq.{strip_prefix_is}
use Rattle.std.proofs.lemmas.Bool.Decides.{Decides-eqb}
use Rattle.jl_entry.proofs.PartLemmas.{named_rest, rest_named, named_front}
use Rattle.jl_entry.proofs.parts.is_named.Goals as goal

pub returns-in-Some : goal.returns-in-Some
returns-in-Some c =
    let behind = strip_prefix_is Decides-eqb c.args.bytes.now c.args.name.now (Some c.in-Some.rest) c.in-Some.ensures.cases in
    (λ is. rest_named c.args.name.now c.args.bytes.now c.in-Some.rest.now behind (c.is_rest.ensures.0 is), λ of. c.is_rest.ensures.1 (named_rest c.args.name.now c.args.bytes.now c.in-Some.rest.now behind of))

pub returns-in-None : goal.returns-in-None
returns-in-None c =
    let apart = strip_prefix_is Decides-eqb c.args.bytes.now c.args.name.now None c.in-None.ensures.cases in
    (λ is. absurd (true≢false (sym is)), λ of. let front = named_front c.args.name.now c.args.bytes.now of in absurd (apart front.0 front.1))
