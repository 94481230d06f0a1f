use Rattle.std.proofs.Common.{◌≡◌, [], map, string_bytes, ap, ◌∙◌}
use Rattle.clap.specs.Words.{App, app_of, matches_of, fault_of, is_simple, is_simple_and_free}
use Rattle.jl_words.specs.Parsing.{app_with}
use Rattle.jl_words.proofs.ParsedRules.{simple, simple_and_free}
use Rattle.jl_words.proofs.Gathered.{finds, no_fault, only_memory}
use Rattle.jl_words.proofs.parser.matches.Goals as goal

pub returns-in-Ok-try_get_matches_from-clause-found : goal.returns-in-Ok-try_get_matches_from-clause-found
returns-in-Ok-try_get_matches_from-clause-found c = λ s e.
    let names = map (λ n. n.now) c.args.names.now in
    let words = map string_bytes c.args.words.now in
    let m = c.in-Ok-try_get_matches_from.matches in
    let app : app_of c.in-Ok.command ≡ app_with names = c.in-Ok.ensures in
    let rows = (c.in-Ok-try_get_matches_from.ensures.matches (ap is_simple app ∙ simple names)).0 in
    finds names words s m c.requires.free e (rows ∙ ap (λ (a : App). matches_of a words) app)

pub returns-in-Err-try_get_matches_from-clause-fault : goal.returns-in-Err-try_get_matches_from-clause-fault
returns-in-Err-try_get_matches_from-clause-fault c = λ s e.
    let names = map (λ n. n.now) c.args.names.now in
    let words = map string_bytes c.args.words.now in
    let app : app_of c.in-Ok.command ≡ app_with names = c.in-Ok.ensures in
    let none : fault_of (app_of c.in-Ok.command) words ≡ [] = ap (λ (a : App). fault_of a words) app ∙ no_fault names words s c.requires.free e in
    c.fault.ensures (only_memory c.in-Err-try_get_matches_from.error (fault_of (app_of c.in-Ok.command) words) none (c.in-Err-try_get_matches_from.ensures.kinds (ap is_simple_and_free app ∙ simple_and_free names)))
