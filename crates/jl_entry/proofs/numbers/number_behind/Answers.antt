use Rattle.std.proofs.Common.{◌∷◌, ◌++◌, Some, None, sym, ap, ◌∙◌, decimal}
use Rattle.std.proofs.lemmas.Slice.Eq.{strip_prefix_is}
use Rattle.std.proofs.lemmas.Bool.Decides.{Decides-eqb}
use Rattle.std.proofs.lemmas.List.{append_cancel_left}
use Rattle.jl_entry.proofs.numbers.number_behind.Goals as goal

pub returns-in_default : goal.returns-in_default
returns-in_default c = λ n rest small e. strip_prefix_is Decides-eqb c.args.bytes.now c.args.words.now None c.in_default.ensures.cases (decimal n ++ c.args.stop ∷ rest) e

pub returns-in_default-number_before : goal.returns-in_default-number_before
returns-in_default-number_before c = λ n rest small e.
    let behind = strip_prefix_is Decides-eqb c.args.bytes.now c.args.words.now (Some c.in-Some.after) c.in-Some.ensures.cases in
    c.in_default-number_before.ensures n rest small (append_cancel_left c.args.words.now c.in-Some.after.now (decimal n ++ c.args.stop ∷ rest) (sym behind ∙ e))

pub returns : goal.returns
returns c =
    let behind = strip_prefix_is Decides-eqb c.args.bytes.now c.args.words.now (Some c.in-Some.after) c.in-Some.ensures.cases in
    let read = c.in-Some-number_before.ensures in
    (read.0, behind ∙ ap (λ w. c.args.words.now ++ w) read.1)
