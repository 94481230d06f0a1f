use Rattle.std.proofs.Common.{◌≡◌, List, ℕ, sym, ap, subst, ◌∙◌, rules}
use Rattle.std.specs.Prelude.{Some, FitsSigned}
use Rattle.std.proofs.lemmas.Int.{to_z-of_z}
use Rattle.std.proofs.lemmas.Option.{same_Some}
use mir.Syntax.{w64}
use Rattle.jl_batch.specs.Windows.{IsWorth, window_at, all_word}
use Rattle.jl_batch.proofs.TextLemmas.{all_unworthy}
use Rattle.jl_batch.proofs.pre_dispatch.read_pre_dispatch.Goals as goal

pub returns-then-is_all-clause-value : goal.returns-then-is_all-clause-value
returns-then-is_all-clause-value c = λ v h.
    let same : c.args.text.now ≡ all_word = search rules in
    absurd (all_unworthy c.args.text.now c.args.jobs v same h)

pub returns-in-Some-clause-value : goal.returns-in-Some-clause-value
returns-in-Some-clause-value c = λ v h.
    let P : List ℕ → Type 0 = λ q. IsWorth q c.args.jobs v in
    let found : Some c.in-Some.value ≡ Some v = sym c.in-Some.is ∙ c.value_of.ensures.only v (subst P (sym c.as_bytes-bytes.ensures.value) h) in
    let fits : FitsSigned w64 c.in-Some.value = search rules in
    c.window_at.ensures ∙ ap window_at (to_z-of_z w64 c.in-Some.value fits ∙ same_Some c.in-Some.value v found)

pub returns-in-None-clause-window : goal.returns-in-None-clause-window
returns-in-None-clause-window c =
    let differs : c.args.text.now ≡ all_word → ⊥ = search rules in
    (differs, λ v h. let P : List ℕ → Type 0 = λ q. IsWorth q c.args.jobs v in c.in-None.ensures.some v (subst P (sym c.as_bytes-bytes.ensures.value) h))

pub returns-in-None-clause-value : goal.returns-in-None-clause-value
returns-in-None-clause-value c = λ v h.
    let P : List ℕ → Type 0 = λ q. IsWorth q c.args.jobs v in absurd (c.in-None.ensures.some v (subst P (sym c.as_bytes-bytes.ensures.value) h))
