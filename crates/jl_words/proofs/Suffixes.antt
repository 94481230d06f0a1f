-- What `strip_suffix` at a text gives.
use Rattle.std.proofs.Common.{◌≡◌, ℕ, ◌-◌, ◌≤◌, List, true, false, Option, Some, None, MatchOption, nat_eq, length, take, cond, sym, ap, subst, ◌∙◌, arith, option_map, Bor}
use Rattle.std.proofs.lemmas.Str.Pattern.{ends_text}
use Rattle.std.specs.List.{ends_with}
use Rattle.std.specs.Str.{IsCharBoundary}
use Rattle.std.specs.Str.Pattern.{FindsTextSuffix, StripsSuffix}

-- the text without the end that it has, or none where it has another end
pub stripped : (end text : List ℕ) (r : Option (Bor (List ℕ))) → MatchOption r (FindsTextSuffix end text None) (λ x. StripsSuffix (FindsTextSuffix end) text x.now)
    → option_map (λ x. x.now) r ≡ cond (ends_with nat_eq text end) (Some (take (length text - length end) text)) None
stripped end text None h = ap (λ v. cond v (Some (take (length text - length end) text)) None) (ends_text false end text h)
stripped end text (Some x) h =
    let k : h.0 ≡ length end = h.1.0 in
    let le : h.0 ≤ length text = omega arith in
    let boundary = subst (λ n. IsCharBoundary text (length text - n)) (sym k) h.1.2 in
    let found = ends_text true end text (h.0, h.1, le, boundary) in
    ap Some (h.2 ∙ ap (λ n. take (length text - n) text) k) ∙ ap (λ v. cond v (Some (take (length text - length end) text)) None) found
