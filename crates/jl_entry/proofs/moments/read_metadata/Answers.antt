use Rattle.std.proofs.Common.{◌≡◌, ℕ, ◌≤◌, List, refl, [], ◌∷◌, ◌++◌, ap, ◌∙◌, length, decimal, arith}
use Rattle.jl_entry.proofs.MomentFacts.{metadata_duration, metadata_ends, duration_words, time_words}
use Rattle.jl_entry.proofs.moments.read_metadata.Goals as goal

none : (xs : List ℕ) → length xs ≤ 0 → xs ≡ []
none [] h = refl
none (x ∷ xs) h = absurd (omega arith)

pub returns-in_default-number_behind : goal.returns-in_default-number_behind
returns-in_default-number_behind c = λ d t h.
    let front = metadata_duration c.args.bytes.now c.in-Some.duration.rest.now c.in-Some.duration.number d t c.in-Some.ensures.0 c.in-Some.ensures.1 h in
    c.in_default-number_behind.ensures t [] h.1 front.1

pub returns : goal.returns
returns c = (
  c.in-Some.ensures.0,
  c.in-Some-number_behind.ensures.0,
  c.in-Some.ensures.1 ∙ ap (λ w. duration_words ++ (decimal c.in-Some.duration.number ++ 44 ∷ w)) (c.in-Some-number_behind.ensures.1 ∙ ap (λ r. time_words ++ (decimal c.in-Some-number_behind.time.number ++ 125 ∷ r)) (none c.in-Some-number_behind.time.rest.now (omega arith))),
)

pub returns-in_default : goal.returns-in_default
returns-in_default c = λ d t h. c.in_default.ensures d (time_words ++ (decimal t ++ 125 ∷ [])) h.0 h.2

pub returns-then-time-gt0 : goal.returns-then-time-gt0
returns-then-time-gt0 c = λ d t h.
    let ends = metadata_ends c.args.bytes.now c.in-Some.duration.rest.now c.in-Some-number_behind.time.rest.now c.in-Some.duration.number c.in-Some-number_behind.time.number d t
    c.in-Some.ensures.0 c.in-Some-number_behind.ensures.0 c.in-Some.ensures.1 c.in-Some-number_behind.ensures.1 h in
    omega (arith, ap length ends.2)
