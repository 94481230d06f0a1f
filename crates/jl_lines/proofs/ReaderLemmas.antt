-- What a reader answers at one look at its bytes.
use Rattle.std.proofs.Common.{◌≡◌, ℕ, ◌+◌, ◌-◌, ◌<◌, ◌≤◌, List, [], ◌++◌, Bool, true, false, ◌||◌, not, cond, nat_lt, length, take, drop, sym, ◌∙◌, ap, subst, refl, arith, length-append, length-take, true≢false}
use Rattle.std.proofs.lemmas.List.{append-nil}
use Rattle.jl_text.specs.declared.limits.TheConstants.{MOST_INPUT_BYTES}
use Rattle.jl_streams.specs.Views.{SourceView}
use Rattle.jl_lines.specs.declared.reader.NextLine.{NextLine}
use Rattle.jl_lines.specs.declared.reader.NextLine.TheVariants as next_line
use Rattle.jl_lines.specs.Lines.{has_newline, first_line, behind_line, body_of}
use Rattle.jl_lines.specs.Steps.{ReaderView, waiting, is_long, is_over, AnswersOver, NeedsNoRead, Settles, LooksOver, EndsAt, NextStep, LeftIs}
use Rattle.jl_lines.proofs.LineLemmas.{first_line-append, behind_line-append, body_of-append, has_newline-append, first_line_all}

-- of two tests of which neither passes
pub first_false : (a b : Bool) → (a || b) ≡ false → a ≡ false
first_false true b e = absurd (true≢false e)
first_false false b e = refl

-- a line whose newline is among the bytes that weren't looked at
pub record FrontEnds (v : ReaderView) (size : ℕ) : Type 0 where
  pub there : has_newline (waiting v) ≡ true
  pub behind : behind_line (waiting v) ≡ drop size v.rest
  pub body : body_of (waiting v) ≡ v.front ++ take (size - 1) v.rest
  pub long_is : is_long v (waiting v) ≡ is_over v size
  pub some : 0 < length (waiting v)

-- the line at the front ends behind so many bytes more
pub front_ends : (v : ReaderView) (size : ℕ) → EndsAt v.rest size → has_newline v.front ≡ false → FrontEnds v size
front_ends v size ends none = record {
  there = has_newline-append v.front v.rest none ∙ ends.there;
  behind = behind_line-append v.front v.rest none ∙ ends.behind;
  body = body_of-append v.front v.rest none ∙ ap (λ b. v.front ++ b) ends.body;
  long_is = ap (λ n. v.long || nat_lt v.limit n) long;
  some = omega (arith, length-append v.front v.rest, ends.some, ends.within);
}
  where
    long : length (first_line (waiting v)) ≡ length v.front + size
    long =
        let first = first_line-append v.front v.rest none ∙ ap (λ b. v.front ++ b) ends.first in
        omega (arith, ap length first, length-append v.front (take size v.rest), length-take size v.rest, ends.within)

-- the line at the front was too long
pub passes_long : (old new : ReaderView) (size number : ℕ) → old.ended ≡ false → EndsAt old.rest size → has_newline old.front ≡ false → is_over old size ≡ true → number ≡ old.lines + 1
    → new ≡ record { limit = old.limit; taken = old.taken; lines = number; long = false; ended = old.ended; front = []; rest = drop size old.rest } → old.taken ≤ MOST_INPUT_BYTES → Settles false old new (next_line.TooLong number)
passes_long old new size number going ends none over is new_is most =
    let f = front_ends old size ends none in
    subst (λ v. Settles false old v (next_line.TooLong number)) (sym new_is) record {
      kind = tt;
      limit_is = refl;
      taken_is = refl;
      most = most;
      ended_is = going;
      answer_is = (record { number_is = is; lines_is = refl; long_is = refl; waiting_is = sym f.behind; ended_is = going ∙ ap not (sym f.there) }, f.long_is ∙ over);
    }

-- the line at the front was taken
pub takes_short : (old new : ReaderView) (size number : ℕ) (body : List ℕ) → old.ended ≡ false → EndsAt old.rest size → has_newline old.front ≡ false → is_over old size ≡ false → number ≡ old.lines + 1 → body ≡ old.front ++ take (size - 1) old.rest
    → new ≡ record { limit = old.limit; taken = old.taken; lines = number; long = old.long; ended = old.ended; front = []; rest = drop size old.rest } → old.taken ≤ MOST_INPUT_BYTES → Settles false old new (next_line.Line number body)
takes_short old new size number body going ends none short is body_is new_is most =
    let f = front_ends old size ends none in
    subst (λ v. Settles false old v (next_line.Line number body)) (sym new_is) record {
      kind = tt;
      limit_is = refl;
      taken_is = refl;
      most = most;
      ended_is = going;
      answer_is = (
        record { number_is = is; lines_is = refl; long_is = first_false _ _ short; waiting_is = sym f.behind; ended_is = going ∙ ap not (sym f.there) },
        f.long_is ∙ short,
        f.some,
        body_is ∙ sym f.body,
      );
    }

-- there was no memory to take the line at the front
pub keeps_short : (old new : ReaderView) (size : ℕ) → old.ended ≡ false → EndsAt old.rest size → has_newline old.front ≡ false → is_over old size ≡ false → new ≡ old → old.taken ≤ MOST_INPUT_BYTES → Settles false old new next_line.NoMemory
keeps_short old new size going ends none short new_is most =
    let f = front_ends old size ends none in
    subst (λ v. Settles false old v next_line.NoMemory) (sym new_is) record {
      kind = tt;
      limit_is = refl;
      taken_is = refl;
      most = most;
      ended_is = going;
      answer_is = (
        record {
          lines_is = refl;
          long_is = first_false _ _ short ∙ sym (f.long_is ∙ short);
          waiting_is = sym (ap (λ b. cond b [] (waiting old)) (f.long_is ∙ short));
        },
        going,
      );
    }

-- the bytes that wait are no whole line
pub front_goes_on : (v : ReaderView) → has_newline v.front ≡ false → has_newline v.rest ≡ false → (has_newline (waiting v) ≡ false) × (is_long v (waiting v) ≡ is_over v (length v.rest))
front_goes_on v none none' =
    let all = has_newline-append v.front v.rest none ∙ none' in
    (all, ap (λ n. v.long || nat_lt v.limit n) (ap length (first_line_all (waiting v) all) ∙ length-append v.front v.rest))

-- the line at the front is too long, and nothing of it is kept
pub looks_long : (old new : ReaderView) → old.ended ≡ false → has_newline old.front ≡ false → has_newline old.rest ≡ false → is_over old (length old.rest) ≡ true
    → new ≡ record { limit = old.limit; taken = old.taken; lines = old.lines; long = true; ended = old.ended; front = []; rest = [] } → LooksOver old new
looks_long old new going none none' over new_is =
    let f = front_goes_on old none none' in
    subst (λ v. LooksOver old v) (sym new_is) record {
      limit_is = refl;
      taken_is = refl;
      going = going;
      none = f.0;
      keeps = record { lines_is = refl; long_is = sym (f.1 ∙ over); waiting_is = sym (ap (λ b. cond b [] (waiting old)) (f.1 ∙ over)) };
      rest_is = refl;
    }

-- the line at the front goes on, and all of it is kept
pub looks_short : (old new : ReaderView) → old.ended ≡ false → has_newline old.front ≡ false → has_newline old.rest ≡ false → is_over old (length old.rest) ≡ false
    → new ≡ record { limit = old.limit; taken = old.taken; lines = old.lines; long = old.long; ended = old.ended; front = old.front ++ old.rest; rest = [] } → LooksOver old new
looks_short old new going none none' short new_is =
    let f = front_goes_on old none none' in
    subst (λ v. LooksOver old v) (sym new_is) record {
      limit_is = refl;
      taken_is = refl;
      going = going;
      none = f.0;
      keeps = record {
        lines_is = refl;
        long_is = first_false _ _ short ∙ sym (f.1 ∙ short);
        waiting_is = append-nil (waiting old) ∙ sym (ap (λ b. cond b [] (waiting old)) (f.1 ∙ short));
      };
      rest_is = refl;
    }

-- an answer that needs no read leaves the source where it was
left_still : (answer : NextLine) (x y : SourceView) → NeedsNoRead answer → x.left ≡ y.left → LeftIs answer [] x y
left_still (next_line.Line number body) x y k e = e
left_still (next_line.TooLong number) x y k e = e
left_still next_line.End x y k e = e
left_still next_line.TooMuch x y k e = absurd k
left_still next_line.ReadFault x y k e = absurd k
left_still next_line.NoMemory x y k e = e

-- an answer without a read is a step that takes nothing
pub settles_step : (ended : Bool) (old new : ReaderView) (x y : SourceView) (answer : NextLine) → Settles ended old new answer → (x.told → x.left ≡ y.left) → (ended ≡ true → x.told → y.left ≡ []) → NextStep old new x y answer
settles_step ended old new x y answer s same end = record {
  got = [];
  limit_is = s.limit_is;
  taken_is = s.taken_is ∙ omega arith;
  most = s.most;
  left_is = λ t. left_still answer x y s.kind (same t);
  end_is = λ t knows met. end (sym s.ended_is ∙ met) t;
  answer_is = subst (λ bytes. AnswersOver old new bytes answer) (sym (append-nil (waiting old))) s.answer_is;
}
