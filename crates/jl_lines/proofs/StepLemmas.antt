-- One step of a reader after another.
use Rattle.std.proofs.Common.{◌≡◌, ℕ, ◌+◌, ◌<◌, ◌≤◌, inl, inr, List, [], ◌∷◌, ◌++◌, Bool, true, false, ◌||◌, not, cond, nat_eq, nat_lt, length, drop, sym, ◌∙◌, ap, subst, refl, arith, length-append, true≢false}
use Rattle.std.proofs.lemmas.List.{append_assoc, append-nil}
use Rattle.std.proofs.lemmas.Bool.Decides.{Decides-ltb, eqb_tells}
use Rattle.jl_text.specs.declared.limits.TheConstants.{MOST_INPUT_BYTES}
use Rattle.jl_streams.specs.Views.{SourceView}
use Rattle.jl_lines.specs.declared.reader.NextLine.{NextLine}
use Rattle.jl_lines.specs.declared.reader.NextLine.TheVariants as next_line
use Rattle.jl_lines.specs.Lines.{has_newline, first_line, behind_line, body_of}
use Rattle.jl_lines.specs.Readers.{IsReader}
use Rattle.jl_lines.specs.Steps.{ReaderView, waiting, is_long, KnowsEnd, Passes, KeepsBytes, AnswersOver, Settles, LooksOver, AnswersAlike, Goes, Advances, Gets, NextStep, LeftIs}
use Rattle.jl_lines.proofs.LineLemmas.{first_line-append, behind_line-append, has_newline-append, first_line_all, body_of_all, behind_line_all}
use Rattle.jl_lines.proofs.ReaderLemmas.{first_false}

-- a test that doesn't pass
pub not_less : (a b : ℕ) → b ≤ a → nat_lt a b ≡ false
not_less a b le = elim (nat_lt a b) as (λ v. nat_lt a b ≡ v → v ≡ false) [
  | true ↦ λ t. absurd (omega (arith, (Decides-ltb a b).0 t, le))
  | false ↦ λ t. refl
] refl

-- two tests of which neither passes
pub of_or : (a b : Bool) → (a || b) ≡ false → (a ≡ false) × (b ≡ false)
of_or true b e = absurd (true≢false e)
of_or false b e = (refl, e)

-- a number that isn't 0
pub not_zero : (n : ℕ) → false ≡ nat_eq n 0 → 0 < n
not_zero n e = elim (eqb_tells n 0) [
  | inl p ↦ absurd (true≢false (sym p.0 ∙ sym e))
  | inr p ↦ omega (arith, p.1)
]

-- a reader that looked at all its bytes stays as it is
pub stays : (v : ReaderView) → IsReader v → v.rest ≡ [] → (has_newline (waiting v) ≡ false) × (is_long v (waiting v) ≡ v.long) × KeepsBytes v v (waiting v)
stays v r e = (none, long, record { lines_is = refl; long_is = sym long; waiting_is = kept ∙ sym (ap (λ b. cond b [] (waiting v)) long) })
  where
    is : waiting v ≡ v.front
    is = ap (λ l. v.front ++ l) e ∙ append-nil v.front

    none : has_newline (waiting v) ≡ false
    none = ap has_newline is ∙ r.none

    short : nat_lt v.limit (length (first_line (waiting v))) ≡ false
    short = not_less v.limit (length (first_line (waiting v))) (omega (arith, ap length (first_line_all (waiting v) none ∙ is), r.short))

    or_false : (b : Bool) → (b || false) ≡ b
    or_false true = refl
    or_false false = refl

    long : is_long v (waiting v) ≡ v.long
    long = ap (λ b. v.long || b) short ∙ or_false v.long

    kept : waiting v ≡ cond v.long [] (waiting v)
    kept = elim v.long as (λ b. v.long ≡ b → waiting v ≡ cond b [] (waiting v)) [
      | true ↦ λ t. is ∙ r.nothing t
      | false ↦ λ t. refl
    ] refl

-- a reader that hasn't met the end knows nothing of it
knows_none : (v : ReaderView) (x : SourceView) → v.ended ≡ false → KnowsEnd v x
knows_none v x going = λ met. absurd (true≢false (sym met ∙ going))

-- a read failed
pub fault_step : (old new : ReaderView) (x y : SourceView) → IsReader old → old.ended ≡ false → old.rest ≡ [] → new ≡ old → (x.told → y.left ≡ x.left) → NextStep old new x y next_line.ReadFault
fault_step old new x y r going e same still =
    let s = stays old r e in
    subst (λ v. NextStep old v x y next_line.ReadFault) (sym same) record {
      got = [];
      limit_is = refl;
      taken_is = omega arith;
      most = r.most;
      left_is = λ t. sym (still t);
      end_is = λ t knows. knows_none old y going;
      answer_is = subst (λ bytes. AnswersOver old old bytes next_line.ReadFault) (sym (append-nil (waiting old))) (s.2, s.0, going);
    }

-- there was no memory to read into
pub no_memory_step : (old new : ReaderView) (x y : SourceView) → IsReader old → old.ended ≡ false → old.rest ≡ [] → new ≡ old → y.left ≡ x.left → NextStep old new x y next_line.NoMemory
no_memory_step old new x y r going e same still =
    let s = stays old r e in
    subst (λ v. NextStep old v x y next_line.NoMemory) (sym same) record {
      got = [];
      limit_is = refl;
      taken_is = omega arith;
      most = r.most;
      left_is = λ t. sym still;
      end_is = λ t knows. knows_none old y going;
      answer_is = subst (λ bytes. AnswersOver old old bytes next_line.NoMemory) (sym (append-nil (waiting old))) (s.2, going);
    }

-- a byte too many was there
pub too_much_step : (old new : ReaderView) (x y : SourceView) → IsReader old → old.ended ≡ false → old.rest ≡ [] → new ≡ old → old.taken ≡ MOST_INPUT_BYTES → (x.told → (b : ℕ) × (x.left ≡ b ∷ y.left)) → NextStep old new x y next_line.TooMuch
too_much_step old new x y r going e same full more =
    let s = stays old r e in
    subst (λ v. NextStep old v x y next_line.TooMuch) (sym same) record {
      got = [];
      limit_is = refl;
      taken_is = omega arith;
      most = r.most;
      left_is = more;
      end_is = λ t knows. knows_none old y going;
      answer_is = subst (λ bytes. AnswersOver old old bytes next_line.TooMuch) (sym (append-nil (waiting old))) (s.2, s.0, going, full);
    }

-- one byte fewer is left
pub one_less : (k : ℕ) (left left' : List ℕ) → 1 ≤ k → k ≤ 1 → k ≤ length left → left' ≡ drop k left → (b : ℕ) × (left ≡ b ∷ left')
one_less k [] left' some most within rest = absurd (omega (arith, some, within))
one_less k (b ∷ bs) left' some most within rest = let one : k ≡ 1 = omega (arith, some, most) in (b, ap (λ l. b ∷ l) (sym (rest ∙ ap (λ n. drop n (b ∷ bs)) one)))

-- the last line of the source was taken
pub takes_last : (old new : ReaderView) (number : ℕ) (body : List ℕ) → IsReader old → old.rest ≡ [] → old.long ≡ false → 0 < length old.front → number ≡ old.lines + 1 → body ≡ old.front
    → new ≡ record { limit = old.limit; taken = old.taken; lines = number; long = old.long; ended = true; front = []; rest = old.rest } → Settles true old new (next_line.Line number body)
takes_last old new number body r e short some number_is body_is new_is =
    let s = stays old r e in
    let is : waiting old ≡ old.front = ap (λ l. old.front ++ l) e ∙ append-nil old.front in
    subst (λ v. Settles true old v (next_line.Line number body)) (sym new_is) record {
      kind = tt;
      limit_is = refl;
      taken_is = refl;
      most = r.most;
      ended_is = refl;
      answer_is = (
        record { number_is = number_is; lines_is = refl; long_is = short; waiting_is = e ∙ sym (behind_line_all (waiting old) s.0); ended_is = ap not (sym s.0) },
        s.1 ∙ short,
        omega (arith, ap length is, some),
        body_is ∙ sym (body_of_all (waiting old) s.0 ∙ is),
      );
    }

-- once the end was met, it is answered again
pub over_step : (v : ReaderView) (x : SourceView) → IsReader v → v.ended ≡ true → NextStep v v x x next_line.End
over_step v x r met =
    let over = r.over met in
    let nothing : waiting v ≡ [] = λ i. over.1 i ++ over.2 i in record {
      got = [];
      limit_is = refl;
      taken_is = omega arith;
      most = r.most;
      left_is = λ t. refl;
      end_is = λ t knows. knows;
      answer_is = subst (λ bytes. AnswersOver v v bytes next_line.End) (sym (append-nil (waiting v))) ((stays v r over.2).2, over.0, nothing, met);
    }

-- there was no memory to keep the bytes that wait
pub keeps_all : (old new : ReaderView) → old.ended ≡ false → IsReader old → has_newline old.rest ≡ false → new ≡ old → nat_lt old.limit (length old.front + length old.rest) ≡ false → old.long ≡ false → Settles false old new next_line.NoMemory
keeps_all old new going r none same short not_long =
    subst (λ v. Settles false old v next_line.NoMemory) (sym same) record {
      kind = tt;
      limit_is = refl;
      taken_is = refl;
      most = r.most;
      ended_is = going;
      answer_is = (record { lines_is = refl; long_is = not_long ∙ sym is_short; waiting_is = sym (ap (λ b. cond b [] (waiting old)) is_short) }, going);
    }
  where
    all : has_newline (waiting old) ≡ false
    all = has_newline-append old.front old.rest r.none ∙ none

    is_short : is_long old (waiting old) ≡ false
    is_short = (λ i. not_long i || nat_lt old.limit (length (first_line_all (waiting old) all i))) ∙ ap (nat_lt old.limit) (length-append old.front old.rest) ∙ short

-- one reader after another
pub stands_trans : (a b c : ReaderView) (x y z : List ℕ) → AnswersAlike a b x y → AnswersAlike b c y z → AnswersAlike a c x z
stands_trans a b c x y z p q = record {
  long_is = λ more. q.long_is more ∙ p.long_is more;
  behind_is = λ more. q.behind_is more ∙ p.behind_is more;
  newline_is = λ more. q.newline_is more ∙ p.newline_is more;
  same = λ more short. q.same more (p.long_is more ∙ short) ∙ p.same more short;
}

-- with more bytes behind both
pub stands_more : (a b : ReaderView) (x y g : List ℕ) → AnswersAlike a b x y → AnswersAlike a b (x ++ g) (y ++ g)
stands_more a b x y g p = record {
  long_is = λ more. ap (is_long b) (append_assoc y g more) ∙ p.long_is (g ++ more) ∙ ap (is_long a) (sym (append_assoc x g more));
  behind_is = λ more. ap behind_line (append_assoc y g more) ∙ p.behind_is (g ++ more) ∙ ap behind_line (sym (append_assoc x g more));
  newline_is = λ more. ap has_newline (append_assoc y g more) ∙ p.newline_is (g ++ more) ∙ ap has_newline (sym (append_assoc x g more));
  same = λ more short. ap (λ l. l ++ g) (p.same (g ++ more) (ap (is_long a) (sym (append_assoc x g more)) ∙ short));
}

-- a reader with the same limit, in the same line
pub stands_alike : (a b : ReaderView) (x y : List ℕ) → b.limit ≡ a.limit → b.long ≡ a.long → y ≡ x → AnswersAlike a b x y
stands_alike a b x y limit long same = record {
  long_is = λ more i. long i || nat_lt (limit i) (length (first_line (same i ++ more)));
  behind_is = λ more. ap (λ l. behind_line (l ++ more)) same;
  newline_is = λ more. ap (λ l. has_newline (l ++ more)) same;
  same = λ more short. same;
}

-- a reader that looked at all bytes
pub looks_stands : (a b : ReaderView) → LooksOver a b → AnswersAlike a b (waiting a) (waiting b)
looks_stands a b l = elim (is_long a (waiting a)) as (λ v. is_long a (waiting a) ≡ v → AnswersAlike a b (waiting a) (waiting b)) [
  | true ↦ λ t.
      let empty : waiting b ≡ [] = l.keeps.waiting_is ∙ ap (λ v. cond v [] (waiting a)) t in
      let long : b.long ≡ true = l.keeps.long_is ∙ t in record {
        long_is = λ more. ap (λ v. v || nat_lt b.limit (length (first_line (waiting b ++ more)))) long ∙ sym (longer t more);
        behind_is = λ more. ap (λ w. behind_line (w ++ more)) empty ∙ sym (behind_line-append (waiting a) more l.none);
        newline_is = λ more. ap (λ w. has_newline (w ++ more)) empty ∙ sym (has_newline-append (waiting a) more l.none);
        same = λ more short. absurd (true≢false (sym (longer t more) ∙ short));
      }
  | false ↦ λ t. stands_alike a b (waiting a) (waiting b) l.limit_is (l.keeps.long_is ∙ t ∙ sym (first_false _ _ t)) (l.keeps.waiting_is ∙ ap (λ v. cond v [] (waiting a)) t)
] refl
  where
    or_true : (x : Bool) → (x || true) ≡ true
    or_true true = refl
    or_true false = refl

    -- a line that is too long stays so with more bytes
    longer : is_long a (waiting a) ≡ true → (more : List ℕ) → is_long a (waiting a ++ more) ≡ true
    longer t more = elim a.long as (λ v. (v || nat_lt a.limit (length (first_line (waiting a)))) ≡ true → (v || nat_lt a.limit (length (first_line (waiting a ++ more)))) ≡ true) [
      | true ↦ λ h. refl
      | false ↦ λ h.
          let over = (Decides-ltb a.limit (length (first_line (waiting a)))).0 h in
          (Decides-ltb a.limit (length (first_line (waiting a ++ more)))).1
          (omega (arith, over, ap length (first_line_all (waiting a) l.none), ap length (first_line-append (waiting a) more l.none), length-append (waiting a) (first_line more)))
    ] t

-- the same answer, seen from an earlier reader
pub stands_answer : (a b c : ReaderView) (x y : List ℕ) (answer : NextLine) → AnswersAlike a b x y → b.lines ≡ a.lines → AnswersOver b c y answer → AnswersOver a c x answer
stands_answer a b c x y answer s lines = go answer
  where
    at : {X : Type 0} (f g : List ℕ → X) → ((more : List ℕ) → f (y ++ more) ≡ g (x ++ more)) → f y ≡ g x
    at f g each = ap f (sym (append-nil y)) ∙ each [] ∙ ap g (append-nil x)

    long : is_long b y ≡ is_long a x
    long = at (is_long b) (is_long a) s.long_is

    behind : behind_line y ≡ behind_line x
    behind = at behind_line behind_line s.behind_is

    newline : has_newline y ≡ has_newline x
    newline = at has_newline has_newline s.newline_is

    same : is_long a x ≡ false → y ≡ x
    same short = s.same [] (ap (is_long a) (append-nil x) ∙ short)

    passes : (number : ℕ) → Passes b c y number → Passes a c x number
    passes number p = record { number_is = p.number_is ∙ ap (λ n. n + 1) lines; lines_is = p.lines_is; long_is = p.long_is; waiting_is = p.waiting_is ∙ behind; ended_is = p.ended_is ∙ ap not newline }

    kept : cond (is_long b y) [] y ≡ cond (is_long a x) [] x
    kept = ap (λ v. cond v [] y) long ∙ (elim (is_long a x) as (λ v. is_long a x ≡ v → cond v [] y ≡ cond v [] x) [
      | true ↦ λ t. refl
      | false ↦ λ t. same t
    ] refl)

    keeps : KeepsBytes b c y → KeepsBytes a c x
    keeps k = record { lines_is = k.lines_is ∙ lines; long_is = k.long_is ∙ long; waiting_is = k.waiting_is ∙ kept }

    go : (answer : NextLine) → AnswersOver b c y answer → AnswersOver a c x answer
    go (next_line.Line number body) h =
        let short : is_long a x ≡ false = sym long ∙ h.1 in
        (passes number h.0, short, subst (λ l. 0 < length l) (same short) h.2, h.3 ∙ ap body_of (same short))
    go (next_line.TooLong number) h = (passes number h.0, sym long ∙ h.1)
    go next_line.End h =
        let short : is_long a x ≡ false = sym long ∙ ap (is_long b) h.2 ∙ ap (λ v. v || nat_lt b.limit 0) h.1 ∙ not_less b.limit 0 (omega arith) in
        (keeps h.0, first_false _ _ short, sym (same short) ∙ h.2, h.3)
    go next_line.TooMuch h = (keeps h.0, sym newline ∙ h.1, h.2, h.3)
    go next_line.ReadFault h = (keeps h.0, sym newline ∙ h.1, h.2)
    go next_line.NoMemory h = (keeps h.0, h.1)

-- the bytes of one call after those of the calls before
left_on : (answer : NextLine) (got got' : List ℕ) (x y z : SourceView) → x.left ≡ got ++ y.left → LeftIs answer got' y z → LeftIs answer (got ++ got') x z
left_on (next_line.Line number body) got got' x y z e f = e ∙ ap (λ l. got ++ l) f ∙ sym (append_assoc got got' z.left)
left_on (next_line.TooLong number) got got' x y z e f = e ∙ ap (λ l. got ++ l) f ∙ sym (append_assoc got got' z.left)
left_on next_line.End got got' x y z e f = e ∙ ap (λ l. got ++ l) f ∙ sym (append_assoc got got' z.left)
left_on next_line.TooMuch got got' x y z e f = (f.0, e ∙ ap (λ l. got ++ l) f.1 ∙ sym (append_assoc got got' (f.0 ∷ z.left)))
left_on next_line.ReadFault got got' x y z e f = e ∙ ap (λ l. got ++ l) f ∙ sym (append_assoc got got' z.left)
left_on next_line.NoMemory got got' x y z e f = e ∙ ap (λ l. got ++ l) f ∙ sym (append_assoc got got' z.left)

-- an answer after bytes were taken
pub goes_step : (a b c : ReaderView) (x y z : SourceView) (answer : NextLine) → (x.told → y.told) → Goes a b x y → NextStep b c y z answer → NextStep a c x z answer
goes_step a b c x y z answer told g s = record {
  got = g.got ++ s.got;
  limit_is = s.limit_is ∙ g.limit_is;
  taken_is = omega (arith, s.taken_is, g.taken_is, length-append g.got s.got);
  most = s.most;
  left_is = λ t. left_on answer g.got s.got x y z (g.left_is t) (s.left_is (told t));
  end_is = λ t knows. s.end_is (told t) (knows_none b y g.going);
  answer_is =
      let stood = stands_more a b (waiting a ++ g.got) (waiting b) s.got g.stands in
      subst (λ bytes. AnswersOver a c bytes answer) (append_assoc (waiting a) g.got s.got)
      (stands_answer a b c ((waiting a ++ g.got) ++ s.got) (waiting b ++ s.got) answer stood g.lines_is s.answer_is);
}

-- more bytes after bytes were taken
pub goes_on : (a b c : ReaderView) (x y z : SourceView) → (x.told → y.told) → Goes a b x y → Goes b c y z → Goes a c x z
goes_on a b c x y z told g h = record {
  got = g.got ++ h.got;
  limit_is = h.limit_is ∙ g.limit_is;
  taken_is = omega (arith, h.taken_is, g.taken_is, length-append g.got h.got);
  lines_is = h.lines_is ∙ g.lines_is;
  going = h.going;
  left_is = λ t. g.left_is t ∙ ap (λ l. g.got ++ l) (h.left_is (told t)) ∙ sym (append_assoc g.got h.got z.left);
  stands = subst (λ here. AnswersAlike a c here (waiting c)) (append_assoc (waiting a) g.got h.got)
      (stands_trans a b c ((waiting a ++ g.got) ++ h.got) (waiting b ++ h.got) (waiting c) (stands_more a b (waiting a ++ g.got) (waiting b) h.got g.stands) h.stands);
}

-- nothing has happened yet
pub goes_none : (a b : ReaderView) (x y : SourceView) → a.ended ≡ false → b ≡ a → x.left ≡ y.left → Goes a b x y
goes_none a b x y going same still = record {
  got = [];
  limit_is = ap (λ v. v.limit) same;
  taken_is = ap (λ v. v.taken) same ∙ omega arith;
  lines_is = ap (λ v. v.lines) same;
  going = ap (λ v. v.ended) same ∙ going;
  left_is = λ t. still;
  stands = stands_alike a b (waiting a ++ []) (waiting b) (ap (λ v. v.limit) same) (ap (λ v. v.long) same) (ap waiting same ∙ sym (append-nil (waiting a)));
}

-- all bytes were looked at
pub looks_goes : (a b : ReaderView) (x y : SourceView) → LooksOver a b → x.left ≡ y.left → Goes a b x y
looks_goes a b x y l still = record {
  got = [];
  limit_is = l.limit_is;
  taken_is = l.taken_is ∙ omega arith;
  lines_is = l.keeps.lines_is;
  going = l.going;
  left_is = λ t. still;
  stands = subst (λ here. AnswersAlike a b here (waiting b)) (sym (append-nil (waiting a))) (looks_stands a b l);
}

-- bytes were taken, and not looked at yet
pub gets_goes : (a b : ReaderView) (x y : SourceView) → a.ended ≡ false → a.rest ≡ [] → Gets a b x y → Goes a b x y
gets_goes a b x y going none g = record {
  got = b.rest;
  limit_is = ap (λ v. v.limit) g.new_is;
  taken_is = ap (λ v. v.taken) g.new_is;
  lines_is = ap (λ v. v.lines) g.new_is;
  going = ap (λ v. v.ended) g.new_is ∙ going;
  left_is = g.left_is;
  stands = stands_alike a b (waiting a ++ b.rest) (waiting b) (ap (λ v. v.limit) g.new_is) (ap (λ v. v.long) g.new_is)
      (ap (λ l. l ++ b.rest) (ap (λ v. v.front) g.new_is ∙ sym (append-nil a.front) ∙ ap (λ l. a.front ++ l) (sym none)));
}

-- bytes were looked at, and then more were taken
pub advances : (a b c : ReaderView) (x y : SourceView) → LooksOver a b → Gets b c x y → Advances a c x y
advances a b c x y l g = record {
  none = l.none;
  some = omega (arith, l.taken_is, ap (λ v. v.taken) g.new_is, g.some);
  most = g.most;
  goes = goes_on a b c x x y (λ told. told) (looks_goes a b x x l refl) (gets_goes b c x y l.going l.rest_is g);
}
