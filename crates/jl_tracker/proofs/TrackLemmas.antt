-- The tracker's turns: it goes on, or it ends.
use Rattle.std.proofs.Common.{◌≡◌, ℕ, ◌+◌, ◌-◌, ◌<◌, ◌≤◌, inl, inr, List, [], ◌∷◌, ◌++◌, ◌⊎◌, Bool}
use Rattle.std.proofs.Common.{true, false, ◌||◌, not, true≢false, Option, None, length, nat_lt, sym}
use Rattle.std.proofs.Common.{◌∙◌, ap, subst, refl, arith, length-append}
use Rattle.std.proofs.lemmas.List.{append-nil, append_assoc}
use Rattle.jl_text.specs.declared.limits.TheConstants.{MOST_LINE_BYTES, MOST_INPUT_BYTES}
use Rattle.jl_text.specs.Counts.{Rose}
use Rattle.jl_streams.specs.Views.{SourceView, SourceAnswers}
use Rattle.jl_lines.specs.declared.reader.NextLine.{NextLine}
use Rattle.jl_lines.specs.declared.reader.NextLine.TheVariants as next_line
use Rattle.jl_lines.specs.Lines.{has_newline, first_line, behind_line, lines_of}
use Rattle.jl_lines.specs.Steps.{ReaderView, waiting, is_long, KnowsEnd, Passes, AnswersOver}
use Rattle.jl_lines.specs.Steps.{LeftIs, NextStep}
use Rattle.jl_lines.proofs.StepLemmas.{of_or}
use Rattle.std.proofs.lemmas.Bool.Decides.{Decides-ltb}
use Rattle.jl_tracker.specs.declared.following.Tracked.{Tracked}
use Rattle.jl_tracker.specs.declared.following.Tracked.TheVariants as tracked
use Rattle.jl_tracker.specs.TrackerLines.{LineView}
use Rattle.jl_tracker.specs.Counting.{CountsView, no_counts}
use Rattle.jl_tracker.specs.Effects.{reports_bad, IsLineReading, line_effects, after_read}
use Rattle.jl_tracker.specs.Effects.{effects_from, counts_after, end_effects}
use Rattle.jl_tracker.specs.Stages.{Stage, StageKeeps, stage_point}
use Rattle.jl_tracker.specs.Plays.{Plays, PlaysAt, Stops}
use Rattle.jl_tracker.specs.Turns.{HasPaths, Handles, HandlesSome, Concludes}
use Rattle.jl_tracker.specs.Tracking.{LinesSeen, SeenAll, Going, Tracks, TracksSome}
use Rattle.jl_tracker.proofs.PlayLemmas.{plays_trans, plays_stops, plays_stop}
use Rattle.jl_tracker.proofs.GoingLemmas.{line_split, seen_line, seen_last, seen_either}
use Rattle.jl_tracker.proofs.GoingLemmas.{readings_push, counts_push, effects_push, line_reading}
use Rattle.jl_tracker.proofs.HeldLemmas.{read_paths}

-- what was read of a line that was passed, and what it brought about
record Turn (number : ℕ) (line : List ℕ) (old new : CountsView) (a b : Stage) : Type 0 where
  read : Option LineView
  reading : IsLineReading line read
  counts_is : new ≡ after_read read old
  paths : HasPaths old → HasPaths new
  plays : Plays (line_effects number read old) a b

-- the tracker goes on with one more line
go_line : (source : SourceView) (behind behind' : List ℕ) (a b c : Stage)
    (reader reader' : ReaderView) (old new : CountsView) (line : List ℕ)
    → (going : Going source behind a b reader old)
    → (source.told → reader'.ended ≡ false
    → LinesSeen (going.lines ++ line ∷ []) source.left behind')
    → (source.told → reader'.ended ≡ true → SeenAll (going.lines ++ line ∷ []) source.left behind')
    → (source.told → reader'.taken + length behind' ≡ length source.left + length (waiting reader'))
    → StageKeeps a b → reader'.lines ≡ reader.lines + 1 → reader'.long ≡ false
    → reader'.limit ≡ reader.limit → Turn (reader.lines + 1) line old new b c
    → Going source behind' a c reader' new
go_line source behind behind' a b c reader reader' old new line going seen whole taken keeps number
    short limit turn =
    record {
      lines = going.lines ++ line ∷ [];
      readings = going.readings ++ turn.read ∷ [];
      read = readings_push going.lines going.readings line turn.read going.read turn.reading;
      seen = seen;
      whole = whole;
      taken_is = taken;
      number_is = omega (arith, number, going.number_is, length-append going.readings (turn.read ∷ []));
      short = short;
      limit_is = limit ∙ going.limit_is;
      counts_is = turn.counts_is ∙ ap (after_read turn.read) going.counts_is
          ∙ sym (counts_push no_counts going.readings turn.read);
      paths = turn.paths going.paths;
      plays = subst (λ es. Plays es a c) (sym (effects_push 1 no_counts going.readings turn.read))
          (plays_trans (effects_from 1 no_counts going.readings)
          (line_effects (1 + length going.readings) turn.read (counts_after no_counts going.readings))
          a b c keeps going.plays
          (subst (λ v. Plays (line_effects (1 + length going.readings) turn.read v) b c)
          going.counts_is
          (subst (λ n. Plays (line_effects n turn.read old) b c) number_is turn.plays)));
    }
  where
    -- the number of the line is one more than that of the readings so far
    number_is : reader.lines + 1 ≡ 1 + length going.readings
    number_is = omega (arith, going.number_is)

-- a reader that goes on has not met the end
still_going : (reader : ReaderView) (answer : NextLine)
    → (reader.ended ≡ true → answer ≡ next_line.End) → (answer ≡ next_line.End → ⊥)
    → reader.ended ≡ false
still_going reader answer over on = elim reader.ended as (λ v. reader.ended ≡ v → v ≡ false) [
  | true ↦ λ met. absurd (on (over met))
  | false ↦ λ going. refl
] refl

-- nothing is left behind a line without a newline
last_left : (reader reader' : ReaderView) (from to : SourceView) (bytes : List ℕ)
    → reader.ended ≡ false → reader'.ended ≡ not (has_newline bytes)
    → (KnowsEnd reader from → KnowsEnd reader' to) → has_newline bytes ≡ false → to.left ≡ []
last_left reader reader' from to bytes going ended knows none =
    knows (λ met. absurd (true≢false (sym met ∙ going))) (ended ∙ ap not none)

-- whether a line had its newline, by whether the end was met
with_newline : (ended there : Bool) → ended ≡ not there → ended ≡ false → there ≡ true
with_newline ended true is going = refl
with_newline ended false is going = absurd (true≢false (sym is ∙ going))

-- and where it was met, the line had none
without_newline : (ended there : Bool) → ended ≡ not there → ended ≡ true → there ≡ false
without_newline ended true is met = absurd (true≢false (sym met ∙ is))
without_newline ended false is met = refl

-- a limit that is passed
long_over : (m n : ℕ) → nat_lt m n ≡ true → m < n
long_over m n e = (Decides-ltb m n).0 e

-- bytes of which the first line is not empty
some_bytes : (bs : List ℕ) → 0 < length (first_line bs) → 0 < length bs
some_bytes [] lt = lt
some_bytes (b ∷ bs) lt = omega arith

-- a line that is too long, where that was not known before
over_of : (reader : ReaderView) (bytes : List ℕ) → reader.long ≡ false
    → reader.limit ≡ MOST_LINE_BYTES → is_long reader bytes ≡ true
    → MOST_LINE_BYTES < length (first_line bytes)
over_of reader bytes short limit long =
    subst (λ m. m < length (first_line bytes)) limit
    (long_over reader.limit (length (first_line bytes))
    (ap (λ v. v || nat_lt reader.limit (length (first_line bytes))) (sym short) ∙ long))

-- how many bytes were taken
taken_on : (left got left₁ left₂ w w' : List ℕ) (taken taken' : ℕ) → taken' ≡ taken + length got
    → left₁ ≡ got ++ left₂ → taken + length (w ++ left₁) ≡ length left + length w
    → taken' + length (w' ++ left₂) ≡ length left + length w'
taken_on left got left₁ left₂ w w' taken taken' took is so_far =
    let all : length left₁ ≡ length got + length left₂ = ap length is ∙ length-append got left₂ in
    omega (arith, took, all, so_far, length-append w left₁, length-append w' left₂)

-- all bytes were taken that may be, and one more
taken_much : (left got left₁ left₂ w : List ℕ) (byte taken taken' : ℕ) → taken' ≡ taken + length got
    → taken' ≡ MOST_INPUT_BYTES → left₁ ≡ got ++ byte ∷ left₂
    → taken + length (w ++ left₁) ≡ length left + length w
    → MOST_INPUT_BYTES + (1 + length left₂) ≡ length left
taken_much left got left₁ left₂ w byte taken taken' took full is so_far =
    let all : length left₁ ≡ length got + length (byte ∷ left₂) =
    ap length is ∙ length-append got (byte ∷ left₂) in
    omega (arith, took, full, all, so_far, length-append w left₁)

-- the tracker goes on behind an answer
pub goes_on : (source from to : SourceView) (a b c : Stage) (reader reader' : ReaderView)
    (old new : CountsView) (answer : NextLine)
    → (source.told → from.told) → StageKeeps a b
    → Going source (waiting reader ++ from.left) a b reader old
    → (reader.ended ≡ true → answer ≡ next_line.End) → NextStep reader reader' from to answer
    → Handles answer old new b c → Going source (waiting reader' ++ to.left) a c reader' new
goes_on source from to a b c reader reader' old new answer st keeps going over step =
    go answer over step.left_is step.answer_is
  where
    bytes : List ℕ
    bytes = waiting reader ++ step.got

    -- one more line, whatever was read of it
    one : (number : ℕ) → reader.ended ≡ false → Passes reader reader' bytes number
        → 0 < length bytes → (from.told → from.left ≡ step.got ++ to.left)
        → Turn (reader.lines + 1) (first_line bytes) old new b c
        → Going source (waiting reader' ++ to.left) a c reader' new
    one number on passes some took turn =
        go_line source (waiting reader ++ from.left) (waiting reader' ++ to.left) a b c reader
        reader' old new (first_line bytes) going
        (λ t e.
        seen_line going.lines source.left (waiting reader) step.got from.left to.left
        (waiting reader') (going.seen t on) (took (st t)) some (with_newline _ _ passes.ended_is e)
        passes.waiting_is)
        (λ t e.
        let none = without_newline _ _ passes.ended_is e in
        seen_last going.lines source.left (waiting reader) step.got from.left to.left
        (waiting reader') (going.seen t on) (took (st t)) some none
        (last_left reader reader' from to bytes on passes.ended_is (step.end_is (st t)) none)
        passes.waiting_is)
        (λ t.
        taken_on source.left step.got from.left to.left (waiting reader) (waiting reader')
        reader.taken reader'.taken step.taken_is (took (st t)) (going.taken_is t))
        keeps (passes.lines_is ∙ passes.number_is) passes.long_is step.limit_is turn

    -- by the answer: a line that was read, or one that is too long; none of the others goes on
    go : (answer : NextLine) → (reader.ended ≡ true → answer ≡ next_line.End)
        → (from.told → LeftIs answer step.got from to)
        → AnswersOver reader reader' (waiting reader ++ step.got) answer
        → Handles answer old new b c → Going source (waiting reader' ++ to.left) a c reader' new
    go (next_line.Line number body) over took h turn =
        let short : nat_lt MOST_LINE_BYTES (length (first_line (waiting reader ++ step.got))) ≡
        false = subst (λ m. nat_lt m (length (first_line (waiting reader ++ step.got))) ≡ false)
        going.limit_is (of_or reader.long _ h.1).1 in
        one number (still_going reader (next_line.Line number body) over (λ e. cc)) h.0 h.2 took
        (record {
          read = turn.read;
          reading = line_reading (waiting reader ++ step.got) body turn.read h.3 short turn.reading;
          counts_is = turn.counts_is;
          paths = λ p.
              subst HasPaths (sym turn.counts_is) (read_paths body turn.read old turn.reading p);
          plays = subst (λ n. Plays (line_effects n turn.read old) b c) h.0.number_is turn.plays;
        })
    go (next_line.TooLong number) over took h turn =
        let long = over_of reader (waiting reader ++ step.got) going.short going.limit_is h.1 in
        one number (still_going reader (next_line.TooLong number) over (λ e. cc)) h.0
        (some_bytes (waiting reader ++ step.got) (omega (arith, long))) took
        (record {
          read = None;
          reading = inl long;
          counts_is = turn.0;
          paths = λ p. subst HasPaths (sym turn.0) p;
          plays = subst (λ n. Plays (reports_bad n ∷ []) b c) h.0.number_is turn.1;
        })
    go next_line.End over took h turn = absurd turn
    go next_line.TooMuch over took h turn = absurd turn
    go next_line.ReadFault over took h turn = absurd turn
    go next_line.NoMemory over took h turn = absurd turn

-- the bytes behind the lines
seen_rest : (lines : List (List ℕ)) (left w got left₁ left₂ : List ℕ)
    → LinesSeen lines left (w ++ left₁) → left₁ ≡ got ++ left₂
    → LinesSeen lines left ((w ++ got) ++ left₂)
seen_rest lines left w got left₁ left₂ s e =
    subst (λ l. LinesSeen lines left l) (ap (λ l. w ++ l) e ∙ sym (append_assoc w got left₂)) s

-- nothing stands behind the lines
seen_all : (lines : List (List ℕ)) (left w got left₁ left₂ : List ℕ)
    → LinesSeen lines left (w ++ left₁) → left₁ ≡ got ++ left₂ → w ++ got ≡ [] → left₂ ≡ []
    → lines ≡ lines_of left
seen_all lines left w got left₁ left₂ s e none end =
    let r = seen_rest lines left w got left₁ left₂ s e in
    let all : left ≡ r.input =
    r.left_is ∙ (λ i. r.input ++ (none i ++ end i)) ∙ append-nil r.input in
    r.lines_is ∙ ap lines_of (sym all)

-- what stands behind no bytes is nothing
behind_none : (w left : List ℕ) → w ++ left ≡ [] → left ≡ []
behind_none [] left e = e
behind_none (b ∷ w) left e = absurd (omega (arith, ap length e))

-- the effects of a line that was cut off, behind those of the lines before
stops_line : (readings : List (Option LineView)) (r : Option LineView) (old : CountsView)
    (lines : ℕ) (a b c : Stage)
    → lines ≡ length readings → old ≡ counts_after no_counts readings → StageKeeps a b
    → Plays (effects_from 1 no_counts readings) a b → Stops (line_effects (lines + 1) r old) b c
    → Stops (effects_from 1 no_counts (readings ++ r ∷ [])) a c
stops_line readings r old lines a b c number counts keeps plays stops =
    let n : lines + 1 ≡ 1 + length readings = omega (arith, number) in
    subst (λ es. Stops es a c) (sym (effects_push 1 no_counts readings r))
    (plays_stops (effects_from 1 no_counts readings)
    (line_effects (1 + length readings) r (counts_after no_counts readings)) a b c keeps plays
    (subst (λ v. Stops (line_effects (1 + length readings) r v) b c) counts
    (subst (λ k. Stops (line_effects k r old) b c) n stops)))

-- the tracker ends
pub concludes : (source from to : SourceView) (a b c : Stage) (reader reader' : ReaderView)
    (old : CountsView) (answer : NextLine) (number : ℕ) (end : Tracked)
    → number ≡ reader'.lines + 1 → (source.told → from.told) → StageKeeps a b
    → Going source (waiting reader ++ from.left) a b reader old
    → (reader.ended ≡ true → answer ≡ next_line.End) → NextStep reader reader' from to answer
    → Concludes end number answer old b c → Tracks source to a c end
concludes source from to a b c reader reader' old answer number end next st keeps going over step =
    go end
  where
    w : List ℕ
    w = waiting reader

    bytes : List ℕ
    bytes = waiting reader ++ step.got

    -- the bytes behind the lines, where the end wasn't met before
    rest : reader.ended ≡ false → source.told → from.left ≡ step.got ++ to.left
        → LinesSeen going.lines source.left ((waiting reader ++ step.got) ++ to.left)
    rest on t took =
        seen_rest going.lines source.left (waiting reader) step.got from.left to.left
        (going.seen t on) took

    -- where the end was met before, the source had nothing left
    knows : source.told → KnowsEnd reader from
    knows t = λ met. behind_none (waiting reader) from.left (going.whole t met).1

    -- at the end all lines were seen
    at_end : (from.told → from.left ≡ step.got ++ to.left) → bytes ≡ [] → reader'.ended ≡ true
        → source.told → SeenAll going.lines source.left to.left
    at_end took none met t =
        let last : to.left ≡ [] = step.end_is (st t) (knows t) met in (
          elim reader.ended as (λ v. reader.ended ≡ v → going.lines ≡ lines_of source.left) [
            | true ↦ λ before. (going.whole t before).0
            | false ↦ λ on. seen_all going.lines source.left (waiting reader) step.got from.left
                to.left (going.seen t on) (took (st t)) none last
          ] refl,
          last,
        )

    -- no more was there than was taken
    few : (from.told → from.left ≡ step.got ++ to.left) → reader'.ended ≡ true → source.told
        → length source.left ≤ MOST_INPUT_BYTES
    few took met t =
        let last : length to.left ≡ 0 = ap length (step.end_is (st t) (knows t) met) in
        let all : length from.left ≡ length step.got + length to.left =
        ap length (took (st t)) ∙ length-append step.got to.left in
        omega (arith, going.taken_is t, last, all, step.taken_is, step.most, length-append (waiting reader) from.left)

    -- one more line was seen
    line_seen : (number : ℕ) → reader.ended ≡ false → Passes reader reader' bytes number
        → 0 < length bytes → source.told → from.left ≡ step.got ++ to.left
        → LinesSeen (going.lines ++ first_line bytes ∷ []) source.left (waiting reader' ++ to.left)
        ⊎ SeenAll (going.lines ++ first_line bytes ∷ []) source.left (waiting reader' ++ to.left)
    line_seen number on passes some t took =
        seen_either going.lines source.left (waiting reader) step.got from.left to.left
        (waiting reader') (going.seen t on) took some
        (last_left reader reader' from to bytes on passes.ended_is (step.end_is (st t)))
        passes.waiting_is

    cut : (answer : NextLine) → (reader.ended ≡ true → answer ≡ next_line.End)
        → (from.told → LeftIs answer step.got from to)
        → AnswersOver reader reader' (waiting reader ++ step.got) answer
        → HandlesSome answer old b c → TracksSome source to a c
    cut (next_line.Line number body) over took h turn =
        let on = still_going reader (next_line.Line number body) over (λ e. cc) in
        let short : nat_lt MOST_LINE_BYTES (length (first_line (waiting reader ++ step.got))) ≡
        false = subst (λ m. nat_lt m (length (first_line (waiting reader ++ step.got))) ≡ false)
        going.limit_is (of_or reader.long _ h.1).1 in
        record {
          lines = going.lines ++ first_line (waiting reader ++ step.got) ∷ [];
          readings = going.readings ++ turn.read ∷ [];
          open_line = waiting reader';
          read = readings_push going.lines going.readings (first_line (waiting reader ++ step.got))
              turn.read going.read
              (line_reading (waiting reader ++ step.got) body turn.read h.3 short turn.reading);
          seen = λ t. line_seen number on h.0 h.2 t (took (st t));
          stops = inl
              (stops_line going.readings turn.read old reader.lines a b c
              going.number_is going.counts_is keeps going.plays
              (subst (λ n. Stops (line_effects n turn.read old) b c) h.0.number_is turn.stops));
        }
    cut (next_line.TooLong number) over took h turn =
        let on = still_going reader (next_line.TooLong number) over (λ e. cc) in
        let long = over_of reader (waiting reader ++ step.got) going.short going.limit_is h.1 in
        record {
          lines = going.lines ++ first_line (waiting reader ++ step.got) ∷ [];
          readings = going.readings ++ None ∷ [];
          open_line = waiting reader';
          read = readings_push going.lines going.readings (first_line (waiting reader ++ step.got))
              None going.read (inl long);
          seen = λ t.
              line_seen number on h.0
              (some_bytes (waiting reader ++ step.got) (omega (arith, long))) t (took (st t));
          stops = inl
              (stops_line going.readings None old reader.lines a b c
              going.number_is going.counts_is keeps going.plays
              (subst (λ n. Stops (reports_bad n ∷ []) b c) h.0.number_is turn));
        }
    cut next_line.End over took h turn = record {
      lines = going.lines;
      readings = going.readings;
      open_line = [];
      read = going.read;
      seen = λ t. inr (at_end took h.2 h.3 t);
      stops = inr (
        λ t. at_end took h.2 h.3 t,
        plays_stops (effects_from 1 no_counts going.readings)
            (end_effects (counts_after no_counts going.readings)) a b c keeps going.plays
            (subst (λ v. Stops (end_effects v) b c) going.counts_is turn),
      );
    }
    cut next_line.TooMuch over took h turn = absurd turn
    cut next_line.ReadFault over took h turn = absurd turn
    cut next_line.NoMemory over took h turn = record {
      lines = going.lines;
      readings = going.readings;
      open_line = waiting reader ++ step.got;
      read = going.read;
      seen = λ t. inl (rest (still_going reader next_line.NoMemory over (λ e. cc)) t (took (st t)));
      stops = inl
          (plays_stop (effects_from 1 no_counts going.readings) a c
          (subst (λ x. PlaysAt a (effects_from 1 no_counts going.readings) (stage_point a) x)
          (sym turn) going.plays));
    }

    go : (end : Tracked) → Concludes end number answer old b c → Tracks source to a c end
    go tracked.Ended turn =
        let took = subst (λ x. from.told → LeftIs x step.got from to) turn.0 step.left_is in
        let h = subst (λ x. AnswersOver reader reader' (waiting reader ++ step.got) x) turn.0
        step.answer_is in
        record {
          lines = going.lines;
          readings = going.readings;
          read = going.read;
          seen = λ t. at_end took h.2 h.3 t;
          few = λ t. few took h.3 t;
          plays =
              plays_trans (effects_from 1 no_counts going.readings)
              (end_effects (counts_after no_counts going.readings)) a b c keeps going.plays
              (subst (λ v. Plays (end_effects v) b c) going.counts_is turn.1);
        }
    go tracked.ReadFault turn =
        let took = subst (λ x. from.told → LeftIs x step.got from to) turn.0 step.left_is in
        let h = subst (λ x. AnswersOver reader reader' (waiting reader ++ step.got) x) turn.0
        step.answer_is in
        let on = still_going reader answer over (λ e. let is = turn.0 in cc) in record {
          lines = going.lines;
          readings = going.readings;
          open_line = waiting reader ++ step.got;
          read = going.read;
          none = h.1;
          seen = λ t. rest on t (took (st t));
          plays = subst (λ x. PlaysAt a (effects_from 1 no_counts going.readings) (stage_point a) x)
              (sym turn.1) going.plays;
        }
    go (tracked.TooMuch line) turn =
        let took = subst (λ x. from.told → LeftIs x step.got from to) turn.0 step.left_is in
        let h = subst (λ x. AnswersOver reader reader' (waiting reader ++ step.got) x) turn.0
        step.answer_is in
        let on = still_going reader answer over (λ e. let is = turn.0 in cc) in record {
          lines = going.lines;
          readings = going.readings;
          open_line = waiting reader ++ step.got;
          read = going.read;
          none = h.1;
          seen = λ t. (
            (took (st t)).0,
            seen_rest going.lines source.left (waiting reader) step.got from.left
                ((took (st t)).0 ∷ to.left) (going.seen t on) (took (st t)).1,
          );
          much = λ t.
              taken_much source.left step.got from.left to.left (waiting reader) (took (st t)).0
              reader.taken reader'.taken step.taken_is h.3 (took (st t)).1 (going.taken_is t);
          number_is = omega (arith, turn.2, next, h.0.lines_is, going.number_is);
          plays = subst (λ x. PlaysAt a (effects_from 1 no_counts going.readings) (stage_point a) x)
              (sym turn.1) going.plays;
        }
    go tracked.NoMemory turn = cut answer over step.left_is step.answer_is turn

-- nothing was read yet
pub going_start : (source : SourceView) (a : Stage) (reader : ReaderView) (counts : CountsView)
    → reader
    ≡ record {
      limit = MOST_LINE_BYTES;
      taken = 0;
      lines = 0;
      long = false;
      ended = false;
      front = [];
      rest =
          [];
    }
    → counts ≡ no_counts → Going source (waiting reader ++ source.left) a a reader counts
going_start source a reader counts reader_is counts_is = record {
  lines = [];
  readings = [];
  read = tt;
  seen = λ t on.
      record {
        input = [];
        left_is = sym (ap (λ v. waiting v ++ source.left) reader_is);
        lines_is = refl;
        ends = λ more. refl;
      };
  whole = λ t met. absurd (true≢false (sym met ∙ ap (λ v. v.ended) reader_is));
  taken_is = λ t.
      omega (arith, ap (λ v. v.taken) reader_is, length-append (waiting reader) source.left);
  number_is = ap (λ v. v.lines) reader_is;
  short = ap (λ v. v.long) reader_is;
  limit_is = ap (λ v. v.limit) reader_is;
  counts_is = counts_is;
  paths = subst HasPaths (sym counts_is) record { files = tt; semlocks = tt; folders = tt };
  plays = refl;
}

-- a first line is not empty
first_some : (bs : List ℕ) → 0 < length bs → 0 < length (first_line bs)
first_some [] lt = lt
first_some (b ∷ bs) lt = omega arith

-- a line that is passed leaves less to do
less_left : (bs w got w' : List ℕ) (taken taken' : ℕ) → bs ≡ w ++ got → 0 < length bs
    → w' ≡ behind_line bs → taken' ≡ taken + length got → taken' ≤ MOST_INPUT_BYTES
    → (MOST_INPUT_BYTES - taken') + length w' < (MOST_INPUT_BYTES - taken) + length w
less_left bs w got w' taken taken' is some next took most =
    let parts : length (first_line bs) + length (behind_line bs) ≡ length bs =
    sym (length-append (first_line bs) (behind_line bs)) ∙ ap length (line_split bs) in
    let all : length bs ≡ length w + length got = ap length is ∙ length-append w got in
    let one : 0 < length (first_line bs) = first_some bs some in
    let same : length w' ≡ length (behind_line bs) = ap length next in
    omega (arith, parts, all, one, same, took, most)

-- each turn leaves less to do
pub smaller : (from to : SourceView) (reader reader' : ReaderView) (answer : NextLine)
    (old new : CountsView) (a b : Stage)
    → reader.long ≡ false → reader.limit ≡ MOST_LINE_BYTES → NextStep reader reader' from to answer
    → Handles answer old new a b
    → (MOST_INPUT_BYTES - reader'.taken) + length (waiting reader') <
    (MOST_INPUT_BYTES - reader.taken) + length (waiting reader)
smaller from to reader reader' answer old new a b short limit step h = go answer step.answer_is h
  where
    go : (answer : NextLine) → AnswersOver reader reader' (waiting reader ++ step.got) answer
        → Handles answer old new a b
        → (MOST_INPUT_BYTES - reader'.taken) + length (waiting reader') <
        (MOST_INPUT_BYTES - reader.taken) + length (waiting reader)
    go (next_line.Line number body) h turn =
        less_left (waiting reader ++ step.got) (waiting reader) step.got (waiting reader')
        reader.taken reader'.taken refl h.2 h.0.waiting_is step.taken_is step.most
    go (next_line.TooLong number) h turn =
        less_left (waiting reader ++ step.got) (waiting reader) step.got (waiting reader')
        reader.taken reader'.taken refl
        (some_bytes (waiting reader ++ step.got)
        (omega (arith, over_of reader (waiting reader ++ step.got) short limit h.1)))
        h.0.waiting_is step.taken_is step.most
    go next_line.End h turn = absurd turn
    go next_line.TooMuch h turn = absurd turn
    go next_line.ReadFault h turn = absurd turn
    go next_line.NoMemory h turn = absurd turn

-- a tracker that goes on met no fault of its source
pub no_fault : (answer : NextLine) (old new : CountsView) (a b : Stage) → Handles answer old new a b
    → answer ≡ next_line.ReadFault → ⊥
no_fault (next_line.Line number body) old new a b h e = cc
no_fault (next_line.TooLong number) old new a b h e = cc
no_fault next_line.End old new a b h e = h
no_fault next_line.TooMuch old new a b h e = h
no_fault next_line.ReadFault old new a b h e = h
no_fault next_line.NoMemory old new a b h e = h

-- a tracker that ends by a fault of its source read one just then, and the other way round
fault_of : (end : Tracked) (number : ℕ) (answer : NextLine) (old : CountsView) (a b : Stage)
    → Concludes end number answer old a b
    → (answer ≡ next_line.ReadFault → end ≡ tracked.ReadFault)
    × (end ≡ tracked.ReadFault → answer ≡ next_line.ReadFault)
fault_of tracked.Ended number answer old a b h = let is = h.0 in (λ e. cc, λ e. cc)
fault_of tracked.ReadFault number answer old a b h = (λ e. refl, λ e. h.0)
fault_of (tracked.TooMuch line) number answer old a b h = let is = h.0 in (λ e. cc, λ e. cc)
fault_of tracked.NoMemory number answer old a b h =
    (λ e. absurd (subst (λ x. HandlesSome x old a b) e h), λ e. cc)

-- the faults of the source are those of its last read
pub fault_ends : (source from to : SourceView) (a b : Stage) (answer : NextLine) (number : ℕ)
    (end : Tracked) (old : CountsView)
    → (source.told → from.told) → from.faults ≡ source.faults
    → SourceAnswers (answer ≡ next_line.ReadFault) from to → Concludes end number answer old a b
    → SourceAnswers (end ≡ tracked.ReadFault) source to
fault_ends source from to a b answer number end old told steady q h =
    let is = fault_of end number answer old a b h in record {
      told = λ t. q.told (told t);
      faults = record {
        later = omega (arith, steady, q.faults.later);
        failed = λ e. subst (λ n. Rose n to.faults) steady (q.faults.failed (is.1 e));
        steady = λ fine. q.faults.steady (λ e. fine (is.0 e)) ∙ steady;
      };
    }
