-- How a run of the tracker ends.
use Rattle.std.proofs.Common.{◌≡◌, ◌∙◌, ◌⊎◌, inl, inr, ℕ, ◌+◌, ◌<◌, ◌≤◌, List, [], ◌∷◌, ◌++◌, length, take, Bool, true, false, ◌||◌, cond, if◌then◌else◌, Option, Some, refl, sym, ap, subst, arith, append-nil, length-append, true≢false}
use Rattle.std.proofs.lemmas.List.{append_assoc}
use Rattle.std.proofs.lemmas.Bool.{lt-ltb, le-ltb}
use Rattle.std.proofs.Math.Seq.{take-append_seam}
use Rattle.jl_text.specs.Counts.{Rose}
use Rattle.jl_text.specs.declared.limits.TheConstants.{MOST_INPUT_BYTES}
use Rattle.jl_folder.specs.Views.{FolderView}
use Rattle.jl_streams.specs.Views.{SourceView, SinkView}
use Rattle.jl_lines.specs.Lines.{is_newline, has_newline, lines_of, put_before}
use Rattle.jl_tracker.specs.declared.following.Tracked.{Tracked}
use Rattle.jl_tracker.specs.declared.following.Tracked.TheVariants as tracked
use Rattle.jl_tracker.specs.TrackerLines.{LineView}
use Rattle.jl_tracker.specs.Effects.{Effect, AreReadings, text_of}
use Rattle.jl_tracker.specs.Stages.{Stage, SinkPoint, sink_point, StagePoint, stage_point, stage}
use Rattle.jl_tracker.specs.Plays.{Wrote, PlaysAt, CutFirst, StopsAt}
use Rattle.jl_tracker.specs.Tracking.{EndsLines, LinesSeen, Tracks, TracksMuch}
use Rattle.jl_cmd.specs.declared.ended.Ended.{Ended}
use Rattle.jl_cmd.specs.declared.ended.Ended.TheVariants.{Done, ReadFault, NoMemory}
use Rattle.jl_cmd.specs.Commands.{tracker}
use Rattle.jl_cmd.specs.Course.{Course, IsClear}
use Rattle.jl_cmd.specs.Output.{newlines, refuses_input, tracker_output}
use Rattle.jl_cmd.specs.Endings.{WritesNothing, status_of, last_text}
use Rattle.jl_cmd.specs.Met.{of_nothing}
use Rattle.jl_cmd.specs.of.Track.{EndsTracked, FollowsLines, RunsTracker}
use Rattle.jl_cmd.specs.Reporting.{sink_at}
use Rattle.jl_cmd.specs.Saying.{TellsBehind}
use Rattle.jl_cmd.specs.Statuses as status
use Rattle.jl_cmd.proofs.EndingLemmas.{Finished, finished_so, finished_short}
use Rattle.jl_cmd.proofs.TrackerMoves.{tracks_nothing, asks_nothing}

-- ---- the number of the line that is read

-- a byte before lines makes no more of them
put-length : (b n : ℕ) (ls : List (List ℕ)) → length ls ≡ n + 1 → length (put_before b ls) ≡ n + 1
put-length b n [] e = absurd (omega (arith, e))
put-length b n (l ∷ ls) e = e

step-length : (b n : ℕ) (t : Bool) (ls : List (List ℕ)) → length ls ≡ n + 1 → length (cond t ((b ∷ []) ∷ ls) (put_before b ls)) ≡ cond t (1 + n) n + 1
step-length b n true ls e = omega (arith, e)
step-length b n false ls e = put-length b n ls e

-- a byte that ends no line makes one more line
open-length : (bs : List ℕ) → length (lines_of (bs ++ 0 ∷ [])) ≡ newlines bs + 1
open-length [] = refl
open-length (b ∷ bs) = step-length b (newlines bs) (is_newline b) (lines_of (bs ++ 0 ∷ [])) (open-length bs)

-- bytes that end with a line have as many lines as newlines
ends-length : (bs : List ℕ) → EndsLines bs → length (lines_of bs) ≡ newlines bs
ends-length bs ends = omega (arith, open-length bs, ap length (ends (0 ∷ [])), length-append (lines_of bs) (lines_of (0 ∷ [])))

cond-add : (t : Bool) (m n : ℕ) → cond t (1 + (m + n)) (m + n) ≡ cond t (1 + m) m + n
cond-add true m n = omega arith
cond-add false m n = refl

newlines-append : (xs ys : List ℕ) → newlines (xs ++ ys) ≡ newlines xs + newlines ys
newlines-append [] ys = omega arith
newlines-append (x ∷ xs) ys = ap (λ (n : ℕ). cond (is_newline x) (1 + n) n) (newlines-append xs ys) ∙ cond-add (is_newline x) (newlines xs) (newlines ys)

no-newline : (t u : Bool) (n : ℕ) → (t || u) ≡ false → (u ≡ false → n ≡ 0) → cond t (1 + n) n ≡ 0
no-newline true u n e rest = absurd (true≢false e)
no-newline false u n e rest = rest e

newlines-none : (bs : List ℕ) → has_newline bs ≡ false → newlines bs ≡ 0
newlines-none [] e = refl
newlines-none (b ∷ bs) e = no-newline (is_newline b) (has_newline bs) (newlines bs) e (newlines-none bs)

readings-length : (lines : List (List ℕ)) (readings : List (Option LineView)) → AreReadings lines readings → length readings ≡ length lines
readings-length [] [] h = refl
readings-length [] (r ∷ rs) h = absurd h
readings-length (l ∷ ls) [] h = absurd h
readings-length (l ∷ ls) (r ∷ rs) h = let e = readings-length ls rs h.1 in omega (arith, e)

-- the lines that were read end with as many newlines as stand among the first bytes
first_newlines : (lines : List (List ℕ)) (left rest more : List ℕ) (byte m : ℕ) → (s : LinesSeen lines left (rest ++ byte ∷ more)) → has_newline rest ≡ false → m + (1 + length more) ≡ length left → newlines (take m left) ≡ length lines
first_newlines lines left rest more byte m s none much =
    let front : List ℕ = s.input ++ rest in
    let is : left ≡ front ++ byte ∷ more = s.left_is ∙ sym (append_assoc s.input rest (byte ∷ more)) in
    let count : m ≡ length front = omega (arith, much, ap length is, length-append front (byte ∷ more)) in
    (λ i. newlines (take (count i) (is i)))
    ∙ ap newlines (take-append_seam front (byte ∷ more))
    ∙ newlines-append s.input rest
    ∙ ap (λ (n : ℕ). newlines s.input + n) (newlines-none rest none)
    ∙ omega (arith, ends-length s.input s.ends, ap length s.lines_is)

-- ---- the output

few_output : (input : List ℕ) → length input ≤ MOST_INPUT_BYTES → tracker_output input ≡ record { bytes = []; status = status.done; text = [] }
unfolding tracker_output
few_output input few = ap (λ (b : Bool). if b then refuses_input (1 + newlines (take MOST_INPUT_BYTES input)) else record { bytes = []; status = status.done; text = [] }) (le-ltb MOST_INPUT_BYTES (length input) few)

much_output : (input : List ℕ) (n : ℕ) → MOST_INPUT_BYTES < length input → n ≡ 1 + newlines (take MOST_INPUT_BYTES input) → tracker_output input ≡ refuses_input n
unfolding tracker_output
much_output input n much is =
    ap (λ (b : Bool). if b then refuses_input (1 + newlines (take MOST_INPUT_BYTES input)) else record { bytes = []; status = status.done; text = [] }) (lt-ltb MOST_INPUT_BYTES (length input) much)
    ∙ ap refuses_input (sym is)

-- the input was too much, and this is the number of the line that was being read
too_much : (source rest : SourceView) (a b : Stage) (line : ℕ) → TracksMuch source rest a b line → source.told → tracker_output source.left ≡ refuses_input line
too_much source rest a b line t told =
    let seen = t.seen told in
    let much = t.much told in
    much_output source.left line (omega (arith, much))
    (t.number_is ∙ ap (λ (n : ℕ). 1 + n) (readings-length t.lines t.readings t.read ∙ sym (first_newlines t.lines source.left t.open_line rest.left seen.0 MOST_INPUT_BYTES seen.1 t.none much)))

-- ---- the ending

module _ (w : Course) (a b : Stage) where
  ended : (end : Tracked) (e : Ended) → WritesNothing w.out w.out' → (e ≡ ReadFault → Rose w.input.faults w.input'.faults) → Tracks w.input w.input' a b end → EndsTracked end e → Finished (Some tracker) w of_nothing e
  ended tracked.Ended e nothing rose t is =
      subst (λ (e' : Ended). Finished (Some tracker) w of_nothing e') (sym is)
      (finished_so tracker w of_nothing tt w.input.told Done refl (λ p. p.input)
      (λ told. let o_is = few_output w.input.left (t.few told) in (ap (λ o. o.status) o_is, ap (λ o. o.text) o_is, λ out. nothing out ∙ sym (append-nil w.out.written) ∙ ap (λ o. w.out.written ++ o.bytes) (sym o_is))))
  ended tracked.ReadFault e nothing rose t is = subst (λ (e' : Ended). Finished (Some tracker) w of_nothing e') (sym is) (finished_short tracker w of_nothing ReadFault tt tt (tt, rose is) nothing)
  ended (tracked.TooMuch line) e nothing rose t (inl is) =
      subst (λ (e' : Ended). Finished (Some tracker) w of_nothing e') (sym is) (record {
        ends = tt;
        puts = λ p.
            let o_is = too_much w.input w.input' a b line t p.input in
            record {
              is_met = refl;
              status = ap (λ o. o.status) o_is;
              text = ap (λ o. o.text) o_is;
              written = λ told. nothing told ∙ sym (append-nil w.out.written) ∙ ap (λ o. w.out.written ++ o.bytes) (sym o_is);
            };
        withholds = λ buffered un. nothing;
      })
  ended (tracked.TooMuch line) e nothing rose t (inr is) = subst (λ (e' : Ended). Finished (Some tracker) w of_nothing e') (sym is) (finished_short tracker w of_nothing NoMemory tt tt tt nothing)
  ended tracked.NoMemory e nothing rose t is = subst (λ (e' : Ended). Finished (Some tracker) w of_nothing e') (sym is) (finished_short tracker w of_nothing NoMemory tt tt tt nothing)

pub follows_ends : (w : Course) (err err' : SinkView) (e : Ended) → WritesNothing w.out w.out' → (e ≡ ReadFault → Rose w.input.faults w.input'.faults) → FollowsLines w.input w.input' w.folder w.folder' err err' e → Finished (Some tracker) w of_nothing e
follows_ends w err err' e nothing rose f = ended w (stage w.folder err) (stage w.folder' err') f.tracked e nothing rose f.tracks f.ends

-- ---- the texts

-- what a part of the run said: the count of faults doesn't fall, and where it doesn't rise, bytes were written behind the others
abbrev Says : SinkPoint → SinkPoint → Type 0
Says a b = (a.faults ≤ b.faults) × ((Rose a.faults b.faults → ⊥) → (said : List ℕ) × (b.written ≡ a.written ++ said))

says_text : (text : List ℕ) (a b : SinkPoint) → Wrote text a b → Says a b
says_text text a b (later, inl is) = (later, λ clear. (text, is.0))
says_text text a b (later, inr h) = (later, λ clear. absurd (clear h.1))

says_same : (a b : SinkPoint) → b ≡ a → Says a b
says_same a b is = let same : b.faults ≡ a.faults = ap (λ (x : SinkPoint). x.faults) is in (omega (arith, same), λ clear. ([], ap (λ (x : SinkPoint). x.written) is ∙ sym (append-nil a.written)))

says_then : (a m b : SinkPoint) → Says a m → Says m b → Says a b
says_then a m b x y =
    let first : Rose a.faults m.faults → Rose a.faults b.faults = λ rose. omega (arith, rose, y.0) in
    let second : Rose m.faults b.faults → Rose a.faults b.faults = λ rose. omega (arith, rose, x.0) in (
      omega (arith, x.0, y.0),
      λ clear.
          let p = x.1 (λ r. clear (first r)) in
          let q = y.1 (λ r. clear (second r)) in
          (p.0 ++ q.0, q.1 ∙ ap (λ (t : List ℕ). t ++ q.0) p.1 ∙ append_assoc a.written p.0 q.0),
    )

module _ (s : Stage) where
  plays_says : (es : List Effect) (a b : StagePoint) → s.err.told → PlaysAt s es a b → Says a.err b.err
  plays_says [] a b told h = says_same a.err b.err (ap (λ (x : StagePoint). x.err) h)
  plays_says (e ∷ es) a b told h = says_then a.err h.1.err b.err (says_text (text_of e h.0) a.err h.1.err (h.2.text told)) (plays_says es h.1 b told h.3)

  cut_says : (es : List Effect) (a b : StagePoint) → CutFirst s es a b → Says a.err b.err
  cut_says [] a b h = says_same a.err b.err (ap (λ (x : StagePoint). x.err) h)
  cut_says (e ∷ es) a b (inl h) = says_same a.err b.err (ap (λ (x : StagePoint). x.err) h)
  cut_says (e ∷ es) a b (inr h) = says_same a.err b.err h.err_is

  stops_says : (es : List Effect) (a b : StagePoint) → s.err.told → StopsAt s es a b → Says a.err b.err
  stops_says es a b told h = says_then a.err h.mid.err b.err (plays_says h.first a h.mid told h.plays) (cut_says h.rest h.mid b h.cut)

tracks_says : (source rest : SourceView) (a b : Stage) (end : Tracked) → a.err.told → Tracks source rest a b end → Says (sink_point a.err) (sink_point b.err)
tracks_says source rest a b tracked.Ended told t = plays_says a _ (stage_point a) (stage_point b) told t.plays
tracks_says source rest a b tracked.ReadFault told t = plays_says a _ (stage_point a) (stage_point b) told t.plays
tracks_says source rest a b (tracked.TooMuch line) told t = plays_says a _ (stage_point a) (stage_point b) told t.plays
tracks_says source rest a b tracked.NoMemory told t = elim t.stops [ inl h ↦ stops_says a _ (stage_point a) (stage_point b) told h | inr h ↦ stops_says a _ (stage_point a) (stage_point b) told h.1 ]

-- ---- at want of memory for the words

pub follows_nothing : (folder : FolderView) (input : SourceView) (err : SinkView) → FollowsLines input input folder folder err err NoMemory
follows_nothing folder input err = record { tracked = tracked.NoMemory; tracks = tracks_nothing input (stage folder err); moves = λ told. asks_nothing input folder; ends = refl }

-- ---- the run, once the last text is written

-- what came about is told of the bytes and of the count alone
tracks_as : (source rest : SourceView) (a : Stage) (folder : FolderView) (err mid : SinkView) (end : Tracked) → Tracks source rest a (stage folder mid) end → Tracks source rest a (stage folder (sink_at err (sink_point mid))) end
tracks_as source rest a folder err mid tracked.Ended t = record { lines = t.lines; readings = t.readings; read = t.read; seen = t.seen; few = t.few; plays = t.plays }
tracks_as source rest a folder err mid tracked.ReadFault t = record { lines = t.lines; readings = t.readings; open_line = t.open_line; read = t.read; none = t.none; seen = t.seen; plays = t.plays }
tracks_as source rest a folder err mid (tracked.TooMuch line) t = record {
  lines = t.lines;
  readings = t.readings;
  open_line = t.open_line;
  read = t.read;
  none = t.none;
  seen = t.seen;
  much = t.much;
  number_is = t.number_is;
  plays = t.plays;
}
tracks_as source rest a folder err mid tracked.NoMemory t = record { lines = t.lines; readings = t.readings; open_line = t.open_line; read = t.read; seen = t.seen; stops = t.stops }

-- and so is how the run went
pub follows_at : (w : Course) (err mid : SinkView) (e : Ended) → FollowsLines w.input w.input' w.folder w.folder' err mid e → FollowsLines w.input w.input' w.folder w.folder' err (sink_at err (sink_point mid)) e
follows_at w err mid e f = record { tracked = f.tracked; tracks = tracks_as w.input w.input' (stage w.folder err) w.folder' err mid f.tracked f.tracks; moves = f.moves; ends = f.ends }

-- the texts of the tracker stand behind the others
pub follows_tells : (w : Course) (err : SinkView) (point : SinkPoint) (e : Ended) → FollowsLines w.input w.input' w.folder w.folder' err (sink_at err point) e → TellsBehind (Some tracker) err point
follows_tells w err point e f = record {
  quiet = λ none. absurd (none tt);
  behind = λ clear. (tracks_says w.input w.input' (stage w.folder err) (stage w.folder' (sink_at err point)) f.tracked clear.0 f.tracks).1 clear.1;
}

pub runs_tracker : (w : Course) (err : SinkView) (point : SinkPoint) (err' : SinkView) (e : Ended) (lines : List ℕ) (n : ℕ) → n ≡ status_of e → point.faults ≤ err'.faults → (IsClear (sink_at err point) err' → err'.written ≡ point.written ++ (lines ++ last_text e)) → lines ≡ [] → FollowsLines w.input w.input' w.folder w.folder' err (sink_at err point) e → RunsTracker w err err' n
runs_tracker w err point err' e lines n is later text warned follows = record {
  ended = e;
  point = point;
  follows = follows;
  later = later;
  status = is;
  text = λ clear. text clear ∙ ap (λ (t : List ℕ). point.written ++ (t ++ last_text e)) warned;
}
