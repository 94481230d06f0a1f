-- clap's walk over the words of a command, beside our own.
use Rattle.std.proofs.Common.{◌≡◌, ℕ, List, [], ◌∷◌, ◌++◌, Bool, true, false, ◌&&◌, Option, Some, None, option_map, refl, sym, ap, ◌∙◌, subst, is_some, cond}
use Rattle.std.specs.Option.{option_map_or}
use Rattle.std.specs.Str.{bytes_eq}
use Rattle.std.proofs.lemmas.List.{append-nil}
use Rattle.clap.specs.Words.{Row}
use Rattle.clap.specs.Lexer.{long_of, short_of}
use Rattle.clap.specs.Walk.{Walk, Held, Waiting, idle, option, positional, walked, settled, reacted, at_row, has_row, used, used_by_id, pushed, is_pending, more_values, all_of, reading_by, arg_by_id, arg_by_long}
use Rattle.clap.specs.Kinds.{or_else}
use Rattle.clap.specs.Faults.{turn_fault, react_fault, use_fault, settle_fault}
use Rattle.clap.specs.declared.parser.matches.ValueSource.TheVariants.{CommandLine}
use Rattle.jl_words.specs.Reading.{Text, Use, is_dashes, value_among}
use Rattle.jl_words.specs.Parsing.{plain_id, plain_values, has_option, IsFree}
use Rattle.jl_words.proofs.ParsedRows.{or_else_some, has-all, at_row-new, all-append, all-more, all-others, same_text, itself, true≢false'}
use Rattle.jl_words.proofs.ParsedRules.{words_arg, option_arg, rules, shape, by_id, not_plain}

-- ---- what the rows hold

abbrev pub single : Text → List Text
single v = v ∷ []

pub record Agrees (names : List Text) (given : List Use) (plain : List Text) (rows : List Row) : Type 0 where
  pub options : (n : Text) → has_option n names ≡ true → all_of n rows ≡ option_map single (value_among given n)
  pub words : all_of plain_id rows ≡ plain_values plain

abbrev pub use_of : Text → Text → Use
use_of n v = record { name = n; value = v }

abbrev pub row : Text → Text → Row
row n v = record { id = n; values = v ∷ []; count = None; source = Some CommandLine; reading = reading_by (option_arg n) }

abbrev pub word_row : Text → Row
word_row w = record { id = plain_id; values = w ∷ []; count = None; source = Some CommandLine; reading = reading_by words_arg }

pub absent : (names : List Text) (given : List Use) (plain : List Text) (rows : List Row) (n : Text) → Agrees names given plain rows → has_option n names ≡ true → value_among given n ≡ None → has_row n rows ≡ false
absent names given plain rows n a k new = has-all n rows ∙ ap is_some (a.options n k ∙ ap (option_map single) new)

used_is : (rows : List Row) (n v : Text) → has_row n rows ≡ false → used (option_arg n) (v ∷ []) rows ≡ rows ++ row n v ∷ []
used_is rows n v new =
    ap (at_row n (more_values CommandLine (v ∷ [])) (row n v ∷ [])) (at_row-new n (λ _. []) [] rows new ∙ append-nil rows)
    ∙ at_row-new n (more_values CommandLine (v ∷ [])) (row n v ∷ []) rows new

values_join : (n v : Text) (o : Option Text) (b : Bool)
    → or_else_some (option_map single o) (option_map (λ (r : Row). r.values) (cond b (Some (row n v)) None)) ≡ option_map single (or_else_some o (option_map (λ (u : Use). u.value) (cond b (Some (use_of n v)) None)))
values_join n v None true = refl
values_join n v None false = refl
values_join n v (Some w) b = refl

pub value-append : (given more : List Use) (m : Text) → value_among (given ++ more) m ≡ or_else_some (value_among given m) (value_among more m)
value-append [] more m = refl
value-append (u ∷ us) more m = by (bytes_eq u.name m) refl (value-append us more m)
  where
    by : (b : Bool) → bytes_eq u.name m ≡ b → value_among (us ++ more) m ≡ or_else_some (value_among us m) (value_among more m) → value_among (u ∷ (us ++ more)) m ≡ or_else_some (value_among (u ∷ us) m) (value_among more m)
    by true e again = rw e refl
    by false e again = rw e again

pub or_none : {A : Type 0} (o : Option A) → or_else_some o None ≡ o
or_none None = refl
or_none (Some a) = refl

differ : (a b : Text) → bytes_eq a b ≡ false → bytes_eq b a ≡ false
differ a b d = by (bytes_eq b a) refl
  where
    by : (c : Bool) → bytes_eq b a ≡ c → bytes_eq b a ≡ false
    by true e = absurd (true≢false' (sym (itself a) ∙ ap (bytes_eq a) (sym (same_text b a e)) ∙ d))
    by false e = e

option_used : (names : List Text) (given : List Use) (plain : List Text) (rows : List Row) (n v : Text) → IsFree names → Agrees names given plain rows → has_option n names ≡ true → value_among given n ≡ None
    → Agrees names (given ++ use_of n v ∷ []) plain (used (option_arg n) (v ∷ []) rows)
option_used names given plain rows n v free a k new =
    let is : used (option_arg n) (v ∷ []) rows ≡ rows ++ row n v ∷ [] = used_is rows n v (absent names given plain rows n a k new) in
    record {
      options = λ m km. ap (all_of m) is ∙ all-append m rows (row n v ∷ []) ∙ ap (λ o. or_else_some o (all_of m (row n v ∷ []))) (a.options m km)
          ∙ values_join n v (value_among given m) (bytes_eq n m) ∙ sym (ap (option_map single) (value-append given (use_of n v ∷ []) m));
      words = ap (all_of plain_id) is ∙ all-append plain_id rows (row n v ∷ [])
          ∙ ap (λ b. or_else_some (all_of plain_id rows) (option_map (λ (r : Row). r.values) (cond b (Some (row n v)) None))) (differ plain_id n (not_plain names n free k))
          ∙ or_none (all_of plain_id rows) ∙ a.words;
    }

plain_used : (names : List Text) (given : List Use) (plain : List Text) (rows : List Row) (w : Text) → IsFree names → Agrees names given plain rows → Agrees names given (plain ++ w ∷ []) (used words_arg (w ∷ []) rows)
plain_used names given [] rows w free a =
    let new : has_row plain_id rows ≡ false = has-all plain_id rows ∙ ap is_some a.words in
    let is : used words_arg (w ∷ []) rows ≡ rows ++ word_row w ∷ [] = at_row-new plain_id (more_values CommandLine (w ∷ [])) (word_row w ∷ []) rows new in
    record {
      options = λ m km. ap (all_of m) is ∙ all-append m rows (word_row w ∷ [])
          ∙ ap (λ b. or_else_some (all_of m rows) (option_map (λ (r : Row). r.values) (cond b (Some (word_row w)) None))) (not_plain names m free km)
          ∙ or_none (all_of m rows) ∙ a.options m km;
      words = ap (all_of plain_id) is ∙ all-append plain_id rows (word_row w ∷ []) ∙ ap (λ o. or_else_some o (Some (w ∷ []))) a.words;
    }
plain_used names given (p ∷ ps) rows w free a =
    let some : has_row plain_id rows ≡ true = has-all plain_id rows ∙ ap is_some a.words in
    record {
      options = λ m km. all-others CommandLine plain_id m (w ∷ []) (word_row w ∷ []) rows (not_plain names m free km) some ∙ a.options m km;
      words = all-more CommandLine plain_id (w ∷ []) (word_row w ∷ []) rows (p ∷ ps) a.words;
    }

pub option_fault : (rows : List Row) (n v : Text) → has_row n rows ≡ false → use_fault false (option_arg n) (v ∷ []) rows ≡ []
option_fault rows n v new = rw new refl

plain_fault : (rows : List Row) (w : Text) → use_fault false words_arg (w ∷ []) rows ≡ []
plain_fault rows w = refl

-- ---- clap's state between two words

abbrev pub at : Bool → Waiting → Held → Walk
at b wait h = record { held = h; waiting = wait; position = 1; is_trailing = b; stopped = None }

abbrev pub resting : Bool → Waiting
resting true = positional
resting false = idle

-- what is held settles as these options and plain words
pub record Settles (names : List Text) (given : List Use) (plain : List Text) (h : Held) : Type 0 where
  pub agrees : Agrees names given plain (settled (rules names) h).rows
  pub fault : settle_fault (rules names) false h ≡ []

pub plain_settles : (names : List Text) (given : List Use) (plain : List Text) (h : Held) (w : Text) → IsFree names → Settles names given plain h → Settles names given (plain ++ w ∷ []) (pushed plain_id w (settled (rules names) h))
plain_settles names given plain h w free s = record {
  agrees = plain_used names given plain (settled (rules names) h).rows w free s.agrees;
  fault = plain_fault (settled (rules names) h).rows w;
}

pub whole_settles : (names : List Text) (given : List Use) (plain : List Text) (h : Held) (n v : Text) → IsFree names → Settles names given plain h → has_option n names ≡ true → value_among given n ≡ None
    → Settles names (given ++ use_of n v ∷ []) plain (reacted (rules names) (option_arg n) (v ∷ []) h)
whole_settles names given plain h n v free s k new = record {
  agrees = option_used names given plain (settled (rules names) h).rows n v free s.agrees k new;
  fault = refl;
}

abbrev pub held_with : List Row → ℕ → Text → List Text → Held
held_with rows skip n vs = record { rows = rows; pending = Some (n, vs); skip = skip }

pub value_settles : (names : List Text) (given : List Use) (plain : List Text) (rows : List Row) (skip : ℕ) (n v : Text) → IsFree names → Agrees names given plain rows → has_option n names ≡ true → value_among given n ≡ None
    → Settles names (given ++ use_of n v ∷ []) plain (held_with rows skip n (v ∷ []))
value_settles names given plain rows skip n v free a k new =
    let arg : arg_by_id (rules names) n ≡ Some (option_arg n) = by_id names n free k in
    record {
      agrees = subst (λ rs. Agrees names (given ++ use_of n v ∷ []) plain rs) (sym (ap (λ o. used_by_id o (v ∷ []) rows) arg)) (option_used names given plain rows n v free a k new);
      fault = ap (λ o. option_map_or (λ a'. use_fault false a' (v ∷ []) rows) o []) arg ∙ option_fault rows n v (absent names given plain rows n a k new);
    }

pub and-false : (b : Bool) → (b && false) ≡ false
and-false true = refl
and-false false = refl

pub trailing_step : (names : List Text) (q : Bool) (h : Held) (w : Text) → walked (rules names) [] (at true (resting q) h) w ≡ at true positional (pushed plain_id w (settled (rules names) h))
unfolding walked
trailing_step names q h w = rw (and-false (is_pending words_arg h.pending)) refl

pub trailing_turn : (names : List Text) (q : Bool) (h : Held) (w : Text) → turn_fault (shape names) [] (at true (resting q) h) w ≡ settle_fault (rules names) false h
trailing_turn names q h w = rw (and-false (is_pending words_arg h.pending)) refl

pub plain_step : (names : List Text) (q : Bool) (h : Held) (w : Text) → is_dashes w ≡ false → long_of w ≡ None → short_of w ≡ None → walked (rules names) [] (at false (resting q) h) w ≡ at false positional (pushed plain_id w (settled (rules names) h))
unfolding walked
plain_step names true h w d l s = rw (d, l, s, and-false (is_pending words_arg h.pending)) refl
plain_step names false h w d l s = rw (d, l, s, and-false (is_pending words_arg h.pending)) refl

pub plain_turn : (names : List Text) (q : Bool) (h : Held) (w : Text) → is_dashes w ≡ false → long_of w ≡ None → short_of w ≡ None → turn_fault (shape names) [] (at false (resting q) h) w ≡ settle_fault (rules names) false h
plain_turn names true h w d l s = rw (d, l, s, and-false (is_pending words_arg h.pending)) refl
plain_turn names false h w d l s = rw (d, l, s, and-false (is_pending words_arg h.pending)) refl

pub dashes_step : (names : List Text) (q : Bool) (h : Held) (w : Text) → is_dashes w ≡ true → walked (rules names) [] (at false (resting q) h) w ≡ at true (resting q) h
unfolding walked
dashes_step names true h w d = rw d refl
dashes_step names false h w d = rw d refl

pub dashes_turn : (names : List Text) (q : Bool) (h : Held) (w : Text) → is_dashes w ≡ true → turn_fault (shape names) [] (at false (resting q) h) w ≡ []
dashes_turn names true h w d = rw d refl
dashes_turn names false h w d = rw d refl

pub whole_step : (names : List Text) (q : Bool) (h : Held) (w n v : Text) → is_dashes w ≡ false → long_of w ≡ Some (n, Some v) → arg_by_long (rules names) n ≡ Some (option_arg n)
    → walked (rules names) [] (at false (resting q) h) w ≡ at false idle (reacted (rules names) (option_arg n) (v ∷ []) h)
unfolding walked
whole_step names true h w n v d l a = rw (d, l, a) refl
whole_step names false h w n v d l a = rw (d, l, a) refl

pub whole_turn : (names : List Text) (q : Bool) (h : Held) (w n v : Text) → is_dashes w ≡ false → long_of w ≡ Some (n, Some v) → arg_by_long (rules names) n ≡ Some (option_arg n)
    → turn_fault (shape names) [] (at false (resting q) h) w ≡ or_else (react_fault (rules names) false (option_arg n) (v ∷ []) h) []
whole_turn names true h w n v d l a = rw (d, l, a) refl
whole_turn names false h w n v d l a = rw (d, l, a) refl

pub bare_step : (names : List Text) (q : Bool) (h : Held) (w n : Text) → is_dashes w ≡ false → long_of w ≡ Some (n, None) → arg_by_long (rules names) n ≡ Some (option_arg n)
    → walked (rules names) [] (at false (resting q) h) w ≡ at false (option n) (record (settled (rules names) h) { pending = Some (n, []) })
unfolding walked
bare_step names true h w n d l a = rw (d, l, a) refl
bare_step names false h w n d l a = rw (d, l, a) refl

pub bare_turn : (names : List Text) (q : Bool) (h : Held) (w n : Text) → is_dashes w ≡ false → long_of w ≡ Some (n, None) → arg_by_long (rules names) n ≡ Some (option_arg n)
    → turn_fault (shape names) [] (at false (resting q) h) w ≡ or_else (settle_fault (rules names) false h) []
bare_turn names true h w n d l a = rw (d, l, a) refl
bare_turn names false h w n d l a = rw (d, l, a) refl

pub value_step : (names : List Text) (rows : List Row) (skip : ℕ) (w n : Text) → is_dashes w ≡ false → long_of w ≡ None → short_of w ≡ None → arg_by_id (rules names) n ≡ Some (option_arg n)
    → walked (rules names) [] (at false (option n) (held_with rows skip n [])) w ≡ at false idle (held_with rows skip n (w ∷ []))
unfolding walked
value_step names rows skip w n d l s a = rw (d, l, s, a, itself n) refl

pub value_turn : (names : List Text) (h : Held) (w n : Text) → is_dashes w ≡ false → long_of w ≡ None → short_of w ≡ None → turn_fault (shape names) [] (at false (option n) h) w ≡ []
value_turn names h w n d l s = rw (d, l, s) refl
