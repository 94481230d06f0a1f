-- The whole parse of the words that our walk takes.
use Rattle.std.proofs.Common.{◌≡◌, List, [], ◌∷◌, Bool, true, false, ◌&&◌, ◌||◌, not, Some, None, option_map, refl, ap, ◌∙◌, if◌then◌else◌, subst, is_some, fold, map}
use Rattle.clap.specs.Words.{App, Row, Kinds, fault_of, matches_of}
use Rattle.clap.specs.Walk.{Walk, Held, walked, settled, finished, all_of, with_default, has_row, nothing_held, rows_after}
use Rattle.clap.specs.Kinds.{or_else}
use Rattle.clap.specs.Takes.{is_given}
use Rattle.clap.specs.Faults.{walk_fault, entered_fault, settle_fault, defaults_fault, check_fault, built_fault}
use Rattle.clap.specs.Simple.{entered, names_of}
use Rattle.jl_words.specs.Reading.{Text, WordsRead, nothing_read, value_among, with_words}
use Rattle.jl_words.specs.Parsing.{plain_id, plain_values, app_with, has_option, IsFree}
use Rattle.jl_words.proofs.ParsedRules.{words_arg, option_arg, rules, shape, built_is, no_one}
use Rattle.jl_words.proofs.ParsedWords.{single, Agrees, Settles, at, resting}
use Rattle.jl_words.proofs.ParsedSteps.{Good, good, StandsAt, Stands}

or_true : (b : Bool) → (b || true) ≡ true
or_true true = refl
or_true false = refl

same_if : (b : Bool) (rows : List Row) → (if b then rows else rows) ≡ rows
same_if true rows = refl
same_if false rows = refl

no_defaults : (names : List Text) (rows : List Row) → fold with_default rows (map option_arg names) ≡ rows
no_defaults [] rows = refl
no_defaults (n ∷ ns) rows = ap (λ rs. fold with_default rs (map option_arg ns)) (same_if (has_row n rows) rows) ∙ no_defaults ns rows

finished_is : (names : List Text) (h : Held) → finished (rules names) h ≡ (settled (rules names) h).rows
finished_is names h =
    let rows = (settled (rules names) h).rows in
    ap (λ rs. fold with_default rs (map option_arg names)) (same_if (has_row plain_id rows) rows) ∙ no_defaults names rows

no_default_faults : (names : List Text) (rows : List Row) → defaults_fault rows (map option_arg names) ≡ []
unfolding defaults_fault
no_default_faults [] rows = refl
no_default_faults (n ∷ ns) rows = rw (or_true (has_row n rows)) (no_default_faults ns (with_default rows (option_arg n)))

defaults_none : (names : List Text) (rows : List Row) → defaults_fault rows (rules names) ≡ []
unfolding defaults_fault
defaults_none names rows = rw (or_true (has_row plain_id rows)) (no_default_faults names (with_default rows words_arg))

check_none : (names : List Text) (rows : List Row) → check_fault (shape names) rows false ≡ []
check_none names rows = rw (no_one (λ a. a.required && not (is_given a.id rows)) names (λ n. refl)) refl

-- the kinds of a whole parse, by those of its walk and where it ended
abbrev level : List Text → Kinds → Walk → Kinds
level names k end = or_else k (or_else (entered_fault (record { top = shape names; subs = [] }) end.stopped) (or_else (settle_fault (rules names) false end.held)
    (or_else (defaults_fault (settled (rules names) end.held).rows (rules names)) (check_fault (shape names) (finished (rules names) end.held) (is_some (entered (record { top = shape names; subs = [] }) end.stopped))))))

empty_agrees : (names : List Text) → Agrees names [] [] []
empty_agrees names = record { options = λ n k. refl; words = refl }

begins : (names : List Text) → Stands names nothing_read (at false (resting false) nothing_held)
begins names = (false, nothing_held, record { agrees = empty_agrees names; fault = refl }, refl)

-- what clap makes of the words: no fault, and the same values
pub record Parsed (names : List Text) (words : List Text) (end : WordsRead) : Type 0 where
  pub fault : fault_of (app_with names) words ≡ []
  pub options : (n : Text) → has_option n names ≡ true → all_of n (matches_of (app_with names) words) ≡ option_map single (value_among end.given n)
  pub plain : all_of plain_id (matches_of (app_with names) words) ≡ plain_values end.plain

stops : (names : List Text) (words : List Text) (end : WordsRead) (b : Bool) → Good names (at false (resting false) nothing_held) words end → StandsAt names end None b (fold (walked (rules names) []) (at false (resting false) nothing_held) words) → Parsed names words end
stops names words end b g s =
    let last : Walk = fold (walked (rules names) []) (at false (resting false) nothing_held) words in
    let settles : Settles names end.given end.plain s.1 = s.2 in
    let whole : fault_of (app_with names) words ≡ level names (walk_fault (shape names) [] (at false (resting false) nothing_held) words) last = ap (λ a. built_fault a nothing_held words) (built_is names) in
    let rows : matches_of (app_with names) words ≡ finished (rules names) last.held = ap (λ (a : App). rows_after a.top.rules (names_of a) words) (built_is names) in
    let read : matches_of (app_with names) words ≡ (settled (rules names) s.1).rows = rows ∙ ap (λ (w : Walk). finished (rules names) w.held) s.3 ∙ finished_is names s.1 in
    record {
      fault = whole ∙ ap (λ k. level names k last) g.fault ∙ ap (level names []) s.3
          ∙ ap (λ k. or_else k (or_else (defaults_fault (settled (rules names) s.1).rows (rules names)) (check_fault (shape names) (finished (rules names) s.1) false))) settles.fault
          ∙ ap (λ k. or_else k (check_fault (shape names) (finished (rules names) s.1) false)) (defaults_none names (settled (rules names) s.1).rows)
          ∙ check_none names (finished (rules names) s.1);
      options = λ n k. ap (all_of n) read ∙ settles.agrees.options n k;
      plain = ap (all_of plain_id) read ∙ settles.agrees.words;
    }

pub parsed : (names : List Text) (words : List Text) (end : WordsRead) → IsFree names → with_words names nothing_read words ≡ Some end → end.waiting ≡ None → Parsed names words end
parsed names words end free e none =
    let g = good names nothing_read end (at false (resting false) nothing_held) words free (begins names) e in
    stops names words end end.is_closed g (subst (λ o. StandsAt names end o end.is_closed (fold (walked (rules names) []) (at false (resting false) nothing_held) words)) none g.stands)
