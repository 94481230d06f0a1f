-- The values that clap found are those that the words say.
use Rattle.std.proofs.Common.{◌≡◌, ℕ, List, [], ◌∷◌, ◌++◌, Bool, true, false, ◌&&◌, ◌||◌, not, Option, Some, None, option_map, refl, sym, ap, ◌∙◌, subst, is_some, cond, find, inl, inr, unwrap_or, take, length, get_or, ◌+◌, ◌<◌, Err, Result}
use Rattle.std.specs.Prelude.{slice_get}
use Rattle.std.specs.Option.{option_and_then}
use Rattle.std.specs.Str.{bytes_eq}
use Rattle.std.proofs.lemmas.Option.{same_Some, none-some, option_and_then_some}
use Rattle.std.specs.Prelude.{IfErr}
use Rattle.std.proofs.lemmas.List.{take_more}
use Rattle.clap.specs.Words.{Row, first_of, all_of, matches_of, fault_of, found_of, first_value, rows_of, Kinds, HasKind, kind_of}
use Rattle.clap.specs.declared.error.Error.{Error}
use Rattle.clap.specs.declared.error.kind.ErrorKind.TheVariants as kind
use Rattle.clap.specs.declared.parser.matches.ArgMatches.{ArgMatches}
use Rattle.clap.proofs.WalkLemmas.{first_value-rows, raw_values-rows}
use Rattle.jl_words.specs.Reading.{Text, Use, Said, WordsRead, nothing_read, without_waiting, said_by, said_by_words, value_among, is_given, is_flag, is_dashes, spelled, with_use, with_plain, with_option, option_met, with_word_at, with_word, with_words}
use Rattle.jl_words.specs.Parsing.{plain_id, plain_values, app_with, has_option, IsFree, FoundAsSaid, HasOnlyOptions, use_from, plain_found}
use Rattle.jl_words.specs.declared.types.SettingsFault.{SettingsFault}
use Rattle.jl_words.specs.declared.types.SettingsFault.TheVariants.{Memory, Usage}
use Rattle.jl_words.proofs.ParsedRows.{or_else_some, same_text, true≢false'}
use Rattle.jl_words.proofs.ParsedWords.{single, use_of, value-append, or_none}
use Rattle.jl_words.specs.Commands.{options_of}
use Rattle.jl_words.specs.declared.command.Command.{Command}
use Rattle.jl_words.specs.declared.command.Command.TheVariants.{Call, Hash, Parallel, Session, Clear, ReduceSize, Worker, Tracker, Gen}
use Rattle.jl_words.proofs.ParsedEnd.{parsed}

first_is : (n : Text) (rows : List Row) → first_of n rows ≡ option_and_then (λ vs. slice_get vs 0) (all_of n rows)
first_is n rows = by (find (λ r. bytes_eq r.id n) rows)
  where
    by : (o : Option Row) → option_and_then (λ (r : Row). slice_get r.values 0) o ≡ option_and_then (λ vs. slice_get vs 0) (option_map (λ (r : Row). r.values) o)
    by None = refl
    by (Some r) = refl

first_single : (o : Option Text) → option_and_then (λ vs. slice_get vs 0) (option_map single o) ≡ o
first_single None = refl
first_single (Some v) = refl

-- the reading that words which say something lead to
pub said_reading : {P : Type 0} (names words : List Text) (s : Said) → said_by_words names words ≡ Some s → ((end : WordsRead) → with_words names nothing_read words ≡ Some end → end.waiting ≡ None → said_by end ≡ s → P) → P
said_reading {P} names words s e k = by (with_words names nothing_read words) refl
  where
    waits : (end : WordsRead) (o : Option Text) → end.waiting ≡ o → with_words names nothing_read words ≡ Some end → option_map said_by (cond (is_some o) None (Some end)) ≡ Some s → P
    waits end None w f g = k end f w (same_Some (said_by end) s g)
    waits end (Some n) w f g = absurd (none-some s g)

    by : (o : Option WordsRead) → with_words names nothing_read words ≡ o → P
    by None f = absurd (none-some s (sym (ap (λ o. option_map said_by (option_and_then without_waiting o)) f) ∙ e))
    by (Some end) f = waits end end.waiting refl f (sym (ap (λ o. option_map said_by (option_and_then without_waiting o)) f) ∙ e)

pub no_fault : (names words : List Text) (s : Said) → IsFree names → said_by_words names words ≡ Some s → fault_of (app_with names) words ≡ []
no_fault names words s free e = said_reading names words s e (λ end w none same. (parsed names words end free w none).fault)

pub finds : (names words : List Text) (s : Said) (m : ArgMatches) → IsFree names → said_by_words names words ≡ Some s → rows_of (found_of m) ≡ matches_of (app_with names) words → FoundAsSaid names m s
finds names words s m free e rows = said_reading names words s e (λ end w none same.
    let p = parsed names words end free w none in
    record {
      options = λ n k. first_value-rows (found_of m) n ∙ ap (first_of n) rows ∙ first_is n (matches_of (app_with names) words) ∙ ap (option_and_then (λ vs. slice_get vs 0)) (p.options n k) ∙ first_single (value_among end.given n) ∙ ap (λ (q : Said). q.value n) same;
      plain = raw_values-rows (found_of m) plain_id ∙ ap (all_of plain_id) rows ∙ p.plain ∙ ap (λ (q : Said). plain_values q.plain) same;
    })

-- an error of no kind is want of memory
pub only_memory : (e : Error) (kinds : Kinds) → kinds ≡ [] → HasKind kinds e → kind_of e ≡ kind.OutOfMemory
only_memory e kinds none h = by (subst (λ ks. HasKind ks e) none h)
  where
    by : HasKind [] e → kind_of e ≡ kind.OutOfMemory
    by (inl m) = m
    by (inr x) = absurd x

-- ---- what is gathered

known-append : (n : Text) (xs ys : List Text) → has_option n (xs ++ ys) ≡ (has_option n xs || has_option n ys)
known-append n [] ys = refl
known-append n (x ∷ xs) ys = ap (λ b. bytes_eq x n || b) (known-append n xs ys) ∙ sym (or_assoc (bytes_eq x n) (has_option n xs) (has_option n ys))
  where
    or_assoc : (a b c : Bool) → ((a || b) || c) ≡ (a || (b || c))
    or_assoc true b c = refl
    or_assoc false b c = refl

same_twice : (o : Option Text) → or_else_some o o ≡ o
same_twice None = refl
same_twice (Some v) = refl

from_value : (x n : Text) (o : Option Text) (b : Bool) → bytes_eq x n ≡ b → value_among (use_from x o) n ≡ cond b o None
from_value x n None true e = refl
from_value x n None false e = refl
from_value x n (Some v) true e = rw e refl
from_value x n (Some v) false e = rw e refl

-- an option more
pub more_given : (f : Text → Option Text) (xs : List Text) (us : List Use) (x : Text) (o : Option Text) → f x ≡ o → ((n : Text) → value_among us n ≡ cond (has_option n xs) (f n) None)
    → (n : Text) → value_among (us ++ use_from x o) n ≡ cond (has_option n (xs ++ x ∷ [])) (f n) None
more_given f xs us x o fx before n =
    value-append us (use_from x o) n ∙ ap (λ q. or_else_some q (value_among (use_from x o) n)) (before n) ∙ by (has_option n xs) (bytes_eq x n) refl ∙ sym (ap (λ b. cond b (f n) None) (known-append n xs (x ∷ [])))
  where
    same : bytes_eq x n ≡ true → f n ≡ o
    same e = ap f (sym (same_text x n e)) ∙ fx

    by : (a b : Bool) → bytes_eq x n ≡ b → or_else_some (cond a (f n) None) (value_among (use_from x o) n) ≡ cond (a || (bytes_eq x n || false)) (f n) None
    by false true e = from_value x n o true e ∙ sym (same e) ∙ sym (ap (λ b. cond (false || (b || false)) (f n) None) e)
    by false false e = from_value x n o false e ∙ sym (ap (λ b. cond (false || (b || false)) (f n) None) e)
    by true true e = ap (λ q. or_else_some (f n) q) (from_value x n o true e ∙ sym (same e)) ∙ same_twice (f n)
    by true false e = ap (λ q. or_else_some (f n) q) (from_value x n o false e) ∙ or_none (f n)

pub more_found : (f : Text → Option Text) (names : List Text) (i : ℕ) (us us' : List Use) (x : Text) → i < length names → x ≡ get_or names i [] → us' ≡ us ++ use_from x (f x) → ((n : Text) → value_among us n ≡ cond (has_option n (take i names)) (f n) None)
    → (n : Text) → value_among us' n ≡ cond (has_option n (take (i + 1) names)) (f n) None
more_found f names i us us' x h e u before n =
    ap (λ q. value_among q n) u ∙ more_given f (take i names) us x (f x) refl before n
    ∙ sym (ap (λ l. cond (has_option n l) (f n) None) (take_more names i [] h ∙ ap (λ m. take i names ++ m ∷ []) (sym e)))

pub words_back : (ws : List Text) → unwrap_or (plain_values ws) [] ≡ ws
words_back [] = refl
words_back (w ∷ ws) = refl

-- what is gathered is what the words say
pub same_said : (p s : Said) → ((n : Text) → p.value n ≡ s.value n) → p.plain ≡ s.plain → p ≡ s
same_said p s values words = λ i. record { value = λ n. values n i; plain = words i }

-- ---- only options that the command has are given

abbrev AllKnown : List Text → List Use → Type 0
AllKnown names us = (n : Text) → has_option n names ≡ false → value_among us n ≡ None

known_use : (names : List Text) (us : List Use) (n v : Text) → AllKnown names us → has_option n names ≡ true → AllKnown names (us ++ use_of n v ∷ [])
known_use names us n v a k m u =
    value-append us (use_of n v ∷ []) m ∙ ap (λ q. or_else_some q (value_among (use_of n v ∷ []) m)) (a m u) ∙ by (bytes_eq n m) refl
  where
    by : (b : Bool) → bytes_eq n m ≡ b → value_among (use_of n v ∷ []) m ≡ None
    by true e = absurd (true≢false' (sym k ∙ ap (λ q. has_option q names) (same_text n m e) ∙ u))
    by false e = rw e refl

abbrev WaitsKnown : List Text → Option Text → Type 0
WaitsKnown names None = Unit {0}
WaitsKnown names (Some n) = has_option n names ≡ true

pub record Keeps (names : List Text) (r : WordsRead) : Type 0 where
  pub given : AllKnown names r.given
  pub waits : WaitsKnown names r.waiting

keeps_option : (names : List Text) (r : WordsRead) (n : Text) (v : Option Text) → Keeps names r → has_option n names ≡ true → Keeps names (with_option (n, v) r)
keeps_option names r n None k known = record { given = k.given; waits = known }
keeps_option names r n (Some v) k known = record { given = known_use names r.given n v k.given known; waits = tt }

keeps_met : (names : List Text) (r r' : WordsRead) (o : Text × Option Text) → Keeps names r → option_met names r o ≡ Some r' → Keeps names r'
keeps_met names r r' o k e = by (has_option o.0 names) (is_given o.0 r.given) refl refl
  where
    by : (a b : Bool) → has_option o.0 names ≡ a → is_given o.0 r.given ≡ b → Keeps names r'
    by false b f g = absurd (none-some r' (sym (ap (λ a. cond (a && not (is_given o.0 r.given)) (Some (with_option o r)) None) f) ∙ e))
    by true true f g = absurd (none-some r' (sym (ap (λ a. cond (a && not (is_given o.0 r.given)) (Some (with_option o r)) None) f ∙ ap (λ b. cond (true && not b) (Some (with_option o r)) None) g) ∙ e))
    by true false f g =
        let same : with_option o r ≡ r' = same_Some (with_option o r) r' (sym (ap (λ a. cond (a && not (is_given o.0 r.given)) (Some (with_option o r)) None) f ∙ ap (λ b. cond (true && not b) (Some (with_option o r)) None) g) ∙ e) in
        subst (Keeps names) same (keeps_option names r o.0 o.1 k f)

keeps_word : (names : List Text) (r r' : WordsRead) (word : Text) (a b : Bool) → Keeps names r → cond a (Some (record r { is_closed = true })) (cond b (option_and_then (option_met names r) (spelled word)) (Some (with_plain word r))) ≡ Some r' → Keeps names r'
keeps_word names r r' word true b k e = subst (Keeps names) (same_Some (record r { is_closed = true }) r' e) (record { given = k.given; waits = k.waits })
keeps_word names r r' word false true k e = option_and_then_some (option_met names r) (spelled word) r' e (λ o _ m. keeps_met names r r' o k m)
keeps_word names r r' word false false k e = subst (Keeps names) (same_Some (with_plain word r) r' e) (record { given = k.given; waits = k.waits })

keeps_value : (names : List Text) (r r' : WordsRead) (n word : Text) (b : Bool) → Keeps names r → has_option n names ≡ true → cond b None (Some (with_use n word r)) ≡ Some r' → Keeps names r'
keeps_value names r r' n word true k known e = absurd (none-some r' e)
keeps_value names r r' n word false k known e = subst (Keeps names) (same_Some (with_use n word r) r' e) (record { given = known_use names r.given n word k.given known; waits = tt })

keeps_step : (names : List Text) (r r' : WordsRead) (word : Text) (o : Option Text) (b : Bool) → WaitsKnown names o → Keeps names r → with_word_at o b names r word ≡ Some r' → Keeps names r'
keeps_step names r r' word (Some n) b w k e = keeps_value names r r' n word (is_flag word) k w e
keeps_step names r r' word None true w k e = subst (Keeps names) (same_Some (with_plain word r) r' e) (record { given = k.given; waits = k.waits })
keeps_step names r r' word None false w k e = keeps_word names r r' word (is_dashes word) (is_flag word) k e

keeps_walk : (names : List Text) (r end : WordsRead) (words : List Text) → Keeps names r → with_words names r words ≡ Some end → Keeps names end
keeps_walk names r end [] k e = subst (Keeps names) (same_Some r end e) k
keeps_walk names r end (x ∷ xs) k e = option_and_then_some (λ t. with_words names t xs) (with_word names r x) end e (λ t met rest. keeps_walk names t end xs (keeps_step names r t x r.waiting r.is_closed k.waits k met) rest)

pub only_known : (names words : List Text) (s : Said) → said_by_words names words ≡ Some s → HasOnlyOptions names s
only_known names words s e = said_reading names words s e (λ end w none same n u.
    sym (ap (λ (q : Said). q.value n) same) ∙ (keeps_walk names nothing_read end words (record { given = λ m v. refl; waits = tt }) w).given n u)

-- ---- the answers of a reading

pub only_none : (o : Option Said) (e : SettingsFault) → ((s : Said) → o ≡ Some s → e ≡ Memory) → e ≡ Usage → o ≡ None
only_none None e h u = refl
only_none (Some s) e h u = let m : e ≡ Memory = h s refl in absurd (cc)

pub some_said : (o : Option Said) (p : Said) → is_some o ≡ true → ((s : Said) → o ≡ Some s → p ≡ s) → o ≡ Some p
some_said None p some h = absurd (true≢false' (sym some))
some_said (Some s) p some h = ap (λ q. Some q) (sym (h s refl))

pub usage_none : {A : Type 0} (o : Option Said) (r : Result A SettingsFault) → IfErr r (λ e. (s : Said) → o ≡ Some s → e ≡ Memory) → r ≡ Err Usage → o ≡ None
usage_none o r h e = only_none o Usage (subst (λ q. IfErr q (λ f. (s : Said) → o ≡ Some s → f ≡ Memory)) e h) refl

-- what clap found, gathered
pub gathers : (names : List Text) (m : ArgMatches) (s : Said) (us : List Use) (plain : List Text) → FoundAsSaid names m s → HasOnlyOptions names s → ((n : Text) → value_among us n ≡ cond (has_option n names) (first_value (found_of m) n) None) → plain ≡ unwrap_or (plain_found m) []
    → record { value = value_among us; plain = plain } ≡ s
gathers names m s us plain f only values words = same_said (record { value = value_among us; plain = plain }) s (λ n. values n ∙ by n (has_option n names) refl) (words ∙ ap (λ o. unwrap_or o []) f.plain ∙ words_back s.plain)
  where
    by : (n : Text) (b : Bool) → has_option n names ≡ b → cond (has_option n names) (first_value (found_of m) n) None ≡ s.value n
    by n true e = ap (λ b. cond b (first_value (found_of m) n) None) e ∙ f.options n e
    by n false e = ap (λ b. cond b (first_value (found_of m) n) None) e ∙ sym (only n e)

-- no command has an option of the id of the plain words
pub free_options : (c : Command) → IsFree (options_of c)
free_options Call = refl
free_options Hash = refl
free_options Parallel = refl
free_options Session = refl
free_options Clear = refl
free_options ReduceSize = refl
free_options Worker = refl
free_options Tracker = refl
free_options Gen = refl
