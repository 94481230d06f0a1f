-- What our walk takes, clap's walk takes too, and holds the same.
use Rattle.std.proofs.Common.{◌≡◌, ℕ, suc, List, [], ◌∷◌, Bool, true, false, ◌&&◌, ◌==◌, not, Option, Some, None, option_map, refl, sym, ap, ◌∙◌, subst, is_some, cond, fold, length, drop, arith}
use Rattle.std.specs.Option.{option_and_then}
use Rattle.std.specs.Str.{bytes_eq}
use Rattle.std.proofs.lemmas.Option.{same_Some, none-some, option_and_then_some}
use Rattle.std.proofs.lemmas.Bool.Decides.{nat_tests}
use Rattle.clap.specs.Words.{Row, Shape}
use Rattle.clap.specs.Lexer.{long_of, short_of}
use Rattle.clap.specs.Walk.{Walk, Held, option, walked, settled, reacted, pushed}
use Rattle.clap.specs.Kinds.{or_else}
use Rattle.clap.specs.Faults.{walk_fault, turn_fault, use_fault}
use Rattle.jl_words.specs.Reading.{Text, Use, WordsRead, is_flag, is_dashes, spelled, name_and_value, is_given, value_among, with_use, with_plain, with_option, option_met, word_met, value_met, with_word_at, with_word, with_words}
use Rattle.jl_words.specs.Parsing.{plain_id, has_option, IsFree}
use Rattle.jl_words.proofs.ParsedRows.{true≢false'}
use Rattle.jl_words.proofs.ParsedRules.{option_arg, rules, shape, by_long, by_id}
use Rattle.jl_words.proofs.ParsedWords.{Agrees, Settles, at, resting, held_with, absent, and-false, option_fault, plain_settles, whole_settles, value_settles, trailing_step, trailing_turn, plain_step, plain_turn, dashes_step, dashes_turn, whole_step, whole_turn, bare_step, bare_turn, value_step, value_turn}

-- ---- how clap reads a word

pub record IsPlainWord (w : Text) : Type 0 where
  pub dashes : is_dashes w ≡ false
  pub long : long_of w ≡ None
  pub short : short_of w ≡ None

no_long : (x : ℕ) → long_of (x ∷ []) ≡ None
no_long x = by (x == 45) refl
  where
    by : (b : Bool) → (x == 45) ≡ b → long_of (x ∷ []) ≡ None
    by true e = rw e refl
    by false e = rw e refl

no_short : (x : ℕ) → short_of (x ∷ []) ≡ None
no_short x = by (x == 45) refl
  where
    by : (b : Bool) → (x == 45) ≡ b → short_of (x ∷ []) ≡ None
    by true e = rw e refl
    by false e = rw e refl

and_true : (b : Bool) → (b && true) ≡ b
and_true true = refl
and_true false = refl

not_zero : (n : ℕ) → (suc n == 0) ≡ false
not_zero n = grind (arith, nat_tests)

flip : (a b : ℕ) → (a == b) ≡ (b == a)
flip a b = grind (arith, nat_tests)

plain_word : (w : Text) → is_flag w ≡ false → IsPlainWord w
plain_word [] f = record { dashes = refl; long = refl; short = refl }
plain_word (x ∷ []) f = record { dashes = and-false (x == 45); long = no_long x; short = no_short x }
plain_word (x ∷ y ∷ r) f =
    let e : (x == 45) ≡ false = sym (ap (λ b. (x == 45) && not b) (not_zero (length r)) ∙ and_true (x == 45)) ∙ f in
    record { dashes = rw e refl; long = rw e refl; short = rw e refl }

long_word : (w n : Text) (v : Option Text) → is_dashes w ≡ false → spelled w ≡ Some (n, v) → long_of w ≡ Some (n, v)
long_word [] n v d e = absurd (none-some (n, v) e)
long_word (x ∷ []) n v d e = absurd (none-some (n, v) (sym (ap (λ b. option_map name_and_value (cond b (Some (drop 2 (x ∷ []))) None)) (and-false (45 == x))) ∙ e))
long_word (x ∷ y ∷ r) n v d e = by (45 == x) (45 == y) refl refl r d e
  where
    by : (a b : Bool) → (45 == x) ≡ a → (45 == y) ≡ b → (q : Text) → is_dashes (x ∷ y ∷ q) ≡ false → spelled (x ∷ y ∷ q) ≡ Some (n, v) → long_of (x ∷ y ∷ q) ≡ Some (n, v)
    by false b f g q dd ee = absurd (none-some (n, v) ((rw f at ee)))
    by true false f g q dd ee = absurd (none-some (n, v) ((rw (f, g) at ee)))
    by true true f g [] dd ee = absurd (true≢false' ((rw (flip x 45 ∙ f, flip y 45 ∙ g) at dd)))
    by true true f g (b ∷ q) dd ee = rw (flip x 45 ∙ f, flip y 45 ∙ g) ((rw (f, g) at ee))

-- ---- where the two walks stand between two words

abbrev pub StandsAt : List Text → WordsRead → Option Text → Bool → Walk → Type 0
StandsAt names r None b w = (q : Bool) × (h : Held) × Settles names r.given r.plain h × (w ≡ at b (resting q) h)
StandsAt names r (Some n) b w = (rows : List Row) × (skip : ℕ) × Agrees names r.given r.plain rows × (has_option n names ≡ true) × (value_among r.given n ≡ None) × (b ≡ false) × (w ≡ at false (option n) (held_with rows skip n []))

abbrev pub Stands : List Text → WordsRead → Walk → Type 0
Stands names r w = StandsAt names r r.waiting r.is_closed w

-- clap refuses nothing at the word, and stands right after it
abbrev Moves : List Text → WordsRead → Walk → Text → Type 0
Moves names r w word = (turn_fault (shape names) [] w word ≡ []) × Stands names r (walked (rules names) [] w word)

stand : (names : List Text) (r : WordsRead) (o : Option Text) (b : Bool) (w : Walk) → r.waiting ≡ o → r.is_closed ≡ b → StandsAt names r o b w → Stands names r w
stand names r o b w e f s = subst (λ c. StandsAt names r r.waiting c w) (sym f) (subst (λ p. StandsAt names r p b w) (sym e) s)

given_value : (us : List Use) (n : Text) → is_given n us ≡ is_some (value_among us n)
given_value [] n = refl
given_value (u ∷ us) n = by (bytes_eq u.name n) refl (given_value us n)
  where
    by : (b : Bool) → bytes_eq u.name n ≡ b → is_given n us ≡ is_some (value_among us n) → is_given n (u ∷ us) ≡ is_some (value_among (u ∷ us) n)
    by true e again = rw e refl
    by false e again = rw e again

not_given : (us : List Use) (n : Text) → is_given n us ≡ false → value_among us n ≡ None
not_given us n h = by (value_among us n) refl
  where
    by : (o : Option Text) → value_among us n ≡ o → value_among us n ≡ None
    by None e = e
    by (Some v) e = absurd (true≢false' (sym (ap is_some e) ∙ sym (given_value us n) ∙ h))

value_moves : (names : List Text) (r r' : WordsRead) (w : Walk) (word n : Text) → IsFree names → r.is_closed ≡ false → StandsAt names r (Some n) false w → value_met n r word ≡ Some r' → Moves names r' w word
value_moves names r r' w word n free unshut s e = by (is_flag word) refl
  where
    by : (b : Bool) → is_flag word ≡ b → Moves names r' w word
    by true f = absurd (none-some r' (sym (ap (λ b. cond b None (Some (with_use n word r))) f) ∙ e))
    by false f =
        let same : with_use n word r ≡ r' = same_Some (with_use n word r) r' (sym (ap (λ b. cond b None (Some (with_use n word r))) f) ∙ e) in
        let p = plain_word word f in
        let arg = by_id names n free s.3 in
        let before : Walk = at false (option n) (held_with s.0 s.1 n []) in
        let moved : Moves names (with_use n word r) before word = (
          value_turn names (held_with s.0 s.1 n []) word n p.dashes p.long p.short,
          stand names (with_use n word r) None false (walked (rules names) [] before word) refl unshut
              (false, held_with s.0 s.1 n (word ∷ []), value_settles names r.given r.plain s.0 s.1 n word free s.2 s.3 s.4, value_step names s.0 s.1 word n p.dashes p.long p.short arg),
        ) in
        subst (λ q. Moves names q w word) same (subst (λ q. Moves names (with_use n word r) q word) (sym s.6) moved)

plain_moves : (names : List Text) (r : WordsRead) (q : Bool) (h : Held) (word : Text) → IsFree names → r.waiting ≡ None → r.is_closed ≡ false → Settles names r.given r.plain h → is_flag word ≡ false → Moves names (with_plain word r) (at false (resting q) h) word
plain_moves names r q h word free none unshut s f =
    let p = plain_word word f in (
      plain_turn names q h word p.dashes p.long p.short ∙ s.fault,
      stand names (with_plain word r) None false (walked (rules names) [] (at false (resting q) h) word) none unshut
          (true, pushed plain_id word (settled (rules names) h), plain_settles names r.given r.plain h word free s, plain_step names q h word p.dashes p.long p.short),
    )

closed_moves : (names : List Text) (r : WordsRead) (q : Bool) (h : Held) (word : Text) → IsFree names → r.waiting ≡ None → r.is_closed ≡ true → Settles names r.given r.plain h → Moves names (with_plain word r) (at true (resting q) h) word
closed_moves names r q h word free none shut s = (
  trailing_turn names q h word ∙ s.fault,
  stand names (with_plain word r) None true (walked (rules names) [] (at true (resting q) h) word) none shut
      (true, pushed plain_id word (settled (rules names) h), plain_settles names r.given r.plain h word free s, trailing_step names q h word),
)

dashes_moves : (names : List Text) (r : WordsRead) (q : Bool) (h : Held) (word : Text) → r.waiting ≡ None → Settles names r.given r.plain h → is_dashes word ≡ true → Moves names (record r { is_closed = true }) (at false (resting q) h) word
dashes_moves names r q h word none s d = (
  dashes_turn names q h word d,
  stand names (record r { is_closed = true }) None true (walked (rules names) [] (at false (resting q) h) word) none refl
      (q, h, s, dashes_step names q h word d),
)

option_moves : (names : List Text) (r : WordsRead) (q : Bool) (h : Held) (word n : Text) (v : Option Text) → IsFree names → r.waiting ≡ None → r.is_closed ≡ false → Settles names r.given r.plain h → is_dashes word ≡ false → long_of word ≡ Some (n, v) → has_option n names ≡ true → value_among r.given n ≡ None
    → Moves names (with_option (n, v) r) (at false (resting q) h) word
option_moves names r q h word n (Some v) free none unshut s d l k new = (
  whole_turn names q h word n v d l (by_long names n k)
      ∙ ap (λ x. or_else (or_else x (use_fault false (option_arg n) (v ∷ []) (settled (rules names) h).rows)) []) s.fault
      ∙ ap (λ x. or_else x []) (option_fault (settled (rules names) h).rows n v (absent names r.given r.plain (settled (rules names) h).rows n s.agrees k new)),
  stand names (with_use n v r) None false (walked (rules names) [] (at false (resting q) h) word) refl unshut
      (false, reacted (rules names) (option_arg n) (v ∷ []) h, whole_settles names r.given r.plain h n v free s k new, whole_step names q h word n v d l (by_long names n k)),
)
option_moves names r q h word n None free none unshut s d l k new = (
  bare_turn names q h word n d l (by_long names n k) ∙ ap (λ x. or_else x []) s.fault,
  stand names (record r { waiting = Some n }) (Some n) false (walked (rules names) [] (at false (resting q) h) word) refl unshut
      ((settled (rules names) h).rows, (settled (rules names) h).skip, s.agrees, k, new, refl, bare_step names q h word n d l (by_long names n k)),
)

met_moves : (names : List Text) (r r' : WordsRead) (q : Bool) (h : Held) (word n : Text) (v : Option Text) → IsFree names → r.waiting ≡ None → r.is_closed ≡ false → Settles names r.given r.plain h → is_dashes word ≡ false → spelled word ≡ Some (n, v) → option_met names r (n, v) ≡ Some r'
    → Moves names r' (at false (resting q) h) word
met_moves names r r' q h word n v free none unshut s d sp e = by (has_option n names) (is_given n r.given) refl refl
  where
    chosen : Bool → Bool → Option WordsRead
    chosen a b = cond (a && not b) (Some (with_option (n, v) r)) None

    by : (a b : Bool) → has_option n names ≡ a → is_given n r.given ≡ b → Moves names r' (at false (resting q) h) word
    by false b f g = absurd (none-some r' (sym (ap (λ a. cond (a && not (is_given n r.given)) (Some (with_option (n, v) r)) None) f) ∙ e))
    by true true f g = absurd (none-some r' (sym (ap (λ a. cond (a && not (is_given n r.given)) (Some (with_option (n, v) r)) None) f ∙ ap (λ b. cond (true && not b) (Some (with_option (n, v) r)) None) g) ∙ e))
    by true false f g =
        let same : with_option (n, v) r ≡ r' = same_Some (with_option (n, v) r) r' (sym (ap (λ a. cond (a && not (is_given n r.given)) (Some (with_option (n, v) r)) None) f ∙ ap (λ b. cond (true && not b) (Some (with_option (n, v) r)) None) g) ∙ e) in
        subst (λ p. Moves names p (at false (resting q) h) word) same (option_moves names r q h word n v free none unshut s d (long_word word n v d sp) f (not_given r.given n g))

word_moves : (names : List Text) (r r' : WordsRead) (q : Bool) (h : Held) (word : Text) → IsFree names → r.waiting ≡ None → r.is_closed ≡ false → Settles names r.given r.plain h → word_met names r word ≡ Some r' → Moves names r' (at false (resting q) h) word
word_moves names r r' q h word free none unshut s e = by (is_dashes word) (is_flag word) refl refl
  where
    flagged : Bool → Option WordsRead
    flagged b = cond b (option_and_then (option_met names r) (spelled word)) (Some (with_plain word r))

    by : (a b : Bool) → is_dashes word ≡ a → is_flag word ≡ b → Moves names r' (at false (resting q) h) word
    by true b d f =
        let same : record r { is_closed = true } ≡ r' = same_Some (record r { is_closed = true }) r' (sym (ap (λ a. cond a (Some (record r { is_closed = true })) (cond (is_flag word) (option_and_then (option_met names r) (spelled word)) (Some (with_plain word r)))) d) ∙ e) in
        subst (λ p. Moves names p (at false (resting q) h) word) same (dashes_moves names r q h word none s d)
    by false false d f =
        let same : with_plain word r ≡ r' = same_Some (with_plain word r) r' (sym (ap (λ a. cond a (Some (record r { is_closed = true })) (cond (is_flag word) (option_and_then (option_met names r) (spelled word)) (Some (with_plain word r)))) d
        ∙ ap (λ b. cond b (option_and_then (option_met names r) (spelled word)) (Some (with_plain word r))) f) ∙ e) in
        subst (λ p. Moves names p (at false (resting q) h) word) same (plain_moves names r q h word free none unshut s f)
    by false true d f =
        let taken : option_and_then (option_met names r) (spelled word) ≡ Some r' = sym (ap (λ a. cond a (Some (record r { is_closed = true })) (cond (is_flag word) (option_and_then (option_met names r) (spelled word)) (Some (with_plain word r)))) d
        ∙ ap (λ b. cond b (option_and_then (option_met names r) (spelled word)) (Some (with_plain word r))) f) ∙ e in
        option_and_then_some (option_met names r) (spelled word) r' taken (λ o sp m. met_moves names r r' q h word o.0 o.1 free none unshut s d sp m)

step_moves : (names : List Text) (r r' : WordsRead) (w : Walk) (word : Text) (o : Option Text) (b : Bool) → IsFree names → r.waiting ≡ o → r.is_closed ≡ b → StandsAt names r o b w → with_word_at o b names r word ≡ Some r' → Moves names r' w word
step_moves names r r' w word (Some n) b free e f s m =
    value_moves names r r' w word n free (f ∙ s.5) (s.0, s.1, s.2, s.3, s.4, refl, s.6) m
step_moves names r r' w word None true free e f s m =
    let same : with_plain word r ≡ r' = same_Some (with_plain word r) r' m in
    subst (λ p. Moves names p w word) same (subst (λ p. Moves names (with_plain word r) p word) (sym s.3) (closed_moves names r s.0 s.1 word free e f s.2))
step_moves names r r' w word None false free e f s m =
    subst (λ p. Moves names r' p word) (sym s.3) (word_moves names r r' s.0 s.1 word free e f s.2 m)

-- ---- over all the words

pub record Good (names : List Text) (w : Walk) (words : List Text) (end : WordsRead) : Type 0 where
  pub fault : walk_fault (shape names) [] w words ≡ []
  pub stands : Stands names end (fold (walked (rules names) []) w words)

fault_cons : (s : Shape) (w : Walk) (x : Text) (xs : List Text) → walk_fault s [] w (x ∷ xs) ≡ or_else (turn_fault s [] w x) (walk_fault s [] (walked s.rules [] w x) xs)
unfolding walk_fault
fault_cons s w x xs = refl

fault_nil : (s : Shape) (w : Walk) → walk_fault s [] w [] ≡ []
unfolding walk_fault
fault_nil s w = refl

pub good : (names : List Text) (r end : WordsRead) (w : Walk) (words : List Text) → IsFree names → Stands names r w → with_words names r words ≡ Some end → Good names w words end
good names r end w [] free s e = record { fault = fault_nil (shape names) w; stands = subst (λ q. Stands names q w) (same_Some r end e) s }
good names r end w (x ∷ xs) free s e =
    option_and_then_some (λ t. with_words names t xs) (with_word names r x) end e (λ t met rest.
    let moved = step_moves names r t w x r.waiting r.is_closed free refl refl s met in
    let after = good names t end (walked (rules names) [] w x) xs free moved.1 rest in
    record {
      fault = fault_cons (shape names) w x xs ∙ ap (λ k. or_else k (walk_fault (shape names) [] (walked (rules names) [] w x) xs)) moved.0 ∙ after.fault;
      stands = after.stands;
    })
