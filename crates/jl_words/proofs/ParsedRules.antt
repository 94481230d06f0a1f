-- The arguments of the command, once it is built.
use Rattle.std.proofs.Common.{◌≡◌, ℕ, suc, List, [], ◌∷◌, Bool, true, false, ◌||◌, ◌&&◌, not, Some, refl, sym, ap, ◌∙◌, is_some, cond, find, map, length, drop, get_or, ◌<◌, ◌+◌, append_assoc, arith}
use Rattle.std.proofs.Math.Seq.{drop-cons}
use Rattle.std.proofs.lemmas.List.{append-nil}
use Rattle.std.specs.Str.{bytes_eq}
use Rattle.std.specs.List.{list_any, list_all, count_by}
use Rattle.clap.specs.Words.{App, Rule, Shape, is_simple, is_simple_and_free, with_rule}
use Rattle.clap.specs.Walk.{arg_by_id, arg_by_long, is_early_multiple}
use Rattle.clap.specs.Simple.{built, filled, filled_from, with_index, is_buildable, is_in_order, is_ready, is_ready_leaf}
use Rattle.clap.specs.Faults.{is_free_app}
use Rattle.jl_words.specs.Reading.{Text}
use Rattle.jl_words.specs.Parsing.{plain_id, plain_rule, option_rule, app_with, has_option, IsFree, with_rules}
use Rattle.jl_words.proofs.ParsedRows.{same_text, true≢false'}

abbrev pub words_arg : Rule
words_arg = with_index 1 (filled plain_rule)

abbrev pub option_arg : Text → Rule
option_arg name = with_index 2 (filled (option_rule name))

abbrev pub rules : List Text → List Rule
rules names = words_arg ∷ map option_arg names

options_filled : (names : List Text) → filled_from 2 (map option_rule names) ≡ map option_arg names
options_filled [] = refl
options_filled (n ∷ ns) = ap (λ l. option_arg n ∷ l) (options_filled ns)

-- the built command
abbrev pub shape : List Text → Shape
shape names = record ((built (app_with names)).top) { rules = rules names }

pub built_is : (names : List Text) → built (app_with names) ≡ record { top = shape names; subs = [] }
built_is names = ap (λ (l : List Rule). record { top = record ((built (app_with names)).top) { rules = words_arg ∷ l }; subs = [] }) (options_filled names)

pub by_long : (names : List Text) (n : Text) → has_option n names ≡ true → arg_by_long (rules names) n ≡ Some (option_arg n)
by_long [] n h = absurd (true≢false' (sym h))
by_long (m ∷ ns) n h = by (bytes_eq m n) refl (by_long ns n)
  where
    by : (b : Bool) → bytes_eq m n ≡ b → (has_option n ns ≡ true → arg_by_long (rules ns) n ≡ Some (option_arg n)) → arg_by_long (rules (m ∷ ns)) n ≡ Some (option_arg n)
    by true e again = rw e (ap (λ q. Some (option_arg q)) (same_text m n e))
    by false e again = rw e (again (sym (ap (λ b. b || has_option n ns) e) ∙ h))

pub not_plain : (names : List Text) (n : Text) → IsFree names → has_option n names ≡ true → bytes_eq plain_id n ≡ false
not_plain [] n f h = absurd (true≢false' (sym h))
not_plain (m ∷ ns) n f h = by (bytes_eq m n) (bytes_eq plain_id m) refl refl (not_plain ns n)
  where
    by : (b c : Bool) → bytes_eq m n ≡ b → bytes_eq plain_id m ≡ c → (IsFree ns → has_option n ns ≡ true → bytes_eq plain_id n ≡ false) → bytes_eq plain_id n ≡ false
    by b true e d again = absurd (true≢false' (sym (ap (λ c. c || list_any (λ q. bytes_eq plain_id q) ns) d) ∙ f))
    by true false e d again = ap (bytes_eq plain_id) (sym (same_text m n e)) ∙ d
    by false false e d again = again (sym (ap (λ c. c || list_any (λ q. bytes_eq plain_id q) ns) d) ∙ f) (sym (ap (λ b. b || has_option n ns) e) ∙ h)

found_by_id : (names : List Text) (n : Text) → has_option n names ≡ true → find (λ a. bytes_eq a.id n) (map option_arg names) ≡ Some (option_arg n)
found_by_id [] n h = absurd (true≢false' (sym h))
found_by_id (m ∷ ns) n h = by (bytes_eq m n) refl (found_by_id ns n)
  where
    by : (b : Bool) → bytes_eq m n ≡ b → (has_option n ns ≡ true → find (λ a. bytes_eq a.id n) (map option_arg ns) ≡ Some (option_arg n)) → find (λ a. bytes_eq a.id n) (map option_arg (m ∷ ns)) ≡ Some (option_arg n)
    by true e again = rw e (ap (λ q. Some (option_arg q)) (same_text m n e))
    by false e again = rw e (again (sym (ap (λ b. b || has_option n ns) e) ∙ h))

pub by_id : (names : List Text) (n : Text) → IsFree names → has_option n names ≡ true → arg_by_id (rules names) n ≡ Some (option_arg n)
by_id names n f h = ap (λ b. cond b (Some words_arg) (find (λ a. bytes_eq a.id n) (map option_arg names))) (not_plain names n f h) ∙ found_by_id names n h

-- ---- the command is one of which clap's definitions tell the parse

each : (p : Rule → Bool) (names : List Text) → ((n : Text) → p (option_arg n) ≡ true) → list_all p (map option_arg names) ≡ true
each p [] h = refl
each p (n ∷ ns) h = ap (λ b. b && list_all p (map option_arg ns)) (h n) ∙ each p ns h

pub no_one : (p : Rule → Bool) (names : List Text) → ((n : Text) → p (option_arg n) ≡ false) → list_any p (map option_arg names) ≡ false
no_one p [] h = refl
no_one p (n ∷ ns) h = ap (λ b. b || list_any p (map option_arg ns)) (h n) ∙ no_one p ns h

each_rule : (p : Rule → Bool) (names : List Text) → ((n : Text) → p (option_rule n) ≡ true) → list_all p (map option_rule names) ≡ true
each_rule p [] h = refl
each_rule p (n ∷ ns) h = ap (λ b. b && list_all p (map option_rule ns)) (h n) ∙ each_rule p ns h

one_counted : (names : List Text) → count_by (λ (a : Rule). is_some a.index) (rules names) ≡ 1
one_counted [] = refl
one_counted (n ∷ ns) = one_counted ns

in_order : (names : List Text) → is_in_order (rules names) ≡ true
in_order names = ap (λ k. not (list_any (is_early_multiple k) (rules names))) (one_counted names) ∙ ap not (no_one (is_early_multiple 1) names (λ n. refl))

pub simple : (names : List Text) → is_simple (app_with names) ≡ true
simple names =
    ap (λ (b : App). is_buildable (app_with names) && (is_ready b.top && list_all is_ready_leaf b.subs)) (built_is names)
    ∙ rw (each_rule (λ a. a.is_simple) names (λ n. refl), each (λ a. a.is_simple) names (λ n. refl), in_order names) refl

pub simple_and_free : (names : List Text) → is_simple_and_free (app_with names) ≡ true
simple_and_free names =
    ap (λ (b : App). is_simple (app_with names) && is_free_app b) (built_is names)
    ∙ ap (λ c. c && is_free_app (record { top = shape names; subs = [] })) (simple names) ∙ rw (each (λ a. a.is_free) names (λ n. refl)) refl

-- ---- the command, argument by argument

pub with_rules_none : (a : App) → with_rules a [] ≡ a
unfolding with_rules
with_rules_none a = ap (λ (l : List Rule). record a { top = record a.top { rules = l } }) (append-nil a.top.rules)

pub with_rules_more : (a : App) (r : Rule) (rs : List Rule) → with_rules (with_rule a r) rs ≡ with_rules a (r ∷ rs)
unfolding with_rules
with_rules_more a r rs = ap (λ (l : List Rule). record a { top = record a.top { rules = l } }) (append_assoc a.top.rules (r ∷ []) rs)

pub with_rules_all : (names : List Text) → with_rules (app_with []) (map option_rule names) ≡ app_with names
unfolding with_rules
with_rules_all names = refl

-- an option more
pub option_more : (a b : App) (names : List Text) (i : ℕ) (n : Text) (all : App) → i < length names → n ≡ get_or names i [] → b ≡ with_rule a (option_rule n) → with_rules a (map option_rule (drop i names)) ≡ all → with_rules b (map option_rule (drop (i + 1) names)) ≡ all
option_more a b names i n all h e f g =
    let next : drop i names ≡ get_or names i [] ∷ drop (suc i) names = drop-cons names i [] h in
    let place : i + 1 ≡ suc i = omega arith in
    ap (λ k. with_rules b (map option_rule (drop k names))) place
    ∙ ap (λ (q : App). with_rules q (map option_rule (drop (suc i) names))) (f ∙ ap (λ m. with_rule a (option_rule m)) e)
    ∙ with_rules_more a (option_rule (get_or names i [])) (map option_rule (drop (suc i) names)) ∙ sym (ap (λ l. with_rules a (map option_rule l)) next) ∙ g
