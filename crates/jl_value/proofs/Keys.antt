-- Keys in order, from the end of a table to its start.
use Rattle.std.proofs.Common.{◌≡◌, ◌≢◌, ℕ, zero, suc, ◌<◌, ◌≤◌, List, [], ◌∷◌, length, get_or, drop, Ordering, Less, Equal, Greater, is_ge, true, false, nat_cmp, refl, sym, ap, ◌∙◌, subst, arith, drop-cons}
use Rattle.std.proofs.lemmas.List.{drop_all}
use Rattle.std.proofs.lemmas.Cmp.{nat_list_cmp_total}
use Rattle.std.specs.Cmp.Lexicographic.{slice_cmp}
use Rattle.std.specs.List.{AllByRecursion}
use Rattle.std.specs.List.Sorted.{IsStrictlySortedBy}
use Rattle.jl_value.specs.Tree.{members_of}
use Rattle.jl_value.specs.Form.{keys_in, entries_of}
use Rattle.jl_value.specs.Canonical.{array_key}
use Rattle.jl_value.specs.Proper.{AreKeys, keys}
use Rattle.jl_value.specs.declared.value.Value.{Value}

pub keys_entries : (es : List (List ℕ × Value)) → keys (members_of (entries_of es)) ≡ keys_in es
keys_entries [] = refl
keys_entries (e ∷ es) = ap (λ ks. e.0 ∷ ks) (keys_entries es)

all_above : (k l : List ℕ) (ls : List (List ℕ)) → slice_cmp nat_cmp k l ≡ Less → AllByRecursion (λ y. slice_cmp nat_cmp l y ≡ Less) ls → AllByRecursion (λ y. slice_cmp nat_cmp k y ≡ Less) ls
all_above k l [] h a = tt
all_above k l (m ∷ ms) h a = (nat_list_cmp_total.trans k l m h a.0, all_above k l ms h a.1)

cons_keys : (k l : List ℕ) (ls : List (List ℕ)) → k ≢ array_key → slice_cmp nat_cmp k l ≡ Less → AreKeys (l ∷ ls) → AreKeys (k ∷ l ∷ ls)
unfolding IsStrictlySortedBy
cons_keys k l ls other h a = (((h, all_above k l ls h a.0.0), a.0), (other, a.1))

one_key : (k : List ℕ) → k ≢ array_key → AreKeys (k ∷ [])
unfolding IsStrictlySortedBy
one_key k other = ((tt, tt), (other, tt))

none_keys : AreKeys []
unfolding IsStrictlySortedBy
none_keys = (tt, tt)

tail_keys : (k : List ℕ) (ks : List (List ℕ)) → AreKeys (k ∷ ks) → AreKeys ks
unfolding IsStrictlySortedBy
tail_keys k ks h = (h.0.1, h.1.1)

first_less : (k l : List ℕ) (ks : List (List ℕ)) → AreKeys (k ∷ l ∷ ks) → slice_cmp nat_cmp k l ≡ Less
unfolding IsStrictlySortedBy
first_less k l ks h = h.0.0.0

split : {A : Type 0} (es : List A) (i : ℕ) (e : A) → i < length es → e ≡ get_or es i e → drop i es ≡ e ∷ drop (suc i) es
split es i e h is = drop-cons es i e h ∙ ap (λ x. x ∷ drop (suc i) es) (sym is)

module _ {X : Type 0} (es : List (List ℕ × X)) where
  pub keys_end : AreKeys (keys_in (drop (length es) es))
  keys_end = subst (λ l. AreKeys (keys_in l)) (sym (drop_all (length es) es (omega arith))) none_keys

  module _ (n i : ℕ) (counts : n ≡ suc i) (e : List ℕ × X) (within : i < length es) (is : e ≡ get_or es i e) where
    pub keys_last : length es ≤ n → e.0 ≢ array_key → AreKeys (keys_in (drop i es))
    keys_last over other =
        subst (λ l. AreKeys (keys_in l)) (sym (split es i e within is ∙ ap (λ l. e ∷ l) (drop_all (suc i) es (omega arith)))) (one_key e.0 other)

    pub keys_more : (f : List ℕ × X) → n < length es → f ≡ get_or es n f → e.0 ≢ array_key → slice_cmp nat_cmp e.0 f.0 ≡ Less → AreKeys (keys_in (drop n es)) → AreKeys (keys_in (drop i es))
    keys_more f more next other less h =
        let later = split es n f more next in
        let all : drop i es ≡ e ∷ f ∷ drop (suc n) es = split es i e within is ∙ ap (λ l. e ∷ l) (ap (λ m. drop m es) (sym counts) ∙ later) in
        subst (λ l. AreKeys (keys_in l)) (sym all) (cons_keys e.0 f.0 _ other less (subst (λ l. AreKeys (keys_in l)) later h))

    suffix_keys : (i : ℕ) (ds : List (List ℕ × X)) → AreKeys (keys_in ds) → AreKeys (keys_in (drop i ds))
    suffix_keys zero ds h = h
    suffix_keys (suc i) [] h = h
    suffix_keys (suc i) (d ∷ ds) h = suffix_keys i ds (tail_keys d.0 (keys_in ds) h)

    from_here : AreKeys (keys_in es) → AreKeys (e.0 ∷ keys_in (drop (suc i) es))
    from_here h = subst (λ l. AreKeys (keys_in l)) (split es i e within is) (suffix_keys i es h)

    pub key_free : AreKeys (keys_in es) → e.0 ≢ array_key
    key_free h = (from_here h).1.0

    pub key_less : (f : List ℕ × X) → n < length es → f ≡ get_or es n f → AreKeys (keys_in es) → slice_cmp nat_cmp e.0 f.0 ≡ Less
    key_less f more next h =
        let later : drop (suc i) es ≡ f ∷ drop (suc n) es = ap (λ m. drop m es) (sym counts) ∙ split es n f more next in
        first_less e.0 f.0 _ (subst (λ l. AreKeys (e.0 ∷ keys_in l)) later (from_here h))

pub less_from_ge : (o : Ordering) → is_ge o ≡ false → o ≡ Less
less_from_ge Less h = refl
less_from_ge Equal h = absurd (cc)
less_from_ge Greater h = absurd (cc)

pub not_less_from_ge : (o : Ordering) → is_ge o ≡ true → o ≡ Less → ⊥
not_less_from_ge Less h e = cc
not_less_from_ge Equal h e = cc
not_less_from_ge Greater h e = cc
