-- A table with one more member is a table.
-- Machinery: nothing here need be believed.
use Rattle.std.specs.Prelude.{◌≡◌, ◌≢◌, ℕ, Bool, true, false, if◌then◌else◌, List, [], ◌∷◌, Option, Some, None, refl}
use Rattle.std.proofs.Common.{ap, ◌∙◌}
use Rattle.std.specs.Ordering.{nat_cmp, ordering_reverse, match_ordering}
use Rattle.std.specs.Cmp.Lexicographic.{slice_cmp, nat_list_cmp_total}
use Rattle.std.specs.declared.cmp.Ordering.{Ordering}
use Rattle.std.specs.declared.cmp.Ordering.TheVariants.{Less, Equal, Greater}
use Rattle.std.specs.List.{AllByRecursion}
use Rattle.std.specs.List.Sorted.{IsStrictlySortedBy}
use Rattle.std.specs.Str.{bytes_eq, is_utf8, IsUtf8}
use Rattle.std.specs.BTreeMap.{insert_entry}
use Rattle.std.proofs.lemmas.Slice.Eq.{bytes_eq-Decides}
use Rattle.std.proofs.lemmas.Str.{IsUtf8-from_is_utf8}
use Rattle.jl_value.specs.Tree.{Tree, members_of}
use Rattle.jl_value.specs.Canonical.{array_key}
use Rattle.jl_value.specs.Proper.{IsProper, AreKeys, HasProper, keys}
use Rattle.jl_lexer.specs.Words.{if_text, quoted_in, if_key, key_in}
use Rattle.jl_operands.specs.Lists.{with_entry}

-- ---- the keys that a word writes

abbrev pub IfKey : Option (List ℕ) → Type 0
IfKey None = Unit {0}
IfKey (Some s) = IsUtf8 s × (s ≢ array_key)

key_test : (b : Bool) (s : List ℕ) → IsUtf8 s → (b ≡ false → s ≢ array_key) → IfKey (if b then None else Some s)
key_test true s h k = tt
key_test false s h k = (h, k refl)

apart : (s : List ℕ) → bytes_eq s array_key ≡ false → s ≢ array_key
apart s e same = let there = (bytes_eq-Decides s array_key).1 same in cc

text_key : (b : Bool) (s : List ℕ) → (b ≡ true → IsUtf8 s) → IfKey (if_key (if b then Some s else None))
text_key true s h = key_test (bytes_eq s array_key) s (h refl) (apart s)
text_key false s h = tt

quoted_key : (o : Option (List ℕ)) → IfKey (if_key (if_text o))
quoted_key None = tt
quoted_key (Some s) = text_key (is_utf8 s) s (IsUtf8-from_is_utf8 s)

pub key_good : (w : List ℕ) → IfKey (key_in w)
key_good w = quoted_key (quoted_in w)

-- ---- the order of the keys

abbrev order : List ℕ → List ℕ → Ordering
order a b = slice_cmp nat_cmp a b

below_rest : (k l : List ℕ) (ks : List (List ℕ)) → order k l ≡ Less → AllByRecursion (λ y. order l y ≡ Less) ks → AllByRecursion (λ y. order k y ≡ Less) ks
below_rest k l [] e h = tt
below_rest k l (m ∷ ms) e h = (nat_list_cmp_total.trans k l m e h.0, below_rest k l ms e h.1)

hold_by : (r : Ordering) (P : List ℕ → Type 0) (e : List ℕ × Tree) (es : List (List ℕ × Tree)) (k : List ℕ) (v : Tree) → P k → AllByRecursion P (keys (members_of (e ∷ es)))
    → AllByRecursion P (keys (members_of (insert_entry (slice_cmp nat_cmp) es k v)))
    → AllByRecursion P (keys (members_of (match_ordering r ((k, v) ∷ e ∷ es) ((e.0, v) ∷ es) (e ∷ insert_entry (slice_cmp nat_cmp) es k v))))
hold_by Less P e es k v p h more = (p, h)
hold_by Equal P e es k v p h more = h
hold_by Greater P e es k v p h more = (h.0, more)

-- what holds of each key holds with one more
keys_hold : (P : List ℕ → Type 0) (kvs : List (List ℕ × Tree)) (k : List ℕ) (v : Tree) → P k → AllByRecursion P (keys (members_of kvs)) → AllByRecursion P (keys (members_of (insert_entry (slice_cmp nat_cmp) kvs k v)))
keys_hold P [] k v p h = (p, tt)
keys_hold P (e ∷ es) k v p h = hold_by (order k e.0) P e es k v p h (keys_hold P es k v p h.1)

above : (k l : List ℕ) → order k l ≡ Greater → order l k ≡ Less
above k l e = nat_list_cmp_total.antisymm l k ∙ ap ordering_reverse e

sorted_by : (r : Ordering) (e : List ℕ × Tree) (es : List (List ℕ × Tree)) (k : List ℕ) (v : Tree) → order k e.0 ≡ r → IsStrictlySortedBy (slice_cmp nat_cmp) (keys (members_of (e ∷ es)))
    → IsStrictlySortedBy (slice_cmp nat_cmp) (keys (members_of (insert_entry (slice_cmp nat_cmp) es k v)))
    → IsStrictlySortedBy (slice_cmp nat_cmp) (keys (members_of (match_ordering r ((k, v) ∷ e ∷ es) ((e.0, v) ∷ es) (e ∷ insert_entry (slice_cmp nat_cmp) es k v))))
unfolding IsStrictlySortedBy
sorted_by Less e es k v c h more = ((c, below_rest k e.0 (keys (members_of es)) c h.0), h)
sorted_by Equal e es k v c h more = h
sorted_by Greater e es k v c h more = (keys_hold (λ y. order e.0 y ≡ Less) es k v (above k e.0 c) h.0, more)

sorted_more : (kvs : List (List ℕ × Tree)) (k : List ℕ) (v : Tree) → IsStrictlySortedBy (slice_cmp nat_cmp) (keys (members_of kvs)) → IsStrictlySortedBy (slice_cmp nat_cmp) (keys (members_of (insert_entry (slice_cmp nat_cmp) kvs k v)))
unfolding IsStrictlySortedBy
sorted_more [] k v h = (tt, tt)
sorted_more (e ∷ es) k v h = sorted_by (order k e.0) e es k v refl h (sorted_more es k v h.1)

pub keys_more : (kvs : List (List ℕ × Tree)) (k : List ℕ) (v : Tree) → k ≢ array_key → AreKeys (keys (members_of kvs)) → AreKeys (keys (members_of (insert_entry (slice_cmp nat_cmp) kvs k v)))
keys_more kvs k v a h = (sorted_more kvs k v h.0, keys_hold (λ y. y ≢ array_key) kvs k v a h.1)

-- ---- the members

proper_by : (r : Ordering) (e : List ℕ × Tree) (es : List (List ℕ × Tree)) (k : List ℕ) (v : Tree) → IsUtf8 k → IsProper v → HasProper (members_of (e ∷ es))
    → HasProper (members_of (insert_entry (slice_cmp nat_cmp) es k v))
    → HasProper (members_of (match_ordering r ((k, v) ∷ e ∷ es) ((e.0, v) ∷ es) (e ∷ insert_entry (slice_cmp nat_cmp) es k v)))
proper_by Less e es k v p q h more = (p, q, h)
proper_by Equal e es k v p q h more = (h.0, q, h.2)
proper_by Greater e es k v p q h more = (h.0, h.1, more)

proper_more : (kvs : List (List ℕ × Tree)) (k : List ℕ) (v : Tree) → IsUtf8 k → IsProper v → HasProper (members_of kvs) → HasProper (members_of (insert_entry (slice_cmp nat_cmp) kvs k v))
proper_more [] k v p q h = (p, q, tt)
proper_more (e ∷ es) k v p q h = proper_by (order k e.0) e es k v p q h (proper_more es k v p q h.2)

-- members that are those of a table
abbrev pub IsTable : List (List ℕ × Tree) → Type 0
IsTable kvs = AreKeys (keys (members_of kvs)) × HasProper (members_of kvs)

pub empty_table : IsTable []
unfolding IsStrictlySortedBy
empty_table = ((tt, tt), tt)

pub entry_table : (o : Option (List ℕ)) (v : Tree) (kvs : List (List ℕ × Tree)) → IfKey o → IsProper v → IsTable kvs → IsTable (with_entry o v kvs)
entry_table None v kvs h k t = t
entry_table (Some s) v kvs h k t = (keys_more kvs s v h.1 t.0, proper_more kvs s v h.0 k t.1)
