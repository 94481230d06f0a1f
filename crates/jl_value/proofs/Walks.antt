-- The walk, a member at a time.
use Rattle.std.proofs.Common.{◌≡◌, ◌≢◌, ℕ, suc, ◌+◌, ◌<◌, ◌≤◌, ℤ, pos, negsuc, Bool, true, false, List, [], ◌∷◌, ◌++◌, length, get_or, drop, map, Option, Some, None, option_map, option_and_then, is_some, String, Global, string_bytes, string_cmp, Ordering, Less, Equal, Greater, nat_cmp, is_eq, refl, sym, ap, ◌∙◌, arith, append_assoc, drop-cons, ne_eqb}
use Rattle.std.specs.Prelude.{Ok, Err, if◌then◌else◌}
use Rattle.std.specs.Str.{IsUtf8, is_utf8}
use Rattle.std.proofs.lemmas.Str.{IsUtf8-from_is_utf8}
use mir.Syntax.{w64}
use mir.Val.{SFits}
use Rattle.serde_json.specs.Read.{read}
use Rattle.jl_value.specs.Reading.{read_tree}
use Rattle.jl_value.specs.Walked.{read_bytes}
use Rattle.jl_value.specs.declared.fault.ValueFault.TheVariants.{NotJson}
use Rattle.std.proofs.lemmas.List.{drop_all}
use Rattle.std.proofs.lemmas.Map.Text.{is_eq-slice_cmp}
use Rattle.std.proofs.lemmas.Slice.Eq.{bytes_eq-Decides}
use Rattle.std.specs.Cmp.Lexicographic.{slice_cmp}
use Rattle.std.specs.List.{AllByRecursion}
use Rattle.std.specs.List.Sorted.{IsStrictlySortedBy}
use Rattle.std.specs.Map.{keys_of}
use Rattle.std.specs.Ordering.{match_ordering}
use Rattle.serde_json.specs.Data as json
use Rattle.serde_json.specs.Find.{get_member}
use Rattle.serde_json.specs.View.{view, items_view, members_view}
use Rattle.serde_json.proofs.Views.{Entry}
use Rattle.serde_json.specs.declared.value.Value as J
use Rattle.jl_value.specs.Canonical.{array_key}
use Rattle.jl_value.specs.Tree.{Tree, Items, no_items, item, Members, no_members, member, items_of, members_of}
use Rattle.jl_value.specs.Form.{tree_of, trees_of, entries_of, keys_in}
use Rattle.jl_value.specs.Reading.{Read, mapped, then', walk, walk_items, walk_members, whole_in, wholes_in, array_in, only_array, array_within, has_array_key}
use Rattle.jl_value.specs.Walked.{items_before, members_before, array_among}
use Rattle.jl_value.specs.Proper.{FitsI64, AllFitI64, IsProper, AreProper, HasProper, AreKeys}
use Rattle.jl_value.specs.declared.value.Value.{Value}

next : {A : Type 0} (xs : List A) (i : ℕ) (x : A) → i < length xs → x ≡ get_or xs i x → drop i xs ≡ x ∷ drop (suc i) xs
next xs i x h is = drop-cons xs i x h ∙ ap (λ y. y ∷ drop (suc i) xs) (sym is)

-- ---- items

items_push : (us : List Tree) (t : Tree) (ts : Items) → items_before us (item t ts) ≡ items_before (us ++ t ∷ []) ts
items_push [] t ts = refl
items_push (u ∷ us) t ts = ap (item u) (items_push us t ts)

one_more_item : (us : List Tree) (t : Tree) (r : Read Items) → mapped (items_before us) (mapped (item t) r) ≡ mapped (items_before (us ++ t ∷ [])) r
one_more_item us t (Ok ts) = ap Ok (items_push us t ts)
one_more_item us t (Err e) = refl

trees_push : (vs : List Value) (v : Value) → trees_of (vs ++ v ∷ []) ≡ trees_of vs ++ tree_of v ∷ []
trees_push [] v = refl
trees_push (w ∷ vs) v = ap (λ l. tree_of w ∷ l) (trees_push vs v)

pub proper_push : (vs : List Value) (v : Value) → AreProper (items_of (trees_of vs)) → IsProper (tree_of v) → AreProper (items_of (trees_of (vs ++ v ∷ [])))
proper_push [] v h p = (p, tt)
proper_push (w ∷ vs) v h p = (h.0, proper_push vs v h.1 p)

pub item_step : (n : ℕ) (vs : List Value) (v : Value) (xs : List J.Value) (i : ℕ) (x : J.Value) (r : Read Items) → i < length xs → x ≡ get_or xs i x → walk n (view x) ≡ Ok (tree_of v)
    → r ≡ mapped (items_before (trees_of vs)) (walk_items n (items_view (drop i xs))) → r ≡ mapped (items_before (trees_of (vs ++ v ∷ []))) (walk_items n (items_view (drop (i + 1) xs)))
item_step n vs v xs i x r h is here so_far =
    let at : suc i ≡ i + 1 = omega arith in
    so_far ∙ ap (λ l. mapped (items_before (trees_of vs)) (walk_items n (items_view l))) (next xs i x h is)
    ∙ ap (λ o. mapped (items_before (trees_of vs)) (then' o (λ t. mapped (item t) (walk_items n (items_view (drop (suc i) xs)))))) here
    ∙ one_more_item (trees_of vs) (tree_of v) _
    ∙ ap (λ us. mapped (items_before us) (walk_items n (items_view (drop (suc i) xs)))) (sym (trees_push vs v))
    ∙ ap (λ j. mapped (items_before (trees_of (vs ++ v ∷ []))) (walk_items n (items_view (drop j xs)))) at

items_before_none : (us : List Tree) → items_before us no_items ≡ items_of us
items_before_none [] = refl
items_before_none (u ∷ us) = ap (item u) (items_before_none us)

pub item_end : (n : ℕ) (vs : List Value) (xs : List J.Value) (i : ℕ) (r : Read Items) → length xs ≤ i → r ≡ mapped (items_before (trees_of vs)) (walk_items n (items_view (drop i xs))) → r ≡ Ok (items_of (trees_of vs))
item_end n vs xs i r h so_far = so_far ∙ ap (λ l. mapped (items_before (trees_of vs)) (walk_items n (items_view l))) (drop_all i xs h) ∙ ap Ok (items_before_none (trees_of vs))

-- ---- members

members_push : (ps : List (List ℕ × Tree)) (p : List ℕ × Tree) (ms : Members) → members_before ps (member p.0 p.1 ms) ≡ members_before (ps ++ p ∷ []) ms
members_push [] p ms = refl
members_push (q ∷ ps) p ms = ap (member q.0 q.1) (members_push ps p ms)

one_more_member : (ps : List (List ℕ × Tree)) (p : List ℕ × Tree) (r : Read Members) → mapped (members_before ps) (mapped (member p.0 p.1) r) ≡ mapped (members_before (ps ++ p ∷ [])) r
one_more_member ps p (Ok ms) = ap Ok (members_push ps p ms)
one_more_member ps p (Err e) = refl

entries_push : (es : List (List ℕ × Value)) (e : List ℕ × Value) → entries_of (es ++ e ∷ []) ≡ entries_of es ++ (e.0, tree_of e.1) ∷ []
entries_push [] e = refl
entries_push (d ∷ es) e = ap (λ l. (d.0, tree_of d.1) ∷ l) (entries_push es e)

pub has_proper_push : (es : List (List ℕ × Value)) (e : List ℕ × Value) → HasProper (members_of (entries_of es)) → HasProper (members_of (entries_of (e ∷ []))) → HasProper (members_of (entries_of (es ++ e ∷ [])))
has_proper_push [] e h p = p
has_proper_push (d ∷ es) e h p = (h.0, h.1, has_proper_push es e h.2 p)

pub keys_push : (es : List (List ℕ × Value)) (e : List ℕ × Value) → keys_in (es ++ e ∷ []) ≡ keys_in es ++ e.0 ∷ []
keys_push [] e = refl
keys_push (d ∷ es) e = ap (λ l. d.0 ∷ l) (keys_push es e)

abbrev pub names : List Entry → List (List ℕ)
names es = map (λ e. string_bytes e.0) es

pub names_push : (es : List Entry) (e : Entry) → names (es ++ e ∷ []) ≡ names es ++ string_bytes e.0 ∷ []
names_push [] e = refl
names_push (d ∷ es) e = ap (λ l. string_bytes d.0 ∷ l) (names_push es e)

pub member_step : (n : ℕ) (es : List (List ℕ × Value)) (k : List ℕ) (v : Value) (left rest : List Entry) (e : Entry) (r : Read Members) → left ≡ e ∷ rest → k ≡ string_bytes e.0 → walk n (view e.1) ≡ Ok (tree_of v)
    → r ≡ mapped (members_before (entries_of es)) (walk_members n (members_view left)) → r ≡ mapped (members_before (entries_of (es ++ (k, v) ∷ []))) (walk_members n (members_view rest))
member_step n es k v left rest e r is named here so_far =
    so_far ∙ ap (λ l. mapped (members_before (entries_of es)) (walk_members n (members_view l))) is
    ∙ ap (λ o. mapped (members_before (entries_of es)) (then' o (λ t. mapped (member (string_bytes e.0) t) (walk_members n (members_view rest))))) here
    ∙ ap (λ s. mapped (members_before (entries_of es)) (mapped (member s (tree_of v)) (walk_members n (members_view rest)))) (sym named)
    ∙ one_more_member (entries_of es) (k, tree_of v) _
    ∙ ap (λ ps. mapped (members_before ps) (walk_members n (members_view rest))) (sym (entries_push es (k, v)))

members_before_none : (ps : List (List ℕ × Tree)) → members_before ps no_members ≡ members_of ps
members_before_none [] = refl
members_before_none (p ∷ ps) = ap (member p.0 p.1) (members_before_none ps)

pub member_end : (n : ℕ) (es : List (List ℕ × Value)) (left : List Entry) (r : Read Members) → left ≡ [] → r ≡ mapped (members_before (entries_of es)) (walk_members n (members_view left)) → r ≡ Ok (members_of (entries_of es))
member_end n es left r is so_far = so_far ∙ ap (λ l. mapped (members_before (entries_of es)) (walk_members n (members_view l))) is ∙ ap Ok (members_before_none (entries_of es))

-- ---- keys

above_names : (k : String Global) (es : List Entry) → AllByRecursion (λ y. string_cmp k y ≡ Less) (keys_of es) → AllByRecursion (λ y. slice_cmp nat_cmp (string_bytes k) y ≡ Less) (names es)
above_names k [] h = tt
above_names k (e ∷ es) h = (h.0, above_names k es h.1)

sorted_names : (es : List Entry) → IsStrictlySortedBy string_cmp (keys_of es) → IsStrictlySortedBy (slice_cmp nat_cmp) (names es)
unfolding IsStrictlySortedBy
sorted_names [] h = tt
sorted_names (e ∷ es) h = (above_names e.0 es h.0, sorted_names es h.1)

found_at : (o : Ordering) (a b : Option json.Data) (d : json.Data) → o ≡ Equal → is_some (match_ordering o a (Some d) a) ≡ true
found_at Less a b d e = absurd (cc)
found_at Equal a b d e = refl
found_at Greater a b d e = absurd (cc)

not_found_at : (o : Ordering) (a : Option json.Data) (d : json.Data) → is_some (match_ordering o a (Some d) a) ≡ false → (is_eq o ≡ false) × (is_some a ≡ false)
not_found_at Less a d e = (refl, e)
not_found_at Equal a d e = absurd (cc)
not_found_at Greater a d e = (refl, e)

other_name : (xs ys : List ℕ) → is_eq (slice_cmp nat_cmp xs ys) ≡ false → ys ≢ xs
other_name xs ys e same = let t = (bytes_eq-Decides xs ys).1 (sym same) in let f = sym (is_eq-slice_cmp xs ys) ∙ e in cc

free_names : (es : List Entry) → has_array_key (members_view es) ≡ false → AllByRecursion (λ k. k ≢ array_key) (names es)
free_names [] h = tt
free_names (e ∷ es) h = let both = not_found_at (slice_cmp nat_cmp array_key (string_bytes e.0)) _ _ h in (other_name array_key (string_bytes e.0) both.0, free_names es both.1)

pub keys_are : (es : List Entry) → IsStrictlySortedBy string_cmp (keys_of es) → has_array_key (members_view es) ≡ false → AreKeys (names es)
keys_are es s h = (sorted_names es s, free_names es h)

-- ---- the numbers of an array

appended : (zs : List ℤ) (z : ℤ) (o : Option (List ℤ)) → option_map (λ r. zs ++ r) (option_map (λ r. z ∷ r) o) ≡ option_map (λ r. (zs ++ z ∷ []) ++ r) o
appended zs z None = refl
appended zs z (Some r) = ap Some (sym (append_assoc zs (z ∷ []) r))

pub whole_step : (zs : List ℤ) (z : ℤ) (xs : List J.Value) (i : ℕ) (x : J.Value) (r : Option (List ℤ)) → i < length xs → x ≡ get_or xs i x → whole_in (view x) ≡ Some z
    → r ≡ option_map (λ l. zs ++ l) (wholes_in (items_view (drop i xs))) → r ≡ option_map (λ l. (zs ++ z ∷ []) ++ l) (wholes_in (items_view (drop (i + 1) xs)))
whole_step zs z xs i x r h is here so_far =
    let at : suc i ≡ i + 1 = omega arith in
    so_far ∙ ap (λ l. option_map (λ m. zs ++ m) (wholes_in (items_view l))) (next xs i x h is)
    ∙ ap (λ o. option_map (λ m. zs ++ m) (option_and_then (λ y. option_map (λ m. y ∷ m) (wholes_in (items_view (drop (suc i) xs)))) o)) here
    ∙ appended zs z _
    ∙ ap (λ j. option_map (λ l. (zs ++ z ∷ []) ++ l) (wholes_in (items_view (drop j xs)))) at

pub whole_stop : (zs : List ℤ) (xs : List J.Value) (i : ℕ) (x : J.Value) (r : Option (List ℤ)) → i < length xs → x ≡ get_or xs i x → whole_in (view x) ≡ None
    → r ≡ option_map (λ l. zs ++ l) (wholes_in (items_view (drop i xs))) → r ≡ None
whole_stop zs xs i x r h is here so_far =
    so_far ∙ ap (λ l. option_map (λ m. zs ++ m) (wholes_in (items_view l))) (next xs i x h is)
    ∙ ap (λ o. option_map (λ m. zs ++ m) (option_and_then (λ y. option_map (λ m. y ∷ m) (wholes_in (items_view (drop (suc i) xs)))) o)) here

pub whole_end : (zs : List ℤ) (xs : List J.Value) (i : ℕ) (r : Option (List ℤ)) → length xs ≤ i → r ≡ option_map (λ l. zs ++ l) (wholes_in (items_view (drop i xs))) → r ≡ Some (zs ++ [])
whole_end zs xs i r h so_far = so_far ∙ ap (λ l. option_map (λ m. zs ++ m) (wholes_in (items_view l))) (drop_all i xs h)

pub are_whole_push : (zs : List ℤ) (z : ℤ) → AllFitI64 zs → FitsI64 z → AllFitI64 (zs ++ z ∷ [])
are_whole_push [] z h w = (w, tt)
are_whole_push (y ∷ zs) z h w = (h.0, are_whole_push zs z h.1 w)

one_member : (o : Ordering) (e d : json.Data) → match_ordering o None (Some e) None ≡ Some d → array_in e ≡ array_in d
one_member Less e d h = absurd (cc)
one_member Equal e d h = let same : e ≡ d = cc in ap array_in same
one_member Greater e d h = absurd (cc)

-- what the members of an object with the array key are
pub only_is : (es : List Entry) (d : json.Data) → get_member array_key (members_view es) ≡ Some d → only_array (members_view es) ≡ array_among (length es) d
only_is [] d h = absurd (cc)
only_is (e ∷ []) d h = one_member (slice_cmp nat_cmp array_key (string_bytes e.0)) (view e.1) d h
only_is (e ∷ f ∷ es) d h = rw (ne_eqb (length (e ∷ f ∷ es)) 1 (λ n. omega arith))

-- an object without the array key, and one with it
pub no_key : (es : List Entry) → None ≡ get_member array_key (members_view es) → has_array_key (members_view es) ≡ false
no_key es h = ap is_some (sym h)

pub object_walk : (n : ℕ) (es : List Entry) (d : json.Data) → Some d ≡ get_member array_key (members_view es) → walk (suc n) (json.object (members_view es)) ≡ array_within n (array_among (length es) d)
object_walk n es d h = rw (sym h) (ap (array_within n) (only_is es d (sym h)))

pub whole_fits : (z : ℤ) → SFits w64 z → FitsI64 z
whole_fits (pos n) h = omega arith
whole_fits (negsuc n) h = omega arith

not_read : (n : ℕ) (s : List ℕ) (b : Bool) → is_utf8 s ≡ b → (IsUtf8 s → read s ≡ None) → (if b then read_tree n s else Err NotJson) ≡ Err NotJson
not_read n s true e h = rw (h (IsUtf8-from_is_utf8 s e))
not_read n s false e h = refl

pub refused : (n : ℕ) (s : List ℕ) → (IsUtf8 s → read s ≡ None) → read_bytes n s ≡ Err NotJson
refused n s h = not_read n s (is_utf8 s) refl h

pub item_taken : (n : ℕ) (vs : List Value) (v : Value) (left rest : List J.Value) (x : J.Value) (r : Read Items) → left ≡ x ∷ rest → walk n (view x) ≡ Ok (tree_of v)
    → r ≡ mapped (items_before (trees_of vs)) (walk_items n (items_view left)) → r ≡ mapped (items_before (trees_of (vs ++ v ∷ []))) (walk_items n (items_view rest))
item_taken n vs v left rest x r is here so_far =
    so_far ∙ ap (λ l. mapped (items_before (trees_of vs)) (walk_items n (items_view l))) is
    ∙ ap (λ o. mapped (items_before (trees_of vs)) (then' o (λ t. mapped (item t) (walk_items n (items_view rest))))) here
    ∙ one_more_item (trees_of vs) (tree_of v) _
    ∙ ap (λ us. mapped (items_before us) (walk_items n (items_view rest))) (sym (trees_push vs v))

pub items_taken : (n : ℕ) (vs : List Value) (left : List J.Value) (r : Read Items) → left ≡ [] → r ≡ mapped (items_before (trees_of vs)) (walk_items n (items_view left)) → r ≡ Ok (items_of (trees_of vs))
items_taken n vs left r is so_far = so_far ∙ ap (λ l. mapped (items_before (trees_of vs)) (walk_items n (items_view l))) is ∙ ap Ok (items_before_none (trees_of vs))
