-- A table with one more member, in the program and as a tree.
use Rattle.std.proofs.Common.{◌≡◌, ◌≢◌, ℕ, ◌+◌, ◌<◌, List, [], ◌∷◌, length, get_or, drop, refl, sym, ap, ◌∙◌, subst}
use Rattle.std.specs.Prelude.{Option, Some, None}
use Rattle.std.specs.String.{string_bytes, string_cmp}
use Rattle.std.specs.declared.string.String.{String}
use Rattle.std.specs.Ordering.{nat_cmp, match_ordering}
use Rattle.std.specs.Cmp.Lexicographic.{slice_cmp}
use Rattle.std.specs.declared.cmp.Ordering.{Ordering}
use Rattle.std.specs.declared.cmp.Ordering.TheVariants.{Less, Equal, Greater}
use Rattle.std.specs.BTreeMap.{insert_entry}
use Rattle.std.proofs.lemmas.List.{at_drop_more}
use Rattle.jl_value.specs.Tree.{Tree, members_of as pairs_of}
use Rattle.jl_value.specs.Form.{tree_of}
use Rattle.jl_value.specs.Canonical.{array_key}
use Rattle.jl_value.specs.Proper.{AreKeys, keys}
use Rattle.jl_value.specs.declared.value.Value.{Value}
use Rattle.jl_lexer.specs.Words.{key_in}
use Rattle.jl_lexer.specs.Trees.{Expression, entries_of}
use Rattle.jl_operands.specs.Steps.{Evaluated, done, then'}
use Rattle.jl_operands.specs.Lists.{with_entry}
use Rattle.jl_lang.specs.Meaning.{value_of, entries_value}
use Rattle.jl_operands.specs.Outcomes.{pairs_in}
use Rattle.jl_builtins.specs.TableLaws.{IfKey, key_good, keys_more}

pairs_by : {Y : Type 0} (r : Ordering) (e : String Y × Value) (es : List (String Y × Value)) (k : String Y) (v : Value)
    → pairs_in (insert_entry string_cmp es k v) ≡ insert_entry (slice_cmp nat_cmp) (pairs_in es) (string_bytes k) (tree_of v)
    → pairs_in (match_ordering r ((k, v) ∷ e ∷ es) ((e.0, v) ∷ es) (e ∷ insert_entry string_cmp es k v))
    ≡ match_ordering r ((string_bytes k, tree_of v) ∷ pairs_in (e ∷ es)) ((string_bytes e.0, tree_of v) ∷ pairs_in es) ((string_bytes e.0, tree_of e.1) ∷ insert_entry (slice_cmp nat_cmp) (pairs_in es) (string_bytes k) (tree_of v))
pairs_by Less e es k v h = refl
pairs_by Equal e es k v h = refl
pairs_by Greater e es k v h = ap (λ l. (string_bytes e.0, tree_of e.1) ∷ l) h

pub pairs_insert : {Y : Type 0} (es : List (String Y × Value)) (k : String Y) (v : Value) → pairs_in (insert_entry string_cmp es k v) ≡ insert_entry (slice_cmp nat_cmp) (pairs_in es) (string_bytes k) (tree_of v)
pairs_insert [] k v = refl
pairs_insert (e ∷ es) k v = pairs_by (string_cmp k e.0) e es k v (pairs_insert es k v)

no_array_by : (o : Option (List ℕ)) (s : List ℕ) → o ≡ Some s → IfKey o → s ≢ array_key
no_array_by None s e h = absurd (cc)
no_array_by (Some t) s e h = let same : t ≡ s = cc in subst (λ (y : List ℕ). y ≢ array_key) same h.1

no_array : (w s : List ℕ) → key_in w ≡ Some s → s ≢ array_key
no_array w s e = no_array_by (key_in w) s e (key_good w)

-- the members with one more are those of a table
pub keys_with : {Y : Type 0} (es ns : List (String Y × Value)) (k : String Y) (v : Value) (w s : List ℕ) → ns ≡ insert_entry string_cmp es k v → string_bytes k ≡ s → key_in w ≡ Some s → AreKeys (keys (pairs_of (pairs_in es))) → AreKeys (keys (pairs_of (pairs_in ns)))
keys_with es ns k v w s same text key h =
    subst (λ (ps : List (List ℕ × Tree)). AreKeys (keys (pairs_of ps))) (sym (ap pairs_in same ∙ pairs_insert es k v))
    (keys_more (pairs_in es) (string_bytes k) (tree_of v) (no_array w (string_bytes k) (key ∙ ap Some (sym text))) h)

-- one entry of a table on
pub entry_more : {Y : Type 0} (scope : List (List ℕ × Tree)) (entries : List (List ℕ × Expression)) (i : ℕ) (p : List ℕ × Expression) (es ns : List (String Y × Value)) (k : String Y) (v : Value) (n m : ℕ) (s : List ℕ) (x : Evaluated)
    → i < length entries → p ≡ get_or entries i p → ns ≡ insert_entry string_cmp es k v → string_bytes k ≡ s → key_in p.0 ≡ Some s → value_of scope p.1 n ≡ done (tree_of v) m
    → entries_value scope (entries_of (drop i entries)) (pairs_in es) n ≡ x
    → entries_value scope (entries_of (drop (i + 1) entries)) (pairs_in ns) m ≡ x
entry_more scope entries i p es ns k v n m s x low is same text key made so =
    ap (λ ps. entries_value scope (entries_of (drop (i + 1) entries)) ps m) (ap pairs_in same ∙ pairs_insert es k v)
    ∙ ap (λ t. entries_value scope (entries_of (drop (i + 1) entries)) (insert_entry (slice_cmp nat_cmp) (pairs_in es) t (tree_of v)) m) text
    ∙ ap (λ o. entries_value scope (entries_of (drop (i + 1) entries)) (with_entry o (tree_of v) (pairs_in es)) m) (sym key)
    ∙ ap (λ r. then' r (λ u l. entries_value scope (entries_of (drop (i + 1) entries)) (with_entry (key_in p.0) u (pairs_in es)) l)) (sym made)
    ∙ ap (λ (q : List ℕ × Expression). entries_value scope (entries_of (q ∷ drop (i + 1) entries)) (pairs_in es) n) is
    ∙ sym (at_drop_more (λ ps. entries_value scope (entries_of ps) (pairs_in es) n) entries i p low)
    ∙ so
