-- The paths of items.
use Rattle.std.proofs.Common.{◌≡◌, ℕ, zero, suc, ◌+◌, ◌≤◌, List, [], ◌∷◌, Bool, true, false, ◌&&◌, ◌||◌, nat_eq, length, refl, sym, ap, subst, ◌∙◌, arith, length-append}
use Rattle.std.specs.Prelude.{IsTrue, nat_lt, Contains}
use Rattle.std.specs.List.{list_all}
use Rattle.std.proofs.lemmas.Bool.{and_parts, leb-true}
use Rattle.std.proofs.lemmas.Bool.Decides.{nat_tests, Decides-eqb}
use Rattle.std.proofs.lemmas.Grind.{common_steps}
use Rattle.jl_text.specs.Paths.{PathView, is_part, is_path, is_bad, path_of, text_of, behind_slashes}
use Rattle.jl_text.specs.Texts.{is_name, is_name_byte}
use Rattle.jl_text.proofs.Names.{is_part-from_bytes, is_part-is_name}
use Rattle.jl_text.proofs.Spelled.{path_of-text_of, is_bad-text_of, text_of-injective, text_of-spelled}
use Rattle.jl_entry.specs.Names.{is_key, is_hex_byte}
use Rattle.jl_evict.specs.Items.{IsEntryParts, IsItemPath}

-- ---- keys

hex_is_name : (b : ℕ) → is_hex_byte b ≡ true → is_name_byte b ≡ true
hex_is_name b h = grind (arith, nat_tests, common_steps)

both : (a b : Bool) → a ≡ true → b ≡ true → a && b ≡ true
both a b e f = (λ i. e i && f i)

hex_are_names : (t : List ℕ) → list_all is_hex_byte t ≡ true → list_all is_name_byte t ≡ true
hex_are_names [] h = refl
hex_are_names (b ∷ bs) h =
    let parts = and_parts (is_hex_byte b) (list_all is_hex_byte bs) h in both (is_name_byte b) (list_all is_name_byte bs) (hex_is_name b parts.0) (hex_are_names bs parts.1)

pub key_length : (k : List ℕ) → IsTrue (is_key k) → length k ≡ 32
unfolding is_key
key_length k is = (Decides-eqb (length k) 32).0 (and_parts (list_all is_hex_byte k) (nat_eq (length k) 32) is).1

pub key_part : (k : List ℕ) → IsTrue (is_key k) → is_part k ≡ true
unfolding is_key
key_part k is =
    let parts = and_parts (list_all is_hex_byte k) (nat_eq (length k) 32) is in
    is_part-from_bytes k (ap (λ n. nat_lt 0 n) (key_length k is)) (hex_are_names k parts.0)

-- ---- names

pub name_short : (m : List ℕ) → IsTrue (is_name m) → length m ≤ 64
name_short m is = let first = and_parts _ _ is in leb-true (length m) 64 (and_parts _ _ first.1).0

-- ---- parts

pub entry_path : (parts : PathView) → IsEntryParts parts → is_path parts ≡ true
entry_path parts of = subst (λ (ps : PathView). is_path ps ≡ true) (sym of.6) (three of.0 of.1 of.2 (is_part-is_name of.0 of.3) (is_part-is_name of.1 of.4) (key_part of.2 of.5))
  where
    or_right : (a b : Bool) → b ≡ true → a || b ≡ true
    or_right true b e = refl
    or_right false b e = e

    three : (m f k : List ℕ) → is_part m ≡ true → is_part f ≡ true → is_part k ≡ true → is_path (m ∷ f ∷ k ∷ []) ≡ true
    three m f k a b c =
        both (nat_eq (length m) 0 || is_part m) (list_all is_part (f ∷ k ∷ [])) (or_right (nat_eq (length m) 0) (is_part m) a)
        (both (is_part f) (list_all is_part (k ∷ [])) b (both (is_part k) true c refl))

text_length : (m f k : List ℕ) → length m ≤ 64 → length f ≤ 64 → length k ≤ 32 → length (text_of (m ∷ f ∷ k ∷ [])) ≤ 4096
text_length m f k a b c =
    omega (arith, a, b, c, ap length (text_of-spelled m (f ∷ k ∷ []) (not_zero (length m))), length-append m (behind_slashes (f ∷ k ∷ [])), length-append f (behind_slashes (k ∷ [])), length-append k [])
  where
    not_zero : (n : ℕ) → nat_eq (n + 2) 0 ≡ false
    not_zero n = grind (arith, nat_tests)

pub entry_text_good : (parts : PathView) → IsEntryParts parts → is_bad (text_of parts) ≡ false
entry_text_good parts of =
    is_bad-text_of parts (entry_path parts of)
    (subst (λ (ps : PathView). length (text_of ps) ≤ 4096) (sym of.6) (text_length of.0 of.1 of.2 (name_short of.0 of.3) (name_short of.1 of.4) (omega (arith, key_length of.2 of.5))))

pub item_path_good : (path : List ℕ) → IsItemPath path → is_bad path ≡ false
item_path_good path of = ap is_bad of.2 ∙ entry_text_good of.0 of.1

-- a path of an item is read as its parts
pub item_parts : (path : List ℕ) (of : IsItemPath path) → path_of path ≡ of.0
item_parts path of = ap path_of of.2 ∙ path_of-text_of of.0 (entry_path of.0 of.1)

pub entry_text_once : (ps qs : PathView) → IsEntryParts ps → IsEntryParts qs → text_of ps ≡ text_of qs → ps ≡ qs
entry_text_once ps qs a b e = text_of-injective ps qs (entry_path ps a) (entry_path qs b) e

-- each part can stand in a path
pub parts_good : (parts : PathView) → IsEntryParts parts → (p : List ℕ) → Contains parts p → IsTrue (is_part p)
parts_good parts of p among = by_index (subst (λ (ps : PathView). Contains ps p) of.6 among)
  where
    by_index : Contains (of.0 ∷ of.1 ∷ of.2 ∷ []) p → IsTrue (is_part p)
    by_index (zero, lt, e) = subst (λ (q : List ℕ). IsTrue (is_part q)) e (is_part-is_name of.0 of.3)
    by_index (suc zero, lt, e) = subst (λ (q : List ℕ). IsTrue (is_part q)) e (is_part-is_name of.1 of.4)
    by_index (suc (suc zero), lt, e) = subst (λ (q : List ℕ). IsTrue (is_part q)) e (key_part of.2 of.5)
    by_index (suc (suc (suc k)), lt, e) = absurd (omega (arith, lt))
