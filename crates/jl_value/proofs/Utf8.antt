-- A canonical text is UTF-8, so that its bytes are read back.
use Rattle.std.proofs.Common.{◌≡◌, ℕ, suc, ◌<◌, ◌≤◌, ◌^◌, ℤ, pos, negsuc, Bool, true, false, List, [], ◌∷◌, length, get_or, decimal, IsUtf8, inl, inr, refl, arith}
use Rattle.std.specs.Prelude.{Result, Ok, Err, IfOk}
use Rattle.std.proofs.lemmas.Bool.{cases_lt}
use Rattle.std.proofs.lemmas.Fmt.{decimal_is_IsNumeral}
use Rattle.std.specs.Str.{is_utf8}
use Rattle.std.proofs.lemmas.Str.{IsUtf8-from_is_utf8, IsUtf8-append, IsUtf8-nil, IsUtf8-from_ascii, is_utf8-from_IsUtf8}
use Rattle.std.proofs.lemmas.Str.Parse.{digit_at}
use Rattle.std.specs.Fmt.{signed_decimal}
use Rattle.json.specs.Print.{quoted}
use Rattle.json.proofs.Printed.Utf8.{IsUtf8-are_ascii, IsUtf8-quoted}
use Rattle.jl_value.specs.Tree.{Tree, null, truth, whole, text, list, table, numbers, Items, no_items, item, Members, no_members, member, nesting}
use Rattle.jl_value.specs.Canonical.{array_key, comma_if, numbers_text, text_of, items_text, members_text}
use Rattle.jl_value.specs.Proper.{FitsI64, AllFitI64, IsProper, AreProper, HasProper}
use Rattle.jl_value.specs.Walked.{read_bytes}
use Rattle.jl_value.proofs.Trips.{read_tree_back}

past : (xs : List ℕ) (i : ℕ) → length xs ≤ i → get_or xs i 0 ≡ 0
past [] i h = refl
past (x ∷ xs) i h = grind (arith, past xs)

decimal_utf8 : (n : ℕ) → n < 2 ^ 64 → IsUtf8 (decimal n)
decimal_utf8 n h = IsUtf8-from_ascii (decimal n) (λ i. elim (cases_lt i (length (decimal n))) [
  | inl within ↦ let d = digit_at (decimal n) i (decimal_is_IsNumeral n h).0.1 within in omega arith
  | inr over ↦ let none = past (decimal n) i over in omega arith
])

whole_utf8 : (z : ℤ) → FitsI64 z → IsUtf8 (signed_decimal z)
whole_utf8 (pos n) h = decimal_utf8 n (omega arith)
whole_utf8 (negsuc n) h = IsUtf8-append (45 ∷ []) (decimal (suc n)) (IsUtf8-are_ascii _ refl) (decimal_utf8 (suc n) (omega arith))

comma_utf8 : (later : Bool) → IsUtf8 (comma_if later)
comma_utf8 true = IsUtf8-are_ascii _ refl
comma_utf8 false = IsUtf8-nil

numbers_utf8 : (later : Bool) (zs : List ℤ) → AllFitI64 zs → IsUtf8 (numbers_text later zs)
numbers_utf8 later [] h = IsUtf8-are_ascii _ refl
numbers_utf8 later (z ∷ zs) h = IsUtf8-append (comma_if later) _ (comma_utf8 later) (IsUtf8-append (signed_decimal z) _ (whole_utf8 z h.0) (numbers_utf8 true zs h.1))

mutual
  pub text_utf8 : (t : Tree) → IsProper t → IsUtf8 (text_of t)
  text_utf8 null h = IsUtf8-are_ascii _ refl
  text_utf8 (truth true) h = IsUtf8-are_ascii _ refl
  text_utf8 (truth false) h = IsUtf8-are_ascii _ refl
  text_utf8 (whole z) h = whole_utf8 z h
  text_utf8 (text s) h = IsUtf8-quoted s h
  text_utf8 (list ts) h = IsUtf8-append (91 ∷ []) (items_text false ts) (IsUtf8-are_ascii _ refl) (items_utf8 false ts h)
  text_utf8 (table ms) h = IsUtf8-append (123 ∷ []) (members_text false ms) (IsUtf8-are_ascii _ refl) (members_utf8 false ms h.1)
  text_utf8 (numbers zs) h =
      IsUtf8-append (123 ∷ []) _ (IsUtf8-are_ascii _ refl)
      (IsUtf8-append (quoted array_key) _ (IsUtf8-quoted array_key (IsUtf8-are_ascii array_key refl))
      (IsUtf8-append (58 ∷ 91 ∷ []) _ (IsUtf8-are_ascii _ refl)
      (IsUtf8-append (numbers_text false zs) (125 ∷ []) (numbers_utf8 false zs h) (IsUtf8-are_ascii _ refl))))

  items_utf8 : (later : Bool) (ts : Items) → AreProper ts → IsUtf8 (items_text later ts)
  items_utf8 later no_items h = IsUtf8-are_ascii _ refl
  items_utf8 later (item t ts) h = IsUtf8-append (comma_if later) _ (comma_utf8 later) (IsUtf8-append (text_of t) _ (text_utf8 t h.0) (items_utf8 true ts h.1))

  members_utf8 : (later : Bool) (ms : Members) → HasProper ms → IsUtf8 (members_text later ms)
  members_utf8 later no_members h = IsUtf8-are_ascii _ refl
  members_utf8 later (member k t ms) h =
      IsUtf8-append (comma_if later) _ (comma_utf8 later)
      (IsUtf8-append (quoted k) _ (IsUtf8-quoted k h.0)
      (IsUtf8-append (58 ∷ []) _ (IsUtf8-are_ascii _ refl)
      (IsUtf8-append (text_of t) _ (text_utf8 t h.1) (members_utf8 true ms h.2))))

pub read_bytes_back : (n : ℕ) (t : Tree) → IsProper t → nesting t ≤ n → n ≤ 127 → read_bytes n (text_of t) ≡ Ok t
read_bytes_back n t h d small = rw (is_utf8-from_IsUtf8 (text_of t) (text_utf8 t h)) (read_tree_back n t h d (omega arith))

-- what an answer's two clauses give together
pub both : {T E : Type 0} (r : Result T E) (P Q R : T → Type 0) → ((x : T) → P x → Q x → R x) → IfOk r P → IfOk r Q → IfOk r R
both (Ok x) P Q R f p q = f x p q
both (Err e) P Q R f p q = tt

not_text : (s : List ℕ) (b : Bool) → is_utf8 s ≡ b → (IsUtf8 s → ⊥) → b ≡ false
not_text s true e h = absurd (h (IsUtf8-from_is_utf8 s e))
not_text s false e h = refl

-- what is no UTF-8 doesn't pass the test
pub is_utf8-not : (s : List ℕ) → (IsUtf8 s → ⊥) → is_utf8 s ≡ false
is_utf8-not s h = not_text s (is_utf8 s) refl h
