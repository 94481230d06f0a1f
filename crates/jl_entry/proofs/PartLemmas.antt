-- What the tests of names find.
use Rattle.std.proofs.Common.{◌≡◌, ◌⊎◌, inl, inr, ◌∙◌, Bool, true, false, ◌&&◌, nat_eq, ℕ, List, [], ◌∷◌, ◌++◌, length, sym, ap, refl, append-nil, true≢false, arith}
use Rattle.std.specs.Prelude.{IsTrue}
use Rattle.std.specs.List.{list_all}
use Rattle.std.proofs.lemmas.Bool.Decides.{nat_tests}
use Rattle.std.proofs.lemmas.List.{append_cancel_left}
use Rattle.jl_text.specs.Texts.{is_token}
use Rattle.jl_entry.specs.declared.names.EntryFile.TheVariants.{Output, Metadata, Access}
use Rattle.jl_entry.specs.Names.{entry_part, suffix, is_key, is_hex_byte, IsSuffix, IsEntryName, IsNamed}

-- the bytes of `.tmp-` and a token behind them
pub suffix_is : (rest token : List ℕ) → rest ≡ (46 ∷ 116 ∷ 109 ∷ 112 ∷ 45 ∷ []) ++ token → IsTrue (is_token token) → IsSuffix rest
unfolding suffix
suffix_is rest token e is = (token, is, e)

-- the token of a suffix
pub token_of : (rest token : List ℕ) → rest ≡ (46 ∷ 116 ∷ 109 ∷ 112 ∷ 45 ∷ []) ++ token → IsSuffix rest → IsTrue (is_token token)
unfolding suffix
token_of rest token e (t, is, at) =
    ap is_token (append_cancel_left (46 ∷ 116 ∷ 109 ∷ 112 ∷ 45 ∷ []) token t (sym e ∙ at)) ∙ is

-- what stands behind a name
pub rest_named : (name bytes rest : List ℕ) → bytes ≡ name ++ rest → (rest ≡ []) ⊎ IsSuffix rest → IsNamed name bytes
rest_named name bytes rest behind (inl none) = inl (behind ∙ ap (λ (w : List ℕ). name ++ w) none ∙ append-nil name)
rest_named name bytes rest behind (inr (token, is, at)) = inr (token, is, behind ∙ ap (λ (w : List ℕ). name ++ w) at)

pub named_rest : (name bytes rest : List ℕ) → bytes ≡ name ++ rest → IsNamed name bytes → (rest ≡ []) ⊎ IsSuffix rest
named_rest name bytes rest behind (inl is) = inl (append_cancel_left name rest [] (sym behind ∙ is ∙ sym (append-nil name)))
named_rest name bytes rest behind (inr (token, is, at)) = inr (token, is, append_cancel_left name rest (suffix token) (sym behind ∙ at))

pub named_front : (name bytes : List ℕ) → IsNamed name bytes → (rest : List ℕ) × (bytes ≡ name ++ rest)
named_front name bytes (inl is) = ([], is ∙ sym (append-nil name))
named_front name bytes (inr (token, is, at)) = (suffix token, at)

-- a file of an entry is one of three
pub entry_name_by : (a b c : Bool) (part : List ℕ) → (IsNamed (entry_part Output) part → a ≡ true) → (IsNamed (entry_part Metadata) part → b ≡ true) → (IsNamed (entry_part Access) part → c ≡ true) → a ≡ false → b ≡ false → IsEntryName part → c ≡ true
entry_name_by a b c part p q r not_a not_b (Output, named) = absurd (true≢false (sym (p named) ∙ not_a))
entry_name_by a b c part p q r not_a not_b (Metadata, named) = absurd (true≢false (sym (q named) ∙ not_b))
entry_name_by a b c part p q r not_a not_b (Access, named) = r named

left_and : (a b : Bool) → b ≡ true → a && b ≡ a
left_and true b e = e
left_and false b e = refl

none_and : (a b : Bool) → b ≡ false → a && b ≡ false
none_and true b e = e
none_and false b e = refl

-- 32 hexadecimal digits
pub key_by : (part : List ℕ) → length part ≡ 32 → list_all is_hex_byte part ≡ is_key part
unfolding is_key
key_by part long = sym (left_and (list_all is_hex_byte part) (nat_eq (length part) 32) (ap (λ n. nat_eq n 32) long))

pub no_key : (part : List ℕ) → (length part ≡ 32 → ⊥) → false ≡ is_key part
unfolding is_key
no_key part long =
    let apart : nat_eq (length part) 32 ≡ false = grind (arith, nat_tests) in
    sym (none_and (list_all is_hex_byte part) (nat_eq (length part) 32) apart)
