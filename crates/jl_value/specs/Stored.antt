-- How the logic stores truths and lists, and values read back from what it stores them as.
-- Machinery: nothing here need be believed.
use Rattle.std.proofs.Common.{◌≡◌, ◌∷◌, [], ℕ, zero, suc, ℤ, pos, negsuc, Bool, true, false, List, refl}
use Rattle.std.specs.Coded.{Coded, coded_ℤ}
use base.Stored.{Gv, gnil, gnum, gcons}

-- what is stored is stored as itself
abbrev pub coded_stored : Coded Gv
coded_stored = record { code = λ g. g; inj = λ x y p. p }

abbrev pub stored_number : Gv → ℕ
stored_number (gnum n) = n
stored_number _ = 0

pub truth_code : Bool → Gv
truth_code false = gnum 0
truth_code true = gnum 1

abbrev pub stored_truth : Gv → Bool
stored_truth (gnum (suc n)) = true
stored_truth _ = false

pub truth_back : (b : Bool) → stored_truth (truth_code b) ≡ b
unfolding truth_code
truth_back false = refl
truth_back true = refl

abbrev pub stored_whole : Gv → ℤ
stored_whole (gcons (gnum zero) (gnum n)) = pos n
stored_whole (gcons (gnum (suc m)) (gnum n)) = negsuc n
stored_whole _ = pos 0

pub whole_back : (z : ℤ) → stored_whole (coded_ℤ.code z) ≡ z
whole_back (pos n) = refl
whole_back (negsuc n) = refl

pub list_code : {A : Type 0} → (A → Gv) → List A → Gv
list_code code [] = gnil
list_code code (x ∷ xs) = gcons (code x) (list_code code xs)

abbrev pub stored_list : {A : Type 0} → (Gv → A) → Gv → List A
stored_list read (gcons a b) = read a ∷ stored_list read b
stored_list read _ = []

pub list_back : {A : Type 0} (code : A → Gv) (read : Gv → A) → ((x : A) → read (code x) ≡ x) → (xs : List A) → stored_list read (list_code code xs) ≡ xs
unfolding list_code
list_back code read back [] = refl
list_back code read back (x ∷ xs) = λ i. back x i ∷ list_back code read back xs i

abbrev pub codes_code : List ℕ → Gv
codes_code ns = list_code gnum ns

abbrev pub stored_codes : Gv → List ℕ
stored_codes g = stored_list stored_number g

pub codes_back : (ns : List ℕ) → stored_codes (codes_code ns) ≡ ns
codes_back ns = list_back gnum stored_number (λ n. refl) ns

abbrev pub wholes_code : List ℤ → Gv
wholes_code zs = list_code coded_ℤ.code zs

abbrev pub stored_wholes : Gv → List ℤ
stored_wholes g = stored_list stored_whole g

pub wholes_back : (zs : List ℤ) → stored_wholes (wholes_code zs) ≡ zs
wholes_back zs = list_back coded_ℤ.code stored_whole whole_back zs
