-- Of two equal keys of a table the later stands.
use Rattle.std.proofs.Common.{◌≡◌, ℕ, Bool, true, false, List, [], ◌∷◌, refl, sym, ap, ◌∙◌, subst}
use Rattle.std.specs.Prelude.{◌≢◌, if◌then◌else◌, Some, Ok, Err}
use Rattle.std.specs.Ordering.{nat_cmp, is_eq, match_ordering}
use Rattle.std.specs.Cmp.Lexicographic.{slice_cmp}
use Rattle.std.specs.declared.cmp.Ordering.{Ordering}
use Rattle.std.specs.declared.cmp.Ordering.TheVariants.{Less, Equal, Greater}
use Rattle.std.specs.Str.{bytes_eq}
use Rattle.std.specs.BTreeMap.{insert_entry}
use Rattle.std.proofs.lemmas.Map.Text.{is_eq-slice_cmp}
use Rattle.std.proofs.lemmas.Slice.Eq.{bytes_eq-Decides}
use Rattle.jl_value.specs.Tree.{Tree, members_of}
use Rattle.jl_value.specs.declared.library.TaskError.TheVariants.{BadIndex}
use Rattle.jl_builtins.specs.Operations.{member_of}
use Rattle.jl_operands.specs.Lists.{with_entry}

stands_by : (r : Ordering) (k : List ℕ) (v : Tree) (e : List ℕ × Tree) (es : List (List ℕ × Tree)) → bytes_eq k e.0 ≡ is_eq r
    → member_of k (members_of (insert_entry (slice_cmp nat_cmp) es k v)) ≡ Ok v
    → member_of k (members_of (match_ordering r ((k, v) ∷ e ∷ es) ((e.0, v) ∷ es) (e ∷ insert_entry (slice_cmp nat_cmp) es k v))) ≡ Ok v
stands_by Less k v e es same more = ap (λ b. if b then Ok v else member_of k (members_of (e ∷ es))) ((bytes_eq-Decides k k).1 refl)
stands_by Equal k v e es same more = ap (λ b. if b then Ok v else member_of k (members_of es)) same
stands_by Greater k v e es same more = ap (λ b. if b then Ok e.1 else member_of k (members_of (insert_entry (slice_cmp nat_cmp) es k v))) same ∙ more

pub later_stands : (k : List ℕ) (v : Tree) (kvs : List (List ℕ × Tree)) → member_of k (members_of (with_entry (Some k) v kvs)) ≡ Ok v
later_stands k v [] = ap (λ b. if b then Ok v else Err BadIndex) ((bytes_eq-Decides k k).1 refl)
later_stands k v (e ∷ es) = stands_by (slice_cmp nat_cmp k e.0) k v e es (sym (is_eq-slice_cmp k e.0)) (later_stands k v es)

others_by : (r : Ordering) (k l : List ℕ) (v : Tree) (e : List ℕ × Tree) (es : List (List ℕ × Tree)) → bytes_eq l k ≡ false → bytes_eq k e.0 ≡ is_eq r
    → member_of l (members_of (insert_entry (slice_cmp nat_cmp) es k v)) ≡ member_of l (members_of es)
    → member_of l (members_of (match_ordering r ((k, v) ∷ e ∷ es) ((e.0, v) ∷ es) (e ∷ insert_entry (slice_cmp nat_cmp) es k v))) ≡ member_of l (members_of (e ∷ es))
others_by Less k l v e es apart same more = ap (λ b. if b then Ok v else member_of l (members_of (e ∷ es))) apart
others_by Equal k l v e es apart same more =
    let there : bytes_eq l e.0 ≡ false = subst (λ (y : List ℕ). bytes_eq l y ≡ false) ((bytes_eq-Decides k e.0).0 same) apart in
    ap (λ b. if b then Ok v else member_of l (members_of es)) there ∙ sym (ap (λ b. if b then Ok e.1 else member_of l (members_of es)) there)
others_by Greater k l v e es apart same more = ap (λ r. if bytes_eq l e.0 then Ok e.1 else r) more

others_same : (k l : List ℕ) (v : Tree) (kvs : List (List ℕ × Tree)) → bytes_eq l k ≡ false → member_of l (members_of (with_entry (Some k) v kvs)) ≡ member_of l (members_of kvs)
others_same k l v [] apart = ap (λ b. if b then Ok v else Err BadIndex) apart
others_same k l v (e ∷ es) apart = others_by (slice_cmp nat_cmp k e.0) k l v e es apart (sym (is_eq-slice_cmp k e.0)) (others_same k l v es apart)

apart_by : (b : Bool) (k l : List ℕ) → (b ≡ true → l ≡ k) → l ≢ k → b ≡ false
apart_by true k l h differ = absurd (differ (h refl))
apart_by false k l h differ = refl

pub others_stay : (k l : List ℕ) (v : Tree) (kvs : List (List ℕ × Tree)) → l ≢ k → member_of l (members_of (with_entry (Some k) v kvs)) ≡ member_of l (members_of kvs)
others_stay k l v kvs differ = others_same k l v kvs (apart_by (bytes_eq l k) k l (bytes_eq-Decides l k).0 differ)
