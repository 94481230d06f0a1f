-- The temporary and the final name stand in one folder.
use Rattle.jl_entry.proofs.NameFacts.{final_not_temp}
use Rattle.std.proofs.Common.{true, ◌≡◌, ◌≢◌, ℕ, suc, ◌+◌, ◌-◌, List, [], ◌∷◌, ◌++◌, false, not, ◌&&◌, nat_eq, length, take, sym, ap, ◌∙◌, arith, append_assoc, length-take, length-append, subst}
use Rattle.jl_text.specs.Paths.{PathView, is_fixed, parent}
use Rattle.jl_folder.specs.State.{State, is_folder, has_parent}
use Rattle.jl_entry.specs.Names.{Final, code_of, entry_of, IsFinal, IsTemp, code_part, entry_part, suffix}
use Rattle.jl_rely.proofs.Effects.{number_apart}
use Rattle.jl_protocol.specs.Tidy.{IsTidy}
use Rattle.jl_store.specs.Publishing.{IsReady, IsOfFile}
use Rattle.jl_clear.proofs.Paths.{parent_in}
use Rattle.jl_clear.proofs.Folders.{final_no_folder, temp_no_folder}

-- a path that has a parent isn't its own
pub parent_apart : (p : PathView) → is_fixed p ≡ false → p ≢ parent p
parent_apart [] free e = cc
parent_apart (q ∷ qs) free e =
    let long : length (q ∷ qs) ≡ length (take (length (q ∷ qs) - 1) (q ∷ qs)) = ap length e in
    omega (arith, long, length-take (length (q ∷ qs) - 1) (q ∷ qs))

not_zero : (a b : ℕ) → nat_eq (a + suc b) 0 ≡ false
not_zero a b = number_apart (a + suc b) 0 (λ e. omega (arith, e))

-- a path of two parts or more has a parent
pub free_of_two : (root : PathView) (a b : List ℕ) (rest : PathView) → is_fixed (root ++ a ∷ b ∷ rest) ≡ false
free_of_two [] a b rest = not_zero (length a) (length rest)
free_of_two (r ∷ rs) a b rest =
    let long : length (rs ++ a ∷ b ∷ rest) ≡ suc (length rs + suc (length rest)) = omega (arith, length-append rs (a ∷ b ∷ rest)) in
    ap (λ n. nat_eq (length r + n) 0) long ∙ not_zero (length r) (length rs + suc (length rest))

-- where both names stand: their folder, and their last parts
pub record Beside (last temp : PathView) : Type 0 where
  pub parents : parent temp ≡ parent last
  pub temp_free : is_fixed temp ≡ false
  pub last_free : is_fixed last ≡ false

in_one : (folder : PathView) (a b : List ℕ) → parent (folder ++ a ∷ []) ≡ parent (folder ++ b ∷ [])
in_one folder a b = parent_in folder a ∙ sym (parent_in folder b)

pub beside : (root : PathView) (x : Final) (token : List ℕ) (last temp : PathView) → IsTemp root x token temp → IsFinal root x last → Beside last temp
beside root (code_of m f) token last temp is_temp final = record {
  parents = ap parent (is_temp.is ∙ sym (append_assoc root (m ∷ f ∷ []) ((code_part ++ suffix token) ∷ [])))
      ∙ in_one (root ++ m ∷ f ∷ []) (code_part ++ suffix token) code_part
      ∙ ap parent (append_assoc root (m ∷ f ∷ []) (code_part ∷ []) ∙ sym final.is);
  temp_free = ap is_fixed is_temp.is ∙ free_of_two root m f ((code_part ++ suffix token) ∷ []);
  last_free = ap is_fixed final.is ∙ free_of_two root m f (code_part ∷ []);
}
beside root (entry_of w m f k) token last temp is_temp final = record {
  parents = ap parent (is_temp.is ∙ sym (append_assoc root (m ∷ f ∷ k ∷ []) ((entry_part w ++ suffix token) ∷ [])))
      ∙ in_one (root ++ m ∷ f ∷ k ∷ []) (entry_part w ++ suffix token) (entry_part w)
      ∙ ap parent (append_assoc root (m ∷ f ∷ k ∷ []) (entry_part w ∷ []) ∙ sym final.is);
  temp_free = ap is_fixed is_temp.is ∙ free_of_two root m f (k ∷ (entry_part w ++ suffix token) ∷ []);
  last_free = ap is_fixed final.is ∙ free_of_two root m f (k ∷ entry_part w ∷ []);
}

-- the two are apart
pub names_apart : (token : List ℕ) (last temp : PathView) (bytes : List ℕ) → IsOfFile token last temp bytes → temp ≢ last
names_apart token last temp bytes (root, x, is_temp, final, whole) same = final_not_temp root x x token last final (subst (IsTemp root x token) same is_temp)

-- so both have a parent, or neither has
pub one_parent : (last temp : PathView) (s : State) → Beside last temp → has_parent s temp ≡ has_parent s last
one_parent last temp s both = (λ i. not (both.temp_free i) && is_folder s (both.parents i)) ∙ sym (ap (λ b. not b && is_folder s (parent last)) both.last_free)

-- ---- in a tidy state

-- no folder has a final or temporary name, so all is ready for publishing where the folder of the names is there
pub ready_tidy : (root : PathView) (x : Final) (token : List ℕ) (last temp : PathView) (s : State) → IsTemp root x token temp → IsFinal root x last → IsTidy root s → has_parent s last ≡ true → IsReady last temp s
ready_tidy root x token last temp s is_temp final tidy home = record { last_free = final_no_folder root x last s final tidy; temp_free = temp_no_folder root x token temp s is_temp tidy; home = home }
