-- What a cached call answers, by its parts.
use Rattle.std.proofs.Common.{◌≡◌, ◌⊎◌, inl, inr, ℕ, refl, sym, subst}
use Rattle.jl_value.specs.Tree.{Tree}
use Rattle.jl_value.specs.Form.{tree_of}
use Rattle.jl_value.specs.declared.value.Value.{Value}
use Rattle.jl_value.specs.Library.{Answer, value, IsWithin}
use Rattle.jl_store.specs.declared.cached.Cached.{Cached}
use Rattle.jl_store.specs.declared.cached.Cached.TheVariants.{Hit, Computed, Error, NoMemory}
use Rattle.jl_store.specs.Cached.{IsAnswer, CountsCall, IsMissed}

-- an answer that rests on less
pub answer_under : (r : Cached) (a : Answer) (A B : Type 0) → (B → A) → IsAnswer r a A → IsAnswer r a B
answer_under (Hit v) a A B f h = λ b. h (f b)
answer_under (Computed v) a A B f h = h
answer_under (Error e) a A B f h = h
answer_under NoMemory a A B f h = h

-- what the function answered is an answer
pub missed_answer : (r : Cached) (a : Answer) (A : Type 0) (old new : ℕ) → IsMissed r a old new → IsAnswer r a A
missed_answer (Hit v) a A old new h = absurd h
missed_answer (Computed v) a A old new h = h.0
missed_answer (Error e) a A old new h = h.0
missed_answer NoMemory a A old new h = tt

-- and is counted
pub missed_count : (r : Cached) (a : Answer) (old new : ℕ) → IsMissed r a old new → CountsCall r old new
missed_count (Hit v) a old new h = absurd h
missed_count (Computed v) a old new h = h.1
missed_count (Error e) a old new h = h.1
missed_count NoMemory a old new h = h

-- a value that was found
pub found_answer : (r : Cached) (v : Value) (a : Answer) (A : Type 0) → (r ≡ Hit v) ⊎ (r ≡ NoMemory) → (A → a ≡ value (tree_of v)) → IsAnswer r a A
found_answer r v a A (inl e) h = subst (λ (k : Cached). IsAnswer k a A) (sym e) h
found_answer r v a A (inr e) h = subst (λ (k : Cached). IsAnswer k a A) (sym e) tt

pub found_count : (r : Cached) (v : Value) (n : ℕ) → (r ≡ Hit v) ⊎ (r ≡ NoMemory) → CountsCall r n n
found_count r v n (inl e) = subst (λ (k : Cached). CountsCall k n n) (sym e) refl
found_count r v n (inr e) = subst (λ (k : Cached). CountsCall k n n) (sym e) (inl refl)

-- a value that was computed
pub computed_missed : (r : Cached) (v : Value) (a : Answer) (old new : ℕ) → (r ≡ Computed v) ⊎ (r ≡ NoMemory) → (IsMissed (Computed v) a old new) → (IsMissed NoMemory a old new) → IsMissed r a old new
computed_missed r v a old new (inl e) h k = subst (λ (c : Cached). IsMissed c a old new) (sym e) h
computed_missed r v a old new (inr e) h k = subst (λ (c : Cached). IsMissed c a old new) (sym e) k

-- the limits of a library's value
pub within_value : (a : Answer) (t : Tree) → a ≡ value t → IsWithin a → IsWithin (value t)
within_value a t e h = subst IsWithin e h
