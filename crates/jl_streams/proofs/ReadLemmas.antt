-- What a source in memory gives is what a read gives.
use Rattle.std.proofs.Common.{◌≡◌, ℕ, ◌<◌, true, false, cond, nat_eq, ◌≤◌, List, [], ◌∷◌, ◌++◌, length, take, drop, sym, ◌∙◌, ap, subst, refl, arith}
use Rattle.std.proofs.lemmas.Bool.Decides.{Decides-eqb}
use Rattle.jl_streams.specs.declared.source.Got.{Got}
use Rattle.jl_streams.specs.declared.source.Got.TheVariants as got
use Rattle.jl_streams.specs.Streams.{Reads}
use Rattle.jl_streams.specs.Memory.{MemSourceView, share, got_of, GivesFront}

-- a list of no members
empty_is : (xs : List ℕ) → length xs ≡ 0 → xs ≡ []
empty_is [] e = refl
empty_is (x ∷ xs) e = absurd (omega (arith, e))

-- k bytes, or the end where there are none
front_reads : (k : ℕ) (buf buf' left left' : List ℕ) → k ≤ length left → (k ≡ 0 → left ≡ []) → buf' ≡ take k left ++ drop k buf → left' ≡ drop k left → Reads (got_of k) buf buf' left left'
front_reads k buf buf' left left' within none front rest =
    elim (nat_eq k 0) as (λ b. nat_eq k 0 ≡ b → Reads (cond b got.End (got.Bytes k)) buf buf' left left') [
      | true ↦ λ t.
          let nothing : k ≡ 0 = (Decides-eqb k 0).0 t in
          let empty = none nothing in
          (empty, rest ∙ ap (λ n. drop n left) nothing ∙ empty, front ∙ ap (λ n. take n left ++ drop n buf) nothing)
      | false ↦ λ t. record { within = within; front = front; rest = rest }
    ] refl

pub GivesFront-reads : (s s' : MemSourceView) (buf buf' : List ℕ) (answer : Got) → 1 ≤ s.piece → 0 < length buf → GivesFront s s' buf buf' answer (share s (length buf)) → Reads answer buf buf' s.left s'.left
GivesFront-reads s s' buf buf' answer some room given =
    let left' : s'.left ≡ drop (share s (length buf)) s.left = ap (λ v. v.left) given.2 in
    subst (λ a. Reads a buf buf' s.left s'.left) (sym given.0)
    (front_reads (share s (length buf)) buf buf' s.left s'.left (omega arith) (λ nothing. empty_is s.left (omega (arith, nothing))) given.1 left')
