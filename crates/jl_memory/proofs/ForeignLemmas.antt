-- Traces of others, move by move.
use Rattle.std.proofs.Common.{◌≡◌, ℕ, zero, suc, ◌<◌, List, [], ◌∷◌, Bool, true, false, cond, nat_eq, length, get_or, All, sym, ◌∙◌, ap, arith}
use Rattle.std.specs.List.{filter, flat_map}
use Rattle.std.proofs.lemmas.List.Elements.{All-head, All-tail}
use Rattle.jl_folder.specs.State.{Event, Trace, IsForeign}
use Rattle.jl_folder.proofs.Traces.{IsForeign-append}
use Rattle.jl_memory.specs.declared.memory.MemFolder.{MemFolder}
use Rattle.jl_memory.specs.Memory.{IsTold}
use Rattle.jl_memory.specs.Scripts.{moves_before}

-- none of the moves has the token
pub foreign_at : (me : List ℕ) (moves : Trace) (i : ℕ) (e : Event) → i < length moves → e ≡ get_or moves i e → IsForeign me moves → e.0 ≡ me → ⊥
foreign_at me [] i e lt is foreign same = omega arith
foreign_at me (e' ∷ moves) zero e lt is (other, foreign) same = other (ap (λ x. x.0) (sym is) ∙ same)
foreign_at me (e' ∷ moves) (suc i) e lt is (other, foreign) same = foreign_at me moves i e (omega arith) is foreign same

foreign_groups : {X : Type 0} (me : List ℕ) (moves : X → Trace) (test : X → Bool) (xs : List X) → All (λ x. IsForeign me (moves x)) xs → IsForeign me (flat_map moves (filter test xs))
foreign_groups me moves test [] all = tt
foreign_groups me moves test (x ∷ xs) all =
    let here : IsForeign me (moves x) = All-head (λ x. IsForeign me (moves x)) x xs all in
    let rest : IsForeign me (flat_map moves (filter test xs)) = foreign_groups me moves test xs (All-tail (λ x. IsForeign me (moves x)) x xs all) in
    elim (test x) as (λ b. IsForeign me (flat_map moves (cond b (x ∷ filter test xs) (filter test xs)))) [
      | true ↦ IsForeign-append me (moves x) (flat_map moves (filter test xs)) here rest
      | false ↦ rest
    ]

-- the moves of others that come next are of others
pub foreign_before : (m : MemFolder) → IsTold m → IsForeign m.token (moves_before m)
foreign_before m told = foreign_groups m.token (λ o. o.1.items) (λ o. nat_eq o.0 m.calls) m.others.items told.foreign
