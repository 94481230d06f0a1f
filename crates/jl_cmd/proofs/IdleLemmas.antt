-- What a run that stops before its first move leaves.
use Rattle.std.proofs.Common.{◌≡◌, ℕ, [], append-nil, ◌⊎◌, refl, sym, ap, subst, inl, inr, arith}
use Rattle.std.proofs.Common.{◌∷◌, true}
use Rattle.jl_folder.specs.declared.moves.Move.{Move}
use Rattle.jl_folder.specs.Views.{FolderView, moved}
use Rattle.jl_folder.specs.Calls.{Waits}
use Rattle.jl_streams.specs.Views.{SinkView}
use Rattle.jl_rely.specs.Steps.{OwnMoves}
use Rattle.jl_rely.specs.Claims.{Silent}
use Rattle.jl_rely.proofs.Since.{since_went, went_none}
use Rattle.jl_rely.proofs.Composed.{went_waits}
use Rattle.jl_rely.proofs.Traces.{foreign_own}
use Rattle.jl_cmd.specs.declared.computed.Computed.{Computed}
use Rattle.jl_cmd.specs.declared.computed.Computed.TheVariants as computed
use Rattle.jl_cmd.specs.declared.ended.Ended.{Ended}
use Rattle.jl_cmd.specs.declared.ended.Ended.TheVariants.{Done, Failed, Refused, WriteFault}
use Rattle.jl_cmd.specs.declared.ended.Ended.TheVariants.{NoMemory, NoModule, FolderFault}
use Rattle.jl_cmd.specs.Caches.{MakesNone}
use Rattle.jl_cmd.specs.Endings.{status_of}
use Rattle.jl_cmd.specs.Uncalled.{IsUncalled}
use Rattle.jl_cmd.specs.Computing.{IsPrinted, IsFailed, IsRefusal, WritesWarned}
use Rattle.jl_cmd.proofs.EndingLemmas.{is_apart, none_of}

-- a text of a value is no refusal
pub printed_refuses : (c : Computed) → IsPrinted c → IsRefusal c → ⊥
printed_refuses (computed.Refused t) is refusal = is
printed_refuses _ is refusal = refusal

-- nor is one of an error
pub failed_refuses : (c : Computed) → IsFailed c → IsRefusal c → ⊥
failed_refuses (computed.Refused t) is refusal = is
failed_refuses _ is refusal = refusal

-- a status at which a function may have been called
may_call : (n : ℕ) → is_apart n 2 (3 ∷ 9 ∷ 10 ∷ 5 ∷ []) ≡ true → IsUncalled n → ⊥
may_call n apart h = none_of n 2 (3 ∷ 9 ∷ 10 ∷ 5 ∷ []) apart h

-- at the end of a run that is done
done_may_call : (e : Ended) → e ≡ Done → IsUncalled (status_of e) → ⊥
done_may_call e is h = may_call 0 refl (subst (λ (e' : Ended). IsUncalled (status_of e')) is h)

-- at a write fault
write_may_call : IsUncalled 6 → ⊥
write_may_call = may_call 6 refl

-- and for want of memory
memory_may_call : (e : Ended) → e ≡ NoMemory → IsUncalled (status_of e) → ⊥
memory_may_call e is h = may_call 8 refl (subst (λ (e' : Ended). IsUncalled (status_of e')) is h)

-- a command that computed something and ended so that none was called was refused
pub written_refusal : (c : Computed) (e : Ended) (out out' : SinkView) → WritesWarned c e out out'
    → IsUncalled (status_of e) → IsRefusal c
written_refusal c e out out' (inr lost) h = absurd (memory_may_call e lost.0 h)
written_refusal (computed.Printed t) Done out out' (inl x) h = absurd (done_may_call Done refl h)
written_refusal (computed.Printed t) WriteFault out out' (inl x) h = absurd (write_may_call h)
written_refusal (computed.Failed t) e out out' (inl x) h =
    absurd (may_call 1 refl (subst (λ (e' : Ended). IsUncalled (status_of e')) x.0 h))
written_refusal (computed.Refused t) e out out' (inl x) h = tt
written_refusal computed.NoMemory e out out' (inl x) h = absurd (memory_may_call e x.0 h)
written_refusal (computed.Printed t) _ out out' (inl x) h = absurd x

-- what was written ends neither for want of a module nor by a fault of the folder
pub written_read : (c : Computed) (e : Ended) (out out' : SinkView) → WritesWarned c e out out'
    → (e ≡ NoModule) ⊎ (e ≡ FolderFault) → ⊥
written_read c e out out' writes (inl is) =
    no_module c out out' (subst (λ (k : Ended). WritesWarned c k out out') is writes)
  where
    no_module : (c : Computed) (out out' : SinkView) → WritesWarned c NoModule out out' → ⊥
    no_module c out out' (inr lost) = let n : 9 ≡ 8 = ap status_of lost.0 in omega (arith, n)
    no_module (computed.Printed t) out out' (inl x) = x
    no_module (computed.Failed t) out out' (inl x) = let n : 9 ≡ 1 = ap status_of x.0 in
        omega (arith, n)
    no_module (computed.Refused t) out out' (inl x) = let n : 9 ≡ 3 = ap status_of x.0 in
        omega (arith, n)
    no_module computed.NoMemory out out' (inl x) = let n : 9 ≡ 8 = ap status_of x.0 in
        omega (arith, n)
written_read c e out out' writes (inr is) =
    no_fault c out out' (subst (λ (k : Ended). WritesWarned c k out out') is writes)
  where
    no_fault : (c : Computed) (out out' : SinkView) → WritesWarned c FolderFault out out' → ⊥
    no_fault c out out' (inr lost) = let n : 10 ≡ 8 = ap status_of lost.0 in omega (arith, n)
    no_fault (computed.Printed t) out out' (inl x) = x
    no_fault (computed.Failed t) out out' (inl x) = let n : 10 ≡ 1 = ap status_of x.0 in
        omega (arith, n)
    no_fault (computed.Refused t) out out' (inl x) = let n : 10 ≡ 3 = ap status_of x.0 in
        omega (arith, n)
    no_fault computed.NoMemory out out' (inl x) = let n : 10 ≡ 8 = ap status_of x.0 in
        omega (arith, n)

-- while others move, no own move is made
pub own_waits : (Kinds : Move → Type 0) (old new : FolderView) → Waits old new
    → OwnMoves old.token Kinds (moved old new)
own_waits Kinds old new waits =
    subst (OwnMoves old.token Kinds)
    (sym (since_went old new waits.others (went_waits old new waits)))
    (foreign_own old.token Kinds waits.others waits.foreign)

-- nor any at all
pub silent_waits : (old new : FolderView) → Waits old new → MakesNone old new
silent_waits old new waits = own_waits Silent old new waits

-- where nothing is done nobody moves
pub waits_none : (v : FolderView) → Waits v v
waits_none v = record {
  others = [];
  foreign = tt;
  start = refl;
  trace = sym (append-nil v.history.trace);
  lawful = tt;
}

-- nor where nothing is done, a move of any kinds
pub own_none : (Kinds : Move → Type 0) (v : FolderView) → OwnMoves v.token Kinds (moved v v)
unfolding OwnMoves
own_none Kinds v = subst (OwnMoves v.token Kinds) (sym (since_went v v [] (went_none v))) tt

pub silent_none : (v : FolderView) → MakesNone v v
silent_none v = own_none Silent v
