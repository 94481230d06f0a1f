-- Calls during which no other moved.
use Rattle.std.proofs.Common.{◌≡◌, ℕ, List, [], ◌∷◌, ◌++◌, Option, refl, sym, ap, subst, ◌∙◌}
use Rattle.jl_folder.specs.declared.moves.Move.{Move}
use Rattle.jl_folder.specs.State.{State, Trace, IsTrace, IsForeign, run}
use Rattle.jl_folder.specs.Views.{FolderView, state, moved}
use Rattle.jl_folder.specs.Calls.{Call, Waits, own_event}
use Rattle.jl_rely.specs.Steps.{IsLone}
use Rattle.jl_rely.specs.Claims.{GoesOn}
use Rattle.jl_rely.specs.Lone.{Alone, MovesAlone}
use Rattle.jl_rely.proofs.Since.{since_went, now_went, moved_then}
use Rattle.jl_rely.proofs.Composed.{went_call, went_waits}

pub IsLone-left : (token : List ℕ) (xs ys : Trace) → IsLone token (xs ++ ys) → IsLone token xs
unfolding IsLone
IsLone-left token [] ys lone = tt
IsLone-left token (e ∷ es) ys lone = (lone.0, IsLone-left token es ys lone.1)

pub IsLone-right : (token : List ℕ) (xs ys : Trace) → IsLone token (xs ++ ys) → IsLone token ys
unfolding IsLone
IsLone-right token [] ys lone = lone
IsLone-right token (e ∷ es) ys lone = IsLone-right token es ys lone.1

-- others' moves among one's own alone are none
pub foreign_lone : (token : List ℕ) (xs : Trace) → IsForeign token xs → IsLone token xs → xs ≡ []
unfolding IsLone
foreign_lone token [] foreign lone = refl
foreign_lone token (e ∷ es) foreign lone = absurd (foreign.0 lone.0)

-- of two calls, both are alone
pub lone_parts : (old mid new : FolderView) → GoesOn old mid → GoesOn mid new → IsLone old.token (moved old new) → IsLone old.token (moved old mid) × IsLone mid.token (moved mid new)
lone_parts old mid new first second lone =
    let both = subst (IsLone old.token) (moved_then old mid new first second) lone in (
      IsLone-left old.token (moved old mid) (moved mid new) both,
      subst (λ (t : List ℕ). IsLone t (moved mid new)) (sym first.token) (IsLone-right old.token (moved old mid) (moved mid new) both),
    )

-- alone, a call answers of the state at its entry
pub moves_alone : (old new : FolderView) (Answer : State → Option Move → Type 0) → Call old new Answer → IsLone old.token (moved old new) → MovesAlone old new Answer
moves_alone old new Answer call lone =
    let own = own_event old.token call.own in
    let went = went_call old new Answer call in
    let none = foreign_lone old.token call.others call.foreign (IsLone-left old.token call.others own (subst (IsLone old.token) (since_went old new (call.others ++ own) went) lone)) in
    let only : call.others ++ own ≡ own = ap (λ (o : Trace). o ++ own) none in
    record {
      own = call.own;
      answer = subst (λ (o : Trace). Answer (run (state old) o) call.own) none call.answer;
      moves = since_went old new (call.others ++ own) went ∙ only;
      lawful = subst (IsTrace (state old)) only call.lawful;
      after = now_went old new (call.others ++ own) went ∙ ap (run (state old)) only;
    }

pub waits_alone : (old new : FolderView) → Waits old new → IsLone old.token (moved old new) → state new ≡ state old
waits_alone old new waits lone =
    let went = went_waits old new waits in
    let none = foreign_lone old.token waits.others waits.foreign (subst (IsLone old.token) (since_went old new waits.others went) lone) in
    now_went old new waits.others went ∙ ap (run (state old)) none

-- one call of the folder
pub alone_call : (old new : FolderView) (Answer : State → Option Move → Type 0) (Pre Post : State → Type 0) → Call old new Answer → ((s : State) (own : Option Move) → Answer s own → IsTrace s (own_event old.token own) → Pre s → Post (run s (own_event old.token own))) → Alone Pre Post old new
alone_call old new Answer Pre Post call step lone pre =
    let alone = moves_alone old new Answer call lone in
    subst Post (sym alone.after) (step (state old) alone.own alone.answer alone.lawful pre)

pub alone_waits : (old new : FolderView) (Inv : State → Type 0) → Waits old new → Alone Inv Inv old new
alone_waits old new Inv waits lone inv = subst Inv (sym (waits_alone old new waits lone)) inv

pub alone_none : (v : FolderView) (Inv : State → Type 0) → Alone Inv Inv v v
alone_none v Inv lone inv = inv

-- one after the other
pub alone_then : (old mid new : FolderView) (Pre Mid Post : State → Type 0) → GoesOn old mid → GoesOn mid new → Alone Pre Mid old mid → Alone Mid Post mid new → Alone Pre Post old new
alone_then old mid new Pre Mid Post first second a b lone pre = let parts = lone_parts old mid new first second lone in b parts.1 (a parts.0 pre)

pub alone_as : (Pre Pre' Post Post' : State → Type 0) (old new : FolderView) → ((s : State) → Pre' s → Pre s) → ((s : State) → Post s → Post' s) → Alone Pre Post old new → Alone Pre' Post' old new
alone_as Pre Pre' Post Post' old new p q a lone pre = q (state new) (a lone (p (state old) pre))
