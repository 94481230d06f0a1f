-- What moves that take away owe, and what one removal leaves where no other moved.
use Rattle.std.proofs.Common.{◌≡◌, inl, inr, ℕ, List, [], ◌∷◌, ◌++◌, false, Option, None, Some, IsSome, true≢false, sym, ap, subst, ◌∙◌}
use Rattle.std.specs.Option.{option_map_or}
use Rattle.jl_text.specs.Paths.{PathView, is_fixed}
use Rattle.jl_folder.specs.declared.moves.Place.{Place}
use Rattle.jl_folder.specs.declared.moves.Move.{Move}
use Rattle.jl_folder.specs.declared.moves.Move.TheVariants.{MakeDir, Create, Append, Rename, Remove, RemoveDir}
use Rattle.jl_folder.specs.declared.folder.Removed.{Removed}
use Rattle.jl_folder.specs.declared.folder.Removed.TheVariants as removed
use Rattle.jl_folder.specs.declared.folder.RemovedDir.{RemovedDir}
use Rattle.jl_folder.specs.declared.folder.RemovedDir.TheVariants as removed_dir
use Rattle.jl_folder.specs.State.{State, Trace, AtSome, place_at, is_file, is_folder, is_file_place, is_folder_place, run, after}
use Rattle.jl_folder.specs.Views.{FolderView, state, moved}
use Rattle.jl_folder.specs.Calls.{Call, RemovesFile, RemovesFolder, IsParent, own_event}
use Rattle.jl_entry.specs.Names.{IsStoreName, IsStoreFolder}
use Rattle.jl_rely.specs.Steps.{StepFact, AllSteps, OwnMoves, IsLone}
use Rattle.jl_rely.specs.Claims.{Moves}
use Rattle.jl_rely.specs.Lone.{MovesAlone}
use Rattle.jl_rely.proofs.Since.{since_went, now_went, state_after}
use Rattle.jl_rely.proofs.Composed.{went_call, goes_call}
use Rattle.jl_rely.proofs.Seen.{some_end}
use Rattle.jl_rely.proofs.Effects.{removed_here, unmade_here}
use Rattle.jl_folder.proofs.Traces.{run-append}
use Rattle.jl_protocol.specs.Whole.{CodeAnswers}
use Rattle.jl_protocol.specs.Proper.{IsProper, IsLawful, RenamesTrue}
use Rattle.jl_protocol.specs.Tidy.{IsTidy}
use Rattle.jl_protocol.proofs.Kills.{tidy_at_end}
use Rattle.jl_protocol.proofs.LawfulCalls.{always_remove, always_remove_dir}
use Rattle.jl_clear.specs.Removing.{clear_of, clear_of_folder}
use Rattle.jl_clear.specs.declared.removing.Clear.TheVariants as clear
use Rattle.jl_clear.specs.Taking.{IsTaking}
use Rattle.jl_clear.specs.Clearing.{IsEmptied}
use Rattle.jl_clear.proofs.Paths.{last_of}

-- ---- the moves are proper and lawful in every state

pub taking_proper : (root : PathView) (Of : PathView → Type 0) (token : List ℕ) (s : State) (m : Move) → IsTaking root Of m → IsProper root token s m
unfolding IsTaking
taking_proper root Of token s (MakeDir p) is = absurd is
taking_proper root Of token s (Create p n) is = absurd is
taking_proper root Of token s (Append n bytes) is = absurd is
taking_proper root Of token s (Rename p q) is = absurd is
taking_proper root Of token s (Remove p) is = always_remove root token s p is.0
taking_proper root Of token s (RemoveDir p) is = always_remove_dir root token s p is.0

pub taking_lawful : (root : PathView) (answer : CodeAnswers) (Of : PathView → Type 0) (token : List ℕ) (s : State) (m : Move) → IsTaking root Of m → IsLawful root answer token s m
unfolding IsTaking RenamesTrue
taking_lawful root answer Of token s (MakeDir p) is = absurd is
taking_lawful root answer Of token s (Create p n) is = absurd is
taking_lawful root answer Of token s (Append n bytes) is = absurd is
taking_lawful root answer Of token s (Rename p q) is = absurd is
taking_lawful root answer Of token s (Remove p) is = (always_remove root token s p is.0, tt)
taking_lawful root answer Of token s (RemoveDir p) is = (always_remove_dir root token s p is.0, tt)

pub takes_name : (root : PathView) (Of : PathView → Type 0) (p : PathView) → IsStoreName root p → Of p → IsTaking root Of (Remove p)
unfolding IsTaking
takes_name root Of p is of = (is, of)

pub takes_folder : (root : PathView) (Of : PathView → Type 0) (p : PathView) → IsStoreFolder root p → Of p → IsTaking root Of (RemoveDir p)
unfolding IsTaking
takes_folder root Of p is of = (is, of)

pub taking_as : (root : PathView) (Of Of' : PathView → Type 0) → ((p : PathView) → Of p → Of' p) → (m : Move) → IsTaking root Of m → IsTaking root Of' m
unfolding IsTaking
taking_as root Of Of' f (MakeDir p) is = is
taking_as root Of Of' f (Create p n) is = is
taking_as root Of Of' f (Append n bytes) is = is
taking_as root Of Of' f (Rename p q) is = is
taking_as root Of Of' f (Remove p) is = (is.0, f p is.1)
taking_as root Of Of' f (RemoveDir p) is = (is.0, f p is.1)

-- ---- alone, the state stays tidy

-- what own moves of these kinds have, all have
pub lone_all : (P : StepFact) (token : List ℕ) (Kinds : Move → Type 0) → ((s : State) (m : Move) → Kinds m → P token s m) → (s : State) (xs : Trace) → OwnMoves token Kinds xs → IsLone token xs → AllSteps P s xs
unfolding OwnMoves IsLone AllSteps
lone_all P token Kinds f s [] own lone = tt
lone_all P token Kinds f s (e ∷ es) own lone =
    (subst (λ (t : List ℕ). P t s e.1) (sym lone.0) (f s e.1 (own.0 lone.0)), lone_all P token Kinds f (after s e) es own.1 lone.1)

pub tidy_alone : (root : PathView) (Of : PathView → Type 0) (old new : FolderView) → Moves (IsTaking root Of) old new → IsLone old.token (moved old new) → IsTidy root (state old) → IsTidy root (state new)
tidy_alone root Of old new m lone tidy =
    subst (IsTidy root) (sym (state_after old new m.went))
    (tidy_at_end root (state old) (moved old new) m.went.lawful (lone_all (IsProper root) old.token (IsTaking root Of) (taking_proper root Of old.token) (state old) (moved old new) m.own lone) tidy)

-- ---- one removal

no_place : (o : Option Place) → o ≡ None → (option_map_or is_file_place o false ≡ false) × (option_map_or is_folder_place o false ≡ false)
no_place o e = (ap (λ k. option_map_or is_file_place k false) e, ap (λ k. option_map_or is_folder_place k false) e)

-- a file that is cleared was away at some state
pub file_away : (p : PathView) (r : Removed) (old new : FolderView) → new.token ≡ old.token → Call old new (RemovesFile p r) → clear_of r ≡ clear.Cleared → AtSome (state old) (moved old new) (λ s. is_file s p ≡ false)
file_away p removed.NoFile old new same call done = (call.others, own_event old.token call.own, since_went old new _ (went_call old new (RemovesFile p removed.NoFile) call), call.answer.0)
file_away p removed.Done old new same call done =
    some_end (λ s. is_file s p ≡ false) old new (goes_call old new (RemovesFile p removed.Done) same call)
    (ap (λ s. is_file s p) ends ∙ (no_place _ (removed_here (run (state old) call.others) old.token p)).0)
  where
    ends : state new ≡ after (run (state old) call.others) (old.token, Remove p)
    ends =
        now_went old new _ (went_call old new (RemovesFile p removed.Done) call)
        ∙ run-append (state old) call.others (own_event old.token call.own)
        ∙ ap (λ (o : Option Move). run (run (state old) call.others) (own_event old.token o)) call.answer.1
file_away p removed.Failed old new same call done = cc
file_away p removed.NoMemory old new same call done = cc

-- what stands in a folder keeps it
not_kept : (s : State) (p : PathView) → is_fixed p ≡ false → IsEmptied p s → IsParent s p → ⊥
not_kept s p free bare (inl fixed) = true≢false (sym fixed ∙ free)
not_kept s p free bare (inr (q, has_parent, in_p, there)) =
    let last = last_of q has_parent in
    let none : place_at s q ≡ None = bare q (last.0, [], last.1 ∙ ap (λ (w : PathView). w ++ last.0 ∷ []) in_p) in
    is_none (place_at s q) there none
  where
    is_none : (o : Option Place) → IsSome o → o ≡ None → ⊥
    is_none None some e = true≢false (sym some)
    is_none (Some k) some e = let h : Some k ≡ None = e in cc

-- alone, a folder in which nothing stands is gone where it is cleared
pub folder_gone : (p : PathView) (r : RemovedDir) (old new : FolderView) → is_fixed p ≡ false → IsEmptied p (state old) → MovesAlone old new (RemovesFolder p r) → clear_of_folder r ≡ clear.Cleared → is_folder (state new) p ≡ false
folder_gone p removed_dir.NoDir old new free bare one done =
    ap (λ s. is_folder s p) (one.after ∙ ap (λ (o : Option Move). run (state old) (own_event old.token o)) one.answer.1) ∙ one.answer.0
folder_gone p removed_dir.NotEmpty old new free bare one done = absurd (not_kept (state old) p free bare one.answer.1)
folder_gone p removed_dir.Done old new free bare one done =
    ap (λ s. is_folder s p) (one.after ∙ ap (λ (o : Option Move). run (state old) (own_event old.token o)) one.answer.3)
    ∙ (no_place _ (unmade_here (state old) old.token p)).1
folder_gone p removed_dir.Failed old new free bare one done = cc
folder_gone p removed_dir.NoMemory old new free bare one done = cc
