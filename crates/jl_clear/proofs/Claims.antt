-- What a clearing promises to its caller.
use Rattle.std.proofs.Common.{◌≡◌, ◌⊎◌, inl, inr, ⊎_elim, None, Some, Option, false, true, true≢false, sym, ap, subst, ◌∙◌}
use Rattle.std.specs.Option.{option_map_or}
use Rattle.jl_text.specs.Paths.{PathView}
use Rattle.jl_folder.specs.declared.moves.Place.{Place}
use Rattle.jl_folder.specs.declared.moves.Place.TheVariants.{Folder, File}
use Rattle.jl_folder.specs.State.{State, IsState, place_at, is_file, is_folder, is_file_place, is_folder_place}
use Rattle.jl_folder.specs.Views.{FolderView, state, moved}
use Rattle.jl_entry.specs.Names.{IsStoreName, IsStoreFolder, IsBelow, below}
use Rattle.jl_rely.specs.Steps.{IsLone}
use Rattle.jl_rely.specs.Claims.{Called, Anywhere, AnyMove}
use Rattle.jl_rely.proofs.Composed.{called_keeps, called_for}
use Rattle.jl_rely.proofs.Moving.{moves_called}
use Rattle.jl_protocol.specs.Whole.{CodeAnswers}
use Rattle.jl_protocol.specs.Proper.{IsProper, IsLawful}
use Rattle.jl_protocol.specs.Tidy.{IsTidy, IsSound}
use Rattle.jl_protocol.proofs.Kills.{sound_carried}
use Rattle.jl_clear.specs.declared.removing.Clear.{Clear}
use Rattle.jl_clear.specs.declared.removing.Clear.TheVariants.{Cleared, NoMemory}
use Rattle.jl_clear.specs.Taking.{IsTaking, IsOfStore, IsAsBefore, HasOnly, IsThinned}
use Rattle.jl_clear.specs.Clearing.{Clears, ClearsBelow}
use Rattle.jl_clear.specs.Cleared.{ClearsPaths}
use Rattle.jl_clear.proofs.Paths.{by_place, below_then, below_more}
use Rattle.jl_clear.proofs.Parts.{clears_none}
use Rattle.jl_clear.proofs.Thinning.{thinned_alone, away_at_end, as_before}
use Rattle.jl_clear.proofs.Removals.{taking_proper, taking_lawful}

-- a tidy store has nothing but its own below a path of it
pub tidy_only : (root p : PathView) (s : State) → IsTidy root s → IsBelow root p → HasOnly root p s
tidy_only root p s tidy home q below = by_place (place_at s q) _ (λ none. inl none) (λ place is. inr (of place is))
  where
    of : (place : Place) → place_at s q ≡ Some place → (IsStoreName root q × (is_file s q ≡ true)) ⊎ (IsStoreFolder root q × (is_folder s q ≡ true))
    of Folder is = inr (tidy.folders q is (below_then root p q home below), ap (λ (o : Option Place). option_map_or is_folder_place o false) is)
    of (File n) is = inl (tidy.names q n is (below_then root p q home below), ap (λ (o : Option Place). option_map_or is_file_place o false) is)

module _ (root : PathView) (Of : PathView → Type 0) (answer : Clear) (old new : FolderView) (a : Clears root Anywhere Of Of Of answer old new) (t : old.told) (ok : IsState (state old)) where
  claims_called : Called (IsProper root) (IsProper root) (IsTaking root Of) Anywhere Anywhere old new
  claims_called = moves_called (IsProper root) (IsProper root) (IsTaking root Of) Anywhere old new (taking_proper root Of old.token) (a.moves t)

  claims_lawful : (answers : CodeAnswers) → Called (IsLawful root answers) (IsLawful root answers) AnyMove (IsSound root answers) (IsSound root answers) old new
  claims_lawful answers =
      called_for (IsLawful root answers) (IsLawful root answers) (IsTaking root Of) AnyMove (λ s. IsSound root answers s × Anywhere s) (IsSound root answers) (λ s. IsSound root answers s × Anywhere s) (IsSound root answers) old new
      (λ m is. tt) (λ s sound. (sound, tt)) (λ s both. both.0)
      (called_keeps (IsLawful root answers) (IsLawful root answers) (IsTaking root Of) (IsSound root answers) Anywhere Anywhere old new (sound_carried root answers)
      (moves_called (IsLawful root answers) (IsLawful root answers) (IsTaking root Of) Anywhere old new (taking_lawful root answers Of old.token) (a.moves t)))

  claims_alone : answer ≡ Cleared → IsLone old.token (moved old new) → IsThinned root Of (state old) (state new)
  claims_alone done lone =
      let th = thinned_alone root Of old new (a.moves t) lone in
      record {
        names = λ p of name. away_at_end root Of old new (a.moves t) lone p (a.went t done ok p of name);
        folders = λ p of store only. a.alone t done ok lone tt p of store only;
        each = λ p. ⊎_elim (λ (same : place_at (state new) p ≡ place_at (state old) p). inl (as_before root Of (state old) (state new) th p same)) (λ (g : Of p × IsOfStore root p × (place_at (state new) p ≡ None)). inr g) (th.each p);
      }

  -- what was taken from a tidy store is all of it
  tidy_gone : (inside : (p : PathView) → Of p → IsBelow root p) → IsTidy root (state old) → IsThinned root Of (state old) (state new) → (p : PathView) → Of p → place_at (state new) p ≡ None
  tidy_gone inside tidy th p of = ⊎_elim (λ (same : IsAsBefore p (state old) (state new)). by_place (place_at (state old) p) _ (λ none. same.0 ∙ none) (λ place is. absurd (left place is same.0))) (λ (g : Of p × IsOfStore root p × (place_at (state new) p ≡ None)). g.2) (th.each p)
    where
      left : (place : Place) → place_at (state old) p ≡ Some place → place_at (state new) p ≡ place_at (state old) p → ⊥
      left Folder is same =
          true≢false (sym (ap (λ (o : Option Place). option_map_or is_folder_place o false) (same ∙ is)) ∙ th.folders p of (tidy.folders p is (inside p of)) (tidy_only root p (state old) tidy (inside p of)))
      left (File n) is same = true≢false (sym (ap (λ (o : Option Place). option_map_or is_file_place o false) (same ∙ is)) ∙ th.names p of (tidy.names p n is (inside p of)))

  pub claims : ((p : PathView) → Of p → IsBelow root p) → ClearsPaths root Of answer old new
  claims inside = record {
    called = claims_called;
    lawful = claims_lawful;
    went = λ done. a.went t done ok;
    alone = claims_alone;
    tidy = λ done lone tidy.
        let th = claims_alone done lone in
        record {
          gone = tidy_gone inside tidy th;
          beside = λ p apart. ⊎_elim (λ (same : IsAsBefore p (state old) (state new)). same) (λ (g : Of p × IsOfStore root p × (place_at (state new) p ≡ None)). absurd (apart g.0)) (th.each p);
        };
  }

-- the same of what stands at some parts of the root
pub claims_below : (root parts path : PathView) (answer : Clear) (old new : FolderView) → path ≡ below root parts
    → ClearsBelow root path answer old new → old.told → IsState (state old)
    → ClearsPaths root (IsBelow (below root parts)) answer old new
claims_below root parts path answer old new e a t ok =
    let b = subst (λ (q : PathView). ClearsBelow root q answer old new) e a in
    claims root (IsBelow (below root parts)) answer old new b t ok (λ p of. below_more root parts p of)

-- where there was no memory for the path, nothing was done
pub not_begun : (root : PathView) (Of : PathView → Type 0) (v : FolderView) → Clears root Anywhere Of Of Of NoMemory v v
not_begun root Of v = clears_none root Anywhere Of Of Of NoMemory v (λ f. cc) (λ done. cc) (λ done. cc)
