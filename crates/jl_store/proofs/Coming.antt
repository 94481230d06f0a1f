-- Why a value was found or the function was called, from a part of the call to the whole.
use Rattle.std.proofs.Common.{◌≡◌, ◌⊎◌, inl, inr, ℕ, false, sym, subst}
use Rattle.jl_text.specs.Counts.{Rose}
use Rattle.jl_folder.specs.State.{State, AtSome, is_file}
use Rattle.jl_folder.specs.Views.{FolderView, FolderKeeps, state, moved}
use Rattle.jl_value.specs.Form.{tree_of}
use Rattle.jl_value.specs.Library.{Answer}
use Rattle.jl_value.specs.declared.value.Value.{Value}
use Rattle.jl_rely.specs.Claims.{GoesOn}
use Rattle.jl_clear.proofs.DoingLemmas.{rose_later, later_rose}
use Rattle.jl_store.specs.Asked.{Asked, output_asked}
use Rattle.jl_store.specs.Cached.{ComesBy, ComesTidy, IsMissed}
use Rattle.jl_store.specs.Looking.{FindsAsked, Missing, absent, failed, other, damaged, IsMissing, StandsWith, HasEntryOf, HadNone}
use Rattle.jl_store.specs.declared.cached.Cached.{Cached}
use Rattle.jl_store.specs.declared.cached.Cached.TheVariants.{Hit, Computed, Error, NoMemory}
use Rattle.jl_store.specs.declared.found.Found.TheVariants as found
use Rattle.jl_store.proofs.Causing.{opened_sooner, opened_later, at_sooner, at_later}

module _ (a : Asked) (old mid new : FolderView) (keeps : FolderKeeps old mid) (keeps' : FolderKeeps mid new) (first : old.told → GoesOn old mid) (second : mid.told → GoesOn mid new) where
  next : old.told → GoesOn mid new
  next t = second (keeps.told t)

  -- no entry of this code and these arguments stands
  abbrev None' : State → Type 0
  None' s = HasEntryOf (output_asked a) a.code a.args s → ⊥

  -- ---- at its beginning

  pub missing_sooner : (why : Missing) → IsMissing why a old mid → IsMissing why a old new
  missing_sooner absent missing = λ t. at_sooner old mid new (first t) (next t) (λ s. is_file s (output_asked a) ≡ false) (missing t)
  missing_sooner failed missing = rose_later old.faults mid.faults new.faults missing keeps'.later
  missing_sooner other missing = λ t. opened_sooner old mid new (first t) (next t) (output_asked a) _ (missing t)
  missing_sooner damaged missing = λ t. opened_sooner old mid new (first t) (next t) (output_asked a) _ (missing t)

  pub found_comes : (r : Cached) (v : Value) → (r ≡ Hit v) ⊎ (r ≡ NoMemory) → FindsAsked a (found.Value v) old mid → ComesBy r a old new
  found_comes r v (inl e) finds = subst (λ (k : Cached). ComesBy k a old new) (sym e) (λ t. opened_sooner old mid new (first t) (next t) (output_asked a) _ (finds t))
  found_comes r v (inr e) finds = subst (λ (k : Cached). ComesBy k a old new) (sym e) tt

  pub missed_comes : (r : Cached) (b : Answer) (calls calls' : ℕ) → IsMissed r b calls calls' → (why : Missing) → IsMissing why a old mid → ComesBy r a old new
  missed_comes (Hit v) b calls calls' is why missing = absurd is
  missed_comes (Computed v) b calls calls' is why missing = (why, missing_sooner why missing)
  missed_comes (Error e) b calls calls' is why missing = (why, missing_sooner why missing)
  missed_comes NoMemory b calls calls' is why missing = tt

  module _ (told : old.told) where
    pub found_tidy : (r : Cached) (v : Value) → (r ≡ Hit v) ⊎ (r ≡ NoMemory) → AtSome (state old) (moved old mid) (StandsWith (output_asked a) a.code a.args (tree_of v)) → ComesTidy r a old new
    found_tidy r v (inl e) stood = subst (λ (k : Cached). ComesTidy k a old new) (sym e) (at_sooner old mid new (first told) (next told) (StandsWith (output_asked a) a.code a.args (tree_of v)) stood)
    found_tidy r v (inr e) stood = subst (λ (k : Cached). ComesTidy k a old new) (sym e) tt

    none_sooner : HadNone a old mid ⊎ Rose old.faults mid.faults → HadNone a old new ⊎ Rose old.faults new.faults
    none_sooner (inl none) = inl (at_sooner old mid new (first told) (next told) None' none)
    none_sooner (inr rose) = inr (rose_later old.faults mid.faults new.faults rose keeps'.later)

    pub missed_tidy : (r : Cached) (b : Answer) (calls calls' : ℕ) → IsMissed r b calls calls' → HadNone a old mid ⊎ Rose old.faults mid.faults → ComesTidy r a old new
    missed_tidy (Hit v) b calls calls' is none = absurd is
    missed_tidy (Computed v) b calls calls' is none = none_sooner none
    missed_tidy (Error e) b calls calls' is none = none_sooner none
    missed_tidy NoMemory b calls calls' is none = tt

    -- ---- at its end

    none_later : HadNone a mid new ⊎ Rose mid.faults new.faults → HadNone a old new ⊎ Rose old.faults new.faults
    none_later (inl none) = inl (at_later old mid new (first told) (next told) None' none)
    none_later (inr rose) = inr (later_rose old.faults mid.faults new.faults keeps.later rose)

    pub tidy_later : (r : Cached) → ComesTidy r a mid new → ComesTidy r a old new
    tidy_later (Hit v) stood = at_later old mid new (first told) (next told) (StandsWith (output_asked a) a.code a.args (tree_of v)) stood
    tidy_later (Computed v) none = none_later none
    tidy_later (Error e) none = none_later none
    tidy_later NoMemory none = tt

  missing_later : (why : Missing) → IsMissing why a mid new → IsMissing why a old new
  missing_later absent missing = λ t. at_later old mid new (first t) (next t) (λ s. is_file s (output_asked a) ≡ false) (missing (keeps.told t))
  missing_later failed missing = later_rose old.faults mid.faults new.faults keeps.later missing
  missing_later other missing = λ t. opened_later old mid new (first t) (next t) (output_asked a) _ (missing (keeps.told t))
  missing_later damaged missing = λ t. opened_later old mid new (first t) (next t) (output_asked a) _ (missing (keeps.told t))

  pub comes_later : (r : Cached) → ComesBy r a mid new → ComesBy r a old new
  comes_later (Hit v) finds = λ t. opened_later old mid new (first t) (next t) (output_asked a) _ (finds (keeps.told t))
  comes_later (Computed v) missing = (missing.0, missing_later missing.0 missing.1)
  comes_later (Error e) missing = (missing.0, missing_later missing.0 missing.1)
  comes_later NoMemory missing = tt
