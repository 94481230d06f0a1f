-- The files of an entry are put in place one after the other.
use Rattle.std.proofs.Common.{◌≡◌, ◌⊎◌, inl, inr, ⊎_elim, ℕ, List, [], ◌++◌, refl, sym, ap, subst, ◌∙◌, append_assoc, append-nil}
use Rattle.jl_folder.specs.declared.moves.Move.{Move}
use Rattle.jl_folder.specs.declared.moves.Move.TheVariants.{Rename}
use Rattle.jl_folder.specs.State.{State, Trace}
use Rattle.jl_folder.specs.Views.{FolderView, moved}
use Rattle.jl_value.specs.declared.value.Value.{Value}
use Rattle.jl_entry.specs.declared.names.EntryFile.TheVariants.{Output, Metadata, Access}
use Rattle.jl_rely.specs.Steps.{OwnMoves}
use Rattle.jl_rely.specs.Claims.{GoesOn, Moves}
use Rattle.jl_rely.proofs.Since.{moved_then}
use Rattle.jl_rely.proofs.Moving.{moves_none}
use Rattle.jl_rely.proofs.Traces.{OwnMoves-append, OwnMoves-weaken}
use Rattle.jl_store.specs.Kinds.{IsFor}
use Rattle.jl_store.specs.Keeping.{EntryPlace, KeepsFile, HasPut, OnlyFor, MomentsInOrder, InOrder, last_of, temp_of}
use Rattle.jl_store.specs.Calling.{IsOrdered}
use Rattle.jl_store.specs.declared.answer.Keep.{Keep}
use Rattle.jl_store.specs.declared.answer.Keep.TheVariants as keep
use Rattle.jl_store.specs.declared.cached.Cached.{Cached}
use Rattle.jl_store.specs.declared.cached.Cached.TheVariants.{Hit, Computed, Error, NoMemory}
use Rattle.jl_store.proofs.KeepFacts.{includes_right}

none_own : (token : List ℕ) (Kinds : Move → Type 0) → OwnMoves token Kinds []
unfolding OwnMoves
none_own token Kinds = tt

-- ---- the moments

-- the metadata alone
pub moments_front : (e : EntryPlace) (token : List ℕ) (steps : Trace) → OnlyFor e token Metadata steps → MomentsInOrder e token steps
moments_front e token steps own = record {
  metadata = steps;
  access = [];
  parts = sym (append-nil steps);
  metadata_own = own;
  access_own = none_own token (IsFor (last_of e Access) (temp_of e token Access));
  access_after = inl refl;
}

-- and then the last access
pub moments_then : (e : EntryPlace) (bytes bytes' : List ℕ) (Ready Ready' : State → Type 0) (r : Keep) (old mid new : FolderView) → KeepsFile e Metadata bytes Ready keep.Kept old mid → KeepsFile e Access bytes' Ready' r mid new → MomentsInOrder e old.token (moved old new)
moments_then e bytes bytes' Ready Ready' r old mid new a b = record {
  metadata = moved old mid;
  access = moved mid new;
  parts = moved_then old mid new a.call.went b.call.went;
  metadata_own = a.call.own;
  access_own = subst (λ (u : List ℕ). OnlyFor e u Access (moved mid new)) a.call.went.token b.call.own;
  access_after = inr (a.kept refl);
}

-- ---- a whole entry

module _ (Before : Move → Type 0) (e : EntryPlace) where
  -- the kinds of the first part
  abbrev First : List ℕ → Move → Type 0
  First token m = Before m ⊎ IsFor (last_of e Output) (temp_of e token Output) m

  -- the output alone, or what comes before it
  pub order_front : (token : List ℕ) (steps : Trace) → OwnMoves token (First token) steps → InOrder Before e token steps
  order_front token steps own = record {
    output = steps;
    moments = [];
    parts = sym (append-nil steps);
    output_own = own;
    moments_in_order = moments_front e token [] (none_own token (IsFor (last_of e Metadata) (temp_of e token Metadata)));
    moments_after = inl refl;
  }

  pub order_before : (token : List ℕ) (steps : Trace) → OwnMoves token Before steps → InOrder Before e token steps
  order_before token steps own = order_front token steps (OwnMoves-weaken token Before (First token) (λ m kind. inl kind) steps own)

  pub order_output : (token : List ℕ) (steps : Trace) → OnlyFor e token Output steps → InOrder Before e token steps
  order_output token steps own = order_front token steps (OwnMoves-weaken token (IsFor (last_of e Output) (temp_of e token Output)) (First token) (λ m kind. inr kind) steps own)

  pub order_none : (v : FolderView) → InOrder Before e v.token (moved v v)
  order_none v = order_before v.token (moved v v) (moves_none Before v).own

  -- the output, and then the moments
  pub order_then : (bytes : List ℕ) (Ready : State → Type 0) (old mid new : FolderView) → KeepsFile e Output bytes Ready keep.Kept old mid → GoesOn mid new → MomentsInOrder e mid.token (moved mid new) → InOrder Before e old.token (moved old new)
  order_then bytes Ready old mid new a went order = record {
    output = moved old mid;
    moments = moved mid new;
    parts = moved_then old mid new a.call.went went;
    output_own = OwnMoves-weaken old.token (IsFor (last_of e Output) (temp_of e old.token Output)) (First old.token) (λ m kind. inr kind) (moved old mid) a.call.own;
    moments_in_order = subst (λ (u : List ℕ). MomentsInOrder e u (moved mid new)) a.call.went.token order;
    moments_after = inr (a.kept refl);
  }

  -- after moves that come before the output
  pub order_later : (Kinds : Move → Type 0) → ((m : Move) → Kinds m → Before m) → (old mid new : FolderView) → Moves Kinds old mid → GoesOn mid new → InOrder Before e mid.token (moved mid new) → InOrder Before e old.token (moved old new)
  order_later Kinds f old mid new a went order =
      let token = old.token in
      let o = subst (λ (u : List ℕ). InOrder Before e u (moved mid new)) a.went.token order in
      record {
        output = moved old mid ++ o.output;
        moments = o.moments;
        parts = moved_then old mid new a.went went ∙ ap (λ (t : Trace). moved old mid ++ t) o.parts ∙ sym (append_assoc (moved old mid) o.output o.moments);
        output_own = OwnMoves-append token (First token) (moved old mid) o.output (OwnMoves-weaken token Kinds (First token) (λ m kind. inl (f m kind)) (moved old mid) a.own) o.output_own;
        moments_in_order = o.moments_in_order;
        moments_after = ⊎_elim (λ (none : o.moments ≡ []). inl none) (λ (put : HasPut e token Output o.output). inr (includes_right (token, Rename (temp_of e token Output) (last_of e Output)) (moved old mid) o.output put)) o.moments_after;
      }

-- beside more moves
pub order_as : (Before Before' : Move → Type 0) (e : EntryPlace) (token : List ℕ) (steps : Trace) → ((m : Move) → Before m → Before' m) → InOrder Before e token steps → InOrder Before' e token steps
order_as Before Before' e token steps f o = record {
  output = o.output;
  moments = o.moments;
  parts = o.parts;
  output_own = OwnMoves-weaken token (λ m. Before m ⊎ IsFor (last_of e Output) (temp_of e token Output) m) (λ m. Before' m ⊎ IsFor (last_of e Output) (temp_of e token Output) m)
      (λ m kind. ⊎_elim (λ (is : Before m). inl (f m is)) (λ (is : IsFor (last_of e Output) (temp_of e token Output) m). inr is) kind) o.output o.output_own;
  moments_in_order = o.moments_in_order;
  moments_after = o.moments_after;
}

-- ---- by the answer

module _ (Before : Move → Type 0) (e : EntryPlace) (token : List ℕ) (steps : Trace) where
  pub found_ordered : (r : Cached) (v : Value) → (r ≡ Hit v) ⊎ (r ≡ NoMemory) → IsOrdered r Before e token steps
  found_ordered r v (inl is) = subst (λ (k : Cached). IsOrdered k Before e token steps) (sym is) tt
  found_ordered r v (inr is) = subst (λ (k : Cached). IsOrdered k Before e token steps) (sym is) tt

  pub all_ordered : (r : Cached) → InOrder Before e token steps → IsOrdered r Before e token steps
  all_ordered (Hit v) order = tt
  all_ordered (Computed v) order = order
  all_ordered (Error x) order = tt
  all_ordered NoMemory order = tt

-- after moves that come before the output
pub ordered_later : (Before Before' Kinds : Move → Type 0) (e : EntryPlace) → ((m : Move) → Kinds m → Before' m) → ((m : Move) → Before m → Before' m) → (old mid new : FolderView) → Moves Kinds old mid → GoesOn mid new
    → (r : Cached) → IsOrdered r Before e mid.token (moved mid new) → IsOrdered r Before' e old.token (moved old new)
ordered_later Before Before' Kinds e f h old mid new a went (Hit v) order = tt
ordered_later Before Before' Kinds e f h old mid new a went (Computed v) order = order_later Before' e Kinds f old mid new a went (order_as Before Before' e mid.token (moved mid new) h order)
ordered_later Before Before' Kinds e f h old mid new a went (Error x) order = tt
ordered_later Before Before' Kinds e f h old mid new a went NoMemory order = tt
