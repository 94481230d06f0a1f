-- The steps of a removal, one after the other.
use Rattle.std.proofs.Common.{◌≡◌, ◌⊎◌, inl, inr, List, [], ◌∷◌, ◌++◌, Bool, true, false, Option, Result, Ok, Err, sym, subst, refl}
use Rattle.std.proofs.lemmas.List.{append-nil}
use Rattle.std.specs.declared.alloc.AllocError.{AllocError}
use Rattle.jl_text.specs.Paths.{PathView}
use Rattle.jl_folder.specs.State.{State}
use Rattle.jl_folder.specs.Views.{FolderView}
use Rattle.jl_folder.specs.Calls.{Call, Waits}
use Rattle.jl_folder.specs.declared.listing.Name.{Name}
use Rattle.jl_folder.specs.declared.moves.Move.{Move}
use Rattle.jl_folder.specs.declared.moves.Move.TheVariants.{Remove}
use Rattle.jl_tracker.specs.declared.removing.Tried.{Tried}
use Rattle.jl_tracker.specs.declared.removing.Tried.TheVariants as tried
use Rattle.jl_tracker.specs.Stages.{FolderPoint, folder_point, view_at}
use Rattle.jl_tracker.specs.Removing.{TriedName, TriedNames, TriedFolder, MayMove, CutFolder, ListedFolder}
use Rattle.jl_tracker.specs.Tries.{FolderTry, CutNames, TriedAll, CutLast, ListedTry, RemovesTry}

-- a call, whatever else is seen of the folder; what is found may be told in other words
pub call_at : (old new : FolderView) (P Q : State → Option Move → Type 0) → ((s : State) (own : Option Move) → P s own → Q s own) → Call old new P → Call (view_at (folder_point old)) (view_at (folder_point new)) Q
call_at old new P Q f c = record { others = c.others; own = c.own; foreign = c.foreign; start = c.start; trace = c.trace; lawful = c.lawful; answer = f _ _ c.answer }

-- a wait, whatever else is seen of the folder
pub waits_at : (old new : FolderView) → Waits old new → Waits (view_at (folder_point old)) (view_at (folder_point new))
waits_at old new w = record { others = w.others; foreign = w.foreign; start = w.start; trace = w.trace; lawful = w.lawful }

-- one more name was tried
pub tried_names_push : (p : PathView) (ns : List Name) (n : Name) (a m b : FolderPoint) → TriedNames p ns a m → TriedName n.folder (p ++ n.part ∷ []) m b → TriedNames p (ns ++ n ∷ []) a b
tried_names_push p [] n a m b t one = (b, subst (λ x. TriedName n.folder (p ++ n.part ∷ []) x b) t one, refl)
tried_names_push p (x ∷ xs) n a m b t one = (t.0, t.1, tried_names_push p xs n t.0 m b t.2 one)

-- a name was not tried for want of memory, or its file may be gone
pub cut_names : (p : PathView) (names first more : List Name) (n : Name) (a m b : FolderPoint) → names ≡ first ++ more → TriedNames p first a m → (b ≡ m) ⊎ MayMove (Remove (p ++ n.part ∷ [])) m b → CutNames p names a b
cut_names p names first more n a m b split t (inl same) = record { first = first; more = more; split = split; tried = m; tries = t; last = inl same }
cut_names p names first more n a m b split t (inr move) = record { first = first; more = more; split = split; tried = m; tries = t; last = inr (n.part, move) }

-- then the folder was tried
pub listed_try : (p : PathView) (names : List Name) (r : Result Tried AllocError) (a m b : FolderPoint) → TriedNames p names a m → FolderTry p r m b → ListedTry p names r a b
listed_try p names (Ok tried.Gone) a m b t last = record { emptied = m; tries = t; last = last }
listed_try p names (Ok tried.Kept) a m b t last = record { emptied = m; tries = t; last = last }
listed_try p names (Err e) a m b t last = inr record { emptied = m; tries = t; last = last }

-- a folder that was listed
tried_folder : (p : PathView) (names : List Name) (done : Bool) (a m b : FolderPoint) → ListedFolder p names a m → TriedAll p names done m b → TriedFolder p done a b
tried_folder p names done a m b l t = record { names = names; listed = m; emptied = t.emptied; list = l; tries = t.tries; last = t.last }

-- the removal of a folder stopped among its names
cut_folder : (p : PathView) (names : List Name) (a m b : FolderPoint) → ListedFolder p names a m → CutNames p names m b → CutFolder p a b
cut_folder p names a m b l c = record {
  names = c.first;
  more = c.more;
  listed = m;
  tried = c.tried;
  list = subst (λ ns. ListedFolder p ns a m) c.split l;
  tries = c.tries;
  last = elim c.last [
    | inl e ↦ inl e
    | inr move ↦ inr (inl move)
  ];
}

-- it stopped at the folder itself
cut_last : (p : PathView) (names : List Name) (a m b : FolderPoint) → ListedFolder p names a m → CutLast p names m b → CutFolder p a b
cut_last p names a m b l c = record {
  names = names;
  more = [];
  listed = m;
  tried = c.emptied;
  list = subst (λ ns. ListedFolder p ns a m) (sym (append-nil names)) l;
  tries = c.tries;
  last = inr (inr c.last);
}

-- a folder was listed, and then tried
pub removes_try : (p : PathView) (names : List Name) (r : Result Tried AllocError) (a m b : FolderPoint) → ListedFolder p names a m → ListedTry p names r m b → RemovesTry p r a b
removes_try p names (Ok tried.Gone) a m b l t = tried_folder p names true a m b l t
removes_try p names (Ok tried.Kept) a m b l t = inr (tried_folder p names false a m b l t)
removes_try p names (Err e) a m b l (inl c) = inr (cut_folder p names a m b l c)
removes_try p names (Err e) a m b l (inr c) = inr (cut_last p names a m b l c)
