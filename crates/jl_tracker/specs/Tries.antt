-- What the steps of a removal answer.
use Rattle.std.specs.Prelude.{◌≡◌, ℕ, ◌⊎◌, List, [], ◌∷◌, ◌++◌, Bool, true, false, Result, Ok, Err}
use Rattle.std.specs.declared.alloc.AllocError.{AllocError}
use Rattle.jl_text.specs.Paths.{PathView, is_bad}
use Rattle.jl_folder.specs.declared.listing.Name.{Name}
use Rattle.jl_folder.specs.declared.moves.Move.TheVariants.{Remove, RemoveDir}
use Rattle.jl_tracker.specs.declared.line.Kind.{Kind}
use Rattle.jl_tracker.specs.declared.line.Kind.TheVariants as kind
use Rattle.jl_tracker.specs.declared.removing.Tried.{Tried}
use Rattle.jl_tracker.specs.declared.removing.Tried.TheVariants as tried
use Rattle.jl_tracker.specs.Stages.{FolderPoint}
use Rattle.jl_tracker.specs.Removing.{TriedFile, TriedDir, TriedName, TriedNames, Pauses, RemovesListed, MayMove, CutFolder, Removal, CutRemoval}

abbrev pub FileTry : PathView → Result Tried AllocError → FolderPoint → FolderPoint → Type 0
FileTry p (Ok tried.Gone) old new = TriedFile p true old new
FileTry p (Ok tried.Kept) old new = TriedFile p false old new
FileTry p (Err e) old new = MayMove (Remove p) old new

abbrev pub FolderTry : PathView → Result Tried AllocError → FolderPoint → FolderPoint → Type 0
FolderTry p (Ok tried.Gone) old new = TriedDir p true old new
FolderTry p (Ok tried.Kept) old new = TriedDir p false old new
FolderTry p (Err e) old new = MayMove (RemoveDir p) old new

-- a name was tried, or there was no memory: then its file may be gone
abbrev pub NameTry : {A : Type 0} → Bool → PathView → Result A AllocError → FolderPoint → FolderPoint → Type 0
NameTry folder p (Ok done) old new = TriedName folder p old new
NameTry folder p (Err e) old new = (new ≡ old) ⊎ MayMove (Remove p) old new

-- some names were tried, and one more file may be gone
pub record CutNames (p : PathView) (names : List Name) (old new : FolderPoint) : Type 0 where
  pub first : List Name
  pub more : List Name
  pub split : names ≡ first ++ more
  pub tried : FolderPoint
  pub tries : TriedNames p first old tried
  pub last : (new ≡ tried) ⊎ ((part : List ℕ) × MayMove (Remove (p ++ part ∷ [])) tried new)

-- all names were tried, or there was no memory
abbrev pub NamesTry : {A : Type 0} → PathView → List Name → Result A AllocError → FolderPoint → FolderPoint → Type 0
NamesTry p names (Ok done) old new = TriedNames p names old new
NamesTry p names (Err e) old new = CutNames p names old new

-- all names were tried, and then the folder
pub record TriedAll (p : PathView) (names : List Name) (done : Bool) (old new : FolderPoint) : Type 0 where
  pub emptied : FolderPoint
  pub tries : TriedNames p names old emptied
  pub last : TriedDir p done emptied new

-- all names were tried, and then the folder may be gone
pub record CutLast (p : PathView) (names : List Name) (old new : FolderPoint) : Type 0 where
  pub emptied : FolderPoint
  pub tries : TriedNames p names old emptied
  pub last : MayMove (RemoveDir p) emptied new

abbrev pub ListedTry : PathView → List Name → Result Tried AllocError → FolderPoint → FolderPoint → Type 0
ListedTry p names (Ok tried.Gone) old new = TriedAll p names true old new
ListedTry p names (Ok tried.Kept) old new = TriedAll p names false old new
ListedTry p names (Err e) old new = CutNames p names old new ⊎ CutLast p names old new

-- a removal of a folder, or what want of memory leaves of it
abbrev pub RemovesTry : PathView → Result Tried AllocError → FolderPoint → FolderPoint → Type 0
RemovesTry p (Ok tried.Gone) old new = RemovesListed p true old new
RemovesTry p (Ok tried.Kept) old new = RemovesListed p false old new
RemovesTry p (Err e) old new = Pauses old new ⊎ CutFolder p old new

-- a removal of a resource, or what want of memory leaves of it
abbrev pub RemovalTry : Kind → List ℕ → Result Tried AllocError → FolderPoint → FolderPoint → Type 0
RemovalTry k name (Ok tried.Gone) old new = Removal k name true old new
RemovalTry k name (Ok tried.Kept) old new = Removal k name false old new
RemovalTry k name (Err e) old new = CutRemoval k name old new

-- a file or a folder has a path
abbrev pub IsRemovable : Kind → List ℕ → Type 0
IsRemovable kind.File name = is_bad name ≡ false
IsRemovable kind.Folder name = is_bad name ≡ false
IsRemovable kind.Semlock name = Unit {0}
