-- One removal of a resource, beside others' moves.
use Rattle.std.specs.Prelude.{◌≡◌, ℕ, ◌≤◌, ◌⊎◌, List, [], ◌∷◌, ◌++◌, Bool, true, false, Option, None, Some}
use Rattle.jl_text.specs.Paths.{PathView, path_of}
use Rattle.jl_text.specs.Counts.{Rose}
use Rattle.jl_folder.specs.State.{State, AtSome, is_file, is_folder, IsEmptyFolder, now, since}
use Rattle.jl_folder.specs.Calls.{Call, Waits, Maybe, IsParent}
use Rattle.jl_folder.specs.Listing.{ListsNames}
use Rattle.jl_folder.specs.declared.listing.Name.{Name}
use Rattle.jl_folder.specs.declared.moves.Move.{Move}
use Rattle.jl_folder.specs.declared.moves.Move.TheVariants.{Remove, RemoveDir}
use Rattle.jl_tracker.specs.declared.line.Kind.{Kind}
use Rattle.jl_tracker.specs.declared.line.Kind.TheVariants as kind
use Rattle.jl_tracker.specs.Stages.{FolderPoint, view_at}

-- what a try to take a file away finds and does: the file was there, and goes; there was none; or the count of faults rose. Otherwise the count stands
abbrev pub TriesFile : PathView → Bool → FolderPoint → FolderPoint → State → Option Move → Type 0
TriesFile p true old new s own = (is_file s p ≡ true) × (own ≡ Some (Remove p)) × (new.faults ≡ old.faults)
TriesFile p false old new s own = ((is_file s p ≡ false) × (own ≡ None) × (new.faults ≡ old.faults)) ⊎ (Rose old.faults new.faults × Maybe (Remove p) own)

-- what a try to take a folder away finds and does: it was there and empty, and goes; there was none; it still held something, or is the current folder or the topmost; or the count of faults rose. Otherwise the count stands
abbrev pub TriesFolder : PathView → Bool → FolderPoint → FolderPoint → State → Option Move → Type 0
TriesFolder p true old new s own = (is_folder s p ≡ true) × IsEmptyFolder s p × (own ≡ Some (RemoveDir p)) × (new.faults ≡ old.faults)
TriesFolder p false old new s own = ((is_folder s p ≡ false) × (own ≡ None) × (new.faults ≡ old.faults)) ⊎ (((is_folder s p ≡ true) × IsParent s p × (own ≡ None) × (new.faults ≡ old.faults)) ⊎ (Rose old.faults new.faults × Maybe (RemoveDir p) own))

-- others moved, and then a file was taken away, or the try failed
pub record TriedFile (p : PathView) (done : Bool) (old new : FolderPoint) : Type 0 where
  pub token : new.token ≡ old.token
  pub later : old.faults ≤ new.faults
  pub call : Call (view_at old) (view_at new) (TriesFile p done old new)

-- the same of a folder
pub record TriedDir (p : PathView) (done : Bool) (old new : FolderPoint) : Type 0 where
  pub token : new.token ≡ old.token
  pub later : old.faults ≤ new.faults
  pub call : Call (view_at old) (view_at new) (TriesFolder p done old new)

-- a name that was listed was tried; a folder is left alone
abbrev pub TriedName : Bool → PathView → FolderPoint → FolderPoint → Type 0
TriedName true p old new = new ≡ old
TriedName false p old new = (done : Bool) × TriedFile p done old new

-- each file that was listed was tried, one after the other
abbrev pub TriedNames : PathView → List Name → FolderPoint → FolderPoint → Type 0
TriedNames p [] old new = new ≡ old
TriedNames p (name ∷ names) old new = (mid : FolderPoint) × TriedName name.folder (p ++ name.part ∷ []) old mid × TriedNames p names mid new

-- others moved, and no call failed
pub record Pauses (old new : FolderPoint) : Type 0 where
  pub token : new.token ≡ old.token
  pub waits : Waits (view_at old) (view_at new)
  pub steady : new.faults ≡ old.faults

-- the folder couldn't be listed, since there was none or since the count of faults rose
pub record NotListed (p : PathView) (old new : FolderPoint) : Type 0 where
  pub token : new.token ≡ old.token
  pub later : old.faults ≤ new.faults
  pub waits : Waits (view_at old) (view_at new)
  pub why : (AtSome (now old.history) (since old.history new.history) (λ s. is_folder s p ≡ false) × (new.faults ≡ old.faults)) ⊎ Rose old.faults new.faults

-- the folder was listed
pub record ListedFolder (p : PathView) (names : List Name) (old new : FolderPoint) : Type 0 where
  pub token : new.token ≡ old.token
  pub steady : new.faults ≡ old.faults
  pub waits : Waits (view_at old) (view_at new)
  pub lists : ListsNames p names (now old.history) (since old.history new.history)

-- the folder was listed, each file of the list was tried, and then the folder itself
pub record TriedFolder (p : PathView) (done : Bool) (old new : FolderPoint) : Type 0 where
  pub names : List Name
  pub listed : FolderPoint
  pub emptied : FolderPoint
  pub list : ListedFolder p names old listed
  pub tries : TriedNames p names listed emptied
  pub last : TriedDir p done emptied new

-- one removal of a folder, which is done or can't be
abbrev pub RemovesListed : PathView → Bool → FolderPoint → FolderPoint → Type 0
RemovesListed p true old new = TriedFolder p true old new
RemovesListed p false old new = NotListed p old new ⊎ TriedFolder p false old new

-- one removal of a resource; a semaphore isn't touched
abbrev pub Removal : Kind → List ℕ → Bool → FolderPoint → FolderPoint → Type 0
Removal kind.File name done old new = TriedFile (path_of name) done old new
Removal kind.Folder name done old new = RemovesListed (path_of name) done old new
Removal kind.Semlock name done old new = (done ≡ false) × (new ≡ old)

-- others moved, and this own move was made or none; no call failed
pub record MayMove (move : Move) (old new : FolderPoint) : Type 0 where
  pub token : new.token ≡ old.token
  pub steady : new.faults ≡ old.faults
  pub call : Call (view_at old) (view_at new) (λ s own. Maybe move own)

-- a removal of a folder that want of memory cut off: some files of the list were tried, and one more may be gone, or the folder itself
pub record CutFolder (p : PathView) (old new : FolderPoint) : Type 0 where
  pub names : List Name
  pub more : List Name
  pub listed : FolderPoint
  pub tried : FolderPoint
  pub list : ListedFolder p (names ++ more) old listed
  pub tries : TriedNames p names listed tried
  pub last : (new ≡ tried) ⊎ (((part : List ℕ) × MayMove (Remove (p ++ part ∷ [])) tried new) ⊎ MayMove (RemoveDir p) tried new)

-- a removal that want of memory cut off; of a folder that wasn't listed nothing goes
abbrev pub CutRemoval : Kind → List ℕ → FolderPoint → FolderPoint → Type 0
CutRemoval kind.File name old new = (new ≡ old) ⊎ MayMove (Remove (path_of name)) old new
CutRemoval kind.Folder name old new = Pauses old new ⊎ CutFolder (path_of name) old new
CutRemoval kind.Semlock name old new = new ≡ old
