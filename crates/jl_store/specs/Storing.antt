-- What making folders answers.
use Rattle.std.specs.Prelude.{◌≡◌, ◌⊎◌, Some, ⊤}
use Rattle.jl_text.specs.Paths.{PathView, parent}
use Rattle.jl_folder.specs.declared.moves.Place.TheVariants.{Folder}
use Rattle.jl_folder.specs.State.{place_at}
use Rattle.jl_folder.specs.Views.{FolderView, state, moved}
use Rattle.jl_rely.specs.Touches.{TouchedByOther}
use Rattle.jl_store.specs.Doing.{IsPrefix}
use Rattle.jl_folder.specs.declared.folder.MadeDir.{MadeDir}
use Rattle.jl_folder.specs.declared.folder.MadeDir.TheVariants as made_dir
use Rattle.jl_store.specs.declared.folders.MadeFolders.{MadeFolders}
use Rattle.jl_store.specs.declared.folders.MadeFolders.TheVariants as made_folders

-- a folder that is there is as good as made
abbrev pub folders_of : MadeDir → MadeFolders
folders_of made_dir.Made = made_folders.Made
folders_of made_dir.Exists = made_folders.Made
folders_of made_dir.NoParent = made_folders.Skipped
folders_of made_dir.Failed = made_folders.Fault
folders_of made_dir.NoMemory = made_folders.NoMemory

-- one folder is there at the end; or its parent was gone, which another made or removed if it was there before
abbrev pub StepOr : MadeFolders → PathView → FolderView → FolderView → Type 0
StepOr made_folders.Made p old new = place_at (state new) p ≡ Some Folder
StepOr made_folders.Skipped p old new = place_at (state old) (parent p) ≡ Some Folder → TouchedByOther old.token (λ q. q ≡ parent p) (moved old new)
StepOr made_folders.Fault p old new = ⊤
StepOr made_folders.NoMemory p old new = ⊤

-- the folder is there at the end, or another made or removed it or one on the way to it
abbrev pub FoldersOr : MadeFolders → PathView → FolderView → FolderView → Type 0
FoldersOr made_folders.Made path old new = (place_at (state new) path ≡ Some Folder) ⊎ TouchedByOther old.token (λ p. IsPrefix p path) (moved old new)
FoldersOr made_folders.Skipped path old new = TouchedByOther old.token (λ p. IsPrefix p path) (moved old new)
FoldersOr made_folders.Fault path old new = ⊤
FoldersOr made_folders.NoMemory path old new = ⊤
