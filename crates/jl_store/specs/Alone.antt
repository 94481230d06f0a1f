-- What making folders and storing a code leave where no other moved meanwhile.
use Rattle.std.specs.Prelude.{◌≡◌, ℕ, List, true, None, IsTrue, ⊤}
use Rattle.jl_text.specs.Paths.{PathView}
use Rattle.jl_text.specs.Texts.{is_name}
use Rattle.jl_folder.specs.State.{State, place_at, is_folder}
use Rattle.jl_folder.specs.Views.{FolderView, state}
use Rattle.jl_protocol.specs.Tidy.{IsTidy}
use Rattle.jl_clear.specs.Taking.{IsBeside}
use Rattle.jl_store.specs.Doing.{IsPrefix}
use Rattle.jl_store.specs.Checking.{AreFiles}
use Rattle.jl_store.specs.Next.{IsInEntry, WritesCode, ReplacesCode}
use Rattle.jl_store.specs.declared.checks.CodeFiles.{CodeFiles}
use Rattle.jl_store.specs.declared.checks.CodeCheck.{CodeCheck}
use Rattle.jl_store.specs.declared.checks.CodeCheck.TheVariants as check

-- ---- making folders

-- the path and all on the way to it are folders, and all else is as before
pub record HasFolders (path : PathView) (before after : State) : Type 0 where
  pub folders : (p : PathView) → IsPrefix p path → is_folder after p ≡ true
  pub beside : IsBeside (λ p. IsPrefix p path) before after

-- ---- clearing

-- nothing stands at or below the folder of an entry of this function, and all else is as before
pub record HasNoEntries (function : PathView) (before after : State) : Type 0 where
  pub empty : (p : PathView) → IsInEntry function p → place_at after p ≡ None
  pub beside : IsBeside (λ p. IsInEntry function p) before after

-- ---- storing a code

-- what is left by what was done with the code's file
abbrev pub LeavesCode : CodeCheck → CodeFiles → List ℕ → State → State → Type 0
LeavesCode check.Same files bytes before after = after ≡ before
LeavesCode check.Written files bytes before after = WritesCode files.folder files.last files.temp bytes before after
LeavesCode check.Cleared files bytes before after = ReplacesCode files.folder files.last files.temp bytes before after
LeavesCode check.Skipped files bytes before after = ⊤
LeavesCode check.LoadFault files bytes before after = ⊤
LeavesCode check.StoreFault files bytes before after = ⊤
LeavesCode check.NoMemory files bytes before after = ⊤

-- the same in a tidy state of the files of a function, where no other moved
abbrev pub LeavesCodeAlone : CodeCheck → CodeFiles → List ℕ → FolderView → FolderView → Type 0
LeavesCodeAlone result files bytes old new =
    (root : PathView) (m f : List ℕ) → IsTrue (is_name m) → IsTrue (is_name f) → AreFiles root m f old.token files → IsTidy root (state old) → LeavesCode result files bytes (state old) (state new)
