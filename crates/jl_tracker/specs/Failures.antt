-- Which removals failed for what was found in the folder, and how many by faults alone.
use Rattle.std.specs.Prelude.{◌≡◌, ℕ, ◌+◌, ◌-◌, ◌^◌, ◌≤◌, ◌⊎◌, List, [], ◌∷◌, Bool, false, None, min, ⊤}
use Rattle.jl_text.specs.Paths.{PathView, path_of}
use Rattle.jl_text.specs.Counts.{Rose}
use Rattle.jl_folder.specs.State.{AtSome, is_file, is_folder, now, since}
use Rattle.jl_folder.specs.Calls.{Call}
use Rattle.jl_tracker.specs.declared.line.Kind.{Kind}
use Rattle.jl_tracker.specs.declared.line.Kind.TheVariants as kind
use Rattle.jl_tracker.specs.Stages.{Stage, FolderPoint, StagePoint, view_at}
use Rattle.jl_tracker.specs.Causes.{StillHolds}
use Rattle.jl_tracker.specs.Effects.{Effect, removes}
use Rattle.jl_tracker.specs.Plays.{ComesAbout}

-- others moved, and then the path named no file; nothing was taken away
abbrev pub FindsNoFile : PathView → FolderPoint → FolderPoint → Type 0
FindsNoFile p old new = Call (view_at old) (view_at new) (λ s own. (is_file s p ≡ false) × (own ≡ None))

-- the path named no folder at some state; or once each file that stood in it at first had been away, it still held something, or is the current folder or the topmost
abbrev pub FindsNoneOrHeld : PathView → FolderPoint → FolderPoint → Type 0
FindsNoneOrHeld p old new = AtSome (now old.history) (since old.history new.history) (λ s. is_folder s p ≡ false) ⊎ StillHolds p old new

-- a removal failed for what was found; a semaphore isn't touched
abbrev pub FailsAsFound : Kind → List ℕ → FolderPoint → FolderPoint → Type 0
FailsAsFound kind.File name old new = FindsNoFile (path_of name) old new
FailsAsFound kind.Folder name old new = FindsNoneOrHeld (path_of name) old new
FailsAsFound kind.Semlock name old new = new ≡ old

-- the effect is no removal that failed, or it failed for what was found
abbrev pub GoesAsFound : Effect → Bool → FolderPoint → FolderPoint → Type 0
GoesAsFound (removes k name) false old new = FailsAsFound k name old new
GoesAsFound _ done old new = ⊤

-- the effect is a removal of a file or a folder that failed, and the count of faults rose meanwhile
abbrev pub FailsByFault : Effect → Bool → FolderPoint → FolderPoint → Type 0
FailsByFault (removes kind.File name) false old new = Rose old.faults new.faults
FailsByFault (removes kind.Folder name) false old new = Rose old.faults new.faults
FailsByFault _ done old new = ⊥

-- the effects come about, and each removal that failed did so for what was found, but for this many, in each of which the count of faults rose
abbrev pub PlaysBut : Stage → ℕ → List Effect → StagePoint → StagePoint → Type 0
PlaysBut s n [] a b = (n ≡ 0) × (b ≡ a)
PlaysBut s n (e ∷ es) a b = (done : Bool) × (mid : StagePoint) × ComesAbout s e done a mid × ((GoesAsFound e done a.folder mid.folder × PlaysBut s n es mid b) ⊎ ((k : ℕ) × (n ≡ k + 1) × FailsByFault e done a.folder mid.folder × PlaysBut s k es mid b))

-- a count rose by this many at least, or stands at its last value
abbrev pub RoseBy : ℕ → ℕ → ℕ → Type 0
RoseBy n before now = min (before + n) (2 ^ 64 - 1) ≤ now
