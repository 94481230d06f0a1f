-- What the system's kinds of entries and of errors say.
use Rattle.std.specs.Prelude.{◌≡◌, ◌⊎◌, ◌↔◌, Bool, Option, Some, None, Result, Ok, Err, IsTrue}
use Rattle.std.specs.IoError.{error_kind}
use Rattle.std.specs.Fs.{IsDir}
use Rattle.std.specs.declared.io.Error.{Error}
use Rattle.std.specs.declared.io.ErrorKind.{ErrorKind}
use Rattle.std.specs.declared.io.ErrorKind.TheVariants.{NotFound, NotADirectory}
use Rattle.std.specs.declared.fs.attrs.FileType.{FileType}

-- the kind of an error that says that nothing is there
abbrev pub IsAbsent : ErrorKind → Type 0
IsAbsent kind = (kind ≡ NotFound) ⊎ (kind ≡ NotADirectory)

-- whether an entry is a folder, by the kind that the system tells; nothing of one that is gone, and any other error as it is
abbrev pub TellsKind : Result FileType Error → Result (Option Bool) Error → Type 0
TellsKind (Ok kind) (Ok (Some folder)) = IsTrue folder ↔ IsDir kind
TellsKind (Ok kind) (Ok None) = ⊥
TellsKind (Ok kind) (Err e) = ⊥
TellsKind (Err e) answer = (IsAbsent (error_kind e) → answer ≡ Ok None) × ((IsAbsent (error_kind e) → ⊥) → answer ≡ Err e)
