-- What a run owes: which moves are its own, and that they are lawful throughout.
use Rattle.std.specs.Prelude.{◌≡◌, ℕ, List, Option, Some, None}
use Rattle.jl_text.specs.Paths.{PathView}
use Rattle.jl_folder.specs.declared.moves.Move.{Move}
use Rattle.jl_folder.specs.Views.{FolderView, state, moved}
use Rattle.jl_rely.specs.Steps.{OwnMoves}
use Rattle.jl_rely.specs.Claims.{GoesOn, Called, Silent}
use Rattle.jl_entry.specs.Names.{root_of}
use Rattle.jl_protocol.specs.Whole.{CodeAnswers}
use Rattle.jl_protocol.specs.Tidy.{IsSound}
use Rattle.jl_protocol.specs.Proper.{IsLawful, LawfulThroughout}
use Rattle.jl_store.specs.Calling.{IsCalling}
use Rattle.jl_store.specs.declared.cached.Cached.{Cached}
use Rattle.jl_words.specs.ModuleNames.{module_name_of}
use Rattle.jl_cmd.specs.Course.{Course}
use Rattle.jl_cmd.specs.Commands.{Command, call, hash, clear, reduce_size, tracker}
use Rattle.jl_cmd.specs.Needs.{UseFolder}
use Rattle.jl_cmd.specs.of.Clear.{ClearsLawfully}
use Rattle.jl_cmd.specs.of.Reduce.{ReducesLawfully}
use Rattle.jl_cmd.specs.of.Track.{TakesAsked}

-- Own moves are of these kinds. Begun where the cache was sound, each is lawful wherever all steps before it are, and where all steps are the call ends
-- where the cache is sound.
abbrev pub CallsLawfully : (location : PathView) → CodeAnswers → (Kinds : Move → Type 0) → (old new : FolderView) → Type 0
CallsLawfully location answer Kinds old new =
    Called (IsLawful (root_of location) answer) (IsLawful (root_of location) answer) Kinds (IsSound (root_of location) answer) (IsSound (root_of location) answer) old new

-- a move of a cached call of this function: it makes the function's folder, clears its entries, writes its code, or keeps or renews an entry of it
abbrev pub IsOfCall : (root : PathView) → (m name token : List ℕ) → Move → Type 0
IsOfCall root m name token move = (key : List ℕ) × (r : Cached) × IsCalling r (record { root = root; module_name = m; function_name = name; key = key }) token move

-- the own moves of a call are of its own function, and lawful throughout
pub record CallsIn (file location : PathView) (name : List ℕ) (answer : CodeAnswers) (old new : FolderView) : Type 0 where
  pub stays : (m : List ℕ) → module_name_of file ≡ Some m → OwnMoves old.token (IsOfCall (root_of location) m name old.token) (moved old new)
  pub lawful : LawfulThroughout (root_of location) answer old.token (state old) (moved old new)

-- no move of its own was made
abbrev pub MakesNone : (old new : FolderView) → Type 0
MakesNone old new = OwnMoves old.token Silent (moved old new)

-- the run makes no move of its own
abbrev pub IsIdle : Course → Type 0
IsIdle w = MakesNone w.folder w.folder'

-- the run's own moves are lawful throughout; without a cache folder it makes none, but for the tracker, which takes away what its lines ask for
abbrev pub OwnIsLawful : Option Command → Course → Type 0
OwnIsLawful None w = IsIdle w
OwnIsLawful (Some (call file location name args)) w = CallsIn file location name w.means.answer w.folder w.folder'
OwnIsLawful (Some (hash args)) w = IsIdle w
OwnIsLawful (Some (clear location m f key)) w = ClearsLawfully location m f key w.means.answer w.folder w.folder'
OwnIsLawful (Some (reduce_size location limits)) w = ReducesLawfully location w.means.answer w.folder w.folder'
OwnIsLawful (Some tracker) w = TakesAsked w.means.answer w.input w.folder w.folder'

-- the run went on from what it found, by moves that were allowed; a command without a use for the folder makes none; and its own are as they should be
pub record RunsLawfully (given : Option Command) (w : Course) : Type 0 where
  pub went : GoesOn w.folder w.folder'
  pub idle : (UseFolder given → ⊥) → IsIdle w
  pub own : OwnIsLawful given w
