-- What a cached call has done, or else warned of, whatever others did meanwhile.
use Rattle.std.specs.Prelude.{◌≡◌, ◌⊎◌, List, [], ◌∷◌, ◌++◌, false, ⊤}
use Rattle.jl_folder.specs.declared.moves.Move.TheVariants.{Rename}
use Rattle.jl_folder.specs.State.{State, Trace, AtSome, is_file}
use Rattle.jl_folder.specs.Views.{FolderView, state, moved}
use Rattle.jl_folder.specs.Reading.{OpenedHas}
use Rattle.jl_entry.specs.declared.names.EntryFile.TheVariants.{Access}
use Rattle.jl_store.specs.Asked.{Asked, output_asked}
use Rattle.jl_store.specs.Checking.{IsOfCode, code_path, code_temp}
use Rattle.jl_store.specs.Keeping.{Includes, HasPut, HasPutAll}
use Rattle.jl_store.specs.Next.{entry_asked}
use Rattle.jl_store.specs.declared.cached.Cached.{Cached}
use Rattle.jl_store.specs.declared.cached.Cached.TheVariants as cached
use Rattle.jl_store.specs.declared.memory.WarnKind.{WarnKind}
use Rattle.jl_store.specs.declared.memory.WarnKind.TheVariants.{LoadFault, StoreFault, NotMine, Damaged, Skipped}
use Rattle.jl_store.specs.declared.memory.Warning.{Warning}

-- ---- what is done

-- the code's file was opened and is of this code, or the call put it in place
abbrev pub HasCode : Asked → State → Trace → Type 0
HasCode a s moves =
    OpenedHas (code_path a.root a.module_name a.function_name) (IsOfCode a.code) s moves
    ⊎ Includes (a.token, Rename (code_temp a.root a.module_name a.function_name a.token) (code_path a.root a.module_name a.function_name)) moves

-- at one step no file had the output's name
abbrev pub HadNoOutput : Asked → State → Trace → Type 0
HadNoOutput a s moves = AtSome s moves (λ s. is_file s (output_asked a) ≡ false)

-- ---- what is warned of instead

-- what the check of the code warns of
abbrev pub OfCode : WarnKind → Type 0
OfCode LoadFault = ⊤
OfCode StoreFault = ⊤
OfCode NotMine = ⊥
OfCode Damaged = ⊥
OfCode Skipped = ⊤

-- what the look warns of
abbrev pub OfLook : WarnKind → Type 0
OfLook LoadFault = ⊤
OfLook StoreFault = ⊥
OfLook NotMine = ⊤
OfLook Damaged = ⊤
OfLook Skipped = ⊥

-- what keeping the answer warns of
abbrev pub OfKeeping : WarnKind → Type 0
OfKeeping LoadFault = ⊥
OfKeeping StoreFault = ⊤
OfKeeping NotMine = ⊥
OfKeeping Damaged = ⊥
OfKeeping Skipped = ⊤

-- a part was done and added no warning, or it added one, of its kinds
abbrev pub DoneOrWarned : (Kind : WarnKind → Type 0) → (done : Type 0) → List Warning → Type 0
DoneOrWarned Kind done [] = done
DoneOrWarned Kind done (w ∷ []) = Kind w.kind
DoneOrWarned Kind done (w ∷ v ∷ ws) = ⊥

-- ---- the parts

-- the look's part: a value that was found is not warned of, and else there was no output at one step
abbrev pub LookDone : Cached → Asked → State → Trace → List Warning → Type 0
LookDone (cached.Hit v) a s moves added = added ≡ []
LookDone (cached.Computed v) a s moves added = DoneOrWarned OfLook (HadNoOutput a s moves) added
LookDone (cached.Error e) a s moves added = DoneOrWarned OfLook (HadNoOutput a s moves) added
LookDone cached.NoMemory a s moves added = ⊤

-- the answer's part: the last access of an entry that was found was put in place, or the three files of a new one; of an error nothing is kept
abbrev pub KeptDone : Cached → Asked → Trace → List Warning → Type 0
KeptDone (cached.Hit v) a moves added = DoneOrWarned OfKeeping (HasPut (entry_asked a) a.token Access moves) added
KeptDone (cached.Computed v) a moves added = DoneOrWarned OfKeeping (HasPutAll (entry_asked a) a.token moves) added
KeptDone (cached.Error e) a moves added = added ≡ []
KeptDone cached.NoMemory a moves added = ⊤

-- the warnings of a call are those of its three parts, in this order: the code, the look and the answer, each of which was done or warned of
pub record PartsDone (r : Cached) (a : Asked) (s : State) (moves : Trace) (added : List Warning) : Type 0 where
  pub code : List Warning
  pub look : List Warning
  pub kept : List Warning
  pub parts : added ≡ code ++ (look ++ kept)
  pub code_part : DoneOrWarned OfCode (HasCode a s moves) code
  pub look_part : LookDone r a s moves look
  pub kept_part : KeptDone r a moves kept

-- the call did all but what these warnings tell; for want of memory it may have ended anywhere
abbrev pub HasDoneBut : Cached → Asked → State → Trace → List Warning → Type 0
HasDoneBut (cached.Hit v) a s moves added = PartsDone (cached.Hit v) a s moves added
HasDoneBut (cached.Computed v) a s moves added = PartsDone (cached.Computed v) a s moves added
HasDoneBut (cached.Error e) a s moves added = PartsDone (cached.Error e) a s moves added
HasDoneBut cached.NoMemory a s moves added = ⊤

-- a call added warnings, and did all but what they tell
abbrev pub DoesOrWarns : Cached → Asked → (warnings warnings' : List Warning) → FolderView → FolderView → Type 0
DoesOrWarns r a ws ws' old new = (added : List Warning) × (ws' ≡ ws ++ added) × HasDoneBut r a (state old) (moved old new) added

-- ---- inside a call

-- a part added these warnings, and was done or warned of
abbrev pub PartDone : (Kind : WarnKind → Type 0) → (done : Type 0) → (warnings warnings' : List Warning) → Type 0
PartDone Kind done ws ws' = (added : List Warning) × (ws' ≡ ws ++ added) × DoneOrWarned Kind done added

-- a call of the function kept its value or warned of that; for want of memory it may have ended anywhere
abbrev pub KeepsOrWarns : Cached → Asked → Trace → (warnings warnings' : List Warning) → Type 0
KeepsOrWarns cached.NoMemory a moves ws ws' = ⊤
KeepsOrWarns r a moves ws ws' = (added : List Warning) × (ws' ≡ ws ++ added) × KeptDone r a moves added

-- the warnings after the check of the code are those of the look and of the answer, each of which was done or warned of
pub record AnswerDone (r : Cached) (a : Asked) (s : State) (moves : Trace) (warnings warnings' : List Warning) : Type 0 where
  pub look : List Warning
  pub kept : List Warning
  pub parts : warnings' ≡ warnings ++ (look ++ kept)
  pub look_part : LookDone r a s moves look
  pub kept_part : KeptDone r a moves kept

-- the same of a call after the check, which for want of memory may have ended anywhere
abbrev pub AnswersOrWarns : Cached → Asked → State → Trace → (warnings warnings' : List Warning) → Type 0
AnswersOrWarns cached.NoMemory a s moves ws ws' = ⊤
AnswersOrWarns r a s moves ws ws' = AnswerDone r a s moves ws ws'
