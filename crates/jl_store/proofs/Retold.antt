-- What holds between two views holds between the same where they tell for another reason.
use Rattle.std.proofs.Common.{◌≡◌, ◌⊎◌, inl, inr, ℕ, List, ◌++◌}
use Rattle.jl_text.specs.Paths.{PathView}
use Rattle.jl_folder.specs.Views.{FolderView, FolderAnswers, state, moved}
use Rattle.jl_folder.specs.Calls.{Waits}
use Rattle.jl_folder.specs.State.{State, Trace}
use Rattle.jl_folder.specs.declared.moves.Move.{Move}
use Rattle.jl_entry.specs.declared.names.EntryFile.{EntryFile}
use Rattle.jl_rely.specs.Steps.{StepFact}
use Rattle.jl_rely.specs.Claims.{GoesOn, Called}
use Rattle.jl_store.specs.Asked.{Asked}
use Rattle.jl_store.specs.Checking.{WritesFirstCode, Replaces, Stored, Checks}
use Rattle.jl_store.specs.Keeping.{EntryPlace, KeepsEntry, KeepsFile}
use Rattle.jl_store.specs.Looking.{Missing, absent, failed, other, damaged, IsMissing, LooksUp, LooksTidy}
use Rattle.jl_store.specs.declared.answer.Keep.{Keep}
use Rattle.jl_store.specs.declared.checks.CodeCheck.{CodeCheck}
use Rattle.jl_store.specs.declared.checks.CodeCheck.TheVariants as check
use Rattle.jl_store.specs.declared.found.Look.{Look}
use Rattle.jl_store.specs.declared.found.Look.TheVariants as look
use Rattle.jl_store.specs.declared.memory.Warning.{Warning}

-- the same view, told if this is so
abbrev pub retold : (told : Type 0) → FolderView → FolderView
retold t v = record { told = t; token = v.token; history = v.history; opens = v.opens; faults = v.faults }

module _ (t t' : Type 0) (old new : FolderView) where
  -- a call that answers
  pub answers_retold : (Fails : Type 0) → (t → t') → FolderAnswers Fails old new → FolderAnswers Fails (retold t old) (retold t' new)
  answers_retold Fails f a = record { told = f; token = a.token; opens = a.opens; faults = a.faults }

  -- a call that waits
  pub waits_retold : Waits old new → Waits (retold t old) (retold t' new)
  waits_retold w = record { others = w.others; foreign = w.foreign; start = w.start; trace = w.trace; lawful = w.lawful }

  -- calls that go on
  pub goes_retold : GoesOn old new → GoesOn (retold t old) (retold t' new)
  goes_retold g = record { token = g.token; start = g.start; trace = g.trace; lawful = g.lawful }

  -- calls of some kinds
  pub called_retold : (Given Owed : StepFact) (Kinds : Move → Type 0) (Pre Post : State → Type 0)
      → Called Given Owed Kinds Pre Post old new → Called Given Owed Kinds Pre Post (retold t old) (retold t' new)
  called_retold Given Owed Kinds Pre Post c = record { went = goes_retold c.went; own = c.own; owes = c.owes; post = c.post }

  -- ---- the code

  writes_retold : (folder last temp : PathView) → WritesFirstCode folder last temp old new → WritesFirstCode folder last temp (retold t old) (retold t' new)
  writes_retold folder last temp w = record { absent = w.absent; own = w.own }

  replaces_retold : (folder last temp : PathView) (code : List ℕ) → Replaces folder last temp code old new → Replaces folder last temp code (retold t old) (retold t' new)
  replaces_retold folder last temp code r = record { another = r.another; own = r.own }

  stored_retold : (folder last temp : PathView) (code : List ℕ) → Stored folder last temp code old new → Stored folder last temp code (retold t old) (retold t' new)
  stored_retold folder last temp code (inl w) = inl (writes_retold folder last temp w)
  stored_retold folder last temp code (inr r) = inr (replaces_retold folder last temp code r)

  -- what a check tells
  pub checks_retold : (c : CodeCheck) (folder last temp : PathView) (code : List ℕ)
      → Checks c folder last temp code old new → Checks c folder last temp code (retold t old) (retold t' new)
  checks_retold check.Same folder last temp code checks = checks
  checks_retold check.Written folder last temp code checks = (writes_retold folder last temp checks.0, checks.1)
  checks_retold check.Cleared folder last temp code checks = (replaces_retold folder last temp code checks.0, checks.1)
  checks_retold check.Skipped folder last temp code checks = stored_retold folder last temp code checks
  checks_retold check.LoadFault folder last temp code checks = checks
  checks_retold check.StoreFault folder last temp code checks = stored_retold folder last temp code checks
  checks_retold check.NoMemory folder last temp code (inl own) = inl own
  checks_retold check.NoMemory folder last temp code (inr did) = inr (stored_retold folder last temp code did)

  -- ---- the look

  missing_retold : (why : Missing) (a : Asked) → (t → old.told) → IsMissing why a old new → IsMissing why a (retold t old) (retold t' new)
  missing_retold absent a f missing = λ told. missing (f told)
  missing_retold failed a f missing = missing
  missing_retold other a f missing = λ told. missing (f told)
  missing_retold damaged a f missing = λ told. missing (f told)

  -- what a look tells
  pub looks_retold : (r : Look) (a : Asked) (ws ws' : List Warning) → (t → old.told)
      → LooksUp r a ws ws' old new → LooksUp r a ws ws' (retold t old) (retold t' new)
  looks_retold (look.Hit v) a ws ws' f looks = (looks.0, λ told. looks.1 (f told))
  looks_retold look.Miss a ws ws' f looks = (looks.0, looks.1, missing_retold looks.0 a f looks.2)
  looks_retold look.NoMemory a ws ws' f looks = looks

  pub tidy_retold : (r : Look) (a : Asked) (ws ws' : List Warning) → LooksTidy r a ws ws' old new → LooksTidy r a ws ws' (retold t old) (retold t' new)
  tidy_retold (look.Hit v) a ws ws' tidy = tidy
  tidy_retold look.Miss a ws ws' tidy = tidy
  tidy_retold look.NoMemory a ws ws' tidy = tt

  -- ---- the answer

  -- one file that was kept
  pub file_retold : (e : EntryPlace) (file : EntryFile) (bytes : List ℕ) (Ready : State → Type 0) (k : Keep)
      → KeepsFile e file bytes Ready k old new → KeepsFile e file bytes Ready k (retold t old) (retold t' new)
  file_retold e file bytes Ready k keeps = record { call = called_retold _ _ _ _ _ keeps.call; once = keeps.once; kept = keeps.kept; skipped = keeps.skipped }

  -- an entry that was kept
  pub entry_retold : (e : EntryPlace) (text : EntryFile → List ℕ) (Ready : State → Type 0) (Done : Trace → Type 0) (k : Keep)
      → KeepsEntry e text Ready Done k old new → KeepsEntry e text Ready Done k (retold t old) (retold t' new)
  entry_retold e text Ready Done k keeps = record { call = called_retold _ _ _ _ _ keeps.call; kept = keeps.kept; skipped = keeps.skipped }
