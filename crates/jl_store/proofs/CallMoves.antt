-- Which moves the parts of a cached call make.
use Rattle.std.proofs.Common.{◌≡◌, ◌⊎◌, inl, inr, ℕ, List, sym, subst}
use Rattle.jl_text.specs.Paths.{PathView}
use Rattle.jl_folder.specs.declared.moves.Move.{Move}
use Rattle.jl_folder.specs.Views.{FolderView, moved}
use Rattle.jl_entry.specs.declared.names.EntryFile.TheVariants.{Access}
use Rattle.jl_value.specs.declared.value.Value.{Value}
use Rattle.jl_rely.specs.Steps.{OwnMoves}
use Rattle.jl_rely.specs.Claims.{GoesOn, Moves, Silent}
use Rattle.jl_rely.proofs.Moving.{moves_then, moves_as}
use Rattle.jl_store.specs.Kinds.{IsFor}
use Rattle.jl_store.specs.Checking.{IsOfCode, IsWriting, IsChecking, WritesFirstCode, Replaces, Stored, Checks, function_path, code_path, code_temp}
use Rattle.jl_store.specs.Keeping.{EntryPlace, IsKeeping, last_of, temp_of}
use Rattle.jl_store.specs.Calling.{IsBeforeOutput, IsAnswering, IsWritingCall, IsCalling, ClearsOnlyAnothers}
use Rattle.jl_store.specs.declared.checks.CodeCheck.{CodeCheck}
use Rattle.jl_store.specs.declared.checks.CodeCheck.TheVariants as check
use Rattle.jl_store.specs.declared.cached.Cached.{Cached}
use Rattle.jl_store.specs.declared.cached.Cached.TheVariants.{Hit, Computed, NoMemory}
use Rattle.jl_store.proofs.Causing.{opened_sooner}
use Rattle.jl_store.proofs.KeepFacts.{for_keeping}

-- ---- what the answer needs

-- a value that was found needs its last access alone
pub found_kinds : (r : Cached) (v : Value) (e : EntryPlace) (token : List ℕ) → (r ≡ Hit v) ⊎ (r ≡ NoMemory) → (m : Move) → IsFor (last_of e Access) (temp_of e token Access) m → IsAnswering r e token m
found_kinds r v e token (inl is) m kind = subst (λ (k : Cached). IsAnswering k e token m) (sym is) kind
found_kinds r v e token (inr is) m kind = subst (λ (k : Cached). IsAnswering k e token m) (sym is) (for_keeping e token Access m kind)

-- one that was computed a whole entry
pub computed_kinds : (r : Cached) (v : Value) (e : EntryPlace) (token : List ℕ) → (r ≡ Computed v) ⊎ (r ≡ NoMemory) → (m : Move) → IsKeeping e token m → IsAnswering r e token m
computed_kinds r v e token (inl is) m kind = subst (λ (k : Cached). IsAnswering k e token m) (sym is) kind
computed_kinds r v e token (inr is) m kind = subst (λ (k : Cached). IsAnswering k e token m) (sym is) kind

-- the check of the code comes before the output
pub before_kinds : (e : EntryPlace) (token : List ℕ) (m : Move) → IsChecking (function_path e.root e.module_name e.function_name) (code_path e.root e.module_name e.function_name) (code_temp e.root e.module_name e.function_name token) m → IsBeforeOutput e token m
before_kinds e token m (inl making) = inr (inl (inl making))
before_kinds e token m (inr (inl clearing)) = inl clearing
before_kinds e token m (inr (inr puts)) = inr (inl (inr puts))

-- ---- the whole

module _ (r : Cached) (e : EntryPlace) (token : List ℕ) where
  abbrev home : PathView
  home = function_path e.root e.module_name e.function_name

  abbrev last : PathView
  last = code_path e.root e.module_name e.function_name

  abbrev temp : PathView
  temp = code_temp e.root e.module_name e.function_name token

  pub checking_kinds : (m : Move) → IsChecking home last temp m → IsCalling r e token m
  checking_kinds m (inl making) = inr (inl (inl making))
  checking_kinds m (inr (inl clearing)) = inl clearing
  checking_kinds m (inr (inr puts)) = inr (inl (inr puts))

  pub answering_kinds : (m : Move) → IsAnswering r e token m → IsCalling r e token m
  answering_kinds m kind = inr (inr kind)

-- entries are cleared only where the check saw another code
module _ (r : Cached) (e : EntryPlace) (code : List ℕ) (old mid new : FolderView) (went : GoesOn old mid) (answers : Moves (IsAnswering r e mid.token) mid new) where
  abbrev temp' : PathView
  temp' = code_temp e.root e.module_name e.function_name old.token

  spares : (Kinds : Move → Type 0) → OwnMoves old.token Kinds (moved old mid) → ((m : Move) → Kinds m → IsWritingCall r e old.token m) → ClearsOnlyAnothers r e code old new
  spares Kinds own f =
      let later = subst (λ (u : List ℕ). Moves (IsAnswering r e u) mid new) went.token answers in
      inl (moves_then (IsWritingCall r e old.token) old mid new (moves_as Kinds (IsWritingCall r e old.token) f old mid (record { went = went; own = own })) (moves_as (IsAnswering r e old.token) (IsWritingCall r e old.token) (λ m kind. inr kind) mid new later)).own

  silent : OwnMoves old.token Silent (moved old mid) → ClearsOnlyAnothers r e code old new
  silent own = spares Silent own (λ m kind. absurd kind)

  writes : WritesFirstCode (function_path e.root e.module_name e.function_name) (code_path e.root e.module_name e.function_name) temp' old mid → ClearsOnlyAnothers r e code old new
  writes w = spares (IsWriting (function_path e.root e.module_name e.function_name) (code_path e.root e.module_name e.function_name) temp') w.own (λ m kind. inl kind)

  replaces : Replaces (function_path e.root e.module_name e.function_name) (code_path e.root e.module_name e.function_name) temp' code old mid → ClearsOnlyAnothers r e code old new
  replaces w = inr (opened_sooner old mid new went answers.went (code_path e.root e.module_name e.function_name) (λ b. IsOfCode code b → ⊥) w.another)

  stored : Stored (function_path e.root e.module_name e.function_name) (code_path e.root e.module_name e.function_name) temp' code old mid → ClearsOnlyAnothers r e code old new
  stored (inl w) = writes w
  stored (inr w) = replaces w

  pub clears_anothers : (c : CodeCheck) → Checks c (function_path e.root e.module_name e.function_name) (code_path e.root e.module_name e.function_name) temp' code old mid → ClearsOnlyAnothers r e code old new
  clears_anothers check.Same checks = silent checks.1
  clears_anothers check.Written checks = writes checks.0
  clears_anothers check.Cleared checks = replaces checks.0
  clears_anothers check.Skipped checks = stored checks
  clears_anothers check.LoadFault checks = silent checks
  clears_anothers check.StoreFault checks = stored checks
  clears_anothers check.NoMemory (inl own) = silent own
  clears_anothers check.NoMemory (inr did) = stored did
