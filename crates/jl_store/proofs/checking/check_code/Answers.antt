-- The code's file is opened, and then followed: left, written, put in place of another, or skipped.
use Rattle.std.proofs.Common.{◌≡◌, ◌∙◌, ◌⊎◌, inl, inr, ℕ, List, [], ◌∷◌, refl, sym, subst, arith}
use Rattle.std.specs.Prelude.{IsTrue}
use Rattle.jl_text.specs.Paths.{PathView}
use Rattle.jl_text.specs.Texts.{is_name}
use Rattle.jl_text.specs.Counts.{Rose}
use Rattle.jl_folder.specs.Views.{FolderView, FolderAnswers, state, moved}
use Rattle.jl_entry.specs.Codes.{code_text}
use Rattle.jl_entry.specs.Names.{code_of, IsTemp, root_of}
use Rattle.jl_rely.specs.Claims.{Called, Anywhere}
use Rattle.jl_rely.specs.Steps.{IsLone}
use Rattle.jl_rely.specs.Touches.{TouchedByOther}
use Rattle.jl_rely.proofs.Composed.{not_called, goes_waits}
use Rattle.jl_rely.proofs.Moving.{called_moves, moves_waits}
use Rattle.jl_rely.proofs.Alone.{lone_parts, waits_alone}
use Rattle.jl_protocol.specs.Proper.{IsProper, LawfulThroughout}
use Rattle.jl_protocol.specs.Tidy.{IsTidy}
use Rattle.jl_protocol.specs.Whole.{CodeAnswers, IsWhole}
use Rattle.jl_store.specs.Kinds.{PutsThis}
use Rattle.jl_store.specs.Renames.{IsNoRename, PutsInTurn}
use Rattle.jl_store.specs.Alone.{LeavesCode}
use Rattle.jl_store.specs.Checking.{Checks, UsesCode, MovesFor, IsChecking}
use Rattle.jl_store.specs.Checking.{function_path, code_path, code_temp}
use Rattle.jl_store.specs.Next.{ChecksAlone}
use Rattle.jl_store.specs.Warned.{IsOrderly}
use Rattle.jl_store.specs.declared.checks.CodeCheck.{CodeCheck}
use Rattle.jl_store.specs.declared.checks.CodeCheck.TheVariants as check
use Rattle.jl_store.specs.declared.checks.CodeFiles.{CodeFiles}
use Rattle.jl_store.proofs.StorePaths.{code_whole}
use Rattle.jl_store.proofs.InTurn.{turns_none, turns_moves, turns_then}
use Rattle.jl_store.proofs.CheckLemmas.{check_called, check_checks, lawful_code, check_frame}
use Rattle.jl_store.proofs.CheckLemmas.{checks_none}
use Rattle.jl_store.proofs.SkipCauses.{skips_held}
use Rattle.jl_store.proofs.CodeAlone.{lone_owed, check_alone}
use Rattle.jl_store.proofs.LoneMoves.{lone_untouched}
use Rattle.jl_store.proofs.checking.check_code.Given as given
use Rattle.jl_store.proofs.checking.check_code.Goals as goal

-- ---- no memory: nothing was done

-- without moves a check is proper, and owes nothing
none_called : (root : PathView) (m f token bytes : List ℕ) (v : FolderView)
    → Called (IsProper root) (PutsThis root (code_path root m f) bytes)
    (IsChecking (function_path root m f) (code_path root m f) (code_temp root m f token))
    (IsTidy root) Anywhere v v
none_called root m f token bytes v =
    not_called (IsProper root) (PutsThis root (code_path root m f) bytes)
    (IsChecking (function_path root m f) (code_path root m f) (code_temp root m f token))
    (IsTidy root) Anywhere v (λ s tidy. tt)

-- and so it is lawful, whatever the functions answer
none_lawful : (root : PathView) (m f token bytes : List ℕ) (v : FolderView) → v.token ≡ token
    → IsTrue (is_name m) → IsTrue (is_name f) → (answer : CodeAnswers)
    → LawfulThroughout root answer token (state v) (moved v v)
none_lawful root m f token bytes v same m_named f_named answer =
    subst (λ (u : List ℕ). LawfulThroughout root answer u (state v) (moved v v)) same
    (lawful_code root m f (code_path root m f) (record { formed = (m_named, f_named); is = refl })
    bytes _ v v (none_called root m f token bytes v) answer)

-- there was no memory for the paths, so nothing moved
pub returns-in_default-clause-called : goal.returns-in_default-clause-called
returns-in_default-clause-called g c = λ t.
    let memory = c.args.memory.now in
    none_called (root_of memory.location) memory.module c.args.name.now memory.token
    (code_text c.args.code.now c.args.line) (g.F.Folder.view c.args.folder.now)

-- which is lawful
pub returns-in_default-clause-lawful : goal.returns-in_default-clause-lawful
returns-in_default-clause-lawful g c = λ t answer.
    let memory = c.args.memory.now in
    none_lawful (root_of memory.location) memory.module c.args.name.now memory.token
    (code_text c.args.code.now c.args.line) (g.F.Folder.view c.args.folder.now)
    c.requires.token c.requires.module_name c.requires.function_name answer

-- tells nothing of the file
pub returns-in_default-clause-checks : goal.returns-in_default-clause-checks
returns-in_default-clause-checks g c = λ t.
    checks_none _ _ _ _ (g.F.Folder.view c.args.folder.now)

-- and puts no name in place
pub returns-in_default-clause-once : goal.returns-in_default-clause-once
returns-in_default-clause-once g c = λ t. turns_none _ (g.F.Folder.view c.args.folder.now)

-- there was none for the code's text, so nothing moved
pub returns-in_default-write_code-clause-called : goal.returns-in_default-write_code-clause-called
returns-in_default-write_code-clause-called g c = λ t.
    let memory = c.args.memory.now in
    none_called (root_of memory.location) memory.module c.args.name.now memory.token
    (code_text c.args.code.now c.args.line) (g.F.Folder.view c.args.folder.now)

-- which is lawful
pub returns-in_default-write_code-clause-lawful : goal.returns-in_default-write_code-clause-lawful
returns-in_default-write_code-clause-lawful g c = λ t answer.
    let memory = c.args.memory.now in
    none_lawful (root_of memory.location) memory.module c.args.name.now memory.token
    (code_text c.args.code.now c.args.line) (g.F.Folder.view c.args.folder.now)
    c.requires.token c.requires.module_name c.requires.function_name answer

-- tells nothing of the file
pub returns-in_default-write_code-clause-checks : goal.returns-in_default-write_code-clause-checks
returns-in_default-write_code-clause-checks g c = λ t.
    checks_none _ _ _ _ (g.F.Folder.view c.args.folder.now)

-- and puts no name in place
pub returns-in_default-write_code-clause-once : goal.returns-in_default-write_code-clause-once
returns-in_default-write_code-clause-once g c = λ t.
    turns_none _ (g.F.Folder.view c.args.folder.now)

-- ---- what following requires

-- the folder is that of a function
pub follow-requires-clause-of_function : goal.follow-requires-clause-of_function
follow-requires-clause-of_function g c =
    let memory = c.args.memory.now in (
      root_of memory.location,
      (
        memory.module,
        c.args.name.now,
        c.requires.module_name,
        c.requires.function_name,
        c.in-Ok.ensures.0,
      ),
    )

-- the names are a code's, and the text is whole for it
pub follow-requires-clause-of_file : goal.follow-requires-clause-of_file
follow-requires-clause-of_file g c =
    let memory = c.args.memory.now in
    let root = root_of memory.location in
    let code = code_of memory.module c.args.name.now in
    let text : _ ≡ code_text c.args.code.now c.args.line =
    c.as_slice.ensures ∙ c.in-Ok-write_code.ensures.text in
    let same = c.held-held.ensures.frame.token ∙ c.requires.token in (
      root,
      code,
      subst (λ (u : List ℕ). IsTemp root code u c.in-Ok.files.temp) (sym same) c.in-Ok.ensures.2,
      c.in-Ok.ensures.1,
      subst (IsWhole code) (sym text)
          (code_whole memory.module c.args.name.now c.args.code.now c.args.line
          c.requires.line (omega arith) c.requires.code c.requires.one_line),
    )

-- ---- the whole: the file was read, and then what it held was followed

module _ (g : given.Over) (c : goal.After-drop-files-4 g) where
  -- the function, and the token of the run
  abbrev root : PathView
  root = root_of c.args.memory.now.location

  abbrev module_name : List ℕ
  module_name = c.args.memory.now.module

  abbrev name : List ℕ
  name = c.args.name.now

  abbrev token : List ℕ
  token = c.args.memory.now.token

  -- its folder, and the code's final and temporary name
  abbrev home : PathView
  home = function_path root module_name name

  abbrev last : PathView
  last = code_path root module_name name

  abbrev temp : PathView
  temp = code_temp root module_name name token

  abbrev files : CodeFiles
  files = c.in-Ok.files

  -- the code, and the bytes of its file
  abbrev code : List ℕ
  code = c.args.code.now

  abbrev bytes : List ℕ
  bytes = code_text code c.args.line

  -- the folder before, between the reading and the following, and after
  abbrev old : FolderView
  old = g.F.Folder.view c.args.folder.now

  abbrev mid : FolderView
  mid = g.F.Folder.view c.held-held.new.folder

  abbrev new : FolderView
  new = g.F.Folder.view c.follow.new.folder

  -- the answer
  abbrev result : CodeCheck
  result = c.follow.result

  -- the reading leaves the token, which is the memory's
  token_is : mid.token ≡ token
  token_is = c.held-held.ensures.frame.token ∙ c.requires.token

  -- what was handed on are the bytes
  bytes_is : c.as_slice.result.now ≡ bytes
  bytes_is = c.as_slice.ensures ∙ c.in-Ok-write_code.ensures.text

  -- and they are whole for the code
  bytes_whole : IsWhole (code_of module_name name) c.as_slice.result.now
  bytes_whole =
      subst (IsWhole (code_of module_name name)) (sym bytes_is)
      (code_whole module_name name code c.args.line c.requires.line (omega arith) c.requires.code
      c.requires.one_line)

  -- the temporary name is one of the folder's run
  temp_is : IsTemp root (code_of module_name name) mid.token files.temp
  temp_is =
      subst (λ (u : List ℕ). IsTemp root (code_of module_name name) u files.temp) (sym token_is) c.in-Ok.ensures.2

  -- what was done after the reading
  stored : old.told
      → Called (IsProper root) (PutsThis root files.last bytes) (MovesFor files c.held-held.result)
      (IsTidy root) Anywhere mid new
  stored t =
      subst
      (λ (b : List ℕ).
      Called (IsProper root) (PutsThis root files.last b) (MovesFor files c.held-held.result)
      (IsTidy root) Anywhere mid new)
      bytes_is
      (c.follow.ensures.stores.called (c.held-held.ensures.frame.told t) root (code_of module_name name)
      (module_name, name, c.requires.module_name, c.requires.function_name, c.in-Ok.ensures.0)
      temp_is c.in-Ok.ensures.1 bytes_whole)

  -- reading waits, so the whole does what the following did
  called : old.told
      → Called (IsProper root) (PutsThis root last bytes) (IsChecking home last temp) (IsTidy root)
      Anywhere old new
  called t =
      check_called root module_name name token files c.in-Ok.ensures bytes c.held-held.result old mid new
      c.held-held.ensures.frame.token (c.held-held.ensures.waits t) (stored t)

  -- a fault is one of the reading or of the following
  frame : FolderAnswers ((result ≡ check.LoadFault) ⊎ (result ≡ check.StoreFault)) old new
  frame =
      check_frame c.held-held.result result old mid new c.follow.ensures.comes
      c.held-held.ensures.frame c.follow.ensures.stores.frame

  -- proper moves that put this code's text in place are lawful
  lawful : old.told → (answer : CodeAnswers)
      → LawfulThroughout root answer token (state old) (moved old new)
  lawful t answer =
      subst (λ (u : List ℕ). LawfulThroughout root answer u (state old) (moved old new))
      c.requires.token
      (lawful_code root module_name name last
      (record { formed = (c.requires.module_name, c.requires.function_name); is = refl })
      bytes _ old new (called t) answer)

  -- what was read and what was done then tell what the answer tells
  checks : old.told → Checks result home last temp code old new
  checks t =
      check_checks root module_name name token files c.in-Ok.ensures code c.held-held.result old mid new
      c.held-held.ensures.frame.token (c.held-held.ensures.waits t)
      (called_moves _ _ _ _ _ mid new (stored t)) (c.held-held.ensures.holds t)
      result c.follow.ensures.comes
      (c.follow.ensures.stores.ends (c.held-held.ensures.frame.told t))

  -- a skip has its cause in another's move, of a name that the check uses
  skipped : old.told → result ≡ check.Skipped → IsOrderly root old new
      → TouchedByOther token (UsesCode home last temp) (moved old new)
  skipped t is orderly =
      let told = c.held-held.ensures.frame.told t in
      let Touched = λ (u : List ℕ) (a b d : PathView).
      TouchedByOther u (UsesCode a b d) (moved old new) in
      let touched = skips_held root module_name name token files c.in-Ok.ensures code c.held-held.result
      old mid new c.held-held.ensures.frame.token (c.held-held.ensures.waits t)
      (c.follow.ensures.stores.goes told) (c.held-held.ensures.holds t)
      (λ tidy_mid all_mid pre.
      c.follow.ensures.skips told is root module_name name c.requires.module_name c.requires.function_name
      (c.in-Ok.ensures.0, c.in-Ok.ensures.1, temp_is) bytes_whole tidy_mid all_mid pre)
      orderly.0 orderly.1 in
      subst (λ (p : PathView). Touched token p last temp) c.in-Ok.ensures.0
      (subst (λ (p : PathView). Touched token files.folder p temp) c.in-Ok.ensures.1.is
      (subst (λ (p : PathView). Touched token files.folder files.last p) c.in-Ok.ensures.2.is
      (subst (λ (u : List ℕ). Touched u files.folder files.last files.temp) c.requires.token
      touched)))

  -- alone nothing is skipped, and without a fault the code is there
  alone : old.told → IsLone token (moved old new) → IsTidy root (state old)
      → (Rose old.faults new.faults → ⊥)
      → ChecksAlone result home last temp code bytes (state old) (state new)
  alone t lone tidy faultless =
      let told = c.held-held.ensures.frame.told t in
      let waits = c.held-held.ensures.waits t in
      let lone' = subst (λ (u : List ℕ). IsLone u (moved old new)) (sym c.requires.token) lone in
      let parts = lone_parts old mid new (goes_waits old mid c.held-held.ensures.frame.token waits)
      (c.follow.ensures.stores.goes told) lone' in
      let tidy_mid = subst (IsTidy root) (sym (waits_alone old mid waits parts.0)) tidy in
      let leaves = subst (λ (b : List ℕ). LeavesCode result files b (state mid) (state new)) bytes_is
      (c.follow.ensures.alone told parts.1 root module_name name c.requires.module_name c.requires.function_name
      (c.in-Ok.ensures.0, c.in-Ok.ensures.1, temp_is) tidy_mid) in
      let all = lone_owed (IsProper root) (PutsThis root last bytes) old.token
      (λ u s n owed. owed.0) (state old) (moved old new) lone' ((called t).owes tidy) in
      check_alone root module_name name token files c.in-Ok.ensures code bytes c.held-held.result result
      old mid new waits parts.0 c.follow.ensures.comes (c.held-held.ensures.holds t) leaves
      (λ is.
      lone_untouched token (UsesCode home last temp) (moved old new) lone
      (skipped t is (tidy, all)))
      (λ is. faultless (frame.faults.failed (inl is)))
      (λ is. faultless (frame.faults.failed (inr is)))

  -- the final name is put in place at most once: not by the reading, once by the following
  once : old.told → PutsInTurn (last ∷ []) old.token (moved old new)
  once t =
      let told = c.held-held.ensures.frame.told t in
      let same = c.held-held.ensures.frame.token in
      let waits = c.held-held.ensures.waits t in
      subst (λ (p : PathView). PutsInTurn (p ∷ []) old.token (moved old new)) c.in-Ok.ensures.1.is
      (turns_then [] (files.last ∷ []) old mid new (goes_waits old mid same waits)
      (c.follow.ensures.stores.goes told)
      (turns_moves [] IsNoRename (λ n none. none) old mid
      (moves_waits IsNoRename old mid same waits))
      (c.follow.ensures.stores.once told root (code_of module_name name) temp_is c.in-Ok.ensures.1 bytes_whole))

-- each clause is one of these facts
pub returns-clause-frame : goal.returns-clause-frame
returns-clause-frame g c = frame g c

pub returns-clause-called : goal.returns-clause-called
returns-clause-called g c = called g c

pub returns-clause-lawful : goal.returns-clause-lawful
returns-clause-lawful g c = lawful g c

pub returns-clause-checks : goal.returns-clause-checks
returns-clause-checks g c = checks g c

pub returns-clause-skipped : goal.returns-clause-skipped
returns-clause-skipped g c = skipped g c

pub returns-clause-alone : goal.returns-clause-alone
returns-clause-alone g c = alone g c

pub returns-clause-once : goal.returns-clause-once
returns-clause-once g c = once g c
