-- A cached call: the code is checked, and then the call is answered. Where memory was wanting before,
-- nothing is told of an answer.
use Rattle.std.proofs.Common.{◌≡◌, ◌⊎◌, inl, inr, ⊎_elim, ◌∙◌, ℕ, List, [], ◌++◌, Some, refl, sym}
use Rattle.std.proofs.Common.{subst, append-nil}
use Rattle.jl_text.specs.Paths.{PathView}
use Rattle.jl_text.specs.Counts.{Rose}
use Rattle.jl_folder.specs.Views.{FolderView, FolderKeeps, state, moved}
use Rattle.jl_streams.specs.Views.{HostView}
use Rattle.jl_folder.proofs.Frames.{answers_keeps, keeps_none, keeps_trans}
use Rattle.jl_entry.specs.Names.{root_of}
use Rattle.jl_entry.specs.Codes.{code_text}
use Rattle.jl_entry.specs.Entry.{Members}
use Rattle.jl_value.specs.Key.{key_of}
use Rattle.jl_rely.specs.Claims.{Called, GoesOn, Anywhere}
use Rattle.jl_rely.specs.Steps.{IsLone}
use Rattle.jl_rely.specs.Touches.{TouchedByOther}
use Rattle.jl_rely.proofs.Touched.{touched_as}
use Rattle.jl_rely.proofs.Alone.{lone_parts}
use Rattle.jl_rely.proofs.Moving.{moves_none}
use Rattle.jl_protocol.specs.Whole.{CodeAnswers}
use Rattle.jl_protocol.specs.Proper.{IsProper, LawfulThroughout}
use Rattle.jl_protocol.specs.Tidy.{IsTidy, IsSound}
use Rattle.jl_protocol.proofs.Before.{one_value, some_of}
use Rattle.jl_clear.proofs.DoingLemmas.{rose_later, later_rose}
use Rattle.jl_store.specs.Asked.{Asked, asked}
use Rattle.jl_store.specs.Cached.{IsAnswer, ComesBy, ComesTidy}
use Rattle.jl_store.specs.Calling.{IsBeforeOutput, PutsCall, PutsAnswer, PutsFiles, IsAnswering}
use Rattle.jl_store.specs.Calling.{IsWritingCall, IsCalling, IsOrdered, ClearsOnlyAnothers}
use Rattle.jl_store.specs.Trust.{IsTrusted}
use Rattle.jl_store.specs.Kinds.{PutsThis}
use Rattle.jl_store.specs.Checking.{Checks, IsChecking, UsesCode, function_path, code_path}
use Rattle.jl_store.specs.Checking.{code_temp}
use Rattle.jl_store.specs.Keeping.{IsMakingEntry, EntryPlace, entry_in}
use Rattle.jl_store.specs.Next.{entry_asked, ChecksAlone, LeavesNext, AreTimed}
use Rattle.jl_store.specs.Warned.{UsesCall, IsOrderly, Warns, WarnsOfOthers}
use Rattle.jl_store.specs.Parts.{HasFunction, WarnsFrom, check_warns}
use Rattle.jl_store.specs.Done.{AnswersOrWarns, DoesOrWarns}
use Rattle.jl_store.specs.Renames.{PutsInTurn}
use Rattle.jl_store.specs.Stretch.{point}
use Rattle.jl_store.specs.Task.{AnswerDid, IfAnswered, TaskDid, lasts_asked}
use Rattle.jl_store.specs.declared.memory.Warning.{Warning}
use Rattle.jl_store.specs.declared.checks.CodeCheck.{CodeCheck}
use Rattle.jl_store.specs.declared.cached.Cached.{Cached}
use Rattle.jl_store.specs.declared.cached.Cached.TheVariants.{NoMemory}
use Rattle.jl_store.proofs.Answering.{answer_under}
use Rattle.jl_store.proofs.Lawfully.{Lawfully, lawful_none, lawful_of, lawful_as, lawful_then}
use Rattle.jl_store.proofs.Lawfully.{trusted_later}
use Rattle.jl_store.proofs.Causing.{no_warnings, warns_then, warns_whole, orderly_later}
use Rattle.jl_store.proofs.Coming.{comes_later, tidy_later}
use Rattle.jl_store.proofs.CallMoves.{before_kinds, checking_kinds, answering_kinds}
use Rattle.jl_store.proofs.CallMoves.{clears_anothers}
use Rattle.jl_store.proofs.PartWarnings.{check_warned}
use Rattle.jl_store.proofs.DoneLemmas.{checked_done, all_done}
use Rattle.jl_store.proofs.Readiness.{checked_home, code_uses}
use Rattle.jl_store.proofs.LoneMoves.{lone_untouched}
use Rattle.jl_store.proofs.LoneCalls.{LeavesAnswer, lone_orderly, tidy_after, after_check}
use Rattle.jl_store.proofs.LoneCalls.{leaves_next, lone_warns, nothing_next}
use Rattle.jl_store.proofs.Orders.{ordered_later}
use Rattle.jl_store.proofs.TaskLemmas.{whole_did}
use Rattle.jl_store.proofs.Tasks.{puts_in_turn}
use Rattle.jl_store.proofs.Putting.{puts_none, checked_puts, whole_puts}
use Rattle.jl_store.proofs.cached.call_cached.Given as given
use Rattle.jl_store.proofs.cached.call_cached.Goals as goal

-- ---- its parts, told of the code that is asked for

-- the check of the code is lawful, as a part of a call that answers so
checked : (r : Cached) (e : EntryPlace) (answer : CodeAnswers) (bytes token : List ℕ)
    (old new : FolderView)
    → old.token ≡ token
    → Called (IsProper e.root)
    (PutsThis e.root (code_path e.root e.module_name e.function_name) bytes)
    (IsChecking (function_path e.root e.module_name e.function_name)
    (code_path e.root e.module_name e.function_name)
    (code_temp e.root e.module_name e.function_name token))
    (IsTidy e.root) Anywhere old new
    → LawfulThroughout e.root answer token (state old) (moved old new)
    → Lawfully e.root answer (IsCalling r e old.token) old new
checked r e answer bytes token old new mine called lawful =
    subst (λ (u : List ℕ). Lawfully e.root answer (IsCalling r e u) old new) (sym mine)
    (lawful_of e.root answer (IsCalling r e token) _ _ Anywhere old new (checking_kinds r e token)
    called
    (subst (λ (u : List ℕ). LawfulThroughout e.root answer u (state old) (moved old new))
    (sym mine) lawful))

-- and so is the rest of the call
answered : (r : Cached) (e : EntryPlace) (answer : CodeAnswers) (token : List ℕ)
    (old new : FolderView)
    → old.token ≡ token → Lawfully e.root answer (IsAnswering r e old.token) old new
    → Lawfully e.root answer (IsCalling r e token) old new
answered r e answer token old new same lawful =
    lawful_as e.root answer (IsCalling r e token) (IsAnswering r e token) old new
    (answering_kinds r e token)
    (subst (λ (u : List ℕ). Lawfully e.root answer (IsAnswering r e u) old new) same lawful)

-- the check of the code, told of the code and the line that are asked for
coded : (root home last temp : PathView) (text code : List ℕ) (line n : ℕ) (old new : FolderView)
    → text ≡ code → line ≡ n
    → Called (IsProper root) (PutsThis root last (code_text text line)) (IsChecking home last temp)
    (IsTidy root) Anywhere old new
    → Called (IsProper root) (PutsThis root last (code_text code n)) (IsChecking home last temp)
    (IsTidy root) Anywhere old new
coded root home last temp text code line n old new same one call =
    subst
    (λ (k : List ℕ).
    Called (IsProper root) (PutsThis root last (code_text k n)) (IsChecking home last temp)
    (IsTidy root) Anywhere old new)
    same
    (subst
    (λ (l : ℕ).
    Called (IsProper root) (PutsThis root last (code_text text l)) (IsChecking home last temp)
    (IsTidy root) Anywhere old new)
    one call)

-- for want of memory no part is told
ended : (answer : CodeAnswers) (a : Asked) (old new : FolderView) (host : HostView) (calls : ℕ)
    (ws ws' : List Warning)
    → Lawfully a.root answer (IsCalling NoMemory (entry_asked a) old.token) old new
    → FolderKeeps old new
    → TaskDid answer a NoMemory (point old host calls ws) (point new host calls ws')
ended answer a old new host calls ws ws' call keeps =
    record {
      call = call;
      folder = keeps;
      host = record { told = λ t. t; token = refl; processors = refl };
      counts = inl refl;
      parts = tt;
    }

-- ---- no memory for the code

-- nothing moved
pub returns-in_default-clause-lawful : goal.returns-in_default-clause-lawful
returns-in_default-clause-lawful g c = λ told. lawful_none _ _ _ (g.F.Folder.view c.args.folder.now)

-- nothing moved, so nothing was cleared
pub returns-in_default-clause-clears : goal.returns-in_default-clause-clears
returns-in_default-clause-clears g c = λ code is told.
    let memory = c.args.memory.now in
    let v = g.F.Folder.view c.args.folder.now in
    inl
    (moves_none
    (IsWritingCall NoMemory (entry_in memory c.args.name.now (key_of c.args.args.now)) v.token) v).own

-- no warning was given
pub returns-in_default-clause-warns : goal.returns-in_default-clause-warns
returns-in_default-clause-warns g c = λ code n is line.
    let v = g.F.Folder.view c.args.folder.now in
    no_warnings (asked c.args.memory.now c.args.name.now code n c.args.args.now)
    c.args.warnings.now.items c.args.warnings.now.items v v refl

-- alone, nothing was changed
pub returns-in_default-clause-alone : goal.returns-in_default-clause-alone
returns-in_default-clause-alone g c = λ told code n is line lone tidy rose.
    let s = state (g.F.Folder.view c.args.folder.now) in
    nothing_next (asked c.args.memory.now c.args.name.now code n c.args.args.now) s s
    (g.H.Host.view c.args.host.now)

-- alone and without a fault no warning is of this call, as none was given
pub returns-in_default-clause-quiet : goal.returns-in_default-clause-quiet
returns-in_default-clause-quiet g c = λ told lone sound rose.
    let lib = g.L.Library in
    let m = lib.loaded c.args.lib.now in
    let name = c.args.name.now in
    let v = g.F.Folder.view c.args.folder.now in
    let code = some_of (lib.code m name) c.requires.defined in
    let n = lib.line m name in
    lone_warns (asked c.args.memory.now name code.0 n c.args.args.now) lib.answer _ v v
    c.args.warnings.now.items c.args.warnings.now.items
    c.requires.token told (returns-in_default-clause-warns g c code.0 n code.1 refl)
    (returns-in_default-clause-lawful g c told) lone sound rose

-- without memory there was nothing to do
pub returns-in_default-clause-done : goal.returns-in_default-clause-done
returns-in_default-clause-done g c = λ code n is line told.
    ([], sym (append-nil c.args.warnings.now.items), tt)

-- nothing moved
pub returns-in_default-clause-frame : goal.returns-in_default-clause-frame
returns-in_default-clause-frame g c = keeps_none (g.F.Folder.view c.args.folder.now)

-- nothing was put in place
pub returns-in_default-clause-puts : goal.returns-in_default-clause-puts
returns-in_default-clause-puts g c = λ code n is line told.
    let a = asked c.args.memory.now c.args.name.now code n c.args.args.now in
    let v = g.F.Folder.view c.args.folder.now in
    puts_none NoMemory a (g.H.Host.view c.args.host.now) (PutsCall a)
    (IsCalling NoMemory (entry_asked a) v.token) v tt (λ tells. tt)

-- for want of memory no part is told
pub returns-in_default-clause-did : goal.returns-in_default-clause-did
returns-in_default-clause-did g c = λ code n is line told.
    let v = g.F.Folder.view c.args.folder.now in
    ended _ (asked c.args.memory.now c.args.name.now code n c.args.args.now) v v
    (g.H.Host.view c.args.host.now) _ _ _ (returns-in_default-clause-lawful g c told)
    (returns-in_default-clause-frame g c)

-- for want of memory nothing is told
pub returns-in_default-clause-once : goal.returns-in_default-clause-once
returns-in_default-clause-once g c = λ code n is line told. tt

-- ---- no memory for the head and the key

-- nothing moved
pub returns-in_default-wanted-clause-lawful : goal.returns-in_default-wanted-clause-lawful
returns-in_default-wanted-clause-lawful g c = λ told.
    lawful_none _ _ _ (g.F.Folder.view c.args.folder.now)

-- nothing moved, so nothing was cleared
pub returns-in_default-wanted-clause-clears : goal.returns-in_default-wanted-clause-clears
returns-in_default-wanted-clause-clears g c = λ code is told.
    let memory = c.args.memory.now in
    let v = g.F.Folder.view c.args.folder.now in
    inl
    (moves_none
    (IsWritingCall NoMemory (entry_in memory c.args.name.now (key_of c.args.args.now)) v.token) v).own

-- no warning was given
pub returns-in_default-wanted-clause-warns : goal.returns-in_default-wanted-clause-warns
returns-in_default-wanted-clause-warns g c = λ code n is line.
    let v = g.F.Folder.view c.args.folder.now in
    no_warnings (asked c.args.memory.now c.args.name.now code n c.args.args.now)
    c.args.warnings.now.items c.args.warnings.now.items v v refl

-- alone, nothing was changed
pub returns-in_default-wanted-clause-alone : goal.returns-in_default-wanted-clause-alone
returns-in_default-wanted-clause-alone g c = λ told code n is line lone tidy rose.
    let s = state (g.F.Folder.view c.args.folder.now) in
    nothing_next (asked c.args.memory.now c.args.name.now code n c.args.args.now) s s
    (g.H.Host.view c.args.host.now)

-- alone and without a fault no warning is of this call, as none was given
pub returns-in_default-wanted-clause-quiet : goal.returns-in_default-wanted-clause-quiet
returns-in_default-wanted-clause-quiet g c = λ told lone sound rose.
    let lib = g.L.Library in
    let m = lib.loaded c.args.lib.now in
    let name = c.args.name.now in
    let v = g.F.Folder.view c.args.folder.now in
    let code = some_of (lib.code m name) c.requires.defined in
    let n = lib.line m name in
    lone_warns (asked c.args.memory.now name code.0 n c.args.args.now) lib.answer _ v v
    c.args.warnings.now.items c.args.warnings.now.items
    c.requires.token told (returns-in_default-wanted-clause-warns g c code.0 n code.1 refl)
    (returns-in_default-wanted-clause-lawful g c told) lone sound rose

-- without memory there was nothing to do
pub returns-in_default-wanted-clause-done : goal.returns-in_default-wanted-clause-done
returns-in_default-wanted-clause-done g c = λ code n is line told.
    ([], sym (append-nil c.args.warnings.now.items), tt)

-- nothing moved
pub returns-in_default-wanted-clause-frame : goal.returns-in_default-wanted-clause-frame
returns-in_default-wanted-clause-frame g c = keeps_none (g.F.Folder.view c.args.folder.now)

-- nothing was put in place
pub returns-in_default-wanted-clause-puts : goal.returns-in_default-wanted-clause-puts
returns-in_default-wanted-clause-puts g c = λ code n is line told.
    let a = asked c.args.memory.now c.args.name.now code n c.args.args.now in
    let v = g.F.Folder.view c.args.folder.now in
    puts_none NoMemory a (g.H.Host.view c.args.host.now) (PutsCall a)
    (IsCalling NoMemory (entry_asked a) v.token) v tt (λ tells. tt)

-- for want of memory no part is told
pub returns-in_default-wanted-clause-did : goal.returns-in_default-wanted-clause-did
returns-in_default-wanted-clause-did g c = λ code n is line told.
    let v = g.F.Folder.view c.args.folder.now in
    ended _ (asked c.args.memory.now c.args.name.now code n c.args.args.now) v v
    (g.H.Host.view c.args.host.now) _ _ _ (returns-in_default-wanted-clause-lawful g c told)
    (returns-in_default-wanted-clause-frame g c)

-- for want of memory nothing is told
pub returns-in_default-wanted-clause-once : goal.returns-in_default-wanted-clause-once
returns-in_default-wanted-clause-once g c = λ code n is line told. tt

-- ---- the code was checked, and then there was no memory for its warning

-- the moves are those of the check, which are lawful
pub returns-clause-lawful : goal.returns-clause-lawful
returns-clause-lawful g c = λ told.
    let answer = g.L.Library.answer in
    let memory = c.args.memory.now in
    let e = entry_in memory c.args.name.now (key_of c.args.args.now) in
    checked NoMemory e answer _ memory.token (g.F.Folder.view c.args.folder.now)
    (g.F.Folder.view c.check_code-check.new.folder) c.requires.token
    (c.check_code-check.ensures.called told) (c.check_code-check.ensures.lawful told answer)

-- the check clears entries only where the file held another code
pub returns-clause-clears : goal.returns-clause-clears
returns-clause-clears g c = λ code is told.
    let lib = g.L.Library in
    let memory = c.args.memory.now in
    let name = c.args.name.now in
    let root = root_of memory.location in
    let home = function_path root memory.module name in
    let last = code_path root memory.module name in
    let old = g.F.Folder.view c.args.folder.now in
    let mid = g.F.Folder.view c.check_code-check.new.folder in
    let check = c.check_code-check.result in
    let text = c.as_str-text.result.now in
    let e = entry_in memory name (key_of c.args.args.now) in
    let same : text ≡ code =
    c.as_str-text.ensures
    ∙ one_value (lib.code (lib.loaded c.args.lib.now) name) c.in-Ok.code.text code
    c.in-Ok.ensures.code is in
    let checks = subst
    (λ (k : List ℕ).
    Checks check home last (code_temp root memory.module name memory.token) k old mid)
    same (c.check_code-check.ensures.checks told) in
    clears_anothers NoMemory e code old mid mid (c.check_code-check.ensures.called told).went
    (moves_none (IsAnswering NoMemory e mid.token) mid) check
    (subst
    (λ (u : List ℕ). Checks check home last (code_temp root memory.module name u) code old mid)
    (sym c.requires.token) checks)

-- there was no memory for the only warning
pub returns-clause-warns : goal.returns-clause-warns
returns-clause-warns g c = λ code n is line.
    no_warnings (asked c.args.memory.now c.args.name.now code n c.args.args.now)
    c.args.warnings.now.items c.warn_of_check.new.warnings.items (g.F.Folder.view c.args.folder.now)
    (g.F.Folder.view c.check_code-check.new.folder) c.in-Err.ensures.err

-- without memory nothing is told of what the check left
pub returns-clause-alone : goal.returns-clause-alone
returns-clause-alone g c = λ told code n is line lone tidy rose.
    nothing_next (asked c.args.memory.now c.args.name.now code n c.args.args.now)
    (state (g.F.Folder.view c.args.folder.now))
    (state (g.F.Folder.view c.check_code-check.new.folder)) (g.H.Host.view c.args.host.now)

-- alone and without a fault no warning is of this call, as none was given
pub returns-clause-quiet : goal.returns-clause-quiet
returns-clause-quiet g c = λ told lone sound rose.
    let lib = g.L.Library in
    let m = lib.loaded c.args.lib.now in
    let name = c.args.name.now in
    let code = some_of (lib.code m name) c.requires.defined in
    let n = lib.line m name in
    lone_warns (asked c.args.memory.now name code.0 n c.args.args.now) lib.answer _
    (g.F.Folder.view c.args.folder.now) (g.F.Folder.view c.check_code-check.new.folder)
    c.args.warnings.now.items c.warn_of_check.new.warnings.items
    c.requires.token told (returns-clause-warns g c code.0 n code.1 refl)
    (returns-clause-lawful g c told) lone sound rose

-- without memory there was nothing to do
pub returns-clause-done : goal.returns-clause-done
returns-clause-done g c = λ code n is line told.
    ([], c.in-Err.ensures.err ∙ sym (append-nil c.args.warnings.now.items), tt)

-- the frame is that of the check
pub returns-clause-frame : goal.returns-clause-frame
returns-clause-frame g c =
    answers_keeps (g.F.Folder.view c.args.folder.now)
    (g.F.Folder.view c.check_code-check.new.folder) c.check_code-check.ensures.frame

-- the check puts the text of this code in place
pub returns-clause-puts : goal.returns-clause-puts
returns-clause-puts g c = λ code n is line told.
    let lib = g.L.Library in
    let memory = c.args.memory.now in
    let name = c.args.name.now in
    let root = root_of memory.location in
    let a = asked memory name code n c.args.args.now in
    let old = g.F.Folder.view c.args.folder.now in
    let mid = g.F.Folder.view c.check_code-check.new.folder in
    let same =
    c.as_str-text.ensures
    ∙ one_value (lib.code (lib.loaded c.args.lib.now) name) c.in-Ok.code.text code
    c.in-Ok.ensures.code is in
    checked_puts NoMemory a (g.H.Host.view c.args.host.now) old mid c.requires.token
    (coded root (function_path root memory.module name) (code_path root memory.module name)
    (code_temp root memory.module name memory.token) c.as_str-text.result.now code
    c.in-Ok.code.line n old mid same (sym c.in-Ok.ensures.line ∙ line)
    (c.check_code-check.ensures.called told))
    tt (λ tells. tt)

-- for want of memory no part is told, but that the check is lawful
pub returns-clause-did : goal.returns-clause-did
returns-clause-did g c = λ code n is line told.
    ended _ (asked c.args.memory.now c.args.name.now code n c.args.args.now)
    (g.F.Folder.view c.args.folder.now) (g.F.Folder.view c.check_code-check.new.folder)
    (g.H.Host.view c.args.host.now) _ _ _ (returns-clause-lawful g c told)
    (returns-clause-frame g c)

-- for want of memory nothing is told
pub returns-clause-once : goal.returns-clause-once
returns-clause-once g c = λ code n is line told. tt

-- ---- the code was checked, and then the call was answered

module _ (g : given.Over) (c : goal.After-drop-code-in-Ok-warn_of_check g) where
  -- the library's meaning
  abbrev answer : CodeAnswers
  answer = g.L.Library.answer

  -- the function, and its arguments
  abbrev root : PathView
  root = root_of c.args.memory.now.location

  abbrev module_name : List ℕ
  module_name = c.args.memory.now.module

  abbrev name : List ℕ
  name = c.args.name.now

  abbrev ps : Members
  ps = c.args.args.now

  -- the place of the entry
  abbrev e : EntryPlace
  e = entry_in c.args.memory.now name (key_of ps)

  -- the function's folder, and its code's final and temporary name
  abbrev home : PathView
  home = function_path root module_name name

  abbrev last : PathView
  last = code_path root module_name name

  abbrev temp : PathView
  temp = code_temp root module_name name c.args.memory.now.token

  -- what the library says of the function
  abbrev IsItsCode : List ℕ → Type 0
  IsItsCode code = g.L.Library.code (g.L.Library.loaded c.args.lib.now) name ≡ Some code

  abbrev IsItsLine : ℕ → Type 0
  IsItsLine n = g.L.Library.line (g.L.Library.loaded c.args.lib.now) name ≡ n

  -- the call that is asked for
  abbrev it : (code : List ℕ) → ℕ → Asked
  it code n = asked c.args.memory.now name code n ps

  -- the folder before, between the check and the answer, and after
  abbrev old : FolderView
  old = g.F.Folder.view c.args.folder.now

  abbrev mid : FolderView
  mid = g.F.Folder.view c.check_code-check.new.folder

  abbrev new : FolderView
  new = g.F.Folder.view c.answered.new.folder

  -- the warnings at the same moments
  abbrev ws : List Warning
  ws = c.args.warnings.now.items

  abbrev ws1 : List Warning
  ws1 = c.warn_of_check.new.warnings.items

  abbrev ws2 : List Warning
  ws2 = c.answered.new.warnings.items

  -- the host before and after
  abbrev host : HostView
  host = g.H.Host.view c.args.host.now

  abbrev host' : HostView
  host' = g.H.Host.view c.answered.new.host

  -- what the check and the whole answered
  abbrev check : CodeCheck
  check = c.check_code-check.result

  abbrev r : Cached
  r = c.answered.result

  -- the code that was checked is the code that is asked for, and so is its line
  same : (code : List ℕ) → IsItsCode code → c.as_str-text.result.now ≡ code
  same code is =
      c.as_str-text.ensures
      ∙ one_value (g.L.Library.code (g.L.Library.loaded c.args.lib.now) name) c.in-Ok.code.text code
      c.in-Ok.ensures.code is

  same_line : (n : ℕ) → IsItsLine n → c.in-Ok.code.line ≡ n
  same_line n line = sym c.in-Ok.ensures.line ∙ line

  -- the folder goes on through the check, and through the rest
  first : old.told → GoesOn old mid
  first t = (c.check_code-check.ensures.called t).went

  second : mid.told → GoesOn mid new
  second t = (c.answered.ensures.lawful t).went

  told' : old.told → mid.told
  told' t = c.check_code-check.ensures.frame.told t

  -- the check is lawful, as a part of the whole
  check_lawful : old.told → Lawfully root answer (IsCalling r e old.token) old mid
  check_lawful t =
      checked r e answer _ c.args.memory.now.token old mid c.requires.token
      (c.check_code-check.ensures.called t) (c.check_code-check.ensures.lawful t answer)

  -- and so is the rest: their moves compose
  lawful : old.told → Lawfully root answer (IsCalling r e old.token) old new
  lawful t =
      lawful_then root answer (IsCalling r e old.token) old mid new (check_lawful t)
      (answered r e answer old.token mid new c.check_code-check.ensures.frame.token
      (c.answered.ensures.lawful (told' t)))

  -- what the check tells, it tells of the code that is asked for
  checks : (code : List ℕ) → IsItsCode code → old.told → Checks check home last temp code old mid
  checks code is t =
      subst (λ (k : List ℕ). Checks check home last temp k old mid) (same code is)
      (c.check_code-check.ensures.checks t)

  -- and what it puts in place is the text of that code
  check_puts : (code : List ℕ) (n : ℕ) → IsItsCode code → IsItsLine n → old.told
      → Called (IsProper root) (PutsThis root last (code_text code n)) (IsChecking home last temp)
      (IsTidy root) Anywhere old mid
  check_puts code n is line t =
      coded root home last temp c.as_str-text.result.now code c.in-Ok.code.line n old mid
      (same code is) (same_line n line) (c.check_code-check.ensures.called t)

  -- entries are cleared by the check alone, and only where the file held another code
  clears : (code : List ℕ) → IsItsCode code → old.told → ClearsOnlyAnothers r e code old new
  clears code is t =
      let rest = c.answered.ensures.lawful (told' t) in
      clears_anothers r e code old mid new (first t) (record { went = rest.went; own = rest.own })
      check
      (subst
      (λ (u : List ℕ). Checks check home last (code_temp root module_name name u) code old mid)
      (sym c.requires.token) (checks code is t))

  -- the answer is that of the rest, and what it rests on holds where it holds of the whole
  answers : (code : List ℕ) → IsItsCode code
      → IsAnswer r (answer code ps) (IsTrusted root answer old new)
  answers code is =
      let whole = IsTrusted root answer old new in
      subst (λ (k : List ℕ). IsAnswer r (answer k ps) whole) (same code is)
      (answer_under r (answer c.as_str-text.result.now ps) (IsTrusted root answer mid new) whole
      (λ (trust : whole).
      trusted_later root answer old mid new (IsCalling r e old.token) (check_lawful trust.0)
      (second (told' trust.0)) (told' trust.0) trust)
      c.answered.ensures.answer)

  -- the warnings of the check come first, and then those of the rest, which finds the folder there
  warns : (code : List ℕ) (n : ℕ) → IsItsCode code → IsItsLine n → Warns (it code n) ws ws2 old new
  warns code n is line =
      let a = it code n in
      let mine = c.check_code-check.ensures in
      let want = c.in-Ok-wanted in
      warns_whole a old new ws ws2
      (warns_then a old mid new c.requires.token (answers_keeps old mid mine.frame)
      c.answered.ensures.frame first second Anywhere (HasFunction a) ws ws1 ws2
      (λ t orderly ready.
      checked_home a old mid (first t) c.requires.token check c.as_str-text.result.now orderly
      (mine.checks t) (λ skipped. mine.skipped t skipped orderly) mine.frame.faults.failed
      c.in-Ok-warn_of_check.ensures.memory) (
        check_warns check name want.want.key,
        c.in-Ok-warn_of_check.ensures.ok,
        check_warned a Anywhere old mid check want.want.key want.ensures.key
            (λ skipped t orderly ready.
            touched_as c.args.memory.now.token (UsesCode home last temp) (UsesCall a) (code_uses a)
            (moved old mid) (mine.skipped t skipped orderly))
            mine.frame.faults.failed,
      )
      (subst (λ (k : List ℕ). WarnsFrom (HasFunction (it k n)) (it k n) ws1 ws2 mid new)
      (same code is) (c.answered.ensures.warns n)))

  -- alone, the check leaves a tidy state with the function's folder, in which the rest answers
  alone : old.told → (code : List ℕ) (n : ℕ) → IsItsCode code → IsItsLine n
      → IsLone old.token (moved old new) → IsTidy root (state old)
      → (Rose old.faults new.faults → ⊥)
      → (duration : ℕ) × (moment : ℕ)
      × LeavesNext r (it code n) duration moment (state old) (state new)
      × (host.told → AreTimed r duration moment host)
  alone told code n is line lone tidy rose =
      let a = it code n in
      let token = c.args.memory.now.token in
      let mine = c.check_code-check.ensures in
      let frame = mine.frame in
      let text = c.as_str-text.result.now in
      let lones = lone_parts old mid new (first told) (second (told' told)) lone in
      let lone' = subst (λ (u : List ℕ). IsLone u (moved old mid)) c.requires.token lones.0 in
      let rose' = λ (r : Rose old.faults mid.faults).
      rose (rose_later old.faults mid.faults new.faults r c.answered.ensures.frame.later) in
      let orderly : IsOrderly root old mid = lone_orderly root _ _ old mid (λ t s m owed. owed.0)
      (mine.called told) lones.0 tidy in
      let ready : HasFunction a (state mid) =
      ⊎_elim (λ (there : HasFunction a (state mid)). there)
      (λ (why : TouchedByOther token (UsesCall a) (moved old mid) ⊎ Rose old.faults mid.faults).
      ⊎_elim
      (λ (touched : TouchedByOther token (UsesCall a) (moved old mid)).
      absurd (lone_untouched token (UsesCall a) (moved old mid) lone' touched))
      (λ (r : Rose old.faults mid.faults). absurd (rose' r)) why)
      (checked_home a old mid (first told) c.requires.token check text orderly (mine.checks told)
      (λ skipped. mine.skipped told skipped orderly) frame.faults.failed
      c.in-Ok-warn_of_check.ensures.memory)
      in
      let checked_alone = subst
      (λ (k : List ℕ). ChecksAlone check home last temp k (code_text k n) (state old) (state mid))
      (same code is)
      (subst
      (λ (k : ℕ). ChecksAlone check home last temp text (code_text text k) (state old) (state mid))
      (same_line n line) (mine.alone told lone' tidy rose'))
      in
      let left = subst (λ (k : List ℕ). LeavesAnswer r (it k n) (state mid) (state new) host)
      (same code is)
      (c.answered.ensures.alone (told' told) n lones.1
      (tidy_after root old mid (first told) orderly, ready)
      (λ r. rose (later_rose old.faults mid.faults new.faults frame.faults.later r)))
      in (
        left.0,
        left.1,
        leaves_next a r left.0 left.1 (state old) (state mid) (state new)
            (after_check a check (state old) (state mid) c.in-Ok-warn_of_check.ensures.memory
            (λ failed. rose' (frame.faults.failed failed)) checked_alone)
            left.2,
        left.3,
      )

  -- where the answer comes from is told by the rest, and stands in the whole
  looks : (code : List ℕ) (n : ℕ) → IsItsCode code → IsItsLine n → ComesBy r (it code n) old new
  looks code n is line =
      comes_later (it code n) old mid new (answers_keeps old mid c.check_code-check.ensures.frame)
      c.answered.ensures.frame first second r
      (subst (λ (k : List ℕ). ComesBy r (it k n) mid new) (same code is)
      (c.answered.ensures.looks n))

  -- and so is what it found in tidy states
  tidy_looks : (code : List ℕ) (n : ℕ) → IsItsCode code → IsItsLine n → old.told
      → IsOrderly root old new → ComesTidy r (it code n) old new
  tidy_looks code n is line t orderly =
      tidy_later (it code n) old mid new (answers_keeps old mid c.check_code-check.ensures.frame)
      c.answered.ensures.frame first second t r
      (subst (λ (k : List ℕ). ComesTidy r (it k n) mid new) (same code is)
      (c.answered.ensures.tidy (told' t) n
      (orderly_later old mid new (first t) (second (told' t)) root orderly)))

  -- alone and without a fault no cause of a warning is there
  quiet : old.told → IsLone old.token (moved old new) → IsSound root answer (state old)
      → (Rose old.faults new.faults → ⊥) → WarnsOfOthers ws ws2
  quiet told lone sound rose =
      let lib = g.L.Library in
      let code = some_of (lib.code (lib.loaded c.args.lib.now) name) c.requires.defined in
      let n = lib.line (lib.loaded c.args.lib.now) name in
      lone_warns (it code.0 n) answer _ old new ws ws2 c.requires.token told
      (warns code.0 n code.1 refl) (lawful told) lone sound rose

  -- the check was done or warned of, and so was each part of the rest
  done : (code : List ℕ) (n : ℕ) → IsItsCode code → IsItsLine n → old.told
      → DoesOrWarns r (it code n) ws ws2 old new
  done code n is line t =
      let a = it code n in
      let key = c.in-Ok-wanted.want.key in
      let rest = c.answered.ensures.warns n in
      all_done a old mid new (first t) (second (told' t)) r ws ws1 ws2 (check_warns check name key)
      rest.0 c.in-Ok-warn_of_check.ensures.ok rest.1
      (checked_done a old mid c.requires.token check key c.in-Ok-warn_of_check.ensures.memory
      (checks code is t))
      (subst (λ (k : List ℕ). AnswersOrWarns r (it k n) (state mid) (moved mid new) ws1 ws2)
      (same code is) (c.answered.ensures.done (told' t) n))

  -- the frames of the check and of the rest compose
  frame : FolderKeeps old new
  frame =
      keeps_trans old mid new (answers_keeps old mid c.check_code-check.ensures.frame)
      c.answered.ensures.frame

  -- the check puts the text of this code in place, and the rest the texts of this entry
  puts : (code : List ℕ) (n : ℕ) → IsItsCode code → IsItsLine n → old.told
      → PutsFiles r (it code n) host old new
  puts code n is line t =
      whole_puts r (it code n) host old mid new c.requires.token
      c.check_code-check.ensures.frame.token (check_puts code n is line t)
      (subst (λ (k : List ℕ). PutsAnswer r (it k n) host mid new) (same code is)
      (c.answered.ensures.puts (told' t) n))

  -- the check comes before the output, so the order is that of the rest
  order : old.told → IsOrdered r (IsBeforeOutput e old.token) e old.token (moved old new)
  order t =
      let called = c.check_code-check.ensures.called t in
      ordered_later (IsMakingEntry e) (IsBeforeOutput e old.token) (IsChecking home last temp) e
      (λ n kind.
      subst (λ (u : List ℕ). IsBeforeOutput e u n) (sym c.requires.token)
      (before_kinds e c.args.memory.now.token n kind))
      (λ n kind. inr (inr kind))
      old mid new (record { went = called.went; own = called.own }) (second (told' t)) r
      (c.answered.ensures.order (told' t))

  -- its parts are the check of the code that is asked for, and the rest
  did : (code : List ℕ) (n : ℕ) → IsItsCode code → IsItsLine n → old.told
      → TaskDid answer (it code n) r (point old host (g.L.Library.calls c.args.lib.now) ws)
      (point new host' (g.L.Library.calls c.answered.new.lib) ws2)
  did code n is line told =
      let a = it code n in
      let calls = g.L.Library.calls c.args.lib.now in
      let calls' = g.L.Library.calls c.answered.new.lib in
      let mine = c.check_code-check.ensures in
      let text = c.as_str-text.result.now in
      record {
        call = lawful told;
        folder = frame;
        host = c.answered.ensures.host;
        counts = c.answered.ensures.calls;
        parts = whole_did answer a old mid new host host' calls calls' ws ws1 ws2 told' r check
            (record {
              answers = mine.frame;
              remembers = c.in-Ok-warn_of_check.ensures.memory;
              call = check_puts code n is line told;
              once = mine.once told;
              checks = checks code is told;
              skipped = λ skipped orderly. mine.skipped told skipped orderly;
              alone = λ lone tidy rose.
                  subst
                  (λ (k : List ℕ).
                  ChecksAlone check home last temp k (code_text k n) (state old) (state mid))
                  (same code is)
                  (subst
                  (λ (k : ℕ).
                  ChecksAlone check home last temp text (code_text text k) (state old) (state mid))
                  (same_line n line) (mine.alone told lone tidy rose));
              warns = subst (λ (k : List ℕ). ws1 ≡ ws ++ check_warns check name (record { 0 = k }))
                  c.in-Ok-wanted.ensures.key c.in-Ok-warn_of_check.ensures.ok;
              calls = refl;
              clock = refl;
            })
            (subst
            (λ (k : List ℕ).
            IfAnswered r
            (AnswerDid answer (it k n) r (point mid host calls ws1) (point new host' calls' ws2)))
            (same code is) (c.answered.ensures.did (told' told) n));
      }

  -- each part puts its names in place once, one after the other
  once : (code : List ℕ) (n : ℕ) → IsItsCode code → IsItsLine n → old.told
      → IfAnswered r (PutsInTurn (lasts_asked r (it code n)) old.token (moved old new))
  once code n is line told =
      let lib = g.L.Library in
      puts_in_turn answer (it code n) (point old host (lib.calls c.args.lib.now) ws)
      (point new host' (lib.calls c.answered.new.lib) ws2) r (did code n is line told).parts

-- each clause is one of these facts
pub returns-in-Ok-warn_of_check-clause-lawful : goal.returns-in-Ok-warn_of_check-clause-lawful
returns-in-Ok-warn_of_check-clause-lawful g c = lawful g c

pub returns-in-Ok-warn_of_check-clause-clears : goal.returns-in-Ok-warn_of_check-clause-clears
returns-in-Ok-warn_of_check-clause-clears g c = clears g c

pub returns-in-Ok-warn_of_check-clause-answer : goal.returns-in-Ok-warn_of_check-clause-answer
returns-in-Ok-warn_of_check-clause-answer g c = answers g c

pub returns-in-Ok-warn_of_check-clause-warns : goal.returns-in-Ok-warn_of_check-clause-warns
returns-in-Ok-warn_of_check-clause-warns g c = warns g c

pub returns-in-Ok-warn_of_check-clause-alone : goal.returns-in-Ok-warn_of_check-clause-alone
returns-in-Ok-warn_of_check-clause-alone g c = alone g c

pub returns-in-Ok-warn_of_check-clause-looks : goal.returns-in-Ok-warn_of_check-clause-looks
returns-in-Ok-warn_of_check-clause-looks g c = looks g c

pub returns-in-Ok-warn_of_check-clause-tidy : goal.returns-in-Ok-warn_of_check-clause-tidy
returns-in-Ok-warn_of_check-clause-tidy g c = tidy_looks g c

pub returns-in-Ok-warn_of_check-clause-quiet : goal.returns-in-Ok-warn_of_check-clause-quiet
returns-in-Ok-warn_of_check-clause-quiet g c = quiet g c

pub returns-in-Ok-warn_of_check-clause-done : goal.returns-in-Ok-warn_of_check-clause-done
returns-in-Ok-warn_of_check-clause-done g c = done g c

pub returns-in-Ok-warn_of_check-clause-frame : goal.returns-in-Ok-warn_of_check-clause-frame
returns-in-Ok-warn_of_check-clause-frame g c = frame g c

pub returns-in-Ok-warn_of_check-clause-puts : goal.returns-in-Ok-warn_of_check-clause-puts
returns-in-Ok-warn_of_check-clause-puts g c = puts g c

pub returns-in-Ok-warn_of_check-clause-order : goal.returns-in-Ok-warn_of_check-clause-order
returns-in-Ok-warn_of_check-clause-order g c = order g c

pub returns-in-Ok-warn_of_check-clause-did : goal.returns-in-Ok-warn_of_check-clause-did
returns-in-Ok-warn_of_check-clause-did g c = did g c

pub returns-in-Ok-warn_of_check-clause-once : goal.returns-in-Ok-warn_of_check-clause-once
returns-in-Ok-warn_of_check-clause-once g c = once g c
