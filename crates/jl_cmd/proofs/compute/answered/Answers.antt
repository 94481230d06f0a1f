-- A call of a function that is defined: the cache answers, and its answer is made a text. What is
-- told
-- of the call is told by the cached call; a value and an error differ in the text alone.
use Rattle.std.proofs.Common.{◌≡◌, ℕ, List, Some, refl, sym, subst}
use Rattle.jl_text.specs.Paths.{PathView}
use Rattle.jl_text.specs.Counts.{Rose}
use Rattle.jl_folder.specs.declared.moves.Move.{Move}
use Rattle.jl_folder.specs.Views.{FolderView, state, moved}
use Rattle.hex.specs.Hex.{encode_lower}
use Rattle.jl_value.specs.Form.{tree_of}
use Rattle.jl_value.specs.Key.{key_of}
use Rattle.jl_rely.specs.Steps.{IsLone}
use Rattle.jl_entry.specs.Names.{root_of}
use Rattle.jl_protocol.specs.Whole.{CodeAnswers}
use Rattle.jl_protocol.specs.Tidy.{IsSound}
use Rattle.jl_store.specs.Asked.{Asked, asked}
use Rattle.jl_store.specs.Trust.{IsTrusted}
use Rattle.jl_store.specs.declared.memory.Memory.{Memory}
use Rattle.jl_store.specs.declared.memory.Warning.{Warning}
use Rattle.jl_store.specs.declared.cached.Cached.{Cached}
use Rattle.jl_store.specs.declared.cached.Cached.TheVariants.{Hit, Computed as Made, Error}
use Rattle.jl_store.proofs.Answering.{answer_under}
use Rattle.jl_store.proofs.Lawfully.{lawful_as}
use Rattle.jl_cmd.specs.declared.computed.Computed.{Computed}
use Rattle.jl_cmd.specs.Caches.{CallsLawfully, IsOfCall}
use Rattle.jl_cmd.specs.Calling.{IsStatusOf, LeavesAsked}
use Rattle.jl_cmd.specs.Coming.{ComesAsked, ComputedWith, IsComputed, IsOutputOf}
use Rattle.jl_cmd.specs.Course.{Stretch, meanings, stretch}
use Rattle.jl_cmd.specs.Output.{Output, prints, fails}
use Rattle.jl_cmd.proofs.CacheLemmas.{defined_named}
use Rattle.jl_cmd.proofs.CallingLemmas.{asked_leaves, printed_at, failed_at}
use Rattle.jl_cmd.proofs.ComingLemmas.{printed_with, failed_with, done_but}
use Rattle.jl_cmd.proofs.IdleLemmas.{printed_refuses, failed_refuses}
use Rattle.jl_cmd.proofs.TaskEnds.{printed_of, failed_of}
use Rattle.jl_cmd.proofs.compute.answered.Given as given
use Rattle.jl_cmd.proofs.compute.answered.Goals as goal
use Rattle.jl_cmd.proofs.compute.answered.Goals.{After-call_cached}

-- what the module gives a code is a name
pub call_cached-requires-clause-function_name : goal.call_cached-requires-clause-function_name
call_cached-requires-clause-function_name g c =
    defined_named g.L.Library.code g.met.L.Library.named _ _ c.requires.defined

-- ---- what the cached call tells, whatever it answered

module _ (g : given.Over) (c : After-call_cached g) where
  -- the cache, and the function in it
  abbrev memory : Memory
  memory = c.args.memory.now

  abbrev root : PathView
  root = root_of memory.location

  abbrev name : List ℕ
  name = c.args.name.now

  abbrev answer : CodeAnswers
  answer = g.L.Library.answer

  -- what it answered
  abbrev r : Cached
  r = c.call_cached.result

  -- the folder at the entry and at the end
  abbrev old : FolderView
  old = g.F.Folder.view c.args.folder.now

  abbrev new : FolderView
  new = g.F.Folder.view c.call_cached.new.folder

  -- how the call went
  abbrev v : Stretch
  v =
      let lib = g.L.Library in
      stretch (meanings lib.code lib.line lib.fault lib.answer) (lib.calls c.args.lib.now)
      (lib.calls c.call_cached.new.lib) old new (g.H.Host.view c.args.host.now)
      (g.H.Host.view c.call_cached.new.host)

  -- the warnings before and after
  abbrev ws : List Warning
  ws = c.args.warnings.now.items

  abbrev ws' : List Warning
  ws' = c.call_cached.new.warnings.items

  -- the module gives the function this code, on this line
  abbrev IsItsCode : List ℕ → Type 0
  IsItsCode code = g.L.Library.code (g.L.Library.loaded c.args.lib.now) name ≡ Some code

  abbrev IsItsLine : ℕ → Type 0
  IsItsLine n = g.L.Library.line (g.L.Library.loaded c.args.lib.now) name ≡ n

  -- and then this is what is asked for
  abbrev it : List ℕ → ℕ → Asked
  it code n = asked memory name code n c.args.args.now

  -- it moves as a call of this function may
  lawful : old.told
      → CallsLawfully memory.location answer (IsOfCall root memory.module name old.token) old new
  lawful told =
      lawful_as root answer (IsOfCall root memory.module name old.token) _ old new
      (λ (m : Move) k. (encode_lower (key_of c.args.args.now), r, k))
      (c.call_cached.ensures.lawful told)

  -- alone, it leaves what was asked for, at the status of its answer
  leaves : (n : ℕ) → IsStatusOf r n → old.told → (code : List ℕ) (line : ℕ) → IsItsCode code
      → IsItsLine line → IsLone old.token (moved old new) → IsSound root answer (state old)
      → (Rose old.faults new.faults → ⊥) → LeavesAsked (it code line) v n
  leaves n of told code line is at lone sound rose =
      let cached = c.call_cached.ensures in
      asked_leaves memory.location (it code line) _ v r n told of (cached.answer code is)
      cached.calls
      (cached.lawful told) lone sound (cached.alone told code line is at lone sound.tidy rose)

  -- its answer, of which this output is computed, came about so
  comes : (o : Output) (n : ℕ) (computed : Computed) → IsOutputOf r o → o.status ≡ n
      → (code : List ℕ) (line : ℕ) → IsItsCode code → IsItsLine line → IsComputed o computed
      → ComesAsked (it code line) v (ComputedWith computed ws ws') n
  comes o n computed of at code line is line_is put =
      let cached = c.call_cached.ensures in
      let warned = cached.warns code line is line_is in
      record {
        result = r;
        output = o;
        gives = of;
        status = at;
        warnings = warned.0;
        caused = warned.2;
        puts = (put, warned.1);
        answers =
            answer_under r (answer code c.args.args.now) (IsTrusted root answer old new) ⊥
            (λ none. absurd none) (cached.answer code is);
        counts = cached.calls;
        comes = cached.looks code line is line_is;
        tidy = cached.tidy code line is line_is;
        done = λ told.
            done_but r (it code line) old new ws ws' warned.0 warned.1
            (cached.done code line is line_is told);
        moves = λ told. (cached.lawful told).own;
        clears = cached.clears code is;
        files = cached.puts code line is line_is;
        order = cached.order;
        clock = cached.clock;
      }

  -- what is said of an answer holds of the one that it is
  of_it : (Of : Cached → Type 0) (answered : Cached) → r ≡ answered → Of answered → Of r
  of_it Of answered is of = subst Of (sym is) of

-- ---- a value that was found

-- its moves are those of the cached call
pub returns-in-Hit-clause-lawful : goal.returns-in-Hit-clause-lawful
returns-in-Hit-clause-lawful g c =
    lawful g (goal.at.returns-in-Hit-clause-lawful g c).After-call_cached

-- alone, it leaves what the cached call does
pub returns-in-Hit-clause-alone : goal.returns-in-Hit-clause-alone
returns-in-Hit-clause-alone g c = λ told code n is line lone sound rose.
    let p = (goal.at.returns-in-Hit-clause-alone g c).After-call_cached in
    let status = of_it g p (λ (r : Cached). IsStatusOf r 0) (Hit c.in-Hit.value) c.in-Hit.is refl in
    printed_at c.printed.result _ c.printed.ensures.printed
    (leaves g p 0 status told code n is line lone sound rose)

-- the text that was printed is of the value that was found
pub returns-in-Hit-clause-comes : goal.returns-in-Hit-clause-comes
returns-in-Hit-clause-comes g c = λ code n is line.
    let p = (goal.at.returns-in-Hit-clause-comes g c).After-call_cached in
    let o = prints (tree_of c.in-Hit.value) in
    let of = of_it g p (λ (r : Cached). IsOutputOf r o) (Hit c.in-Hit.value) c.in-Hit.is refl in
    printed_with o c.printed.result _ c.printed.ensures.computes c.printed.ensures.printed
    (comes g p o 0 c.printed.result of refl code n is line)

-- so the call did the one task, by the parts of the cached call
pub returns-in-Hit-clause-task : goal.returns-in-Hit-clause-task
returns-in-Hit-clause-task g c = λ code n is line told.
    let r = Hit c.in-Hit.value in (
      r,
      printed_of r (prints (tree_of c.in-Hit.value)) c.printed.result c.printed.ensures.computes
          c.printed.ensures.printed (λ o same. same),
      c.in-Hit.ensures.did code n is line told,
    )

-- a text that is printed is no refusal
pub returns-in-Hit-clause-idle : goal.returns-in-Hit-clause-idle
returns-in-Hit-clause-idle g c =
    λ refusal. absurd (printed_refuses c.printed.result c.printed.ensures.printed refusal)

-- ---- a value that was computed

-- its moves are those of the cached call
pub returns-in-Computed-clause-lawful : goal.returns-in-Computed-clause-lawful
returns-in-Computed-clause-lawful g c =
    lawful g (goal.at.returns-in-Computed-clause-lawful g c).After-call_cached

-- alone, it leaves what the cached call does
pub returns-in-Computed-clause-alone : goal.returns-in-Computed-clause-alone
returns-in-Computed-clause-alone g c = λ told code n is line lone sound rose.
    let p = (goal.at.returns-in-Computed-clause-alone g c).After-call_cached in
    let status =
    of_it g p (λ (r : Cached). IsStatusOf r 0) (Made c.in-Computed.value) c.in-Computed.is refl in
    printed_at c.printed-in-Computed.result _ c.printed-in-Computed.ensures.printed
    (leaves g p 0 status told code n is line lone sound rose)

-- the text that was printed is of the value that was computed
pub returns-in-Computed-clause-comes : goal.returns-in-Computed-clause-comes
returns-in-Computed-clause-comes g c = λ code n is line.
    let p = (goal.at.returns-in-Computed-clause-comes g c).After-call_cached in
    let o = prints (tree_of c.in-Computed.value) in
    let of =
    of_it g p (λ (r : Cached). IsOutputOf r o) (Made c.in-Computed.value) c.in-Computed.is refl in
    printed_with o c.printed-in-Computed.result _ c.printed-in-Computed.ensures.computes
    c.printed-in-Computed.ensures.printed
    (comes g p o 0 c.printed-in-Computed.result of refl code n is line)

-- so the call did the one task, by the parts of the cached call
pub returns-in-Computed-clause-task : goal.returns-in-Computed-clause-task
returns-in-Computed-clause-task g c = λ code n is line told.
    let r = Made c.in-Computed.value in (
      r,
      printed_of r (prints (tree_of c.in-Computed.value)) c.printed-in-Computed.result
          c.printed-in-Computed.ensures.computes c.printed-in-Computed.ensures.printed
          (λ o same. same),
      c.in-Computed.ensures.did code n is line told,
    )

-- a text that is printed is no refusal
pub returns-in-Computed-clause-idle : goal.returns-in-Computed-clause-idle
returns-in-Computed-clause-idle g c =
    λ refusal.
    absurd
    (printed_refuses c.printed-in-Computed.result c.printed-in-Computed.ensures.printed refusal)

-- ---- an error of the function

-- its moves are those of the cached call
pub returns-in-Error-clause-lawful : goal.returns-in-Error-clause-lawful
returns-in-Error-clause-lawful g c =
    lawful g (goal.at.returns-in-Error-clause-lawful g c).After-call_cached

-- alone, it leaves what the cached call does
pub returns-in-Error-clause-alone : goal.returns-in-Error-clause-alone
returns-in-Error-clause-alone g c = λ told code n is line lone sound rose.
    let p = (goal.at.returns-in-Error-clause-alone g c).After-call_cached in
    let status =
    of_it g p (λ (r : Cached). IsStatusOf r 1) (Error c.in-Error.error) c.in-Error.is refl in
    failed_at c.failed.result _ c.failed.ensures.failed
    (leaves g p 1 status told code n is line lone sound rose)

-- the text is of the error that the function gave
pub returns-in-Error-clause-comes : goal.returns-in-Error-clause-comes
returns-in-Error-clause-comes g c = λ code n is line.
    let p = (goal.at.returns-in-Error-clause-comes g c).After-call_cached in
    let o = fails 0 c.in-Error.error in
    let of =
    of_it g p (λ (r : Cached). IsOutputOf r o) (Error c.in-Error.error) c.in-Error.is refl in
    failed_with o c.failed.result _ c.failed.ensures.computes c.failed.ensures.failed
    (comes g p o 1 c.failed.result of refl code n is line)

-- so the call did the one task, by the parts of the cached call
pub returns-in-Error-clause-task : goal.returns-in-Error-clause-task
returns-in-Error-clause-task g c = λ code n is line told.
    let r = Error c.in-Error.error in (
      r,
      failed_of r (fails 0 c.in-Error.error) c.failed.result c.failed.ensures.computes
          c.failed.ensures.failed (λ o same. same),
      c.in-Error.ensures.did code n is line told,
    )

-- a text of an error is no refusal
pub returns-in-Error-clause-idle : goal.returns-in-Error-clause-idle
returns-in-Error-clause-idle g c =
    λ refusal. absurd (failed_refuses c.failed.result c.failed.ensures.failed refusal)

-- ---- no memory

-- its moves are those of the cached call
pub returns-in-NoMemory-clause-lawful : goal.returns-in-NoMemory-clause-lawful
returns-in-NoMemory-clause-lawful g c =
    lawful g (goal.at.returns-in-NoMemory-clause-lawful g c).After-call_cached

-- what it did of the task is what the cached call did
pub returns-in-NoMemory-clause-task : goal.returns-in-NoMemory-clause-task
returns-in-NoMemory-clause-task g c = λ code n is line told.
    (c.call_cached.result, tt, c.call_cached.ensures.did code n is line told)
