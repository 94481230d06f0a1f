use Rattle.std.proofs.Common.{◌≡◌, ◌⊎◌, inl, inr, ℕ, List, ◌++◌, refl, subst}
use Rattle.jl_folder.specs.State.{State}
use Rattle.jl_folder.specs.Views.{FolderView, state, moved}
use Rattle.jl_folder.proofs.Frames.{answers_keeps}
use Rattle.jl_entry.specs.Moments.{access_text}
use Rattle.jl_entry.specs.declared.names.EntryFile.TheVariants.{Access}
use Rattle.jl_value.specs.Key.{key_of}
use Rattle.jl_value.specs.declared.value.Value.{Value}
use Rattle.jl_rely.specs.Claims.{Anywhere}
use Rattle.jl_protocol.specs.Whole.{CodeAnswers}
use Rattle.jl_store.specs.Asked.{asked}
use Rattle.jl_store.specs.Calling.{IsAnswering}
use Rattle.jl_store.specs.Kinds.{IsFor, PutsThis, UsesNames}
use Rattle.jl_store.specs.Publishing.{IsPublished}
use Rattle.jl_store.specs.Keeping.{EntryPlace, KeepsFile, HasPut, entry_in, file_of, last_of, temp_of, IsReadyToTouch}
use Rattle.jl_store.specs.Parts.{HasFolder, keep_warns}
use Rattle.jl_store.specs.declared.answer.Keep.{Keep}
use Rattle.jl_store.specs.declared.cached.Cached.{Cached}
use Rattle.jl_store.specs.declared.cached.Cached.TheVariants.{Hit, NoMemory}
use Rattle.jl_store.proofs.Lawfully.{Lawfully, lawful_by}
use Rattle.jl_store.proofs.CallMoves.{found_kinds}
use Rattle.jl_store.proofs.Truths.{this_true, only_final, moment_true}
use Rattle.jl_store.proofs.Causing.{warns_none}
use Rattle.jl_store.proofs.PartWarnings.{keep_warned, touch_used}
use Rattle.jl_store.proofs.DoneLemmas.{kept_done}
use Rattle.jl_store.proofs.LoneMoves.{lone_untouched}
use Rattle.jl_store.proofs.LoneCalls.{kept_alone}
use Rattle.jl_store.proofs.Putting.{found_puts}
use Rattle.jl_store.proofs.cached.found.Goals as goal

-- touching renames no output
touched : (e : EntryPlace) (bytes : List ℕ) (Ready : State → Type 0) (old new : FolderView) (k : Keep) (r : Cached) (v : Value) (answer : CodeAnswers) → (r ≡ Hit v) ⊎ (r ≡ NoMemory) → KeepsFile e Access bytes Ready k old new → Lawfully e.root answer (IsAnswering r e old.token) old new
touched e bytes Ready old new k r v answer is keeps =
    lawful_by e.root answer (IsAnswering r e old.token) (PutsThis e.root (last_of e Access) bytes) (IsFor (last_of e Access) (temp_of e old.token Access)) Anywhere old new (found_kinds r v e old.token is)
    (this_true e.root answer (file_of e Access) (last_of e Access) bytes (only_final e Access) (moment_true e answer bytes)) keeps.call

pub returns-in-Ok-clause-lawful : goal.returns-in-Ok-clause-lawful
returns-in-Ok-clause-lawful g c = λ told answer. touched (entry_in c.args.memory.now c.args.name.now c.args.key.now.0) _ _ _ _ _ _ c.args.value answer (inl refl) (c.touch-kept.ensures.called told)

pub returns-in-Err-clause-lawful : goal.returns-in-Err-clause-lawful
returns-in-Err-clause-lawful g c = λ told answer. touched (entry_in c.args.memory.now c.args.name.now c.args.key.now.0) _ _ _ _ _ _ c.args.value answer (inr refl) (c.touch-kept.ensures.called told)

pub returns-in-Ok-clause-warns : goal.returns-in-Ok-clause-warns
returns-in-Ok-clause-warns g c = λ code n ps same.
    let memory = c.args.memory.now in
    let name = c.args.name.now in
    let a = asked memory name code n ps in
    let old = g.F.Folder.view c.args.folder.now in
    let new = g.F.Folder.view c.touch-kept.new.folder in
    let kept = c.touch-kept.result in
    let keeps = λ (t : old.told).
    subst (λ (k : List ℕ). KeepsFile (entry_in memory name k) Access (access_text c.now-moment.result) (IsReadyToTouch (entry_in memory name k)) kept old new) same (c.touch-kept.ensures.called t) in (
      keep_warns kept name c.args.key.now,
      c.in-Ok.ensures.ok,
      keep_warned a (HasFolder a) old new kept c.args.key.now same
          (λ is t orderly ready. touch_used a old.token c.requires.token (moved old new) ((keeps t).skipped is (orderly.0, ready)))
          (λ is. c.touch-kept.ensures.frame.faults.failed is),
    )

pub returns-in-Err-clause-warns : goal.returns-in-Err-clause-warns
returns-in-Err-clause-warns g c = λ code n ps same.
    let a = asked c.args.memory.now c.args.name.now code n ps in
    warns_none a (HasFolder a) c.args.warnings.now.items c.warn_of.new.warnings.items (g.F.Folder.view c.args.folder.now) (g.F.Folder.view c.touch-kept.new.folder) c.in-Err.ensures.err

pub returns-in-Ok-clause-alone : goal.returns-in-Ok-clause-alone
returns-in-Ok-clause-alone g c = λ told lone ready rose is.
    let e = entry_in c.args.memory.now c.args.name.now c.args.key.now.0 in
    let old = g.F.Folder.view c.args.folder.now in
    let new = g.F.Folder.view c.touch-kept.new.folder in
    let kept = kept_alone c.touch-kept.result c.in-Ok.ensures.memory
    (λ skipped. lone_untouched old.token (UsesNames (last_of e Access) (temp_of e old.token Access)) (moved old new) lone ((c.touch-kept.ensures.called told).skipped skipped ready))
    (λ fault. rose (c.touch-kept.ensures.frame.faults.failed fault)) in
    (c.now-moment.result, c.touch-kept.ensures.alone told kept lone, λ tells. c.now-moment.ensures.moment tells)

pub returns-in-Ok-clause-done : goal.returns-in-Ok-clause-done
returns-in-Ok-clause-done g c = λ told is.
    let name = c.args.name.now in
    let key = c.args.key.now in
    let e = entry_in c.args.memory.now name key.0 in
    let old = g.F.Folder.view c.args.folder.now in
    let new = g.F.Folder.view c.touch-kept.new.folder in
    let kept = c.touch-kept.result in (
      keep_warns kept name key,
      c.in-Ok.ensures.ok,
      kept_done (HasPut e old.token Access (moved old new)) kept name key c.in-Ok.ensures.memory (λ all. (c.touch-kept.ensures.called told).kept all),
    )

pub returns-in-Ok-clause-frame : goal.returns-in-Ok-clause-frame
returns-in-Ok-clause-frame g c = answers_keeps (g.F.Folder.view c.args.folder.now) (g.F.Folder.view c.touch-kept.new.folder) c.touch-kept.ensures.frame

pub returns-in-Err-clause-frame : goal.returns-in-Err-clause-frame
returns-in-Err-clause-frame g c = answers_keeps (g.F.Folder.view c.args.folder.now) (g.F.Folder.view c.touch-kept.new.folder) c.touch-kept.ensures.frame

pub returns-in-Ok-clause-clock : goal.returns-in-Ok-clause-clock
returns-in-Ok-clause-clock g c = λ tells. c.now-moment.ensures.moments tells

pub returns-in-Ok-clause-puts : goal.returns-in-Ok-clause-puts
returns-in-Ok-clause-puts g c = λ told code n ps same.
    let memory = c.args.memory.now in
    let name = c.args.name.now in
    let a = asked memory name code n ps in
    let old = g.F.Folder.view c.args.folder.now in
    let new = g.F.Folder.view c.touch-kept.new.folder in
    let kept = c.touch-kept.result in
    let moment = c.now-moment.result in
    found_puts _ a (g.H.Host.view c.args.host.now) c.args.value moment (IsReadyToTouch (entry_in memory name (key_of ps))) kept old new (inl refl)
    (subst (λ (k : List ℕ). KeepsFile (entry_in memory name k) Access (access_text moment) (IsReadyToTouch (entry_in memory name k)) kept old new) same (c.touch-kept.ensures.called told))
    (λ tells. c.now-moment.ensures.moment tells)

pub returns-in-Err-clause-puts : goal.returns-in-Err-clause-puts
returns-in-Err-clause-puts g c = λ told code n ps same.
    let memory = c.args.memory.now in
    let name = c.args.name.now in
    let a = asked memory name code n ps in
    let old = g.F.Folder.view c.args.folder.now in
    let new = g.F.Folder.view c.touch-kept.new.folder in
    let kept = c.touch-kept.result in
    let moment = c.now-moment.result in
    found_puts _ a (g.H.Host.view c.args.host.now) c.args.value moment (IsReadyToTouch (entry_in memory name (key_of ps))) kept old new (inr refl)
    (subst (λ (k : List ℕ). KeepsFile (entry_in memory name k) Access (access_text moment) (IsReadyToTouch (entry_in memory name k)) kept old new) same (c.touch-kept.ensures.called told))
    (λ tells. c.now-moment.ensures.moment tells)

pub returns-in-Ok-clause-did : goal.returns-in-Ok-clause-did
returns-in-Ok-clause-did g c = λ told is code n ps calls same.
    let memory = c.args.memory.now in
    let name = c.args.name.now in
    let old = g.F.Folder.view c.args.folder.now in
    let new = g.F.Folder.view c.touch-kept.new.folder in
    let kept = c.touch-kept.result in
    let moment = c.now-moment.result in
    record {
      moment = moment;
      touched = record {
        kept = kept;
        answers = c.touch-kept.ensures.frame;
        remembers = c.in-Ok.ensures.memory;
        call = subst (λ (k : List ℕ). KeepsFile (entry_in memory name k) Access (access_text moment) (IsReadyToTouch (entry_in memory name k)) kept old new) same (c.touch-kept.ensures.called told);
        alone = λ done lone.
            subst (λ (k : List ℕ). IsPublished (last_of (entry_in memory name k) Access) (temp_of (entry_in memory name k) old.token Access) (access_text moment) (state old) (state new)) same (c.touch-kept.ensures.alone told done lone);
        warns = subst (λ (k : List ℕ). c.warn_of.new.warnings.items ≡ c.args.warnings.now.items ++ keep_warns kept name (record { 0 = k })) same c.in-Ok.ensures.ok;
      };
      calls = refl;
      timed = λ tells. c.now-moment.ensures.moment tells;
      clock = λ tells. c.now-moment.ensures.moments tells;
    }
