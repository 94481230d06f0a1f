use Rattle.std.proofs.Common.{◌≡◌, ℕ, List, ◌++◌, refl, subst}
use Rattle.jl_folder.specs.Views.{moved}
use Rattle.jl_folder.proofs.Frames.{answers_keeps}
use Rattle.jl_value.specs.Form.{tree_of}
use Rattle.jl_value.specs.Key.{key_of}
use Rattle.jl_rely.specs.Claims.{Anywhere}
use Rattle.jl_rely.proofs.Composed.{not_called}
use Rattle.jl_protocol.specs.Proper.{IsProper}
use Rattle.jl_protocol.specs.Tidy.{IsTidy}
use Rattle.jl_store.specs.Asked.{asked}
use Rattle.jl_store.specs.Calling.{IsAnswering}
use Rattle.jl_store.specs.Keeping.{IsMakingEntry, PutsEntry, IsKeeping, UsesEntry, HasPutAll, entry_in, texts}
use Rattle.jl_store.specs.Parts.{HasFunction, keep_warns}
use Rattle.jl_store.specs.declared.cached.Cached.TheVariants.{Computed, NoMemory}
use Rattle.jl_store.proofs.Lawfully.{lawful_none, lawful_by}
use Rattle.jl_store.proofs.Truths.{is_entry, entry_true}
use Rattle.jl_store.proofs.Causing.{warns_none}
use Rattle.jl_store.proofs.PartWarnings.{keep_warned, keep_used}
use Rattle.jl_store.proofs.DoneLemmas.{kept_done}
use Rattle.jl_store.proofs.LoneMoves.{lone_untouched}
use Rattle.jl_store.proofs.LoneCalls.{kept_alone}
use Rattle.jl_store.proofs.Orders.{order_none}
use Rattle.jl_store.proofs.cached.computed.Goals as goal

pub returns-in-Ok-clause-lawful : goal.returns-in-Ok-clause-lawful
returns-in-Ok-clause-lawful g c = λ told answer yes'.
    let e = entry_in c.args.memory.now c.args.name.now (key_of c.args.args.now) in
    let t = tree_of c.args.value in
    let old = g.F.Folder.view c.args.folder.now in
    lawful_by e.root answer (IsAnswering (Computed c.args.value) e old.token) (PutsEntry e (texts c.args.code.now c.args.args.now t c.args.duration c.args.moment)) (IsKeeping e old.token) Anywhere old (g.F.Folder.view c.keep_as-kept.new.folder) (λ m kind. kind)
    (entry_true e answer c.args.code.now c.args.args.now t c.args.duration c.args.moment
    (is_entry c.args.code.now c.args.args.now t c.utf8.code c.requires.args_proper c.requires.value_proper c.requires.keepable.args_shallow c.requires.keepable.value_shallow) yes')
    (c.keep_as-kept.ensures.called told).call

pub returns-in-Err-clause-lawful : goal.returns-in-Err-clause-lawful
returns-in-Err-clause-lawful g c = λ told answer yes'.
    let e = entry_in c.args.memory.now c.args.name.now (key_of c.args.args.now) in
    let t = tree_of c.args.value in
    let old = g.F.Folder.view c.args.folder.now in
    lawful_by e.root answer (IsAnswering NoMemory e old.token) (PutsEntry e (texts c.args.code.now c.args.args.now t c.args.duration c.args.moment)) (IsKeeping e old.token) Anywhere old (g.F.Folder.view c.keep_as-kept.new.folder) (λ m kind. kind)
    (entry_true e answer c.args.code.now c.args.args.now t c.args.duration c.args.moment
    (is_entry c.args.code.now c.args.args.now t c.utf8.code c.requires.args_proper c.requires.value_proper c.requires.keepable.args_shallow c.requires.keepable.value_shallow) yes')
    (c.keep_as-kept.ensures.called told).call

pub returns-in-Ok-clause-warns : goal.returns-in-Ok-clause-warns
returns-in-Ok-clause-warns g c = λ n.
    let a = asked c.args.memory.now c.args.name.now c.args.code.now n c.args.args.now in
    let old = g.F.Folder.view c.args.folder.now in
    let new = g.F.Folder.view c.keep_as-kept.new.folder in
    let kept = c.keep_as-kept.result in (
      keep_warns kept c.args.name.now c.args.key.now,
      c.in-Ok.ensures.ok,
      keep_warned a (HasFunction a) old new kept c.args.key.now c.requires.key
          (λ is t orderly ready. keep_used a old.token c.requires.token (moved old new) ((c.keep_as-kept.ensures.called t).skipped is (orderly.0, ready)))
          (λ is. c.keep_as-kept.ensures.frame.faults.failed is),
    )

pub returns-in-Err-clause-warns : goal.returns-in-Err-clause-warns
returns-in-Err-clause-warns g c = λ n.
    let a = asked c.args.memory.now c.args.name.now c.args.code.now n c.args.args.now in
    warns_none a (HasFunction a) c.args.warnings.now.items c.warn_of.new.warnings.items (g.F.Folder.view c.args.folder.now) (g.F.Folder.view c.keep_as-kept.new.folder) c.in-Err.ensures.err

pub returns-in-Ok-clause-alone : goal.returns-in-Ok-clause-alone
returns-in-Ok-clause-alone g c = λ told lone ready rose is.
    let e = entry_in c.args.memory.now c.args.name.now (key_of c.args.args.now) in
    let old = g.F.Folder.view c.args.folder.now in
    let new = g.F.Folder.view c.keep_as-kept.new.folder in
    let kept = kept_alone c.keep_as-kept.result c.in-Ok.ensures.memory
    (λ skipped. lone_untouched old.token (UsesEntry e old.token) (moved old new) lone ((c.keep_as-kept.ensures.called told).skipped skipped ready))
    (λ fault. rose (c.keep_as-kept.ensures.frame.faults.failed fault)) in
    c.keep_as-kept.ensures.alone told kept lone

pub returns-in-Ok-clause-done : goal.returns-in-Ok-clause-done
returns-in-Ok-clause-done g c = λ told is.
    let name = c.args.name.now in
    let key = c.args.key.now in
    let e = entry_in c.args.memory.now c.args.name.now (key_of c.args.args.now) in
    let old = g.F.Folder.view c.args.folder.now in
    let new = g.F.Folder.view c.keep_as-kept.new.folder in
    let kept = c.keep_as-kept.result in (
      keep_warns kept name key,
      c.in-Ok.ensures.ok,
      kept_done (HasPutAll e old.token (moved old new)) kept name key c.in-Ok.ensures.memory (λ all. (c.keep_as-kept.ensures.called told).kept all),
    )

pub returns-in-Ok-clause-frame : goal.returns-in-Ok-clause-frame
returns-in-Ok-clause-frame g c = answers_keeps (g.F.Folder.view c.args.folder.now) (g.F.Folder.view c.keep_as-kept.new.folder) c.keep_as-kept.ensures.frame

pub returns-in-Err-clause-frame : goal.returns-in-Err-clause-frame
returns-in-Err-clause-frame g c = answers_keeps (g.F.Folder.view c.args.folder.now) (g.F.Folder.view c.keep_as-kept.new.folder) c.keep_as-kept.ensures.frame

pub returns-in-Ok-clause-puts : goal.returns-in-Ok-clause-puts
returns-in-Ok-clause-puts g c = λ told. (c.keep_as-kept.ensures.called told).call

pub returns-in-Err-clause-puts : goal.returns-in-Err-clause-puts
returns-in-Err-clause-puts g c = λ told. (c.keep_as-kept.ensures.called told).call

pub returns-in-Ok-clause-order : goal.returns-in-Ok-clause-order
returns-in-Ok-clause-order g c = λ told. c.keep_as-kept.ensures.order told

pub returns-in-Err-clause-order : goal.returns-in-Err-clause-order
returns-in-Err-clause-order g c = λ told. c.keep_as-kept.ensures.order told

pub returns-in-Ok-clause-did : goal.returns-in-Ok-clause-did
returns-in-Ok-clause-did g c = λ told is n.
    let kept = c.keep_as-kept.result in
    record {
      kept = kept;
      answers = c.keep_as-kept.ensures.frame;
      remembers = c.in-Ok.ensures.memory;
      call = c.keep_as-kept.ensures.called told;
      once = c.keep_as-kept.ensures.once told;
      order = c.keep_as-kept.ensures.order told;
      alone = λ done lone. c.keep_as-kept.ensures.alone told done lone;
      warns = subst (λ (k : List ℕ). c.warn_of.new.warnings.items ≡ c.args.warnings.now.items ++ keep_warns kept c.args.name.now (record { 0 = k })) c.requires.key c.in-Ok.ensures.ok;
    }
