-- No entry stood: the function is called between two readings of the clock, and its value is kept.
use Rattle.std.proofs.Common.{◌≡◌, ◌∙◌, ℕ, ◌-◌, List, [], ap, refl, sym, subst, append-nil}
use Rattle.jl_folder.proofs.Frames.{answers_none}
use Rattle.jl_streams.specs.Moments.{moment_of, moments_after}
use Rattle.jl_folder.specs.Views.{state, moved}
use Rattle.jl_value.specs.Form.{tree_of}
use Rattle.jl_value.specs.Library.{Answer, outcome_of}
use Rattle.jl_value.specs.Key.{key_of}
use Rattle.jl_store.specs.Asked.{asked}
use Rattle.jl_store.specs.Calling.{IsAnswering}
use Rattle.jl_store.specs.declared.cached.Cached.TheVariants.{Error, NoMemory}
use Rattle.jl_store.specs.Keeping.{IsMakingEntry, PutsEntry, HasEntry, HasPutAll, entry_in, texts}
use Rattle.jl_store.specs.Next.{entry_asked}
use Rattle.jl_store.specs.Done.{OfKeeping, PartDone}
use Rattle.jl_store.specs.Parts.{HasFunction}
use Rattle.jl_store.proofs.Answering.{within_value}
use Rattle.jl_store.proofs.Lawfully.{lawful_none}
use Rattle.jl_store.proofs.Causing.{warns_none}
use Rattle.jl_store.proofs.LoneCalls.{computed_leaves, error_leaves, memory_leaves, computed_clock}
use Rattle.jl_store.proofs.DoneLemmas.{computed_done}
use Rattle.jl_store.proofs.Orders.{order_none}
use Rattle.jl_store.specs.Stretch.{point}
use Rattle.jl_store.proofs.TaskLemmas.{computed_has}
use Rattle.jl_store.proofs.Putting.{puts_none, computed_puts}
use Rattle.jl_store.proofs.cached.missed.Goals as goal

-- ---- what the answers share

-- what the call did is the library's answer of this code
answer_is : {a b c : Answer} → b ≡ a → b ≡ c → a ≡ c
answer_is same is = sym same ∙ is

-- the clock was read before and after the call: the second moment, and how long the call took
timed : {before after first second duration : ℕ} → before ≡ first → after ≡ second
    → duration ≡ after - before → (after ≡ second) × (duration ≡ second - first)
timed before_is after_is took = (after_is, took ∙ (λ i. after_is i - before_is i))

-- ---- what keeping the value requires

-- the value is within the limits of an answer, and the rest was required
pub computed-requires-clause-keepable : goal.computed-requires-clause-keepable
computed-requires-clause-keepable g c =
    let t = tree_of c.in-Done-Value.value in
    let found = g.L.Library.answer c.args.code.now c.args.args.now in
    let is = answer_is (c.in-Done-Value.ensures.answer c.args.code.now c.requires.defined)
    (ap outcome_of c.in-Done-Value.field-0-is) in
    let within = within_value found t is
    (g.met.L.Library.within c.args.code.now c.args.args.now c.requires.proper) in
    record {
      code_short = c.requires.code;
      args_short = c.requires.size;
      args_shallow = c.requires.depth;
      value_short = within.2;
      value_shallow = within.1;
    }

-- and it is proper, as each answer is
pub computed-requires-clause-value_proper : goal.computed-requires-clause-value_proper
computed-requires-clause-value_proper g c =
    let t = tree_of c.in-Done-Value.value in
    let found = g.L.Library.answer c.args.code.now c.args.args.now in
    let is = answer_is (c.in-Done-Value.ensures.answer c.args.code.now c.requires.defined)
    (ap outcome_of c.in-Done-Value.field-0-is) in
    (within_value found t is
    (g.met.L.Library.within c.args.code.now c.args.args.now c.requires.proper)).0

-- keeping the value is lawful, since it is the library's answer of the code
pub returns-in-Done-Value-clause-lawful : goal.returns-in-Done-Value-clause-lawful
returns-in-Done-Value-clause-lawful g c = λ told. c.computed.ensures.lawful told g.L.Library.answer
    (answer_is (c.in-Done-Value.ensures.answer c.args.code.now c.requires.defined)
    (ap outcome_of c.in-Done-Value.field-0-is))

-- of an error nothing is kept
pub returns-in-Done-Error-clause-lawful : goal.returns-in-Done-Error-clause-lawful
returns-in-Done-Error-clause-lawful g c = λ told.
    lawful_none _ _ _ (g.F.Folder.view c.args.folder.now)

-- without memory nothing is either
pub returns-in-NoMemory-clause-lawful : goal.returns-in-NoMemory-clause-lawful
returns-in-NoMemory-clause-lawful g c = λ told.
    lawful_none _ _ _ (g.F.Folder.view c.args.folder.now)

-- the warnings are those of keeping the value
pub returns-in-Done-Value-clause-warns : goal.returns-in-Done-Value-clause-warns
returns-in-Done-Value-clause-warns g c = c.computed.ensures.warns

-- of an error none is given
pub returns-in-Done-Error-clause-warns : goal.returns-in-Done-Error-clause-warns
returns-in-Done-Error-clause-warns g c = λ n.
    let a = asked c.args.memory.now c.args.name.now c.args.code.now n c.args.args.now in
    let v = g.F.Folder.view c.args.folder.now in
    warns_none a (HasFunction a) c.args.warnings.now.items c.args.warnings.now.items v v refl

-- without memory none is either
pub returns-in-NoMemory-clause-warns : goal.returns-in-NoMemory-clause-warns
returns-in-NoMemory-clause-warns g c = λ n.
    let a = asked c.args.memory.now c.args.name.now c.args.code.now n c.args.args.now in
    let v = g.F.Folder.view c.args.folder.now in
    warns_none a (HasFunction a) c.args.warnings.now.items c.args.warnings.now.items v v refl

-- alone, the value is kept whole, with when the call ended and how long it took
pub returns-in-Done-Value-clause-alone : goal.returns-in-Done-Value-clause-alone
returns-in-Done-Value-clause-alone g c = λ told n lone ready rose stands.
    let a = asked c.args.memory.now c.args.name.now c.args.code.now n c.args.args.now in
    let e = entry_in c.args.memory.now c.args.name.now (key_of c.args.args.now) in
    let host = g.H.Host.view c.args.host.now in
    let s = state (g.F.Folder.view c.args.folder.now) in
    let t = state (g.F.Folder.view c.computed.new.folder) in
    let v = c.in-Done-Value.value in
    let duration = c.saturating_sub.result in
    let moment = c.now-after.result in
    computed_leaves a s t host c.computed.result v duration moment c.computed.ensures.computed
    stands
    (λ is.
    subst
    (λ (u : List ℕ).
    HasEntry e u (texts c.args.code.now c.args.args.now (tree_of v) duration moment) s t)
    c.requires.token (c.computed.ensures.alone told lone ready rose is))
    (λ tells.
    timed (c.now-before.ensures.moment tells)
    (c.now-after.ensures.moment (c.now-before.ensures.frame.told tells)
    ∙ ap moment_of (c.now-before.ensures.moments tells))
    c.saturating_sub.ensures)

-- of an error all stays as it was
pub returns-in-Done-Error-clause-alone : goal.returns-in-Done-Error-clause-alone
returns-in-Done-Error-clause-alone g c = λ told n lone ready rose stands.
    error_leaves (asked c.args.memory.now c.args.name.now c.args.code.now n c.args.args.now)
    (state (g.F.Folder.view c.args.folder.now)) (g.H.Host.view c.args.host.now)
    c.in-Done-Error.error stands

-- without memory nothing is told
pub returns-in-NoMemory-clause-alone : goal.returns-in-NoMemory-clause-alone
returns-in-NoMemory-clause-alone g c = λ told n lone ready rose stands.
    let s = state (g.F.Folder.view c.args.folder.now) in
    memory_leaves (asked c.args.memory.now c.args.name.now c.args.code.now n c.args.args.now) s s
    (g.H.Host.view c.args.host.now)

-- the value's files were put in place, or a warning was given
pub returns-in-Done-Value-clause-done : goal.returns-in-Done-Value-clause-done
returns-in-Done-Value-clause-done g c = λ told n.
    let a = asked c.args.memory.now c.args.name.now c.args.code.now n c.args.args.now in
    let moves = moved (g.F.Folder.view c.args.folder.now) (g.F.Folder.view c.computed.new.folder) in
    let ws = c.args.warnings.now.items in
    let ws' = c.computed.new.warnings.items in
    computed_done a moves c.computed.result c.in-Done-Value.value ws ws' c.computed.ensures.computed
    (λ is.
    subst (λ (u : List ℕ). PartDone OfKeeping (HasPutAll (entry_asked a) u moves) ws ws')
    c.requires.token (c.computed.ensures.done told is))

-- of an error there was nothing to do
pub returns-in-Done-Error-clause-done : goal.returns-in-Done-Error-clause-done
returns-in-Done-Error-clause-done g c = λ told n.
    ([], sym (append-nil c.args.warnings.now.items), refl)

-- the clock was read twice
pub returns-in-Done-Value-clause-clock : goal.returns-in-Done-Value-clause-clock
returns-in-Done-Value-clause-clock g c = λ tells.
    computed_clock c.computed.result c.in-Done-Value.value (g.H.Host.view c.args.host.now)
    (g.H.Host.view c.now-after.new.self) c.computed.ensures.computed
    (c.now-after.ensures.moments (c.now-before.ensures.frame.told tells)
    ∙ ap moments_after (c.now-before.ensures.moments tells))

-- and so it was of an error
pub returns-in-Done-Error-clause-clock : goal.returns-in-Done-Error-clause-clock
returns-in-Done-Error-clause-clock g c = λ tells.
    c.now-after.ensures.moments (c.now-before.ensures.frame.told tells)
    ∙ ap moments_after (c.now-before.ensures.moments tells)

-- what is put in place are the texts of this value, duration and moment
pub returns-in-Done-Value-clause-puts : goal.returns-in-Done-Value-clause-puts
returns-in-Done-Value-clause-puts g c = λ told n.
    let a = asked c.args.memory.now c.args.name.now c.args.code.now n c.args.args.now in
    let host = g.H.Host.view c.args.host.now in
    computed_puts c.computed.result a host c.in-Done-Value.value c.saturating_sub.result
    c.now-after.result (g.F.Folder.view c.args.folder.now) (g.F.Folder.view c.computed.new.folder)
    c.computed.ensures.computed (c.computed.ensures.puts told)
    (λ tells.
    timed (c.now-before.ensures.moment tells)
    (c.now-after.ensures.moment (c.now-before.ensures.frame.told tells)
    ∙ ap moment_of (c.now-before.ensures.moments tells))
    c.saturating_sub.ensures)

-- of an error nothing is put in place
pub returns-in-Done-Error-clause-puts : goal.returns-in-Done-Error-clause-puts
returns-in-Done-Error-clause-puts g c = λ told n.
    let a = asked c.args.memory.now c.args.name.now c.args.code.now n c.args.args.now in
    let v = g.F.Folder.view c.args.folder.now in
    let r = Error c.in-Done-Error.error in
    puts_none r a (g.H.Host.view c.args.host.now) (PutsEntry (entry_asked a))
    (IsAnswering r (entry_asked a) v.token) v tt (λ tells. tt)

-- without memory nothing is either
pub returns-in-NoMemory-clause-puts : goal.returns-in-NoMemory-clause-puts
returns-in-NoMemory-clause-puts g c = λ told n.
    let a = asked c.args.memory.now c.args.name.now c.args.code.now n c.args.args.now in
    let v = g.F.Folder.view c.args.folder.now in
    puts_none NoMemory a (g.H.Host.view c.args.host.now) (PutsEntry (entry_asked a))
    (IsAnswering NoMemory (entry_asked a) v.token) v tt (λ tells. tt)

-- the entry's files are put in place in their order
pub returns-in-Done-Value-clause-order : goal.returns-in-Done-Value-clause-order
returns-in-Done-Value-clause-order g c = λ told. c.computed.ensures.order told

-- no moves are in order
pub returns-in-Done-Error-clause-order : goal.returns-in-Done-Error-clause-order
returns-in-Done-Error-clause-order g c = λ told.
    let e = entry_in c.args.memory.now c.args.name.now (key_of c.args.args.now) in
    order_none (IsMakingEntry e) e (g.F.Folder.view c.args.folder.now)

-- and so are none here
pub returns-in-NoMemory-clause-order : goal.returns-in-NoMemory-clause-order
returns-in-NoMemory-clause-order g c = λ told.
    let e = entry_in c.args.memory.now c.args.name.now (key_of c.args.args.now) in
    order_none (IsMakingEntry e) e (g.F.Folder.view c.args.folder.now)

-- ---- its part of the call

-- the value was answered and counted, the clock read twice, and the entry tried
pub returns-in-Done-Value-clause-did : goal.returns-in-Done-Value-clause-did
returns-in-Done-Value-clause-did g c = λ told n.
    let a = asked c.args.memory.now c.args.name.now c.args.code.now n c.args.args.now in
    let host = g.H.Host.view c.args.host.now in
    let calls = g.L.Library.calls c.args.lib.now in
    let before = point (g.F.Folder.view c.args.folder.now) host calls c.args.warnings.now.items in
    let after = point (g.F.Folder.view c.computed.new.folder)
    (g.H.Host.view c.now-after.new.self) (g.L.Library.calls c.call-called.new.self)
    c.computed.new.warnings.items in
    let times = λ (tells : host.told).
    timed (c.now-before.ensures.moment tells)
    (c.now-after.ensures.moment (c.now-before.ensures.frame.told tells)
    ∙ ap moment_of (c.now-before.ensures.moments tells))
    c.saturating_sub.ensures in
    computed_has g.L.Library.answer a before after c.computed.result c.in-Done-Value.value
    c.computed.ensures.computed
    (λ is. record {
      answered = answer_is
          (c.in-Done-Value.ensures.answer c.args.code.now c.requires.defined)
          (ap outcome_of c.in-Done-Value.field-0-is);
      duration = c.saturating_sub.result;
      moment = c.now-after.result;
      kept = c.computed.ensures.did told is n;
      calls = c.in-Done-Value.ensures.calls;
      ended = λ tells. (times tells).0;
      took = λ tells. (times tells).1;
      clock = λ tells.
          c.now-after.ensures.moments (c.now-before.ensures.frame.told tells)
          ∙ ap moments_after (c.now-before.ensures.moments tells);
    })

-- the error was answered and counted, and the clock read twice
pub returns-in-Done-Error-clause-did : goal.returns-in-Done-Error-clause-did
returns-in-Done-Error-clause-did g c = λ told n. record {
  answered = answer_is
      (c.in-Done-Error.ensures.answer c.args.code.now c.requires.defined)
      (ap outcome_of c.in-Done-Error.field-0-is);
  answers = answers_none (g.F.Folder.view c.args.folder.now);
  history = refl;
  warns = refl;
  calls = c.in-Done-Error.ensures.calls;
  clock = λ tells.
      c.now-after.ensures.moments (c.now-before.ensures.frame.told tells)
      ∙ ap moments_after (c.now-before.ensures.moments tells);
}

-- for want of memory no part is told
pub returns-in-NoMemory-clause-did : goal.returns-in-NoMemory-clause-did
returns-in-NoMemory-clause-did g c = λ told n. tt
