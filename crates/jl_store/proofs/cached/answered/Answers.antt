-- A call that looked for its entry first: the value was found, or the function was called.
use Rattle.std.proofs.Common.{◌≡◌, ◌⊎◌, ◌∙◌, ℕ, List, refl, inl, inr, sym, subst}
use Rattle.jl_text.specs.Paths.{PathView}
use Rattle.jl_folder.specs.State.{State}
use Rattle.jl_folder.specs.Views.{FolderView, state, moved}
use Rattle.jl_folder.specs.Calls.{Waits}
use Rattle.jl_folder.proofs.Frames.{answers_keeps, keeps_trans}
use Rattle.jl_streams.specs.Moments.{moment_of}
use Rattle.jl_entry.specs.Names.{root_of}
use Rattle.jl_entry.specs.Moments.{access_text}
use Rattle.jl_entry.specs.declared.names.EntryFile.TheVariants.{Access}
use Rattle.jl_value.specs.Key.{key_of}
use Rattle.jl_rely.specs.Claims.{Silent}
use Rattle.jl_rely.proofs.Alone.{lone_parts, waits_alone}
use Rattle.jl_rely.proofs.Composed.{goes_waits}
use Rattle.jl_protocol.specs.Whole.{CodeAnswers}
use Rattle.jl_clear.proofs.DoingLemmas.{rose_later, later_rose}
use Rattle.jl_store.specs.Asked.{asked, output_asked}
use Rattle.jl_store.specs.Trust.{IsTrusted}
use Rattle.jl_store.specs.Calling.{IsAnswering}
use Rattle.jl_store.specs.Publishing.{IsPublished}
use Rattle.jl_store.specs.Keeping.{EntryPlace, IsMakingEntry, PutsEntry, HasPut, IsReadyToKeep}
use Rattle.jl_store.specs.Keeping.{IsReadyToTouch, entry_in, last_of, temp_of}
use Rattle.jl_store.specs.Looking.{HasEntryOf, warnings_for}
use Rattle.jl_store.specs.Next.{entry_asked}
use Rattle.jl_store.specs.Parts.{HasFunction, HasFolder}
use Rattle.jl_store.specs.Done.{OfKeeping, PartDone}
use Rattle.jl_store.specs.declared.cached.Cached.{Cached}
use Rattle.jl_store.specs.declared.cached.Cached.TheVariants.{NoMemory}
use Rattle.jl_store.specs.declared.found.Look.TheVariants as look
use Rattle.jl_store.proofs.Answering.{found_answer, found_count, missed_answer, missed_count}
use Rattle.jl_store.proofs.Lawfully.{Lawfully, lawful_waits, lawful_then, trusted_front}
use Rattle.jl_store.proofs.Causing.{warns_none, warns_then, orderly_sooner}
use Rattle.jl_store.proofs.Coming.{found_comes, missed_comes, found_tidy, missed_tidy}
use Rattle.jl_store.proofs.PartWarnings.{look_warns}
use Rattle.jl_store.proofs.DoneLemmas.{looked_done, found_done, missed_done}
use Rattle.jl_store.proofs.Readiness.{waits_silent, found_home, missed_home}
use Rattle.jl_store.proofs.LoneCalls.{LeavesAnswer, look_hit, look_miss, stands_in, found_leaves}
use Rattle.jl_store.proofs.LoneCalls.{memory_leaves}
use Rattle.jl_store.proofs.Orders.{found_ordered, all_ordered, ordered_later}
use Rattle.jl_store.proofs.TaskLemmas.{hit_did, miss_did}
use Rattle.jl_store.proofs.Putting.{puts_later, puts_waits}
use Rattle.jl_store.proofs.cached.answered.Goals as goal

-- ---- what the answers share

-- the look waited, so what was done after it is what the whole did
look_then : (root : PathView) (answer : CodeAnswers) (r : Cached) (e : EntryPlace)
    (old mid new : FolderView)
    → mid.token ≡ old.token → Waits old mid
    → Lawfully root answer (IsAnswering r e mid.token) mid new
    → Lawfully root answer (IsAnswering r e old.token) old new
look_then root answer r e old mid new same waits rest =
    lawful_then root answer (IsAnswering r e old.token) old mid new
    (lawful_waits root answer (IsAnswering r e old.token) old mid same waits)
    (subst (λ (u : List ℕ). Lawfully root answer (IsAnswering r e u) mid new) same rest)

-- one of two, or a third
or_third : {A B C : Type 0} → A ⊎ B → A ⊎ B ⊎ C
or_third (inl a) = inl a
or_third (inr b) = inr (inl b)

-- ---- its moves

-- the look waited, then the value that it found was handed on: their moves compose
pub returns-in-Hit-clause-lawful : goal.returns-in-Hit-clause-lawful
returns-in-Hit-clause-lawful g c = λ told.
    let frame = c.look_for.ensures.frame c.args.args.now c.requires.key in
    let answer = g.L.Library.answer in
    let memory = c.args.memory.now in
    let name = c.args.name.now in
    let root = root_of memory.location in
    let r = c.found.result in
    let old = g.F.Folder.view c.args.folder.now in
    let mid = g.F.Folder.view c.look_for.new.folder in
    let new = g.F.Folder.view c.found.new.folder in
    let e = entry_in memory name (key_of c.args.args.now) in
    let keyed = subst
    (λ (k : List ℕ). Lawfully root answer (IsAnswering r (entry_in memory name k) mid.token) mid new)
    c.requires.key (c.found.ensures.lawful (frame.told told) answer) in
    look_then root answer r e old mid new frame.token (c.look_for.ensures.waits told) keyed

-- the look waited, then the function was called and its value kept: their moves compose
pub returns-in-Miss-clause-lawful : goal.returns-in-Miss-clause-lawful
returns-in-Miss-clause-lawful g c = λ told.
    let frame = c.look_for.ensures.frame c.args.args.now c.requires.key in
    let answer = g.L.Library.answer in
    let root = root_of c.args.memory.now.location in
    let r = c.missed.result in
    let old = g.F.Folder.view c.args.folder.now in
    let mid = g.F.Folder.view c.look_for.new.folder in
    let new = g.F.Folder.view c.missed.new.folder in
    let e = entry_in c.args.memory.now c.args.name.now (key_of c.args.args.now) in
    look_then root answer r e old mid new frame.token (c.look_for.ensures.waits told)
    (c.missed.ensures.lawful (frame.told told))

-- the look waited, and that was all
pub returns-in-NoMemory-clause-lawful : goal.returns-in-NoMemory-clause-lawful
returns-in-NoMemory-clause-lawful g c = λ told.
    let frame = c.look_for.ensures.frame c.args.args.now c.requires.key in
    let old = g.F.Folder.view c.args.folder.now in
    let mid = g.F.Folder.view c.look_for.new.folder in
    lawful_waits (root_of c.args.memory.now.location) g.L.Library.answer _ old mid frame.token
    (c.look_for.ensures.waits told)

-- ---- its answer

-- the value stood in an entry that was whole and true, so it is the library's answer
pub returns-in-Hit-clause-answer : goal.returns-in-Hit-clause-answer
returns-in-Hit-clause-answer g c =
    let frame = c.look_for.ensures.frame c.args.args.now c.requires.key in
    let answer = g.L.Library.answer in
    let root = root_of c.args.memory.now.location in
    let old = g.F.Folder.view c.args.folder.now in
    let mid = g.F.Folder.view c.look_for.new.folder in
    let new = g.F.Folder.view c.found.new.folder in
    found_answer c.found.result c.in-Hit.value (answer c.args.code.now c.args.args.now)
    (IsTrusted root answer old new) c.found.ensures.found
    (λ (trust : IsTrusted root answer old new).
    let first = goes_waits old mid frame.token (c.look_for.ensures.waits trust.0) in
    let second = (c.found.ensures.lawful (frame.told trust.0) answer).went in
    c.in-Hit.ensures.sound c.args.code.now c.args.args.now c.requires.head c.requires.key answer
    (trusted_front root answer old mid new first second trust))

-- no call of the function is counted
pub returns-in-Hit-clause-calls : goal.returns-in-Hit-clause-calls
returns-in-Hit-clause-calls g c = found_count c.found.result c.in-Hit.value _ c.found.ensures.found

-- the answer is the one that the library gave
pub returns-in-Miss-clause-answer : goal.returns-in-Miss-clause-answer
returns-in-Miss-clause-answer g c = missed_answer c.missed.result _ _ _ _ c.missed.ensures.missed

-- and its call is counted
pub returns-in-Miss-clause-calls : goal.returns-in-Miss-clause-calls
returns-in-Miss-clause-calls g c = missed_count c.missed.result _ _ _ c.missed.ensures.missed

-- ---- its warnings

-- the warnings of the look come first, and then those of the renewal, which finds the entry's
-- folder
pub returns-in-Hit-clause-warns : goal.returns-in-Hit-clause-warns
returns-in-Hit-clause-warns g c = λ n.
    let a = asked c.args.memory.now c.args.name.now c.args.code.now n c.args.args.now in
    let old = g.F.Folder.view c.args.folder.now in
    let mid = g.F.Folder.view c.look_for.new.folder in
    let new = g.F.Folder.view c.found.new.folder in
    let ws = c.args.warnings.now.items in
    let ws1 = c.look_for.new.warnings.items in
    let frame = c.look_for.ensures.frame c.args.args.now c.requires.key in
    let looks = c.in-Hit.ensures.looks c.args.code.now n c.args.args.now c.requires.head
    c.requires.key in
    let first = λ (t : old.told). goes_waits old mid frame.token (c.look_for.ensures.waits t) in
    let second = λ (t : mid.told). (c.found.ensures.lawful t g.L.Library.answer).went in
    warns_then a old mid new c.requires.token (answers_keeps old mid frame) c.found.ensures.frame
    first second (HasFunction a) (HasFolder a) ws ws1 c.found.new.warnings.items
    (λ t orderly ready.
    or_third
    (found_home a old mid (first t) c.requires.token _
    (waits_silent old mid frame.token (c.look_for.ensures.waits t)).own orderly (looks.1 t)))
    (look_warns a (HasFunction a) old mid ws ws1 (look.Hit c.in-Hit.value) looks
    (λ t orderly.
    c.in-Hit.ensures.tidy t c.args.code.now n c.args.args.now c.requires.head c.requires.key
    orderly))
    (c.found.ensures.warns c.args.code.now n c.args.args.now c.requires.key)

-- the warnings of the look come first, and then those of keeping, which finds the function's folder
pub returns-in-Miss-clause-warns : goal.returns-in-Miss-clause-warns
returns-in-Miss-clause-warns g c = λ n.
    let a = asked c.args.memory.now c.args.name.now c.args.code.now n c.args.args.now in
    let old = g.F.Folder.view c.args.folder.now in
    let mid = g.F.Folder.view c.look_for.new.folder in
    let new = g.F.Folder.view c.missed.new.folder in
    let ws = c.args.warnings.now.items in
    let ws1 = c.look_for.new.warnings.items in
    let frame = c.look_for.ensures.frame c.args.args.now c.requires.key in
    let looks = c.in-Miss.ensures.looks c.args.code.now n c.args.args.now c.requires.head
    c.requires.key in
    let first = λ (t : old.told). goes_waits old mid frame.token (c.look_for.ensures.waits t) in
    let second = λ (t : mid.told). (c.missed.ensures.lawful t).went in
    warns_then a old mid new c.requires.token (answers_keeps old mid frame) c.missed.ensures.frame
    first second (HasFunction a) (HasFunction a) ws ws1 c.missed.new.warnings.items
    (λ t orderly ready.
    or_third
    (missed_home a old mid (first t) c.requires.token
    (waits_silent old mid frame.token (c.look_for.ensures.waits t)).own ready))
    (look_warns a (HasFunction a) old mid ws ws1 look.Miss looks
    (λ t orderly.
    c.in-Miss.ensures.tidy t c.args.code.now n c.args.args.now c.requires.head c.requires.key
    orderly))
    (c.missed.ensures.warns n)

-- the look gave no warning
pub returns-in-NoMemory-clause-warns : goal.returns-in-NoMemory-clause-warns
returns-in-NoMemory-clause-warns g c = λ n.
    let a = asked c.args.memory.now c.args.name.now c.args.code.now n c.args.args.now in
    warns_none a (HasFunction a) c.args.warnings.now.items c.look_for.new.warnings.items
    (g.F.Folder.view c.args.folder.now) (g.F.Folder.view c.look_for.new.folder)
    (c.in-NoMemory.ensures.looks c.args.code.now n c.args.args.now c.requires.head c.requires.key)

-- ---- what was done

-- the look found the value, and the last access was renewed or a warning given
pub returns-in-Hit-clause-done : goal.returns-in-Hit-clause-done
returns-in-Hit-clause-done g c = λ told n.
    let frame = c.look_for.ensures.frame c.args.args.now c.requires.key in
    let memory = c.args.memory.now in
    let name = c.args.name.now in
    let a = asked memory name c.args.code.now n c.args.args.now in
    let old = g.F.Folder.view c.args.folder.now in
    let mid = g.F.Folder.view c.look_for.new.folder in
    let new = g.F.Folder.view c.found.new.folder in
    let ws = c.args.warnings.now.items in
    let ws1 = c.look_for.new.warnings.items in
    let ws2 = c.found.new.warnings.items in
    let told' = frame.told told in
    let first = goes_waits old mid frame.token (c.look_for.ensures.waits told) in
    let second = (c.found.ensures.lawful told' g.L.Library.answer).went in
    let Part = λ (k u : List ℕ).
    PartDone OfKeeping (HasPut (entry_in memory name k) u Access (moved mid new)) ws1 ws2 in
    found_done a old mid new first second c.found.result c.in-Hit.value ws ws1 ws2
    c.found.ensures.found
    (c.in-Hit.ensures.looks c.args.code.now n c.args.args.now c.requires.head c.requires.key).0
    (λ is.
    subst (λ (k : List ℕ). Part k a.token) c.requires.key
    (subst (λ (u : List ℕ). Part c.args.wanted.now.key.0 u) (frame.token ∙ c.requires.token)
    (c.found.ensures.done told' is)))

-- the look found nothing or gave a warning, and so did keeping the value
pub returns-in-Miss-clause-done : goal.returns-in-Miss-clause-done
returns-in-Miss-clause-done g c = λ told n.
    let frame = c.look_for.ensures.frame c.args.args.now c.requires.key in
    let name = c.args.name.now in
    let ps = c.args.args.now in
    let a = asked c.args.memory.now name c.args.code.now n ps in
    let old = g.F.Folder.view c.args.folder.now in
    let mid = g.F.Folder.view c.look_for.new.folder in
    let new = g.F.Folder.view c.missed.new.folder in
    let told' = frame.told told in
    let first = goes_waits old mid frame.token (c.look_for.ensures.waits told) in
    let second = (c.missed.ensures.lawful told').went in
    let looks = c.in-Miss.ensures.looks c.args.code.now n c.args.args.now c.requires.head
    c.requires.key in
    missed_done a old mid new first second c.missed.result _ _ _ c.missed.ensures.missed
    c.args.warnings.now.items c.look_for.new.warnings.items c.missed.new.warnings.items
    (warnings_for looks.0 name ps) looks.1
    (looked_done a old mid looks.0 looks.2 told)
    (c.missed.ensures.done told' n)

-- ---- alone

-- alone, the entry that was found still stands when its last access is renewed
pub returns-in-Hit-clause-alone : goal.returns-in-Hit-clause-alone
returns-in-Hit-clause-alone g c = λ told n lone ready rose.
    let memory = c.args.memory.now in
    let name = c.args.name.now in
    let a = asked memory name c.args.code.now n c.args.args.now in
    let host = g.H.Host.view c.args.host.now in
    let old = g.F.Folder.view c.args.folder.now in
    let mid = g.F.Folder.view c.look_for.new.folder in
    let new = g.F.Folder.view c.found.new.folder in
    let frame = c.look_for.ensures.frame c.args.args.now c.requires.key in
    let v = c.in-Hit.value in
    let told' = frame.told told in
    let waits = c.look_for.ensures.waits told in
    let lones = lone_parts old mid new (goes_waits old mid frame.token waits)
    (c.found.ensures.lawful told' g.L.Library.answer).went lone in
    let same : state mid ≡ state old = waits_alone old mid waits lones.0 in
    let stands = look_hit a c.args.warnings.now.items c.look_for.new.warnings.items old mid waits
    lones.0 ready.0 v
    (λ orderly.
    c.in-Hit.ensures.tidy told c.args.code.now n c.args.args.now c.requires.head c.requires.key
    orderly) in
    let ready' = subst (λ (k : List ℕ). IsReadyToTouch (entry_in memory name k) (state mid))
    (sym c.requires.key)
    (subst (λ (s : State). IsReadyToTouch (entry_asked a) s) (sym same)
    (ready.0, stands_in a (state old) v ready.0 stands))
    in
    let Leaves = λ (k u : List ℕ) (s : State).
    (moment : ℕ)
    × IsPublished (last_of (entry_in memory name k) Access)
    (temp_of (entry_in memory name k) u Access) (access_text moment) s (state new)
    × (host.told → moment ≡ moment_of host.moments) in
    found_leaves a (state old) (state new) host c.found.result v c.found.ensures.found stands
    (λ is.
    subst (λ (k : List ℕ). Leaves k a.token (state old)) c.requires.key
    (subst (λ (u : List ℕ). Leaves c.args.wanted.now.key.0 u (state old))
    (frame.token ∙ c.requires.token)
    (subst (λ (s : State). Leaves c.args.wanted.now.key.0 mid.token s) same
    (c.found.ensures.alone told' lones.1 ready'
    (λ r. rose (later_rose old.faults mid.faults new.faults frame.faults.later r)) is))))

-- alone, there is still no entry when the value is kept
pub returns-in-Miss-clause-alone : goal.returns-in-Miss-clause-alone
returns-in-Miss-clause-alone g c = λ told n lone ready rose.
    let a = asked c.args.memory.now c.args.name.now c.args.code.now n c.args.args.now in
    let host = g.H.Host.view c.args.host.now in
    let old = g.F.Folder.view c.args.folder.now in
    let mid = g.F.Folder.view c.look_for.new.folder in
    let new = g.F.Folder.view c.missed.new.folder in
    let frame = c.look_for.ensures.frame c.args.args.now c.requires.key in
    let told' = frame.told told in
    let waits = c.look_for.ensures.waits told in
    let lones = lone_parts old mid new (goes_waits old mid frame.token waits)
    (c.missed.ensures.lawful told').went lone in
    let same : state mid ≡ state old = waits_alone old mid waits lones.0 in
    let none = look_miss a c.args.warnings.now.items c.look_for.new.warnings.items old mid waits
    lones.0 ready.0
    (λ orderly.
    c.in-Miss.ensures.tidy told c.args.code.now n c.args.args.now c.requires.head c.requires.key
    orderly)
    (λ r. rose (rose_later old.faults mid.faults new.faults r c.missed.ensures.frame.later)) in
    subst (λ (s : State). LeavesAnswer c.missed.result a s (state new) host) same
    (c.missed.ensures.alone told' n lones.1
    (subst (λ (s : State). IsReadyToKeep (entry_asked a) s) (sym same) ready)
    (λ r. rose (later_rose old.faults mid.faults new.faults frame.faults.later r))
    (subst (λ (s : State). HasEntryOf (output_asked a) a.code a.args s → ⊥) (sym same) none))

-- without memory nothing is told
pub returns-in-NoMemory-clause-alone : goal.returns-in-NoMemory-clause-alone
returns-in-NoMemory-clause-alone g c = λ told n lone ready rose.
    memory_leaves (asked c.args.memory.now c.args.name.now c.args.code.now n c.args.args.now)
    (state (g.F.Folder.view c.args.folder.now)) (state (g.F.Folder.view c.look_for.new.folder))
    (g.H.Host.view c.args.host.now)

-- ---- where the answer comes from

-- the value comes from the entry that the look opened
pub returns-in-Hit-clause-looks : goal.returns-in-Hit-clause-looks
returns-in-Hit-clause-looks g c = λ n.
    let a = asked c.args.memory.now c.args.name.now c.args.code.now n c.args.args.now in
    let old = g.F.Folder.view c.args.folder.now in
    let mid = g.F.Folder.view c.look_for.new.folder in
    let new = g.F.Folder.view c.found.new.folder in
    let frame = c.look_for.ensures.frame c.args.args.now c.requires.key in
    let first = λ (t : old.told). goes_waits old mid frame.token (c.look_for.ensures.waits t) in
    let second = λ (t : mid.told). (c.found.ensures.lawful t g.L.Library.answer).went in
    found_comes a old mid new (answers_keeps old mid frame) c.found.ensures.frame first second
    c.found.result c.in-Hit.value c.found.ensures.found
    (c.in-Hit.ensures.looks c.args.code.now n c.args.args.now c.requires.head c.requires.key).1

-- the function was called for the cause that the look told
pub returns-in-Miss-clause-looks : goal.returns-in-Miss-clause-looks
returns-in-Miss-clause-looks g c = λ n.
    let a = asked c.args.memory.now c.args.name.now c.args.code.now n c.args.args.now in
    let old = g.F.Folder.view c.args.folder.now in
    let mid = g.F.Folder.view c.look_for.new.folder in
    let new = g.F.Folder.view c.missed.new.folder in
    let frame = c.look_for.ensures.frame c.args.args.now c.requires.key in
    let looks = c.in-Miss.ensures.looks c.args.code.now n c.args.args.now c.requires.head
    c.requires.key in
    let first = λ (t : old.told). goes_waits old mid frame.token (c.look_for.ensures.waits t) in
    let second = λ (t : mid.told). (c.missed.ensures.lawful t).went in
    missed_comes a old mid new (answers_keeps old mid frame) c.missed.ensures.frame first second
    c.missed.result _ _ _ c.missed.ensures.missed looks.0 looks.2

-- in tidy states an entry of this value stood whole
pub returns-in-Hit-clause-tidy : goal.returns-in-Hit-clause-tidy
returns-in-Hit-clause-tidy g c = λ t n orderly.
    let a = asked c.args.memory.now c.args.name.now c.args.code.now n c.args.args.now in
    let old = g.F.Folder.view c.args.folder.now in
    let mid = g.F.Folder.view c.look_for.new.folder in
    let new = g.F.Folder.view c.found.new.folder in
    let frame = c.look_for.ensures.frame c.args.args.now c.requires.key in
    let first = λ (t : old.told). goes_waits old mid frame.token (c.look_for.ensures.waits t) in
    let second = λ (t : mid.told). (c.found.ensures.lawful t g.L.Library.answer).went in
    found_tidy a old mid new (answers_keeps old mid frame) c.found.ensures.frame first second t
    c.found.result c.in-Hit.value c.found.ensures.found
    (c.in-Hit.ensures.tidy t c.args.code.now n c.args.args.now c.requires.head c.requires.key
    (orderly_sooner old mid new (first t) (second (frame.told t)) a.root orderly))

-- in tidy states no entry stood, or a fault rose
pub returns-in-Miss-clause-tidy : goal.returns-in-Miss-clause-tidy
returns-in-Miss-clause-tidy g c = λ t n orderly.
    let a = asked c.args.memory.now c.args.name.now c.args.code.now n c.args.args.now in
    let old = g.F.Folder.view c.args.folder.now in
    let mid = g.F.Folder.view c.look_for.new.folder in
    let new = g.F.Folder.view c.missed.new.folder in
    let frame = c.look_for.ensures.frame c.args.args.now c.requires.key in
    let first = λ (t : old.told). goes_waits old mid frame.token (c.look_for.ensures.waits t) in
    let second = λ (t : mid.told). (c.missed.ensures.lawful t).went in
    missed_tidy a old mid new (answers_keeps old mid frame) c.missed.ensures.frame first second t
    c.missed.result _ _ _ c.missed.ensures.missed
    (c.in-Miss.ensures.tidy t c.args.code.now n c.args.args.now c.requires.head c.requires.key
    (orderly_sooner old mid new (first t) (second (frame.told t)) a.root orderly)).0

-- ---- what stays

-- the frames of the look and of the renewal compose
pub returns-in-Hit-clause-frame : goal.returns-in-Hit-clause-frame
returns-in-Hit-clause-frame g c =
    let frame = c.look_for.ensures.frame c.args.args.now c.requires.key in
    let old = g.F.Folder.view c.args.folder.now in
    let mid = g.F.Folder.view c.look_for.new.folder in
    keeps_trans old mid (g.F.Folder.view c.found.new.folder) (answers_keeps old mid frame)
    c.found.ensures.frame

-- the frames of the look and of the miss compose
pub returns-in-Miss-clause-frame : goal.returns-in-Miss-clause-frame
returns-in-Miss-clause-frame g c =
    let frame = c.look_for.ensures.frame c.args.args.now c.requires.key in
    let old = g.F.Folder.view c.args.folder.now in
    let mid = g.F.Folder.view c.look_for.new.folder in
    keeps_trans old mid (g.F.Folder.view c.missed.new.folder) (answers_keeps old mid frame)
    c.missed.ensures.frame

-- the frame is that of the look
pub returns-in-NoMemory-clause-frame : goal.returns-in-NoMemory-clause-frame
returns-in-NoMemory-clause-frame g c =
    let frame = c.look_for.ensures.frame c.args.args.now c.requires.key in
    answers_keeps (g.F.Folder.view c.args.folder.now) (g.F.Folder.view c.look_for.new.folder) frame

-- ---- what is put in place

-- the look puts nothing in place, so it is what the renewal does
pub returns-in-Hit-clause-puts : goal.returns-in-Hit-clause-puts
returns-in-Hit-clause-puts g c = λ told n.
    let frame = c.look_for.ensures.frame c.args.args.now c.requires.key in
    let a = asked c.args.memory.now c.args.name.now c.args.code.now n c.args.args.now in
    puts_later c.found.result a (g.H.Host.view c.args.host.now) (g.F.Folder.view c.args.folder.now)
    (g.F.Folder.view c.look_for.new.folder) (g.F.Folder.view c.found.new.folder) frame.token
    (c.look_for.ensures.waits told)
    (c.found.ensures.puts (frame.told told) c.args.code.now n c.args.args.now c.requires.key)

-- the look puts nothing in place, so it is what keeping does
pub returns-in-Miss-clause-puts : goal.returns-in-Miss-clause-puts
returns-in-Miss-clause-puts g c = λ told n.
    let frame = c.look_for.ensures.frame c.args.args.now c.requires.key in
    let a = asked c.args.memory.now c.args.name.now c.args.code.now n c.args.args.now in
    puts_later c.missed.result a (g.H.Host.view c.args.host.now) (g.F.Folder.view c.args.folder.now)
    (g.F.Folder.view c.look_for.new.folder) (g.F.Folder.view c.missed.new.folder) frame.token
    (c.look_for.ensures.waits told)
    (c.missed.ensures.puts (frame.told told) n)

-- the look puts nothing in place
pub returns-in-NoMemory-clause-puts : goal.returns-in-NoMemory-clause-puts
returns-in-NoMemory-clause-puts g c = λ told n.
    let frame = c.look_for.ensures.frame c.args.args.now c.requires.key in
    let a = asked c.args.memory.now c.args.name.now c.args.code.now n c.args.args.now in
    let old = g.F.Folder.view c.args.folder.now in
    puts_waits NoMemory a (g.H.Host.view c.args.host.now) (PutsEntry (entry_asked a))
    (IsAnswering NoMemory (entry_asked a) old.token) old (g.F.Folder.view c.look_for.new.folder)
    frame.token (c.look_for.ensures.waits told) tt (λ tells. tt)

-- a value that was found keeps nothing, so there is no order
pub returns-in-Hit-clause-order : goal.returns-in-Hit-clause-order
returns-in-Hit-clause-order g c = λ told.
    let e = entry_in c.args.memory.now c.args.name.now (key_of c.args.args.now) in
    let old = g.F.Folder.view c.args.folder.now in
    found_ordered (IsMakingEntry e) e old.token (moved old (g.F.Folder.view c.found.new.folder))
    c.found.result c.in-Hit.value c.found.ensures.found

-- the look makes no own move, so the order is that of keeping
pub returns-in-Miss-clause-order : goal.returns-in-Miss-clause-order
returns-in-Miss-clause-order g c = λ told.
    let frame = c.look_for.ensures.frame c.args.args.now c.requires.key in
    let e = entry_in c.args.memory.now c.args.name.now (key_of c.args.args.now) in
    let r = c.missed.result in
    let old = g.F.Folder.view c.args.folder.now in
    let mid = g.F.Folder.view c.look_for.new.folder in
    let new = g.F.Folder.view c.missed.new.folder in
    let told' = frame.told told in
    ordered_later (IsMakingEntry e) (IsMakingEntry e) Silent e (λ m none. absurd none)
    (λ m kind. kind) old mid new (waits_silent old mid frame.token (c.look_for.ensures.waits told))
    (c.missed.ensures.lawful told').went r
    (all_ordered (IsMakingEntry e) e mid.token (moved mid new) r (c.missed.ensures.order told'))

-- ---- its parts

-- its parts are the look, which found the value, and the renewal
pub returns-in-Hit-clause-did : goal.returns-in-Hit-clause-did
returns-in-Hit-clause-did g c = λ told n.
    let name = c.args.name.now in
    let code = c.args.code.now in
    let ps = c.args.args.now in
    let a = asked c.args.memory.now name code n ps in
    let old = g.F.Folder.view c.args.folder.now in
    let mid = g.F.Folder.view c.look_for.new.folder in
    let new = g.F.Folder.view c.found.new.folder in
    let calls = g.L.Library.calls c.args.lib.now in
    let frame = c.look_for.ensures.frame c.args.args.now c.requires.key in
    hit_did g.L.Library.answer a old mid new (g.H.Host.view c.args.host.now)
    (g.H.Host.view c.found.new.host) calls calls
    c.args.warnings.now.items c.look_for.new.warnings.items c.found.new.warnings.items frame.told
    c.found.result c.in-Hit.value c.found.ensures.found
    (record {
      answers = frame;
      waits = c.look_for.ensures.waits told;
      looks = c.in-Hit.ensures.looks c.args.code.now n c.args.args.now c.requires.head
          c.requires.key;
      tidy = λ orderly.
          c.in-Hit.ensures.tidy told c.args.code.now n c.args.args.now c.requires.head
          c.requires.key orderly;
      sound = λ answer trust.
          c.in-Hit.ensures.sound c.args.code.now c.args.args.now c.requires.head c.requires.key
          answer trust;
      calls = refl;
      clock = refl;
    })
    (λ is. c.found.ensures.did (frame.told told) is code n ps calls c.requires.key)

-- its parts are the look, which found nothing, and the call of the function with what was kept
pub returns-in-Miss-clause-did : goal.returns-in-Miss-clause-did
returns-in-Miss-clause-did g c = λ told n.
    let a = asked c.args.memory.now c.args.name.now c.args.code.now n c.args.args.now in
    let old = g.F.Folder.view c.args.folder.now in
    let mid = g.F.Folder.view c.look_for.new.folder in
    let new = g.F.Folder.view c.missed.new.folder in
    let frame = c.look_for.ensures.frame c.args.args.now c.requires.key in
    miss_did g.L.Library.answer a old mid new (g.H.Host.view c.args.host.now)
    (g.H.Host.view c.missed.new.host) (g.L.Library.calls c.args.lib.now)
    (g.L.Library.calls c.missed.new.lib)
    c.args.warnings.now.items c.look_for.new.warnings.items c.missed.new.warnings.items frame.told
    c.missed.result _ _ _ c.missed.ensures.missed
    (record {
      answers = frame;
      waits = c.look_for.ensures.waits told;
      looks = c.in-Miss.ensures.looks c.args.code.now n c.args.args.now c.requires.head
          c.requires.key;
      tidy = λ orderly.
          c.in-Miss.ensures.tidy told c.args.code.now n c.args.args.now c.requires.head
          c.requires.key orderly;
      sound = λ answer trust.
          c.in-Miss.ensures.sound c.args.code.now c.args.args.now c.requires.head c.requires.key
          answer trust;
      calls = refl;
      clock = refl;
    })
    (c.missed.ensures.did (frame.told told) n)
