-- A call over a module's bytes: they are read, and then the function is called.
use Rattle.std.proofs.Common.{rules, ◌≤◌, length, ◌≡◌, ℕ, List, refl, subst}
use Rattle.jl_cmd.specs.Course.{meanings, stretch}
use Rattle.jl_cmd.specs.of.Call.{ComputesCall}
use Rattle.jl_cmd.proofs.ArgumentLemmas.{no_fault}
use Rattle.jl_cmd.proofs.CallingLemmas.{call_refused}
use Rattle.jl_cmd.proofs.compute.compute.Goals as goal

-- a module that is too large is refused, and nothing was done
pub returns-then-bytes-gt-MOST_TEXT_BYTES-clause-computed : goal.returns-then-bytes-gt-MOST_TEXT_BYTES-clause-computed
returns-then-bytes-gt-MOST_TEXT_BYTES-clause-computed g c =
    call_refused _ _ _ _ _ _ _ _ _ c.refused_module.result _ c.refused_module.ensures.refused refl

-- a module with a fault is refused; reading it called nothing
pub returns-in-Fault-clause-computed : goal.returns-in-Fault-clause-computed
returns-in-Fault-clause-computed g c =
    let same : g.L.Library.calls c.read_module.new.self ≡ g.L.Library.calls c.args.lib.now =
    search rules in
    call_refused _ _ _ _ _ _ _ _ _ c.refused_module-in-Fault.result _
    c.refused_module-in-Fault.ensures.refused same

-- no memory for the module: reading it called nothing
pub returns-in-NoMemory-clause-computed : goal.returns-in-NoMemory-clause-computed
returns-in-NoMemory-clause-computed g c =
    let same : g.L.Library.calls c.read_module.new.self ≡ g.L.Library.calls c.args.lib.now =
    search rules in
    call_refused _ _ _ _ _ _ _ _ _ _ _ tt same

-- a module that was read has no fault
pub called-requires-clause-faultless : goal.called-requires-clause-faultless
called-requires-clause-faultless g c =
    let few : length c.args.bytes.now ≤ 1048576 = search rules in
    no_fault g.L.Library.fault c.args.bytes.now _ few c.in-Read.ensures.read.0
    c.in-Read.ensures.read.1

-- the call over the module that was read is the call over its bytes
pub returns-in-Read-clause-computed : goal.returns-in-Read-clause-computed
returns-in-Read-clause-computed g c =
    let lib = g.L.Library in
    let folder = g.F.Folder in
    let host = g.H.Host in
    let loaded : lib.loaded c.read_module.new.self ≡ c.args.bytes.now = search rules in
    let calls : lib.calls c.read_module.new.self ≡ lib.calls c.args.lib.now = search rules in
    let computes =
    λ (bytes : List ℕ) (k : ℕ).
    ComputesCall c.args.memory.now bytes c.args.name.now c.args.args.now
    (stretch (meanings lib.code lib.line lib.fault lib.answer) k (lib.calls c.called.new.lib)
    (folder.view c.args.folder.now) (folder.view c.called.new.folder) (host.view c.args.host.now)
    (host.view c.called.new.host)) c.called.result c.args.warnings.now.items
    c.called.new.warnings.items in
    subst (λ (k : ℕ). computes c.args.bytes.now k) calls
    (subst (λ (bytes : List ℕ). computes bytes (lib.calls c.read_module.new.self)) loaded
    c.called.ensures.computed)
