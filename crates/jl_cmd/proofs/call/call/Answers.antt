use Rattle.std.proofs.Common.{rules, ◌≡◌, ◌⊎◌, ℕ, List, [], inl, refl, sym, ap, subst}
use Rattle.jl_text.specs.Paths.{PathView}
use Rattle.jl_folder.specs.Views.{FolderView}
use Rattle.jl_folder.specs.Calls.{Waits}
use Rattle.jl_streams.specs.Views.{HostView}
use Rattle.jl_entry.specs.Names.{root_of}
use Rattle.jl_store.specs.Trust.{IsTrusted}
use Rattle.jl_store.specs.declared.memory.Warning.{Warning}
use Rattle.jl_cmd.specs.declared.ended.Ended.TheVariants.{NoMemory, NoModule, FolderFault}
use Rattle.jl_cmd.specs.Caches.{CallsLawfully, IsOfCall}
use Rattle.jl_cmd.specs.Course.{Stretch, meanings, stretch}
use Rattle.jl_cmd.specs.Output.{call_output}
use Rattle.jl_cmd.specs.Computing.{Computes}
use Rattle.jl_cmd.specs.Endings.{ReadFrom}
use Rattle.jl_cmd.specs.Texts.{warning_lines}
use Rattle.jl_cmd.proofs.CacheLemmas.{reads_over}
use Rattle.jl_cmd.proofs.CallingLemmas.{Parts}
use Rattle.jl_cmd.proofs.CallEnds.{call_stopped, call_read, ended_as}
use Rattle.jl_cmd.proofs.IdleLemmas.{waits_none, written_read}
use Rattle.jl_rely.proofs.Composed.{goes_waits}
use Rattle.jl_cmd.proofs.call.call.Goals as goal

pub returns-in_default-clause-ended : goal.returns-in_default-clause-ended
returns-in_default-clause-ended g c =
    ended_as _ _ _ _ _ _ _ _ _ _ _ (sym c.ended.ensures.ended) (sym c.ended.ensures.lines) (call_stopped _ _ _ _ _ _ NoMemory [] (λ P. tt) (inl refl) (λ told. refl) refl (λ told. waits_none _) refl refl)

pub returns-in-NoFile-clause-ended : goal.returns-in-NoFile-clause-ended
returns-in-NoFile-clause-ended g c =
    ended_as _ _ _ _ _ _ _ _ _ _ _ (sym c.ended-in-NoFile.ensures.ended) (sym c.ended-in-NoFile.ensures.lines)
    (call_stopped _ _ _ _ _ _ NoModule [] (λ P. tt) refl (c.in-NoFile.ensures.reads, λ told. refl) c.read_file.ensures.frame.token c.read_file.ensures.waits refl refl)

pub returns-in-Failed-clause-ended : goal.returns-in-Failed-clause-ended
returns-in-Failed-clause-ended g c =
    ended_as _ _ _ _ _ _ _ _ _ _ _ (sym c.ended-in-Failed.ensures.ended) (sym c.ended-in-Failed.ensures.lines)
    (call_stopped _ _ _ _ _ _ FolderFault [] (λ P. tt) refl (c.read_file.ensures.frame.faults.failed c.in-Failed.is, λ told. refl) c.read_file.ensures.frame.token c.read_file.ensures.waits refl refl)

pub returns-clause-ended : goal.returns-clause-ended
returns-clause-ended g c =
    ended_as _ _ _ _ _ _ _ _ _ _ _ (sym c.ended-in-NoMemory.ensures.ended) (sym c.ended-in-NoMemory.ensures.lines)
    (call_stopped _ _ _ _ _ _ NoMemory [] (λ P. tt) (inl refl) (λ told. refl) c.read_file.ensures.frame.token c.read_file.ensures.waits refl refl)

pub returns-in-Bytes-clause-ended : goal.returns-in-Bytes-clause-ended
returns-in-Bytes-clause-ended g c =
    let folder = g.F.Folder in
    let host = g.H.Host in
    let lib = g.L.Library in
    let old : FolderView = folder.view c.args.folder.now in
    let mid : FolderView = folder.view c.read_file.new.folder in
    let new : FolderView = folder.view c.compute-computed.new.folder in
    let v : Stretch = stretch (meanings lib.code lib.line lib.fault lib.answer) (lib.calls c.args.lib.now) (lib.calls c.compute-computed.new.lib) old new (host.view c.args.host.now) (host.view c.compute-computed.new.host) in
    let memory = c.in-Ok.memory in
    let bytes = c.as_slice.result.now in
    let by : memory.token ≡ old.token = search rules in
    let waits = c.read_file.ensures.waits in
    let frame = c.read_file.ensures.frame in
    let did = c.compute-computed.ensures in
    let done = did.computed in
    let lawful' = λ (t : mid.told).
    subst (λ (u : List ℕ). CallsLawfully memory.location lib.answer (IsOfCall (root_of memory.location) memory.«module» c.args.name.now u) mid new) frame.token (done.lawful t) in
    let lawful = λ (t : mid.told). subst (λ (p : PathView). CallsLawfully p lib.answer (IsOfCall (root_of p) memory.«module» c.args.name.now old.token) mid new) c.in-Ok.ensures.location (lawful' t) in
    let parts : Parts v mid c.args.file.now c.args.location.now memory bytes =
    record {
      keeps = record { told = frame.told; token = frame.token; opens = frame.opens; later = frame.faults.later };
      keeps' = did.frame;
      waits = waits;
      second = λ t. (lawful t).went;
      reads = λ t. reads_over c.args.file.now bytes c.in-Bytes.bytes old mid new (sym c.as_slice.ensures) (goes_waits old mid frame.token (waits t)) (lawful (frame.told t)).went (c.in-Bytes.ensures.reads t);
      reading = λ t. subst (λ (k : List ℕ). ReadFrom c.args.file.now k old mid) (sym c.as_slice.ensures) (c.in-Bytes.ensures.reads t);
      located = c.in-Ok.ensures.location;
      named = c.in-Ok.ensures.module_name;
      by = by;
    } in
    call_read v c.args.file.now c.args.location.now c.args.name.now c.args.args.now (g.O.Sink.view c.args.out.now) mid memory bytes parts (g.O.Sink.view c.written.new.out) c.compute-computed.result c.written.result.ended c.written.result.lines c.new-warnings.result.items c.compute-computed.new.warnings.items c.new-warnings.ensures.items
    (λ told. lawful (frame.told told))
    (subst (λ (p : PathView). Computes (call_output v.means bytes c.args.name.now c.args.args.now) (IsTrusted (root_of p) lib.answer mid new) c.compute-computed.result) c.in-Ok.ensures.location did.computes)
    done.calls done.warns done.alone done.comes done.task
    (λ refusal told. subst (λ (x : FolderView). Waits old x) (sym (ap folder.view (did.idle refusal).0)) (waits told))
    (λ refusal. ap (λ (x : HostView). x.moments) (ap host.view (did.idle refusal).1))
    c.written.ensures.writes c.written.ensures.calls
    (subst (λ (ws : List Warning). (c.written.result.lines ≡ warning_lines memory.«module» ws) ⊎ ((c.written.result.lines ≡ []) × (c.written.result.ended ≡ NoMemory))) c.as_slice-in-Bytes.ensures.value c.written.ensures.lines)

pub returns-in-Bytes-clause-unused : goal.returns-in-Bytes-clause-unused
returns-in-Bytes-clause-unused g c = λ which. absurd (written_read c.compute-computed.result c.written.result.ended _ _ c.written.ensures.writes which)
