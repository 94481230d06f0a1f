use Rattle.std.proofs.Common.{◌≡◌, ◌∙◌, ℕ, List, refl, ap, subst, sym}
use Rattle.std.specs.Prelude.{IsTrue}
use Rattle.hex.specs.Hex.{encode_lower}
use Rattle.jl_text.specs.Paths.{PathView}
use Rattle.jl_value.specs.declared.key.Key.{Key}
use Rattle.jl_folder.specs.State.{IsTrace}
use Rattle.jl_folder.specs.Views.{state, moved}
use Rattle.jl_folder.proofs.Frames.{answers_as}
use Rattle.jl_entry.specs.declared.names.EntryFile.TheVariants.{Output}
use Rattle.jl_entry.specs.Entry.{IsHeadOf}
use Rattle.jl_entry.specs.Names.{IsFinal, entry_of, final_parts, below, root_of, is_key}
use Rattle.jl_rely.proofs.Since.{since_went}
use Rattle.jl_rely.proofs.Composed.{went_waits}
use Rattle.jl_store.specs.Asked.{asked, output_of, output_path}
use Rattle.jl_store.specs.Looking.{Finds}
use Rattle.jl_store.proofs.LookLemmas.{looks_found, settled_as, fault_warned, warned_fault}
use Rattle.jl_store.proofs.LookTidy.{looks_tidy, looks_sound}
use Rattle.jl_store.proofs.looking.look_for.Goals as goal

-- the key of the arguments
abbrev key_is : List ℕ → Key
key_is k = record { 0 = k }

pub returns-clause-looks : goal.returns-clause-looks
returns-clause-looks g c = λ code n ps of keyed.
    let memory = c.args.memory.now in
    let name = c.args.name.now in
    let root = root_of memory.location in
    let old = g.F.Folder.view c.args.folder.now in
    let new = g.F.Folder.view c.find-found.new.folder in
    let same : _ ≡ output_path root memory.module name ps =
    c.in-Ok.ensures.is ∙ (λ i. below root (final_parts (entry_of Output (c.as_str-module.ensures i) name (encode_lower (keyed i))))) in
    looks_found (asked memory name code n ps) _ _ old new c.settle.result c.find-found.result _ (ap key_is keyed) (settled_as c.settle.result c.find-found.result _ _ _ _ _ _ c.in-Ok-make_room.ensures.name c.make_room.ensures.items c.settle.ensures)
    (λ t. subst (λ (p : PathView). Finds p code ps c.find-found.result (state old) (moved old new)) same (c.find-found.ensures.finds t code ps (subst (λ (h : List ℕ). IsHeadOf h code ps) (sym c.as_str.ensures) of)))
    (λ e. c.find-found.ensures.frame.faults.failed e)

pub returns-clause-frame : goal.returns-clause-frame
returns-clause-frame g c = λ ps keyed.
    let is = ap key_is keyed in
    answers_as (g.F.Folder.view c.args.folder.now) (g.F.Folder.view c.find-found.new.folder) c.find-found.ensures.frame
    (λ warned. warned_fault c.settle.result c.args.name.now ps _ is _ _ c.find-found.result (settled_as c.settle.result c.find-found.result _ _ _ _ _ _ c.in-Ok-make_room.ensures.name c.make_room.ensures.items c.settle.ensures) warned)
    (λ failed. fault_warned c.settle.result c.args.name.now ps _ is _ _ c.find-found.result (settled_as c.settle.result c.find-found.result _ _ _ _ _ _ c.in-Ok-make_room.ensures.name c.make_room.ensures.items c.settle.ensures) failed)

pub returns-clause-tidy : goal.returns-clause-tidy
returns-clause-tidy g c = λ t code n ps of keyed orderly.
    let memory = c.args.memory.now in
    let name = c.args.name.now in
    let old = g.F.Folder.view c.args.folder.now in
    let new = g.F.Folder.view c.find-found.new.folder in
    let a = asked memory name code n ps in
    let waits = c.find-found.ensures.waits t in
    let may : IsTrace (state old) (moved old new) = subst (IsTrace (state old)) (sym (since_went old new waits.others (went_waits old new waits))) waits.lawful in
    let root = root_of memory.location in
    let final : IsFinal root (output_of memory.module name ps) (output_path root memory.module name ps) =
    record { formed = (c.requires.module_name, c.requires.function_name, subst (λ (k : List ℕ). IsTrue (is_key (encode_lower k))) keyed c.in-Ok.ensures.formed.2); is = refl } in
    looks_tidy a final old new may _ _ t c.settle.result (returns-clause-looks g c code n ps of keyed) orderly

pub returns-clause-sound : goal.returns-clause-sound
returns-clause-sound g c = λ code ps of keyed answer trust.
    let memory = c.args.memory.now in
    let name = c.args.name.now in
    let old = g.F.Folder.view c.args.folder.now in
    let new = g.F.Folder.view c.find-found.new.folder in
    let a = asked memory name code 0 ps in
    let waits = c.find-found.ensures.waits trust.0 in
    let may : IsTrace (state old) (moved old new) = subst (IsTrace (state old)) (sym (since_went old new waits.others (went_waits old new waits))) waits.lawful in
    let root = root_of memory.location in
    let final : IsFinal root (output_of memory.module name ps) (output_path root memory.module name ps) =
    record { formed = (c.requires.module_name, c.requires.function_name, subst (λ (k : List ℕ). IsTrue (is_key (encode_lower k))) keyed c.in-Ok.ensures.formed.2); is = refl } in
    looks_sound a final old new may _ _ c.settle.result (returns-clause-looks g c code 0 ps of keyed) answer trust
