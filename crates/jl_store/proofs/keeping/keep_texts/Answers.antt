use Rattle.std.proofs.Common.{◌≡◌, [], true, refl, ◌∙◌, subst}
use Rattle.jl_folder.specs.declared.moves.Move.TheVariants.{Rename}
use Rattle.jl_folder.specs.State.{is_folder}
use Rattle.jl_folder.specs.Views.{state, moved}
use Rattle.jl_entry.specs.declared.names.EntryFile.TheVariants.{Output, Metadata, Access}
use Rattle.jl_rely.proofs.Since.{goes_then}
use Rattle.jl_rely.proofs.Alone.{lone_parts}
use Rattle.jl_store.specs.Keeping.{IsMakingEntry, lasts_of, entry_path, entry_in, function_path, last_of, temp_of, text_in, AreReady, IsAnyFile, IsReadyToKeep, HasPutAll, HasFiles, KeepsEntry}
use Rattle.jl_store.specs.declared.answer.Keep.TheVariants as keep
use Rattle.jl_store.proofs.Drafts.{history_state}
use Rattle.jl_store.proofs.KeepFacts.{keeps_then, keeps_ends, entry_has, includes_right}
use Rattle.jl_store.proofs.Orders.{order_later, order_before}
use Rattle.jl_store.proofs.InTurn.{make_dir_no_rename, turns_moves, turns_then}
use Rattle.jl_store.proofs.keeping.keep_texts.Goals as goal

pub keep_files-requires-clause-token : goal.keep_files-requires-clause-token
keep_files-requires-clause-token g c = c.make_entry.ensures.frame.token ∙ c.requires.token

pub returns-in-Kept-clause-goes : goal.returns-in-Kept-clause-goes
returns-in-Kept-clause-goes g c t =
    goes_then (g.F.Folder.view c.args.folder.now) (g.F.Folder.view c.make_entry.new.folder) (g.F.Folder.view c.keep_files.new.folder) (c.make_entry.ensures.goes t) (c.keep_files.ensures.goes (c.make_entry.ensures.frame.told t))

pub returns-in-Kept-clause-called : goal.returns-in-Kept-clause-called
returns-in-Kept-clause-called g c t wholes =
    let e = entry_in c.args.memory.now c.args.name.now c.args.key.now.0 in
    let text = text_in c.args.texts.now in
    let old = g.F.Folder.view c.args.folder.now in
    let mid = g.F.Folder.view c.make_entry.new.folder in
    let new = g.F.Folder.view c.keep_files.new.folder in
    let token = old.token in
    let same = c.make_entry.ensures.frame.token in
    keeps_then e text (IsReadyToKeep e) (λ s. is_folder s (function_path e) ≡ true) (AreReady e token IsAnyFile) (HasPutAll e token) (λ steps. Unit {0}) (HasPutAll e token) old mid new c.keep_files.result
    (λ ready. c.in-Kept.ensures.ready t refl ready.0)
    (λ xs ys a b. (
      includes_right (token, Rename (temp_of e token Output) (last_of e Output)) xs ys b.0,
      includes_right (token, Rename (temp_of e token Metadata) (last_of e Metadata)) xs ys b.1,
      includes_right (token, Rename (temp_of e token Access) (last_of e Access)) xs ys b.2,
    ))
    (c.in-Kept.ensures.called t text)
    (subst (λ k. KeepsEntry e text (AreReady e k IsAnyFile) (HasPutAll e k) c.keep_files.result mid new) same (c.keep_files.ensures.called (c.make_entry.ensures.frame.told t) wholes))

pub returns-in-Kept-clause-alone : goal.returns-in-Kept-clause-alone
returns-in-Kept-clause-alone g c t wholes is lone =
    let e = entry_in c.args.memory.now c.args.name.now c.args.key.now.0 in
    let text = text_in c.args.texts.now in
    let old = g.F.Folder.view c.args.folder.now in
    let mid = g.F.Folder.view c.make_entry.new.folder in
    let new = g.F.Folder.view c.keep_files.new.folder in
    let told = c.make_entry.ensures.frame.told t in
    let parts = lone_parts old mid new (c.make_entry.ensures.goes t) (c.keep_files.ensures.goes told) lone in
    let second = subst (λ k. HasFiles e k text IsAnyFile (state mid) (state new)) c.make_entry.ensures.frame.token (c.keep_files.ensures.alone told wholes is parts.1) in
    entry_has e old.token text (state old) (state mid) (state new) (history_state new (g.met.F.Folder.lawful c.keep_files.new.folder (c.keep_files.ensures.frame.told told)))
    (c.in-Kept.ensures.alone t refl parts.0) second

pub returns-in-Skipped-clause-called : goal.returns-in-Skipped-clause-called
returns-in-Skipped-clause-called g c t wholes =
    let e = entry_in c.args.memory.now c.args.name.now c.args.key.now.0 in
    let text = text_in c.args.texts.now in
    let old = g.F.Folder.view c.args.folder.now in
    keeps_ends e text (IsReadyToKeep e) (λ s. is_folder s (function_path e) ≡ true) (HasPutAll e old.token) (λ steps. Unit {0}) old (g.F.Folder.view c.make_entry.new.folder) keep.Skipped (λ s ready. ready.1) (λ (is : keep.Skipped ≡ keep.Kept). cc)
    (c.in-Skipped.ensures.called t text)

pub returns-in-Fault-clause-called : goal.returns-in-Fault-clause-called
returns-in-Fault-clause-called g c t wholes =
    let e = entry_in c.args.memory.now c.args.name.now c.args.key.now.0 in
    let text = text_in c.args.texts.now in
    let old = g.F.Folder.view c.args.folder.now in
    keeps_ends e text (IsReadyToKeep e) (λ s. is_folder s (function_path e) ≡ true) (HasPutAll e old.token) (λ steps. Unit {0}) old (g.F.Folder.view c.make_entry.new.folder) keep.Fault (λ s ready. ready.1) (λ (is : keep.Fault ≡ keep.Kept). cc)
    (c.in-Fault.ensures.called t text)

pub returns-in-NoMemory-clause-called : goal.returns-in-NoMemory-clause-called
returns-in-NoMemory-clause-called g c t wholes =
    let e = entry_in c.args.memory.now c.args.name.now c.args.key.now.0 in
    let text = text_in c.args.texts.now in
    let old = g.F.Folder.view c.args.folder.now in
    keeps_ends e text (IsReadyToKeep e) (λ s. is_folder s (function_path e) ≡ true) (HasPutAll e old.token) (λ steps. Unit {0}) old (g.F.Folder.view c.make_entry.new.folder) keep.NoMemory (λ s ready. ready.1) (λ (is : keep.NoMemory ≡ keep.Kept). cc)
    (c.in-NoMemory.ensures.called t text)

pub returns-in-Kept-clause-order : goal.returns-in-Kept-clause-order
returns-in-Kept-clause-order g c t =
    let e = entry_in c.args.memory.now c.args.name.now c.args.key.now.0 in
    let told = c.make_entry.ensures.frame.told t in
    order_later (IsMakingEntry e) e (IsMakingEntry e) (λ m kind. kind) (g.F.Folder.view c.args.folder.now) (g.F.Folder.view c.make_entry.new.folder) (g.F.Folder.view c.keep_files.new.folder)
    (record { went = c.make_entry.ensures.goes t; own = c.make_entry.ensures.makes t }) (c.keep_files.ensures.goes told) (c.keep_files.ensures.order told)

pub returns-in-Skipped-clause-order : goal.returns-in-Skipped-clause-order
returns-in-Skipped-clause-order g c t =
    let e = entry_in c.args.memory.now c.args.name.now c.args.key.now.0 in
    let old = g.F.Folder.view c.args.folder.now in
    order_before (IsMakingEntry e) e old.token (moved old (g.F.Folder.view c.make_entry.new.folder)) (c.make_entry.ensures.makes t)

pub returns-in-Fault-clause-order : goal.returns-in-Fault-clause-order
returns-in-Fault-clause-order g c t =
    let e = entry_in c.args.memory.now c.args.name.now c.args.key.now.0 in
    let old = g.F.Folder.view c.args.folder.now in
    order_before (IsMakingEntry e) e old.token (moved old (g.F.Folder.view c.make_entry.new.folder)) (c.make_entry.ensures.makes t)

pub returns-in-NoMemory-clause-order : goal.returns-in-NoMemory-clause-order
returns-in-NoMemory-clause-order g c t =
    let e = entry_in c.args.memory.now c.args.name.now c.args.key.now.0 in
    let old = g.F.Folder.view c.args.folder.now in
    order_before (IsMakingEntry e) e old.token (moved old (g.F.Folder.view c.make_entry.new.folder)) (c.make_entry.ensures.makes t)

pub returns-in-Kept-clause-once : goal.returns-in-Kept-clause-once
returns-in-Kept-clause-once g c t =
    let e = entry_in c.args.memory.now c.args.name.now c.args.key.now.0 in
    let old = g.F.Folder.view c.args.folder.now in
    let mid = g.F.Folder.view c.make_entry.new.folder in
    let told = c.make_entry.ensures.frame.told t in
    turns_then [] (lasts_of e) old mid (g.F.Folder.view c.keep_files.new.folder) (c.make_entry.ensures.goes t) (c.keep_files.ensures.goes told)
    (turns_moves [] (IsMakingEntry e) (make_dir_no_rename (entry_path e)) old mid (record { went = c.make_entry.ensures.goes t; own = c.make_entry.ensures.makes t })) (c.keep_files.ensures.once told)

pub returns-in-Skipped-clause-once : goal.returns-in-Skipped-clause-once
returns-in-Skipped-clause-once g c t =
    let e = entry_in c.args.memory.now c.args.name.now c.args.key.now.0 in
    turns_moves (lasts_of e) (IsMakingEntry e) (make_dir_no_rename (entry_path e)) (g.F.Folder.view c.args.folder.now) (g.F.Folder.view c.make_entry.new.folder) (record { went = c.make_entry.ensures.goes t; own = c.make_entry.ensures.makes t })

pub returns-in-Fault-clause-once : goal.returns-in-Fault-clause-once
returns-in-Fault-clause-once g c t =
    let e = entry_in c.args.memory.now c.args.name.now c.args.key.now.0 in
    turns_moves (lasts_of e) (IsMakingEntry e) (make_dir_no_rename (entry_path e)) (g.F.Folder.view c.args.folder.now) (g.F.Folder.view c.make_entry.new.folder) (record { went = c.make_entry.ensures.goes t; own = c.make_entry.ensures.makes t })

pub returns-in-NoMemory-clause-once : goal.returns-in-NoMemory-clause-once
returns-in-NoMemory-clause-once g c t =
    let e = entry_in c.args.memory.now c.args.name.now c.args.key.now.0 in
    turns_moves (lasts_of e) (IsMakingEntry e) (make_dir_no_rename (entry_path e)) (g.F.Folder.view c.args.folder.now) (g.F.Folder.view c.make_entry.new.folder) (record { went = c.make_entry.ensures.goes t; own = c.make_entry.ensures.makes t })
