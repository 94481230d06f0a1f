use Rattle.std.proofs.Common.{◌≡◌, sym, ◌∙◌, subst}
use Rattle.jl_folder.specs.Views.{state}
use Rattle.jl_entry.specs.Moments.{access_text}
use Rattle.jl_entry.specs.declared.names.EntryFile.TheVariants.{Access}
use Rattle.jl_protocol.specs.Whole.{IsWhole}
use Rattle.jl_store.specs.Publishing.{IsPublished}
use Rattle.jl_store.specs.Keeping.{entry_in, file_of, last_of, temp_of, IsReadyFor, IsReadyToTouch, KeepsFile}
use Rattle.jl_store.proofs.KeepFacts.{file_from, nothing_filed}
use Rattle.jl_store.proofs.Wholes.{access_whole}
use Rattle.jl_store.proofs.keeping.touch.Goals as goal

pub keep_file-requires-clause-whole : goal.keep_file-requires-clause-whole
keep_file-requires-clause-whole g c =
    let e = entry_in c.args.memory.now c.args.name.now c.args.key.now.0 in
    subst (IsWhole (file_of e Access)) (sym c.as_slice.ensures) (access_whole e.module_name e.function_name e.key c.in-Ok.bytes c.args.moment c.in-Ok.ensures)

pub returns-in-Ok-clause-called : goal.returns-in-Ok-clause-called
returns-in-Ok-clause-called g c t =
    let e = entry_in c.args.memory.now c.args.name.now c.args.key.now.0 in
    let old = g.F.Folder.view c.args.folder.now in
    let new = g.F.Folder.view c.keep_file.new.folder in
    let same : c.as_slice.result.now ≡ access_text c.args.moment = c.as_slice.ensures ∙ c.in-Ok.ensures.1 in
    let whole = access_whole e.module_name e.function_name e.key c.in-Ok.bytes c.args.moment c.in-Ok.ensures in
    let whole' = subst (IsWhole (file_of e Access)) (sym c.as_slice.ensures) whole in
    file_from e Access old new (access_text c.args.moment) (IsReadyFor e old.token Access) (IsReadyToTouch e) c.keep_file.result
    (λ is ready. c.keep_file.ensures.tidy t whole' is ready)
    (subst (λ b. KeepsFile e Access b (IsReadyFor e old.token Access) c.keep_file.result old new) same (c.keep_file.ensures.called t whole'))

pub returns-in-Ok-clause-alone : goal.returns-in-Ok-clause-alone
returns-in-Ok-clause-alone g c t is lone =
    let e = entry_in c.args.memory.now c.args.name.now c.args.key.now.0 in
    let old = g.F.Folder.view c.args.folder.now in
    let same : c.as_slice.result.now ≡ access_text c.args.moment = c.as_slice.ensures ∙ c.in-Ok.ensures.1 in
    subst (λ b. IsPublished (last_of e Access) (temp_of e old.token Access) b (state old) (state (g.F.Folder.view c.keep_file.new.folder))) same (c.keep_file.ensures.alone t is lone)

pub returns-in-Err-clause-called : goal.returns-in-Err-clause-called
returns-in-Err-clause-called g c t =
    let e = entry_in c.args.memory.now c.args.name.now c.args.key.now.0 in
    nothing_filed e Access (access_text c.args.moment) (IsReadyToTouch e) (g.F.Folder.view c.args.folder.now)
