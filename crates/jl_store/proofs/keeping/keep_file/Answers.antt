use Rattle.std.proofs.Common.{sym, subst, ◌∙◌}
use Rattle.jl_folder.specs.Views.{state}
use Rattle.jl_folder.proofs.Frames.{answers_as}
use Rattle.jl_entry.specs.Names.{IsTemp}
use Rattle.jl_store.specs.Keeping.{entry_in, file_of, KeepsFile, IsReadyFor}
use Rattle.jl_store.specs.declared.answer.Keep.{Keep}
use Rattle.jl_store.proofs.KeepFacts.{file_keeps, file_published, nothing_filed, done_if, fault_if, if_fault, touch_ready}
use Rattle.jl_store.proofs.keeping.keep_file.Goals as goal

pub publish-requires : goal.publish-requires
publish-requires g c =
    let e = entry_in c.args.memory.now c.args.name.now c.args.key.now.0 in
    let x = file_of e c.args.file in
    (e.root, x, subst (λ k. IsTemp e.root x k c.in-Ok.names.temp) (sym c.requires.token) c.in-Ok.ensures.temp, c.in-Ok.ensures.last, c.requires.whole)

pub returns-in-Ok-clause-frame : goal.returns-in-Ok-clause-frame
returns-in-Ok-clause-frame g c =
    answers_as (g.F.Folder.view c.args.folder.now) (g.F.Folder.view c.publish.new.folder) c.publish.ensures.frame
    (λ is. fault_if c.publish.result (sym c.as_keep.ensures ∙ is)) (λ is. c.as_keep.ensures ∙ if_fault c.publish.result is)

pub returns-in-Ok-clause-called : goal.returns-in-Ok-clause-called
returns-in-Ok-clause-called g c t whole =
    let e = entry_in c.args.memory.now c.args.name.now c.args.key.now.0 in
    let old = g.F.Folder.view c.args.folder.now in
    let new = g.F.Folder.view c.publish.new.folder in
    let is_temp = subst (λ k. IsTemp e.root (file_of e c.args.file) k c.in-Ok.names.temp) (sym c.requires.token) c.in-Ok.ensures.temp in
    subst (λ (r : Keep). KeepsFile e c.args.file c.args.bytes.now (IsReadyFor e old.token c.args.file) r old new) (sym c.as_keep.ensures)
    (file_keeps e c.args.file old new c.in-Ok.names.last c.in-Ok.names.temp c.args.bytes.now c.publish.result c.in-Ok.ensures.last is_temp
    (c.publish.ensures.called t e.root (file_of e c.args.file) is_temp c.in-Ok.ensures.last whole) (c.publish.ensures.done t))

pub returns-in-Ok-clause-alone : goal.returns-in-Ok-clause-alone
returns-in-Ok-clause-alone g c t is lone =
    let e = entry_in c.args.memory.now c.args.name.now c.args.key.now.0 in
    let is_temp = subst (λ k. IsTemp e.root (file_of e c.args.file) k c.in-Ok.names.temp) (sym c.requires.token) c.in-Ok.ensures.temp in
    file_published e c.args.file (g.F.Folder.view c.args.folder.now) (g.F.Folder.view c.publish.new.folder) c.in-Ok.names.last c.in-Ok.names.temp c.args.bytes.now c.in-Ok.ensures.last is_temp
    (c.publish.ensures.alone t (done_if c.publish.result (sym c.as_keep.ensures ∙ is)) lone)

pub returns-in-Err-clause-called : goal.returns-in-Err-clause-called
returns-in-Err-clause-called g c t whole =
    let e = entry_in c.args.memory.now c.args.name.now c.args.key.now.0 in
    let old = g.F.Folder.view c.args.folder.now in
    nothing_filed e c.args.file c.args.bytes.now (IsReadyFor e old.token c.args.file) old

pub returns-in-Ok-clause-tidy : goal.returns-in-Ok-clause-tidy
returns-in-Ok-clause-tidy g c t whole is ready =
    let e = entry_in c.args.memory.now c.args.name.now c.args.key.now.0 in
    let old = g.F.Folder.view c.args.folder.now in
    let is_temp = subst (λ k. IsTemp e.root (file_of e c.args.file) k c.in-Ok.names.temp) (sym c.requires.token) c.in-Ok.ensures.temp in
    let keeps = file_keeps e c.args.file old (g.F.Folder.view c.publish.new.folder) c.in-Ok.names.last c.in-Ok.names.temp c.args.bytes.now c.publish.result c.in-Ok.ensures.last is_temp
    (c.publish.ensures.called t e.root (file_of e c.args.file) is_temp c.in-Ok.ensures.last whole) (c.publish.ensures.done t) in
    keeps.skipped (sym c.as_keep.ensures ∙ is) (touch_ready e old.token c.in-Ok.ensures.last.formed is_temp.of_token c.args.file (state old) ready)
