use Rattle.jl_rely.specs.Claims.{Anywhere}
use Rattle.std.proofs.Common.{[], ◌∷◌, subst, sym}
use Rattle.jl_entry.specs.Names.{IsTemp}
use Rattle.jl_rely.proofs.Since.{goes_then}
use Rattle.jl_rely.proofs.Moving.{called_moves}
use Rattle.jl_rely.proofs.Composed.{goes_call, then_called}
use Rattle.jl_protocol.specs.Proper.{IsProper}
use Rattle.jl_protocol.specs.Owned.{IsOwnFile}
use Rattle.jl_store.specs.Kinds.{IsOnName, IsFor, PutsThis}
use Rattle.jl_store.proofs.InTurn.{on_name_no_rename, rename_once, turns_moves, turns_then}
use Rattle.jl_store.proofs.KindFacts.{as_publishing}
use Rattle.jl_store.proofs.Ending.{rename_called, rename_ends, rename_alone, no_file, no_parent, blocked}
use Rattle.jl_store.proofs.files.put_in_place.Goals as goal

pub returns-in-Done-clause-goes : goal.returns-in-Done-clause-goes
returns-in-Done-clause-goes g c t = goes_call _ _ _ c.rename.ensures.frame.token (c.rename.ensures.call t)

pub returns-in-Done-clause-called : goal.returns-in-Done-clause-called
returns-in-Done-clause-called g c t root x n bytes is_temp is_final whole =
    rename_called c.args.last.now c.args.temp.now (g.F.Folder.view c.args.folder.now) (g.F.Folder.view c.rename.new.self) root x n bytes is_temp is_final whole c.rename.ensures.frame.token c.rename.result (c.rename.ensures.call t)

pub returns-in-NoFile-clause-goes : goal.returns-in-NoFile-clause-goes
returns-in-NoFile-clause-goes g c t = goes_call _ _ _ c.rename.ensures.frame.token (c.rename.ensures.call t)

pub returns-in-NoFile-clause-called : goal.returns-in-NoFile-clause-called
returns-in-NoFile-clause-called g c t root x n bytes is_temp is_final whole =
    rename_called c.args.last.now c.args.temp.now (g.F.Folder.view c.args.folder.now) (g.F.Folder.view c.rename.new.self) root x n bytes is_temp is_final whole c.rename.ensures.frame.token c.rename.result (c.rename.ensures.call t)

pub returns-in-NoParent-clause-goes : goal.returns-in-NoParent-clause-goes
returns-in-NoParent-clause-goes g c t = goes_call _ _ _ c.rename.ensures.frame.token (c.rename.ensures.call t)

pub returns-in-NoParent-clause-called : goal.returns-in-NoParent-clause-called
returns-in-NoParent-clause-called g c t root x n bytes is_temp is_final whole =
    rename_called c.args.last.now c.args.temp.now (g.F.Folder.view c.args.folder.now) (g.F.Folder.view c.rename.new.self) root x n bytes is_temp is_final whole c.rename.ensures.frame.token c.rename.result (c.rename.ensures.call t)

pub returns-in-Blocked-clause-goes : goal.returns-in-Blocked-clause-goes
returns-in-Blocked-clause-goes g c t = goes_call _ _ _ c.rename.ensures.frame.token (c.rename.ensures.call t)

pub returns-in-Blocked-clause-called : goal.returns-in-Blocked-clause-called
returns-in-Blocked-clause-called g c t root x n bytes is_temp is_final whole =
    rename_called c.args.last.now c.args.temp.now (g.F.Folder.view c.args.folder.now) (g.F.Folder.view c.rename.new.self) root x n bytes is_temp is_final whole c.rename.ensures.frame.token c.rename.result (c.rename.ensures.call t)

pub returns-in-NoMemory-clause-goes : goal.returns-in-NoMemory-clause-goes
returns-in-NoMemory-clause-goes g c t = goes_call _ _ _ c.rename.ensures.frame.token (c.rename.ensures.call t)

pub returns-in-NoMemory-clause-called : goal.returns-in-NoMemory-clause-called
returns-in-NoMemory-clause-called g c t root x n bytes is_temp is_final whole =
    rename_called c.args.last.now c.args.temp.now (g.F.Folder.view c.args.folder.now) (g.F.Folder.view c.rename.new.self) root x n bytes is_temp is_final whole c.rename.ensures.frame.token c.rename.result (c.rename.ensures.call t)

pub returns-in-Done-clause-done : goal.returns-in-Done-clause-done
returns-in-Done-clause-done g c t done = rename_ends c.args.last.now c.args.temp.now (g.F.Folder.view c.args.folder.now) (g.F.Folder.view c.rename.new.self) (c.in-Done.ensures.call t)

pub returns-in-Done-clause-alone : goal.returns-in-Done-clause-alone
returns-in-Done-clause-alone g c t done n bytes before lone draft = rename_alone c.args.last.now c.args.temp.now (g.F.Folder.view c.args.folder.now) (g.F.Folder.view c.rename.new.self) c.requires (c.in-Done.ensures.call t) n bytes before lone draft

pub returns-in-NoFile-clause-skipped : goal.returns-in-NoFile-clause-skipped
returns-in-NoFile-clause-skipped g c t skipped n named free was = no_file c.args.last.now c.args.temp.now (g.F.Folder.view c.args.folder.now) (g.F.Folder.view c.rename.new.self) n named (c.in-NoFile.ensures.call t)

pub returns-in-NoParent-clause-skipped : goal.returns-in-NoParent-clause-skipped
returns-in-NoParent-clause-skipped g c t skipped n named free was = no_parent c.args.last.now c.args.temp.now (g.F.Folder.view c.args.folder.now) (g.F.Folder.view c.rename.new.self) was (c.in-NoParent.ensures.call t)

pub returns-in-Blocked-clause-skipped : goal.returns-in-Blocked-clause-skipped
returns-in-Blocked-clause-skipped g c t skipped n named free was = blocked c.args.last.now c.args.temp.now (g.F.Folder.view c.args.folder.now) (g.F.Folder.view c.rename.new.self) free (c.in-Blocked.ensures.call t)

pub returns-in-Failed-clause-goes : goal.returns-in-Failed-clause-goes
returns-in-Failed-clause-goes g c t =
    let old = g.F.Folder.view c.args.folder.now in
    let mid = g.F.Folder.view c.rename.new.self in
    goes_then old mid (g.F.Folder.view c.abandon.new.folder) (goes_call old mid _ c.rename.ensures.frame.token (c.rename.ensures.call t)) (c.abandon.ensures.goes (c.rename.ensures.frame.told t))

pub returns-in-Failed-clause-called : goal.returns-in-Failed-clause-called
returns-in-Failed-clause-called g c t root x n bytes is_temp is_final whole =
    let last = c.args.last.now in
    let temp = c.args.temp.now in
    let old = g.F.Folder.view c.args.folder.now in
    let mid = g.F.Folder.view c.rename.new.self in
    let new = g.F.Folder.view c.abandon.new.folder in
    let is_temp' = subst (λ k. IsTemp root x k temp) (sym c.rename.ensures.frame.token) is_temp in
    then_called (IsProper root) (PutsThis root last bytes) (IsFor last temp) (IsOwnFile old.token temp n bytes) Anywhere Anywhere old mid new
    (rename_called last temp old mid root x n bytes is_temp is_final whole c.rename.ensures.frame.token c.rename.result (c.rename.ensures.call t))
    (as_publishing root last temp bytes (IsOnName temp) Anywhere Anywhere mid new (λ m is. is) (c.abandon.ensures.called (c.rename.ensures.frame.told t) root x is_temp'))

pub returns-in-Done-clause-once : goal.returns-in-Done-clause-once
returns-in-Done-clause-once g c t root x is_temp = rename_once c.args.last.now c.args.temp.now (g.F.Folder.view c.args.folder.now) (g.F.Folder.view c.rename.new.self) c.rename.result (c.rename.ensures.call t)

pub returns-in-NoFile-clause-once : goal.returns-in-NoFile-clause-once
returns-in-NoFile-clause-once g c t root x is_temp = rename_once c.args.last.now c.args.temp.now (g.F.Folder.view c.args.folder.now) (g.F.Folder.view c.rename.new.self) c.rename.result (c.rename.ensures.call t)

pub returns-in-NoParent-clause-once : goal.returns-in-NoParent-clause-once
returns-in-NoParent-clause-once g c t root x is_temp = rename_once c.args.last.now c.args.temp.now (g.F.Folder.view c.args.folder.now) (g.F.Folder.view c.rename.new.self) c.rename.result (c.rename.ensures.call t)

pub returns-in-Blocked-clause-once : goal.returns-in-Blocked-clause-once
returns-in-Blocked-clause-once g c t root x is_temp = rename_once c.args.last.now c.args.temp.now (g.F.Folder.view c.args.folder.now) (g.F.Folder.view c.rename.new.self) c.rename.result (c.rename.ensures.call t)

pub returns-in-NoMemory-clause-once : goal.returns-in-NoMemory-clause-once
returns-in-NoMemory-clause-once g c t root x is_temp = rename_once c.args.last.now c.args.temp.now (g.F.Folder.view c.args.folder.now) (g.F.Folder.view c.rename.new.self) c.rename.result (c.rename.ensures.call t)

pub returns-in-Failed-clause-once : goal.returns-in-Failed-clause-once
returns-in-Failed-clause-once g c t root x is_temp =
    let last = c.args.last.now in
    let temp = c.args.temp.now in
    let old = g.F.Folder.view c.args.folder.now in
    let mid = g.F.Folder.view c.rename.new.self in
    let new = g.F.Folder.view c.abandon.new.folder in
    let told = c.rename.ensures.frame.told t in
    let is_temp' = subst (λ k. IsTemp root x k temp) (sym c.rename.ensures.frame.token) is_temp in
    turns_then (last ∷ []) [] old mid new (goes_call old mid _ c.rename.ensures.frame.token (c.rename.ensures.call t)) (c.abandon.ensures.goes told)
    (rename_once last temp old mid c.rename.result (c.rename.ensures.call t))
    (turns_moves [] (IsOnName temp) (on_name_no_rename temp) mid new (called_moves (IsProper root) (IsProper root) (IsOnName temp) Anywhere Anywhere mid new (c.abandon.ensures.called told root x is_temp')))
