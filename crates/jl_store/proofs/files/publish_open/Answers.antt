-- A temporary file is filled, and then renamed to the final name, or removed where a fault came.
use Rattle.std.proofs.Common.{ℕ, List, [], ◌∷◌, subst, sym}
use Rattle.jl_text.specs.Paths.{PathView}
use Rattle.jl_folder.specs.declared.moves.Move.TheVariants.{Rename}
use Rattle.jl_folder.specs.State.{State}
use Rattle.jl_folder.specs.Views.{FolderView, state, moved}
use Rattle.jl_entry.specs.Names.{IsTemp}
use Rattle.jl_rely.specs.Claims.{Called, Anywhere}
use Rattle.jl_rely.proofs.Since.{goes_then}
use Rattle.jl_rely.proofs.Alone.{lone_parts}
use Rattle.jl_rely.proofs.Moving.{called_moves}
use Rattle.jl_rely.proofs.Composed.{then_called}
use Rattle.jl_protocol.specs.Proper.{IsProper}
use Rattle.jl_protocol.specs.Owned.{IsOwnFile}
use Rattle.jl_store.specs.Kinds.{IsAppend, IsOnName, IsFor, PutsThis}
use Rattle.jl_store.specs.Publishing.{IsDraft, IsPublished}
use Rattle.jl_store.specs.Renames.{PutsInTurn}
use Rattle.jl_store.proofs.InTurn.{append_no_rename, on_name_no_rename, turns_moves, turns_then}
use Rattle.jl_store.proofs.KindFacts.{as_publishing, append_on_name}
use Rattle.jl_store.proofs.Ending.{ends_later, skipped_filled}
use Rattle.jl_store.proofs.files.publish_open.Goals as goal

-- filling the temporary file renames nothing, so it puts no name in place
fill_turns : (lasts : List PathView) (root temp : PathView) (node : ℕ) (Then : State → Type 0)
    (old mid : FolderView)
    → Called (IsProper root) (IsProper root) IsAppend (IsOwnFile old.token temp node []) Then old mid
    → PutsInTurn lasts old.token (moved old mid)
fill_turns lasts root temp node Then old mid filled =
    turns_moves lasts IsAppend append_no_rename old mid
    (called_moves (IsProper root) (IsProper root) IsAppend (IsOwnFile old.token temp node []) Then
    old mid filled)

-- ---- the moves

-- the bytes were written, then the file put in place: the folder goes on through both
pub returns-in-All-clause-goes : goal.returns-in-All-clause-goes
returns-in-All-clause-goes g c t =
    let old = g.F.Folder.view c.args.folder.now in
    let mid = g.F.Folder.view c.fill.new.folder in
    let new = g.F.Folder.view c.put_in_place.new.folder in
    goes_then old mid new (c.fill.ensures.goes t)
    (c.put_in_place.ensures.goes (c.fill.ensures.frame.told t))

-- a fault came while they were written, then the file was given up
pub returns-in-Fault-clause-goes : goal.returns-in-Fault-clause-goes
returns-in-Fault-clause-goes g c t =
    let old = g.F.Folder.view c.args.folder.now in
    let mid = g.F.Folder.view c.fill.new.folder in
    let new = g.F.Folder.view c.abandon.new.folder in
    goes_then old mid new (c.fill.ensures.goes t)
    (c.abandon.ensures.goes (c.fill.ensures.frame.told t))

-- filling leaves an own file with these bytes, which is what putting it in place asks for
pub returns-in-All-clause-called : goal.returns-in-All-clause-called
returns-in-All-clause-called g c t file is root x is_temp is_final whole =
    let last = c.args.last.now in
    let temp = c.args.temp.now in
    let bytes = c.args.bytes.now in
    let old = g.F.Folder.view c.args.folder.now in
    let mid = g.F.Folder.view c.fill.new.folder in
    let new = g.F.Folder.view c.put_in_place.new.folder in
    let same = c.fill.ensures.frame.token in
    let Empty = IsOwnFile old.token temp file.node [] in
    let Full = IsOwnFile old.token temp file.node bytes in
    let filled = c.in-All.ensures.called t file is temp [] root x is_temp in
    let put = subst
    (λ k.
    Called (IsProper root) (PutsThis root last bytes) (IsFor last temp)
    (IsOwnFile k temp file.node bytes) Anywhere mid new)
    same
    (c.put_in_place.ensures.called (c.fill.ensures.frame.told t) root x file.node bytes
    (subst (λ k. IsTemp root x k temp) (sym same) is_temp) is_final whole) in
    then_called (IsProper root) (PutsThis root last bytes) (IsFor last temp) Empty Full Anywhere
    old mid new
    (as_publishing root last temp bytes IsAppend Empty Full old mid (append_on_name temp) filled)
    put

-- filling and giving up are both kinds of publishing
pub returns-in-Fault-clause-called : goal.returns-in-Fault-clause-called
returns-in-Fault-clause-called g c t file is root x is_temp is_final whole =
    let last = c.args.last.now in
    let temp = c.args.temp.now in
    let bytes = c.args.bytes.now in
    let old = g.F.Folder.view c.args.folder.now in
    let mid = g.F.Folder.view c.fill.new.folder in
    let new = g.F.Folder.view c.abandon.new.folder in
    let Empty = IsOwnFile old.token temp file.node [] in
    let filled = c.in-Fault.ensures.called t file is temp [] root x is_temp in
    let is_temp' = subst (λ k. IsTemp root x k temp) (sym c.fill.ensures.frame.token) is_temp in
    then_called (IsProper root) (PutsThis root last bytes) (IsFor last temp) Empty Anywhere Anywhere
    old mid new
    (as_publishing root last temp bytes IsAppend Empty Anywhere old mid (append_on_name temp) filled)
    (as_publishing root last temp bytes (IsOnName temp) Anywhere Anywhere mid new (λ m is. is)
    (c.abandon.ensures.called (c.fill.ensures.frame.told t) root x is_temp'))

-- without memory the file is left as far as it was filled
pub returns-in-NoMemory-clause-called : goal.returns-in-NoMemory-clause-called
returns-in-NoMemory-clause-called g c t file is root x is_temp is_final whole =
    let temp = c.args.temp.now in
    let old = g.F.Folder.view c.args.folder.now in
    let mid = g.F.Folder.view c.fill.new.folder in
    as_publishing root c.args.last.now temp c.args.bytes.now IsAppend
    (IsOwnFile old.token temp file.node []) Anywhere old mid (append_on_name temp)
    (c.in-NoMemory.ensures.called t file is temp [] root x is_temp)

-- ---- its answer

-- the rename that ends putting in place ends the whole
pub returns-in-All-clause-done : goal.returns-in-All-clause-done
returns-in-All-clause-done g c t done =
    let old = g.F.Folder.view c.args.folder.now in
    let mid = g.F.Folder.view c.fill.new.folder in
    let new = g.F.Folder.view c.put_in_place.new.folder in
    let told = c.fill.ensures.frame.told t in
    ends_later (Rename c.args.temp.now c.args.last.now) old mid new
    (c.fill.ensures.goes t) (c.put_in_place.ensures.goes told)
    (c.put_in_place.ensures.done told done)

-- putting in place was skipped, for another's move that came during it or while the file was filled
pub returns-in-All-clause-skipped : goal.returns-in-All-clause-skipped
returns-in-All-clause-skipped g c t skipped root x is_temp is_final file is n named free was =
    let temp = c.args.temp.now in
    let old = g.F.Folder.view c.args.folder.now in
    let mid = g.F.Folder.view c.fill.new.folder in
    let new = g.F.Folder.view c.put_in_place.new.folder in
    let told = c.fill.ensures.frame.told t in
    skipped_filled c.args.last.now temp old mid new
    (called_moves (IsProper root) (IsProper root) IsAppend (IsOwnFile old.token temp file.node []) _
    old mid (c.in-All.ensures.called t file is temp [] root x is_temp))
    (c.put_in_place.ensures.goes told) (c.put_in_place.ensures.skipped told skipped)
    n named free was

-- alone, the empty draft is filled, and the full one is put in place
pub returns-in-All-clause-alone : goal.returns-in-All-clause-alone
returns-in-All-clause-alone g c t done file is before lone draft =
    let last = c.args.last.now in
    let temp = c.args.temp.now in
    let bytes = c.args.bytes.now in
    let old = g.F.Folder.view c.args.folder.now in
    let mid = g.F.Folder.view c.fill.new.folder in
    let new = g.F.Folder.view c.put_in_place.new.folder in
    let told = c.fill.ensures.frame.told t in
    let parts = lone_parts old mid new (c.fill.ensures.goes t) (c.put_in_place.ensures.goes told)
    lone in
    let filled = c.in-All.ensures.alone t file is temp [] before parts.0 draft in
    let put = subst
    (λ k.
    IsDraft k temp file.node bytes before (state mid)
    → IsPublished last temp bytes before (state new))
    c.fill.ensures.frame.token
    (c.put_in_place.ensures.alone told done file.node bytes before parts.1) in
    put filled

-- ---- the final name is put in place at most once

-- not by filling, and at most once by what comes after
pub returns-in-All-clause-once : goal.returns-in-All-clause-once
returns-in-All-clause-once g c t file is root x is_temp =
    let temp = c.args.temp.now in
    let old = g.F.Folder.view c.args.folder.now in
    let mid = g.F.Folder.view c.fill.new.folder in
    let new = g.F.Folder.view c.put_in_place.new.folder in
    let told = c.fill.ensures.frame.told t in
    let is_temp' = subst (λ k. IsTemp root x k temp) (sym c.fill.ensures.frame.token) is_temp in
    turns_then [] (c.args.last.now ∷ []) old mid new
    (c.fill.ensures.goes t) (c.put_in_place.ensures.goes told)
    (fill_turns [] root temp file.node _ old mid
    (c.in-All.ensures.called t file is temp [] root x is_temp))
    (c.put_in_place.ensures.once told root x is_temp')

-- neither by filling nor by giving up
pub returns-in-Fault-clause-once : goal.returns-in-Fault-clause-once
returns-in-Fault-clause-once g c t file is root x is_temp =
    let last = c.args.last.now in
    let temp = c.args.temp.now in
    let old = g.F.Folder.view c.args.folder.now in
    let mid = g.F.Folder.view c.fill.new.folder in
    let new = g.F.Folder.view c.abandon.new.folder in
    let told = c.fill.ensures.frame.told t in
    let is_temp' = subst (λ k. IsTemp root x k temp) (sym c.fill.ensures.frame.token) is_temp in
    turns_then (last ∷ []) [] old mid new (c.fill.ensures.goes t) (c.abandon.ensures.goes told)
    (fill_turns (last ∷ []) root temp file.node _ old mid
    (c.in-Fault.ensures.called t file is temp [] root x is_temp))
    (turns_moves [] (IsOnName temp) (on_name_no_rename temp) mid new
    (called_moves (IsProper root) (IsProper root) (IsOnName temp) Anywhere Anywhere mid new
    (c.abandon.ensures.called told root x is_temp')))

-- not by filling
pub returns-in-NoMemory-clause-once : goal.returns-in-NoMemory-clause-once
returns-in-NoMemory-clause-once g c t file is root x is_temp =
    let temp = c.args.temp.now in
    let old = g.F.Folder.view c.args.folder.now in
    let mid = g.F.Folder.view c.fill.new.folder in
    fill_turns (c.args.last.now ∷ []) root temp file.node _ old mid
    (c.in-NoMemory.ensures.called t file is temp [] root x is_temp)
