use Rattle.std.proofs.Common.{◌≡◌, [], ◌∷◌, true, refl, subst, sym}
use Rattle.jl_folder.specs.declared.moves.Move.TheVariants.{Rename}
use Rattle.jl_folder.specs.Views.{state}
use Rattle.jl_folder.proofs.Opens.{IsMade-new}
use Rattle.jl_folder.proofs.ReadingLemmas.{opened_closed}
use Rattle.jl_entry.specs.Names.{IsTemp}
use Rattle.jl_rely.specs.Claims.{Anywhere}
use Rattle.jl_rely.proofs.Since.{goes_then}
use Rattle.jl_rely.proofs.Alone.{lone_parts}
use Rattle.jl_rely.proofs.Moving.{called_moves}
use Rattle.jl_rely.proofs.Composed.{then_called, called_for}
use Rattle.jl_protocol.specs.Tidy.{IsTidy}
use Rattle.jl_protocol.specs.Proper.{IsProper}
use Rattle.jl_protocol.specs.Owned.{IsOwnFile}
use Rattle.jl_store.specs.Kinds.{IsOnName, IsFor, PutsThis}
use Rattle.jl_store.specs.Publishing.{TempLeft}
use Rattle.jl_store.specs.declared.temporary.TempFile.TheVariants as temp_file
use Rattle.jl_store.specs.declared.files.Published.TheVariants as published
use Rattle.jl_store.proofs.InTurn.{on_name_no_rename, turns_moves, turns_then}
use Rattle.jl_store.proofs.KindFacts.{as_publishing}
use Rattle.jl_store.proofs.NamePlaces.{beside, names_apart}
use Rattle.jl_store.proofs.Turning.{turns_next, turns_answers}
use Rattle.jl_store.proofs.Ending.{ends_later, skipped_made, skipped_first}
use Rattle.jl_store.proofs.files.publish.Goals as goal

pub publish_open-requires-clause-apart : goal.publish_open-requires-clause-apart
publish_open-requires-clause-apart g c = names_apart (g.F.Folder.view c.args.folder.now).token c.args.last.now c.args.temp.now c.args.bytes.now c.requires

pub publish_open-requires-clause-made : goal.publish_open-requires-clause-made
publish_open-requires-clause-made g c = IsMade-new c.in-File.number.0 (g.F.Folder.view c.args.folder.now).opens (g.F.Folder.view c.create_temp.new.folder).opens c.in-File.ensures.opens

pub returns-in-File-clause-goes : goal.returns-in-File-clause-goes
returns-in-File-clause-goes g c t =
    goes_then (g.F.Folder.view c.args.folder.now) (g.F.Folder.view c.create_temp.new.folder) (g.F.Folder.view c.publish_open.new.folder) (c.create_temp.ensures.goes t) (c.publish_open.ensures.goes (c.create_temp.ensures.frame.told t))

pub returns-in-Fault-clause-goes : goal.returns-in-Fault-clause-goes
returns-in-Fault-clause-goes g c t =
    goes_then (g.F.Folder.view c.args.folder.now) (g.F.Folder.view c.create_temp.new.folder) (g.F.Folder.view c.abandon.new.folder) (c.create_temp.ensures.goes t) (c.abandon.ensures.goes (c.create_temp.ensures.frame.told t))

pub returns-in-File-clause-called : goal.returns-in-File-clause-called
returns-in-File-clause-called g c t root x is_temp is_final whole =
    let last = c.args.last.now in
    let temp = c.args.temp.now in
    let bytes = c.args.bytes.now in
    let old = g.F.Folder.view c.args.folder.now in
    let mid = g.F.Folder.view c.create_temp.new.folder in
    let new = g.F.Folder.view c.publish_open.new.folder in
    let told = c.create_temp.ensures.frame.told t in
    let number = c.in-File.number in
    let made = IsMade-new number.0 old.opens mid.opens c.in-File.ensures.opens in
    let file = made.0 in
    let first = c.in-File.ensures.called t root x is_temp in
    let is_temp' = subst (λ k. IsTemp root x k temp) (sym c.create_temp.ensures.frame.token) is_temp in
    record {
      call =
          then_called (IsProper root) (PutsThis root last bytes) (IsFor last temp) (IsTidy root) (IsOwnFile mid.token temp file.node []) Anywhere old mid new
          (as_publishing root last temp bytes (IsOnName temp) (IsTidy root) (IsOwnFile mid.token temp file.node []) old mid (λ m is. is)
          (called_for (IsProper root) (IsProper root) (IsOnName temp) (IsOnName temp) (IsTidy root) (IsTidy root) (TempLeft temp (temp_file.File number) mid) (IsOwnFile mid.token temp file.node []) old mid
          (λ m is. is) (λ s tidy. tidy) (λ s left. left file made.1) first))
          (c.publish_open.ensures.called told file made.1 root x is_temp' is_final whole);
      once = turns_then [] (last ∷ []) old mid new (c.create_temp.ensures.goes t) (c.publish_open.ensures.goes told)
          (turns_moves [] (IsOnName temp) (on_name_no_rename temp) old mid (called_moves (IsProper root) (IsProper root) (IsOnName temp) (IsTidy root) _ old mid first))
          (c.publish_open.ensures.once told file made.1 root x is_temp');
      skipped = λ skipped ready.
          skipped_made last temp old mid new (names_apart old.token last temp bytes c.requires) (beside root x old.token last temp is_temp is_final)
          (called_moves (IsProper root) (IsProper root) (IsOnName temp) (IsTidy root) _ old mid first) (c.publish_open.ensures.goes told)
          (c.publish_open.ensures.skipped told skipped root x is_temp' is_final file made.1 file.node (c.in-File.ensures.named t file made.1))
          ready.last_free ready.home;
    }

pub returns-in-Skipped-clause-called : goal.returns-in-Skipped-clause-called
returns-in-Skipped-clause-called g c t root x is_temp is_final whole =
    let last = c.args.last.now in
    let temp = c.args.temp.now in
    let old = g.F.Folder.view c.args.folder.now in
    let new = g.F.Folder.view c.create_temp.new.folder in
    record {
      call = as_publishing root last temp c.args.bytes.now (IsOnName temp) (IsTidy root) Anywhere old new (λ m is. is) (c.in-Skipped.ensures.called t root x is_temp);
      once = turns_moves (last ∷ []) (IsOnName temp) (on_name_no_rename temp) old new (called_moves (IsProper root) (IsProper root) (IsOnName temp) (IsTidy root) _ old new (c.in-Skipped.ensures.called t root x is_temp));
      skipped = λ skipped ready. skipped_first last temp old new (beside root x old.token last temp is_temp is_final) (c.in-Skipped.ensures.skipped t refl) ready.temp_free ready.home;
    }

pub returns-in-Fault-clause-called : goal.returns-in-Fault-clause-called
returns-in-Fault-clause-called g c t root x is_temp is_final whole =
    let last = c.args.last.now in
    let temp = c.args.temp.now in
    let bytes = c.args.bytes.now in
    let old = g.F.Folder.view c.args.folder.now in
    let mid = g.F.Folder.view c.create_temp.new.folder in
    let new = g.F.Folder.view c.abandon.new.folder in
    let is_temp' = subst (λ k. IsTemp root x k temp) (sym c.create_temp.ensures.frame.token) is_temp in
    record {
      call =
          then_called (IsProper root) (PutsThis root last bytes) (IsFor last temp) (IsTidy root) Anywhere Anywhere old mid new
          (as_publishing root last temp bytes (IsOnName temp) (IsTidy root) Anywhere old mid (λ m is. is) (c.in-Fault.ensures.called t root x is_temp))
          (as_publishing root last temp bytes (IsOnName temp) Anywhere Anywhere mid new (λ m is. is) (c.abandon.ensures.called (c.create_temp.ensures.frame.told t) root x is_temp'));
      once = turns_then (last ∷ []) [] old mid new (c.create_temp.ensures.goes t) (c.abandon.ensures.goes (c.create_temp.ensures.frame.told t))
          (turns_moves (last ∷ []) (IsOnName temp) (on_name_no_rename temp) old mid (called_moves (IsProper root) (IsProper root) (IsOnName temp) (IsTidy root) _ old mid (c.in-Fault.ensures.called t root x is_temp)))
          (turns_moves [] (IsOnName temp) (on_name_no_rename temp) mid new (called_moves (IsProper root) (IsProper root) (IsOnName temp) Anywhere Anywhere mid new (c.abandon.ensures.called (c.create_temp.ensures.frame.told t) root x is_temp')));
      skipped = λ (skipped : published.Fault ≡ published.Skipped). cc;
    }

pub returns-in-NoMemory-clause-called : goal.returns-in-NoMemory-clause-called
returns-in-NoMemory-clause-called g c t root x is_temp is_final whole =
    record {
      call = as_publishing root c.args.last.now c.args.temp.now c.args.bytes.now (IsOnName c.args.temp.now) (IsTidy root) Anywhere (g.F.Folder.view c.args.folder.now) (g.F.Folder.view c.create_temp.new.folder) (λ m is. is) (c.in-NoMemory.ensures.called t root x is_temp);
      once =
          let temp = c.args.temp.now in
          let old = g.F.Folder.view c.args.folder.now in
          let new = g.F.Folder.view c.create_temp.new.folder in
          turns_moves (c.args.last.now ∷ []) (IsOnName temp) (on_name_no_rename temp) old new (called_moves (IsProper root) (IsProper root) (IsOnName temp) (IsTidy root) _ old new (c.in-NoMemory.ensures.called t root x is_temp));
      skipped = λ (skipped : published.NoMemory ≡ published.Skipped). cc;
    }

pub returns-in-File-clause-done : goal.returns-in-File-clause-done
returns-in-File-clause-done g c t done =
    let told = c.create_temp.ensures.frame.told t in
    ends_later (Rename c.args.temp.now c.args.last.now) (g.F.Folder.view c.args.folder.now) (g.F.Folder.view c.create_temp.new.folder) (g.F.Folder.view c.publish_open.new.folder)
    (c.create_temp.ensures.goes t) (c.publish_open.ensures.goes told) (c.publish_open.ensures.done told done)

pub returns-in-File-clause-alone : goal.returns-in-File-clause-alone
returns-in-File-clause-alone g c t done lone =
    let old = g.F.Folder.view c.args.folder.now in
    let mid = g.F.Folder.view c.create_temp.new.folder in
    let told = c.create_temp.ensures.frame.told t in
    let made = IsMade-new c.in-File.number.0 old.opens mid.opens c.in-File.ensures.opens in
    let parts = lone_parts old mid (g.F.Folder.view c.publish_open.new.folder) (c.create_temp.ensures.goes t) (c.publish_open.ensures.goes told) lone in
    c.publish_open.ensures.alone told done made.0 made.1 (state old) parts.1 (c.in-File.ensures.alone t parts.0 made.0 made.1)

pub returns-in-File-clause-frame : goal.returns-in-File-clause-frame
returns-in-File-clause-frame g c =
    let old = g.F.Folder.view c.args.folder.now in
    let mid = g.F.Folder.view c.create_temp.new.folder in
    let new = g.F.Folder.view c.publish_open.new.folder in
    turns_answers old new (turns_next old mid new c.create_temp.ensures.frame (λ failed. cc) c.publish_open.ensures.frame (λ failed. failed) (λ failed. failed))
    (opened_closed true c.in-File.number.0 old.opens mid.opens new.opens c.in-File.ensures.opens c.publish_open.ensures.opens)
