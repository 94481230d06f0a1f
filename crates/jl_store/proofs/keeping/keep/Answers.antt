use Rattle.std.proofs.Common.{◌≡◌, ℕ, List, ap, subst}
use Rattle.hex.specs.Hex.{encode_lower}
use Rattle.jl_folder.specs.Views.{state, moved}
use Rattle.jl_value.specs.Form.{tree_of}
use Rattle.jl_value.specs.Key.{key_of}
use Rattle.jl_store.specs.Keeping.{IsMakingEntry, lasts_of, InOrder, entry_in, texts, text_in, IsReadyToKeep, HasPutAll, HasEntry, KeepsEntry}
use Rattle.jl_store.proofs.KeepFacts.{nothing_keeps}
use Rattle.jl_store.proofs.Orders.{order_none}
use Rattle.jl_store.specs.Renames.{PutsInTurn}
use Rattle.jl_store.proofs.InTurn.{turns_none}
use Rattle.jl_store.proofs.keeping.keep.Goals as goal

pub returns-in-Err-clause-called : goal.returns-in-Err-clause-called
returns-in-Err-clause-called g c t =
    let e = entry_in c.args.memory.now c.args.name.now (key_of c.args.args.now) in
    let old = g.F.Folder.view c.args.folder.now in
    nothing_keeps e (texts c.args.code.now c.args.args.now (tree_of c.args.value.now) c.args.duration c.args.moment) (IsReadyToKeep e) (HasPutAll e old.token) old

pub returns-in-Err-clause-order : goal.returns-in-Err-clause-order
returns-in-Err-clause-order g c t =
    let e = entry_in c.args.memory.now c.args.name.now (key_of c.args.args.now) in
    order_none (IsMakingEntry e) e (g.F.Folder.view c.args.folder.now)

pub returns-in-Err-clause-once : goal.returns-in-Err-clause-once
returns-in-Err-clause-once g c t = turns_none _ (g.F.Folder.view c.args.folder.now)
