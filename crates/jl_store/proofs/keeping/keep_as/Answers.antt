use Rattle.std.proofs.Common.{◌≡◌, ℕ, List, ap, subst}
use Rattle.hex.specs.Hex.{encode_lower}
use Rattle.jl_folder.specs.Views.{state, moved}
use Rattle.jl_value.specs.Form.{tree_of}
use Rattle.jl_value.specs.Key.{key_of}
use Rattle.jl_store.specs.Keeping.{IsMakingEntry, lasts_of, InOrder, entry_in, texts, text_in, IsReadyToKeep, HasPutAll, HasEntry, KeepsEntry}
use Rattle.jl_store.proofs.KeepFacts.{nothing_keeps}
use Rattle.jl_store.proofs.Orders.{order_none}
use Rattle.jl_store.specs.Renames.{PutsInTurn}
use Rattle.jl_store.proofs.InTurn.{turns_none}
use Rattle.jl_store.proofs.keeping.keep_as.Goals as goal

pub keep_texts-requires-clause-whole : goal.keep_texts-requires-clause-whole
keep_texts-requires-clause-whole g c =
    c.in-Ok.ensures.whole (entry_in c.args.memory.now c.args.name.now c.args.key.now.0) (ap encode_lower c.requires.key)

pub returns-in_default-clause-called : goal.returns-in_default-clause-called
returns-in_default-clause-called g c t =
    let e = entry_in c.args.memory.now c.args.name.now (key_of c.args.args.now) in
    let old = g.F.Folder.view c.args.folder.now in
    nothing_keeps e (texts c.args.code.now c.args.args.now (tree_of c.args.value.now) c.args.duration c.args.moment) (IsReadyToKeep e) (HasPutAll e old.token) old

pub returns-clause-called : goal.returns-clause-called
returns-clause-called g c t =
    let old = g.F.Folder.view c.args.folder.now in
    let new = g.F.Folder.view c.keep_texts.new.folder in
    let token = old.token in
    let at = entry_in c.args.memory.now c.args.name.now c.args.key.now.0 in
    let text : text_in c.in-Ok.texts ≡ texts c.args.code.now c.args.args.now (tree_of c.args.value.now) c.args.duration c.args.moment = λ i file. c.in-Ok.ensures.texts file i in
    let whole = c.in-Ok.ensures.whole at (ap encode_lower c.requires.key) in
    subst (λ k. KeepsEntry (entry_in c.args.memory.now c.args.name.now k) (texts c.args.code.now c.args.args.now (tree_of c.args.value.now) c.args.duration c.args.moment) (IsReadyToKeep (entry_in c.args.memory.now c.args.name.now k)) (HasPutAll (entry_in c.args.memory.now c.args.name.now k) token) c.keep_texts.result old new) c.requires.key
    (subst (λ f. KeepsEntry at f (IsReadyToKeep at) (HasPutAll at token) c.keep_texts.result old new) text (c.keep_texts.ensures.called t whole))

pub returns-clause-alone : goal.returns-clause-alone
returns-clause-alone g c t is lone =
    let old = g.F.Folder.view c.args.folder.now in
    let new = g.F.Folder.view c.keep_texts.new.folder in
    let token = old.token in
    let at = entry_in c.args.memory.now c.args.name.now c.args.key.now.0 in
    let text : text_in c.in-Ok.texts ≡ texts c.args.code.now c.args.args.now (tree_of c.args.value.now) c.args.duration c.args.moment = λ i file. c.in-Ok.ensures.texts file i in
    let whole = c.in-Ok.ensures.whole at (ap encode_lower c.requires.key) in
    subst (λ k. HasEntry (entry_in c.args.memory.now c.args.name.now k) token (texts c.args.code.now c.args.args.now (tree_of c.args.value.now) c.args.duration c.args.moment) (state old) (state new)) c.requires.key
    (subst (λ f. HasEntry at token f (state old) (state new)) text (c.keep_texts.ensures.alone t whole is lone))

pub returns-in_default-clause-order : goal.returns-in_default-clause-order
returns-in_default-clause-order g c t =
    let e = entry_in c.args.memory.now c.args.name.now (key_of c.args.args.now) in
    order_none (IsMakingEntry e) e (g.F.Folder.view c.args.folder.now)

pub returns-clause-order : goal.returns-clause-order
returns-clause-order g c t =
    let old = g.F.Folder.view c.args.folder.now in
    let moves = moved old (g.F.Folder.view c.keep_texts.new.folder) in
    subst (λ (k : List ℕ). let e = entry_in c.args.memory.now c.args.name.now k in InOrder (IsMakingEntry e) e old.token moves) c.requires.key (c.keep_texts.ensures.order t)

pub returns-in_default-clause-once : goal.returns-in_default-clause-once
returns-in_default-clause-once g c t = turns_none _ (g.F.Folder.view c.args.folder.now)

pub returns-clause-once : goal.returns-clause-once
returns-clause-once g c t =
    let old = g.F.Folder.view c.args.folder.now in
    let moves = moved old (g.F.Folder.view c.keep_texts.new.folder) in
    subst (λ (k : List ℕ). PutsInTurn (lasts_of (entry_in c.args.memory.now c.args.name.now k)) old.token moves) c.requires.key (c.keep_texts.ensures.once t)
