use Rattle.std.proofs.Common.{List, Option, Ok, subst}
use Rattle.std.specs.Prelude.{⊤}
use Rattle.jl_folder.specs.declared.listing.Name.{Name}
use Rattle.jl_entry.specs.Names.{IsBelow}
use Rattle.jl_clear.specs.Listings.{Lists}
use Rattle.jl_evict.specs.Walks.{AddsOne, HasListed}
use Rattle.jl_evict.proofs.WalkLemmas.{adds_one, adds_gone, adds_unread}
use Rattle.jl_evict.proofs.walk.add_entry.Goals as goal

pub returns-in_err-names : goal.returns-in_err-names
returns-in_err-names g c = λ root at.
    let v = g.F.Folder.view in
    adds_unread root c.args.place.now c.args.items.now.items (v c.args.folder.now) (v c.names_in.new.folder) ⊤ (IsBelow c.args.place.now.name)
    c.from_residual.result c.in_err-names.field-0.0 c.from_residual.ensures.1 c.in_err-names.ensures.lists

-- its files were listed, and its one item added
pub returns-in-Some : goal.returns-in-Some
returns-in-Some g c = λ root at.
    let v = g.F.Folder.view in
    let place = c.args.place.now in
    let old = v c.args.folder.now in
    let mid = v c.names_in.new.folder in
    let new = v c.add_listed.new.folder in
    let before = c.args.items.now.items in
    let after = c.add_listed.new.items.items in
    let lists = subst (λ (o : Option (List Name)). Lists place.folder (Ok o) old mid) c.in-Some.is c.in_ok-names.ensures.lists in
    adds_one root place old mid lists.frame lists.waits c.in-Some.names c.add_listed.result before after new (λ f. cc) lists.names at
    (subst (λ (ns : List Name). AddsOne place (HasListed place ns) c.add_listed.result before after mid new) c.as_slice.ensures c.add_listed.ensures)

pub returns-in-None : goal.returns-in-None
returns-in-None g c = λ root at.
    let v = g.F.Folder.view in
    let place = c.args.place.now in
    let old = v c.args.folder.now in
    let new = v c.names_in.new.folder in
    adds_gone root place c.args.items.now.items old new at.folder
    (subst (λ (o : Option (List Name)). Lists place.folder (Ok o) old new) c.in-None.is c.in_ok-names.ensures.lists)
