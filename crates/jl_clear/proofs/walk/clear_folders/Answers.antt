use Rattle.std.proofs.Common.{List, Option, Ok, subst}
use Rattle.jl_text.specs.Paths.{PathView}
use Rattle.jl_folder.specs.declared.listing.Name.{Name}
use Rattle.jl_rely.specs.Claims.{Anywhere}
use Rattle.jl_clear.specs.declared.levels.Kind.TheVariants as kind
use Rattle.jl_clear.specs.Levels.{IsKindName}
use Rattle.jl_clear.specs.Listings.{Lists}
use Rattle.jl_clear.specs.Removing.{answer_of}
use Rattle.jl_clear.specs.Clearing.{Clears, Handled, Reached}
use Rattle.jl_clear.proofs.Paths.{no_folder, reached_behind, reached_inside}
use Rattle.jl_clear.proofs.LevelLemmas.{kind_there}
use Rattle.jl_clear.proofs.Listings.{clears_listed, clears_inside, clears_unread, clears_absent, absent_root}
use Rattle.jl_clear.proofs.walk.clear_folders.Goals as goal

pub returns-in_err-names : goal.returns-in_err-names
returns-in_err-names g c = λ root of.
    let v = g.F.Folder.view in
    clears_unread root c.args.home.now _ _ _ (v c.args.folder.now) (v c.names_in.new.folder) _ c.from_residual.result c.in_err-names.field-0.0
    c.from_residual.ensures.1 c.in_err-names.ensures.lists

-- its names were read, and what they name of that level is handled
pub returns-in-Some : goal.returns-in-Some
returns-in-Some g c = λ root of.
    let v = g.F.Folder.view in
    let home = c.args.home.now in
    let names = c.in-Some.names in
    let Form : List _ → Type 0 = IsKindName (kind.Folder c.args.level) in
    let there = kind_there (kind.Folder c.args.level) in
    let All : PathView → Type 0 = Reached Form home in
    let answer = answer_of c.clear_names.result in
    let old = v c.args.folder.now in
    let mid = v c.names_in.new.folder in
    let new = v c.clear_names.new.folder in
    clears_listed root home Form names there All All All answer old mid new (λ p w name. reached_behind Form home p w)
    (subst (λ (o : Option (List Name)). Lists home (Ok o) old mid) c.in-Some.is c.in_ok-names.ensures.lists)
    (clears_inside root home Form names there All All answer mid new (λ p w store. reached_behind Form home p w)
    (subst (λ (ns : List Name). Clears root Anywhere All (Handled Form home ns) (Handled Form home ns) answer mid new) c.as_slice.ensures (c.clear_names.ensures root of)))

-- there is no such folder, and so nothing in it
pub returns-in-None : goal.returns-in-None
returns-in-None g c = λ root of.
    let v = g.F.Folder.view in
    let home = c.args.home.now in
    let Form : List _ → Type 0 = IsKindName (kind.Folder c.args.level) in
    let All : PathView → Type 0 = Reached Form home in
    let old = v c.args.folder.now in
    let new = v c.names_in.new.folder in
    clears_absent root home All All All old new
    (λ p w name. absent_root home p (reached_inside Form home p w))
    (λ p w s ok unmade. no_folder s p (absent_root home p (reached_inside Form home p w) s ok unmade))
    (subst (λ (o : Option (List Name)). Lists home (Ok o) old new) c.in-None.is c.in_ok-names.ensures.lists)
