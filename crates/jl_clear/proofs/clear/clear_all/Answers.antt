use Rattle.std.proofs.Common.{inl, inr, sym, subst}
use Rattle.jl_text.specs.Paths.{PathView}
use Rattle.jl_entry.specs.Names.{IsNameOf, root_of}
use Rattle.jl_rely.specs.Claims.{Anywhere}
use Rattle.jl_rely.proofs.Seen.{told_state}
use Rattle.jl_clear.specs.declared.removing.Clear.{Clear}
use Rattle.jl_clear.specs.declared.removing.Clear.TheVariants.{NoMemory}
use Rattle.jl_clear.specs.Taking.{IsInside}
use Rattle.jl_clear.specs.Clearing.{Clears, Reached}
use Rattle.jl_clear.proofs.Paths.{inside_below, reached_inside, behind_reached}
use Rattle.jl_clear.proofs.Folders.{root_inner}
use Rattle.jl_clear.proofs.Parts.{clears_as}
use Rattle.jl_clear.proofs.Claims.{claims, not_begun}
use Rattle.jl_clear.proofs.clear.clear_all.Goals as goal

-- there was no memory for the path
pub returns-in_default : goal.returns-in_default
returns-in_default g c =
    let root = root_of c.args.location.now in
    let v = g.F.Folder.view c.args.folder.now in
    let a = not_begun root (IsInside root) v in
    record {
      frame = a.frame;
      clears = λ t. claims root (IsInside root) NoMemory v v a t (told_state v (g.met.F.Folder.lawful c.args.folder.now t)) (λ p of. inside_below root p of);
    }

-- what of the store stands in the root is behind the name of a module
pub returns : goal.returns
returns g c =
    let root = root_of c.args.location.now in
    let old = g.F.Folder.view c.args.folder.now in
    let new = g.F.Folder.view c.clear_folders.new.folder in
    let home = c.in-Ok.path in
    let In : PathView → Type 0 = IsInside root in
    let All : PathView → Type 0 = Reached IsNameOf root in
    let cleared = subst (λ (a : Clear). Clears root Anywhere (Reached IsNameOf home) (Reached IsNameOf home) (Reached IsNameOf home) a old new) (sym c.as_clear.ensures) (c.clear_folders.ensures root c.in-Ok.ensures) in
    let a =
    clears_as root Anywhere Anywhere All In All In All In c.as_clear.result old new (λ s pre. pre) (λ p of. reached_inside IsNameOf root p of)
    (λ p name of. behind_reached IsNameOf root p (root_inner root p of (inl name)))
    (λ p store of. behind_reached IsNameOf root p (root_inner root p of (inr store)))
    (subst (λ (q : PathView). Clears root Anywhere (Reached IsNameOf q) (Reached IsNameOf q) (Reached IsNameOf q) c.as_clear.result old new) c.in-Ok.ensures cleared) in
    record {
      frame = a.frame;
      clears = λ t. claims root In c.as_clear.result old new a t (told_state old (g.met.F.Folder.lawful c.args.folder.now t)) (λ p of. inside_below root p of);
    }
