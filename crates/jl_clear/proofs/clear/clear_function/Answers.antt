use Rattle.std.proofs.Common.{◌∷◌, []}
use Rattle.jl_entry.specs.Names.{IsBelow, below, root_of}
use Rattle.jl_rely.proofs.Seen.{told_state}
use Rattle.jl_clear.specs.declared.removing.Clear.TheVariants.{NoMemory}
use Rattle.jl_clear.proofs.Paths.{below_more}
use Rattle.jl_clear.proofs.Claims.{claims, claims_below, not_begun}
use Rattle.jl_clear.proofs.clear.clear_function.Goals as goal

-- there was no memory for the path
pub returns-in_default : goal.returns-in_default
returns-in_default g c =
    let root = root_of c.args.location.now in
    let parts = c.args.«module».now ∷ c.args.name.now ∷ [] in
    let v = g.F.Folder.view c.args.folder.now in
    let a = not_begun root (IsBelow (below root parts)) v in
    record {
      frame = a.frame;
      clears = λ t. claims root (IsBelow (below root parts)) NoMemory v v a t (told_state v (g.met.F.Folder.lawful c.args.folder.now t)) (λ p of. below_more root parts p of);
    }

-- the folder at these parts was cleared
pub returns : goal.returns
returns g c =
    let root = root_of c.args.location.now in
    let parts = c.args.«module».now ∷ c.args.name.now ∷ [] in
    let old = g.F.Folder.view c.args.folder.now in
    let new = g.F.Folder.view c.clear_at.new.folder in
    let a = c.clear_at.ensures root (c.args.«module».now, c.args.name.now, c.requires.module_name, c.requires.function_name, c.in-Ok.ensures) in
    record {
      frame = a.frame;
      clears = λ t. claims_below root parts c.in-Ok.function c.clear_at.result old new c.in-Ok.ensures a t (told_state old (g.met.F.Folder.lawful c.args.folder.now t));
    }
