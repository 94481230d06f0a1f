use Rattle.std.proofs.Common.{◌≡◌, ◌∙◌, ap, subst, Contains}
use Rattle.jl_text.specs.Paths.{PathView, path_of}
use Rattle.jl_entry.specs.Names.{IsBelow, below}
use Rattle.jl_rely.specs.Claims.{Anywhere}
use Rattle.jl_clear.specs.declared.removing.Clear.TheVariants.{NoMemory}
use Rattle.jl_clear.specs.Clearing.{Clears}
use Rattle.jl_clear.proofs.Parts.{clears_none}
use Rattle.jl_evict.specs.Reducing.{IsOf}
use Rattle.jl_evict.proofs.Naming.{item_parts, parts_good}
use Rattle.jl_evict.proofs.ReduceLemmas.{item_folder}
use Rattle.jl_evict.proofs.reducing.clear_one.Goals as goal

pub clear_entry-requires : goal.clear_entry-requires
clear_entry-requires g c =
    let root = c.args.root.now in
    let folder : c.in-Ok.entry ≡ below root (path_of c.args.item.now.path) = c.in-Ok.ensures ∙ ap (λ (q : PathView). below root q) (c.parts.ensures.same ∙ c.in-Some.ensures) in
    (root, item_folder root c.in-Ok.entry c.args.item.now.path c.requires folder)

pub join_all-requires : goal.join_all-requires
join_all-requires g c = λ p among.
    let of = c.requires in
    parts_good of.0 of.1 p (subst (λ (ps : PathView). Contains ps p) (c.parts.ensures.same ∙ c.in-Some.ensures ∙ item_parts c.args.item.now.path of) among)

pub returns : goal.returns
returns g c =
    let root = c.args.root.now in
    let v = g.F.Folder.view in
    let folder : c.in-Ok.entry ≡ below root (path_of c.args.item.now.path) = c.in-Ok.ensures ∙ ap (λ (q : PathView). below root q) (c.parts.ensures.same ∙ c.in-Some.ensures) in
    subst (λ (q : PathView). Clears root Anywhere (IsBelow q) (IsBelow q) (IsBelow q) c.clear_entry.result (v c.args.folder.now) (v c.clear_entry.new.folder)) folder
    (c.clear_entry.ensures root (item_folder root c.in-Ok.entry c.args.item.now.path c.requires folder))

pub returns-in_default : goal.returns-in_default
returns-in_default g c =
    let Of : PathView → Type 0 = IsOf c.args.root.now c.args.item.now in clears_none c.args.root.now Anywhere Of Of Of NoMemory (g.F.Folder.view c.args.folder.now) (λ f. cc) (λ done. cc) (λ done. cc)

pub returns-in_default-join_all : goal.returns-in_default-join_all
returns-in_default-join_all g c =
    let Of : PathView → Type 0 = IsOf c.args.root.now c.args.item.now in clears_none c.args.root.now Anywhere Of Of Of NoMemory (g.F.Folder.view c.args.folder.now) (λ f. cc) (λ done. cc) (λ done. cc)
