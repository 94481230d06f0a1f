use Rattle.jl_clear.specs.Removing.{answer_of}
use Rattle.jl_clear.proofs.Parts.{clears_folder}
use Rattle.jl_clear.proofs.removing.clear_folder.Goals as goal

pub returns : goal.returns
returns g c = λ root place.
    let v = g.F.Folder.view in
    let e = c.remove_dir-removed.ensures in
    clears_folder root c.args.path.now c.remove_dir-removed.result (answer_of c.folder_cleared.result) (v c.args.folder.now) (v c.remove_dir-removed.new.self) c.folder_cleared.ensures place e.frame e.call
