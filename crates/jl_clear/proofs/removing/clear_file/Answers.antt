use Rattle.jl_clear.specs.Removing.{answer_of}
use Rattle.jl_clear.proofs.Parts.{clears_file}
use Rattle.jl_clear.proofs.removing.clear_file.Goals as goal

pub returns : goal.returns
returns g c = λ root name.
    let v = g.F.Folder.view in
    let e = c.remove-removed.ensures in
    clears_file root c.args.path.now c.remove-removed.result (answer_of c.file_cleared.result) (v c.args.folder.now) (v c.remove-removed.new.self) c.file_cleared.ensures name e.frame e.call
