use Rattle.std.proofs.Common.{sym, ◌∙◌, ◌≡◌, false, subst}
use Rattle.jl_text.specs.Paths.{IsPath, is_bad}
use Rattle.jl_text.proofs.Pieces.{is_path-path_of}
use Rattle.jl_text.proofs.path.Path.read.Goals as goal

pub invariant_of-result : goal.invariant_of-result
invariant_of-result c =
    let good : is_bad c.args.text.now ≡ false = sym c.is_bad_text.ensures ∙ c.if-is_bad_text.false in
    subst IsPath (sym c.in_ok-parts.ensures) (is_path-path_of c.args.text.now good)
