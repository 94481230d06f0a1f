use Rattle.std.proofs.Common.{◌≡◌, sym, subst, length, ◌≤◌, false}
use Rattle.jl_text.specs.Paths.{path_of, is_bad, text_of, IsPath}
use Rattle.jl_text.specs.declared.limits.TheConstants.{MOST_PATH_BYTES}
use Rattle.jl_text.proofs.Spelled.{path_of-text_of, is_bad-text_of}
use Rattle.jl_text.proofs.path.Path.text.Goals as goal

pub returns-clause-spells : goal.returns-clause-spells
returns-clause-spells c =
    let e : c.new.result ≡ text_of c.args.self.now = cc c.in_ok-spelled.ensures in
    let h = subst IsPath c.self.view_is c.self.invariant in
    subst (λ t. path_of t ≡ c.args.self.now) (sym e) (path_of-text_of c.args.self.now h)

pub returns-clause-good : goal.returns-clause-good
returns-clause-good c =
    let e : c.new.result ≡ text_of c.args.self.now = cc c.in_ok-spelled.ensures in
    let h = subst IsPath c.self.view_is c.self.invariant in
    subst (λ t. length t ≤ MOST_PATH_BYTES → is_bad t ≡ false) (sym e) (is_bad-text_of c.args.self.now h)
