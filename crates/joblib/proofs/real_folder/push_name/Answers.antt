use Rattle.std.proofs.Common.{All, IsTrue, sym, subst}
use Rattle.std.proofs.lemmas.List.Elements.{All-push}
use Rattle.jl_text.specs.Paths.{is_part}
use Rattle.jl_folder.specs.declared.listing.Name.{Name}
use Rattle.joblib.proofs.real_folder.push_name.Goals as goal

pub returns-clause-parts : goal.returns-clause-parts
returns-clause-parts c = λ h. subst (All (λ (n : Name). IsTrue (is_part n.part))) (sym c.in_ok-push.ensures.items) (All-push (λ (n : Name). IsTrue (is_part n.part)) _ _ h c.requires)
