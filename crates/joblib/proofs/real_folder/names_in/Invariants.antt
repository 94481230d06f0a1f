use Rattle.std.proofs.Common.{All, IsTrue}
use Rattle.jl_text.specs.Paths.{is_part}
use Rattle.joblib.proofs.real_folder.names_in.Given as goal

-- each name so far is a part
abbrev pub invariant-loop-entry : goal.invariant-loop-entry
invariant-loop-entry g l = All (λ n. IsTrue (is_part n.part)) l.names.items
