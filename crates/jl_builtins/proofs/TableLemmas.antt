-- No members are those of a table.
use Rattle.std.proofs.Common.{◌≡◌, List, [], sym, subst}
use Rattle.std.specs.declared.string.String.{String}
use Rattle.jl_value.specs.Tree.{members_of}
use Rattle.jl_value.specs.Proper.{AreKeys, keys}
use Rattle.jl_value.specs.declared.value.Value.{Value}
use Rattle.jl_operands.specs.Outcomes.{pairs_in}
use Rattle.jl_builtins.specs.TableLaws.{empty_table}

-- no members are those of a table
pub no_keys : {Y : Type 0} (es : List (String Y × Value)) → es ≡ [] → AreKeys (keys (members_of (pairs_in es)))
no_keys {Y} es none = subst (λ (l : List (String Y × Value)). AreKeys (keys (members_of (pairs_in l)))) (sym none) empty_table.0
