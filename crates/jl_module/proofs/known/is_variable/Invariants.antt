use Rattle.std.proofs.Common.{◌≡◌, map, drop}
use Rattle.std.specs.List.{list_any}
use Rattle.std.specs.Str.{bytes_eq}
use Rattle.jl_module.proofs.known.is_variable.Given as goal

abbrev pub invariant-loop-variable : goal.invariant-loop-variable
invariant-loop-variable l = list_any (bytes_eq l.name) (map (λ x. x.now) (drop l.variable-index l.variables)) ≡ list_any (bytes_eq l.name) (map (λ x. x.now) l.variables)
