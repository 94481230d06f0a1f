use Rattle.std.proofs.Common.{◌≡◌, [], map, drop}
use Rattle.jl_module.specs.Headings.{has_repeat}
use Rattle.jl_module.proofs.names.has_repeat.Given as goal

abbrev pub invariant-loop-name : goal.invariant-loop-name
invariant-loop-name l = has_repeat l.before (map (λ x. x.now) (drop l.name-index l.names)) ≡ has_repeat [] (map (λ x. x.now) l.names)
