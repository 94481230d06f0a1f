use Rattle.std.proofs.Common.{◌≡◌, ◌++◌, drop, string_bytes}
use Rattle.jl_text.specs.Paths.{behind_slashes}
use Rattle.jl_text.proofs.path.joined.Given as goal

abbrev pub invariant-parts : goal.invariant-parts
invariant-parts l = string_bytes l.out ++ behind_slashes (drop l.part-index l.rest) ≡ l.fn.first ++ behind_slashes l.rest
