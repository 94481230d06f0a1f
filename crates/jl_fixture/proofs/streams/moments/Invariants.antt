use Rattle.std.proofs.Common.{All, ◌≤◌, ◌^◌}
use Rattle.jl_fixture.proofs.streams.moments.Given as goal

abbrev pub invariant-loop-moment : goal.invariant-loop-moment
invariant-loop-moment l = All (λ t. t ≤ 2 ^ 62) l.moments.items
