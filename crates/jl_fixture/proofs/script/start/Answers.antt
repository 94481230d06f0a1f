use Rattle.std.proofs.Common.{refl}
use Rattle.jl_fixture.proofs.script.start.Goals as goal

pub next_run-requires : goal.next_run-requires
next_run-requires c = rw (← c.as_slice.ensures.value) (c.if-are_foreign.ensures.yes refl)
