use Rattle.jl_folder.proofs.Opens.{IsMade-new}
use Rattle.jl_fixture.proofs.calls.write.Goals as goal

pub append-appended-requires : goal.append-appended-requires
append-appended-requires g c = IsMade-new c.in-Made.number.0 _ _ c.in-Made.ensures.opens
