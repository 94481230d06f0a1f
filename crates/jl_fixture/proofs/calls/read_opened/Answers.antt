use Rattle.jl_folder.proofs.Opens.{IsOpen-new}
use Rattle.jl_fixture.proofs.calls.read_opened.Goals as goal

pub read_open-requires : goal.read_open-requires
read_open-requires g c = IsOpen-new _ c.in-Opened.number.0 _ _ c.in-Opened.ensures.opens
