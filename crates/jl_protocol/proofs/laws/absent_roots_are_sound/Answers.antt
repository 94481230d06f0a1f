use Rattle.jl_protocol.proofs.Empty.{absent_is_sound, empty_is_sound}
use Rattle.jl_protocol.proofs.laws.absent_roots_are_sound.Goals as goal

pub returns-clause-absent : goal.returns-clause-absent
returns-clause-absent c = absent_is_sound

pub returns-clause-empty : goal.returns-clause-empty
returns-clause-empty c = empty_is_sound
