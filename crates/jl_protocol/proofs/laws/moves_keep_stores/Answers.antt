use Rattle.jl_protocol.proofs.TidyKept.{stays_tidy, stays_sound}
use Rattle.jl_protocol.proofs.Kills.{kill_leaves_sound}
use Rattle.jl_protocol.proofs.laws.moves_keep_stores.Goals as goal

pub returns-clause-tidy : goal.returns-clause-tidy
returns-clause-tidy c root token s m may proper tidy = stays_tidy root token s tidy m may proper

pub returns-clause-sound : goal.returns-clause-sound
returns-clause-sound c = stays_sound

pub returns-clause-kill : goal.returns-clause-kill
returns-clause-kill c = kill_leaves_sound
