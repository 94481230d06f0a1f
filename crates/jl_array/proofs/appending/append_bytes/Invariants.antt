use Rattle.std.proofs.Common.{length, ◌-◌}
use Rattle.jl_array.proofs.AppendLemmas.{IsAppended}
use Rattle.jl_array.proofs.appending.append_bytes.Given as goal

-- the bytes so far were appended
abbrev pub invariant-loop-at : goal.invariant-loop-at
invariant-loop-at g l =
    IsAppended (g.F.Folder.view l.fn.folder) (g.F.Folder.view l.folder) l.number.0 l.bytes l.at

-- the bytes that are left
abbrev pub decreases-loop-at : goal.decreases-loop-at
decreases-loop-at g l = length l.bytes - l.at
