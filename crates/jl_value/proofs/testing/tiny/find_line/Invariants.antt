use Rattle.std.proofs.Common.{◌≡◌, ◌+◌, drop}
use Rattle.jl_value.specs.Tiny.{code_in, line_in}
use Rattle.jl_value.proofs.testing.tiny.find_line.Given as goal

abbrev pub invariant-loop-i : goal.invariant-loop-i
invariant-loop-i l =
    (code_in l.lines l.name ≡ code_in (drop l.i l.lines) l.name)
    × (line_in 1 l.lines l.name ≡ line_in (l.i + 1) (drop l.i l.lines) l.name)
