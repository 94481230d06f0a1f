use Rattle.std.proofs.Common.{◌≡◌, take, string_bytes}
use Rattle.jl_cmd.specs.Texts.{warning_lines}
use Rattle.jl_cmd.proofs.warn.lines_of.Given as goal

abbrev pub invariant-loop-warning : goal.invariant-loop-warning
invariant-loop-warning l = string_bytes l.lines ≡ warning_lines l.memory.«module» (take l.warning-index l.warnings)
