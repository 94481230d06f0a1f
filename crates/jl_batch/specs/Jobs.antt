-- How many jobs a number asks for.
use Rattle.std.specs.Prelude.{ℕ, ◌+◌, ℤ, pos, negsuc, ◌+ℤ◌}
use Rattle.std.specs.Int.{int_max, int_min}
use Rattle.jl_text.specs.declared.limits.TheConstants.{MOST_JOBS}

-- a positive number is itself, and a negative one is counted from one above the processors, with one job at least
abbrev pub jobs_asked : ℤ → ℕ → ℤ
jobs_asked (pos n) cpus = pos n
jobs_asked (negsuc n) cpus = int_max (pos (cpus + 1) +ℤ negsuc n) (pos 1)

-- more than 1,024 acts as 1,024
abbrev pub jobs_of : ℤ → ℕ → ℤ
jobs_of n cpus = int_min (jobs_asked n cpus) (pos MOST_JOBS)
