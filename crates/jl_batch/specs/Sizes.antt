-- How the size of batches follows what batches take, in microseconds.
use Rattle.std.specs.Prelude.{ℕ, ◌+◌, ◌*◌, ◌/◌, min, max, nat_eq, nat_lt, nat_le, ◌&&◌, if◌then◌else◌}
use Rattle.jl_batch.specs.declared.auto.Step.{Step}
use Rattle.jl_batch.specs.declared.auto.Step.TheVariants.{Size, Completed}
use Rattle.jl_batch.specs.declared.auto.TheConstants.{SHORT, LONG, LONGEST, MOST_TASKS}

-- the size of batches, and what a batch of that size takes: 0 where that isn't known
pub record Sizing : Type 0 where
  pub size : ℕ
  pub smoothed : ℕ

-- at the start
abbrev pub started : Sizing
started = record { size = 1; smoothed = 0 }

-- twice the size whose batches would take what is still short
abbrev pub scaled_size : Sizing → ℕ
scaled_size a = 2 * (a.size * SHORT / a.smoothed)

-- from 1 to the most
abbrev pub within_sizes : ℕ → ℕ
within_sizes n = max 1 (min n MOST_TASKS)

-- short batches grow, at most twofold; long ones shrink, where they have two tasks
abbrev pub size_after : Sizing → ℕ
size_after a =
    if nat_lt 0 a.smoothed && nat_lt a.smoothed SHORT then within_sizes (min (2 * a.size) (scaled_size a))
    else (if nat_lt LONG a.smoothed && nat_le 2 a.size then within_sizes (scaled_size a) else a.size)

-- after the size was asked for: where it changed, nothing is known of the new one
abbrev pub sized : Sizing → Sizing
sized a = if nat_eq (size_after a) a.size then a else record { size = size_after a; smoothed = 0 }

-- the first duration, and then four parts of what was known to one of the new
abbrev pub smoothed_by : ℕ → ℕ → ℕ
smoothed_by smoothed duration = if nat_eq smoothed 0 then duration else (8 * smoothed + 2 * duration) / 10

-- after a batch: one of another size tells nothing, and a duration above the longest counts as that
abbrev pub completed_of : ℕ → ℕ → Sizing → Sizing
completed_of size duration a =
    if nat_eq size a.size then record a { smoothed = smoothed_by a.smoothed (min duration LONGEST) } else a

-- after a step
abbrev pub sizing_after : Sizing → Step → Sizing
sizing_after a Size = sized a
sizing_after a (Completed size duration) = completed_of size duration a
