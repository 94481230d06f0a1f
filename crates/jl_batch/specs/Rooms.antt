-- How many tasks may be in flight.
use Rattle.std.specs.Prelude.{ℕ, ◌-◌, ◌^◌}
use Rattle.jl_batch.specs.declared.window.Window.{Window}
use Rattle.jl_batch.specs.declared.window.Window.TheVariants.{All, Tasks}

-- the window less the tasks that were read and not settled, not below 0
abbrev pub room_of : Window → ℕ → ℕ → ℕ
room_of All tasks_read settled = 2 ^ 64 - 1
room_of (Tasks window) tasks_read settled = window - (tasks_read - settled)
