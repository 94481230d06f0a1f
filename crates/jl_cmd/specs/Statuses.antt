-- The exit statuses.
use Rattle.std.specs.Prelude.{ℕ}

abbrev pub done : ℕ
done = 0

abbrev pub task_error : ℕ
task_error = 1

abbrev pub usage : ℕ
usage = 2

abbrev pub refused : ℕ
refused = 3

abbrev pub read_fault : ℕ
read_fault = 5

abbrev pub write_fault : ℕ
write_fault = 6

abbrev pub no_memory : ℕ
no_memory = 8

abbrev pub no_module : ℕ
no_module = 9

abbrev pub folder_fault : ℕ
folder_fault = 10
