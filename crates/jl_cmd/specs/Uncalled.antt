-- The statuses at which no function was called.
use Rattle.std.specs.Prelude.{◌≡◌, ◌⊎◌, ℕ}
use Rattle.jl_cmd.specs.Statuses as status

-- the statuses at which no function was called
abbrev pub IsUncalled : ℕ → Type 0
IsUncalled n = (n ≡ status.usage) ⊎ ((n ≡ status.refused) ⊎ ((n ≡ status.no_module) ⊎ ((n ≡ status.folder_fault) ⊎ (n ≡ status.read_fault))))
