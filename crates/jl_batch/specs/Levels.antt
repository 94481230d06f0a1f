-- The first levels of a list, the last of them first.
use Rattle.std.specs.Prelude.{ℕ, zero, suc, List, [], ◌∷◌, None, slice_index_or}
use Rattle.jl_batch.specs.declared.parser.Level.{Level}

-- a level that is not there
abbrev pub no_level : Level
no_level = record { sum = None; term = None; minuses = 0; room = 0 }

abbrev pub levels_below : ℕ → List Level → List Level
levels_below zero levels = []
levels_below (suc n) levels = slice_index_or levels n no_level ∷ levels_below n levels
