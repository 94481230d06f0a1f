-- How many levels of folders stand below one.
use Rattle.std.proofs.Common.{ℕ}
use Rattle.jl_clear.specs.declared.levels.Level.{Level}
use Rattle.jl_clear.specs.declared.levels.Level.TheVariants as level
use Rattle.jl_clear.specs.declared.levels.Kind.{Kind}
use Rattle.jl_clear.specs.declared.levels.Kind.TheVariants as kind

abbrev pub level_depth : Level → ℕ
level_depth level.Module = 3
level_depth level.Function = 2
level_depth level.Entry = 1

-- none below a file
abbrev pub kind_depth : Kind → ℕ
kind_depth (kind.Folder l) = level_depth l
kind_depth kind.Code = 0
kind_depth kind.EntryFile = 0
