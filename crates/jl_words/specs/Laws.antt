-- What holds of all settings.
use Rattle.std.specs.Prelude.{◌≡◌, ℕ, List, true, Some, is_some}
use Rattle.jl_text.specs.Paths.{PathView}
use Rattle.jl_words.specs.ModuleNames.{module_name_of}
use Rattle.jl_words.specs.Reading.{Text}
use Rattle.jl_words.specs.Settings.{settings_of, module_path}
use Rattle.jl_words.specs.Targets.{Targets}
use Rattle.jl_words.specs.declared.types.Settings.{Settings}

-- the path of the module that words set ends with a name
abbrev pub ModulesHaveNames : Type 0
ModulesHaveNames = (words : List Text) (cpus : ℕ) (s : Settings) (path : PathView) → settings_of words cpus ≡ Some s → module_path s ≡ Some path → is_some (module_name_of path) ≡ true

-- what words clear is named by names, and nothing stands for a module or a function that isn't named
abbrev pub TargetsHaveNames : Type 0
TargetsHaveNames = (words : List Text) (cpus : ℕ) (s : Settings) → settings_of words cpus ≡ Some s → Targets s
