-- The words of a command line, and what they set.
use Rattle.std.specs.Prelude.{ℕ, List, [], ◌∷◌, Option, Some, None, option_and_then}
use Rattle.jl_text.specs.Paths.{PathView}
use Rattle.jl_words.specs.Reading.{Text, said_by_words}
use Rattle.jl_words.specs.Commands.{command_by_word, options_of, set_by}
use Rattle.jl_words.specs.declared.types.Settings.{Settings}
use Rattle.jl_words.specs.declared.types.Settings.TheVariants as set

-- the first word is a command, and the words behind it set what they say
abbrev pub settings_of : List Text → ℕ → Option Settings
settings_of [] cpus = None
settings_of (word ∷ words) cpus = option_and_then (λ c. option_and_then (set_by c cpus) (said_by_words (options_of c) words)) (command_by_word word)

-- the path of the module that a command takes
abbrev pub module_path : Settings → Option PathView
module_path (set.Call m l f a) = Some m
module_path (set.Parallel m l j b w n r s t) = Some m
module_path (set.Session m l) = Some m
module_path _ = None
