-- What words clear.
use Rattle.std.specs.Prelude.{ℕ, List, Option, Some, None, IsTrue, ⊤}
use Rattle.jl_text.specs.Texts.{is_name}
use Rattle.jl_value.specs.declared.key.Key.{Key}
use Rattle.jl_words.specs.declared.types.Settings.{Settings}
use Rattle.jl_words.specs.declared.types.Settings.TheVariants as set

-- names; and no function without its module, nor an entry without its function
abbrev pub IsTarget : Option (List ℕ) → Option (List ℕ) → Option Key → Type 0
IsTarget None None None = ⊤
IsTarget (Some m) None None = IsTrue (is_name m)
IsTarget (Some m) (Some f) None = IsTrue (is_name m) × IsTrue (is_name f)
IsTarget (Some m) (Some f) (Some k) = IsTrue (is_name m) × IsTrue (is_name f)
IsTarget _ _ _ = ⊥

-- what is cleared is named so
abbrev pub Targets : Settings → Type 0
Targets (set.Clear l m f k) = IsTarget m f k
Targets _ = ⊤
