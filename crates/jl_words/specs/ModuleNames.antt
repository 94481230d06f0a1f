-- A module's name, which its file's path ends with.
use Rattle.std.specs.Prelude.{ℕ, ◌-◌, List, Option, Some, None, nat_eq, length, take, cond, codes}
use Rattle.std.specs.List.{ends_with}
use Rattle.std.specs.Option.{option_and_then}
use Rattle.jl_text.specs.Paths.{PathView, last_part}
use Rattle.jl_text.specs.Texts.{is_name}

-- a part without the `.def` at its end
abbrev pub stem_of : List ℕ → Option (List ℕ)
stem_of part = cond (ends_with nat_eq part (codes ".def")) (Some (take (length part - 4) part)) None

-- a text that is a name
abbrev pub name_of : List ℕ → Option (List ℕ)
name_of text = cond (is_name text) (Some text) None

-- the name in the last part, `NAME.def`, of a path
abbrev pub module_name_of : PathView → Option (List ℕ)
module_name_of path = option_and_then name_of (option_and_then stem_of (last_part path))
