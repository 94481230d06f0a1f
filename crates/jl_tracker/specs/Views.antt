-- What a table of texts and counts holds, text by text.
use Rattle.std.specs.Prelude.{ℕ, List, map, string_bytes, String}
use Rattle.std.specs.Global.{Global}
use Rattle.jl_tracker.specs.Entries.{Entries}

abbrev pub view_entries : List (String Global × ℕ) → Entries
view_entries es = map (λ e. (string_bytes e.0, e.1)) es
