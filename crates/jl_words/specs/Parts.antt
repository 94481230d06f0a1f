-- What the code has of a command's words.
use Rattle.std.specs.Prelude.{List, Option, map, option_map}
use Rattle.jl_words.specs.Reading.{Text, Use, Said, WordsRead, value_among}
use Rattle.jl_words.specs.declared.parts.Given.{Given}
use Rattle.jl_words.specs.declared.parts.Parts.{Parts}
use Rattle.jl_words.specs.declared.reader.Reader.{Reader}
use Rattle.jl_words.specs.declared.reader.Spelling.{Spelling}

abbrev pub use_of : Given → Use
use_of g = record { name = g.name.now; value = g.value.now }

abbrev pub uses_of : List Given → List Use
uses_of gs = map use_of gs

abbrev pub said_in : Parts → Said
said_in p = record { value = value_among (uses_of p.given.items); plain = map (λ w. w.now) p.plain.items }

abbrev pub spelled_in : Spelling → Text × Option Text
spelled_in s = (s.name.now, option_map (λ v. v.now) s.value)

abbrev pub reading_of : Reader → WordsRead
reading_of r = record { given = uses_of r.parts.given.items; plain = map (λ w. w.now) r.parts.plain.items; waiting = option_map (λ n. n.now) r.waiting; is_closed = r.is_closed }
