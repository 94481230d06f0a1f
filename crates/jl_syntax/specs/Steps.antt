-- What the reader of an expression answers.
use Rattle.std.specs.Prelude.{◌≡◌, ◌∷◌, ℕ, nat_le, if◌then◌else◌, List, Result, Ok, Err, ⊤}
use Rattle.jl_syntax.specs.declared.reader.Reader.{Reader}
use Rattle.jl_syntax.specs.declared.reader.Stop.{Stop}
use Rattle.jl_syntax.specs.declared.reader.Stop.TheVariants.{Bad, Deep, NoMemory}
use Rattle.jl_lexer.specs.Trees.{Expression}
use Rattle.jl_grammar.specs.Frames.{Frame}
use Rattle.jl_grammar.specs.declared.mode.Mode.TheVariants.{WantsOperand}
use Rattle.jl_grammar.specs.Parser.{Step, going, bad, deep, wanted, Read, read, broken, nested_deep}

-- one sign more
abbrev pub IsStep : Result Reader Stop → Step → Type 0
IsStep (Ok r) s = s ≡ going r.stack r.mode
IsStep (Err Bad) s = s ≡ bad
IsStep (Err Deep) s = s ≡ deep
IsStep (Err NoMemory) s = ⊤

-- all signs
abbrev pub IsRead : Result Expression Stop → Read → Type 0
IsRead (Ok t) r = r ≡ read t
IsRead (Err Bad) r = r ≡ broken
IsRead (Err Deep) r = r ≡ nested_deep
IsRead (Err NoMemory) r = ⊤

-- what waits for an operand of a level, where nothing that waits wants a tighter one
abbrev pub with_frame : ℕ → Frame → List Frame → Step
with_frame level f fs = if nat_le (wanted fs) level then going (f ∷ fs) WantsOperand else bad
