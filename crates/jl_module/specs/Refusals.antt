-- Where a line is too deep, and where it is no definition.
use Rattle.std.specs.Prelude.{◌≡◌, ◌<◌, ℕ, List, Some, None}
use Rattle.jl_lexer.specs.Trees.{Expression, height}
use Rattle.jl_grammar.specs.Grammar.{Writes}
use Rattle.jl_grammar.specs.Fronts.{Deepens, Breaks}
use Rattle.jl_text.specs.declared.limits.TheConstants.{MOST_BRACKETS}
use Rattle.jl_module.specs.Headings.{Heading, heading_of}

-- signs that open more than 128 brackets, or whose tree is higher than 128
pub data IsTooDeep (ws : List (List ℕ)) : Type 0 where
  opens : Deepens ws → IsTooDeep ws
  is_high : (e : Expression) → Writes ws e → MOST_BRACKETS < height e → IsTooDeep ws

-- a line with a heading whose expression is too deep
pub record IsDeepLine (line : List ℕ) : Type 0 where
  pub heading : Heading
  pub there : heading_of line ≡ Some heading
  pub deep : IsTooDeep heading.body

-- a line with no heading, or whose expression breaks off before more than 128 brackets are open
pub data IsBadLine (line : List ℕ) : Type 0 where
  headless : heading_of line ≡ None → IsBadLine line
  breaks_off : (h : Heading) → heading_of line ≡ Some h → Breaks h.body → IsBadLine line
