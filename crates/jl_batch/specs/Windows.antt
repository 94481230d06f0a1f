-- The window that a text asks for.
use Rattle.std.specs.Prelude.{◌≡◌, ◌≢◌, ℕ, ℤ, pos, int_lt, if◌then◌else◌, unsigned_abs, min, List, codes, Result, Ok, Err, Some}
use Rattle.jl_batch.specs.declared.window.Window.{Window}
use Rattle.jl_batch.specs.declared.window.Window.TheVariants.{All, Tasks}
use Rattle.jl_batch.specs.declared.pre_dispatch.PreDispatchFault.{PreDispatchFault}
use Rattle.jl_batch.specs.declared.pre_dispatch.PreDispatchFault.TheVariants.{BadExpression, BelowOne}
use Rattle.jl_batch.specs.declared.lexer.Lexeme.{Lexeme}
use Rattle.jl_batch.specs.declared.parser.TheConstants.{MOST_DEPTH}
use Rattle.jl_batch.specs.declared.pre_dispatch.TheConstants.{MOST_WINDOW}
use Rattle.jl_batch.specs.Lexemes.{HasLexemes}
use Rattle.jl_batch.specs.Expressions.{Formula, Spells, a_sum, worth_of}

-- `all`
unfoldable pub all_word : List ℕ
all_word = codes "all"

-- a text is an expression in which brackets and minus signs nest at most 32 deep, worth v at this number of jobs
abbrev pub IsWorth : List ℕ → ℕ → ℤ → Type 0
IsWorth text jobs v = (ss : List Lexeme) × (e : Formula) × HasLexemes text ss × Spells a_sum MOST_DEPTH ss e × (worth_of (pos jobs) e ≡ Some v)

-- what a value asks for: one task at least, and above 1,000,000 as many
abbrev pub window_at : ℤ → Result Window PreDispatchFault
window_at v = if int_lt v (pos 1) then Err BelowOne else Ok (Tasks (min (unsigned_abs v) MOST_WINDOW))

-- a window that the text asks for
abbrev pub IsAskedFor : List ℕ → ℕ → Window → Type 0
IsAskedFor text jobs All = text ≡ all_word
IsAskedFor text jobs (Tasks n) = (v : ℤ) × IsWorth text jobs v × (window_at v ≡ Ok (Tasks n))

-- why a text asks for no window
abbrev pub IsWindowFault : List ℕ → ℕ → PreDispatchFault → Type 0
IsWindowFault text jobs BadExpression = (text ≢ all_word) × ((v : ℤ) → IsWorth text jobs v → ⊥)
IsWindowFault text jobs BelowOne = (v : ℤ) × IsWorth text jobs v × (window_at v ≡ Err BelowOne)
