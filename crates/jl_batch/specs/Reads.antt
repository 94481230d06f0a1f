-- The window that a text asks for, as one value.
use Rattle.std.specs.Prelude.{ℕ, zero, suc, ℤ, pos, List, Option, Some, None, option_and_then, length, cond, nat_eq}
use Rattle.std.specs.Str.{bytes_eq}
use Rattle.std.specs.Result.{result_ok}
use Rattle.jl_batch.specs.declared.window.Window.{Window}
use Rattle.jl_batch.specs.declared.window.Window.TheVariants.{All}
use Rattle.jl_batch.specs.declared.parser.Reader.{Reader}
use Rattle.jl_batch.specs.Lexemes.{front_lexeme, without_blanks}
use Rattle.jl_batch.specs.Parser.{step, started, value_at_end}
use Rattle.jl_batch.specs.Windows.{window_at, all_word}

-- behind a lexeme: the end, or blanks and more lexemes
abbrev pub value_behind : (Reader → List ℕ → Option ℤ) → List ℕ → Reader → Option ℤ
value_behind next rest r = cond (nat_eq (length rest) 0) (value_at_end r) (next r (without_blanks rest))

-- the value that the lexemes of a text lead to, of which there are at most k
abbrev pub value_from : ℕ → ℤ → Reader → List ℕ → Option ℤ
value_from zero jobs r text = None
value_from (suc k) jobs r text = option_and_then (λ f. option_and_then (value_behind (value_from k jobs) f.1) (step jobs r f.0)) (front_lexeme text)

-- the value of a text: no text has more lexemes than bytes
abbrev pub value_in : List ℕ → ℕ → Option ℤ
value_in text jobs = value_from (length text) (pos jobs) started text

-- the window that a text asks for, where it asks for one
abbrev pub window_of : List ℕ → ℕ → Option Window
window_of text jobs = cond (bytes_eq text all_word) (Some All) (option_and_then (λ v. result_ok (window_at v)) (value_in text jobs))
