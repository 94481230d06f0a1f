-- How many brackets are open behind signs, and where signs stop being the front of an expression.
use Rattle.std.specs.Prelude.{◌≡◌, ◌≤◌, ◌<◌, ◌||◌, ◌-◌, ℕ, suc, Bool, if◌then◌else◌, List, [], ◌∷◌, ◌++◌}
use Rattle.jl_text.specs.declared.limits.TheConstants.{MOST_BRACKETS}
use Rattle.jl_lexer.specs.Marks.{is_mark}
use Rattle.jl_lexer.specs.Trees.{Expression}
use Rattle.jl_grammar.specs.Grammar.{Writes}

-- `(`, `[` or `{`
abbrev pub is_opening : List ℕ → Bool
is_opening w = is_mark 40 w || (is_mark 91 w || is_mark 123 w)

-- `)`, `]` or `}`
abbrev pub is_closing : List ℕ → Bool
is_closing w = is_mark 41 w || (is_mark 93 w || is_mark 125 w)

-- how many brackets are open behind one sign more
abbrev pub open_after : ℕ → List ℕ → ℕ
open_after n w = if is_opening w then suc n else (if is_closing w then n - 1 else n)

-- the same behind several
abbrev pub open_behind : ℕ → List (List ℕ) → ℕ
open_behind n [] = n
open_behind n (w ∷ ws) = open_behind (open_after n w) ws

-- how many brackets are open at the end of signs
abbrev pub open_brackets : List (List ℕ) → ℕ
open_brackets ws = open_behind 0 ws

-- where so many brackets are open, no more than 128 are, there and behind each sign that follows
abbrev pub IsShallow : ℕ → List (List ℕ) → Type 0
IsShallow n [] = n ≤ MOST_BRACKETS
IsShallow n (w ∷ ws) = (n ≤ MOST_BRACKETS) × IsShallow (open_after n w) ws

-- signs among which more than 128 brackets are open, and the first sign behind which they are
pub record Deepens (ws : List (List ℕ)) : Type 0 where
  pub front : List (List ℕ)
  pub sign : List ℕ
  pub rest : List (List ℕ)
  pub parts : front ++ sign ∷ rest ≡ ws
  pub before : IsShallow 0 front
  pub over : MOST_BRACKETS < open_brackets (front ++ sign ∷ [])

-- where signs break off: before that no more than 128 brackets are open
pub data Breaks (ws : List (List ℕ)) : Type 0 where
  -- at a sign that no expression has behind those before it
  at_sign : (front : List (List ℕ)) (sign : List ℕ) (rest : List (List ℕ)) → front ++ sign ∷ rest ≡ ws → IsShallow 0 front → ((more : List (List ℕ)) (e : Expression) → Writes (front ++ sign ∷ more) e → ⊥) → Breaks ws
  -- at their end, where no expression is written by them all
  at_end : IsShallow 0 ws → ((e : Expression) → Writes ws e → ⊥) → Breaks ws
