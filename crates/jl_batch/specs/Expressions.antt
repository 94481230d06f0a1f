-- Expressions as trees, what they are worth, and which lexemes spell them.
use Rattle.std.specs.Prelude.{◌≡◌, ℕ, zero, suc, true, false, ℤ, List, [], ◌∷◌, ◌++◌, Option, Some, None, option_and_then}
use lib.IntN.{neg_ℤ}
use Rattle.jl_batch.specs.declared.arithmetic.Operator.{Operator}
use Rattle.jl_batch.specs.declared.arithmetic.Operator.TheVariants.{Minus}
use Rattle.jl_batch.specs.declared.lexer.Lexeme.{Lexeme}
use Rattle.jl_batch.specs.declared.lexer.Lexeme.TheVariants.{Whole, Jobs, Infix, Opening, Closing}
use Rattle.jl_numbers.specs.Division.{within_64}
use Rattle.jl_batch.specs.Arithmetic.{operation_value, is_tight}

-- an expression, as a tree
pub data Formula : Type 0 where
  whole : ℤ → Formula
  jobs : Formula
  negation : Formula → Formula
  operation : Operator → Formula → Formula → Formula

-- an operator's value, where both sides have one
abbrev pub applied_to : Operator → Option ℤ → Option ℤ → Option ℤ
applied_to op None y = None
applied_to op (Some x) None = None
applied_to op (Some x) (Some y) = operation_value op x y

-- what an expression is worth at a number of jobs; each value in it is one of 64 bits
abbrev pub worth_of : ℤ → Formula → Option ℤ
worth_of n (whole z) = Some z
worth_of n jobs = Some n
worth_of n (negation e) = option_and_then (λ x. within_64 (neg_ℤ x)) (worth_of n e)
worth_of n (operation op a b) = applied_to op (worth_of n a) (worth_of n b)

pub data Kind : Type 0 where
  a_factor : Kind
  a_term : Kind
  a_sum : Kind

-- which lexemes spell an expression of a kind, with brackets and minus signs nested at most so deep:
--   sum    := term { ("+" | "-") term }
--   term   := factor { ("*" | "//" | "%") factor }
--   factor := whole | "n_jobs" | "(" sum ")" | "-" factor
-- where operators of one level bind from the left
pub data Spells : Kind → ℕ → List Lexeme → Formula → Type 0 where
  number : {depth : ℕ} {z : ℤ} → Spells a_factor depth (Whole z ∷ []) (whole z)
  name : {depth : ℕ} → Spells a_factor depth (Jobs ∷ []) jobs
  bracket : {depth : ℕ} {ss : List Lexeme} {e : Formula} → Spells a_sum depth ss e → Spells a_factor (suc depth) (Opening ∷ (ss ++ Closing ∷ [])) e
  minus : {depth : ℕ} {ss : List Lexeme} {e : Formula} → Spells a_factor depth ss e → Spells a_factor (suc depth) (Infix Minus ∷ ss) (negation e)
  factor : {depth : ℕ} {ss : List Lexeme} {e : Formula} → Spells a_factor depth ss e → Spells a_term depth ss e
  product : {depth : ℕ} {ss ts : List Lexeme} {a b : Formula} {op : Operator} → Spells a_term depth ss a → is_tight op ≡ true → Spells a_factor depth ts b → Spells a_term depth (ss ++ Infix op ∷ ts) (operation op a b)
  term : {depth : ℕ} {ss : List Lexeme} {e : Formula} → Spells a_term depth ss e → Spells a_sum depth ss e
  sum : {depth : ℕ} {ss ts : List Lexeme} {a b : Formula} {op : Operator} → Spells a_sum depth ss a → is_tight op ≡ false → Spells a_term depth ts b → Spells a_sum depth (ss ++ Infix op ∷ ts) (operation op a b)

-- minus signs, one after the other
abbrev pub negated : ℕ → ℤ → Option ℤ
negated zero x = Some x
negated (suc n) x = option_and_then (negated n) (within_64 (neg_ℤ x))
