-- Reading an expression lexeme by lexeme.
use Rattle.std.specs.Prelude.{ℕ, ◌+◌, ◌-◌, nat_lt, if◌then◌else◌, ℤ, List, [], ◌∷◌, length, Option, Some, None, option_map, option_and_then}
use Rattle.jl_batch.specs.declared.arithmetic.Operator.{Operator}
use Rattle.jl_batch.specs.declared.arithmetic.Operator.TheVariants.{Plus, Minus, Times, Over, Modulo}
use Rattle.jl_batch.specs.declared.lexer.Lexeme.{Lexeme}
use Rattle.jl_batch.specs.declared.lexer.Lexeme.TheVariants.{Whole, Jobs, Infix, Opening, Closing}
use Rattle.jl_batch.specs.declared.parser.TheConstants.{MOST_DEPTH, LEVELS}
use Rattle.jl_batch.specs.declared.parser.Pending.{Pending}
use Rattle.jl_batch.specs.declared.parser.Level.{Level}
use Rattle.jl_batch.specs.declared.parser.Reader.{Reader}
use Rattle.jl_batch.specs.Arithmetic.{operation_value, is_tight}
use Rattle.jl_batch.specs.Expressions.{negated}

-- a level in which nothing was read
abbrev pub fresh : ℕ → Level
fresh room = record { sum = None; term = None; minuses = 0; room = room }

-- a value behind the value and the operator that wait
abbrev pub joined : Option Pending → ℤ → Option ℤ
joined None x = Some x
joined (Some before) x = operation_value before.operator before.value x

-- the sum that ends with a factor's value
abbrev pub total : Level → ℤ → Option ℤ
total l x = option_and_then (joined l.sum) (joined l.term x)

-- a factor's value, behind the minus signs before it
abbrev pub with_operand : Level → List Level → ℤ → Option Reader
with_operand l outer x = option_map (λ v. record { level = record l { minuses = 0 }; outer = outer; value = Some v }) (negated l.minuses x)

abbrev pub with_minus : Level → List Level → Option Reader
with_minus l outer = if nat_lt l.minuses l.room then Some (record { level = record l { minuses = l.minuses + 1 }; outer = outer; value = None }) else None

abbrev pub opened : Level → List Level → Option Reader
opened l outer =
    if nat_lt l.minuses l.room then (if nat_lt (length outer) LEVELS then Some (record { level = fresh (l.room - l.minuses - 1); outer = l ∷ outer; value = None }) else None) else None

-- where a factor is expected
abbrev pub expecting : ℤ → Level → List Level → Lexeme → Option Reader
expecting jobs l outer (Whole n) = with_operand l outer n
expecting jobs l outer Jobs = with_operand l outer jobs
expecting jobs l outer (Infix Plus) = None
expecting jobs l outer (Infix Minus) = with_minus l outer
expecting jobs l outer (Infix Times) = None
expecting jobs l outer (Infix Over) = None
expecting jobs l outer (Infix Modulo) = None
expecting jobs l outer Opening = opened l outer
expecting jobs l outer Closing = None

abbrev pub with_tight : Level → List Level → Operator → ℤ → Reader
with_tight l outer op x = record { level = record l { term = Some (record { value = x; operator = op }); minuses = 0 }; outer = outer; value = None }

abbrev pub with_loose : Level → List Level → Operator → ℤ → Reader
with_loose l outer op x = record { level = record l { sum = Some (record { value = x; operator = op }); term = None; minuses = 0 }; outer = outer; value = None }

-- the sum in a bracket is a factor of the level around it
abbrev pub bracket_closed : List Level → ℤ → Option Reader
bracket_closed [] x = None
bracket_closed (l ∷ outer) x = with_operand l outer x

-- behind a factor's value
abbrev pub behind : Level → List Level → ℤ → Lexeme → Option Reader
behind l outer x (Whole n) = None
behind l outer x Jobs = None
behind l outer x (Infix op) = if is_tight op then option_map (with_tight l outer op) (joined l.term x) else option_map (with_loose l outer op) (total l x)
behind l outer x Opening = None
behind l outer x Closing = option_and_then (bracket_closed outer) (total l x)

abbrev pub step_at : ℤ → Level → List Level → Option ℤ → Lexeme → Option Reader
step_at jobs l outer None s = expecting jobs l outer s
step_at jobs l outer (Some x) s = behind l outer x s

-- after one more lexeme
abbrev pub step : ℤ → Reader → Lexeme → Option Reader
step jobs r s = step_at jobs r.level r.outer r.value s

abbrev pub finished_at : Level → List Level → Option ℤ → Option ℤ
finished_at l outer None = None
finished_at l [] (Some x) = total l x
finished_at l (o ∷ os) (Some x) = None

-- the value at the end of the lexemes
abbrev pub value_at_end : Reader → Option ℤ
value_at_end r = finished_at r.level r.outer r.value

-- nothing read
abbrev pub started : Reader
started = record { level = fresh MOST_DEPTH; outer = []; value = None }

-- the value that lexemes lead to
abbrev pub read_lexemes : ℤ → Reader → List Lexeme → Option ℤ
read_lexemes jobs r [] = value_at_end r
read_lexemes jobs r (s ∷ ss) = option_and_then (λ r'. read_lexemes jobs r' ss) (step jobs r s)
