-- The lexemes of an expression lead to its value.
use Rattle.std.proofs.Common.{◌≡◌, ℕ, suc, ◌+◌, ◌-◌, ◌<◌, ◌≤◌, true, false, List, [], ◌∷◌, ◌++◌, length, refl, ap, ◌∙◌, append_assoc, add-one, arith}
use Rattle.std.specs.Prelude.{ℤ, nat_lt, Option, Some, None, option_map, option_and_then}
use Rattle.std.proofs.lemmas.List.{append-nil}
use Rattle.std.proofs.lemmas.Option.{none-some, same_Some, option_and_then_some}
use Rattle.std.proofs.lemmas.Bool.Decides.{nat_tests}
use lib.IntN.{neg_ℤ}
use Rattle.jl_batch.specs.declared.arithmetic.Operator.{Operator}
use Rattle.jl_batch.specs.declared.lexer.Lexeme.{Lexeme}
use Rattle.jl_batch.specs.declared.lexer.Lexeme.TheVariants.{Whole, Jobs, Infix, Opening, Closing}
use Rattle.jl_batch.specs.declared.parser.Pending.{Pending}
use Rattle.jl_batch.specs.declared.parser.Level.{Level}
use Rattle.jl_batch.specs.declared.parser.Reader.{Reader}
use Rattle.jl_numbers.specs.Division.{within_64}
use Rattle.jl_batch.specs.Arithmetic.{operation_value, is_tight}
use Rattle.jl_batch.specs.Expressions.{Formula, applied_to, worth_of, Kind, a_factor, a_term, a_sum, Spells, number, name, bracket, minus, factor, product, term, sum, negated}
use Rattle.jl_batch.specs.Parser.{joined, with_operand, read_lexemes, started}

-- a reader, by its parts
abbrev pub reader_at : Option Pending → Option Pending → ℕ → ℕ → List Level → Option ℤ → Reader
reader_at s t m r outer value = record { level = record { sum = s; term = t; minuses = m; room = r }; outer = outer; value = value }

-- a value and the operator behind it
abbrev pub waiting : ℤ → Operator → Option Pending
waiting x op = Some (record { value = x; operator = op })

-- lexemes that do not go on a term
abbrev pub EndsTerm : List Lexeme → Type 0
EndsTerm [] = Unit {0}
EndsTerm (Whole z ∷ ss) = Unit {0}
EndsTerm (Jobs ∷ ss) = Unit {0}
EndsTerm (Infix op ∷ ss) = is_tight op ≡ false
EndsTerm (Opening ∷ ss) = Unit {0}
EndsTerm (Closing ∷ ss) = Unit {0}

-- only the value of a term counts for what follows it
term_joined : (n : ℤ) (s t : Option Pending) (r : ℕ) (outer : List Level) (x v : ℤ) (rest : List Lexeme) → joined t x ≡ Some v → read_lexemes n (reader_at s t 0 r outer (Some x)) rest ≡ read_lexemes n (reader_at s None 0 r outer (Some v)) rest
term_joined n s t r [] x v [] e = rw e
term_joined n s t r (o ∷ os) x v [] e = refl
term_joined n s t r outer x v (Whole z ∷ ss) e = refl
term_joined n s t r outer x v (Jobs ∷ ss) e = refl
term_joined n s t r outer x v (Infix op ∷ ss) e = rw e
term_joined n s t r outer x v (Opening ∷ ss) e = refl
term_joined n s t r outer x v (Closing ∷ ss) e = rw e

-- only the value of a sum counts for what follows it
sum_joined : (n : ℤ) (s : Option Pending) (r : ℕ) (outer : List Level) (x v : ℤ) (rest : List Lexeme) → joined s x ≡ Some v → EndsTerm rest → read_lexemes n (reader_at s None 0 r outer (Some x)) rest ≡ read_lexemes n (reader_at None None 0 r outer (Some v)) rest
sum_joined n s r [] x v [] e ends = e
sum_joined n s r (o ∷ os) x v [] e ends = refl
sum_joined n s r outer x v (Whole z ∷ ss) e ends = refl
sum_joined n s r outer x v (Jobs ∷ ss) e ends = refl
sum_joined n s r outer x v (Infix op ∷ ss) e ends = rw (ends, e)
sum_joined n s r outer x v (Opening ∷ ss) e ends = refl
sum_joined n s r outer x v (Closing ∷ ss) e ends = rw e

-- what follows a factor with this value, behind m minus signs
abbrev after_factor : ℤ → Option Pending → Option Pending → ℕ → List Level → List Lexeme → Option ℤ → Option ℤ
after_factor n s t r outer rest o = option_and_then (λ u. read_lexemes n (reader_at s t 0 r outer (Some u)) rest) o

and_then_map : {A B C : Type 0} (f : A → B) (g : B → Option C) (o : Option A) → option_and_then g (option_map f o) ≡ option_and_then (λ x. g (f x)) o
and_then_map f g None = refl
and_then_map f g (Some x) = refl

operand_runs : (n : ℤ) (s t : Option Pending) (m r : ℕ) (outer : List Level) (x : ℤ) (rest : List Lexeme) → option_and_then (λ r'. read_lexemes n r' rest) (with_operand (record { sum = s; term = t; minuses = m; room = r }) outer x) ≡ after_factor n s t r outer rest (negated m x)
operand_runs n s t m r outer x rest = and_then_map (λ v. reader_at s t 0 r outer (Some v)) (λ r'. read_lexemes n r' rest) (negated m x)

-- what an operator's value says of its sides
applied_parts : {P : Type 0} (op : Operator) (x y : Option ℤ) (v : ℤ) → applied_to op x y ≡ Some v → ((a b : ℤ) → x ≡ Some a → y ≡ Some b → operation_value op a b ≡ Some v → P) → P
applied_parts op None y v e k = absurd (none-some v e)
applied_parts op (Some a) None v e k = absurd (none-some v e)
applied_parts op (Some a) (Some b) v e k = k a b refl refl e

-- what the lexemes of a kind lead to
abbrev Runs : Kind → ℤ → ℕ → List Lexeme → ℤ → Type 0
Runs a_factor n d ss v = (s t : Option Pending) (m r : ℕ) (outer : List Level) (rest : List Lexeme) → m + d ≤ r → length outer + r ≤ 32 →
    read_lexemes n (reader_at s t m r outer None) (ss ++ rest) ≡ after_factor n s t r outer rest (negated m v)
Runs a_term n d ss v = (s : Option Pending) (r : ℕ) (outer : List Level) (rest : List Lexeme) → d ≤ r → length outer + r ≤ 32 →
    read_lexemes n (reader_at s None 0 r outer None) (ss ++ rest) ≡ read_lexemes n (reader_at s None 0 r outer (Some v)) rest
Runs a_sum n d ss v = (r : ℕ) (outer : List Level) (rest : List Lexeme) → d ≤ r → length outer + r ≤ 32 → EndsTerm rest →
    read_lexemes n (reader_at None None 0 r outer None) (ss ++ rest) ≡ read_lexemes n (reader_at None None 0 r outer (Some v)) rest

lt_test : (a b : ℕ) → a < b → nat_lt a b ≡ true
lt_test a b h = grind (arith, nat_tests)

runs : (n : ℤ) {k : Kind} {d : ℕ} {ss : List Lexeme} {e : Formula} → Spells k d ss e → (v : ℤ) → worth_of n e ≡ Some v → Runs k n d ss v
runs n (number {z = z}) v eq = λ s t m r outer rest fits small.
    let same : z ≡ v = same_Some z v eq in
    operand_runs n s t m r outer z rest ∙ ap (λ w. after_factor n s t r outer rest (negated m w)) same
runs n name v eq = λ s t m r outer rest fits small.
    let same : n ≡ v = same_Some n v eq in
    operand_runs n s t m r outer n rest ∙ ap (λ w. after_factor n s t r outer rest (negated m w)) same
runs n (bracket {depth = d} {ss = ss} h) v eq = λ s t m r outer rest fits small.
    let roomy : m < r = omega arith in
    let few : length outer < 32 = omega arith in
    let inner : d ≤ r - m - 1 = omega arith in
    let around : suc (length outer) + (r - m - 1) ≤ 32 = omega arith in
    let level : Level = record { sum = s; term = t; minuses = m; room = r } in
    rw (lt_test m r roomy, lt_test (length outer) 32 few)
    (ap (λ q. read_lexemes n (reader_at None None 0 (r - m - 1) (level ∷ outer) None) q) (append_assoc ss (Closing ∷ []) rest)
    ∙ runs n h v eq (r - m - 1) (level ∷ outer) (Closing ∷ rest) inner around tt ∙ operand_runs n s t m r outer v rest)
runs n (minus {depth = d} {ss = ss} {e = e} h) v eq = λ s t m r outer rest fits small.
    let roomy : m < r = omega arith in
    let fits' : suc m + d ≤ r = omega arith in
    rw (lt_test m r roomy, add-one)
    (option_and_then_some (λ x. within_64 (neg_ℤ x)) (worth_of n e) v eq
    (λ x has gives. runs n h x has s t (suc m) r outer rest fits' small
    ∙ ap (λ o. after_factor n s t r outer rest (option_and_then (negated m) o)) gives))
runs n (factor h) v eq = λ s r outer rest fits small.
    runs n h v eq s None 0 r outer rest (omega arith) small
runs n (product {ss = ss} {ts = ts} {a = a} {b = b} {op = op} h tight g) v eq = λ s r outer rest fits small.
    applied_parts op (worth_of n a) (worth_of n b) v eq (λ x y has_a has_b gives.
    ap (λ q. read_lexemes n (reader_at s None 0 r outer None) q) (append_assoc ss (Infix op ∷ ts) rest)
    ∙ runs n h x has_a s r outer (Infix op ∷ (ts ++ rest)) fits small
    ∙ (rw tight (runs n g y has_b s (waiting x op) 0 r outer rest (omega arith) small ∙ term_joined n s (waiting x op) r outer y v rest gives)))
runs n (term h) v eq = λ r outer rest fits small ends.
    runs n h v eq None r outer rest fits small
runs n (sum {ss = ss} {ts = ts} {a = a} {b = b} {op = op} h loose g) v eq = λ r outer rest fits small ends.
    applied_parts op (worth_of n a) (worth_of n b) v eq (λ x y has_a has_b gives.
    ap (λ q. read_lexemes n (reader_at None None 0 r outer None) q) (append_assoc ss (Infix op ∷ ts) rest)
    ∙ runs n h x has_a r outer (Infix op ∷ (ts ++ rest)) fits small loose
    ∙ (rw loose (runs n g y has_b (waiting x op) r outer rest fits small ∙ sum_joined n (waiting x op) r outer y v rest gives ends)))

-- an expression's lexemes lead to its value
pub complete : (n : ℤ) (ss : List Lexeme) (e : Formula) (v : ℤ) → Spells a_sum 32 ss e → worth_of n e ≡ Some v → read_lexemes n started ss ≡ Some v
complete n ss e v h eq =
    rw append-nil at (runs n h v eq 32 [] [] (omega arith) (omega arith) tt)
