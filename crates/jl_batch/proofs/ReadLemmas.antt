-- The value of a text, while its lexemes are read.
use Rattle.std.proofs.Common.{◌≡◌, ℕ, zero, suc, ◌≤◌, ◌<◌, List, length, refl, sym, ap, ◌∙◌, arith, nat_eq, cond, true, false}
use Rattle.std.specs.Prelude.{pos, Some, None}
use Rattle.jl_batch.specs.declared.lexer.Lexeme.{Lexeme}
use Rattle.jl_batch.specs.declared.parser.Reader.{Reader}
use Rattle.jl_batch.specs.Parser.{step, started, value_at_end}
use Rattle.jl_batch.specs.Lexemes.{front_lexeme, without_blanks}
use Rattle.jl_batch.specs.Reads.{value_from, value_behind, value_in}

-- what is left of a text has its value
pub record Leaves (text left : List ℕ) (jobs : ℕ) (r : Reader) : Type 0 where
  pub most : ℕ
  pub enough : length left ≤ most
  pub same : value_in text jobs ≡ value_from most (pos jobs) r left

pub leaves_start : (text : List ℕ) (jobs : ℕ) (r : Reader) → r ≡ started → Leaves text text jobs r
leaves_start text jobs r e = record { most = length text; enough = omega arith; same = ap (λ q. value_from (length text) (pos jobs) q text) (sym e) }

behind_none : (k jobs : ℕ) (r : Reader) (left : List ℕ) → front_lexeme left ≡ None → value_from k (pos jobs) r left ≡ None
behind_none zero jobs r left e = refl
behind_none (suc k) jobs r left e = rw e

pub no_front_value : (text left : List ℕ) (jobs : ℕ) (r : Reader) → Leaves text left jobs r → front_lexeme left ≡ None → value_in text jobs ≡ None
no_front_value text left jobs r l e = l.same ∙ behind_none l.most jobs r left e

behind_stuck : (k jobs : ℕ) (r : Reader) (left : List ℕ) (s : Lexeme) (rest : List ℕ) → front_lexeme left ≡ Some (s, rest) → step (pos jobs) r s ≡ None → value_from k (pos jobs) r left ≡ None
behind_stuck zero jobs r left s rest e f = refl
behind_stuck (suc k) jobs r left s rest e f = rw (e, f)

pub no_step_value : (text left : List ℕ) (jobs : ℕ) (r : Reader) (s : Lexeme) (rest : List ℕ) → Leaves text left jobs r → front_lexeme left ≡ Some (s, rest) → step (pos jobs) r s ≡ None → value_in text jobs ≡ None
no_step_value text left jobs r s rest l e f = l.same ∙ behind_stuck l.most jobs r left s rest e f

one_more : (k jobs : ℕ) (r r' : Reader) (left : List ℕ) (s : Lexeme) (rest : List ℕ) → length rest < length left → length left ≤ k → front_lexeme left ≡ Some (s, rest) → step (pos jobs) r s ≡ Some r'
    → (m : ℕ) × (length rest ≤ m) × (value_from k (pos jobs) r left ≡ value_behind (value_from m (pos jobs)) rest r')
one_more zero jobs r r' left s rest short few e f = absurd (omega arith)
one_more (suc k) jobs r r' left s rest short few e f = (k, omega arith, rw (e, f) refl)

pub finish_value : (text left : List ℕ) (jobs : ℕ) (r r' : Reader) (s : Lexeme) (rest : List ℕ) → Leaves text left jobs r → length rest < length left → front_lexeme left ≡ Some (s, rest) → step (pos jobs) r s ≡ Some r'
    → nat_eq (length rest) 0 ≡ true → value_in text jobs ≡ value_at_end r'
finish_value text left jobs r r' s rest l short e f none =
    let more = one_more l.most jobs r r' left s rest short l.enough e f in
    l.same ∙ more.2 ∙ ap (λ b. cond b (value_at_end r') (value_from more.0 (pos jobs) r' (without_blanks rest))) none

pub leaves_next : (text left : List ℕ) (jobs : ℕ) (r r' : Reader) (s : Lexeme) (rest : List ℕ) → Leaves text left jobs r → length rest < length left → front_lexeme left ≡ Some (s, rest) → step (pos jobs) r s ≡ Some r'
    → nat_eq (length rest) 0 ≡ false → length (without_blanks rest) ≤ length rest → Leaves text (without_blanks rest) jobs r'
leaves_next text left jobs r r' s rest l short e f some fewer =
    let more = one_more l.most jobs r r' left s rest short l.enough e f in
    let enough : length rest ≤ more.0 = more.1 in
    record { most = more.0; enough = omega arith; same = l.same ∙ more.2 ∙ ap (λ b. cond b (value_at_end r') (value_from more.0 (pos jobs) r' (without_blanks rest))) some }
