-- A list by `for`, behind the list that it goes over.
use Rattle.std.proofs.Common.{◌≡◌, ℕ, List, [], ◌∷◌, sym, ap, ◌∙◌, subst}
use Rattle.std.specs.Prelude.{Some, MatchResult, Result}
use Rattle.jl_value.specs.Tree.{Tree}
use Rattle.jl_lexer.specs.Trees.{Expression, each, filtered}
use Rattle.jl_operands.specs.declared.fault.CallFault.{CallFault}
use Rattle.jl_operands.specs.declared.counting.Counted.{Counted}
use Rattle.jl_operands.specs.Steps.{Evaluated, done, then'}
use Rattle.jl_operands.specs.Lists.{source_of, each_over, filtered_over, over}
use Rattle.jl_operands.specs.Outcomes.{IsRan, IsFailing}
use Rattle.jl_lang.specs.Meaning.{value_of}

-- what goes over the members of a value
over_members : (r : Evaluated) (of : List Tree → ℕ → Evaluated) (v : Tree) (k : ℕ) (us : List Tree) → r ≡ done v k → source_of v ≡ Some us → then' r (λ w m. over (source_of w) (λ ts. of ts m)) ≡ of us k
over_members r of v k us made members = ap (λ s. then' s (λ w m. over (source_of w) (λ ts. of ts m))) made ∙ ap (λ o. over o (λ ts. of ts k)) members

-- the same answer of what is the same
answer_by : (r : Result Counted CallFault) (x y : Evaluated) → x ≡ y → MatchResult r (λ c. IsRan c x) (λ e. IsFailing e x) → MatchResult r (λ c. IsRan c y) (λ e. IsFailing e y)
answer_by r x y same h = subst (λ (z : Evaluated). MatchResult r (λ c. IsRan c z) (λ e. IsFailing e z)) same h

each_same : (r : Result Counted CallFault) (ps : List (List ℕ × Tree)) (e a : Expression) (x : List ℕ) (n k : ℕ) (v : Tree) (us : List Tree) → value_of ps a n ≡ done v k → source_of v ≡ Some us
    → MatchResult r (λ c. IsRan c (each_over (λ u j. value_of ((x, u) ∷ ps) e j) us [] k)) (λ f. IsFailing f (each_over (λ u j. value_of ((x, u) ∷ ps) e j) us [] k))
    → MatchResult r (λ c. IsRan c (value_of ps (each e x a) n)) (λ f. IsFailing f (value_of ps (each e x a) n))
each_same r ps e a x n k v us made members h =
    answer_by r (each_over (λ u j. value_of ((x, u) ∷ ps) e j) us [] k) (value_of ps (each e x a) n)
    (sym (over_members (value_of ps a n) (λ ts m. each_over (λ u j. value_of ((x, u) ∷ ps) e j) ts [] m) v k us made members)) h

pub each_answer : (r : Result Counted CallFault) (ps : List (List ℕ × Tree)) (e a : Expression) (x y : List ℕ) (n k : ℕ) (v : Tree) (us : List Tree) → y ≡ x → value_of ps a n ≡ done v k → source_of v ≡ Some us
    → MatchResult r (λ c. IsRan c (each_over (λ u j. value_of ((y, u) ∷ ps) e j) us [] k)) (λ f. IsFailing f (each_over (λ u j. value_of ((y, u) ∷ ps) e j) us [] k))
    → MatchResult r (λ c. IsRan c (value_of ps (each e x a) n)) (λ f. IsFailing f (value_of ps (each e x a) n))
each_answer r ps e a x y n k v us same made members h =
    answer_by r (value_of ps (each e y a) n) (value_of ps (each e x a) n) (ap (λ z. value_of ps (each e z a) n) same) (each_same r ps e a y n k v us made members h)

filtered_same : (r : Result Counted CallFault) (ps : List (List ℕ × Tree)) (e a c : Expression) (x : List ℕ) (n k : ℕ) (v : Tree) (us : List Tree) → value_of ps a n ≡ done v k → source_of v ≡ Some us
    → MatchResult r (λ d. IsRan d (filtered_over (λ u j. value_of ((x, u) ∷ ps) c j) (λ u j. value_of ((x, u) ∷ ps) e j) us [] k)) (λ f. IsFailing f (filtered_over (λ u j. value_of ((x, u) ∷ ps) c j) (λ u j. value_of ((x, u) ∷ ps) e j) us [] k))
    → MatchResult r (λ d. IsRan d (value_of ps (filtered e x a c) n)) (λ f. IsFailing f (value_of ps (filtered e x a c) n))
filtered_same r ps e a c x n k v us made members h =
    answer_by r (filtered_over (λ u j. value_of ((x, u) ∷ ps) c j) (λ u j. value_of ((x, u) ∷ ps) e j) us [] k) (value_of ps (filtered e x a c) n)
    (sym (over_members (value_of ps a n) (λ ts m. filtered_over (λ u j. value_of ((x, u) ∷ ps) c j) (λ u j. value_of ((x, u) ∷ ps) e j) ts [] m) v k us made members)) h

pub filtered_answer : (r : Result Counted CallFault) (ps : List (List ℕ × Tree)) (e a c : Expression) (x y : List ℕ) (n k : ℕ) (v : Tree) (us : List Tree) → y ≡ x → value_of ps a n ≡ done v k → source_of v ≡ Some us
    → MatchResult r (λ d. IsRan d (filtered_over (λ u j. value_of ((y, u) ∷ ps) c j) (λ u j. value_of ((y, u) ∷ ps) e j) us [] k)) (λ f. IsFailing f (filtered_over (λ u j. value_of ((y, u) ∷ ps) c j) (λ u j. value_of ((y, u) ∷ ps) e j) us [] k))
    → MatchResult r (λ d. IsRan d (value_of ps (filtered e x a c) n)) (λ f. IsFailing f (value_of ps (filtered e x a c) n))
filtered_answer r ps e a c x y n k v us same made members h =
    answer_by r (value_of ps (filtered e y a c) n) (value_of ps (filtered e x a c) n) (ap (λ z. value_of ps (filtered e z a c) n) same) (filtered_same r ps e a c y n k v us made members h)
