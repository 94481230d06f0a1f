-- What is counted before it is made.
use Rattle.std.proofs.Common.{◌≡◌, ℕ, ◌+◌, ◌-◌, ◌^◌, Bool, true, false, List, [], ◌∷◌, ◌++◌, length, min, refl, sym, ap, ◌∙◌, subst, arith, length-append}
use Rattle.std.specs.Prelude.{nat_lt, if◌then◌else◌, Result, Option, Some, None, ℤ}
use Rattle.jl_text.specs.declared.limits.TheConstants.{MOST_STEPS}
use Rattle.jl_value.specs.Tree.{Tree, text, list, table, numbers, Items, Members, items_of}
use Rattle.jl_value.specs.declared.library.TaskError.TheVariants.{TooLong}
use Rattle.jl_operands.specs.declared.fault.CallFault.{CallFault}
use Rattle.jl_operands.specs.declared.counting.Counted.{Counted}
use Rattle.jl_operands.specs.Outcomes.{Evaluates}
use Rattle.jl_operands.specs.Steps.{Evaluated, done, failed, counted, steps_within, weight, items_weight, members_weight}

-- a weight that is told up to the largest number of 64 bits: the limit is far below
test_by : (b : Bool) (n w m : ℕ) → m ≡ min w (2 ^ 64 - 1) → nat_lt MOST_STEPS (n + m) ≡ b → nat_lt MOST_STEPS (n + w) ≡ b
test_by true n w m e h = grind arith
test_by false n w m e h = grind arith

sum_by : (n w m : ℕ) → m ≡ min w (2 ^ 64 - 1) → nat_lt MOST_STEPS (n + m) ≡ false → n + w ≡ n + m
sum_by n w m e h = grind arith

-- what a count that goes on or passes its limit comes to
abbrev pub counted_with : Option ℕ → Tree → Evaluated
counted_with None v = failed TooLong
counted_with (Some s) v = done v s

counted_by : (b : Bool) (o : Option ℕ) (n m : ℕ) (v : Tree) → nat_lt MOST_STEPS (n + m) ≡ b → m ≡ min (weight v) (2 ^ 64 - 1) → o ≡ (if b then None else Some (n + m)) → counted n v ≡ counted_with o v
counted_by true o n m v test e same = ap (λ c. if c then failed TooLong else done v (n + weight v)) (test_by true n (weight v) m e test) ∙ ap (λ p. counted_with p v) (sym same)
counted_by false o n m v test e same =
    ap (λ c. if c then failed TooLong else done v (n + weight v)) (test_by false n (weight v) m e test)
    ∙ ap (done v) (sum_by n (weight v) m e test)
    ∙ ap (λ p. counted_with p v) (sym same)

-- a value that is counted by its weight
pub counted_is : (o : Option ℕ) (n m : ℕ) (v : Tree) → m ≡ min (weight v) (2 ^ 64 - 1) → o ≡ steps_within (n + m) → counted n v ≡ counted_with o v
counted_is o n m v e same = counted_by (nat_lt MOST_STEPS (n + m)) o n m v refl e same

-- a count that goes on
pub counted_on : (o : Option ℕ) (n m s : ℕ) (v : Tree) → m ≡ min (weight v) (2 ^ 64 - 1) → o ≡ steps_within (n + m) → o ≡ Some s → counted n v ≡ done v s
counted_on o n m s v e same there = counted_is o n m v e same ∙ ap (λ p. counted_with p v) there

-- a count that passes its limit
pub counted_over : (o : Option ℕ) (n m : ℕ) (v : Tree) → m ≡ min (weight v) (2 ^ 64 - 1) → o ≡ steps_within (n + m) → o ≡ None → counted n v ≡ failed TooLong
counted_over o n m v e same there = counted_is o n m v e same ∙ ap (λ p. counted_with p v) there

-- the same answer of what is the same
pub runs_by : (r : Result Counted CallFault) (x y : Evaluated) → x ≡ y → Evaluates r x → Evaluates r y
runs_by r x y same h = subst (λ (z : Evaluated). Evaluates r z) same h

-- ---- two as one

pub both_weight : (a b : List Tree) → items_weight (items_of (a ++ b)) ≡ items_weight (items_of a) + items_weight (items_of b)
both_weight [] b = omega arith
both_weight (t ∷ ts) b = let more = both_weight ts b in omega arith

-- the weight of a list, by that of its members
pub list_weight : (ts : Items) (m n : ℕ) → m ≡ min (items_weight ts) (2 ^ 64 - 1) → n ≡ min (m + 1) (2 ^ 64 - 1) → n ≡ min (weight (list ts)) (2 ^ 64 - 1)
list_weight ts m n e same = omega arith

pub table_weight : (ms : Members) (m n : ℕ) → m ≡ min (members_weight ms) (2 ^ 64 - 1) → n ≡ min (m + 1) (2 ^ 64 - 1) → n ≡ min (weight (table ms)) (2 ^ 64 - 1)
table_weight ms m n e same = omega arith

-- the weight of two lists as one
pub lists_weight : (a b : List Tree) (l m s n : ℕ) → l ≡ min (items_weight (items_of a)) (2 ^ 64 - 1) → m ≡ min (items_weight (items_of b)) (2 ^ 64 - 1) → s ≡ min (l + m) (2 ^ 64 - 1) → n ≡ min (s + 1) (2 ^ 64 - 1)
    → n ≡ min (weight (list (items_of (a ++ b)))) (2 ^ 64 - 1)
lists_weight a b l m s n p q r same = let both = both_weight a b in omega arith

-- the weight of two texts as one, and of two arrays
pub texts_weight : (a b : List ℕ) (m n : ℕ) → m ≡ min (1 + length a) (2 ^ 64 - 1) → n ≡ min (m + length b) (2 ^ 64 - 1) → n ≡ min (weight (text (a ++ b))) (2 ^ 64 - 1)
texts_weight a b m n e same = let both = length-append a b in omega arith

pub arrays_weight : (a b : List ℤ) (m n : ℕ) → m ≡ min (1 + length a) (2 ^ 64 - 1) → n ≡ min (m + length b) (2 ^ 64 - 1) → n ≡ min (weight (numbers (a ++ b))) (2 ^ 64 - 1)
arrays_weight a b m n e same = let both = length-append a b in omega arith
