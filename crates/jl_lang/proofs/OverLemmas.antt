-- A list that goes over a list, one member on.
use Rattle.std.proofs.Common.{◌≡◌, ℕ, ◌+◌, ◌<◌, List, ◌∷◌, length, get_or, drop, sym, ap, ◌∙◌, subst}
use Rattle.std.specs.Prelude.{ℤ, Result, Ok, Err, MatchResult, IsErrAnd}
use Rattle.std.proofs.lemmas.List.{at_drop_more}
use Rattle.jl_value.specs.Tree.{Tree, whole}
use Rattle.jl_value.specs.Form.{tree_of, trees_of}
use Rattle.jl_value.specs.declared.value.Value.{Value}
use Rattle.jl_operands.specs.declared.fault.CallFault.{CallFault}
use Rattle.jl_operands.specs.declared.fault.CallFault.TheVariants.{Task, NoMemory}
use Rattle.jl_operands.specs.declared.counting.Counted.{Counted}
use Rattle.jl_lang.specs.declared.evaluator.Members.{Members}
use Rattle.jl_operands.specs.Steps.{Evaluated}
use Rattle.jl_operands.specs.Lists.{wholes, taking, filtered_over}
use Rattle.jl_operands.specs.Operands.{trees_gathered}
use Rattle.jl_operands.specs.Outcomes.{IsRan, IsFailing}
use Rattle.jl_lang.specs.Outcomes.{IsTaken, IsLeft}

-- the next of some values, and of some numbers
pub next_value : (items : List Value) (i : ℕ) (item : Value) → i < length items → item ≡ get_or items i item → trees_of (drop i items) ≡ tree_of item ∷ trees_of (drop (i + 1) items)
next_value items i item h is = at_drop_more trees_of items i item h ∙ ap (λ (u : Value). tree_of u ∷ trees_of (drop (i + 1) items)) (sym is)

pub next_number : (zs : List ℤ) (i : ℕ) (d z : ℤ) → i < length zs → z ≡ get_or zs i d → wholes (drop i zs) ≡ whole z ∷ wholes (drop (i + 1) zs)
next_number zs i d z h is = at_drop_more wholes zs i d h ∙ ap (λ (u : ℤ). whole u ∷ wholes (drop (i + 1) zs)) (sym is)

-- a member that is said otherwise
pub taken_by : (r : Result Members CallFault) (if_so of : ℤ → ℕ → Evaluated) (vs : List Tree) (n : ℕ) (y z : ℤ) → y ≡ z
    → MatchResult r (λ t. IsTaken t (if_so y) (of y) vs n) (λ e. IsLeft e (if_so y) (of y) vs n)
    → MatchResult r (λ t. IsTaken t (if_so z) (of z) vs n) (λ e. IsLeft e (if_so z) (of z) vs n)
taken_by r if_so of vs n y z same h = subst (λ x. MatchResult r (λ t. IsTaken t (if_so x) (of x) vs n) (λ e. IsLeft e (if_so x) (of x) vs n)) same h

-- what is left behind a member that was taken or left out
pub filtered_more : (if_so of : Tree → ℕ → Evaluated) (us rest : List Tree) (u : Tree) (vs : List Tree) (n : ℕ) (t : Members) (x : Evaluated) → us ≡ u ∷ rest
    → filtered_over if_so of us vs n ≡ x → IsTaken t (if_so u) (of u) vs n
    → filtered_over if_so of rest (trees_gathered t.values) t.steps ≡ x
filtered_more if_so of us rest u vs n t x is so taken =
    sym (taken (λ ws l. filtered_over if_so of rest ws l)) ∙ sym (ap (λ ts. filtered_over if_so of ts vs n) is) ∙ so

left_by : (e : CallFault) (if_so of : Tree → ℕ → Evaluated) (us rest : List Tree) (u : Tree) (vs : List Tree) (n : ℕ) (x : Evaluated) → us ≡ u ∷ rest
    → filtered_over if_so of us vs n ≡ x → IsLeft e (if_so u) (of u) vs n → IsFailing e x
left_by (Task e) if_so of us rest u vs n x is so left =
    sym so ∙ ap (λ ts. filtered_over if_so of ts vs n) is ∙ left (λ ws l. filtered_over if_so of rest ws l)
left_by NoMemory if_so of us rest u vs n x is so left = tt

-- an answer that is an error
failing_by : (r : Result Counted CallFault) (e : CallFault) (x : Evaluated) → IsErrAnd r (λ f. f ≡ e) → IsFailing e x → MatchResult r (λ c. IsRan c x) (λ f. IsFailing f x)
failing_by (Ok c) e x same h = absurd same
failing_by (Err f) e x same h = subst (λ (g : CallFault). IsFailing g x) (sym same) h

pub filtered_left : (r : Result Counted CallFault) (e : CallFault) (if_so of : Tree → ℕ → Evaluated) (us rest : List Tree) (u : Tree) (vs : List Tree) (n : ℕ) (x : Evaluated) → IsErrAnd r (λ f. f ≡ e) → us ≡ u ∷ rest
    → filtered_over if_so of us vs n ≡ x → IsLeft e (if_so u) (of u) vs n
    → MatchResult r (λ c. IsRan c x) (λ f. IsFailing f x)
filtered_left r e if_so of us rest u vs n x same is so left = failing_by r e x same (left_by e if_so of us rest u vs n x is so left)
