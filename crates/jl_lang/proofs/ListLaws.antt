-- How many members a list has that goes over another.
use Rattle.std.proofs.Common.{◌≡◌, ℕ, suc, ◌+◌, Bool, true, false, List, [], ◌∷◌, ◌++◌, length, refl, sym, ap, ◌∙◌, arith}
use Rattle.std.specs.Prelude.{if◌then◌else◌, nat_lt, Some}
use Rattle.jl_text.specs.declared.limits.TheConstants.{MOST_STEPS}
use Rattle.jl_value.specs.Tree.{Tree, truth, list, Items, items_of}
use Rattle.jl_value.specs.declared.library.TaskError.TheVariants.{TooLong}
use Rattle.jl_lexer.specs.Trees.{Expression, each, filtered}
use Rattle.jl_operands.specs.Steps.{Evaluated, done, failed, then', counted, weight}
use Rattle.jl_builtins.specs.Operations.{items_length}
use Rattle.jl_operands.specs.Lists.{source_of, each_over, picked, filtered_over, over, LetsThrough}
use Rattle.jl_lang.specs.Meaning.{value_of}

items_count : (vs : List Tree) → items_length (items_of vs) ≡ length vs
items_count [] = refl
items_count (v ∷ vs) = ap suc (items_count vs)

one_more : (vs : List Tree) (v : Tree) → length (vs ++ v ∷ []) ≡ suc (length vs)
one_more [] v = refl
one_more (u ∷ us) v = ap suc (one_more us v)

counted_by : (b : Bool) (n m : ℕ) (vs : List Tree) (ts : Items) → (if b then failed TooLong else done (list (items_of vs)) n) ≡ done (list ts) m → items_length ts ≡ length vs
counted_by true n m vs ts e = absurd (cc)
counted_by false n m vs ts e = let same : ts ≡ items_of vs = cc in ap items_length same ∙ items_count vs

counted_list : (n m : ℕ) (vs : List Tree) (ts : Items) → counted n (list (items_of vs)) ≡ done (list ts) m → items_length ts ≡ length vs
counted_list n m vs ts e = counted_by (nat_lt MOST_STEPS (n + weight (list (items_of vs)))) (n + weight (list (items_of vs))) m vs ts e

each_step : (r : Evaluated) (of : Tree → ℕ → Evaluated) (us vs : List Tree) (m : ℕ) (ts : Items) → ((v : Tree) (l : ℕ) → each_over of us (vs ++ v ∷ []) l ≡ done (list ts) m → items_length ts ≡ length (vs ++ v ∷ []) + length us)
    → then' r (λ v l. each_over of us (vs ++ v ∷ []) l) ≡ done (list ts) m → items_length ts ≡ length vs + suc (length us)
each_step (done v l) of us vs m ts more e = let rest = more v l e in let one = one_more vs v in omega arith
each_step (failed x) of us vs m ts more e = absurd (cc)

each_length : (of : Tree → ℕ → Evaluated) (us vs : List Tree) (n m : ℕ) (ts : Items) → each_over of us vs n ≡ done (list ts) m → items_length ts ≡ length vs + length us
each_length of [] vs n m ts e = let same = counted_list n m vs ts e in omega arith
each_length of (u ∷ us) vs n m ts e = each_step (of u n) of us vs m ts (λ v l. each_length of us (vs ++ v ∷ []) l m ts) e

then_is : (r : Evaluated) (f : Tree → ℕ → Evaluated) (v : Tree) (m : ℕ) → r ≡ done v m → then' r f ≡ f v m
then_is r f v m e = ap (λ s. then' s f) e

pub list_length : (ps : List (List ℕ × Tree)) (e a : Expression) (x : List ℕ) (n k m : ℕ) (v : Tree) (us : List Tree) (ts : Items) → value_of ps a n ≡ done v k → source_of v ≡ Some us → value_of ps (each e x a) n ≡ done (list ts) m → items_length ts ≡ length us
list_length ps e a x n k m v us ts made members so =
    let all = each_length (λ u j. value_of ((x, u) ∷ ps) e j) us [] k m ts
    (sym (ap (λ o. over o (λ us. each_over (λ u j. value_of ((x, u) ∷ ps) e j) us [] k)) members)
    ∙ sym (then_is (value_of ps a n) (λ w l. over (source_of w) (λ us. each_over (λ u j. value_of ((x, u) ∷ ps) e j) us [] l)) v k made)
    ∙ so) in
    omega arith

-- ---- with a condition

-- how many members were let through
record Through (if_so : Tree → ℕ → Evaluated) (us vs : List Tree) (ts : Items) : Type 0 where
  count : ℕ
  lets : LetsThrough if_so us count
  same : items_length ts ≡ length vs + count

took : (if_so : Tree → ℕ → Evaluated) (u : Tree) (us vs : List Tree) (v : Tree) (n l : ℕ) (ts : Items) → if_so u n ≡ done (truth true) l → Through if_so us (vs ++ v ∷ []) ts → Through if_so (u ∷ us) vs ts
took if_so u us vs v n l ts e t =
    let one = one_more vs v in let all = t.same in
    record { count = suc t.count; lets = record { answers = true ∷ t.lets.answers; given = ((n, l, e), t.lets.given); holding = ap suc t.lets.holding }; same = omega arith }

left : (if_so : Tree → ℕ → Evaluated) (u : Tree) (us vs : List Tree) (n l : ℕ) (ts : Items) → if_so u n ≡ done (truth false) l → Through if_so us vs ts → Through if_so (u ∷ us) vs ts
left if_so u us vs n l ts e t = record { count = t.count; lets = record { answers = false ∷ t.lets.answers; given = ((n, l, e), t.lets.given); holding = t.lets.holding }; same = t.same }

take_step : (r : Evaluated) (if_so of : Tree → ℕ → Evaluated) (u : Tree) (us vs : List Tree) (n l m : ℕ) (ts : Items) → if_so u n ≡ done (truth true) l
    → ((ws : List Tree) (j : ℕ) → filtered_over if_so of us ws j ≡ done (list ts) m → Through if_so us ws ts)
    → then' r (λ v j. filtered_over if_so of us (vs ++ v ∷ []) j) ≡ done (list ts) m → Through if_so (u ∷ us) vs ts
take_step (done v j) if_so of u us vs n l m ts e more so = took if_so u us vs v n l ts e (more (vs ++ v ∷ []) j so)
take_step (failed x) if_so of u us vs n l m ts e more so = absurd (cc)

pick_step : (c : Tree) (if_so of : Tree → ℕ → Evaluated) (u : Tree) (us vs : List Tree) (n l m : ℕ) (ts : Items) → if_so u n ≡ done c l
    → ((ws : List Tree) (j : ℕ) → filtered_over if_so of us ws j ≡ done (list ts) m → Through if_so us ws ts)
    → picked c l (λ k. then' (of u k) (λ v j. filtered_over if_so of us (vs ++ v ∷ []) j)) (λ k. filtered_over if_so of us vs k) ≡ done (list ts) m → Through if_so (u ∷ us) vs ts
pick_step (truth true) if_so of u us vs n l m ts e more so = take_step (of u l) if_so of u us vs n l m ts e more so
pick_step (truth false) if_so of u us vs n l m ts e more so = left if_so u us vs n l ts e (more vs l so)
pick_step _ if_so of u us vs n l m ts e more so = absurd (cc)

condition_step : (r : Evaluated) (if_so of : Tree → ℕ → Evaluated) (u : Tree) (us vs : List Tree) (n m : ℕ) (ts : Items) → if_so u n ≡ r
    → ((ws : List Tree) (j : ℕ) → filtered_over if_so of us ws j ≡ done (list ts) m → Through if_so us ws ts)
    → then' r (λ c l. picked c l (λ k. then' (of u k) (λ v j. filtered_over if_so of us (vs ++ v ∷ []) j)) (λ k. filtered_over if_so of us vs k)) ≡ done (list ts) m → Through if_so (u ∷ us) vs ts
condition_step (done c l) if_so of u us vs n m ts e more so = pick_step c if_so of u us vs n l m ts e more so
condition_step (failed x) if_so of u us vs n m ts e more so = absurd (cc)

filtered_length : (if_so of : Tree → ℕ → Evaluated) (us vs : List Tree) (n m : ℕ) (ts : Items) → filtered_over if_so of us vs n ≡ done (list ts) m → Through if_so us vs ts
filtered_length if_so of [] vs n m ts e = let same = counted_list n m vs ts e in record { count = 0; lets = record { answers = []; given = tt; holding = refl }; same = omega arith }
filtered_length if_so of (u ∷ us) vs n m ts e = condition_step (if_so u n) if_so of u us vs n m ts refl (λ ws j. filtered_length if_so of us ws j m ts) e

through_all : (if_so : Tree → ℕ → Evaluated) (us : List Tree) (ts : Items) → Through if_so us [] ts → LetsThrough if_so us (items_length ts)
through_all if_so us ts t = let all = t.same in let held = t.lets.holding in record { answers = t.lets.answers; given = t.lets.given; holding = omega arith }

pub filter_length : (ps : List (List ℕ × Tree)) (e a c : Expression) (x : List ℕ) (n k m : ℕ) (v : Tree) (us : List Tree) (ts : Items) → value_of ps a n ≡ done v k → source_of v ≡ Some us → value_of ps (filtered e x a c) n ≡ done (list ts) m → LetsThrough (λ u j. value_of ((x, u) ∷ ps) c j) us (items_length ts)
filter_length ps e a c x n k m v us ts made members so =
    through_all (λ u j. value_of ((x, u) ∷ ps) c j) us ts
    (filtered_length (λ u j. value_of ((x, u) ∷ ps) c j) (λ u j. value_of ((x, u) ∷ ps) e j) us [] k m ts
    (sym (ap (λ o. over o (λ us. filtered_over (λ u j. value_of ((x, u) ∷ ps) c j) (λ u j. value_of ((x, u) ∷ ps) e j) us [] k)) members)
    ∙ sym (then_is (value_of ps a n) (λ w l. over (source_of w) (λ us. filtered_over (λ u j. value_of ((x, u) ∷ ps) c j) (λ u j. value_of ((x, u) ∷ ps) e j) us [] l)) v k made)
    ∙ so))
