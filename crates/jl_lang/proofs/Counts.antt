-- The count of steps stays within its limit.
use Rattle.std.proofs.Common.{◌≡◌, ℕ, ◌+◌, ◌≤◌, Bool, true, false, List, [], ◌∷◌, ◌++◌, Option, Some, None, refl, subst, arith}
use Rattle.std.specs.Prelude.{nat_lt, if◌then◌else◌, Result, Ok, Err}
use Rattle.jl_text.specs.declared.limits.TheConstants.{MOST_STEPS}
use Rattle.jl_value.specs.Tree.{Tree, truth, list as listing, table as tabling, items_of, members_of}
use Rattle.jl_value.specs.declared.library.TaskError.{TaskError}
use Rattle.jl_value.specs.declared.library.TaskError.TheVariants.{TooLong}
use Rattle.jl_lexer.specs.declared.operators.Operator.{Operator}
use Rattle.jl_lexer.specs.Words.{constant_of, key_in}
use Rattle.jl_lexer.specs.Trees.{Expression, tall, leaf, bracketed, before, between, choice, index, call, span, list, each, filtered, table, Members, no_members, member, Entries, no_entries, entry}
use Rattle.jl_builtins.specs.declared.left_side.Settled.{Settled}
use Rattle.jl_builtins.specs.declared.left_side.Settled.TheVariants.{Known, Open, Wrong, Both}
use Rattle.jl_operands.specs.Steps.{Evaluated, done, failed, then', counted, operated, weight}
use Rattle.jl_builtins.specs.Operations.{operation, prefixed, element_of, settle}
use Rattle.jl_builtins.specs.Calls.{call_value, range_of}
use Rattle.jl_operands.specs.Lists.{source_of, each_over, picked, filtered_over, over, with_entry}
use Rattle.jl_lang.specs.Meaning.{argument, named, word_value, truth_counted, settled, chosen, value_of, members_value, entries_value}

abbrev IsLow : Evaluated → Type 0
IsLow (done v n) = n ≤ MOST_STEPS
IsLow (failed e) = Unit {0}

counted_if : (b : Bool) (v : Tree) (n : ℕ) → nat_lt MOST_STEPS n ≡ b → IsLow (if b then failed TooLong else done v n)
counted_if true v n h = tt
counted_if false v n h = grind arith

counted_low : (n : ℕ) (v : Tree) → IsLow (counted n v)
counted_low n v = counted_if (nat_lt MOST_STEPS (n + weight v)) v (n + weight v) refl

operated_low : (n : ℕ) (r : Result Tree TaskError) → IsLow (operated n r)
operated_low n (Ok v) = counted_low n v
operated_low n (Err e) = tt

then_low : (r : Evaluated) (f : Tree → ℕ → Evaluated) → ((v : Tree) (n : ℕ) → IsLow (f v n)) → IsLow (then' r f)
then_low (done v n) f h = h v n
then_low (failed e) f h = tt

named_low : (n : ℕ) (o : Option Tree) → IsLow (named n o)
named_low n None = tt
named_low n (Some v) = counted_low n v

word_low : (ps : List (List ℕ × Tree)) (w : List ℕ) (o : Option Tree) (n : ℕ) → IsLow (word_value ps w o n)
word_low ps w (Some v) n = counted_low n v
word_low ps w None n = named_low n (argument w ps)

truth_low : (v : Tree) (n : ℕ) → IsLow (truth_counted v n)
truth_low (truth b) n = counted_low n (truth b)
truth_low _ n = tt

settled_low : (o : Operator) (v : Tree) (s : Settled) (n : ℕ) (right : ℕ → Evaluated) → IsLow (settled o v s n right)
settled_low o v (Known b) n right = counted_low n (truth b)
settled_low o v Open n right = then_low (right n) truth_counted truth_low
settled_low o v Wrong n right = tt
settled_low o v Both n right = then_low (right n) _ (λ w m. operated_low m (operation o v w))

chosen_low : (v : Tree) (n : ℕ) (first last : ℕ → Evaluated) → IsLow (chosen v n first last)
chosen_low (truth true) n first last = then_low (first n) _ (λ v m. counted_low m v)
chosen_low (truth false) n first last = then_low (last n) _ (λ v m. counted_low m v)
chosen_low _ n first last = tt

over_low : (o : Option (List Tree)) (of : List Tree → Evaluated) → ((us : List Tree) → IsLow (of us)) → IsLow (over o of)
over_low None of h = tt
over_low (Some us) of h = h us

each_low : (of : Tree → ℕ → Evaluated) (us vs : List Tree) (n : ℕ) → IsLow (each_over of us vs n)
each_low of [] vs n = counted_low n (listing (items_of vs))
each_low of (u ∷ us) vs n = then_low (of u n) _ (λ v m. each_low of us (vs ++ v ∷ []) m)

picked_low : (c : Tree) (n : ℕ) (take leave : ℕ → Evaluated) → ((m : ℕ) → IsLow (take m)) → ((m : ℕ) → IsLow (leave m)) → IsLow (picked c n take leave)
picked_low (truth true) n take leave h k = h n
picked_low (truth false) n take leave h k = k n
picked_low _ n take leave h k = tt

filtered_low : (if_so of : Tree → ℕ → Evaluated) (us vs : List Tree) (n : ℕ) → IsLow (filtered_over if_so of us vs n)
filtered_low if_so of [] vs n = counted_low n (listing (items_of vs))
filtered_low if_so of (u ∷ us) vs n = then_low (if_so u n) _ (λ c m. picked_low c m _ _ (λ l. then_low (of u l) _ (λ v j. filtered_low if_so of us (vs ++ v ∷ []) j)) (λ l. filtered_low if_so of us vs l))

mutual
  value_low : (ps : List (List ℕ × Tree)) (e : Expression) (n : ℕ) → IsLow (value_of ps e n)
  value_low ps tall n = tt
  value_low ps (leaf w) n = word_low ps w (constant_of w) n
  value_low ps (bracketed e) n = value_low ps e n
  value_low ps (before p e) n = then_low (value_of ps e n) _ (λ v m. operated_low m (prefixed p v))
  value_low ps (between o a b) n = then_low (value_of ps a n) _ (λ v m. settled_low o v (settle o v) m (value_of ps b))
  value_low ps (choice a c b) n = then_low (value_of ps c n) _ (λ v m. chosen_low v m (value_of ps a) (value_of ps b))
  value_low ps (index a i) n = then_low (value_of ps a n) _ (λ v m. then_low (value_of ps i m) _ (λ w k. operated_low k (element_of v w)))
  value_low ps (call f e) n = then_low (value_of ps e n) _ (λ v m. operated_low m (call_value f v))
  value_low ps (span a b) n = then_low (value_of ps a n) _ (λ v m. then_low (value_of ps b m) _ (λ w k. operated_low k (range_of v w)))
  value_low ps (list ms) n = members_low ps ms [] n
  value_low ps (each e x a) n = then_low (value_of ps a n) _ (λ v m. over_low (source_of v) _ (λ us. each_low (λ u k. value_of ((x, u) ∷ ps) e k) us [] m))
  value_low ps (filtered e x a c) n = then_low (value_of ps a n) _ (λ v m. over_low (source_of v) _ (λ us. filtered_low (λ u k. value_of ((x, u) ∷ ps) c k) (λ u k. value_of ((x, u) ∷ ps) e k) us [] m))
  value_low ps (table es) n = entries_low ps es [] n

  members_low : (ps : List (List ℕ × Tree)) (ms : Members) (vs : List Tree) (n : ℕ) → IsLow (members_value ps ms vs n)
  members_low ps no_members vs n = counted_low n (listing (items_of vs))
  members_low ps (member e ms) vs n = then_low (value_of ps e n) _ (λ v m. members_low ps ms (vs ++ v ∷ []) m)

  entries_low : (ps : List (List ℕ × Tree)) (es : Entries) (kvs : List (List ℕ × Tree)) (n : ℕ) → IsLow (entries_value ps es kvs n)
  entries_low ps no_entries kvs n = counted_low n (tabling (members_of kvs))
  entries_low ps (entry w e es) kvs n = then_low (value_of ps e n) _ (λ v m. entries_low ps es (with_entry (key_in w) v kvs) m)

pub count_low : (ps : List (List ℕ × Tree)) (e : Expression) (n m : ℕ) (v : Tree) → value_of ps e n ≡ done v m → m ≤ MOST_STEPS
count_low ps e n m v same = subst IsLow same (value_low ps e n)
