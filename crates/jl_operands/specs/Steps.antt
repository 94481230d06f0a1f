-- The count of steps: each value counts what it weighs, and the count may not pass 2 ^ 24.
use Rattle.std.specs.Prelude.{ℕ, ◌+◌, nat_lt, if◌then◌else◌, length, Option, Some, None, Result, Ok, Err}
use Rattle.jl_text.specs.declared.limits.TheConstants.{MOST_STEPS}
use Rattle.jl_value.specs.Tree.{Tree, null, truth, whole, text, list, table, numbers, Items, no_items, item, Members, no_members, member}
use Rattle.jl_value.specs.declared.library.TaskError.{TaskError}
use Rattle.jl_value.specs.declared.library.TaskError.TheVariants.{TooLong}

-- what a value counts
abbrev mutual
  pub weight : Tree → ℕ
  weight null = 1
  weight (truth b) = 1
  weight (whole z) = 1
  weight (text s) = 1 + length s
  weight (list ts) = 1 + items_weight ts
  weight (table ms) = 1 + members_weight ms
  weight (numbers zs) = 1 + length zs

  -- what the members of a list count
  pub items_weight : Items → ℕ
  items_weight no_items = 0
  items_weight (item t ts) = weight t + items_weight ts

  -- what the keys and members of a table count
  pub members_weight : Members → ℕ
  members_weight no_members = 0
  members_weight (member k t ms) = length k + (weight t + members_weight ms)

-- a value with the count of steps so far, or the first error
pub data Evaluated : Type 0 where
  done : Tree → ℕ → Evaluated
  failed : TaskError → Evaluated

-- goes on where there is no error
abbrev pub then' : Evaluated → (Tree → ℕ → Evaluated) → Evaluated
then' (done v n) next = next v n
then' (failed e) next = failed e

-- a count of steps, where it does not pass 2 ^ 24
abbrev pub steps_within : ℕ → Option ℕ
steps_within n = if nat_lt MOST_STEPS n then None else Some n

-- a value to be counted, which may not pass 2 ^ 24
abbrev pub counted : ℕ → Tree → Evaluated
counted n v = if nat_lt MOST_STEPS (n + weight v) then failed TooLong else done v (n + weight v)

-- what an operation makes, to be counted, or its error
abbrev pub operated : ℕ → Result Tree TaskError → Evaluated
operated n (Ok v) = counted n v
operated n (Err e) = failed e
