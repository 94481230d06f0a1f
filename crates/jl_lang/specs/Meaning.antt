-- What a definition answers on arguments, and the count of its steps.
use Rattle.std.specs.Prelude.{ℕ, ◌+◌, Bool, true, false, not, nat_lt, if◌then◌else◌, List, [], ◌∷◌, ◌++◌, length, Option, Some, None}
use Rattle.std.specs.List.{list_any, list_all}
use Rattle.std.specs.Str.{bytes_eq}
use Rattle.jl_text.specs.declared.limits.TheConstants.{MOST_TEXT_BYTES, MOST_VALUE_DEPTH}
use Rattle.jl_value.specs.Tree.{Tree, truth, list, table, items_of, members_of, nesting}
use Rattle.jl_value.specs.Canonical.{text_of}
use Rattle.jl_value.specs.Library.{Answer, value, error}
use Rattle.jl_value.specs.declared.library.TaskError.TheVariants.{NoArgument, ExtraArgument, BadKind, TooLong, TooDeep}
use Rattle.jl_lexer.specs.declared.operators.Operator.{Operator}
use Rattle.jl_lexer.specs.Words.{constant_of, key_in}
use Rattle.jl_lexer.specs.Trees.{Expression, tall, leaf, bracketed, before, between, choice, index, call, span, list as listed, each, filtered, table as tabled, Members, no_members, member, Entries, no_entries, entry}
use Rattle.jl_module.specs.Headings.{Definition, LineReading, bad, good, definition_in}
use Rattle.jl_builtins.specs.declared.left_side.Settled.{Settled}
use Rattle.jl_builtins.specs.declared.left_side.Settled.TheVariants.{Known, Open, Wrong, Both}
use Rattle.jl_operands.specs.Steps.{Evaluated, done, failed, then', counted, operated}
use Rattle.jl_builtins.specs.Operations.{operation, prefixed, element_of, settle}
use Rattle.jl_builtins.specs.Calls.{call_value, range_of}
use Rattle.jl_operands.specs.Lists.{source_of, each_over, filtered_over, over, with_entry}

-- the argument of a name
abbrev pub argument : List ℕ → List (List ℕ × Tree) → Option Tree
argument n [] = None
argument n (p ∷ ps) = if bytes_eq n p.0 then Some p.1 else argument n ps

-- the value that a name stands for, where it stands for one
abbrev pub named : ℕ → Option Tree → Evaluated
named n None = failed NoArgument
named n (Some v) = counted n v

-- the value of a word: what it writes, or the argument that it names
abbrev pub word_value : List (List ℕ × Tree) → List ℕ → Option Tree → ℕ → Evaluated
word_value ps w (Some v) n = counted n v
word_value ps w None n = named n (argument w ps)

-- a truth, as the right side of `or` and `and` is to be
abbrev pub truth_counted : Tree → ℕ → Evaluated
truth_counted (truth b) n = counted n (truth b)
truth_counted _ n = failed BadKind

-- an operation, from its left side, the count behind it, and what the right side comes to
abbrev pub settled : Operator → Tree → Settled → ℕ → (ℕ → Evaluated) → Evaluated
settled o v (Known b) n right = counted n (truth b)
settled o v Open n right = then' (right n) truth_counted
settled o v Wrong n right = failed BadKind
settled o v Both n right = then' (right n) (λ w m. operated m (operation o v w))

-- a value that is counted once more
abbrev pub again : Evaluated → Evaluated
again r = then' r (λ v n. counted n v)

-- one of two branches, by a condition
abbrev pub chosen : Tree → ℕ → (ℕ → Evaluated) → (ℕ → Evaluated) → Evaluated
chosen (truth true) n first last = again (first n)
chosen (truth false) n first last = again (last n)
chosen _ n first last = failed BadKind

-- the value of an expression behind a count of steps: its parts from left to right, each value counted before it is made
abbrev mutual
  pub value_of : List (List ℕ × Tree) → Expression → ℕ → Evaluated
  value_of ps tall n = failed BadKind
  value_of ps (leaf w) n = word_value ps w (constant_of w) n
  value_of ps (bracketed e) n = value_of ps e n
  value_of ps (before p e) n = then' (value_of ps e n) (λ v m. operated m (prefixed p v))
  value_of ps (between o a b) n = then' (value_of ps a n) (λ v m. settled o v (settle o v) m (λ k. value_of ps b k))
  value_of ps (choice a c b) n = then' (value_of ps c n) (λ v m. chosen v m (λ k. value_of ps a k) (λ k. value_of ps b k))
  value_of ps (index a i) n = then' (value_of ps a n) (λ v m. then' (value_of ps i m) (λ w k. operated k (element_of v w)))
  value_of ps (call f e) n = then' (value_of ps e n) (λ v m. operated m (call_value f v))
  value_of ps (span a b) n = then' (value_of ps a n) (λ v m. then' (value_of ps b m) (λ w k. operated k (range_of v w)))
  value_of ps (listed ms) n = members_value ps ms [] n
  value_of ps (each e x a) n = then' (value_of ps a n) (λ v m. over (source_of v) (λ us. each_over (λ u k. value_of ((x, u) ∷ ps) e k) us [] m))
  value_of ps (filtered e x a c) n = then' (value_of ps a n) (λ v m. over (source_of v) (λ us. filtered_over (λ u k. value_of ((x, u) ∷ ps) c k) (λ u k. value_of ((x, u) ∷ ps) e k) us [] m))
  value_of ps (tabled es) n = entries_value ps es [] n

  -- a list, whose first members are these
  pub members_value : List (List ℕ × Tree) → Members → List Tree → ℕ → Evaluated
  members_value ps no_members vs n = counted n (list (items_of vs))
  members_value ps (member e ms) vs n = then' (value_of ps e n) (λ v m. members_value ps ms (vs ++ v ∷ []) m)

  -- a table, which has these members so far
  pub entries_value : List (List ℕ × Tree) → Entries → List (List ℕ × Tree) → ℕ → Evaluated
  entries_value ps no_entries kvs n = counted n (table (members_of kvs))
  entries_value ps (entry k e es) kvs n = then' (value_of ps e n) (λ v m. entries_value ps es (with_entry (key_in k) v kvs) m)

-- a value may nest 64 deep, and its text may have 2 ^ 20 bytes
abbrev pub limited : Evaluated → Answer
limited (failed e) = error e
limited (done v n) = if nat_lt MOST_VALUE_DEPTH (nesting v) then error TooDeep else (if nat_lt MOST_TEXT_BYTES (length (text_of v)) then error TooLong else value v)

-- whether a name is in the arguments
abbrev pub has_argument : List (List ℕ × Tree) → List ℕ → Bool
has_argument ps w = list_any (λ p. bytes_eq w p.0) ps

-- whether each parameter is in the arguments
abbrev pub has_arguments : List (List ℕ) → List (List ℕ × Tree) → Bool
has_arguments ws ps = list_all (has_argument ps) ws

-- whether each argument is a parameter
abbrev pub has_parameters : List (List ℕ) → List (List ℕ × Tree) → Bool
has_parameters ws ps = list_all (λ p. list_any (bytes_eq p.0) ws) ps

-- what a definition answers on arguments
abbrev pub called : Definition → List (List ℕ × Tree) → Answer
called d ps = if not (has_arguments d.parameters ps) then error NoArgument else (if not (has_parameters d.parameters ps) then error ExtraArgument else limited (value_of ps d.body 0))

-- what a line answers on arguments
abbrev pub answered : LineReading → List (List ℕ × Tree) → Answer
answered (bad k) ps = error BadKind
answered (good d) ps = called d ps

-- what a code answers: it is read again
abbrev pub answer_of : List ℕ → List (List ℕ × Tree) → Answer
answer_of c ps = answered (definition_in c) ps
