-- What an expression is, as a tree: brackets stand in it, since its height counts them.
use Rattle.std.specs.Prelude.{ℕ, suc, max, nat_lt, if◌then◌else◌, List, [], ◌∷◌}
use Rattle.jl_text.specs.declared.limits.TheConstants.{MOST_BRACKETS}
use Rattle.jl_lexer.specs.declared.operators.Operator.{Operator}
use Rattle.jl_lexer.specs.declared.operators.Prefix.{Prefix}
use Rattle.jl_lexer.specs.declared.operators.Function.{Function}

mutual
  -- an expression
  pub data Expression : Type 0 where
    -- higher than a tree may be: what stood here was read, and is not kept
    tall : Expression
    -- a name, a whole number, a text, `True`, `False` or `None`, as it is written
    leaf : List ℕ → Expression
    -- `(e)`
    bracketed : Expression → Expression
    -- `not e` or `-e`
    before : Prefix → Expression → Expression
    -- an operator between two expressions
    between : Operator → Expression → Expression → Expression
    -- `a if c else b`, as a, c and b
    choice : Expression → Expression → Expression → Expression
    -- `a[i]`
    index : Expression → Expression → Expression
    -- a function of one member
    call : Function → Expression → Expression
    -- `range(a, b)`
    span : Expression → Expression → Expression
    -- `[a, b]`
    list : Members → Expression
    -- `[e for x in a]`
    each : Expression → List ℕ → Expression → Expression
    -- `[e for x in a if c]`
    filtered : Expression → List ℕ → Expression → Expression → Expression
    -- `{"k": a}`
    table : Entries → Expression

  -- the members of a list
  pub data Members : Type 0 where
    no_members : Members
    member : Expression → Members → Members

  -- the keys, as they are written, and the members of a table
  pub data Entries : Type 0 where
    no_entries : Entries
    entry : List ℕ → Expression → Entries → Entries

-- a list of expressions as members
abbrev pub members_of : List Expression → Members
members_of [] = no_members
members_of (e ∷ es) = member e (members_of es)

-- a list of keys and expressions as entries
abbrev pub entries_of : List (List ℕ × Expression) → Entries
entries_of [] = no_entries
entries_of (p ∷ ps) = entry p.0 p.1 (entries_of ps)

-- how high a tree is
abbrev mutual
  pub height : Expression → ℕ
  height tall = (suc MOST_BRACKETS)
  height (leaf w) = 0
  height (bracketed e) = suc (height e)
  height (before p e) = suc (height e)
  height (between o a b) = suc (max (height a) (height b))
  height (choice a c b) = suc (max (height a) (max (height c) (height b)))
  height (index a i) = suc (max (height a) (height i))
  height (call f e) = suc (height e)
  height (span a b) = suc (max (height a) (height b))
  height (list ms) = suc (members_height ms)
  height (each e x a) = suc (max (height e) (height a))
  height (filtered e x a c) = suc (max (height e) (max (height a) (height c)))
  height (table es) = suc (entries_height es)

  pub members_height : Members → ℕ
  members_height no_members = 0
  members_height (member e ms) = max (height e) (members_height ms)

  pub entries_height : Entries → ℕ
  entries_height no_entries = 0
  entries_height (entry k e es) = max (height e) (entries_height es)

-- what is kept of a tree: one that is higher than that limit is only told to be so
abbrev pub kept : Expression → Expression
kept e = if nat_lt MOST_BRACKETS (height e) then tall else e
