-- A shift-reduce parser: an expression is read from left to right, sign by sign, with what waits for an operand on a stack.
use Rattle.std.specs.Prelude.{ℕ, suc, Bool, true, false, nat_le, nat_lt, if◌then◌else◌, List, [], ◌∷◌, ◌++◌, Option, Some, None}
use Rattle.std.specs.Str.{bytes_eq}
use Rattle.jl_text.specs.declared.limits.TheConstants.{MOST_BRACKETS}
use Rattle.jl_lexer.specs.declared.operators.Operator.{Operator}
use Rattle.jl_lexer.specs.declared.operators.Prefix.{Prefix}
use Rattle.jl_lexer.specs.declared.operators.Function.{Function}
use Rattle.jl_lexer.specs.declared.operators.Function.TheVariants.{Len, Sum, Min, Max, Range, Array}
use Rattle.jl_grammar.specs.Frames.{Frame, Bracket, Behind, Operand, Condition, Otherwise, Element, Member, Bound, Listed, Keyed, Source, Filter}
use Rattle.jl_grammar.specs.declared.frames.Kind.{Kind}
use Rattle.jl_grammar.specs.declared.frames.Kind.TheVariants.{Inside, Behind as BehindOne, Operand as OperandOf, Condition as OfCondition, Otherwise as OfChoice, Source as OfSource, Filter as OfFilter}
use Rattle.jl_grammar.specs.declared.mode.Mode.{Mode}
use Rattle.jl_grammar.specs.declared.mode.Mode.TheVariants.{WantsOperand, HasOperand, AfterFunction, WantsKey, WantsColon, WantsVariable, WantsIn}
use Rattle.jl_grammar.specs.declared.joint.Joint.{Joint}
use Rattle.jl_grammar.specs.declared.joint.Joint.TheVariants.{Infix, Opening, If, Else, For, Closing, Ending, Braced, Comma, Other}
use Rattle.jl_lexer.specs.Words.{is_leaf, is_identifier, is_key}
use Rattle.jl_lexer.specs.Marks.{is_mark, if_word, else_word, for_word, in_word, operator_of, prefix_of, function_of, own_level, left_level, prefix_level}
use Rattle.jl_lexer.specs.Trees.{Expression, tall, leaf, bracketed, before, between, choice, index, call, span, list, each, filtered, table, no_members, members_of, no_entries, entries_of, height}

-- what a sign is, where an operand stands before it
abbrev pub loop_joint : List ℕ → Joint
loop_joint w = if bytes_eq w for_word then For else (if is_mark 125 w then Braced else (if is_mark 44 w then Comma else Other))

abbrev pub mark_joint : List ℕ → Joint
mark_joint w =
    if is_mark 91 w then Opening else (if is_mark 41 w then Closing else (if is_mark 93 w then Ending else (if bytes_eq w if_word then If else (if bytes_eq w else_word then Else else loop_joint w))))

abbrev pub joint_by : Option Operator → List ℕ → Joint
joint_by (Some o) w = Infix o
joint_by None w = mark_joint w

abbrev pub joint_of : List ℕ → Joint
joint_of w = joint_by (operator_of w) w

-- what kind of frame waits
abbrev pub kind_of : Frame → Kind
kind_of Bracket = Inside
kind_of (Behind p) = BehindOne p
kind_of (Operand o a) = OperandOf o
kind_of (Condition a) = OfCondition
kind_of (Otherwise a c) = OfChoice
kind_of (Element a) = Inside
kind_of (Member f) = Inside
kind_of (Bound a) = Inside
kind_of (Listed es) = Inside
kind_of (Keyed es k) = Inside
kind_of (Source e x) = OfSource
kind_of (Filter e x a) = OfFilter

-- the lowest level of the operand that a frame waits for
abbrev pub kind_wanted : Kind → ℕ
kind_wanted Inside = 0
kind_wanted (BehindOne p) = prefix_level p
kind_wanted (OperandOf o) = suc (own_level o)
kind_wanted OfCondition = 1
kind_wanted OfChoice = 0
kind_wanted OfSource = 1
kind_wanted OfFilter = 1

abbrev pub wanted_by : Frame → ℕ
wanted_by f = kind_wanted (kind_of f)

abbrev pub wanted : List Frame → ℕ
wanted [] = 0
wanted (f ∷ fs) = wanted_by f

abbrev pub kind_is_bracket : Kind → Bool
kind_is_bracket Inside = true
kind_is_bracket (BehindOne p) = false
kind_is_bracket (OperandOf o) = false
kind_is_bracket OfCondition = false
kind_is_bracket OfChoice = false
kind_is_bracket OfSource = true
kind_is_bracket OfFilter = true

abbrev pub is_bracket : Frame → Bool
is_bracket f = kind_is_bracket (kind_of f)

-- how many brackets are open
abbrev pub depth : List Frame → ℕ
depth [] = 0
depth (f ∷ fs) = if is_bracket f then suc (depth fs) else depth fs

-- whether an operation that waits is done before an operator whose left operand has this level at least
abbrev pub kind_binds : ℕ → Kind → Bool
kind_binds l Inside = false
kind_binds l (BehindOne p) = nat_le l (prefix_level p)
kind_binds l (OperandOf o) = nat_le l (own_level o)
kind_binds l OfCondition = false
kind_binds l OfChoice = nat_le l 0
kind_binds l OfSource = false
kind_binds l OfFilter = false

abbrev pub binds : ℕ → Frame → Bool
binds l f = kind_binds l (kind_of f)

-- an operation with its last operand; `keep` is what is kept of each new tree
abbrev pub with_last : (Expression → Expression) → Frame → Expression → Expression
with_last keep Bracket e = e
with_last keep (Behind p) e = keep (before p e)
with_last keep (Operand o a) e = keep (between o a e)
with_last keep (Condition a) e = e
with_last keep (Otherwise a c) e = keep (choice a c e)
with_last keep (Element a) e = e
with_last keep (Member f) e = e
with_last keep (Bound a) e = e
with_last keep (Listed es) e = e
with_last keep (Keyed es k) e = e
with_last keep (Source x n) e = e
with_last keep (Filter x n a) e = e

-- the frames that are left, and the operand
pub record Operands : Type 0 where
  pub frames : List Frame
  pub tree : Expression

-- does the operations that bind before an operator
abbrev pub reduced : (Expression → Expression) → ℕ → List Frame → Expression → Operands
reduced keep l [] e = record { frames = []; tree = e }
reduced keep l (f ∷ fs) e = if binds l f then reduced keep l fs (with_last keep f e) else record { frames = f ∷ fs; tree = e }

-- what one more sign makes
pub data Step : Type 0 where
  going : List Frame → Mode → Step
  bad : Step
  deep : Step

-- one bracket more, where there is room for it
abbrev pub with_bracket : ℕ → Frame → List Frame → Step
with_bracket room f fs = if nat_lt (depth fs) room then going (f ∷ fs) WantsOperand else deep

abbrev pub at_prefix : List Frame → Option Prefix → Step
at_prefix fs None = bad
at_prefix fs (Some p) = if nat_le (wanted fs) (prefix_level p) then going (Behind p ∷ fs) WantsOperand else bad

-- a function's name, or what may stand before an operand
abbrev pub at_function : List Frame → Option Function → Option Prefix → Step
at_function fs None p = at_prefix fs p
at_function fs (Some f) p = going fs (AfterFunction f)

-- `]` where a member is wanted: a list of none
abbrev pub at_empty_close : List Frame → Step
at_empty_close [] = bad
at_empty_close (Bracket ∷ fs) = bad
at_empty_close (Behind p ∷ fs) = bad
at_empty_close (Operand o a ∷ fs) = bad
at_empty_close (Condition a ∷ fs) = bad
at_empty_close (Otherwise a c ∷ fs) = bad
at_empty_close (Element a ∷ fs) = bad
at_empty_close (Member f ∷ fs) = bad
at_empty_close (Bound a ∷ fs) = bad
at_empty_close (Listed [] ∷ fs) = going fs (HasOperand (list no_members))
at_empty_close (Listed (e ∷ es) ∷ fs) = bad
at_empty_close (Keyed es k ∷ fs) = bad
at_empty_close (Source e x ∷ fs) = bad
at_empty_close (Filter e x a ∷ fs) = bad

-- `{`
abbrev pub at_table : ℕ → List Frame → Step
at_table room fs = if nat_lt (depth fs) room then going fs (WantsKey []) else deep

-- a bracket where an operand begins, a function's name, or what may stand before an operand
abbrev pub at_opening : ℕ → List Frame → List ℕ → Step
at_opening room fs w =
    if is_mark 40 w then with_bracket room Bracket fs else (if is_mark 91 w then with_bracket room (Listed []) fs else (if is_mark 93 w then at_empty_close fs else (if is_mark 123 w then at_table room fs else at_function fs (function_of w) (prefix_of w))))

-- a sign where an operand begins
abbrev pub at_operand : ℕ → List Frame → List ℕ → Step
at_operand room fs w = if is_leaf w then going fs (HasOperand (leaf w)) else at_opening room fs w

abbrev pub at_operator : Operator → Operands → Step
at_operator o r = if nat_le (wanted r.frames) (own_level o) then going (Operand o r.tree ∷ r.frames) WantsOperand else bad

-- `if` behind an operand, where nothing but a bracket or an `else` waits
abbrev pub at_condition : List Frame → Expression → Step
at_condition fs e = if nat_le (wanted fs) 0 then going (Condition e ∷ fs) WantsOperand else bad

-- whether the list that a list goes over stands on top
abbrev pub kind_is_source : Kind → Bool
kind_is_source Inside = false
kind_is_source (BehindOne p) = false
kind_is_source (OperandOf o) = false
kind_is_source OfCondition = false
kind_is_source OfChoice = false
kind_is_source OfSource = true
kind_is_source OfFilter = false

abbrev pub is_source : Frame → Bool
is_source f = kind_is_source (kind_of f)

abbrev pub top_is_source : List Frame → Bool
top_is_source [] = false
top_is_source (f ∷ fs) = is_source f

-- `if` behind that list: the condition of the members follows
abbrev pub at_filter : List Frame → Expression → Step
at_filter [] e = bad
at_filter (Bracket ∷ fs) e = bad
at_filter (Behind p ∷ fs) e = bad
at_filter (Operand o a ∷ fs) e = bad
at_filter (Condition a ∷ fs) e = bad
at_filter (Otherwise a c ∷ fs) e = bad
at_filter (Element a ∷ fs) e = bad
at_filter (Member f ∷ fs) e = bad
at_filter (Bound a ∷ fs) e = bad
at_filter (Listed es ∷ fs) e = bad
at_filter (Keyed es k ∷ fs) e = bad
at_filter (Source m x ∷ fs) e = going (Filter m x e ∷ fs) WantsOperand
at_filter (Filter m x a ∷ fs) e = bad

-- `if` behind an operand
abbrev pub at_if : List Frame → Expression → Step
at_if fs e = if top_is_source fs then at_filter fs e else at_condition fs e

-- `for` behind the first member of a list
abbrev pub at_for : List Frame → Expression → Step
at_for [] e = bad
at_for (Bracket ∷ fs) e = bad
at_for (Behind p ∷ fs) e = bad
at_for (Operand o a ∷ fs) e = bad
at_for (Condition a ∷ fs) e = bad
at_for (Otherwise a c ∷ fs) e = bad
at_for (Element a ∷ fs) e = bad
at_for (Member f ∷ fs) e = bad
at_for (Bound a ∷ fs) e = bad
at_for (Listed [] ∷ fs) e = going fs (WantsVariable e)
at_for (Listed (a ∷ es) ∷ fs) e = bad
at_for (Keyed es k ∷ fs) e = bad
at_for (Source m x ∷ fs) e = bad
at_for (Filter m x a ∷ fs) e = bad

abbrev pub at_else : List Frame → Expression → Step
at_else [] e = bad
at_else (Bracket ∷ fs) e = bad
at_else (Behind p ∷ fs) e = bad
at_else (Operand o a ∷ fs) e = bad
at_else (Condition a ∷ fs) e = going (Otherwise a e ∷ fs) WantsOperand
at_else (Otherwise a c ∷ fs) e = bad
at_else (Element a ∷ fs) e = bad
at_else (Member f ∷ fs) e = bad
at_else (Bound a ∷ fs) e = bad
at_else (Listed es ∷ fs) e = bad
at_else (Keyed es k ∷ fs) e = bad
at_else (Source m x ∷ fs) e = bad
at_else (Filter m x a ∷ fs) e = bad

-- `)`
abbrev pub at_round_close : (Expression → Expression) → List Frame → Expression → Step
at_round_close keep [] e = bad
at_round_close keep (Bracket ∷ fs) e = going fs (HasOperand (keep (bracketed e)))
at_round_close keep (Behind p ∷ fs) e = bad
at_round_close keep (Operand o a ∷ fs) e = bad
at_round_close keep (Condition a ∷ fs) e = bad
at_round_close keep (Otherwise a c ∷ fs) e = bad
at_round_close keep (Element a ∷ fs) e = bad
at_round_close keep (Member f ∷ fs) e = going fs (HasOperand (keep (call f e)))
at_round_close keep (Bound a ∷ fs) e = going fs (HasOperand (keep (span a e)))
at_round_close keep (Listed es ∷ fs) e = bad
at_round_close keep (Keyed es k ∷ fs) e = bad
at_round_close keep (Source m x ∷ fs) e = bad
at_round_close keep (Filter m x a ∷ fs) e = bad

-- `]`
abbrev pub at_square_close : (Expression → Expression) → List Frame → Expression → Step
at_square_close keep [] e = bad
at_square_close keep (Bracket ∷ fs) e = bad
at_square_close keep (Behind p ∷ fs) e = bad
at_square_close keep (Operand o a ∷ fs) e = bad
at_square_close keep (Condition a ∷ fs) e = bad
at_square_close keep (Otherwise a c ∷ fs) e = bad
at_square_close keep (Element a ∷ fs) e = going fs (HasOperand (keep (index a e)))
at_square_close keep (Member f ∷ fs) e = bad
at_square_close keep (Bound a ∷ fs) e = bad
at_square_close keep (Listed es ∷ fs) e = going fs (HasOperand (keep (list (members_of (es ++ e ∷ [])))))
at_square_close keep (Keyed es k ∷ fs) e = bad
at_square_close keep (Source m x ∷ fs) e = going fs (HasOperand (keep (each m x e)))
at_square_close keep (Filter m x a ∷ fs) e = going fs (HasOperand (keep (filtered m x a e)))

-- `}`
abbrev pub at_curly_close : (Expression → Expression) → List Frame → Expression → Step
at_curly_close keep [] e = bad
at_curly_close keep (Bracket ∷ fs) e = bad
at_curly_close keep (Behind p ∷ fs) e = bad
at_curly_close keep (Operand o a ∷ fs) e = bad
at_curly_close keep (Condition a ∷ fs) e = bad
at_curly_close keep (Otherwise a c ∷ fs) e = bad
at_curly_close keep (Element a ∷ fs) e = bad
at_curly_close keep (Member f ∷ fs) e = bad
at_curly_close keep (Bound a ∷ fs) e = bad
at_curly_close keep (Listed es ∷ fs) e = bad
at_curly_close keep (Keyed es k ∷ fs) e = going fs (HasOperand (keep (table (entries_of (es ++ (k, e) ∷ [])))))
at_curly_close keep (Source m x ∷ fs) e = bad
at_curly_close keep (Filter m x a ∷ fs) e = bad

-- `,` behind the first member of a function: `range` alone takes two
abbrev pub at_bound : Function → List Frame → Expression → Step
at_bound Len fs e = bad
at_bound Sum fs e = bad
at_bound Min fs e = bad
at_bound Max fs e = bad
at_bound Range fs e = going (Bound e ∷ fs) WantsOperand
at_bound Array fs e = bad

-- `,` behind a member
abbrev pub at_comma : List Frame → Expression → Step
at_comma [] e = bad
at_comma (Bracket ∷ fs) e = bad
at_comma (Behind p ∷ fs) e = bad
at_comma (Operand o a ∷ fs) e = bad
at_comma (Condition a ∷ fs) e = bad
at_comma (Otherwise a c ∷ fs) e = bad
at_comma (Element a ∷ fs) e = bad
at_comma (Member f ∷ fs) e = at_bound f fs e
at_comma (Bound a ∷ fs) e = bad
at_comma (Listed es ∷ fs) e = going (Listed (es ++ e ∷ []) ∷ fs) WantsOperand
at_comma (Keyed es k ∷ fs) e = going fs (WantsKey (es ++ (k, e) ∷ []))
at_comma (Source m x ∷ fs) e = bad
at_comma (Filter m x a ∷ fs) e = bad

-- a sign behind an operand
abbrev pub at_joint : (Expression → Expression) → ℕ → List Frame → Expression → Joint → Step
at_joint keep room fs e (Infix o) = at_operator o (reduced keep (left_level o) fs e)
at_joint keep room fs e Opening = with_bracket room (Element e) fs
at_joint keep room fs e If = let r = reduced keep 1 fs e in at_if r.frames r.tree
at_joint keep room fs e Else = let r = reduced keep 1 fs e in at_else r.frames r.tree
at_joint keep room fs e For = let r = reduced keep 0 fs e in at_for r.frames r.tree
at_joint keep room fs e Closing = let r = reduced keep 0 fs e in at_round_close keep r.frames r.tree
at_joint keep room fs e Ending = let r = reduced keep 0 fs e in at_square_close keep r.frames r.tree
at_joint keep room fs e Braced = let r = reduced keep 0 fs e in at_curly_close keep r.frames r.tree
at_joint keep room fs e Comma = let r = reduced keep 0 fs e in at_comma r.frames r.tree
at_joint keep room fs e Other = bad

-- behind a function's name
abbrev pub at_call : ℕ → Function → List Frame → List ℕ → Step
at_call room f fs w = if is_mark 40 w then with_bracket room (Member f) fs else bad

-- `}` where the first key of a table is wanted
abbrev pub at_empty_table : List Frame → List (List ℕ × Expression) → List ℕ → Step
at_empty_table fs [] w = if is_mark 125 w then going fs (HasOperand (table no_entries)) else bad
at_empty_table fs (p ∷ ps) w = bad

-- where a key of a table is wanted
abbrev pub at_key : List Frame → List (List ℕ × Expression) → List ℕ → Step
at_key fs es w = if is_key w then going fs (WantsColon es w) else at_empty_table fs es w

-- `:` behind a key
abbrev pub at_colon : ℕ → List Frame → List (List ℕ × Expression) → List ℕ → List ℕ → Step
at_colon room fs es k w = if is_mark 58 w then with_bracket room (Keyed es k) fs else bad

-- the variable of a list behind `for`
abbrev pub at_variable : List Frame → Expression → List ℕ → Step
at_variable fs e w = if is_identifier w then going fs (WantsIn e w) else bad

-- `in` behind it
abbrev pub at_in : ℕ → List Frame → Expression → List ℕ → List ℕ → Step
at_in room fs e x w = if bytes_eq w in_word then with_bracket room (Source e x) fs else bad

abbrev pub step : (Expression → Expression) → ℕ → List Frame → Mode → List ℕ → Step
step keep room fs WantsOperand w = at_operand room fs w
step keep room fs (HasOperand e) w = at_joint keep room fs e (joint_of w)
step keep room fs (AfterFunction f) w = at_call room f fs w
step keep room fs (WantsKey es) w = at_key fs es w
step keep room fs (WantsColon es k) w = at_colon room fs es k w
step keep room fs (WantsVariable e) w = at_variable fs e w
step keep room fs (WantsIn e x) w = at_in room fs e x w

-- what signs are: the tree that they spell, no expression, or one whose brackets nest too deep before it is none
pub data Read : Type 0 where
  read : Expression → Read
  broken : Read
  nested_deep : Read

abbrev pub whole_tree_of : List Frame → Expression → Read
whole_tree_of [] e = read e
whole_tree_of (f ∷ fs) e = broken

-- at the end of the signs
abbrev pub finished : (Expression → Expression) → List Frame → Mode → Read
finished keep fs WantsOperand = broken
finished keep fs (AfterFunction f) = broken
finished keep fs (WantsKey es) = broken
finished keep fs (WantsColon es k) = broken
finished keep fs (WantsVariable e) = broken
finished keep fs (WantsIn e x) = broken
finished keep fs (HasOperand e) = let r = reduced keep 0 fs e in whole_tree_of r.frames r.tree

abbrev pub follow : Step → (List Frame → Mode → Read) → Read
follow (going fs m) rest = rest fs m
follow bad rest = broken
follow deep rest = nested_deep

-- the rest of the signs, where so many brackets may be open
abbrev pub run : (Expression → Expression) → ℕ → List Frame → Mode → List (List ℕ) → Read
run keep room fs m [] = finished keep fs m
run keep room fs m (w ∷ ws) = follow (step keep room fs m w) (λ gs n. run keep room gs n ws)

-- what signs are, from left to right: so many brackets may be open
abbrev pub read_signs : List (List ℕ) → Read
read_signs ws = run (λ e. e) MOST_BRACKETS [] WantsOperand ws

-- the same of the topmost frame
abbrev pub top_binds : ℕ → List Frame → Bool
top_binds l [] = false
top_binds l (f ∷ fs) = binds l f
