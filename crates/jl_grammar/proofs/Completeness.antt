-- An expression of the grammar is read from its signs.
use Rattle.std.proofs.Common.{◌≡◌, ℕ, suc, ◌+◌, ◌<◌, ◌≤◌, max, true, false, List, [], ◌∷◌, ◌++◌}
use Rattle.std.proofs.Common.{Some, refl, sym, ap, ◌∙◌, arith, append_assoc}
use Rattle.std.specs.Prelude.{nat_le, nat_lt}
use Rattle.std.proofs.lemmas.List.{append-nil}
use Rattle.jl_lexer.specs.declared.operators.Operator.{Operator}
use Rattle.jl_lexer.specs.declared.operators.Operator.TheVariants.{Or, And}
use Rattle.jl_lexer.specs.declared.operators.Prefix.{Prefix}
use Rattle.jl_lexer.specs.declared.operators.Prefix.TheVariants.{Not, Negative}
use Rattle.jl_lexer.specs.declared.operators.Function.{Function}
use Rattle.jl_lexer.specs.declared.operators.Function.TheVariants.{Len, Sum, Min, Max, Range, Array}
use Rattle.jl_grammar.specs.declared.joint.Joint.TheVariants.{Infix}
use Rattle.jl_grammar.specs.Frames.{Frame, Bracket, Behind, Operand, Condition, Otherwise, Element}
use Rattle.jl_grammar.specs.Frames.{Member, Bound, Listed, Keyed, Source, Filter}
use Rattle.jl_grammar.specs.declared.mode.Mode.TheVariants.{WantsOperand, HasOperand, WantsKey}
use Rattle.jl_grammar.specs.declared.mode.Mode.TheVariants.{WantsVariable}
use Rattle.jl_lexer.specs.Words.{is_leaf, is_form_word, is_truth_word, is_function_word, true_word}
use Rattle.jl_lexer.specs.Words.{false_word, none_word, is_identifier, is_key}
use Rattle.jl_lexer.specs.Marks.{operator_word, prefix_word, if_word, else_word, for_word, in_word}
use Rattle.jl_lexer.specs.Marks.{prefix_of, function_word, own_level, left_level, prefix_level}
use Rattle.jl_lexer.specs.Trees.{Expression, tall, leaf, bracketed, before, between, choice, index}
use Rattle.jl_lexer.specs.Trees.{call, span, list, each, filtered, table, Members, no_members}
use Rattle.jl_lexer.specs.Trees.{member, members_of, Entries, no_entries, entry, entries_of}
use Rattle.jl_grammar.specs.Grammar.{level, IsFormed, AreFormed, HaveFormed, words_of, more_members}
use Rattle.jl_grammar.specs.Grammar.{more_entries, brackets, members_brackets, entries_brackets}
use Rattle.jl_grammar.specs.Grammar.{round_open, round_close, square_open, square_close, curly_open}
use Rattle.jl_grammar.specs.Grammar.{curly_close, comma, colon}
use Rattle.jl_grammar.specs.Parser.{joint_of, wanted, depth, binds, top_binds, with_last, Operands}
use Rattle.jl_grammar.specs.Parser.{reduced, at_table, with_bracket, at_operator, at_if}
use Rattle.jl_grammar.specs.Parser.{top_is_source, at_for, at_else, at_round_close, at_square_close}
use Rattle.jl_grammar.specs.Parser.{at_curly_close, at_comma, at_joint, Read, read, follow, run}
use Rattle.jl_grammar.specs.Parser.{whole_tree_of}

-- ---- what the signs of the grammar are

-- `(` is no leaf
pub no_leaf_round : is_leaf round_open ≡ false
unfolding true_word false_word none_word
no_leaf_round = refl

-- nor is `[`
pub no_leaf_square : is_leaf square_open ≡ false
unfolding true_word false_word none_word
no_leaf_square = refl

-- nor is `]`
pub no_leaf_end : is_leaf square_close ≡ false
unfolding true_word false_word none_word
no_leaf_end = refl

-- nor is `{`
pub no_leaf_curly : is_leaf curly_open ≡ false
unfolding true_word false_word none_word
no_leaf_curly = refl

-- nor is what may stand before an operand
pub no_leaf_prefix : (p : Prefix) → is_leaf (prefix_word p) ≡ false
unfolding true_word false_word none_word is_form_word is_truth_word is_function_word
no_leaf_prefix Not = refl
no_leaf_prefix Negative = refl

-- nor is a function's name
pub no_leaf_function : (f : Function) → is_leaf (function_word f) ≡ false
unfolding true_word false_word none_word is_form_word is_truth_word is_function_word
no_leaf_function Len = refl
no_leaf_function _ = refl

-- each prefix is read as itself
pub prefix_is : (p : Prefix) → prefix_of (prefix_word p) ≡ Some p
prefix_is Not = refl
prefix_is Negative = refl

-- each operator is read as itself
pub infix_is : (o : Operator) → joint_of (operator_word o) ≡ Infix o
infix_is Or = refl
infix_is _ = refl

-- ---- levels

-- an operator wants no less of its left operand than its own level
pub own_le_left : (o : Operator) → own_level o ≤ left_level o
own_le_left Or = omega arith
own_le_left _ = omega arith

-- no operator is of the level of `not`, nor above 6, nor 0
pub record Levels (o : Operator) : Type 0 where
  pub low : 1 ≤ left_level o
  pub high : own_level o ≤ 6
  pub no_not : 3 ≤ own_level o → 3 < left_level o

-- so each operator's levels are
pub levels : (o : Operator) → Levels o
levels Or = record { low = omega arith; high = omega arith; no_not = λ h. absurd (omega arith) }
levels And = record { low = omega arith; high = omega arith; no_not = λ h. absurd (omega arith) }
levels _ = record { low = omega arith; high = omega arith; no_not = λ h. omega arith }

-- what is at most is told at most
le_true : (a b : ℕ) → a ≤ b → nat_le a b ≡ true
le_true a b h = grind arith

-- what is more is not
le_false : (a b : ℕ) → b < a → nat_le a b ≡ false
le_false a b h = grind arith

-- what is less is told less
pub lt_true : (a b : ℕ) → a < b → nat_lt a b ≡ true
lt_true a b h = grind arith

-- ---- operations that are done

-- nothing is done where the topmost frame does not bind
pub stays : (l : ℕ) (fs : List Frame) (e : Expression) → top_binds l fs ≡ false
    → reduced (λ e. e) l fs e ≡ record { frames = fs; tree = e }
stays l [] e h = refl
stays l (f ∷ fs) e h = rw h

-- before an operator that may stand there
pub unbound : (o : Operator) (fs : List Frame) → wanted fs ≤ own_level o
    → top_binds (left_level o) fs ≡ false
unbound o (Behind Not ∷ fs) h = le_false (left_level o) 3 ((levels o).no_not h)
unbound o (Behind Negative ∷ fs) h = let l = levels o in let high : own_level o ≤ 6 = l.high in
    absurd (omega arith)
unbound o (Operand p a ∷ fs) h = let l = own_le_left o in
    le_false (left_level o) (own_level p) (omega arith)
unbound o (Otherwise a c ∷ fs) h = let l = levels o in let low : 1 ≤ left_level o = l.low in
    le_false (left_level o) 0 (omega arith)
unbound o _ h = refl

-- before an `if` that may stand there
pub unbound_if : (fs : List Frame) → wanted fs ≤ 0 → top_binds 1 fs ≡ false
unbound_if (Behind Not ∷ fs) h = absurd (omega arith)
unbound_if (Behind Negative ∷ fs) h = absurd (omega arith)
unbound_if (Operand p a ∷ fs) h = absurd (omega arith)
unbound_if _ h = refl

-- an `if` that may stand there is no condition of members
no_source : (fs : List Frame) → wanted fs ≤ 0 → top_is_source fs ≡ false
no_source (Source m x ∷ fs) h = absurd (omega arith)
no_source _ h = refl

-- what waits, and the operand, once the signs of an expression were read
abbrev pub spine : List Frame → Expression → Operands
spine fs tall = record { frames = fs; tree = tall }
spine fs (leaf w) = record { frames = fs; tree = leaf w }
spine fs (bracketed e) = record { frames = fs; tree = bracketed e }
spine fs (before p e) = spine (Behind p ∷ fs) e
spine fs (between o a b) = spine (Operand o a ∷ fs) b
spine fs (choice a c b) = spine (Otherwise a c ∷ fs) b
spine fs (index a i) = record { frames = fs; tree = index a i }
spine fs (call f e) = record { frames = fs; tree = call f e }
spine fs (span a b) = record { frames = fs; tree = span a b }
spine fs (list ms) = record { frames = fs; tree = list ms }
spine fs (each e x a) = record { frames = fs; tree = each e x a }
spine fs (filtered e x a c) = record { frames = fs; tree = filtered e x a c }
spine fs (table es) = record { frames = fs; tree = table es }

-- the operations of a level are done, of what waits and its operand
abbrev reduced_in : ℕ → Operands → Operands
reduced_in l r = reduced (λ e. e) l r.frames r.tree

-- a frame that binds is done first
bound_step : (l : ℕ) (f : Frame) (fs : List Frame) (e : Expression) → binds l f ≡ true
    → reduced (λ e. e) l (f ∷ fs) e ≡ reduced (λ e. e) l fs (with_last (λ e. e) f e)
bound_step l f fs e h = rw h

-- the operations of an expression are done before an operator of its level
pub unwinds : (e : Expression) (l : ℕ) (fs : List Frame) → IsFormed e → l ≤ level e
    → reduced_in l (spine fs e) ≡ reduced (λ e. e) l fs e
unwinds (before p e) l fs h k = let low = h.0 in
    unwinds e l (Behind p ∷ fs) h.1 (omega arith)
    ∙ bound_step l (Behind p) fs e (le_true l (prefix_level p) k)
unwinds (between o a b) l fs h k = let low = h.2 in
    unwinds b l (Operand o a ∷ fs) h.3 (omega arith)
    ∙ bound_step l (Operand o a) fs b (le_true l (own_level o) k)
unwinds (choice a c b) l fs h k =
    unwinds b l (Otherwise a c ∷ fs) h.4 (omega arith)
    ∙ bound_step l (Otherwise a c) fs b (le_true l 0 k)
unwinds _ l fs h k = refl

-- an atom is held as it is
pub spine_atom : (e : Expression) (fs : List Frame) → IsFormed e → 8 ≤ level e
    → spine fs e ≡ record { frames = fs; tree = e }
spine_atom (before Not e) fs h k = absurd (omega arith)
spine_atom (before Negative e) fs h k = absurd (omega arith)
spine_atom (between o a b) fs h k = let high : own_level o ≤ 6 = (levels o).high in
    absurd (omega arith)
spine_atom (choice a c b) fs h k = absurd (omega arith)
spine_atom _ fs h k = refl

-- ---- the signs of an expression are read

-- goes on behind an operand
abbrev pub held : ℕ → Operands → List (List ℕ) → Read
held room r ws = run (λ e. e) room r.frames (HasOperand r.tree) ws

-- goes on where an operand is wanted
abbrev wanting : ℕ → List Frame → List (List ℕ) → Read
wanting room fs ws = run (λ e. e) room fs WantsOperand ws

-- a bracket that has room is opened
pub nested_in : (room : ℕ) (f : Frame) (fs : List Frame) (ws : List (List ℕ)) → depth fs < room
    → follow (with_bracket room f fs) (λ gs n. run (λ e. e) room gs n ws) ≡ wanting room (f ∷ fs) ws
nested_in room f fs ws h = rw (lt_true (depth fs) room h)

-- `(` opens a bracket
pub open_round : (room : ℕ) (fs : List Frame) (ws : List (List ℕ)) → depth fs < room
    → wanting room fs (round_open ∷ ws) ≡ wanting room (Bracket ∷ fs) ws
open_round room fs ws h = rw no_leaf_round (nested_in room Bracket fs ws h)

-- a prefix that may stand there waits for its operand
pub read_prefix : (room : ℕ) (p : Prefix) (fs : List Frame) (ws : List (List ℕ))
    → wanted fs ≤ prefix_level p
    → wanting room fs (prefix_word p ∷ ws) ≡ wanting room (Behind p ∷ fs) ws
read_prefix room Not fs ws h = rw (no_leaf_prefix Not, le_true (wanted fs) 3 h)
read_prefix room Negative fs ws h = rw (no_leaf_prefix Negative, le_true (wanted fs) 7 h)

-- a leaf is held
leaf_read : (room : ℕ) (w : List ℕ) (fs : List Frame) (ws : List (List ℕ)) → is_leaf w ≡ true
    → wanting room fs (w ∷ ws) ≡ held room (record { frames = fs; tree = leaf w }) ws
leaf_read room w fs ws h = rw h

-- an operator behind its left operand waits with it
pub infix_read : (room : ℕ) (o : Operator) (a : Expression) (fs : List Frame) (ws : List (List ℕ))
    → IsFormed a → left_level o ≤ level a → wanted fs ≤ own_level o
    → held room (spine fs a) (operator_word o ∷ ws) ≡ wanting room (Operand o a ∷ fs) ws
infix_read room o a fs ws h k w =
    ap (λ j.
    follow (at_joint (λ e. e) room (spine fs a).frames (spine fs a).tree j)
    (λ gs n. run (λ e. e) room gs n ws)) (infix_is o)
    ∙ ap (λ r. follow (at_operator o r) (λ gs n. run (λ e. e) room gs n ws))
    (unwinds a (left_level o) fs h k ∙ stays (left_level o) fs a (unbound o fs w))
    ∙ rw (le_true (wanted fs) (own_level o) w)

-- `if` behind the value of a choice
pub if_read : (room : ℕ) (a : Expression) (fs : List Frame) (ws : List (List ℕ)) → IsFormed a
    → 1 ≤ level a → wanted fs ≤ 0
    → held room (spine fs a) (if_word ∷ ws) ≡ wanting room (Condition a ∷ fs) ws
if_read room a fs ws h k w =
    ap (λ (r : Operands). follow (at_if r.frames r.tree) (λ gs n. run (λ e. e) room gs n ws))
    (unwinds a 1 fs h k ∙ stays 1 fs a (unbound_if fs w))
    ∙ rw (no_source fs w, le_true (wanted fs) 0 w)

-- `else` behind its condition
pub else_read : (room : ℕ) (a c : Expression) (fs : List Frame) (ws : List (List ℕ)) → IsFormed c
    → 1 ≤ level c
    → held room (spine (Condition a ∷ fs) c) (else_word ∷ ws) ≡ wanting room (Otherwise a c ∷ fs) ws
else_read room a c fs ws h k =
    ap (λ (r : Operands). follow (at_else r.frames r.tree) (λ gs n. run (λ e. e) room gs n ws))
    (unwinds c 1 (Condition a ∷ fs) h k ∙ stays 1 (Condition a ∷ fs) c refl)

-- `)` behind what is in brackets
round_read : (room : ℕ) (e : Expression) (fs : List Frame) (ws : List (List ℕ)) → IsFormed e
    → held room (spine (Bracket ∷ fs) e) (round_close ∷ ws)
    ≡ held room (record { frames = fs; tree = bracketed e }) ws
round_read room e fs ws h =
    ap (λ (r : Operands).
    follow (at_round_close (λ e. e) r.frames r.tree) (λ gs n. run (λ e. e) room gs n ws))
    (unwinds e 0 (Bracket ∷ fs) h (omega arith) ∙ stays 0 (Bracket ∷ fs) e refl)

-- `[` behind a list that is indexed
pub square_read : (room : ℕ) (a : Expression) (fs : List Frame) (ws : List (List ℕ)) → IsFormed a
    → 8 ≤ level a → depth fs < room
    → held room (spine fs a) (square_open ∷ ws) ≡ wanting room (Element a ∷ fs) ws
square_read room a fs ws h k low =
    ap (λ r. held room r (square_open ∷ ws)) (spine_atom a fs h k)
    ∙ nested_in room (Element a) fs ws low

-- `]` behind the index
end_read : (room : ℕ) (a i : Expression) (fs : List Frame) (ws : List (List ℕ)) → IsFormed i
    → held room (spine (Element a ∷ fs) i) (square_close ∷ ws)
    ≡ held room (record { frames = fs; tree = index a i }) ws
end_read room a i fs ws h =
    ap (λ (r : Operands).
    follow (at_square_close (λ e. e) r.frames r.tree) (λ gs n. run (λ e. e) room gs n ws))
    (unwinds i 0 (Element a ∷ fs) h (omega arith) ∙ stays 0 (Element a ∷ fs) i refl)

-- a function's name and `(` open a bracket
pub open_call : (room : ℕ) (f : Function) (fs : List Frame) (ws : List (List ℕ))
    → wanting room fs (function_word f ∷ round_open ∷ ws)
    ≡ follow (with_bracket room (Member f) fs) (λ gs n. run (λ e. e) room gs n ws)
open_call room Len fs ws = rw (no_leaf_function Len)
open_call room Sum fs ws = rw (no_leaf_function Sum)
open_call room Min fs ws = rw (no_leaf_function Min)
open_call room Max fs ws = rw (no_leaf_function Max)
open_call room Range fs ws = rw (no_leaf_function Range)
open_call room Array fs ws = rw (no_leaf_function Array)

-- `)` behind the operand of a function
pub call_read : (room : ℕ) (f : Function) (e : Expression) (fs : List Frame) (ws : List (List ℕ))
    → IsFormed e
    → held room (spine (Member f ∷ fs) e) (round_close ∷ ws)
    ≡ held room (record { frames = fs; tree = call f e }) ws
call_read room f e fs ws h =
    ap (λ (r : Operands).
    follow (at_round_close (λ e. e) r.frames r.tree) (λ gs n. run (λ e. e) room gs n ws))
    (unwinds e 0 (Member f ∷ fs) h (omega arith) ∙ stays 0 (Member f ∷ fs) e refl)

-- `,` behind the first bound of a range
pub bound_read : (room : ℕ) (a : Expression) (fs : List Frame) (ws : List (List ℕ)) → IsFormed a
    → held room (spine (Member Range ∷ fs) a) (comma ∷ ws) ≡ wanting room (Bound a ∷ fs) ws
bound_read room a fs ws h =
    ap (λ (r : Operands). follow (at_comma r.frames r.tree) (λ gs n. run (λ e. e) room gs n ws))
    (unwinds a 0 (Member Range ∷ fs) h (omega arith) ∙ stays 0 (Member Range ∷ fs) a refl)

-- `)` behind the second
pub span_read : (room : ℕ) (a b : Expression) (fs : List Frame) (ws : List (List ℕ)) → IsFormed b
    → held room (spine (Bound a ∷ fs) b) (round_close ∷ ws)
    ≡ held room (record { frames = fs; tree = span a b }) ws
span_read room a b fs ws h =
    ap (λ (r : Operands).
    follow (at_round_close (λ e. e) r.frames r.tree) (λ gs n. run (λ e. e) room gs n ws))
    (unwinds b 0 (Bound a ∷ fs) h (omega arith) ∙ stays 0 (Bound a ∷ fs) b refl)

-- ---- lists

-- `[` where an operand begins opens a list
pub open_square : (room : ℕ) (fs : List Frame) (ws : List (List ℕ))
    → wanting room fs (square_open ∷ ws)
    ≡ follow (with_bracket room (Listed []) fs) (λ gs n. run (λ e. e) room gs n ws)
open_square room fs ws = rw no_leaf_square

-- `]` right behind it: the list of none
empty_read : (room : ℕ) (fs : List Frame) (ws : List (List ℕ))
    → wanting room (Listed [] ∷ fs) (square_close ∷ ws)
    ≡ held room (record { frames = fs; tree = list no_members }) ws
empty_read room fs ws = rw no_leaf_end

-- members in front of others
abbrev pub behind : List Expression → Members → Members
behind [] ms = ms
behind (e ∷ es) ms = member e (behind es ms)

-- the members that were read, and then the last
behind_last : (es : List Expression) (e : Expression)
    → members_of (es ++ e ∷ []) ≡ behind es (member e no_members)
behind_last [] e = refl
behind_last (a ∷ es) e = ap (member a) (behind_last es e)

-- one of them more
behind_more : (es : List Expression) (e : Expression) (ms : Members)
    → behind (es ++ e ∷ []) ms ≡ behind es (member e ms)
behind_more [] e ms = refl
behind_more (a ∷ es) e ms = ap (member a) (behind_more es e ms)

-- `]` behind the last member
list_read : (room : ℕ) (es : List Expression) (e : Expression) (fs : List Frame)
    (ws : List (List ℕ)) → IsFormed e
    → held room (spine (Listed es ∷ fs) e) (square_close ∷ ws)
    ≡ held room (record { frames = fs; tree = list (behind es (member e no_members)) }) ws
list_read room es e fs ws h =
    ap (λ (r : Operands).
    follow (at_square_close (λ e. e) r.frames r.tree) (λ gs n. run (λ e. e) room gs n ws))
    (unwinds e 0 (Listed es ∷ fs) h (omega arith) ∙ stays 0 (Listed es ∷ fs) e refl)
    ∙ ap (λ ms. held room (record { frames = fs; tree = list ms }) ws) (behind_last es e)

-- `,` behind a member
pub comma_read : (room : ℕ) (es : List Expression) (e : Expression) (fs : List Frame)
    (ws : List (List ℕ)) → IsFormed e
    → held room (spine (Listed es ∷ fs) e) (comma ∷ ws)
    ≡ wanting room (Listed (es ++ e ∷ []) ∷ fs) ws
comma_read room es e fs ws h =
    ap (λ (r : Operands). follow (at_comma r.frames r.tree) (λ gs n. run (λ e. e) room gs n ws))
    (unwinds e 0 (Listed es ∷ fs) h (omega arith) ∙ stays 0 (Listed es ∷ fs) e refl)

-- ---- lists over lists

-- `for` behind the first member
for_read : (room : ℕ) (m : Expression) (fs : List Frame) (ws : List (List ℕ)) → IsFormed m
    → held room (spine (Listed [] ∷ fs) m) (for_word ∷ ws)
    ≡ run (λ e. e) room fs (WantsVariable m) ws
for_read room m fs ws h =
    ap (λ (r : Operands). follow (at_for r.frames r.tree) (λ gs n. run (λ e. e) room gs n ws))
    (unwinds m 0 (Listed [] ∷ fs) h (omega arith) ∙ stays 0 (Listed [] ∷ fs) m refl)

-- the variable, and `in`
naming_read : (room : ℕ) (m : Expression) (x : List ℕ) (fs : List Frame) (ws : List (List ℕ))
    → is_identifier x ≡ true → depth fs < room
    → run (λ e. e) room fs (WantsVariable m) (x ∷ in_word ∷ ws) ≡ wanting room (Source m x ∷ fs) ws
naming_read room m x fs ws h k = rw h (nested_in room (Source m x) fs ws k)

-- up to the list that a list goes over
pub source_read : (room : ℕ) (m : Expression) (x : List ℕ) (fs : List Frame) (ws : List (List ℕ))
    → IsFormed m → is_identifier x ≡ true → depth fs < room
    → held room (spine (Listed [] ∷ fs) m) (for_word ∷ x ∷ in_word ∷ ws)
    ≡ wanting room (Source m x ∷ fs) ws
source_read room m x fs ws h k low =
    for_read room m fs (x ∷ in_word ∷ ws) h ∙ naming_read room m x fs ws k low

-- `]` behind the list that it goes over
each_read : (room : ℕ) (m a : Expression) (x : List ℕ) (fs : List Frame) (ws : List (List ℕ))
    → IsFormed a
    → held room (spine (Source m x ∷ fs) a) (square_close ∷ ws)
    ≡ held room (record { frames = fs; tree = each m x a }) ws
each_read room m a x fs ws h =
    ap (λ (r : Operands).
    follow (at_square_close (λ e. e) r.frames r.tree) (λ gs n. run (λ e. e) room gs n ws))
    (unwinds a 0 (Source m x ∷ fs) h (omega arith) ∙ stays 0 (Source m x ∷ fs) a refl)

-- `if` behind that list
pub pick_read : (room : ℕ) (m a : Expression) (x : List ℕ) (fs : List Frame) (ws : List (List ℕ))
    → IsFormed a → 1 ≤ level a
    → held room (spine (Source m x ∷ fs) a) (if_word ∷ ws) ≡ wanting room (Filter m x a ∷ fs) ws
pick_read room m a x fs ws h k =
    ap (λ (r : Operands). follow (at_if r.frames r.tree) (λ gs n. run (λ e. e) room gs n ws))
    (unwinds a 1 (Source m x ∷ fs) h k ∙ stays 1 (Source m x ∷ fs) a refl)

-- `]` behind the condition of its members
filter_read : (room : ℕ) (m a c : Expression) (x : List ℕ) (fs : List Frame) (ws : List (List ℕ))
    → IsFormed c
    → held room (spine (Filter m x a ∷ fs) c) (square_close ∷ ws)
    ≡ held room (record { frames = fs; tree = filtered m x a c }) ws
filter_read room m a c x fs ws h =
    ap (λ (r : Operands).
    follow (at_square_close (λ e. e) r.frames r.tree) (λ gs n. run (λ e. e) room gs n ws))
    (unwinds c 0 (Filter m x a ∷ fs) h (omega arith) ∙ stays 0 (Filter m x a ∷ fs) c refl)

-- ---- tables

-- `{` opens a table
pub open_curly : (room : ℕ) (fs : List Frame) (ws : List (List ℕ))
    → wanting room fs (curly_open ∷ ws)
    ≡ follow (at_table room fs) (λ gs n. run (λ e. e) room gs n ws)
open_curly room fs ws = rw no_leaf_curly

-- which wants a key, where it has room
pub unkeyed_in : (room : ℕ) (fs : List Frame) (ws : List (List ℕ)) → depth fs < room
    → follow (at_table room fs) (λ gs n. run (λ e. e) room gs n ws)
    ≡ run (λ e. e) room fs (WantsKey []) ws
unkeyed_in room fs ws h = rw (lt_true (depth fs) room h)

-- `}` right behind it: the table of none
empty_table : (room : ℕ) (fs : List Frame) (ws : List (List ℕ))
    → run (λ e. e) room fs (WantsKey []) (curly_close ∷ ws)
    ≡ held room (record { frames = fs; tree = table no_entries }) ws
empty_table room fs ws = refl

-- a key and `:` open the place of its value
pub key_read : (room : ℕ) (ps : List (List ℕ × Expression)) (k : List ℕ) (fs : List Frame)
    (ws : List (List ℕ)) → is_key k ≡ true → depth fs < room
    → run (λ e. e) room fs (WantsKey ps) (k ∷ colon ∷ ws) ≡ wanting room (Keyed ps k ∷ fs) ws
key_read room ps k fs ws h low = rw h (nested_in room (Keyed ps k) fs ws low)

-- entries in front of others
abbrev pub entries_behind : List (List ℕ × Expression) → Entries → Entries
entries_behind [] es = es
entries_behind (p ∷ ps) es = entry p.0 p.1 (entries_behind ps es)

-- the entries that were read, and then the last
entries_last : (ps : List (List ℕ × Expression)) (k : List ℕ) (e : Expression)
    → entries_of (ps ++ (k, e) ∷ []) ≡ entries_behind ps (entry k e no_entries)
entries_last [] k e = refl
entries_last (p ∷ ps) k e = ap (entry p.0 p.1) (entries_last ps k e)

-- one of them more
entries_more : (ps : List (List ℕ × Expression)) (k : List ℕ) (e : Expression) (es : Entries)
    → entries_behind (ps ++ (k, e) ∷ []) es ≡ entries_behind ps (entry k e es)
entries_more [] k e es = refl
entries_more (p ∷ ps) k e es = ap (entry p.0 p.1) (entries_more ps k e es)

-- `}` behind the last value
table_read : (room : ℕ) (ps : List (List ℕ × Expression)) (k : List ℕ) (e : Expression)
    (fs : List Frame) (ws : List (List ℕ)) → IsFormed e
    → held room (spine (Keyed ps k ∷ fs) e) (curly_close ∷ ws)
    ≡ held room (record { frames = fs; tree = table (entries_behind ps (entry k e no_entries)) }) ws
table_read room ps k e fs ws h =
    ap (λ (r : Operands).
    follow (at_curly_close (λ e. e) r.frames r.tree) (λ gs n. run (λ e. e) room gs n ws))
    (unwinds e 0 (Keyed ps k ∷ fs) h (omega arith) ∙ stays 0 (Keyed ps k ∷ fs) e refl)
    ∙ ap (λ es. held room (record { frames = fs; tree = table es }) ws) (entries_last ps k e)

-- `,` behind a value
pub value_read : (room : ℕ) (ps : List (List ℕ × Expression)) (k : List ℕ) (e : Expression)
    (fs : List Frame) (ws : List (List ℕ)) → IsFormed e
    → held room (spine (Keyed ps k ∷ fs) e) (comma ∷ ws)
    ≡ run (λ e. e) room fs (WantsKey (ps ++ (k, e) ∷ [])) ws
value_read room ps k e fs ws h =
    ap (λ (r : Operands). follow (at_comma r.frames r.tree) (λ gs n. run (λ e. e) room gs n ws))
    (unwinds e 0 (Keyed ps k ∷ fs) h (omega arith) ∙ stays 0 (Keyed ps k ∷ fs) e refl)

-- ---- all forms

mutual
  -- behind the signs of an expression its operations wait
  pub reads : (e : Expression) (room : ℕ) (fs : List Frame) (rest : List (List ℕ)) → IsFormed e
      → wanted fs ≤ level e → depth fs + brackets e ≤ room
      → run (λ e. e) room fs WantsOperand (words_of e ++ rest) ≡ held room (spine fs e) rest
  reads tall room fs rest h k low = absurd h
  reads (leaf w) room fs rest h k low = leaf_read room w fs rest h
  reads (bracketed e) room fs rest h k low =
      ap (λ ws. wanting room fs (round_open ∷ ws))
      (append_assoc (words_of e) (round_close ∷ []) rest)
      ∙ open_round room fs (words_of e ++ round_close ∷ rest) (omega arith)
      ∙ reads e room (Bracket ∷ fs) (round_close ∷ rest) h (omega arith) (omega arith)
      ∙ round_read room e fs rest h
  reads (before p e) room fs rest h k low =
      read_prefix room p fs (words_of e ++ rest) k
      ∙ reads e room (Behind p ∷ fs) rest h.1 h.0 (omega arith)
  reads (between o a b) room fs rest h k low =
      let high = h.0 in let more = h.2 in let left = own_le_left o in
      ap (λ ws. wanting room fs ws) (append_assoc (words_of a) (operator_word o ∷ words_of b) rest)
      ∙ reads a room fs (operator_word o ∷ (words_of b ++ rest)) h.1 (omega arith) (omega arith)
      ∙ infix_read room o a fs (words_of b ++ rest) h.1 h.0 k
      ∙ reads b room (Operand o a ∷ fs) rest h.3 (omega arith) (omega arith)
  reads (choice a c b) room fs rest h k low =
      let more = h.0 in let condition = h.2 in
      ap (λ ws. wanting room fs ws)
      (append_assoc (words_of a) (if_word ∷ (words_of c ++ else_word ∷ words_of b)) rest)
      ∙ reads a room fs (if_word ∷ ((words_of c ++ else_word ∷ words_of b) ++ rest)) h.1
      (omega arith) (omega arith)
      ∙ if_read room a fs ((words_of c ++ else_word ∷ words_of b) ++ rest) h.1 h.0 k
      ∙ ap (λ ws. wanting room (Condition a ∷ fs) ws)
      (append_assoc (words_of c) (else_word ∷ words_of b) rest)
      ∙ reads c room (Condition a ∷ fs) (else_word ∷ (words_of b ++ rest)) h.3 h.2 (omega arith)
      ∙ else_read room a c fs (words_of b ++ rest) h.3 h.2
      ∙ reads b room (Otherwise a c ∷ fs) rest h.4 (omega arith) (omega arith)
  reads (index a i) room fs rest h k low =
      ap (λ ws. wanting room fs ws)
      (append_assoc (words_of a) (square_open ∷ (words_of i ++ square_close ∷ [])) rest)
      ∙ reads a room fs (square_open ∷ ((words_of i ++ square_close ∷ []) ++ rest)) h.1
      (omega (arith, h.0)) (omega arith)
      ∙ square_read room a fs ((words_of i ++ square_close ∷ []) ++ rest) h.1 h.0 (omega arith)
      ∙ ap (λ ws. wanting room (Element a ∷ fs) ws)
      (append_assoc (words_of i) (square_close ∷ []) rest)
      ∙ reads i room (Element a ∷ fs) (square_close ∷ rest) h.2 (omega arith) (omega arith)
      ∙ end_read room a i fs rest h.2
  reads (call f e) room fs rest h k low =
      ap (λ ws. wanting room fs (function_word f ∷ round_open ∷ ws))
      (append_assoc (words_of e) (round_close ∷ []) rest)
      ∙ open_call room f fs (words_of e ++ round_close ∷ rest)
      ∙ nested_in room (Member f) fs (words_of e ++ round_close ∷ rest) (omega arith)
      ∙ reads e room (Member f ∷ fs) (round_close ∷ rest) h (omega arith) (omega arith)
      ∙ call_read room f e fs rest h
  reads (span a b) room fs rest h k low =
      ap (λ ws. wanting room fs (function_word Range ∷ round_open ∷ ws))
      (append_assoc (words_of a) (comma ∷ (words_of b ++ round_close ∷ [])) rest)
      ∙ open_call room Range fs (words_of a ++ comma ∷ ((words_of b ++ round_close ∷ []) ++ rest))
      ∙ nested_in room (Member Range) fs
      (words_of a ++ comma ∷ ((words_of b ++ round_close ∷ []) ++ rest)) (omega arith)
      ∙ reads a room (Member Range ∷ fs) (comma ∷ ((words_of b ++ round_close ∷ []) ++ rest)) h.0
      (omega arith) (omega arith)
      ∙ bound_read room a fs ((words_of b ++ round_close ∷ []) ++ rest) h.0
      ∙ ap (λ ws. wanting room (Bound a ∷ fs) ws)
      (append_assoc (words_of b) (round_close ∷ []) rest)
      ∙ reads b room (Bound a ∷ fs) (round_close ∷ rest) h.1 (omega arith) (omega arith)
      ∙ span_read room a b fs rest h.1
  reads (list no_members) room fs rest h k low =
      open_square room fs (square_close ∷ rest)
      ∙ nested_in room (Listed []) fs (square_close ∷ rest) (omega arith)
      ∙ empty_read room fs rest
  reads (list (member e ms)) room fs rest h k low =
      ap (λ ws. wanting room fs (square_open ∷ ws))
      (append_assoc (words_of e ++ more_members ms) (square_close ∷ []) rest
      ∙ append_assoc (words_of e) (more_members ms) (square_close ∷ rest))
      ∙ open_square room fs (words_of e ++ (more_members ms ++ square_close ∷ rest))
      ∙ nested_in room (Listed []) fs (words_of e ++ (more_members ms ++ square_close ∷ rest))
      (omega arith)
      ∙ reads e room (Listed [] ∷ fs) (more_members ms ++ square_close ∷ rest) h.0 (omega arith)
      (omega arith)
      ∙ reads_more ms room [] e fs rest h.0 h.1 (omega arith)
  reads (each e x a) room fs rest h k low =
      let some = h.2 in
      ap (λ ws. wanting room fs (square_open ∷ ws))
      (append_assoc (words_of e) (for_word ∷ x ∷ in_word ∷ (words_of a ++ square_close ∷ [])) rest)
      ∙ open_square room fs
      (words_of e ++ for_word ∷ x ∷ in_word ∷ ((words_of a ++ square_close ∷ []) ++ rest))
      ∙ nested_in room (Listed []) fs
      (words_of e ++ for_word ∷ x ∷ in_word ∷ ((words_of a ++ square_close ∷ []) ++ rest))
      (omega arith)
      ∙ reads e room (Listed [] ∷ fs)
      (for_word ∷ x ∷ in_word ∷ ((words_of a ++ square_close ∷ []) ++ rest)) h.0 (omega arith)
      (omega arith)
      ∙ source_read room e x fs ((words_of a ++ square_close ∷ []) ++ rest) h.0 h.1 (omega arith)
      ∙ ap (λ ws. wanting room (Source e x ∷ fs) ws)
      (append_assoc (words_of a) (square_close ∷ []) rest)
      ∙ reads a room (Source e x ∷ fs) (square_close ∷ rest) h.3 h.2 (omega arith)
      ∙ each_read room e a x fs rest h.3
  reads (filtered e x a c) room fs rest h k low =
      ap (λ ws. wanting room fs (square_open ∷ ws))
      (append_assoc (words_of e)
      (for_word ∷ x ∷ in_word ∷ (words_of a ++ if_word ∷ (words_of c ++ square_close ∷ []))) rest)
      ∙ open_square room fs
      (words_of e ++ for_word ∷ x ∷ in_word
      ∷ ((words_of a ++ if_word ∷ (words_of c ++ square_close ∷ [])) ++ rest))
      ∙ nested_in room (Listed []) fs
      (words_of e ++ for_word ∷ x ∷ in_word
      ∷ ((words_of a ++ if_word ∷ (words_of c ++ square_close ∷ [])) ++ rest)) (omega arith)
      ∙ reads e room (Listed [] ∷ fs)
      (for_word ∷ x ∷ in_word
      ∷ ((words_of a ++ if_word ∷ (words_of c ++ square_close ∷ [])) ++ rest)) h.0 (omega arith)
      (omega arith)
      ∙ source_read room e x fs
      ((words_of a ++ if_word ∷ (words_of c ++ square_close ∷ [])) ++ rest) h.0 h.1 (omega arith)
      ∙ ap (λ ws. wanting room (Source e x ∷ fs) ws)
      (append_assoc (words_of a) (if_word ∷ (words_of c ++ square_close ∷ [])) rest)
      ∙ reads a room (Source e x ∷ fs) (if_word ∷ ((words_of c ++ square_close ∷ []) ++ rest)) h.3
      h.2 (omega arith)
      ∙ pick_read room e a x fs ((words_of c ++ square_close ∷ []) ++ rest) h.3 h.2
      ∙ ap (λ ws. wanting room (Filter e x a ∷ fs) ws)
      (append_assoc (words_of c) (square_close ∷ []) rest)
      ∙ reads c room (Filter e x a ∷ fs) (square_close ∷ rest) h.5 h.4 (omega arith)
      ∙ filter_read room e a c x fs rest h.5
  reads (table no_entries) room fs rest h k low =
      open_curly room fs (curly_close ∷ rest)
      ∙ unkeyed_in room fs (curly_close ∷ rest) (omega arith)
      ∙ empty_table room fs rest
  reads (table (entry w e es)) room fs rest h k low =
      ap (λ ws. wanting room fs (curly_open ∷ w ∷ colon ∷ ws))
      (append_assoc (words_of e ++ more_entries es) (curly_close ∷ []) rest
      ∙ append_assoc (words_of e) (more_entries es) (curly_close ∷ rest))
      ∙ open_curly room fs (w ∷ colon ∷ (words_of e ++ (more_entries es ++ curly_close ∷ rest)))
      ∙ unkeyed_in room fs (w ∷ colon ∷ (words_of e ++ (more_entries es ++ curly_close ∷ rest)))
      (omega arith)
      ∙ key_read room [] w fs (words_of e ++ (more_entries es ++ curly_close ∷ rest)) h.0
      (omega arith)
      ∙ reads e room (Keyed [] w ∷ fs) (more_entries es ++ curly_close ∷ rest) h.1 (omega arith)
      (omega arith)
      ∙ reads_entries es room [] w e fs rest h.1 h.2 (omega arith)

  -- behind the first member of a list
  pub reads_more : (ms : Members) (room : ℕ) (es : List Expression) (e : Expression)
      (fs : List Frame) (rest : List (List ℕ)) → IsFormed e → AreFormed ms
      → suc (depth fs) + members_brackets ms ≤ room
      → held room (spine (Listed es ∷ fs) e) (more_members ms ++ square_close ∷ rest)
      ≡ held room (record { frames = fs; tree = list (behind es (member e ms)) }) rest
  reads_more no_members room es e fs rest h k low = list_read room es e fs rest h
  reads_more (member a ms) room es e fs rest h k low =
      ap (λ ws. held room (spine (Listed es ∷ fs) e) (comma ∷ ws))
      (append_assoc (words_of a) (more_members ms) (square_close ∷ rest))
      ∙ comma_read room es e fs (words_of a ++ (more_members ms ++ square_close ∷ rest)) h
      ∙ reads a room (Listed (es ++ e ∷ []) ∷ fs) (more_members ms ++ square_close ∷ rest) k.0
      (omega arith) (omega arith)
      ∙ reads_more ms room (es ++ e ∷ []) a fs rest k.0 k.1 (omega arith)
      ∙ ap (λ l. held room (record { frames = fs; tree = list l }) rest)
      (behind_more es e (member a ms))

  -- behind the first member of a table
  pub reads_entries : (es : Entries) (room : ℕ) (ps : List (List ℕ × Expression)) (k : List ℕ)
      (e : Expression) (fs : List Frame) (rest : List (List ℕ)) → IsFormed e → HaveFormed es
      → suc (depth fs) + entries_brackets es ≤ room
      → held room (spine (Keyed ps k ∷ fs) e) (more_entries es ++ curly_close ∷ rest)
      ≡ held room (record { frames = fs; tree = table (entries_behind ps (entry k e es)) }) rest
  reads_entries no_entries room ps k e fs rest h f low = table_read room ps k e fs rest h
  reads_entries (entry w a es) room ps k e fs rest h f low =
      ap (λ ws. held room (spine (Keyed ps k ∷ fs) e) (comma ∷ w ∷ colon ∷ ws))
      (append_assoc (words_of a) (more_entries es) (curly_close ∷ rest))
      ∙ value_read room ps k e fs
      (w ∷ colon ∷ (words_of a ++ (more_entries es ++ curly_close ∷ rest))) h
      ∙ key_read room (ps ++ (k, e) ∷ []) w fs
      (words_of a ++ (more_entries es ++ curly_close ∷ rest)) f.0 (omega arith)
      ∙ reads a room (Keyed (ps ++ (k, e) ∷ []) w ∷ fs) (more_entries es ++ curly_close ∷ rest) f.1
      (omega arith) (omega arith)
      ∙ reads_entries es room (ps ++ (k, e) ∷ []) w a fs rest f.1 f.2 (omega arith)
      ∙ ap (λ l. held room (record { frames = fs; tree = table l }) rest)
      (entries_more ps k e (entry w a es))

-- the signs of an expression whose brackets have room are read as it
pub complete : (room : ℕ) (e : Expression) → IsFormed e → brackets e ≤ room
    → run (λ e. e) room [] WantsOperand (words_of e) ≡ read e
complete room e h low =
    ap (λ ws. run (λ e. e) room [] WantsOperand ws) (sym (append-nil (words_of e)))
    ∙ reads e room [] [] h (omega arith) (omega arith)
    ∙ ap (λ (r : Operands). whole_tree_of r.frames r.tree) (unwinds e 0 [] h (omega arith))

-- what was read is one tree
read_one : (a b : Expression) → read a ≡ read b → a ≡ b
read_one a b e = cc

-- signs write one expression at most
pub one_tree : (ws : List (List ℕ)) (a b : Expression) → IsFormed a → IsFormed b → words_of a ≡ ws
    → words_of b ≡ ws → a ≡ b
one_tree ws a b h k p q =
    let room = max (brackets a) (brackets b) in
    read_one a b
    (sym (complete room a h (omega arith))
    ∙ ap (λ vs. run (λ e. e) room [] WantsOperand vs) (p ∙ sym q) ∙ complete room b k (omega arith))
