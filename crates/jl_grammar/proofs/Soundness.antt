-- What is read from signs is an expression of the grammar, and they write it.
use Rattle.std.proofs.Common.{◌≡◌, ℕ, suc, ◌≤◌, Bool, true, false, List, [], ◌∷◌, ◌++◌, Option}
use Rattle.std.proofs.Common.{Some, None, refl, sym, ap, ap₂, ◌∙◌, subst, arith, append_assoc}
use Rattle.std.proofs.Common.{true≢false}
use Rattle.std.specs.Prelude.{nat_le, nat_lt, if◌then◌else◌}
use Rattle.std.proofs.lemmas.List.{append-nil}
use Rattle.std.proofs.lemmas.Slice.Eq.{bytes_eq-Decides}
use Rattle.std.specs.Str.{bytes_eq}
use Rattle.jl_lexer.specs.declared.operators.Operator.{Operator}
use Rattle.jl_lexer.specs.declared.operators.Operator.TheVariants.{Or, And, Equal, Unequal, Less}
use Rattle.jl_lexer.specs.declared.operators.Operator.TheVariants.{AtMost, Greater, AtLeast, Plus}
use Rattle.jl_lexer.specs.declared.operators.Operator.TheVariants.{Minus, Times, Quotient}
use Rattle.jl_lexer.specs.declared.operators.Operator.TheVariants.{Remainder}
use Rattle.jl_lexer.specs.declared.operators.Prefix.{Prefix}
use Rattle.jl_lexer.specs.declared.operators.Prefix.TheVariants.{Not, Negative}
use Rattle.jl_lexer.specs.declared.operators.Function.{Function}
use Rattle.jl_lexer.specs.declared.operators.Function.TheVariants.{Len, Sum, Min, Max, Range, Array}
use Rattle.jl_grammar.specs.declared.joint.Joint.{Joint}
use Rattle.jl_grammar.specs.declared.joint.Joint.TheVariants.{Infix, Opening, If, Else, For}
use Rattle.jl_grammar.specs.declared.joint.Joint.TheVariants.{Closing, Ending, Braced, Comma, Other}
use Rattle.jl_grammar.specs.Frames.{Frame, Bracket, Behind, Operand, Condition, Otherwise, Element}
use Rattle.jl_grammar.specs.Frames.{Member, Bound, Listed, Keyed, Source, Filter}
use Rattle.jl_grammar.specs.declared.mode.Mode.{Mode}
use Rattle.jl_grammar.specs.declared.mode.Mode.TheVariants.{WantsOperand, HasOperand, AfterFunction}
use Rattle.jl_grammar.specs.declared.mode.Mode.TheVariants.{WantsKey, WantsColon, WantsVariable}
use Rattle.jl_grammar.specs.declared.mode.Mode.TheVariants.{WantsIn}
use Rattle.jl_lexer.specs.Words.{is_leaf, is_identifier, is_key}
use Rattle.jl_lexer.specs.Marks.{is_mark, operator_word, operator_among, operator_of, prefix_word}
use Rattle.jl_lexer.specs.Marks.{prefix_of, function_word, function_among, function_of, if_word}
use Rattle.jl_lexer.specs.Marks.{else_word, for_word, in_word, own_level, left_level, prefix_level}
use Rattle.jl_lexer.specs.Trees.{Expression, leaf, table, members_of, no_entries, entries_of}
use Rattle.jl_grammar.specs.Grammar.{level, IsFormed, AreFormed, HaveFormed, words_of, round_open}
use Rattle.jl_grammar.specs.Grammar.{round_close, square_open, square_close, curly_open}
use Rattle.jl_grammar.specs.Grammar.{curly_close, comma, colon}
use Rattle.jl_grammar.specs.Parser.{loop_joint, mark_joint, joint_by, joint_of, wanted_by, wanted}
use Rattle.jl_grammar.specs.Parser.{depth, binds, with_last, Operands, reduced, Step, going, bad}
use Rattle.jl_grammar.specs.Parser.{deep, at_operand, at_opening, at_empty_close, at_table}
use Rattle.jl_grammar.specs.Parser.{with_bracket, at_prefix, at_operator, at_condition}
use Rattle.jl_grammar.specs.Parser.{top_is_source, at_filter, at_if, at_for, at_else}
use Rattle.jl_grammar.specs.Parser.{at_round_close, at_square_close, at_curly_close, at_bound}
use Rattle.jl_grammar.specs.Parser.{at_comma, at_function, at_empty_table, at_key, at_colon}
use Rattle.jl_grammar.specs.Parser.{at_variable, at_in, at_joint, step, Read, read, whole_tree_of}
use Rattle.jl_grammar.specs.Parser.{finished, follow, run}
use Rattle.jl_grammar.proofs.ListLemmas.{listed_words, keyed_words, last_words, comma_words}
use Rattle.jl_grammar.proofs.ListLemmas.{last_entries, comma_entries, formed_more, entries_more}

-- ---- which signs are which

-- one test of a row of operators: the word that it names is that of its operator
found_if : (b : Bool) (w : List ℕ) (p o : Operator) (rest : Option Operator)
    → (b ≡ true → w ≡ operator_word p) → (rest ≡ Some o → w ≡ operator_word o)
    → (if b then Some p else rest) ≡ Some o → w ≡ operator_word o
found_if true w p o rest h k e = let same : p ≡ o = cc in h refl ∙ ap operator_word same
found_if false w p o rest h k e = k e

-- the operator that is found in a row is the one whose word the sign is
found : (os : List Operator) (w : List ℕ) (o : Operator) → operator_among os w ≡ Some o
    → w ≡ operator_word o
found [] w o e = absurd (cc)
found (p ∷ ps) w o e =
    found_if (bytes_eq w (operator_word p)) w p o (operator_among ps w)
    (λ h. (bytes_eq-Decides w (operator_word p)).0 h) (found ps w o) e

-- what a sign behind an operand is written as
abbrev pub IsJoint : List ℕ → Joint → Type 0
IsJoint w (Infix o) = w ≡ operator_word o
IsJoint w Opening = w ≡ square_open
IsJoint w If = w ≡ if_word
IsJoint w Else = w ≡ else_word
IsJoint w For = w ≡ for_word
IsJoint w Closing = w ≡ round_close
IsJoint w Ending = w ≡ square_close
IsJoint w Braced = w ≡ curly_close
IsJoint w Comma = w ≡ comma
IsJoint w Other = Unit {0}

-- one test of a row of signs: what it names is so written, and so is what the others name
joint_if : (b : Bool) (w : List ℕ) (j k : Joint) → (b ≡ true → IsJoint w j) → IsJoint w k
    → IsJoint w (if b then j else k)
joint_if true w j k h r = h refl
joint_if false w j k h r = r

-- two texts whose bytes are told equal are one
pub is_word : (w v : List ℕ) → bytes_eq w v ≡ true → w ≡ v
is_word w v h = (bytes_eq-Decides w v).0 h

-- what is none of the brackets and choices is written so: `for`, `}`, `,` or another sign
loop_is : (w : List ℕ) → IsJoint w (loop_joint w)
loop_is w =
    joint_if (bytes_eq w for_word) w For _ (is_word w for_word)
    (joint_if (is_mark 125 w) w Braced _ (is_word w curly_close)
    (joint_if (is_mark 44 w) w Comma Other (is_word w comma) tt))

-- a sign that is no operator is written as what it is
mark_is : (w : List ℕ) → IsJoint w (mark_joint w)
mark_is w =
    joint_if (is_mark 91 w) w Opening _ (is_word w square_open)
    (joint_if (is_mark 41 w) w Closing _ (is_word w round_close)
    (joint_if (is_mark 93 w) w Ending _ (is_word w square_close)
    (joint_if (bytes_eq w if_word) w If _ (is_word w if_word)
    (joint_if (bytes_eq w else_word) w Else _ (is_word w else_word) (loop_is w)))))

-- the same, and operators
joint_case : (o : Option Operator) (w : List ℕ) → operator_of w ≡ o → IsJoint w (joint_by o w)
joint_case None w e = mark_is w
joint_case (Some o) w e =
    found
    (Or ∷ And ∷ Equal ∷ Unequal ∷ Less ∷ AtMost ∷ Greater ∷ AtLeast ∷ Plus ∷ Minus ∷ Times
    ∷ Quotient ∷ Remainder ∷ []) w o e

-- a sign behind an operand is written as what it is taken for
pub joint_is : (w : List ℕ) → IsJoint w (joint_of w)
joint_is w = joint_case (operator_of w) w refl

-- what may stand before an operand is written so
abbrev pub IsPrefix : List ℕ → Option Prefix → Type 0
IsPrefix w None = Unit {0}
IsPrefix w (Some p) = w ≡ prefix_word p

-- one test of a row of prefixes
prefix_if : (b : Bool) (w : List ℕ) (o q : Option Prefix) → (b ≡ true → IsPrefix w o) → IsPrefix w q
    → IsPrefix w (if b then o else q)
prefix_if true w o q h k = h refl
prefix_if false w o q h k = k

-- a sign before an operand is written as what it is taken for
pub prefix_is : (w : List ℕ) → IsPrefix w (prefix_of w)
prefix_is w =
    prefix_if (bytes_eq w (prefix_word Not)) w (Some Not) _ (is_word w (prefix_word Not))
    (prefix_if (bytes_eq w (prefix_word Negative)) w (Some Negative) None
    (is_word w (prefix_word Negative)) tt)

-- one test of a row of functions: the word that it names is that of its function
call_if : (b : Bool) (w : List ℕ) (p o : Function) (rest : Option Function)
    → (b ≡ true → w ≡ function_word p) → (rest ≡ Some o → w ≡ function_word o)
    → (if b then Some p else rest) ≡ Some o → w ≡ function_word o
call_if true w p o rest h k e = let same : p ≡ o = cc in h refl ∙ ap function_word same
call_if false w p o rest h k e = k e

-- the function that is found in a row is the one whose name the sign is
pub function_found : (fs : List Function) (w : List ℕ) (f : Function) → function_among fs w ≡ Some f
    → w ≡ function_word f
function_found [] w f e = absurd (cc)
function_found (p ∷ ps) w f e =
    call_if (bytes_eq w (function_word p)) w p f (function_among ps w) (is_word w (function_word p))
    (function_found ps w f) e

-- ---- levels

-- no operator wants a left operand above the level of a single sign
left_low : (o : Operator) → left_level o ≤ 8
left_low Or = omega arith
left_low _ = omega arith

-- nor a right operand
right_low : (o : Operator) → suc (own_level o) ≤ 8
right_low Or = omega arith
right_low _ = omega arith

-- nor does a prefix
prefix_low : (p : Prefix) → prefix_level p ≤ 8
prefix_low Not = omega arith
prefix_low Negative = omega arith

-- so whatever waits, a single sign fits
wanted_low : (fs : List Frame) → wanted fs ≤ 8
wanted_low (Behind p ∷ fs) = prefix_low p
wanted_low (Operand o a ∷ fs) = right_low o
wanted_low _ = omega arith

-- what is tested to be at most is at most
le_of : (a b : ℕ) → nat_le a b ≡ true → a ≤ b
le_of a b h = grind arith

-- ---- what waits is part of an expression

-- a frame above one that waits for an operand of this level
abbrev IsFrame : Frame → ℕ → Type 0
IsFrame Bracket n = Unit {0}
IsFrame (Behind p) n = n ≤ prefix_level p
IsFrame (Operand o a) n = (n ≤ own_level o) × (left_level o ≤ level a) × IsFormed a
IsFrame (Condition a) n = (n ≤ 0) × (1 ≤ level a) × IsFormed a
IsFrame (Otherwise a c) n = (n ≤ 0) × (1 ≤ level a) × IsFormed a × (1 ≤ level c) × IsFormed c
IsFrame (Element a) n = (8 ≤ level a) × IsFormed a
IsFrame (Member f) n = Unit {0}
IsFrame (Bound a) n = IsFormed a
IsFrame (Listed es) n = AreFormed (members_of es)
IsFrame (Keyed es k) n = HaveFormed (entries_of es) × (is_key k ≡ true)
IsFrame (Source m x) n = IsFormed m × (is_identifier x ≡ true)
IsFrame (Filter m x a) n = IsFormed m × (is_identifier x ≡ true) × (1 ≤ level a) × IsFormed a

-- all that waits is so, each frame by what the one below it wants
abbrev IsSound : List Frame → Type 0
IsSound [] = Unit {0}
IsSound (f ∷ fs) = IsFrame f (wanted fs) × IsSound fs

-- the signs that were read for a frame
abbrev frame_words : Frame → List (List ℕ)
frame_words Bracket = round_open ∷ []
frame_words (Behind p) = prefix_word p ∷ []
frame_words (Operand o a) = words_of a ++ operator_word o ∷ []
frame_words (Condition a) = words_of a ++ if_word ∷ []
frame_words (Otherwise a c) = words_of a ++ if_word ∷ (words_of c ++ else_word ∷ [])
frame_words (Element a) = words_of a ++ square_open ∷ []
frame_words (Member f) = function_word f ∷ round_open ∷ []
frame_words (Bound a) = function_word Range ∷ round_open ∷ (words_of a ++ comma ∷ [])
frame_words (Listed es) = square_open ∷ listed_words es
frame_words (Keyed es k) = curly_open ∷ (keyed_words es ++ k ∷ colon ∷ [])
frame_words (Source m x) = square_open ∷ (words_of m ++ for_word ∷ x ∷ in_word ∷ [])
frame_words (Filter m x a) =
    square_open ∷ (words_of m ++ for_word ∷ x ∷ in_word ∷ (words_of a ++ if_word ∷ []))

-- the signs that were read for all frames
abbrev spelled : List Frame → List (List ℕ)
spelled [] = []
spelled (f ∷ fs) = spelled fs ++ frame_words f

-- what stands at the top, by what is read next, is formed
abbrev IsMode : Mode → Type 0
IsMode WantsOperand = Unit {0}
IsMode (HasOperand e) = IsFormed e × (8 ≤ level e)
IsMode (AfterFunction f) = Unit {0}
IsMode (WantsKey es) = HaveFormed (entries_of es)
IsMode (WantsColon es k) = HaveFormed (entries_of es) × (is_key k ≡ true)
IsMode (WantsVariable m) = IsFormed m
IsMode (WantsIn m x) = IsFormed m × (is_identifier x ≡ true)

-- the signs that were read
abbrev all_words : List Frame → Mode → List (List ℕ)
all_words fs WantsOperand = spelled fs
all_words fs (HasOperand e) = spelled fs ++ words_of e
all_words fs (AfterFunction f) = spelled fs ++ function_word f ∷ []
all_words fs (WantsKey es) = spelled fs ++ curly_open ∷ keyed_words es
all_words fs (WantsColon es k) = spelled fs ++ curly_open ∷ (keyed_words es ++ k ∷ [])
all_words fs (WantsVariable m) = spelled fs ++ square_open ∷ (words_of m ++ for_word ∷ [])
all_words fs (WantsIn m x) = spelled fs ++ square_open ∷ (words_of m ++ for_word ∷ x ∷ [])

-- a step that goes on keeps all that, and has read these signs
abbrev IsGood : List (List ℕ) → Step → Type 0
IsGood ws (going gs n) = IsSound gs × IsMode n × (all_words gs n ≡ ws)
IsGood ws bad = Unit {0}
IsGood ws deep = Unit {0}

-- a step by a test is good where both of its ends are
good_if : (ws : List (List ℕ)) (b : Bool) (s t : Step) → (b ≡ true → IsGood ws s) → IsGood ws t
    → IsGood ws (if b then s else t)
good_if ws true s t h k = h refl
good_if ws false s t h k = k

-- ---- operations that are done

-- Operations were done down to a level: what is left waits soundly, the operand fits, and no sign
-- was lost.
record Done (l : ℕ) (ws : List (List ℕ)) (r : Operands) : Type 0 where
  sound : IsSound r.frames
  formed : IsFormed r.tree
  fits : wanted r.frames ≤ level r.tree
  high : l ≤ level r.tree
  words : spelled r.frames ++ words_of r.tree ≡ ws

-- the same signs, grouped otherwise
regroup : (a b c : List (List ℕ)) (w : List ℕ) → a ++ (b ++ w ∷ c) ≡ (a ++ (b ++ w ∷ [])) ++ c
regroup a b c w =
    ap (λ x. a ++ x) (sym (append_assoc b (w ∷ []) c)) ∙ sym (append_assoc a (b ++ w ∷ []) c)

-- one operation with its last operand is an expression of the same signs, which fits where it stood
record Made (l : ℕ) (f : Frame) (fs : List Frame) (e : Expression) : Type 0 where
  formed : IsFormed (with_last (λ e. e) f e)
  fits : wanted fs ≤ level (with_last (λ e. e) f e)
  high : l ≤ level (with_last (λ e. e) f e)
  words : spelled fs ++ words_of (with_last (λ e. e) f e) ≡ spelled (f ∷ fs) ++ words_of e

-- the signs of a choice, grouped otherwise
choice_words : (s a c e : List (List ℕ))
    → s ++ (a ++ if_word ∷ (c ++ else_word ∷ e))
    ≡ (s ++ (a ++ if_word ∷ (c ++ else_word ∷ []))) ++ e
choice_words s a c e =
    ap (λ x. s ++ (a ++ if_word ∷ x)) (sym (append_assoc c (else_word ∷ []) e))
    ∙ ap (λ x. s ++ x) (sym (append_assoc a (if_word ∷ (c ++ else_word ∷ [])) e))
    ∙ sym (append_assoc s (a ++ if_word ∷ (c ++ else_word ∷ [])) e)

-- a frame that binds is done: it is an expression of the grammar, of its signs and its operand's
made : (l : ℕ) (f : Frame) (fs : List Frame) (e : Expression) → binds l f ≡ true
    → IsFrame f (wanted fs) → IsFormed e → wanted_by f ≤ level e → Made l f fs e
made l (Behind p) fs e b s h k = record {
  formed = (k, h);
  fits = s;
  high = le_of l (prefix_level p) b;
  words = sym (append_assoc (spelled fs) (prefix_word p ∷ []) (words_of e));
}
made l (Operand o a) fs e b s h k = record {
  formed = (s.1, s.2, k, h);
  fits = s.0;
  high = le_of l (own_level o) b;
  words = regroup (spelled fs) (words_of a) (words_of e) (operator_word o);
}
made l (Otherwise a c) fs e b s h k = record {
  formed = (s.1, s.2, s.3, s.4, h);
  fits = s.0;
  high = le_of l 0 b;
  words = choice_words (spelled fs) (words_of a) (words_of c) (words_of e);
}
made l _ fs e b s h k = absurd (true≢false (sym b))

-- one frame: it is done and the next follows, or it stays
reduce_by : (b : Bool) (l : ℕ) (f : Frame) (fs : List Frame) (e : Expression) → binds l f ≡ b
    → IsSound (f ∷ fs) → IsFormed e → wanted_by f ≤ level e → l ≤ level e
    → ((t : Expression) → IsFormed t → wanted fs ≤ level t → l ≤ level t
    → Done l (spelled fs ++ words_of t) (reduced (λ e. e) l fs t))
    → Done l (spelled (f ∷ fs) ++ words_of e)
    (if b then reduced (λ e. e) l fs (with_last (λ e. e) f e) else record {
      frames = f ∷ fs;
      tree = e;
    })
reduce_by true l f fs e b s h k low more =
    let m = made l f fs e b s.0 h k in
    subst (λ (ws : List (List ℕ)). Done l ws (reduced (λ e. e) l fs (with_last (λ e. e) f e)))
    m.words (more (with_last (λ e. e) f e) m.formed m.fits m.high)
reduce_by false l f fs e b s h k low more = record {
  sound = s;
  formed = h;
  fits = k;
  high = low;
  words = refl;
}

-- doing the operations of a level keeps signs and soundness
reduces : (l : ℕ) (fs : List Frame) (e : Expression) → IsSound fs → IsFormed e → wanted fs ≤ level e
    → l ≤ level e → Done l (spelled fs ++ words_of e) (reduced (λ e. e) l fs e)
reduces l [] e s h k low = record { sound = s; formed = h; fits = k; high = low; words = refl }
reduces l (f ∷ fs) e s h k low =
    reduce_by (binds l f) l f fs e refl s h k low (λ t. reduces l fs t s.1)

-- ---- one sign more

-- a bracket more
nested_good : (ws : List (List ℕ)) (room : ℕ) (f : Frame) (fs : List Frame) → IsSound (f ∷ fs)
    → spelled (f ∷ fs) ≡ ws → IsGood ws (with_bracket room f fs)
nested_good ws room f fs s e =
    good_if ws (nat_lt (depth fs) room) (going (f ∷ fs) WantsOperand) deep (λ h. (s, tt, e)) tt

-- a prefix
prefixed_good : (w : List ℕ) (fs : List Frame) (o : Option Prefix) → IsPrefix w o → IsSound fs
    → IsGood (spelled fs ++ w ∷ []) (at_prefix fs o)
prefixed_good w fs None h s = tt
prefixed_good w fs (Some p) h s =
    good_if _ (nat_le (wanted fs) (prefix_level p)) (going (Behind p ∷ fs) WantsOperand) bad
    (λ k. ((le_of (wanted fs) (prefix_level p) k, s), tt, ap (λ v. spelled fs ++ v ∷ []) (sym h)))
    tt

-- a function's name, or else a prefix
called_good : (w : List ℕ) (fs : List Frame) (o : Option Function) (p : Option Prefix)
    → function_of w ≡ o → IsPrefix w p → IsSound fs
    → IsGood (spelled fs ++ w ∷ []) (at_function fs o p)
called_good w fs None p e h s = prefixed_good w fs p h s
called_good w fs (Some f) p e h s = (
  s,
  tt,
  ap (λ v. spelled fs ++ v ∷ [])
      (sym (function_found (Len ∷ Sum ∷ Min ∷ Max ∷ Range ∷ Array ∷ []) w f e)),
)

-- `]` where a member is wanted: the list of none
emptied_good : (w : List ℕ) (fs : List Frame) → IsSound fs → w ≡ square_close
    → IsGood (spelled fs ++ w ∷ []) (at_empty_close fs)
emptied_good w (Listed [] ∷ fs) s e = (
  s.1,
  (tt, omega arith),
  ap (λ v. spelled fs ++ square_open ∷ v ∷ []) (sym e)
      ∙ sym (append_assoc (spelled fs) (square_open ∷ []) (w ∷ [])),
)
emptied_good w _ s e = tt

-- `{`
unkeyed_good : (room : ℕ) (w : List ℕ) (fs : List Frame) → IsSound fs → w ≡ curly_open
    → IsGood (spelled fs ++ w ∷ []) (at_table room fs)
unkeyed_good room w fs s e =
    good_if _ (nat_lt (depth fs) room) (going fs (WantsKey [])) deep
    (λ h. (s, tt, ap (λ v. spelled fs ++ v ∷ []) (sym e))) tt

-- what opens an operand: brackets, a function's name, a prefix
opened_good : (room : ℕ) (fs : List Frame) (w : List ℕ) → IsSound fs
    → IsGood (spelled fs ++ w ∷ []) (at_opening room fs w)
opened_good room fs w s =
    good_if _ (is_mark 40 w) (with_bracket room Bracket fs) _
    (λ h.
    nested_good _ room Bracket fs (tt, s)
    (ap (λ v. spelled fs ++ v ∷ []) (sym (is_word w round_open h))))
    (good_if _ (is_mark 91 w) (with_bracket room (Listed []) fs) _
    (λ h.
    nested_good _ room (Listed []) fs (tt, s)
    (ap (λ v. spelled fs ++ v ∷ []) (sym (is_word w square_open h))))
    (good_if _ (is_mark 93 w) (at_empty_close fs) _
    (λ h. emptied_good w fs s (is_word w square_close h))
    (good_if _ (is_mark 123 w) (at_table room fs) _
    (λ h. unkeyed_good room w fs s (is_word w curly_open h))
    (called_good w fs (function_of w) (prefix_of w) refl (prefix_is w) s))))

-- any sign where an operand begins
begun_good : (room : ℕ) (fs : List Frame) (w : List ℕ) → IsSound fs
    → IsGood (spelled fs ++ w ∷ []) (at_operand room fs w)
begun_good room fs w s =
    good_if _ (is_leaf w) (going fs (HasOperand (leaf w))) _ (λ h. (s, (h, omega arith), refl))
    (opened_good room fs w s)

-- the signs so far, with one more behind the operand
one_more : (s a ws : List (List ℕ)) (w v : List ℕ) → s ++ a ≡ ws → w ≡ v
    → s ++ (a ++ v ∷ []) ≡ ws ++ w ∷ []
one_more s a ws w v e h = sym (append_assoc s a (v ∷ [])) ∙ ap₂ (λ x y. x ++ y ∷ []) e (sym h)

-- an operator behind an operand
infixed_good : (o : Operator) (ws : List (List ℕ)) (w : List ℕ) (r : Operands)
    → Done (left_level o) ws r → w ≡ operator_word o → IsGood (ws ++ w ∷ []) (at_operator o r)
infixed_good o ws w r d h =
    good_if _ (nat_le (wanted r.frames) (own_level o))
    (going (Operand o r.tree ∷ r.frames) WantsOperand) bad
    (λ k. (
      ((le_of (wanted r.frames) (own_level o) k, d.high, d.formed), d.sound),
      tt,
      one_more (spelled r.frames) (words_of r.tree) ws w (operator_word o) d.words h,
    )) tt

-- the same, where some signs stand between
one_behind : (s p t ws : List (List ℕ)) (w v : List ℕ) → (s ++ p) ++ t ≡ ws → w ≡ v
    → s ++ (p ++ (t ++ v ∷ [])) ≡ ws ++ w ∷ []
one_behind s p t ws w v e h = sym (append_assoc s p (t ++ v ∷ [])) ∙ one_more (s ++ p) t ws w v e h

-- a sign behind the list that a list goes over
source_words : (s m t ws : List (List ℕ)) (x w v : List ℕ)
    → (s ++ square_open ∷ (m ++ for_word ∷ x ∷ in_word ∷ [])) ++ t ≡ ws → w ≡ v
    → s ++ square_open ∷ (m ++ for_word ∷ x ∷ in_word ∷ (t ++ v ∷ [])) ≡ ws ++ w ∷ []
source_words s m t ws x w v e h =
    ap (λ y. s ++ square_open ∷ y)
    (sym (append_assoc m (for_word ∷ x ∷ in_word ∷ []) (t ++ v ∷ [])))
    ∙ one_behind s (square_open ∷ (m ++ for_word ∷ x ∷ in_word ∷ [])) t ws w v e h

-- a sign behind the condition of its members
filter_words : (s m a t ws : List (List ℕ)) (x w v : List ℕ)
    → (s ++ square_open ∷ (m ++ for_word ∷ x ∷ in_word ∷ (a ++ if_word ∷ []))) ++ t ≡ ws → w ≡ v
    → s ++ square_open ∷ (m ++ for_word ∷ x ∷ in_word ∷ (a ++ if_word ∷ (t ++ v ∷ [])))
    ≡ ws ++ w ∷ []
filter_words s m a t ws x w v e h =
    ap (λ y. s ++ square_open ∷ (m ++ for_word ∷ x ∷ in_word ∷ y))
    (sym (append_assoc a (if_word ∷ []) (t ++ v ∷ [])))
    ∙ ap (λ y. s ++ square_open ∷ y)
    (sym (append_assoc m (for_word ∷ x ∷ in_word ∷ (a ++ if_word ∷ [])) (t ++ v ∷ [])))
    ∙ one_behind s (square_open ∷ (m ++ for_word ∷ x ∷ in_word ∷ (a ++ if_word ∷ []))) t ws w v e h

-- `if` behind an operand: a choice
conditioned_good : (ws : List (List ℕ)) (w : List ℕ) (fs : List Frame) (t : Expression) → IsSound fs
    → IsFormed t → 1 ≤ level t → spelled fs ++ words_of t ≡ ws → w ≡ if_word
    → IsGood (ws ++ w ∷ []) (at_condition fs t)
conditioned_good ws w fs t s h k e v =
    good_if _ (nat_le (wanted fs) 0) (going (Condition t ∷ fs) WantsOperand) bad
    (λ low.
    (((le_of (wanted fs) 0 low, k, h), s), tt, one_more (spelled fs) (words_of t) ws w if_word e v))
    tt

-- `if` behind the list that a list goes over: the condition of its members
picked_good : (ws : List (List ℕ)) (w : List ℕ) (fs : List Frame) (t : Expression) → IsSound fs
    → IsFormed t → 1 ≤ level t → spelled fs ++ words_of t ≡ ws → w ≡ if_word
    → IsGood (ws ++ w ∷ []) (at_filter fs t)
picked_good ws w (Source m x ∷ fs) t s h k e v = (
  ((s.0.0, s.0.1, k, h), s.1),
  tt,
  source_words (spelled fs) (words_of m) (words_of t) ws x w if_word e v,
)
picked_good ws w _ t s h k e v = tt

-- any `if`
asked_good : (ws : List (List ℕ)) (w : List ℕ) (fs : List Frame) (t : Expression) → IsSound fs
    → IsFormed t → 1 ≤ level t → spelled fs ++ words_of t ≡ ws → w ≡ if_word
    → IsGood (ws ++ w ∷ []) (at_if fs t)
asked_good ws w fs t s h k e v =
    good_if _ (top_is_source fs) (at_filter fs t) (at_condition fs t)
    (λ on. picked_good ws w fs t s h k e v) (conditioned_good ws w fs t s h k e v)

-- `for` behind the first member of a list
looped_good : (ws : List (List ℕ)) (w : List ℕ) (fs : List Frame) (t : Expression) → IsSound fs
    → IsFormed t → spelled fs ++ words_of t ≡ ws → w ≡ for_word
    → IsGood (ws ++ w ∷ []) (at_for fs t)
looped_good ws w (Listed [] ∷ fs) t s h e v =
    (s.1, h, one_behind (spelled fs) (square_open ∷ []) (words_of t) ws w for_word e v)
looped_good ws w _ t s h e v = tt

-- the signs of a choice up to its `else`
else_words : (s a t ws : List (List ℕ)) (w : List ℕ) → (s ++ (a ++ if_word ∷ [])) ++ t ≡ ws
    → w ≡ else_word → s ++ (a ++ if_word ∷ (t ++ else_word ∷ [])) ≡ ws ++ w ∷ []
else_words s a t ws w e h =
    regroup s a (t ++ else_word ∷ []) if_word
    ∙ one_more (s ++ (a ++ if_word ∷ [])) t ws w else_word e h

-- `else` behind a condition
elsed_good : (ws : List (List ℕ)) (w : List ℕ) (fs : List Frame) (t : Expression) → IsSound fs
    → IsFormed t → 1 ≤ level t → spelled fs ++ words_of t ≡ ws → w ≡ else_word
    → IsGood (ws ++ w ∷ []) (at_else fs t)
elsed_good ws w (Condition a ∷ fs) t s h k e v = (
  ((s.0.0, s.0.1, s.0.2, k, h), s.1),
  tt,
  else_words (spelled fs) (words_of a) (words_of t) ws w e v,
)
elsed_good ws w _ t s h k e v = tt

-- the signs of `range` of two bounds, grouped otherwise
span_words : (s a c : List (List ℕ))
    → s ++ function_word Range ∷ round_open ∷ (a ++ comma ∷ c)
    ≡ (s ++ function_word Range ∷ round_open ∷ (a ++ comma ∷ [])) ++ c
span_words s a c =
    ap (λ x. s ++ function_word Range ∷ round_open ∷ x) (sym (append_assoc a (comma ∷ []) c))
    ∙ sym (append_assoc s (function_word Range ∷ round_open ∷ (a ++ comma ∷ [])) c)

-- and up to its comma
bound_words : (s t ws : List (List ℕ)) (w : List ℕ)
    → (s ++ function_word Range ∷ round_open ∷ []) ++ t ≡ ws → w ≡ comma
    → s ++ function_word Range ∷ round_open ∷ (t ++ comma ∷ []) ≡ ws ++ w ∷ []
bound_words s t ws w e h =
    sym (append_assoc s (function_word Range ∷ round_open ∷ []) (t ++ comma ∷ []))
    ∙ one_more (s ++ function_word Range ∷ round_open ∷ []) t ws w comma e h

-- `,` behind the first member of a function: `range` alone goes on
member_good : (ws : List (List ℕ)) (w : List ℕ) (f : Function) (fs : List Frame) (t : Expression)
    → IsSound fs → IsFormed t → (spelled fs ++ function_word f ∷ round_open ∷ []) ++ words_of t ≡ ws
    → w ≡ comma → IsGood (ws ++ w ∷ []) (at_bound f fs t)
member_good ws w Range fs t s h e v = ((h, s), tt, bound_words (spelled fs) (words_of t) ws w e v)
member_good ws w _ fs t s h e v = tt

-- a sign behind a member of a table
key_words : (s : List (List ℕ)) (es : List (List ℕ × Expression)) (k : List ℕ) (t : Expression)
    (ws : List (List ℕ)) (w v : List ℕ) (all : List (List ℕ))
    → all ≡ keyed_words es ++ k ∷ colon ∷ (words_of t ++ v ∷ [])
    → (s ++ curly_open ∷ (keyed_words es ++ k ∷ colon ∷ [])) ++ words_of t ≡ ws → w ≡ v
    → s ++ curly_open ∷ all ≡ ws ++ w ∷ []
key_words s es k t ws w v all same e h =
    ap (λ y. s ++ curly_open ∷ y)
    (same ∙ sym (append_assoc (keyed_words es) (k ∷ colon ∷ []) (words_of t ++ v ∷ [])))
    ∙ one_behind s (curly_open ∷ (keyed_words es ++ k ∷ colon ∷ [])) (words_of t) ws w v e h

-- `,` behind a member, of a function, a list or a table
parted_good : (ws : List (List ℕ)) (w : List ℕ) (fs : List Frame) (t : Expression) → IsSound fs
    → IsFormed t → spelled fs ++ words_of t ≡ ws → w ≡ comma → IsGood (ws ++ w ∷ []) (at_comma fs t)
parted_good ws w (Member f ∷ fs) t s h e v = member_good ws w f fs t s.1 h e v
parted_good ws w (Listed es ∷ fs) t s h e v = (
  (formed_more es t s.0 h, s.1),
  tt,
  ap (λ y. spelled fs ++ square_open ∷ y) (comma_words es t)
      ∙ one_behind (spelled fs) (square_open ∷ listed_words es) (words_of t) ws w comma e v,
)
parted_good ws w (Keyed es k ∷ fs) t s h e v = (
  s.1,
  entries_more es k t s.0.0 s.0.1 h,
  key_words (spelled fs) es k t ws w comma _ (comma_entries es k t) e v,
)
parted_good ws w _ t s h e v = tt

-- `)`
closed_good : (ws : List (List ℕ)) (w : List ℕ) (fs : List Frame) (t : Expression) → IsSound fs
    → IsFormed t → spelled fs ++ words_of t ≡ ws → w ≡ round_close
    → IsGood (ws ++ w ∷ []) (at_round_close (λ e. e) fs t)
closed_good ws w (Bracket ∷ fs) t s h e v = (
  s.1,
  (h, omega arith),
  sym (append_assoc (spelled fs) (round_open ∷ []) (words_of t ++ round_close ∷ []))
      ∙ one_more (spelled fs ++ round_open ∷ []) (words_of t) ws w round_close e v,
)
closed_good ws w (Member f ∷ fs) t s h e v = (
  s.1,
  (h, omega arith),
  sym
      (append_assoc (spelled fs) (function_word f ∷ round_open ∷ [])
      (words_of t ++ round_close ∷ []))
      ∙ one_more (spelled fs ++ function_word f ∷ round_open ∷ []) (words_of t) ws w round_close e
      v,
)
closed_good ws w (Bound a ∷ fs) t s h e v = (
  s.1,
  ((s.0, h), omega arith),
  span_words (spelled fs) (words_of a) (words_of t ++ round_close ∷ [])
      ∙ one_more (spelled fs ++ function_word Range ∷ round_open ∷ (words_of a ++ comma ∷ []))
      (words_of t) ws w round_close e v,
)
closed_good ws w _ t s h e v = tt

-- `]` behind an operand
ended_good : (ws : List (List ℕ)) (w : List ℕ) (fs : List Frame) (t : Expression) → IsSound fs
    → IsFormed t → wanted fs ≤ level t → spelled fs ++ words_of t ≡ ws → w ≡ square_close
    → IsGood (ws ++ w ∷ []) (at_square_close (λ e. e) fs t)
ended_good ws w (Element a ∷ fs) t s h k e v = (
  s.1,
  ((s.0.0, s.0.1, h), omega arith),
  regroup (spelled fs) (words_of a) (words_of t ++ square_close ∷ []) square_open
      ∙ one_more (spelled fs ++ (words_of a ++ square_open ∷ [])) (words_of t) ws w square_close e
      v,
)
ended_good ws w (Listed es ∷ fs) t s h k e v = (
  s.1,
  (formed_more es t s.0 h, omega arith),
  ap (λ y. spelled fs ++ square_open ∷ y) (last_words es t (square_close ∷ []))
      ∙ one_behind (spelled fs) (square_open ∷ listed_words es) (words_of t) ws w square_close e v,
)
ended_good ws w (Source m x ∷ fs) t s h k e v = (
  s.1,
  ((s.0.0, s.0.1, k, h), omega arith),
  source_words (spelled fs) (words_of m) (words_of t) ws x w square_close e v,
)
ended_good ws w (Filter m x a ∷ fs) t s h k e v = (
  s.1,
  ((s.0.0, s.0.1, s.0.2, s.0.3, k, h), omega arith),
  filter_words (spelled fs) (words_of m) (words_of a) (words_of t) ws x w square_close e v,
)
ended_good ws w _ t s h k e v = tt

-- `}`
braced_good : (ws : List (List ℕ)) (w : List ℕ) (fs : List Frame) (t : Expression) → IsSound fs
    → IsFormed t → spelled fs ++ words_of t ≡ ws → w ≡ curly_close
    → IsGood (ws ++ w ∷ []) (at_curly_close (λ e. e) fs t)
braced_good ws w (Keyed es k ∷ fs) t s h e v = (
  s.1,
  (entries_more es k t s.0.0 s.0.1 h, omega arith),
  key_words (spelled fs) es k t ws w curly_close _ (last_entries es k t (curly_close ∷ [])) e v,
)
braced_good ws w _ t s h e v = tt

-- any sign behind an operand: the operations of its level are done, and then it is read
gone_good : (room : ℕ) (fs : List Frame) (e : Expression) (j : Joint) (w : List ℕ) → IsJoint w j
    → IsSound fs → IsFormed e → 8 ≤ level e
    → IsGood ((spelled fs ++ words_of e) ++ w ∷ []) (at_joint (λ e. e) room fs e j)
gone_good room fs e (Infix o) w j s h k =
    let low = wanted_low fs in let left = left_low o in
    infixed_good o _ w (reduced (λ e. e) (left_level o) fs e)
    (reduces (left_level o) fs e s h (omega arith) (omega arith)) j
gone_good room fs e Opening w j s h k =
    nested_good _ room (Element e) fs ((k, h), s)
    (one_more (spelled fs) (words_of e) _ w square_open refl j)
gone_good room fs e If w j s h k =
    let low = wanted_low fs in
    let d = reduces 1 fs e s h (omega arith) (omega arith) in
    asked_good _ w (reduced (λ e. e) 1 fs e).frames (reduced (λ e. e) 1 fs e).tree d.sound d.formed
    d.high d.words j
gone_good room fs e Else w j s h k =
    let low = wanted_low fs in
    let d = reduces 1 fs e s h (omega arith) (omega arith) in
    elsed_good _ w (reduced (λ e. e) 1 fs e).frames (reduced (λ e. e) 1 fs e).tree d.sound d.formed
    d.high d.words j
gone_good room fs e For w j s h k =
    let low = wanted_low fs in
    let d = reduces 0 fs e s h (omega arith) (omega arith) in
    looped_good _ w (reduced (λ e. e) 0 fs e).frames (reduced (λ e. e) 0 fs e).tree d.sound d.formed
    d.words j
gone_good room fs e Closing w j s h k =
    let low = wanted_low fs in
    let d = reduces 0 fs e s h (omega arith) (omega arith) in
    closed_good _ w (reduced (λ e. e) 0 fs e).frames (reduced (λ e. e) 0 fs e).tree d.sound d.formed
    d.words j
gone_good room fs e Ending w j s h k =
    let low = wanted_low fs in
    let d = reduces 0 fs e s h (omega arith) (omega arith) in
    ended_good _ w (reduced (λ e. e) 0 fs e).frames (reduced (λ e. e) 0 fs e).tree d.sound d.formed
    d.fits d.words j
gone_good room fs e Braced w j s h k =
    let low = wanted_low fs in
    let d = reduces 0 fs e s h (omega arith) (omega arith) in
    braced_good _ w (reduced (λ e. e) 0 fs e).frames (reduced (λ e. e) 0 fs e).tree d.sound d.formed
    d.words j
gone_good room fs e Comma w j s h k =
    let low = wanted_low fs in
    let d = reduces 0 fs e s h (omega arith) (omega arith) in
    parted_good _ w (reduced (λ e. e) 0 fs e).frames (reduced (λ e. e) 0 fs e).tree d.sound d.formed
    d.words j
gone_good room fs e Other w j s h k = tt

-- `(` behind a function's name
calling_good : (room : ℕ) (f : Function) (fs : List Frame) (w : List ℕ) → IsSound fs
    → IsGood ((spelled fs ++ function_word f ∷ []) ++ w ∷ [])
    (if is_mark 40 w then with_bracket room (Member f) fs else bad)
calling_good room f fs w s =
    good_if _ (is_mark 40 w) (with_bracket room (Member f) fs) bad
    (λ h.
    nested_good _ room (Member f) fs (tt, s)
    (sym (append_assoc (spelled fs) (function_word f ∷ []) (round_open ∷ []))
    ∙ ap (λ v. (spelled fs ++ function_word f ∷ []) ++ v ∷ []) (sym (is_word w round_open h)))) tt

-- a sign more, where some stand before and between
tail_words : (s m us : List (List ℕ)) (o w v : List ℕ) → w ≡ v
    → s ++ o ∷ (m ++ (us ++ v ∷ [])) ≡ (s ++ o ∷ (m ++ us)) ++ w ∷ []
tail_words s m us o w v h =
    ap (λ y. s ++ o ∷ y) (sym (append_assoc m us (v ∷ [])))
    ∙ sym (append_assoc s (o ∷ (m ++ us)) (v ∷ []))
    ∙ ap (λ u. (s ++ o ∷ (m ++ us)) ++ u ∷ []) (sym h)

-- `}` where a key is wanted: the table of none
no_key_good : (fs : List Frame) (es : List (List ℕ × Expression)) (w : List ℕ) → IsSound fs
    → IsGood ((spelled fs ++ curly_open ∷ keyed_words es) ++ w ∷ []) (at_empty_table fs es w)
no_key_good fs [] w s =
    good_if _ (is_mark 125 w) (going fs (HasOperand (table no_entries))) bad
    (λ h. (
      s,
      (tt, omega arith),
      tail_words (spelled fs) [] [] curly_open w curly_close (is_word w curly_close h),
    )) tt
no_key_good fs (p ∷ ps) w s = tt

-- a key of a table
keyed_good : (fs : List Frame) (es : List (List ℕ × Expression)) (w : List ℕ) → IsSound fs
    → HaveFormed (entries_of es)
    → IsGood ((spelled fs ++ curly_open ∷ keyed_words es) ++ w ∷ []) (at_key fs es w)
keyed_good fs es w s f =
    good_if _ (is_key w) (going fs (WantsColon es w)) _
    (λ h. (s, (f, h), sym (append_assoc (spelled fs) (curly_open ∷ keyed_words es) (w ∷ []))))
    (no_key_good fs es w s)

-- `:` behind a key
valued_good : (room : ℕ) (fs : List Frame) (es : List (List ℕ × Expression)) (k w : List ℕ)
    → IsSound fs → HaveFormed (entries_of es) → is_key k ≡ true
    → IsGood ((spelled fs ++ curly_open ∷ (keyed_words es ++ k ∷ [])) ++ w ∷ [])
    (at_colon room fs es k w)
valued_good room fs es k w s f g =
    good_if _ (is_mark 58 w) (with_bracket room (Keyed es k) fs) bad
    (λ h.
    nested_good _ room (Keyed es k) fs ((f, g), s)
    (tail_words (spelled fs) (keyed_words es) (k ∷ []) curly_open w colon (is_word w colon h))) tt

-- the variable behind `for`
varied_good : (fs : List Frame) (m : Expression) (w : List ℕ) → IsSound fs → IsFormed m
    → IsGood ((spelled fs ++ square_open ∷ (words_of m ++ for_word ∷ [])) ++ w ∷ [])
    (at_variable fs m w)
varied_good fs m w s f =
    good_if _ (is_identifier w) (going fs (WantsIn m w)) bad
    (λ h. (s, (f, h), tail_words (spelled fs) (words_of m) (for_word ∷ []) square_open w w refl)) tt

-- `in` behind the variable
sourced_good : (room : ℕ) (fs : List Frame) (m : Expression) (x w : List ℕ) → IsSound fs
    → IsFormed m → is_identifier x ≡ true
    → IsGood ((spelled fs ++ square_open ∷ (words_of m ++ for_word ∷ x ∷ [])) ++ w ∷ [])
    (at_in room fs m x w)
sourced_good room fs m x w s f g =
    good_if _ (bytes_eq w in_word) (with_bracket room (Source m x) fs) bad
    (λ h.
    nested_good _ room (Source m x) fs ((f, g), s)
    (tail_words (spelled fs) (words_of m) (for_word ∷ x ∷ []) square_open w in_word
    (is_word w in_word h))) tt

-- one sign more, whatever is read next: what was read is kept
step_good : (room : ℕ) (fs : List Frame) (m : Mode) (w : List ℕ) → IsSound fs → IsMode m
    → IsGood (all_words fs m ++ w ∷ []) (step (λ e. e) room fs m w)
step_good room fs WantsOperand w s h = begun_good room fs w s
step_good room fs (AfterFunction f) w s h = calling_good room f fs w s
step_good room fs (WantsKey es) w s h = keyed_good fs es w s h
step_good room fs (WantsColon es k) w s h = valued_good room fs es k w s h.0 h.1
step_good room fs (WantsVariable m) w s h = varied_good fs m w s h
step_good room fs (WantsIn m x) w s h = sourced_good room fs m x w s h.0 h.1
step_good room fs (HasOperand e) w s h = gone_good room fs e (joint_of w) w (joint_is w) s h.0 h.1

-- ---- all signs

-- at the end nothing waits, so the operand is the whole, of all signs
whole_good : (fs : List Frame) (t u : Expression) (ws : List (List ℕ)) → IsFormed t
    → spelled fs ++ words_of t ≡ ws → whole_tree_of fs t ≡ read u → IsFormed u × (words_of u ≡ ws)
whole_good [] t u ws h e r = let same : t ≡ u = cc in
    subst (λ (v : Expression). IsFormed v × (words_of v ≡ ws)) same (h, e)
whole_good (f ∷ fs) t u ws h e r = absurd (cc)

-- what is finished is an expression of the grammar, of all signs
finish_good : (fs : List Frame) (m : Mode) (u : Expression) → IsSound fs → IsMode m
    → finished (λ e. e) fs m ≡ read u → IsFormed u × (words_of u ≡ all_words fs m)
finish_good fs (HasOperand e) u s h r =
    let low = wanted_low fs in let high = h.1 in
    let d = reduces 0 fs e s h.0 (omega arith) (omega arith) in
    whole_good (reduced (λ e. e) 0 fs e).frames (reduced (λ e. e) 0 fs e).tree u _ d.formed d.words
    r
finish_good fs _ u s h r = absurd (cc)

-- what the signs behind one step make is of these and those before it
follow_good : (st : Step) (ws rest : List (List ℕ)) (u : Expression)
    (next : List Frame → Mode → Read) → IsGood ws st
    → ((gs : List Frame) (n : Mode) → IsSound gs → IsMode n → next gs n ≡ read u
    → IsFormed u × (words_of u ≡ all_words gs n ++ rest)) → follow st next ≡ read u
    → IsFormed u × (words_of u ≡ ws ++ rest)
follow_good (going gs n) ws rest u next g more r = let d = more gs n g.0 g.1 r in
    (d.0, d.1 ∙ ap (λ x. x ++ rest) g.2)
follow_good bad ws rest u next g more r = absurd (cc)
follow_good deep ws rest u next g more r = absurd (cc)

-- A run that reads a tree reads an expression of the grammar, of exactly the signs that were given.
pub run_good : (room : ℕ) (fs : List Frame) (m : Mode) (ws : List (List ℕ)) (u : Expression)
    → IsSound fs → IsMode m → run (λ e. e) room fs m ws ≡ read u
    → IsFormed u × (words_of u ≡ all_words fs m ++ ws)
run_good room fs m [] u s h r = let d = finish_good fs m u s h r in
    (d.0, d.1 ∙ sym (append-nil (all_words fs m)))
run_good room fs m (w ∷ ws) u s h r =
    let d =
    follow_good (step (λ e. e) room fs m w) (all_words fs m ++ w ∷ []) ws u
    (λ gs n. run (λ e. e) room gs n ws) (step_good room fs m w s h)
    (λ gs n t k. run_good room gs n ws u t k) r in
    (d.0, d.1 ∙ append_assoc (all_words fs m) (w ∷ []) ws)

-- what is read is an expression of the grammar, written by these signs
pub sound : (room : ℕ) (ws : List (List ℕ)) (u : Expression)
    → run (λ e. e) room [] WantsOperand ws ≡ read u → IsFormed u × (words_of u ≡ ws)
sound room ws u r = run_good room [] WantsOperand ws u tt tt r
