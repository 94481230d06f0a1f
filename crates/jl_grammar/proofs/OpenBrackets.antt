-- How many brackets are open in what the reader holds is what the signs say; so much follows of
-- where it stops.
use Rattle.std.proofs.Common.{◌≡◌, ℕ, suc, ◌+◌, ◌-◌, ◌<◌, ◌≤◌, Bool, true, false, List, [], ◌∷◌}
use Rattle.std.proofs.Common.{◌++◌, Option, Some, None, refl, sym, ap, ◌∙◌, subst, arith}
use Rattle.std.proofs.Common.{append_assoc, true≢false}
use Rattle.std.specs.Prelude.{nat_le, nat_lt, if◌then◌else◌}
use Rattle.std.proofs.lemmas.List.{append-nil}
use Rattle.std.specs.Str.{bytes_eq}
use Rattle.jl_lexer.specs.declared.operators.Operator.{Operator}
use Rattle.jl_lexer.specs.declared.operators.Operator.TheVariants.{Or}
use Rattle.jl_lexer.specs.declared.operators.Prefix.{Prefix}
use Rattle.jl_lexer.specs.declared.operators.Prefix.TheVariants.{Not, Negative}
use Rattle.jl_lexer.specs.declared.operators.Function.{Function}
use Rattle.jl_lexer.specs.declared.operators.Function.TheVariants.{Len, Sum, Min, Max, Range, Array}
use Rattle.jl_grammar.specs.declared.joint.Joint.{Joint}
use Rattle.jl_grammar.specs.declared.joint.Joint.TheVariants.{Infix, Opening, If, Else, For}
use Rattle.jl_grammar.specs.declared.joint.Joint.TheVariants.{Closing, Ending, Braced, Comma, Other}
use Rattle.jl_grammar.specs.Frames.{Frame, Bracket, Behind, Operand, Condition, Otherwise, Element}
use Rattle.jl_grammar.specs.Frames.{Member, Bound, Listed, Keyed, Source, Filter}
use Rattle.jl_grammar.specs.declared.mode.Mode.{Mode}
use Rattle.jl_grammar.specs.declared.mode.Mode.TheVariants.{WantsOperand, HasOperand, AfterFunction}
use Rattle.jl_grammar.specs.declared.mode.Mode.TheVariants.{WantsKey, WantsColon, WantsVariable}
use Rattle.jl_grammar.specs.declared.mode.Mode.TheVariants.{WantsIn}
use Rattle.jl_lexer.specs.Words.{is_leaf, true_word, false_word, none_word, is_identifier, is_key}
use Rattle.jl_lexer.specs.Marks.{is_mark, operator_word, prefix_word, prefix_of, function_word}
use Rattle.jl_lexer.specs.Marks.{function_of, in_word, own_level, left_level, prefix_level}
use Rattle.jl_lexer.specs.Trees.{Expression, leaf, table, no_entries}
use Rattle.jl_grammar.specs.Grammar.{Writes, round_open, round_close, square_open, square_close}
use Rattle.jl_grammar.specs.Grammar.{curly_open, curly_close, colon}
use Rattle.jl_grammar.specs.Parser.{joint_of, wanted, depth, binds, with_last, Operands, reduced}
use Rattle.jl_grammar.specs.Parser.{Step, going, bad, deep, at_operand, at_empty_close, at_table}
use Rattle.jl_grammar.specs.Parser.{with_bracket, at_prefix, at_condition, top_is_source, at_filter}
use Rattle.jl_grammar.specs.Parser.{at_if, at_for, at_else, at_round_close, at_square_close}
use Rattle.jl_grammar.specs.Parser.{at_curly_close, at_bound, at_comma, at_function, at_empty_table}
use Rattle.jl_grammar.specs.Parser.{at_joint, step, Read, broken, nested_deep, whole_tree_of}
use Rattle.jl_grammar.specs.Parser.{finished, follow, run, read_signs}
use Rattle.jl_grammar.specs.Fronts.{open_after, open_behind, open_brackets, IsShallow, Deepens}
use Rattle.jl_grammar.specs.Fronts.{Breaks, at_sign, at_end}
use Rattle.jl_grammar.proofs.Soundness.{IsJoint, joint_is, IsPrefix, prefix_is, function_found}
use Rattle.jl_grammar.proofs.Soundness.{is_word}
use Rattle.jl_grammar.proofs.Deepness.{not_broken}

-- ---- signs that are no brackets

-- a sign that has a form which a mark has not is not that mark
not_mark_by : (b : Bool) (p : List ℕ → Bool) (v w : List ℕ) → bytes_eq w v ≡ b → p v ≡ false
    → p w ≡ true → bytes_eq w v ≡ false
not_mark_by true p v w e h k = absurd (true≢false (sym k ∙ ap p (is_word w v e) ∙ h))
not_mark_by false p v w e h k = e

-- a sign that is none of the brackets opens and closes nothing
no_bracket : (p : List ℕ → Bool) → p round_open ≡ false → p square_open ≡ false
    → p curly_open ≡ false → p round_close ≡ false → p square_close ≡ false → p curly_close ≡ false
    → (n : ℕ) (w : List ℕ) → p w ≡ true → open_after n w ≡ n
no_bracket p a b c d e f n w h =
    rw (
      not_mark_by (bytes_eq w round_open) p round_open w refl a h,
      not_mark_by (bytes_eq w square_open) p square_open w refl b h,
      not_mark_by (bytes_eq w curly_open) p curly_open w refl c h,
      not_mark_by (bytes_eq w round_close) p round_close w refl d h,
      not_mark_by (bytes_eq w square_close) p square_close w refl e h,
      not_mark_by (bytes_eq w curly_close) p curly_close w refl f h,
    )

-- a leaf opens and closes nothing
leaf_after : (n : ℕ) (w : List ℕ) → is_leaf w ≡ true → open_after n w ≡ n
unfolding true_word false_word none_word
leaf_after n w h = no_bracket is_leaf refl refl refl refl refl refl n w h

-- nor does a variable
name_after : (n : ℕ) (w : List ℕ) → is_identifier w ≡ true → open_after n w ≡ n
name_after n w h = no_bracket is_identifier refl refl refl refl refl refl n w h

-- nor does a key
key_after : (n : ℕ) (w : List ℕ) → is_key w ≡ true → open_after n w ≡ n
key_after n w h = no_bracket is_key refl refl refl refl refl refl n w h

-- nor does an operator
infix_after : (n : ℕ) (o : Operator) → open_after n (operator_word o) ≡ n
infix_after n Or = refl
infix_after n _ = refl

-- nor does a prefix
prefix_after : (n : ℕ) (p : Prefix) → open_after n (prefix_word p) ≡ n
prefix_after n Not = refl
prefix_after n Negative = refl

-- nor does a function's name
call_after : (n : ℕ) (f : Function) → open_after n (function_word f) ≡ n
call_after n Len = refl
call_after n _ = refl

-- ---- what is open

-- how many brackets are open in what the reader holds
abbrev pub open_in : List Frame → Mode → ℕ
open_in fs WantsOperand = depth fs
open_in fs (HasOperand e) = depth fs
open_in fs (AfterFunction f) = depth fs
open_in fs _ = suc (depth fs)

-- a step to where k brackets are open, where there is room for so many
abbrev Opens : ℕ → ℕ → Step → Type 0
Opens room k (going gs n) = (open_in gs n ≡ k) × (k ≤ room)
Opens room k bad = Unit {0}
Opens room k deep = room < k

-- a step by a test, where both of its ends count so
opens_if : (room k : ℕ) (b : Bool) (s t : Step) → (b ≡ true → Opens room k s)
    → (b ≡ false → Opens room k t) → Opens room k (if b then s else t)
opens_if room k true s t h i = h refl
opens_if room k false s t h i = i refl

-- what is told less is less
lt_of : (a b : ℕ) → nat_lt a b ≡ true → a < b
lt_of a b h = grind arith

-- what is not told less is at most
le_not : (a b : ℕ) → nat_lt a b ≡ false → b ≤ a
le_not a b h = grind arith

-- one bracket more
nested_opens : (room k : ℕ) (f : Frame) (fs : List Frame) → depth (f ∷ fs) ≡ suc (depth fs)
    → k ≡ suc (depth fs) → Opens room k (with_bracket room f fs)
nested_opens room k f fs d h =
    opens_if room k (nat_lt (depth fs) room) (going (f ∷ fs) WantsOperand) deep
    (λ b. let low = lt_of (depth fs) room b in (d ∙ sym h, omega arith))
    (λ b. let high = le_not (depth fs) room b in omega arith)

-- `{` opens one
unkeyed_opens : (room k : ℕ) (fs : List Frame) → k ≡ suc (depth fs)
    → Opens room k (at_table room fs)
unkeyed_opens room k fs h =
    opens_if room k (nat_lt (depth fs) room) (going fs (WantsKey [])) deep
    (λ b. let low = lt_of (depth fs) room b in (sym h, omega arith))
    (λ b. let high = le_not (depth fs) room b in omega arith)

-- a prefix
prefixed_opens : (room k : ℕ) (w : List ℕ) (fs : List Frame) (o : Option Prefix) → IsPrefix w o
    → depth fs ≤ room → k ≡ open_after (depth fs) w → Opens room k (at_prefix fs o)
prefixed_opens room k w fs None h low e = tt
prefixed_opens room k w fs (Some p) h low e =
    let same : k ≡ depth fs = e ∙ ap (open_after (depth fs)) h ∙ prefix_after (depth fs) p in
    opens_if room k (nat_le (wanted fs) (prefix_level p)) (going (Behind p ∷ fs) WantsOperand) bad
    (λ b. (sym same, omega arith)) (λ b. tt)

-- a function's name, or else a prefix
called_opens : (room k : ℕ) (w : List ℕ) (fs : List Frame) (o : Option Function) (p : Option Prefix)
    → function_of w ≡ o → IsPrefix w p → depth fs ≤ room → k ≡ open_after (depth fs) w
    → Opens room k (at_function fs o p)
called_opens room k w fs None p e h low i = prefixed_opens room k w fs p h low i
called_opens room k w fs (Some f) p e h low i =
    let same : k ≡ depth fs =
    i ∙ ap (open_after (depth fs))
    (function_found (Len ∷ Sum ∷ Min ∷ Max ∷ Range ∷ Array ∷ []) w f e) ∙ call_after (depth fs) f in
    (sym same, omega arith)

-- a closing bracket takes away the one on top
pub closes : (room k d : ℕ) → d < suc room → k ≡ suc d - 1 → (d ≡ k) × (k ≤ room)
closes room k d low e = (omega arith, omega arith)

-- `]` of the list of none closes one
emptied_opens : (room k : ℕ) (fs : List Frame) → depth fs ≤ room → k ≡ depth fs - 1
    → Opens room k (at_empty_close fs)
emptied_opens room k (Listed [] ∷ fs) low e = closes room k (depth fs) (omega arith) e
emptied_opens room k _ low e = tt

-- any sign where an operand begins
begun_opens : (room : ℕ) (fs : List Frame) (w : List ℕ) → depth fs ≤ room
    → Opens room (open_after (depth fs) w) (at_operand room fs w)
begun_opens room fs w low =
    let at = λ (v : List ℕ) (h : w ≡ v). ap (open_after (depth fs)) h in
    opens_if room _ (is_leaf w) (going fs (HasOperand (leaf w))) _
    (λ h. let same = leaf_after (depth fs) w h in (sym same, omega arith))
    (λ n.
    opens_if room _ (is_mark 40 w) (with_bracket room Bracket fs) _
    (λ h. nested_opens room _ Bracket fs refl (at round_open (is_word w round_open h)))
    (λ n.
    opens_if room _ (is_mark 91 w) (with_bracket room (Listed []) fs) _
    (λ h. nested_opens room _ (Listed []) fs refl (at square_open (is_word w square_open h)))
    (λ n.
    opens_if room _ (is_mark 93 w) (at_empty_close fs) _
    (λ h. emptied_opens room _ fs low (at square_close (is_word w square_close h)))
    (λ n.
    opens_if room _ (is_mark 123 w) (at_table room fs) _
    (λ h. unkeyed_opens room _ fs (at curly_open (is_word w curly_open h)))
    (λ n. called_opens room _ w fs (function_of w) (prefix_of w) refl (prefix_is w) low refl)))))

-- ---- behind an operand

-- an operation that is done is no bracket
operation_flat : (l : ℕ) (f : Frame) (fs : List Frame) → binds l f ≡ true
    → depth (f ∷ fs) ≡ depth fs
operation_flat l (Behind p) fs b = refl
operation_flat l (Operand o a) fs b = refl
operation_flat l (Otherwise a c) fs b = refl
operation_flat l _ fs b = absurd (true≢false (sym b))

-- one frame: done or left, the open brackets are the same
reduced_if : (b : Bool) (l : ℕ) (f : Frame) (fs : List Frame) (r s : Operands) → binds l f ≡ b
    → depth r.frames ≡ depth fs → depth s.frames ≡ depth (f ∷ fs)
    → depth (if b then r else s).frames ≡ depth (f ∷ fs)
reduced_if true l f fs r s e h k = h ∙ sym (operation_flat l f fs e)
reduced_if false l f fs r s e h k = k

-- operations that are done open and close nothing
reduced_depth : (l : ℕ) (fs : List Frame) (e : Expression)
    → depth (reduced (λ e. e) l fs e).frames ≡ depth fs
reduced_depth l [] e = refl
reduced_depth l (f ∷ fs) e =
    reduced_if (binds l f) l f fs (reduced (λ e. e) l fs (with_last (λ e. e) f e))
    (record { frames = f ∷ fs; tree = e }) refl (reduced_depth l fs (with_last (λ e. e) f e)) refl

-- `if` behind the list that a list goes over
picked_opens : (room k : ℕ) (fs : List Frame) (t : Expression) → depth fs ≤ room → k ≡ depth fs
    → Opens room k (at_filter fs t)
picked_opens room k (Source m x ∷ fs) t low e = (sym e, omega arith)
picked_opens room k _ t low e = tt

-- any `if`
asked_opens : (room k : ℕ) (fs : List Frame) (t : Expression) → depth fs ≤ room → k ≡ depth fs
    → Opens room k (at_if fs t)
asked_opens room k fs t low e =
    opens_if room k (top_is_source fs) (at_filter fs t) (at_condition fs t)
    (λ b. picked_opens room k fs t low e)
    (λ n.
    opens_if room k (nat_le (wanted fs) 0) (going (Condition t ∷ fs) WantsOperand) bad
    (λ b. (sym e, omega arith)) (λ b. tt))

-- `else`
elsed_opens : (room k : ℕ) (fs : List Frame) (t : Expression) → depth fs ≤ room → k ≡ depth fs
    → Opens room k (at_else fs t)
elsed_opens room k (Condition a ∷ fs) t low e = (sym e, omega arith)
elsed_opens room k _ t low e = tt

-- `for`
looped_opens : (room k : ℕ) (fs : List Frame) (t : Expression) → depth fs ≤ room → k ≡ depth fs
    → Opens room k (at_for fs t)
looped_opens room k (Listed [] ∷ fs) t low e = (sym e, omega arith)
looped_opens room k _ t low e = tt

-- `)` closes one
closed_opens : (room k : ℕ) (fs : List Frame) (t : Expression) → depth fs ≤ room → k ≡ depth fs - 1
    → Opens room k (at_round_close (λ e. e) fs t)
closed_opens room k (Bracket ∷ fs) t low e = closes room k (depth fs) (omega arith) e
closed_opens room k (Member f ∷ fs) t low e = closes room k (depth fs) (omega arith) e
closed_opens room k (Bound a ∷ fs) t low e = closes room k (depth fs) (omega arith) e
closed_opens room k _ t low e = tt

-- `]` behind an operand closes one
ended_opens : (room k : ℕ) (fs : List Frame) (t : Expression) → depth fs ≤ room → k ≡ depth fs - 1
    → Opens room k (at_square_close (λ e. e) fs t)
ended_opens room k (Element a ∷ fs) t low e = closes room k (depth fs) (omega arith) e
ended_opens room k (Listed es ∷ fs) t low e = closes room k (depth fs) (omega arith) e
ended_opens room k (Source m x ∷ fs) t low e = closes room k (depth fs) (omega arith) e
ended_opens room k (Filter m x a ∷ fs) t low e = closes room k (depth fs) (omega arith) e
ended_opens room k _ t low e = tt

-- `}` closes one
braced_opens : (room k : ℕ) (fs : List Frame) (t : Expression) → depth fs ≤ room → k ≡ depth fs - 1
    → Opens room k (at_curly_close (λ e. e) fs t)
braced_opens room k (Keyed es y ∷ fs) t low e = closes room k (depth fs) (omega arith) e
braced_opens room k _ t low e = tt

-- `,` behind the first member of a function
member_opens : (room k : ℕ) (f : Function) (fs : List Frame) (t : Expression)
    → suc (depth fs) ≤ room → k ≡ suc (depth fs) → Opens room k (at_bound f fs t)
member_opens room k Range fs t low e = (sym e, omega arith)
member_opens room k _ fs t low e = tt

-- `,` behind a member
parted_opens : (room k : ℕ) (fs : List Frame) (t : Expression) → depth fs ≤ room → k ≡ depth fs
    → Opens room k (at_comma fs t)
parted_opens room k (Member f ∷ fs) t low e = member_opens room k f fs t low e
parted_opens room k (Listed es ∷ fs) t low e = (sym e, omega arith)
parted_opens room k (Keyed es y ∷ fs) t low e = (sym e, omega arith)
parted_opens room k _ t low e = tt

-- any sign behind an operand
gone_opens : (room : ℕ) (fs : List Frame) (t : Expression) (j : Joint) (w : List ℕ) → IsJoint w j
    → depth fs ≤ room → Opens room (open_after (depth fs) w) (at_joint (λ e. e) room fs t j)
gone_opens room fs t (Infix o) w j low =
    let r = reduced (λ e. e) (left_level o) fs t in
    let d : depth r.frames ≡ depth fs = reduced_depth (left_level o) fs t in
    let same : open_after (depth fs) w ≡ depth fs =
    ap (open_after (depth fs)) j ∙ infix_after (depth fs) o in
    opens_if room _ (nat_le (wanted r.frames) (own_level o))
    (going (Operand o r.tree ∷ r.frames) WantsOperand) bad (λ b. (d ∙ sym same, omega arith))
    (λ b. tt)
gone_opens room fs t Opening w j low =
    nested_opens room _ (Element t) fs refl (ap (open_after (depth fs)) j)
gone_opens room fs t If w j low = let d = reduced_depth 1 fs t in
    asked_opens room _ (reduced (λ e. e) 1 fs t).frames (reduced (λ e. e) 1 fs t).tree (omega arith)
    (ap (open_after (depth fs)) j ∙ sym d)
gone_opens room fs t Else w j low = let d = reduced_depth 1 fs t in
    elsed_opens room _ (reduced (λ e. e) 1 fs t).frames (reduced (λ e. e) 1 fs t).tree (omega arith)
    (ap (open_after (depth fs)) j ∙ sym d)
gone_opens room fs t For w j low = let d = reduced_depth 0 fs t in
    looped_opens room _ (reduced (λ e. e) 0 fs t).frames (reduced (λ e. e) 0 fs t).tree
    (omega arith) (ap (open_after (depth fs)) j ∙ sym d)
gone_opens room fs t Closing w j low = let d = reduced_depth 0 fs t in
    closed_opens room _ (reduced (λ e. e) 0 fs t).frames (reduced (λ e. e) 0 fs t).tree
    (omega arith) (ap (open_after (depth fs)) j ∙ ap (λ n. n - 1) (sym d))
gone_opens room fs t Ending w j low = let d = reduced_depth 0 fs t in
    ended_opens room _ (reduced (λ e. e) 0 fs t).frames (reduced (λ e. e) 0 fs t).tree (omega arith)
    (ap (open_after (depth fs)) j ∙ ap (λ n. n - 1) (sym d))
gone_opens room fs t Braced w j low = let d = reduced_depth 0 fs t in
    braced_opens room _ (reduced (λ e. e) 0 fs t).frames (reduced (λ e. e) 0 fs t).tree
    (omega arith) (ap (open_after (depth fs)) j ∙ ap (λ n. n - 1) (sym d))
gone_opens room fs t Comma w j low = let d = reduced_depth 0 fs t in
    parted_opens room _ (reduced (λ e. e) 0 fs t).frames (reduced (λ e. e) 0 fs t).tree
    (omega arith) (ap (open_after (depth fs)) j ∙ sym d)
gone_opens room fs t Other w j low = tt

-- ---- inside tables and lists by `for`

-- `}` where a key is wanted
no_key_opens : (room k : ℕ) (fs : List Frame) (es : List (List ℕ × Expression)) (w : List ℕ)
    → depth fs ≤ room → k ≡ open_after (suc (depth fs)) w → Opens room k (at_empty_table fs es w)
no_key_opens room k fs [] w low e =
    opens_if room k (is_mark 125 w) (going fs (HasOperand (table no_entries))) bad
    (λ h.
    closes room k (depth fs) (omega arith)
    (e ∙ ap (open_after (suc (depth fs))) (is_word w curly_close h))) (λ b. tt)
no_key_opens room k fs (p ∷ ps) w low e = tt

-- one sign more, whatever is read next: the open brackets are counted
step_opens : (room : ℕ) (fs : List Frame) (m : Mode) (w : List ℕ) → open_in fs m ≤ room
    → Opens room (open_after (open_in fs m) w) (step (λ e. e) room fs m w)
step_opens room fs WantsOperand w low = begun_opens room fs w low
step_opens room fs (HasOperand t) w low = gone_opens room fs t (joint_of w) w (joint_is w) low
step_opens room fs (AfterFunction f) w low =
    opens_if room _ (is_mark 40 w) (with_bracket room (Member f) fs) bad
    (λ h.
    nested_opens room _ (Member f) fs refl (ap (open_after (depth fs)) (is_word w round_open h)))
    (λ b. tt)
step_opens room fs (WantsKey es) w low =
    opens_if room _ (is_key w) (going fs (WantsColon es w)) (at_empty_table fs es w)
    (λ h. let same = key_after (suc (depth fs)) w h in (sym same, omega arith))
    (λ b. no_key_opens room _ fs es w (omega arith) refl)
step_opens room fs (WantsColon es k) w low =
    opens_if room _ (is_mark 58 w) (with_bracket room (Keyed es k) fs) bad
    (λ h.
    nested_opens room _ (Keyed es k) fs refl (ap (open_after (suc (depth fs))) (is_word w colon h)))
    (λ b. tt)
step_opens room fs (WantsVariable m) w low =
    opens_if room _ (is_identifier w) (going fs (WantsIn m w)) bad
    (λ h. let same = name_after (suc (depth fs)) w h in (sym same, omega arith)) (λ b. tt)
step_opens room fs (WantsIn m x) w low =
    opens_if room _ (bytes_eq w in_word) (with_bracket room (Source m x) fs) bad
    (λ h.
    nested_opens room _ (Source m x) fs refl
    (ap (open_after (suc (depth fs))) (is_word w in_word h))) (λ b. tt)

-- ---- all signs

-- one sign more at the end
behind_one : (n : ℕ) (seen : List (List ℕ)) (w : List ℕ)
    → open_behind n (seen ++ w ∷ []) ≡ open_after (open_behind n seen) w
behind_one n [] w = refl
behind_one n (v ∷ vs) w = behind_one (open_after n v) vs w

-- one sign more with room for its brackets
shallow_one : (n : ℕ) (seen : List (List ℕ)) (w : List ℕ) → IsShallow n seen
    → open_behind n (seen ++ w ∷ []) ≤ 128 → IsShallow n (seen ++ w ∷ [])
shallow_one n [] w h low = (h, low)
shallow_one n (v ∷ vs) w h low = (h.0, shallow_one (open_after n v) vs w h.1 low)

-- what is read at the end is never told too deep
whole_deep : (fs : List Frame) (t : Expression) → whole_tree_of fs t ≡ nested_deep → ⊥
whole_deep [] t h = cc
whole_deep (f ∷ fs) t h = cc

-- at the end of the signs nothing is too deep
end_deep : (fs : List Frame) (m : Mode) → finished (λ e. e) fs m ≡ nested_deep → ⊥
end_deep fs (HasOperand e) h =
    whole_deep (reduced (λ e. e) 0 fs e).frames (reduced (λ e. e) 0 fs e).tree h
end_deep fs _ h = cc

-- what was read so far, where that many brackets are open
record Stands (seen : List (List ℕ)) (fs : List Frame) (m : Mode) : Type 0 where
  count : open_in fs m ≡ open_brackets seen
  low : open_in fs m ≤ 128
  shallow : IsShallow 0 seen

-- one sign more with room for its brackets, and the count still holds
stands_on : (seen : List (List ℕ)) (w : List ℕ) (k : ℕ) (gs : List Frame) (n : Mode)
    → IsShallow 0 seen → k ≡ open_after (open_brackets seen) w → (open_in gs n ≡ k) × (k ≤ 128)
    → Stands (seen ++ w ∷ []) gs n
stands_on seen w k gs n h e o = let one = behind_one 0 seen w in let same = o.0 in let low = o.1 in
    record {
      count = omega arith;
      low = omega arith;
      shallow = shallow_one 0 seen w h (omega arith);
    }

-- what is told too deep opens too many brackets, by one step
deepens_by : (s : Step) (seen : List (List ℕ)) (w : List ℕ) (ws : List (List ℕ)) (k : ℕ)
    (next : List Frame → Mode → Read) → IsShallow 0 seen → k ≡ open_after (open_brackets seen) w
    → Opens 128 k s
    → ((gs : List Frame) (n : Mode) → Stands (seen ++ w ∷ []) gs n → next gs n ≡ nested_deep
    → Deepens ((seen ++ w ∷ []) ++ ws)) → follow s next ≡ nested_deep → Deepens (seen ++ w ∷ ws)
deepens_by (going gs n) seen w ws k next h e o more r =
    subst Deepens (append_assoc seen (w ∷ []) ws) (more gs n (stands_on seen w k gs n h e o) r)
deepens_by bad seen w ws k next h e o more r = absurd (cc)
deepens_by deep seen w ws k next h e o more r = let one = behind_one 0 seen w in
    record { front = seen; sign = w; rest = ws; parts = refl; before = h; over = omega arith }

-- and by all steps
deepens_from : (ws seen : List (List ℕ)) (fs : List Frame) (m : Mode) → Stands seen fs m
    → run (λ e. e) 128 fs m ws ≡ nested_deep → Deepens (seen ++ ws)
deepens_from [] seen fs m s r = absurd (end_deep fs m r)
deepens_from (w ∷ ws) seen fs m s r =
    deepens_by (step (λ e. e) 128 fs m w) seen w ws (open_after (open_in fs m) w)
    (λ gs n. run (λ e. e) 128 gs n ws) s.shallow (ap (λ n. open_after n w) s.count)
    (step_opens 128 fs m w s.low) (λ gs n t. deepens_from ws (seen ++ w ∷ []) gs n t) r

-- signs are too deep only where more than 128 brackets are open
pub deepens : (ws : List (List ℕ)) → read_signs ws ≡ nested_deep → Deepens ws
deepens ws r =
    deepens_from ws [] [] WantsOperand
    (record { count = refl; low = omega arith; shallow = omega arith }) r

-- the signs so far lead to what the reader holds
abbrev Leads : List (List ℕ) → List Frame → Mode → Type 0
Leads seen fs m = (more : List (List ℕ)) → read_signs (seen ++ more) ≡ run (λ e. e) 128 fs m more

-- one sign more that goes on, and they still lead to what the reader holds
leads_on : (seen : List (List ℕ)) (w : List ℕ) (fs gs : List Frame) (m n : Mode) → Leads seen fs m
    → step (λ e. e) 128 fs m w ≡ going gs n → Leads (seen ++ w ∷ []) gs n
leads_on seen w fs gs m n l e more =
    ap read_signs (append_assoc seen (w ∷ []) more) ∙ l (w ∷ more)
    ∙ ap (λ s. follow s (λ hs i. run (λ e. e) 128 hs i more)) e

-- behind a sign that may not stand there no signs make an expression
none_on : (seen : List (List ℕ)) (w : List ℕ) (fs : List Frame) (m : Mode) → Leads seen fs m
    → step (λ e. e) 128 fs m w ≡ bad → (more : List (List ℕ)) (e : Expression)
    → Writes (seen ++ w ∷ more) e → ⊥
none_on seen w fs m l b more e h =
    not_broken (seen ++ w ∷ more) e h.formed h.words
    (l (w ∷ more) ∙ ap (λ s. follow s (λ hs i. run (λ e. e) 128 hs i more)) b)

-- signs that are told broken break off, by one step
breaks_by : (s : Step) (seen : List (List ℕ)) (w : List ℕ) (ws : List (List ℕ)) (fs : List Frame)
    (m : Mode) → step (λ e. e) 128 fs m w ≡ s → Stands seen fs m → Leads seen fs m
    → Opens 128 (open_after (open_in fs m) w) s
    → ((gs : List Frame) (n : Mode) → Stands (seen ++ w ∷ []) gs n → Leads (seen ++ w ∷ []) gs n
    → run (λ e. e) 128 gs n ws ≡ broken → Breaks ((seen ++ w ∷ []) ++ ws))
    → follow s (λ gs n. run (λ e. e) 128 gs n ws) ≡ broken → Breaks (seen ++ w ∷ ws)
breaks_by (going gs n) seen w ws fs m e s l o more r =
    subst Breaks (append_assoc seen (w ∷ []) ws)
    (more gs n (stands_on seen w _ gs n s.shallow (ap (λ n. open_after n w) s.count) o)
    (leads_on seen w fs gs m n l e) r)
breaks_by bad seen w ws fs m e s l o more r =
    at_sign seen w ws refl s.shallow (none_on seen w fs m l e)
breaks_by deep seen w ws fs m e s l o more r = absurd (cc)

-- and by all steps
breaks_from : (ws seen : List (List ℕ)) (fs : List Frame) (m : Mode) → Stands seen fs m
    → Leads seen fs m → run (λ e. e) 128 fs m ws ≡ broken → Breaks (seen ++ ws)
breaks_from [] seen fs m s l r =
    subst Breaks (sym (append-nil seen))
    (at_end s.shallow
    (λ e h. not_broken seen e h.formed h.words (ap read_signs (sym (append-nil seen)) ∙ l [] ∙ r)))
breaks_from (w ∷ ws) seen fs m s l r =
    breaks_by (step (λ e. e) 128 fs m w) seen w ws fs m refl s l (step_opens 128 fs m w s.low)
    (λ gs n t k. breaks_from ws (seen ++ w ∷ []) gs n t k) r

-- signs that are broken break off before more than 128 brackets are open
pub breaks : (ws : List (List ℕ)) → read_signs ws ≡ broken → Breaks ws
breaks ws r =
    breaks_from ws [] [] WantsOperand
    (record { count = refl; low = omega arith; shallow = omega arith }) (λ more. refl) r
