-- A reader that keeps no tree higher than 128 reads the same, but for those.
use Rattle.std.proofs.Common.{◌≡◌, ℕ, suc, ◌<◌, ◌≤◌, max, min, Bool, true, false, List, [], ◌∷◌}
use Rattle.std.proofs.Common.{◌++◌, Option, Some, None, refl, sym, ap, ap₂, ◌∙◌, arith, inl, inr}
use Rattle.std.specs.Prelude.{nat_le, nat_lt, if◌then◌else◌}
use Rattle.std.proofs.lemmas.Bool.{cases_lt}
use Rattle.jl_lexer.specs.declared.operators.Operator.{Operator}
use Rattle.jl_lexer.specs.declared.operators.Prefix.{Prefix}
use Rattle.jl_lexer.specs.declared.operators.Function.{Function}
use Rattle.jl_lexer.specs.declared.operators.Function.TheVariants.{Len}
use Rattle.jl_grammar.specs.declared.joint.Joint.{Joint}
use Rattle.jl_grammar.specs.declared.joint.Joint.TheVariants.{Infix, Opening, If, Else, For}
use Rattle.jl_grammar.specs.declared.joint.Joint.TheVariants.{Closing, Ending, Braced, Comma, Other}
use Rattle.jl_grammar.specs.Frames.{Frame, Bracket, Behind, Operand, Condition, Otherwise, Element}
use Rattle.jl_grammar.specs.Frames.{Member, Bound, Listed, Keyed, Source, Filter}
use Rattle.jl_grammar.specs.declared.mode.Mode.{Mode}
use Rattle.jl_grammar.specs.declared.mode.Mode.TheVariants.{WantsOperand, HasOperand, AfterFunction}
use Rattle.jl_grammar.specs.declared.mode.Mode.TheVariants.{WantsKey, WantsColon, WantsVariable}
use Rattle.jl_grammar.specs.declared.mode.Mode.TheVariants.{WantsIn}
use Rattle.jl_lexer.specs.Words.{is_leaf, is_identifier, is_key}
use Rattle.std.specs.Str.{bytes_eq}
use Rattle.jl_lexer.specs.Marks.{is_mark, in_word, prefix_of, function_of, own_level, left_level}
use Rattle.jl_lexer.specs.Marks.{prefix_level}
use Rattle.jl_lexer.specs.Trees.{Expression, tall, leaf, bracketed, before, between, choice, index}
use Rattle.jl_lexer.specs.Trees.{call, span, list, each, filtered, table, members_of}
use Rattle.jl_lexer.specs.Trees.{members_height, no_entries, entries_of, entries_height, height}
use Rattle.jl_lexer.specs.Trees.{kept}
use Rattle.jl_grammar.specs.Parser.{joint_of, wanted, is_bracket, depth, binds, with_last, Operands}
use Rattle.jl_grammar.specs.Parser.{reduced, Step, going, bad, deep, at_operand, at_opening}
use Rattle.jl_grammar.specs.Parser.{at_empty_close, at_table, with_bracket, at_prefix, at_operator}
use Rattle.jl_grammar.specs.Parser.{at_condition, top_is_source, at_filter, at_if, at_for, at_else}
use Rattle.jl_grammar.specs.Parser.{at_round_close, at_square_close, at_curly_close, at_bound}
use Rattle.jl_grammar.specs.Parser.{at_comma, at_function, at_empty_table, at_joint, step, Read}
use Rattle.jl_grammar.specs.Parser.{read, broken, nested_deep, whole_tree_of, finished, follow, run}

-- ---- what is kept of a tree

-- more than the most is told so
over : (n : ℕ) → 128 < n → nat_lt 128 n ≡ true
over n h = grind arith

-- and what is at most it is not
under : (n : ℕ) → n ≤ 128 → nat_lt 128 n ≡ false
under n h = grind arith

-- a tree that is too high is kept as one that is too high
pub kept_tall : (e : Expression) → 128 < height e → kept e ≡ tall
kept_tall e h = rw (over (height e) h)

-- and another as it is
pub kept_low : (e : Expression) → height e ≤ 128 → kept e ≡ e
kept_low e h = rw (under (height e) h)

-- by the test of its height: what is kept is as high as it, or one above the most
kept_if : (b : Bool) (e : Expression) → nat_lt 128 (height e) ≡ b
    → height (if b then tall else e) ≡ min (height e) 129
kept_if true e h = let high : 128 < height e = grind arith in omega arith
kept_if false e h = let low : height e ≤ 128 = grind arith in omega arith

-- what is kept of a tree is as high as it, or one above the most
pub kept_height : (e : Expression) → height (kept e) ≡ min (height e) 129
kept_height e = kept_if (nat_lt 128 (height e)) e refl

-- two trees that are both too high are kept as one
both_tall : (a b : Expression) → 128 < height a → 128 < height b → kept a ≡ kept b
both_tall a b h k = kept_tall a h ∙ sym (kept_tall b k)

-- a tree over what is kept of one is kept as the tree over it
kept_one : (f : Expression → Expression) → ((e : Expression) → height (f e) ≡ suc (height e))
    → (e : Expression) → kept (f (kept e)) ≡ kept (f e)
kept_one f hf e = elim (cases_lt 128 (height e)) [
  | inl high ↦ let x = hf e in let y = hf (kept e) in let z = kept_height e in
      both_tall (f (kept e)) (f e) (omega arith) (omega arith)
  | inr low ↦ ap (λ x. kept (f x)) (kept_low e low)
]

-- so is a tree over two
kept_two : (f : Expression → Expression → Expression)
    → ((a b : Expression) → height (f a b) ≡ suc (max (height a) (height b))) → (a b : Expression)
    → kept (f (kept a) (kept b)) ≡ kept (f a b)
kept_two f hf a b = elim (cases_lt 128 (max (height a) (height b))) [
  | inl high ↦ let x = hf a b in let y = hf (kept a) (kept b) in let z = kept_height a in
      let w = kept_height b in both_tall (f (kept a) (kept b)) (f a b) (omega arith) (omega arith)
  | inr low ↦ ap₂ (λ x y. kept (f x y)) (kept_low a (omega arith)) (kept_low b (omega arith))
]

-- a choice
kept_choice : (a c b : Expression) → kept (choice (kept a) (kept c) (kept b)) ≡ kept (choice a c b)
kept_choice a c b = elim (cases_lt 128 (max (height a) (max (height c) (height b)))) [
  | inl high ↦ let z = kept_height a in let w = kept_height b in let v = kept_height c in
      both_tall (choice (kept a) (kept c) (kept b)) (choice a c b) (omega arith) (omega arith)
  | inr low ↦ ap (λ x. kept (choice x (kept c) (kept b))) (kept_low a (omega arith))
      ∙ ap₂ (λ x y. kept (choice a x y)) (kept_low c (omega arith)) (kept_low b (omega arith))
]

-- and a list over the members of a list that meet a condition
kept_filtered : (m a c : Expression) (x : List ℕ)
    → kept (filtered (kept m) x (kept a) (kept c)) ≡ kept (filtered m x a c)
kept_filtered m a c x = elim (cases_lt 128 (max (height m) (max (height a) (height c)))) [
  | inl high ↦ let z = kept_height m in let w = kept_height a in let v = kept_height c in
      both_tall (filtered (kept m) x (kept a) (kept c)) (filtered m x a c) (omega arith)
      (omega arith)
  | inr low ↦ ap (λ y. kept (filtered y x (kept a) (kept c))) (kept_low m (omega arith))
      ∙ ap₂ (λ y z. kept (filtered m x y z)) (kept_low a (omega arith)) (kept_low c (omega arith))
]

-- ---- what is kept of members

-- what is kept of each member
abbrev pub cut_all : List Expression → List Expression
cut_all [] = []
cut_all (e ∷ es) = kept e ∷ cut_all es

-- what is kept of each value
abbrev pub cut_entries : List (List ℕ × Expression) → List (List ℕ × Expression)
cut_entries [] = []
cut_entries (p ∷ ps) = (p.0, kept p.1) ∷ cut_entries ps

-- one member more
cut_more : (es : List Expression) (e : Expression)
    → cut_all es ++ kept e ∷ [] ≡ cut_all (es ++ e ∷ [])
cut_more [] e = refl
cut_more (a ∷ es) e = ap (λ y. kept a ∷ y) (cut_more es e)

-- one entry more
entries_more : (ps : List (List ℕ × Expression)) (k : List ℕ) (e : Expression)
    → cut_entries ps ++ (k, kept e) ∷ [] ≡ cut_entries (ps ++ (k, e) ∷ [])
entries_more [] k e = refl
entries_more (p ∷ ps) k e = ap (λ y. (p.0, kept p.1) ∷ y) (entries_more ps k e)

-- the members that are kept are as high as the members, or one above the most
all_height : (es : List Expression)
    → members_height (members_of (cut_all es)) ≡ min (members_height (members_of es)) 129
all_height [] = omega arith
all_height (e ∷ es) = let x = kept_height e in let y = all_height es in omega arith

-- so are the values
entries_cut_height : (ps : List (List ℕ × Expression))
    → entries_height (entries_of (cut_entries ps)) ≡ min (entries_height (entries_of ps)) 129
entries_cut_height [] = omega arith
entries_cut_height (p ∷ ps) = let x = kept_height p.1 in let y = entries_cut_height ps in
    omega arith

-- members that are not too high are all kept
all_low : (es : List Expression) → members_height (members_of es) ≤ 128 → cut_all es ≡ es
all_low [] h = refl
all_low (e ∷ es) h = ap₂ (λ x y. x ∷ y) (kept_low e (omega arith)) (all_low es (omega arith))

-- so are values
entries_cut_low : (ps : List (List ℕ × Expression)) → entries_height (entries_of ps) ≤ 128
    → cut_entries ps ≡ ps
entries_cut_low [] h = refl
entries_cut_low (p ∷ ps) h =
    ap₂ (λ x y. (p.0, x) ∷ y) (kept_low p.1 (omega arith)) (entries_cut_low ps (omega arith))

-- a list over what is kept of its members is kept as the list over them
kept_list : (es : List Expression)
    → kept (list (members_of (cut_all es))) ≡ kept (list (members_of es))
kept_list es = elim (cases_lt 128 (members_height (members_of es))) [
  | inl high ↦ let x = all_height es in
      both_tall (list (members_of (cut_all es))) (list (members_of es)) (omega arith) (omega arith)
  | inr low ↦ ap (λ y. kept (list (members_of y))) (all_low es low)
]

-- and a table over its values
kept_table : (ps : List (List ℕ × Expression))
    → kept (table (entries_of (cut_entries ps))) ≡ kept (table (entries_of ps))
kept_table ps = elim (cases_lt 128 (entries_height (entries_of ps))) [
  | inl high ↦ let x = entries_cut_height ps in
      both_tall (table (entries_of (cut_entries ps))) (table (entries_of ps)) (omega arith)
      (omega arith)
  | inr low ↦ ap (λ y. kept (table (entries_of y))) (entries_cut_low ps low)
]

-- ---- what is kept of what waits

-- a frame, with what is kept of its trees
abbrev pub cut_frame : Frame → Frame
cut_frame Bracket = Bracket
cut_frame (Behind p) = Behind p
cut_frame (Operand o a) = Operand o (kept a)
cut_frame (Condition a) = Condition (kept a)
cut_frame (Otherwise a c) = Otherwise (kept a) (kept c)
cut_frame (Element a) = Element (kept a)
cut_frame (Member f) = Member f
cut_frame (Bound a) = Bound (kept a)
cut_frame (Listed es) = Listed (cut_all es)
cut_frame (Keyed es k) = Keyed (cut_entries es) k
cut_frame (Source m x) = Source (kept m) x
cut_frame (Filter m x a) = Filter (kept m) x (kept a)

-- all that waits
abbrev pub cut_frames : List Frame → List Frame
cut_frames [] = []
cut_frames (f ∷ fs) = cut_frame f ∷ cut_frames fs

-- what stands at the top
abbrev pub cut_mode : Mode → Mode
cut_mode WantsOperand = WantsOperand
cut_mode (HasOperand e) = HasOperand (kept e)
cut_mode (AfterFunction f) = AfterFunction f
cut_mode (WantsKey es) = WantsKey (cut_entries es)
cut_mode (WantsColon es k) = WantsColon (cut_entries es) k
cut_mode (WantsVariable m) = WantsVariable (kept m)
cut_mode (WantsIn m x) = WantsIn (kept m) x

-- what one sign makes
abbrev pub cut_step : Step → Step
cut_step (going fs m) = going (cut_frames fs) (cut_mode m)
cut_step bad = bad
cut_step deep = deep

-- what is read at the end
abbrev pub cut_read : Read → Read
cut_read (read e) = read (kept e)
cut_read broken = broken
cut_read nested_deep = nested_deep

-- what is left once operations are done
abbrev pub cut_operands : Operands → Operands
cut_operands r = record { frames = cut_frames r.frames; tree = kept r.tree }

-- it wants the same level
wanted_cut : (fs : List Frame) → wanted (cut_frames fs) ≡ wanted fs
wanted_cut (Bracket ∷ fs) = refl
wanted_cut _ = refl

-- it is a bracket just so
bracket_cut : (f : Frame) → is_bracket (cut_frame f) ≡ is_bracket f
bracket_cut Bracket = refl
bracket_cut _ = refl

-- as many brackets are open
depth_cut : (fs : List Frame) → depth (cut_frames fs) ≡ depth fs
depth_cut [] = refl
depth_cut (f ∷ fs) = ap₂ (λ b n. if b then suc n else n) (bracket_cut f) (depth_cut fs)

-- it binds just so
binds_cut : (l : ℕ) (f : Frame) → binds l (cut_frame f) ≡ binds l f
binds_cut l Bracket = refl
binds_cut l _ = refl

-- an operation with its last operand
operated_cut : (f : Frame) (e : Expression)
    → with_last kept (cut_frame f) (kept e) ≡ kept (with_last (λ e. e) f e)
operated_cut (Behind p) e = kept_one (before p) (λ e. refl) e
operated_cut (Operand o a) e = kept_two (between o) (λ a b. refl) a e
operated_cut (Otherwise a c) e = kept_choice a c e
operated_cut _ e = refl

-- by one test
operands_if : (b c : Bool) (x : Operands) (y z : Operands) → b ≡ c → x ≡ cut_operands y
    → (if b then x else cut_operands z) ≡ cut_operands (if c then y else z)
operands_if b true x y z e h = rw e h
operands_if b false x y z e h = rw e

-- the same operations are done
reduced_cut : (l : ℕ) (fs : List Frame) (e : Expression)
    → reduced kept l (cut_frames fs) (kept e) ≡ cut_operands (reduced (λ e. e) l fs e)
reduced_cut l [] e = refl
reduced_cut l (f ∷ fs) e =
    operands_if (binds l (cut_frame f)) (binds l f) _
    (reduced (λ e. e) l fs (with_last (λ e. e) f e)) (record { frames = f ∷ fs; tree = e })
    (binds_cut l f)
    (ap (reduced kept l (cut_frames fs)) (operated_cut f e)
    ∙ reduced_cut l fs (with_last (λ e. e) f e))

-- ---- one sign more

-- a step by one test
step_if : (b c : Bool) (s t x y : Step) → b ≡ c → s ≡ cut_step x → t ≡ cut_step y
    → (if b then s else t) ≡ cut_step (if c then x else y)
step_if b true s t x y e h k = rw e h
step_if b false s t x y e h k = rw e k

-- a bracket more
nested_cut : (room : ℕ) (f : Frame) (fs : List Frame)
    → with_bracket room (cut_frame f) (cut_frames fs) ≡ cut_step (with_bracket room f fs)
nested_cut room f fs =
    step_if (nat_lt (depth (cut_frames fs)) room) (nat_lt (depth fs) room) _ _
    (going (f ∷ fs) WantsOperand) deep (ap (λ n. nat_lt n room) (depth_cut fs)) refl refl

-- a prefix
prefixed_cut : (fs : List Frame) (o : Option Prefix)
    → at_prefix (cut_frames fs) o ≡ cut_step (at_prefix fs o)
prefixed_cut fs None = refl
prefixed_cut fs (Some p) =
    step_if (nat_le (wanted (cut_frames fs)) (prefix_level p)) (nat_le (wanted fs) (prefix_level p))
    _ _ (going (Behind p ∷ fs) WantsOperand) bad
    (ap (λ n. nat_le n (prefix_level p)) (wanted_cut fs)) refl refl

-- a function's name, or else a prefix
called_cut : (fs : List Frame) (o : Option Function) (p : Option Prefix)
    → at_function (cut_frames fs) o p ≡ cut_step (at_function fs o p)
called_cut fs None p = prefixed_cut fs p
called_cut fs (Some f) p = refl

-- `]` where a member is wanted
emptied_cut : (fs : List Frame) → at_empty_close (cut_frames fs) ≡ cut_step (at_empty_close fs)
emptied_cut (Listed [] ∷ fs) = refl
emptied_cut _ = refl

-- `{`
unkeyed_cut : (room : ℕ) (fs : List Frame)
    → at_table room (cut_frames fs) ≡ cut_step (at_table room fs)
unkeyed_cut room fs =
    step_if (nat_lt (depth (cut_frames fs)) room) (nat_lt (depth fs) room) _ _
    (going fs (WantsKey [])) deep (ap (λ n. nat_lt n room) (depth_cut fs)) refl refl

-- what opens an operand
opened_cut : (room : ℕ) (fs : List Frame) (w : List ℕ)
    → at_opening room (cut_frames fs) w ≡ cut_step (at_opening room fs w)
opened_cut room fs w =
    step_if (is_mark 40 w) (is_mark 40 w) _ _ (with_bracket room Bracket fs) _ refl
    (nested_cut room Bracket fs)
    (step_if (is_mark 91 w) (is_mark 91 w) _ _ (with_bracket room (Listed []) fs) _ refl
    (nested_cut room (Listed []) fs)
    (step_if (is_mark 93 w) (is_mark 93 w) _ _ (at_empty_close fs) _ refl (emptied_cut fs)
    (step_if (is_mark 123 w) (is_mark 123 w) _ _ (at_table room fs)
    (at_function fs (function_of w) (prefix_of w)) refl (unkeyed_cut room fs)
    (called_cut fs (function_of w) (prefix_of w)))))

-- any sign where an operand begins
begun_cut : (room : ℕ) (fs : List Frame) (w : List ℕ)
    → at_operand room (cut_frames fs) w ≡ cut_step (at_operand room fs w)
begun_cut room fs w =
    step_if (is_leaf w) (is_leaf w) _ _ (going fs (HasOperand (leaf w))) (at_opening room fs w) refl
    refl (opened_cut room fs w)

-- an operator behind an operand
infixed_cut : (o : Operator) (r : Operands)
    → at_operator o (cut_operands r) ≡ cut_step (at_operator o r)
infixed_cut o r =
    step_if (nat_le (wanted (cut_frames r.frames)) (own_level o))
    (nat_le (wanted r.frames) (own_level o)) _ _ (going (Operand o r.tree ∷ r.frames) WantsOperand)
    bad (ap (λ n. nat_le n (own_level o)) (wanted_cut r.frames)) refl refl

-- `if` behind an operand: a choice
conditioned_cut : (fs : List Frame) (e : Expression)
    → at_condition (cut_frames fs) (kept e) ≡ cut_step (at_condition fs e)
conditioned_cut fs e =
    step_if (nat_le (wanted (cut_frames fs)) 0) (nat_le (wanted fs) 0) _ _
    (going (Condition e ∷ fs) WantsOperand) bad (ap (λ n. nat_le n 0) (wanted_cut fs)) refl refl

-- `if` behind the list that a list goes over
picked_cut : (fs : List Frame) (e : Expression)
    → at_filter (cut_frames fs) (kept e) ≡ cut_step (at_filter fs e)
picked_cut (Bracket ∷ fs) e = refl
picked_cut _ e = refl

-- the list that a list goes over stands on top just so
source_cut : (fs : List Frame) → top_is_source (cut_frames fs) ≡ top_is_source fs
source_cut (Bracket ∷ fs) = refl
source_cut _ = refl

-- any `if`
asked_cut : (fs : List Frame) (e : Expression)
    → at_if (cut_frames fs) (kept e) ≡ cut_step (at_if fs e)
asked_cut fs e =
    step_if (top_is_source (cut_frames fs)) (top_is_source fs) _ _ (at_filter fs e)
    (at_condition fs e) (source_cut fs) (picked_cut fs e) (conditioned_cut fs e)

-- `for`
looped_cut : (fs : List Frame) (e : Expression)
    → at_for (cut_frames fs) (kept e) ≡ cut_step (at_for fs e)
looped_cut (Listed [] ∷ fs) e = refl
looped_cut _ e = refl

-- `else`
elsed_cut : (fs : List Frame) (e : Expression)
    → at_else (cut_frames fs) (kept e) ≡ cut_step (at_else fs e)
elsed_cut (Bracket ∷ fs) e = refl
elsed_cut _ e = refl

-- `)`
closed_cut : (fs : List Frame) (e : Expression)
    → at_round_close kept (cut_frames fs) (kept e) ≡ cut_step (at_round_close (λ e. e) fs e)
closed_cut (Bracket ∷ fs) e =
    ap (λ t. going (cut_frames fs) (HasOperand t)) (kept_one bracketed (λ e. refl) e)
closed_cut (Member f ∷ fs) e =
    ap (λ t. going (cut_frames fs) (HasOperand t)) (kept_one (call f) (λ e. refl) e)
closed_cut (Bound a ∷ fs) e =
    ap (λ t. going (cut_frames fs) (HasOperand t)) (kept_two span (λ a b. refl) a e)
closed_cut _ e = refl

-- `]` behind an operand
ended_cut : (fs : List Frame) (e : Expression)
    → at_square_close kept (cut_frames fs) (kept e) ≡ cut_step (at_square_close (λ e. e) fs e)
ended_cut (Listed es ∷ fs) e =
    ap (λ t. going (cut_frames fs) (HasOperand t))
    (ap (λ y. kept (list (members_of y))) (cut_more es e) ∙ kept_list (es ++ e ∷ []))
ended_cut (Source m x ∷ fs) e =
    ap (λ t. going (cut_frames fs) (HasOperand t)) (kept_two (λ a b. each a x b) (λ a b. refl) m e)
ended_cut (Filter m x a ∷ fs) e =
    ap (λ t. going (cut_frames fs) (HasOperand t)) (kept_filtered m a e x)
ended_cut (Element a ∷ fs) e =
    ap (λ t. going (cut_frames fs) (HasOperand t)) (kept_two index (λ a b. refl) a e)
ended_cut _ e = refl

-- `}`
braced_cut : (fs : List Frame) (e : Expression)
    → at_curly_close kept (cut_frames fs) (kept e) ≡ cut_step (at_curly_close (λ e. e) fs e)
braced_cut (Keyed es k ∷ fs) e =
    ap (λ t. going (cut_frames fs) (HasOperand t))
    (ap (λ y. kept (table (entries_of y))) (entries_more es k e) ∙ kept_table (es ++ (k, e) ∷ []))
braced_cut _ e = refl

-- `,` behind the first member of a function
member_cut : (f : Function) (fs : List Frame) (e : Expression)
    → at_bound f (cut_frames fs) (kept e) ≡ cut_step (at_bound f fs e)
member_cut Len fs e = refl
member_cut _ fs e = refl

-- `,` behind a member
parted_cut : (fs : List Frame) (e : Expression)
    → at_comma (cut_frames fs) (kept e) ≡ cut_step (at_comma fs e)
parted_cut (Member f ∷ fs) e = member_cut f fs e
parted_cut (Listed es ∷ fs) e =
    ap (λ y. going (Listed y ∷ cut_frames fs) WantsOperand) (cut_more es e)
parted_cut (Keyed es k ∷ fs) e = ap (λ y. going (cut_frames fs) (WantsKey y)) (entries_more es k e)
parted_cut _ e = refl

-- any sign behind an operand
gone_cut : (room : ℕ) (fs : List Frame) (e : Expression) (j : Joint)
    → at_joint kept room (cut_frames fs) (kept e) j ≡ cut_step (at_joint (λ e. e) room fs e j)
gone_cut room fs e (Infix o) =
    ap (at_operator o) (reduced_cut (left_level o) fs e)
    ∙ infixed_cut o (reduced (λ e. e) (left_level o) fs e)
gone_cut room fs e Opening = nested_cut room (Element e) fs
gone_cut room fs e If =
    ap (λ (r : Operands). at_if r.frames r.tree) (reduced_cut 1 fs e)
    ∙ asked_cut (reduced (λ e. e) 1 fs e).frames (reduced (λ e. e) 1 fs e).tree
gone_cut room fs e Else =
    ap (λ (r : Operands). at_else r.frames r.tree) (reduced_cut 1 fs e)
    ∙ elsed_cut (reduced (λ e. e) 1 fs e).frames (reduced (λ e. e) 1 fs e).tree
gone_cut room fs e For =
    ap (λ (r : Operands). at_for r.frames r.tree) (reduced_cut 0 fs e)
    ∙ looped_cut (reduced (λ e. e) 0 fs e).frames (reduced (λ e. e) 0 fs e).tree
gone_cut room fs e Closing =
    ap (λ (r : Operands). at_round_close kept r.frames r.tree) (reduced_cut 0 fs e)
    ∙ closed_cut (reduced (λ e. e) 0 fs e).frames (reduced (λ e. e) 0 fs e).tree
gone_cut room fs e Ending =
    ap (λ (r : Operands). at_square_close kept r.frames r.tree) (reduced_cut 0 fs e)
    ∙ ended_cut (reduced (λ e. e) 0 fs e).frames (reduced (λ e. e) 0 fs e).tree
gone_cut room fs e Braced =
    ap (λ (r : Operands). at_curly_close kept r.frames r.tree) (reduced_cut 0 fs e)
    ∙ braced_cut (reduced (λ e. e) 0 fs e).frames (reduced (λ e. e) 0 fs e).tree
gone_cut room fs e Comma =
    ap (λ (r : Operands). at_comma r.frames r.tree) (reduced_cut 0 fs e)
    ∙ parted_cut (reduced (λ e. e) 0 fs e).frames (reduced (λ e. e) 0 fs e).tree
gone_cut room fs e Other = refl

-- `}` where a key is wanted
no_key_cut : (fs : List Frame) (es : List (List ℕ × Expression)) (w : List ℕ)
    → at_empty_table (cut_frames fs) (cut_entries es) w ≡ cut_step (at_empty_table fs es w)
no_key_cut fs [] w =
    step_if (is_mark 125 w) (is_mark 125 w) _ _ (going fs (HasOperand (table no_entries))) bad refl
    refl refl
no_key_cut fs (p ∷ ps) w = refl

-- one sign more, whatever is read next
step_cut : (room : ℕ) (fs : List Frame) (m : Mode) (w : List ℕ)
    → step kept room (cut_frames fs) (cut_mode m) w ≡ cut_step (step (λ e. e) room fs m w)
step_cut room fs WantsOperand w = begun_cut room fs w
step_cut room fs (AfterFunction f) w =
    step_if (is_mark 40 w) (is_mark 40 w) _ _ (with_bracket room (Member f) fs) bad refl
    (nested_cut room (Member f) fs) refl
step_cut room fs (WantsKey es) w =
    step_if (is_key w) (is_key w) _ _ (going fs (WantsColon es w)) (at_empty_table fs es w) refl
    refl (no_key_cut fs es w)
step_cut room fs (WantsColon es k) w =
    step_if (is_mark 58 w) (is_mark 58 w) _ _ (with_bracket room (Keyed es k) fs) bad refl
    (nested_cut room (Keyed es k) fs) refl
step_cut room fs (WantsVariable m) w =
    step_if (is_identifier w) (is_identifier w) _ _ (going fs (WantsIn m w)) bad refl refl refl
step_cut room fs (WantsIn m x) w =
    step_if (bytes_eq w in_word) (bytes_eq w in_word) _ _ (with_bracket room (Source m x) fs) bad
    refl (nested_cut room (Source m x) fs) refl
step_cut room fs (HasOperand e) w = gone_cut room fs e (joint_of w)

-- ---- all signs

-- what is read once nothing waits
whole_cut : (fs : List Frame) (e : Expression)
    → whole_tree_of (cut_frames fs) (kept e) ≡ cut_read (whole_tree_of fs e)
whole_cut [] e = refl
whole_cut (f ∷ fs) e = refl

-- what is read at the end
finished_cut : (fs : List Frame) (m : Mode)
    → finished kept (cut_frames fs) (cut_mode m) ≡ cut_read (finished (λ e. e) fs m)
finished_cut fs (HasOperand e) =
    ap (λ (r : Operands). whole_tree_of r.frames r.tree) (reduced_cut 0 fs e)
    ∙ whole_cut (reduced (λ e. e) 0 fs e).frames (reduced (λ e. e) 0 fs e).tree
finished_cut fs _ = refl

-- what the signs behind one step make
follow_cut : (s : Step) (f g : List Frame → Mode → Read)
    → ((gs : List Frame) (n : Mode) → f (cut_frames gs) (cut_mode n) ≡ cut_read (g gs n))
    → follow (cut_step s) f ≡ cut_read (follow s g)
follow_cut (going gs n) f g h = h gs n
follow_cut bad f g h = refl
follow_cut deep f g h = refl

-- A run that keeps each tree cut off above the most height reads what the run over whole trees
-- does, cut off so.
run_cut : (room : ℕ) (fs : List Frame) (m : Mode) (ws : List (List ℕ))
    → run kept room (cut_frames fs) (cut_mode m) ws ≡ cut_read (run (λ e. e) room fs m ws)
run_cut room fs m [] = finished_cut fs m
run_cut room fs m (w ∷ ws) =
    ap (λ s. follow s (λ gs n. run kept room gs n ws)) (step_cut room fs m w)
    ∙ follow_cut (step (λ e. e) room fs m w) _ _ (λ gs n. run_cut room gs n ws)

-- what is read, where no tree higher than 128 is kept
pub keeps : (room : ℕ) (ws : List (List ℕ))
    → run kept room [] WantsOperand ws ≡ cut_read (run (λ e. e) room [] WantsOperand ws)
keeps room ws = run_cut room [] WantsOperand ws

-- the same, from the first sign on
abbrev pub kept_read : List (List ℕ) → Read
kept_read ws = run kept 128 [] WantsOperand ws
