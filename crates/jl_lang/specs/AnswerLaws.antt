-- The law of the answers: a value is proper, nests 64 deep at most and has a text of at most 2 ^ 20 bytes.
-- Machinery: nothing here need be believed.
use Rattle.std.specs.Prelude.{◌≡◌, ◌≤◌, ◌<◌, ◌^◌, ℕ, Bool, true, false, ◌&&◌, not, nat_lt, if◌then◌else◌, pos, List, [], ◌∷◌, ◌++◌, length, Option, Some, None, option_map, refl}
use Rattle.std.proofs.Common.{arith, sym, true≢false}
use Rattle.std.specs.Str.{bytes_eq, is_utf8, IsUtf8}
use Rattle.std.specs.List.{list_all}
use Rattle.std.proofs.lemmas.Str.{IsUtf8-from_is_utf8}
use Rattle.jl_text.specs.declared.limits.TheConstants.{MOST_TEXT_BYTES, MOST_VALUE_DEPTH}
use Rattle.jl_value.specs.Tree.{Tree, null, truth, whole, text, list, table, nesting, items_of, members_of}
use Rattle.jl_value.specs.Canonical.{text_of}
use Rattle.jl_value.specs.Key.{args_tree}
use Rattle.jl_value.specs.Proper.{IsProper, HasProper}
use Rattle.jl_value.specs.Library.{Answer, value, error, IsWithin}
use Rattle.jl_value.specs.declared.library.TaskError.TheVariants.{NoArgument, ExtraArgument, TooLong, TooDeep}
use Rattle.jl_lexer.specs.declared.operators.Operator.{Operator}
use Rattle.jl_lexer.specs.Signs.{is_digit}
use Rattle.jl_lexer.specs.Words.{is_number, number_behind, has_leading_zero, true_word, false_word, none_word, if_text, quoted_in, text_in, named_constant, constant_of, key_in}
use Rattle.jl_lexer.specs.Trees.{Expression, tall, leaf, bracketed, before, between, choice, index, call, span, list as listed, each, filtered, table as tabled, Members as Listing, no_members as none_listed, member as listing, Entries, no_entries, entry}
use Rattle.jl_module.specs.Headings.{LineReading, bad, good, definition_in}
use Rattle.jl_builtins.specs.declared.left_side.Settled.{Settled}
use Rattle.jl_builtins.specs.declared.left_side.Settled.TheVariants.{Known, Open, Wrong, Both}
use Rattle.jl_operands.specs.Steps.{Evaluated, done, failed}
use Rattle.jl_builtins.specs.Operations.{operation, prefixed, element_of, settle}
use Rattle.jl_builtins.specs.Calls.{range_of, call_value}
use Rattle.jl_builtins.specs.TableLaws.{key_good, IsTable, empty_table, entry_table}
use Rattle.jl_operands.specs.Lists.{source_of, with_entry}
use Rattle.jl_lang.specs.Meaning.{argument, named, word_value, truth_counted, settled, again, chosen, value_of, members_value, entries_value, limited, has_arguments, has_parameters, answered, answer_of}
use Rattle.jl_builtins.specs.ProperLaws.{IsProperRan, AllProper, counted_proper, then_proper, operated_proper, operation_proper, prefixed_proper, element_proper, range_proper, call_proper, all_items, all_more, source_proper, over_proper, each_proper, filtered_proper}

-- ---- what a word writes is proper

last_of : (a b : Bool) → (a && b) ≡ true → b ≡ true
last_of true b e = e
last_of false b e = absurd (true≢false (sym e))

is_below : (n : ℕ) → nat_lt n (2 ^ 63) ≡ true → n < 2 ^ 63
is_below n h = grind arith

number_limit : (w : List ℕ) → is_number w ≡ true → nat_lt (number_behind 0 w) (2 ^ 63) ≡ true
number_limit w h = last_of (not (has_leading_zero w)) (nat_lt (number_behind 0 w) (2 ^ 63)) (last_of (list_all is_digit w) (not (has_leading_zero w) && nat_lt (number_behind 0 w) (2 ^ 63)) (last_of (nat_lt 0 (length w)) (list_all is_digit w && (not (has_leading_zero w) && nat_lt (number_behind 0 w) (2 ^ 63))) h))

abbrev IfThere : Option Tree → Type 0
IfThere None = Unit {0}
IfThere (Some v) = IsProper v

there_if : (b : Bool) (v : Tree) (o : Option Tree) → (b ≡ true → IsProper v) → IfThere o → IfThere (if b then Some v else o)
there_if true v o h k = h refl
there_if false v o h k = k

abbrev IfText : Option (List ℕ) → Type 0
IfText None = Unit {0}
IfText (Some s) = IsUtf8 s

text_if : (b : Bool) (s : List ℕ) → (b ≡ true → IsUtf8 s) → IfText (if b then Some s else None)
text_if true s h = h refl
text_if false s h = tt

text_proper : (o : Option (List ℕ)) → IfText (if_text o)
text_proper None = tt
text_proper (Some s) = text_if (is_utf8 s) s (IsUtf8-from_is_utf8 s)

as_text : (o : Option (List ℕ)) → IfText o → IfThere (option_map text o)
as_text None h = tt
as_text (Some s) h = h

constant_proper : (w : List ℕ) → IfThere (constant_of w)
constant_proper w =
    there_if (is_number w) (whole (pos (number_behind 0 w))) (named_constant w) (λ h. is_below (number_behind 0 w) (number_limit w h))
    (there_if (bytes_eq w true_word) (truth true) _ (λ h. tt)
    (there_if (bytes_eq w false_word) (truth false) _ (λ h. tt)
    (there_if (bytes_eq w none_word) null _ (λ h. tt) (as_text (text_in w) (text_proper (quoted_in w))))))

-- each value that a name stands for is proper
abbrev AreNamed : List (List ℕ × Tree) → Type 0
AreNamed [] = Unit {0}
AreNamed (p ∷ ps) = IsProper p.1 × AreNamed ps

names_proper : (ps : List (List ℕ × Tree)) → HasProper (members_of ps) → AreNamed ps
names_proper [] h = tt
names_proper (p ∷ ps) h = (h.1, names_proper ps h.2)

argument_proper : (n : List ℕ) (ps : List (List ℕ × Tree)) → AreNamed ps → IfThere (argument n ps)
argument_proper n [] h = tt
argument_proper n (p ∷ ps) h = there_if (bytes_eq n p.0) p.1 (argument n ps) (λ e. h.0) (argument_proper n ps h.1)

named_proper : (n : ℕ) (o : Option Tree) → IfThere o → IsProperRan (named n o)
named_proper n None h = tt
named_proper n (Some v) h = counted_proper n v h

word_proper : (ps : List (List ℕ × Tree)) (w : List ℕ) (o : Option Tree) (n : ℕ) → AreNamed ps → IfThere o → IsProperRan (word_value ps w o n)
word_proper ps w (Some v) n h k = counted_proper n v k
word_proper ps w None n h k = named_proper n (argument w ps) (argument_proper w ps h)

truth_proper : (v : Tree) (n : ℕ) → IsProperRan (truth_counted v n)
truth_proper (truth b) n = counted_proper n (truth b) tt
truth_proper _ n = tt

settled_proper : (o : Operator) (v : Tree) (s : Settled) (n : ℕ) (right : ℕ → Evaluated) → IsProper v → ((m : ℕ) → IsProperRan (right m)) → IsProperRan (settled o v s n right)
settled_proper o v (Known b) n right h k = counted_proper n (truth b) tt
settled_proper o v Open n right h k = then_proper (right n) truth_counted (k n) (λ w m proper. truth_proper w m)
settled_proper o v Wrong n right h k = tt
settled_proper o v Both n right h k = then_proper (right n) _ (k n) (λ w m proper. operated_proper m (operation o v w) (operation_proper o v w h proper))

again_proper : (r : Evaluated) → IsProperRan r → IsProperRan (again r)
again_proper r h = then_proper r _ h (λ v n proper. counted_proper n v proper)

chosen_proper : (v : Tree) (n : ℕ) (first last : ℕ → Evaluated) → ((m : ℕ) → IsProperRan (first m)) → ((m : ℕ) → IsProperRan (last m)) → IsProperRan (chosen v n first last)
chosen_proper (truth true) n first last h k = again_proper (first n) (h n)
chosen_proper (truth false) n first last h k = again_proper (last n) (k n)
chosen_proper _ n first last h k = tt

mutual
  value_proper : (ps : List (List ℕ × Tree)) (e : Expression) (n : ℕ) → AreNamed ps → IsProperRan (value_of ps e n)
  value_proper ps tall n h = tt
  value_proper ps (leaf w) n h = word_proper ps w (constant_of w) n h (constant_proper w)
  value_proper ps (bracketed e) n h = value_proper ps e n h
  value_proper ps (before p e) n h = then_proper (value_of ps e n) _ (value_proper ps e n h) (λ v m proper. operated_proper m (prefixed p v) (prefixed_proper p v))
  value_proper ps (between o a b) n h = then_proper (value_of ps a n) _ (value_proper ps a n h) (λ v m proper. settled_proper o v (settle o v) m (value_of ps b) proper (λ k. value_proper ps b k h))
  value_proper ps (choice a c b) n h = then_proper (value_of ps c n) _ (value_proper ps c n h) (λ v m proper. chosen_proper v m (value_of ps a) (value_of ps b) (λ k. value_proper ps a k h) (λ k. value_proper ps b k h))
  value_proper ps (index a i) n h = then_proper (value_of ps a n) _ (value_proper ps a n h) (λ v m proper. then_proper (value_of ps i m) _ (value_proper ps i m h) (λ w k also. operated_proper k (element_of v w) (element_proper v w proper)))
  value_proper ps (call f e) n h = then_proper (value_of ps e n) _ (value_proper ps e n h) (λ v m proper. operated_proper m (call_value f v) (call_proper f v proper))
  value_proper ps (span a b) n h = then_proper (value_of ps a n) _ (value_proper ps a n h) (λ v m proper. then_proper (value_of ps b m) _ (value_proper ps b m h) (λ w k also. operated_proper k (range_of v w) (range_proper v w proper also)))
  value_proper ps (listed ms) n h = members_proper ps ms [] n h tt
  value_proper ps (each e x a) n h = then_proper (value_of ps a n) _ (value_proper ps a n h) (λ v m proper. over_proper (source_of v) _ (source_proper v proper) (λ us all. each_proper (λ u k. value_of ((x, u) ∷ ps) e k) us [] m all tt (λ u k also. value_proper ((x, u) ∷ ps) e k (also, h))))
  value_proper ps (filtered e x a c) n h = then_proper (value_of ps a n) _ (value_proper ps a n h) (λ v m proper. over_proper (source_of v) _ (source_proper v proper) (λ us all. filtered_proper (λ u k. value_of ((x, u) ∷ ps) c k) (λ u k. value_of ((x, u) ∷ ps) e k) us [] m all tt (λ u k also. value_proper ((x, u) ∷ ps) e k (also, h))))
  value_proper ps (tabled es) n h = entries_proper ps es [] n h empty_table

  members_proper : (ps : List (List ℕ × Tree)) (ms : Listing) (vs : List Tree) (n : ℕ) → AreNamed ps → AllProper vs → IsProperRan (members_value ps ms vs n)
  members_proper ps none_listed vs n h k = counted_proper n (list (items_of vs)) (all_items vs k)
  members_proper ps (listing e ms) vs n h k = then_proper (value_of ps e n) _ (value_proper ps e n h) (λ v m proper. members_proper ps ms (vs ++ v ∷ []) m h (all_more vs v k proper))

  entries_proper : (ps : List (List ℕ × Tree)) (es : Entries) (kvs : List (List ℕ × Tree)) (n : ℕ) → AreNamed ps → IsTable kvs → IsProperRan (entries_value ps es kvs n)
  entries_proper ps no_entries kvs n h k = counted_proper n (table (members_of kvs)) k
  entries_proper ps (entry w e es) kvs n h k = then_proper (value_of ps e n) _ (value_proper ps e n h) (λ v m proper. entries_proper ps es (with_entry (key_in w) v kvs) m h (entry_table (key_in w) v kvs (key_good w) proper k))

-- ---- the limits

not_over : (a b : ℕ) → nat_lt a b ≡ false → b ≤ a
not_over a b h = grind arith

limits_if : (deep long : Bool) (v : Tree) → IsProper v → (deep ≡ false → nesting v ≤ MOST_VALUE_DEPTH) → (long ≡ false → length (text_of v) ≤ MOST_TEXT_BYTES) → IsWithin (if deep then error TooDeep else (if long then error TooLong else value v))
limits_if true long v h p q = tt
limits_if false true v h p q = tt
limits_if false false v h p q = (h, p refl, q refl)

limited_within : (r : Evaluated) → IsProperRan r → IsWithin (limited r)
limited_within (done v n) h = limits_if (nat_lt MOST_VALUE_DEPTH (nesting v)) (nat_lt MOST_TEXT_BYTES (length (text_of v))) v h (not_over MOST_VALUE_DEPTH (nesting v)) (not_over MOST_TEXT_BYTES (length (text_of v)))
limited_within (failed e) h = tt

called_if : (a b : Bool) (r : Answer) → IsWithin r → IsWithin (if a then error NoArgument else (if b then error ExtraArgument else r))
called_if true b r h = tt
called_if false true r h = tt
called_if false false r h = h

answered_within : (r : LineReading) (ps : List (List ℕ × Tree)) → HasProper (members_of ps) → IsWithin (answered r ps)
answered_within (bad k) ps h = tt
answered_within (good d) ps h = called_if (not (has_arguments d.parameters ps)) (not (has_parameters d.parameters ps)) _ (limited_within (value_of ps d.body 0) (value_proper ps d.body 0 (names_proper ps h)))

pub answers_within : (c : List ℕ) (ps : List (List ℕ × Tree)) → IsProper (args_tree ps) → IsWithin (answer_of c ps)
answers_within c ps h = answered_within (definition_in c) ps h.1
