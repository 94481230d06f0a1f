-- How the logic stores an expression.
use Rattle.std.proofs.Common.{◌≡◌, ℕ, zero, suc, List, refl, ap}
use Rattle.std.specs.Coded.{Coded, code_by, coded×, coded_ℕ, coded_list}
use base.Stored.{Gv, gnil, gnum, gcons}
use Rattle.jl_value.specs.Stored.{coded_stored, stored_number, codes_code, stored_codes, codes_back}
use Rattle.jl_lexer.specs.declared.operators.Operator.{Operator}
use Rattle.jl_lexer.specs.declared.operators.Operator.TheVariants.{Or, And, Equal, Unequal, Less, AtMost, Greater, AtLeast, Plus, Minus, Times, Quotient, Remainder}
use Rattle.jl_lexer.specs.declared.operators.Prefix.{Prefix}
use Rattle.jl_lexer.specs.declared.operators.Prefix.TheVariants.{Not, Negative}
use Rattle.jl_lexer.specs.declared.operators.Function.{Function}
use Rattle.jl_lexer.specs.declared.operators.Function.TheVariants.{Len, Sum, Min, Max, Range, Array}
use Rattle.jl_lexer.specs.Trees.{Expression, tall, leaf, bracketed, before, between, choice, index, call, span, list, each, filtered, table, Members, no_members, member, Entries, no_entries, entry}

abbrev pub operator_number : Operator → ℕ
operator_number Or = 0
operator_number And = 1
operator_number Equal = 2
operator_number Unequal = 3
operator_number Less = 4
operator_number AtMost = 5
operator_number Greater = 6
operator_number AtLeast = 7
operator_number Plus = 8
operator_number Minus = 9
operator_number Times = 10
operator_number Quotient = 11
operator_number Remainder = 12

abbrev pub operator_at : ℕ → Operator
operator_at zero = Or
operator_at (suc zero) = And
operator_at (suc (suc zero)) = Equal
operator_at (suc (suc (suc zero))) = Unequal
operator_at (suc (suc (suc (suc zero)))) = Less
operator_at (suc (suc (suc (suc (suc zero))))) = AtMost
operator_at (suc (suc (suc (suc (suc (suc zero)))))) = Greater
operator_at (suc (suc (suc (suc (suc (suc (suc zero))))))) = AtLeast
operator_at (suc (suc (suc (suc (suc (suc (suc (suc zero)))))))) = Plus
operator_at (suc (suc (suc (suc (suc (suc (suc (suc (suc zero))))))))) = Minus
operator_at (suc (suc (suc (suc (suc (suc (suc (suc (suc (suc zero)))))))))) = Times
operator_at (suc (suc (suc (suc (suc (suc (suc (suc (suc (suc (suc zero))))))))))) = Quotient
operator_at (suc (suc (suc (suc (suc (suc (suc (suc (suc (suc (suc (suc n)))))))))))) = Remainder

pub operator_back : (o : Operator) → operator_at (operator_number o) ≡ o
operator_back Or = refl
operator_back And = refl
operator_back Equal = refl
operator_back Unequal = refl
operator_back Less = refl
operator_back AtMost = refl
operator_back Greater = refl
operator_back AtLeast = refl
operator_back Plus = refl
operator_back Minus = refl
operator_back Times = refl
operator_back Quotient = refl
operator_back Remainder = refl

abbrev coded_operator : Coded Operator
coded_operator = code_by ℕ coded_ℕ operator_number operator_at operator_back

abbrev pub prefix_number : Prefix → ℕ
prefix_number Not = 0
prefix_number Negative = 1

abbrev pub prefix_at : ℕ → Prefix
prefix_at zero = Not
prefix_at (suc n) = Negative

pub prefix_back : (o : Prefix) → prefix_at (prefix_number o) ≡ o
prefix_back Not = refl
prefix_back Negative = refl

abbrev coded_prefix : Coded Prefix
coded_prefix = code_by ℕ coded_ℕ prefix_number prefix_at prefix_back

abbrev pub function_number : Function → ℕ
function_number Len = 0
function_number Sum = 1
function_number Min = 2
function_number Max = 3
function_number Range = 4
function_number Array = 5

abbrev pub function_at : ℕ → Function
function_at zero = Len
function_at (suc zero) = Sum
function_at (suc (suc zero)) = Min
function_at (suc (suc (suc zero))) = Max
function_at (suc (suc (suc (suc zero)))) = Range
function_at (suc (suc (suc (suc (suc n))))) = Array

pub function_back : (o : Function) → function_at (function_number o) ≡ o
function_back Len = refl
function_back Sum = refl
function_back Min = refl
function_back Max = refl
function_back Range = refl
function_back Array = refl

abbrev coded_function : Coded Function
coded_function = code_by ℕ coded_ℕ function_number function_at function_back

abbrev mutual
  -- a tag for each form, and then its parts
  pub expression_code : Expression → Gv
  expression_code tall = gcons (gnum 0) gnil
  expression_code (leaf w) = gcons (gnum 1) (codes_code w)
  expression_code (bracketed e) = gcons (gnum 2) (expression_code e)
  expression_code (before p e) = gcons (gnum 3) (gcons (coded_prefix.code p) (expression_code e))
  expression_code (between o a b) = gcons (gnum 4) (gcons (coded_operator.code o) (gcons (expression_code a) (expression_code b)))
  expression_code (choice a c b) = gcons (gnum 5) (gcons (expression_code a) (gcons (expression_code c) (expression_code b)))
  expression_code (index a b) = gcons (gnum 6) (gcons (expression_code a) (expression_code b))
  expression_code (call f e) = gcons (gnum 7) (gcons (coded_function.code f) (expression_code e))
  expression_code (span a b) = gcons (gnum 8) (gcons (expression_code a) (expression_code b))
  expression_code (list es) = gcons (gnum 9) (members_code es)
  expression_code (each e x s) = gcons (gnum 10) (gcons (expression_code e) (gcons (codes_code x) (expression_code s)))
  expression_code (filtered e x s c) = gcons (gnum 11) (gcons (expression_code e) (gcons (codes_code x) (gcons (expression_code s) (expression_code c))))
  expression_code (table es) = gcons (gnum 12) (entries_code es)

  pub members_code : Members → Gv
  members_code no_members = gcons (gnum 0) gnil
  members_code (member e es) = gcons (gnum 1) (gcons (expression_code e) (members_code es))

  pub entries_code : Entries → Gv
  entries_code no_entries = gcons (gnum 0) gnil
  entries_code (entry k e es) = gcons (gnum 1) (gcons (codes_code k) (gcons (expression_code e) (entries_code es)))

abbrev mutual
  -- the expression that is stored
  pub stored_expression : Gv → Expression
  stored_expression (gcons (gnum (suc zero)) w) = leaf (stored_codes w)
  stored_expression (gcons (gnum (suc (suc zero))) e) = bracketed (stored_expression e)
  stored_expression (gcons (gnum (suc (suc (suc zero)))) (gcons p e)) = before (prefix_at (stored_number p)) (stored_expression e)
  stored_expression (gcons (gnum (suc (suc (suc (suc zero))))) (gcons o (gcons a b))) = between (operator_at (stored_number o)) (stored_expression a) (stored_expression b)
  stored_expression (gcons (gnum (suc (suc (suc (suc (suc zero)))))) (gcons a (gcons c b))) = choice (stored_expression a) (stored_expression c) (stored_expression b)
  stored_expression (gcons (gnum (suc (suc (suc (suc (suc (suc zero))))))) (gcons a b)) = index (stored_expression a) (stored_expression b)
  stored_expression (gcons (gnum (suc (suc (suc (suc (suc (suc (suc zero)))))))) (gcons f e)) = call (function_at (stored_number f)) (stored_expression e)
  stored_expression (gcons (gnum (suc (suc (suc (suc (suc (suc (suc (suc zero))))))))) (gcons a b)) = span (stored_expression a) (stored_expression b)
  stored_expression (gcons (gnum (suc (suc (suc (suc (suc (suc (suc (suc (suc zero)))))))))) es) = list (stored_members es)
  stored_expression (gcons (gnum (suc (suc (suc (suc (suc (suc (suc (suc (suc (suc zero))))))))))) (gcons e (gcons x s))) = each (stored_expression e) (stored_codes x) (stored_expression s)
  stored_expression (gcons (gnum (suc (suc (suc (suc (suc (suc (suc (suc (suc (suc (suc zero)))))))))))) (gcons e (gcons x (gcons s c)))) = filtered (stored_expression e) (stored_codes x) (stored_expression s) (stored_expression c)
  stored_expression (gcons (gnum (suc (suc (suc (suc (suc (suc (suc (suc (suc (suc (suc (suc n))))))))))))) es) = table (stored_entries es)
  stored_expression _ = tall

  pub stored_members : Gv → Members
  stored_members (gcons (gnum (suc n)) (gcons e es)) = member (stored_expression e) (stored_members es)
  stored_members _ = no_members

  pub stored_entries : Gv → Entries
  stored_entries (gcons (gnum (suc n)) (gcons k (gcons e es))) = entry (stored_codes k) (stored_expression e) (stored_entries es)
  stored_entries _ = no_entries

mutual
  pub expression_back : (e : Expression) → stored_expression (expression_code e) ≡ e
  expression_back tall = refl
  expression_back (leaf w) = ap leaf (codes_back w)
  expression_back (bracketed e) = ap bracketed (expression_back e)
  expression_back (before p e) = λ i. before (prefix_back p i) (expression_back e i)
  expression_back (between o a b) = λ i. between (operator_back o i) (expression_back a i) (expression_back b i)
  expression_back (choice a c b) = λ i. choice (expression_back a i) (expression_back c i) (expression_back b i)
  expression_back (index a b) = λ i. index (expression_back a i) (expression_back b i)
  expression_back (call f e) = λ i. call (function_back f i) (expression_back e i)
  expression_back (span a b) = λ i. span (expression_back a i) (expression_back b i)
  expression_back (list es) = ap list (members_back es)
  expression_back (each e x s) = λ i. each (expression_back e i) (codes_back x i) (expression_back s i)
  expression_back (filtered e x s c) = λ i. filtered (expression_back e i) (codes_back x i) (expression_back s i) (expression_back c i)
  expression_back (table es) = ap table (entries_back es)

  pub members_back : (es : Members) → stored_members (members_code es) ≡ es
  members_back no_members = refl
  members_back (member e es) = λ i. member (expression_back e i) (members_back es i)

  pub entries_back : (es : Entries) → stored_entries (entries_code es) ≡ es
  entries_back no_entries = refl
  entries_back (entry k e es) = λ i. entry (codes_back k i) (expression_back e i) (entries_back es i)

abbrev pub coded_expression : Coded Expression
coded_expression = code_by Gv coded_stored expression_code stored_expression expression_back

abbrev pub coded_expressions : Coded (List Expression)
coded_expressions = coded_list coded_expression

abbrev pub coded_entry : Coded (List ℕ × Expression)
coded_entry = coded× (coded_list coded_ℕ) coded_expression

abbrev pub coded_entries : Coded (List (List ℕ × Expression))
coded_entries = coded_list coded_entry
