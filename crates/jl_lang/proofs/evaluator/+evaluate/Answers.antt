use Rattle.std.proofs.Common.{◌∷◌, drop, get_or, sym, ap, ◌∙◌, arith, rules, w64}
use Rattle.std.specs.Prelude.{pos}
use Rattle.std.proofs.lemmas.Grind.{common_steps}
use Rattle.std.proofs.lemmas.Int.{to_z-of_z, ints}
use Rattle.jl_value.specs.Tree.{whole}
use Rattle.jl_operands.specs.Lists.{wholes}
use Rattle.jl_value.specs.Form.{tree_of, trees_of}
use Rattle.jl_lexer.specs.Trees.{height, entries_of}
use Rattle.jl_lexer.specs.Words.{key_in}
use Rattle.jl_lexer.proofs.HeightLemmas.{member_height, entry_height}
use Rattle.jl_operands.specs.Steps.{done}
use Rattle.jl_operands.specs.Operands.{tree_of_operand, trees_gathered}
use Rattle.jl_operands.specs.Outcomes.{pairs_in}
use Rattle.jl_builtins.proofs.TableLemmas.{no_keys}
use Rattle.jl_lang.specs.Meaning.{value_of, entries_value}
use Rattle.jl_lang.specs.Scopes.{scope_of}
use Rattle.jl_lang.proofs.EachLemmas.{each_answer, filtered_answer}
use Rattle.jl_lang.proofs.EntryLemmas.{keys_with, entry_more}
use Rattle.jl_lang.proofs.OverLemmas.{next_value, next_number, taken_by, filtered_more, filtered_left}
use Rattle.jl_lang.proofs.evaluator.+evaluate.Goals as goal

pub list_value-evaluate-requires : goal.list_value-evaluate-requires
list_value-evaluate-requires t c =
    let low = member_height c.args.members.now c.loop-member.member-index c.member-item.result c.loop-member-test.true c.member-item.is in
    omega arith

pub table_value-evaluate-requires : goal.table_value-evaluate-requires
table_value-evaluate-requires t c =
    let low = entry_height c.args.entries.now c.loop-entry.entry-index c.entry-item.result c.loop-entry-test.true c.entry-item.is in
    omega (arith, ap height c.member.ensures)

pub filter_over_values-returns-in_err-more : goal.filter_over_values-returns-in_err-more
filter_over_values-returns-in_err-more t c =
    filtered_left c.from_residual.result c.in_err-more.field-0.0
    (λ u k. value_of ((c.args.variable.now, u) ∷ scope_of c.args.scope.now) c.args.condition.now k)
    (λ u k. value_of ((c.args.variable.now, u) ∷ scope_of c.args.scope.now) c.args.member.now k)
    (trees_of (drop c.loop-item.item-index c.args.items.now)) _ (tree_of c.item-item.result) (trees_gathered c.loop-item.values) c.loop-item.steps _
    c.from_residual.ensures.1 (next_value c.args.items.now c.loop-item.item-index c.item-item.result c.loop-item-test.true c.item-item.is) c.loop-item.invariant c.in_err-more.ensures

pub filter_over_values-loop-item-preserved : goal.filter_over_values-loop-item-preserved
filter_over_values-loop-item-preserved t c =
    filtered_more
    (λ u k. value_of ((c.args.variable.now, u) ∷ scope_of c.args.scope.now) c.args.condition.now k)
    (λ u k. value_of ((c.args.variable.now, u) ∷ scope_of c.args.scope.now) c.args.member.now k)
    (trees_of (drop c.loop-item.item-index c.args.items.now)) _ (tree_of c.item-item.result) (trees_gathered c.loop-item.values) c.loop-item.steps c.in_ok-more.more _
    (next_value c.args.items.now c.loop-item.item-index c.item-item.result c.loop-item-test.true c.item-item.is) c.loop-item.invariant c.in_ok-more.ensures

pub take_number-returns : goal.take_number-returns
take_number-returns t c =
    taken_by c.take_member.result
    (λ z k. value_of ((c.args.variable.now, whole z) ∷ scope_of c.args.scope.now) c.args.condition.now k)
    (λ z k. value_of ((c.args.variable.now, whole z) ∷ scope_of c.args.scope.now) c.args.member.now k)
    (trees_gathered c.args.so_far.values) c.args.so_far.steps _ c.args.number (to_z-of_z w64 c.args.number c.ranges.number) c.take_member.ensures

pub filter_over_numbers-returns-in_err-taken : goal.filter_over_numbers-returns-in_err-taken
filter_over_numbers-returns-in_err-taken t c =
    let same = to_z-of_z w64 (get_or c.args.numbers.now c.loop-number.number-index (pos 0)) (first_of (omega (arith, ints), first_of (search rules, grind (arith, common_steps)))) in
    filtered_left c.from_residual.result c.in_err-taken.field-0.0
    (λ u k. value_of ((c.args.variable.now, u) ∷ scope_of c.args.scope.now) c.args.condition.now k)
    (λ u k. value_of ((c.args.variable.now, u) ∷ scope_of c.args.scope.now) c.args.member.now k)
    (wholes (drop c.loop-number.number-index c.args.numbers.now)) _ _ (trees_gathered c.loop-number.taken.values) c.loop-number.taken.steps _
    c.from_residual.ensures.1 (next_number c.args.numbers.now c.loop-number.number-index (pos 0) _ c.loop-number-test.true same) c.loop-number.invariant c.in_err-taken.ensures

pub filter_over_numbers-loop-number-preserved : goal.filter_over_numbers-loop-number-preserved
filter_over_numbers-loop-number-preserved t c =
    let same = to_z-of_z w64 (get_or c.args.numbers.now c.loop-number.number-index (pos 0)) (first_of (omega (arith, ints), first_of (search rules, grind (arith, common_steps)))) in
    filtered_more
    (λ u k. value_of ((c.args.variable.now, u) ∷ scope_of c.args.scope.now) c.args.condition.now k)
    (λ u k. value_of ((c.args.variable.now, u) ∷ scope_of c.args.scope.now) c.args.member.now k)
    (wholes (drop c.loop-number.number-index c.args.numbers.now)) _ _ (trees_gathered c.loop-number.taken.values) c.loop-number.taken.steps c.in_ok-taken.taken _
    (next_number c.args.numbers.now c.loop-number.number-index (pos 0) _ c.loop-number-test.true same) c.loop-number.invariant c.in_ok-taken.ensures

pub table_value-loop-entry-init : goal.table_value-loop-entry-init
table_value-loop-entry-init t c = (
  no_keys c.new-members.result.entries c.new-members.ensures.empty,
  ap (λ es. entries_value (scope_of c.args.scope.now) (entries_of c.args.entries.now) (pairs_in es) c.args.start) c.new-members.ensures.empty,
)

pub table_value-loop-entry-preserved : goal.table_value-loop-entry-preserved
table_value-loop-entry-preserved t c =
    let text = c.into_string.ensures ∙ c.in_ok-copy.ensures in
    let named = ap key_in (sym c.key.ensures) ∙ c.text.ensures in
    let made =
    ap (λ e. value_of (scope_of c.args.scope.now) e c.loop-entry.steps) (sym c.member.ensures)
    ∙ c.in_ok-value.ensures
    ∙ ap (λ u. done u c.in_ok-value.value.steps) (sym c.in_ok-member.ensures) in (
      keys_with c.loop-entry.members.entries c.insert.new.self.entries c.into_string.result
          c.in_ok-member.member c.entry-item.result.0 c.text.result.now
          c.in_ok-insert.ensures.entries text named c.loop-entry.invariant.0,
      entry_more (scope_of c.args.scope.now) c.args.entries.now c.loop-entry.entry-index
          c.entry-item.result c.loop-entry.members.entries c.insert.new.self.entries
          c.into_string.result c.in_ok-member.member c.loop-entry.steps c.in_ok-value.value.steps
          c.text.result.now _ c.loop-entry-test.true c.entry-item.is
          c.in_ok-insert.ensures.entries text named made c.loop-entry.invariant.1,
    )

pub list_of_each-returns : goal.list_of_each-returns
list_of_each-returns t c =
    each_answer c.list_over.result (scope_of c.args.scope.now) c.args.member.now c.args.over.now c.args.variable.now c.bytes.result.now
    c.args.steps c.in_ok-over.over.steps (tree_of_operand c.in_ok-over.over.value) (trees_gathered c.in_ok-items.items)
    c.bytes.ensures c.in_ok-over.ensures c.in_ok-items.ensures c.list_over.ensures

pub list_of_some-returns : goal.list_of_some-returns
list_of_some-returns t c =
    filtered_answer c.filter_over.result (scope_of c.args.scope.now) c.args.member.now c.args.over.now c.args.condition.now c.args.variable.now c.bytes.result.now
    c.args.steps c.in_ok-over.over.steps (tree_of_operand c.in_ok-over.over.value) (trees_gathered c.in_ok-items.items)
    c.bytes.ensures c.in_ok-over.ensures c.in_ok-items.ensures c.filter_over.ensures
