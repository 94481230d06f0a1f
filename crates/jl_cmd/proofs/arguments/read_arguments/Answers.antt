use Rattle.std.proofs.Common.{◌≤◌, ◌∙◌, ℕ, Err, ap, sym, subst}
use Rattle.jl_value.specs.Walked.{read_bytes}
use Rattle.jl_value.specs.Tree.{nesting}
use Rattle.jl_value.specs.Key.{args_tree}
use Rattle.jl_cmd.specs.Arguments.{table_in}
use Rattle.jl_cmd.proofs.ArgumentLemmas.{arguments_of-long, arguments_of-short, table_in-table, nesting-table, if_ok, if_err, members_in-other, fault_of-memory}
use Rattle.jl_cmd.proofs.arguments.read_arguments.Goals as goal

pub returns-then-text-gt-MOST_TEXT_BYTES-clause-fault : goal.returns-then-text-gt-MOST_TEXT_BYTES-clause-fault
returns-then-text-gt-MOST_TEXT_BYTES-clause-fault c = λ _. arguments_of-long _ c.if-text-gt-MOST_TEXT_BYTES.true

pub returns-in-Ok-from_value-clause-given : goal.returns-in-Ok-from_value-clause-given
returns-in-Ok-from_value-clause-given c =
    if_ok c.sized.result _ _ (λ a h.
    arguments_of-short _ c.if-text-gt-MOST_TEXT_BYTES.false
    ∙ ap table_in (ap (read_bytes 64) (sym c.as_bytes.ensures.value) ∙ c.in-Ok.ensures.ok)
    ∙ table_in-table c.in-Ok.value c.in-Ok-from_value.args c.in-Ok-from_value.ensures
    ∙ h.1)
    c.sized.ensures.given

pub returns-in-Ok-from_value-clause-depth : goal.returns-in-Ok-from_value-clause-depth
returns-in-Ok-from_value-clause-depth c =
    if_ok c.sized.result _ _ (λ a h.
    subst (λ (n : ℕ). n ≤ 64) (nesting-table c.in-Ok.value c.in-Ok-from_value.args c.in-Ok-from_value.ensures ∙ ap (λ ps. nesting (args_tree ps)) (sym h.0)) c.in-Ok.ensures.nests)
    c.sized.ensures.given

pub returns-in-Ok-from_value-clause-fault : goal.returns-in-Ok-from_value-clause-fault
returns-in-Ok-from_value-clause-fault c =
    if_err c.sized.result _ _ (λ e h other.
    arguments_of-short _ c.if-text-gt-MOST_TEXT_BYTES.false
    ∙ ap table_in (ap (read_bytes 64) (sym c.as_bytes.ensures.value) ∙ c.in-Ok.ensures.ok)
    ∙ table_in-table c.in-Ok.value c.in-Ok-from_value.args c.in-Ok-from_value.ensures
    ∙ h other)
    c.sized.ensures.fault

pub returns-in-Ok-clause-fault : goal.returns-in-Ok-clause-fault
returns-in-Ok-clause-fault c = λ _.
    arguments_of-short _ c.if-text-gt-MOST_TEXT_BYTES.false
    ∙ ap table_in (ap (read_bytes 64) (sym c.as_bytes.ensures.value) ∙ c.in-Ok.ensures.ok)
    ∙ members_in-other c.in-Ok.value c.in-Err-from_value.ensures.1

pub returns-clause-fault : goal.returns-clause-fault
returns-clause-fault c = λ h.
    arguments_of-short _ c.if-text-gt-MOST_TEXT_BYTES.false
    ∙ ap table_in (ap (read_bytes 64) (sym c.as_bytes.ensures.value) ∙ c.in-Err.ensures.fault (fault_of-memory c.in-Err.fault (λ e. h (c.fault_of.ensures ∙ e))))
    ∙ ap Err (sym c.fault_of.ensures)
