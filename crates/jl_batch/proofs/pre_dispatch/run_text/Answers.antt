use Rattle.std.proofs.Common.{List, ℕ, length, ◌≤◌, sym, subst, ◌∙◌}
use Rattle.std.specs.Prelude.{pos}
use Rattle.jl_batch.proofs.TextLemmas.{Follows, no_front, no_step, finish_found, finish_only, follows_next, empty_rest, some_rest}
use Rattle.jl_batch.specs.Lexemes.{without_blanks}
use Rattle.jl_batch.proofs.ReadLemmas.{Leaves, no_front_value, no_step_value, finish_value, leaves_next}
use Rattle.jl_batch.proofs.pre_dispatch.run_text.Goals as goal

pub returns-in_err-lexeme-clause-only : goal.returns-in_err-lexeme-clause-only
returns-in_err-lexeme-clause-only c = λ ss h.
    c.from_residual.ensures ∙ no_front (pos c.args.jobs) c.args.text.now c.lexemes.left.now c.lexemes.reader c.lexemes.invariant.0 c.in_err-lexeme.ensures.lexeme ss h

pub returns-in_err-reader-clause-only : goal.returns-in_err-reader-clause-only
returns-in_err-reader-clause-only c = λ ss h.
    c.from_residual-in_err-reader.ensures ∙ no_step (pos c.args.jobs) c.args.text.now c.lexemes.left.now c.lexemes.reader c.in_ok-lexeme.lexeme c.in_ok-lexeme.rest.now c.lexemes.invariant.0 c.in_ok-lexeme.ensures.lexeme (sym c.in_err-reader.ensures) ss h

pub returns-then-is_empty-clause-some : goal.returns-then-is_empty-clause-some
returns-then-is_empty-clause-some c =
    finish_found (pos c.args.jobs) c.args.text.now c.lexemes.left.now c.lexemes.reader c.in_ok-reader.reader c.in_ok-lexeme.lexeme c.in_ok-lexeme.rest.now c.lexemes.invariant.0 c.in_ok-lexeme.ensures.lexeme
    (empty_rest c.in_ok-lexeme.rest.now (sym c.if-is_empty.true ∙ c.is_empty.ensures)) (sym c.in_ok-reader.ensures) c.finish.result c.finish.ensures

pub returns-then-is_empty-clause-only : goal.returns-then-is_empty-clause-only
returns-then-is_empty-clause-only c = λ ss h.
    c.finish.ensures ∙ finish_only (pos c.args.jobs) c.args.text.now c.lexemes.left.now c.lexemes.reader c.in_ok-reader.reader c.in_ok-lexeme.lexeme c.in_ok-lexeme.rest.now c.lexemes.invariant.0 c.in_ok-lexeme.ensures.lexeme
    (empty_rest c.in_ok-lexeme.rest.now (sym c.if-is_empty.true ∙ c.is_empty.ensures)) (sym c.in_ok-reader.ensures) ss h

pub returns-in_err-lexeme-clause-reads : goal.returns-in_err-lexeme-clause-reads
returns-in_err-lexeme-clause-reads c =
    c.from_residual.ensures ∙ sym (no_front_value c.args.text.now c.lexemes.left.now c.args.jobs c.lexemes.reader c.lexemes.invariant.1 c.in_err-lexeme.ensures.lexeme)

pub returns-in_err-reader-clause-reads : goal.returns-in_err-reader-clause-reads
returns-in_err-reader-clause-reads c =
    c.from_residual-in_err-reader.ensures ∙ sym (no_step_value c.args.text.now c.lexemes.left.now c.args.jobs c.lexemes.reader c.in_ok-lexeme.lexeme c.in_ok-lexeme.rest.now c.lexemes.invariant.1 c.in_ok-lexeme.ensures.lexeme (sym c.in_err-reader.ensures))

pub returns-then-is_empty-clause-reads : goal.returns-then-is_empty-clause-reads
returns-then-is_empty-clause-reads c =
    c.finish.ensures ∙ sym (finish_value c.args.text.now c.lexemes.left.now c.args.jobs c.lexemes.reader c.in_ok-reader.reader c.in_ok-lexeme.lexeme c.in_ok-lexeme.rest.now c.lexemes.invariant.1 c.in_ok-lexeme.ensures.shorter c.in_ok-lexeme.ensures.lexeme
    (sym c.in_ok-reader.ensures) (sym c.is_empty.ensures ∙ c.if-is_empty.true))

pub lexemes-preserved : goal.lexemes-preserved
lexemes-preserved c =
    let P : List ℕ → Type 0 = λ q. Follows (pos c.args.jobs) c.args.text.now q c.in_ok-reader.reader in
    let Q : List ℕ → Type 0 = λ q. Leaves c.args.text.now q c.args.jobs c.in_ok-reader.reader in
    let fewer : length (without_blanks c.in_ok-lexeme.rest.now) ≤ length c.in_ok-lexeme.rest.now = subst (λ q. length q ≤ length c.in_ok-lexeme.rest.now) c.without_blanks-left.ensures.rest c.without_blanks-left.ensures.shorter in (
      subst P (sym c.without_blanks-left.ensures.rest)
          (follows_next (pos c.args.jobs) c.args.text.now c.lexemes.left.now c.lexemes.reader c.in_ok-reader.reader c.in_ok-lexeme.lexeme c.in_ok-lexeme.rest.now c.lexemes.invariant.0 c.in_ok-lexeme.ensures.lexeme
          (some_rest c.in_ok-lexeme.rest.now (sym c.if-is_empty.false ∙ c.is_empty.ensures)) (sym c.in_ok-reader.ensures)),
      subst Q (sym c.without_blanks-left.ensures.rest)
          (leaves_next c.args.text.now c.lexemes.left.now c.args.jobs c.lexemes.reader c.in_ok-reader.reader c.in_ok-lexeme.lexeme c.in_ok-lexeme.rest.now c.lexemes.invariant.1 c.in_ok-lexeme.ensures.shorter c.in_ok-lexeme.ensures.lexeme
          (sym c.in_ok-reader.ensures) (sym c.is_empty.ensures ∙ c.if-is_empty.false) fewer),
    )
