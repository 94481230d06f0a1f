use Rattle.std.proofs.Common.{ap, ◌∙◌}
use Rattle.jl_lexer.proofs.TextLemmas.{byte_on, escape_on}
use Rattle.jl_lexer.proofs.word.unquoted.Goals as goal
use Rattle.jl_lexer.proofs.word.unquoted.Goals.{in-Byte+in_ok-push-in-Byte, in-Escape}

pub loop-i-preserved : goal.loop-i-preserved
loop-i-preserved c = elim c.match-quoted_byte.branch [
  | in-Byte+in_ok-push-in-Byte w ↦ rw w.escaped-is (byte_on c.args.bytes.now c.loop-i.text.items c.match-quoted_byte.text.items c.loop-i.escaped c.loop-i.i w.in-Byte.byte _ c.loop-i-test.true w.in-Byte.ensures (ap (λ t. t.items) w.text-is ∙ w.in_ok-push-in-Byte.ensures.items) c.loop-i.invariant)
  | in-Escape w ↦ rw w.escaped-is (escape_on c.args.bytes.now c.loop-i.text.items c.match-quoted_byte.text.items c.loop-i.escaped c.loop-i.i _ c.loop-i-test.true w.in-Escape.ensures (ap (λ t. t.items) w.text-is) c.loop-i.invariant)
]
