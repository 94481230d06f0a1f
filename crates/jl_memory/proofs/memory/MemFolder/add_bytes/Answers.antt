use Rattle.std.proofs.Common.{◌≤◌, Some, length, sym, ap, arith}
use Rattle.std.proofs.lemmas.List.{take_all}
use Rattle.jl_folder.specs.declared.moves.Move.TheVariants.{Append}
use Rattle.jl_memory.proofs.CallLemmas.{acts_made}
use Rattle.jl_memory.proofs.memory.MemFolder.add_bytes.Goals as goal

pub returns-then-add_piece-clause-acts : goal.returns-then-add_piece-clause-acts
returns-then-add_piece-clause-acts c =
    let m = c.args.self.now in
    let adds = c.add_piece.ensures.added c.if-add_piece.true in
    let bytes = c.args.bytes.now in
    let le : length bytes ≤ length bytes = omega arith in
    acts_made m c.add_piece.new.self (Append adds.file.node bytes) _ _ adds.made (λ e. cc)
    (λ t. (t.opens c.args.number.0 adds.file adds.was_open, record { file = adds.file; was_open = adds.was_open; move_is = ap (λ p. Some (Append adds.file.node p)) (sym (take_all (length bytes) bytes le)) }))
