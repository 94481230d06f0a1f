use Rattle.std.proofs.Common.{◌≡◌, ◌*◌, take}
use Rattle.jl_array.specs.Dumps.{numbers_bytes, AreSigned}
use Rattle.jl_array.proofs.blocks.put_numbers.Given as goal

-- the numbers so far have their bytes in the buffer
abbrev pub invariant-numbers : goal.invariant-numbers
invariant-numbers l = record {
  bytes : take (8 * l.i) l.buf ≡ numbers_bytes (take l.i l.numbers);
  signed : AreSigned (take l.i l.numbers);
}
