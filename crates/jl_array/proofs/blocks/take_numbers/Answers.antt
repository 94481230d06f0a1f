use Rattle.std.proofs.Common.{arith}
use Rattle.jl_array.proofs.Numerals.{read_back, signed_read, small_bytes}
use Rattle.jl_array.proofs.blocks.take_numbers.Goals as goal

-- numbers that were read have the bytes that they were read from
pub returns-clause-bytes : goal.returns-clause-bytes
returns-clause-bytes c =
    read_back c.args.bytes.now c.read_i64_into.new.dst
    (omega (arith, c.requires, c.read_i64_into.auto.dst))
    (small_bytes c.args.bytes.now c.type_inv.bytes) c.read_i64_into.ensures

-- and are signed numbers of 64 bits
pub returns-clause-signed : goal.returns-clause-signed
returns-clause-signed c =
    signed_read c.args.bytes.now c.read_i64_into.new.dst
    (small_bytes c.args.bytes.now c.type_inv.bytes) c.read_i64_into.ensures
