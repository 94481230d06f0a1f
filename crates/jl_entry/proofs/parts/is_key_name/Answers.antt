use Rattle.std.proofs.Common.{◌∙◌, ap}
use Rattle.jl_entry.specs.Names.{is_key}
use Rattle.jl_entry.proofs.PartLemmas.{key_by, no_key}
use Rattle.jl_entry.proofs.parts.is_key_name.Goals as goal

pub returns-then-bytes-ne32 : goal.returns-then-bytes-ne32
returns-then-bytes-ne32 c = no_key c.as_bytes-bytes.result.now c.if-bytes-ne32.true ∙ ap is_key c.as_bytes-bytes.ensures.value

pub returns : goal.returns
returns c = c.all_hex_codes.ensures ∙ key_by c.as_bytes-bytes.result.now c.if-bytes-ne32.false ∙ ap is_key c.as_bytes-bytes.ensures.value
