use Rattle.std.proofs.Common.{subst, sym}
use Rattle.jl_entry.specs.Names.{code_part, IsCodeName}
use Rattle.jl_entry.proofs.parts.is_code_name.Goals as goal

pub returns : goal.returns
unfolding code_part
returns c = (λ is. subst IsCodeName c.as_bytes-bytes.ensures.value (c.is_named.ensures.0 is), λ of. c.is_named.ensures.1 (subst IsCodeName (sym c.as_bytes-bytes.ensures.value) of))
