use Rattle.std.proofs.Common.{[], ap, ◌∙◌}
use Rattle.jl_value.specs.Tiny.{fault_in, tiny_lines}
use Rattle.jl_value.proofs.TinyLemmas.{fault_in-texts}
use Rattle.jl_value.proofs.testing.tiny.Module.fault.Goals as goal

pub returns : goal.returns
returns c = c.first_fault.ensures ∙ ap (fault_in [] 1) (c.as_slice.ensures.value ∙ c.args.self.now.cut) ∙ fault_in-texts (tiny_lines c.args.self.now.bytes) [] 1
