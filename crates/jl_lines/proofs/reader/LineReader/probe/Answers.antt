use Rattle.std.proofs.Common.{refl}
use Rattle.jl_lines.proofs.StepLemmas.{fault_step, too_much_step, one_less}
use Rattle.jl_lines.proofs.reader.LineReader.probe.Goals as goal

pub returns-in-Bytes-clause-step : goal.returns-in-Bytes-clause-step
returns-in-Bytes-clause-step g c = too_much_step c.args.self.now c.args.self.now _ _ c.requires.reader c.requires.going c.requires.rest refl c.requires.most (λ t. let got = c.in-Bytes.ensures.bytes t in one_less c.in-Bytes.field-0 _ _ c.in-Bytes.ensures.some.0 c.in-Bytes.ensures.some.1 got.within got.rest)

pub returns-in-Failed-clause-step : goal.returns-in-Failed-clause-step
returns-in-Failed-clause-step g c = fault_step c.args.self.now c.args.self.now _ _ c.requires.reader c.requires.going c.requires.rest refl c.in-Failed.ensures.bytes
