use Rattle.std.proofs.Common.{arith}
use Rattle.std.proofs.lemmas.Bool.{lt-ltb}
use Rattle.jl_text.proofs.Names.{is_part-from_bytes}
use Rattle.jl_text.proofs.name.is_name.Goals as goal

pub returns-else-bytes-gt-MOST_NAME_BYTES-clause-part : goal.returns-else-bytes-gt-MOST_NAME_BYTES-clause-part
returns-else-bytes-gt-MOST_NAME_BYTES-clause-part c = λ h. is_part-from_bytes c.args.text.now (lt-ltb 0 _ (omega arith)) (cc (c.all_name_codes.ensures, h))
