use Rattle.std.proofs.Common.{◌∙◌}
use Rattle.joblib.proofs.StartLemmas.{tells_fault}
use Rattle.joblib.proofs.start.start.Goals as goal
