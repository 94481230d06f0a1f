-- The texts of warnings.
use Rattle.std.specs.Prelude.{ℕ, List, ◌++◌, codes}
use Rattle.hex.specs.Hex.{encode_lower}
use Rattle.jl_store.specs.declared.memory.WarnKind.{WarnKind}
use Rattle.jl_store.specs.declared.memory.WarnKind.TheVariants.{LoadFault, StoreFault, NotMine, Damaged, Skipped}
use Rattle.jl_store.specs.declared.memory.Warning.{Warning}

-- the words of a kind
abbrev pub kind_text : WarnKind → List ℕ
kind_text LoadFault = codes "load fault"
kind_text StoreFault = codes "store fault"
kind_text NotMine = codes "entry not mine"
kind_text Damaged = codes "entry damaged"
kind_text Skipped = codes "store skipped"

-- `warning: KIND: MODULE/FUNC/KEY`
unfoldable pub warning_text : List ℕ → Warning → List ℕ
warning_text m w = codes "warning: " ++ (kind_text w.kind ++ (codes ": " ++ (m ++ (codes "/" ++ (w.name ++ (codes "/" ++ encode_lower w.key.0))))))
