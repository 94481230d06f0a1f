-- What the readers of a module answer.
use Rattle.std.specs.Prelude.{◌≡◌, ℕ, List, Option, Some, None, ⊤}
use denote.Bor.{Bor}
use Rattle.jl_value.specs.declared.library.ModuleFault.{ModuleFault}
use Rattle.jl_module.specs.declared.fault.LineFault.{LineFault}
use Rattle.jl_module.specs.declared.fault.LineFault.TheVariants.{Faulty, Memory}
use Rattle.jl_module.specs.declared.module.Checked.{Checked}
use Rattle.jl_module.specs.declared.module.Checked.TheVariants.{Fault, Named}
use Rattle.jl_module.specs.Modules.{Line, remark, faulty, defines, read_line, fault_after_line}

-- the line that defines a name, or none
abbrev pub line_with : Option (Bor (List ℕ)) → Line
line_with None = remark
line_with (Some f) = defines f.now

-- the fault of a line
abbrev pub IsFaultOf : LineFault → Line → Type 0
IsFaultOf (Faulty k) l = l ≡ faulty k
IsFaultOf Memory l = ⊤

-- how a check goes on behind a line
abbrev pub IsChecked : Checked → ℕ → List (List ℕ) → List ℕ → Type 0
IsChecked (Fault f) n names l = (rest : List (List ℕ) → Option ModuleFault) → fault_after_line n names (read_line l) rest ≡ Some f
IsChecked (Named more) n names l = (rest : List (List ℕ) → Option ModuleFault) → fault_after_line n names (read_line l) rest ≡ rest more
