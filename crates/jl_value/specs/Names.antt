-- The words by which errors and faults are printed.
use Rattle.std.specs.Prelude.{ℕ, List, codes}
use Rattle.jl_value.specs.declared.library.TaskError.{TaskError}
use Rattle.jl_value.specs.declared.library.TaskError.TheVariants.{NoArgument, ExtraArgument, BadKind, Overflow, ZeroDivisor, BadIndex, TooLong, TooDeep}
use Rattle.jl_value.specs.declared.library.ModuleFaultKind.{ModuleFaultKind}
use Rattle.jl_value.specs.declared.library.ModuleFaultKind.TheVariants as fault

-- the name of a task's error
abbrev pub name_of : TaskError → List ℕ
name_of NoArgument = codes "NoArgument"
name_of ExtraArgument = codes "ExtraArgument"
name_of BadKind = codes "BadKind"
name_of Overflow = codes "Overflow"
name_of ZeroDivisor = codes "ZeroDivisor"
name_of BadIndex = codes "BadIndex"
name_of TooLong = codes "TooLong"
name_of TooDeep = codes "TooDeep"

-- the name of a module's fault
abbrev pub fault_name_of : ModuleFaultKind → List ℕ
fault_name_of fault.BadLine = codes "BadLine"
fault_name_of fault.BadName = codes "BadName"
fault_name_of fault.Twice = codes "Twice"
fault_name_of fault.TooDeep = codes "TooDeep"
fault_name_of fault.TooLarge = codes "TooLarge"
