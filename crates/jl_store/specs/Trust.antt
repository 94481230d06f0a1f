-- What a call over the store may rest on.
use Rattle.jl_text.specs.Paths.{PathView}
use Rattle.jl_folder.specs.Views.{FolderView, state, moved}
use Rattle.jl_rely.specs.Steps.{AllSteps}
use Rattle.jl_protocol.specs.Whole.{CodeAnswers}
use Rattle.jl_protocol.specs.Tidy.{IsSound}
use Rattle.jl_protocol.specs.Proper.{IsLawful}

-- the folder tells, its state was sound, and every step since was lawful
abbrev pub IsTrusted : PathView → CodeAnswers → FolderView → FolderView → Type 0
IsTrusted root answer old new = old.told × IsSound root answer (state old) × AllSteps (IsLawful root answer) (state old) (moved old new)
