use Rattle.std.proofs.Common.{Option, None, Some, refl}
use Rattle.std.specs.Option.{MatchOption}
use Rattle.jl_streams.specs.Views.{SourceView}
use Rattle.jl_lines.specs.declared.reader.NextLine.{NextLine}
use Rattle.jl_lines.specs.Steps.{ReaderView, LooksOver, Gets, Advances, NextStep}
use Rattle.jl_lines.proofs.StepLemmas.{advances, looks_goes, goes_step}
use Rattle.jl_lines.proofs.reader.LineReader.advance.Goals as goal

-- what follows when all bytes were looked at
went_on : (a b c : ReaderView) (x y : SourceView) (result : Option NextLine) → LooksOver a b → MatchOption result (Gets b c x y) (λ answer. NextStep b c x y answer)
    → MatchOption result (Advances a c x y) (λ answer. NextStep a c x y answer)
went_on a b c x y None l g = advances a b c x y l g
went_on a b c x y (Some answer) l s = goes_step a b c x x y answer (λ t. t) (looks_goes a b x x l refl) s

pub returns-in-None-clause-cases : goal.returns-in-None-clause-cases
returns-in-None-clause-cases g c = went_on _ _ _ _ _ c.go_on.result c.in-None.ensures c.go_on.ensures.cases
