use Rattle.std.proofs.Common.{◌≡◌, ◌∙◌, ℕ, List, [], Ok, sym, subst}
use Rattle.jl_streams.specs.declared.source.Got.{Got}
use Rattle.jl_streams.specs.declared.source.Got.TheVariants as got
use Rattle.jl_streams.specs.Views.{SourceView}
use Rattle.jl_lines.specs.Blocks.{Fills}
use Rattle.jl_lines.specs.Readers.{IsReader}
use Rattle.jl_lines.proofs.StepLemmas.{fault_step, no_memory_step}
use Rattle.jl_lines.proofs.reader.LineReader.take_bytes.Goals as goal

-- a read that failed filled nothing
failed : (r : Got) (most : ℕ) (bytes : List ℕ) (x y : SourceView) → r ≡ got.Failed → Fills (Ok r) most bytes x y → (bytes ≡ []) × (x.told → y.left ≡ x.left)
failed r most bytes x y is fills = subst (λ g. Fills (Ok g) most bytes x y) is fills

pub returns-in-Ok-Failed-clause-cases : goal.returns-in-Ok-Failed-clause-cases
returns-in-Ok-Failed-clause-cases g c =
    let is = c.self.view_is in
    let fills = failed _ _ _ _ _ c.in-Ok-Failed.field-0-is c.in-Ok-Failed.ensures.fills in
    fault_step c.args.self.now _ _ _ (subst IsReader is c.self.invariant) c.requires.going c.requires.rest
    (λ i. record { limit = (is i).limit; taken = (is i).taken; lines = (is i).lines; long = (is i).long; ended = (is i).ended; front = (is i).front; rest = (fills.0 ∙ sym c.requires.rest) i })
    fills.1

pub returns-in-Err-clause-cases : goal.returns-in-Err-clause-cases
returns-in-Err-clause-cases g c =
    let is = c.self.view_is in
    no_memory_step c.args.self.now _ _ _ (subst IsReader is c.self.invariant) c.requires.going c.requires.rest
    (λ i. record { limit = (is i).limit; taken = (is i).taken; lines = (is i).lines; long = (is i).long; ended = (is i).ended; front = (is i).front; rest = (c.in-Err.ensures.fills.0 ∙ sym c.requires.rest) i })
    c.in-Err.ensures.fills.1
