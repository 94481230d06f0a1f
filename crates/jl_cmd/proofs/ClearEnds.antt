-- What a run of the command `clear` is.
use Rattle.std.proofs.Common.{◌∙◌, ℕ, List, Option, Some, refl, sym, append-nil}
use Rattle.std.specs.Prelude.{⊤}
use Rattle.jl_text.specs.Paths.{PathView}
use Rattle.jl_folder.specs.Views.{moved}
use Rattle.jl_value.specs.declared.key.Key.{Key}
use Rattle.jl_entry.specs.Names.{root_of}
use Rattle.jl_rely.specs.Claims.{AnyMove}
use Rattle.jl_rely.specs.Steps.{OwnMoves}
use Rattle.jl_protocol.specs.Proper.{LawfulThroughout}
use Rattle.jl_clear.specs.Taking.{IsTaking}
use Rattle.jl_cmd.specs.declared.ended.Ended.{Ended}
use Rattle.jl_cmd.specs.declared.ended.Ended.TheVariants.{Done, Failed, Usage, Refused, ReadFault, WriteFault, NoMemory, NoModule, FolderFault}
use Rattle.jl_cmd.specs.Caches.{CallsLawfully, RunsLawfully}
use Rattle.jl_cmd.specs.of.Clear.{IsCleared, EndsClearing}
use Rattle.jl_cmd.specs.Commands.{clear}
use Rattle.jl_cmd.specs.Course.{Course}
use Rattle.jl_cmd.specs.Endings.{WritesNothing}
use Rattle.jl_cmd.specs.Met.{of_nothing}
use Rattle.jl_cmd.proofs.EndingLemmas.{Finished, finished_so, finished_short}

module _ (location : PathView) (m f : Option (List ℕ)) (key : Option Key) (w : Course) where
  -- it prints nothing
  pub clears_so : (e : Ended) → WritesNothing w.out w.out' → EndsClearing e w.folder w.folder' → Finished (Some (clear location m f key)) w of_nothing e
  clears_so Done same h = finished_so (clear location m f key) w of_nothing tt ⊤ Done refl (λ p. tt) (λ t. (refl, refl, λ told. same told ∙ sym (append-nil _)))
  clears_so FolderFault same h = finished_short (clear location m f key) w of_nothing FolderFault tt tt (tt, h) same
  clears_so NoMemory same h = finished_short (clear location m f key) w of_nothing NoMemory tt tt tt same
  clears_so (Failed t) same h = absurd h
  clears_so Usage same h = absurd h
  clears_so (Refused t) same h = absurd h
  clears_so ReadFault same h = absurd h
  clears_so WriteFault same h = absurd h
  clears_so NoModule same h = absurd h

  -- its moves are those of the clearing
  pub runs_clear : CallsLawfully location w.means.answer AnyMove w.folder w.folder' → OwnMoves w.folder.token (IsTaking (root_of location) (IsCleared location m f key)) (moved w.folder w.folder') → RunsLawfully (Some (clear location m f key)) w
  unfolding LawfulThroughout
  runs_clear done own = record { went = done.went; idle = λ none. absurd (none tt); own = record { takes = own; lawful = done.owes } }
