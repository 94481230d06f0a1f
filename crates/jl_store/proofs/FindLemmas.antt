-- What is read under a final name beside runs whose steps are proper.
use Rattle.std.proofs.Common.{◌≡◌, ℕ, List, Some, take, sym, ap, subst, ◌∙◌}
use Rattle.jl_text.specs.Paths.{PathView}
use Rattle.jl_folder.specs.State.{State, Trace, IsTrace, bytes_at}
use Rattle.jl_folder.specs.Reading.{ReadsNamed, ReadsFile, OpenedHas}
use Rattle.jl_folder.specs.declared.read.FileRead.{FileRead}
use Rattle.jl_folder.specs.declared.read.FileRead.TheVariants as file_read
use Rattle.jl_entry.specs.Names.{Final, IsFinal}
use Rattle.jl_rely.specs.Steps.{AllSteps}
use Rattle.jl_protocol.specs.Whole.{IsWhole}
use Rattle.jl_protocol.specs.Proper.{IsProper}
use Rattle.jl_protocol.specs.Tidy.{IsTidy}
use Rattle.jl_store.specs.Reading.{FindsWhole, FindsFinal}
use Rattle.jl_store.proofs.LookTidy.{opened_whole, opened_then}
use Rattle.jl_store.proofs.LookLemmas.{read_short, read_has}

module _ (root : PathView) (x : Final) (path : PathView) (final : IsFinal root x path) (s : State) (moves : Trace) (may : IsTrace s moves) where
  finds_bytes : (bytes : List ℕ) → ReadsNamed path 16777217 bytes s moves → IsTidy root s → AllSteps (IsProper root) s moves → FindsWhole root x path bytes s moves
  unfolding IsWhole
  finds_bytes bytes reads tidy all =
      let P : List ℕ → Type 0 = λ b. bytes ≡ take 16777217 b in
      let opened : OpenedHas path P s moves = read_has path bytes P s moves reads reads.has in
      let whole = opened_whole root x path final s moves may tidy all P opened in
      let same : bytes ≡ opened.view.bytes = read_short 16777216 bytes opened.view.bytes whole.0 whole.1.0 in
      record {
        named = opened_then root x path final s moves may tidy all P opened (λ u. bytes_at u path ≡ Some bytes) (λ u has. has ∙ ap (λ (b : List ℕ). Some b) (sym same));
        whole = subst (IsWhole x) (sym same) whole.1;
      }

  pub finds_final : (r : FileRead) → ReadsFile path 16777217 r s moves → FindsFinal root x path r s moves
  finds_final (file_read.Bytes bytes) reads = finds_bytes bytes reads
  finds_final file_read.NoFile reads = tt
  finds_final file_read.Failed reads = tt
  finds_final file_read.NoMemory reads = tt
