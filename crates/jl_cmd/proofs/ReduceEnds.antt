-- What a run of the command `reduce-size` is.
use Rattle.std.proofs.Common.{◌≡◌, inl, inr, ℕ, Some, refl, sym, subst}
use Rattle.std.specs.Prelude.{⊤}
use Rattle.jl_text.specs.Paths.{PathView}
use Rattle.jl_folder.specs.Views.{FolderView, moved}
use Rattle.jl_streams.specs.Views.{SinkView, HostView}
use Rattle.jl_quota.specs.declared.limits.Limits.{Limits}
use Rattle.jl_entry.specs.Names.{root_of}
use Rattle.jl_rely.specs.Claims.{AnyMove}
use Rattle.jl_rely.specs.Steps.{OwnMoves}
use Rattle.jl_protocol.specs.Proper.{LawfulThroughout}
use Rattle.jl_clear.specs.Taking.{IsTaking}
use Rattle.jl_evict.specs.declared.reducing.Reduced.{Reduced}
use Rattle.jl_evict.specs.declared.reducing.Reduced.TheVariants as reduced
use Rattle.jl_evict.specs.Reducing.{IsOfEntry, Reduces, Evicts}
use Rattle.jl_cmd.specs.declared.computed.Computed.TheVariants as computed
use Rattle.jl_cmd.specs.declared.ended.Ended.{Ended}
use Rattle.jl_cmd.specs.declared.ended.Ended.TheVariants.{Done, Failed, Usage, Refused, ReadFault, WriteFault, NoMemory, NoModule, FolderFault}
use Rattle.jl_cmd.specs.Caches.{CallsLawfully, RunsLawfully}
use Rattle.jl_cmd.specs.Commands.{reduce_size}
use Rattle.jl_cmd.specs.Course.{Course}
use Rattle.jl_cmd.specs.Met.{Met, of_nothing, of_report}
use Rattle.jl_cmd.specs.of.Reduce.{report_of, IsMomentOf, IsReported, EndsReducing}
use Rattle.jl_cmd.specs.Computing.{WritesWarned}
use Rattle.jl_cmd.proofs.EndingLemmas.{Finished, finished_so, finished_short}

-- what was answered is reported
pub is_reported : (location : PathView) (limits : Limits) (clock : HostView) (old new : FolderView) (moment count bytes : ℕ) (answer : Reduced) → answer ≡ reduced.Report count bytes → IsMomentOf clock moment → (old.told → Reduces (root_of location) limits moment answer old new) → IsReported location limits clock old new count bytes
is_reported location limits clock old new moment count bytes answer is tells reduces = record {
  moment = moment;
  tells = tells;
  evicts = λ told. subst (λ (r : Reduced). Evicts (root_of location) limits moment r old new) is (reduces told).evicts;
}

module _ (Reported : ℕ → ℕ → Type 0) (folder folder' : FolderView) (out out' : SinkView) where
  -- and its line is written, or a front of it
  pub ends_printed : (e : Ended) (count bytes : ℕ) → Reported count bytes → WritesWarned (computed.Printed (report_of count bytes)) e out out' → EndsReducing e Reported folder folder' out out'
  ends_printed Done count bytes r (inl w) = (count, bytes, r, w)
  ends_printed WriteFault count bytes r (inl w) = (count, bytes, r, w.0, w.1)
  ends_printed (Failed t) count bytes r (inl w) = absurd w
  ends_printed Usage count bytes r (inl w) = absurd w
  ends_printed (Refused t) count bytes r (inl w) = absurd w
  ends_printed ReadFault count bytes r (inl w) = absurd w
  ends_printed NoMemory count bytes r (inl w) = absurd w
  ends_printed NoModule count bytes r (inl w) = absurd w
  ends_printed FolderFault count bytes r (inl w) = absurd w
  ends_printed e count bytes r (inr lost) = subst (λ (e' : Ended). EndsReducing e' Reported folder folder' out out') (sym lost.0) lost.1

-- what was met
abbrev pub report_met : (e : Ended) (Reported : ℕ → ℕ → Type 0) (folder folder' : FolderView) (out out' : SinkView) → EndsReducing e Reported folder folder' out out' → Met
report_met Done Reported folder folder' out out' h = of_report h.0 h.1
report_met WriteFault Reported folder folder' out out' h = of_report h.0 h.1
report_met FolderFault Reported folder folder' out out' h = of_nothing
report_met NoMemory Reported folder folder' out out' h = of_nothing
report_met (Failed t) Reported folder folder' out out' h = of_nothing
report_met Usage Reported folder folder' out out' h = of_nothing
report_met (Refused t) Reported folder folder' out out' h = of_nothing
report_met ReadFault Reported folder folder' out out' h = of_nothing
report_met NoModule Reported folder folder' out out' h = of_nothing

-- the run ends so
module _ (location : PathView) (limits : Limits) (w : Course) where
  abbrev Reported : ℕ → ℕ → Type 0
  Reported = IsReported location limits w.host w.folder w.folder'

  pub reduces_so : (e : Ended) → (h : EndsReducing e Reported w.folder w.folder' w.out w.out') → Finished (Some (reduce_size location limits)) w (report_met e Reported w.folder w.folder' w.out w.out' h) e
  reduces_so Done h = finished_so (reduce_size location limits) w (of_report h.0 h.1) tt ⊤ Done h.2 (λ p. tt) (λ t. (refl, refl, h.3))
  reduces_so WriteFault h = finished_so (reduce_size location limits) w (of_report h.0 h.1) tt ⊤ WriteFault h.2 (λ p. tt) (h.3, λ t. (refl, h.4))
  reduces_so FolderFault h = finished_short (reduce_size location limits) w of_nothing FolderFault tt tt (tt, h.0) h.1
  reduces_so NoMemory h = finished_short (reduce_size location limits) w of_nothing NoMemory tt tt tt h
  reduces_so (Failed t) h = absurd h
  reduces_so Usage h = absurd h
  reduces_so (Refused t) h = absurd h
  reduces_so ReadFault h = absurd h
  reduces_so NoModule h = absurd h

-- its moves are those of the reducing
pub runs_reduce : (location : PathView) (limits : Limits) (w : Course) → CallsLawfully location w.means.answer AnyMove w.folder w.folder' → OwnMoves w.folder.token (IsTaking (root_of location) (IsOfEntry (root_of location))) (moved w.folder w.folder') → RunsLawfully (Some (reduce_size location limits)) w
unfolding LawfulThroughout
runs_reduce location limits w done own = record { went = done.went; idle = λ none. absurd (none tt); own = record { takes = own; lawful = done.owes } }
