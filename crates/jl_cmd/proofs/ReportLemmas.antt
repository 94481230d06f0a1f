-- What was written of the texts of the error stream.
use Rattle.std.proofs.Common.{◌≡◌, inl, inr, ℕ, ◌≤◌, List, subst, refl, arith}
use Rattle.jl_streams.specs.declared.sink.WroteAll.{WroteAll}
use Rattle.jl_streams.specs.declared.sink.WroteAll.TheVariants as wrote_all
use Rattle.jl_streams.specs.Streams.{WritesAll}
use Rattle.jl_streams.specs.Views.{SinkView}
use Rattle.jl_text.specs.Counts.{Faults}
use Rattle.jl_tracker.specs.Stages.{sink_point}
use Rattle.jl_tracker.specs.Plays.{Wrote}
use Rattle.jl_cmd.specs.Reporting.{WroteBoth, WroteLast}

-- a writing of a text
pub wrote_text : (r : WroteAll) (bytes text : List ℕ) (a b : SinkView) → bytes ≡ text → WritesAll r bytes a.written b.written → Faults a.faults b.faults (r ≡ wrote_all.Fault) → Wrote text (sink_point a) (sink_point b)
wrote_text r bytes text a b same writes counts = subst (λ (t : List ℕ). Wrote t (sink_point a) (sink_point b)) same (by_answer r writes counts)
  where
    by_answer : (s : WroteAll) → WritesAll s bytes a.written b.written → Faults a.faults b.faults (s ≡ wrote_all.Fault) → Wrote bytes (sink_point a) (sink_point b)
    by_answer wrote_all.Done done counted = (counted.later, inl (done, counted.steady (λ is. absurd (no_fault is))))
      where
        no_fault : wrote_all.Done ≡ wrote_all.Fault → ⊥
        no_fault is = cc
    by_answer wrote_all.Fault part counted = (counted.later, inr (part, counted.failed refl))

-- the last of two texts, where others were written before both
pub last_of_both : (first last text : List ℕ) (err mid new : SinkView) → last ≡ text → err.faults ≤ mid.faults → WroteBoth first last mid new → WroteLast text err new
last_of_both first last text err mid new same later both =
    let until : mid.faults ≤ both.between.faults = both.wrote_first.0 in
    record {
      before = both.between;
      later = omega (arith, later, until);
      wrote = subst (λ (t : List ℕ). Wrote t both.between (sink_point new)) same both.wrote_second;
    }
