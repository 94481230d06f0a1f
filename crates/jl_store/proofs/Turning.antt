-- A file is opened, filled and closed: what stays, and how the count of faults goes on.
use Rattle.std.proofs.Common.{◌≡◌, ◌∙◌, arith}
use Rattle.jl_folder.specs.Views.{FolderView, FolderAnswers, FolderTurns, FolderKeeps}
use Rattle.jl_folder.proofs.Frames.{faults_next}
use Rattle.jl_clear.proofs.DoingLemmas.{rose_later}

-- a call after one that didn't fail
pub turns_next : {Fails Fails' Fails'' : Type 0} (a b c : FolderView) → FolderTurns Fails a b → (Fails → ⊥) → FolderTurns Fails' b c → (Fails'' → Fails') → (Fails' → Fails'') → FolderTurns Fails'' a c
turns_next a b c f well g to from = record {
  told = λ t. g.told (f.told t);
  token = g.token ∙ f.token;
  faults = faults_next a.faults b.faults c.faults f.faults well g.faults to from;
}

-- where the same numbers are open as before
pub turns_answers : {Fails : Type 0} (a b : FolderView) → FolderTurns Fails a b → b.opens ≡ a.opens → FolderAnswers Fails a b
turns_answers a b f opens = record { told = f.told; token = f.token; opens = opens; faults = f.faults }

pub answers_turns : {Fails : Type 0} (a b : FolderView) → FolderAnswers Fails a b → FolderTurns Fails a b
answers_turns a b f = record { told = f.told; token = f.token; faults = f.faults }

-- the same, told otherwise
pub turns_as : {Fails Fails' : Type 0} (a b : FolderView) → FolderTurns Fails a b → (Fails' → Fails) → (Fails → Fails') → FolderTurns Fails' a b
turns_as a b f to from = record {
  told = f.told;
  token = f.token;
  faults = record { later = f.faults.later; failed = λ h. f.faults.failed (to h); steady = λ h. f.faults.steady (λ x. h (from x)) };
}

-- a call that failed, and then any other
pub turns_failed : {Fails Fails' : Type 0} (a b c : FolderView) → FolderTurns Fails a b → Fails → FolderKeeps b c → Fails' → FolderTurns Fails' a c
turns_failed a b c f bad g bad' = record {
  told = λ t. g.told (f.told t);
  token = g.token ∙ f.token;
  faults = record { later = omega (arith, f.faults.later, g.later); failed = λ h. rose_later a.faults b.faults c.faults (f.faults.failed bad) g.later; steady = λ h. absurd (h bad') };
}
