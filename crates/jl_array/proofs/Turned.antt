-- A file is opened, used and closed: what stays, and how the count of faults goes on.
use Rattle.std.proofs.Common.{◌≡◌, ℕ, sym, subst, ◌∙◌}
use Rattle.jl_text.specs.Counts.{Faults}
use Rattle.jl_folder.specs.Views.{FolderView, FolderAnswers, FolderTurns}
use Rattle.jl_folder.proofs.Frames.{faults_next}

-- a call after one that didn't fail
pub turned_next : {Fails Fails' Fails'' : Type 0} (a b c : FolderView) → FolderTurns Fails a b
    → (Fails → ⊥) → FolderAnswers Fails' b c → (Fails'' → Fails') → (Fails' → Fails'')
    → FolderTurns Fails'' a c
turned_next a b c f well g to from = record {
  told = λ t. g.told (f.told t);
  token = g.token ∙ f.token;
  faults = faults_next a.faults b.faults c.faults f.faults well g.faults to from;
}

-- two calls that open or close, of which the first didn't fail
pub turned_twice : {Fails Fails' Fails'' : Type 0} (a b c : FolderView) → FolderTurns Fails a b
    → (Fails → ⊥) → FolderTurns Fails' b c → (Fails'' → Fails') → (Fails' → Fails'')
    → FolderTurns Fails'' a c
turned_twice a b c f well g to from = record {
  told = λ t. g.told (f.told t);
  token = g.token ∙ f.token;
  faults = faults_next a.faults b.faults c.faults f.faults well g.faults to from;
}

-- a call, and a closing, which never fails
pub turned_closed : {Fails : Type 0} (a b c : FolderView) → FolderAnswers Fails a b
    → FolderTurns (⊥) b c → FolderTurns Fails a c
turned_closed {Fails} a b c f g = record {
  told = λ t. g.told (f.told t);
  token = g.token ∙ f.token;
  faults = subst (λ (n : ℕ). Faults a.faults n Fails) (sym (g.faults.steady (λ bad. bad))) f.faults;
}

-- where the same numbers are open as before
pub turned_answers : {Fails : Type 0} (a b : FolderView) → FolderTurns Fails a b → b.opens ≡ a.opens
    → FolderAnswers Fails a b
turned_answers a b f opens =
    record { told = f.told; token = f.token; opens = opens; faults = f.faults }
