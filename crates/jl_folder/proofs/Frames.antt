-- One call after another: what stays, and how the count of faults goes on.
use Rattle.std.proofs.Common.{◌≡◌, ℕ, ◌≤◌, ◌∙◌, subst, refl, arith}
use Rattle.jl_text.specs.Counts.{Faults, Rose}
use Rattle.jl_folder.specs.Views.{FolderView, FolderAnswers, FolderKeeps}

-- a call that didn't fail leaves the count
pub still : {Fails : Type 0} (before now : ℕ) → Faults before now Fails → (Fails → ⊥) → now ≡ before
still before now f well = f.steady well

-- the count after calls that didn't fail, and one that failed where it says
pub faults_next : {Fails Fails' Fails'' : Type 0} (a b c : ℕ) → Faults a b Fails → (Fails → ⊥) → Faults b c Fails' → (Fails'' → Fails') → (Fails' → Fails'') → Faults a c Fails''
faults_next {Fails} {Fails'} {Fails''} a b c f well g to from = record {
  later = subst (λ n. n ≤ c) (f.steady well) g.later;
  failed = λ h. subst (λ n. Rose n c) (f.steady well) (g.failed (to h));
  steady = λ h. g.steady (λ x. h (from x)) ∙ f.steady well;
}

-- a call after calls that didn't fail
pub answers_next : {Fails Fails' Fails'' : Type 0} (a b c : FolderView) → FolderAnswers Fails a b → (Fails → ⊥) → FolderAnswers Fails' b c → (Fails'' → Fails') → (Fails' → Fails'') → FolderAnswers Fails'' a c
answers_next a b c f well g to from = record {
  told = λ t. g.told (f.told t);
  token = g.token ∙ f.token;
  opens = g.opens ∙ f.opens;
  faults = faults_next a.faults b.faults c.faults f.faults well g.faults to from;
}

-- the same, told otherwise
pub answers_as : {Fails Fails' : Type 0} (a b : FolderView) → FolderAnswers Fails a b → (Fails' → Fails) → (Fails → Fails') → FolderAnswers Fails' a b
answers_as a b f to from = record {
  told = f.told;
  token = f.token;
  opens = f.opens;
  faults = record { later = f.faults.later; failed = λ h. f.faults.failed (to h); steady = λ h. f.faults.steady (λ x. h (from x)) };
}

-- no call
pub answers_none : (a : FolderView) → FolderAnswers (⊥) a a
answers_none a = record { told = λ t. t; token = refl; opens = refl; faults = record { later = omega arith; failed = λ h. absurd h; steady = λ h. refl } }

-- any call keeps what calls keep
pub answers_keeps : {Fails : Type 0} (a b : FolderView) → FolderAnswers Fails a b → FolderKeeps a b
answers_keeps a b f = record { told = f.told; token = f.token; opens = f.opens; later = f.faults.later }

pub keeps_none : (a : FolderView) → FolderKeeps a a
keeps_none a = record { told = λ t. t; token = refl; opens = refl; later = omega arith }

pub keeps_trans : (a b c : FolderView) → FolderKeeps a b → FolderKeeps b c → FolderKeeps a c
keeps_trans a b c f g = record {
  told = λ t. g.told (f.told t);
  token = g.token ∙ f.token;
  opens = g.opens ∙ f.opens;
  later = omega (arith, f.later, g.later);
}
