-- Whose move made or removed a name.
use Rattle.std.specs.Prelude.{◌≡◌, ◌≢◌, ◌⊎◌, ℕ, List, [], ◌∷◌}
use Rattle.jl_text.specs.Paths.{PathView}
use Rattle.jl_folder.specs.declared.moves.Move.{Move}
use Rattle.jl_folder.specs.declared.moves.Move.TheVariants.{MakeDir, Create, Append, Rename, Remove, RemoveDir}
use Rattle.jl_folder.specs.State.{Trace}

-- the move makes or removes this name or folder
abbrev pub Touches : Move → PathView → Type 0
Touches (MakeDir p) x = x ≡ p
Touches (Create p n) x = x ≡ p
Touches (Append n bytes) x = ⊥
Touches (Rename p q) x = (x ≡ p) ⊎ (x ≡ q)
Touches (Remove p) x = x ≡ p
Touches (RemoveDir p) x = x ≡ p

-- another's step made or removed one of these names
unfoldable pub TouchedByOther : List ℕ → (PathView → Type 0) → Trace → Type 0
TouchedByOther token Uses [] = ⊥
TouchedByOther token Uses (e ∷ es) = ((e.0 ≢ token) × ((p : PathView) × Uses p × Touches e.1 p)) ⊎ TouchedByOther token Uses es
