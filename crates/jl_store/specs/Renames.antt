-- Which files own steps put in place, and in which order.
use Rattle.std.specs.Prelude.{◌≡◌, ◌⊎◌, ℕ, List, [], ◌∷◌, ◌++◌, ⊤}
use Rattle.jl_text.specs.Paths.{PathView}
use Rattle.jl_folder.specs.declared.moves.Move.{Move}
use Rattle.jl_folder.specs.declared.moves.Move.TheVariants.{MakeDir, Create, Append, Rename, Remove, RemoveDir}
use Rattle.jl_folder.specs.State.{Trace}
use Rattle.jl_rely.specs.Steps.{OwnMoves}

-- any move but a rename
unfoldable pub IsNoRename : Move → Type 0
IsNoRename (MakeDir p) = ⊤
IsNoRename (Create p n) = ⊤
IsNoRename (Append n bytes) = ⊤
IsNoRename (Rename p q) = ⊥
IsNoRename (Remove p) = ⊤
IsNoRename (RemoveDir p) = ⊤

-- the first own rename gives this final name, and Rest holds of the steps behind it
pub record PutsFirst (last : PathView) (Rest : Trace → Type 0) (token : List ℕ) (steps : Trace) : Type 0 where
  pub before : Trace
  pub temp : PathView
  pub later : Trace
  pub parts : steps ≡ before ++ (token, Rename temp last) ∷ later
  pub none_before : OwnMoves token IsNoRename before
  pub puts_later : Rest later

-- own renames give final names of this list alone, in its order, and each of them at most once
unfoldable pub PutsInTurn : List PathView → List ℕ → Trace → Type 0
PutsInTurn [] token steps = OwnMoves token IsNoRename steps
PutsInTurn (last ∷ lasts) token steps = PutsInTurn lasts token steps ⊎ PutsFirst last (PutsInTurn lasts token) token steps
