-- Which moves a call makes, and which names it uses.
use Rattle.std.specs.Prelude.{◌≡◌, ◌⊎◌, ◌≤◌, ℕ, List, length, ⊤}
use Rattle.jl_text.specs.Paths.{PathView, parent}
use Rattle.jl_text.specs.declared.limits.TheConstants.{PIECE_BYTES}
use Rattle.jl_folder.specs.declared.moves.Move.{Move}
use Rattle.jl_folder.specs.declared.moves.Move.TheVariants.{MakeDir, Create, Append, Rename, Remove, RemoveDir}
use Rattle.jl_folder.specs.State.{State}
use Rattle.jl_rely.specs.Steps.{StepFact}
use Rattle.jl_protocol.specs.Tidy.{NodeHas}
use Rattle.jl_protocol.specs.Proper.{IsProper}

-- bytes that one append may write: no more than a piece
abbrev pub IsPiece : List ℕ → Type 0
IsPiece bytes = length bytes ≤ PIECE_BYTES

-- appends a piece
unfoldable pub IsAppend : Move → Type 0
IsAppend (MakeDir p) = ⊥
IsAppend (Create p n) = ⊥
IsAppend (Append n bytes) = IsPiece bytes
IsAppend (Rename p q) = ⊥
IsAppend (Remove p) = ⊥
IsAppend (RemoveDir p) = ⊥

-- makes or removes a file of this name, or appends a piece
unfoldable pub IsOnName : PathView → Move → Type 0
IsOnName name (MakeDir p) = ⊥
IsOnName name (Create p n) = p ≡ name
IsOnName name (Append n bytes) = IsPiece bytes
IsOnName name (Rename p q) = ⊥
IsOnName name (Remove p) = p ≡ name
IsOnName name (RemoveDir p) = ⊥

-- that with the temporary name, or renames this to the final one
unfoldable pub IsFor : (last temp : PathView) → Move → Type 0
IsFor last temp (MakeDir p) = ⊥
IsFor last temp (Create p n) = p ≡ temp
IsFor last temp (Append n bytes) = IsPiece bytes
IsFor last temp (Rename p q) = (p ≡ temp) × (q ≡ last)
IsFor last temp (Remove p) = p ≡ temp
IsFor last temp (RemoveDir p) = ⊥

-- a rename gives this name to a file with these bytes
unfoldable pub RenamesThis : PathView → List ℕ → State → Move → Type 0
RenamesThis last bytes s (MakeDir p) = ⊤
RenamesThis last bytes s (Create p n) = ⊤
RenamesThis last bytes s (Append n more) = ⊤
RenamesThis last bytes s (Rename p q) = (q ≡ last) × NodeHas s p (λ v. v.bytes ≡ bytes)
RenamesThis last bytes s (Remove p) = ⊤
RenamesThis last bytes s (RemoveDir p) = ⊤

-- proper, and what it renames are these bytes, to this name
abbrev pub PutsThis : (root last : PathView) → List ℕ → StepFact
PutsThis root last bytes token s m = IsProper root token s m × RenamesThis last bytes s m

-- the names that making a file uses: itself and its folder
abbrev pub UsesFile : PathView → PathView → Type 0
UsesFile name p = (p ≡ name) ⊎ (p ≡ parent name)

-- the names that publishing uses: the final and the temporary name, and their folder
abbrev pub UsesNames : (last temp : PathView) → PathView → Type 0
UsesNames last temp p = (p ≡ last) ⊎ (p ≡ temp) ⊎ (p ≡ parent last)
