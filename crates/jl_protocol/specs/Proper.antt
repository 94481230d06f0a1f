-- Which moves are proper and which lawful, and what a run owes throughout a call.
use Rattle.std.specs.Prelude.{◌≡◌, ◌⊎◌, ℕ, false, List, Some, ⊤}
use Rattle.jl_text.specs.Paths.{PathView}
use Rattle.jl_folder.specs.declared.moves.Place.TheVariants.{File}
use Rattle.jl_folder.specs.declared.moves.Move.{Move}
use Rattle.jl_folder.specs.declared.moves.Move.TheVariants.{MakeDir, Create, Append, Rename, Remove, RemoveDir}
use Rattle.jl_folder.specs.declared.moves.Node.{Node}
use Rattle.jl_folder.specs.State.{State, Trace, place_at, node_at}
use Rattle.jl_entry.specs.Names.{Final, IsFinal, IsTemp, IsStoreFolder, IsStoreName, IsOutside}
use Rattle.jl_rely.specs.Steps.{Throughout}
use Rattle.jl_protocol.specs.Whole.{IsWhole, CodeAnswers, IsTruthful}
use Rattle.jl_protocol.specs.Tidy.{NodeHas, IsTidy, IsSound}

-- this run made the node, and it isn't frozen
abbrev pub IsOwnOpen : List ℕ → State → ℕ → Type 0
IsOwnOpen token s n = (v : Node) × (node_at s n ≡ Some v) × (v.maker ≡ token) × (v.frozen ≡ false)

-- in the store: its folders are made and removed, its names removed, the own temporary names made,
-- the own unfrozen nodes written to, and whole bytes renamed from the own temporary name to the final one
unfoldable pub IsProperInside : PathView → List ℕ → State → Move → Type 0
IsProperInside root token s (MakeDir p) = IsStoreFolder root p
IsProperInside root token s (Create p n) = (x : Final) × IsTemp root x token p
IsProperInside root token s (Append n bytes) = IsOwnOpen token s n
IsProperInside root token s (Rename p q) = (x : Final) × IsTemp root x token p × IsFinal root x q × NodeHas s p (λ v. IsWhole x v.bytes)
IsProperInside root token s (Remove p) = IsStoreName root p
IsProperInside root token s (RemoveDir p) = IsStoreFolder root p

-- outside of it: no path of the move is at or below the root or on the way to it;
-- a node that is written to has a name outside, or is the own and unfrozen
unfoldable pub IsProperOutside : PathView → List ℕ → State → Move → Type 0
IsProperOutside root token s (MakeDir p) = IsOutside root p
IsProperOutside root token s (Create p n) = IsOutside root p
IsProperOutside root token s (Append n bytes) = ((p : PathView) × IsOutside root p × (place_at s p ≡ Some (File n))) ⊎ IsOwnOpen token s n
IsProperOutside root token s (Rename p q) = IsOutside root p × IsOutside root q
IsProperOutside root token s (Remove p) = IsOutside root p
IsProperOutside root token s (RemoveDir p) = IsOutside root p

-- a move of this token is proper in this state
abbrev pub IsProper : PathView → List ℕ → State → Move → Type 0
IsProper root token s m = IsProperInside root token s m ⊎ IsProperOutside root token s m

-- a rename to a final name moves true bytes
unfoldable pub RenamesTrue : PathView → CodeAnswers → State → Move → Type 0
RenamesTrue root answer s (MakeDir p) = ⊤
RenamesTrue root answer s (Create p n) = ⊤
RenamesTrue root answer s (Append n bytes) = ⊤
RenamesTrue root answer s (Rename p q) = (x : Final) → IsFinal root x q → NodeHas s p (λ v. IsTruthful answer x v.bytes)
RenamesTrue root answer s (Remove p) = ⊤
RenamesTrue root answer s (RemoveDir p) = ⊤

-- proper, and what it renames to an output is true
abbrev pub IsLawful : PathView → CodeAnswers → List ℕ → State → Move → Type 0
IsLawful root answer token s m = IsProper root token s m × RenamesTrue root answer s m

-- from a tidy state, each step of this token is proper wherever all steps before it are
unfoldable pub ProperThroughout : PathView → List ℕ → State → Trace → Type 0
ProperThroughout root token s es = IsTidy root s → Throughout (IsProper root) (IsProper root) token s es

-- from a sound state, each step of this token is lawful wherever all steps before it are
unfoldable pub LawfulThroughout : PathView → CodeAnswers → List ℕ → State → Trace → Type 0
LawfulThroughout root answer token s es = IsSound root answer s → Throughout (IsLawful root answer) (IsLawful root answer) token s es
