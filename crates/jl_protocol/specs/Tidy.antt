-- Which states of a cache folder are tidy and which sound, and what a kill leaves.
use Rattle.std.specs.Prelude.{◌≡◌, ◌⊎◌, ℕ, true, false, List, [], ◌∷◌, ◌++◌, Some}
use Rattle.jl_text.specs.Paths.{PathView}
use Rattle.jl_folder.specs.declared.moves.Place.TheVariants.{Folder, File}
use Rattle.jl_folder.specs.declared.moves.Move.TheVariants.{MakeDir, Create, Append, Rename, Remove, RemoveDir}
use Rattle.jl_folder.specs.declared.moves.Node.{Node}
use Rattle.jl_folder.specs.State.{State, Event, Trace, IsState, place_at, node_at, after}
use Rattle.jl_entry.specs.Names.{Final, IsFinal, IsTemp, IsStoreFolder, IsStoreName, IsBelow}
use Rattle.jl_protocol.specs.Whole.{IsWhole, CodeAnswers, IsTruthful}

-- the node that a path names, where it names one, has P
abbrev pub NodeHas : State → PathView → (Node → Type 0) → Type 0
NodeHas s p P = (n : ℕ) (v : Node) → place_at s p ≡ Some (File n) → node_at s n ≡ Some v → P v

pub record IsTidy (root : PathView) (s : State) : Type 0 where
  pub state : IsState s
  -- each file at or below the root has a final or temporary name, and each folder there is one of the store
  pub names : (p : PathView) (n : ℕ) → place_at s p ≡ Some (File n) → IsBelow root p → IsStoreName root p
  pub folders : (p : PathView) → place_at s p ≡ Some Folder → IsBelow root p → IsStoreFolder root p
  -- no file stands where a folder of the store may stand, nor on the way to the root
  pub no_file : (p : PathView) (n : ℕ) → place_at s p ≡ Some (File n) → IsStoreFolder root p → ⊥
  -- each final name has a frozen node, whole for it
  pub finals : (x : Final) (p : PathView) → IsFinal root x p → NodeHas s p (λ v. (v.frozen ≡ true) × IsWhole x v.bytes)
  -- each temporary name has an unfrozen node, made by the token that it names
  pub temps : (x : Final) (maker : List ℕ) (p : PathView) → IsTemp root x maker p → NodeHas s p (λ v. (v.frozen ≡ false) × (v.maker ≡ maker))
  -- no node has two names
  pub one_name : (p q : PathView) (n : ℕ) → place_at s p ≡ Some (File n) → place_at s q ≡ Some (File n) → p ≡ q

-- tidy, and each output is true
pub record IsSound (root : PathView) (answer : CodeAnswers) (s : State) : Type 0 where
  pub tidy : IsTidy root s
  pub truthful : (x : Final) (p : PathView) → IsFinal root x p → NodeHas s p (λ v. IsTruthful answer x v.bytes)

-- the state after a first part of an append
unfoldable pub IsTorn : State → Event → State → Type 0
IsTorn s (token, MakeDir p) t = ⊥
IsTorn s (token, Create p n) t = ⊥
IsTorn s (token, Append n bytes) t = (part rest : List ℕ) × (bytes ≡ part ++ rest) × (t ≡ after s (token, Append n part))
IsTorn s (token, Rename p q) t = ⊥
IsTorn s (token, Remove p) t = ⊥
IsTorn s (token, RemoveDir p) t = ⊥

-- what a kill may leave: the state after some of the moves, or that and a first part of the append that comes next
unfoldable pub KillLeaves : State → Trace → State → Type 0
KillLeaves s [] t = t ≡ s
KillLeaves s (e ∷ es) t = (t ≡ s) ⊎ IsTorn s e t ⊎ KillLeaves (after s e) es t
