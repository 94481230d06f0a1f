-- Which folders a call makes, and which entries it clears.
use Rattle.std.specs.Prelude.{◌≡◌, ℕ, false, List, [], ◌∷◌, ◌++◌, IsTrue}
use Rattle.jl_text.specs.Paths.{PathView, is_fixed}
use Rattle.jl_folder.specs.declared.moves.Move.{Move}
use Rattle.jl_folder.specs.declared.moves.Move.TheVariants.{MakeDir, Create, Append, Rename, Remove, RemoveDir}
use Rattle.jl_entry.specs.Names.{is_key, IsEntryName}

-- a first part of a path
abbrev pub IsPrefix : PathView → PathView → Type 0
IsPrefix p path = (rest : PathView) × (path ≡ p ++ rest)

-- makes this folder or one on the way to it, but for the two that are always there
unfoldable pub IsMaking : PathView → Move → Type 0
IsMaking path (MakeDir p) = (is_fixed p ≡ false) × IsPrefix p path
IsMaking path (Create p n) = ⊥
IsMaking path (Append n bytes) = ⊥
IsMaking path (Rename p q) = ⊥
IsMaking path (Remove p) = ⊥
IsMaking path (RemoveDir p) = ⊥

-- removes a file of an entry from this folder, or the folder
unfoldable pub IsEmptying : PathView → Move → Type 0
IsEmptying entry (MakeDir p) = ⊥
IsEmptying entry (Create p n) = ⊥
IsEmptying entry (Append n bytes) = ⊥
IsEmptying entry (Rename p q) = ⊥
IsEmptying entry (Remove p) = (part : List ℕ) × IsEntryName part × (p ≡ entry ++ part ∷ [])
IsEmptying entry (RemoveDir p) = p ≡ entry

-- the same for an entry's folder in this folder of a function
abbrev pub IsClearing : PathView → Move → Type 0
IsClearing function m = (key : List ℕ) × IsTrue (is_key key) × IsEmptying (function ++ key ∷ []) m
