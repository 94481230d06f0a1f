use Rattle.std.proofs.Common.{◌≡◌, ◌++◌, [], ◌∷◌, Some, map, take}
use Rattle.jl_folder.specs.declared.moves.Place.TheVariants.{Folder, File}
use Rattle.jl_memory.proofs.disk.places_of.Given as goal

abbrev pub invariant-folders : goal.invariant-folders
invariant-folders l = l.places.items ≡ ([], Some Folder) ∷ ([] ∷ [], Some Folder) ∷ map (λ p. (p, Some Folder)) (take l.path-index l.start.folders)

abbrev pub invariant-names : goal.invariant-names
invariant-names l = l.places.items ≡ ([], Some Folder) ∷ ([] ∷ [], Some Folder) ∷ (map (λ p. (p, Some Folder)) l.start.folders ++ map (λ e. (e.0, Some (File e.1))) (take l.name-index l.start.names))
