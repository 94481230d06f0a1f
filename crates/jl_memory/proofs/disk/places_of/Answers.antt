use Rattle.std.proofs.Common.{◌≤◌, ◌++◌, [], ◌∷◌, map, length, ◌∙◌, ap, arith}
use Rattle.std.proofs.lemmas.List.{take_all}
use Rattle.jl_memory.proofs.DiskLemmas.{some_places, shown_folder, shown_file}
use Rattle.jl_memory.proofs.disk.places_of.Goals as goal

pub returns : goal.returns
returns c =
    let names = c.args.start.now.names in
    let le : length names ≤ c.names.name-index = omega (arith, c.names-test.false, ap length c.as_slice-name-items.ensures) in
    c.names.invariant ∙ ap (λ ns. shown_folder [] ∷ shown_folder ([] ∷ []) ∷ (map shown_folder c.args.start.now.folders ++ map shown_file ns)) (take_all c.names.name-index names le)
    ∙ ap (λ r. shown_folder [] ∷ shown_folder ([] ∷ []) ∷ r) (some_places c.args.start.now.folders names)
