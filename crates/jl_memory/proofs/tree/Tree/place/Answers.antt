use Rattle.std.proofs.Common.{◌≡◌, true, false, cond, Some, map, sym, ◌∙◌, ap}
use Rattle.std.specs.List.{list_any}
use Rattle.jl_folder.specs.declared.moves.Place.TheVariants.{Folder, File}
use Rattle.jl_text.specs.Paths.{path_eq, is_fixed}
use Rattle.jl_memory.specs.Tables.{found}
use Rattle.jl_memory.proofs.TreeLemmas.{fixed_folder, tree_place}
use Rattle.jl_memory.proofs.tree.Tree.place.Goals as goal

pub returns-then-are_fixed : goal.returns-then-are_fixed
returns-then-are_fixed c = sym (fixed_folder c.args.self.now c.args.parts.now (sym c.are_fixed.ensures ∙ c.if-are_fixed.true))

pub returns-then-has_path : goal.returns-then-has_path
returns-then-has_path c =
    let t = c.args.self.now in
    let q = c.args.parts.now in
    let files = found (map (λ e. (e.0, Some (File e.1))) t.names) q in
    let free : is_fixed q ≡ false = sym c.are_fixed.ensures ∙ c.if-are_fixed.false in
    let hit : list_any (λ p. path_eq q p) t.folders ≡ true = ap (list_any (λ p. path_eq q p)) (sym c.as_slice.ensures) ∙ sym c.has_path.ensures ∙ c.if-has_path.true in
    sym (tree_place t q ∙ (λ j. cond (free j) (Some Folder) (cond (hit j) (Some Folder) files)))

pub returns : goal.returns
returns c =
    let t = c.args.self.now in
    let q = c.args.parts.now in
    let files = found (map (λ e. (e.0, Some (File e.1))) t.names) q in
    let free : is_fixed q ≡ false = sym c.are_fixed.ensures ∙ c.if-are_fixed.false in
    let none : list_any (λ p. path_eq q p) t.folders ≡ false = ap (list_any (λ p. path_eq q p)) (sym c.as_slice.ensures) ∙ sym c.has_path.ensures ∙ c.if-has_path.false in
    c.file_named.ensures ∙ ap (λ ns. found (map (λ e. (e.0, Some (File e.1))) ns) q) c.as_slice-2.ensures ∙ sym (tree_place t q ∙ (λ j. cond (free j) (Some Folder) (cond (none j) (Some Folder) files)))
