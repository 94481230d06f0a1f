use Rattle.std.proofs.Common.{◌≤◌, length, sym, ◌∙◌, ap, arith}
use Rattle.jl_folder.specs.State.{is_folder, is_file, place_at}
use Rattle.jl_memory.specs.Tables.{state_of}
use Rattle.jl_memory.proofs.TreeLemmas.{fixed_stands, orphan, folder_stands, file_stands, tree_no_node}
use Rattle.jl_memory.proofs.tree.Tree.stands_well.Goals as goal

pub returns-then-is_fixed-clause-yes : goal.returns-then-is_fixed-clause-yes
returns-then-is_fixed-clause-yes c = λ _. fixed_stands c.args.self.now c.args.path.now (sym c.is_fixed.ensures ∙ c.if-is_fixed.true)

pub returns-then-not-is_folder-clause-no : goal.returns-then-not-is_folder-clause-no
returns-then-not-is_folder-clause-no c = λ _.
    let s = state_of c.args.self.now in
    orphan c.args.self.now c.args.path.now (sym c.is_fixed.ensures ∙ c.if-is_fixed.false) (ap (is_folder s) (sym c.parent_parts.ensures) ∙ sym c.is_folder.ensures ∙ c.if-not-is_folder.true)

pub returns-in_default-clause-yes : goal.returns-in_default-clause-yes
returns-in_default-clause-yes c = λ _.
    let s = state_of c.args.self.now in
    folder_stands c.args.self.now c.args.path.now (sym c.is_fixed.ensures ∙ c.if-is_fixed.false) (ap (is_folder s) (sym c.parent_parts.ensures) ∙ sym c.is_folder.ensures ∙ c.if-not-is_folder.false)
    (ap (is_file s) (sym c.parts.ensures.same) ∙ c.in_default.ensures.none)

pub returns-clause-yes : goal.returns-clause-yes
returns-clause-yes c = λ _.
    let s = state_of c.args.self.now in
    file_stands c.args.self.now c.args.path.now c.in-Some.number (sym c.is_fixed.ensures ∙ c.if-is_fixed.false) (ap (is_folder s) (sym c.parent_parts.ensures) ∙ sym c.is_folder.ensures ∙ c.if-not-is_folder.false)
    (ap (place_at s) (sym c.parts.ensures.same) ∙ c.in-Some.ensures.some) (omega (arith, c.if-number-count.false, ap length c.as_slice-count.ensures))

pub returns-then-number-count-clause-no : goal.returns-then-number-count-clause-no
returns-then-number-count-clause-no c = λ _ stands.
    let t = c.args.self.now in
    let beyond : length t.nodes ≤ c.in-Some.number = omega (arith, c.if-number-count.true, ap length c.as_slice-count.ensures) in
    tree_no_node t c.in-Some.number beyond (stands.node c.in-Some.number (ap (place_at (state_of t)) (sym c.parts.ensures.same) ∙ c.in-Some.ensures.some))
