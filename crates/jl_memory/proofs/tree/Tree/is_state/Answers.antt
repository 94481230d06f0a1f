use Rattle.jl_memory.proofs.TreeLemmas.{tree_state, folders_stand, names_stand}
use Rattle.jl_memory.proofs.tree.Tree.is_state.Goals as goal

pub returns-then-not-folders_stand_well-clause-no : goal.returns-then-not-folders_stand_well-clause-no
returns-then-not-folders_stand_well-clause-no c = λ _ state. c.folders_stand_well.ensures.no c.if-not-folders_stand_well.true (folders_stand c.args.self.now state)

pub returns-clause-yes : goal.returns-clause-yes
returns-clause-yes c = λ is. tree_state c.args.self.now (c.folders_stand_well.ensures.yes c.if-not-folders_stand_well.false) (c.names_stand_well.ensures.yes is)

pub returns-clause-no : goal.returns-clause-no
returns-clause-no c = λ is state. c.names_stand_well.ensures.no is (names_stand c.args.self.now state)
