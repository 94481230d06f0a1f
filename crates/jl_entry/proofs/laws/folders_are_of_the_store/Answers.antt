use Rattle.std.proofs.Common.{inr, [], ◌∷◌, sym, refl, append-nil}
use Rattle.jl_entry.specs.Names.{IsStoreFolder}
use Rattle.jl_entry.proofs.laws.folders_are_of_the_store.Goals as goal

pub returns-clause-root : goal.returns-clause-root
unfolding IsStoreFolder
returns-clause-root c root = inr ([], tt, sym (append-nil root))

pub returns-clause-of_module : goal.returns-clause-of_module
unfolding IsStoreFolder
returns-clause-of_module c root m h = inr (m ∷ [], h, refl)

pub returns-clause-of_function : goal.returns-clause-of_function
unfolding IsStoreFolder
returns-clause-of_function c root m f h k = inr (m ∷ f ∷ [], (h, k), refl)

pub returns-clause-of_entry : goal.returns-clause-of_entry
unfolding IsStoreFolder
returns-clause-of_entry c root m f k h i j = inr (m ∷ f ∷ k ∷ [], (h, i, j), refl)
