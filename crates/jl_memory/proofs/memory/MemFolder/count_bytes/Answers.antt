use Rattle.std.proofs.Common.{arith, ◌≤◌, ◌-◌, ◌^◌, ◌≡◌, length, true≢false, None, Some, is_some, sym, ◌∙◌, ap, refl}
use Rattle.jl_folder.specs.declared.moves.Place.TheVariants.{File}
use Rattle.jl_folder.specs.State.{place_at, node_at, is_file}
use Rattle.jl_memory.specs.Memory.{mem_state, IsTold}
use Rattle.jl_memory.specs.Tables.{found_node}
use Rattle.jl_memory.proofs.ToldLemmas.{sound_named}
use Rattle.jl_memory.proofs.CallLemmas.{acts_none, acts_failed}
use Rattle.jl_memory.proofs.memory.MemFolder.count_bytes.Goals as goal

pub returns-in_default-clause-acts : goal.returns-in_default-clause-acts
returns-in_default-clause-acts c =
    let m = c.args.self.now in
    acts_none m _ _ (λ e. cc) (λ t. (ap (is_file (mem_state m)) (sym c.parts.ensures.same) ∙ c.in_default.ensures.none t.disk, refl))

pub returns-in_default-node_of-clause-acts : goal.returns-in_default-node_of-clause-acts
returns-in_default-node_of-clause-acts c =
    let m = c.args.self.now in
    let most : m.faults ≤ 2 ^ 64 - 1 = omega arith in
    acts_failed m m _ _ ⊥ _ (acts_none m ⊥ _ (λ e. e) (λ t. refl)) (λ e. e) refl most c.saturating_add-self.ensures

pub returns-in_default-node_of-clause-fine : goal.returns-in_default-node_of-clause-fine
returns-in_default-node_of-clause-fine c =
    let m = c.args.self.now in
    let named : IsTold m → place_at (mem_state m) c.args.path.now ≡ Some (File c.in-Some.number) = λ t. ap (place_at (mem_state m)) (sym c.parts.ensures.same) ∙ c.in-Some.ensures.some t.disk in
    λ t is.
    let number = c.in-Some.number in
    let none : found_node c.as_slice.result.now number ≡ None = sym c.in_default-node_of.ensures in
    true≢false (sym (sound_named m.disk t.disk c.args.path.now number (named t)) ∙ ap is_some (sym (t.disk.agrees.node_is number) ∙ ap (λ es. found_node es number) (sym c.as_slice.ensures.value) ∙ none))

pub returns-clause-acts : goal.returns-clause-acts
returns-clause-acts c =
    let m = c.args.self.now in
    let named : IsTold m → place_at (mem_state m) c.args.path.now ≡ Some (File c.in-Some.number) = λ t. ap (place_at (mem_state m)) (sym c.parts.ensures.same) ∙ c.in-Some.ensures.some t.disk in
    let view = c.in-Some-node_of.node.now in
    let node_is : IsTold m → node_at (mem_state m) c.in-Some.number ≡ Some view = λ t. sym (t.disk.agrees.node_is c.in-Some.number) ∙ ap (λ es. found_node es c.in-Some.number) (sym c.as_slice.ensures.value) ∙ sym c.in-Some-node_of.ensures in
    acts_none m _ _ (λ e. cc) (λ t. ((c.in-Some.number, view, named t, node_is t, ap length c.as_slice-2.ensures), refl))
