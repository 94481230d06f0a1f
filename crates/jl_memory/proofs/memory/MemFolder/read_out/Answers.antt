use Rattle.std.proofs.Common.{arith, ◌≤◌, ◌-◌, ◌^◌, ◌≡◌, ◌++◌, min, length, take, drop, true≢false, None, Some, is_some, sym, ◌∙◌, ap, subst, refl}
use Rattle.jl_folder.specs.State.{node_at}
use Rattle.jl_folder.specs.OpenTable.{opens_of}
use Rattle.jl_memory.specs.Memory.{mem_state, IsTold}
use Rattle.jl_memory.specs.Tables.{found_node}
use Rattle.jl_memory.proofs.ToldLemmas.{some_same}
use Rattle.jl_memory.proofs.CallLemmas.{acts_none, acts_failed}
use Rattle.jl_memory.proofs.memory.MemFolder.read_out.Goals as goal

pub returns-in_default-node_of-clause-acts : goal.returns-in_default-node_of-clause-acts
returns-in_default-node_of-clause-acts c =
    let m = c.args.self.now in
    let most : m.faults ≤ 2 ^ 64 - 1 = omega arith in
    acts_failed m m _ _ ⊥ _ (acts_none m ⊥ _ (λ e. e) (λ t. refl)) (λ e. e) refl most c.saturating_add-self.ensures

pub returns-in_default-node_of-clause-fine : goal.returns-in_default-node_of-clause-fine
returns-in_default-node_of-clause-fine c =
    let m = c.args.self.now in
    λ t is.
    let file = c.in-Some.file in
    let is_open : opens_of m.opens.items c.args.number.0 ≡ Some file = ap (λ files. opens_of files c.args.number.0) (sym c.as_slice.ensures.value) ∙ sym c.in-Some.ensures in
    let none : found_node c.as_slice-2.result.now file.node ≡ None = sym c.in_default-node_of.ensures in
    true≢false (sym (t.opens c.args.number.0 file is_open) ∙ ap is_some (sym (t.disk.agrees.node_is file.node) ∙ ap (λ es. found_node es file.node) (sym c.as_slice-2.ensures.value) ∙ none))

pub returns-clause-acts : goal.returns-clause-acts
returns-clause-acts c =
    let m = c.args.self.now in
    let view = c.in-Some-node_of.node.now in
    let is_open : opens_of m.opens.items c.args.number.0 ≡ Some c.in-Some.file = ap (λ files. opens_of files c.args.number.0) (sym c.as_slice.ensures.value) ∙ sym c.in-Some.ensures in
    let node_is : IsTold m → node_at (mem_state m) c.in-Some.file.node ≡ Some view = λ t. sym (t.disk.agrees.node_is c.in-Some.file.node) ∙ ap (λ es. found_node es c.in-Some.file.node) (sym c.as_slice-2.ensures.value) ∙ sym c.in-Some-node_of.ensures in
    let bytes = c.as_slice-3.ensures in
    acts_none m _ _ (λ e. cc) (λ t. record {
      file = c.in-Some.file;
      view = view;
      was_open = is_open;
      node_is = node_is t;
      bytes = c.copy_out.ensures.copied ∙ ap (λ l. take c.copy_out.result (drop c.args.at l) ++ drop c.copy_out.result c.args.buf.now) bytes;
      within = subst (λ l. c.copy_out.result ≤ length l - c.args.at) bytes c.copy_out.ensures.within;
      at_end = λ none. subst (λ l. length l ≤ c.args.at) bytes (c.copy_out.ensures.end c.requires.room none);
      move_is = refl;
    })

pub returns-clause-whole : goal.returns-clause-whole
returns-clause-whole c =
    let m = c.args.self.now in
    let view = c.in-Some-node_of.node.now in
    let is_open : opens_of m.opens.items c.args.number.0 ≡ Some c.in-Some.file = ap (λ files. opens_of files c.args.number.0) (sym c.as_slice.ensures.value) ∙ sym c.in-Some.ensures in
    let node_is : IsTold m → node_at (mem_state m) c.in-Some.file.node ≡ Some view = λ t. sym (t.disk.agrees.node_is c.in-Some.file.node) ∙ ap (λ es. found_node es c.in-Some.file.node) (sym c.as_slice-2.ensures.value) ∙ sym c.in-Some-node_of.ensures in
    λ t file view' is node.
    let same_file : c.in-Some.file ≡ file = some_same (sym is_open ∙ is) in
    let same_view : view ≡ view' = some_same (sym (node_is t) ∙ ap (λ f. node_at (mem_state m) f.node) same_file ∙ node) in
    c.copy_out.ensures.whole ∙ ap (λ l. min (length c.args.buf.now) (length l - c.args.at)) (c.as_slice-3.ensures ∙ ap (λ v. v.bytes) same_view)
