use Rattle.std.proofs.Common.{◌≡◌, ℕ, cond, nat_eq, option_map, subst}
use Rattle.jl_folder.specs.State.{appended}
use Rattle.jl_memory.specs.Tables.{found_node}
use Rattle.jl_memory.proofs.DiskLemmas.{agrees-make_dir, agrees-remove, agrees-append}
use Rattle.jl_memory.proofs.disk.apply.Goals as goal

pub returns-in_ok-set_place-in-MakeDir-clause-ok : goal.returns-in_ok-set_place-in-MakeDir-clause-ok
returns-in_ok-set_place-in-MakeDir-clause-ok c = rw c.in-MakeDir.is (λ s a allowed. agrees-make_dir s c.args.token.now _ c.set_place.new.places.items _ c.args.nodes.now.items a c.in-MakeDir.path c.in_ok-set_place-in-MakeDir.ensures.ok)

pub returns-in_ok-append_node-in-Append-clause-ok : goal.returns-in_ok-append_node-in-Append-clause-ok
returns-in_ok-append_node-in-Append-clause-ok c = rw c.in-Append.is (λ s a allowed.
    agrees-append s c.args.token.now _ c.args.places.now.items _ c.append_node.new.nodes.items a c.in-Append.number c.in-Append.bytes
    (subst (λ b. (k : ℕ) → found_node c.append_node.new.nodes.items k ≡ cond (nat_eq k c.in-Append.number) (option_map (appended b) (found_node c.args.nodes.now.items k)) (found_node c.args.nodes.now.items k)) c.as_slice.ensures c.in_ok-append_node-in-Append.ensures.ok))

pub returns-in_ok-apply_rename-in-Rename-clause-ok : goal.returns-in_ok-apply_rename-in-Rename-clause-ok
returns-in_ok-apply_rename-in-Rename-clause-ok c = rw c.in-Rename.is (λ s a allowed. c.in_ok-apply_rename-in-Rename.ensures.ok s c.args.token.now a allowed)

pub returns-in-Remove-clause-ok : goal.returns-in-Remove-clause-ok
returns-in-Remove-clause-ok c = rw c.in-Remove.is (λ s a allowed. agrees-remove s c.args.token.now _ c.clear_place.new.places.items _ c.args.nodes.now.items a c.in-Remove.path c.clear_place.ensures)

pub returns-in-RemoveDir-clause-ok : goal.returns-in-RemoveDir-clause-ok
returns-in-RemoveDir-clause-ok c = rw c.in-RemoveDir.is (λ s a allowed. agrees-remove s c.args.token.now _ c.clear_place-in-RemoveDir.new.places.items _ c.args.nodes.now.items a c.in-RemoveDir.path c.clear_place-in-RemoveDir.ensures)
