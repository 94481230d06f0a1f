use Rattle.std.proofs.Common.{◌∙◌, ap, [], ◌∷◌, ◌++◌, false}
use Rattle.jl_memory.specs.Tables.{found_node}
use Rattle.jl_folder.specs.State.{new_node}
use Rattle.jl_memory.proofs.DiskLemmas.{agrees-create, found_node-push}
use Rattle.jl_memory.proofs.disk.apply_create.Goals as goal

pub returns-clause-ok : goal.returns-clause-ok
returns-clause-ok c = λ s a allowed.
    agrees-create s c.args.token.now _ c.set_place.new.places.items _ c.push.new.self.items a c.args.path.now c.args.number c.in_ok-set_place.ensures.ok
    (λ k. let pushed = c.in-Ok.ensures.items in
    ap (λ es. found_node es k) (pushed ∙ (λ i. c.in_ok-reserve.ensures.items i ++ (c.args.number, record { bytes = (c.new-2.ensures ∙ c.new.ensures.items) i; maker = c.in_ok-copy.ensures i; frozen = false }) ∷ []))
    ∙ found_node-push c.args.nodes.now.items c.args.number (new_node c.args.token.now) (a.node_is c.args.number ∙ allowed.2) k)
