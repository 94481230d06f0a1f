use Rattle.std.proofs.Common.{map, ap, ◌∙◌}
use Rattle.std.specs.List.{list_any}
use Rattle.std.specs.Str.{bytes_eq}
use Rattle.jl_module.proofs.NameLemmas.{name_added, bytes_pushed}
use Rattle.jl_module.proofs.names.Names.with.Goals as goal

pub invariant_of-result : goal.invariant_of-result
invariant_of-result c = λ q.
    name_added q c.args.name.now (map (λ x. x.now) c.self.inside.list.items) _ _ (c.in_ok-insert.ensures.updates.0 (record { ref_ptr = (0, 0); now = q })) (c.self.invariant q)
    ∙ ap (list_any (bytes_eq q)) (bytes_pushed c.self.inside.list.items c.push.new.self.items c.args.name c.in_ok-push.ensures.items)
