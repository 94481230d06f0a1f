use Rattle.std.proofs.Common.{◌≡◌, sym, ◌∙◌, ap, subst}
use Rattle.std.specs.List.{enumerate_from}
use Rattle.jl_folder.specs.State.{run, IsTrace}
use Rattle.jl_memory.specs.Tables.{Agrees, state_of}
use Rattle.jl_memory.proofs.DiskLemmas.{agrees_start}
use Rattle.jl_memory.proofs.disk.Disk.new.Goals as goal

pub returns-clause-sound : goal.returns-clause-sound
returns-clause-sound c =
    let t = c.args.start in
    let nodes : c.in_ok-nodes.nodes.items ≡ enumerate_from 0 t.nodes = c.in_ok-nodes.ensures ∙ ap (enumerate_from 0) c.as_slice.ensures in
    let agrees : Agrees (state_of t) c.in_ok-places.places.items c.in_ok-nodes.nodes.items = subst (λ ps. Agrees (state_of t) ps c.in_ok-nodes.nodes.items) (sym c.in_ok-places.ensures) (subst (Agrees (state_of t) _) (sym nodes) (agrees_start t)) in
    record {
      agrees = subst (λ tr. Agrees (run (state_of t) tr) c.in_ok-places.places.items c.in_ok-nodes.nodes.items) (sym c.new.ensures.items) agrees;
      start = c.requires;
      trace = subst (IsTrace (state_of t)) (sym c.new.ensures.items) tt;
    }
