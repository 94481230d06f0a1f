use Rattle.std.proofs.Common.{◌≡◌, [], ◌∷◌, ◌++◌, sym, ◌∙◌, ap, subst}
use Rattle.jl_folder.specs.State.{run, after, IsTrace}
use Rattle.jl_memory.specs.Tables.{Agrees, state_of}
use Rattle.jl_memory.specs.Disk.{disk_state}
use Rattle.jl_folder.proofs.Traces.{run-append, IsTrace-append}
use Rattle.jl_memory.proofs.disk.Disk.make.Goals as goal

pub returns-clause-ok : goal.returns-clause-ok
returns-clause-ok c = λ sound allowed.
    let d = c.args.self.now in
    let pushed : c.push.new.self.items ≡ d.trace.items ++ (c.args.token, c.args.change) ∷ [] = c.in-Ok.ensures.items ∙ ap (λ es. es ++ (c.args.token, c.args.change) ∷ []) c.in_ok-reserve.ensures.items in
    let state : run (state_of d.start) c.push.new.self.items ≡ after (disk_state d) (c.args.token, c.args.change) = ap (run (state_of d.start)) pushed ∙ run-append (state_of d.start) d.trace.items ((c.args.token, c.args.change) ∷ []) in
    record {
      agrees = subst (λ s. Agrees s c.apply.new.places.items c.apply.new.nodes.items) (sym state) (c.in_ok-apply.ensures.ok (disk_state d) sound.agrees allowed);
      start = sound.start;
      trace = subst (IsTrace (state_of d.start)) (sym pushed) (IsTrace-append (state_of d.start) d.trace.items ((c.args.token, c.args.change) ∷ []) sound.trace (allowed, tt));
    }
