use Rattle.std.proofs.Common.{[], ◌∷◌, ◌++◌, refl, ◌∙◌, ap}
use Rattle.jl_memory.proofs.ToldLemmas.{told_on}
use Rattle.jl_memory.proofs.memory.MemFolder.make.Goals as goal

pub returns-clause-made : goal.returns-clause-made
returns-clause-made c = record {
  told = λ told allowed. told_on c.args.self.now _ ((c.in_ok-token.token, c.args.change) ∷ []) told (c.in_ok-make.ensures.ok told.disk allowed) c.make.ensures.start c.in_ok-make.ensures.made refl refl told.foreign;
  trace = c.in_ok-make.ensures.made ∙ ap (λ t. c.args.self.now.disk.trace.items ++ (t, c.args.change) ∷ []) c.in_ok-token.ensures;
  keeps = record {
    start = c.make.ensures.start;
    unmade = c.make.ensures.unmade;
    token = refl;
    opens = refl;
    faults = refl;
    script = record { calls = refl; failing = refl; stop = refl; named = refl; begun = refl; others = refl };
  };
}
