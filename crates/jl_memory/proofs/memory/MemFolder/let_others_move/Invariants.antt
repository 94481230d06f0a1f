use Rattle.std.proofs.Common.{◌≡◌, vec_len, not, nat_eq}
use Rattle.std.specs.List.{filter}
use Rattle.jl_memory.specs.Memory.{IsTold}
use Rattle.jl_memory.specs.Steps.{SoFar}
use Rattle.jl_memory.proofs.memory.MemFolder.let_others_move.Given as goal

abbrev pub invariant-loop-i : goal.invariant-loop-i
invariant-loop-i l = record {
  told : IsTold l.initial.self → IsTold l.self;
  moved : IsTold l.initial.self → SoFar l.initial.self l.self;
  token : l.self.token ≡ l.initial.self.token;
  opens : l.self.opens.items ≡ l.initial.self.opens.items;
  faults : l.self.faults ≡ l.initial.self.faults;
  calls : l.self.calls ≡ l.initial.self.calls;
  failing : l.self.failing ≡ l.initial.self.failing;
  stop : l.self.stop ≡ l.initial.self.stop;
  named : l.self.named ≡ l.initial.self.named;
  begun : l.self.begun ≡ l.initial.self.begun;
  others : filter (λ o. not (nat_eq o.0 l.initial.self.calls)) l.self.others.items ≡ filter (λ o. not (nat_eq o.0 l.initial.self.calls)) l.initial.self.others.items;
}

abbrev pub decreases-loop-i : goal.decreases-loop-i
decreases-loop-i l = vec_len l.self.others
