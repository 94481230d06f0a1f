use Rattle.std.proofs.Common.{refl}
use Rattle.jl_memory.proofs.CallLemmas.{waits_begun, answers_begun, answers_waited, plays_begun, obeys_begun, obeys_acted, lists_here}
use Rattle.jl_memory.proofs.calls.MemFolderFolder.list.Goals as goal

pub returns-then-begin-clause-waits : goal.returns-then-begin-clause-waits
returns-then-begin-clause-waits c = λ t. waits_begun c.args.self.now c.begin.new.self c.begin.result c.begin.ensures.begins t

pub returns-then-begin-clause-frame : goal.returns-then-begin-clause-frame
returns-then-begin-clause-frame c = answers_begun c.args.self.now c.begin.new.self c.begin.result _ c.begin.ensures.begins c.if-begin.true refl

pub returns-then-begin-clause-plays : goal.returns-then-begin-clause-plays
returns-then-begin-clause-plays c = plays_begun c.args.self.now c.begin.new.self c.begin.result c.begin.ensures.begins

pub returns-then-begin-clause-obeys : goal.returns-then-begin-clause-obeys
returns-then-begin-clause-obeys c = λ t. obeys_begun c.args.self.now c.begin.new.self c.begin.result _ c.begin.ensures.begins t (c.begin.ensures.answer t) c.if-begin.true refl

pub returns-clause-waits : goal.returns-clause-waits
returns-clause-waits c = λ t. waits_begun c.args.self.now c.begin.new.self c.begin.result c.begin.ensures.begins t

pub returns-clause-names : goal.returns-clause-names
returns-clause-names c = λ t. lists_here c.args.self.now c.begin.new.self c.args.path.now c.names_below.result (c.begin.ensures.begins.moved t) (c.names_below.ensures.here (c.begin.ensures.begins.told t))

pub returns-clause-frame : goal.returns-clause-frame
returns-clause-frame c = answers_waited c.args.self.now c.begin.new.self c.begin.result _ c.begin.ensures.begins c.if-begin.false c.names_below.ensures.fine

pub returns-clause-plays : goal.returns-clause-plays
returns-clause-plays c = plays_begun c.args.self.now c.begin.new.self c.begin.result c.begin.ensures.begins

pub returns-clause-obeys : goal.returns-clause-obeys
returns-clause-obeys c = λ t. obeys_acted c.args.self.now c.begin.new.self c.begin.result _ (c.begin.ensures.answer t) c.if-begin.false c.names_below.ensures.fine
