use Rattle.std.proofs.Common.{inl, refl}
use Rattle.jl_memory.proofs.CallLemmas.{call_begun, call_acted, answers_begun, answers_acted, plays_begun, plays_acted, obeys_begun, obeys_acted}
use Rattle.jl_memory.proofs.calls.MemFolderFolder.remove_dir.Goals as goal

pub returns-then-begin-clause-call : goal.returns-then-begin-clause-call
returns-then-begin-clause-call c = λ t. call_begun c.args.self.now c.begin.new.self c.begin.result _ c.begin.ensures.begins t (inl refl)

pub returns-then-begin-clause-frame : goal.returns-then-begin-clause-frame
returns-then-begin-clause-frame c = answers_begun c.args.self.now c.begin.new.self c.begin.result _ c.begin.ensures.begins c.if-begin.true refl

pub returns-then-begin-clause-plays : goal.returns-then-begin-clause-plays
returns-then-begin-clause-plays c = plays_begun c.args.self.now c.begin.new.self c.begin.result c.begin.ensures.begins

pub returns-then-begin-clause-obeys : goal.returns-then-begin-clause-obeys
returns-then-begin-clause-obeys c = λ t. obeys_begun c.args.self.now c.begin.new.self c.begin.result _ c.begin.ensures.begins t (c.begin.ensures.answer t) c.if-begin.true refl

pub returns-clause-call : goal.returns-clause-call
returns-clause-call c = λ t. call_acted c.args.self.now c.begin.new.self c.drop_dir.new.self c.begin.result _ _ c.begin.ensures.begins t c.drop_dir.ensures.acts

pub returns-clause-frame : goal.returns-clause-frame
returns-clause-frame c = answers_acted c.args.self.now c.begin.new.self c.drop_dir.new.self c.begin.result _ _ c.begin.ensures.begins c.if-begin.false c.drop_dir.ensures.acts c.drop_dir.ensures.opens

pub returns-clause-plays : goal.returns-clause-plays
returns-clause-plays c = plays_acted c.args.self.now c.begin.new.self c.drop_dir.new.self c.begin.result _ _ c.begin.ensures.begins c.drop_dir.ensures.acts

pub returns-clause-obeys : goal.returns-clause-obeys
returns-clause-obeys c = λ t. obeys_acted c.args.self.now c.drop_dir.new.self c.begin.result _ (c.begin.ensures.answer t) c.if-begin.false c.drop_dir.ensures.fine
