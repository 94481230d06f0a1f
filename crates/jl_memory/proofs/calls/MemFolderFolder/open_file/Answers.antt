use Rattle.std.proofs.Common.{refl, ap, subst}
use Rattle.jl_folder.specs.OpenTable.{opens_of}
use Rattle.jl_folder.specs.Calls.{OpenedOpens}
use Rattle.jl_memory.proofs.CallLemmas.{call_begun, call_acted, turns_begun, turns_acted, plays_begun, plays_acted, obeys_begun, obeys_acted}
use Rattle.jl_memory.proofs.calls.MemFolderFolder.open_file.Goals as goal

pub returns-then-begin-clause-call : goal.returns-then-begin-clause-call
returns-then-begin-clause-call c = λ t. call_begun c.args.self.now c.begin.new.self c.begin.result _ c.begin.ensures.begins t refl

pub returns-then-begin-clause-frame : goal.returns-then-begin-clause-frame
returns-then-begin-clause-frame c = turns_begun c.args.self.now c.begin.new.self c.begin.result _ c.begin.ensures.begins c.if-begin.true refl

pub returns-then-begin-clause-plays : goal.returns-then-begin-clause-plays
returns-then-begin-clause-plays c = plays_begun c.args.self.now c.begin.new.self c.begin.result c.begin.ensures.begins

pub returns-then-begin-clause-obeys : goal.returns-then-begin-clause-obeys
returns-then-begin-clause-obeys c = λ t. obeys_begun c.args.self.now c.begin.new.self c.begin.result _ c.begin.ensures.begins t (c.begin.ensures.answer t) c.if-begin.true refl

pub returns-clause-call : goal.returns-clause-call
returns-clause-call c = λ t. call_acted c.args.self.now c.begin.new.self c.open_named.new.self c.begin.result _ _ c.begin.ensures.begins t c.open_named.ensures.acts

pub returns-clause-frame : goal.returns-clause-frame
returns-clause-frame c = turns_acted c.args.self.now c.begin.new.self c.open_named.new.self c.begin.result _ _ c.begin.ensures.begins c.if-begin.false c.open_named.ensures.acts

pub returns-clause-plays : goal.returns-clause-plays
returns-clause-plays c = plays_acted c.args.self.now c.begin.new.self c.open_named.new.self c.begin.result _ _ c.begin.ensures.begins c.open_named.ensures.acts

pub returns-clause-obeys : goal.returns-clause-obeys
returns-clause-obeys c = λ t. obeys_acted c.args.self.now c.open_named.new.self c.begin.result _ (c.begin.ensures.answer t) c.if-begin.false c.open_named.ensures.fine

pub returns-then-begin-clause-opens : goal.returns-then-begin-clause-opens
returns-then-begin-clause-opens c = ap opens_of c.begin.ensures.begins.opens

pub returns-clause-opens : goal.returns-clause-opens
returns-clause-opens c = subst (λ files. OpenedOpens c.open_named.result (opens_of files) (opens_of c.open_named.new.self.opens.items)) c.begin.ensures.begins.opens c.open_named.ensures.opens
