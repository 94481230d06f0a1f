use Rattle.std.proofs.Common.{◌≡◌, refl, sym, subst}
use Rattle.jl_folder.specs.OpenTable.{opens_of}
use Rattle.jl_folder.specs.Calls.{ReadsBytes, IsOpen}
use Rattle.jl_folder.specs.declared.folder.ReadAt.TheVariants as read_at
use Rattle.jl_memory.specs.Steps.{Acts}
use Rattle.jl_memory.proofs.CallLemmas.{call_begun, call_acted, answers_begun, answers_acted, plays_begun, plays_acted, obeys_begun, obeys_acted}
use Rattle.jl_memory.proofs.calls.MemFolderFolder.read_at.Goals as goal

pub returns-then-begin-clause-call : goal.returns-then-begin-clause-call
returns-then-begin-clause-call c = λ t. call_begun c.args.self.now c.begin.new.self c.begin.result _ c.begin.ensures.begins t refl

pub returns-then-begin-clause-frame : goal.returns-then-begin-clause-frame
returns-then-begin-clause-frame c = answers_begun c.args.self.now c.begin.new.self c.begin.result _ c.begin.ensures.begins c.if-begin.true refl

pub returns-then-begin-clause-plays : goal.returns-then-begin-clause-plays
returns-then-begin-clause-plays c = plays_begun c.args.self.now c.begin.new.self c.begin.result c.begin.ensures.begins

pub returns-then-begin-clause-obeys : goal.returns-then-begin-clause-obeys
returns-then-begin-clause-obeys c = λ t. obeys_begun c.args.self.now c.begin.new.self c.begin.result _ c.begin.ensures.begins t (c.begin.ensures.answer t) c.if-begin.true refl

pub returns-clause-call : goal.returns-clause-call
returns-clause-call c = λ t. call_acted c.args.self.now c.begin.new.self c.read_out.new.self c.begin.result _ _ c.begin.ensures.begins t (subst (λ files. Acts (c.read_out.result ≡ read_at.Failed) (ReadsBytes c.args.number.0 c.args.at c.args.buf.now c.read_out.new.buf (opens_of files) c.read_out.result) c.begin.new.self c.read_out.new.self) c.begin.ensures.begins.opens c.read_out.ensures.acts)

pub returns-clause-frame : goal.returns-clause-frame
returns-clause-frame c = answers_acted c.args.self.now c.begin.new.self c.read_out.new.self c.begin.result _ _ c.begin.ensures.begins c.if-begin.false c.read_out.ensures.acts c.read_out.ensures.opens

pub returns-clause-plays : goal.returns-clause-plays
returns-clause-plays c = plays_acted c.args.self.now c.begin.new.self c.read_out.new.self c.begin.result _ _ c.begin.ensures.begins c.read_out.ensures.acts

pub returns-clause-obeys : goal.returns-clause-obeys
returns-clause-obeys c = λ t. obeys_acted c.args.self.now c.read_out.new.self c.begin.result _ (c.begin.ensures.answer t) c.if-begin.false (c.read_out.ensures.fine (c.begin.ensures.begins.told t))

pub returns-clause-whole : goal.returns-clause-whole
returns-clause-whole c = λ t. c.read_out.ensures.whole (c.begin.ensures.begins.told t)

pub read_out-requires : goal.read_out-requires
read_out-requires c = record { is_open = subst (λ files. IsOpen (opens_of files) c.args.number.0) (sym c.begin.ensures.begins.opens) c.requires.is_open; room = c.requires.room }
