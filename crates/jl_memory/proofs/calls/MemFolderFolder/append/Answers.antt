use Rattle.std.proofs.Common.{◌≡◌, inl, inr, refl, sym, ◌∙◌, subst, length}
use Rattle.jl_folder.specs.OpenTable.{opens_of}
use Rattle.jl_folder.specs.Calls.{AppendsBytes, AppendsSome, IsMade}
use Rattle.jl_folder.specs.declared.folder.Appended.TheVariants as appended
use Rattle.jl_memory.specs.Scripts.{AppendsAll}
use Rattle.jl_memory.specs.Steps.{Acts}
use Rattle.jl_memory.proofs.CallLemmas.{call_begun, call_acted, answers_begun, answers_acted, plays_begun, plays_acted, obeys_failing, obeys_torn, obeys_added}
use Rattle.jl_memory.proofs.calls.MemFolderFolder.append.Goals as goal

pub returns-then-start_append-clause-call : goal.returns-then-start_append-clause-call
returns-then-start_append-clause-call c = λ t. call_begun c.args.self.now c.start_append.new.self c.start_append.result _ c.start_append.ensures.begins t (inl refl)

pub returns-then-start_append-clause-frame : goal.returns-then-start_append-clause-frame
returns-then-start_append-clause-frame c = answers_begun c.args.self.now c.start_append.new.self c.start_append.result _ c.start_append.ensures.begins c.if-start_append.true refl

pub returns-then-start_append-clause-plays : goal.returns-then-start_append-clause-plays
returns-then-start_append-clause-plays c = plays_begun c.args.self.now c.start_append.new.self c.start_append.result c.start_append.ensures.begins

pub returns-then-start_append-clause-obeys : goal.returns-then-start_append-clause-obeys
returns-then-start_append-clause-obeys c = λ t. obeys_failing c.args.self.now c.start_append.new.self c.start_append.result c.args.number.0 c.args.bytes.now c.start_append.ensures.begins t c.start_append.ensures.answer c.if-start_append.true

pub returns-then-is_stopped-clause-call : goal.returns-then-is_stopped-clause-call
returns-then-is_stopped-clause-call c = λ t. call_acted c.args.self.now c.start_append.new.self c.tear.new.self c.start_append.result _ _ c.start_append.ensures.begins t (subst (λ files. Acts (c.tear.result ≡ appended.Failed) (AppendsBytes c.args.number.0 c.args.bytes.now (opens_of files) c.tear.result) c.start_append.new.self c.tear.new.self) c.start_append.ensures.begins.opens c.tear.ensures.acts)

pub returns-then-is_stopped-clause-frame : goal.returns-then-is_stopped-clause-frame
returns-then-is_stopped-clause-frame c = answers_acted c.args.self.now c.start_append.new.self c.tear.new.self c.start_append.result _ _ c.start_append.ensures.begins c.if-start_append.false c.tear.ensures.acts c.tear.ensures.opens

pub returns-then-is_stopped-clause-plays : goal.returns-then-is_stopped-clause-plays
returns-then-is_stopped-clause-plays c = plays_acted c.args.self.now c.start_append.new.self c.tear.new.self c.start_append.result _ _ c.start_append.ensures.begins c.tear.ensures.acts

pub returns-then-is_stopped-clause-obeys : goal.returns-then-is_stopped-clause-obeys
returns-then-is_stopped-clause-obeys c = λ t. obeys_torn c.args.self.now c.start_append.new.self c.start_append.result c.args.number.0 c.args.bytes.now c.start_append.ensures.begins t c.start_append.ensures.answer c.tear.new.self c.tear.result c.if-start_append.false (sym c.is_stopped.ensures ∙ c.if-is_stopped.true) c.tear.ensures.cut

pub tear-requires : goal.tear-requires
tear-requires c = subst (λ files. IsMade (opens_of files) c.args.number.0) (sym c.start_append.ensures.begins.opens) c.requires

pub add_bytes-requires : goal.add_bytes-requires
add_bytes-requires c = subst (λ files. IsMade (opens_of files) c.args.number.0) (sym c.start_append.ensures.begins.opens) c.requires

pub returns-then-is_stopped-clause-some : goal.returns-then-is_stopped-clause-some
returns-then-is_stopped-clause-some c = elim c.tear.ensures.some [ inl failed ↦ subst (AppendsSome (length c.args.bytes.now)) (sym failed) tt | inr none ↦ subst (AppendsSome (length c.args.bytes.now)) (sym none) tt ]

pub returns-then-is_stopped-clause-whole : goal.returns-then-is_stopped-clause-whole
returns-then-is_stopped-clause-whole c = elim c.tear.ensures.some [ inl failed ↦ subst (AppendsAll (length c.args.bytes.now)) (sym failed) tt | inr none ↦ subst (AppendsAll (length c.args.bytes.now)) (sym none) tt ]

pub returns-clause-call : goal.returns-clause-call
returns-clause-call c = λ t. call_acted c.args.self.now c.start_append.new.self c.add_bytes.new.self c.start_append.result _ _ c.start_append.ensures.begins t (subst (λ files. Acts (c.add_bytes.result ≡ appended.Failed) (AppendsBytes c.args.number.0 c.args.bytes.now (opens_of files) c.add_bytes.result) c.start_append.new.self c.add_bytes.new.self) c.start_append.ensures.begins.opens c.add_bytes.ensures.acts)

pub returns-clause-frame : goal.returns-clause-frame
returns-clause-frame c = answers_acted c.args.self.now c.start_append.new.self c.add_bytes.new.self c.start_append.result _ _ c.start_append.ensures.begins c.if-start_append.false c.add_bytes.ensures.acts c.add_bytes.ensures.opens

pub returns-clause-plays : goal.returns-clause-plays
returns-clause-plays c = plays_acted c.args.self.now c.start_append.new.self c.add_bytes.new.self c.start_append.result _ _ c.start_append.ensures.begins c.add_bytes.ensures.acts

pub returns-clause-obeys : goal.returns-clause-obeys
returns-clause-obeys c = λ t. obeys_added c.args.self.now c.start_append.new.self c.start_append.result c.args.number.0 c.args.bytes.now c.start_append.ensures.begins t c.start_append.ensures.answer c.add_bytes.new.self c.add_bytes.result c.if-start_append.false (sym c.is_stopped.ensures ∙ c.if-is_stopped.false) c.add_bytes.ensures.fine
