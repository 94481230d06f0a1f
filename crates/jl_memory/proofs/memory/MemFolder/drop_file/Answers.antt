use Rattle.std.proofs.Common.{◌≡◌, true, Some, sym, ◌∙◌, ap, subst, refl, inl}
use Rattle.jl_folder.specs.declared.moves.Move.TheVariants.{Remove}
use Rattle.jl_folder.specs.State.{Allowed, is_file}
use Rattle.jl_memory.specs.Memory.{mem_state, IsTold}
use Rattle.jl_memory.proofs.CallLemmas.{acts_none, acts_made, acts_stays}
use Rattle.jl_memory.proofs.memory.MemFolder.drop_file.Goals as goal

pub returns-then-not-is_file-clause-acts : goal.returns-then-not-is_file-clause-acts
returns-then-not-is_file-clause-acts c =
    let m = c.args.self.now in
    let s = mem_state m in
    let file_is : IsTold m → c.is_file.result ≡ is_file s c.args.path.now = λ t. c.is_file.ensures t.disk ∙ ap (is_file s) c.parts.ensures.same in
    acts_none m _ _ (λ e. cc) (λ t. (sym (file_is t) ∙ c.if-not-is_file.true, refl))

pub returns-in_default-clause-acts : goal.returns-in_default-clause-acts
returns-in_default-clause-acts c =
    let m = c.args.self.now in
    acts_none m _ _ (λ e. cc) (λ t. inl refl)

pub returns-in-Ok-make-clause-acts : goal.returns-in-Ok-make-clause-acts
returns-in-Ok-make-clause-acts c =
    let m = c.args.self.now in
    let s = mem_state m in
    let file_is : IsTold m → c.is_file.result ≡ is_file s c.args.path.now = λ t. c.is_file.ensures t.disk ∙ ap (is_file s) c.parts.ensures.same in
    let file : IsTold m → is_file s c.args.path.now ≡ true = λ t. sym (file_is t) ∙ c.if-not-is_file.false in
    acts_made m c.make.new.self (Remove c.in-Ok.copy) _ _ c.in-Ok-make.ensures.made (λ e. cc)
    (λ t. (subst (λ p. Allowed s (Remove p)) (sym c.in-Ok.ensures) (file t), (file t, ap (λ p. Some (Remove p)) c.in-Ok.ensures)))

pub returns-in-Err-clause-acts : goal.returns-in-Err-clause-acts
returns-in-Err-clause-acts c =
    let m = c.args.self.now in
    acts_stays m c.make.new.self _ _ c.in-Err.ensures.kept (λ e. cc) (λ t. inl refl)
