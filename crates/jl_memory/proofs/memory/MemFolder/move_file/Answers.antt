use Rattle.std.proofs.Common.{◌≡◌, true, false, Some, sym, ◌∙◌, ap, subst, refl, inl}
use Rattle.jl_folder.specs.declared.moves.Move.TheVariants.{Rename}
use Rattle.jl_folder.specs.State.{Allowed, is_file, is_folder, has_parent}
use Rattle.jl_memory.specs.Memory.{mem_state, IsTold}
use Rattle.jl_memory.proofs.CallLemmas.{acts_none, acts_made, acts_stays}
use Rattle.jl_memory.proofs.memory.MemFolder.move_file.Goals as goal

pub returns-then-not-is_file-clause-acts : goal.returns-then-not-is_file-clause-acts
returns-then-not-is_file-clause-acts c =
    let m = c.args.self.now in
    let s = mem_state m in
    let file_is : IsTold m → c.is_file.result ≡ is_file s c.args.from.now = λ t. c.is_file.ensures t.disk ∙ ap (is_file s) c.parts.ensures.same in
    acts_none m _ _ (λ e. cc) (λ t. (sym (file_is t) ∙ c.if-not-is_file.true, refl))

pub returns-then-not-has_parent-clause-acts : goal.returns-then-not-has_parent-clause-acts
returns-then-not-has_parent-clause-acts c =
    let m = c.args.self.now in
    let s = mem_state m in
    let file_is : IsTold m → c.is_file.result ≡ is_file s c.args.from.now = λ t. c.is_file.ensures t.disk ∙ ap (is_file s) c.parts.ensures.same in
    let file : IsTold m → is_file s c.args.from.now ≡ true = λ t. sym (file_is t) ∙ c.if-not-is_file.false in
    acts_none m _ _ (λ e. cc) (λ t. (file t, sym (c.has_parent.ensures t.disk) ∙ c.if-not-has_parent.true, refl))

pub returns-then-is_folder-clause-acts : goal.returns-then-is_folder-clause-acts
returns-then-is_folder-clause-acts c =
    let m = c.args.self.now in
    let s = mem_state m in
    let file_is : IsTold m → c.is_file.result ≡ is_file s c.args.from.now = λ t. c.is_file.ensures t.disk ∙ ap (is_file s) c.parts.ensures.same in
    let file : IsTold m → is_file s c.args.from.now ≡ true = λ t. sym (file_is t) ∙ c.if-not-is_file.false in
    let parented : IsTold m → has_parent s c.args.to.now ≡ true = λ t. sym (c.has_parent.ensures t.disk) ∙ c.if-not-has_parent.false in
    let folder_is : IsTold m → c.is_folder.result ≡ is_folder s c.args.to.now = λ t. c.is_folder.ensures t.disk ∙ ap (is_folder s) c.parts-2.ensures.same in
    acts_none m _ _ (λ e. cc) (λ t. (file t, parented t, sym (folder_is t) ∙ c.if-is_folder.true, refl))

pub returns-in_default-clause-acts : goal.returns-in_default-clause-acts
returns-in_default-clause-acts c =
    let m = c.args.self.now in
    acts_none m _ _ (λ e. cc) (λ t. inl refl)

pub returns-in_default-copy-clause-acts : goal.returns-in_default-copy-clause-acts
returns-in_default-copy-clause-acts c =
    let m = c.args.self.now in
    acts_none m _ _ (λ e. cc) (λ t. inl refl)

pub returns-in-Ok-make-clause-acts : goal.returns-in-Ok-make-clause-acts
returns-in-Ok-make-clause-acts c =
    let m = c.args.self.now in
    let s = mem_state m in
    let file_is : IsTold m → c.is_file.result ≡ is_file s c.args.from.now = λ t. c.is_file.ensures t.disk ∙ ap (is_file s) c.parts.ensures.same in
    let file : IsTold m → is_file s c.args.from.now ≡ true = λ t. sym (file_is t) ∙ c.if-not-is_file.false in
    let parented : IsTold m → has_parent s c.args.to.now ≡ true = λ t. sym (c.has_parent.ensures t.disk) ∙ c.if-not-has_parent.false in
    let folder_is : IsTold m → c.is_folder.result ≡ is_folder s c.args.to.now = λ t. c.is_folder.ensures t.disk ∙ ap (is_folder s) c.parts-2.ensures.same in
    let vacant : IsTold m → is_folder s c.args.to.now ≡ false = λ t. sym (folder_is t) ∙ c.if-is_folder.false in
    let same : Rename c.in-Ok.old c.in-Ok-copy.new ≡ Rename c.args.from.now c.args.to.now = λ j. Rename (c.in-Ok.ensures j) (c.in-Ok-copy.ensures j) in
    acts_made m c.make.new.self (Rename c.in-Ok.old c.in-Ok-copy.new) _ _ c.in-Ok-make.ensures.made (λ e. cc)
    (λ t. (subst (Allowed s) (sym same) (c.requires, file t, parented t, vacant t), (file t, parented t, vacant t, ap (λ m. Some m) same)))

pub returns-in-Err-clause-acts : goal.returns-in-Err-clause-acts
returns-in-Err-clause-acts c =
    let m = c.args.self.now in
    acts_stays m c.make.new.self _ _ c.in-Err.ensures.kept (λ e. cc) (λ t. inl refl)
