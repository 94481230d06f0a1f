use Rattle.std.proofs.Common.{◌≡◌, true, false, Some, is_some, sym, ◌∙◌, ap, subst, refl, inl, inr}
use Rattle.jl_folder.specs.declared.moves.Move.TheVariants.{RemoveDir}
use Rattle.jl_folder.specs.State.{Allowed, is_folder, IsEmptyFolder}
use Rattle.jl_memory.specs.Memory.{mem_state, IsTold}
use Rattle.jl_text.specs.Paths.{is_fixed}
use Rattle.jl_memory.specs.Tables.{found}
use Rattle.jl_memory.proofs.CallLemmas.{acts_none, acts_made, acts_stays}
use Rattle.jl_memory.proofs.memory.MemFolder.drop_dir.Goals as goal

pub returns-then-not-is_folder-clause-acts : goal.returns-then-not-is_folder-clause-acts
returns-then-not-is_folder-clause-acts c =
    let m = c.args.self.now in
    let s = mem_state m in
    let folder_is : IsTold m → c.is_folder.result ≡ is_folder s c.args.path.now = λ t. c.is_folder.ensures t.disk ∙ ap (is_folder s) c.parts.ensures.same in
    acts_none m _ _ (λ e. cc) (λ t. (sym (folder_is t) ∙ c.if-not-is_folder.true, refl))

pub returns-then-is_fixed-clause-acts : goal.returns-then-is_fixed-clause-acts
returns-then-is_fixed-clause-acts c =
    let m = c.args.self.now in
    let s = mem_state m in
    let folder_is : IsTold m → c.is_folder.result ≡ is_folder s c.args.path.now = λ t. c.is_folder.ensures t.disk ∙ ap (is_folder s) c.parts.ensures.same in
    let folder : IsTold m → is_folder s c.args.path.now ≡ true = λ t. sym (folder_is t) ∙ c.if-not-is_folder.false in
    acts_none m _ _ (λ e. cc) (λ t. (folder t, inl (sym c.is_fixed.ensures ∙ c.if-is_fixed.true), refl))

pub returns-then-has_child-clause-acts : goal.returns-then-has_child-clause-acts
returns-then-has_child-clause-acts c =
    let m = c.args.self.now in
    let s = mem_state m in
    let folder_is : IsTold m → c.is_folder.result ≡ is_folder s c.args.path.now = λ t. c.is_folder.ensures t.disk ∙ ap (is_folder s) c.parts.ensures.same in
    let folder : IsTold m → is_folder s c.args.path.now ≡ true = λ t. sym (folder_is t) ∙ c.if-not-is_folder.false in
    let one = c.has_child.ensures.yes c.if-has_child.true in
    acts_none m _ _ (λ e. cc) (λ t. (folder t, inr (one.0, one.1, one.2 ∙ c.parts-2.ensures.same, ap is_some (sym (t.disk.agrees.place_is one.0) ∙ ap (λ es. found es one.0) (sym c.as_slice.ensures.value)) ∙ one.3), refl))

pub returns-in_default-clause-acts : goal.returns-in_default-clause-acts
returns-in_default-clause-acts c =
    let m = c.args.self.now in
    acts_none m _ _ (λ e. cc) (λ t. inl refl)

pub returns-in-Ok-make-clause-acts : goal.returns-in-Ok-make-clause-acts
returns-in-Ok-make-clause-acts c =
    let m = c.args.self.now in
    let s = mem_state m in
    let folder_is : IsTold m → c.is_folder.result ≡ is_folder s c.args.path.now = λ t. c.is_folder.ensures t.disk ∙ ap (is_folder s) c.parts.ensures.same in
    let folder : IsTold m → is_folder s c.args.path.now ≡ true = λ t. sym (folder_is t) ∙ c.if-not-is_folder.false in
    let free : is_fixed c.args.path.now ≡ false = sym c.is_fixed.ensures ∙ c.if-is_fixed.false in
    let empty : IsTold m → IsEmptyFolder s c.args.path.now = λ t q apart child. sym (t.disk.agrees.place_is q) ∙ ap (λ es. found es q) (sym c.as_slice.ensures.value) ∙ c.has_child.ensures.no c.if-has_child.false q apart (child ∙ sym c.parts-2.ensures.same) in
    acts_made m c.make.new.self (RemoveDir c.in-Ok.copy) _ _ c.in-Ok-make.ensures.made (λ e. cc)
    (λ t. (subst (λ p. Allowed s (RemoveDir p)) (sym c.in-Ok.ensures) (folder t, free, empty t), (folder t, free, empty t, ap (λ p. Some (RemoveDir p)) c.in-Ok.ensures)))

pub returns-in-Err-clause-acts : goal.returns-in-Err-clause-acts
returns-in-Err-clause-acts c =
    let m = c.args.self.now in
    acts_stays m c.make.new.self _ _ c.in-Err.ensures.kept (λ e. cc) (λ t. inl refl)
