use Rattle.std.proofs.Common.{◌≡◌, ℕ, ◌<◌, ◌||◌, true, false, nat_eq, None, Some, is_some, sym, ◌∙◌, ap, subst, refl, inl, inr}
use Rattle.jl_folder.specs.declared.moves.Move.TheVariants.{Create}
use Rattle.jl_folder.specs.State.{Allowed, place_at, node_at, has_parent}
use Rattle.jl_memory.specs.Memory.{mem_state, IsTold}
use Rattle.std.specs.List.{list_any}
use Rattle.jl_folder.specs.declared.moves.OpenFile.{OpenFile}
use Rattle.jl_folder.specs.OpenTable.{opens_of}
use Rattle.jl_folder.proofs.Opens.{put_here}
use Rattle.jl_memory.specs.Tables.{found_node}
use Rattle.jl_memory.specs.Scripts.{IsLeastFree}
use Rattle.jl_memory.proofs.TableLemmas.{not_some}
use Rattle.jl_memory.proofs.ToldLemmas.{told_open, open_put, created_node, some_same, least_after}
use Rattle.jl_memory.proofs.CallLemmas.{acts_none, acts_made, acts_stays, acts_opened}
use Rattle.jl_memory.proofs.memory.MemFolder.put_file.Goals as goal

pub returns-then-is_some-clause-acts : goal.returns-then-is_some-clause-acts
returns-then-is_some-clause-acts c =
    let m = c.args.self.now in
    let named : IsTold m → place_at (mem_state m) c.args.path.now ≡ c.place.result = λ t. ap (place_at (mem_state m)) (sym c.parts.ensures.same) ∙ sym (c.place.ensures t.disk) in
    acts_none m _ _ (λ e. cc) (λ t. (ap is_some (named t) ∙ sym c.is_some.ensures ∙ c.if-is_some.true, refl))

pub returns-then-not-has_parent-clause-acts : goal.returns-then-not-has_parent-clause-acts
returns-then-not-has_parent-clause-acts c =
    let m = c.args.self.now in
    let named : IsTold m → place_at (mem_state m) c.args.path.now ≡ c.place.result = λ t. ap (place_at (mem_state m)) (sym c.parts.ensures.same) ∙ sym (c.place.ensures t.disk) in
    let free : IsTold m → place_at (mem_state m) c.args.path.now ≡ None = λ t. named t ∙ not_some _ (sym c.is_some.ensures ∙ c.if-is_some.false) in
    acts_none m _ _ (λ e. cc) (λ t. (free t, sym (c.has_parent.ensures t.disk) ∙ c.if-not-has_parent.true, refl))

pub returns-in_default-clause-acts : goal.returns-in_default-clause-acts
returns-in_default-clause-acts c =
    let m = c.args.self.now in
    acts_none m _ _ (λ e. cc) (λ t. inl refl)

pub returns-in_default-fresh_number-clause-acts : goal.returns-in_default-fresh_number-clause-acts
returns-in_default-fresh_number-clause-acts c =
    let m = c.args.self.now in
    acts_none m _ _ (λ e. cc) (λ t. inl refl)

pub returns-in-Err-clause-acts : goal.returns-in-Err-clause-acts
returns-in-Err-clause-acts c =
    let m = c.args.self.now in
    acts_stays m c.make.new.self _ _ c.in-Err.ensures.kept (λ e. cc) (λ t. inl refl)

pub returns-in-Ok-open_next-clause-acts : goal.returns-in-Ok-open_next-clause-acts
returns-in-Ok-open_next-clause-acts c =
    let m = c.args.self.now in
    let n = c.make.new.self in
    let named : IsTold m → place_at (mem_state m) c.args.path.now ≡ c.place.result = λ t. ap (place_at (mem_state m)) (sym c.parts.ensures.same) ∙ sym (c.place.ensures t.disk) in
    let free : IsTold m → place_at (mem_state m) c.args.path.now ≡ None = λ t. named t ∙ not_some _ (sym c.is_some.ensures ∙ c.if-is_some.false) in
    let parented : IsTold m → has_parent (mem_state m) c.args.path.now ≡ true = λ t. sym (c.has_parent.ensures t.disk) ∙ c.if-not-has_parent.false in
    let unused : IsTold m → node_at (mem_state m) c.in-Some.node ≡ None = λ t. sym (t.disk.agrees.node_is c.in-Some.node) ∙ ap (λ es. found_node es c.in-Some.node) (sym c.as_slice.ensures.value) ∙ c.in-Some.ensures.free in
    let move_is : Some (Create c.in-Ok.copy c.in-Some.node) ≡ Some (Create c.args.path.now c.in-Some.node) = ap (λ p. Some (Create p c.in-Some.node)) c.in-Ok.ensures in
    let allowed : IsTold m → Allowed (mem_state m) (Create c.in-Ok.copy c.in-Some.node) = λ t. subst (λ p. Allowed (mem_state m) (Create p c.in-Some.node)) (sym c.in-Ok.ensures) (free t, parented t, unused t) in
    let made = c.in-Ok-make.ensures.made in
    let told : IsTold m → IsTold n = λ t. made.told t (allowed t) in
    let number = c.in-Ok-open_next.number.0 in
    let file : OpenFile = record { node = c.in-Some.node; made = true } in
    acts_opened m n (record n { opens = c.open_next.new.opens }) _ _
    (acts_made m n (Create c.in-Ok.copy c.in-Some.node) _ _ made (λ e. cc)
    (λ t. (allowed t, record { node = c.in-Some.node; free = free t; parented = parented t; unused = unused t; move_is = move_is; is_open = ap (λ f. f number) c.in-Ok-open_next.ensures.ok.1 ∙ put_here (opens_of n.opens.items) number file })))
    (λ t. told_open n (record n { opens = c.open_next.new.opens }) (told t) refl refl refl refl (λ k f is. open_put (mem_state n) (opens_of n.opens.items) number file
    (created_node m.disk n.disk m.token c.in-Ok.copy c.in-Some.node made.keeps.start made.trace) (told t).opens k f (ap (λ f. f k) (sym c.in-Ok-open_next.ensures.ok.1) ∙ is)))
    refl

pub returns-in-Err-open_next-clause-acts : goal.returns-in-Err-open_next-clause-acts
returns-in-Err-open_next-clause-acts c =
    let m = c.args.self.now in
    let n = c.make.new.self in
    let named : IsTold m → place_at (mem_state m) c.args.path.now ≡ c.place.result = λ t. ap (place_at (mem_state m)) (sym c.parts.ensures.same) ∙ sym (c.place.ensures t.disk) in
    let free : IsTold m → place_at (mem_state m) c.args.path.now ≡ None = λ t. named t ∙ not_some _ (sym c.is_some.ensures ∙ c.if-is_some.false) in
    let parented : IsTold m → has_parent (mem_state m) c.args.path.now ≡ true = λ t. sym (c.has_parent.ensures t.disk) ∙ c.if-not-has_parent.false in
    let unused : IsTold m → node_at (mem_state m) c.in-Some.node ≡ None = λ t. sym (t.disk.agrees.node_is c.in-Some.node) ∙ ap (λ es. found_node es c.in-Some.node) (sym c.as_slice.ensures.value) ∙ c.in-Some.ensures.free in
    let move_is : Some (Create c.in-Ok.copy c.in-Some.node) ≡ Some (Create c.args.path.now c.in-Some.node) = ap (λ p. Some (Create p c.in-Some.node)) c.in-Ok.ensures in
    let allowed : IsTold m → Allowed (mem_state m) (Create c.in-Ok.copy c.in-Some.node) = λ t. subst (λ p. Allowed (mem_state m) (Create p c.in-Some.node)) (sym c.in-Ok.ensures) (free t, parented t, unused t) in
    let made = c.in-Ok-make.ensures.made in
    let told : IsTold m → IsTold n = λ t. made.told t (allowed t) in
    acts_opened m n (record n { opens = c.open_next.new.opens }) _ _
    (acts_made m n (Create c.in-Ok.copy c.in-Some.node) _ _ made (λ e. cc) (λ t. (allowed t, inr (c.in-Some.node, move_is))))
    (λ t. told_open n (record n { opens = c.open_next.new.opens }) (told t) refl refl refl refl (λ k f is. (told t).opens k f (ap (λ files. opens_of files k) (sym c.in-Err-open_next.ensures.err) ∙ is)))
    refl

pub returns-in-Ok-open_next-clause-least : goal.returns-in-Ok-open_next-clause-least
returns-in-Ok-open_next-clause-least c =
    let m = c.args.self.now in
    let n = c.make.new.self in
    let made = c.in-Ok-make.ensures.made in
    let number = c.in-Ok-open_next.number.0 in
    let mine : OpenFile = record { node = c.in-Some.node; made = true } in
    let least : IsLeastFree m.disk.nodes.items m.named.items c.in-Some.node = subst (λ v. IsLeastFree m.disk.nodes.items v c.in-Some.node) c.as_slice-2.ensures.value (subst (λ es. IsLeastFree es c.as_slice-2.result.now c.in-Some.node) c.as_slice.ensures.value c.in-Some.ensures.least) in
    λ t file is.
    let same : mine ≡ file = some_same (sym (ap (λ f. f number) c.in-Ok-open_next.ensures.ok.1 ∙ put_here (opens_of n.opens.items) number mine) ∙ is) in
    subst (λ f. (list_any (λ k. nat_eq k f.node) n.named.items ≡ false) × ((k : ℕ) → k < f.node → (is_some (node_at (mem_state n) k) || list_any (λ j. nat_eq j k) n.named.items) ≡ true)) same
    (least_after m n _ c.in-Some.node t made.keeps.start made.trace made.keeps.script.named least)
