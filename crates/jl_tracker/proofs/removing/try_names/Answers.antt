use Rattle.std.proofs.Common.{◌≡◌, ◌+◌, ◌++◌, ◌∷◌, [], ◌∙◌, take, drop, sym, ap, subst, add-one}
use Rattle.std.proofs.Math.Seq.{take-suc}
use Rattle.std.proofs.lemmas.List.{take-append-drop, take_all}
use Rattle.jl_folder.proofs.Frames.{keeps_trans}
use Rattle.jl_tracker.specs.Stages.{folder_point}
use Rattle.jl_tracker.specs.Removing.{TriedNames}
use Rattle.jl_tracker.specs.Tries.{NamesTry}
use Rattle.jl_tracker.proofs.PlayLemmas.{on_err}
use Rattle.jl_tracker.proofs.RemovalLemmas.{tried_names_push, cut_names}
use Rattle.jl_tracker.proofs.removing.try_names.Goals as goal

pub returns-in_err-try_name-clause-tries : goal.returns-in_err-try_name-clause-tries
returns-in_err-try_name-clause-tries g c = λ t.
    let view = g.F.Folder.view in
    let names = c.args.names.now in
    let i = c.names.name-index in
    let a = folder_point (view c.args.folder.now) in
    let b = folder_point (view c.try_name.new.folder) in
    on_err (λ r. NamesTry c.args.path.now names r a b) c.from_residual.result c.from_residual.ensures.0
    (λ e. cut_names c.args.path.now names (take i names) (drop i names) c.name-item.result a (folder_point (view c.names.folder)) b
    (sym (take-append-drop i names)) (c.names.invariant.tried t)
    (c.in_err-try_name.ensures.tries (c.names.invariant.frame.told t)))

pub names-preserved : goal.names-preserved
names-preserved g c =
    let view = g.F.Folder.view in
    let names = c.args.names.now in
    let i = c.names.name-index in
    let item = c.name-item.result in
    let a = folder_point (view c.args.folder.now) in
    let b = folder_point (view c.try_name.new.folder) in
    let grown : take (i + 1) names ≡ take i names ++ item ∷ [] = ap (λ n. take n names) (add-one i) ∙ take-suc names i item c.names-test.true ∙ ap (λ x. take i names ++ x ∷ []) (sym c.name-item.is) in
    record {
      frame = keeps_trans _ _ _ c.names.invariant.frame c.try_name.ensures.frame;
      tried = λ t. subst (λ ns. TriedNames c.args.path.now ns a b) (sym grown)
          (tried_names_push c.args.path.now (take i names) item a (folder_point (view c.names.folder)) b
          (c.names.invariant.tried t)
          (c.in_ok-try_name.ensures.tries (c.names.invariant.frame.told t)));
    }

pub returns-clause-tries : goal.returns-clause-tries
returns-clause-tries g c = λ t.
    let view = g.F.Folder.view in
    subst (λ ns. TriedNames c.args.path.now ns (folder_point (view c.args.folder.now)) (folder_point (view c.names.folder))) (take_all c.names.name-index c.args.names.now c.names-test.false) (c.names.invariant.tried t)
