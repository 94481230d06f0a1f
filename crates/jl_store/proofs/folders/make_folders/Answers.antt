use Rattle.std.proofs.Common.{◌+◌, ap, subst, take, length, arith}
use Rattle.jl_text.specs.Paths.{PathView}
use Rattle.jl_folder.proofs.Frames.{answers_none, answers_next}
use Rattle.jl_rely.specs.Claims.{Moves}
use Rattle.jl_rely.proofs.Moving.{moves_none, moves_then, moves_as}
use Rattle.jl_store.specs.Doing.{IsMaking}
use Rattle.jl_store.proofs.StoringLemmas.{making_prefix}
use Rattle.jl_store.proofs.MadeFolders.{making_proper, has_folders}
use Rattle.jl_store.proofs.LoneMoves.{part_proper}
use Rattle.jl_store.proofs.FolderCauses.{there_first, there_next, there_skipped, there_last, step_as, ended_early}
use Rattle.jl_store.proofs.folders.make_folders.Goals as goal

pub loop-i-init : goal.loop-i-init
loop-i-init g c =
    let old = g.F.Folder.view c.args.folder.now in
    record { frame = answers_none old; moves = λ t. moves_none (IsMaking c.args.path.now) old; there = λ t root. there_first root c.args.path.now old }

pub loop-i-preserved : goal.loop-i-preserved
loop-i-preserved g c =
    let old = g.F.Folder.view c.args.folder.now in
    let here = g.F.Folder.view c.loop-i.folder in
    let new = g.F.Folder.view c.make_step.new.folder in
    record {
      frame = answers_next old here new c.loop-i.invariant.frame (λ bad. bad) c.in-Made.ensures.frame (λ bad. absurd bad) (λ failed. cc);
      moves = λ t. (moves_then (IsMaking c.args.path.now) old here new (c.loop-i.invariant.moves t)
          (moves_as (IsMaking (take (c.loop-i.i + 1) c.args.path.now)) (IsMaking c.args.path.now) (making_prefix c.args.path.now (c.loop-i.i + 1)) here new
          (subst (λ (p : PathView). Moves (IsMaking p) here new) c.in-Ok.ensures (c.make_step.ensures.moves (c.loop-i.invariant.frame.told t)))));
      there = λ t root.
          there_next root c.args.path.now c.loop-i.i (omega (arith, c.loop-i-test.true, ap length c.parts-count.ensures.same)) old here new
          (c.loop-i.invariant.moves t).went (c.make_step.ensures.moves (c.loop-i.invariant.frame.told t)).went
          (λ tidy all store. step_as root _ _ _ _ _ _ c.in-Ok.ensures c.in-Made.is (λ st. c.make_step.ensures.step (c.loop-i.invariant.frame.told t) root tidy all st) store);
    }

pub returns-in_default-make_step : goal.returns-in_default-make_step
returns-in_default-make_step g c =
    let old = g.F.Folder.view c.args.folder.now in
    let here = g.F.Folder.view c.loop-i.folder in
    let new = g.F.Folder.view c.make_step.new.folder in
    record {
      frame = answers_next old here new c.loop-i.invariant.frame (λ bad. bad) c.make_step.ensures.frame (λ e. e) (λ e. e);
      moves = λ t. (moves_then (IsMaking c.args.path.now) old here new (c.loop-i.invariant.moves t)
          (moves_as (IsMaking (take (c.loop-i.i + 1) c.args.path.now)) (IsMaking c.args.path.now) (making_prefix c.args.path.now (c.loop-i.i + 1)) here new
          (subst (λ (p : PathView). Moves (IsMaking p) here new) c.in-Ok.ensures (c.make_step.ensures.moves (c.loop-i.invariant.frame.told t)))));
      folders = λ t root fun tidy all.
          ended_early c.make_step.result c.args.path.now old new c.in_default-make_step.not-Made
          (λ is. there_skipped root c.args.path.now c.loop-i.i (omega (arith, c.loop-i-test.true, ap length c.parts-count.ensures.same)) old here new
          (c.loop-i.invariant.moves t).went (c.make_step.ensures.moves (c.loop-i.invariant.frame.told t)).went
          (c.loop-i.invariant.there t root)
          (λ tidy all store. step_as root _ _ _ _ _ _ c.in-Ok.ensures is (λ st. c.make_step.ensures.step (c.loop-i.invariant.frame.told t) root tidy all st) store)
          fun tidy all);
      alone = λ t is. absurd (c.in_default-make_step.not-Made is);
    }

pub returns-clause-folders : goal.returns-clause-folders
returns-clause-folders g c = λ t root fun tidy all.
    there_last root c.args.path.now c.loop-i.i (g.F.Folder.view c.args.folder.now) (g.F.Folder.view c.loop-i.folder) (omega (arith, c.loop-i-test.false, ap length c.parts-count.ensures.same)) (c.loop-i.invariant.there t root) fun tidy all

pub returns-clause-alone : goal.returns-clause-alone
returns-clause-alone g c = λ t is lone root fun tidy.
    let old = g.F.Folder.view c.args.folder.now in
    let new = g.F.Folder.view c.loop-i.folder in
    let path = c.args.path.now in
    let moves = c.loop-i.invariant.moves t in
    has_folders root path old new fun tidy moves lone
    (there_last root path c.loop-i.i old new (omega (arith, c.loop-i-test.false, ap length c.parts-count.ensures.same)) (c.loop-i.invariant.there t root) fun tidy
    (part_proper (IsMaking path) old new moves lone root (making_proper root path fun old.token)))
