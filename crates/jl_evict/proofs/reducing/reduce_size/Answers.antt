use Rattle.std.proofs.Common.{◌∙◌, refl, sym, subst}
use Rattle.jl_text.specs.Paths.{PathView}
use Rattle.jl_folder.proofs.Frames.{answers_as, answers_none}
use Rattle.jl_folder.proofs.ReadingLemmas.{waits_none}
use Rattle.jl_entry.specs.Names.{root_of}
use Rattle.jl_rely.proofs.Seen.{told_state}
use Rattle.jl_evict.specs.declared.reducing.Reduced.TheVariants as reduced
use Rattle.jl_evict.specs.Reducing.{TakesFrom}
use Rattle.jl_evict.proofs.ReduceLemmas.{untaken, taken, taken_frame}
use Rattle.jl_evict.proofs.reducing.reduce_size.Goals as goal

pub returns-in-Items : goal.returns-in-Items
returns-in-Items g c =
    let v = g.F.Folder.view in
    let e = c.items.ensures in
    let root = root_of c.args.location.now in
    let r = c.reduce.result in
    let old = v c.args.folder.now in
    let mid = v c.items.new.folder in
    let new = v c.reduce.new.folder in
    let b = subst (λ (p : PathView). TakesFrom p c.in-Items.items.items c.args.limits.now c.args.now r mid new) c.in-Ok.ensures c.reduce.ensures in
    record {
      frame = taken_frame root old mid e.frame e.waits (λ f. let h = sym c.in-Items.is ∙ f in cc) c.in-Items.items.items c.args.limits.now c.args.now r new b;
      reduces = λ t. taken root old mid e.frame e.waits (λ f. let h = sym c.in-Items.is ∙ f in cc) c.in-Items.items.items c.args.limits.now c.args.now r new b t (told_state old (g.met.F.Folder.lawful c.args.folder.now t)) (c.in-Items.ensures.seen t) (c.in-Items.ensures.alone t);
    }

pub returns-in-FolderFault : goal.returns-in-FolderFault
returns-in-FolderFault g c =
    let v = g.F.Folder.view in
    let e = c.items.ensures in
    let old = v c.args.folder.now in
    let mid = v c.items.new.folder in
    record {
      frame = answers_as old mid e.frame (λ f. c.in-FolderFault.is) (λ f. refl);
      reduces = λ t. untaken (root_of c.args.location.now) old mid e.frame e.waits c.args.limits.now c.args.now reduced.FolderFault (λ done. cc) t;
    }

pub returns : goal.returns
returns g c =
    let v = g.F.Folder.view in
    let e = c.items.ensures in
    let old = v c.args.folder.now in
    let mid = v c.items.new.folder in
    record {
      frame = answers_as old mid e.frame (λ f. cc) (λ f. let h = sym c.in-NoMemory.is ∙ f in cc);
      reduces = λ t. untaken (root_of c.args.location.now) old mid e.frame e.waits c.args.limits.now c.args.now reduced.NoMemory (λ done. cc) t;
    }

pub returns-in_default : goal.returns-in_default
returns-in_default g c =
    let v = g.F.Folder.view c.args.folder.now in
    record {
      frame = answers_as v v (answers_none v) (λ f. cc) (λ f. absurd f);
      reduces = λ t. untaken (root_of c.args.location.now) v v (answers_none v) (λ t. waits_none v v refl refl) c.args.limits.now c.args.now reduced.NoMemory (λ done. cc) t;
    }
