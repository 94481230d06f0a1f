use Rattle.std.proofs.Common.{◌∙◌, sym}
use Rattle.jl_clear.proofs.Folders.{temp_no_folder, final_no_folder}
use Rattle.jl_folder.proofs.Frames.{answers_as}
use Rattle.jl_store.proofs.SkipCauses.{check_skipped, check_fault, fault_check}
use Rattle.jl_store.proofs.CodeAlone.{done_published}
use Rattle.jl_store.proofs.checking.store.Goals as goal

pub returns-clause-stores : goal.returns-clause-stores
returns-clause-stores g c =
    let e = c.publish-published.ensures in
    let r = c.publish-published.result in
    record {
      frame = answers_as (g.F.Folder.view c.args.folder.now) (g.F.Folder.view c.publish-published.new.folder) e.frame
          (λ is. check_fault r c.args.done c.requires.done (sym c.as_check.ensures ∙ is)) (λ is. c.as_check.ensures ∙ fault_check r c.args.done is);
      goes = e.goes;
      called = λ t root x fun temp final whole. (e.called t root x temp final whole).call;
      once = λ t root x temp final whole. (e.called t root x temp final whole).once;
      ends = λ t done. e.done t (done_published r c.args.done c.as_check.result c.as_check.ensures done);
    }

-- in a tidy state no folder has the file's names
pub returns-clause-skipped : goal.returns-clause-skipped
returns-clause-skipped g c = λ t is root x temp final whole tidy has.
    (c.publish-published.ensures.called t root x temp final whole).skipped (check_skipped c.publish-published.result c.args.done c.requires.unskipped (sym c.as_check.ensures ∙ is))
    (record { last_free = final_no_folder root x _ _ final tidy; temp_free = temp_no_folder root x _ _ _ temp tidy; home = has })

pub returns-clause-alone : goal.returns-clause-alone
returns-clause-alone g c = λ t done lone. c.publish-published.ensures.alone t (done_published c.publish-published.result c.args.done c.as_check.result c.as_check.ensures done) lone
