use Rattle.std.proofs.Common.{◌∙◌, ℕ, List, inr, refl, sym, subst}
use Rattle.jl_evict.specs.declared.measure.Measure.TheVariants as measure
use Rattle.jl_folder.specs.Views.{state, moved}
use Rattle.jl_folder.specs.Reading.{ReadsNamed}
use Rattle.jl_evict.specs.Items.{HadAccess}
use Rattle.jl_evict.proofs.MeasureLemmas.{measures_waits, accessed_read, number_is}
use Rattle.jl_evict.proofs.measure.read_moment.Goals as goal

pub returns-in-Bytes : goal.returns-in-Bytes
returns-in-Bytes g c =
    let e = c.read_file.ensures in
    let old = g.F.Folder.view c.args.folder.now in
    let new = g.F.Folder.view c.read_file.new.folder in
    let path = c.args.path.now in
    measures_waits (HadAccess path) (measure.Number c.access_in.result) old new e.frame (λ f. cc) (λ f. let h = sym c.in-Bytes.is ∙ f in cc) e.waits
    (λ t n is. subst (λ (k : ℕ). HadAccess path k (state old) (moved old new)) (number_is c.access_in.result n is)
    (accessed_read path c.as_slice.result.now c.access_in.result (state old) (moved old new) (subst (λ (b : List ℕ). ReadsNamed path 22 b (state old) (moved old new)) (sym c.as_slice.ensures) (c.in-Bytes.ensures.reads t)) c.access_in.ensures))

pub returns-in-NoFile : goal.returns-in-NoFile
returns-in-NoFile g c =
    let e = c.read_file.ensures in
    let old = g.F.Folder.view c.args.folder.now in
    let new = g.F.Folder.view c.read_file.new.folder in
    measures_waits (HadAccess c.args.path.now) (measure.Number 0) old new e.frame (λ f. cc) (λ f. let h = sym c.in-NoFile.is ∙ f in cc) e.waits
    (λ t n is. inr (c.in-NoFile.ensures.reads t, sym (number_is 0 n is)))

pub returns-in-Failed : goal.returns-in-Failed
returns-in-Failed g c =
    let e = c.read_file.ensures in
    measures_waits (HadAccess c.args.path.now) measure.Fault (g.F.Folder.view c.args.folder.now) (g.F.Folder.view c.read_file.new.folder) e.frame (λ f. c.in-Failed.is) (λ f. refl) e.waits (λ t n is. cc)

pub returns-in-NoMemory : goal.returns-in-NoMemory
returns-in-NoMemory g c =
    let e = c.read_file.ensures in
    measures_waits (HadAccess c.args.path.now) measure.NoMemory (g.F.Folder.view c.args.folder.now) (g.F.Folder.view c.read_file.new.folder) e.frame (λ f. cc) (λ f. let h = sym c.in-NoMemory.is ∙ f in cc) e.waits (λ t n is. cc)
