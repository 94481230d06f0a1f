use Rattle.std.proofs.Common.{◌≡◌, inr, None, false}
use Rattle.jl_folder.specs.State.{has_parent}
use Rattle.jl_folder.specs.Views.{state}
use Rattle.jl_folder.specs.Calls.{CreatesFile}
use Rattle.jl_folder.specs.declared.folder.Created.TheVariants as created
use Rattle.jl_rely.proofs.Composed.{goes_call, retold}
use Rattle.jl_rely.proofs.Alone.{lone_parts}
use Rattle.jl_rely.proofs.Since.{goes_then}
use Rattle.jl_protocol.specs.Tidy.{IsTidy}
use Rattle.jl_store.specs.Kinds.{IsOnName}
use Rattle.jl_store.specs.Publishing.{MakesFile, TempLeft}
use Rattle.jl_store.specs.declared.temporary.TempFile.TheVariants as temp_file
use Rattle.jl_store.proofs.Making.{make_called, make_named, taken_first, calls_then, missed_first, missed_later}
use Rattle.jl_store.proofs.Drafts.{history_state, make_alone, temp_from, still_alone, beside_same}
use Rattle.jl_store.proofs.temporary.create_temp.Goals as goal

pub returns-in-Made-clause-called : goal.returns-in-Made-clause-called
returns-in-Made-clause-called g c t =
    make_called c.args.temp.now (g.F.Folder.view c.args.folder.now) (g.F.Folder.view c.create.new.self) c.create.ensures.frame.token (temp_file.File c.in-Made.number) (c.in-Made.ensures.call t)

pub returns-in-Made-clause-named : goal.returns-in-Made-clause-named
returns-in-Made-clause-named g c t = make_named c.args.temp.now (g.F.Folder.view c.args.folder.now) (g.F.Folder.view c.create.new.self) (temp_file.File c.in-Made.number) (c.in-Made.ensures.call t)

pub returns-in-Made-clause-alone : goal.returns-in-Made-clause-alone
returns-in-Made-clause-alone g c t lone =
    let old = g.F.Folder.view c.args.folder.now in
    make_alone c.args.temp.now old (g.F.Folder.view c.create.new.self) (temp_file.File c.in-Made.number) c.create.ensures.frame.token (history_state old (g.met.F.Folder.lawful c.args.folder.now t)) (c.in-Made.ensures.call t) lone

pub returns-in-Failed-clause-called : goal.returns-in-Failed-clause-called
returns-in-Failed-clause-called g c t = make_called c.args.temp.now (g.F.Folder.view c.args.folder.now) (g.F.Folder.view c.create.new.self) c.create.ensures.frame.token temp_file.Fault (c.in-Failed.ensures.call t)

pub returns-in-NoMemory-clause-called : goal.returns-in-NoMemory-clause-called
returns-in-NoMemory-clause-called g c t = make_called c.args.temp.now (g.F.Folder.view c.args.folder.now) (g.F.Folder.view c.create.new.self) c.create.ensures.frame.token temp_file.NoMemory (c.in-NoMemory.ensures.call t)

pub returns-in-NoParent-clause-called : goal.returns-in-NoParent-clause-called
returns-in-NoParent-clause-called g c t =
    let temp = c.args.temp.now in
    let old = g.F.Folder.view c.args.folder.now in
    let new = g.F.Folder.view c.create.new.self in
    make_called temp old new c.create.ensures.frame.token temp_file.Skipped
    (retold old new (CreatesFile temp new.opens created.NoParent) (MakesFile temp new.opens temp_file.Skipped) (λ s own gives. (inr gives.1, gives.2)) (c.in-NoParent.ensures.call t))

pub returns-in-NoParent-clause-skipped : goal.returns-in-NoParent-clause-skipped
returns-in-NoParent-clause-skipped g c t skipped no_folder was =
    let temp = c.args.temp.now in
    let old = g.F.Folder.view c.args.folder.now in
    let new = g.F.Folder.view c.create.new.self in
    missed_first temp old new (retold old new (CreatesFile temp new.opens created.NoParent) (λ s own. (has_parent s temp ≡ false) × (own ≡ None)) (λ s own gives. (gives.1, gives.2)) (c.in-NoParent.ensures.call t)) was

pub returns-in-Exists-clause-called : goal.returns-in-Exists-clause-called
returns-in-Exists-clause-called g c t =
    let temp = c.args.temp.now in
    let old = g.F.Folder.view c.args.folder.now in
    let mid = g.F.Folder.view c.create.new.self in
    let new = g.F.Folder.view c.replace_file.new.folder in
    calls_then temp (IsOnName temp) IsTidy IsTidy (λ root. TempLeft temp c.replace_file.result new) old mid new c.create.ensures.frame.token
    (taken_first temp old mid c.create.ensures.frame.token (c.in-Exists.ensures.call t)) (c.replace_file.ensures.called (c.create.ensures.frame.told t))

pub returns-in-Exists-clause-skipped : goal.returns-in-Exists-clause-skipped
returns-in-Exists-clause-skipped g c t skipped no_folder was =
    let told = c.create.ensures.frame.told t in
    missed_later c.args.temp.now (g.F.Folder.view c.args.folder.now) (g.F.Folder.view c.create.new.self) (g.F.Folder.view c.replace_file.new.folder) c.create.ensures.frame.token
    (c.in-Exists.ensures.call t) (c.replace_file.ensures.goes told) (c.replace_file.ensures.skipped told skipped) no_folder was

pub returns-in-Exists-clause-alone : goal.returns-in-Exists-clause-alone
returns-in-Exists-clause-alone g c t lone =
    let temp = c.args.temp.now in
    let old = g.F.Folder.view c.args.folder.now in
    let mid = g.F.Folder.view c.create.new.self in
    let new = g.F.Folder.view c.replace_file.new.folder in
    let told = c.create.ensures.frame.told t in
    let first = c.in-Exists.ensures.call t in
    let parts = lone_parts old mid new (goes_call old mid _ c.create.ensures.frame.token first) (c.replace_file.ensures.goes told) lone in
    let same = still_alone old mid _ (λ s own gives. gives.1) first parts.0 in
    temp_from temp c.replace_file.result (state old) (state mid) new (beside_same (λ p. p ≡ temp) (state old) (state mid) same) (c.replace_file.ensures.alone told parts.1)

pub returns-in-Exists-clause-goes : goal.returns-in-Exists-clause-goes
returns-in-Exists-clause-goes g c t =
    let old = g.F.Folder.view c.args.folder.now in
    let mid = g.F.Folder.view c.create.new.self in
    goes_then old mid (g.F.Folder.view c.replace_file.new.folder) (goes_call old mid _ c.create.ensures.frame.token (c.create.ensures.call t)) (c.replace_file.ensures.goes (c.create.ensures.frame.told t))

pub returns-in-Made-clause-goes : goal.returns-in-Made-clause-goes
returns-in-Made-clause-goes g c t = goes_call _ _ _ c.create.ensures.frame.token (c.create.ensures.call t)

pub returns-in-NoParent-clause-goes : goal.returns-in-NoParent-clause-goes
returns-in-NoParent-clause-goes g c t = goes_call _ _ _ c.create.ensures.frame.token (c.create.ensures.call t)

pub returns-in-Failed-clause-goes : goal.returns-in-Failed-clause-goes
returns-in-Failed-clause-goes g c t = goes_call _ _ _ c.create.ensures.frame.token (c.create.ensures.call t)

pub returns-in-NoMemory-clause-goes : goal.returns-in-NoMemory-clause-goes
returns-in-NoMemory-clause-goes g c t = goes_call _ _ _ c.create.ensures.frame.token (c.create.ensures.call t)
