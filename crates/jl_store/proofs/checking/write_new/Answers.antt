use Rattle.std.proofs.Common.{inl, ℕ, List, refl, sym, subst}
use Rattle.jl_folder.specs.Views.{state, moved}
use Rattle.jl_rely.proofs.Alone.{lone_parts}
use Rattle.jl_entry.specs.Names.{code_of, IsTemp}
use Rattle.jl_rely.proofs.Touched.{touched_as}
use Rattle.jl_store.specs.Publishing.{IsOfFile}
use Rattle.jl_store.specs.Storing.{FoldersOr}
use Rattle.jl_store.specs.Checking.{UsesCode, IsCodePublished}
use Rattle.jl_store.specs.Doing.{IsPrefix, IsMaking}
use Rattle.jl_store.specs.declared.folders.MadeFolders.{MadeFolders}
use Rattle.jl_store.proofs.SkipCauses.{skips_then, folders_used, steps_first}
use Rattle.jl_store.proofs.StorePaths.{making_puts}
use Rattle.jl_store.proofs.InTurn.{making_no_rename}
use Rattle.jl_store.proofs.CheckLemmas.{stores_then, stores_only}
use Rattle.jl_store.proofs.CodeAlone.{writes_code, leaves_written, comes_written}
use Rattle.jl_store.proofs.checking.write_new.Goals as goal

pub store-requires-clause-of_file : goal.store-requires-clause-of_file
store-requires-clause-of_file g c =
    subst (λ (u : List ℕ). IsOfFile u c.args.files.now.last c.args.files.now.temp c.args.bytes.now) (sym c.make_folders.ensures.frame.token) c.requires

pub returns-in-Made-clause-stores : goal.returns-in-Made-clause-stores
returns-in-Made-clause-stores g c =
    let files = c.args.files.now in
    let bytes = c.args.bytes.now in
    stores_then files bytes (IsMaking files.folder) (making_no_rename files.folder) (λ root fun t s m is. making_puts root files.folder fun files.last bytes t s m is) c.store.result
    (g.F.Folder.view c.args.folder.now) (g.F.Folder.view c.make_folders.new.folder) (g.F.Folder.view c.store.new.folder) c.in-Made.ensures.frame (λ failed. cc) c.make_folders.ensures.moves c.store.ensures.stores

pub returns-in-Skipped-clause-stores : goal.returns-in-Skipped-clause-stores
returns-in-Skipped-clause-stores g c =
    let files = c.args.files.now in
    let bytes = c.args.bytes.now in
    stores_only files bytes (IsMaking files.folder) (making_no_rename files.folder) (λ root fun t s m is. making_puts root files.folder fun files.last bytes t s m is) _
    (g.F.Folder.view c.args.folder.now) (g.F.Folder.view c.make_folders.new.folder) c.in-Skipped.ensures.frame (λ e. cc) (λ e. cc) c.make_folders.ensures.moves (λ done. done)

pub returns-in-Fault-clause-stores : goal.returns-in-Fault-clause-stores
returns-in-Fault-clause-stores g c =
    let files = c.args.files.now in
    let bytes = c.args.bytes.now in
    stores_only files bytes (IsMaking files.folder) (making_no_rename files.folder) (λ root fun t s m is. making_puts root files.folder fun files.last bytes t s m is) _
    (g.F.Folder.view c.args.folder.now) (g.F.Folder.view c.make_folders.new.folder) c.in-Fault.ensures.frame (λ e. refl) (λ e. refl) c.make_folders.ensures.moves (λ done. done)

pub returns-in-NoMemory-clause-stores : goal.returns-in-NoMemory-clause-stores
returns-in-NoMemory-clause-stores g c =
    let files = c.args.files.now in
    let bytes = c.args.bytes.now in
    stores_only files bytes (IsMaking files.folder) (making_no_rename files.folder) (λ root fun t s m is. making_puts root files.folder fun files.last bytes t s m is) _
    (g.F.Folder.view c.args.folder.now) (g.F.Folder.view c.make_folders.new.folder) c.in-NoMemory.ensures.frame (λ e. cc) (λ e. cc) c.make_folders.ensures.moves (λ done. done)

pub returns-in-Made-clause-skips : goal.returns-in-Made-clause-skips
returns-in-Made-clause-skips g c = λ t is root m f hm hf are whole tidy all pre.
    let files = c.args.files.now in
    let old = g.F.Folder.view c.args.folder.now in
    let mid = g.F.Folder.view c.make_folders.new.folder in
    let new = g.F.Folder.view c.store.new.folder in
    let same = c.make_folders.ensures.frame.token in
    let told = c.make_folders.ensures.frame.told t in
    let first = (c.make_folders.ensures.moves t).went in
    let second = c.store.ensures.stores.goes told in
    skips_then root m f old.token files are old mid new first second
    (folders_used root m f old.token files are old mid
    (subst (λ (r : MadeFolders). FoldersOr r files.folder old mid) c.in-Made.is (c.make_folders.ensures.folders t root (m, f, hm, hf, are.0) tidy (steps_first root m f old.token files are old mid new first second all))))
    (λ tidy_mid has. c.store.ensures.skipped told is root (code_of m f) (subst (λ (u : List ℕ). IsTemp root (code_of m f) u files.temp) (sym same) are.2) are.1 whole tidy_mid has)
    tidy all

pub returns-in-Skipped-clause-skips : goal.returns-in-Skipped-clause-skips
returns-in-Skipped-clause-skips g c = λ t is root m f hm hf are whole tidy all pre.
    let files = c.args.files.now in
    let old = g.F.Folder.view c.args.folder.now in
    let mid = g.F.Folder.view c.make_folders.new.folder in
    touched_as old.token (λ p. IsPrefix p files.folder) (UsesCode files.folder files.last files.temp) (λ p front. inl front) (moved old mid)
    (subst (λ (r : MadeFolders). FoldersOr r files.folder old mid) c.in-Skipped.is (c.make_folders.ensures.folders t root (m, f, hm, hf, are.0) tidy all))

pub returns-in-Fault-clause-skips : goal.returns-in-Fault-clause-skips
returns-in-Fault-clause-skips g c = λ t is root m f hm hf are whole tidy all pre. cc

pub returns-in-NoMemory-clause-skips : goal.returns-in-NoMemory-clause-skips
returns-in-NoMemory-clause-skips g c = λ t is root m f hm hf are whole tidy all pre. cc

pub returns-in-Made-clause-alone : goal.returns-in-Made-clause-alone
returns-in-Made-clause-alone g c = λ t lone root m f hm hf are tidy.
    let files = c.args.files.now in
    let bytes = c.args.bytes.now in
    let old = g.F.Folder.view c.args.folder.now in
    let mid = g.F.Folder.view c.make_folders.new.folder in
    let new = g.F.Folder.view c.store.new.folder in
    let told = c.make_folders.ensures.frame.told t in
    let parts = lone_parts old mid new (c.make_folders.ensures.moves t).went (c.store.ensures.stores.goes told) lone in
    let before = c.make_folders.ensures.alone t c.in-Made.is parts.0 root (m, f, hm, hf, are.0) tidy in
    leaves_written c.store.result files bytes (state old) (state new) (comes_written c.store.result c.store.ensures.answer)
    (λ is. writes_code root m f old.token files are hm hf bytes (state old) (state mid) (state new) before (c.store.ensures.alone told (subst IsCodePublished (sym is) tt) parts.1))
