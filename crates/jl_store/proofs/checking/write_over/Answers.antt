use Rattle.std.proofs.Common.{ℕ, List, refl, sym, subst}
use Rattle.jl_folder.specs.Views.{state}
use Rattle.jl_rely.proofs.Alone.{lone_parts}
use Rattle.jl_entry.specs.Names.{code_of, IsTemp, IsFunctionFolder}
use Rattle.jl_store.specs.Publishing.{IsOfFile}
use Rattle.jl_store.specs.Checking.{IsCodePublished}
use Rattle.jl_store.specs.Doing.{IsClearing}
use Rattle.jl_store.proofs.Cleared.{cleared_moves, cleared_alone}
use Rattle.jl_store.proofs.SkipCauses.{skips_then, cleared_there}
use Rattle.jl_store.proofs.StorePaths.{clearing_puts}
use Rattle.jl_store.proofs.InTurn.{clearing_no_rename}
use Rattle.jl_store.proofs.CheckLemmas.{stores_then, stores_only}
use Rattle.jl_store.proofs.CodeAlone.{replaces_code, leaves_replaced, comes_replaced}
use Rattle.jl_store.proofs.checking.write_over.Goals as goal

pub store-requires-clause-of_file : goal.store-requires-clause-of_file
store-requires-clause-of_file g c =
    let (root, of) = c.requires.of_function in
    subst (λ (u : List ℕ). IsOfFile u c.args.files.now.last c.args.files.now.temp c.args.bytes.now) (sym (c.clear_entries.ensures root of).frame.token) c.requires.of_file

pub returns-in-Cleared-clause-stores : goal.returns-in-Cleared-clause-stores
returns-in-Cleared-clause-stores g c =
    let files = c.args.files.now in
    let bytes = c.args.bytes.now in
    let old = g.F.Folder.view c.args.folder.now in
    let mid = g.F.Folder.view c.clear_entries.new.folder in
    let fun = c.requires.of_function in
    let clears = c.in-Cleared.ensures fun.0 fun.1 in
    stores_then files bytes (IsClearing files.folder) (clearing_no_rename files.folder) (λ root is t s m kind. clearing_puts root files.folder is files.last bytes t s m kind) c.store.result old mid (g.F.Folder.view c.store.new.folder)
    clears.frame (λ failed. cc) (cleared_moves fun.0 files.folder fun.1 _ old mid clears) c.store.ensures.stores

pub returns-in-Fault-clause-stores : goal.returns-in-Fault-clause-stores
returns-in-Fault-clause-stores g c =
    let files = c.args.files.now in
    let bytes = c.args.bytes.now in
    let old = g.F.Folder.view c.args.folder.now in
    let new = g.F.Folder.view c.clear_entries.new.folder in
    let fun = c.requires.of_function in
    let clears = c.in-Fault.ensures fun.0 fun.1 in
    stores_only files bytes (IsClearing files.folder) (clearing_no_rename files.folder) (λ root is t s m kind. clearing_puts root files.folder is files.last bytes t s m kind) _ old new
    clears.frame (λ e. refl) (λ e. refl) (cleared_moves fun.0 files.folder fun.1 _ old new clears) (λ done. done)

pub returns-in-NoMemory-clause-stores : goal.returns-in-NoMemory-clause-stores
returns-in-NoMemory-clause-stores g c =
    let files = c.args.files.now in
    let bytes = c.args.bytes.now in
    let old = g.F.Folder.view c.args.folder.now in
    let new = g.F.Folder.view c.clear_entries.new.folder in
    let fun = c.requires.of_function in
    let clears = c.in-NoMemory.ensures fun.0 fun.1 in
    stores_only files bytes (IsClearing files.folder) (clearing_no_rename files.folder) (λ root is t s m kind. clearing_puts root files.folder is files.last bytes t s m kind) _ old new
    clears.frame (λ e. cc) (λ e. cc) (cleared_moves fun.0 files.folder fun.1 _ old new clears) (λ done. done)

pub returns-in-Cleared-clause-skips : goal.returns-in-Cleared-clause-skips
returns-in-Cleared-clause-skips g c = λ t is root m f hm hf are whole tidy all pre.
    let files = c.args.files.now in
    let old = g.F.Folder.view c.args.folder.now in
    let mid = g.F.Folder.view c.clear_entries.new.folder in
    let fun : IsFunctionFolder root files.folder = (m, f, hm, hf, are.0) in
    let clears = c.in-Cleared.ensures root fun in
    let told = clears.frame.told t in
    let moves = cleared_moves root files.folder fun _ old mid clears t in
    skips_then root m f old.token files are old mid (g.F.Folder.view c.store.new.folder) moves.went (c.store.ensures.stores.goes told)
    (cleared_there root m f old.token files are old mid moves pre)
    (λ tidy_mid has. c.store.ensures.skipped told is root (code_of m f) (subst (λ (u : List ℕ). IsTemp root (code_of m f) u files.temp) (sym clears.frame.token) are.2) are.1 whole tidy_mid has)
    tidy all

pub returns-in-Fault-clause-skips : goal.returns-in-Fault-clause-skips
returns-in-Fault-clause-skips g c = λ t is root m f hm hf are whole tidy all pre. cc

pub returns-in-NoMemory-clause-skips : goal.returns-in-NoMemory-clause-skips
returns-in-NoMemory-clause-skips g c = λ t is root m f hm hf are whole tidy all pre. cc

pub returns-in-Cleared-clause-alone : goal.returns-in-Cleared-clause-alone
returns-in-Cleared-clause-alone g c = λ t lone root m f hm hf are tidy.
    let files = c.args.files.now in
    let bytes = c.args.bytes.now in
    let old = g.F.Folder.view c.args.folder.now in
    let mid = g.F.Folder.view c.clear_entries.new.folder in
    let new = g.F.Folder.view c.store.new.folder in
    let fun : IsFunctionFolder root files.folder = (m, f, hm, hf, are.0) in
    let clears = c.in-Cleared.ensures root fun in
    let told = clears.frame.told t in
    let parts = lone_parts old mid new (clears.moves t).went (c.store.ensures.stores.goes told) lone in
    let before = cleared_alone root files.folder fun _ old mid clears refl t parts.0 tidy in
    leaves_replaced c.store.result files bytes (state old) (state new) (comes_replaced c.store.result c.store.ensures.answer)
    (λ is. replaces_code root m f old.token files are hm hf bytes (state old) (state mid) (state new) before (c.store.ensures.alone told (subst IsCodePublished (sym is) tt) parts.1))
