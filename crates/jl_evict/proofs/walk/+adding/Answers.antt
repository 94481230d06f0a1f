use Rattle.std.proofs.Common.{◌≡◌, ◌+◌, ◌∙◌, ◌++◌, List, ◌∷◌, [], true≢false, take, Option, Ok, sym, ap, subst, add-one}
use Rattle.std.specs.Prelude.{⊤}
use Rattle.std.proofs.Math.Seq.{take-suc}
use Rattle.std.proofs.lemmas.List.{take_all}
use Rattle.jl_text.specs.Paths.{PathView}
use Rattle.jl_folder.specs.declared.listing.Name.{Name}
use Rattle.jl_entry.specs.Names.{IsBelow}
use Rattle.jl_clear.specs.declared.levels.Level.{Level}
use Rattle.jl_clear.specs.Levels.{IsLevelName}
use Rattle.jl_clear.specs.Listings.{Lists}
use Rattle.jl_clear.proofs.LevelLemmas.{level_there}
use Rattle.jl_evict.specs.Walks.{Adds, IsAt, Under, AreDistinct, LevelParts}
use Rattle.jl_evict.proofs.WalkLemmas.{adds_listed, adds_gone, adds_unread, adds_none, adds_memory, adds_start, adds_more, adds_every, adds_stopped}
use Rattle.jl_evict.proofs.WalkLemmas.{at_level, in_level, level_short, behind, part_split}
use Rattle.jl_evict.proofs.walk.+adding.Goals as goal

-- ---- a folder

pub add_folders-returns-in_err-names : goal.add_folders-returns-in_err-names
add_folders-returns-in_err-names g t c = λ root at.
    let v = g.F.Folder.view in
    adds_unread root c.args.place.now c.args.items.now.items (v c.args.folder.now) (v c.names_in.new.folder) ⊤ (IsBelow c.args.place.now.name)
    c.from_residual.result c.in_err-names.field-0.0 c.from_residual.ensures.1 c.in_err-names.ensures.lists

-- its names were read: an entry below it is below one of them
pub add_folders-returns-in-Some : goal.add_folders-returns-in-Some
add_folders-returns-in-Some g t c = λ root at.
    let v = g.F.Folder.view in
    let place = c.args.place.now in
    let level = c.args.level in
    let old = v c.args.folder.now in
    let mid = v c.names_in.new.folder in
    let new = v c.add_names.new.folder in
    let before = c.args.items.now.items in
    let after = c.add_names.new.items.items in
    let lists = subst (λ (o : Option (List Name)). Lists place.folder (Ok o) old mid) c.in-Some.is c.in_ok-names.ensures.lists in
    adds_listed root place old mid lists.frame lists.waits c.in-Some.names c.add_names.result before after new (λ f. cc) lists.names at.folder
    (λ parts form of.
    let part = behind place.name parts (level_short level place.name at.form) form of in
    (part.0, part.1, part.2, level_there level part.0 (in_level level place.name part.0 part.1 parts at.form form part.2)))
    (subst (λ (ns : List Name). Adds root (AreDistinct ns) (Under place.name ns) c.add_names.result before after mid new) c.as_slice.ensures (c.add_names.ensures root at))

pub add_folders-returns-in-None : goal.add_folders-returns-in-None
add_folders-returns-in-None g t c = λ root at.
    let v = g.F.Folder.view in
    let place = c.args.place.now in
    let old = v c.args.folder.now in
    let new = v c.names_in.new.folder in
    adds_gone root place c.args.items.now.items old new at.folder
    (subst (λ (o : Option (List Name)). Lists place.folder (Ok o) old new) c.in-None.is c.in_ok-names.ensures.lists)

-- ---- a level

pub add_level-returns-in-Module : goal.add_level-returns-in-Module
add_level-returns-in-Module g t c = λ root at.
    c.add_folders.ensures root (subst (λ (l : Level). IsAt root (LevelParts l) c.args.place.now) c.in-Module.is at)

pub add_level-returns-in-Function : goal.add_level-returns-in-Function
add_level-returns-in-Function g t c = λ root at.
    c.add_folders-in-Function.ensures root (subst (λ (l : Level). IsAt root (LevelParts l) c.args.place.now) c.in-Function.is at)

pub add_level-returns-in-Entry : goal.add_level-returns-in-Entry
add_level-returns-in-Entry g t c = λ root at.
    c.add_entry.ensures root (subst (λ (l : Level). IsAt root (LevelParts l) c.args.place.now) c.in-Entry.is at)

-- ---- a name

-- no entry stands below a name that is not of the level
pub add_name-returns-then-not-is_name : goal.add_name-returns-then-not-is_name
add_name-returns-then-not-is_name g t c = λ root at.
    let name = c.args.place.now.name in
    let part = c.args.part.now in
    adds_none root ⊤ (IsBelow (name ++ part ∷ [])) (Ok tt) c.args.items.now.items (g.F.Folder.view c.args.folder.now) (λ f. cc)
    (λ d parts form of.
    let split = part_split name part parts of in
    let is : IsLevelName c.args.level part = in_level c.args.level name part split.0 parts at.form form split.1 in
    true≢false (sym (c.is_name.ensures.1 is) ∙ c.if-not-is_name.true))

pub add_name-returns-in_err-child : goal.add_name-returns-in_err-child
add_name-returns-in_err-child g t c = λ root at.
    adds_memory root ⊤ (IsBelow (c.args.place.now.name ++ c.args.part.now ∷ [])) c.from_residual.result c.args.items.now.items (g.F.Folder.view c.args.folder.now) c.from_residual.ensures.1

-- what stands at it is a folder of the level
pub add_name-returns : goal.add_name-returns
add_name-returns g t c = λ root at.
    let v = g.F.Folder.view in
    let is : IsLevelName c.args.level c.args.part.now = c.is_name.ensures.0 c.if-not-is_name.false in
    subst (λ (p : PathView). Adds root ⊤ (IsBelow p) c.add_level.result c.args.items.now.items c.add_level.new.items.items (v c.args.folder.now) (v c.add_level.new.folder)) c.in_ok-child.ensures.name
    (c.add_level.ensures root (at_level c.args.level root c.args.place.now c.in_ok-child.child c.args.part.now at is c.in_ok-child.ensures.folder c.in_ok-child.ensures.name))

-- ---- names

pub add_names-loop-name-init : goal.add_names-loop-name-init
add_names-loop-name-init g t c = λ root at. adds_start root c.args.place.now.name c.args.names.now c.args.items.now.items (g.F.Folder.view c.args.folder.now)

-- one name more
pub add_names-loop-name-preserved : goal.add_names-loop-name-preserved
add_names-loop-name-preserved g t c = λ root at.
    let v = g.F.Folder.view in
    let names = c.args.names.now in
    let i = c.loop-name.name-index in
    let item = c.name-item.result in
    let grown : take (i + 1) names ≡ take i names ++ item ∷ [] = ap (λ n. take n names) (add-one i) ∙ take-suc names i item c.loop-name-test.true ∙ ap (λ x. take i names ++ x ∷ []) (sym c.name-item.is) in
    adds_more root c.args.place.now.name names i item c.as_str.result.now c.args.items.now.items c.loop-name.items.items c.add_name.new.items.items (v c.args.folder.now) (v c.loop-name.folder) (v c.add_name.new.folder)
    grown c.loop-name-test.true c.name-item.is c.as_str.ensures (c.loop-name.invariant root at) (c.in_ok-add_name.ensures root at)

pub add_names-returns-in_err-add_name : goal.add_names-returns-in_err-add_name
add_names-returns-in_err-add_name g t c = λ root at.
    let v = g.F.Folder.view in
    let names = c.args.names.now in
    let name = c.args.place.now.name in
    adds_stopped root (AreDistinct names) ⊤ (AreDistinct names) (Under name (take c.loop-name.name-index names)) (IsBelow (name ++ c.as_str.result.now ∷ [])) (Under name names)
    c.from_residual.result c.in_err-add_name.field-0.0 c.args.items.now.items c.loop-name.items.items c.add_name.new.items.items (v c.args.folder.now) (v c.loop-name.folder) (v c.add_name.new.folder)
    c.from_residual.ensures.1 (c.loop-name.invariant root at) (c.in_err-add_name.ensures root at)

-- all names
pub add_names-returns : goal.add_names-returns
add_names-returns g t c = λ root at.
    let v = g.F.Folder.view in
    adds_every root c.args.place.now.name c.args.names.now c.loop-name.name-index c.args.items.now.items c.loop-name.items.items (v c.args.folder.now) (v c.loop-name.folder) (take_all c.loop-name.name-index c.args.names.now c.loop-name-test.false) (c.loop-name.invariant root at)
