use Rattle.std.proofs.Common.{◌≡◌, ◌+◌, ◌∙◌, ◌++◌, List, ◌∷◌, [], inl, true≢false, take, Option, Ok, sym, ap, subst, add-one}
use Rattle.std.proofs.Math.Seq.{take-suc}
use Rattle.jl_folder.specs.declared.listing.Name.{Name}
use Rattle.jl_entry.specs.Names.{IsBelow}
use Rattle.jl_rely.specs.Claims.{Anywhere}
use Rattle.jl_clear.specs.declared.levels.Level.{Level}
use Rattle.jl_clear.specs.declared.levels.Level.TheVariants as level
use Rattle.jl_clear.specs.declared.levels.Kind.{Kind}
use Rattle.jl_clear.specs.declared.levels.Kind.TheVariants as kind
use Rattle.jl_clear.specs.declared.removing.Clear.TheVariants.{Cleared}
use Rattle.jl_clear.specs.Levels.{IsKindName, IsKind, IsLevel, IsInnerName}
use Rattle.jl_clear.specs.Listings.{Lists}
use Rattle.jl_clear.specs.Removing.{answer_of}
use Rattle.jl_clear.specs.Clearing.{Clears, Handled, Reached}
use Rattle.jl_clear.proofs.Paths.{reached_below}
use Rattle.jl_clear.proofs.Folders.{name_inside}
use Rattle.jl_clear.proofs.LevelLemmas.{inner_there, level_place, level_long, level_inner, kind_at}
use Rattle.jl_clear.proofs.Listings.{clears_emptied, clears_listed, clears_unread, clears_absent, absent_name, absent_folder}
use Rattle.jl_clear.proofs.Parts.{clears_none, clears_err, clears_stopped, clears_memory, clears_wider, clears_both, clears_inner, clears_part, clears_start, clears_more}
use Rattle.jl_clear.proofs.walk.+clearing.Goals as goal

-- ---- what was listed

-- a module's folder holds functions' alone
pub clear_inner-returns-in-Module : goal.clear_inner-returns-in-Module
clear_inner-returns-in-Module g t c = λ root of.
    let v = g.F.Folder.view in
    let path = c.args.path.now in
    clears_inner root path c.args.names.now (kind.Folder level.Function) level.Module c.args.level
    (answer_of c.clear_names.result) (v c.args.folder.now) (v c.clear_names.new.folder) c.in-Module.is (λ part is. is)
    (c.clear_names.ensures root (subst (λ (l : Level). IsLevel l root path) c.in-Module.is of))

-- an entry's folder holds its files alone
pub clear_inner-returns-in-Entry : goal.clear_inner-returns-in-Entry
clear_inner-returns-in-Entry g t c = λ root of.
    let v = g.F.Folder.view in
    let path = c.args.path.now in
    let of' = subst (λ (l : Level). IsLevel l root path) c.in-Entry.is of in
    clears_inner root path c.args.names.now kind.EntryFile level.Entry c.args.level
    (answer_of c.clear_names-in-Entry.result) (v c.args.folder.now) (v c.clear_names-in-Entry.new.folder) c.in-Entry.is
    (λ part is. is) (c.clear_names-in-Entry.ensures root of')

-- a function's holds entries' folders, and then the files of its code
pub clear_inner-returns-in_ok-clear_names-in-Function :
    goal.clear_inner-returns-in_ok-clear_names-in-Function
clear_inner-returns-in_ok-clear_names-in-Function g t c = λ root of.
    let v = g.F.Folder.view in
    let path = c.args.path.now in
    let names = c.args.names.now in
    let old = v c.args.folder.now in
    let mid = v c.clear_names-in-Function.new.folder in
    let new = v c.clear_names-in-Function-2.new.folder in
    let answer = answer_of c.clear_names-in-Function-2.result in
    let of' = subst (λ (l : Level). IsLevel l root path) c.in-Function.is of in
    let Keys : List _ → Type 0 = IsKindName (kind.Folder level.Entry) in
    let Codes : List _ → Type 0 = IsKindName kind.Code in
    subst (λ (l : Level). Clears root Anywhere (IsBelow path) (Handled (IsInnerName l) path names) (Handled (IsInnerName l) path names) answer old new) (sym c.in-Function.is)
    (clears_both root path names (IsBelow path) answer old mid new
    (clears_wider root Anywhere (Reached Keys path) (IsBelow path) _ _ _ old mid (λ p. reached_below Keys path p) (c.in_ok-clear_names-in-Function.ensures root of'))
    (clears_wider root Anywhere (Reached Codes path) (IsBelow path) _ _ _ mid new (λ p. reached_below Codes path p) (c.clear_names-in-Function-2.ensures root of')))

pub clear_inner-returns-in_err-clear_names-in-Function :
    goal.clear_inner-returns-in_err-clear_names-in-Function
clear_inner-returns-in_err-clear_names-in-Function g t c = λ root of.
    let v = g.F.Folder.view in
    let path = c.args.path.now in
    let old = v c.args.folder.now in
    let new = v c.clear_names-in-Function.new.folder in
    let Keys : List _ → Type 0 = IsKindName (kind.Folder level.Entry) in
    let of' = subst (λ (l : Level). IsLevel l root path) c.in-Function.is of in
    clears_err root Anywhere _ _ _ _ _ _ c.from_residual.result c.in_err-clear_names-in-Function.field-0.0 old new
    c.from_residual.ensures.1
    (clears_wider root Anywhere (Reached Keys path) (IsBelow path) _ _ _ old new (λ p. reached_below Keys path p) (c.in_err-clear_names-in-Function.ensures root of'))

-- what was listed was cleared, and then the folder
pub clear_listed-returns : goal.clear_listed-returns
clear_listed-returns g t c = λ root of.
    let v = g.F.Folder.view in
    let path = c.args.path.now in
    let l = c.args.level in
    let old = v c.args.folder.now in
    let mid = v c.clear_inner.new.folder in
    clears_emptied root path (IsInnerName l) c.args.names.now (inner_there l) (IsBelow path) (answer_of c.clear_folder.result) old mid (v c.clear_folder.new.folder)
    (λ p inside store. level_inner root path l p of inside store)
    (subst (λ (ns : List Name). Clears root Anywhere (IsBelow path) (Handled (IsInnerName l) path ns) (Handled (IsInnerName l) path ns) Cleared old mid) c.as_slice.ensures (c.in_ok-clear_inner.ensures root of))
    (c.clear_folder.ensures root (level_place root path l of))

-- ---- a folder

pub clear_level-returns-in_err-names : goal.clear_level-returns-in_err-names
clear_level-returns-in_err-names g t c = λ root of.
    let v = g.F.Folder.view in
    clears_unread root c.args.path.now _ _ _ (v c.args.folder.now) (v c.names_in.new.folder) _ c.from_residual.result c.in_err-names.field-0.0
    c.from_residual.ensures.1 c.in_err-names.ensures.lists

-- its names were read, and what they name is handled
pub clear_level-returns-in-Some : goal.clear_level-returns-in-Some
clear_level-returns-in-Some g t c = λ root of.
    let v = g.F.Folder.view in
    let path = c.args.path.now in
    let l = c.args.level in
    let old = v c.args.folder.now in
    let mid = v c.names_in.new.folder in
    let place = level_place root path l of in
    clears_listed root path (IsInnerName l) c.in-Some.names (inner_there l) (IsBelow path) (IsBelow path) (IsBelow path) (answer_of c.clear_listed.result) old mid (v c.clear_listed.new.folder)
    (λ p below name. level_inner root path l p of (name_inside root path p place.0 below name) (inl name))
    (subst (λ (o : Option (List Name)). Lists path (Ok o) old mid) c.in-Some.is c.in_ok-names.ensures.lists)
    (c.clear_listed.ensures root of)

-- there is no such folder, and so nothing in it
pub clear_level-returns-in-None : goal.clear_level-returns-in-None
clear_level-returns-in-None g t c = λ root of.
    let v = g.F.Folder.view in
    let path = c.args.path.now in
    let l = c.args.level in
    let old = v c.args.folder.now in
    let new = v c.names_in.new.folder in
    clears_absent root path (IsBelow path) (IsBelow path) (IsBelow path) old new
    (absent_name root path (level_place root path l of).0 (level_long root path l of))
    (absent_folder path (level_long root path l of))
    (subst (λ (o : Option (List Name)). Lists path (Ok o) old new) c.in-None.is c.in_ok-names.ensures.lists)

-- ---- a name

-- a name that is not of the kind stays
pub clear_name-returns-then-not-is_name : goal.clear_name-returns-then-not-is_name
clear_name-returns-then-not-is_name g t c = λ root of.
    let not : IsKindName c.args.kind c.args.part.now → ⊥ = λ is. true≢false (sym (c.is_name.ensures.1 is) ∙ c.if-not-is_name.true) in
    clears_none root _ _ _ _ Cleared (g.F.Folder.view c.args.folder.now) (λ f. cc) (λ done p is. not is.0) (λ done p is. not is.0)

pub clear_name-returns-in_err-path : goal.clear_name-returns-in_err-path
clear_name-returns-in_err-path g t c = λ root of.
    clears_memory root _ _ _ _ c.from_residual.result (g.F.Folder.view c.args.folder.now) c.from_residual.ensures.1

-- what stands at it is of that kind
pub clear_name-returns : goal.clear_name-returns
clear_name-returns g t c = λ root of.
    let v = g.F.Folder.view in
    let k = c.args.kind in
    let home = c.args.home.now in
    let part = c.args.part.now in
    let is : IsKindName k part = c.is_name.ensures.0 c.if-not-is_name.false in
    clears_part root (IsKindName k) home _ part (Reached (IsKindName k) home) (answer_of c.clear_path.result) (v c.args.folder.now) (v c.clear_path.new.folder) c.in_ok-path.ensures
    (λ p below. (part, (is, below)))
    (c.clear_path.ensures root (subst (IsKind k root) (sym c.in_ok-path.ensures) (kind_at root home k part of is)))

-- ---- names

pub clear_names-loop-name-init : goal.clear_names-loop-name-init
clear_names-loop-name-init g t c = λ root of.
    let Form : List _ → Type 0 = IsKindName c.args.kind in
    clears_start root Form c.args.home.now c.args.names.now (Reached Form c.args.home.now) (g.F.Folder.view c.args.folder.now)

pub clear_names-returns-in_err-clear_name : goal.clear_names-returns-in_err-clear_name
clear_names-returns-in_err-clear_name g t c = λ root of.
    let v = g.F.Folder.view in
    clears_stopped root _ _ _ _ _ _ _ _ _ _ c.from_residual.result c.in_err-clear_name.field-0.0 (v c.args.folder.now) (v c.loop-name.folder) (v c.clear_name.new.folder)
    c.from_residual.ensures.1 (c.loop-name.invariant root of) (c.in_err-clear_name.ensures root of)

-- one name more
pub clear_names-loop-name-preserved : goal.clear_names-loop-name-preserved
clear_names-loop-name-preserved g t c = λ root of.
    let v = g.F.Folder.view in
    let Form : List _ → Type 0 = IsKindName c.args.kind in
    let home = c.args.home.now in
    let names = c.args.names.now in
    let i = c.loop-name.name-index in
    let item = c.name-item.result in
    let grown : take (i + 1) names ≡ take i names ++ item ∷ [] = ap (λ n. take n names) (add-one i) ∙ take-suc names i item c.loop-name-test.true ∙ ap (λ x. take i names ++ x ∷ []) (sym c.name-item.is) in
    clears_more root Form home names (Reached Form home) i item c.as_str.result.now (v c.args.folder.now) (v c.loop-name.folder) (v c.clear_name.new.folder)
    grown c.as_str.ensures (c.loop-name.invariant root of) (c.in_ok-clear_name.ensures root of)

-- ---- a path

pub clear_path-returns-in-Code : goal.clear_path-returns-in-Code
clear_path-returns-in-Code g t c = λ root of.
    c.clear_file.ensures root (subst (λ (k : Kind). IsKind k root c.args.path.now) c.in-Code.is of)

pub clear_path-returns-in-EntryFile : goal.clear_path-returns-in-EntryFile
clear_path-returns-in-EntryFile g t c = λ root of.
    c.clear_file-in-EntryFile.ensures root (subst (λ (k : Kind). IsKind k root c.args.path.now) c.in-EntryFile.is of)
