-- Which names of the store stand in which of its folders.
use Rattle.std.proofs.Common.{◌≡◌, ◌≢◌, ◌⊎◌, inl, inr, ℕ, ◌≤◌, List, [], ◌∷◌, ◌++◌, false, None, Some, true≢false, refl, sym, ap, subst, ◌∙◌, arith, length, append_assoc, append-nil, length-append}
use Rattle.std.specs.Prelude.{IsTrue}
use Rattle.std.specs.Option.{option_map_or}
use Rattle.std.proofs.lemmas.List.{append_cancel_left}
use Rattle.jl_text.specs.Paths.{PathView, is_fixed}
use Rattle.jl_text.specs.Texts.{is_name, is_token}
use Rattle.jl_folder.specs.declared.moves.Place.{Place}
use Rattle.jl_folder.specs.declared.moves.Place.TheVariants.{Folder, File}
use Rattle.jl_folder.specs.State.{State, place_at, is_folder, is_file, is_folder_place, is_file_place}
use Rattle.jl_entry.specs.declared.names.EntryFile.{EntryFile}
use Rattle.jl_entry.specs.declared.names.EntryFile.TheVariants.{Output, Metadata, Access}
use Rattle.jl_entry.specs.Names.{Final, code_of, entry_of, IsFormed, IsFinal, IsTemp, IsStoreName, IsStoreFolder, IsFolderParts, IsOnWay, IsBelow, below, final_parts, temp_parts, is_key, code_part, entry_part, suffix, IsEntryName, IsFunctionFolder, IsCodeName, IsKeyName, IsNameOf, IsModuleFolder, IsEntryFolder}
use Rattle.jl_entry.proofs.NameFacts.{final_not_folder, temp_not_folder, final_below, temp_below}
use Rattle.jl_rely.proofs.Causes.{place_none}
use Rattle.jl_protocol.specs.Tidy.{IsTidy}
use Rattle.jl_clear.specs.Taking.{IsInside, IsOfStore}
use Rattle.jl_clear.specs.Levels.{IsFunctionPart}
use Rattle.jl_clear.specs.Clearing.{IsPlace, IsBehind}
use Rattle.jl_clear.proofs.Paths.{free_named}

-- ---- forms of names are not empty

pub name_long : (m : List ℕ) → IsTrue (is_name m) → 1 ≤ length m
name_long [] is = absurd (true≢false (sym is))
name_long (x ∷ xs) is = omega arith

pub name_there : (part : List ℕ) → IsNameOf part → part ≢ []
name_there part is e = true≢false (sym is ∙ ap is_name e)

pub key_there : (part : List ℕ) → IsKeyName part → part ≢ []
unfolding is_key
key_there part is e = true≢false (sym is ∙ ap is_key e)

pub code_there : (part : List ℕ) → IsCodeName part → part ≢ []
unfolding code_part
code_there part (inl is) e = let h : [] ≡ code_part = sym e ∙ is in cc
code_there part (inr is) e = let h : [] ≡ code_part ++ suffix is.0 = sym e ∙ is.2 in cc

entry_long : (file : EntryFile) → 1 ≤ length (entry_part file)
unfolding entry_part
entry_long Output = omega arith
entry_long Metadata = omega arith
entry_long Access = omega arith

pub entry_there : (part : List ℕ) → IsEntryName part → part ≢ []
entry_there part (file, inl is) e = let h : [] ≡ entry_part file = sym e ∙ is in omega (arith, ap length h, entry_long file)
entry_there part (file, inr is) e = let h : [] ≡ entry_part file ++ suffix is.0 = sym e ∙ is.2 in omega (arith, ap length h, entry_long file, length-append (entry_part file) (suffix is.0))

pub function_there : (part : List ℕ) → IsFunctionPart part → part ≢ []
function_there part (inl key) = key_there part key
function_there part (inr code) = code_there part code

-- ---- the folders of a folder, and its files

pub module_in : (root : PathView) (part : List ℕ) → IsNameOf part → IsModuleFolder root (root ++ part ∷ [])
module_in root part is = (part, is, refl)

pub function_in : (root folder : PathView) (part : List ℕ) → IsModuleFolder root folder → IsNameOf part → IsFunctionFolder root (folder ++ part ∷ [])
function_in root folder part of is = (of.0, part, of.1, is, ap (λ (q : PathView). q ++ part ∷ []) of.2 ∙ append_assoc root (of.0 ∷ []) (part ∷ []))

pub entry_in : (root folder : PathView) (part : List ℕ) → IsFunctionFolder root folder → IsKeyName part → IsEntryFolder root (folder ++ part ∷ [])
entry_in root folder part of is = (of.0, of.1, part, of.2, of.3, is, ap (λ (q : PathView). q ++ part ∷ []) of.4 ∙ append_assoc root (of.0 ∷ of.1 ∷ []) (part ∷ []))

function_path : (root folder rest : PathView) (of : IsFunctionFolder root folder) → folder ++ rest ≡ below root (of.0 ∷ of.1 ∷ rest)
function_path root folder rest of = ap (λ (q : PathView). q ++ rest) of.4 ∙ append_assoc root (of.0 ∷ of.1 ∷ []) rest

entry_path : (root folder rest : PathView) (of : IsEntryFolder root folder) → folder ++ rest ≡ below root (of.0 ∷ of.1 ∷ of.2 ∷ rest)
entry_path root folder rest of = ap (λ (q : PathView). q ++ rest) of.6 ∙ append_assoc root (of.0 ∷ of.1 ∷ of.2 ∷ []) rest

pub code_name : (root folder : PathView) (part : List ℕ) → IsFunctionFolder root folder → IsCodeName part → IsStoreName root (folder ++ part ∷ [])
code_name root folder part of (inl is) =
    inl (code_of of.0 of.1, record { formed = (of.2, of.3); is = function_path root folder (part ∷ []) of ∙ ap (λ (w : List ℕ). below root (of.0 ∷ of.1 ∷ w ∷ [])) is })
code_name root folder part of (inr is) =
    inr (code_of of.0 of.1, is.0, record { formed = (of.2, of.3); of_token = is.1; is = function_path root folder (part ∷ []) of ∙ ap (λ (w : List ℕ). below root (of.0 ∷ of.1 ∷ w ∷ [])) is.2 })

pub entry_name : (root folder : PathView) (part : List ℕ) → IsEntryFolder root folder → IsEntryName part → IsStoreName root (folder ++ part ∷ [])
entry_name root folder part of (file, inl is) =
    inl (entry_of file of.0 of.1 of.2, record { formed = (of.3, of.4, of.5); is = entry_path root folder (part ∷ []) of ∙ ap (λ (w : List ℕ). below root (of.0 ∷ of.1 ∷ of.2 ∷ w ∷ [])) is })
entry_name root folder part of (file, inr is) =
    inr (entry_of file of.0 of.1 of.2, is.0, record { formed = (of.3, of.4, of.5); of_token = is.1; is = entry_path root folder (part ∷ []) of ∙ ap (λ (w : List ℕ). below root (of.0 ∷ of.1 ∷ of.2 ∷ w ∷ [])) is.2 })

-- ---- folders of the store that have a parent

pub module_place : (root folder : PathView) → IsModuleFolder root folder → IsPlace root folder
unfolding IsStoreFolder
module_place root folder of = (inr (of.0 ∷ [], of.1, of.2), ap is_fixed of.2 ∙ free_named root of.0 [] (name_long of.0 of.1))

pub function_place : (root folder : PathView) → IsFunctionFolder root folder → IsPlace root folder
unfolding IsStoreFolder
function_place root folder of = (inr (of.0 ∷ of.1 ∷ [], (of.2, of.3), of.4), ap is_fixed of.4 ∙ free_named root of.0 (of.1 ∷ []) (name_long of.0 of.2))

pub entry_place : (root folder : PathView) → IsEntryFolder root folder → IsPlace root folder
unfolding IsStoreFolder
entry_place root folder of =
    (inr (of.0 ∷ of.1 ∷ of.2 ∷ [], (of.3, of.4, of.5), of.6), ap is_fixed of.6 ∙ free_named root of.0 (of.1 ∷ of.2 ∷ []) (name_long of.0 of.3))

pub module_place_long : (root folder : PathView) → IsModuleFolder root folder → 1 ≤ length folder
module_place_long root folder of = omega (arith, ap length of.2, length-append root (of.0 ∷ []))

pub function_place_long : (root folder : PathView) → IsFunctionFolder root folder → 1 ≤ length folder
function_place_long root folder of = omega (arith, ap length of.4, length-append root (of.0 ∷ of.1 ∷ []))

pub entry_place_long : (root folder : PathView) → IsEntryFolder root folder → 1 ≤ length folder
entry_place_long root folder of = omega (arith, ap length of.6, length-append root (of.0 ∷ of.1 ∷ of.2 ∷ []))

-- ---- what of the store stands in them

-- a folder of the store below the root has its parts
folder_parts : (root : PathView) (a : List ℕ) (rest q : PathView) → q ≡ below root (a ∷ rest) → IsStoreFolder root q → IsFolderParts (a ∷ rest)
unfolding IsStoreFolder IsOnWay
folder_parts root a rest q e (inl way) = absurd (omega (arith, ap length way.1, ap length e, length-append q way.0, length-append root (a ∷ rest)))
folder_parts root a rest q e (inr (parts, formed, is)) = subst IsFolderParts (append_cancel_left root parts (a ∷ rest) (sym is ∙ e)) formed

-- the parts of a folder, of a final name or of a temporary one
abbrev IsStoreParts : PathView → Type 0
IsStoreParts parts =
    IsFolderParts parts ⊎ (((x : Final) × IsFormed x × (parts ≡ final_parts x)) ⊎ ((x : Final) × (token : List ℕ) × IsFormed x × IsTrue (is_token token) × (parts ≡ temp_parts x token)))

store_parts : (root : PathView) (a : List ℕ) (rest q : PathView) → q ≡ below root (a ∷ rest) → IsOfStore root q → IsStoreParts (a ∷ rest)
store_parts root a rest q e (inl (inl (x, final))) = inr (inl (x, final.formed, append_cancel_left root (a ∷ rest) (final_parts x) (sym e ∙ final.is)))
store_parts root a rest q e (inl (inr (x, token, temp))) = inr (inr (x, token, temp.formed, temp.of_token, append_cancel_left root (a ∷ rest) (temp_parts x token) (sym e ∙ temp.is)))
store_parts root a rest q e (inr folder) = inl (folder_parts root a rest q e folder)

-- the first is a name
first_part : (a : List ℕ) (rest : PathView) → IsStoreParts (a ∷ rest) → IsNameOf a
first_part a [] (inl formed) = formed
first_part a (b ∷ []) (inl formed) = formed.0
first_part a (b ∷ c ∷ []) (inl formed) = formed.0
first_part a (b ∷ c ∷ d ∷ rest) (inl formed) = absurd formed
first_part a rest (inr (inl (code_of m f, formed, e))) = let same : a ≡ m = cc in subst IsNameOf (sym same) formed.0
first_part a rest (inr (inl (entry_of w m f k, formed, e))) = let same : a ≡ m = cc in subst IsNameOf (sym same) formed.0
first_part a rest (inr (inr (code_of m f, t, formed, ok, e))) = let same : a ≡ m = cc in subst IsNameOf (sym same) formed.0
first_part a rest (inr (inr (entry_of w m f k, t, formed, ok, e))) = let same : a ≡ m = cc in subst IsNameOf (sym same) formed.0

-- the second too
second_part : (a b : List ℕ) (rest : PathView) → IsStoreParts (a ∷ b ∷ rest) → IsNameOf b
second_part a b [] (inl formed) = formed.1
second_part a b (c ∷ []) (inl formed) = formed.1
second_part a b (c ∷ d ∷ rest) (inl formed) = absurd formed
second_part a b rest (inr (inl (code_of m f, formed, e))) = let same : b ≡ f = cc in subst IsNameOf (sym same) formed.1
second_part a b rest (inr (inl (entry_of w m f k, formed, e))) = let same : b ≡ f = cc in subst IsNameOf (sym same) formed.1
second_part a b rest (inr (inr (code_of m f, t, formed, ok, e))) = let same : b ≡ f = cc in subst IsNameOf (sym same) formed.1
second_part a b rest (inr (inr (entry_of w m f k, t, formed, ok, e))) = let same : b ≡ f = cc in subst IsNameOf (sym same) formed.1

-- the third is a key, or of the code's file
third_part : (a b c : List ℕ) (rest : PathView) → IsStoreParts (a ∷ b ∷ c ∷ rest) → IsFunctionPart c
third_part a b c [] (inl formed) = inl formed.2
third_part a b c (d ∷ rest) (inl formed) = absurd formed
third_part a b c rest (inr (inl (code_of m f, formed, e))) = inr (inl cc)
third_part a b c rest (inr (inl (entry_of w m f k, formed, e))) = let same : c ≡ k = cc in inl (subst IsKeyName (sym same) formed.2)
third_part a b c rest (inr (inr (code_of m f, t, formed, ok, e))) = inr (inr (t, ok, cc))
third_part a b c rest (inr (inr (entry_of w m f k, t, formed, ok, e))) = let same : c ≡ k = cc in inl (subst IsKeyName (sym same) formed.2)

-- the fourth is of a file of an entry
fourth_part : (a b c d : List ℕ) (rest : PathView) → IsStoreParts (a ∷ b ∷ c ∷ d ∷ rest) → IsEntryName d
fourth_part a b c d rest (inl formed) = absurd formed
fourth_part a b c d rest (inr (inl (code_of m f, formed, e))) = cc
fourth_part a b c d rest (inr (inl (entry_of w m f k, formed, e))) = (w, inl cc)
fourth_part a b c d rest (inr (inr (code_of m f, t, formed, ok, e))) = cc
fourth_part a b c d rest (inr (inr (entry_of w m f k, t, formed, ok, e))) = (w, inr (t, ok, cc))

-- and stands in an entry's folder
front_parts : (a b c d : List ℕ) (rest : PathView) → IsStoreParts (a ∷ b ∷ c ∷ d ∷ rest) → IsFolderParts (a ∷ b ∷ c ∷ [])
front_parts a b c d rest (inl formed) = absurd formed
front_parts a b c d rest (inr (inl (code_of m f, formed, e))) = cc
front_parts a b c d rest (inr (inl (entry_of w m f k, formed, e))) = let same : m ∷ f ∷ k ∷ [] ≡ a ∷ b ∷ c ∷ [] = cc in subst IsFolderParts same formed
front_parts a b c d rest (inr (inr (code_of m f, t, formed, ok, e))) = cc
front_parts a b c d rest (inr (inr (entry_of w m f k, t, formed, ok, e))) = let same : m ∷ f ∷ k ∷ [] ≡ a ∷ b ∷ c ∷ [] = cc in subst IsFolderParts same formed

-- there is no fifth
no_fifth : (a b c d f : List ℕ) (rest : PathView) → IsStoreParts (a ∷ b ∷ c ∷ d ∷ f ∷ rest) → ⊥
no_fifth a b c d f rest (inl formed) = formed
no_fifth a b c d f rest (inr (inl (code_of m g, formed, e))) = cc
no_fifth a b c d f rest (inr (inl (entry_of w m g k, formed, e))) = cc
no_fifth a b c d f rest (inr (inr (code_of m g, t, formed, ok, e))) = cc
no_fifth a b c d f rest (inr (inr (entry_of w m g k, t, formed, ok, e))) = cc

module_path : (root folder : PathView) (part : List ℕ) (rest : PathView) (of : IsModuleFolder root folder) → folder ++ part ∷ rest ≡ below root (of.0 ∷ part ∷ rest)
module_path root folder part rest of = ap (λ (q : PathView). q ++ part ∷ rest) of.2 ∙ append_assoc root (of.0 ∷ []) (part ∷ rest)

pub root_inner : (root p : PathView) → IsInside root p → IsOfStore root p → IsBehind IsNameOf root p
root_inner root p (part, rest, e) is = (part, rest, first_part part rest (store_parts root part rest p e is), e)

module _ (root folder p : PathView) where
  pub module_inner : IsModuleFolder root folder → IsInside folder p → IsOfStore root p → IsBehind IsNameOf folder p
  module_inner of (part, rest, e) is = (part, rest, second_part of.0 part rest (store_parts root of.0 (part ∷ rest) p (e ∙ module_path root folder part rest of) is), e)

  pub function_inner : IsFunctionFolder root folder → IsInside folder p → IsOfStore root p → IsBehind IsFunctionPart folder p
  function_inner of (part, rest, e) is = (part, rest, third_part of.0 of.1 part rest (store_parts root of.0 (of.1 ∷ part ∷ rest) p (e ∙ function_path root folder (part ∷ rest) of) is), e)

  pub entry_inner : IsEntryFolder root folder → IsInside folder p → IsOfStore root p → IsBehind IsEntryName folder p
  entry_inner of (part, rest, e) is = (part, rest, fourth_part of.0 of.1 of.2 part rest (store_parts root of.0 (of.1 ∷ of.2 ∷ part ∷ rest) p (e ∙ entry_path root folder (part ∷ rest) of) is), e)

-- nothing of the store stands below a name of it
below_parts : (root p : PathView) (x y : List ℕ) (ys : PathView) (a b : List ℕ) → p ≡ below root (a ∷ b ∷ x ∷ []) → (IsStoreFolder root p → ⊥) → IsOfStore root (p ++ y ∷ ys) → ⊥
unfolding IsStoreFolder
below_parts root p x y ys a b is no_folder of =
    let there : p ++ y ∷ ys ≡ below root (a ∷ b ∷ x ∷ y ∷ ys) = ap (λ (q : PathView). q ++ y ∷ ys) is ∙ append_assoc root (a ∷ b ∷ x ∷ []) (y ∷ ys) in
    no_folder (inr (a ∷ b ∷ x ∷ [], front_parts a b x y ys (store_parts root a (b ∷ x ∷ y ∷ ys) (p ++ y ∷ ys) there of), is))

deep_parts : (root p : PathView) (a b c d y : List ℕ) (ys : PathView) → p ≡ below root (a ∷ b ∷ c ∷ d ∷ []) → IsOfStore root (p ++ y ∷ ys) → ⊥
deep_parts root p a b c d y ys is of =
    no_fifth a b c d y ys (store_parts root a (b ∷ c ∷ d ∷ y ∷ ys) (p ++ y ∷ ys) (ap (λ (q : PathView). q ++ y ∷ ys) is ∙ append_assoc root (a ∷ b ∷ c ∷ d ∷ []) (y ∷ ys)) of)

name_bare : (root p : PathView) (y : List ℕ) (ys : PathView) → IsStoreName root p → IsOfStore root (p ++ y ∷ ys) → ⊥
name_bare root p y ys (inl (code_of m f, final)) of = below_parts root p code_part y ys m f final.is (final_not_folder root (code_of m f) p final) of
name_bare root p y ys (inl (entry_of w m f k, final)) of = deep_parts root p m f k (entry_part w) y ys final.is of
name_bare root p y ys (inr (code_of m f, t, temp)) of = below_parts root p (code_part ++ suffix t) y ys m f temp.is (temp_not_folder root (code_of m f) t p temp) of
name_bare root p y ys (inr (entry_of w m f k, t, temp)) of = deep_parts root p m f k (entry_part w ++ suffix t) y ys temp.is of

pub below_name : (root p q : PathView) → IsStoreName root p → IsBelow p q → IsOfStore root q → q ≡ p
unfolding IsBelow
below_name root p q name ([], e) of = e ∙ append-nil p
below_name root p q name (y ∷ ys, e) of = absurd (name_bare root p y ys name (subst (IsOfStore root) e of))

-- a name of the store is none of its folders
pub name_not_folder : (root p : PathView) → IsStoreName root p → IsStoreFolder root p → ⊥
name_not_folder root p (inl (x, final)) folder = final_not_folder root x p final folder
name_not_folder root p (inr (x, token, temp)) folder = temp_not_folder root x token p temp folder

-- a name of the store at or below a folder of it stands inside
pub name_inside : (root folder p : PathView) → IsStoreFolder root folder → IsBelow folder p → IsStoreName root p → IsInside folder p
unfolding IsBelow
name_inside root folder p store ([], e) name = absurd (name_not_folder root p name (subst (IsStoreFolder root) (sym (e ∙ append-nil folder)) store))
name_inside root folder p store (part ∷ rest, e) name = (part, rest, e)

-- a name of the store at or below an entry's folder is a file's of an entry, right in it
pub entry_file : (root folder p : PathView) → IsEntryFolder root folder → IsBelow folder p → IsStoreName root p → (part : List ℕ) × IsEntryName part × (p ≡ folder ++ part ∷ [])
unfolding IsBelow
entry_file root folder p of ([], e) name = absurd (name_not_folder root p name (subst (IsStoreFolder root) (sym (e ∙ append-nil folder)) (entry_place root folder of).0))
entry_file root folder p of (part ∷ [], e) name =
    (part, fourth_part of.0 of.1 of.2 part [] (store_parts root of.0 (of.1 ∷ of.2 ∷ part ∷ []) p (e ∙ entry_path root folder (part ∷ []) of) (inl name)), e)
entry_file root folder p of (part ∷ y ∷ ys, e) name =
    absurd (no_fifth of.0 of.1 of.2 part y ys (store_parts root of.0 (of.1 ∷ of.2 ∷ part ∷ y ∷ ys) p (e ∙ entry_path root folder (part ∷ y ∷ ys) of) (inl name)))

-- and a folder of the store there is that folder
pub entry_itself : (root folder p : PathView) → IsEntryFolder root folder → IsBelow folder p → IsStoreFolder root p → p ≡ folder
unfolding IsBelow
entry_itself root folder p of ([], e) store = e ∙ append-nil folder
entry_itself root folder p of (x ∷ xs, e) store = absurd (folder_parts root of.0 (of.1 ∷ of.2 ∷ x ∷ xs) p (e ∙ entry_path root folder (x ∷ xs) of) store)

-- ---- a name of the store is no folder, and a folder of the store no file

not_folder : (o : Place) → (o ≡ Folder → ⊥) → is_folder_place o ≡ false
not_folder Folder no_folder = absurd (no_folder refl)
not_folder (File n) no_folder = refl

no_folder_at : (s : State) (p : PathView) → (place_at s p ≡ Some Folder → ⊥) → is_folder s p ≡ false
no_folder_at s p no_folder = elim (place_at s p) as (λ o. (o ≡ Some Folder → ⊥) → option_map_or is_folder_place o false ≡ false) [
  | None ↦ λ none. refl
  | Some o ↦ λ none. not_folder o (λ e. none (ap (λ (k : Place). Some k) e))
] no_folder

pub temp_no_folder : (root : PathView) (x : Final) (token : List ℕ) (temp : PathView) (s : State) → IsTemp root x token temp → IsTidy root s → is_folder s temp ≡ false
temp_no_folder root x token temp s is tidy = no_folder_at s temp (λ e. temp_not_folder root x token temp is (tidy.folders temp e (temp_below root x token temp is)))

pub final_no_folder : (root : PathView) (x : Final) (last : PathView) (s : State) → IsFinal root x last → IsTidy root s → is_folder s last ≡ false
final_no_folder root x last s is tidy = no_folder_at s last (λ e. final_not_folder root x last is (tidy.folders last e (final_below root x last is)))

pub name_no_folder : (root p : PathView) (s : State) → IsTidy root s → IsStoreName root p → is_folder s p ≡ false
name_no_folder root p s tidy (inl (x, final)) = final_no_folder root x p s final tidy
name_no_folder root p s tidy (inr (x, token, temp)) = temp_no_folder root x token p s temp tidy

pub name_below : (root p : PathView) → IsStoreName root p → IsBelow root p
name_below root p (inl (x, final)) = final_below root x p final
name_below root p (inr (x, token, temp)) = temp_below root x token p temp

parts_long : (x : Final) → 1 ≤ length (final_parts x)
parts_long (code_of m f) = omega arith
parts_long (entry_of w m f k) = omega arith

temps_long : (x : Final) (t : List ℕ) → 1 ≤ length (temp_parts x t)
temps_long (code_of m f) t = omega arith
temps_long (entry_of w m f k) t = omega arith

pub name_path_long : (root p : PathView) → IsStoreName root p → 1 ≤ length p
name_path_long root p (inl (x, final)) = omega (arith, ap length final.is, length-append root (final_parts x), parts_long x)
name_path_long root p (inr (x, token, temp)) = omega (arith, ap length temp.is, length-append root (temp_parts x token), temps_long x token)

not_file : (s : State) (p : PathView) → ((n : ℕ) → place_at s p ≡ Some (File n) → ⊥) → is_file s p ≡ false
not_file s p unnamed = elim (place_at s p) as (λ o. ((n : ℕ) → o ≡ Some (File n) → ⊥) → option_map_or is_file_place o false ≡ false) [
  | None ↦ λ none. refl
  | Some o ↦ elim o as (λ k. ((n : ℕ) → Some k ≡ Some (File n) → ⊥) → is_file_place k ≡ false) [ Folder ↦ λ none. refl | File n ↦ λ none. absurd (none n refl) ]
] unnamed

pub place_gone : (root p : PathView) (s : State) → IsTidy root s → IsStoreFolder root p → is_folder s p ≡ false → place_at s p ≡ None
place_gone root p s tidy folder unmade = place_none (place_at s p) unmade (not_file s p (λ n e. tidy.no_file p n e folder))

pub file_gone : (root p : PathView) (s : State) → IsTidy root s → IsStoreName root p → is_file s p ≡ false → place_at s p ≡ None
file_gone root p s tidy name unnamed = place_none (place_at s p) (name_no_folder root p s tidy name) unnamed
