-- The names of an entry are apart, and stand in its folder.
use Rattle.std.proofs.Common.{◌≡◌, ◌≢◌, inl, inr, ℕ, true, false, List, [], ◌∷◌, ◌++◌, not, ◌&&◌, refl, sym, ap, ◌∙◌, append_assoc, arith}
use Rattle.std.specs.Prelude.{IsTrue}
use Rattle.std.proofs.lemmas.List.{append_cancel_left}
use Rattle.jl_text.specs.Paths.{PathView, is_fixed, parent}
use Rattle.jl_text.specs.Texts.{is_name, is_token}
use Rattle.jl_folder.specs.declared.moves.Move.TheVariants.{MakeDir, Create, Append, Rename, Remove, RemoveDir}
use Rattle.jl_folder.specs.State.{State, is_folder, has_parent}
use Rattle.jl_entry.specs.declared.names.EntryFile.{EntryFile}
use Rattle.jl_entry.specs.declared.names.EntryFile.TheVariants.{Output, Metadata, Access}
use Rattle.jl_entry.specs.Names.{IsFinal, IsTemp, IsStoreFolder, is_key, entry_part, suffix, below}
use Rattle.jl_rely.proofs.Touched.{IsApart}
use Rattle.jl_clear.proofs.Paths.{parent_in}
use Rattle.jl_store.specs.Kinds.{IsFor}
use Rattle.jl_store.specs.Keeping.{EntryPlace, function_path, entry_path, file_of, last_of, temp_of}
use Rattle.jl_store.proofs.NamePlaces.{free_of_two}

-- its module and its function are names, and its key is a key
abbrev pub IsNamed : EntryPlace → Type 0
IsNamed e = IsTrue (is_name e.module_name) × IsTrue (is_name e.function_name) × IsTrue (is_key e.key)

pub final_of : (e : EntryPlace) → IsNamed e → (file : EntryFile) → IsFinal e.root (file_of e file) (last_of e file)
final_of e named file = record { formed = named; is = refl }

pub temp_is : (e : EntryPlace) → IsNamed e → (token : List ℕ) → IsTrue (is_token token) → (file : EntryFile) → IsTemp e.root (file_of e file) token (temp_of e token file)
temp_is e named token ok file = record { formed = named; of_token = ok; is = refl }

pub entry_in_store : (e : EntryPlace) → IsNamed e → IsStoreFolder e.root (entry_path e)
unfolding IsStoreFolder
entry_in_store e named = inr (e.module_name ∷ e.function_name ∷ e.key ∷ [], named, refl)

-- ---- one folder

pub last_parent : (e : EntryPlace) (file : EntryFile) → parent (last_of e file) ≡ entry_path e
last_parent e file =
    ap parent (sym (append_assoc e.root (e.module_name ∷ e.function_name ∷ e.key ∷ []) (entry_part file ∷ []))) ∙ parent_in (entry_path e) (entry_part file)

pub entry_parent : (e : EntryPlace) → parent (entry_path e) ≡ function_path e
entry_parent e = ap parent (sym (append_assoc e.root (e.module_name ∷ e.function_name ∷ []) (e.key ∷ []))) ∙ parent_in (function_path e) e.key

pub last_free : (e : EntryPlace) (file : EntryFile) → is_fixed (last_of e file) ≡ false
last_free e file = free_of_two e.root e.module_name e.function_name (e.key ∷ entry_part file ∷ [])

pub last_home : (e : EntryPlace) (file : EntryFile) (s : State) → is_folder s (entry_path e) ≡ true → has_parent s (last_of e file) ≡ true
last_home e file s folder =
    (λ i. not (free_of_two e.root e.module_name e.function_name (e.key ∷ entry_part file ∷ []) i) && is_folder s (last_parent e file i)) ∙ folder

pub entry_home : (e : EntryPlace) (s : State) → is_folder s (function_path e) ≡ true → has_parent s (entry_path e) ≡ true
entry_home e s folder = (λ i. not (free_of_two e.root e.module_name e.function_name (e.key ∷ []) i) && is_folder s (entry_parent e i)) ∙ folder

-- ---- apart

-- the first byte of a file's name
abbrev letter : EntryFile → ℕ
letter Output = 111
letter Metadata = 109
letter Access = 108

begins : (file : EntryFile) → (rest : List ℕ) × (entry_part file ≡ letter file ∷ rest)
unfolding entry_part
begins Output = (_, refl)
begins Metadata = (_, refl)
begins Access = (_, refl)

letters : (j k : EntryFile) → letter j ≡ letter k → j ≡ k
letters Output Output e = refl
letters Output Metadata e = absurd (omega (arith, e))
letters Output Access e = absurd (omega (arith, e))
letters Metadata Output e = absurd (omega (arith, e))
letters Metadata Metadata e = refl
letters Metadata Access e = absurd (omega (arith, e))
letters Access Output e = absurd (omega (arith, e))
letters Access Metadata e = absurd (omega (arith, e))
letters Access Access e = refl

-- paths in one entry's folder have one last part
one_part : (e : EntryPlace) (x y : List ℕ) → below e.root (e.module_name ∷ e.function_name ∷ e.key ∷ x ∷ []) ≡ below e.root (e.module_name ∷ e.function_name ∷ e.key ∷ y ∷ []) → x ≡ y
one_part e x y same =
    let parts = append_cancel_left e.root (e.module_name ∷ e.function_name ∷ e.key ∷ x ∷ []) (e.module_name ∷ e.function_name ∷ e.key ∷ y ∷ []) same in cc

heads : (a b : ℕ) (xs ys : List ℕ) → a ∷ xs ≡ b ∷ ys → a ≡ b
heads a b xs ys e = cc

last_begins : (file : EntryFile) → (rest : List ℕ) × (entry_part file ≡ letter file ∷ rest)
last_begins file = begins file

temp_begins : (file : EntryFile) (token : List ℕ) → (rest : List ℕ) × (entry_part file ++ suffix token ≡ letter file ∷ rest)
temp_begins file token = let b = begins file in (b.0 ++ suffix token, ap (λ (l : List ℕ). l ++ suffix token) b.1)

part_apart : (e : EntryPlace) (j k : EntryFile) (x y : List ℕ) → (rest : List ℕ) × (x ≡ letter j ∷ rest) → (rest : List ℕ) × (y ≡ letter k ∷ rest) → j ≢ k → below e.root (e.module_name ∷ e.function_name ∷ e.key ∷ x ∷ []) ≢ below e.root (e.module_name ∷ e.function_name ∷ e.key ∷ y ∷ [])
part_apart e j k x y a b ne same = ne (letters j k (heads (letter j) (letter k) a.0 b.0 (sym a.1 ∙ one_part e x y same ∙ b.1)))

-- a path in the entry's folder isn't the folder
in_folder : (e : EntryPlace) (x : List ℕ) → below e.root (e.module_name ∷ e.function_name ∷ e.key ∷ []) ≢ below e.root (e.module_name ∷ e.function_name ∷ e.key ∷ x ∷ [])
in_folder e x same =
    let parts = append_cancel_left e.root (e.module_name ∷ e.function_name ∷ e.key ∷ []) (e.module_name ∷ e.function_name ∷ e.key ∷ x ∷ []) same in cc

pub entry_not_last : (e : EntryPlace) (file : EntryFile) → entry_path e ≢ last_of e file
entry_not_last e file = in_folder e (entry_part file)

pub entry_not_temp : (e : EntryPlace) (token : List ℕ) (file : EntryFile) → entry_path e ≢ temp_of e token file
entry_not_temp e token file = in_folder e (entry_part file ++ suffix token)

pub last_not_last : (e : EntryPlace) (j k : EntryFile) → j ≢ k → last_of e j ≢ last_of e k
last_not_last e j k ne = part_apart e j k (entry_part j) (entry_part k) (last_begins j) (last_begins k) ne

pub last_not_temp : (e : EntryPlace) (token : List ℕ) (j k : EntryFile) → j ≢ k → last_of e j ≢ temp_of e token k
last_not_temp e token j k ne = part_apart e j k (entry_part j) (entry_part k ++ suffix token) (last_begins j) (temp_begins k token) ne

pub temp_not_last : (e : EntryPlace) (token : List ℕ) (j k : EntryFile) → j ≢ k → temp_of e token j ≢ last_of e k
temp_not_last e token j k ne = part_apart e j k (entry_part j ++ suffix token) (entry_part k) (temp_begins j token) (last_begins k) ne

pub temp_not_temp : (e : EntryPlace) (token : List ℕ) (j k : EntryFile) → j ≢ k → temp_of e token j ≢ temp_of e token k
temp_not_temp e token j k ne = part_apart e j k (entry_part j ++ suffix token) (entry_part k ++ suffix token) (temp_begins j token) (temp_begins k token) ne

-- own moves of publishing touch no other name
pub for_apart : (last temp x : PathView) → x ≢ last → x ≢ temp → IsApart (IsFor last temp) x
unfolding IsFor
for_apart last temp x not_last not_temp (MakeDir p) is touch = is
for_apart last temp x not_last not_temp (Create p n) is touch = not_temp (touch ∙ is)
for_apart last temp x not_last not_temp (Append n bytes) is touch = touch
for_apart last temp x not_last not_temp (Rename p q) is (inl e) = not_temp (e ∙ is.0)
for_apart last temp x not_last not_temp (Rename p q) is (inr e) = not_last (e ∙ is.1)
for_apart last temp x not_last not_temp (Remove p) is touch = not_temp (touch ∙ is)
for_apart last temp x not_last not_temp (RemoveDir p) is touch = is
