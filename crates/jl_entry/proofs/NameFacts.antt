-- The store's names are told apart: no path is two of them, and no temporary name is one in two ways.
use Rattle.std.proofs.Common.{◌≡◌, inl, inr, ℕ, false, List, [], ◌∷◌, ◌++◌, length, refl, sym, ap, ◌∙◌, true≢false, arith, length-append, append-nil}
use Rattle.std.specs.Prelude.{IsTrue}
use Rattle.std.proofs.lemmas.List.{append_cancel_left}
use Rattle.jl_text.specs.Paths.{PathView}
use Rattle.jl_entry.specs.Names.{Final, code_of, entry_of, IsFinal, IsTemp, IsStoreFolder, IsBelow, IsOnWay, IsOutside, IsFolderParts, below, final_parts, temp_parts, code_part, entry_part, suffix, is_key}
use Rattle.jl_entry.specs.declared.names.EntryFile.{EntryFile}
use Rattle.jl_entry.specs.declared.names.EntryFile.TheVariants.{Output, Metadata, Access}

-- what stands below one root at two places
cut : (root : PathView) (ps qs : List (List ℕ)) → below root ps ≡ below root qs → ps ≡ qs
cut root ps qs e = append_cancel_left root ps qs e

-- the first byte of an entry's file tells which it is
entry_first : (v w : EntryFile) (r s : List ℕ) → entry_part v ++ r ≡ entry_part w ++ s → (v ≡ w) × (r ≡ s)
unfolding entry_part
entry_first Output Output r s e = (refl, append_cancel_left (entry_part Output) r s e)
entry_first Output Metadata r s e = absurd (let h : ◌≡◌ {A = ℕ} 111 109 = cc in omega arith)
entry_first Output Access r s e = absurd (let h : ◌≡◌ {A = ℕ} 111 108 = cc in omega arith)
entry_first Metadata Output r s e = absurd (let h : ◌≡◌ {A = ℕ} 109 111 = cc in omega arith)
entry_first Metadata Metadata r s e = (refl, append_cancel_left (entry_part Metadata) r s e)
entry_first Metadata Access r s e = absurd (let h : ◌≡◌ {A = ℕ} 109 108 = cc in omega arith)
entry_first Access Output r s e = absurd (let h : ◌≡◌ {A = ℕ} 108 111 = cc in omega arith)
entry_first Access Metadata r s e = absurd (let h : ◌≡◌ {A = ℕ} 108 109 = cc in omega arith)
entry_first Access Access r s e = (refl, append_cancel_left (entry_part Access) r s e)

-- a suffix makes a name longer
no_suffix : (xs t : List ℕ) → xs ≡ xs ++ suffix t → ⊥
unfolding suffix
no_suffix xs t e = omega (arith, ap length e, length-append xs (suffix t))

-- a suffix has one token
one_suffix : (t u : List ℕ) → suffix t ≡ suffix u → t ≡ u
unfolding suffix
one_suffix t u e = append_cancel_left (46 ∷ 116 ∷ 109 ∷ 112 ∷ 45 ∷ []) t u e

-- a file's name with a suffix is no file's name
entry_longer : (v w : EntryFile) (t : List ℕ) → entry_part v ≡ entry_part w ++ suffix t → ⊥
entry_longer v w t e =
    let same = entry_first v w [] (suffix t) (append-nil (entry_part v) ∙ e) in
    no_suffix [] t same.1

-- no final file stands where a temporary one does
final_no_temp : (x y : Final) (t : List ℕ) → final_parts x ≡ temp_parts y t → ⊥
final_no_temp (code_of m f) (code_of m' f') t e = no_suffix code_part t (let h : code_part ≡ code_part ++ suffix t = cc in h)
final_no_temp (code_of m f) (entry_of w' m' f' k') t e = cc
final_no_temp (entry_of w m f k) (code_of m' f') t e = cc
final_no_temp (entry_of w m f k) (entry_of w' m' f' k') t e = entry_longer w w' t (let h : entry_part w ≡ entry_part w' ++ suffix t = cc in h)

-- a final file stands at one place
final_once : (x y : Final) → final_parts x ≡ final_parts y → x ≡ y
final_once (code_of m f) (code_of m' f') e = let a : m ≡ m' = cc in let b : f ≡ f' = cc in cc
final_once (code_of m f) (entry_of w' m' f' k') e = cc
final_once (entry_of w m f k) (code_of m' f') e = cc
final_once (entry_of w m f k) (entry_of w' m' f' k') e =
    let a : m ≡ m' = cc in let b : f ≡ f' = cc in let c : k ≡ k' = cc in
    let h : entry_part w ≡ entry_part w' = cc in
    let d = entry_first w w' [] [] (ap (λ (l : List ℕ). l ++ []) h) in
    let g : w ≡ w' = d.0 in cc

-- a temporary file stands at one place
temp_once : (x y : Final) (t u : List ℕ) → temp_parts x t ≡ temp_parts y u → (x ≡ y) × (t ≡ u)
temp_once (code_of m f) (code_of m' f') t u e =
    let a : m ≡ m' = cc in let b : f ≡ f' = cc in
    let h : code_part ++ suffix t ≡ code_part ++ suffix u = cc in
    (cc, one_suffix t u (append_cancel_left code_part (suffix t) (suffix u) h))
temp_once (code_of m f) (entry_of w' m' f' k') t u e = cc
temp_once (entry_of w m f k) (code_of m' f') t u e = cc
temp_once (entry_of w m f k) (entry_of w' m' f' k') t u e =
    let a : m ≡ m' = cc in let b : f ≡ f' = cc in let c : k ≡ k' = cc in
    let h : entry_part w ++ suffix t ≡ entry_part w' ++ suffix u = cc in
    let d = entry_first w w' (suffix t) (suffix u) h in
    let g : w ≡ w' = d.0 in (cc, one_suffix t u d.1)

-- no key begins as the code's file does
code_no_key : (r : List ℕ) → is_key (code_part ++ r) ≡ false
unfolding is_key code_part
code_no_key r = refl

-- so no key is its name
three : (r : List ℕ) (k : List ℕ) → IsTrue (is_key k) → k ≡ code_part ++ r → ⊥
three r k h e = true≢false (sym h ∙ ap is_key e ∙ code_no_key r)

-- no folder of the store has a final or temporary name
folder_no_final : (parts : List (List ℕ)) (x : Final) → IsFolderParts parts → parts ≡ final_parts x → ⊥
folder_no_final [] (code_of m f) h e = cc
folder_no_final [] (entry_of w m f k) h e = cc
folder_no_final (a ∷ []) (code_of m f) h e = cc
folder_no_final (a ∷ []) (entry_of w m f k) h e = cc
folder_no_final (a ∷ b ∷ []) (code_of m f) h e = cc
folder_no_final (a ∷ b ∷ []) (entry_of w m f k) h e = cc
folder_no_final (a ∷ b ∷ c ∷ []) (code_of m f) h e = three [] c h.2 ((let g : c ≡ code_part = cc in g) ∙ sym (append-nil code_part))
folder_no_final (a ∷ b ∷ c ∷ []) (entry_of w m f k) h e = cc
folder_no_final (a ∷ b ∷ c ∷ d ∷ rest) x h e = h

-- nor a temporary one
folder_no_temp : (parts : List (List ℕ)) (x : Final) (t : List ℕ) → IsFolderParts parts → parts ≡ temp_parts x t → ⊥
folder_no_temp [] (code_of m f) t h e = cc
folder_no_temp [] (entry_of w m f k) t h e = cc
folder_no_temp (a ∷ []) (code_of m f) t h e = cc
folder_no_temp (a ∷ []) (entry_of w m f k) t h e = cc
folder_no_temp (a ∷ b ∷ []) (code_of m f) t h e = cc
folder_no_temp (a ∷ b ∷ []) (entry_of w m f k) t h e = cc
folder_no_temp (a ∷ b ∷ c ∷ []) (code_of m f) t h e = three (suffix t) c h.2 (let g : c ≡ code_part ++ suffix t = cc in g)
folder_no_temp (a ∷ b ∷ c ∷ []) (entry_of w m f k) t h e = cc
folder_no_temp (a ∷ b ∷ c ∷ d ∷ rest) x t h e = h

-- what stands below the root by at least one part is not on the way to it
above : (root : PathView) (p : List ℕ) (ps parts : List (List ℕ)) → root ≡ below (below root (p ∷ ps)) parts → ⊥
above root p ps parts e =
    omega (arith, ap length e, length-append (root ++ p ∷ ps) parts, length-append root (p ∷ ps))

module _ (root : PathView) where
  -- a temporary name is one in one way
  pub temp_one_way : (x y : Final) (t u : List ℕ) (p : PathView) → IsTemp root x t p → IsTemp root y u p → (x ≡ y) × (t ≡ u)
  temp_one_way x y t u p a b = temp_once x y t u (cut root (temp_parts x t) (temp_parts y u) (sym a.is ∙ b.is))

  -- a final name is one in one way
  pub final_one_way : (x y : Final) (p : PathView) → IsFinal root x p → IsFinal root y p → x ≡ y
  final_one_way x y p a b = final_once x y (cut root (final_parts x) (final_parts y) (sym a.is ∙ b.is))

  -- a final name is no temporary name
  pub final_not_temp : (x y : Final) (t : List ℕ) (p : PathView) → IsFinal root x p → IsTemp root y t p → ⊥
  final_not_temp x y t p a b = final_no_temp x y t (cut root (final_parts x) (temp_parts y t) (sym a.is ∙ b.is))

  -- a final name is no folder of the store
  pub final_not_folder : (x : Final) (p : PathView) → IsFinal root x p → IsStoreFolder root p → ⊥
  unfolding IsStoreFolder IsOnWay
  final_not_folder (code_of m f) p a (inl way) = above root m (f ∷ code_part ∷ []) way.0 (way.1 ∙ ap (λ q. below q way.0) a.is)
  final_not_folder (entry_of w m f k) p a (inl way) = above root m (f ∷ k ∷ entry_part w ∷ []) way.0 (way.1 ∙ ap (λ q. below q way.0) a.is)
  final_not_folder x p a (inr in_root) = folder_no_final in_root.0 x in_root.1 (cut root in_root.0 (final_parts x) (sym in_root.2 ∙ a.is))

  -- a temporary name is no folder of the store
  pub temp_not_folder : (x : Final) (t : List ℕ) (p : PathView) → IsTemp root x t p → IsStoreFolder root p → ⊥
  unfolding IsStoreFolder IsOnWay
  temp_not_folder (code_of m f) t p a (inl way) = above root m (f ∷ (code_part ++ suffix t) ∷ []) way.0 (way.1 ∙ ap (λ q. below q way.0) a.is)
  temp_not_folder (entry_of w m f k) t p a (inl way) = above root m (f ∷ k ∷ (entry_part w ++ suffix t) ∷ []) way.0 (way.1 ∙ ap (λ q. below q way.0) a.is)
  temp_not_folder x t p a (inr in_root) = folder_no_temp in_root.0 x t in_root.1 (cut root in_root.0 (temp_parts x t) (sym in_root.2 ∙ a.is))

  -- a final name stands below the root
  pub final_below : (x : Final) (p : PathView) → IsFinal root x p → IsBelow root p
  unfolding IsBelow
  final_below x p a = (final_parts x, a.is)

  -- a temporary name stands below the root
  pub temp_below : (x : Final) (t : List ℕ) (p : PathView) → IsTemp root x t p → IsBelow root p
  unfolding IsBelow
  temp_below x t p a = (temp_parts x t, a.is)

  -- a folder of the store is not outside of it
  pub folder_not_outside : (p : PathView) → IsStoreFolder root p → IsOutside root p → ⊥
  unfolding IsStoreFolder IsBelow
  folder_not_outside p (inl way) out = out.1 way
  folder_not_outside p (inr in_root) out = out.0 (in_root.0, in_root.2)
