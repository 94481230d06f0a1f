-- Moves that make a function's folder, clear its entries or publish its code are proper and rename nothing else.
use Rattle.std.proofs.Common.{◌≡◌, ◌⊎◌, inl, inr, ⊎_elim, ℕ, ◌≤◌, ◌<◌, ◌^◌, List, [], ◌∷◌, ◌++◌, length, false, true≢false, refl, sym, ap, subst, ◌∙◌, arith, length-append, decimal}
use Rattle.std.proofs.lemmas.Fmt.{length-decimal-le}
use Rattle.std.specs.Prelude.{IsTrue}
use Rattle.jl_text.specs.Paths.{PathView, is_fixed}
use Rattle.jl_text.specs.Texts.{is_name}
use Rattle.jl_folder.specs.declared.moves.Move.{Move}
use Rattle.jl_folder.specs.declared.moves.Move.TheVariants.{MakeDir, Create, Append, Rename, Remove, RemoveDir}
use Rattle.jl_folder.specs.State.{State}
use Rattle.jl_value.specs.Lines.{IsLine}
use Rattle.jl_entry.specs.Codes.{code_text, line_words}
use Rattle.jl_entry.specs.Names.{code_of, IsStoreFolder, IsStoreName, IsOnWay, IsFolderParts, is_rooted, is_key, IsEntryName, IsFunctionFolder}
use Rattle.jl_protocol.specs.Whole.{IsWhole}
use Rattle.jl_protocol.proofs.LawfulCalls.{always_make_dir, always_remove, always_remove_dir}
use Rattle.jl_clear.proofs.Folders.{entry_in, entry_name, entry_place}
use Rattle.jl_store.specs.Doing.{IsPrefix, IsMaking, IsEmptying, IsClearing}
use Rattle.jl_store.specs.Kinds.{RenamesThis, PutsThis}

-- of two ways to split a path, the second front is in the first or goes beyond it
split : (root tail p rest : PathView) → root ++ tail ≡ p ++ rest → ((r : PathView) × (root ≡ p ++ r)) ⊎ ((q : PathView) × (p ≡ root ++ q) × (tail ≡ q ++ rest))
split [] tail p rest e = inr (p, refl, e)
split (a ∷ xs) tail [] rest e = inl (a ∷ xs, refl)
split (a ∷ xs) tail (b ∷ bs) rest e =
    let same : a ≡ b = cc in
    let more : xs ++ tail ≡ bs ++ rest = cc in
    ⊎_elim
    (λ (l : (r : PathView) × (xs ≡ bs ++ r)). inl (l.0, (λ i. same i ∷ l.1 i)))
    (λ (r : (q : PathView) × (bs ≡ xs ++ q) × (tail ≡ q ++ rest)). inr (r.0, (λ i. sym same i ∷ r.1 i), r.2))
    (split xs tail bs rest more)

-- a path at its first part
rooted_front : (root p r : PathView) → is_fixed p ≡ false → root ≡ p ++ r → is_rooted p ≡ is_rooted root
rooted_front root [] r free e = absurd (true≢false free)
rooted_front root (b ∷ bs) r free e = sym (ap is_rooted e)

-- first parts of a function's place
folder_parts : (m f : List ℕ) (q rest : PathView) → IsTrue (is_name m) → IsTrue (is_name f) → m ∷ f ∷ [] ≡ q ++ rest → IsFolderParts q
folder_parts m f [] rest hm hf e = tt
folder_parts m f (a ∷ []) rest hm hf e = let same : m ≡ a = cc in subst (λ (n : List ℕ). IsTrue (is_name n)) same hm
folder_parts m f (a ∷ b ∷ []) rest hm hf e =
    let same : m ≡ a = cc in
    let same' : f ≡ b = cc in
    (subst (λ (n : List ℕ). IsTrue (is_name n)) same hm, subst (λ (n : List ℕ). IsTrue (is_name n)) same' hf)
folder_parts m f (a ∷ b ∷ c ∷ cs) rest hm hf e = absurd (omega (arith, ap length e, length-append (a ∷ b ∷ c ∷ cs) rest))

-- a folder on the way to a function's, or that, is one of the store
pub prefix_store : (root folder p : PathView) → IsFunctionFolder root folder → is_fixed p ≡ false → IsPrefix p folder → IsStoreFolder root p
unfolding IsStoreFolder IsOnWay
prefix_store root folder p fun free front =
    ⊎_elim
    (λ (l : (r : PathView) × (root ≡ p ++ r)). inl (l.0, l.1, rooted_front root p l.0 free l.1))
    (λ (r : (q : PathView) × (p ≡ root ++ q) × (fun.0 ∷ fun.1 ∷ [] ≡ q ++ front.0)). inr (r.0, folder_parts fun.0 fun.1 r.0 front.0 fun.2 fun.3 r.2, r.1))
    (split root (fun.0 ∷ fun.1 ∷ []) p front.0 (sym fun.4 ∙ front.1))

-- an entry's folder is one of the store
entry_store : (root folder : PathView) (key : List ℕ) (p : PathView) → IsFunctionFolder root folder → IsTrue (is_key key) → p ≡ folder ++ key ∷ [] → IsStoreFolder root p
entry_store root folder key p fun is e = subst (IsStoreFolder root) (sym e) (entry_place root (folder ++ key ∷ []) (entry_in root folder key fun is)).0

-- and a file's name in it is one of the store
name_store : (root folder : PathView) (key part : List ℕ) (p : PathView) → IsFunctionFolder root folder → IsTrue (is_key key) → IsEntryName part → p ≡ (folder ++ key ∷ []) ++ part ∷ [] → IsStoreName root p
name_store root folder key part p fun is named e = subst (IsStoreName root) (sym e) (entry_name root (folder ++ key ∷ []) part (entry_in root folder key fun is) named)

module _ (root folder : PathView) (fun : IsFunctionFolder root folder) (last : PathView) (bytes : List ℕ) (token : List ℕ) (s : State) where
  pub making_puts : (m : Move) → IsMaking folder m → PutsThis root last bytes token s m
  unfolding IsMaking RenamesThis
  making_puts (MakeDir p) is = (always_make_dir root token s p (prefix_store root folder p fun is.0 is.1), tt)
  making_puts (Create p n) is = absurd is
  making_puts (Append n more) is = absurd is
  making_puts (Rename p q) is = absurd is
  making_puts (Remove p) is = absurd is
  making_puts (RemoveDir p) is = absurd is

  pub clearing_puts : (m : Move) → IsClearing folder m → PutsThis root last bytes token s m
  unfolding IsEmptying RenamesThis
  clearing_puts (MakeDir p) is = absurd is.2
  clearing_puts (Create p n) is = absurd is.2
  clearing_puts (Append n more) is = absurd is.2
  clearing_puts (Rename p q) is = absurd is.2
  clearing_puts (Remove p) is = (always_remove root token s p (name_store root folder is.0 is.2.0 p fun is.1 is.2.1 is.2.2), tt)
  clearing_puts (RemoveDir p) is = (always_remove_dir root token s p (entry_store root folder is.0 p fun is.1 is.2), tt)

-- the code's text is whole
pub code_whole : (m f code : List ℕ) (line : ℕ) → 1 ≤ line → line < 2 ^ 64 → length code ≤ 1048576 → IsLine code → IsWhole (code_of m f) (code_text code line)
unfolding IsWhole
code_whole m f code line first small short one =
    let few = length-decimal-le 20 line (omega arith) (omega arith) small in
    let words : length line_words ≡ 14 = refl in (
      omega (arith, few, words, short, length-append line_words (decimal line ++ 10 ∷ (code ++ 10 ∷ [])), length-append (decimal line) (10 ∷ (code ++ 10 ∷ [])), length-append code (10 ∷ [])),
      (code, line, first, omega (arith, small), one, refl),
    )
