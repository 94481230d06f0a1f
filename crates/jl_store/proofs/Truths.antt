-- Which renames are of true bytes.
use Rattle.std.proofs.Common.{◌≡◌, ◌≤◌, ◌<◌, ℕ, List, [], ◌∷◌, Bool, true, false, refl, sym, ap, subst, arith, true≢false}
use Rattle.std.specs.Prelude.{IsUtf8, IsTrue}
use Rattle.std.proofs.lemmas.List.{append_cancel_left}
use Rattle.jl_text.specs.Paths.{PathView}
use Rattle.jl_folder.specs.declared.moves.Move.{Move}
use Rattle.jl_folder.specs.declared.moves.Move.TheVariants.{MakeDir, Create, Append, Rename, Remove, RemoveDir}
use Rattle.jl_folder.specs.State.{State}
use Rattle.jl_value.specs.Tree.{Tree, nesting}
use Rattle.jl_value.specs.Key.{args_tree}
use Rattle.jl_value.specs.Proper.{IsProper as IsProperTree}
use Rattle.jl_value.specs.Library.{value}
use Rattle.jl_entry.specs.Entry.{Members, IsEntryOf, entry_text}
use Rattle.jl_text.specs.Texts.{is_name}
use Rattle.jl_entry.specs.Names.{Final, code_of, entry_of, IsFinal, final_parts, is_key}
use Rattle.jl_entry.specs.declared.names.EntryFile.{EntryFile}
use Rattle.jl_entry.specs.declared.names.EntryFile.TheVariants.{Output, Metadata, Access}
use Rattle.jl_entry.proofs.Entries.{entry_proper, entry_nesting}
use Rattle.jl_entry.proofs.NameFacts.{final_one_way}
use Rattle.jl_protocol.specs.Whole.{CodeAnswers, IsTruthful}
use Rattle.jl_protocol.specs.Proper.{IsProper, RenamesTrue}
use Rattle.jl_store.specs.Kinds.{RenamesThis, PutsThis}
use Rattle.jl_store.specs.Keeping.{EntryPlace, RenamesEntry, PutsEntry, file_of, last_of, texts}
use Rattle.jl_store.proofs.EntryNames.{IsNamed, final_of}

-- the text of an entry is its entry
pub is_entry : (code : List ℕ) (ps : Members) (t : Tree) → IsUtf8 code → IsProperTree (args_tree ps) → IsProperTree t → nesting (args_tree ps) ≤ 64 → nesting t ≤ 64 → IsEntryOf (entry_text code ps t) code ps t
is_entry code ps t utf8 proper_args proper_value args_shallow value_shallow = record {
  text = refl;
  proper = entry_proper code ps t utf8 proper_args proper_value;
  shallow =
      let within : nesting (args_tree ps) < 65 = omega (arith, args_shallow) in
      let within' : nesting t < 65 = omega (arith, value_shallow) in
      let least = entry_nesting code ps t 65 within within' in omega (arith, least);
}

-- ---- one file has a name

first : PathView → List ℕ
first [] = []
first (x ∷ xs) = x

rest : PathView → PathView
rest [] = []
rest (x ∷ xs) = xs

is_empty : PathView → Bool
is_empty [] = true
is_empty (x ∷ xs) = false

parts_same : (e : EntryPlace) (file : EntryFile) (y : Final) → IsFinal e.root y (last_of e file) → final_parts (file_of e file) ≡ final_parts y
parts_same e file y at = append_cancel_left e.root (final_parts (file_of e file)) (final_parts y) at.is

-- a final name of an entry is that of its file alone
pub only_final : (e : EntryPlace) (file : EntryFile) (y : Final) → IsFinal e.root y (last_of e file) → file_of e file ≡ y
unfolding is_empty rest first
only_final e file (code_of m f) at =
    absurd (true≢false (sym (ap (λ l. is_empty (rest (rest (rest l)))) (parts_same e file (code_of m f) at))))
only_final e file (entry_of w m f k) at =
    let same = parts_same e file (entry_of w m f k) at in
    let named : IsNamed e = (
      subst (λ (n : List ℕ). IsTrue (is_name n)) (sym (ap first same)) at.formed.0,
      subst (λ (n : List ℕ). IsTrue (is_name n)) (sym (ap (λ l. first (rest l)) same)) at.formed.1,
      subst (λ (n : List ℕ). IsTrue (is_key n)) (sym (ap (λ l. first (rest (rest l))) same)) at.formed.2,
    ) in
    final_one_way e.root (file_of e file) (entry_of w m f k) (last_of e file) (final_of e named file) at

-- ---- true renames

-- renames of one file's true bytes
pub this_true : (root : PathView) (answer : CodeAnswers) (x : Final) (last : PathView) (bytes : List ℕ) → ((y : Final) → IsFinal root y last → x ≡ y) → IsTruthful answer x bytes → (token : List ℕ) (s : State) (m : Move) → PutsThis root last bytes token s m → IsProper root token s m × RenamesTrue root answer s m
unfolding RenamesThis RenamesTrue
this_true root answer x last bytes final holds token s (MakeDir p) puts = (puts.0, tt)
this_true root answer x last bytes final holds token s (Create p n) puts = (puts.0, tt)
this_true root answer x last bytes final holds token s (Append n more) puts = (puts.0, tt)
this_true root answer x last bytes final holds token s (Rename p q) puts = (
  puts.0,
  λ y at n v named is.
      let same : x ≡ y = final y (subst (IsFinal root y) puts.1.0 at) in
      subst (λ (z : Final). IsTruthful answer z v.bytes) same (subst (λ (b : List ℕ). IsTruthful answer x b) (sym (puts.1.1 n v named is)) holds),
)
this_true root answer x last bytes final holds token s (Remove p) puts = (puts.0, tt)
this_true root answer x last bytes final holds token s (RemoveDir p) puts = (puts.0, tt)

-- the texts of an entry with the code's answer are true
texts_true : (e : EntryPlace) (answer : CodeAnswers) (code : List ℕ) (ps : Members) (t : Tree) (duration moment : ℕ) → IsEntryOf (entry_text code ps t) code ps t → answer code ps ≡ value t → (file : EntryFile) → IsTruthful answer (file_of e file) (texts code ps t duration moment file)
unfolding IsTruthful
texts_true e answer code ps t duration moment entry yes' Output = (code, ps, t, yes', entry)
texts_true e answer code ps t duration moment entry yes' Metadata = tt
texts_true e answer code ps t duration moment entry yes' Access = tt

-- renames of such an entry's texts
pub entry_true : (e : EntryPlace) (answer : CodeAnswers) (code : List ℕ) (ps : Members) (t : Tree) (duration moment : ℕ) → IsEntryOf (entry_text code ps t) code ps t → answer code ps ≡ value t → (token : List ℕ) (s : State) (m : Move) → PutsEntry e (texts code ps t duration moment) token s m → IsProper e.root token s m × RenamesTrue e.root answer s m
unfolding RenamesEntry RenamesTrue
entry_true e answer code ps t duration moment entry yes' token s (MakeDir p) puts = (puts.0, tt)
entry_true e answer code ps t duration moment entry yes' token s (Create p n) puts = (puts.0, tt)
entry_true e answer code ps t duration moment entry yes' token s (Append n more) puts = (puts.0, tt)
entry_true e answer code ps t duration moment entry yes' token s (Rename p q) puts = (
  puts.0,
  λ y at n v named is.
      let file = puts.1.0 in
      let same : file_of e file ≡ y = only_final e file y (subst (IsFinal e.root y) puts.1.1 at) in
      subst (λ (z : Final). IsTruthful answer z v.bytes) same
      (subst (λ (b : List ℕ). IsTruthful answer (file_of e file) b) (sym (puts.1.2 n v named is)) (texts_true e answer code ps t duration moment entry yes' file)),
)
entry_true e answer code ps t duration moment entry yes' token s (Remove p) puts = (puts.0, tt)
entry_true e answer code ps t duration moment entry yes' token s (RemoveDir p) puts = (puts.0, tt)

-- a last access is true whatever it says
pub moment_true : (e : EntryPlace) (answer : CodeAnswers) (bytes : List ℕ) → IsTruthful answer (file_of e Access) bytes
unfolding IsTruthful
moment_true e answer bytes = tt
