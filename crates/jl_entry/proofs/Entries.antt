-- What an entry's bytes are read as, and where its parts stand.
use Rattle.std.proofs.Common.{◌≡◌, ℕ, zero, suc, ◌<◌, ◌≤◌, pos, List, [], ◌∷◌, ◌++◌, map, length, get_or, IsUtf8, bytes_eq, Bool, not, true, false, refl, sym, ap, ◌∙◌, subst, arith}
use Rattle.std.specs.Prelude.{Ok, Err}
use Rattle.std.proofs.lemmas.Slice.Eq.{bytes_eq-Decides}
use Rattle.std.specs.List.Sorted.{IsStrictlySortedBy}
use Rattle.json.proofs.Printed.Utf8.{IsUtf8-are_ascii}
use Rattle.jl_value.specs.Tree.{Tree, null, truth, whole, text, list, table, numbers, Members, no_members, member, members_of, pairs_of, nesting, members_nesting}
use Rattle.jl_value.specs.Form.{tree_of, entries_of}
use Rattle.jl_value.specs.Reading.{Read}
use Rattle.jl_value.specs.Walked.{read_bytes}
use Rattle.jl_value.specs.Key.{args_tree}
use Rattle.jl_value.specs.Proper.{IsProper, AreKeys}
use Rattle.jl_value.specs.declared.fault.ValueFault.{ValueFault}
use Rattle.jl_value.specs.declared.value.Value.{Value}
use Rattle.jl_value.specs.declared.value.Value.TheVariants.{Table}
use Rattle.jl_value.proofs.Utf8.{read_bytes_back}
use Rattle.jl_value.proofs.Trips.{text_injective}
use Rattle.jl_entry.specs.Entry.{Members as Args, args_key, code_key, format_key, value_key, entry_tree, entry_text, IsEntryOf, IsEntry}

-- ---- an entry is proper where its parts are

-- the keys stand in their order
entry_keys : AreKeys (args_key ∷ code_key ∷ format_key ∷ value_key ∷ [])
unfolding IsStrictlySortedBy
entry_keys = (((refl, (refl, (refl, tt))), ((refl, (refl, tt)), ((refl, tt), (tt, tt)))), ((λ e. cc), ((λ e. cc), ((λ e. cc), ((λ e. cc), tt)))))

pub entry_proper : (code : List ℕ) (ps : Args) (t : Tree) → IsUtf8 code → IsProper (args_tree ps) → IsProper t → IsProper (entry_tree code ps t)
entry_proper code ps t u p q =
    (entry_keys, (IsUtf8-are_ascii _ refl, p, (IsUtf8-are_ascii _ refl, u, (IsUtf8-are_ascii _ refl, omega arith, (IsUtf8-are_ascii _ refl, q, tt)))))

-- ---- reading

-- the tree that was read, or another
abbrev tree_or : Tree → Read Tree → Tree
tree_or u (Ok t) = t
tree_or u (Err e) = u

-- something was read
abbrev IsRead : Read Tree → Type 0
IsRead (Ok t) = Unit {0}
IsRead (Err e) = ⊥

-- an entry is read as its table
pub entry_read : (bytes code : List ℕ) (ps : Args) (t : Tree) → IsEntryOf bytes code ps t → read_bytes 70 bytes ≡ Ok (entry_tree code ps t)
entry_read bytes code ps t h = ap (read_bytes 70) h.text ∙ read_bytes_back 70 (entry_tree code ps t) h.proper h.shallow (omega arith)

-- what is not read is no entry
pub no_entry : (bytes : List ℕ) (e : ValueFault) → read_bytes 70 bytes ≡ Err e → IsEntry bytes → ⊥
no_entry bytes e refused h = subst IsRead (sym (entry_read bytes h.0 h.1 h.2 h.3) ∙ refused) tt

-- what an entry is read as
pub same_tree : (bytes code : List ℕ) (ps : Args) (t u : Tree) → read_bytes 70 bytes ≡ Ok u → IsEntryOf bytes code ps t → u ≡ entry_tree code ps t
same_tree bytes code ps t u is h = ap (tree_or u) (sym is ∙ entry_read bytes code ps t h)

-- how deep an entry nests
pub entry_nesting : (code : List ℕ) (ps : Args) (t : Tree) (n : ℕ) → nesting (args_tree ps) < n → nesting t < n → nesting (entry_tree code ps t) ≤ n
entry_nesting code ps t n h k = omega arith

-- entries of one text nest alike
pub same_nesting : (code : List ℕ) (ps : Args) (t : Tree) (other : List ℕ) (qs : Args) (u : Tree) → IsProper (entry_tree code ps t) → IsProper (entry_tree other qs u)
    → entry_text code ps t ≡ entry_text other qs u → nesting (entry_tree other qs u) ≤ 70 → nesting (entry_tree code ps t) ≤ 70
same_nesting code ps t other qs u p q same h = subst (λ (x : Tree). nesting x ≤ 70) (sym (text_injective (entry_tree code ps t) (entry_tree other qs u) p q same)) h

-- bytes that compare unequal are not equal
pub unlike : (xs ys : List ℕ) → bytes_eq xs ys ≡ false → xs ≡ ys → ⊥
unlike xs ys e same = let t = (bytes_eq-Decides xs ys).1 same in cc

-- ---- the parts

-- the values of members
abbrev values : Members → List Tree
values no_members = []
values (member k t ms) = t ∷ values ms

-- the members of a table
abbrev members_in : Tree → Members
members_in null = no_members
members_in (truth b) = no_members
members_in (whole z) = no_members
members_in (text s) = no_members
members_in (list ts) = no_members
members_in (table ms) = ms
members_in (numbers zs) = no_members

-- the trees of keys and values
abbrev pub trees : List (List ℕ × Value) → List Tree
trees es = map (λ e. tree_of e.1) es

-- they are the values of the members
values_entries : (es : List (List ℕ × Value)) → values (members_of (entries_of es)) ≡ trees es
values_entries [] = refl
values_entries (e ∷ es) = ap (λ ts. tree_of e.1 ∷ ts) (values_entries es)

-- there are as many
trees_len : (es : List (List ℕ × Value)) → length (trees es) ≡ length es
trees_len [] = refl
trees_len (e ∷ es) = ap suc (trees_len es)

-- each stands at its place
trees_at : (es : List (List ℕ × Value)) (i : ℕ) (d : List ℕ × Value) → i < length es → get_or (trees es) i (tree_of d.1) ≡ tree_of (get_or es i d).1
trees_at [] i d h = absurd (omega arith)
trees_at (e ∷ es) zero d h = refl
trees_at (e ∷ es) (suc i) d h = trees_at es i d (omega arith)

-- members as pairs, and back
pairs_members : (ps : Args) → pairs_of (members_of ps) ≡ ps
pairs_members [] = refl
pairs_members (p ∷ ps) = ap (λ qs. p ∷ qs) (pairs_members ps)

-- arguments of one tree are the same
pub args_same : (ps qs : Args) → args_tree ps ≡ args_tree qs → ps ≡ qs
args_same ps qs e = sym (pairs_members ps) ∙ ap (λ u. pairs_of (members_in u)) e ∙ pairs_members qs

module _ (v : Value) (ps : Args) (is : v ≡ Table ps) (es : List (List ℕ × Value)) (entries : entries_of es ≡ ps) (code : List ℕ) (args : Args) (t : Tree) (entry : tree_of v ≡ entry_tree code args t) where
  -- the values of an entry's table
  pub parts_are : trees es ≡ args_tree args ∷ text code ∷ whole (pos 1) ∷ t ∷ []
  parts_are = sym (values_entries es) ∙ ap (λ qs. values (members_of qs)) entries ∙ ap (λ u. values (members_in u)) (ap tree_of (sym is) ∙ entry)

  -- there are four
  pub four : length es ≡ 4
  four = sym (trees_len es) ∙ ap length parts_are

  -- each at its place
  pub part_at : (i : ℕ) (e : List ℕ × Value) → i < 4 → e ≡ get_or es i e → tree_of e.1 ≡ get_or (args_tree args ∷ text code ∷ whole (pos 1) ∷ t ∷ []) i (tree_of e.1)
  part_at i e h at =
      let len = four in
      ap (λ d. tree_of d.1) at ∙ sym (trees_at es i e (omega arith)) ∙ ap (λ ts. get_or ts i (tree_of e.1)) parts_are

-- of four values the last stands at the end
pub last_of : (es : List (List ℕ × Value)) (a b d t : Tree) → trees es ≡ a ∷ b ∷ d ∷ t ∷ []
    → (before : List (List ℕ × Value)) × (last : List ℕ × Value) × (es ≡ before ++ last ∷ []) × (tree_of last.1 ≡ t)
last_of [] a b d t e = absurd (cc)
last_of (x ∷ []) a b d t e = absurd (cc)
last_of (x ∷ y ∷ []) a b d t e = absurd (cc)
last_of (x ∷ y ∷ z ∷ []) a b d t e = absurd (cc)
last_of (x ∷ y ∷ z ∷ w ∷ []) a b d t e = (x ∷ y ∷ z ∷ [], w, refl, cc)
last_of (x ∷ y ∷ z ∷ w ∷ u ∷ es) a b d t e = absurd (cc)

-- a part nests less deep than the table
at_nesting : (es : List (List ℕ × Value)) (i : ℕ) (d : List ℕ × Value) → i < length es → nesting (tree_of (get_or es i d).1) ≤ members_nesting (members_of (entries_of es))
at_nesting [] i d h = absurd (omega arith)
at_nesting (e ∷ es) zero d h = omega arith
at_nesting (e ∷ es) (suc i) d h = let later = at_nesting es i d (omega arith) in omega arith

-- the same of a member of a table
pub part_nesting : (v : Value) (ps : Args) (es : List (List ℕ × Value)) (i : ℕ) (e : List ℕ × Value) → v ≡ Table ps → entries_of es ≡ ps → i < length es → e ≡ get_or es i e → nesting (tree_of e.1) < nesting (tree_of v)
part_nesting v ps es i e is entries h at =
    let low = at_nesting es i e h in
    let here : nesting (tree_of e.1) ≡ nesting (tree_of (get_or es i e).1) = ap (λ d. nesting (tree_of d.1)) at in
    let whole' : nesting (tree_of v) ≡ suc (members_nesting (members_of (entries_of es))) = ap (λ w. nesting (tree_of w)) is ∙ ap (λ qs. suc (members_nesting (members_of qs))) (sym entries) in
    omega arith

-- what `!=` says when it holds
pub unequal : (xs ys : List ℕ) (r : Bool) → r ≡ not (bytes_eq xs ys) → r ≡ true → xs ≡ ys → ⊥
unequal xs ys r is t same = let e = (bytes_eq-Decides xs ys).1 same in let f = sym t ∙ is ∙ ap not e in cc

-- a test whose negation fails
bytes_same : (b : Bool) → false ≡ not b → b ≡ true
bytes_same true e = refl
bytes_same false e = absurd (cc)

-- what `!=` says when it fails
pub equal : (xs ys : List ℕ) (r : Bool) → r ≡ not (bytes_eq xs ys) → r ≡ false → xs ≡ ys
equal xs ys r is f = (bytes_eq-Decides xs ys).0 (bytes_same (bytes_eq xs ys) (sym f ∙ is))

-- the bytes of a text
abbrev code_in : Tree → List ℕ
code_in null = []
code_in (truth b) = []
code_in (whole z) = []
code_in (text s) = s
code_in (list ts) = []
code_in (table ms) = []
code_in (numbers zs) = []

-- bytes are an entry in one way
pub entry_once : (bytes a b : List ℕ) (ps qs : Args) (t u : Tree) → IsEntryOf bytes a ps t → IsEntryOf bytes b qs u → (a ≡ b) × (ps ≡ qs) × (t ≡ u)
entry_once bytes a b ps qs t u h k =
    let same : entry_tree a ps t ≡ entry_tree b qs u = text_injective (entry_tree a ps t) (entry_tree b qs u) h.proper k.proper (sym h.text ∙ k.text) in
    let parts = ap (λ w. values (members_in w)) same in (
      ap code_in (ap (λ ts. get_or ts 1 null) parts),
      args_same ps qs (ap (λ ts. get_or ts 0 null) parts),
      ap (λ ts. get_or ts 3 null) parts,
    )
