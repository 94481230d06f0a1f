-- Parts of a walk that add items, one after another.
use Rattle.std.proofs.Common.{◌≡◌, ◌≢◌, ◌⊎◌, inl, inr, ⊎_elim, ℕ, zero, suc, ◌+◌, ◌<◌, List, []}
use Rattle.std.proofs.Common.{◌∷◌, ◌++◌, true, false, true≢false, Option, None, Some, Result, Ok}
use Rattle.std.proofs.Common.{Err, length, take, get_or, map, refl, sym, ap, subst, ◌∙◌, arith}
use Rattle.std.proofs.Common.{append-nil, append_assoc, length-append, length-take, Contains}
use Rattle.std.specs.Prelude.{IsTrue, ⊤}
use Rattle.std.specs.Option.{option_map_or}
use Rattle.std.specs.Result.{IsErrAnd}
use Rattle.std.specs.List.{IsDistinct, AllByRecursion}
use Rattle.std.specs.Str.{bytes_eq}
use Rattle.std.proofs.lemmas.List.{append_cancel_left, get_or-take}
use Rattle.std.proofs.lemmas.List.Elements.{Contains-append_cases, Contains-append_left}
use Rattle.std.proofs.lemmas.List.Elements.{Contains-append_right}
use Rattle.std.proofs.lemmas.Slice.Eq.{bytes_eq-Decides}
use Rattle.jl_text.specs.Paths.{PathView}
use Rattle.jl_text.specs.Texts.{is_name}
use Rattle.jl_folder.specs.declared.moves.Place.{Place as Thing}
use Rattle.jl_folder.specs.declared.moves.Place.TheVariants.{Folder, File}
use Rattle.jl_folder.specs.declared.listing.Name.{Name}
use Rattle.jl_folder.specs.State.{State, Trace, IsState, IsTrace, AtSome, AtEach, place_at}
use Rattle.jl_folder.specs.State.{is_folder, is_folder_place, run}
use Rattle.jl_folder.specs.Views.{FolderView, FolderAnswers, state, moved}
use Rattle.jl_folder.specs.Listing.{ListsNames}
use Rattle.jl_folder.specs.Calls.{Waits}
use Rattle.jl_folder.proofs.Frames.{answers_next, answers_as, answers_none}
use Rattle.jl_entry.specs.declared.names.EntryFile.TheVariants.{Access}
use Rattle.jl_entry.specs.Names.{IsBelow, below, is_key, entry_part, IsNameOf, IsKeyName}
use Rattle.jl_rely.specs.Claims.{Silent}
use Rattle.jl_rely.proofs.Composed.{goes_waits}
use Rattle.jl_rely.proofs.Moving.{moves_none, moves_then, moves_waits}
use Rattle.jl_rely.proofs.Seen.{state_each, state_new, sooner, later, each_sooner, some_lasting}
use Rattle.jl_clear.proofs.Paths.{below_self, below_more, nothing_inside, no_folder}
use Rattle.jl_evict.specs.declared.item.Item.{Item}
use Rattle.jl_evict.specs.declared.measure.Measure.{Measure}
use Rattle.jl_evict.specs.declared.measure.Measure.TheVariants as measure
use Rattle.jl_clear.specs.declared.levels.Level.{Level}
use Rattle.jl_clear.specs.declared.levels.Level.TheVariants as level
use Rattle.jl_clear.specs.declared.stop.Stop.{Stop}
use Rattle.jl_clear.specs.declared.stop.Stop.TheVariants as stop
use Rattle.jl_clear.specs.Levels.{IsLevelName}
use Rattle.jl_clear.specs.Listings.{Lists}
use Rattle.jl_clear.proofs.Stops.{err_is}
use Rattle.jl_evict.specs.declared.walk.Place.{Place}
use Rattle.jl_evict.specs.Items.{IsEntryParts, IsItemPath, HadBytes, HadAccess, AreSeen}
use Rattle.jl_evict.specs.Walks.{Measures, Adds, AddsOne, HasSized, HasListed, Pushes, IsAt, Under}
use Rattle.jl_evict.specs.Walks.{AreDistinct, IsRootParts, IsModuleParts, IsFunctionParts}
use Rattle.jl_evict.specs.Walks.{HoldsParts, LevelParts}
use Rattle.jl_evict.proofs.FoundLemmas.{none_among, only_among, first_among}
use Rattle.jl_evict.proofs.SeenLemmas.{lists_lasting, bytes_lasting, access_lasting, are_lasting}
use Rattle.jl_evict.proofs.SeenLemmas.{seen_none, seen_then, seen_as, seen_one}

-- ---- places

-- a name in the root is a module's place
pub at_module : (root : PathView) (place child : Place) (part : List ℕ)
    → IsAt root IsRootParts place → IsNameOf part → child.folder ≡ place.folder ++ part ∷ []
    → child.name ≡ place.name ++ part ∷ [] → IsAt root IsModuleParts child
at_module root place child part at is folder name = record {
  folder = folder ∙ ap (λ (q : PathView). q ++ part ∷ []) at.folder
      ∙ append_assoc root place.name (part ∷ []) ∙ ap (λ (q : PathView). below root q) (sym name);
  form = (part, is, name ∙ ap (λ (q : PathView). q ++ part ∷ []) at.form);
}

-- a name in a module's place is a function's place
pub at_function : (root : PathView) (place child : Place) (part : List ℕ)
    → IsAt root IsModuleParts place → IsNameOf part → child.folder ≡ place.folder ++ part ∷ []
    → child.name ≡ place.name ++ part ∷ [] → IsAt root IsFunctionParts child
at_function root place child part at is folder name = record {
  folder = folder ∙ ap (λ (q : PathView). q ++ part ∷ []) at.folder
      ∙ append_assoc root place.name (part ∷ []) ∙ ap (λ (q : PathView). below root q) (sym name);
  form = (at.form.0, part, at.form.1, is, name ∙ ap (λ (q : PathView). q ++ part ∷ []) at.form.2);
}

-- a key in a function's place is an entry's place
pub at_entry : (root : PathView) (place child : Place) (part : List ℕ)
    → IsAt root IsFunctionParts place → IsKeyName part → child.folder ≡ place.folder ++ part ∷ []
    → child.name ≡ place.name ++ part ∷ [] → IsAt root IsEntryParts child
at_entry root place child part at is folder name = record {
  folder = folder ∙ ap (λ (q : PathView). q ++ part ∷ []) at.folder
      ∙ append_assoc root place.name (part ∷ []) ∙ ap (λ (q : PathView). below root q) (sym name);
  form = (at.form.0, at.form.1, part, at.form.2, at.form.3, is, name ∙ ap (λ (q : PathView). q ++ part ∷ []) at.form.4);
}

-- a folder of a level that stands in a place
pub at_level : (l : Level) (root : PathView) (place child : Place) (part : List ℕ)
    → IsAt root (HoldsParts l) place
    → IsLevelName l part → child.folder ≡ place.folder ++ part ∷ []
    → child.name ≡ place.name ++ part ∷ []
    → IsAt root (LevelParts l) child
at_level level.Module root place child part at is folder name =
    at_module root place child part at is folder name
at_level level.Function root place child part at is folder name =
    at_function root place child part at is folder name
at_level level.Entry root place child part at is folder name =
    at_entry root place child part at is folder name

-- ---- which parts stand below which

-- what is below a name is that name with more parts
unfolding_below : (name parts : PathView) → IsBelow name parts
    → (rest : PathView) × (parts ≡ name ++ rest)
unfolding IsBelow
unfolding_below name parts is = is

-- the first part of an entry behind the root is a module's name
pub in_root : (name : PathView) (part : List ℕ) (rest parts : PathView) → IsRootParts name
    → IsEntryParts parts → parts ≡ name ++ part ∷ rest → IsNameOf part
in_root name part rest parts form (m, f, k, hm, hf, hk, e) is =
    let h : m ∷ f ∷ k ∷ [] ≡ part ∷ rest =
    sym e ∙ is ∙ ap (λ (q : PathView). q ++ part ∷ rest) form in
    let same : m ≡ part = cc in subst (λ (n : List ℕ). IsTrue (is_name n)) same hm

-- the first part of an entry behind a module's place is a function's name
pub in_module : (name : PathView) (part : List ℕ) (rest parts : PathView) → IsModuleParts name
    → IsEntryParts parts → parts ≡ name ++ part ∷ rest → IsNameOf part
in_module name part rest parts form (m, f, k, hm, hf, hk, e) is =
    let h : m ∷ f ∷ k ∷ [] ≡ form.0 ∷ part ∷ rest =
    sym e ∙ is ∙ ap (λ (q : PathView). q ++ part ∷ rest) form.2 in
    let same : f ≡ part = cc in subst (λ (n : List ℕ). IsTrue (is_name n)) same hf

-- the first part of an entry behind a function's place is a key
pub in_function : (name : PathView) (part : List ℕ) (rest parts : PathView) → IsFunctionParts name
    → IsEntryParts parts → parts ≡ name ++ part ∷ rest → IsKeyName part
in_function name part rest parts form (m, f, k, hm, hf, hk, e) is =
    let h : m ∷ f ∷ k ∷ [] ≡ form.0 ∷ form.1 ∷ part ∷ rest =
    sym e ∙ is ∙ ap (λ (q : PathView). q ++ part ∷ rest) form.4 in
    let same : k ≡ part = cc in subst (λ (n : List ℕ). IsTrue (is_key n)) same hk

-- the first part behind a place, by levels
pub in_level : (l : Level) (name : PathView) (part : List ℕ) (rest parts : PathView)
    → HoldsParts l name
    → IsEntryParts parts → parts ≡ name ++ part ∷ rest → IsLevelName l part
in_level level.Module name part rest parts form of is = in_root name part rest parts form of is
in_level level.Function name part rest parts form of is = in_module name part rest parts form of is
in_level level.Entry name part rest parts form of is = in_function name part rest parts form of is

-- a place in which folders of a level stand is no entry
pub level_short : (l : Level) (name : PathView) → HoldsParts l name → length name < 3
level_short level.Module name form = omega (arith, ap length form)
level_short level.Function name form = omega (arith, ap length form.2)
level_short level.Entry name form = omega (arith, ap length form.4)

-- an entry's name has three parts: the module, the function and the key
entry_length : (parts : PathView) → IsEntryParts parts → length parts ≡ 3
entry_length parts of = ap length of.6

-- an entry below a shorter place stands behind it by at least one part
pub behind : (name parts : PathView) → length name < 3 → IsEntryParts parts → IsBelow name parts
    → (part : List ℕ) × (rest : PathView) × (parts ≡ name ++ part ∷ rest)
behind name parts short form is = by_rest (unfolding_below name parts is)
  where
    by_rest : ((rest : PathView) × (parts ≡ name ++ rest))
        → (part : List ℕ) × (rest : PathView) × (parts ≡ name ++ part ∷ rest)
    by_rest ([], e) =
        absurd (omega (arith, short, entry_length parts form, ap length (e ∙ append-nil name)))
    by_rest (part ∷ rest, e) = (part, rest, e)

-- of two entries one below the other, they are one
pub only_entry : (name : PathView) → IsEntryParts name → (parts : PathView) → IsEntryParts parts
    → IsBelow name parts → parts ≡ name
only_entry name form parts of is = by_rest (unfolding_below name parts is)
  where
    by_rest : ((rest : PathView) × (parts ≡ name ++ rest)) → parts ≡ name
    by_rest ([], e) = e ∙ append-nil name
    by_rest (part ∷ rest, e) =
        absurd
        (omega (
          arith,
          entry_length name form,
          entry_length parts of,
          ap length e,
          length-append name (part ∷ rest),
        ))

-- what has a part behind a name is below that part
below_part : (name : PathView) (part : List ℕ) (rest parts : PathView) → parts ≡ name ++ part ∷ rest
    → IsBelow (name ++ part ∷ []) parts
unfolding IsBelow
below_part name part rest parts e = (rest, e ∙ sym (append_assoc name (part ∷ []) rest))

-- below one part, and below another, is one part
part_below : (name : PathView) (a b : List ℕ) (parts : PathView) → IsBelow (name ++ a ∷ []) parts
    → IsBelow (name ++ b ∷ []) parts → a ≡ b
part_below name a b parts p q =
    let x = unfolding_below (name ++ a ∷ []) parts p in
    let y = unfolding_below (name ++ b ∷ []) parts q in
    let h : a ∷ x.0 ≡ b ∷ y.0 = append_cancel_left name (a ∷ x.0) (b ∷ y.0)
    (sym (append_assoc name (a ∷ []) x.0) ∙ sym x.1 ∙ y.1 ∙ append_assoc name (b ∷ []) y.0) in
    cc

-- the part of what stands below it
pub part_split : (name : PathView) (part : List ℕ) (parts : PathView)
    → IsBelow (name ++ part ∷ []) parts → (rest : PathView) × (parts ≡ name ++ part ∷ rest)
part_split name part parts is =
    let x = unfolding_below (name ++ part ∷ []) parts is in
    (x.0, x.1 ∙ append_assoc name (part ∷ []) x.0)

-- ---- which of them stand

-- below what is no folder there is none
pub no_below : (root : PathView) (place : Place) (s : State) → IsState s
    → place.folder ≡ below root place.name → is_folder s place.folder ≡ false → (parts : PathView)
    → IsBelow place.name parts → is_folder s (below root parts) ≡ false
no_below root place s ok folder gone parts is = by_rest (unfolding_below place.name parts is)
  where
    at : (rest : PathView) → parts ≡ place.name ++ rest → below root parts ≡ place.folder ++ rest
    at rest e =
        ap (λ (q : PathView). below root q) e ∙ sym (append_assoc root place.name rest)
        ∙ ap (λ (q : PathView). q ++ rest) (sym folder)

    inside : (f : PathView) → is_folder s f ≡ false → (part : List ℕ) (rest : PathView)
        → place_at s (f ++ part ∷ rest) ≡ None
    inside [] unmade part rest =
        absurd (true≢false (sym (ap (λ o. option_map_or is_folder_place o false) ok.here) ∙ unmade))
    inside (x ∷ xs) unmade part rest = nothing_inside s ok (x ∷ xs) (omega arith) unmade part rest

    by_rest : ((rest : PathView) × (parts ≡ place.name ++ rest))
        → is_folder s (below root parts) ≡ false
    by_rest ([], e) = ap (is_folder s) (at [] e ∙ append-nil place.folder) ∙ gone
    by_rest (part ∷ rest, e) =
        no_folder s (below root parts)
        (ap (place_at s) (at (part ∷ rest) e) ∙ inside place.folder gone part rest)

-- where a place tells of a folder, a folder stands there
folder_there : (o : Option Thing) → option_map_or is_folder_place o false ≡ true
    → (thing : Thing) × (o ≡ Some thing) × (is_folder_place thing ≡ true)
folder_there None e = absurd (true≢false (sym e))
folder_there (Some Folder) e = (Folder, refl, refl)
folder_there (Some (File n)) e = absurd (true≢false (sym e))

-- the first part on the way to a folder is one
folder_on_way : (s : State) → IsState s → (folder : PathView) (part : List ℕ) (rest : PathView)
    → is_folder s (folder ++ part ∷ rest) ≡ true → is_folder s (folder ++ part ∷ []) ≡ true
folder_on_way s ok folder part [] is = is
folder_on_way s ok folder part (x ∷ xs) is =
    elim (is_folder s q) as (λ b. is_folder s q ≡ b → is_folder s q ≡ true) [
      | true ↦ λ made. made
      | false ↦ λ unmade.
          let gone : place_at s (q ++ x ∷ xs) ≡ None = nothing_inside s ok q
          (omega (arith, length-append folder (part ∷ []))) unmade x xs in
          absurd
          (true≢false
          (sym is ∙ ap (is_folder s) (sym (append_assoc folder (part ∷ []) (x ∷ xs)))
          ∙ no_folder s (q ++ x ∷ xs) gone))
    ] refl
  where
    q : PathView
    q = folder ++ part ∷ []

-- an entry that stands below a place at each state of a listing is under one of the names there
pub under_each : (root : PathView) (place : Place) (names : List Name) (s : State) (moves : Trace)
    → IsState s → IsTrace s moves → place.folder ≡ below root place.name
    → ListsNames place.folder names s moves → (part : List ℕ) (rest parts : PathView) → part ≢ []
    → parts ≡ place.name ++ part ∷ rest
    → AtEach s moves (λ t. is_folder t (below root parts) ≡ true) → Under place.name names parts
under_each root place names s moves ok may folder lists part rest parts named e each =
    let at : below root parts ≡ place.folder ++ part ∷ rest =
    ap (λ (q : PathView). below root q) e ∙ sym (append_assoc root place.name (part ∷ rest))
    ∙ ap (λ (q : PathView). q ++ part ∷ rest) (sym folder) in
    let name : Name = record { part = part; folder = true } in (
      name,
      lists.every name
          (λ before later split.
          let t = run s before in
          let made = folder_on_way t (state_each s moves before later ok may split) place.folder
          part rest (ap (is_folder t) (sym at) ∙ each before later split) in
          let thing = folder_there (place_at t (place.folder ++ part ∷ [])) made in
          record { place = thing.0; place_is = thing.1; kind = thing.2; named = named }),
      below_part place.name part rest parts e,
    )

-- what is no folder at some state isn't one at each
pub some_not_each : (s : State) (moves : Trace) (p : PathView)
    → AtSome s moves (λ t. is_folder t p ≡ false) → AtEach s moves (λ t. is_folder t p ≡ true) → ⊥
some_not_each s moves p (before, later, split, gone) each =
    true≢false (sym (each before later split) ∙ gone)

-- what is under one of a place's names is below the place
pub under_below : (name : PathView) (names : List Name) (parts : PathView) → Under name names parts
    → IsBelow name parts
under_below name names parts (n, among, is) = below_more name (n.part ∷ []) parts is

-- ---- distinct names

-- a part that is apart from each of the names is none of them
all_apart : (x : List ℕ) (ns : List Name)
    → AllByRecursion (λ y. bytes_eq x y ≡ false) (map (λ (n : Name). n.part) ns)
    → (k : ℕ) (d : Name) → k < length ns → x ≡ (get_or ns k d).part → ⊥
all_apart x [] all k d lt e = omega (arith, lt)
all_apart x (n ∷ ns) all zero d lt e = true≢false (sym ((bytes_eq-Decides x n.part).1 e) ∙ all.0)
all_apart x (n ∷ ns) all (suc k) d lt e = all_apart x ns all.1 k d (omega (arith, lt)) e

-- of distinct names no later one has the part of an earlier one
distinct_at : (ns : List Name) → IsDistinct bytes_eq (map (λ (n : Name). n.part) ns)
    → (i j : ℕ) (d e : Name) → i < j → j < length ns → (get_or ns i d).part ≡ (get_or ns j e).part
    → ⊥
unfolding IsDistinct
distinct_at [] dist i j d e lt within same = omega (arith, within)
distinct_at (n ∷ ns) dist i zero d e lt within same = omega (arith, lt)
distinct_at (n ∷ ns) dist zero (suc j) d e lt within same =
    all_apart n.part ns dist.0 j e (omega (arith, within)) same
distinct_at (n ∷ ns) dist (suc i) (suc j) d e lt within same =
    distinct_at ns dist.1 i j d e (omega (arith, lt)) (omega (arith, within)) same

-- a name isn't among those before it
pub not_before : (names : List Name) (i : ℕ) (item n : Name)
    → IsDistinct bytes_eq (map (λ (n : Name). n.part) names) → i < length names
    → item ≡ get_or names i item → Contains (take i names) n → n.part ≡ item.part → ⊥
not_before names i item n dist lt is (k, below_i, e) same =
    let k_lt : k < i = omega (arith, below_i, length-take i names) in
    distinct_at names dist k i n item k_lt lt
    (ap (λ (x : Name). x.part) (sym (get_or-take i names k n k_lt) ∙ e) ∙ same
    ∙ ap (λ (x : Name). x.part) is)

-- under the names with one more is what was under them before, or below the new one
under_more : (name : PathView) (names : List Name) (i : ℕ) (item : Name)
    → take (i + 1) names ≡ take i names ++ item ∷ [] → (parts : PathView)
    → Under name (take (i + 1) names) parts
    → Under name (take i names) parts ⊎ IsBelow (name ++ item.part ∷ []) parts
under_more name names i item grown parts (n, among, of) =
    ⊎_elim
    (λ (old : Contains (take i names) n). inl (n, old, of))
    (λ (new : Contains (item ∷ []) n).
    inr (subst (λ (x : Name). IsBelow (name ++ x.part ∷ []) parts) (only_among item n new) of))
    (Contains-append_cases (take i names) (item ∷ []) n
    (subst (λ (ns : List Name). Contains ns n) grown among))

-- and the other way round: both are under the names with one more
under_less : (name : PathView) (names : List Name) (i : ℕ) (item : Name)
    → take (i + 1) names ≡ take i names ++ item ∷ [] → (parts : PathView)
    → Under name (take i names) parts ⊎ IsBelow (name ++ item.part ∷ []) parts
    → Under name (take (i + 1) names) parts
under_less name names i item grown parts (inl (n, among, of)) = (
  n,
  subst (λ (ns : List Name). Contains ns n) (sym grown)
      (Contains-append_left (take i names) (item ∷ []) n among),
  of,
)
under_less name names i item grown parts (inr of) = (
  item,
  subst (λ (ns : List Name). Contains ns item) (sym grown)
      (Contains-append_right (take i names) (item ∷ []) item (first_among item [])),
  of,
)

-- ---- an entry's item

-- its access was found out
pub one_pushed : (place : Place) (bytes access : ℕ) (r : Result ⊤ Stop) (before after : List Item)
    (old new : FolderView)
    → Pushes r place bytes access before after
    → Measures (HadAccess (place.folder ++ entry_part Access ∷ [])) (measure.Number access) old new
    → AddsOne place (HasSized place bytes) r before after old new
one_pushed place bytes access (Ok done) before after old new pushes a =
    let (item, are, path, bytes_is, access_is) = pushes in
    record {
      added = item ∷ [];
      are = are;
      paths = λ x among. ap (λ (y : Item). y.path) (only_among item x among) ∙ path;
      frame = answers_as old new a.frame (λ e. cc) (λ e. cc);
      moves = a.moves;
      one = λ t done. (
        item,
        refl,
        (
          bytes_is,
          subst
              (λ (n : ℕ).
              HadAccess (place.folder ++ entry_part Access ∷ []) n (state old)
              (moved old new))
              (sym access_is) (a.says t access refl),
        ),
      );
    }
one_pushed place bytes access (Err stop.Fault) before after old new pushes a = absurd pushes
one_pushed place bytes access (Err stop.NoMemory) before after old new pushes a = record {
  added = [];
  are = pushes ∙ sym (append-nil before);
  paths = λ x among. absurd (none_among x among);
  frame = answers_as old new a.frame (λ e. cc) (λ e. cc);
  moves = a.moves;
  one = λ t done. cc;
}

-- a number was not found out
pub one_failed : (place : Place) (Says : Item → State → Trace → Type 0)
    (Found : ℕ → State → Trace → Type 0) (m : Measure) (r : Result ⊤ Stop) (items : List Item)
    (old new : FolderView)
    → (r ≡ Err stop.Fault → m ≡ measure.Fault) → (m ≡ measure.Fault → r ≡ Err stop.Fault)
    → (r ≡ Ok tt → ⊥) → Measures Found m old new → AddsOne place Says r items items old new
one_failed place Says Found m r items old new to from undone a = record {
  added = [];
  are = sym (append-nil items);
  paths = λ x among. absurd (none_among x among);
  frame = answers_as old new a.frame to from;
  moves = a.moves;
  one = λ t done. absurd (undone done);
}

-- its bytes were found out before
pub one_listed : (place : Place) (names : List Name) (bytes : ℕ) (r : Result ⊤ Stop)
    (before after : List Item) (old mid new : FolderView)
    → Measures (HadBytes place.folder names) (measure.Number bytes) old mid
    → AddsOne place (HasSized place bytes) r before after mid new
    → AddsOne place (HasListed place names) r before after old new
one_listed place names bytes r before after old mid new a b = record {
  added = b.added;
  are = b.are;
  paths = b.paths;
  frame = answers_next old mid new a.frame (λ e. cc) b.frame (λ e. e) (λ e. e);
  moves = λ t. moves_then Silent old mid new (a.moves t) (b.moves (a.frame.told t));
  one = λ t done.
      let t' = a.frame.told t in
      let first = (a.moves t).went in
      let second = (b.moves t').went in
      let one = b.one t' done in
      let item = one.0 in
      let only = one.1 in
      let bytes_is = one.2.0 in
      let access = one.2.1 in
      let path = place.folder ++ entry_part Access ∷ [] in (
        item,
        only,
        (
          subst (λ (n : ℕ). HadBytes place.folder names n (state old) (moved old new))
              (sym bytes_is)
              (sooner (HadBytes place.folder names bytes) (bytes_lasting place.folder names bytes) old
              mid new first second (a.says t bytes refl)),
          later (HadAccess path item.access) (access_lasting path item.access) old mid new first
              second access,
        ),
      );
}

-- ---- parts that add items

module _ (root : PathView) where
  -- nothing was added, as nothing is there
  pub adds_none : (Pre : Type 0) (Of : PathView → Type 0) (r : Result ⊤ Stop) (items : List Item)
      (v : FolderView)
      → (r ≡ Err stop.Fault → ⊥)
      → (r ≡ Ok tt → (parts : PathView) → IsEntryParts parts → Of parts → ⊥)
      → Adds root Pre Of r items items v v
  adds_none Pre Of r items v faultless none = record {
    added = [];
    are = sym (append-nil items);
    paths = λ item among. absurd (none_among item among);
    frame = answers_as v v (answers_none v) faultless (λ f. absurd f);
    moves = λ t. moves_none Silent v;
    found = λ t done ok pre.
        seen_none root (state v) (moved v v) Of (λ parts form of each. none done parts form of);
  }

  -- it wasn't done
  pub adds_undone : (Pre Pre' : Type 0) (Of Of' : PathView → Type 0) (r : Result ⊤ Stop)
      (before after : List Item) (old new : FolderView)
      → (r ≡ Ok tt → ⊥) → Adds root Pre Of r before after old new
      → Adds root Pre' Of' r before after old new
  adds_undone Pre Pre' Of Of' r before after old new undone a = record {
    added = a.added;
    are = a.are;
    paths = a.paths;
    frame = a.frame;
    moves = a.moves;
    found = λ t done. absurd (undone done);
  }

  -- of parts that are told otherwise
  pub adds_as : (Pre : Type 0) (Of Of' : PathView → Type 0) (r : Result ⊤ Stop)
      (before after : List Item) (old new : FolderView)
      → ((parts : PathView) → Of parts → Of' parts) → ((parts : PathView) → Of' parts → Of parts)
      → Adds root Pre Of r before after old new → Adds root Pre Of' r before after old new
  adds_as Pre Of Of' r before after old new there back a = record {
    added = a.added;
    are = a.are;
    paths = a.paths;
    frame = a.frame;
    moves = a.moves;
    found = λ t done ok pre.
        seen_as root (state old) (moved old new) Of Of' a.added (λ parts form of. there parts of)
        (λ parts form each of. back parts of) (a.found t done ok pre);
  }

  -- one after the other
  module _ (Pre : Type 0) (Of Of' : PathView → Type 0) (r : Result ⊤ Stop)
      (before between after : List Item) (old mid new : FolderView)
      (a : Adds root Pre Of (Ok tt) before between old mid) where
    -- the paths of both lists are paths of items
    both_paths : (xs : List Item) → ((item : Item) → Contains xs item → IsItemPath item.path)
        → (item : Item) → Contains (a.added ++ xs) item → IsItemPath item.path
    both_paths xs paths item among =
        ⊎_elim (λ (l : Contains a.added item). a.paths item l)
        (λ (x : Contains xs item). paths item x) (Contains-append_cases a.added xs item among)

    pub adds_then : (Pre → (parts : PathView) → Of parts → Of' parts → ⊥)
        → Adds root ⊤ Of' r between after mid new
        → Adds root Pre (λ parts. Of parts ⊎ Of' parts) r before after old new
    adds_then apart b = record {
      added = a.added ++ b.added;
      are = b.are ∙ ap (λ (xs : List Item). xs ++ b.added) a.are
          ∙ append_assoc before a.added b.added;
      paths = both_paths b.added b.paths;
      frame = answers_next old mid new a.frame (λ e. cc) b.frame (λ e. e) (λ e. e);
      moves = λ t. moves_then Silent old mid new (a.moves t) (b.moves (a.frame.told t));
      found = λ t done ok pre.
          let t' = a.frame.told t in
          let first = (a.moves t).went in
          let second = (b.moves t').went in
          seen_then root (state old) (moved old new) Of Of' a.added b.added (apart pre)
          (sooner (AreSeen root Of a.added) (are_lasting root Of a.added) old mid new first second
          (a.found t refl ok pre))
          (later (AreSeen root Of' b.added) (are_lasting root Of' b.added) old mid new first second
          (b.found t' done (state_new old mid first ok) tt));
    }

    -- and where the second wasn't done
    pub adds_stop : (Pre' Pre'' : Type 0) (Of'' : PathView → Type 0) → (r ≡ Ok tt → ⊥)
        → Adds root Pre' Of' r between after mid new → Adds root Pre'' Of'' r before after old new
    adds_stop Pre' Pre'' Of'' undone b = record {
      added = a.added ++ b.added;
      are = b.are ∙ ap (λ (xs : List Item). xs ++ b.added) a.are
          ∙ append_assoc before a.added b.added;
      paths = both_paths b.added b.paths;
      frame = answers_next old mid new a.frame (λ e. cc) b.frame (λ e. e) (λ e. e);
      moves = λ t. moves_then Silent old mid new (a.moves t) (b.moves (a.frame.told t));
      found = λ t done. absurd (undone done);
    }

  -- ---- names of a place

  module _ (name : PathView) (names : List Name) where
    -- no names yet
    pub adds_start : (items : List Item) (v : FolderView)
        → Adds root (AreDistinct names) (Under name (take 0 names)) (Ok tt) items items v v
    adds_start items v =
        adds_none (AreDistinct names) (Under name (take 0 names)) (Ok tt) items v (λ e. cc)
        (λ d parts form of. omega (arith, of.1.1, length-take 0 names))

    -- one name more
    pub adds_more : (i : ℕ) (item : Name) (part : List ℕ) (before between after : List Item)
        (old mid new : FolderView)
        → take (i + 1) names ≡ take i names ++ item ∷ [] → i < length names
        → item ≡ get_or names i item → part ≡ item.part
        → Adds root (AreDistinct names) (Under name (take i names)) (Ok tt) before between old mid
        → Adds root ⊤ (IsBelow (name ++ part ∷ [])) (Ok tt) between after mid new
        → Adds root (AreDistinct names) (Under name (take (i + 1) names)) (Ok tt) before after old
        new
    adds_more i item part before between after old mid new grown lt is same a b =
        let Before : PathView → Type 0 = Under name (take i names) in
        let This : PathView → Type 0 = IsBelow (name ++ item.part ∷ []) in
        adds_as (AreDistinct names) (λ parts. Before parts ⊎ This parts)
        (Under name (take (i + 1) names)) (Ok tt) before after old new
        (λ parts of. under_less name names i item grown parts of)
        (λ parts of. under_more name names i item grown parts of)
        (adds_then (AreDistinct names) Before This (Ok tt) before between after old mid new a
        (λ dist parts of of'.
        not_before names i item of.0 dist lt is of.1
        (part_below name of.0.part item.part parts of.2 of'))
        (subst
        (λ (w : List ℕ). Adds root ⊤ (IsBelow (name ++ w ∷ [])) (Ok tt) between after mid new)
        same b))

    -- all names
    pub adds_every : (i : ℕ) (before after : List Item) (old new : FolderView)
        → take i names ≡ names
        → Adds root (AreDistinct names) (Under name (take i names)) (Ok tt) before after old new
        → Adds root (AreDistinct names) (Under name names) (Ok tt) before after old new
    adds_every i before after old new all a =
        subst
        (λ (ns : List Name).
        Adds root (AreDistinct names) (Under name ns) (Ok tt) before after old new)
        all a

  -- ---- a listing first

  module _ (place : Place) (old mid : FolderView) {Fails : Type 0}
      (frame : FolderAnswers Fails old mid) (waits : old.told → Waits old mid) where
    -- there are no names
    pub adds_unlisted : (Pre : Type 0) (Of : PathView → Type 0) (r : Result ⊤ Stop)
        (items : List Item)
        → (r ≡ Err stop.Fault → Fails) → (Fails → r ≡ Err stop.Fault) → (r ≡ Ok tt → ⊥)
        → Adds root Pre Of r items items old mid
    adds_unlisted Pre Of r items to from undone = record {
      added = [];
      are = sym (append-nil items);
      paths = λ item among. absurd (none_among item among);
      frame = answers_as old mid frame to from;
      moves = λ t. moves_waits Silent old mid frame.token (waits t);
      found = λ t done. absurd (undone done);
    }

    -- there is no such folder
    pub adds_absent : (items : List Item) → place.folder ≡ below root place.name → (Fails → ⊥)
        → (old.told → AtSome (state old) (moved old mid) (λ s. is_folder s place.folder ≡ false))
        → Adds root ⊤ (IsBelow place.name) (Ok tt) items items old mid
    adds_absent items folder well gone = record {
      added = [];
      are = sym (append-nil items);
      paths = λ item among. absurd (none_among item among);
      frame = answers_as old mid frame (λ e. cc) (λ f. absurd (well f));
      moves = λ t. moves_waits Silent old mid frame.token (waits t);
      found = λ t done ok pre.
          seen_none root (state old) (moved old mid) (IsBelow place.name)
          (λ parts form of each.
          let (before, later, split, away) = gone t in
          let goes = goes_waits old mid frame.token (waits t) in
          true≢false
          (sym (each before later split)
          ∙ no_below root place (run (state old) before)
          (state_each (state old) (moved old mid) before later ok goes.lawful split) folder away
          parts of));
    }

    module _ (names : List Name) (r : Result ⊤ Stop) (before after : List Item)
        (new : FolderView) (well : Fails → ⊥)
        (lists : old.told → ListsNames place.folder names (state old) (moved old mid)) where
      -- the entry's own item
      pub adds_one : IsAt root IsEntryParts place
          → AddsOne place (HasListed place names) r before after mid new
          → Adds root ⊤ (IsBelow place.name) r before after old new
      adds_one at b = record {
        added = b.added;
        are = b.are;
        paths = λ item among. (place.name, at.form, b.paths item among);
        frame = answers_next old mid new frame well b.frame (λ e. e) (λ e. e);
        moves = λ t.
            moves_then Silent old mid new (moves_waits Silent old mid frame.token (waits t))
            (b.moves (frame.told t));
        found = λ t done ok pre.
            let first = goes_waits old mid frame.token (waits t) in
            let second = (b.moves (frame.told t)).went in
            let one = b.one (frame.told t) done in
            let item = one.0 in
            let only = one.1 in
            let bytes = one.2.0 in
            let access = one.2.1 in
            let path = place.folder ++ entry_part Access ∷ [] in
            let P : State → Type 0 = λ s. is_folder s place.folder ≡ true in
            subst
            (λ (xs : List Item). AreSeen root (IsBelow place.name) xs (state old) (moved old new))
            (sym only)
            (seen_one root (state old) (moved old new) place.name item at.form
            (record {
              stood = subst
                  (λ (q : PathView). AtSome (state old) (moved old new) (λ s. is_folder s q ≡ true))
                  at.folder
                  (sooner (λ s moves. AtSome s moves P) (some_lasting P) old mid new first second
                  (lists t).folder);
              path = b.paths item
                  (subst (λ (xs : List Item). Contains xs item) (sym only) (first_among item []));
              names = names;
              listed = subst (λ (q : PathView). ListsNames q names (state old) (moved old new))
                  at.folder
                  (sooner (λ s moves. ListsNames place.folder names s moves)
                  (lists_lasting place.folder names) old mid new first second (lists t));
              bytes = subst
                  (λ (q : PathView). HadBytes q names item.bytes (state old) (moved old new))
                  at.folder
                  (later (HadBytes place.folder names item.bytes)
                  (bytes_lasting place.folder names item.bytes) old mid new first second bytes);
              access = subst
                  (λ (q : PathView).
                  HadAccess (q ++ entry_part Access ∷ []) item.access (state old) (moved old new))
                  at.folder
                  (later (HadAccess path item.access) (access_lasting path item.access) old mid new
                  first second access);
            })
            (only_entry place.name at.form) (below_self place.name));
      }

      -- the items below its names
      pub adds_listed : place.folder ≡ below root place.name
          → ((parts : PathView) → IsEntryParts parts → IsBelow place.name parts
          → (part : List ℕ) × (rest : PathView) × (parts ≡ place.name ++ part ∷ rest) × (part ≢ []))
          → Adds root (AreDistinct names) (Under place.name names) r before after mid new
          → Adds root ⊤ (IsBelow place.name) r before after old new
      adds_listed folder inner b = record {
        added = b.added;
        are = b.are;
        paths = b.paths;
        frame = answers_next old mid new frame well b.frame (λ e. e) (λ e. e);
        moves = λ t.
            moves_then Silent old mid new (moves_waits Silent old mid frame.token (waits t))
            (b.moves (frame.told t));
        found = λ t done ok pre.
            let first = goes_waits old mid frame.token (waits t) in
            let second = (b.moves (frame.told t)).went in
            let seen = later (AreSeen root (Under place.name names) b.added)
            (are_lasting root (Under place.name names) b.added) old mid new first second
            (b.found (frame.told t) done (state_new old mid first ok) (lists t).once) in
            seen_as root (state old) (moved old new) (Under place.name names) (IsBelow place.name)
            b.added (λ parts form of. under_below place.name names parts of)
            (λ parts form each of.
            let (part, rest, e, named) = inner parts form of in
            under_each root place names (state old) (moved old mid) ok first.lawful folder
            (lists t) part rest parts named e
            (each_sooner (λ s. is_folder s (below root parts) ≡ true) old mid new first second each))
            seen;
      }

-- ---- stops

-- a result that is a stop tells of a fault only where the stop is one
err_to : {T U : Type 0} (r : Result T Stop) (e : Stop) → r ≡ Err e → r ≡ Err stop.Fault
    → ◌≡◌ {A = Result U Stop} (Err e) (Err stop.Fault)
err_to r e is f =
    let h : Err e ≡ Err stop.Fault = sym is ∙ f in let same : e ≡ stop.Fault = cc in ap Err same

-- and it does tell of one where the stop is one
err_from : {T U : Type 0} (r : Result T Stop) (e : Stop) → r ≡ Err e
    → ◌≡◌ {A = Result U Stop} (Err e) (Err stop.Fault) → r ≡ Err stop.Fault
err_from r e is f = let same : e ≡ stop.Fault = cc in is ∙ ap Err same

-- a result that is a stop isn't done
err_undone : (r : Result ⊤ Stop) (e : Stop) → r ≡ Err e → r ≡ Ok tt → ⊥
err_undone r e is done = let h : Err e ≡ Ok tt = sym is ∙ done in cc

module _ (root : PathView) where
  -- there was no memory for a path
  pub adds_memory : (Pre : Type 0) (Of : PathView → Type 0) (r : Result ⊤ Stop) (items : List Item)
      (v : FolderView)
      → IsErrAnd r (λ f. f ≡ stop.NoMemory) → Adds root Pre Of r items items v v
  adds_memory Pre Of r items v is =
      subst (λ (x : Result ⊤ Stop). Adds root Pre Of x items items v v)
      (sym (err_is r stop.NoMemory is))
      (adds_none root Pre Of (Err stop.NoMemory) items v (λ f. cc) (λ d. cc))

  -- a stop after what was added is handed on
  pub adds_stopped : (Pre Pre' Pre'' : Type 0) (Of Of' Of'' : PathView → Type 0) (r : Result ⊤ Stop)
      (e : Stop) (before between after : List Item) (old mid new : FolderView)
      → IsErrAnd r (λ f. f ≡ e) → Adds root Pre Of (Ok tt) before between old mid
      → Adds root Pre' Of' (Err e) between after mid new
      → Adds root Pre'' Of'' r before after old new
  adds_stopped Pre Pre' Pre'' Of Of' Of'' r e before between after old mid new is a b =
      subst (λ (x : Result ⊤ Stop). Adds root Pre'' Of'' x before after old new)
      (sym (err_is r e is))
      (adds_stop root Pre Of Of' (Err e) before between after old mid new a Pre' Pre'' Of''
      (λ d. cc) b)

  module _ (place : Place) (items : List Item) (old mid : FolderView) where
    -- the names of a folder weren't read
    pub adds_unread : (Pre : Type 0) (Of : PathView → Type 0) (r : Result ⊤ Stop) (e : Stop)
        → IsErrAnd r (λ f. f ≡ e)
        → Lists place.folder (Err e) old mid → Adds root Pre Of r items items old mid
    adds_unread Pre Of r e is l =
        let same = err_is r e is in
        adds_unlisted root place old mid l.frame l.waits Pre Of r items (err_to r e same)
        (err_from r e same) (err_undone r e same)

    -- there is no such folder
    pub adds_gone : place.folder ≡ below root place.name → Lists place.folder (Ok None) old mid
        → Adds root ⊤ (IsBelow place.name) (Ok tt) items items old mid
    adds_gone folder l =
        adds_absent root place old mid l.frame l.waits items folder (λ f. cc) l.names
