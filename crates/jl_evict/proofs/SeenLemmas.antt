-- What was seen in a call was seen in a longer one, and is so where nothing moved.
use Rattle.std.proofs.Common.{◌≡◌, ◌⊎◌, inl, inr, ⊎_elim, ℕ, ◌+◌, List, [], ◌∷◌, ◌++◌, true, false, Some, refl, sym, ap, subst, ◌∙◌, append_assoc, Contains, sum_by}
use Rattle.std.proofs.lemmas.List.Elements.{Contains-append_cases, Contains-append_left, Contains-append_right}
use Rattle.std.proofs.lemmas.List.Sums.{sum_by-cons}
use Rattle.jl_text.specs.Paths.{PathView, text_of}
use Rattle.jl_folder.specs.declared.listing.Name.{Name}
use Rattle.jl_folder.specs.declared.moves.Place.TheVariants.{File}
use Rattle.jl_folder.specs.State.{State, Trace, AtEach, place_at, node_at, is_folder, is_file, bytes_at, run}
use Rattle.jl_folder.specs.Listing.{StandsRight, ListsNames}
use Rattle.jl_folder.proofs.Traces.{run-append}
use Rattle.jl_entry.specs.declared.names.EntryFile.TheVariants.{Access}
use Rattle.jl_entry.specs.Names.{IsBelow, below, entry_part}
use Rattle.jl_rely.proofs.Seen.{IsLasting, some_lasting, each_within}
use Rattle.jl_clear.proofs.Listings.{front_none, at_each, at_some}
use Rattle.jl_evict.specs.declared.item.Item.{Item}
use Rattle.jl_evict.specs.Items.{IsEntryParts, held, size_at, HasAccess, IsItem, AreFound, HadSizes, HadBytes, HadText, HadAccess, IsSeen, AreSeen}
use Rattle.jl_evict.proofs.FoundLemmas.{none_among, first_among, only_among, once_append}
use Rattle.jl_evict.proofs.MeasureLemmas.{bytes_there, has_access, accessed_none}
use Rattle.jl_evict.proofs.Naming.{entry_text_once}

-- ---- a longer call

pub lists_lasting : (folder : PathView) (names : List Name) → IsLasting (λ s moves. ListsNames folder names s moves)
lists_lasting folder names s front moves back l = record {
  folder = some_lasting (λ t. is_folder t folder ≡ true) s front moves back l.folder;
  each = λ name among. some_lasting (λ t. StandsRight t folder name) s front moves back (l.each name among);
  every = λ name each. l.every name (each_within (λ t. StandsRight t folder name) s front moves back each);
  once = l.once;
}

pub sizes_lasting : (folder : PathView) (names : List Name) (sizes : List ℕ) → IsLasting (HadSizes folder names sizes)
sizes_lasting folder [] [] s front moves back h = tt
sizes_lasting folder [] (n ∷ ns) s front moves back h = absurd h
sizes_lasting folder (name ∷ names) [] s front moves back h = absurd h
sizes_lasting folder (name ∷ names) (n ∷ ns) s front moves back h =
    (some_lasting (λ t. size_at t (folder ++ name.part ∷ []) ≡ n) s front moves back h.0, sizes_lasting folder names ns s front moves back h.1)

pub bytes_lasting : (folder : PathView) (names : List Name) (n : ℕ) → IsLasting (HadBytes folder names n)
bytes_lasting folder names n s front moves back h = (h.0, sizes_lasting folder names h.0 s front moves back h.1, h.2)

text_lasting : (path : PathView) (bytes : List ℕ) → IsLasting (HadText path bytes)
text_lasting path bytes s front moves back t =
    let reach : run (run s front) t.before ≡ run s (front ++ t.before) = sym (run-append s front t.before) in
    let reach' : run (run s front) (t.before ++ t.middle) ≡ run s ((front ++ t.before) ++ t.middle) =
    sym (run-append s front (t.before ++ t.middle)) ∙ ap (run s) (sym (append_assoc front t.before t.middle)) in
    record {
      before = front ++ t.before;
      middle = t.middle;
      later = t.later ++ back;
      split = ap (λ (u : Trace). front ++ (u ++ back)) t.split
          ∙ ap (λ (u : Trace). front ++ u) (append_assoc t.before (t.middle ++ t.later) back ∙ ap (λ (u : Trace). t.before ++ u) (append_assoc t.middle t.later back))
          ∙ sym (append_assoc front t.before (t.middle ++ (t.later ++ back)));
      node = t.node;
      named = subst (λ (u : State). place_at u path ≡ Some (File t.node)) reach t.named;
      view = t.view;
      node_is = subst (λ (u : State). node_at u t.node ≡ Some t.view) reach' t.node_is;
      has = t.has;
    }

pub access_lasting : (path : PathView) (n : ℕ) → IsLasting (HadAccess path n)
access_lasting path n s front moves back (inl (bytes, text, is)) = inl (bytes, text_lasting path bytes s front moves back text, is)
access_lasting path n s front moves back (inr (gone, is)) = inr (some_lasting (λ t. is_file t path ≡ false) s front moves back gone, is)

seen_lasting : (root parts : PathView) (item : Item) → IsLasting (IsSeen root parts item)
seen_lasting root parts item s front moves back i = record {
  stood = some_lasting (λ t. is_folder t (below root parts) ≡ true) s front moves back i.stood;
  path = i.path;
  names = i.names;
  listed = lists_lasting (below root parts) i.names s front moves back i.listed;
  bytes = bytes_lasting (below root parts) i.names item.bytes s front moves back i.bytes;
  access = access_lasting (below root parts ++ entry_part Access ∷ []) item.access s front moves back i.access;
}

pub are_lasting : (root : PathView) (Of : PathView → Type 0) (items : List Item) → IsLasting (AreSeen root Of items)
are_lasting root Of items s front moves back a = record {
  each = λ item among. let one = a.each item among in (one.0, one.1, one.2, seen_lasting root one.0 item s front moves back one.3);
  every = λ parts form of each. a.every parts form of (each_within (λ t. is_folder t (below root parts) ≡ true) s front moves back each);
  once = a.once;
}

-- ---- more of them

module _ (root : PathView) (s : State) (moves : Trace) where
  pub seen_none : (Of : PathView → Type 0) → ((parts : PathView) → IsEntryParts parts → Of parts → AtEach s moves (λ t. is_folder t (below root parts) ≡ true) → ⊥) → AreSeen root Of [] s moves
  seen_none Of none = record { each = λ item among. absurd (none_among item among); every = λ parts form of each. absurd (none parts form of each); once = tt }

  pub seen_then : (Of Of' : PathView → Type 0) (xs ys : List Item) → ((parts : PathView) → Of parts → Of' parts → ⊥) → AreSeen root Of xs s moves → AreSeen root Of' ys s moves → AreSeen root (λ parts. Of parts ⊎ Of' parts) (xs ++ ys) s moves
  seen_then Of Of' xs ys apart a b = record {
    each = λ item among. ⊎_elim
        (λ (l : Contains xs item). let one = a.each item l in (one.0, one.1, inl one.2, one.3))
        (λ (r : Contains ys item). let one = b.each item r in (one.0, one.1, inr one.2, one.3))
        (Contains-append_cases xs ys item among);
    every = λ parts form of each. ⊎_elim
        (λ (l : Of parts). let one = a.every parts form l each in (one.0, Contains-append_left xs ys one.0 one.1, one.2))
        (λ (r : Of' parts). let one = b.every parts form r each in (one.0, Contains-append_right xs ys one.0 one.1, one.2))
        of;
    once = once_append xs ys a.once b.once
        (λ x y in_xs in_ys same.
        let one = a.each x in_xs in
        let two = b.each y in_ys in
        let equal : two.0 ≡ one.0 = entry_text_once two.0 one.0 two.1 one.1 (sym two.3.path ∙ same ∙ one.3.path) in
        apart one.0 one.2 (subst Of' equal two.2));
  }

  pub seen_as : (Of Of' : PathView → Type 0) (xs : List Item) → ((parts : PathView) → IsEntryParts parts → Of parts → Of' parts) → ((parts : PathView) → IsEntryParts parts → AtEach s moves (λ t. is_folder t (below root parts) ≡ true) → Of' parts → Of parts) → AreSeen root Of xs s moves → AreSeen root Of' xs s moves
  seen_as Of Of' xs there back a = record {
    each = λ item among. let one = a.each item among in (one.0, one.1, there one.0 one.1 one.2, one.3);
    every = λ parts form of each. a.every parts form (back parts form each of) each;
    once = a.once;
  }

  -- one item
  pub seen_one : (name : PathView) (item : Item) → IsEntryParts name → IsSeen root name item s moves → ((parts : PathView) → IsEntryParts parts → IsBelow name parts → parts ≡ name) → IsBelow name name → AreSeen root (IsBelow name) (item ∷ []) s moves
  seen_one name item form is only self = record {
    each = λ x among. (name, form, self, subst (λ (y : Item). IsSeen root name y s moves) (sym (only_among item x among)) is);
    every = λ parts of below_it each. (item, first_among item [], is.path ∙ ap text_of (sym (only parts of below_it)));
    once = (λ y among. absurd (none_among y among), tt);
  }

-- ---- where nothing moved

sizes_alone : (folder : PathView) (names : List Name) (sizes : List ℕ) (s : State) (moves : Trace) → moves ≡ [] → HadSizes folder names sizes s moves → sum_by (λ k. k) sizes ≡ sum_by (λ (name : Name). size_at s (folder ++ name.part ∷ [])) names
sizes_alone folder [] [] s moves none h = refl
sizes_alone folder [] (n ∷ ns) s moves none h = absurd h
sizes_alone folder (name ∷ names) [] s moves none h = absurd h
sizes_alone folder (name ∷ names) (n ∷ ns) s moves none h =
    let size : Name → ℕ = λ x. size_at s (folder ++ x.part ∷ []) in
    let here : size name ≡ n = at_some s (λ t. size_at t (folder ++ name.part ∷ []) ≡ n) moves none h.0 in
    sum_by-cons (λ k. k) n ns ∙ (λ i. sym here i + sizes_alone folder names ns s moves none h.1 i) ∙ sym (sum_by-cons size name names)

text_alone : (path : PathView) (bytes : List ℕ) (s : State) (moves : Trace) → moves ≡ [] → HadText path bytes s moves → bytes_at s path ≡ Some bytes
text_alone path bytes s moves none t =
    let split : [] ≡ t.before ++ (t.middle ++ t.later) = sym none ∙ t.split in
    let first : t.before ≡ [] = front_none t.before (t.middle ++ t.later) split in
    let both : t.before ++ t.middle ≡ [] = front_none (t.before ++ t.middle) t.later (split ∙ sym (append_assoc t.before t.middle t.later)) in
    bytes_there s path t.node t.view (subst (λ (b : Trace). place_at (run s b) path ≡ Some (File t.node)) first t.named) (subst (λ (b : Trace). node_at (run s b) t.node ≡ Some t.view) both t.node_is)
    ∙ ap (λ (b : List ℕ). Some b) t.has

access_alone : (path : PathView) (n : ℕ) (s : State) (moves : Trace) → moves ≡ [] → HadAccess path n s moves → HasAccess s path n
access_alone path n s moves none (inl (bytes, text, is)) = has_access s path bytes n (text_alone path bytes s moves none text) is
access_alone path n s moves none (inr (gone, zero_is)) =
    subst (λ (k : ℕ). HasAccess s path k) (sym zero_is) (accessed_none path s (at_some s (λ t. is_file t path ≡ false) moves none gone))

item_alone : (root parts : PathView) (item : Item) (s : State) (moves : Trace) → moves ≡ [] → IsSeen root parts item s moves → IsItem root s parts item
item_alone root parts item s moves none i = record {
  stands = at_some s (λ t. is_folder t (below root parts) ≡ true) moves none i.stood;
  path = i.path;
  bytes = (
    i.names,
    subst (λ (u : Trace). ListsNames (below root parts) i.names s u) none i.listed,
    i.bytes.2 ∙ ap held (sizes_alone (below root parts) i.names i.bytes.0 s moves none i.bytes.1),
  );
  access = access_alone (below root parts ++ entry_part Access ∷ []) item.access s moves none i.access;
}

pub found_alone : (root : PathView) (Of : PathView → Type 0) (items : List Item) (s : State) (moves : Trace) → moves ≡ [] → AreSeen root Of items s moves → AreFound root Of s items
found_alone root Of items s moves none a = record {
  each = λ item among. let one = a.each item among in (one.0, one.1, one.2, item_alone root one.0 item s moves none one.3);
  every = λ parts form of there.
      let found = a.every parts form of (at_each s (λ t. is_folder t (below root parts) ≡ true) moves none there) in
      let one = a.each found.0 found.1 in
      let same : one.0 ≡ parts = entry_text_once one.0 parts one.1 form (sym one.3.path ∙ found.2) in
      (found.0, found.1, subst (λ (ps : PathView). IsItem root s ps found.0) same (item_alone root one.0 found.0 s moves none one.3));
  once = a.once;
}
