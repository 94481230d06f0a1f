-- What a listing tells of a folder, and what is left when its names were handled.
use Rattle.std.proofs.Common.{◌≡◌, ◌≢◌, ◌⊎◌, inl, inr, ⊎_elim, ℕ, ◌≤◌, List, [], ◌∷◌, ◌++◌, Bool}
use Rattle.std.proofs.Common.{false, true, Option, None, Some, Result, Ok, Err, true≢false, refl}
use Rattle.std.proofs.Common.{sym, ap, subst, ◌∙◌, arith, append_assoc, length, length-append}
use Rattle.std.proofs.Common.{Contains}
use Rattle.std.proofs.lemmas.List.{append_cancel_left}
use Rattle.std.specs.Option.{option_map_or}
use Rattle.std.specs.Prelude.{⊤}
use Rattle.std.specs.Result.{IsErrAnd}
use Rattle.jl_text.specs.Paths.{PathView}
use Rattle.jl_folder.specs.declared.moves.Place.{Place}
use Rattle.jl_folder.specs.declared.moves.Place.TheVariants.{Folder, File}
use Rattle.jl_folder.specs.declared.listing.Name.{Name}
use Rattle.jl_folder.specs.State.{State, IsState, Trace, AtSome, AtEach, IsTrace, place_at}
use Rattle.jl_folder.specs.State.{is_folder, is_file, is_folder_place, is_file_place, run}
use Rattle.jl_folder.specs.Views.{FolderView, state, moved}
use Rattle.jl_folder.specs.Listing.{StandsRight, ListsNames}
use Rattle.jl_folder.specs.Calls.{Waits}
use Rattle.jl_folder.proofs.Frames.{answers_next, answers_as}
use Rattle.jl_entry.specs.Names.{IsStoreName, IsStoreFolder, IsBelow}
use Rattle.jl_rely.specs.Steps.{IsLone}
use Rattle.jl_rely.specs.Claims.{Anywhere}
use Rattle.jl_rely.proofs.Causes.{folder_as, file_as}
use Rattle.jl_rely.proofs.Since.{since_went}
use Rattle.jl_rely.proofs.Composed.{went_waits, goes_waits}
use Rattle.jl_rely.proofs.Alone.{foreign_lone, lone_parts, waits_alone}
use Rattle.jl_rely.proofs.Moving.{moves_then, moves_waits}
use Rattle.jl_rely.proofs.Seen.{state_each, state_new, each_or_some, some_sooner, some_later}
use Rattle.jl_clear.specs.Taking.{IsTaking, IsInside, IsOfStore, HasOnly}
use Rattle.jl_clear.specs.declared.removing.Clear.{Clear}
use Rattle.jl_clear.specs.declared.removing.Clear.TheVariants.{Cleared}
use Rattle.jl_clear.specs.declared.stop.Stop.{Stop}
use Rattle.jl_clear.specs.Removing.{answer_of}
use Rattle.jl_clear.specs.Listings.{Lists}
use Rattle.jl_clear.specs.Clearing.{IsEmptied, IsBehind, HasAll, Handled, ClearsPart, NoPath}
use Rattle.jl_clear.specs.Clearing.{Thinned, Clears}
use Rattle.jl_clear.proofs.Paths.{by_place, child_there, inside_child, inside_below, below_more}
use Rattle.jl_clear.proofs.Paths.{here_or_inside, nothing_inside, no_folder, no_file}
use Rattle.jl_clear.proofs.Stops.{err_is, stop_undone, stop_told, stop_tells}
use Rattle.jl_clear.proofs.Folders.{name_inside}
use Rattle.jl_clear.proofs.Thinning.{thinned_alone, was_there, no_folder_stays, only_stays}
use Rattle.jl_clear.proofs.Thinning.{away_at_end}

-- ---- names that stand in a folder

-- where a place tells of a file, a file stands there
file_there : (o : Option Place) → option_map_or is_file_place o false ≡ true
    → (place : Place) × (o ≡ Some place) × (is_folder_place place ≡ false)
file_there None e = absurd (true≢false (sym e))
file_there (Some Folder) e = absurd (true≢false (sym e))
file_there (Some (File n)) e = (File n, refl, refl)

-- where a place tells of a folder, a folder stands there
folder_there : (o : Option Place) → option_map_or is_folder_place o false ≡ true
    → (place : Place) × (o ≡ Some place) × (is_folder_place place ≡ true)
folder_there None e = absurd (true≢false (sym e))
folder_there (Some Folder) e = (Folder, refl, refl)
folder_there (Some (File n)) e = absurd (true≢false (sym e))

-- a truth value is one of two
decide : (b : Bool) → (b ≡ true) ⊎ (b ≡ false)
decide true = inl refl
decide false = inr refl

-- whether more parts follow
abbrev goes_on : PathView → Bool
goes_on [] = false
goes_on (x ∷ xs) = true

-- where a file stands inside a folder, the first part on the way to it stands right in it
stands_first : (s : State) → IsState s → (folder : PathView) (part : List ℕ) (rest : PathView)
    → part ≢ [] → is_file s (folder ++ part ∷ rest) ≡ true
    → StandsRight s folder (record { part = part; folder = goes_on rest })
stands_first s ok folder part [] named is =
    let there = file_there (place_at s (folder ++ part ∷ [])) is in
    record { place = there.0; place_is = there.1; kind = there.2; named = named }
stands_first s ok folder part (x ∷ xs) named is =
    let there = file_there (place_at s (folder ++ part ∷ x ∷ xs)) is in
    let made = in_folder (decide (is_folder s (folder ++ part ∷ []))) there.0 there.1 in
    let at = folder_there (place_at s (folder ++ part ∷ [])) made in
    record { place = at.0; place_is = at.1; kind = at.2; named = named }
  where
    -- what holds anything is a folder, since below what is none there stands nothing
    in_folder : (is_folder s (folder ++ part ∷ []) ≡ true)
        ⊎ (is_folder s (folder ++ part ∷ []) ≡ false)
        → (place : Place) → place_at s (folder ++ part ∷ x ∷ xs) ≡ Some place
        → is_folder s (folder ++ part ∷ []) ≡ true
    in_folder (inl made) place at = made
    in_folder (inr unmade) place at =
        let gone : place_at s ((folder ++ part ∷ []) ++ x ∷ xs) ≡ None = nothing_inside s ok
        (folder ++ part ∷ []) (omega (arith, length-append folder (part ∷ []))) unmade x xs in
        let h : Some place ≡ None =
        sym at ∙ ap (place_at s) (sym (append_assoc folder (part ∷ []) (x ∷ xs))) ∙ gone in
        cc

-- and so does what is on the way to a folder there, and that folder
stands_folder : (s : State) → IsState s → (folder : PathView) (part : List ℕ) (rest : PathView)
    → part ≢ [] → is_folder s (folder ++ part ∷ rest) ≡ true
    → (kind : Bool) × StandsRight s folder (record { part = part; folder = kind })
stands_folder s ok folder part rest named is =
    let there = folder_there (place_at s (folder ++ part ∷ rest)) is in
    let child = child_there s ok folder part rest there.0 there.1 in
    (is_folder_place child.0, record { place = child.0; place_is = child.1; kind = refl; named = named })

-- a file that stood inside at each state of a listing is behind one of the names
pub named_if_each : (folder : PathView) (names : List Name) (s : State) (moves : Trace) → IsState s
    → IsTrace s moves → ListsNames folder names s moves → (part : List ℕ) (rest : PathView)
    → part ≢ [] → AtEach s moves (λ t. is_file t (folder ++ part ∷ rest) ≡ true)
    → (name : Name) × Contains names name × (name.part ≡ part)
named_if_each folder names s moves ok may lists part rest named each =
    let name : Name = record { part = part; folder = goes_on rest } in (
      name,
      lists.every name
          (λ before later split.
          stands_first (run s before) (state_each s moves before later ok may split) folder part
          rest named (each before later split)),
      refl,
    )

-- ---- a listing where no other moved

-- a front of no moves has no moves
pub front_none : (xs ys : Trace) → [] ≡ xs ++ ys → xs ≡ []
front_none [] ys e = refl
front_none (x ∷ xs) ys e = cc

-- where nothing moved, what holds at first holds at each state
pub at_each : (s : State) (P : State → Type 0) (moves : Trace) → moves ≡ [] → P s → AtEach s moves P
at_each s P moves none p before later split =
    subst (λ (b : Trace). P (run s b)) (sym (front_none before later (sym none ∙ split))) p

-- where nothing moved, what held at some state holds at first
pub at_some : (s : State) (P : State → Type 0) (moves : Trace) → moves ≡ [] → AtSome s moves P → P s
at_some s P moves none (before, later, split, p) =
    subst (λ (b : Trace). P (run s b)) (front_none before later (sym none ∙ split)) p

-- where no other moved, waiting makes no moves
pub no_moves : (old new : FolderView) → Waits old new → IsLone old.token (moved old new)
    → moved old new ≡ []
no_moves old new waits lone =
    let is : moved old new ≡ waits.others = since_went old new waits.others
    (went_waits old new waits) in
    is ∙ foreign_lone old.token waits.others waits.foreign (subst (IsLone old.token) is lone)

-- ---- what is left

module _ (root folder : PathView) (Form : List ℕ → Type 0) (names : List Name)
    (there : (part : List ℕ) → Form part → part ≢ []) where
  -- a name that stands right in the folder is one of the listed ones
  listed : (s : State) (part : List ℕ) (kind : Bool) → HasAll folder names s
      → StandsRight s folder (record { part = part; folder = kind })
      → (name : Name) × Contains names name × (name.part ≡ part)
  listed s part kind has stands =
      let name : Name = record { part = part; folder = kind } in
      (name, has name stands, refl)

  -- what is behind one of the names was handled
  behind_handled : (p : PathView) (part : List ℕ) (rest : PathView) → Form part
      → p ≡ folder ++ part ∷ rest → (name : Name) × Contains names name × (name.part ≡ part)
      → Handled Form folder names p
  behind_handled p part rest form e (name, among, same) = (
    name,
    among,
    subst (λ (w : List ℕ). ClearsPart Form folder w p) (sym same)
        (form, inside_child folder part rest p e),
  )

  -- where each name that stood in the folder was handled and nothing but the store's stood there,
  -- nothing is left
  emptied : (May : PathView → Type 0) (s t : State) → IsState s → IsState t → Thinned root May s t
      → ((p : PathView) → IsInside folder p → IsOfStore root p → IsBehind Form folder p)
      → HasOnly root folder s → HasAll folder names s
      → ((p : PathView) → Handled Form folder names p → IsStoreName root p → is_file t p ≡ false)
      → ((p : PathView) → Handled Form folder names p → IsStoreFolder root p → HasOnly root p s
      → is_folder t p ≡ false)
      → IsEmptied folder t
  emptied May s t ok ok' th inner only has files folders p (part, rest, e) =
      by_place (place_at t p) (place_at t p ≡ None) (λ none. none)
      (λ place is.
      let child = child_there t ok' folder part rest place (ap (place_at t) (sym e) ∙ is) in
      absurd (left child.0 child.1))
    where
      q : PathView
      q = folder ++ part ∷ []

      -- a part of the store right in the folder has the form of its names
      form : IsOfStore root q → Form part
      form of =
          let (part', rest', form', e') = inner q (part, [], refl) of in
          let parts : part' ∷ rest' ≡ part ∷ [] = append_cancel_left folder (part' ∷ rest')
          (part ∷ []) (sym e') in
          let same : part' ≡ part = cc in
          subst Form same form'

      -- such a part stood in the folder, so it is a name that was handled
      handled : (of : IsOfStore root q) → (kind : Bool)
          → StandsRight s folder (record { part = part; folder = kind })
          → Handled Form folder names q
      handled of kind stands =
          behind_handled q part [] (form of) refl (listed s part kind has stands)

      -- what stood there did so under its own part
      stands_as : IsOfStore root q → (child : Place) → place_at s q ≡ Some child
          → StandsRight s folder (record { part = part; folder = is_folder_place child })
      stands_as of child is =
          record { place = child; place_is = is; kind = refl; named = there part (form of) }

      -- and it was taken away, as a file of the store or a folder of it
      left : (child : Place) → place_at t q ≡ Some child → ⊥
      left child is =
          let was : place_at s q ≡ Some child = was_there root May s t th q child is in
          let same : place_at t q ≡ place_at s q = is ∙ sym was in
          ⊎_elim (λ (none : place_at s q ≡ None). let h : Some child ≡ None = sym was ∙ none in cc)
          (λ
          (found : (IsStoreName root q × (is_file s q ≡ true))
          ⊎ (IsStoreFolder root q × (is_folder s q ≡ true))).
          ⊎_elim
          (λ (f : IsStoreName root q × (is_file s q ≡ true)).
          true≢false
          (sym (file_as s t q same ∙ f.1)
          ∙ files q (handled (inl f.0) (is_folder_place child) (stands_as (inl f.0) child was))
          f.0))
          (λ (f : IsStoreFolder root q × (is_folder s q ≡ true)).
          true≢false
          (sym (folder_as s t q same ∙ f.1)
          ∙ folders q (handled (inr f.0) (is_folder_place child) (stands_as (inr f.0) child was))
          f.0 (λ r below. only r (below_more folder (part ∷ []) r below))))
          found)
          (only q (inside_below folder q (part, [], refl)))

  -- the names of the folder were handled, and then the folder is taken away
  pub clears_emptied : (May : PathView → Type 0) (answer : Clear) (old mid new : FolderView)
      → ((p : PathView) → IsInside folder p → IsOfStore root p → IsBehind Form folder p)
      → Clears root Anywhere May (Handled Form folder names) (Handled Form folder names) Cleared old
      mid
      → Clears root (IsEmptied folder) May NoPath (IsBelow folder) answer mid new
      → Clears root (HasAll folder names) May (Handled Form folder names) (IsBelow folder) answer
      old new
  clears_emptied May answer old mid new inner a b = record {
    frame = answers_next old mid new a.frame (λ e. cc) b.frame (λ f. f) (λ f. f);
    moves = λ t. moves_then (IsTaking root May) old mid new (a.moves t) (b.moves (a.frame.told t));
    went = λ t done ok p w name.
        some_sooner (λ s. is_file s p ≡ false) old mid new (a.moves t).went
        (b.moves (a.frame.told t)).went (a.went t refl ok p w name);
    alone = λ t done ok lone has p below store only.
        let t' = a.frame.told t in
        let first = a.moves t in
        let second = b.moves t' in
        let parts = lone_parts old mid new first.went second.went lone in
        let ok' = state_new old mid first.went ok in
        let th = thinned_alone root May old mid first parts.0 in
        let stays = no_folder_stays root May (state mid) (state new)
        (thinned_alone root May mid new second parts.1) p in
        ⊎_elim
        (λ (here : p ≡ folder).
        let bare = emptied May (state old) (state mid) ok ok' th inner
        (subst (λ (q : PathView). HasOnly root q (state old)) here only) has
        (λ q h name. away_at_end root May old mid first parts.0 q (a.went t refl ok q h name))
        (λ q h f o. a.alone t refl ok parts.0 tt q h f o) in
        b.alone t' done ok' parts.1 bare p below store
        (only_stays root May (state old) (state mid) th p only))
        (λ (inside : IsInside folder p).
        let (part, rest, form, e) = inner p inside (inr store) in
        ⊎_elim
        (λ (made : is_folder (state old) p ≡ true).
        let (kind, stands) = stands_folder (state old) ok folder part rest (there part form)
        (ap (is_folder (state old)) (sym e) ∙ made) in
        stays
        (a.alone t refl ok parts.0 tt p
        (behind_handled p part rest form e (listed (state old) part kind has stands)) store only))
        (λ (unmade : is_folder (state old) p ≡ false).
        stays (no_folder_stays root May (state old) (state mid) th p unmade))
        (decide (is_folder (state old) p)))
        (here_or_inside folder p below);
  }

  -- the names of the folder were handled, and the folder stays
  pub clears_inside : (May Gone : PathView → Type 0) (answer : Clear) (old new : FolderView)
      → ((p : PathView) → Gone p → IsOfStore root p → IsBehind Form folder p)
      → Clears root Anywhere May (Handled Form folder names) (Handled Form folder names) answer old
      new
      → Clears root (HasAll folder names) May (Handled Form folder names) Gone answer old new
  clears_inside May Gone answer old new inner a = record {
    frame = a.frame;
    moves = a.moves;
    went = a.went;
    alone = λ t done ok lone has p g store only.
        let (part, rest, form, e) = inner p g (inr store) in
        ⊎_elim
        (λ (made : is_folder (state old) p ≡ true).
        let (kind, stands) = stands_folder (state old) ok folder part rest (there part form)
        (ap (is_folder (state old)) (sym e) ∙ made) in
        a.alone t done ok lone tt p
        (behind_handled p part rest form e (listed (state old) part kind has stands)) store only)
        (λ (unmade : is_folder (state old) p ≡ false).
        no_folder_stays root May (state old) (state new)
        (thinned_alone root May old new (a.moves t) lone) p unmade)
        (decide (is_folder (state old) p));
  }

  -- the names of a folder, and what comes after
  pub clears_listed : (May Went Gone : PathView → Type 0) (answer : Clear)
      (old mid new : FolderView)
      → ((p : PathView) → Went p → IsStoreName root p → IsBehind Form folder p)
      → Lists folder (Ok (Some names)) old mid
      → Clears root (HasAll folder names) May (Handled Form folder names) Gone answer mid new
      → Clears root Anywhere May Went Gone answer old new
  clears_listed May Went Gone answer old mid new inner l b = record {
    frame = answers_next old mid new l.frame (λ e. cc) b.frame (λ f. f) (λ f. f);
    moves = λ t.
        moves_then (IsTaking root May) old mid new
        (moves_waits (IsTaking root May) old mid l.frame.token (l.waits t))
        (b.moves (l.frame.told t));
    went = λ t done ok p w name.
        let first = goes_waits old mid l.frame.token (l.waits t) in
        let second = (b.moves (l.frame.told t)).went in
        let (part, rest, form, e) = inner p w name in
        ⊎_elim
        (λ (each : AtEach (state old) (moved old mid) (λ s. is_file s p ≡ true)).
        let found = named_if_each folder names (state old) (moved old mid) ok first.lawful
        (l.names t) part rest (there part form)
        (subst (λ (q : PathView). AtEach (state old) (moved old mid) (λ s. is_file s q ≡ true)) e
        each) in
        some_later (λ s. is_file s p ≡ false) old mid new first second
        (b.went (l.frame.told t) done (state_new old mid first ok) p
        (behind_handled p part rest form e found) name))
        (λ (some : AtSome (state old) (moved old mid) (λ s. is_file s p ≡ false)).
        some_sooner (λ s. is_file s p ≡ false) old mid new first second some)
        (each_or_some (λ s. is_file s p) (state old) (moved old mid));
    alone = λ t done ok lone pre p g store only.
        let t' = l.frame.told t in
        let first = goes_waits old mid l.frame.token (l.waits t) in
        let parts = lone_parts old mid new first (b.moves t').went lone in
        let same = waits_alone old mid (l.waits t) parts.0 in
        let none = no_moves old mid (l.waits t) parts.0 in
        let has : HasAll folder names (state old) = λ name stands.
        (l.names t).every name
        (at_each (state old) (λ s. StandsRight s folder name) (moved old mid) none stands) in
        b.alone t' done (state_new old mid first ok) parts.1
        (subst (HasAll folder names) (sym same) has) p g store
        (subst (HasOnly root p) (sym same) only);
  }

-- ---- no names

module _ (root folder : PathView) (May Went Gone : PathView → Type 0) (old new : FolderView) where
  -- the names weren't read
  pub clears_unread : (Pre : State → Type 0) (r : Result ⊤ Stop) (e : Stop)
      → IsErrAnd r (λ f. f ≡ e)
      → Lists folder (Err e) old new → Clears root Pre May Went Gone (answer_of r) old new
  clears_unread Pre r e is l =
      subst (λ (x : Result ⊤ Stop). Clears root Pre May Went Gone (answer_of x) old new)
      (sym (err_is r e is)) record {
        frame = answers_as old new l.frame (stop_told e) (stop_tells e);
        moves = λ t. moves_waits (IsTaking root May) old new l.frame.token (l.waits t);
        went = λ t done. absurd (stop_undone e done);
        alone = λ t done. absurd (stop_undone e done);
      }

  -- there is no such folder
  pub clears_absent : ((p : PathView) → Went p → IsStoreName root p → (s : State) → IsState s
      → is_folder s folder ≡ false → place_at s p ≡ None)
      → ((p : PathView) → Gone p → (s : State) → IsState s → is_folder s folder ≡ false
      → is_folder s p ≡ false)
      → Lists folder (Ok None) old new → Clears root Anywhere May Went Gone Cleared old new
  clears_absent away gone l = record {
    frame = answers_as old new l.frame (λ f. cc) (λ f. cc);
    moves = λ t. moves_waits (IsTaking root May) old new l.frame.token (l.waits t);
    went = λ t done ok p w name.
        let (before, later, split, gone_there) = l.names t in
        let goes = goes_waits old new l.frame.token (l.waits t) in
        let s : State = run (state old) before in
        let ok' = state_each (state old) (moved old new) before later ok goes.lawful split in
        (before, later, split, no_file s p (away p w name s ok' gone_there));
    alone = λ t done ok lone pre p g store only.
        let none = no_moves old new (l.waits t) lone in
        let unmade = at_some (state old) (λ s. is_folder s folder ≡ false) (moved old new) none
        (l.names t) in
        ap (λ s. is_folder s p) (waits_alone old new (l.waits t) lone)
        ∙ gone p g (state old) ok unmade;
  }

-- below an absent folder no name of the store stands
pub absent_name : (root folder : PathView) → IsStoreFolder root folder → 1 ≤ length folder
    → (p : PathView) → IsBelow folder p → IsStoreName root p → (s : State) → IsState s
    → is_folder s folder ≡ false → place_at s p ≡ None
absent_name root folder store long p below name s ok unmade =
    let (part, rest, e) = name_inside root folder p store below name in
    ap (place_at s) e ∙ nothing_inside s ok folder long unmade part rest

-- inside an absent folder nothing stands
pub absent_inside : (folder : PathView) → 1 ≤ length folder → (p : PathView) → IsInside folder p
    → (s : State) → IsState s → is_folder s folder ≡ false → place_at s p ≡ None
absent_inside folder long p (part, rest, e) s ok unmade =
    ap (place_at s) e ∙ nothing_inside s ok folder long unmade part rest

-- an absent folder and what is inside it are no folders
pub absent_folder : (folder : PathView) → 1 ≤ length folder → (p : PathView) → IsBelow folder p
    → (s : State) → IsState s → is_folder s folder ≡ false → is_folder s p ≡ false
absent_folder folder long p below s ok unmade =
    ⊎_elim (λ (here : p ≡ folder). ap (is_folder s) here ∙ unmade)
    (λ (inside : IsInside folder p). no_folder s p (absent_inside folder long p inside s ok unmade))
    (here_or_inside folder p below)

-- the root may be the current folder, which is always there
pub absent_root : (root p : PathView) → IsInside root p → (s : State) → IsState s
    → is_folder s root ≡ false → place_at s p ≡ None
absent_root [] p inside s ok unmade =
    absurd
    (true≢false
    (sym (ap (λ (k : Option Place). option_map_or is_folder_place k false) ok.here) ∙ unmade))
absent_root (r ∷ rs) p inside s ok unmade =
    absent_inside (r ∷ rs) (omega arith) p inside s ok unmade
