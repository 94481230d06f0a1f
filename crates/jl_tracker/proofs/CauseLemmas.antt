-- A folder that couldn't be removed, by the states of its removal.
use Rattle.std.proofs.Common.{◌≡◌, ℕ, zero, suc, ◌+◌, ◌-◌, ◌^◌, ◌<◌, ◌≤◌, ◌⊎◌, inl, inr, List, [], ◌∷◌, ◌++◌, Bool, true, false, cond, min, Option, Some, None, length, get_or, true≢false, sym, ◌∙◌, ap, subst, refl, arith}
use Rattle.std.specs.Option.{option_map_or}
use Rattle.std.specs.Cmp.Lexicographic.{lists_equiv, nat_list_eq_equiv}
use Rattle.std.proofs.lemmas.List.{append-nil, append_assoc}
use Rattle.std.proofs.lemmas.Bool.Decides.{leb_tells}
use Rattle.jl_text.specs.Paths.{PathView, path_eq}
use Rattle.jl_folder.specs.State.{State, Trace, Event, History, AtSome, AtEach, place_at, is_file, is_file_place, is_folder, is_folder_place, run, after, now, since}
use Rattle.jl_folder.specs.Calls.{IsParent, own_event}
use Rattle.jl_text.specs.Counts.{Rose}
use Rattle.jl_folder.specs.declared.listing.Name.{Name}
use Rattle.jl_folder.specs.declared.moves.Place.{Place}
use Rattle.jl_folder.specs.declared.moves.Place.TheVariants.{Folder, File}
use Rattle.jl_folder.specs.declared.moves.Move.{Move}
use Rattle.jl_folder.specs.declared.moves.Move.TheVariants.{Remove}
use Rattle.jl_folder.proofs.Looks.{place_at-after}
use Rattle.jl_folder.proofs.Traces.{run-append}
use Rattle.jl_folder.proofs.ReadingLemmas.{since-is, now-on}
use Rattle.jl_tracker.specs.Stages.{FolderPoint}
use Rattle.jl_tracker.specs.Removing.{TriesFile, TriesFolder, TriedName, TriedNames, TriedFolder, RemovesListed}
use Rattle.jl_tracker.specs.Causes.{FilesWentAway, HasCause}

-- the moves from one history to a later one
record Steps (a b : History) (es : Trace) : Type 0 where
  start : b.start ≡ a.start
  trace : b.trace ≡ a.trace ++ es

-- no step was made
steps_none : (a b : History) → b ≡ a → Steps a b []
steps_none a b e = record { start = ap (λ h. h.start) e; trace = ap (λ h. h.trace) e ∙ sym (append-nil a.trace) }

-- steps after steps
steps_trans : (a m b : History) (es fs : Trace) → Steps a m es → Steps m b fs → Steps a b (es ++ fs)
steps_trans a m b es fs p q = record { start = q.start ∙ p.start; trace = q.trace ∙ ap (λ t. t ++ fs) p.trace ∙ append_assoc a.trace es fs }

-- a state of some of the moves is one of more moves
at_later : (s : State) (es fs : Trace) (P : State → Type 0) → AtSome s es P → AtSome s (es ++ fs) P
at_later s es fs P h = (h.0, h.1 ++ fs, ap (λ l. l ++ fs) h.2 ∙ append_assoc h.0 h.1 fs, h.3)

-- a state among the later steps
at_behind : (s : State) (es fs : Trace) (P : State → Type 0) → AtSome (run s es) fs P → AtSome s (es ++ fs) P
at_behind s es fs P h = (es ++ h.0, h.1, ap (λ l. es ++ l) h.2 ∙ sym (append_assoc es h.0 h.1), subst P (sym (run-append s es h.0)) h.3)

-- a file is away at some state, or there at each
here_or_away : (s : State) (es : Trace) (q : PathView) → AtSome s es (λ x. is_file x q ≡ false) ⊎ AtEach s es (λ x. is_file x q ≡ true)
here_or_away s [] q = elim (is_file s q) as (λ v. is_file s q ≡ v → AtSome s [] (λ x. is_file x q ≡ false) ⊎ AtEach s [] (λ x. is_file x q ≡ true)) [
  | true ↦ λ e. inr (all e)
  | false ↦ λ e. inl ([], [], refl, e)
] refl
  where
    all : is_file s q ≡ true → (before later : Trace) → [] ≡ before ++ later → is_file (run s before) q ≡ true
    all e [] later split = e
    all e (x ∷ xs) later split = absurd (apart x (xs ++ later) split)
      where
        apart : (x : Event) (xs : Trace) → ◌≡◌ {A = Trace} [] (x ∷ xs) → ⊥
        apart x xs e = cc
here_or_away s (e ∷ es) q =
    let more = here_or_away (after s e) es q in
    elim (is_file s q) as (λ v. is_file s q ≡ v → AtSome s (e ∷ es) (λ x. is_file x q ≡ false) ⊎ AtEach s (e ∷ es) (λ x. is_file x q ≡ true)) [
      | true ↦ λ h. rest h more
      | false ↦ λ h. inl ([], e ∷ es, refl, h)
    ] refl
  where
    head_is : (x y : Event) (xs ys : Trace) → ◌≡◌ {A = Trace} (x ∷ xs) (y ∷ ys) → x ≡ y
    head_is x y xs ys p = cc

    tail_is : (x y : Event) (xs ys : Trace) → ◌≡◌ {A = Trace} (x ∷ xs) (y ∷ ys) → xs ≡ ys
    tail_is x y xs ys p = cc

    each_on : is_file s q ≡ true → AtEach (after s e) es (λ x. is_file x q ≡ true) → (before later : Trace) → e ∷ es ≡ before ++ later → is_file (run s before) q ≡ true
    each_on h each [] later split = h
    each_on h each (x ∷ xs) later split = subst (λ y. is_file (run (after s y) xs) q ≡ true) (head_is e x es (xs ++ later) split) (each xs later (tail_is e x es (xs ++ later) split))

    rest : is_file s q ≡ true → AtSome (after s e) es (λ x. is_file x q ≡ false) ⊎ AtEach (after s e) es (λ x. is_file x q ≡ true) → AtSome s (e ∷ es) (λ x. is_file x q ≡ false) ⊎ AtEach s (e ∷ es) (λ x. is_file x q ≡ true)
    rest h (inl r) = inl (e ∷ r.0, r.1, ap (λ l. e ∷ l) r.2, r.3)
    rest h (inr each) = inr (each_on h each)

-- a count that rose in a part
rose_in : (f m n g : ℕ) → f ≤ m → n ≤ g → Rose m n → Rose f g
rose_in f m n g le ge rose = omega (arith, le, ge, rose)

-- a path names no file once it was taken away
gone_after : (s : State) (me : List ℕ) (q : PathView) → is_file (after s (me, Remove q)) q ≡ false
gone_after s me q = ap (λ o. option_map_or is_file_place o false) (place_at-after s (me, Remove q) q) ∙ gone
  where
    gone : option_map_or is_file_place (cond (path_eq q q) None (place_at s q)) false ≡ false
    gone = ap (λ v. option_map_or is_file_place (cond v None (place_at s q)) false) ((lists_equiv nat_list_eq_equiv).refl q)

-- a name that was tried: its file was away at some state, or the count rose
record TriedOne (folder : Bool) (q : PathView) (a m : FolderPoint) : Type 0 where
  moves : Trace
  steps : Steps a.history m.history moves
  later : a.faults ≤ m.faults
  gone : folder ≡ false → Rose a.faults m.faults ⊎ AtSome (now a.history) moves (λ x. is_file x q ≡ false)

-- what the try of one name made
tried_one : (folder : Bool) (q : PathView) (a m : FolderPoint) → TriedName folder q a m → TriedOne folder q a m
tried_one true q a m t = record { moves = []; steps = steps_none a.history m.history (ap (λ p. p.history) t); later = omega (arith, ap (λ p. p.faults) t); gone = λ e. absurd (true≢false e) }
tried_one false q a m t = record {
  moves = t.1.call.others ++ own_event a.token t.1.call.own;
  steps = record { start = t.1.call.start; trace = t.1.call.trace };
  later = t.1.later;
  gone = λ e. go t.0 t.1.call.own t.1.call.answer;
}
  where
    go : (done : Bool) (own : Option Move) → TriesFile q done a m (run (now a.history) t.1.call.others) own → Rose a.faults m.faults ⊎ AtSome (now a.history) (t.1.call.others ++ own_event a.token own) (λ x. is_file x q ≡ false)
    go true own h = inr (at_behind (now a.history) t.1.call.others (own_event a.token own) (λ x. is_file x q ≡ false)
        (subst (λ o. AtSome (run (now a.history) t.1.call.others) (own_event a.token o) (λ x. is_file x q ≡ false)) (sym h.1) ((a.token, Remove q) ∷ [], [], refl, gone_after (run (now a.history) t.1.call.others) a.token q)))
    go false own (inl h) = inr (t.1.call.others, own_event a.token own, refl, h.0)
    go false own (inr h) = inl h.0

-- one of the names
Among : Name → List Name → Type 0
Among n [] = ⊥
Among n (x ∷ xs) = (x ≡ n) ⊎ Among n xs

-- an entry of a list is among its names
among : (xs : List Name) (n : Name) (k : ℕ) → k < length xs → get_or xs k n ≡ n → Among n xs
unfolding Among
among [] n k lt e = absurd (omega (arith, lt))
among (x ∷ xs) n zero lt e = inl e
among (x ∷ xs) n (suc k) lt e = inr (among xs n k (omega (arith, lt)) e)

-- names that were tried: each one's file was away at some state, or the count rose
record TriedMany (p : PathView) (names : List Name) (a b : FolderPoint) : Type 0 where
  moves : Trace
  steps : Steps a.history b.history moves
  later : a.faults ≤ b.faults
  gone : (n : Name) → Among n names → n.folder ≡ false → Rose a.faults b.faults ⊎ AtSome (now a.history) moves (λ x. is_file x (p ++ n.part ∷ []) ≡ false)

-- the same of each name of a list
tried_many : (p : PathView) (names : List Name) (a b : FolderPoint) → TriedNames p names a b → TriedMany p names a b
unfolding Among
tried_many p [] a b t = record { moves = []; steps = steps_none a.history b.history (ap (λ p. p.history) t); later = omega (arith, ap (λ p. p.faults) t); gone = λ n m e. absurd m }
tried_many p (x ∷ xs) a b t =
    let one = tried_one x.folder (p ++ x.part ∷ []) a t.0 t.1 in
    let rest = tried_many p xs t.0 b t.2 in record {
      moves = one.moves ++ rest.moves;
      steps = steps_trans a.history t.0.history b.history one.moves rest.moves one.steps rest.steps;
      later = omega (arith, one.later, rest.later);
      gone = λ n m e. pick one rest n m e;
    }
  where
    pick : (one : TriedOne x.folder (p ++ x.part ∷ []) a t.0) (rest : TriedMany p xs t.0 b) (n : Name) → (x ≡ n) ⊎ Among n xs → n.folder ≡ false → Rose a.faults b.faults ⊎ AtSome (now a.history) (one.moves ++ rest.moves) (λ y. is_file y (p ++ n.part ∷ []) ≡ false)
    pick one rest n (inl same) e = subst (λ k. Rose a.faults b.faults ⊎ AtSome (now a.history) (one.moves ++ rest.moves) (λ y. is_file y (p ++ k.part ∷ []) ≡ false)) same (first (one.gone (ap (λ k. k.folder) same ∙ e)))
      where
        first : Rose a.faults t.0.faults ⊎ AtSome (now a.history) one.moves (λ y. is_file y (p ++ x.part ∷ []) ≡ false) → Rose a.faults b.faults ⊎ AtSome (now a.history) (one.moves ++ rest.moves) (λ y. is_file y (p ++ x.part ∷ []) ≡ false)
        first (inl r) = inl (rose_in a.faults a.faults t.0.faults b.faults (omega arith) rest.later r)
        first (inr h) = inr (at_later (now a.history) one.moves rest.moves (λ y. is_file y (p ++ x.part ∷ []) ≡ false) h)
    pick one rest n (inr m) e = next (rest.gone n m e)
      where
        next : Rose t.0.faults b.faults ⊎ AtSome (now t.0.history) rest.moves (λ y. is_file y (p ++ n.part ∷ []) ≡ false) → Rose a.faults b.faults ⊎ AtSome (now a.history) (one.moves ++ rest.moves) (λ y. is_file y (p ++ n.part ∷ []) ≡ false)
        next (inl r) = inl (rose_in a.faults t.0.faults b.faults b.faults one.later (omega arith) r)
        next (inr h) = inr (at_behind (now a.history) one.moves rest.moves (λ y. is_file y (p ++ n.part ∷ []) ≡ false) (subst (λ s. AtSome s rest.moves (λ y. is_file y (p ++ n.part ∷ []) ≡ false)) (now-on a.history t.0.history one.moves one.steps.start one.steps.trace) h))

-- what stands there as a file
file_stands : (o : Option Place) → option_map_or is_file_place o false ≡ true → (place : Place) × (o ≡ Some place) × (is_folder_place place ≡ false)
file_stands None e = absurd (true≢false (sym e))
file_stands (Some Folder) e = absurd (true≢false (sym e))
file_stands (Some (File n)) e = (File n, refl, refl)

-- a folder that was listed and couldn't be taken away
tried_cause : (p : PathView) (a b : FolderPoint) → TriedFolder p false a b → HasCause p a b
tried_cause p a b t = go t.last.call.own t.last.call.answer whole
  where
    begun : a.faults ≤ t.listed.faults
    begun = omega (arith, t.list.steady)

    many : TriedMany p t.names t.listed t.emptied
    many = tried_many p t.names t.listed t.emptied t.tries

    whole : since a.history b.history ≡ (t.list.waits.others ++ (many.moves ++ t.last.call.others)) ++ own_event t.emptied.token t.last.call.own
    whole = since-is a.history b.history (t.list.waits.others ++ (many.moves ++ (t.last.call.others ++ own_event t.emptied.token t.last.call.own)))
        (t.last.call.trace ∙ ap (λ l. l ++ (t.last.call.others ++ own_event t.emptied.token t.last.call.own)) (many.steps.trace ∙ ap (λ l. l ++ many.moves) t.list.waits.trace ∙ append_assoc a.history.trace t.list.waits.others many.moves)
        ∙ append_assoc a.history.trace (t.list.waits.others ++ many.moves) (t.last.call.others ++ own_event t.emptied.token t.last.call.own) ∙ ap (λ l. a.history.trace ++ l) (append_assoc t.list.waits.others many.moves (t.last.call.others ++ own_event t.emptied.token t.last.call.own)))
        ∙ ap (λ l. t.list.waits.others ++ l) (sym (append_assoc many.moves t.last.call.others (own_event t.emptied.token t.last.call.own))) ∙ sym (append_assoc t.list.waits.others (many.moves ++ t.last.call.others) (own_event t.emptied.token t.last.call.own))

    at_list : now t.listed.history ≡ run (now a.history) t.list.waits.others
    at_list = now-on a.history t.listed.history t.list.waits.others t.list.waits.start t.list.waits.trace

    at_empty : now t.emptied.history ≡ run (now t.listed.history) many.moves
    at_empty = now-on t.listed.history t.emptied.history many.moves many.steps.start many.steps.trace

    at_lead : run (now t.emptied.history) t.last.call.others ≡ run (now a.history) (t.list.waits.others ++ (many.moves ++ t.last.call.others))
    at_lead = ap (λ s. run s t.last.call.others) (at_empty ∙ ap (λ s. run s many.moves) at_list) ∙ sym (run-append (now a.history) t.list.waits.others (many.moves ++ t.last.call.others) ∙ run-append (run (now a.history) t.list.waits.others) many.moves t.last.call.others)

    away : (Rose a.faults b.faults → ⊥) → FilesWentAway (now a.history) (t.list.waits.others ++ (many.moves ++ t.last.call.others)) p
    away still part named here = pick (here_or_away (now a.history) t.list.waits.others (p ++ part ∷ []))
      where
        tried : Rose t.listed.faults t.emptied.faults ⊎ AtSome (now t.listed.history) many.moves (λ x. is_file x (p ++ part ∷ []) ≡ false) → AtSome (now a.history) (t.list.waits.others ++ (many.moves ++ t.last.call.others)) (λ x. is_file x (p ++ part ∷ []) ≡ false)
        tried (inl r) = absurd (still (rose_in a.faults t.listed.faults t.emptied.faults b.faults begun t.last.later r))
        tried (inr h) = at_behind (now a.history) t.list.waits.others (many.moves ++ t.last.call.others) (λ x. is_file x (p ++ part ∷ []) ≡ false)
            (at_later (run (now a.history) t.list.waits.others) many.moves t.last.call.others (λ x. is_file x (p ++ part ∷ []) ≡ false) (subst (λ s. AtSome s many.moves (λ x. is_file x (p ++ part ∷ []) ≡ false)) at_list h))

        pick : AtSome (now a.history) t.list.waits.others (λ x. is_file x (p ++ part ∷ []) ≡ false) ⊎ AtEach (now a.history) t.list.waits.others (λ x. is_file x (p ++ part ∷ []) ≡ true) → AtSome (now a.history) (t.list.waits.others ++ (many.moves ++ t.last.call.others)) (λ x. is_file x (p ++ part ∷ []) ≡ false)
        pick (inl h) = at_later (now a.history) t.list.waits.others (many.moves ++ t.last.call.others) (λ x. is_file x (p ++ part ∷ []) ≡ false) h
        pick (inr each) =
            let found = t.list.lists.every (record { part = part; folder = false }) (λ before later split.
            let s = file_stands (place_at (run (now a.history) before) (p ++ part ∷ [])) (each before later (sym (since-is a.history t.listed.history t.list.waits.others t.list.waits.trace) ∙ split)) in
            record { place = s.0; place_is = s.1; kind = s.2; named = named }) in
            tried (many.gone (record { part = part; folder = false }) (among t.names (record { part = part; folder = false }) found.0 found.1 found.2) refl)

    decide : is_folder (run (now t.emptied.history) t.last.call.others) p ≡ true → IsParent (run (now t.emptied.history) t.last.call.others) p → since a.history b.history ≡ (t.list.waits.others ++ (many.moves ++ t.last.call.others)) ++ own_event t.emptied.token t.last.call.own → HasCause p a b
    decide there kept split = elim (leb_tells (min (a.faults + 1) (2 ^ 64 - 1)) b.faults) [
      | inl r ↦ inr (inr r.1)
      | inr r ↦ inr (inl record {
        before = (t.list.waits.others ++ (many.moves ++ t.last.call.others));
        later = own_event t.emptied.token t.last.call.own;
        split = split;
        away = away (λ rose. absurd (omega (arith, r.1, rose)));
        there = subst (λ s. is_folder s p ≡ true) at_lead there;
        kept = subst (λ s. IsParent s p) at_lead kept;
      })
    ]

    go : (own : Option Move) → TriesFolder p false t.emptied b (run (now t.emptied.history) t.last.call.others) own → since a.history b.history ≡ (t.list.waits.others ++ (many.moves ++ t.last.call.others)) ++ own_event t.emptied.token t.last.call.own → HasCause p a b
    go own (inl h) split = inl ((t.list.waits.others ++ (many.moves ++ t.last.call.others)), own_event t.emptied.token t.last.call.own, split, subst (λ s. is_folder s p ≡ false) at_lead h.0)
    go own (inr (inl h)) split = decide h.0 h.1 split
    go own (inr (inr h)) split = inr (inr (rose_in a.faults t.emptied.faults b.faults b.faults le (omega arith) h.0))
      where
        le : a.faults ≤ t.emptied.faults
        le = omega (arith, begun, many.later)

-- a folder that couldn't be removed
pub folder_cause : (p : PathView) (a b : FolderPoint) → RemovesListed p false a b → HasCause p a b
folder_cause p a b (inl t) = elim t.why [
  | inl h ↦ inl h.0
  | inr r ↦ inr (inr r)
]
folder_cause p a b (inr t) = tried_cause p a b t

-- trying names never lowers the count of faults
pub names_later : (p : PathView) (names : List Name) (a b : FolderPoint) → TriedNames p names a b → a.faults ≤ b.faults
names_later p names a b t = (tried_many p names a b t).later
