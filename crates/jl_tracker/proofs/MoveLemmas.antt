-- Which moves a removal makes, and the effects of lines.
use Rattle.std.proofs.Common.{◌≡◌, ◌∙◌, ◌⊎◌, inl, inr, ℕ, List, [], ◌∷◌, ◌++◌, Bool, true, false, Option, None, Some, Result, Ok, Err, refl, sym, ap, subst}
use Rattle.std.proofs.lemmas.List.{append-nil}
use Rattle.std.specs.declared.alloc.AllocError.{AllocError}
use Rattle.jl_text.specs.Paths.{PathView, path_of}
use Rattle.jl_folder.specs.declared.moves.Move.{Move}
use Rattle.jl_folder.specs.declared.moves.Move.TheVariants.{Remove, RemoveDir}
use Rattle.jl_folder.specs.declared.listing.Name.{Name}
use Rattle.jl_folder.specs.State.{State}
use Rattle.jl_folder.specs.Views.{FolderView}
use Rattle.jl_folder.specs.Calls.{Call, Maybe}
use Rattle.jl_streams.specs.Views.{SourceView}
use Rattle.jl_rely.specs.Claims.{Moves}
use Rattle.jl_rely.proofs.Moving.{moves_none, moves_then, moves_waits, moves_call}
use Rattle.jl_lines.specs.Lines.{lines_of}
use Rattle.jl_tracker.specs.declared.line.Kind.{Kind}
use Rattle.jl_tracker.specs.declared.line.Kind.TheVariants as kind
use Rattle.jl_tracker.specs.declared.removing.Tried.{Tried}
use Rattle.jl_tracker.specs.declared.removing.Tried.TheVariants as tried
use Rattle.jl_tracker.specs.declared.following.Tracked.{Tracked}
use Rattle.jl_tracker.specs.declared.following.Tracked.TheVariants as tracked
use Rattle.jl_tracker.specs.TrackerLines.{LineView}
use Rattle.jl_tracker.specs.Counting.{no_counts}
use Rattle.jl_tracker.specs.Effects.{Effect, reports_bad, reports_unknown, reports_leaked, removes, effects_from, counts_after, end_effects}
use Rattle.jl_tracker.specs.Stages.{Stage, FolderPoint, StagePoint, folder_point, stage_point, view_at}
use Rattle.jl_tracker.specs.Removing.{TriesFile, TriesFolder, TriedFile, TriedDir, TriedName, TriedNames, TriedFolder, RemovesListed, Removal, MayMove, CutFolder, CutRemoval}
use Rattle.jl_tracker.specs.Tries.{RemovalTry}
use Rattle.jl_tracker.specs.Plays.{EffectMoves, EffectCut, PlaysAt, CutFirst, StopsAt, Stops}
use Rattle.jl_tracker.specs.Tracking.{LinesSeen, SeenAll, Tracks}
use Rattle.jl_tracker.specs.Taking.{all_effects, TakesResource, TakesFor, TakesForSome, MovesAsked}

-- a move for one of the first effects
front_of : (xs ys : List Effect) (m : Move) → TakesForSome xs m → TakesForSome (xs ++ ys) m
front_of [] ys m h = absurd h
front_of (x ∷ xs) ys m (inl h) = inl h
front_of (x ∷ xs) ys m (inr h) = inr (front_of xs ys m h)

-- a move for one of the later effects
back_of : (xs ys : List Effect) (m : Move) → TakesForSome ys m → TakesForSome (xs ++ ys) m
back_of [] ys m h = h
back_of (x ∷ xs) ys m h = inr (back_of xs ys m h)

-- whatever else is seen of the folder
pub moves_seen : (Kinds : Move → Type 0) (old new : FolderView) → Moves Kinds (view_at (folder_point old)) (view_at (folder_point new)) → Moves Kinds old new
moves_seen Kinds old new h = record { went = record { token = h.went.token; start = h.went.start; trace = h.went.trace; lawful = h.went.lawful }; own = h.own }

module _ (Kinds : Move → Type 0) where
  -- moves of these kinds between two points
  abbrev Between : FolderPoint → FolderPoint → Type 0
  Between a b = Moves Kinds (view_at a) (view_at b)

  -- the own move is of these kinds, or there is none
  abbrev IsTurn : Option Move → Type 0
  IsTurn own = (own ≡ None) ⊎ ((m : Move) × (own ≡ Some m) × Kinds m)

  still : (a b : FolderPoint) → b ≡ a → Between a b
  still a b same = subst (λ x. Between a x) (sym same) (moves_none Kinds (view_at a))

  turn : (Answer : State → Option Move → Type 0) (a b : FolderPoint) → b.token ≡ a.token → Call (view_at a) (view_at b) Answer → ((s : State) (own : Option Move) → Answer s own → IsTurn own) → Between a b
  turn Answer a b same call owns = moves_call Kinds (view_at a) (view_at b) Answer owns same call

  maybe : (own : Option Move) (m : Move) → Kinds m → Maybe m own → IsTurn own
  maybe own m k (inl e) = inl e
  maybe own m k (inr e) = inr (m, e, k)

  file_turn : (p : PathView) (done : Bool) (a b : FolderPoint) → Kinds (Remove p) → (s : State) (own : Option Move) → TriesFile p done a b s own → IsTurn own
  file_turn p true a b k s own h = inr (Remove p, h.1, k)
  file_turn p false a b k s own (inl h) = inl h.1
  file_turn p false a b k s own (inr h) = maybe own (Remove p) k h.1

  folder_turn : (p : PathView) (done : Bool) (a b : FolderPoint) → Kinds (RemoveDir p) → (s : State) (own : Option Move) → TriesFolder p done a b s own → IsTurn own
  folder_turn p true a b k s own h = inr (RemoveDir p, h.2, k)
  folder_turn p false a b k s own (inl h) = inl h.1
  folder_turn p false a b k s own (inr (inl h)) = inl h.2
  folder_turn p false a b k s own (inr (inr h)) = maybe own (RemoveDir p) k h.1

  tried_file : (p : PathView) (done : Bool) (a b : FolderPoint) → Kinds (Remove p) → TriedFile p done a b → Between a b
  tried_file p done a b k h = turn (TriesFile p done a b) a b h.token h.call (file_turn p done a b k)

  tried_dir : (p : PathView) (done : Bool) (a b : FolderPoint) → Kinds (RemoveDir p) → TriedDir p done a b → Between a b
  tried_dir p done a b k h = turn (TriesFolder p done a b) a b h.token h.call (folder_turn p done a b k)

  tried_name : (folder : Bool) (p : PathView) (a b : FolderPoint) → Kinds (Remove p) → TriedName folder p a b → Between a b
  tried_name true p a b k h = still a b h
  tried_name false p a b k h = tried_file p h.0 a b k h.1

  tried_names : (p : PathView) (names : List Name) (a b : FolderPoint) → ((part : List ℕ) → Kinds (Remove (p ++ part ∷ []))) → TriedNames p names a b → Between a b
  tried_names p [] a b k h = still a b h
  tried_names p (name ∷ names) a b k h = moves_then Kinds (view_at a) (view_at h.0) (view_at b) (tried_name name.folder (p ++ name.part ∷ []) a h.0 (k name.part) h.1) (tried_names p names h.0 b k h.2)

  tried_folder : (p : PathView) (done : Bool) (a b : FolderPoint) → ((part : List ℕ) → Kinds (Remove (p ++ part ∷ []))) → Kinds (RemoveDir p) → TriedFolder p done a b → Between a b
  tried_folder p done a b k d h =
      moves_then Kinds (view_at a) (view_at h.listed) (view_at b) (moves_waits Kinds (view_at a) (view_at h.listed) h.list.token h.list.waits)
      (moves_then Kinds (view_at h.listed) (view_at h.emptied) (view_at b) (tried_names p h.names h.listed h.emptied k h.tries) (tried_dir p done h.emptied b d h.last))

  removes_folder : (p : PathView) (done : Bool) (a b : FolderPoint) → ((part : List ℕ) → Kinds (Remove (p ++ part ∷ []))) → Kinds (RemoveDir p) → RemovesListed p done a b → Between a b
  removes_folder p true a b k d h = tried_folder p true a b k d h
  removes_folder p false a b k d (inl h) = moves_waits Kinds (view_at a) (view_at b) h.token h.waits
  removes_folder p false a b k d (inr h) = tried_folder p false a b k d h

  removal : (r : Kind) (name : List ℕ) (done : Bool) (a b : FolderPoint) → ((m : Move) → TakesResource r name m → Kinds m) → Removal r name done a b → Between a b
  removal kind.File name done a b k h = tried_file (path_of name) done a b (k (Remove (path_of name)) refl) h
  removal kind.Folder name done a b k h =
      removes_folder (path_of name) done a b (λ part. k (Remove (path_of name ++ part ∷ [])) (inl (part, refl))) (k (RemoveDir (path_of name)) (inr refl)) h
  removal kind.Semlock name done a b k h = still a b h.1

  may_move : (m : Move) (a b : FolderPoint) → Kinds m → MayMove m a b → Between a b
  may_move m a b k h = turn (λ s own. Maybe m own) a b h.token h.call (λ s own e. maybe own m k e)

  cut_folder : (p : PathView) (a b : FolderPoint) → ((part : List ℕ) → Kinds (Remove (p ++ part ∷ []))) → Kinds (RemoveDir p) → CutFolder p a b → Between a b
  cut_folder p a b k d h =
      moves_then Kinds (view_at a) (view_at h.listed) (view_at b) (moves_waits Kinds (view_at a) (view_at h.listed) h.list.token h.list.waits)
      (moves_then Kinds (view_at h.listed) (view_at h.tried) (view_at b) (tried_names p h.names h.listed h.tried k h.tries) (last h.last))
    where
      last : (b ≡ h.tried) ⊎ (((part : List ℕ) × MayMove (Remove (p ++ part ∷ [])) h.tried b) ⊎ MayMove (RemoveDir p) h.tried b) → Between h.tried b
      last (inl same) = still h.tried b same
      last (inr (inl one)) = may_move (Remove (p ++ one.0 ∷ [])) h.tried b (k one.0) one.1
      last (inr (inr one)) = may_move (RemoveDir p) h.tried b d one

  cut_removal : (r : Kind) (name : List ℕ) (a b : FolderPoint) → ((m : Move) → TakesResource r name m → Kinds m) → CutRemoval r name a b → Between a b
  cut_removal kind.File name a b k (inl same) = still a b same
  cut_removal kind.File name a b k (inr h) = may_move (Remove (path_of name)) a b (k (Remove (path_of name)) refl) h
  cut_removal kind.Folder name a b k (inl w) = moves_waits Kinds (view_at a) (view_at b) w.token w.waits
  cut_removal kind.Folder name a b k (inr h) =
      cut_folder (path_of name) a b (λ part. k (Remove (path_of name ++ part ∷ [])) (inl (part, refl))) (k (RemoveDir (path_of name)) (inr refl)) h
  cut_removal kind.Semlock name a b k h = still a b h

  effect : (e : Effect) (done : Bool) (a b : FolderPoint) → ((m : Move) → TakesFor e m → Kinds m) → EffectMoves e done a b → Between a b
  effect (reports_bad number) done a b k h = still a b h
  effect (reports_unknown r name) done a b k h = still a b h
  effect (reports_leaked r name) done a b k h = still a b h
  effect (removes r name) done a b k h = removal r name done a b k h

  effect_cut : (e : Effect) (a b : FolderPoint) → ((m : Move) → TakesFor e m → Kinds m) → EffectCut e a b → Between a b
  effect_cut (reports_bad number) a b k h = still a b h
  effect_cut (reports_unknown r name) a b k h = still a b h
  effect_cut (reports_leaked r name) a b k h = still a b h
  effect_cut (removes r name) a b k (inl h) = cut_removal r name a b k h
  effect_cut (removes r name) a b k (inr h) = removal r name false a b k h

  plays : (s : Stage) (es : List Effect) (a b : StagePoint) → s.folder.told → ((m : Move) → TakesForSome es m → Kinds m) → PlaysAt s es a b → Between a.folder b.folder
  plays s [] a b told k h = still a.folder b.folder (ap (λ (x : StagePoint). x.folder) h)
  plays s (e ∷ es) a b told k h =
      moves_then Kinds (view_at a.folder) (view_at h.1.folder) (view_at b.folder) (effect e h.0 a.folder h.1.folder (λ m t. k m (inl t)) (h.2.moves told)) (plays s es h.1 b told (λ m t. k m (inr t)) h.3)

  cut : (s : Stage) (es : List Effect) (a b : StagePoint) → s.folder.told → ((m : Move) → TakesForSome es m → Kinds m) → CutFirst s es a b → Between a.folder b.folder
  cut s [] a b told k h = still a.folder b.folder (ap (λ (x : StagePoint). x.folder) h)
  cut s (e ∷ es) a b told k (inl h) = still a.folder b.folder (ap (λ (x : StagePoint). x.folder) h)
  cut s (e ∷ es) a b told k (inr h) = effect_cut e a.folder b.folder (λ m t. k m (inl t)) (h.moves told)

  stops : (s : Stage) (es : List Effect) (a b : StagePoint) → s.folder.told → ((m : Move) → TakesForSome es m → Kinds m) → StopsAt s es a b → Between a.folder b.folder
  stops s es a b told k h =
      moves_then Kinds (view_at a.folder) (view_at h.mid.folder) (view_at b.folder) (plays s h.first a h.mid told (λ m t. k m (subst (λ (xs : List Effect). TakesForSome xs m) (sym h.split) (front_of h.first h.rest m t))) h.plays)
      (cut s h.rest h.mid b told (λ m t. k m (subst (λ (xs : List Effect). TakesForSome xs m) (sym h.split) (back_of h.first h.rest m t))) h.cut)

-- a removal, or what want of memory leaves of it
pub removal_moves : (k : Kind) (name : List ℕ) (r : Result Tried AllocError) (old new : FolderView) → RemovalTry k name r (folder_point old) (folder_point new) → Moves (TakesResource k name) old new
removal_moves k name (Ok tried.Gone) old new h = moves_seen (TakesResource k name) old new (removal (TakesResource k name) k name true (folder_point old) (folder_point new) (λ m t. t) h)
removal_moves k name (Ok tried.Kept) old new h = moves_seen (TakesResource k name) old new (removal (TakesResource k name) k name false (folder_point old) (folder_point new) (λ m t. t) h)
removal_moves k name (Err e) old new h = moves_seen (TakesResource k name) old new (cut_removal (TakesResource k name) k name (folder_point old) (folder_point new) (λ m t. t) h)

-- lines with which the bytes end are the first of the lines of all
seen_first : (lines : List (List ℕ)) (left behind : List ℕ) → LinesSeen lines left behind → (rest : List (List ℕ)) × (lines_of left ≡ lines ++ rest)
seen_first lines left behind s = (lines_of behind, ap lines_of s.left_is ∙ s.ends behind ∙ ap (λ (ls : List (List ℕ)). ls ++ lines_of behind) (sym s.lines_is))

-- the same where they may be all lines
some_first : (lines : List (List ℕ)) (left behind : List ℕ) → LinesSeen lines left behind ⊎ SeenAll lines left behind → (rest : List (List ℕ)) × (lines_of left ≡ lines ++ rest)
some_first lines left behind (inl s) = seen_first lines left behind s
some_first lines left behind (inr all) = ([], sym all.0 ∙ sym (append-nil lines))

-- what comes about of the lines alone is of the kinds that all lines ask for
lines_ask : (readings : List (Option LineView)) (m : Move) → TakesForSome (effects_from 1 no_counts readings) m → TakesForSome (all_effects readings) m
lines_ask readings = front_of (effects_from 1 no_counts readings) (end_effects (counts_after no_counts readings))

-- what a run of the tracker takes away
pub tracks_moves : (source rest : SourceView) (a b : Stage) (end : Tracked) → a.folder.told → Tracks source rest a b end → MovesAsked source a.folder b.folder
tracks_moves source rest a b tracked.Ended told t = record {
  lines = t.lines;
  readings = t.readings;
  read = t.read;
  first = λ s. ([], sym (t.seen s).0 ∙ sym (append-nil t.lines));
  moves = let K = TakesForSome (all_effects t.readings) in moves_seen K a.folder b.folder (plays K a (all_effects t.readings) (stage_point a) (stage_point b) told (λ m h. h) t.plays);
}
tracks_moves source rest a b tracked.ReadFault told t = record {
  lines = t.lines;
  readings = t.readings;
  read = t.read;
  first = λ s. seen_first t.lines source.left (t.open_line ++ rest.left) (t.seen s);
  moves = let K = TakesForSome (all_effects t.readings) in moves_seen K a.folder b.folder (plays K a (effects_from 1 no_counts t.readings) (stage_point a) (stage_point b) told (lines_ask t.readings) t.plays);
}
tracks_moves source rest a b (tracked.TooMuch line) told t = record {
  lines = t.lines;
  readings = t.readings;
  read = t.read;
  first = λ s. seen_first t.lines source.left (t.open_line ++ (t.seen s).0 ∷ rest.left) (t.seen s).1;
  moves = let K = TakesForSome (all_effects t.readings) in moves_seen K a.folder b.folder (plays K a (effects_from 1 no_counts t.readings) (stage_point a) (stage_point b) told (lines_ask t.readings) t.plays);
}
tracks_moves source rest a b tracked.NoMemory told t = record {
  lines = t.lines;
  readings = t.readings;
  read = t.read;
  first = λ s. some_first t.lines source.left (t.open_line ++ rest.left) (t.seen s);
  moves = moves_seen (TakesForSome (all_effects t.readings)) a.folder b.folder (some t.stops);
}
  where
    some : Stops (effects_from 1 no_counts t.readings) a b ⊎ ((source.told → SeenAll t.lines source.left rest.left) × Stops (all_effects t.readings) a b) → Between (TakesForSome (all_effects t.readings)) (folder_point a.folder) (folder_point b.folder)
    some (inl h) = stops (TakesForSome (all_effects t.readings)) a (effects_from 1 no_counts t.readings) (stage_point a) (stage_point b) told (lines_ask t.readings) h
    some (inr h) = stops (TakesForSome (all_effects t.readings)) a (all_effects t.readings) (stage_point a) (stage_point b) told (λ m x. x) h.1
