-- Final names are put in place one after the other.
use Rattle.std.proofs.Common.{◌≡◌, ◌⊎◌, inl, inr, ℕ, List, [], ◌∷◌, ◌++◌, Option, None, Some, refl, sym, ap, subst, ◌∙◌, append_assoc, append-nil}
use Rattle.jl_text.specs.Paths.{PathView}
use Rattle.jl_folder.specs.declared.moves.Move.{Move}
use Rattle.jl_folder.specs.declared.moves.Move.TheVariants.{MakeDir, Create, Append, Rename, Remove, RemoveDir}
use Rattle.jl_folder.specs.declared.folder.Renamed.{Renamed}
use Rattle.jl_folder.specs.declared.folder.Renamed.TheVariants as renamed
use Rattle.jl_folder.specs.State.{State, Event, Trace}
use Rattle.jl_folder.specs.Views.{FolderView, moved}
use Rattle.jl_folder.specs.Calls.{Call, Maybe, RenamesFile, own_event}
use Rattle.jl_rely.specs.Steps.{OwnMoves}
use Rattle.jl_rely.specs.Claims.{GoesOn, Moves}
use Rattle.jl_rely.proofs.Since.{since_went, moved_then}
use Rattle.jl_rely.proofs.Moving.{moves_none, moves_as}
use Rattle.jl_rely.proofs.Composed.{went_call}
use Rattle.jl_rely.proofs.Traces.{OwnMoves-append, foreign_own}
use Rattle.jl_store.specs.Kinds.{IsAppend, IsOnName}
use Rattle.jl_store.specs.Doing.{IsMaking, IsEmptying, IsClearing}
use Rattle.jl_store.specs.Renames.{IsNoRename, PutsFirst, PutsInTurn}

-- ---- kinds without renames

pub append_no_rename : (m : Move) → IsAppend m → IsNoRename m
unfolding IsAppend IsNoRename
append_no_rename (MakeDir p) is = tt
append_no_rename (Create p n) is = tt
append_no_rename (Append n bytes) is = tt
append_no_rename (Rename p q) is = is
append_no_rename (Remove p) is = tt
append_no_rename (RemoveDir p) is = tt

pub on_name_no_rename : (name : PathView) (m : Move) → IsOnName name m → IsNoRename m
unfolding IsOnName IsNoRename
on_name_no_rename name (MakeDir p) is = tt
on_name_no_rename name (Create p n) is = tt
on_name_no_rename name (Append n bytes) is = tt
on_name_no_rename name (Rename p q) is = is
on_name_no_rename name (Remove p) is = tt
on_name_no_rename name (RemoveDir p) is = tt

pub making_no_rename : (path : PathView) (m : Move) → IsMaking path m → IsNoRename m
unfolding IsMaking IsNoRename
making_no_rename path (MakeDir p) is = tt
making_no_rename path (Create p n) is = tt
making_no_rename path (Append n bytes) is = tt
making_no_rename path (Rename p q) is = is
making_no_rename path (Remove p) is = tt
making_no_rename path (RemoveDir p) is = tt

emptying_no_rename : (entry : PathView) (m : Move) → IsEmptying entry m → IsNoRename m
unfolding IsEmptying IsNoRename
emptying_no_rename entry (MakeDir p) is = tt
emptying_no_rename entry (Create p n) is = tt
emptying_no_rename entry (Append n bytes) is = tt
emptying_no_rename entry (Rename p q) is = is
emptying_no_rename entry (Remove p) is = tt
emptying_no_rename entry (RemoveDir p) is = tt

pub clearing_no_rename : (function : PathView) (m : Move) → IsClearing function m → IsNoRename m
clearing_no_rename function m is = emptying_no_rename _ m is.2

-- a folder that is made is no rename
made_no_rename : (p : PathView) → IsNoRename (MakeDir p)
unfolding IsNoRename
made_no_rename p = tt

pub make_dir_no_rename : (path : PathView) (m : Move) → m ≡ MakeDir path → IsNoRename m
make_dir_no_rename path m is = subst IsNoRename (sym is) (made_no_rename path)

-- ---- one list of names after another

module _ (token : List ℕ) where
  -- no rename puts names of any list
  pub turn_none : (lasts : List PathView) (xs : Trace) → OwnMoves token IsNoRename xs → PutsInTurn lasts token xs
  unfolding PutsInTurn
  turn_none [] xs none = none
  turn_none (last ∷ lasts) xs none = inl (turn_none lasts xs none)

  -- steps without renames before
  turn_after : (lasts : List PathView) (xs ys : Trace) → OwnMoves token IsNoRename xs → PutsInTurn lasts token ys → PutsInTurn lasts token (xs ++ ys)
  unfolding PutsInTurn
  turn_after [] xs ys none puts = OwnMoves-append token IsNoRename xs ys none puts
  turn_after (last ∷ lasts) xs ys none (inl puts) = inl (turn_after lasts xs ys none puts)
  turn_after (last ∷ lasts) xs ys none (inr first) = inr (record {
    before = xs ++ first.before;
    temp = first.temp;
    later = first.later;
    parts = ap (λ (t : Trace). xs ++ t) first.parts ∙ sym (append_assoc xs first.before ((token, Rename first.temp last) ∷ first.later));
    none_before = OwnMoves-append token IsNoRename xs first.before none first.none_before;
    puts_later = first.puts_later;
  })

  -- the names of two lists
  pub turn_then : (lasts lasts' : List PathView) (xs ys : Trace) → PutsInTurn lasts token xs → PutsInTurn lasts' token ys → PutsInTurn (lasts ++ lasts') token (xs ++ ys)
  unfolding PutsInTurn
  turn_then [] lasts' xs ys none puts = turn_after lasts' xs ys none puts
  turn_then (last ∷ lasts) lasts' xs ys (inl one) puts = inl (turn_then lasts lasts' xs ys one puts)
  turn_then (last ∷ lasts) lasts' xs ys (inr first) puts = inr (record {
    before = first.before;
    temp = first.temp;
    later = first.later ++ ys;
    parts = ap (λ (t : Trace). t ++ ys) first.parts ∙ append_assoc first.before ((token, Rename first.temp last) ∷ first.later) ys;
    none_before = first.none_before;
    puts_later = turn_then lasts lasts' first.later ys first.puts_later puts;
  })

-- a view without own moves
pub turns_none : (lasts : List PathView) (v : FolderView) → PutsInTurn lasts v.token (moved v v)
turns_none lasts v = turn_none v.token lasts (moved v v) (moves_none IsNoRename v).own

-- moves of a kind without renames
pub turns_moves : (lasts : List PathView) (Kinds : Move → Type 0) → ((m : Move) → Kinds m → IsNoRename m) → (old new : FolderView) → Moves Kinds old new → PutsInTurn lasts old.token (moved old new)
turns_moves lasts Kinds f old new moves = turn_none old.token lasts (moved old new) (moves_as Kinds IsNoRename f old new moves).own

-- one part of a call after another
pub turns_then : (lasts lasts' : List PathView) (old mid new : FolderView) → GoesOn old mid → GoesOn mid new
    → PutsInTurn lasts old.token (moved old mid) → PutsInTurn lasts' mid.token (moved mid new) → PutsInTurn (lasts ++ lasts') old.token (moved old new)
turns_then lasts lasts' old mid new first second one two =
    subst (PutsInTurn (lasts ++ lasts') old.token) (sym (moved_then old mid new first second))
    (turn_then old.token lasts lasts' (moved old mid) (moved mid new) one (subst (λ (u : List ℕ). PutsInTurn lasts' u (moved mid new)) first.token two))

-- no moves are none of a rename
none_at_all : (token : List ℕ) → OwnMoves token IsNoRename []
unfolding OwnMoves
none_at_all token = tt

-- a part that ended before the other names
pub turns_more : (lasts lasts' : List PathView) (old new : FolderView) → PutsInTurn lasts old.token (moved old new) → PutsInTurn (lasts ++ lasts') old.token (moved old new)
turns_more lasts lasts' old new puts =
    subst (PutsInTurn (lasts ++ lasts') old.token) (append-nil (moved old new))
    (turn_then old.token lasts lasts' (moved old new) [] puts (turn_none old.token lasts' [] (none_at_all old.token)))

-- ---- the rename

module _ (last temp : PathView) (old new : FolderView) where
  abbrev Once : Trace → Type 0
  Once steps = PutsInTurn (last ∷ []) old.token steps

  still : (others : Trace) → OwnMoves old.token IsNoRename others → (own : Option Move) → own ≡ None → Once (others ++ own_event old.token own)
  still others foreign own none =
      subst (λ (o : Option Move). Once (others ++ own_event old.token o)) (sym none)
      (turn_none old.token (last ∷ []) (others ++ []) (OwnMoves-append old.token IsNoRename others [] foreign (none_at_all old.token)))

  puts : (others : Trace) → OwnMoves old.token IsNoRename others → (own : Option Move) → own ≡ Some (Rename temp last) → Once (others ++ own_event old.token own)
  unfolding PutsInTurn
  puts others foreign own just =
      subst (λ (o : Option Move). Once (others ++ own_event old.token o)) (sym just)
      (inr (record { before = others; temp = temp; later = []; parts = refl; none_before = foreign; puts_later = (none_at_all old.token) }))

  -- one call that renames
  pub rename_once : (r : Renamed) → Call old new (RenamesFile temp last r) → Once (moved old new)
  rename_once r call =
      subst Once (sym (since_went old new (call.others ++ own_event old.token call.own) (went_call old new (RenamesFile temp last r) call))) (by r _ call.answer)
    where
      foreign : OwnMoves old.token IsNoRename call.others
      foreign = foreign_own old.token IsNoRename call.others call.foreign

      maybe : Maybe (Rename temp last) call.own → Once (call.others ++ own_event old.token call.own)
      maybe (inl none) = still call.others foreign call.own none
      maybe (inr just) = puts call.others foreign call.own just

      by : (r' : Renamed) (s : State) → RenamesFile temp last r' s call.own → Once (call.others ++ own_event old.token call.own)
      by renamed.NoFile s gives = still call.others foreign call.own gives.1
      by renamed.NoParent s gives = still call.others foreign call.own gives.2
      by renamed.Blocked s gives = still call.others foreign call.own gives.3
      by renamed.Done s gives = puts call.others foreign call.own gives.3
      by renamed.Failed s gives = maybe gives
      by renamed.NoMemory s gives = maybe gives
