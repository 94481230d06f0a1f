-- The moves from one view of a folder to a later one.
use Rattle.std.proofs.Common.{◌≡◌, [], ◌++◌, refl, sym, ap, subst, ◌∙◌, append_assoc}
use Rattle.std.proofs.lemmas.List.{append-nil}
use Rattle.jl_rely.specs.Claims.{GoesOn}
use Rattle.jl_folder.specs.State.{State, Trace, IsTrace, run}
use Rattle.jl_folder.specs.Views.{FolderView, state, moved}
use Rattle.jl_folder.proofs.Traces.{IsTrace-append}
use Rattle.jl_folder.proofs.ReadingLemmas.{since-is, now-on}

-- it went on by these moves, each of which was allowed
pub record Went (old new : FolderView) (moves : Trace) : Type 0 where
  pub start : new.history.start ≡ old.history.start
  pub trace : new.history.trace ≡ old.history.trace ++ moves
  pub lawful : IsTrace (state old) moves

-- then these are the moves since
pub since_went : (old new : FolderView) (moves : Trace) → Went old new moves → moved old new ≡ moves
since_went old new moves went = since-is old.history new.history moves went.trace

pub now_went : (old new : FolderView) (moves : Trace) → Went old new moves → state new ≡ run (state old) moves
now_went old new moves went = now-on old.history new.history moves went.start went.trace

pub went_none : (v : FolderView) → Went v v []
went_none v = record { start = refl; trace = sym (append-nil v.history.trace); lawful = tt }

pub went_on : (old mid new : FolderView) (xs ys : Trace) → Went old mid xs → Went mid new ys → Went old new (xs ++ ys)
went_on old mid new xs ys a b = record {
  start = b.start ∙ a.start;
  trace = b.trace ∙ ap (λ (t : Trace). t ++ ys) a.trace ∙ append_assoc old.history.trace xs ys;
  lawful = IsTrace-append (state old) xs ys a.lawful (subst (λ (s : State). IsTrace s ys) (now_went old mid xs a) b.lawful);
}

-- of two calls, one after the other
pub since_then : (old mid new : FolderView) (xs ys : Trace) → Went old mid xs → Went mid new ys → moved old new ≡ moved old mid ++ moved mid new
since_then old mid new xs ys a b =
    since_went old new (xs ++ ys) (went_on old mid new xs ys a b) ∙ (λ i. sym (since_went old mid xs a) i ++ sym (since_went mid new ys b) i)

-- ---- the same of the moves since, by the same run

pub went_since : (old new : FolderView) → GoesOn old new → Went old new (moved old new)
went_since old new goes = record { start = goes.start; trace = goes.trace; lawful = goes.lawful }

pub goes_on : (old new : FolderView) (moves : Trace) → new.token ≡ old.token → Went old new moves → GoesOn old new
goes_on old new moves same went =
    let is : moves ≡ moved old new = sym (since_went old new moves went) in
    record {
      token = same;
      start = went.start;
      trace = went.trace ∙ ap (λ (t : Trace). old.history.trace ++ t) is;
      lawful = subst (IsTrace (state old)) is went.lawful;
    }

pub goes_none : (v : FolderView) → GoesOn v v
goes_none v = goes_on v v [] refl (went_none v)

pub goes_then : (old mid new : FolderView) → GoesOn old mid → GoesOn mid new → GoesOn old new
goes_then old mid new a b =
    goes_on old new (moved old mid ++ moved mid new) (b.token ∙ a.token)
    (went_on old mid new (moved old mid) (moved mid new) (went_since old mid a) (went_since mid new b))

-- the moves of two calls are those of the first and then those of the second
pub moved_then : (old mid new : FolderView) → GoesOn old mid → GoesOn mid new → moved old new ≡ moved old mid ++ moved mid new
moved_then old mid new a b = since_then old mid new (moved old mid) (moved mid new) (went_since old mid a) (went_since mid new b)

-- the state after a call is that after its moves
pub state_after : (old new : FolderView) → GoesOn old new → state new ≡ run (state old) (moved old new)
state_after old new goes = now_went old new (moved old new) (went_since old new goes)
