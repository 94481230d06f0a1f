-- Laws of cached calls that follow one another.
use Rattle.std.proofs.Common.{◌≡◌, ℕ, List, [], ◌∷◌, ◌++◌, refl, sym, ap, subst}
use Rattle.jl_text.specs.Paths.{PathView}
use Rattle.jl_folder.specs.State.{History, IsTrace, since, now}
use Rattle.jl_folder.specs.Views.{FolderView, state, moved}
use Rattle.jl_streams.specs.Views.{HostView}
use Rattle.jl_entry.specs.declared.names.EntryFile.TheVariants.{Access}
use Rattle.jl_rely.specs.Claims.{GoesOn}
use Rattle.jl_rely.proofs.Since.{goes_none, goes_then}
use Rattle.jl_rely.proofs.Moving.{moves_waits}
use Rattle.jl_rely.proofs.Composed.{goes_waits}
use Rattle.jl_protocol.specs.Whole.{CodeAnswers}
use Rattle.jl_store.specs.Asked.{Asked}
use Rattle.jl_store.specs.Checking.{code_path}
use Rattle.jl_store.specs.Keeping.{lasts_of, last_of}
use Rattle.jl_store.specs.Next.{entry_asked}
use Rattle.jl_store.specs.Renames.{IsNoRename, PutsInTurn}
use Rattle.jl_store.specs.Stretch.{Point, Between, point, between, reached}
use Rattle.jl_store.specs.Task.{HasAnswered, PartsDid, IfAnswered, TaskDid, TasksDid, lasts_asked}
use Rattle.jl_store.specs.declared.cached.Cached.{Cached}
use Rattle.jl_store.specs.declared.cached.Cached.TheVariants.{Hit, Computed, Error, NoMemory}
use Rattle.jl_store.proofs.InTurn.{turns_none, turns_moves, turns_then}
use Rattle.jl_store.proofs.Retold.{retold, answers_retold, called_retold, file_retold, entry_retold}

-- ---- a list of one

-- the same host, told if this is so
abbrev host_retold : (told : Type 0) → HostView → HostView
host_retold t h = record { told = t; token = h.token; processors = h.processors; moments = h.moments }

module _ (answer : CodeAnswers) (a : Asked) where
  -- the answer, with another reason to tell afterwards
  answered_told : (r : Cached) (p q : Point) (t u : Type 0) → (p.folder.told → t) → HasAnswered answer a r p q
      → HasAnswered answer a r p (point (retold t q.folder) (host_retold u q.host) q.calls q.warnings)
  answered_told (Hit v) p q t u f h = record {
    moment = h.moment;
    touched = record {
      kept = h.touched.kept;
      answers = answers_retold p.folder.told t p.folder q.folder _ f h.touched.answers;
      remembers = h.touched.remembers;
      call = file_retold p.folder.told t p.folder q.folder _ _ _ _ _ h.touched.call;
      alone = h.touched.alone;
      warns = h.touched.warns;
    };
    calls = h.calls;
    timed = h.timed;
    clock = h.clock;
  }
  answered_told (Computed v) p q t u f h = record {
    answered = h.answered;
    duration = h.duration;
    moment = h.moment;
    kept = record {
      kept = h.kept.kept;
      answers = answers_retold p.folder.told t p.folder q.folder _ f h.kept.answers;
      remembers = h.kept.remembers;
      call = entry_retold p.folder.told t p.folder q.folder _ _ _ _ _ h.kept.call;
      once = h.kept.once;
      order = h.kept.order;
      alone = h.kept.alone;
      warns = h.kept.warns;
    };
    calls = h.calls;
    ended = h.ended;
    took = h.took;
    clock = h.clock;
  }
  answered_told (Error e) p q t u f h = record {
    answered = h.answered;
    answers = answers_retold p.folder.told t p.folder q.folder _ f h.answers;
    history = h.history;
    warns = h.warns;
    calls = h.calls;
    clock = h.clock;
  }
  answered_told NoMemory p q t u f h = tt

  parts_reached : (r : Cached) (p q : Point) → PartsDid answer a r p q → PartsDid answer a r p (reached p (between q))
  parts_reached r p q d = record {
    check = d.check;
    checked = d.checked;
    looked = d.looked;
    first = d.first;
    second = d.second;
    third = answered_told r (reached p d.looked) q p.folder.told p.host.told (λ x. x) d.third;
  }

  if_reached : (r : Cached) (p q : Point) → IfAnswered r (PartsDid answer a r p q) → IfAnswered r (PartsDid answer a r p (reached p (between q)))
  if_reached (Hit v) p q d = parts_reached (Hit v) p q d
  if_reached (Computed v) p q d = parts_reached (Computed v) p q d
  if_reached (Error e) p q d = parts_reached (Error e) p q d
  if_reached NoMemory p q d = tt

  -- a call ends at the point that it reached
  pub task_reached : (r : Cached) (p q : Point) → TaskDid answer a r p q → TaskDid answer a r p (reached p (between q))
  task_reached r p q d = record {
    call = called_retold p.folder.told p.folder.told p.folder q.folder _ _ _ _ _ d.call;
    folder = record { told = λ t. t; token = d.folder.token; opens = d.folder.opens; later = d.folder.later };
    host = record { told = λ t. t; token = d.host.token; processors = d.host.processors };
    counts = d.counts;
    parts = if_reached r p q d.parts;
  }

  -- one call is a list of calls
  pub tasks_one : (r : Cached) (p q : Point) → TaskDid answer a r p q → TasksDid answer (a ∷ []) (r ∷ []) p q
  unfolding TasksDid
  tasks_one r p q d = (between q, task_reached r p q d, refl)

-- ---- each file at most once

-- a stretch whose history stayed
goes_still : (old new : FolderView) → new.token ≡ old.token → new.history ≡ old.history → GoesOn old new
goes_still old new same stays = record {
  token = same;
  start = ap (λ (h : History). h.start) stays;
  trace = subst (λ (h : History). h.trace ≡ old.history.trace ++ since old.history h) (sym stays) (goes_none old).trace;
  lawful = subst (λ (h : History). IsTrace (now old.history) (since old.history h)) (sym stays) (goes_none old).lawful;
}

module _ (answer : CodeAnswers) (a : Asked) (p q : Point) where
  -- after the check and the look
  later : (r : Cached) (d : PartsDid answer a r p q) (lasts : List PathView) → GoesOn (reached p d.looked).folder q.folder
      → PutsInTurn lasts d.looked.token (moved (reached p d.looked).folder q.folder)
      → PutsInTurn (code_path a.root a.module_name a.function_name ∷ lasts) p.folder.token (moved p.folder q.folder)
  later r d lasts went once =
      let checked = (reached p d.checked).folder in
      let looked = (reached p d.looked).folder in
      let goes = goes_waits checked looked d.second.answers.token d.second.waits in
      turns_then (code_path a.root a.module_name a.function_name ∷ []) lasts p.folder checked q.folder d.first.call.went (goes_then checked looked q.folder goes went) d.first.once
      (turns_then [] lasts checked looked q.folder goes went
      (turns_moves [] IsNoRename (λ m none. none) checked looked (moves_waits IsNoRename checked looked d.second.answers.token d.second.waits)) once)

  -- a call puts each final name in place at most once, in order
  pub puts_in_turn : (r : Cached) → IfAnswered r (PartsDid answer a r p q) → IfAnswered r (PutsInTurn (lasts_asked r a) p.folder.token (moved p.folder q.folder))
  puts_in_turn (Hit v) d = later (Hit v) d (last_of (entry_asked a) Access ∷ []) d.third.touched.call.call.went d.third.touched.call.once
  puts_in_turn (Computed v) d = later (Computed v) d (lasts_of (entry_asked a)) d.third.kept.call.call.went d.third.kept.once
  puts_in_turn (Error e) d =
      let looked = (reached p d.looked).folder in
      later (Error e) d [] (goes_still looked q.folder d.third.answers.token d.third.history)
      (subst (λ (h : History). PutsInTurn [] d.looked.token (since looked.history h)) (sym d.third.history) (turns_none [] looked))
  puts_in_turn NoMemory d = tt
