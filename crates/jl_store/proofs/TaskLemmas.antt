-- A cached call as its parts: what each function of the program tells, put together.
use Rattle.std.proofs.Common.{◌≡◌, ◌≢◌, ◌⊎◌, inl, inr, ℕ, List, ◌++◌, refl, sym, subst}
use Rattle.jl_folder.specs.Views.{FolderView, state, moved}
use Rattle.jl_streams.specs.Views.{HostView}
use Rattle.jl_value.specs.Tree.{Tree}
use Rattle.jl_value.specs.Form.{tree_of}
use Rattle.jl_value.specs.Library.{Answer}
use Rattle.jl_value.specs.declared.value.Value.{Value}
use Rattle.jl_protocol.specs.Whole.{CodeAnswers}
use Rattle.jl_store.specs.Asked.{Asked}
use Rattle.jl_store.specs.Cached.{IsMissed}
use Rattle.jl_store.specs.Stretch.{Point, Between, point, between, reached}
use Rattle.jl_store.specs.Task.{HasChecked, HasLooked, HasTouched, HasKept, HasFound, HasComputed, HasFailed, HasAnswered, AnswerDid, PartsDid, IfAnswered, look_of}
use Rattle.jl_store.specs.declared.cached.Cached.{Cached}
use Rattle.jl_store.specs.declared.cached.Cached.TheVariants.{Hit, Computed, Error, NoMemory}
use Rattle.jl_store.specs.declared.checks.CodeCheck.{CodeCheck}
use Rattle.jl_store.specs.declared.found.Look.{Look}
use Rattle.jl_store.specs.declared.found.Look.TheVariants as look
use Rattle.jl_store.specs.declared.memory.Warning.{Warning}
use Rattle.jl_store.proofs.Retold.{retold, answers_retold, waits_retold, called_retold, checks_retold, looks_retold, tidy_retold, file_retold, entry_retold}

-- ---- told otherwise

-- the same point, told as another tells
abbrev pub told_as : Type 0 → Point → Point
told_as t p = point (retold t p.folder) p.host p.calls p.warnings

module _ (a : Asked) (t t' : Type 0) (p q : Point) where
  -- the check
  pub checked_retold : (c : CodeCheck) → (t → t') → HasChecked a c p q → HasChecked a c (told_as t p) (told_as t' q)
  checked_retold c f h = record {
    answers = answers_retold t t' p.folder q.folder _ f h.answers;
    remembers = h.remembers;
    call = called_retold t t' p.folder q.folder _ _ _ _ _ h.call;
    once = h.once;
    checks = checks_retold t t' p.folder q.folder c _ _ _ _ h.checks;
    skipped = h.skipped;
    alone = h.alone;
    warns = h.warns;
    calls = h.calls;
    clock = h.clock;
  }

  -- the look
  pub looked_retold : (r : Look) → (t → p.folder.told) → (t → t') → HasLooked a r p q → HasLooked a r (told_as t p) (told_as t' q)
  looked_retold r f on h = record {
    answers = answers_retold t t' p.folder q.folder _ on h.answers;
    waits = waits_retold t t' p.folder q.folder h.waits;
    looks = looks_retold t t' p.folder q.folder r a p.warnings q.warnings f h.looks;
    tidy = λ orderly. tidy_retold t t' p.folder q.folder r a p.warnings q.warnings (h.tidy orderly);
    sound = λ answer trust. h.sound answer (f trust.0, trust.1, trust.2);
    calls = h.calls;
    clock = h.clock;
  }

-- the answer
module _ (a : Asked) (t : Type 0) (p q : Point) (f : t → p.folder.told) where
  touched_retold : (moment : ℕ) → HasTouched a moment p.warnings q.warnings p.folder q.folder → HasTouched a moment p.warnings q.warnings (retold t p.folder) q.folder
  touched_retold moment h = record {
    kept = h.kept;
    answers = answers_retold t q.folder.told p.folder q.folder _ (λ x. h.answers.told (f x)) h.answers;
    remembers = h.remembers;
    call = file_retold t q.folder.told p.folder q.folder _ _ _ _ _ h.call;
    alone = h.alone;
    warns = h.warns;
  }

  kept_retold : (v : Tree) (duration moment : ℕ) → HasKept a v duration moment p.warnings q.warnings p.folder q.folder → HasKept a v duration moment p.warnings q.warnings (retold t p.folder) q.folder
  kept_retold v duration moment h = record {
    kept = h.kept;
    answers = answers_retold t q.folder.told p.folder q.folder _ (λ x. h.answers.told (f x)) h.answers;
    remembers = h.remembers;
    call = entry_retold t q.folder.told p.folder q.folder _ _ _ _ _ h.call;
    once = h.once;
    order = h.order;
    alone = h.alone;
    warns = h.warns;
  }

  found_retold : HasFound a p q → HasFound a (told_as t p) q
  found_retold h = record { moment = h.moment; touched = touched_retold h.moment h.touched; calls = h.calls; timed = h.timed; clock = h.clock }

  pub answered_retold : (answer : CodeAnswers) (r : Cached) → HasAnswered answer a r p q → HasAnswered answer a r (told_as t p) q
  answered_retold answer (Hit v) h = found_retold h
  answered_retold answer (Computed v) h = record {
    answered = h.answered;
    duration = h.duration;
    moment = h.moment;
    kept = kept_retold (tree_of v) h.duration h.moment h.kept;
    calls = h.calls;
    ended = h.ended;
    took = h.took;
    clock = h.clock;
  }
  answered_retold answer (Error e) h = record {
    answered = h.answered;
    answers = answers_retold t q.folder.told p.folder q.folder _ (λ x. h.answers.told (f x)) h.answers;
    history = h.history;
    warns = h.warns;
    calls = h.calls;
    clock = h.clock;
  }
  answered_retold answer NoMemory h = tt

-- ---- the answer

-- a value that was computed
pub computed_has : (answer : CodeAnswers) (a : Asked) (p q : Point) (r : Cached) (v : Value) → (r ≡ Computed v) ⊎ (r ≡ NoMemory)
    → (r ≡ Computed v → HasComputed answer a v p q) → HasAnswered answer a r p q
computed_has answer a p q r v (inl is) has = subst (λ (k : Cached). HasAnswered answer a k p q) (sym is) (has is)
computed_has answer a p q r v (inr is) has = subst (λ (k : Cached). HasAnswered answer a k p q) (sym is) tt

-- ---- the look and the answer

module _ (answer : CodeAnswers) (a : Asked) (old mid new : FolderView) (host host' : HostView) (calls calls' : ℕ) (ws ws1 ws2 : List Warning) (on : old.told → mid.told) where
  abbrev before : Point
  before = point old host calls ws

  abbrev middle : Point
  middle = point mid host calls ws1

  abbrev after : Point
  after = point new host' calls' ws2

  both : (r : Cached) → HasLooked a (look_of r) before middle → HasAnswered answer a r middle after → AnswerDid answer a r before after
  both r looked answered = record {
    looked = between middle;
    second = looked_retold a old.told old.told before middle (look_of r) (λ x. x) (λ x. x) looked;
    third = answered_retold a old.told middle after on answer r answered;
  }

  -- a value that was found
  pub hit_did : (r : Cached) (v : Value) → (r ≡ Hit v) ⊎ (r ≡ NoMemory) → HasLooked a (look.Hit v) before middle → (r ≡ Hit v → HasFound a middle after)
      → IfAnswered r (AnswerDid answer a r before after)
  hit_did r v (inl is) looked found = subst (λ (k : Cached). IfAnswered k (AnswerDid answer a k before after)) (sym is) (both (Hit v) looked (found is))
  hit_did r v (inr is) looked found = subst (λ (k : Cached). IfAnswered k (AnswerDid answer a k before after)) (sym is) tt

  -- a call of the function
  pub miss_did : (r : Cached) (x : Answer) (n n' : ℕ) → IsMissed r x n n' → HasLooked a look.Miss before middle → HasAnswered answer a r middle after
      → IfAnswered r (AnswerDid answer a r before after)
  miss_did (Hit v) x n n' missed looked answered = absurd missed
  miss_did (Computed v) x n n' missed looked answered = both (Computed v) looked answered
  miss_did (Error e) x n n' missed looked answered = both (Error e) looked answered
  miss_did NoMemory x n n' missed looked answered = tt

  -- ---- the whole

  whole : (r : Cached) (c : CodeCheck) → HasChecked a c before middle → AnswerDid answer a r middle after → PartsDid answer a r before after
  whole r c checked did = record {
    check = c;
    checked = between middle;
    looked = did.looked;
    first = checked_retold a old.told old.told before middle c (λ x. x) checked;
    second = looked_retold a old.told old.told middle (reached middle did.looked) (look_of r) on (λ x. x) did.second;
    third = answered_retold a old.told (reached middle did.looked) after on answer r did.third;
  }

  -- the check, and then the look and the answer
  pub whole_did : (r : Cached) (c : CodeCheck) → HasChecked a c before middle → IfAnswered r (AnswerDid answer a r middle after)
      → IfAnswered r (PartsDid answer a r before after)
  whole_did (Hit v) c checked did = whole (Hit v) c checked did
  whole_did (Computed v) c checked did = whole (Computed v) c checked did
  whole_did (Error e) c checked did = whole (Error e) c checked did
  whole_did NoMemory c checked did = tt
