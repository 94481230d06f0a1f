-- Claims on one call of the folder, and on calls made one after the other.
use Rattle.std.proofs.Common.{◌≡◌, ◌≢◌, ◌⊎◌, inl, inr, ℕ, List, [], ◌∷◌, ◌++◌, Option, None, Some, sym, ap, subst, refl, ◌∙◌}
use Rattle.jl_folder.specs.declared.moves.Move.{Move}
use Rattle.jl_folder.specs.State.{State, Trace, Allowed, IsTrace, IsForeign, after, run}
use Rattle.jl_folder.specs.Views.{FolderView, state, moved}
use Rattle.jl_folder.specs.Calls.{Call, Waits, Maybe, own_event}
use Rattle.jl_folder.proofs.Traces.{run-append}
use Rattle.jl_rely.specs.Steps.{StepFact, AllSteps, Throughout, OwnMoves}
use Rattle.jl_rely.specs.Claims.{Called, GoesOn}
use Rattle.jl_rely.proofs.Since.{Went, since_went, went_none, went_on, went_since, goes_on, state_after}
use Rattle.jl_rely.proofs.Traces.{IsTrace-left, IsTrace-right, AllSteps-left, AllSteps-right, IsCarried, carried, AllSteps-weaken, Throughout-append, Throughout-weaken, Throughout-kinds, others_owe, OwnMoves-append, OwnMoves-weaken, foreign_own}

-- a fact that the others' steps keep
abbrev pub IsStable : StepFact → List ℕ → (State → Type 0) → Type 0
IsStable Given token Inv =
    (other : List ℕ) (s : State) (m : Move) → other ≢ token → Allowed s m → Given other s m → Inv s → Inv (after s (other, m))

pub always_stable : (Given : StepFact) (token : List ℕ) → IsStable Given token (λ s. Unit {0})
always_stable Given token other s m apart may given inv = tt

pub carried_stable : (Given : StepFact) (token : List ℕ) (Inv : State → Type 0) → IsCarried Given Inv → IsStable Given token Inv
carried_stable Given token Inv keeps other s m apart may given inv = keeps other s m may given inv

pub others_keep : (Given : StepFact) (token : List ℕ) (Inv : State → Type 0) → IsStable Given token Inv → (s : State) (others : Trace) → IsForeign token others → IsTrace s others → AllSteps Given s others → Inv s → Inv (run s others)
unfolding AllSteps
others_keep Given token Inv stable s [] foreign may all inv = inv
others_keep Given token Inv stable s (e ∷ es) foreign may all inv =
    others_keep Given token Inv stable (after s e) es foreign.1 may.1 all.1 (stable e.0 s e.1 foreign.0 may.0 all.0 inv)

-- the moves by which a call went on
pub went_call : (old new : FolderView) (Answer : State → Option Move → Type 0) (call : Call old new Answer) → Went old new (call.others ++ own_event old.token call.own)
went_call old new Answer call = record { start = call.start; trace = call.trace; lawful = call.lawful }

pub went_waits : (old new : FolderView) (waits : Waits old new) → Went old new waits.others
went_waits old new waits = record { start = waits.start; trace = waits.trace; lawful = waits.lawful }

pub goes_call : (old new : FolderView) (Answer : State → Option Move → Type 0) → new.token ≡ old.token → Call old new Answer → GoesOn old new
goes_call old new Answer same call = goes_on old new (call.others ++ own_event old.token call.own) same (went_call old new Answer call)

pub goes_waits : (old new : FolderView) → new.token ≡ old.token → Waits old new → GoesOn old new
goes_waits old new same waits = goes_on old new waits.others same (went_waits old new waits)

-- the same call, told in other words
pub retold : (old new : FolderView) (Answer Answer' : State → Option Move → Type 0) → ((s : State) (own : Option Move) → Answer s own → Answer' s own) → Call old new Answer → Call old new Answer'
retold old new Answer Answer' f call = record {
  others = call.others;
  own = call.own;
  foreign = call.foreign;
  start = call.start;
  trace = call.trace;
  lawful = call.lawful;
  answer = f (run (state old) call.others) call.own call.answer;
}

module _ (Given Owed : StepFact) (token : List ℕ) (Kinds : Move → Type 0) where
  -- what the own step of a call is, owes and leaves
  abbrev pub IsOwnTurn : (Pre Post : State → Type 0) → State → Option Move → Type 0
  IsOwnTurn Pre Post s own =
      OwnMoves token Kinds (own_event token own) × (Pre s → IsTrace s (own_event token own) → Throughout Given Owed token s (own_event token own) × (AllSteps Given s (own_event token own) → Post (run s (own_event token own))))

  -- no own step
  pub own_still : (Pre Post : State → Type 0) (s : State) (own : Option Move) → own ≡ None → (Pre s → Post s) → IsOwnTurn Pre Post s own
  unfolding Throughout OwnMoves
  own_still Pre Post s own still keeps = subst (IsOwnTurn Pre Post s) (sym still) (tt, λ pre may. (tt, λ all. keeps pre))

  -- this own step
  pub own_step : (Pre Post : State → Type 0) (s : State) (own : Option Move) (m : Move) → own ≡ Some m → Kinds m → (Pre s → Allowed s m → Owed token s m × (Given token s m → Post (after s (token, m)))) → IsOwnTurn Pre Post s own
  unfolding Throughout OwnMoves AllSteps
  own_step Pre Post s own m just is owes =
      subst (IsOwnTurn Pre Post s) (sym just) ((λ mine. is, tt), λ pre may. let one = owes pre may.0 in ((λ mine. one.0, λ given. tt), λ all. one.1 all.0))

  -- this own step or none
  pub own_maybe : (Pre Post : State → Type 0) (s : State) (own : Option Move) (m : Move) → Maybe m own → Kinds m → (Pre s → Post s) → (Pre s → Allowed s m → Owed token s m × (Given token s m → Post (after s (token, m)))) → IsOwnTurn Pre Post s own
  own_maybe Pre Post s own m (inl still) is keeps owes = own_still Pre Post s own still keeps
  own_maybe Pre Post s own m (inr just) is keeps owes = own_step Pre Post s own m just is owes

module _ (Given Owed : StepFact) (Kinds : Move → Type 0) where
  -- by moves that are told
  pub called_by : (Pre Post : State → Type 0) (old new : FolderView) (moves : Trace) → new.token ≡ old.token → Went old new moves → OwnMoves old.token Kinds moves → (Pre (state old) → Throughout Given Owed old.token (state old) moves) → (Pre (state old) → AllSteps Given (state old) moves → Post (run (state old) moves)) → Called Given Owed Kinds Pre Post old new
  called_by Pre Post old new moves same went own owes post =
      let is : moves ≡ moved old new = sym (since_went old new moves went) in
      let goes = goes_on old new moves same went in
      record {
        went = goes;
        own = subst (OwnMoves old.token Kinds) is own;
        owes = λ pre. subst (Throughout Given Owed old.token (state old)) is (owes pre);
        post = λ pre all.
            subst Post (ap (run (state old)) is ∙ sym (state_after old new goes)) (post pre (subst (AllSteps Given (state old)) (sym is) all));
      }

  -- one call of the folder
  pub turn_called : (Pre Post : State → Type 0) (Answer : State → Option Move → Type 0) (old new : FolderView) → IsStable Given old.token Pre → new.token ≡ old.token → Call old new Answer → ((s : State) (own : Option Move) → Answer s own → IsOwnTurn Given Owed old.token Kinds Pre Post s own) → Called Given Owed Kinds Pre Post old new
  turn_called Pre Post Answer old new stable same call owns =
      let s = state old in
      let others = call.others in
      let own = own_event old.token call.own in
      let turn = owns (run s others) call.own call.answer in
      let may_others = IsTrace-left s others own call.lawful in
      let may_own = IsTrace-right s others own call.lawful in
      let reached : AllSteps Given s others → Pre s → Pre (run s others) = λ all pre. others_keep Given old.token Pre stable s others call.foreign may_others all pre in
      called_by Pre Post old new (others ++ own) same (went_call old new Answer call) (OwnMoves-append old.token Kinds others own (foreign_own old.token Kinds others call.foreign) turn.0)
      (λ pre. Throughout-append Given Owed old.token s others own (others_owe Given Owed old.token s others call.foreign) (λ all. (turn.1 (reached all pre) may_own).0))
      (λ pre all.
      subst Post (sym (run-append s others own))
      ((turn.1 (reached (AllSteps-left Given s others own all) pre) may_own).1 (AllSteps-right Given s others own all)))

  -- others moved, and nobody else
  pub waits_called : (Pre Post : State → Type 0) (old new : FolderView) → IsStable Given old.token Pre → ((s : State) → Pre s → Post s) → new.token ≡ old.token → Waits old new → Called Given Owed Kinds Pre Post old new
  waits_called Pre Post old new stable keeps same waits =
      called_by Pre Post old new waits.others same (went_waits old new waits) (foreign_own old.token Kinds waits.others waits.foreign)
      (λ pre. others_owe Given Owed old.token (state old) waits.others waits.foreign)
      (λ pre all. keeps (run (state old) waits.others) (others_keep Given old.token Pre stable (state old) waits.others waits.foreign waits.lawful all pre))

  -- no call
  pub not_called : (Pre Post : State → Type 0) (v : FolderView) → ((s : State) → Pre s → Post s) → Called Given Owed Kinds Pre Post v v
  unfolding Throughout OwnMoves
  not_called Pre Post v keeps = called_by Pre Post v v [] refl (went_none v) tt (λ pre. tt) (λ pre all. keeps (state v) pre)

  -- one after the other
  pub then_called : (Pre Mid Post : State → Type 0) (old mid new : FolderView) → Called Given Owed Kinds Pre Mid old mid → Called Given Owed Kinds Mid Post mid new → Called Given Owed Kinds Pre Post old new
  then_called Pre Mid Post old mid new a b =
      let xs = moved old mid in
      let ys = moved mid new in
      let is = state_after old mid a.went in
      called_by Pre Post old new (xs ++ ys) (b.went.token ∙ a.went.token) (went_on old mid new xs ys (went_since old mid a.went) (went_since mid new b.went))
      (OwnMoves-append old.token Kinds xs ys a.own (subst (λ (t : List ℕ). OwnMoves t Kinds ys) a.went.token b.own))
      (λ pre.
      Throughout-append Given Owed old.token (state old) xs ys (a.owes pre)
      (λ all. subst (λ (s : State). Throughout Given Owed old.token s ys) is (subst (λ (t : List ℕ). Throughout Given Owed t (state mid) ys) a.went.token (b.owes (a.post pre all)))))
      (λ pre all.
      subst Post (state_after mid new b.went ∙ ap (λ s. run s ys) is ∙ sym (run-append (state old) xs ys))
      (b.post (a.post pre (AllSteps-left Given (state old) xs ys all)) (subst (λ (s : State). AllSteps Given s ys) (sym is) (AllSteps-right Given (state old) xs ys all))))

  -- a fact that all steps keep holds at the end too
  pub called_keeps : (Inv Pre Post : State → Type 0) (old new : FolderView) → IsCarried Given Inv → Called Given Owed Kinds Pre Post old new → Called Given Owed Kinds (λ s. Inv s × Pre s) (λ s. Inv s × Post s) old new
  called_keeps Inv Pre Post old new keeps call = record {
    went = call.went;
    own = call.own;
    owes = λ pre. call.owes pre.1;
    post = λ pre all. (subst Inv (sym (state_after old new call.went)) (carried Inv Given keeps (state old) (moved old new) call.went.lawful all pre.0), call.post pre.1 all);
  }

  -- for some value, known only in the state where the call begins
  pub called_some : {A : Type 0} (Pre Post : A → State → Type 0) (old new : FolderView) → A → ((k : A) → Called Given Owed Kinds (Pre k) (Post k) old new) → Called Given Owed Kinds (λ s. (k : A) × Pre k s) (λ s. (k : A) × Post k s) old new
  called_some Pre Post old new a calls = record {
    went = (calls a).went;
    own = (calls a).own;
    owes = λ pre. (calls pre.0).owes pre.1;
    post = λ pre all. (pre.0, (calls pre.0).post pre.1 all);
  }

-- more moves, and a weaker claim under a stronger premise
pub called_as : (Given Given' Owed Owed' : StepFact) (Kinds Kinds' : Move → Type 0) (Pre Pre' Post Post' : State → Type 0) (old new : FolderView) → ((t : List ℕ) (s : State) (m : Move) → Given' t s m → Given t s m) → ((t : List ℕ) (s : State) (m : Move) → Owed t s m → Owed' t s m) → ((m : Move) → Kinds m → Kinds' m) → ((s : State) → Pre' s → Pre s) → ((s : State) → Post s → Post' s) → Called Given Owed Kinds Pre Post old new → Called Given' Owed' Kinds' Pre' Post' old new
called_as Given Given' Owed Owed' Kinds Kinds' Pre Pre' Post Post' old new g f e p q a = record {
  went = a.went;
  own = OwnMoves-weaken old.token Kinds Kinds' e (moved old new) a.own;
  owes = λ pre. Throughout-weaken Given Owed Given' Owed' g f old.token (state old) (moved old new) (a.owes (p (state old) pre));
  post = λ pre all. q (state new) (a.post (p (state old) pre) (AllSteps-weaken Given' Given g (state old) (moved old new) all));
}

-- the same claims of more moves, from a stronger beginning to a weaker end
pub called_for : (Given Owed : StepFact) (Kinds Kinds' : Move → Type 0) (Pre Pre' Post Post' : State → Type 0) (old new : FolderView) → ((m : Move) → Kinds m → Kinds' m) → ((s : State) → Pre' s → Pre s) → ((s : State) → Post s → Post' s) → Called Given Owed Kinds Pre Post old new → Called Given Owed Kinds' Pre' Post' old new
called_for Given Owed Kinds Kinds' Pre Pre' Post Post' old new e p q a =
    called_as Given Given Owed Owed Kinds Kinds' Pre Pre' Post Post' old new (λ t s m given. given) (λ t s m owed. owed) e p q a

-- what the kinds of the own moves give beside what is owed
pub called_kinds : (Given Owed Owed' : StepFact) (Kinds Kinds' : Move → Type 0) (Pre Post : State → Type 0) (old new : FolderView) → ((s : State) (m : Move) → Kinds m → Owed old.token s m → Owed' old.token s m) → ((m : Move) → Kinds m → Kinds' m) → Called Given Owed Kinds Pre Post old new → Called Given Owed' Kinds' Pre Post old new
called_kinds Given Owed Owed' Kinds Kinds' Pre Post old new f e a = record {
  went = a.went;
  own = OwnMoves-weaken old.token Kinds Kinds' e (moved old new) a.own;
  owes = λ pre. Throughout-kinds Given Owed Owed' old.token Kinds f (state old) (moved old new) a.own (a.owes pre);
  post = a.post;
}

-- two calls of different kinds, where a fact that all steps keep is all that the second needs
pub either_then : (Given Owed : StepFact) (Kinds Kinds' : Move → Type 0) (Inv Post Post' : State → Type 0) (old mid new : FolderView) → IsCarried Given Inv → Called Given Owed Kinds Inv Post old mid → Called Given Owed Kinds' Inv Post' mid new → Called Given Owed (λ m. Kinds m ⊎ Kinds' m) Inv Post' old new
either_then Given Owed Kinds Kinds' Inv Post Post' old mid new keeps a b =
    let K : Move → Type 0 = λ m. Kinds m ⊎ Kinds' m in
    then_called Given Owed K Inv Inv Post' old mid new
    (called_for Given Owed Kinds K (λ s. Inv s × Inv s) Inv (λ s. Inv s × Post s) Inv old mid (λ m is. inl is) (λ s inv. (inv, inv)) (λ s both. both.0) (called_keeps Given Owed Kinds Inv Inv Post old mid keeps a))
    (called_for Given Owed Kinds' K Inv Inv Post' Post' mid new (λ m is. inr is) (λ s inv. inv) (λ s post. post) b)
