-- What a call promises, of the steps that it makes.
use Rattle.std.proofs.Common.{◌≡◌, ◌≢◌, ℕ, ◌+◌, ◌-◌, ◌^◌, ◌≤◌, min, List, [], ◌∷◌, ◌++◌, Bool, true, false, ◌||◌, not, Option, None, Some, length, take, drop, inl, inr, sym, ◌∙◌, ap, subst, refl, true≢false, append_assoc, arith}
use Rattle.std.specs.List.{filter}
use Rattle.std.specs.Str.{bytes_eq}
use Rattle.std.proofs.lemmas.List.{append-nil}
use Rattle.std.proofs.Math.Seq.{drop-append_seam}
use Rattle.jl_text.specs.Counts.{Faults, Rose}
use Rattle.jl_folder.specs.declared.moves.Move.{Move}
use Rattle.jl_folder.specs.declared.moves.Move.TheVariants.{Append}
use Rattle.jl_folder.specs.declared.folder.Appended.{Appended}
use Rattle.jl_folder.specs.declared.folder.Appended.TheVariants as appended
use Rattle.jl_text.specs.Paths.{PathView}
use Rattle.jl_folder.specs.declared.listing.Listed.{Listed}
use Rattle.jl_folder.specs.declared.listing.Listed.TheVariants as listed
use Rattle.jl_folder.specs.Listing.{ListsFolder, StandsRight}
use Rattle.jl_memory.specs.Children.{ListsHere}
use Rattle.jl_folder.specs.State.{State, Trace, is_folder, run, Allowed, IsTrace, IsForeign, own_moves, AtSome, AtEach}
use Rattle.jl_folder.specs.Calls.{Call, Waits, own_event}
use Rattle.jl_folder.specs.Views.{FolderAnswers, FolderTurns, state, moved}
use Rattle.jl_folder.specs.OpenTable.{opens_of}
use Rattle.jl_folder.proofs.Traces.{IsTrace-append, IsForeign-append}
use Rattle.jl_memory.specs.declared.memory.MemFolder.{MemFolder}
use Rattle.jl_memory.specs.Tables.{state_of}
use Rattle.jl_memory.specs.Disk.{LetsMove}
use Rattle.jl_memory.specs.Memory.{mem_state, IsTold, folder_view}
use Rattle.jl_memory.specs.Scripts.{is_failing, is_cut, fails, moves_before, made_by_others, PlaysScript, SameScript, Obeys, ObeysAppend, MakesOne, CutsAppend, torn_of}
use Rattle.jl_memory.specs.Steps.{Interlude, Begins, Acts, MakesMove, Stays}
use Rattle.jl_memory.proofs.LetLemmas.{state_on}
use Rattle.jl_memory.proofs.ToldLemmas.{told_counted}
use Rattle.jl_memory.proofs.OthersLemmas.{filter_foreign, idle_interlude, cut_kept, torn_kept}

-- a call that did not fail counts no fault
fine_faults : (a b : MemFolder) (r : Bool) → Begins r a b → r ≡ false → b.faults ≡ a.faults
fine_faults a b r g otherwise = g.faults.steady (λ so. true≢false (sym so ∙ otherwise))

not_both : (r : Bool) → r ≡ true → r ≡ false → ⊥
not_both r so otherwise = true≢false (sym so ∙ otherwise)

-- the frame of a call that failed as it began
pub answers_begun : (a b : MemFolder) (r : Bool) (Fails : Type 0) → Begins r a b → r ≡ true → Fails → FolderAnswers Fails (folder_view a) (folder_view b)
answers_begun a b r Fails g so fails = record {
  told = g.told;
  token = g.token;
  opens = ap opens_of g.opens;
  faults = record { later = g.faults.later; failed = λ _. g.faults.failed so; steady = λ otherwise. absurd (otherwise fails) };
}

pub turns_begun : (a b : MemFolder) (r : Bool) (Fails : Type 0) → Begins r a b → r ≡ true → Fails → FolderTurns Fails (folder_view a) (folder_view b)
turns_begun a b r Fails g so fails = let f = answers_begun a b r Fails g so fails in record { told = f.told; token = f.token; faults = f.faults }

-- the frame of a call that went on
pub turns_acted : (a b c : MemFolder) (r : Bool) (Fails : Type 0) (Answer : State → Option Move → Type 0) → Begins r a b → r ≡ false → Acts Fails Answer b c → FolderTurns Fails (folder_view a) (folder_view c)
turns_acted a b c r Fails Answer g otherwise act = record {
  told = λ t. act.told (g.told t);
  token = act.token ∙ g.token;
  faults = subst (λ n. Faults n c.faults Fails) (fine_faults a b r g otherwise) act.faults;
}

pub answers_acted : (a b c : MemFolder) (r : Bool) (Fails : Type 0) (Answer : State → Option Move → Type 0) → Begins r a b → r ≡ false → Acts Fails Answer b c → c.opens.items ≡ b.opens.items → FolderAnswers Fails (folder_view a) (folder_view c)
answers_acted a b c r Fails Answer g otherwise act opens =
    let f = turns_acted a b c r Fails Answer g otherwise act in
    record { told = f.told; token = f.token; opens = ap opens_of (opens ∙ g.opens); faults = f.faults }

-- after moves of others and at most one own, the call is as it should be
call_of : (a b c : MemFolder) (Answer : State → Option Move → Type 0) (own : Option Move) → Interlude a b
    → c.disk.start ≡ b.disk.start → c.disk.trace.items ≡ b.disk.trace.items ++ own_event a.token own → IsTrace (mem_state b) (own_event a.token own) → Answer (mem_state b) own
    → Call (folder_view a) (folder_view c) Answer
call_of a b c Answer own i start trace lawful answer =
    let state : mem_state b ≡ run (mem_state a) i.others = state_on a.disk.start b.disk.start a.disk.trace.items b.disk.trace.items i.others i.start i.trace in
    record {
      others = i.others;
      own = own;
      foreign = i.foreign;
      start = ap state_of (start ∙ i.start);
      trace = trace ∙ ap (λ tr. tr ++ own_event a.token own) i.trace ∙ append_assoc a.disk.trace.items i.others (own_event a.token own);
      lawful = IsTrace-append (mem_state a) i.others (own_event a.token own) i.lawful (subst (λ s. IsTrace s (own_event a.token own)) state lawful);
      answer = subst (λ s. Answer s own) state answer;
    }

pub call_begun : (a b : MemFolder) (r : Bool) (Answer : State → Option Move → Type 0) → Begins r a b → IsTold a → Answer (mem_state b) None → Call (folder_view a) (folder_view b) Answer
call_begun a b r Answer g t answer = call_of a b b Answer None (g.moved t) refl (sym (append-nil b.disk.trace.items)) tt answer

pub call_acted : (a b c : MemFolder) (r : Bool) (Fails : Type 0) (Answer : State → Option Move → Type 0) → Begins r a b → IsTold a → Acts Fails Answer b c → Call (folder_view a) (folder_view c) Answer
call_acted a b c r Fails Answer g t act =
    let once = act.moved (g.told t) in
    call_of a b c Answer once.own (g.moved t) act.start (subst (λ k. c.disk.trace.items ≡ b.disk.trace.items ++ own_event k once.own) g.token once.trace)
    (subst (λ k. IsTrace (mem_state b) (own_event k once.own)) g.token once.lawful) once.answer

-- the moves of others in a call are the interlude's
others_are : (a c : MemFolder) (others : Trace) (own : Option Move) → IsForeign a.token others → c.disk.trace.items ≡ a.disk.trace.items ++ (others ++ own_event a.token own) → made_by_others a c ≡ others
others_are a c others own foreign trace =
    ap (made_of a.token) (ap (drop (length a.disk.trace.items)) trace ∙ drop-append_seam a.disk.trace.items (others ++ own_event a.token own)) ∙ filter_foreign a.token others own foreign
  where
    made_of : List ℕ → Trace → Trace
    made_of me moves = filter (λ e. not (bytes_eq e.0 me)) moves

pub plays_begun : (a b : MemFolder) (r : Bool) → Begins r a b → PlaysScript a b
plays_begun a b r g = record {
  script = g.script;
  moved = λ t.
      let i = g.moved t in
      let others : made_by_others a b ≡ i.others = others_are a b i.others None i.foreign (i.trace ∙ ap (λ l. a.disk.trace.items ++ l) (sym (append-nil i.others))) in
      record { lost = i.lost; counts = i.counts; lets = subst (LetsMove i.lost (mem_state a) (moves_before a)) (sym others) i.lets };
}

pub plays_acted : (a b c : MemFolder) (r : Bool) (Fails : Type 0) (Answer : State → Option Move → Type 0) → Begins r a b → Acts Fails Answer b c → PlaysScript a c
plays_acted a b c r Fails Answer g act = record {
  script = record {
    calls = act.script.calls ∙ g.script.calls;
    failing = act.script.failing ∙ g.script.failing;
    stop = act.script.stop ∙ g.script.stop;
    named = act.script.named ∙ g.script.named;
    begun = act.script.begun ∙ g.script.begun;
    others = act.script.others ∙ g.script.others;
  };
  moved = λ t.
      let i = g.moved t in
      let once = act.moved (g.told t) in
      let trace : c.disk.trace.items ≡ a.disk.trace.items ++ (i.others ++ own_event a.token once.own) =
      once.trace ∙ (λ j. i.trace j ++ own_event (g.token j) once.own) ∙ append_assoc a.disk.trace.items i.others (own_event a.token once.own) in
      record { lost = i.lost; counts = act.unmade ∙ i.counts; lets = subst (LetsMove i.lost (mem_state a) (moves_before a)) (sym (others_are a c i.others once.own i.foreign trace)) i.lets };
}

pub obeys_begun : (a b : MemFolder) (r : Bool) (Fails : Type 0) → Begins r a b → IsTold a → r ≡ fails a → r ≡ true → Fails → Obeys Fails a b
obeys_begun a b r Fails g t is so failed = record { failing = λ _. (failed, idle_interlude a b (g.moved t)); runs = λ fine _. not_both (fails a) (sym is ∙ so) fine }

pub obeys_acted : (a b : MemFolder) (r : Bool) (Fails : Type 0) → r ≡ fails a → r ≡ false → (Fails → ⊥) → Obeys Fails a b
obeys_acted a b r Fails is otherwise fine = record { failing = λ failing. absurd (not_both (fails a) failing (sym is ∙ otherwise)); runs = λ _. fine }

-- a call is to fail where it is one of those that fail, and any other where the run is cut off
pub fails_failing : (m : MemFolder) → is_failing m ≡ true → fails m ≡ true
fails_failing m is = ap (λ b. b || is_cut m) is

pub fails_cut : (m : MemFolder) → is_failing m ≡ false → fails m ≡ is_cut m
fails_cut m is = ap (λ b. b || is_cut m) is

-- one own move is the one of a call in which others moved before
makes_one : (a b c : MemFolder) (change : Move) → Interlude a b → b.token ≡ a.token → MakesOne b c change → MakesOne a c change
makes_one a b c change i token m = record {
  others = i.others ++ m.others;
  foreign = IsForeign-append a.token i.others m.others i.foreign (subst (λ t. IsForeign t m.others) token m.foreign);
  trace = m.trace ∙ (λ j. i.trace j ++ (m.others ++ (token j, change) ∷ [])) ∙ append_assoc a.disk.trace.items i.others (m.others ++ (a.token, change) ∷ [])
      ∙ ap (λ l. a.disk.trace.items ++ l) (sym (append_assoc i.others m.others ((a.token, change) ∷ [])));
}

-- an append that is cut off, after moves of others
cuts_append : (a b c : MemFolder) (number : ℕ) (bytes : List ℕ) (answer : Appended) (k : Option ℕ) → Interlude a b → b.token ≡ a.token → b.opens.items ≡ a.opens.items → CutsAppend b c number bytes answer k → CutsAppend a c number bytes answer k
cuts_append a b c number bytes answer None i token opens (is, idle) = (is, subst (λ t. own_moves t c.disk.trace.items ≡ own_moves t b.disk.trace.items) token idle ∙ idle_interlude a b i)
cuts_append a b c number bytes answer (Some k) i token opens (inl (is, p)) = inl (
  is,
  record {
    file = p.file;
    was_open = ap (λ files. opens_of files number) (sym opens) ∙ p.was_open;
    made = makes_one a b c (Append p.file.node (take k bytes)) i token p.made;
  },
)
cuts_append a b c number bytes answer (Some k) i token opens (inr (is, idle)) = inr (is, subst (λ t. own_moves t c.disk.trace.items ≡ own_moves t b.disk.trace.items) token idle ∙ idle_interlude a b i)

module _ (a b : MemFolder) (r : Bool) (number : ℕ) (bytes : List ℕ) (g : Begins r a b) (t : IsTold a) (is : r ≡ is_failing a) where
  -- an append whose number is one of those that fail
  pub obeys_failing : r ≡ true → ObeysAppend number bytes appended.Failed a b
  obeys_failing so = record {
    failing = λ _. (refl, idle_interlude a b (g.moved t));
    cut = λ run _. absurd (not_both (is_failing a) (sym is ∙ so) run);
    runs = λ fine _. not_both (fails a) (fails_failing a (sym is ∙ so)) fine;
  }

  -- one at which the run is cut off
  pub obeys_torn : (c : MemFolder) (answer : Appended) → r ≡ false → is_cut b ≡ true → CutsAppend b c number bytes answer (torn_of b (length bytes)) → ObeysAppend number bytes answer a c
  obeys_torn c answer otherwise cut torn =
      let i = g.moved t in
      let cut_a : is_cut a ≡ true = sym (cut_kept a b t i g.token g.script.begun g.script.stop) ∙ cut in
      record {
        failing = λ failing. absurd (not_both (is_failing a) failing (sym is ∙ otherwise));
        cut = λ _ _. subst (CutsAppend a c number bytes answer) (torn_kept a b (length bytes) t i g.token g.script.begun g.script.stop)
            (cuts_append a b c number bytes answer (torn_of b (length bytes)) i g.token g.opens torn);
        runs = λ fine _. not_both (fails a) (fails_cut a (sym is ∙ otherwise) ∙ cut_a) fine;
      }

  -- and any other
  pub obeys_added : (c : MemFolder) (answer : Appended) → r ≡ false → is_cut b ≡ false → (answer ≢ appended.Failed) → ObeysAppend number bytes answer a c
  obeys_added c answer otherwise on fine =
      let on_a : is_cut a ≡ false = sym (cut_kept a b t (g.moved t) g.token g.script.begun g.script.stop) ∙ on in
      record {
        failing = λ failing. absurd (not_both (is_failing a) failing (sym is ∙ otherwise));
        cut = λ _ cut. absurd (not_both (is_cut a) cut on_a);
        runs = λ _. fine;
      }

same_script : (m : MemFolder) → SameScript m m
same_script m = record { calls = refl; failing = refl; stop = refl; named = refl; begun = refl; others = refl }

no_faults : (n : ℕ) (Fails : Type 0) → (Fails → ⊥) → Faults n n Fails
no_faults n Fails fine = record { later = omega arith; failed = λ f. absurd (fine f); steady = λ _. refl }

-- a step that changes nothing
pub acts_none : (m : MemFolder) (Fails : Type 0) (Answer : State → Option Move → Type 0) → (Fails → ⊥) → (IsTold m → Answer (mem_state m) None) → Acts Fails Answer m m
acts_none m Fails Answer fine answer = record {
  told = λ t. t;
  moved = λ t. record { own = None; trace = sym (append-nil m.disk.trace.items); lawful = tt; answer = answer t };
  start = refl;
  unmade = refl;
  token = refl;
  faults = no_faults m.faults Fails fine;
  script = same_script m;
}

-- one that makes no move for want of memory
pub acts_stays : (b c : MemFolder) (Fails : Type 0) (Answer : State → Option Move → Type 0) → Stays b c → (Fails → ⊥) → (IsTold b → Answer (mem_state b) None) → Acts Fails Answer b c
acts_stays b c Fails Answer stays fine answer = record {
  told = stays.told;
  moved = λ t. record { own = None; trace = stays.trace ∙ sym (append-nil b.disk.trace.items); lawful = tt; answer = answer t };
  start = stays.keeps.start;
  unmade = stays.keeps.unmade;
  token = stays.keeps.token;
  faults = subst (λ n. Faults b.faults n Fails) (sym stays.keeps.faults) (no_faults b.faults Fails fine);
  script = stays.keeps.script;
}

-- one that makes a move
pub acts_made : (b c : MemFolder) (change : Move) (Fails : Type 0) (Answer : State → Option Move → Type 0) → MakesMove change b c → (Fails → ⊥) → (IsTold b → Allowed (mem_state b) change × Answer (mem_state b) (Some change)) → Acts Fails Answer b c
acts_made b c change Fails Answer made fine answer = record {
  told = λ t. made.told t (answer t).0;
  moved = λ t. record { own = Some change; trace = made.trace; lawful = ((answer t).0, tt); answer = (answer t).1 };
  start = made.keeps.start;
  unmade = made.keeps.unmade;
  token = made.keeps.token;
  faults = subst (λ n. Faults b.faults n Fails) (sym made.keeps.faults) (no_faults b.faults Fails fine);
  script = made.keeps.script;
}

-- a count that rises by one
rises : (n k : ℕ) → n ≤ 2 ^ 64 - 1 → k ≡ min (n + 1) (2 ^ 64 - 1) → (n ≤ k) × Rose n k
rises n k most is = (omega (arith, most, is), omega (arith, is))

-- one that counts a fault at its end
pub acts_failed : (b c : MemFolder) (n : ℕ) (Fails Fails' : Type 0) (Answer : State → Option Move → Type 0) → Acts Fails' Answer b c → (Fails' → ⊥) → Fails → b.faults ≤ 2 ^ 64 - 1 → n ≡ min (c.faults + 1) (2 ^ 64 - 1) → Acts Fails Answer b (record c { faults = n })
acts_failed b c n Fails Fails' Answer act fine failed most is =
    let same : c.faults ≡ b.faults = act.faults.steady fine in
    let up = rises b.faults n most (is ∙ ap (λ k. min (k + 1) (2 ^ 64 - 1)) same) in
    record {
      told = λ t. told_counted c n (act.told t);
      moved = λ t. let once = act.moved t in record { own = once.own; trace = once.trace; lawful = once.lawful; answer = once.answer };
      start = act.start;
      unmade = act.unmade;
      token = act.token;
      faults = record { later = up.0; failed = λ _. up.1; steady = λ otherwise. absurd (otherwise failed) };
      script = record { calls = act.script.calls; failing = act.script.failing; stop = act.script.stop; named = act.script.named; begun = act.script.begun; others = act.script.others };
    }

-- the moves of others alone, as a listing sees them
pub waits_begun : (a b : MemFolder) (r : Bool) → Begins r a b → IsTold a → Waits (folder_view a) (folder_view b)
waits_begun a b r g t = let i = g.moved t in record { others = i.others; foreign = i.foreign; start = ap state_of i.start; trace = i.trace; lawful = i.lawful }

moved_begun : (a b : MemFolder) (i : Interlude a b) → moved (folder_view a) (folder_view b) ≡ i.others
moved_begun a b i = ap (drop (length a.disk.trace.items)) i.trace ∙ drop-append_seam a.disk.trace.items i.others

-- what holds after the others' moves holds at some state of the call
pub at_end : (a b : MemFolder) (P : State → Type 0) → Interlude a b → P (mem_state b) → AtSome (state (folder_view a)) (moved (folder_view a) (folder_view b)) P
at_end a b P i p = (i.others, [], moved_begun a b i ∙ sym (append-nil i.others), subst P (state_on a.disk.start b.disk.start a.disk.trace.items b.disk.trace.items i.others i.start i.trace) p)

-- what holds at each state of the call holds after the others' moves
pub each_end : (a b : MemFolder) (P : State → Type 0) → Interlude a b → AtEach (state (folder_view a)) (moved (folder_view a) (folder_view b)) P → P (mem_state b)
each_end a b P i each = subst P (sym (state_on a.disk.start b.disk.start a.disk.trace.items b.disk.trace.items i.others i.start i.trace)) (each i.others [] (moved_begun a b i ∙ sym (append-nil i.others)))

-- a step after which other numbers are open
pub acts_opened : (b c c' : MemFolder) (Fails : Type 0) (Answer : State → Option Move → Type 0) → Acts Fails Answer b c → (IsTold b → IsTold c') → c' ≡ record c { opens = c'.opens } → Acts Fails Answer b c'
acts_opened b c c' Fails Answer act told is = record {
  told = told;
  moved = λ t. let once = act.moved t in record { own = once.own; trace = ap (λ m. m.disk.trace.items) is ∙ once.trace; lawful = once.lawful; answer = once.answer };
  start = ap (λ m. m.disk.start) is ∙ act.start;
  unmade = ap (λ m. m.disk.unmade) is ∙ act.unmade;
  token = ap (λ m. m.token) is ∙ act.token;
  faults = subst (λ n. Faults b.faults n Fails) (sym (ap (λ m. m.faults) is)) act.faults;
  script = record {
    calls = ap (λ m. m.calls) is ∙ act.script.calls;
    failing = ap (λ m. m.failing) is ∙ act.script.failing;
    stop = ap (λ m. m.stop) is ∙ act.script.stop;
    named = ap (λ m. m.named) is ∙ act.script.named;
    begun = ap (λ m. m.begun) is ∙ act.script.begun;
    others = ap (λ m. m.others.items) is ∙ act.script.others;
  };
}

-- the frame of a listing
pub answers_waited : (a b : MemFolder) (r : Bool) (Fails : Type 0) → Begins r a b → r ≡ false → (Fails → ⊥) → FolderAnswers Fails (folder_view a) (folder_view b)
answers_waited a b r Fails g otherwise fine = answers_acted a b b r Fails (λ s own. Unit {0}) g otherwise (acts_none b Fails (λ s own. Unit {0}) fine (λ t. tt)) refl

-- what a listing answers of the state that others leave
pub lists_here : (a b : MemFolder) (p : PathView) (answer : Listed) → Interlude a b → ListsHere p answer (mem_state b) → ListsFolder p answer (state (folder_view a)) (moved (folder_view a) (folder_view b))
lists_here a b p listed.NoDir i here = at_end a b (λ s. is_folder s p ≡ false) i here
lists_here a b p (listed.Names names) i here = record {
  folder = at_end a b (λ s. is_folder s p ≡ true) i here.folder;
  each = λ name held. at_end a b (λ s. StandsRight s p name) i (here.each name held);
  every = λ name each. here.every name (each_end a b (λ s. StandsRight s p name) i each);
  once = here.once;
}
lists_here a b p listed.Failed i here = tt
lists_here a b p listed.NoMemory i here = tt
