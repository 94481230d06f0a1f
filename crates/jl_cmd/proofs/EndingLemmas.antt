-- What the endings of a run tell.
use Rattle.std.proofs.Common.{◌≡◌, ◌≤◌, ◌∙◌, ◌⊎◌, ◌++◌, ℕ, List, [], ◌∷◌, Bool, true, false}
use Rattle.std.proofs.Common.{true≢false, Option, Some, None, ap, subst, sym, refl, inl, inr, arith}
use Rattle.std.proofs.Common.{append-nil}
use Rattle.std.specs.Prelude.{⊤, T, nat_eq, not, if◌then◌else◌}
use Rattle.jl_text.specs.Paths.{PathView}
use Rattle.jl_text.specs.Counts.{Rose}
use Rattle.jl_protocol.proofs.Before.{some_not_none}
use Rattle.jl_streams.specs.Streams.{WritesAll, WritesPrefix}
use Rattle.jl_streams.specs.Views.{SinkView}
use Rattle.jl_streams.specs.declared.sink.WroteAll.{WroteAll}
use Rattle.jl_streams.specs.declared.sink.WroteAll.TheVariants.{Done as Wrote, Fault}
use Rattle.jl_cmd.specs.Commands.{Command, clear as clears, tracker}
use Rattle.jl_cmd.specs.declared.ended.Ended.{Ended}
use Rattle.jl_cmd.specs.declared.ended.Ended.TheVariants.{Done, Failed, Usage, Refused, ReadFault}
use Rattle.jl_cmd.specs.declared.ended.Ended.TheVariants.{WriteFault, NoMemory, NoModule}
use Rattle.jl_cmd.specs.declared.ended.Ended.TheVariants.{FolderFault}
use Rattle.jl_cmd.specs.declared.computed.Computed.{Computed}
use Rattle.jl_cmd.specs.declared.computed.Computed.TheVariants as computed
use Rattle.jl_cmd.specs.Course.{Course, IsClear}
use Rattle.jl_cmd.specs.Computing.{Computes, WritesWarned, Calls}
use Rattle.jl_cmd.specs.Endings.{LacksModule, LacksTold, WritesNothing, EndsComputed, RunEnds}
use Rattle.jl_cmd.specs.Endings.{status_of, last_text}
use Rattle.jl_cmd.specs.Met.{Met, IsMet, output_in}
use Rattle.jl_cmd.specs.Needs.{needs_of, AreBuffered}
use Rattle.jl_cmd.specs.Output.{Output}
use Rattle.jl_cmd.specs.Premise.{TellsFile, Stated, Premise}
use Rattle.jl_cmd.specs.Promises.{HasWholeOutput, IsSilent, IsStatus, AnswersWhole, AnswersFront}
use Rattle.jl_cmd.specs.Promises.{CountsCalls, IsValid, IsFaultless, IsComplete, text_of_status}
use Rattle.jl_cmd.specs.Puts.{PutsWhole, Puts, GivenPuts, IsUnprinted}
use Rattle.jl_cmd.specs.Saying.{SaidBy}

-- each ending's status is one of those that a run may have
pub is_status : (e : Ended) → IsStatus (status_of e)
is_status Done = inl (inl refl)
is_status (Failed t) = inl (inr (inl refl))
is_status (Refused t) = inl (inr (inr refl))
is_status Usage = inr (inl (inl refl))
is_status NoMemory = inr (inl (inr (inl refl)))
is_status NoModule = inr (inl (inr (inr (inl refl))))
is_status FolderFault = inr (inl (inr (inr (inr (inl refl)))))
is_status ReadFault = inr (inl (inr (inr (inr (inr refl)))))
is_status WriteFault = inr (inr refl)

-- a number is one of these
abbrev pub IsAmong : ℕ → (first : ℕ) → (others : List ℕ) → Type 0
IsAmong n a [] = n ≡ a
IsAmong n a (b ∷ others) = (n ≡ a) ⊎ IsAmong n b others

-- it differs from each
abbrev pub is_apart : ℕ → (first : ℕ) → (others : List ℕ) → Bool
is_apart n a [] = not (nat_eq n a)
is_apart n a (b ∷ others) = if nat_eq n a then false else is_apart n b others

-- two numbers that are told apart are not one
not_one : (n a : ℕ) → nat_eq n a ≡ false → n ≡ a → ⊥
not_one n a other same = grind arith

-- one number: it differs, and so it isn't that one
apart_one : (b : Bool) (n a : ℕ) → nat_eq n a ≡ b → not b ≡ true → n ≡ a → ⊥
apart_one true n a is apart same = absurd (true≢false (sym apart))
apart_one false n a is apart same = not_one n a is same

-- one more number: it is not that one either
none_more : (t : Bool) (n a b : ℕ) (others : List ℕ) → nat_eq n a ≡ t
    → (if t then false else is_apart n b others) ≡ true
    → (is_apart n b others ≡ true → IsAmong n b others → ⊥) → IsAmong n a (b ∷ others) → ⊥
none_more true n a b others is apart rest among = true≢false (sym apart)
none_more false n a b others is apart rest (inl same) = not_one n a is same
none_more false n a b others is apart rest (inr later) = rest apart later

-- a number that differs from each of some is none of them
pub none_of : (n a : ℕ) (others : List ℕ) → is_apart n a others ≡ true → IsAmong n a others → ⊥
none_of n a [] apart same = apart_one (nat_eq n a) n a refl apart same
none_of n a (b ∷ others) apart among =
    none_more (nat_eq n a) n a b others refl apart (none_of n b others) among

-- some statuses have one ending each
pub read_fault_is : (e : Ended) → status_of e ≡ 5 → e ≡ ReadFault
read_fault_is ReadFault n = refl
read_fault_is _ n = absurd (omega arith)

-- a write fault
pub write_fault_is : (e : Ended) → status_of e ≡ 6 → e ≡ WriteFault
write_fault_is WriteFault n = refl
write_fault_is _ n = absurd (omega arith)

-- no module
pub no_module_is : (e : Ended) → status_of e ≡ 9 → e ≡ NoModule
no_module_is NoModule n = refl
no_module_is _ n = absurd (omega arith)

-- a fault of the folder
pub folder_fault_is : (e : Ended) → status_of e ≡ 10 → e ≡ FolderFault
folder_fault_is FolderFault n = refl
folder_fault_is _ n = absurd (omega arith)

-- wrong usage
pub usage_is : (e : Ended) → status_of e ≡ 2 → e ≡ Usage
usage_is Usage n = refl
usage_is _ n = absurd (omega arith)

-- and a run that is done
pub done_is : (e : Ended) → status_of e ≡ 0 → e ≡ Done
done_is Done n = refl
done_is _ n = absurd (omega arith)

-- the two at which the library, the host and the input were left alone
pub module_or_folder : (e : Ended) (n : ℕ) → n ≡ status_of e → (n ≡ 9) ⊎ (n ≡ 10)
    → (e ≡ NoModule) ⊎ (e ≡ FolderFault)
module_or_folder e n at (inl is) = inl (no_module_is e (sym at ∙ is))
module_or_folder e n at (inr is) = inr (folder_fault_is e (sym at ∙ is))

-- ---- how a run over a command ended

-- every command that there is writes nothing before all is known
pub all_buffered : (given : Option Command) → AreBuffered given
all_buffered None = tt
all_buffered (Some tracker) = tt
all_buffered _ = tt

-- why it ended so, what was put out, and what was not
pub record Finished (given : Option Command) (w : Course) (met : Met) (e : Ended) : Type 0 where
  pub ends : RunEnds given w e
  pub puts : GivenPuts given w met e
  pub withholds : AreBuffered given → IsUnprinted e → WritesNothing w.out w.out'

-- the output of an ending at which nothing is printed
abbrev text_output : Ended → Output
text_output e = record { bytes = []; status = status_of e; text = last_text e }

module _ (s : Command) (w : Course) (met : Met) (buffered : T (needs_of s).buffered) where
  -- an output with nothing to print was put out whole
  text_alone : (t : List ℕ) (e : Ended) → IsMet s w met → output_in s w met ≡ text_output e
      → WritesNothing w.out w.out' → PutsWhole s w met e
  text_alone t e is_met is nothing = record {
    is_met = is_met;
    status = ap (λ (o : Output). o.status) is;
    text = ap (λ (o : Output). o.text) is;
    written =
        λ told.
        nothing told ∙ sym (append-nil _) ∙ ap (λ (o : Output). w.out.written ++ o.bytes) (sym is);
  }

  -- the output of what was met was computed and written
  pub finished_so : (trusted : Type 0) (e : Ended) → IsMet s w met
      → (Premise (needs_of s) w → trusted) → EndsComputed (output_in s w met) trusted w.out w.out' e
      → Finished (Some s) w met e
  finished_so trusted Done is_met rests h = record {
    ends = tt;
    puts = λ p. let k = h (rests p) in
        record { is_met = is_met; status = k.0; text = k.1; written = k.2 };
    withholds = λ b none. absurd none;
  }
  finished_so trusted (Failed t) is_met rests h = record {
    ends = tt;
    puts = λ p. text_alone t (Failed t) is_met h.0 h.1;
    withholds = λ b un. h.1;
  }
  finished_so trusted (Refused t) is_met rests h = record {
    ends = tt;
    puts = λ p. text_alone t (Refused t) is_met h.0 h.1;
    withholds = λ b un. h.1;
  }
  finished_so trusted WriteFault is_met rests h = record {
    ends = (tt, h.0);
    puts = λ p. let k = h.1 (rests p) in (record { is_met = is_met; front = k.1 }, λ b. k.0);
    withholds = λ b none. absurd none;
  }
  finished_so trusted NoMemory is_met rests h = record {
    ends = tt;
    puts = λ p none. absurd (none buffered);
    withholds = λ b un. h;
  }
  finished_so trusted _ is_met rests h = absurd h

-- an ending at which nothing need have been met
abbrev pub IsShort : Ended → Type 0
IsShort Done = ⊥
IsShort (Failed t) = ⊥
IsShort (Refused t) = ⊥
IsShort WriteFault = ⊥
IsShort _ = ⊤

-- and then nothing was written
pub finished_short : (s : Command) (w : Course) (met : Met) (e : Ended) → T (needs_of s).buffered
    → IsShort e → RunEnds (Some s) w e → WritesNothing w.out w.out' → Finished (Some s) w met e
finished_short s w met Done buffered short ends nothing = absurd short
finished_short s w met (Failed t) buffered short ends nothing = absurd short
finished_short s w met (Refused t) buffered short ends nothing = absurd short
finished_short s w met WriteFault buffered short ends nothing = absurd short
finished_short s w met _ buffered short ends nothing = record {
  ends = ends;
  puts = λ p none. absurd (none buffered);
  withholds = λ b un. nothing;
}

-- ---- its output, by the status

-- what was said, and then the last text
abbrev pub SaysLast : Option Command → Course → Met → (err err' : SinkView) → Ended → Type 0
SaysLast given w met err err' e = IsClear err err'
    → (said : List ℕ) × SaidBy given w met said
    × (err'.written ≡ err.written ++ (said ++ last_text e))

module _ (s : Command) (w : Course) (met : Met) (err err' : SinkView) where
  -- what was put out whole, and the texts that were written, are the whole answer
  answers_of : (e : Ended) → PutsWhole s w met e → SaysLast (Some s) w met err err' e
      → AnswersWhole s w met err err' (status_of e)
  answers_of e k says = record {
    is_met = k.is_met;
    status = k.status;
    written = k.written;
    text = λ clear. let x = says clear in
        (x.0, x.1, x.2 ∙ ap (λ (t : List ℕ). err.written ++ (x.0 ++ t)) (sym k.text));
  }

  -- an error of the function and a refusal rest on what was seen and heard alone
  stated_whole : (e : Ended) → Puts s w met e → Stated (needs_of s) w
      → SaysLast (Some s) w met err err' e → (status_of e ≡ 1) ⊎ (status_of e ≡ 3)
      → AnswersWhole s w met err err' (status_of e)
  stated_whole (Failed t) puts stated says which = answers_of (Failed t) (puts stated) says
  stated_whole (Refused t) puts stated says which = answers_of (Refused t) (puts stated) says
  stated_whole other puts stated says which =
      absurd (none_of (status_of other) 1 (3 ∷ []) refl which)

  -- the same at a number that is the status
  pub stated_at : (e : Ended) (n : ℕ) → n ≡ status_of e → Puts s w met e → Stated (needs_of s) w
      → SaysLast (Some s) w met err err' e → (n ≡ 1) ⊎ (n ≡ 3) → AnswersWhole s w met err err' n
  stated_at e n at puts stated says which =
      subst (λ (k : ℕ). AnswersWhole s w met err err' k) (sym at)
      (stated_whole e puts stated says (subst (λ (k : ℕ). (k ≡ 1) ⊎ (k ≡ 3)) at which))

  -- a value rests on more
  pub answers_at : (e : Ended) (n : ℕ) → n ≡ status_of e → Puts s w met e → Premise (needs_of s) w
      → SaysLast (Some s) w met err err' e → HasWholeOutput n → AnswersWhole s w met err err' n
  answers_at e n at puts p says (inl zero) =
      let is : e ≡ Done = done_is e (sym at ∙ zero) in
      subst (λ (k : ℕ). AnswersWhole s w met err err' k) (sym zero)
      (answers_of Done ((subst (λ (k : Ended). Puts s w met k) is puts) p)
      (subst (λ (k : Ended). SaysLast (Some s) w met err err' k) is says))
  answers_at e n at puts p says (inr which) =
      stated_at e n at puts (record { told = p.told; input = p.input }) says which

  -- at a write fault a front of it stands
  pub front_at : (e : Ended) (n : ℕ) → n ≡ status_of e → Puts s w met e → Premise (needs_of s) w
      → n ≡ 6 → AnswersFront s w met
  front_at e n at puts p six =
      let k = (subst (λ (k : Ended). Puts s w met k) (write_fault_is e (sym at ∙ six)) puts) p in
      record { is_met = k.0.is_met; status = k.1; front = k.0.front }

-- ---- nothing was written

-- at a silent status nothing need be printed
silent_unprinted : (e : Ended) → IsSilent (status_of e) → IsUnprinted e
silent_unprinted Done n = absurd (none_of 0 2 (8 ∷ 9 ∷ 10 ∷ 5 ∷ []) refl n)
silent_unprinted WriteFault n = absurd (none_of 6 2 (8 ∷ 9 ∷ 10 ∷ 5 ∷ []) refl n)
silent_unprinted _ n = tt

-- nor at those of an error and of a refusal
stated_unprinted : (e : Ended) → (status_of e ≡ 1) ⊎ (status_of e ≡ 3) → IsUnprinted e
stated_unprinted Done n = absurd (none_of 0 1 (3 ∷ []) refl n)
stated_unprinted WriteFault n = absurd (none_of 6 1 (3 ∷ []) refl n)
stated_unprinted _ n = tt

-- the same at a number that is the status
pub silent_at : (e : Ended) (n : ℕ) → n ≡ status_of e → IsSilent n → IsUnprinted e
silent_at e n at h = silent_unprinted e (subst (λ (k : ℕ). IsSilent k) at h)

-- the same of an error and of a refusal
pub nothing_stated : (e : Ended) (n : ℕ) → n ≡ status_of e → (n ≡ 1) ⊎ (n ≡ 3) → IsUnprinted e
nothing_stated e n at which = stated_unprinted e (subst (λ (k : ℕ). (k ≡ 1) ⊎ (k ≡ 3)) at which)

-- ---- without a command, and where nothing fails

-- with no command there is wrong usage and want of memory alone
usage_there_none : (w : Course) (e : Ended) → RunEnds None w e
    → (status_of e ≡ 2) ⊎ (status_of e ≡ 8)
usage_there_none w Usage ends = inl refl
usage_there_none w NoMemory ends = inr refl
usage_there_none w ReadFault ends = absurd ends.0
usage_there_none w WriteFault ends = absurd ends.0
usage_there_none w FolderFault ends = absurd ends.0
usage_there_none w _ ends = absurd ends

-- so wherever no command is given
pub usage_there : (given : Option Command) (w : Course) (e : Ended) → RunEnds given w e
    → given ≡ None → (status_of e ≡ 2) ⊎ (status_of e ≡ 8)
usage_there given w e ends none =
    usage_there_none w e (subst (λ (g : Option Command). RunEnds g w e) none ends)

-- a file that is lacked, where the folder tells
module_lacked : (file : Option PathView) (w : Course) → TellsFile file w
    → LacksTold file w.folder w.folder' → LacksModule file w.folder w.folder'
module_lacked None w seen h = h
module_lacked (Some file) w seen h = h seen

-- where nothing is refused and nothing failed, the run is complete
pub completes : (s : Command) (w : Course) (met : Met) (e : Ended) (n : ℕ) → n ≡ status_of e
    → RunEnds (Some s) w e → Puts s w met e → Stated (needs_of s) w → IsValid s w → IsFaultless w
    → IsComplete n
completes s w met e n at ends puts stated valid clear = subst IsComplete (sym at) (go e ends puts)
  where
    go : (e : Ended) → RunEnds (Some s) w e → Puts s w met e → IsComplete (status_of e)
    go Done ends puts = inl refl
    go (Failed t) ends puts = inr (inl refl)
    go NoMemory ends puts = inr (inr refl)
    go (Refused t) ends puts = let k = puts stated in absurd (valid.taken met k.is_met k.status)
    go Usage ends puts = absurd (some_not_none (Some s) s refl ends)
    go ReadFault ends puts = absurd (clear.input ends.1)
    go WriteFault ends puts = absurd (clear.out ends.1)
    go NoModule ends puts =
        absurd (valid.there (module_lacked (needs_of s).file w stated.told ends))
    go FolderFault ends puts = absurd (clear.folder ends.1)

-- how often the library was called
calls_counted : (w : Course) (e : Ended) → Calls e w.calls w.calls' → CountsCalls w (status_of e)
calls_counted w Done h = record {
  failed = λ n. absurd (omega arith);
  uncalled = λ n. absurd (none_of 0 2 (3 ∷ 9 ∷ 10 ∷ 5 ∷ []) refl n);
  most = h;
}
calls_counted w (Failed t) h = record {
  failed = λ n. h;
  uncalled = λ n. absurd (none_of 1 2 (3 ∷ 9 ∷ 10 ∷ 5 ∷ []) refl n);
  most = inr h;
}
calls_counted w WriteFault h = record {
  failed = λ n. absurd (omega arith);
  uncalled = λ n. absurd (none_of 6 2 (3 ∷ 9 ∷ 10 ∷ 5 ∷ []) refl n);
  most = h;
}
calls_counted w NoMemory h = record {
  failed = λ n. absurd (omega arith);
  uncalled = λ n. absurd (none_of 8 2 (3 ∷ 9 ∷ 10 ∷ 5 ∷ []) refl n);
  most = h;
}
calls_counted w _ h = record { failed = λ n. absurd (omega arith); uncalled = λ n. h; most = inl h }

-- the same at a number that is the status
pub counts_at : (w : Course) (e : Ended) (n : ℕ) → n ≡ status_of e → Calls e w.calls w.calls'
    → CountsCalls w n
counts_at w e n at h = subst (λ (k : ℕ). CountsCalls w k) (sym at) (calls_counted w e h)

-- ---- texts

-- the one text of a status
pub text_there : (e : Ended) → IsSilent (status_of e) ⊎ (status_of e ≡ 6)
    → last_text e ≡ text_of_status (status_of e)
text_there Done (inl h) = absurd (none_of 0 2 (8 ∷ 9 ∷ 10 ∷ 5 ∷ []) refl h)
text_there Done (inr e) = absurd (none_of 0 6 [] refl e)
text_there (Failed t) (inl h) = absurd (none_of 1 2 (8 ∷ 9 ∷ 10 ∷ 5 ∷ []) refl h)
text_there (Failed t) (inr e) = absurd (none_of 1 6 [] refl e)
text_there (Refused t) (inl h) = absurd (none_of 3 2 (8 ∷ 9 ∷ 10 ∷ 5 ∷ []) refl h)
text_there (Refused t) (inr e) = absurd (none_of 3 6 [] refl e)
text_there _ n = refl

-- the same at a number that is the status
pub text_at : (e : Ended) (n : ℕ) → n ≡ status_of e → IsSilent n ⊎ (n ≡ 6)
    → last_text e ≡ text_of_status n
text_at e n at h =
    text_there e (subst (λ (k : ℕ). IsSilent k ⊎ (k ≡ 6)) at h) ∙ ap text_of_status (sym at)

-- a writing with no fault wrote all
pub wrote_clear : (r : WroteAll) (bytes : List ℕ) (a b : SinkView)
    → (a.told → WritesAll r bytes a.written b.written) → (r ≡ Fault → Rose a.faults b.faults)
    → IsClear a b → b.written ≡ a.written ++ bytes
wrote_clear Wrote bytes a b writes fails clear = writes clear.0
wrote_clear Fault bytes a b writes fails clear = absurd (clear.1 (fails refl))

-- what was computed and written is how the command finishes
pub finishes_so : (o : Output) (trusted : Type 0) (out out' : SinkView) (c : Computed) (e : Ended)
    → Computes o trusted c → WritesWarned c e out out' → EndsComputed o trusted out out' e
finishes_so o trusted out out' c e h (inr lost) =
    subst (λ (e' : Ended). EndsComputed o trusted out out' e') (sym lost.0) lost.1
finishes_so o trusted out out' (computed.Printed t) Done h (inl w) =
    λ cache. let is = h cache in (
      ap (λ p. p.status) is,
      ap (λ p. p.text) is,
      λ told. w told ∙ ap (λ b. out.written ++ b) (sym (ap (λ p. p.bytes) is)),
    )
finishes_so o trusted out out' (computed.Printed t) WriteFault h (inl w) = (
  w.0,
  λ cache. let is = h cache in (
    ap (λ p. p.status) is,
    λ told.
        subst (λ (b : List ℕ). WritesPrefix b out.written out'.written) (sym (ap (λ p. p.bytes) is))
        (w.1 told),
  ),
)
finishes_so o trusted out out' (computed.Failed t) e h (inl w) =
    subst (λ (e' : Ended). EndsComputed o trusted out out' e') (sym w.0) (h, w.1)
finishes_so o trusted out out' (computed.Refused t) e h (inl w) =
    subst (λ (e' : Ended). EndsComputed o trusted out out' e') (sym w.0) (h, w.1)
finishes_so o trusted out out' computed.NoMemory e h (inl w) =
    subst (λ (e' : Ended). EndsComputed o trusted out out' e') (sym w.0) w.1
finishes_so o trusted out out' (computed.Printed t) _ h (inl w) = absurd w

-- a claim that rests on less
pub computes_under : (o : Output) (A B : Type 0) (c : Computed) → (B → A) → Computes o A c
    → Computes o B c
computes_under o A B (computed.Printed t) f h = λ b. h (f b)
computes_under o A B (computed.Failed t) f h = h
computes_under o A B (computed.Refused t) f h = h
computes_under o A B computed.NoMemory f h = tt

-- a count that rose in a part of a call rose in the call
pub rose_front : (a b c : ℕ) → b ≤ c → Rose a b → Rose a c
rose_front a b c later rose = omega (arith, later, rose)

-- and so does one that rose in the last part
pub rose_back : (a b c : ℕ) → a ≤ b → Rose b c → Rose a c
rose_back a b c later rose = omega (arith, later, rose)
