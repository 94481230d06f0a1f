-- What a run tells of its own words.
use Rattle.std.proofs.Common.{◌≡◌, ◌∙◌, ◌⊎◌, ◌++◌, ℕ, List, [], Option, Some, None, Result, Ok, Err, inl, inr, refl, sym, ap, subst, arith}
use Rattle.std.specs.Prelude.{IfOk}
use Rattle.jl_text.specs.Counts.{Rose}
use Rattle.jl_streams.specs.Streams.{WritesAll}
use Rattle.jl_streams.specs.Views.{SinkView, SinkAnswers, SinkKeeps}
use Rattle.jl_streams.specs.declared.sink.WroteAll.{WroteAll}
use Rattle.jl_streams.specs.declared.sink.WroteAll.TheVariants as wrote_all
use Rattle.jl_cmd.specs.Commands.{Command, given_of, hash}
use Rattle.jl_cmd.specs.Course.{Course, IsClear}
use Rattle.jl_cmd.specs.Ran.{Runs}
use Rattle.jl_cmd.specs.Saying.{SaidBy}
use Rattle.jl_cmd.specs.Output.{Output, hash_output}
use Rattle.jl_cmd.specs.Promises.{HasWholeOutput, text_of_status}
use Rattle.joblib.specs.Tokens.{FirstGives, IsTokenOf, own_of}
use Rattle.joblib.specs.Starts.{RunsOwn, RunsWords, TellsStatus, fault_status, fault_text}
use Rattle.joblib.specs.declared.start.StartFault.{StartFault}
use Rattle.joblib.specs.declared.start.StartFault.TheVariants.{Usage, Memory}

-- at the processors that the host tells
pub runs_own : (words : List (List ℕ)) (processors told n : ℕ) (Puts : Output → Type 0) → told ≡ processors → (given_of words told ≡ None → (n ≡ 2) ⊎ (n ≡ 8)) → (n ≡ 2 → given_of words told ≡ None) → ((args : List ℕ) → given_of words told ≡ Some (hash args) → HasWholeOutput n → Puts (hash_output args)) → RunsOwn words processors Puts n
runs_own words processors told n Puts same usage only hashes =
    let one : given_of words told ≡ given_of words processors = ap (λ (k : ℕ). given_of words k) same in
    record {
      usage = λ none. usage (one ∙ none);
      usage_only = λ two. sym one ∙ only two;
      hashes = λ args asks whole. hashes args (one ∙ asks) whole;
    }

-- what two facts say of a result that is there
pub with_both : {A E : Type 0} (r : Result A E) (P Q R : A → Type 0) → ((x : A) → P x → Q x → R x) → IfOk r P → IfOk r Q → IfOk r R
with_both (Ok x) P Q R f p q = f x p q
with_both (Err e) P Q R f p q = tt

-- a run of the own words is one of the program's
pub runs_words : (words mine : List (List ℕ)) (given : Option (List ℕ)) (processors : ℕ) (token : List ℕ) (Puts : Output → Type 0) (n : ℕ) → FirstGives words given → mine ≡ own_of given words → IsTokenOf given token → RunsOwn mine processors Puts n → RunsWords words processors token Puts n
runs_words words mine given processors token Puts n gives is chosen own = record {
  given = given;
  gives = gives;
  chosen = chosen;
  own = subst (λ (ws : List (List ℕ)). RunsOwn ws processors Puts n) is own;
}

-- a text behind nothing that was said
pub behind_nothing : (errors errors' said text : List ℕ) → said ≡ [] → errors' ≡ errors ++ (said ++ text) → errors' ≡ errors ++ text
behind_nothing errors errors' said text none is = is ∙ ap (λ (s : List ℕ). errors ++ (s ++ text)) none

-- what a run promises of its status tells that
pub tells_run : (given : Option Command) (w : Course) (err err' : SinkView) (n : ℕ) → Runs given w err err' n → TellsStatus n w.out w.out' err err'
tells_run given w err err' n runs = record {
  statuses = runs.statuses;
  nothing = runs.nothing;
  usage_text = λ two clear.
      let x = runs.text (inl (inl two)) clear in
      behind_nothing err.written err'.written x.0 (text_of_status n) ((subst (λ (g : Option Command). SaidBy g w runs.met x.0) (runs.usage_only two) x.1).silent (λ calling. calling) (λ telling. telling)) x.2;
  text = λ short clear. let x = runs.text short clear in (x.0, x.2);
  out_frame = runs.frame.out;
  err_frame = runs.frame.err;
}

-- a text that was written to the error stream, and nothing to the output
pub tells_fault : (fault : StartFault) (n : ℕ) (r : WroteAll) (text : List ℕ) (out err err' : SinkView) → n ≡ fault_status fault → text ≡ fault_text fault → (err.told → WritesAll r text err.written err'.written) → SinkAnswers (r ≡ wrote_all.Fault) err err' → TellsStatus n out out err err'
tells_fault fault n r text out err err' at is writes answers = subst (λ (k : ℕ). TellsStatus k out out err err') (sym at) (of_fault fault is)
  where
    wrote : IsClear err err' → err'.written ≡ err.written ++ text
    wrote clear = by_answer r (writes clear.0) answers.faults.failed
      where
        by_answer : (s : WroteAll) → WritesAll s text err.written err'.written → (s ≡ wrote_all.Fault → Rose err.faults err'.faults) → err'.written ≡ err.written ++ text
        by_answer wrote_all.Done done fails = done
        by_answer wrote_all.Fault part fails = absurd (clear.1 (fails refl))

    still : (k : ℕ) → (k ≡ 6 → ⊥) → SinkAnswers (k ≡ 6) out out
    still k other = record { told = λ t. t; faults = record { later = omega arith; failed = λ six. absurd (other six); steady = λ none. refl } }

    keeps : SinkKeeps err err'
    keeps = record { told = answers.told; later = answers.faults.later }

    of_fault : (f : StartFault) → text ≡ fault_text f → TellsStatus (fault_status f) out out err err'
    of_fault Usage same = record {
      statuses = inr (inl (inl refl));
      nothing = λ silent told. refl;
      usage_text = λ two clear. wrote clear ∙ ap (λ (t : List ℕ). err.written ++ t) same;
      text = λ short clear. ([], wrote clear ∙ ap (λ (t : List ℕ). err.written ++ t) same);
      out_frame = still 2 (λ e. omega arith);
      err_frame = keeps;
    }
    of_fault Memory same = record {
      statuses = inr (inl (inr (inl refl)));
      nothing = λ silent told. refl;
      usage_text = λ two. absurd (omega arith);
      text = λ short clear. ([], wrote clear ∙ ap (λ (t : List ℕ). err.written ++ t) same);
      out_frame = still 8 (λ e. omega arith);
      err_frame = keeps;
    }
