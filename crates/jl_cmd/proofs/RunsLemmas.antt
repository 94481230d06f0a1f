-- What a run promises of its status, by how it ended and by the texts that were written then.
use Rattle.std.proofs.Common.{◌≡◌, ◌≤◌, ◌∙◌, ◌⊎◌, arith, ℕ, List, [], ◌++◌, Bool, true, false, Option, Some, refl, sym, ap, subst}
use Rattle.std.specs.Prelude.{T}
use Rattle.std.proofs.lemmas.List.{append_assoc}
use Rattle.jl_text.specs.Counts.{Faults, Rose}
use Rattle.jl_text.specs.Paths.{PathView}
use Rattle.jl_streams.specs.Views.{SinkView}
use Rattle.jl_tracker.specs.Stages.{SinkPoint, sink_point}
use Rattle.jl_cmd.specs.declared.ended.Ended.{Ended}
use Rattle.jl_cmd.specs.declared.ended.Ended.TheVariants.{Usage, ReadFault, WriteFault, NoModule, FolderFault}
use Rattle.jl_cmd.specs.Commands.{Command, call, clear as clears, reduce_size, tracker}
use Rattle.jl_cmd.specs.Course.{Course, stretch_of, IsClear}
use Rattle.jl_cmd.specs.Did.{GivenDid}
use Rattle.jl_cmd.specs.Endings.{RunEnds, LacksTold, status_of, last_text}
use Rattle.jl_cmd.specs.Met.{Met, bytes_in}
use Rattle.jl_cmd.specs.Needs.{needs_given, AreCalling, AreTelling}
use Rattle.jl_cmd.specs.Promises.{IsStatus}
use Rattle.jl_cmd.specs.Puts.{GivenPuts}
use Rattle.jl_cmd.specs.Ran.{Ran, RanTo, Runs}
use Rattle.jl_cmd.specs.Reporting.{sink_at}
use Rattle.jl_cmd.specs.Saying.{TellsBehind, SaidBy}
use Rattle.jl_cmd.specs.Uncalled.{IsUncalled}
use Rattle.jl_cmd.specs.of.Call.{CallSays}
use Rattle.jl_cmd.proofs.CallingLemmas.{leaves_at}
use Rattle.jl_cmd.proofs.ComingLemmas.{comes_at}
use Rattle.jl_cmd.proofs.EndingLemmas.{SaysLast, all_buffered, answers_at, stated_at, front_at, silent_at, nothing_stated, is_status, completes, usage_there, counts_at, text_at, usage_is, read_fault_is, write_fault_is, no_module_is, folder_fault_is}
use Rattle.jl_cmd.proofs.ReportLemmas.{last_of_both}
use Rattle.jl_cmd.proofs.TrackerEnds.{runs_tracker}

-- a count of faults by the status of an ending
faults_at : (e k : Ended) (n : ℕ) (a b : ℕ) → n ≡ status_of e → (n ≡ status_of k → e ≡ k) → Faults a b (e ≡ k) → Faults a b (n ≡ status_of k)
faults_at e k n a b at only f = record { later = f.later; failed = λ is. f.failed (only is); steady = λ none. f.steady (λ same. none (at ∙ ap status_of same)) }

-- what was said before the last text: the lines of warnings, or what the command wrote by itself
run_says : (given : Option Command) (w : Course) (met : Met) (err : SinkView) (point : SinkPoint) (err' : SinkView) (e : Ended) (lines : List ℕ) → ((AreCalling given → ⊥) → lines ≡ []) → TellsBehind given err point
    → ((file location : PathView) (name args : List ℕ) → given ≡ Some (call file location name args) → CallSays file location (bytes_in met) name args (stretch_of w) lines)
    → err.faults ≤ point.faults → point.faults ≤ err'.faults → (IsClear (sink_at err point) err' → err'.written ≡ point.written ++ (lines ++ last_text e)) → SaysLast given w met err err' e
run_says given w met err point err' e lines silent tells warned early late text clear = go (needs_given given).tells refl
  where
    first : Rose err.faults point.faults → Rose err.faults err'.faults
    first rose = omega (arith, rose, late)

    second : Rose point.faults err'.faults → Rose err.faults err'.faults
    second rose = omega (arith, rose, early)

    whole : err'.written ≡ point.written ++ (lines ++ last_text e)
    whole = text (clear.0, λ rose. clear.1 (second rose))

    go : (b : Bool) → (needs_given given).tells ≡ b → (said : List ℕ) × SaidBy given w met said × (err'.written ≡ err.written ++ (said ++ last_text e))
    go false is =
        let same : point ≡ sink_point err = tells.quiet (λ t. subst T is t) in
        (lines, record { silent = λ none quiet. silent none; warned = warned }, whole ∙ ap (λ (p : SinkPoint). p.written ++ (lines ++ last_text e)) same)
    go true is =
        let tell : AreTelling given = subst T (sym is) tt in
        let s = tells.behind (clear.0, λ rose. clear.1 (first rose)) in (
          s.0 ++ lines,
          record { silent = λ none quiet. absurd (quiet tell); warned = λ file location name args p. absurd (subst (λ (g : Option Command). AreTelling g) p tell) },
          whole ∙ ap (λ (t : List ℕ). t ++ (lines ++ last_text e)) s.1 ∙ append_assoc err.written s.0 (lines ++ last_text e) ∙ ap (λ (t : List ℕ). err.written ++ t) (sym (append_assoc s.0 lines (last_text e))),
        )

module _ (given : Option Command) (w : Course) (err err' : SinkView) (n : ℕ) (r : RanTo given w err err' n) where
  abbrev e : Ended
  e = r.ended

  abbrev ran : Ran given w err r.point e r.said
  ran = r.ran

  at : n ≡ status_of e
  at = r.status

  early : err.faults ≤ r.point.faults
  early = ran.frame.err.later

  -- the run of a command that the words gave
  ran_of : (s : Command) → given ≡ Some s → Ran (Some s) w err r.point e r.said
  ran_of s is = subst (λ (g : Option Command). Ran g w err r.point e r.said) is ran

  puts_of : (s : Command) → given ≡ Some s → GivenPuts (Some s) w ran.met e
  puts_of s is = subst (λ (g : Option Command). GivenPuts g w ran.met e) is ran.puts

  ends_of : (s : Command) → given ≡ Some s → RunEnds (Some s) w e
  ends_of s is = subst (λ (g : Option Command). RunEnds g w e) is ran.ends

  did_of : (s : Command) → given ≡ Some s → GivenDid (Some s) w ran.met err r.point e r.said
  did_of s is = subst (λ (g : Option Command). GivenDid g w ran.met err r.point e r.said) is ran.did

  -- why it ended so, at an ending that its status gives
  ends_at : (k : Ended) → e ≡ k → RunEnds given w k
  ends_at k is = subst (λ (j : Ended). RunEnds given w j) is ran.ends

  -- what was said, and then the last text
  says : SaysLast given w ran.met err err' e
  says = run_says given w ran.met err r.point err' e r.said ran.says ran.tells (λ file location name args is. (did_of (call file location name args) is).lines) early r.keeps.later r.text

  says_of : (s : Command) → given ≡ Some s → SaysLast (Some s) w ran.met err err' e
  says_of s is = subst (λ (g : Option Command). SaysLast g w ran.met err err' e) is says

  -- nothing of a call was written to the error stream before its lines
  plain : (file location : PathView) (name args : List ℕ) → given ≡ Some (call file location name args) → IsClear err err' → err'.written ≡ err.written ++ (r.said ++ last_text e)
  plain file location name args is clear =
      let same : r.point ≡ sink_point err = ran.tells.quiet (λ t. subst (λ (g : Option Command). AreTelling g) is t) in
      r.text (clear.0, λ rose. clear.1 (subst (λ (p : SinkPoint). Rose p.faults err'.faults) same rose)) ∙ ap (λ (p : SinkPoint). p.written ++ (r.said ++ last_text e)) same

  pub runs_of : Runs given w err err' n
  runs_of = record {
    met = ran.met;
    output = λ s is whole p. answers_at s w ran.met err err' e n at (puts_of s is) p (says_of s is) whole;
    write_fault = λ s is six p. front_at s w ran.met err err' e n at (puts_of s is) p six;
    write_fault_rose = λ six. (ends_at WriteFault (write_fault_is e (sym at ∙ six))).1;
    nothing = λ silent. ran.withholds (all_buffered given) (silent_at e n at silent);
    refused = λ s is which stated. stated_at s w ran.met err err' e n at (puts_of s is) stated (says_of s is) which;
    refused_nothing = λ which. ran.withholds (all_buffered given) (nothing_stated e n at which);
    complete = λ s is stated valid clear. completes s w ran.met e n at (ends_of s is) (puts_of s is) stated valid clear;
    statuses = subst IsStatus (sym at) (is_status e);
    usage = λ none. subst (λ (k : ℕ). (k ≡ 2) ⊎ (k ≡ 8)) (sym at) (usage_there given w e ran.ends none);
    usage_only = λ two. ends_at Usage (usage_is e (sym at ∙ two));
    no_module = λ s is nine. subst (λ (g : Option Command). LacksTold (needs_given g).file w.folder w.folder') is (ends_at NoModule (no_module_is e (sym at ∙ nine)));
    read_fault = λ five. ends_at ReadFault (read_fault_is e (sym at ∙ five));
    folder_fault = λ ten. ends_at FolderFault (folder_fault_is e (sym at ∙ ten));
    said = (e, at, ran.ends, ran.puts, says);
    text = λ short clear. let x = says clear in (x.0, x.1, x.2 ∙ ap (λ (t : List ℕ). err.written ++ (x.0 ++ t)) (text_at e n at short));
    tried = λ short told. last_of_both r.said (last_text e) _ err (sink_at err r.point) err' (text_at e n at short) early (r.each told);
    uncalled = ran.counts;
    calls = λ file location name args is. counts_at w e n at (did_of (call file location name args) is).calls;
    clock = record {
      unused = ran.clock;
      uncalled = λ file location name args is told un. (did_of (call file location name args) is).clock told (subst (λ (k : ℕ). IsUncalled k) at un);
      reduced = λ location limits is told other. (did_of (reduce_size location limits) is).clock told (λ eight. other (at ∙ eight));
    };
    lawful = ran.moves;
    alone = λ file location name args is. leaves_at file location (bytes_in ran.met) name args (stretch_of w) e n at (did_of (call file location name args) is).alone;
    comes = λ file location name args is.
        comes_at w.out w.out' err err' r.said e n at (plain file location name args is) file location (bytes_in ran.met) name args (stretch_of w) (did_of (call file location name args) is).comes;
    idle = λ file location name args is told un. (did_of (call file location name args) is).idle told (subst (λ (k : ℕ). IsUncalled k) at un);
    tracks = λ is. runs_tracker w err r.point err' e r.said n at r.keeps.later r.text (ran.says (λ c. subst (λ (g : Option Command). AreCalling g) is c)) (did_of tracker is);
    clears = λ location m f key is. (e, at, did_of (clears location m f key) is);
    reduces = λ location limits is. (e, at, did_of (reduce_size location limits) is);
    frame = record {
      folder = ran.frame.folder;
      host = ran.frame.host;
      input = record { told = ran.frame.input.told; faults = faults_at e ReadFault n w.input.faults w.input'.faults at (λ five. read_fault_is e (sym at ∙ five)) ran.frame.input.faults };
      out = record { told = ran.frame.out.told; faults = faults_at e WriteFault n w.out.faults w.out'.faults at (λ six. write_fault_is e (sym at ∙ six)) ran.frame.out.faults };
      err = record { told = λ told. r.keeps.told told; later = let b = r.keeps.later in omega (arith, early, b) };
    };
  }
