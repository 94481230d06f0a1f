-- What each command's own promises make of a run.
use Rattle.std.proofs.Common.{◌≡◌, ◌∙◌, inl, inr, ℕ, List, [], Option, Some, None, refl, sym, ap}
use Rattle.std.proofs.Common.{subst, arith, append-nil}
use Rattle.std.specs.Prelude.{⊤}
use Rattle.jl_text.specs.Counts.{Faults}
use Rattle.jl_text.specs.Paths.{PathView}
use Rattle.jl_folder.specs.Views.{FolderView, FolderAnswers, FolderKeeps, moved}
use Rattle.jl_streams.specs.Moments.{moments_after}
use Rattle.jl_streams.specs.Views.{SourceView, SinkView, HostView, SourceAnswers, SinkAnswers}
use Rattle.jl_streams.specs.Views.{SinkKeeps, HostKeeps}
use Rattle.jl_value.specs.declared.key.Key.{Key}
use Rattle.jl_quota.specs.declared.limits.Limits.{Limits}
use Rattle.jl_rely.specs.Steps.{OwnMoves}
use Rattle.jl_rely.specs.Claims.{AnyMove, Anywhere}
use Rattle.jl_rely.proofs.Composed.{not_called}
use Rattle.jl_rely.proofs.Since.{goes_none}
use Rattle.jl_entry.specs.Names.{root_of}
use Rattle.jl_protocol.specs.Proper.{IsProper, LawfulThroughout}
use Rattle.jl_clear.specs.declared.removing.Clear.TheVariants as clear_answer
use Rattle.jl_clear.specs.Taking.{IsTaking}
use Rattle.jl_store.proofs.Lawfully.{lawful_none}
use Rattle.jl_tracker.specs.declared.following.Tracked.{Tracked}
use Rattle.jl_tracker.specs.declared.following.Tracked.TheVariants as tracked
use Rattle.jl_tracker.specs.Stages.{SinkPoint, sink_point}
use Rattle.jl_evict.specs.Reducing.{IsOfEntry}
use Rattle.jl_cmd.specs.declared.computed.Computed.{Computed}
use Rattle.jl_cmd.specs.declared.ended.Ended.{Ended}
use Rattle.jl_cmd.specs.declared.ended.Ended.TheVariants.{Done, Failed, Usage, Refused, ReadFault}
use Rattle.jl_cmd.specs.declared.ended.Ended.TheVariants.{WriteFault, NoMemory, NoModule}
use Rattle.jl_cmd.specs.declared.ended.Ended.TheVariants.{FolderFault}
use Rattle.jl_cmd.specs.Caches.{CallsLawfully, IsOfCall, CallsIn, RunsLawfully}
use Rattle.jl_cmd.specs.Commands.{Command, call, hash, clear, reduce_size, tracker}
use Rattle.jl_cmd.specs.Computing.{Computes, WritesComputed}
use Rattle.jl_cmd.specs.Course.{Meanings, Course, course, stretch_of, KeepsCourse}
use Rattle.jl_cmd.specs.Did.{GivenDid}
use Rattle.jl_cmd.specs.Endings.{EndsComputed, status_of}
use Rattle.jl_cmd.specs.Met.{Met, of_nothing}
use Rattle.jl_cmd.specs.Output.{hash_output}
use Rattle.jl_cmd.specs.Puts.{GivenPuts}
use Rattle.jl_cmd.specs.Ran.{Ran, LeavesUnused}
use Rattle.jl_cmd.specs.Saying.{TellsBehind}
use Rattle.jl_cmd.specs.of.Call.{CallEnds, CallEnded}
use Rattle.jl_cmd.specs.of.Clear.{IsCleared, EndsClearing, ClearsAsked}
use Rattle.jl_cmd.specs.of.Reduce.{IsReported, EndsReducing}
use Rattle.jl_cmd.specs.of.Track.{EndsTracked, FollowsLines}
use Rattle.jl_cmd.proofs.CacheLemmas.{trusting}
use Rattle.jl_cmd.proofs.ClearEnds.{clears_so, runs_clear}
use Rattle.jl_cmd.proofs.EndingLemmas.{Finished, finished_so, finished_short, finishes_so}
use Rattle.jl_cmd.proofs.EndingLemmas.{all_buffered}
use Rattle.jl_cmd.proofs.IdleLemmas.{own_none, silent_none}
use Rattle.jl_cmd.proofs.ReduceEnds.{report_met, reduces_so, runs_reduce}
use Rattle.jl_cmd.proofs.TrackerEnds.{follows_ends, follows_at, follows_tells, follows_nothing}
use Rattle.jl_cmd.proofs.TrackerMoves.{asked, asks_nothing}

-- ---- frames

-- a count that stays tells of no fault
still : (n : ℕ) (Fails : Type 0) → (Fails → ⊥) → Faults n n Fails
still n Fails never = record {
  later = omega arith;
  failed = λ fails. absurd (never fails);
  steady = λ none. refl;
}

-- what nobody calls stays
pub input_still : (v : SourceView) (e : Ended) → (e ≡ ReadFault → ⊥)
    → SourceAnswers (e ≡ ReadFault) v v
input_still v e never = record { told = λ t. t; faults = still v.faults (e ≡ ReadFault) never }

-- the output too
pub out_still : (v : SinkView) (e : Ended) → (e ≡ WriteFault → ⊥) → SinkAnswers (e ≡ WriteFault) v v
out_still v e never = record { told = λ t. t; faults = still v.faults (e ≡ WriteFault) never }

-- the error stream
err_still : (v : SinkView) → SinkKeeps v v
err_still v = record { told = λ t. t; later = omega arith }

-- the folder
folder_still : (v : FolderView) → FolderKeeps v v
folder_still v = record { told = λ t. t; token = refl; opens = refl; later = omega arith }

-- and the host
host_still : (v : HostView) → HostKeeps v v
host_still v = record { told = λ t. t; token = refl; processors = refl }

-- what answers keeps
folder_keeps : (Fails : Type 0) (old new : FolderView) → FolderAnswers Fails old new
    → FolderKeeps old new
folder_keeps Fails old new f = record {
  told = f.told;
  token = f.token;
  opens = f.opens;
  later = f.faults.later;
}

-- nothing was written to the error stream
pub tells_nothing : (given : Option Command) (err : SinkView)
    → TellsBehind given err (sink_point err)
tells_nothing given err = record {
  quiet = λ none. refl;
  behind = λ clear. ([], sym (append-nil _));
}

-- ---- nothing is run

module _ (means : Meanings) (calls : ℕ) (folder : FolderView) (host : HostView) (input : SourceView)
    (out err : SinkView) where
  -- nothing is touched
  abbrev rest : Course
  rest = course means calls calls folder folder host host input input out out

  -- nothing done keeps every rule
  runs_nothing : (given : Option Command) → RunsLawfully given rest
  unfolding LawfulThroughout
  runs_nothing None = record {
    went = goes_none folder;
    idle = λ none. silent_none folder;
    own = silent_none folder;
  }
  runs_nothing (Some (call file location name args)) = record {
    went = goes_none folder;
    idle = λ none. silent_none folder;
    own = record {
      stays = λ m is. own_none (IsOfCall (root_of location) m name folder.token) folder;
      lawful = (lawful_none (root_of location) means.answer AnyMove folder).owes;
    };
  }
  runs_nothing (Some (hash args)) = record {
    went = goes_none folder;
    idle = λ none. silent_none folder;
    own = silent_none folder;
  }
  runs_nothing (Some (clear location m f key)) =
      runs_clear location m f key rest (lawful_none (root_of location) means.answer AnyMove folder)
      (own_none (IsTaking (root_of location) (IsCleared location m f key)) folder)
  runs_nothing (Some (reduce_size location limits)) =
      runs_reduce location limits rest (lawful_none (root_of location) means.answer AnyMove folder)
      (own_none (IsTaking (root_of location) (IsOfEntry (root_of location))) folder)
  runs_nothing (Some tracker) = record {
    went = goes_none folder;
    idle = λ none. silent_none folder;
    own = asked means.answer input folder folder (asks_nothing input folder);
  }

  -- nothing done keeps the frame of a run
  rest_keeps : (e : Ended) → (e ≡ ReadFault → ⊥) → (e ≡ WriteFault → ⊥)
      → KeepsCourse (e ≡ ReadFault) (e ≡ WriteFault) rest err err
  rest_keeps e no_read no_write = record {
    folder = folder_still folder;
    host = host_still host;
    input = input_still input e no_read;
    out = out_still out e no_write;
    err = err_still err;
  }

  -- nothing was cleared
  clears_none : (location : PathView) (m f : Option (List ℕ)) (key : Option Key)
      → ClearsAsked location m f key NoMemory folder folder
  clears_none location m f key =
      let P = IsProper (root_of location) in
      record {
        called =
            not_called P P (IsTaking (root_of location) (IsCleared location m f key)) Anywhere
            Anywhere folder (λ s x. x);
        lawful = λ answers. lawful_none (root_of location) answers AnyMove folder;
        went = λ done. absurd (not_cleared done);
        alone = λ done. absurd (not_cleared done);
        tidy = λ done. absurd (not_cleared done);
      }
    where
      not_cleared : clear_answer.NoMemory ≡ clear_answer.Cleared → ⊥
      not_cleared is = cc

  -- nor was anything done
  did_nothing : (given : Option Command)
      → GivenDid given rest of_nothing err (sink_point err) NoMemory []
  did_nothing None = tt
  did_nothing (Some (call file location name args)) = record {
    calls = inl refl;
    idle = λ told un. silent_none folder;
    clock = λ told un. refl;
    lines = λ m is. ([], refl, inl refl);
    alone = λ told m is lone sound rose. tt;
    comes = λ m is. tt;
    tasks = tt;
  }
  did_nothing (Some (hash args)) = tt
  did_nothing (Some (clear location m f key)) = record {
    ends = tt;
    clears = λ told. clears_none location m f key;
  }
  did_nothing (Some (reduce_size location limits)) = record {
    ends = λ told. refl;
    clock = λ told other. absurd (other refl);
  }
  did_nothing (Some tracker) = follows_nothing folder input err

  -- and puts nothing out
  puts_nothing : (given : Option Command) → GivenPuts given rest of_nothing NoMemory
  puts_nothing None = tt
  puts_nothing (Some s) = λ p none. absurd (none (all_buffered (Some s)))

  -- wrong usage
  pub ran_usage : Ran None rest err (sink_point err) Usage []
  ran_usage = record {
    met = of_nothing;
    ends = refl;
    puts = tt;
    withholds = λ buffered un told. refl;
    says = λ none. refl;
    tells = tells_nothing None err;
    counts = λ none. refl;
    clock = λ none told. refl;
    moves = λ told. runs_nothing None;
    did = tt;
    frame =
        rest_keeps Usage (λ is. let n : 2 ≡ 5 = ap status_of is in omega (arith, n))
        (λ is. let n : 2 ≡ 6 = ap status_of is in omega (arith, n));
  }

  -- want of memory, whatever is given
  pub ran_memory : (given : Option Command) → Ran given rest err (sink_point err) NoMemory []
  ran_memory given = record {
    met = of_nothing;
    ends = tt;
    puts = puts_nothing given;
    withholds = λ buffered un told. refl;
    says = λ none. refl;
    tells = tells_nothing given err;
    counts = λ none. refl;
    clock = λ none told. refl;
    moves = λ told. runs_nothing given;
    did = did_nothing given;
    frame =
        rest_keeps NoMemory (λ is. let n : 8 ≡ 5 = ap status_of is in omega (arith, n))
        (λ is. let n : 8 ≡ 6 = ap status_of is in omega (arith, n));
  }

-- ---- hash

module _ (means : Meanings) (calls : ℕ) (folder : FolderView) (host : HostView) (input : SourceView)
    (out out' err : SinkView) where
  -- a run that touches its output alone
  abbrev printed : Course
  printed = course means calls calls folder folder host host input input out out'

  -- what was computed of the arguments was written
  pub ran_hash : (args : List ℕ) (c : Computed) (e : Ended) → Computes (hash_output args) ⊤ c
      → WritesComputed c e out out' → SinkAnswers (e ≡ WriteFault) out out'
      → Ran (Some (hash args)) printed err (sink_point err) e []
  ran_hash args c e computes writes answers =
      let fin : EndsComputed (hash_output args) ⊤ out out' e =
      finishes_so (hash_output args) ⊤ out out' c e computes (inl writes) in
      let done = finished_so (hash args) printed of_nothing tt ⊤ e refl (λ p. tt) fin in
      record {
        met = of_nothing;
        ends = done.ends;
        puts = done.puts;
        withholds = done.withholds;
        says = λ none. refl;
        tells = tells_nothing (Some (hash args)) err;
        counts = λ none. refl;
        clock = λ none told. refl;
        moves = λ told. record {
          went = goes_none folder;
          idle = λ none. silent_none folder;
          own = silent_none folder;
        };
        did = tt;
        frame = record {
          folder = folder_still folder;
          host = host_still host;
          input =
              input_still input e
              (λ is. subst (λ (e' : Ended). EndsComputed (hash_output args) ⊤ out out' e') is fin);
          out = answers;
          err = err_still err;
        };
      }

-- ---- call

module _ (means : Meanings) (calls calls' : ℕ) (folder folder' : FolderView) (host host' : HostView)
    (input : SourceView) (out out' err : SinkView) where
  -- a run of a call: the folder, the host and the output
  abbrev called : Course
  called = course means calls calls' folder folder' host host' input input out out'

  -- how the run ends by how the call does
  call_finished : (file location : PathView) (name args : List ℕ) (met : Met) (e : Ended)
      → (folder.told → CallsIn file location name means.answer folder folder')
      → CallEnds file location name args (stretch_of called) met out out' e
      → Finished (Some (call file location name args)) called met e
  call_finished file location name args met Done lawful ends =
      finished_so (call file location name args) called met tt _ Done ends.0
      (λ p. trusting file location name args called p lawful) ends.1
  call_finished file location name args met (Failed t) lawful ends =
      finished_so (call file location name args) called met tt _ (Failed t) ends.0
      (λ p. trusting file location name args called p lawful) ends.1
  call_finished file location name args met (Refused t) lawful ends =
      finished_so (call file location name args) called met tt _ (Refused t) ends.0
      (λ p. trusting file location name args called p lawful) ends.1
  call_finished file location name args met WriteFault lawful ends =
      finished_so (call file location name args) called met tt _ WriteFault ends.0
      (λ p. trusting file location name args called p lawful) ends.1
  call_finished file location name args met NoMemory lawful ends =
      finished_short (call file location name args) called met NoMemory tt tt tt ends
  call_finished file location name args met NoModule lawful ends =
      finished_short (call file location name args) called met NoModule tt tt ends.0 ends.1
  call_finished file location name args met FolderFault lawful ends =
      finished_short (call file location name args) called met FolderFault tt tt (tt, ends.0) ends.1
  call_finished file location name args met Usage lawful ends = absurd ends
  call_finished file location name args met ReadFault lawful ends = absurd ends

  -- what is told of the call is told of the run
  pub ran_call : (file location : PathView) (name args : List ℕ) (e : Ended) (said : List ℕ)
      → CallEnded file location name args (stretch_of called) out out' e said
      → FolderKeeps folder folder' → SinkAnswers (e ≡ WriteFault) out out' → HostKeeps host host'
      → Ran (Some (call file location name args)) called err (sink_point err) e said
  ran_call file location name args e said ended keeps answers hosts =
      let done = call_finished file location name args ended.met e ended.lawful ended.ends in
      record {
        met = ended.met;
        ends = done.ends;
        puts = done.puts;
        withholds = done.withholds;
        says = λ none. absurd (none tt);
        tells = tells_nothing (Some (call file location name args)) err;
        counts = λ none. absurd (none tt);
        clock = λ none. absurd (none tt);
        moves = λ told. record {
          went = ended.went told;
          idle = λ none. absurd (none tt);
          own = ended.lawful told;
        };
        did = ended.did;
        frame = record {
          folder = keeps;
          host = hosts;
          input =
              input_still input e
              (λ is.
              subst
              (λ (k : Ended).
              CallEnds file location name args (stretch_of called) ended.met out out' k) is
              ended.ends);
          out = answers;
          err = err_still err;
        };
      }

-- ---- clear

module _ (means : Meanings) (calls : ℕ) (folder folder' : FolderView) (host : HostView)
    (input : SourceView) (out err : SinkView) where
  -- a run that clears: the folder alone
  abbrev cleared : Course
  cleared = course means calls calls folder folder' host host input input out out

  -- what was cleared, and how it ended
  pub ran_clear : (location : PathView) (m f : Option (List ℕ)) (key : Option Key) (e : Ended)
      → EndsClearing e folder folder'
      → (folder.told → ClearsAsked location m f key e folder folder')
      → FolderAnswers (e ≡ FolderFault) folder folder'
      → Ran (Some (clear location m f key)) cleared err (sink_point err) e []
  ran_clear location m f key e ends clears answers = record {
    met = of_nothing;
    ends = (clears_so location m f key cleared e (λ told. refl) ends).ends;
    puts = (clears_so location m f key cleared e (λ told. refl) ends).puts;
    withholds = (clears_so location m f key cleared e (λ told. refl) ends).withholds;
    says = λ none. refl;
    tells = tells_nothing (Some (clear location m f key)) err;
    counts = λ none. refl;
    clock = λ none told. refl;
    moves = λ told. let done = clears told in
        runs_clear location m f key cleared (done.lawful means.answer) done.called.own;
    did = record { ends = ends; clears = clears };
    frame = record {
      folder = folder_keeps (e ≡ FolderFault) folder folder' answers;
      host = host_still host;
      input =
          input_still input e (λ is. subst (λ (k : Ended). EndsClearing k folder folder') is ends);
      out = out_still out e (λ is. subst (λ (k : Ended). EndsClearing k folder folder') is ends);
      err = err_still err;
    };
  }

-- ---- reduce-size

module _ (means : Meanings) (calls : ℕ) (folder folder' : FolderView) (host host' : HostView)
    (input : SourceView) (out out' err : SinkView) where
  -- a run that reduces: the folder, the host and the output
  abbrev reduced : Course
  reduced = course means calls calls folder folder' host host' input input out out'

  -- what was evicted and reported, and how it ended
  pub ran_reduce : (location : PathView) (limits : Limits) (e : Ended)
      → EndsReducing e (IsReported location limits host folder folder') folder folder' out out'
      → (folder.told
      → OwnMoves folder.token (IsTaking (root_of location) (IsOfEntry (root_of location)))
      (moved folder folder'))
      → (folder.told → CallsLawfully location means.answer AnyMove folder folder')
      → FolderAnswers (e ≡ FolderFault) folder folder' → SinkAnswers (e ≡ WriteFault) out out'
      → HostKeeps host host' → (host.told → host'.moments ≡ moments_after host.moments)
      → Ran (Some (reduce_size location limits)) reduced err (sink_point err) e []
  ran_reduce location limits e ends own lawful answers outs hosts clock = record {
    met =
        report_met e (IsReported location limits host folder folder') folder folder' out out' ends;
    ends = (reduces_so location limits reduced e ends).ends;
    puts = (reduces_so location limits reduced e ends).puts;
    withholds = (reduces_so location limits reduced e ends).withholds;
    says = λ none. refl;
    tells = tells_nothing (Some (reduce_size location limits)) err;
    counts = λ none. refl;
    clock = λ none. absurd (none tt);
    moves = λ told. runs_reduce location limits reduced (lawful told) (own told);
    did = record { ends = ends; clock = λ told other. clock told };
    frame = record {
      folder = folder_keeps (e ≡ FolderFault) folder folder' answers;
      host = hosts;
      input =
          input_still input e
          (λ is.
          subst
          (λ (k : Ended).
          EndsReducing k (IsReported location limits host folder folder') folder folder' out out')
          is ends);
      out = outs;
      err = err_still err;
    };
  }

-- ---- tracker

module _ (means : Meanings) (calls : ℕ) (folder folder' : FolderView) (host : HostView)
    (input input' : SourceView) (out err err' : SinkView) where
  -- a run that follows its input: the folder and the error stream
  abbrev followed : Course
  followed = course means calls calls folder folder' host host input input' out out

  -- what was followed, and how it ended
  pub ran_tracker : (e : Ended) → FollowsLines input input' folder folder' err err' e
      → FolderKeeps folder folder' → SourceAnswers (e ≡ ReadFault) input input' → SinkKeeps err err'
      → Ran (Some tracker) followed err (sink_point err') e []
  ran_tracker e follows keeps inputs errs = record {
    met = of_nothing;
    ends = (follows_ends followed err err' e (λ told. refl) inputs.faults.failed follows).ends;
    puts = (follows_ends followed err err' e (λ told. refl) inputs.faults.failed follows).puts;
    withholds =
        (follows_ends followed err err' e (λ told. refl) inputs.faults.failed follows).withholds;
    says = λ none. refl;
    tells = follows_tells followed err (sink_point err') e (follows_at followed err err' e follows);
    counts = λ none. refl;
    clock = λ none told. refl;
    moves = λ told. let m = follows.moves told in
        record {
          went = m.moves.went;
          idle = λ none. absurd (none tt);
          own = asked means.answer input folder folder' m;
        };
    did = follows_at followed err err' e follows;
    frame = record {
      folder = keeps;
      host = host_still host;
      input = inputs;
      out = out_still out e (no_write follows.tracked follows.ends);
      err = record { told = λ t. t; later = errs.later };
    };
  }
    where
      -- it ends by no write fault
      no_write : (t : Tracked) → EndsTracked t e → e ≡ WriteFault → ⊥
      no_write tracked.Ended ends is = let n : 6 ≡ 0 = ap status_of (sym is ∙ ends) in
          omega (arith, n)
      no_write tracked.ReadFault ends is = let n : 6 ≡ 5 = ap status_of (sym is ∙ ends) in
          omega (arith, n)
      no_write (tracked.TooMuch line) (inl ends) is = let n : 6 ≡ 3 =
          ap status_of (sym is ∙ ends) in omega (arith, n)
      no_write (tracked.TooMuch line) (inr ends) is = let n : 6 ≡ 8 =
          ap status_of (sym is ∙ ends) in omega (arith, n)
      no_write tracked.NoMemory ends is = let n : 6 ≡ 8 = ap status_of (sym is ∙ ends) in
          omega (arith, n)

-- ---- what is left alone

module _ {L F H S : Type 0} (Unread : Type 0) (lib lib' : L) (disk disk' : F) (machine machine' : H)
    (source source' : S) where
  -- a call leaves its input alone, and what it didn't read, the library and the host
  pub call_alone : (file location : PathView) (name args : List ℕ) → source' ≡ source
      → (Unread → (lib' ≡ lib) × (machine' ≡ machine))
      → LeavesUnused (Some (call file location name args)) Unread lib lib' disk disk' machine
      machine' source source'
  call_alone file location name args input unread = record {
    library = λ none. absurd (none tt);
    folder = λ none. absurd (none tt);
    host = λ none. absurd (none tt);
    input = λ none. input;
    unread = λ u calling. unread u;
  }

  -- a clearing leaves all but the folder
  pub clear_alone : (location : PathView) (m f : Option (List ℕ)) (key : Option Key) → lib' ≡ lib
      → machine' ≡ machine → source' ≡ source
      → LeavesUnused (Some (clear location m f key)) Unread lib lib' disk disk' machine machine'
      source source'
  clear_alone location m f key library host input = record {
    library = λ none. library;
    folder = λ none. absurd (none tt);
    host = λ none. host;
    input = λ none. input;
    unread = λ u calling. absurd calling;
  }

  -- a reducing leaves the library and the input
  pub reduce_alone : (location : PathView) (limits : Limits) → lib' ≡ lib → source' ≡ source
      → LeavesUnused (Some (reduce_size location limits)) Unread lib lib' disk disk' machine
      machine' source source'
  reduce_alone location limits library input = record {
    library = λ none. library;
    folder = λ none. absurd (none tt);
    host = λ none. absurd (none tt);
    input = λ none. input;
    unread = λ u calling. absurd calling;
  }

  -- a tracker leaves the library and the host
  pub tracker_alone : lib' ≡ lib → machine' ≡ machine
      → LeavesUnused (Some tracker) Unread lib lib' disk disk' machine machine' source source'
  tracker_alone library host = record {
    library = λ none. library;
    folder = λ none. absurd (none tt);
    host = λ none. host;
    input = λ none. absurd (none tt);
    unread = λ u calling. absurd calling;
  }

  -- where nothing was used
  pub none_alone : (given : Option Command) → lib' ≡ lib → disk' ≡ disk → machine' ≡ machine
      → source' ≡ source
      → LeavesUnused given Unread lib lib' disk disk' machine machine' source source'
  none_alone given library folder host input = record {
    library = λ none. library;
    folder = λ none. folder;
    host = λ none. host;
    input = λ none. input;
    unread = λ u calling. (library, host);
  }

  -- in other words
  pub alone_as : (o o' : Option Command) (U : Type 0) → o ≡ o' → (U → Unread)
      → LeavesUnused o Unread lib lib' disk disk' machine machine' source source'
      → LeavesUnused o' U lib lib' disk disk' machine machine' source source'
  alone_as o o' U p f h =
      subst
      (λ (g : Option Command). LeavesUnused g U lib lib' disk disk' machine machine' source source')
      p (record {
        library = h.library;
        folder = h.folder;
        host = h.host;
        input = h.input;
        unread = λ u. h.unread (f u);
      })

-- ---- in other words

-- the same of another command, another ending and other lines that are the same
pub ran_as : (o o' : Option Command) (w : Course) (err : SinkView) (point : SinkPoint)
    (e e' : Ended) (said said' : List ℕ) → o ≡ o' → e ≡ e' → said ≡ said' → Ran o w err point e said
    → Ran o' w err point e' said'
ran_as o o' w err point e e' said said' p q r h =
    subst (λ (x : List ℕ). Ran o' w err point e' x) r
    (subst (λ (k : Ended). Ran o' w err point k said) q
    (subst (λ (g : Option Command). Ran g w err point e said) p h))
