-- A run by its settings: each command's own promises make those of the run.
use Rattle.std.proofs.Common.{◌≡◌, ◌∙◌, ℕ, List, Some, refl, sym, ap}
use Rattle.jl_words.specs.declared.types.Settings.{Settings}
use Rattle.jl_cmd.specs.Commands.{call, hash, command_of}
use Rattle.jl_cmd.proofs.RanLemmas.{ran_usage, ran_hash, ran_call, ran_clear, ran_reduce}
use Rattle.jl_cmd.proofs.RanLemmas.{ran_tracker, ran_as, call_alone, clear_alone, reduce_alone}
use Rattle.jl_cmd.proofs.RanLemmas.{tracker_alone, none_alone, alone_as}
use Rattle.jl_cmd.proofs.top.given.Goals as goal

-- the command of the settings that were matched
of_settings : (s t : Settings) → s ≡ t → command_of t ≡ command_of s
of_settings s t is = ap command_of (sym is)

-- the run of a call is what the call did
pub returns-in-Call-clause-ran : goal.returns-in-Call-clause-ran
returns-in-Call-clause-ran g c =
    ran_as _ _ _ _ _ _ _ _ _
    (ap
    (λ (name : List ℕ).
    Some (call c.in-Call.module c.in-Call.location name c.as_str-in-Call.result.now))
    c.as_str.ensures
    ∙ ap (λ (args : List ℕ). Some (call c.in-Call.module c.in-Call.location c.in-Call.func args))
    c.as_str-in-Call.ensures ∙ of_settings _ _ c.in-Call.is) refl refl
    (ran_call _ _ _ _ _ _ _ _ _ _ _ _ _ _ _ c.call.result.ended c.call.result.lines
    c.call.ensures.ended c.call.ensures.frame c.call.ensures.out c.call.ensures.host)

-- the run of a hash is what was computed of its arguments and written
pub returns-in-Hash-clause-ran : goal.returns-in-Hash-clause-ran
returns-in-Hash-clause-ran g c =
    ran_as _ _ _ _ _ _ _ _ _
    (ap (λ (args : List ℕ). Some (hash args)) c.as_str-in-Hash.ensures
    ∙ of_settings _ _ c.in-Hash.is) (sym c.ended.ensures.ended) (sym c.ended.ensures.lines)
    (ran_hash _ _ _ _ _ _ _ _ c.as_str-in-Hash.result.now c.compute_hash-computed.result
    c.finish.result c.compute_hash-computed.ensures c.finish.ensures.writes c.finish.ensures.frame)

-- these words are usage yet, and nothing was done
pub returns-in-Parallel-clause-ran : goal.returns-in-Parallel-clause-ran
returns-in-Parallel-clause-ran g c =
    ran_as _ _ _ _ _ _ _ _ _ (of_settings _ _ c.in-Parallel.is)
    (sym c.ended-in-Parallel.ensures.ended) (sym c.ended-in-Parallel.ensures.lines)
    (ran_usage _ _ _ _ _ _ _)

-- and so are these
pub returns-in-Session-clause-ran : goal.returns-in-Session-clause-ran
returns-in-Session-clause-ran g c =
    ran_as _ _ _ _ _ _ _ _ _ (of_settings _ _ c.in-Session.is)
    (sym c.ended-in-Session.ensures.ended) (sym c.ended-in-Session.ensures.lines)
    (ran_usage _ _ _ _ _ _ _)

-- the run of a clearing is what it cleared
pub returns-in-Clear-clause-ran : goal.returns-in-Clear-clause-ran
returns-in-Clear-clause-ran g c =
    ran_as _ _ _ _ _ _ _ _ _ (of_settings _ _ c.in-Clear.is) (sym c.ended-in-Clear.ensures.ended)
    (sym c.ended-in-Clear.ensures.lines)
    (ran_clear _ _ _ _ _ _ _ _ c.in-Clear.location c.in-Clear.module c.in-Clear.func c.in-Clear.key
    c.clear.result c.clear.ensures.ends c.clear.ensures.clears c.clear.ensures.frame)

-- the run of a reducing is what it evicted and reported
pub returns-in-ReduceSize-clause-ran : goal.returns-in-ReduceSize-clause-ran
returns-in-ReduceSize-clause-ran g c =
    let answer = g.L.Library.answer in
    ran_as _ _ _ _ _ _ _ _ _ (of_settings _ _ c.in-ReduceSize.is)
    (sym c.ended-in-ReduceSize.ensures.ended) (sym c.ended-in-ReduceSize.ensures.lines)
    (ran_reduce _ _ _ _ _ _ _ _ _ _ c.in-ReduceSize.location c.in-ReduceSize.limits c.reduce.result
    c.reduce.ensures.ends (λ told. (c.reduce.ensures.called told).own)
    (λ told. c.reduce.ensures.lawful told answer) c.reduce.ensures.frame c.reduce.ensures.out
    c.reduce.ensures.host c.reduce.ensures.clock)

-- usage yet
pub returns-in-Worker-clause-ran : goal.returns-in-Worker-clause-ran
returns-in-Worker-clause-ran g c =
    ran_as _ _ _ _ _ _ _ _ _ (of_settings _ _ c.in-Worker.is) (sym c.ended-in-Worker.ensures.ended)
    (sym c.ended-in-Worker.ensures.lines) (ran_usage _ _ _ _ _ _ _)

-- the run of a tracker is what it followed
pub returns-in-Tracker-clause-ran : goal.returns-in-Tracker-clause-ran
returns-in-Tracker-clause-ran g c =
    ran_as _ _ _ _ _ _ _ _ _ (of_settings _ _ c.in-Tracker.is)
    (sym c.ended-in-Tracker.ensures.ended) (sym c.ended-in-Tracker.ensures.lines)
    (ran_tracker _ _ _ _ _ _ _ _ _ _ c.follow.result c.follow.ensures.follows c.follow.ensures.frame
    c.follow.ensures.input c.follow.ensures.err)

-- usage yet
pub returns-in-Gen-clause-ran : goal.returns-in-Gen-clause-ran
returns-in-Gen-clause-ran g c =
    ran_as _ _ _ _ _ _ _ _ _ (of_settings _ _ c.in-Gen.is) (sym c.ended-in-Gen.ensures.ended)
    (sym c.ended-in-Gen.ensures.lines) (ran_usage _ _ _ _ _ _ _)

-- a call reads no input, and calls nothing before the module is read
pub returns-in-Call-clause-unused : goal.returns-in-Call-clause-unused
returns-in-Call-clause-unused g c =
    alone_as _ _ _ _ _ _ _ _ _ _ _ _ (of_settings _ _ c.in-Call.is) (λ u. u)
    (call_alone _ _ _ _ _ _ _ _ _ c.in-Call.module c.in-Call.location c.in-Call.func c.in-Call.args
    refl c.call.ensures.unused)

-- a clearing uses the folder alone
pub returns-in-Clear-clause-unused : goal.returns-in-Clear-clause-unused
returns-in-Clear-clause-unused g c =
    alone_as _ _ _ _ _ _ _ _ _ _ _ _ (of_settings _ _ c.in-Clear.is) (λ u. u)
    (clear_alone _ _ _ _ _ _ _ _ _ c.in-Clear.location c.in-Clear.module c.in-Clear.func
    c.in-Clear.key refl refl refl)

-- a reducing uses the folder and the clock
pub returns-in-ReduceSize-clause-unused : goal.returns-in-ReduceSize-clause-unused
returns-in-ReduceSize-clause-unused g c =
    alone_as _ _ _ _ _ _ _ _ _ _ _ _ (of_settings _ _ c.in-ReduceSize.is) (λ u. u)
    (reduce_alone _ _ _ _ _ _ _ _ _ c.in-ReduceSize.location c.in-ReduceSize.limits refl refl)

-- a tracker uses the folder and its input
pub returns-in-Tracker-clause-unused : goal.returns-in-Tracker-clause-unused
returns-in-Tracker-clause-unused g c =
    alone_as _ _ _ _ _ _ _ _ _ _ _ _ (of_settings _ _ c.in-Tracker.is) (λ u. u)
    (tracker_alone _ _ _ _ _ _ _ _ _ refl refl)

-- a hash uses none of them
pub returns-in-Hash-clause-unused : goal.returns-in-Hash-clause-unused
returns-in-Hash-clause-unused g c = none_alone _ _ _ _ _ _ _ _ _ _ refl refl refl refl

-- nor does usage
pub returns-in-Parallel-clause-unused : goal.returns-in-Parallel-clause-unused
returns-in-Parallel-clause-unused g c = none_alone _ _ _ _ _ _ _ _ _ _ refl refl refl refl

-- nor does usage
pub returns-in-Session-clause-unused : goal.returns-in-Session-clause-unused
returns-in-Session-clause-unused g c = none_alone _ _ _ _ _ _ _ _ _ _ refl refl refl refl

-- nor does usage
pub returns-in-Worker-clause-unused : goal.returns-in-Worker-clause-unused
returns-in-Worker-clause-unused g c = none_alone _ _ _ _ _ _ _ _ _ _ refl refl refl refl

-- nor does usage
pub returns-in-Gen-clause-unused : goal.returns-in-Gen-clause-unused
returns-in-Gen-clause-unused g c = none_alone _ _ _ _ _ _ _ _ _ _ refl refl refl refl
