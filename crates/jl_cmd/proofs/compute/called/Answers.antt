-- A call of a function over a module that was read: refused, or asked of the cache.
use Rattle.std.proofs.Common.{rules, IsSome, inr, refl}
use Rattle.jl_protocol.proofs.Before.{some_of}
use Rattle.jl_cmd.specs.Calling.{Asks}
use Rattle.jl_cmd.specs.Course.{meanings}
use Rattle.jl_cmd.proofs.CallingLemmas.{computed_map, call_refused}
use Rattle.jl_cmd.proofs.compute.called.Goals as goal

-- a function that the module doesn't define is refused, and nothing was done
pub returns-then-is_none-clause-computed : goal.returns-then-is_none-clause-computed
returns-then-is_none-clause-computed g c =
    call_refused _ _ _ _ _ _ _ _ _ c.refused_arguments.result _ c.refused_arguments.ensures.refused
    refl

-- no memory for the arguments: nothing was done
pub returns-in-Err-Memory-clause-computed : goal.returns-in-Err-Memory-clause-computed
returns-in-Err-Memory-clause-computed g c = call_refused _ _ _ _ _ _ _ _ _ _ _ tt refl

-- arguments that are none are refused, and nothing was done
pub returns-in-Err-clause-computed : goal.returns-in-Err-clause-computed
returns-in-Err-clause-computed g c =
    call_refused _ _ _ _ _ _ _ _ _ c.refused_arguments-in-Err.result _
    c.refused_arguments-in-Err.ensures.refused refl

-- what the module and the arguments ask for was answered
pub returns-in-Ok-clause-computed : goal.returns-in-Ok-clause-computed
returns-in-Ok-clause-computed g c =
    let lib = g.L.Library in
    let is : IsSome (lib.code (lib.loaded c.args.lib.now) c.args.name.now) = search rules in
    let found = some_of (lib.code (lib.loaded c.args.lib.now) c.args.name.now) is in
    let line = lib.line (lib.loaded c.args.lib.now) c.args.name.now in
    let asks : Asks (meanings lib.code lib.line lib.fault lib.answer) (lib.loaded c.args.lib.now)
    c.args.name.now c.args.args.now = record {
      faultless = c.requires.faultless;
      found = found.0;
      members = c.in-Ok.args;
      defined = found.1;
      given = c.in-Ok.ensures.given;
    } in
    let did = c.answered.ensures in
    let warns = did.warns found.0 line found.1 refl in
    record {
      lawful = did.lawful;
      calls = did.calls;
      warns = (warns.0, warns.1, inr (asks, warns.2));
      alone = λ told lone sound rose.
          computed_map c.answered.result _ _
          (λ n h. (asks, h))
          (did.alone told found.0 line found.1 refl lone sound rose);
      comes =
          computed_map c.answered.result _ _
          (λ n h. (asks, h))
          (did.comes found.0 line found.1 refl);
      task = λ told. inr (asks, did.task found.0 line found.1 refl told);
    }
