use Rattle.std.proofs.Common.{inl, inr}
use Rattle.jl_tracker.proofs.RemovalLemmas.{call_at}
use Rattle.jl_tracker.proofs.removing.try_folder.Goals as goal

pub returns-in-Done-clause-tries : goal.returns-in-Done-clause-tries
returns-in-Done-clause-tries g c = λ t.
    let frame = c.remove_dir.ensures.frame in
    record { token = frame.token; later = frame.faults.later; call = call_at _ _ _ _ (λ s own h. (h.0, h.2, h.3, frame.faults.steady (λ fails. cc))) (c.in-Done.ensures.call t) }

pub returns-in-NoDir-clause-tries : goal.returns-in-NoDir-clause-tries
returns-in-NoDir-clause-tries g c = λ t.
    let frame = c.remove_dir.ensures.frame in
    record { token = frame.token; later = frame.faults.later; call = call_at _ _ _ _ (λ s own h. inl (h.0, h.1, frame.faults.steady (λ fails. cc))) (c.in-NoDir.ensures.call t) }

pub returns-in-NotEmpty-clause-tries : goal.returns-in-NotEmpty-clause-tries
returns-in-NotEmpty-clause-tries g c = λ t.
    let frame = c.remove_dir.ensures.frame in
    record { token = frame.token; later = frame.faults.later; call = call_at _ _ _ _ (λ s own h. inr (inl (h.0, h.1, h.2, frame.faults.steady (λ fails. cc)))) (c.in-NotEmpty.ensures.call t) }

pub returns-in-Failed-clause-tries : goal.returns-in-Failed-clause-tries
returns-in-Failed-clause-tries g c = λ t.
    let frame = c.remove_dir.ensures.frame in
    record { token = frame.token; later = frame.faults.later; call = call_at _ _ _ _ (λ s own h. inr (inr (frame.faults.failed c.in-Failed.is, h))) (c.in-Failed.ensures.call t) }

pub returns-in-NoMemory-clause-tries : goal.returns-in-NoMemory-clause-tries
returns-in-NoMemory-clause-tries g c = λ t.
    let frame = c.remove_dir.ensures.frame in
    record { token = frame.token; steady = frame.faults.steady (λ fails. cc); call = call_at _ _ _ _ (λ s own h. h) (c.in-NoMemory.ensures.call t) }
