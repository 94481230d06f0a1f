use Rattle.std.proofs.Common.{inl, inr}
use Rattle.jl_tracker.proofs.RemovalLemmas.{call_at}
use Rattle.jl_tracker.proofs.removing.try_file.Goals as goal

pub returns-in-Done-clause-tries : goal.returns-in-Done-clause-tries
returns-in-Done-clause-tries g c = λ t.
    let frame = c.remove.ensures.frame in
    record { token = frame.token; later = frame.faults.later; call = call_at _ _ _ _ (λ s own h. (h.0, h.1, frame.faults.steady (λ fails. cc))) (c.in-Done.ensures.call t) }

pub returns-in-NoFile-clause-tries : goal.returns-in-NoFile-clause-tries
returns-in-NoFile-clause-tries g c = λ t.
    let frame = c.remove.ensures.frame in
    record { token = frame.token; later = frame.faults.later; call = call_at _ _ _ _ (λ s own h. inl (h.0, h.1, frame.faults.steady (λ fails. cc))) (c.in-NoFile.ensures.call t) }

pub returns-in-Failed-clause-tries : goal.returns-in-Failed-clause-tries
returns-in-Failed-clause-tries g c = λ t.
    let frame = c.remove.ensures.frame in
    record { token = frame.token; later = frame.faults.later; call = call_at _ _ _ _ (λ s own h. inr (frame.faults.failed c.in-Failed.is, h)) (c.in-Failed.ensures.call t) }

pub returns-in-NoMemory-clause-tries : goal.returns-in-NoMemory-clause-tries
returns-in-NoMemory-clause-tries g c = λ t.
    let frame = c.remove.ensures.frame in
    record { token = frame.token; steady = frame.faults.steady (λ fails. cc); call = call_at _ _ _ _ (λ s own h. h) (c.in-NoMemory.ensures.call t) }
