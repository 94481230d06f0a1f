-- What contracts see of a source, a sink and a host, each as one record, and what every call leaves of it.
use Rattle.std.specs.Prelude.{◌≡◌, ℕ, ◌≤◌, List}
use Rattle.jl_text.specs.Counts.{Faults}

-- a source: whether it tells which bytes it gives, the bytes that are left, and how many calls failed
pub record SourceView : Type 1 where
  pub told : Type 0
  pub left : List ℕ
  pub faults : ℕ

-- a sink: whether it tells which bytes it takes, the bytes that were written, and how many calls failed
pub record SinkView : Type 1 where
  pub told : Type 0
  pub written : List ℕ
  pub faults : ℕ

-- a host: whether it tells its moments, the token of the run, how many processors there are, and the moments that are left
pub record HostView : Type 1 where
  pub told : Type 0
  pub token : List ℕ
  pub processors : ℕ
  pub moments : List ℕ

-- a call of a source: who told goes on telling, and the count of faults rose exactly where it failed
pub record SourceAnswers (Fails : Type 0) (old new : SourceView) : Type 0 where
  pub told : old.told → new.told
  pub faults : Faults old.faults new.faults Fails

-- any number of calls of a source: who told goes on telling, and the count of faults never falls
pub record SourceKeeps (old new : SourceView) : Type 0 where
  pub told : old.told → new.told
  pub later : old.faults ≤ new.faults

-- a call of a sink: who told goes on telling, and the count of faults rose exactly where it failed
pub record SinkAnswers (Fails : Type 0) (old new : SinkView) : Type 0 where
  pub told : old.told → new.told
  pub faults : Faults old.faults new.faults Fails

-- any number of calls of a sink: who told goes on telling, and the count of faults never falls
pub record SinkKeeps (old new : SinkView) : Type 0 where
  pub told : old.told → new.told
  pub later : old.faults ≤ new.faults

-- any number of calls of a host: who told goes on telling, and its token and its processors stay
pub record HostKeeps (old new : HostView) : Type 0 where
  pub told : old.told → new.told
  pub token : new.token ≡ old.token
  pub processors : new.processors ≡ old.processors
