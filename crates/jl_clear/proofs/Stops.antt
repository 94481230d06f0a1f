-- What the answer of a clearing that stopped tells.
use Rattle.std.proofs.Common.{◌≡◌, ◌∙◌, List, Option, Result, Err, refl, ap}
use Rattle.std.specs.Result.{IsErrAnd}
use Rattle.std.proofs.lemmas.Result.{err_from_is_err_and}
use Rattle.jl_folder.specs.declared.listing.Name.{Name}
use Rattle.jl_clear.specs.declared.removing.Clear.TheVariants as clear
use Rattle.jl_clear.specs.declared.stop.Stop.{Stop}
use Rattle.jl_clear.specs.declared.stop.Stop.TheVariants as stop
use Rattle.jl_clear.specs.Removing.{answer_of}

-- what is handed on is the stop that was met
pub err_is : {T : Type 0} (r : Result T Stop) (e : Stop) → IsErrAnd r (λ f. f ≡ e) → r ≡ Err e
err_is r e is = let p = err_from_is_err_and r is in p.1 ∙ ap Err p.2

-- it hasn't cleared
pub stop_undone : (e : Stop) → answer_of (Err e) ≡ clear.Cleared → ⊥
stop_undone stop.Fault done = cc
stop_undone stop.NoMemory done = cc

-- reading the names tells the fault that it tells
abbrev pub Reads : Type 0
Reads = Result (Option (List Name)) Stop

pub stop_told : (e : Stop) → answer_of (Err e) ≡ clear.Fault → ◌≡◌ {A = Reads} (Err e) (Err stop.Fault)
stop_told stop.Fault f = refl
stop_told stop.NoMemory f = cc

-- and the other way round
pub stop_tells : (e : Stop) → ◌≡◌ {A = Reads} (Err e) (Err stop.Fault) → answer_of (Err e) ≡ clear.Fault
stop_tells stop.Fault f = refl
stop_tells stop.NoMemory f = cc
