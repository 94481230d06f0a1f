-- Numbers that were opened are open.
use Rattle.std.proofs.Common.{◌≡◌, ℕ, true, cond, Bool, Some, is_some, ◌∙◌, ap, refl}
use Rattle.std.proofs.lemmas.Bool.Decides.{Decides-eqb}
use Rattle.jl_folder.specs.declared.moves.OpenFile.{OpenFile}
use Rattle.jl_folder.specs.State.{Opens, put_open}
use Rattle.jl_folder.specs.Calls.{OpensNew, IsMade, IsOpen}

pub put_here : (opens : Opens) (place : ℕ) (file : OpenFile) → put_open opens place file place ≡ Some file
put_here opens place file = ap (λ b. cond b (Some file) (opens place)) ((Decides-eqb place place).1 refl)

-- a number that `create` answered may be appended to
pub IsMade-new : (number : ℕ) (before after : Opens) → OpensNew true number before after → IsMade after number
IsMade-new number before after new = (new.file, ap (λ f. f number) new.opens ∙ put_here before number new.file, new.made_is)

-- a number that was answered may be read
pub IsOpen-new : (made : Bool) (number : ℕ) (before after : Opens) → OpensNew made number before after → IsOpen after number
IsOpen-new made number before after new = ap is_some (ap (λ f. f number) new.opens ∙ put_here before number new.file)
