-- What a cached call answers, beside any other runs.
use Rattle.std.specs.Prelude.{◌≡◌, ◌⊎◌, ℕ, ⊤}
use Rattle.jl_text.specs.Counts.{Rose}
use Rattle.jl_folder.specs.State.{AtSome}
use Rattle.jl_folder.specs.Views.{FolderView, state, moved}
use Rattle.jl_value.specs.Form.{tree_of}
use Rattle.jl_value.specs.Library.{Answer, value, error, next_count}
use Rattle.jl_store.specs.Asked.{Asked, output_asked}
use Rattle.jl_store.specs.Looking.{FindsAsked, Missing, IsMissing, StandsWith, HadNone}
use Rattle.jl_store.specs.declared.found.Found.TheVariants as found
use Rattle.jl_store.specs.declared.cached.Cached.{Cached}
use Rattle.jl_store.specs.declared.cached.Cached.TheVariants.{Hit, Computed, Error, NoMemory}

-- a value or an error is the library's answer; of a value that was found this rests on the folder
abbrev pub IsAnswer : Cached → Answer → (trusted : Type 0) → Type 0
IsAnswer (Hit v) a trusted = trusted → a ≡ value (tree_of v)
IsAnswer (Computed v) a trusted = a ≡ value (tree_of v)
IsAnswer (Error e) a trusted = a ≡ error e
IsAnswer NoMemory a trusted = ⊤

-- the library's count rises by one exactly where the function was called
abbrev pub CountsCall : Cached → ℕ → ℕ → Type 0
CountsCall (Hit v) old new = new ≡ old
CountsCall (Computed v) old new = new ≡ next_count old
CountsCall (Error e) old new = new ≡ next_count old
CountsCall NoMemory old new = (new ≡ old) ⊎ (new ≡ next_count old)

-- what a call of the function answers, and its count: it rises where the function answered
abbrev pub IsMissed : Cached → Answer → (calls calls' : ℕ) → Type 0
IsMissed (Hit v) a old new = ⊥
IsMissed (Computed v) a old new = (a ≡ value (tree_of v)) × (new ≡ next_count old)
IsMissed (Error e) a old new = (a ≡ error e) × (new ≡ next_count old)
IsMissed NoMemory a old new = (new ≡ old) ⊎ (new ≡ next_count old)

-- Why a value was found or the function was called, whatever others do: an output with the value was opened; or there was none, the output was
-- another's entry or none at all, or a fault rose.
abbrev pub ComesBy : Cached → Asked → FolderView → FolderView → Type 0
ComesBy (Hit v) a old new = FindsAsked a (found.Value v) old new
ComesBy (Computed v) a old new = (why : Missing) × IsMissing why a old new
ComesBy (Error e) a old new = (why : Missing) × IsMissing why a old new
ComesBy NoMemory a old new = ⊤

-- The same beside runs whose steps are proper: the value stood at one step; or no entry of this code and these arguments did, or a fault rose.
abbrev pub ComesTidy : Cached → Asked → FolderView → FolderView → Type 0
ComesTidy (Hit v) a old new = AtSome (state old) (moved old new) (StandsWith (output_asked a) a.code a.args (tree_of v))
ComesTidy (Computed v) a old new = HadNone a old new ⊎ Rose old.faults new.faults
ComesTidy (Error e) a old new = HadNone a old new ⊎ Rose old.faults new.faults
ComesTidy NoMemory a old new = ⊤
