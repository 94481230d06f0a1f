-- Why a cached call warns.
use Rattle.std.specs.Prelude.{◌≡◌, ◌⊎◌, List, [], ◌∷◌, ◌++◌, ⊤}
use Rattle.jl_text.specs.Paths.{PathView}
use Rattle.jl_text.specs.Counts.{Rose}
use Rattle.jl_folder.specs.Views.{FolderView, state, moved}
use Rattle.jl_value.specs.Key.{key_of}
use Rattle.jl_rely.specs.Steps.{AllSteps}
use Rattle.jl_rely.specs.Touches.{TouchedByOther}
use Rattle.jl_protocol.specs.Tidy.{IsTidy}
use Rattle.jl_protocol.specs.Proper.{IsProper}
use Rattle.jl_store.specs.Asked.{Asked}
use Rattle.jl_store.specs.Checking.{UsesCode, function_path, code_path, code_temp}
use Rattle.jl_store.specs.Keeping.{UsesEntry}
use Rattle.jl_store.specs.Looking.{FindsAsked}
use Rattle.jl_store.specs.Next.{entry_asked}
use Rattle.jl_store.specs.declared.found.Found.TheVariants as found
use Rattle.jl_store.specs.declared.memory.WarnKind.{WarnKind}
use Rattle.jl_store.specs.declared.memory.WarnKind.TheVariants.{LoadFault, StoreFault, NotMine, Damaged, Skipped}
use Rattle.jl_store.specs.declared.memory.Warning.{Warning}

-- the state was tidy, and every step since was proper
abbrev pub IsOrderly : PathView → FolderView → FolderView → Type 0
IsOrderly root old new = IsTidy root (state old) × AllSteps (IsProper root) (state old) (moved old new)

-- the names that a call uses: those of its code, and those of its entry
abbrev pub UsesCall : Asked → PathView → Type 0
UsesCall a p =
    UsesCode (function_path a.root a.module_name a.function_name) (code_path a.root a.module_name a.function_name) (code_temp a.root a.module_name a.function_name a.token) p
    ⊎ UsesEntry (entry_asked a) a.token p

-- What a warning of this kind comes from. A fault of the folder rose. Or at one step the output was another's entry, or none at all, which
-- never is where all keep order. Or another made or removed a name that the call uses, where all keep order.
abbrev pub IsCaused : WarnKind → Asked → FolderView → FolderView → Type 0
IsCaused LoadFault a old new = Rose old.faults new.faults
IsCaused StoreFault a old new = Rose old.faults new.faults
IsCaused NotMine a old new = FindsAsked a found.NotMine old new
IsCaused Damaged a old new = FindsAsked a found.Damaged old new × (old.told → IsOrderly a.root old new → ⊥)
IsCaused Skipped a old new = old.told → IsOrderly a.root old new → TouchedByOther a.token (UsesCall a) (moved old new) ⊎ Rose old.faults new.faults

-- each of these warnings is on this call, and has its cause
unfoldable pub AreCaused : List Warning → Asked → FolderView → FolderView → Type 0
AreCaused [] a old new = ⊤
AreCaused (w ∷ ws) a old new = ((w.name ≡ a.function_name) × (w.key.0 ≡ key_of a.args) × IsCaused w.kind a old new) × AreCaused ws a old new

-- a call added these warnings
abbrev pub Warns : Asked → (warnings warnings' : List Warning) → FolderView → FolderView → Type 0
Warns a ws ws' old new = (added : List Warning) × (ws' ≡ ws ++ added) × AreCaused added a old new

-- each of these is of an entry of another code or of other arguments
unfoldable pub AreOthers : List Warning → Type 0
AreOthers [] = ⊤
AreOthers (w ∷ ws) = (w.kind ≡ NotMine) × AreOthers ws

-- a call added no warnings but such
abbrev pub WarnsOfOthers : (warnings warnings' : List Warning) → Type 0
WarnsOfOthers ws ws' = (added : List Warning) × (ws' ≡ ws ++ added) × AreOthers added
