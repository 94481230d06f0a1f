-- Why a part of a cached call warns.
use Rattle.std.specs.Prelude.{◌≡◌, ◌⊎◌, ℕ, true, List, [], ◌∷◌, ◌++◌, ⊤}
use Rattle.jl_text.specs.Counts.{Rose}
use Rattle.jl_folder.specs.State.{State, is_folder}
use Rattle.jl_folder.specs.Views.{FolderView, state, moved}
use Rattle.jl_value.specs.Key.{key_of}
use Rattle.jl_value.specs.declared.key.Key.{Key}
use Rattle.jl_rely.specs.Touches.{TouchedByOther}
use Rattle.jl_store.specs.Asked.{Asked}
use Rattle.jl_store.specs.Keeping.{entry_path, function_path}
use Rattle.jl_store.specs.Next.{entry_asked}
use Rattle.jl_store.specs.Warned.{IsOrderly, UsesCall, IsCaused}
use Rattle.jl_store.specs.declared.answer.Keep.{Keep}
use Rattle.jl_store.specs.declared.answer.Keep.TheVariants as keep
use Rattle.jl_store.specs.declared.checks.CodeCheck.{CodeCheck}
use Rattle.jl_store.specs.declared.checks.CodeCheck.TheVariants as check
use Rattle.jl_store.specs.declared.memory.WarnKind.{WarnKind}
use Rattle.jl_store.specs.declared.memory.WarnKind.TheVariants.{LoadFault, StoreFault, NotMine, Damaged, Skipped}
use Rattle.jl_store.specs.declared.memory.Warning.{Warning}

-- ---- warnings

-- what an answer of `keep` or `touch` warns of
abbrev pub keep_warns : Keep → List ℕ → Key → List Warning
keep_warns keep.Kept f key = []
keep_warns keep.Skipped f key = record { kind = Skipped; name = f; key = key } ∷ []
keep_warns keep.Fault f key = record { kind = StoreFault; name = f; key = key } ∷ []
keep_warns keep.NoMemory f key = []

-- what an answer of `check_code` warns of
abbrev pub check_warns : CodeCheck → List ℕ → Key → List Warning
check_warns check.Same f key = []
check_warns check.Written f key = []
check_warns check.Cleared f key = []
check_warns check.Skipped f key = record { kind = Skipped; name = f; key = key } ∷ []
check_warns check.LoadFault f key = record { kind = LoadFault; name = f; key = key } ∷ []
check_warns check.StoreFault f key = record { kind = StoreFault; name = f; key = key } ∷ []
check_warns check.NoMemory f key = []

-- each is on this name and this key, and has its cause
unfoldable pub AreWarned : (Caused : WarnKind → Type 0) → (name key : List ℕ) → List Warning → Type 0
AreWarned Caused f key [] = ⊤
AreWarned Caused f key (w ∷ ws) = ((w.name ≡ f) × (w.key.0 ≡ key) × Caused w.kind) × AreWarned Caused f key ws

-- ---- their causes

-- the function's folder is there
abbrev pub HasFunction : Asked → State → Type 0
HasFunction a s = is_folder s (function_path (entry_asked a)) ≡ true

-- the entry's folder is there
abbrev pub HasFolder : Asked → State → Type 0
HasFolder a s = is_folder s (entry_path (entry_asked a)) ≡ true

-- the causes in a part of a call: a skip has its own where the part was begun with Ready
abbrev pub IsCausedFrom : (Ready : State → Type 0) → WarnKind → Asked → FolderView → FolderView → Type 0
IsCausedFrom Ready LoadFault a old new = IsCaused LoadFault a old new
IsCausedFrom Ready StoreFault a old new = IsCaused StoreFault a old new
IsCausedFrom Ready NotMine a old new = IsCaused NotMine a old new
IsCausedFrom Ready Damaged a old new = IsCaused Damaged a old new
IsCausedFrom Ready Skipped a old new =
    old.told → IsOrderly a.root old new → Ready (state old) → TouchedByOther a.token (UsesCall a) (moved old new) ⊎ Rose old.faults new.faults

-- a part of a call added these warnings
abbrev pub WarnsFrom : (Ready : State → Type 0) → Asked → (warnings warnings' : List Warning) → FolderView → FolderView → Type 0
WarnsFrom Ready a ws ws' old new =
    (added : List Warning) × (ws' ≡ ws ++ added) × AreWarned (λ kind. IsCausedFrom Ready kind a old new) a.function_name (key_of a.args) added
