-- What the parts of a cached call leave where no other moved and no fault rose.
use Rattle.std.proofs.Common.{◌≡◌, ◌≢◌, ◌⊎◌, inl, inr, ⊎_elim, ℕ, true, not, List, [], ◌∷◌, Option, None, Some, is_some, refl, sym, ap, subst, ◌∙◌}
use Rattle.jl_text.specs.Paths.{PathView, parent, is_fixed}
use Rattle.jl_text.specs.Counts.{Rose}
use Rattle.jl_streams.specs.Moments.{moment_of, moments_after}
use Rattle.jl_streams.specs.Views.{HostView}
use Rattle.jl_folder.specs.declared.moves.Place.{Place}
use Rattle.jl_folder.specs.State.{State, Trace, AtSome, place_at, is_folder, bytes_of}
use Rattle.jl_folder.specs.Views.{FolderView, state, moved}
use Rattle.jl_folder.specs.Calls.{Waits}
use Rattle.jl_folder.specs.declared.moves.Move.{Move}
use Rattle.jl_value.specs.Form.{tree_of}
use Rattle.jl_value.specs.declared.value.Value.{Value}
use Rattle.jl_value.specs.declared.library.TaskError.{TaskError}
use Rattle.jl_entry.specs.Moments.{access_text}
use Rattle.jl_entry.specs.declared.names.EntryFile.TheVariants.{Output, Access}
use Rattle.jl_entry.specs.Codes.{code_text}
use Rattle.jl_rely.specs.Steps.{StepFact, AllSteps, IsLone}
use Rattle.jl_rely.specs.Claims.{GoesOn, Called, Anywhere}
use Rattle.jl_rely.specs.Touches.{TouchedByOther}
use Rattle.jl_rely.proofs.Since.{state_after}
use Rattle.jl_rely.proofs.Traces.{AllSteps-weaken}
use Rattle.jl_protocol.specs.Proper.{IsProper, IsLawful}
use Rattle.jl_protocol.specs.Tidy.{IsTidy, IsSound}
use Rattle.jl_protocol.specs.Whole.{CodeAnswers}
use Rattle.jl_protocol.proofs.Kills.{tidy_at_end}
use Rattle.jl_clear.proofs.Listings.{no_moves}
use Rattle.jl_store.specs.Warned.{IsOrderly, UsesCall, IsCaused, AreCaused, Warns, AreOthers, WarnsOfOthers}
use Rattle.jl_store.specs.Publishing.{IsPublished}
use Rattle.jl_store.specs.Checking.{function_path, code_path, code_temp}
use Rattle.jl_store.specs.declared.checks.CodeCheck.{CodeCheck}
use Rattle.jl_store.specs.declared.checks.CodeCheck.TheVariants as check
use Rattle.jl_store.specs.Keeping.{HasEntry, last_of, temp_of, texts}
use Rattle.jl_store.specs.Asked.{Asked, output_asked}
use Rattle.jl_store.specs.Looking.{StandsWith, HasEntryOf, HadNone, LooksTidy}
use Rattle.jl_store.specs.Next.{entry_asked, AnswersAlone, AfterCheck, ChecksAlone, LeavesNext, AreTimed, LeftAfter}
use Rattle.jl_store.specs.Parts.{HasFolder}
use Rattle.jl_store.specs.declared.answer.Keep.{Keep}
use Rattle.jl_store.specs.declared.answer.Keep.TheVariants as keep
use Rattle.jl_store.specs.declared.cached.Cached.{Cached}
use Rattle.jl_store.specs.declared.cached.Cached.TheVariants.{Hit, Computed, Error, NoMemory}
use Rattle.jl_store.specs.declared.found.Look.TheVariants as look
use Rattle.jl_store.specs.declared.memory.Warning.{Warning}
use Rattle.jl_store.specs.declared.memory.WarnKind.{WarnKind}
use Rattle.jl_store.specs.declared.memory.WarnKind.TheVariants.{LoadFault, StoreFault, NotMine, Damaged, Skipped}
use Rattle.jl_store.proofs.Lawfully.{Lawfully}
use Rattle.jl_store.proofs.LoneMoves.{lone_untouched}
use Rattle.jl_store.proofs.CodeAlone.{lone_owed}
use Rattle.jl_store.proofs.SkipCauses.{and_second}
use Rattle.jl_store.proofs.EntryNames.{last_parent, last_free}

-- ---- no steps

no_steps : (P : StepFact) (s : State) → AllSteps P s []
unfolding AllSteps
no_steps P s = tt

at_none : (s : State) (P : State → Type 0) → AtSome s [] P → P s
at_none s P ([], later, split, holds) = holds
at_none s P (e ∷ es, later, split, holds) = absurd cc

-- ---- keeping

pub kept_alone : (k : Keep) → k ≢ keep.NoMemory → (k ≡ keep.Skipped → ⊥) → (k ≡ keep.Fault → ⊥) → k ≡ keep.Kept
kept_alone keep.Kept memory skipped fault = refl
kept_alone keep.Skipped memory skipped fault = absurd (skipped refl)
kept_alone keep.Fault memory skipped fault = absurd (fault refl)
kept_alone keep.NoMemory memory skipped fault = absurd (memory refl)

-- ---- a look

module _ (a : Asked) (s : State) where
  some_place : (o : Option Place) (bytes : List ℕ) → bytes_of s o ≡ Some bytes → is_some o ≡ true
  some_place None bytes e = absurd cc
  some_place (Some k) bytes e = refl

  -- where an entry stands, its folder does
  pub stands_in : (v : Value) → IsTidy a.root s → StandsWith (output_asked a) a.code a.args (tree_of v) s → HasFolder a s
  stands_in v tidy stands =
      let free = last_free (entry_asked a) Output in
      let has = tidy.state.parents (output_asked a) free (some_place (place_at s (output_asked a)) stands.0 stands.1) in
      ap (is_folder s) (sym (last_parent (entry_asked a) Output)) ∙ and_second (not (is_fixed (output_asked a))) (is_folder s (parent (output_asked a))) has

-- a look during which no other moved
module _ (a : Asked) (ws ws' : List Warning) (old new : FolderView) (waits : Waits old new) (lone : IsLone old.token (moved old new)) (tidy : IsTidy a.root (state old)) where
  none : moved old new ≡ []
  none = no_moves old new waits lone

  orderly : IsOrderly a.root old new
  orderly = (tidy, subst (AllSteps (IsProper a.root) (state old)) (sym none) (no_steps (IsProper a.root) (state old)))

  -- a value that was found is that of the entry that stands
  pub look_hit : (v : Value) → (IsOrderly a.root old new → LooksTidy (look.Hit v) a ws ws' old new) → StandsWith (output_asked a) a.code a.args (tree_of v) (state old)
  look_hit v looks =
      at_none (state old) (StandsWith (output_asked a) a.code a.args (tree_of v)) (subst (λ (xs : Trace). AtSome (state old) xs (StandsWith (output_asked a) a.code a.args (tree_of v))) none (looks orderly))

  -- where none was found, none stands
  pub look_miss : (IsOrderly a.root old new → LooksTidy look.Miss a ws ws' old new) → (Rose old.faults new.faults → ⊥) → HasEntryOf (output_asked a) a.code a.args (state old) → ⊥
  look_miss looks rose =
      ⊎_elim
      (λ (at : HadNone a old new).
      at_none (state old) (λ (u : State). HasEntryOf (output_asked a) a.code a.args u → ⊥) (subst (λ (xs : Trace). AtSome (state old) xs (λ (u : State). HasEntryOf (output_asked a) a.code a.args u → ⊥)) none at))
      (λ (r : Rose old.faults new.faults). absurd (rose r))
      (looks orderly).0

-- ---- an answer

-- what an answer leaves, with its moments
abbrev pub LeavesAnswer : Cached → Asked → State → State → HostView → Type 0
LeavesAnswer r a s t host = (duration : ℕ) × (moment : ℕ) × AnswersAlone r a duration moment s t × (host.told → AreTimed r duration moment host)

module _ (a : Asked) (s t : State) (host : HostView) where
  pub memory_leaves : LeavesAnswer NoMemory a s t host
  memory_leaves = (0, 0, tt, λ is. tt)

  pub found_leaves : (r : Cached) (v : Value) → (r ≡ Hit v) ⊎ (r ≡ NoMemory) → StandsWith (output_asked a) a.code a.args (tree_of v) s
      → (r ≡ Hit v → (moment : ℕ) × IsPublished (last_of (entry_asked a) Access) (temp_of (entry_asked a) a.token Access) (access_text moment) s t × (host.told → moment ≡ moment_of host.moments))
      → LeavesAnswer r a s t host
  found_leaves r v (inl e) stands alone = let h = alone e in subst (λ (k : Cached). LeavesAnswer k a s t host) (sym e) (0, h.0, (stands, h.1), h.2)
  found_leaves r v (inr e) stands alone = subst (λ (k : Cached). LeavesAnswer k a s t host) (sym e) memory_leaves

  pub computed_leaves : (r : Cached) (v : Value) (duration moment : ℕ) → (r ≡ Computed v) ⊎ (r ≡ NoMemory) → (HasEntryOf (output_asked a) a.code a.args s → ⊥)
      → (r ≡ Computed v → HasEntry (entry_asked a) a.token (texts a.code a.args (tree_of v) duration moment) s t)
      → (host.told → AreTimed (Computed v) duration moment host)
      → LeavesAnswer r a s t host
  computed_leaves r v duration moment (inl e) stands alone timed = subst (λ (k : Cached). LeavesAnswer k a s t host) (sym e) (duration, moment, (stands, alone e), timed)
  computed_leaves r v duration moment (inr e) stands alone timed = subst (λ (k : Cached). LeavesAnswer k a s t host) (sym e) memory_leaves

pub error_leaves : (a : Asked) (s : State) (host : HostView) (e : TaskError) → (HasEntryOf (output_asked a) a.code a.args s → ⊥) → LeavesAnswer (Error e) a s s host
error_leaves a s host e stands = (0, 0, (stands, λ p unused. (refl, refl)), λ is. tt)

-- how many moments are left
pub found_clock : (r : Cached) (v : Value) (old new : HostView) → (r ≡ Hit v) ⊎ (r ≡ NoMemory) → new.moments ≡ moments_after old.moments → LeftAfter r old new
found_clock r v old new (inl e) left = subst (λ (k : Cached). LeftAfter k old new) (sym e) left
found_clock r v old new (inr e) left = subst (λ (k : Cached). LeftAfter k old new) (sym e) tt

pub computed_clock : (r : Cached) (v : Value) (old new : HostView) → (r ≡ Computed v) ⊎ (r ≡ NoMemory) → new.moments ≡ moments_after (moments_after old.moments) → LeftAfter r old new
computed_clock r v old new (inl e) left = subst (λ (k : Cached). LeftAfter k old new) (sym e) left
computed_clock r v old new (inr e) left = subst (λ (k : Cached). LeftAfter k old new) (sym e) tt

-- ---- the whole

-- a check without a fault, where no other moved
pub after_check : (a : Asked) (c : CodeCheck) (s t : State) → c ≢ check.NoMemory → ((c ≡ check.LoadFault) ⊎ (c ≡ check.StoreFault) → ⊥)
    → ChecksAlone c (function_path a.root a.module_name a.function_name) (code_path a.root a.module_name a.function_name) (code_temp a.root a.module_name a.function_name a.token) a.code (code_text a.code a.line) s t → AfterCheck a s t
after_check a check.Same s t memory fault checks = (check.Same, inl refl, checks)
after_check a check.Written s t memory fault checks = (check.Written, inr (inl refl), checks)
after_check a check.Cleared s t memory fault checks = (check.Cleared, inr (inr refl), checks)
after_check a check.Skipped s t memory fault checks = absurd checks
after_check a check.LoadFault s t memory fault checks = absurd (fault (inl refl))
after_check a check.StoreFault s t memory fault checks = absurd (fault (inr refl))
after_check a check.NoMemory s t memory fault checks = absurd (memory refl)

pub leaves_next : (a : Asked) (r : Cached) (duration moment : ℕ) (s u t : State) → AfterCheck a s u → AnswersAlone r a duration moment u t → LeavesNext r a duration moment s t
leaves_next a (Hit v) duration moment s u t checked answered = (u, checked, answered)
leaves_next a (Computed v) duration moment s u t checked answered = (u, checked, answered)
leaves_next a (Error e) duration moment s u t checked answered = (u, checked, answered)
leaves_next a NoMemory duration moment s u t checked answered = tt

-- for want of memory nothing is claimed
pub nothing_next : (a : Asked) (s t : State) (host : HostView) → (duration : ℕ) × (moment : ℕ) × LeavesNext NoMemory a duration moment s t × (host.told → AreTimed NoMemory duration moment host)
nothing_next a s t host = (0, 0, tt, λ is. tt)

-- a call that is proper throughout leaves a tidy state tidy, where no other moved
pub lone_orderly : (root : PathView) (Owed : StepFact) (Kinds : Move → Type 0) (old new : FolderView) → ((t : List ℕ) (s : State) (m : Move) → Owed t s m → IsProper root t s m)
    → Called (IsProper root) Owed Kinds (IsTidy root) Anywhere old new → IsLone old.token (moved old new) → IsTidy root (state old) → IsOrderly root old new
lone_orderly root Owed Kinds old new proper call lone tidy = (
  tidy,
  lone_owed (IsProper root) Owed old.token proper (state old) (moved old new) lone (call.owes tidy),
)

pub tidy_after : (root : PathView) (old new : FolderView) → GoesOn old new → IsOrderly root old new → IsTidy root (state new)
tidy_after root old new goes orderly = subst (IsTidy root) (sym (state_after old new goes)) (tidy_at_end root (state old) (moved old new) goes.lawful orderly.1 orderly.0)

-- ---- warnings

module _ (a : Asked) (old new : FolderView) (told : old.told) (orderly : IsOrderly a.root old new) (untouched : TouchedByOther a.token (UsesCall a) (moved old new) → ⊥) (rose : Rose old.faults new.faults → ⊥) where
  one_other : (k : WarnKind) → IsCaused k a old new → k ≡ NotMine
  one_other LoadFault caused = absurd (rose caused)
  one_other StoreFault caused = absurd (rose caused)
  one_other NotMine caused = refl
  one_other Damaged caused = absurd (caused.1 told orderly)
  one_other Skipped caused = absurd (⊎_elim (λ (t : TouchedByOther a.token (UsesCall a) (moved old new)). untouched t) (λ (r : Rose old.faults new.faults). rose r) (caused told orderly))

  all_others : (ws : List Warning) → AreCaused ws a old new → AreOthers ws
  unfolding AreCaused AreOthers
  all_others [] caused = tt
  all_others (w ∷ ws) caused = (one_other w.kind caused.0.2, all_others ws caused.1)

-- where no other moved and no fault rose, a call that is lawful throughout warns of others' entries alone
pub lone_warns : (a : Asked) (answer : CodeAnswers) (Kinds : Move → Type 0) (old new : FolderView) (ws ws' : List Warning) → old.token ≡ a.token → old.told → Warns a ws ws' old new → Lawfully a.root answer Kinds old new
    → IsLone old.token (moved old new) → IsSound a.root answer (state old) → (Rose old.faults new.faults → ⊥) → WarnsOfOthers ws ws'
lone_warns a answer Kinds old new ws ws' same told warns lawful lone sound rose =
    let all = lone_owed (IsLawful a.root answer) (IsLawful a.root answer) old.token (λ t s m owed. owed) (state old) (moved old new) lone (lawful.owes sound) in
    let orderly : IsOrderly a.root old new = (sound.tidy, AllSteps-weaken (IsLawful a.root answer) (IsProper a.root) (λ t s m given. given.0) (state old) (moved old new) all) in
    let lone' = subst (λ (u : List ℕ). IsLone u (moved old new)) same lone in
    (warns.0, warns.1, all_others a old new told orderly (lone_untouched a.token (UsesCall a) (moved old new) lone') rose warns.0 warns.2)
