-- What a run rests on and owes, over its cache folder.
use Rattle.std.proofs.Common.{◌≡◌, ◌∙◌, ℕ, List, [], ◌∷◌, ◌++◌, append_assoc, arith, suc, Bool, true, false, cond, Option, Some, None, IsSome, IsTrue, refl, sym, ap, subst}
use Rattle.std.specs.Prelude.{◌+◌, ◌<◌, length, take}
use Rattle.std.proofs.Math.ListN.{get_or}
use Rattle.std.proofs.Math.Seq.{take-suc}
use Rattle.std.specs.Option.{option_and_then}
use Rattle.jl_text.specs.Paths.{PathView, last_part}
use Rattle.jl_text.specs.Texts.{is_name}
use Rattle.jl_protocol.proofs.Before.{one_value, some_not_none, some_of}
use Rattle.jl_store.specs.declared.memory.Warning.{Warning}
use Rattle.jl_store.specs.Warnings.{warning_text}
use Rattle.jl_cmd.specs.Texts.{warning_lines}
use Rattle.jl_cmd.specs.Course.{Course}
use Rattle.jl_folder.specs.State.{Trace}
use Rattle.jl_folder.specs.Views.{FolderView, state, moved}
use Rattle.jl_folder.specs.Reading.{ReadsNamed}
use Rattle.jl_rely.specs.Claims.{GoesOn}
use Rattle.jl_rely.proofs.Since.{moved_then}
use Rattle.jl_rely.proofs.Traces.{with_others}
use Rattle.jl_rely.proofs.Touched.{same_token}
use Rattle.jl_entry.specs.Names.{root_of}
use Rattle.jl_protocol.specs.Proper.{IsLawful, LawfulThroughout}
use Rattle.jl_words.specs.ModuleNames.{stem_of, name_of, module_name_of}
use Rattle.jl_words.specs.Settings.{settings_of}
use Rattle.jl_words.proofs.Settled.{all_named}
use Rattle.jl_words.proofs.Targeted.{all_targets}
use Rattle.jl_words.specs.declared.types.Settings.{Settings}
use Rattle.jl_words.specs.declared.types.Settings.TheVariants.{Call, Hash, Parallel, Session, Clear, ReduceSize, Worker, Tracker, Gen}
use Rattle.jl_cmd.specs.Commands.{call, command_of}
use Rattle.jl_cmd.specs.Needs.{needs_of, GivenHasModule}
use Rattle.jl_cmd.specs.Premise.{Premise}
use Rattle.jl_cmd.specs.Caches.{CallsIn}
use Rattle.jl_store.specs.Trust.{IsTrusted}
use Rattle.jl_cmd.specs.Endings.{ReadFrom}

-- where others keep their rules and this call its own, the cache may be trusted
pub trusting : (file location : PathView) (name args : List ℕ) (w : Course) → Premise (needs_of (call file location name args)) w → (w.folder.told → CallsIn file location name w.means.answer w.folder w.folder') → IsTrusted (root_of location) w.means.answer w.folder w.folder'
unfolding LawfulThroughout
trusting file location name args w theirs mine =
    let P = IsLawful (root_of location) w.means.answer in
    (theirs.told, theirs.sound, with_others P w.folder.token (state w.folder) (moved w.folder w.folder') (λ t. same_token t w.folder.token) ((mine theirs.told).lawful theirs.sound) theirs.others)

-- ---- the module file of a command

-- settings have their module's name
pub has_module : (words : List (List ℕ)) (cpus : ℕ) (s : Settings) → settings_of words cpus ≡ Some s → GivenHasModule (command_of s)
has_module words cpus (Call file location name args) is = all_named words cpus (Call file location name args) is file refl
has_module words cpus (Hash args) is = tt
has_module words cpus (Parallel file location jobs backend window batch mode most temp) is = tt
has_module words cpus (Session file location) is = tt
has_module words cpus (Clear location m f key) is = all_targets words cpus (Clear location m f key) is
has_module words cpus (ReduceSize location limits) is = tt
has_module words cpus Worker is = tt
has_module words cpus Tracker is = tt
has_module words cpus (Gen location start count) is = tt

chosen : {A : Type 0} (b : Bool) (x y z : A) → (P : A → Type 0) → (b ≡ true → P x) → (b ≡ false → P y) → cond b x y ≡ z → P z
chosen true x y z P f g e = subst P e (f refl)
chosen false x y z P f g e = subst P e (g refl)

-- ---- a module's name

some_same : (t n : List ℕ) → Some t ≡ Some n → t ≡ n
some_same t n e = one_value (Some t) t n refl e

some_name : (t n : List ℕ) → name_of t ≡ Some n → is_name n ≡ true
some_name t n =
    chosen (is_name t) (Some t) None (name_of t) (λ (o : Option (List ℕ)). o ≡ Some n → is_name n ≡ true)
    (λ good e. subst (λ (x : List ℕ). is_name x ≡ true) (some_same t n e) good)
    (λ bad e. absurd (some_not_none (Some n) n refl (sym e)))
    refl

named_part : (o : Option (List ℕ)) (n : List ℕ) → option_and_then name_of o ≡ Some n → is_name n ≡ true
named_part None n e = absurd (some_not_none (Some n) n refl (sym e))
named_part (Some t) n e = some_name t n e

-- the name of a module is a name
pub named_module : (file : PathView) (n : List ℕ) → module_name_of file ≡ Some n → is_name n ≡ true
named_module file n e = named_part (option_and_then stem_of (last_part file)) n e

-- ---- warnings

-- one line more
pub lines-snoc : (m : List ℕ) (ws : List Warning) (w : Warning) → warning_lines m (ws ++ w ∷ []) ≡ warning_lines m ws ++ (warning_text m w ++ (10 ∷ []))
lines-snoc m [] w = refl
lines-snoc m (x ∷ xs) w =
    ap (λ (t : List ℕ). warning_text m x ++ (10 ∷ t)) (lines-snoc m xs w)
    ∙ sym (append_assoc (warning_text m x) (10 ∷ warning_lines m xs) (warning_text m w ++ (10 ∷ [])))

-- the name of a function that is defined is a name
pub defined_named : (code : List ℕ → List ℕ → Option (List ℕ)) → ((m n c : List ℕ) → code m n ≡ Some c → IsTrue (is_name n)) → (m n : List ℕ) → IsSome (code m n) → IsTrue (is_name n)
defined_named code law m n is = let h = some_of (code m n) is in law m n h.0 h.1

-- what was read in a first call was read in both
pub reads_over : (path : PathView) (m bytes : List ℕ) (old mid new : FolderView) → bytes ≡ m → GoesOn old mid → GoesOn mid new → ReadsNamed path 1048577 bytes (state old) (moved old mid) → ReadFrom path m old new
reads_over path m bytes old mid new is first second reads = subst (λ (k : List ℕ). ReadFrom path k old new) is go
  where
    go : ReadFrom path bytes old new
    go = record {
      before = reads.before;
      middle = reads.middle;
      later = reads.later ++ moved mid new;
      split =
          moved_then old mid new first second
          ∙ ap (λ (t : Trace). t ++ moved mid new) reads.split
          ∙ append_assoc reads.before (reads.middle ++ reads.later) (moved mid new)
          ∙ ap (λ (t : Trace). reads.before ++ t) (append_assoc reads.middle reads.later (moved mid new));
      node = reads.node;
      named = reads.named;
      view = reads.view;
      node_is = reads.node_is;
      has = reads.has;
    }

-- the lines as far as the next warning
pub lines-take : (m : List ℕ) (ws : List Warning) (i : ℕ) (w : Warning) (t : List ℕ) → w ≡ get_or ws i w → i < length ws → t ≡ (warning_lines m (take i ws) ++ warning_text m w) ++ (10 ∷ []) → t ≡ warning_lines m (take (i + 1) ws)
lines-take m ws i w t is within said =
    let next : suc i ≡ i + 1 = omega arith in
    said
    ∙ append_assoc (warning_lines m (take i ws)) (warning_text m w) (10 ∷ [])
    ∙ sym (lines-snoc m (take i ws) w)
    ∙ ap (λ (x : Warning). warning_lines m (take i ws ++ x ∷ [])) is
    ∙ ap (warning_lines m) (sym (take-suc ws i w within))
    ∙ ap (λ (n : ℕ). warning_lines m (take n ws)) next
