-- What a cached call puts in place is of its code, its arguments and one value.
use Rattle.std.proofs.Common.{◌≡◌, ◌⊎◌, inl, inr, ⊎_elim, ℕ, List, refl, sym, subst}
use Rattle.jl_text.specs.Paths.{PathView}
use Rattle.jl_streams.specs.Moments.{moment_of}
use Rattle.jl_streams.specs.Views.{HostView}
use Rattle.jl_folder.specs.declared.moves.Move.{Move}
use Rattle.jl_folder.specs.State.{State}
use Rattle.jl_folder.specs.Views.{FolderView}
use Rattle.jl_folder.specs.Calls.{Waits}
use Rattle.jl_value.specs.Form.{tree_of}
use Rattle.jl_value.specs.Key.{args_tree}
use Rattle.jl_value.specs.declared.value.Value.{Value}
use Rattle.jl_entry.specs.Codes.{code_text}
use Rattle.jl_entry.specs.Moments.{access_text}
use Rattle.jl_entry.specs.declared.names.EntryFile.{EntryFile}
use Rattle.jl_entry.specs.declared.names.EntryFile.TheVariants.{Access}
use Rattle.jl_rely.specs.Steps.{StepFact}
use Rattle.jl_rely.specs.Claims.{Called, Anywhere}
use Rattle.jl_rely.proofs.Composed.{carried_stable, waits_called, not_called, called_as, called_for, either_then}
use Rattle.jl_protocol.specs.Proper.{IsProper}
use Rattle.jl_protocol.specs.Tidy.{IsTidy}
use Rattle.jl_protocol.proofs.Kills.{tidy_carried}
use Rattle.jl_store.specs.Asked.{Asked}
use Rattle.jl_store.specs.Kinds.{IsFor, PutsThis}
use Rattle.jl_store.specs.Checking.{IsChecking, function_path, code_path, code_temp}
use Rattle.jl_store.specs.Keeping.{KeepsFile, PutsEntry, last_of, temp_of, texts}
use Rattle.jl_store.specs.Next.{entry_asked, AreTimed}
use Rattle.jl_store.specs.Calling.{IsAnswering, IsCalling, IsValueKept, PutsCall, PutsOneValue, PutsAnswer, PutsFiles}
use Rattle.jl_store.specs.declared.answer.Keep.{Keep}
use Rattle.jl_store.specs.declared.cached.Cached.{Cached}
use Rattle.jl_store.specs.declared.cached.Cached.TheVariants.{Hit, Computed, NoMemory}
use Rattle.jl_store.proofs.KeepFacts.{renames_file}
use Rattle.jl_store.proofs.CallMoves.{found_kinds, checking_kinds, answering_kinds}

-- what is kept where nothing was computed
found_kept : (r : Cached) (v : Value) → (r ≡ Hit v) ⊎ (r ≡ NoMemory) → IsValueKept r (tree_of v)
found_kept r v (inl is) = subst (λ (k : Cached). IsValueKept k (tree_of v)) (sym is) tt
found_kept r v (inr is) = subst (λ (k : Cached). IsValueKept k (tree_of v)) (sym is) tt

computed_kept : (r : Cached) (v : Value) → (r ≡ Computed v) ⊎ (r ≡ NoMemory) → IsValueKept r (tree_of v)
computed_kept r v (inl is) = subst (λ (k : Cached). IsValueKept k (tree_of v)) (sym is) refl
computed_kept r v (inr is) = subst (λ (k : Cached). IsValueKept k (tree_of v)) (sym is) tt

found_timed : (r : Cached) (v : Value) (moment : ℕ) (host : HostView) → (r ≡ Hit v) ⊎ (r ≡ NoMemory) → moment ≡ moment_of host.moments → AreTimed r 0 moment host
found_timed r v moment host (inl is) timed = subst (λ (k : Cached). AreTimed k 0 moment host) (sym is) timed
found_timed r v moment host (inr is) timed = subst (λ (k : Cached). AreTimed k 0 moment host) (sym is) tt

computed_timed : (r : Cached) (v : Value) (duration moment : ℕ) (host : HostView) → (r ≡ Computed v) ⊎ (r ≡ NoMemory) → AreTimed (Computed v) duration moment host → AreTimed r duration moment host
computed_timed r v duration moment host (inl is) timed = subst (λ (k : Cached). AreTimed k duration moment host) (sym is) timed
computed_timed r v duration moment host (inr is) timed = subst (λ (k : Cached). AreTimed k duration moment host) (sym is) tt

module _ (r : Cached) (a : Asked) (host : HostView) where
  -- ---- nothing

  -- where nothing is done
  pub puts_none : (Owed : (EntryFile → List ℕ) → StepFact) (Kinds : Move → Type 0) (v : FolderView) → IsValueKept r (args_tree a.args) → (host.told → AreTimed r 0 0 host) → PutsOneValue Owed Kinds r a host v v
  puts_none Owed Kinds v kept timed = record {
    value = args_tree a.args;
    duration = 0;
    moment = 0;
    call = not_called (IsProper a.root) (Owed (texts a.code a.args (args_tree a.args) 0 0)) Kinds (IsTidy a.root) Anywhere v (λ s tidy. tt);
    kept = kept;
    timed = timed;
  }

  -- or others moved, and nobody else
  pub puts_waits : (Owed : (EntryFile → List ℕ) → StepFact) (Kinds : Move → Type 0) (old new : FolderView) → new.token ≡ old.token → Waits old new → IsValueKept r (args_tree a.args) → (host.told → AreTimed r 0 0 host) → PutsOneValue Owed Kinds r a host old new
  puts_waits Owed Kinds old new same waits kept timed = record {
    value = args_tree a.args;
    duration = 0;
    moment = 0;
    call = waits_called (IsProper a.root) (Owed (texts a.code a.args (args_tree a.args) 0 0)) Kinds (IsTidy a.root) Anywhere old new (carried_stable (IsProper a.root) old.token (IsTidy a.root) (tidy_carried a.root)) (λ s tidy. tt) same waits;
    kept = kept;
    timed = timed;
  }

  -- ---- the answer

  -- a value that was found
  pub found_puts : (v : Value) (moment : ℕ) (Ready : State → Type 0) (k : Keep) (old new : FolderView) → (r ≡ Hit v) ⊎ (r ≡ NoMemory) → KeepsFile (entry_asked a) Access (access_text moment) Ready k old new → (host.told → moment ≡ moment_of host.moments) → PutsAnswer r a host old new
  found_puts v moment Ready k old new is keeps timed =
      let e = entry_asked a in
      let text = texts a.code a.args (tree_of v) 0 moment in
      record {
        value = tree_of v;
        duration = 0;
        moment = moment;
        call = called_as (IsProper a.root) (IsProper a.root) (PutsThis a.root (last_of e Access) (access_text moment)) (PutsEntry e text) (IsFor (last_of e Access) (temp_of e old.token Access)) (IsAnswering r e old.token) (IsTidy a.root) (IsTidy a.root) Anywhere Anywhere old new
            (λ t s m given. given) (λ t s m owed. (owed.0, renames_file e text Access s m owed.1)) (found_kinds r v e old.token is) (λ s tidy. tidy) (λ s post. tt) keeps.call;
        kept = found_kept r v is;
        timed = λ tells. found_timed r v moment host is (timed tells);
      }

  -- a value that was computed
  pub computed_puts : (v : Value) (duration moment : ℕ) (old new : FolderView) → (r ≡ Computed v) ⊎ (r ≡ NoMemory)
      → Called (IsProper a.root) (PutsEntry (entry_asked a) (texts a.code a.args (tree_of v) duration moment)) (IsAnswering r (entry_asked a) old.token) (IsTidy a.root) Anywhere old new
      → (host.told → AreTimed (Computed v) duration moment host) → PutsAnswer r a host old new
  computed_puts v duration moment old new is call timed = record {
    value = tree_of v;
    duration = duration;
    moment = moment;
    call = call;
    kept = computed_kept r v is;
    timed = λ tells. computed_timed r v duration moment host is (timed tells);
  }

  -- after a look
  pub puts_later : (old mid new : FolderView) → mid.token ≡ old.token → Waits old mid → PutsAnswer r a host mid new → PutsAnswer r a host old new
  puts_later old mid new same waits p =
      let e = entry_asked a in
      let text = texts a.code a.args p.value p.duration p.moment in
      let K = IsAnswering r e old.token in
      record {
        value = p.value;
        duration = p.duration;
        moment = p.moment;
        call = called_for (IsProper a.root) (PutsEntry e text) (λ m. K m ⊎ K m) K (IsTidy a.root) (IsTidy a.root) Anywhere Anywhere old new (λ m. ⊎_elim (λ (is : K m). is) (λ (is : K m). is)) (λ s tidy. tidy) (λ s post. post)
            (either_then (IsProper a.root) (PutsEntry e text) K K (IsTidy a.root) Anywhere Anywhere old mid new (tidy_carried a.root)
            (waits_called (IsProper a.root) (PutsEntry e text) K (IsTidy a.root) Anywhere old mid (carried_stable (IsProper a.root) old.token (IsTidy a.root) (tidy_carried a.root)) (λ s tidy. tt) same waits)
            (subst (λ (u : List ℕ). Called (IsProper a.root) (PutsEntry e text) (IsAnswering r e u) (IsTidy a.root) Anywhere mid new) same p.call));
        kept = p.kept;
        timed = p.timed;
      }

  -- ---- the whole call

  abbrev home : PathView
  home = function_path a.root a.module_name a.function_name

  abbrev last : PathView
  last = code_path a.root a.module_name a.function_name

  -- the check of the code
  abbrev pub ChecksCode : FolderView → FolderView → Type 0
  ChecksCode old new = Called (IsProper a.root) (PutsThis a.root last (code_text a.code a.line)) (IsChecking home last (code_temp a.root a.module_name a.function_name a.token)) (IsTidy a.root) Anywhere old new

  check_puts : (text : EntryFile → List ℕ) (old new : FolderView) → old.token ≡ a.token → ChecksCode old new → Called (IsProper a.root) (PutsCall a text) (IsCalling r (entry_asked a) old.token) (IsTidy a.root) Anywhere old new
  check_puts text old new mine call =
      let e = entry_asked a in
      subst (λ (u : List ℕ). Called (IsProper a.root) (PutsCall a text) (IsCalling r e u) (IsTidy a.root) Anywhere old new) (sym mine)
      (called_as (IsProper a.root) (IsProper a.root) (PutsThis a.root last (code_text a.code a.line)) (PutsCall a text) (IsChecking home last (code_temp a.root a.module_name a.function_name a.token)) (IsCalling r e a.token) (IsTidy a.root) (IsTidy a.root) Anywhere Anywhere old new
      (λ t s m given. given) (λ t s m owed. (owed.0, inl owed.1)) (checking_kinds r e a.token) (λ s tidy. tidy) (λ s post. tt) call)

  -- alone, where the call ended
  pub checked_puts : (old new : FolderView) → old.token ≡ a.token → ChecksCode old new → IsValueKept r (args_tree a.args) → (host.told → AreTimed r 0 0 host) → PutsFiles r a host old new
  checked_puts old new mine call kept timed = record {
    value = args_tree a.args;
    duration = 0;
    moment = 0;
    call = check_puts (texts a.code a.args (args_tree a.args) 0 0) old new mine call;
    kept = kept;
    timed = timed;
  }

  -- and then the answer
  pub whole_puts : (old mid new : FolderView) → old.token ≡ a.token → mid.token ≡ old.token → ChecksCode old mid → PutsAnswer r a host mid new → PutsFiles r a host old new
  whole_puts old mid new mine same call p =
      let e = entry_asked a in
      let text = texts a.code a.args p.value p.duration p.moment in
      let K = IsCalling r e old.token in
      let answer = subst (λ (u : List ℕ). Called (IsProper a.root) (PutsEntry e text) (IsAnswering r e u) (IsTidy a.root) Anywhere mid new) same p.call in
      record {
        value = p.value;
        duration = p.duration;
        moment = p.moment;
        call = called_for (IsProper a.root) (PutsCall a text) (λ m. K m ⊎ K m) K (IsTidy a.root) (IsTidy a.root) Anywhere Anywhere old new (λ m. ⊎_elim (λ (is : K m). is) (λ (is : K m). is)) (λ s tidy. tidy) (λ s post. post)
            (either_then (IsProper a.root) (PutsCall a text) K K (IsTidy a.root) Anywhere Anywhere old mid new (tidy_carried a.root)
            (check_puts text old mid mine call)
            (called_as (IsProper a.root) (IsProper a.root) (PutsEntry e text) (PutsCall a text) (IsAnswering r e old.token) K (IsTidy a.root) (IsTidy a.root) Anywhere Anywhere mid new
            (λ t s m given. given) (λ t s m owed. (owed.0, inr owed.1)) (answering_kinds r e old.token) (λ s tidy. tidy) (λ s post. tt) answer));
        kept = p.kept;
        timed = p.timed;
      }
