-- A dump: its file is made, filled and closed.
use Rattle.std.proofs.Common.{◌≡◌, inl, inr, ℕ, ◌+◌, ◌-◌, ◌≤◌, ℤ, List, [], ◌++◌, take, drop}
use Rattle.std.proofs.Common.{Option, None, Some, true, sym, ap, subst, ◌∙◌}
use Rattle.std.proofs.Common.{arith, take-add, take-append-drop}
use Rattle.jl_text.specs.Paths.{PathView}
use Rattle.jl_folder.specs.declared.moves.OpenFile.{OpenFile}
use Rattle.jl_folder.specs.declared.moves.Move.{Move}
use Rattle.jl_folder.specs.declared.moves.Move.TheVariants.{Create}
use Rattle.jl_folder.specs.State.{State, IsState, IsHistory, AtSome, after}
use Rattle.jl_folder.specs.Views.{FolderView, FolderAnswers, state, moved}
use Rattle.jl_folder.specs.Calls.{Call, Creates, MaybeCreates, NoMove, own_event}
use Rattle.jl_folder.proofs.StateKept.{IsState-after}
use Rattle.jl_rely.specs.Claims.{Anywhere, Silent}
use Rattle.jl_rely.proofs.Since.{since_went}
use Rattle.jl_rely.proofs.Seen.{told_state, some_sooner}
use Rattle.jl_rely.proofs.Moving.{moves_call}
use Rattle.jl_rely.proofs.Composed.{IsStable, IsOwnTurn, went_call, goes_call, own_still, own_step}
use Rattle.jl_rely.proofs.Composed.{turn_called}
use Rattle.jl_array.specs.declared.appending.Wrote.{Wrote}
use Rattle.jl_array.specs.declared.appending.Wrote.TheVariants as wrote
use Rattle.jl_array.specs.Dumps.{numbers_bytes, dump_text}
use Rattle.jl_array.specs.Dumping.{IsOfDump, WritesNamed, Spares, Dumping, IsWritten}
use Rattle.jl_array.specs.Dumping.{IsFrontWritten, Written, HasText, HasFront, CanMake, DumpsList}
use Rattle.jl_array.specs.Dumping.{StopsDump}
use Rattle.jl_array.proofs.Numerals.{numbers_append}
use Rattle.jl_array.proofs.Spared.{written_stable, creates_written, create_named, kind_create}
use Rattle.jl_array.proofs.AppendLemmas.{IsAdded, dumping_then, dumping_as, front_none, added_then}
use Rattle.jl_array.proofs.AppendLemmas.{added_stops}

-- ---- numbers, block by block

-- the numbers up to a place, and those of the block behind it
pub numbers_next : (have end : ℕ) (ns : List ℤ) → have ≤ end
    → numbers_bytes (take have ns) ++ numbers_bytes (take (end - have) (drop have ns))
    ≡ numbers_bytes (take end ns)
numbers_next have end ns within =
    let whole : have + (end - have) ≡ end = omega (arith, within) in
    sym (numbers_append (take have ns) (take (end - have) (drop have ns)))
    ∙ ap numbers_bytes (sym (take-add have (end - have) ns) ∙ ap (λ (n : ℕ). take n ns) whole)

-- those, and all others
pub numbers_rest : (end : ℕ) (ns : List ℤ)
    → numbers_bytes (take end ns) ++ numbers_bytes (drop end ns) ≡ numbers_bytes ns
numbers_rest end ns =
    sym (numbers_append (take end ns) (drop end ns)) ∙ ap numbers_bytes (take-append-drop end ns)

-- ---- what is written, by the answer

-- all of these bytes stand behind those that were there, or a front
abbrev pub IsWriting : (old new : FolderView) (number : ℕ) (bytes : List ℕ) (r : Wrote) → Type 0
IsWriting old new number bytes r =
    old.told → (file : OpenFile) → old.opens number ≡ Some file
    → (path : PathView) (start : List ℕ) →
    Dumping path old.token (IsWritten old.token path file.node start)
    (Written old.token path file.node start bytes r) old new

-- behind what was added
pub writing_then : (old mid new : FolderView) (number : ℕ) (before more : List ℕ) (r : Wrote)
    → FolderAnswers (⊥) old mid → IsAdded old mid number before → IsWriting mid new number more r
    → IsWriting old new number (before ++ more) r
writing_then old mid new number before more wrote.All frame first second =
    added_then old mid new number before more frame first second
writing_then old mid new number before more wrote.Fault frame first second =
    added_stops old mid new number before more frame first second
writing_then old mid new number before more wrote.NoMemory frame first second =
    added_stops old mid new number before more frame first second

-- what was written survives the steps of others that spare it
pub written_or_stable : (token : List ℕ) (path : PathView) (n : ℕ) (start bytes : List ℕ)
    (r : Wrote)
    → IsStable (Spares path token) token (Written token path n start bytes r)
written_or_stable token path n start bytes wrote.All = written_stable token path n (start ++ bytes)
written_or_stable token path n start bytes wrote.Fault = λ other s m apart may spares own.
    record {
      front = own.front;
      rest = own.rest;
      parts = own.parts;
      written = written_stable token path n
          (start ++ own.front) other s m apart may spares own.written;
    }
written_or_stable token path n start bytes wrote.NoMemory = λ other s m apart may spares own.
    record {
      front = own.front;
      rest = own.rest;
      parts = own.parts;
      written = written_stable token path n
          (start ++ own.front) other s m apart may spares own.written;
    }

-- a closing changes nothing
pub writing_closed : (old mid new : FolderView) (number : ℕ) (bytes : List ℕ) (r : Wrote)
    → mid.token ≡ old.token → new.token ≡ mid.token → (old.told → Call mid new NoMove)
    → IsWriting old mid number bytes r → IsWriting old new number bytes r
writing_closed old mid new number bytes r first second close a t file is path start =
    dumping_then path (λ u. IsWritten u path file.node start)
    (λ u. Written u path file.node start bytes r)
    (λ u. Written u path file.node start bytes r) old mid new first (a t file is path start)
    (turn_called (Spares path mid.token) (WritesNamed path) (IsOfDump path)
    (Written mid.token path file.node start bytes r)
    (Written mid.token path file.node start bytes r) NoMove mid new
    (written_or_stable mid.token path file.node start bytes r) second (close t)
    (λ s own none. own_still (Spares path mid.token) (WritesNamed path) mid.token (IsOfDump path)
    (Written mid.token path file.node start bytes r)
    (Written mid.token path file.node start bytes r) s own none (λ mine. mine)))

-- ---- the file is made

-- a state stays one
state_stable : (path : PathView) (token : List ℕ) → IsStable (Spares path token) token IsState
state_stable path token other s m apart may spares ok = IsState-after s other m ok may

-- where the call began as a state
from_state : (path : PathView) (Post : State → Type 0) (old new : FolderView)
    → IsHistory old.history old.opens → Dumping path old.token IsState Post old new
    → Dumping path old.token Anywhere Post old new
from_state path Post old new told a =
    let ok = told_state old told in
    record {
      went = a.went;
      own = a.own;
      owes = λ anywhere. a.owes ok;
      post = λ anywhere all. a.post ok all;
    }

module _ (path : PathView) (old mid : FolderView) (same : mid.token ≡ old.token) where
  -- a file that was made is empty
  made_turn : (Post : State → Type 0) (node : ℕ) (s : State) (own : Option Move)
      → own ≡ Some (Create path node) → ((t : State) → IsWritten old.token path node [] t → Post t)
      → IsOwnTurn (Spares path old.token) (WritesNamed path) old.token
      (IsOfDump path) IsState Post s own
  made_turn Post node s own just end =
      own_step (Spares path old.token) (WritesNamed path) old.token
      (IsOfDump path) IsState Post s own (Create path node) just (kind_create path node)
      (λ ok may. (
        create_named old.token path node s,
        λ given. end
            (after s (old.token, Create path node))
            (creates_written old.token path node s ok may.2),
      ))

  -- it is the one that is open
  pub made_called : (number : ℕ) (file : OpenFile) → mid.opens number ≡ Some file
      → Call old mid (Creates path number mid.opens)
      → Dumping path old.token IsState (IsWritten old.token path file.node []) old mid
  made_called number file is call =
      turn_called (Spares path old.token) (WritesNamed path) (IsOfDump path) IsState
      (IsWritten old.token path file.node []) (Creates path number mid.opens) old mid
      (state_stable path old.token) same call
      (λ s own gives.
      let one : file.node ≡ gives.node =
      (let e : Some file ≡ Some (record { node = gives.node; made = true }) = sym is
      ∙ gives.is_open in let f : file ≡ record { node = gives.node; made = true } = cc in
      ap (λ (x : OpenFile). x.node) f) in
      made_turn (IsWritten old.token path file.node []) gives.node s own gives.move_is
      (λ t mine. subst (λ (n : ℕ). IsWritten old.token path n [] t) (sym one) mine))

  -- there was none before
  pub made_free : (number : ℕ) (call : Call old mid (Creates path number mid.opens))
      → AtSome (state old) (moved old mid) (CanMake path)
  made_free number call = (
    call.others,
    own_event old.token call.own,
    since_went old mid (call.others ++ own_event old.token call.own)
        (went_call old mid (Creates path number mid.opens) call),
    (call.answer.free, call.answer.parented),
  )

  -- a call that failed made no file, or an empty one
  pub made_stops : (numbers : List ℤ) → IsHistory old.history old.opens
      → Call old mid (λ s own. MaybeCreates path own) → StopsDump path numbers old mid
  made_stops numbers told call = by call.answer
    where
      by : MaybeCreates path call.own → StopsDump path numbers old mid
      by (inl none) =
          inl (moves_call Silent old mid (λ s own. own ≡ None) (λ s own e. inl e) same
          (record {
            others = call.others;
            own = call.own;
            foreign = call.foreign;
            start = call.start;
            trace = call.trace;
            lawful = call.lawful;
            answer = none;
          }))
      by (inr (node, just)) =
          inr (from_state path (HasFront old.token path (dump_text numbers)) old mid told
          (turn_called (Spares path old.token) (WritesNamed path) (IsOfDump path) IsState
          (HasFront old.token path (dump_text numbers))
          (λ s own. own ≡ Some (Create path node)) old mid (state_stable path old.token) same
          (record {
            others = call.others;
            own = call.own;
            foreign = call.foreign;
            start = call.start;
            trace = call.trace;
            lawful = call.lawful;
            answer = just;
          })
          (λ s own is. made_turn (HasFront old.token path (dump_text numbers)) node s own is
          (λ t mine. (node, front_none old.token path node [] (dump_text numbers) t mine)))))

-- ---- the whole

module _ (path : PathView) (numbers : List ℤ) (old mid new : FolderView) (number : ℕ)
    (file : OpenFile) (same : mid.token ≡ old.token) (told : IsHistory old.history old.opens)
    (is : mid.opens number ≡ Some file) (call : Call old mid (Creates path number mid.opens)) where
  -- the file was made, and then written to
  filled : (Post : List ℕ → State → Type 0)
      → Dumping path mid.token (IsWritten mid.token path file.node []) (Post mid.token) mid new
      → Dumping path old.token Anywhere (Post old.token) old new
  filled Post second =
      from_state path (Post old.token) old new told
      (dumping_then path (λ u. IsState) (λ u. IsWritten u path file.node []) Post old mid new same
      (made_called path old mid same number file is call) second)

  -- all was written
  pub dump_done : Dumping path mid.token (IsWritten mid.token path file.node [])
      (Written mid.token path file.node [] (dump_text numbers) wrote.All) mid new
      → DumpsList path numbers old new
  dump_done second = record {
    free =
        some_sooner (CanMake path) old mid new
        (goes_call old mid (Creates path number mid.opens) same call) second.went
        (made_free path old mid same number call);
    call =
        dumping_as path Anywhere Anywhere (IsWritten old.token path file.node (dump_text numbers))
        (HasText old.token path (dump_text numbers)) old new (λ s any. any)
        (λ s mine. (file.node, mine))
        (filled (λ u. IsWritten u path file.node (dump_text numbers)) second);
  }

  -- a front was written
  pub dump_stops : Dumping path mid.token (IsWritten mid.token path file.node [])
      (IsFrontWritten mid.token path file.node [] (dump_text numbers)) mid new
      → StopsDump path numbers old new
  dump_stops second =
      inr (dumping_as path Anywhere Anywhere
      (IsFrontWritten old.token path file.node [] (dump_text numbers))
      (HasFront old.token path (dump_text numbers)) old new (λ s any. any)
      (λ s mine. (file.node, mine))
      (filled (λ u. IsFrontWritten u path file.node [] (dump_text numbers)) second))
