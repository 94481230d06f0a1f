-- Appending to a file that others spare, as far as it has come.
use Rattle.std.proofs.Common.{◌≡◌, inl, inr, ℕ, ◌+◌, ◌≤◌, List, [], ◌++◌, take, drop, length}
use Rattle.std.proofs.Common.{Option, None, Some, refl, sym, ap, subst, ◌∙◌}
use Rattle.std.proofs.Common.{arith, append_assoc, append-nil, length-take, length-drop, take-take}
use Rattle.std.proofs.Common.{take-add, take_all, take-append-drop}
use Rattle.jl_text.specs.Paths.{PathView}
use Rattle.jl_folder.specs.declared.moves.OpenFile.{OpenFile}
use Rattle.jl_folder.specs.declared.moves.Move.{Move}
use Rattle.jl_folder.specs.declared.moves.Move.TheVariants.{Append}
use Rattle.jl_folder.specs.declared.folder.Appended.{Appended}
use Rattle.jl_folder.specs.declared.folder.Appended.TheVariants as appended
use Rattle.jl_folder.specs.State.{State, Opens, after}
use Rattle.jl_folder.specs.Views.{FolderView, FolderAnswers}
use Rattle.jl_folder.specs.Calls.{Call, AppendsBytes, AppendsPart}
use Rattle.jl_folder.proofs.Frames.{answers_none, answers_next}
use Rattle.jl_rely.proofs.Composed.{IsOwnTurn, own_still, own_step, turn_called, then_called}
use Rattle.jl_rely.proofs.Composed.{not_called, called_for}
use Rattle.jl_array.specs.declared.appending.Wrote.{Wrote}
use Rattle.jl_array.specs.declared.appending.Wrote.TheVariants as wrote
use Rattle.jl_array.specs.Dumping.{IsOfDump, WritesNamed, Spares, Dumping, IsWritten}
use Rattle.jl_array.specs.Dumping.{IsFrontWritten, Written}
use Rattle.jl_array.specs.Dumping.{Holding}
use Rattle.jl_array.proofs.HeldLemmas.{holding_none, holding_then, holding_append}
use Rattle.jl_array.proofs.Spared.{written_stable, appends_written, append_named, kind_append}

-- ---- claims

-- a second call after the first, by the token of the first
pub dumping_then : (path : PathView) (Pre Mid Post : List ℕ → State → Type 0)
    (old mid new : FolderView)
    → mid.token ≡ old.token → Dumping path old.token (Pre old.token) (Mid old.token) old mid
    → Dumping path mid.token (Mid mid.token) (Post mid.token) mid new
    → Dumping path old.token (Pre old.token) (Post old.token) old new
dumping_then path Pre Mid Post old mid new same a b =
    then_called (Spares path old.token) (WritesNamed path) (IsOfDump path) (Pre old.token)
    (Mid old.token) (Post old.token) old mid new a
    (subst (λ (u : List ℕ). Dumping path u (Mid u) (Post u) mid new) same b)

-- a weaker end, from a stronger beginning
pub dumping_as : (path : PathView) (Pre Pre' Post Post' : State → Type 0) (old new : FolderView)
    → ((s : State) → Pre' s → Pre s) → ((s : State) → Post s → Post' s)
    → Dumping path old.token Pre Post old new → Dumping path old.token Pre' Post' old new
dumping_as path Pre Pre' Post Post' old new before end a =
    called_for (Spares path old.token) (WritesNamed path) (IsOfDump path)
    (IsOfDump path) Pre Pre' Post Post' old new (λ m kind. kind) before end a

-- nothing was done
pub dumping_none : (path : PathView) (Pre Post : State → Type 0) (v : FolderView)
    → ((s : State) → Pre s → Post s) → Dumping path v.token Pre Post v v
dumping_none path Pre Post v keeps =
    not_called (Spares path v.token) (WritesNamed path) (IsOfDump path) Pre Post v keeps

-- ---- fronts

-- no more than what stood there
pub front_none : (token : List ℕ) (path : PathView) (n : ℕ) (start bytes : List ℕ) (s : State)
    → IsWritten token path n start s → IsFrontWritten token path n start bytes s
front_none token path n start bytes s own =
    record {
      front = [];
      rest = bytes;
      parts = refl;
      written = subst (λ (l : List ℕ). IsWritten token path n l s) (sym (append-nil start)) own;
    }

-- a front of what is behind a front
pub front_behind : (token : List ℕ) (path : PathView) (n : ℕ) (start before bytes : List ℕ)
    (s : State)
    → IsFrontWritten token path n (start ++ before) bytes s
    → IsFrontWritten token path n start (before ++ bytes) s
front_behind token path n start before bytes s own = record {
  front = before ++ own.front;
  rest = own.rest;
  parts = ap (λ (l : List ℕ). before ++ l) own.parts ∙ sym (append_assoc before own.front own.rest);
  written =
      subst (λ (l : List ℕ). IsWritten token path n l s)
      (append_assoc start before own.front) own.written;
}

-- and of longer bytes
pub front_longer : (token : List ℕ) (path : PathView) (n : ℕ) (start bytes more : List ℕ)
    (s : State)
    → IsFrontWritten token path n start bytes s
    → IsFrontWritten token path n start (bytes ++ more) s
front_longer token path n start bytes more s own = record {
  front = own.front;
  rest = own.rest ++ more;
  parts = ap (λ (l : List ℕ). l ++ more) own.parts ∙ append_assoc own.front own.rest more;
  written = own.written;
}

-- ---- one call

module _ (path : PathView) (old new : FolderView) (opens : Opens) (number : ℕ) (file : OpenFile)
    (is : opens number ≡ Some file) (start piece : List ℕ) (same : new.token ≡ old.token)
    (short : length piece ≤ 65536) where
  -- the open node
  abbrev n : ℕ
  n = file.node

  -- what the own step of the call is, owes and leaves
  abbrev Turn : (Post : State → Type 0) → State → Option Move → Type 0
  Turn Post s own =
      IsOwnTurn (Spares path old.token) (WritesNamed path) old.token (IsOfDump path)
      (IsWritten old.token path n start) Post s own

  -- the node that is written to is the open one
  moves_here : (k : ℕ) (own : Option Move) → AppendsPart number piece k opens own
      → own ≡ Some (Append n (take k piece))
  moves_here k own part =
      part.move_is ∙ ap (λ (f : OpenFile). Some (Append f.node (take k piece)))
      (let e : Some part.file ≡ Some file = sym part.was_open ∙ is in let one : part.file
      ≡ file = cc in one)

  -- some bytes are appended, and what that leaves is enough
  adds : (Post : State → Type 0) (k : ℕ) (s : State) (own : Option Move)
      → AppendsPart number piece k opens own
      → ((t : State) → IsWritten old.token path n (start ++ take k piece) t → Post t)
      → Turn Post s own
  adds Post k s own part end =
      own_step (Spares path old.token) (WritesNamed path) old.token (IsOfDump path)
      (IsWritten old.token path n start) Post s own (Append n (take k piece))
      (moves_here k own part)
      (kind_append path n (take k piece) (omega (arith, short, length-take k piece)))
      (λ mine may. (
        append_named old.token path n start s (take k piece) mine,
        λ given. end
            (after s (old.token, Append n (take k piece)))
            (appends_written old.token path n start s (take k piece) mine),
      ))

  -- some bytes were appended
  pub append_called : (k : ℕ) → Call old new (AppendsBytes number piece opens (appended.Wrote k))
      → Dumping path old.token (IsWritten old.token path n start)
      (IsWritten old.token path n (start ++ take k piece)) old new
  append_called k call =
      turn_called (Spares path old.token) (WritesNamed path) (IsOfDump path)
      (IsWritten old.token path n start) (IsWritten old.token path n (start ++ take k piece))
      (AppendsBytes number piece opens (appended.Wrote k)) old new
      (written_stable old.token path n start) same call
      (λ s own gives. adds (IsWritten old.token path n (start ++ take k piece)) k s own gives
      (λ t mine. mine))

  -- some were, or none
  pub append_stops : (r : Appended) → Call old new (AppendsBytes number piece opens r)
      → Dumping path old.token (IsWritten old.token path n start)
      (IsFrontWritten old.token path n start piece) old new
  append_stops r call =
      turn_called (Spares path old.token) (WritesNamed path) (IsOfDump path)
      (IsWritten old.token path n start) Post (AppendsBytes number piece opens r) old new
      (written_stable old.token path n start) same call (owns r)
    where
      Post : State → Type 0
      Post = IsFrontWritten old.token path n start piece

      still : (s : State) (own : Option Move) → own ≡ None → Turn Post s own
      still s own none =
          own_still (Spares path old.token) (WritesNamed path) old.token (IsOfDump path)
          (IsWritten old.token path n start) Post s own none
          (front_none old.token path n start piece s)

      some : (s : State) (own : Option Move) (k : ℕ) → AppendsPart number piece k opens own
          → Turn Post s own
      some s own k part =
          adds Post k s own part (λ t mine. record {
            front = take k piece;
            rest = drop k piece;
            parts = sym (take-append-drop k piece);
            written = mine;
          })

      owns : (r' : Appended) (s : State) (own : Option Move)
          → AppendsBytes number piece opens r' s own → Turn Post s own
      owns (appended.Wrote k) s own part = some s own k part
      owns appended.Failed s own (inl none) = still s own none
      owns appended.Failed s own (inr part) = some s own part.0 part.2
      owns appended.NoMemory s own (inl none) = still s own none
      owns appended.NoMemory s own (inr part) = some s own part.0 part.2

-- ---- call by call

-- more of the bytes
take_piece : (bytes : List ℕ) (at m k : ℕ) → k ≤ length (take m (drop at bytes))
    → take at bytes ++ take k (take m (drop at bytes)) ≡ take (at + k) bytes
take_piece bytes at m k h =
    ap (λ (l : List ℕ). take at bytes ++ l)
    (take-take k m (drop at bytes) (omega (arith, h, length-take m (drop at bytes))))
    ∙ sym (take-add at k bytes)

-- these bytes stand behind those that were there
abbrev pub IsAdded : (old here : FolderView) (number : ℕ) (bytes : List ℕ) → Type 0
IsAdded old here number bytes =
    old.told → (file : OpenFile) → old.opens number ≡ Some file
    → (path : PathView) (start : List ℕ) →
    Dumping path old.token (IsWritten old.token path file.node start)
    (IsWritten old.token path file.node (start ++ bytes)) old here

-- a front of these does
abbrev pub IsStopped : (old here : FolderView) (number : ℕ) (bytes : List ℕ) → Type 0
IsStopped old here number bytes =
    old.told → (file : OpenFile) → old.opens number ≡ Some file
    → (path : PathView) (start : List ℕ) →
    Dumping path old.token (IsWritten old.token path file.node start)
    (IsFrontWritten old.token path file.node start bytes) old here

-- nothing was added
pub added_none : (v : FolderView) (number : ℕ) → IsAdded v v number []
added_none v number t file is path start =
    dumping_none path (IsWritten v.token path file.node start)
    (IsWritten v.token path file.node (start ++ [])) v
    (λ s mine. subst (λ (l : List ℕ). IsWritten v.token path file.node l s)
    (sym (append-nil start)) mine)

module _ (old mid new : FolderView) (number : ℕ) (before more : List ℕ)
    (frame : FolderAnswers (⊥) old mid) (first : IsAdded old mid number before) where
  -- the same number is open on the same file
  open_mid : (file : OpenFile) → old.opens number ≡ Some file → mid.opens number ≡ Some file
  open_mid file is = ap (λ (o : Opens). o number) frame.opens ∙ is

  -- more were added
  pub added_then : IsAdded mid new number more → IsAdded old new number (before ++ more)
  added_then second t file is path start =
      subst (λ (l : List ℕ). Dumping path old.token (IsWritten old.token path file.node start)
      (IsWritten old.token path file.node l) old new) (append_assoc start before more)
      (dumping_then path (λ u. IsWritten u path file.node start)
      (λ u. IsWritten u path file.node (start ++ before))
      (λ u. IsWritten u path file.node ((start ++ before) ++ more)) old mid new frame.token
      (first t file is path start) (second (frame.told t) file (open_mid file is) path
      (start ++ before)))

  -- or a front of more
  pub added_stops : IsStopped mid new number more → IsStopped old new number (before ++ more)
  added_stops second t file is path start =
      dumping_as path (IsWritten old.token path file.node start)
      (IsWritten old.token path file.node start)
      (IsFrontWritten old.token path file.node (start ++ before) more)
      (IsFrontWritten old.token path file.node start (before ++ more)) old new
      (λ s mine. mine) (λ s own. front_behind old.token path file.node start before more s own)
      (dumping_then path (λ u. IsWritten u path file.node start)
      (λ u. IsWritten u path file.node (start ++ before))
      (λ u. IsFrontWritten u path file.node (start ++ before) more) old mid new frame.token
      (first t file is path start) (second (frame.told t) file (open_mid file is) path
      (start ++ before)))

-- the same bytes in other words
pub added_as : (old here : FolderView) (number : ℕ) (bytes bytes' : List ℕ) → bytes ≡ bytes'
    → IsAdded old here number bytes → IsAdded old here number bytes'
added_as old here number bytes bytes' same a = subst (IsAdded old here number) same a

-- a front of some bytes is one of longer bytes
pub stopped_longer : (old here : FolderView) (number : ℕ) (bytes more : List ℕ)
    → IsStopped old here number bytes → IsStopped old here number (bytes ++ more)
stopped_longer old here number bytes more a t file is path start =
    dumping_as path (IsWritten old.token path file.node start)
    (IsWritten old.token path file.node start) (IsFrontWritten old.token path file.node start bytes)
    (IsFrontWritten old.token path file.node start (bytes ++ more)) old here
    (λ s mine. mine) (λ s own. front_longer old.token path file.node start bytes more s own)
    (a t file is path start)

-- one call of the folder
pub call_added : (old new : FolderView) (number k : ℕ) (piece : List ℕ) → new.token ≡ old.token
    → length piece ≤ 65536
    → (old.told → Call old new (AppendsBytes number piece old.opens (appended.Wrote k)))
    → IsAdded old new number (take k piece)
call_added old new number k piece same short call t file is path start =
    append_called path old new old.opens number file is start piece same short k (call t)

-- and one that stopped
pub call_stopped : (old new : FolderView) (number : ℕ) (piece : List ℕ) (r : Appended)
    → new.token ≡ old.token → length piece ≤ 65536
    → (old.told → Call old new (AppendsBytes number piece old.opens r))
    → IsStopped old new number piece
call_stopped old new number piece r same short call t file is path start =
    append_stops path old new old.opens number file is start piece same short r (call t)

-- ---- the loops

-- what was done since the loop began
pub record IsAppended (old here : FolderView) (number : ℕ) (bytes : List ℕ) (at : ℕ) : Type 0 where
  pub frame : FolderAnswers (⊥) old here
  pub within : at ≤ length bytes
  pub added : IsAdded old here number (take at bytes)
  pub held : Holding old here number

-- the loop begins
pub appended_start : (old : FolderView) (number : ℕ) (bytes : List ℕ)
    → IsAppended old old number bytes 0
appended_start old number bytes =
    record {
      frame = answers_none old;
      within = omega arith;
      added = added_none old number;
      held = holding_none old number;
    }

module _ (old here next : FolderView) (number : ℕ) (bytes : List ℕ) (at m : ℕ) (few : m ≤ 65536)
    (so_far : IsAppended old here number bytes at) where
  -- the piece that comes next
  abbrev piece : List ℕ
  piece = take m (drop at bytes)

  -- it is no longer than a piece may be
  piece_short : length piece ≤ 65536
  piece_short = omega (arith, few, length-take m (drop at bytes))

  -- a piece was appended, or its front
  pub appended_on : {Fails : Type 0} (k : ℕ) → k ≤ length piece → FolderAnswers Fails here next
      → (Fails → ⊥)
      → (here.told → Call here next (AppendsBytes number piece here.opens (appended.Wrote k)))
      → IsAppended old next number bytes (at + k)
  appended_on k small frame well call = record {
    frame = answers_next old here next so_far.frame (λ bad. bad) frame (λ bad. absurd bad) well;
    within =
        omega (arith, so_far.within, small, length-take m (drop at bytes), length-drop at bytes);
    added =
        added_as old next number (take at bytes ++ take k piece) (take (at + k) bytes)
        (take_piece bytes at m k small)
        (added_then old here next number (take at bytes) (take k piece) so_far.frame so_far.added
        (call_added here next number k piece frame.token piece_short call));
    held =
        holding_then old here next number so_far.frame so_far.held
        (holding_append here next number piece (appended.Wrote k) frame.token piece_short call);
  }

  -- whatever the call answers, the file stays held
  pub appended_held : (r : Appended) → next.token ≡ here.token
      → (here.told → Call here next (AppendsBytes number piece here.opens r))
      → Holding old next number
  appended_held r same call =
      holding_then old here next number so_far.frame so_far.held
      (holding_append here next number piece r same piece_short call)

  -- the call failed, and the loop ends
  pub appended_stops : (r : Appended) → next.token ≡ here.token
      → (here.told → Call here next (AppendsBytes number piece here.opens r))
      → IsStopped old next number bytes
  appended_stops r same call =
      let rest = drop m (drop at bytes) in
      let whole : (take at bytes ++ piece) ++ rest ≡ bytes =
      append_assoc (take at bytes) piece rest
      ∙ ap (λ (l : List ℕ). take at bytes ++ l) (take-append-drop m (drop at bytes))
      ∙ take-append-drop at bytes in
      subst (IsStopped old next number) whole
      (stopped_longer old next number (take at bytes ++ piece) rest
      (added_stops old here next number (take at bytes) piece so_far.frame so_far.added
      (call_stopped here next number piece r same piece_short call)))

-- all of them
pub appended_all : (old here : FolderView) (number : ℕ) (bytes : List ℕ) (at : ℕ)
    → length bytes ≤ at → IsAppended old here number bytes at → IsAdded old here number bytes
appended_all old here number bytes at le so_far =
    added_as old here number (take at bytes) bytes (take_all at bytes le) so_far.added

-- by the answer
pub added_or : (old new : FolderView) (number : ℕ) (bytes : List ℕ) (r : Wrote)
    → (r ≡ wrote.All → IsAdded old new number bytes)
    → (r ≡ wrote.Fault → IsStopped old new number bytes)
    → (r ≡ wrote.NoMemory → IsStopped old new number bytes) → old.told → (file : OpenFile)
    → old.opens number ≡ Some file
    → (path : PathView) (start : List ℕ)
    → Dumping path old.token (IsWritten old.token path file.node start)
    (Written old.token path file.node start bytes r) old new
added_or old new number bytes wrote.All all fault memory = all refl
added_or old new number bytes wrote.Fault all fault memory = fault refl
added_or old new number bytes wrote.NoMemory all fault memory = memory refl
