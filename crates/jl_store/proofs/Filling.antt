-- The appending loop, as far as it has come.
use Rattle.std.proofs.Common.{◌≡◌, inl, inr, ℕ, ◌+◌, ◌≤◌, List, [], ◌∷◌, ◌++◌, take, drop, length, Option, None, Some, sym, ap, subst, ◌∙◌, append_assoc, append-nil, arith, length-take, length-drop, take-take, take-add, take_all}
use Rattle.jl_text.specs.Paths.{PathView}
use Rattle.jl_folder.specs.declared.moves.OpenFile.{OpenFile}
use Rattle.jl_folder.specs.declared.moves.Move.{Move}
use Rattle.jl_folder.specs.declared.moves.Move.TheVariants.{Append}
use Rattle.jl_folder.specs.declared.folder.Appended.{Appended}
use Rattle.jl_folder.specs.declared.folder.Appended.TheVariants as appended
use Rattle.jl_folder.specs.State.{State, Opens, run}
use Rattle.jl_folder.specs.Views.{FolderView, FolderAnswers, state, moved}
use Rattle.jl_folder.specs.Calls.{Call, AppendsBytes, AppendsPart, own_event}
use Rattle.jl_folder.proofs.Frames.{answers_none, answers_next}
use Rattle.jl_rely.specs.Steps.{IsLone}
use Rattle.jl_rely.specs.Claims.{GoesOn, Anywhere}
use Rattle.jl_rely.proofs.Since.{goes_none, goes_then}
use Rattle.jl_rely.proofs.Alone.{moves_alone, lone_parts}
use Rattle.jl_rely.proofs.Composed.{IsOwnTurn, goes_call, own_still, own_step, turn_called, not_called, called_for}
use Rattle.jl_protocol.specs.Proper.{IsProper}
use Rattle.jl_protocol.specs.Owned.{IsOwnFile}
use Rattle.jl_protocol.proofs.Owning.{own_stable, appends_own, append_proper}
use Rattle.jl_store.specs.Kinds.{IsPiece, IsAppend}
use Rattle.jl_store.specs.Publishing.{CallsOn, IsDraft}
use Rattle.jl_store.proofs.KindFacts.{is_append}
use Rattle.jl_store.proofs.Drafts.{appended_draft}
use Rattle.jl_store.proofs.Making.{calls_then}

abbrev AppendTurn : List ℕ → PathView → PathView → (Pre Post : State → Type 0) → State → Option Move → Type 0
AppendTurn token temp root Pre Post s own = IsOwnTurn (IsProper root) (IsProper root) token IsAppend Pre Post s own

module _ (token : List ℕ) (opens : Opens) (number : ℕ) (file : OpenFile) (is : opens number ≡ Some file) (temp : PathView) (start piece : List ℕ) (old new : FolderView) (mine : old.token ≡ token) (same : new.token ≡ old.token) where
  abbrev n : ℕ
  n = file.node

  -- the node that is written to is the open one
  moves_here : (k : ℕ) (own : Option Move) → AppendsPart number piece k opens own → own ≡ Some (Append n (take k piece))
  moves_here k own part =
      part.move_is ∙ ap (λ (f : OpenFile). Some (Append f.node (take k piece))) (let e : Some part.file ≡ Some file = sym part.was_open ∙ is in let one : part.file ≡ file = cc in one)

  -- a part of a piece is one
  part_short : IsPiece piece → (k : ℕ) → IsPiece (take k piece)
  part_short short k = omega (arith, short, length-take k piece)

  -- the own file, by the token of the call
  owned : (bytes : List ℕ) (s : State) → IsOwnFile token temp n bytes s → IsOwnFile old.token temp n bytes s
  owned bytes s own = subst (λ (u : List ℕ). IsOwnFile u temp n bytes s) (sym mine) own

  owned_back : (bytes : List ℕ) (s : State) → IsOwnFile old.token temp n bytes s → IsOwnFile token temp n bytes s
  owned_back bytes s own = subst (λ (u : List ℕ). IsOwnFile u temp n bytes s) mine own

  pub append_called : IsPiece piece → (k : ℕ) → Call old new (AppendsBytes number piece opens (appended.Wrote k)) → CallsOn temp IsAppend (λ root. IsOwnFile token temp n start) (λ root. IsOwnFile token temp n (start ++ take k piece)) old new
  append_called short k call root x is_temp =
      called_for (IsProper root) (IsProper root) IsAppend IsAppend (IsOwnFile old.token temp n start) (IsOwnFile token temp n start) (IsOwnFile old.token temp n (start ++ take k piece)) (IsOwnFile token temp n (start ++ take k piece)) old new
      (λ m kind. kind) (owned start) (owned_back (start ++ take k piece))
      (turn_called (IsProper root) (IsProper root) IsAppend (IsOwnFile old.token temp n start) (IsOwnFile old.token temp n (start ++ take k piece)) (AppendsBytes number piece opens (appended.Wrote k)) old new (own_stable root old.token x temp is_temp n start) same call
      (λ s own gives.
      own_step (IsProper root) (IsProper root) old.token IsAppend (IsOwnFile old.token temp n start) (IsOwnFile old.token temp n (start ++ take k piece)) s own (Append n (take k piece)) (moves_here k own gives) (is_append n (take k piece) (part_short short k))
      (λ file_is may. (append_proper root old.token x temp is_temp n start s (take k piece) file_is, λ given. appends_own root old.token x temp is_temp n start s (take k piece) file_is))))

  pub append_stops : IsPiece piece → (r : Appended) → Call old new (AppendsBytes number piece opens r) → CallsOn temp IsAppend (λ root. IsOwnFile token temp n start) (λ root. Anywhere) old new
  append_stops short r call root x is_temp =
      called_for (IsProper root) (IsProper root) IsAppend IsAppend (IsOwnFile old.token temp n start) (IsOwnFile token temp n start) Anywhere Anywhere old new (λ m kind. kind) (owned start) (λ s post. tt)
      (turn_called (IsProper root) (IsProper root) IsAppend (IsOwnFile old.token temp n start) Anywhere (AppendsBytes number piece opens r) old new (own_stable root old.token x temp is_temp n start) same call (owns r))
    where
      still : (s : State) (own : Option Move) → own ≡ None → AppendTurn old.token temp root (IsOwnFile old.token temp n start) Anywhere s own
      still s own none = own_still (IsProper root) (IsProper root) old.token IsAppend (IsOwnFile old.token temp n start) Anywhere s own none (λ file_is. tt)

      adds : (s : State) (own : Option Move) (k : ℕ) → AppendsPart number piece k opens own → AppendTurn old.token temp root (IsOwnFile old.token temp n start) Anywhere s own
      adds s own k part =
          own_step (IsProper root) (IsProper root) old.token IsAppend (IsOwnFile old.token temp n start) Anywhere s own (Append n (take k piece)) (moves_here k own part) (is_append n (take k piece) (part_short short k))
          (λ file_is may. (append_proper root old.token x temp is_temp n start s (take k piece) file_is, λ given. tt))

      owns : (r' : Appended) (s : State) (own : Option Move) → AppendsBytes number piece opens r' s own → AppendTurn old.token temp root (IsOwnFile old.token temp n start) Anywhere s own
      owns (appended.Wrote k) s own part = adds s own k part
      owns appended.Failed s own (inl none) = still s own none
      owns appended.Failed s own (inr some) = adds s own some.0 some.2
      owns appended.NoMemory s own (inl none) = still s own none
      owns appended.NoMemory s own (inr some) = adds s own some.0 some.2

  pub append_alone : (k : ℕ) (before : State) → Call old new (AppendsBytes number piece opens (appended.Wrote k)) → IsLone old.token (moved old new) → IsDraft token temp n start before (state old) → IsDraft token temp n (start ++ take k piece) before (state new)
  append_alone k before call lone draft =
      let alone = moves_alone old new (AppendsBytes number piece opens (appended.Wrote k)) call lone in
      let step = alone.after ∙ ap (λ o. run (state old) (own_event old.token o)) (moves_here k alone.own alone.answer) in
      subst (IsDraft token temp n (start ++ take k piece) before) (sym step)
      (subst (λ (u : List ℕ). IsDraft token temp n (start ++ take k piece) before (run (state old) ((u, Append n (take k piece)) ∷ []))) (sym mine)
      (appended_draft token temp n start (take k piece) before (state old) draft))

-- more of the bytes
pub take_piece : (bytes : List ℕ) (at m k : ℕ) → k ≤ length (take m (drop at bytes)) → take at bytes ++ take k (take m (drop at bytes)) ≡ take (at + k) bytes
take_piece bytes at m k h =
    ap (λ (l : List ℕ). take at bytes ++ l) (take-take k m (drop at bytes) (omega (arith, h, length-take m (drop at bytes)))) ∙ sym (take-add at k bytes)

-- what was done since the loop began
pub record IsGoing (old here : FolderView) (number : ℕ) (bytes : List ℕ) (at : ℕ) : Type 0 where
  pub frame : FolderAnswers (⊥) old here
  pub within : at ≤ length bytes
  pub goes : old.told → GoesOn old here
  pub called : old.told → (file : OpenFile) → old.opens number ≡ Some file → (temp : PathView) (start : List ℕ) →
      CallsOn temp IsAppend (λ root. IsOwnFile old.token temp file.node start) (λ root. IsOwnFile old.token temp file.node (start ++ take at bytes)) old here
  pub alone : old.told → (file : OpenFile) → old.opens number ≡ Some file → (temp : PathView) (start : List ℕ) (before : State) → IsLone old.token (moved old here) →
      IsDraft old.token temp file.node start before (state old) → IsDraft old.token temp file.node (start ++ take at bytes) before (state here)

pub going_start : (old : FolderView) (number : ℕ) (bytes : List ℕ) → IsGoing old old number bytes 0
going_start old number bytes = record {
  frame = answers_none old;
  within = omega arith;
  goes = λ t. goes_none old;
  called = λ t file is temp start root x is_temp.
      not_called (IsProper root) (IsProper root) IsAppend (IsOwnFile old.token temp file.node start) (IsOwnFile old.token temp file.node (start ++ [])) old
      (λ s mine. subst (λ (l : List ℕ). IsOwnFile old.token temp file.node l s) (sym (append-nil start)) mine);
  alone = λ t file is temp start before lone draft. subst (λ (l : List ℕ). IsDraft old.token temp file.node l before (state old)) (sym (append-nil start)) draft;
}

module _ (old here : FolderView) (number : ℕ) (bytes : List ℕ) (at : ℕ) (so_far : IsGoing old here number bytes at) where
  call_here : (next : FolderView) (piece : List ℕ) (r : Appended) → (here.told → Call here next (AppendsBytes number piece here.opens r)) → old.told → Call here next (AppendsBytes number piece old.opens r)
  call_here next piece r call t = subst (λ o. Call here next (AppendsBytes number piece o r)) so_far.frame.opens (call (so_far.frame.told t))

  pub going_on : (next : FolderView) (m k : ℕ) {Fails : Type 0} → m ≤ 65536 → k ≤ length (take m (drop at bytes)) → FolderAnswers Fails here next → (Fails → ⊥) →
      (here.told → Call here next (AppendsBytes number (take m (drop at bytes)) here.opens (appended.Wrote k))) → IsGoing old next number bytes (at + k)
  going_on next m k few small frame well call =
      let piece = take m (drop at bytes) in
      let short : IsPiece piece = omega (arith, few, length-take m (drop at bytes)) in
      let whole : (start : List ℕ) → (start ++ take at bytes) ++ take k piece ≡ start ++ take (at + k) bytes =
      λ start. append_assoc start (take at bytes) (take k piece) ∙ ap (λ (l : List ℕ). start ++ l) (take_piece bytes at m k small) in
      record {
        frame = answers_next old here next so_far.frame (λ bad. bad) frame (λ bad. absurd bad) well;
        within = omega (arith, so_far.within, small, length-take m (drop at bytes), length-drop at bytes);
        goes = λ t. goes_then old here next (so_far.goes t) (goes_call here next (AppendsBytes number piece here.opens (appended.Wrote k)) frame.token (call (so_far.frame.told t)));
        called = λ t file is temp start.
            let done = start ++ take at bytes in
            calls_then temp IsAppend (λ root. IsOwnFile old.token temp file.node start) (λ root. IsOwnFile old.token temp file.node done) (λ root. IsOwnFile old.token temp file.node (start ++ take (at + k) bytes)) old here next so_far.frame.token
            (so_far.called t file is temp start)
            (subst (λ (l : List ℕ). CallsOn temp IsAppend (λ root. IsOwnFile old.token temp file.node done) (λ root. IsOwnFile old.token temp file.node l) here next) (whole start)
            (append_called old.token old.opens number file is temp done piece here next so_far.frame.token frame.token short k (call_here next piece (appended.Wrote k) call t)));
        alone = λ t file is temp start before lone draft.
            let done = start ++ take at bytes in
            let parts = lone_parts old here next (so_far.goes t) (goes_call here next (AppendsBytes number piece here.opens (appended.Wrote k)) frame.token (call (so_far.frame.told t))) lone in
            subst (λ (l : List ℕ). IsDraft old.token temp file.node l before (state next)) (whole start)
            (append_alone old.token old.opens number file is temp done piece here next so_far.frame.token frame.token k before (call_here next piece (appended.Wrote k) call t) parts.1 (so_far.alone t file is temp start before parts.0 draft));
      }

  pub going_stops : (next : FolderView) (piece : List ℕ) → next.token ≡ here.token → IsPiece piece → (r : Appended) → (here.told → Call here next (AppendsBytes number piece here.opens r)) →
      old.told → (file : OpenFile) → old.opens number ≡ Some file → (temp : PathView) (start : List ℕ) → CallsOn temp IsAppend (λ root. IsOwnFile old.token temp file.node start) (λ root. Anywhere) old next
  going_stops next piece same short r call t file is temp start =
      let done = start ++ take at bytes in
      calls_then temp IsAppend (λ root. IsOwnFile old.token temp file.node start) (λ root. IsOwnFile old.token temp file.node done) (λ root. Anywhere) old here next so_far.frame.token
      (so_far.called t file is temp start) (append_stops old.token old.opens number file is temp done piece here next so_far.frame.token same short r (call_here next piece r call t))

  pub going_goes : (next : FolderView) (piece : List ℕ) → next.token ≡ here.token → (r : Appended) → (here.told → Call here next (AppendsBytes number piece here.opens r)) → old.told → GoesOn old next
  going_goes next piece same r call t = goes_then old here next (so_far.goes t) (goes_call here next (AppendsBytes number piece here.opens r) same (call (so_far.frame.told t)))

  -- all of them
  pub going_end : length bytes ≤ at → old.told → (file : OpenFile) → old.opens number ≡ Some file → (temp : PathView) (start : List ℕ) → CallsOn temp IsAppend (λ root. IsOwnFile old.token temp file.node start) (λ root. IsOwnFile old.token temp file.node (start ++ bytes)) old here
  going_end le t file is temp start =
      subst (λ (l : List ℕ). CallsOn temp IsAppend (λ root. IsOwnFile old.token temp file.node start) (λ root. IsOwnFile old.token temp file.node (start ++ l)) old here) (take_all at bytes le) (so_far.called t file is temp start)

  pub going_alone : length bytes ≤ at → old.told → (file : OpenFile) → old.opens number ≡ Some file → (temp : PathView) (start : List ℕ) (before : State) → IsLone old.token (moved old here) →
      IsDraft old.token temp file.node start before (state old) → IsDraft old.token temp file.node (start ++ bytes) before (state here)
  going_alone le t file is temp start before lone draft =
      subst (λ (l : List ℕ). IsDraft old.token temp file.node (start ++ l) before (state here)) (take_all at bytes le) (so_far.alone t file is temp start before lone draft)
