-- A file that others may take away but give no other name: what of it stays, and what is owed.
use Rattle.std.proofs.Common.{◌≡◌, ◌≢◌, ◌≤◌, inl, inr, ⊎_elim, ℕ, false, List}
use Rattle.std.proofs.Common.{take, length, true, Option, None, Some, is_some, true≢false}
use Rattle.std.proofs.Common.{refl, sym, ap, subst, ◌∙◌, arith, length-take}
use Rattle.jl_text.specs.Paths.{PathView}
use Rattle.jl_folder.specs.declared.moves.Place.TheVariants.{File}
use Rattle.jl_folder.specs.declared.moves.Node.{Node}
use Rattle.jl_folder.specs.declared.moves.OpenFile.{OpenFile}
use Rattle.jl_folder.specs.declared.moves.Move.{Move}
use Rattle.jl_folder.specs.declared.moves.Move.TheVariants.{MakeDir, Create, Append}
use Rattle.jl_folder.specs.declared.moves.Move.TheVariants.{Rename, Remove, RemoveDir}
use Rattle.jl_folder.specs.declared.folder.Appended.{Appended}
use Rattle.jl_folder.specs.declared.folder.Appended.TheVariants as appended
use Rattle.jl_folder.specs.declared.folder.Created.{Created}
use Rattle.jl_folder.specs.declared.folder.Created.TheVariants as created
use Rattle.jl_folder.specs.State.{State, Opens, Allowed, IsState, IsHistory, place_at, node_at}
use Rattle.jl_folder.specs.State.{after}
use Rattle.jl_folder.specs.Views.{FolderView, FolderAnswers}
use Rattle.jl_folder.specs.Calls.{Call, AppendsBytes, AppendsPart, CreatesFile, NoMove}
use Rattle.jl_folder.proofs.Looks.{place_at-after}
use Rattle.jl_folder.proofs.StateKept.{IsState-after}
use Rattle.jl_rely.specs.Claims.{Anywhere}
use Rattle.jl_rely.proofs.Seen.{told_state}
use Rattle.jl_rely.proofs.Effects.{created_node, created_nodes, appended_node, appended_nodes}
use Rattle.jl_rely.proofs.Effects.{renamed_nodes}
use Rattle.jl_rely.proofs.Composed.{IsStable, IsOwnTurn, own_still, own_step, turn_called}
use Rattle.jl_rely.proofs.Composed.{then_called, not_called, called_for}
use Rattle.jl_array.specs.Dumping.{IsOfDump, IsOwnNode, WritesOwn, IsRenamedFrom, KeepsName}
use Rattle.jl_array.specs.Dumping.{Filling, IsHeld, Holding}
use Rattle.jl_array.proofs.Spared.{Gives, named_or_given, file_of, same_number, kind_create}
use Rattle.jl_array.proofs.Spared.{kind_append}

-- ---- steps

module _ (token : List ℕ) (path : PathView) (n : ℕ) where
  -- a node that has the same maker and isn't frozen either
  own_as : (s t : State) → (v : Node) → node_at t n ≡ Some v → v.maker ≡ token → v.frozen ≡ false
      → IsOwnNode token n t
  own_as s t v is maker free = record { view = v; node = is; maker = maker; unfrozen = free }

  module _ (other : List ℕ) (s : State) (held : IsHeld token path n s) where
    own_stays : (m : Move) → Allowed s m → (IsRenamedFrom path m → ⊥)
        → IsOwnNode token n (after s (other, m))
    unfolding IsRenamedFrom
    own_stays (MakeDir p) may kept =
        own_as s (after s (other, MakeDir p)) held.own.view held.own.node held.own.maker
        held.own.unfrozen
    own_stays (Create p k) may kept =
        let differs : n ≢ k =
        λ e.
        true≢false
        (sym (ap is_some held.own.node) ∙ ap (λ (j : ℕ). is_some (node_at s j)) e
        ∙ ap is_some may.2) in
        own_as s (after s (other, Create p k)) held.own.view
        (created_nodes s other p k n differs ∙ held.own.node) held.own.maker held.own.unfrozen
    own_stays (Append k more) may kept =
        ⊎_elim
        (λ (e : n ≡ k).
        subst (λ (j : ℕ). IsOwnNode token n (after s (other, Append j more))) e
        (own_as s (after s (other, Append n more)) _
        (appended_node s other n more held.own.view held.own.node) held.own.maker
        held.own.unfrozen))
        (λ (differs : n ≢ k).
        own_as s (after s (other, Append k more)) held.own.view
        (appended_nodes s other k more n differs ∙ held.own.node) held.own.maker
        held.own.unfrozen)
        (same_number n k)
    own_stays (Rename p q) may kept =
        let file = file_of (place_at s p) may.1 in
        let differs : n ≢ file.0 =
        λ e. kept (held.only p (file.1 ∙ ap (λ (j : ℕ). Some (File j)) (sym e))) in
        own_as s (after s (other, Rename p q)) held.own.view
        (renamed_nodes s other p q file.0 n file.1 differs ∙ held.own.node) held.own.maker
        held.own.unfrozen
    own_stays (Remove p) may kept =
        own_as s (after s (other, Remove p)) held.own.view held.own.node held.own.maker
        held.own.unfrozen
    own_stays (RemoveDir p) may kept =
        own_as s (after s (other, RemoveDir p)) held.own.view held.own.node held.own.maker
        held.own.unfrozen

    not_given : (m : Move) → Allowed s m → (IsRenamedFrom path m → ⊥) → (x : PathView)
        → Gives s (other, m) x n → ⊥
    unfolding IsRenamedFrom
    not_given (MakeDir p) may kept x given = given
    not_given (Create p k) may kept x given =
        true≢false
        (sym (ap is_some held.own.node) ∙ ap (λ (j : ℕ). is_some (node_at s j)) given.1
        ∙ ap is_some may.2)
    not_given (Append k more) may kept x given = given
    not_given (Rename p q) may kept x given = kept (held.only p given)
    not_given (Remove p) may kept x given = given
    not_given (RemoveDir p) may kept x given = given

    held_stays : (m : Move) → Allowed s m → (IsRenamedFrom path m → ⊥)
        → IsHeld token path n (after s (other, m))
    held_stays m may kept = record {
      own = own_stays m may kept;
      only = λ x e.
          ⊎_elim (λ (was : place_at s x ≡ Some (File n)). held.only x was)
          (λ (given : Gives s (other, m) x n). absurd (not_given m may kept x given))
          (named_or_given s (other, m) x n (sym (place_at-after s (other, m) x) ∙ e));
    }

  -- others keep the file held
  pub held_stable : IsStable (KeepsName path token) token (IsHeld token path n)
  held_stable other s m apart may keeps held = held_stays other s held m may (keeps apart)

  -- an append to it is to an own unfrozen file
  append_owned : (s : State) (more : List ℕ) → IsHeld token path n s
      → WritesOwn path token s (Append n more)
  unfolding WritesOwn
  append_owned s more held = held.own

  -- and keeps it held
  append_held : (s : State) (more : List ℕ) → Allowed s (Append n more) → IsHeld token path n s
      → IsHeld token path n (after s (token, Append n more))
  unfolding IsRenamedFrom
  append_held s more may held = held_stays token s held (Append n more) may (λ no. no)

-- a file that is made has this name
create_owned : (token : List ℕ) (path : PathView) (n : ℕ) (s : State)
    → WritesOwn path token s (Create path n)
unfolding WritesOwn
create_owned token path n s = refl

-- and is held
create_held : (token : List ℕ) (path : PathView) (n : ℕ) (s : State) → IsState s
    → node_at s n ≡ None → IsHeld token path n (after s (token, Create path n))
create_held token path n s ok fresh = record {
  own = record {
    view = _;
    node = created_node s token path n;
    maker = refl;
    unfrozen = refl;
  };
  only = λ x e.
      ⊎_elim
      (λ (was : place_at s x ≡ Some (File n)).
      absurd (true≢false (sym (ok.nodes x n was) ∙ ap is_some fresh)))
      (λ (given : (x ≡ path) × (n ≡ n)). given.0)
      (named_or_given s (token, Create path n) x n
      (sym (place_at-after s (token, Create path n) x) ∙ e));
}

-- ---- calls

-- a second call after the first, by the token of the first
pub filling_then : (path : PathView) (Pre Mid Post : List ℕ → State → Type 0)
    (old mid new : FolderView) → mid.token ≡ old.token
    → Filling path old.token (Pre old.token) (Mid old.token) old mid
    → Filling path mid.token (Mid mid.token) (Post mid.token) mid new
    → Filling path old.token (Pre old.token) (Post old.token) old new
filling_then path Pre Mid Post old mid new same a b =
    then_called (KeepsName path old.token) (WritesOwn path) (IsOfDump path) (Pre old.token)
    (Mid old.token) (Post old.token) old mid new a
    (subst (λ (u : List ℕ). Filling path u (Mid u) (Post u) mid new) same b)

-- ---- the file stays held

-- no call
pub holding_none : (v : FolderView) (number : ℕ) → Holding v v number
holding_none v number t file is path =
    not_called (KeepsName path v.token) (WritesOwn path) (IsOfDump path)
    (IsHeld v.token path file.node) (IsHeld v.token path file.node) v (λ s held. held)

-- one call after another
pub holding_then : {Fails : Type 0} (old mid new : FolderView) (number : ℕ)
    → FolderAnswers Fails old mid → Holding old mid number → Holding mid new number
    → Holding old new number
holding_then old mid new number frame first second t file is path =
    filling_then path (λ u. IsHeld u path file.node) (λ u. IsHeld u path file.node)
    (λ u. IsHeld u path file.node) old mid new frame.token (first t file is path)
    (second (frame.told t) file (ap (λ (o : Opens). o number) frame.opens ∙ is) path)

-- an append, whatever it answers
pub holding_append : (old new : FolderView) (number : ℕ) (piece : List ℕ) (r : Appended)
    → new.token ≡ old.token → length piece ≤ 65536
    → (old.told → Call old new (AppendsBytes number piece old.opens r)) → Holding old new number
holding_append old new number piece r same short call t file is path =
    turn_called (KeepsName path old.token) (WritesOwn path) (IsOfDump path) Held Held
    (AppendsBytes number piece old.opens r) old new (held_stable old.token path n) same (call t)
    (owns r)
  where
    n : ℕ
    n = file.node

    Held : State → Type 0
    Held = IsHeld old.token path n

    Turn : State → Option Move → Type 0
    Turn s own =
        IsOwnTurn (KeepsName path old.token) (WritesOwn path) old.token (IsOfDump path) Held Held s
        own

    still : (s : State) (own : Option Move) → own ≡ None → Turn s own
    still s own none =
        own_still (KeepsName path old.token) (WritesOwn path) old.token (IsOfDump path) Held Held s
        own none (λ held. held)

    adds : (s : State) (own : Option Move) (k : ℕ) → AppendsPart number piece k old.opens own
        → Turn s own
    adds s own k part =
        let here : own ≡ Some (Append n (take k piece)) =
        part.move_is
        ∙ ap (λ (f : OpenFile). Some (Append f.node (take k piece)))
        (let e : Some part.file ≡ Some file = sym part.was_open ∙ is in
        let one : part.file ≡ file = cc in one) in
        own_step (KeepsName path old.token) (WritesOwn path) old.token (IsOfDump path) Held Held s
        own (Append n (take k piece)) here
        (kind_append path n (take k piece) (omega (arith, short, length-take k piece)))
        (λ held may. (
          append_owned old.token path n s (take k piece) held,
          λ given. append_held old.token path n s (take k piece) may held,
        ))

    owns : (r' : Appended) (s : State) (own : Option Move)
        → AppendsBytes number piece old.opens r' s own → Turn s own
    owns (appended.Wrote k) s own part = adds s own k part
    owns appended.Failed s own (inl none) = still s own none
    owns appended.Failed s own (inr part) = adds s own part.0 part.2
    owns appended.NoMemory s own (inl none) = still s own none
    owns appended.NoMemory s own (inr part) = adds s own part.0 part.2

-- a closing
pub holding_closed : (old mid new : FolderView) (number : ℕ) → mid.token ≡ old.token
    → new.token ≡ mid.token → (old.told → Call mid new NoMove) → Holding old mid number
    → Holding old new number
holding_closed old mid new number first second close a t file is path =
    filling_then path (λ u. IsHeld u path file.node) (λ u. IsHeld u path file.node)
    (λ u. IsHeld u path file.node) old mid new first (a t file is path)
    (turn_called (KeepsName path mid.token) (WritesOwn path) (IsOfDump path)
    (IsHeld mid.token path file.node) (IsHeld mid.token path file.node) NoMove mid new
    (held_stable mid.token path file.node) second (close t)
    (λ s own none.
    own_still (KeepsName path mid.token) (WritesOwn path) mid.token (IsOfDump path)
    (IsHeld mid.token path file.node) (IsHeld mid.token path file.node) s own none
    (λ held. held)))

-- ---- the file is made

-- what holds where the file was made, by the answer
abbrev Left : PathView → FolderView → Created → State → Type 0
Left path new (created.Made number) s =
    (file : OpenFile) → new.opens number.0 ≡ Some file → IsHeld new.token path file.node s
Left path new created.Exists s = Unit {0}
Left path new created.NoParent s = Unit {0}
Left path new created.Failed s = Unit {0}
Left path new created.NoMemory s = Unit {0}

module _ (path : PathView) (old mid : FolderView) (same : mid.token ≡ old.token) where
  -- what the own step of making a file is, owes and leaves
  abbrev MakeTurn : Created → State → Option Move → Type 0
  MakeTurn r s own =
      IsOwnTurn (KeepsName path old.token) (WritesOwn path) old.token (IsOfDump path) IsState
      (Left path mid r) s own

  -- no file was made
  still_made : (r : Created) (s : State) (own : Option Move)
      → ((u : State) → Left path mid r u) → own ≡ None → MakeTurn r s own
  still_made r s own left none =
      own_still (KeepsName path old.token) (WritesOwn path) old.token (IsOfDump path) IsState
      (Left path mid r) s own none (λ ok. left s)

  -- a file was made
  step_made : (r : Created) (s : State) (own : Option Move) (node : ℕ)
      → (IsHeld old.token path node (after s (old.token, Create path node))
      → Left path mid r (after s (old.token, Create path node)))
      → own ≡ Some (Create path node) → MakeTurn r s own
  step_made r s own node left just =
      own_step (KeepsName path old.token) (WritesOwn path) old.token (IsOfDump path) IsState
      (Left path mid r) s own (Create path node) just (kind_create path node)
      (λ ok may. (
        create_owned old.token path node s,
        λ given. left (create_held old.token path node s ok may.2),
      ))

  -- by the answer
  make_turn : (r : Created) (s : State) (own : Option Move)
      → CreatesFile path mid.opens r s own → MakeTurn r s own
  make_turn (created.Made number) s own gives =
      step_made (created.Made number) s own gives.node
      (λ held file is.
      let one : file.node ≡ gives.node =
      (let e : Some file ≡ Some (record { node = gives.node; made = true }) =
      sym is ∙ gives.is_open in
      let f : file ≡ record { node = gives.node; made = true } = cc in
      ap (λ (x : OpenFile). x.node) f) in
      subst
      (λ (u : List ℕ). IsHeld u path file.node (after s (old.token, Create path gives.node)))
      (sym same)
      (subst
      (λ (k : ℕ). IsHeld old.token path k (after s (old.token, Create path gives.node)))
      (sym one) held))
      gives.move_is
  make_turn created.Exists s own gives = still_made created.Exists s own (λ u. tt) gives.1
  make_turn created.NoParent s own gives = still_made created.NoParent s own (λ u. tt) gives.2
  make_turn created.Failed s own (inl none) = still_made created.Failed s own (λ u. tt) none
  make_turn created.Failed s own (inr made) =
      step_made created.Failed s own made.0 (λ held. tt) made.1
  make_turn created.NoMemory s own (inl none) = still_made created.NoMemory s own (λ u. tt) none
  make_turn created.NoMemory s own (inr made) =
      step_made created.NoMemory s own made.0 (λ held. tt) made.1

  -- the claim on that call
  made_left : (r : Created) → Call old mid (CreatesFile path mid.opens r)
      → Filling path old.token IsState (Left path mid r) old mid
  made_left r call =
      turn_called (KeepsName path old.token) (WritesOwn path) (IsOfDump path) IsState
      (Left path mid r) (CreatesFile path mid.opens r) old mid
      (λ other s m apart may keeps ok. IsState-after s other m ok may) same call (make_turn r)

  -- from a state that a folder tells
  from_told : (new : FolderView) (Post : State → Type 0) → IsHistory old.history old.opens
      → Filling path old.token IsState Post old new
      → Filling path old.token Anywhere Anywhere old new
  from_told new Post told a =
      let ok = told_state old told in
      record {
        went = a.went;
        own = a.own;
        owes = λ anywhere. a.owes ok;
        post = λ anywhere all. tt;
      }

  -- no more than that call
  pub filling_once : (r : Created) → IsHistory old.history old.opens
      → Call old mid (CreatesFile path mid.opens r)
      → Filling path old.token Anywhere Anywhere old mid
  filling_once r told call = from_told mid (Left path mid r) told (made_left r call)

  -- and then the file was written to
  pub filling_on : (number : ℕ) (new : FolderView) → IsHistory old.history old.opens → old.told
      → (old.told → mid.told) → (file : OpenFile) → mid.opens number ≡ Some file
      → Call old mid (CreatesFile path mid.opens (created.Made (record { 0 = number })))
      → Holding mid new number → Filling path old.token Anywhere Anywhere old new
  filling_on number new told t on file is call second =
      let r = created.Made (record { 0 = number }) in
      let first =
      called_for (KeepsName path old.token) (WritesOwn path) (IsOfDump path) (IsOfDump path) IsState
      IsState (Left path mid r) (IsHeld mid.token path file.node) old mid (λ m kind. kind)
      (λ s ok. ok) (λ s left. left file is) (made_left r call) in
      from_told new (IsHeld mid.token path file.node) told
      (then_called (KeepsName path old.token) (WritesOwn path) (IsOfDump path) IsState
      (IsHeld mid.token path file.node) (IsHeld mid.token path file.node) old mid new first
      (subst
      (λ (u : List ℕ).
      Filling path u (IsHeld mid.token path file.node) (IsHeld mid.token path file.node) mid new)
      same (second (on t) file is path)))
