-- One reading after another, of a node that only grows.
use Rattle.std.proofs.Common.{◌≡◌, ℕ, ◌+◌, ◌≤◌, List, [], ◌∷◌, ◌++◌, Bool, true, false, cond, nat_eq, Option, None, Some, length, take, drop, sym, ◌∙◌, ap, subst, refl, append_assoc, arith, length-append}
use Rattle.std.proofs.Math.Seq.{drop-append_seam, take-append_seam}
use Rattle.std.proofs.lemmas.List.{append-nil, take_all, take-append-drop, length-take-le}
use Rattle.std.proofs.lemmas.Bool.Decides.{Decides-eqb}
use Rattle.jl_folder.specs.declared.moves.OpenFile.{OpenFile}
use Rattle.jl_folder.specs.declared.moves.Move.{Move}
use Rattle.jl_folder.specs.declared.folder.ReadAt.{ReadAt}
use Rattle.jl_folder.specs.declared.folder.ReadAt.TheVariants.{Read, Failed}
use Rattle.jl_folder.specs.declared.read.OpenRead.{OpenRead}
use Rattle.jl_folder.specs.declared.read.OpenRead.TheVariants as open_read
use Rattle.jl_folder.specs.declared.read.FileRead.TheVariants as file_read
use Rattle.jl_text.specs.Paths.{PathView}
use Rattle.jl_folder.specs.State.{State, Trace, History, Opens, AtSome, IsTrace, IsForeign, node_at, is_file, run, now, since, put_open, closed}
use Rattle.jl_folder.specs.Views.{FolderView, state, moved}
use Rattle.jl_folder.specs.Calls.{Call, Waits, OpensNew, own_event, ReadsPart, ReadsBytes, OpensNode}
use Rattle.jl_folder.specs.Reading.{ReadsNode, ReadsOpen, ReadsNamed, ReadsFile, FileWithin, OpenWithin, file_of}
use Rattle.jl_folder.proofs.Traces.{run-append, IsTrace-append, IsForeign-append}
use Rattle.jl_folder.proofs.NodesKept.{Begins, begins_run}

pub since-is : (old new : History) (es : Trace) → new.trace ≡ old.trace ++ es → since old new ≡ es
since-is old new es e = ap (drop (length old.trace)) e ∙ drop-append_seam old.trace es

pub now-on : (old new : History) (es : Trace) → new.start ≡ old.start → new.trace ≡ old.trace ++ es → now new ≡ run (now old) es
now-on old new es start trace = (λ i. run (start i) (trace i)) ∙ run-append old.start old.trace es

pub waits_none : (a b : FolderView) → b.history.start ≡ a.history.start → b.history.trace ≡ a.history.trace → Waits a b
waits_none a b start trace = record { others = []; foreign = tt; start = start; trace = trace ∙ sym (append-nil a.history.trace); lawful = tt }

pub waits_trans : (a b c : FolderView) → b.token ≡ a.token → Waits a b → Waits b c → Waits a c
waits_trans a b c token w v = record {
  others = w.others ++ v.others;
  foreign = IsForeign-append a.token w.others v.others w.foreign (subst (λ t. IsForeign t v.others) token v.foreign);
  start = v.start ∙ w.start;
  trace = v.trace ∙ ap (λ t. t ++ v.others) w.trace ∙ append_assoc a.history.trace w.others v.others;
  lawful = IsTrace-append (state a) w.others v.others w.lawful (subst (λ s. IsTrace s v.others) (now-on a.history b.history w.others w.start w.trace) v.lawful);
}

-- a call with no own move only waits
pub call_waits : (a b : FolderView) (Answer : State → Option Move → Type 0) → (call : Call a b Answer) → call.own ≡ None → Waits a b
call_waits a b Answer call none =
    let same : call.others ++ own_event a.token call.own ≡ call.others = ap (λ o. call.others ++ own_event a.token o) none ∙ append-nil call.others in
    record {
      others = call.others;
      foreign = call.foreign;
      start = call.start;
      trace = call.trace ∙ ap (λ es. a.history.trace ++ es) same;
      lawful = subst (IsTrace (state a)) same call.lawful;
    }

-- the moves of others lead from the one state to the other
waits_state : (a b : FolderView) (w : Waits a b) → state b ≡ run (state a) w.others
waits_state a b w = now-on a.history b.history w.others w.start w.trace

waits_moved : (a b : FolderView) (w : Waits a b) → moved a b ≡ w.others
waits_moved a b w = since-is a.history b.history w.others w.trace

-- while others move, a node begins as it did
begins_waits : (a b : FolderView) (node : ℕ) (bytes : List ℕ) → Waits a b → Begins (node_at (state a) node) bytes → Begins (node_at (state b) node) bytes
begins_waits a b node bytes w begun = subst (λ s. Begins (node_at s node) bytes) (sym (waits_state a b w)) (begins_run (state a) w.others node bytes w.lawful begun)

some_same : {X : Type 0} (x y : X) → Some x ≡ Some y → x ≡ y
some_same x y e = cc

no_length : (xs : List ℕ) → length xs ≤ 0 → xs ≡ []
no_length [] le = refl
no_length (x ∷ xs) le = absurd (omega (arith, le))

-- the front of a buffer is what was put there
front_is : (front buf : List ℕ) (k : ℕ) → length front ≡ k → take k (front ++ drop k buf) ≡ front
front_is front buf k e = ap (λ j. take j (front ++ drop k buf)) (sym e) ∙ take-append_seam front (drop k buf)

-- a read behind what the node begins with: the node as it is then, and what follows in it
record ReadOn (b : FolderView) (file : OpenFile) (bytes : List ℕ) (k : ℕ) (buf' : List ℕ) : Type 0 where
  begun : Begins (node_at (state b) file.node) bytes
  within : k ≤ length begun.rest
  front : take k buf' ≡ take k begun.rest
  at_end : k ≡ 0 → begun.rest ≡ []

read_on : (a b : FolderView) (number at k : ℕ) (buf buf' : List ℕ) (opens : Opens) (file : OpenFile) (bytes : List ℕ) → Call a b (ReadsPart number at k buf buf' opens) → opens number ≡ Some file → at ≡ length bytes
    → Begins (node_at (state a) file.node) bytes → ReadOn b file bytes k buf'
unfolding call_waits
read_on a b number at k buf buf' opens file bytes call is_open at_is begun =
    let w = call_waits a b (ReadsPart number at k buf buf' opens) call call.answer.move_is in
    let here = begins_waits a b file.node bytes w begun in
    let file_is : file ≡ call.answer.file = some_same _ _ (sym is_open ∙ call.answer.was_open) in
    let node_is : node_at (state b) file.node ≡ Some call.answer.view = ap (λ s. node_at s file.node) (waits_state a b w) ∙ ap (λ f. node_at (run (state a) call.others) f.node) file_is ∙ call.answer.node_is in
    let view_is : call.answer.view ≡ here.view = some_same _ _ (sym node_is ∙ here.is) in
    let whole : call.answer.view.bytes ≡ bytes ++ here.rest = ap (λ v. v.bytes) view_is ∙ here.begins in
    let count : length call.answer.view.bytes ≡ length bytes + length here.rest = ap length whole ∙ length-append bytes here.rest in
    let behind : drop at call.answer.view.bytes ≡ here.rest = ap (λ n. drop n call.answer.view.bytes) at_is ∙ ap (drop (length bytes)) whole ∙ drop-append_seam bytes here.rest in
    let le : k ≤ length here.rest = omega (arith, call.answer.within, count, at_is) in
    let put : buf' ≡ take k here.rest ++ drop k buf = call.answer.bytes ∙ ap (λ r. take k r ++ drop k buf) behind in
    record {
      begun = here;
      within = le;
      front = ap (take k) put ∙ front_is (take k here.rest) buf k (length-take-le k here.rest le);
      at_end = λ none. let end = call.answer.at_end none in no_length here.rest (omega (arith, end, count, at_is));
    }

-- what was read, and the next piece, is what the node begins with
pub begins_on : (a b : FolderView) (number at k : ℕ) (buf buf' : List ℕ) (opens : Opens) (file : OpenFile) (bytes : List ℕ) → Call a b (ReadsPart number at k buf buf' opens) → opens number ≡ Some file → at ≡ length bytes
    → Begins (node_at (state a) file.node) bytes → Begins (node_at (state b) file.node) (bytes ++ take k buf')
begins_on a b number at k buf buf' opens file bytes call is_open at_is begun =
    let on = read_on a b number at k buf buf' opens file bytes call is_open at_is begun in
    let rest = on.begun.rest in
    record {
      view = on.begun.view;
      rest = drop k rest;
      is = on.begun.is;
      begins = on.begun.begins ∙ ap (λ r. bytes ++ r) (sym (take-append-drop k rest)) ∙ sym (append_assoc bytes (take k rest) (drop k rest)) ∙ ap (λ f. (bytes ++ f) ++ drop k rest) (sym on.front);
    }

-- what was read is what the node began with at the last state, or all of it
closes : (a b : FolderView) (node most : ℕ) (bytes : List ℕ) → Waits a b → (begun : Begins (node_at (state b) node) bytes) → bytes ≡ take most begun.view.bytes → ReadsNode node most bytes (state a) (moved a b)
closes a b node most bytes w begun bytes_are = record {
  before = moved a b;
  later = [];
  split = sym (append-nil (moved a b));
  view = begun.view;
  node_is = ap (λ es. node_at (run (state a) es) node) (waits_moved a b w) ∙ ap (λ s. node_at s node) (sym (waits_state a b w)) ∙ begun.is;
  bytes_are = bytes_are;
}

-- as many were read as are wanted
pub reads_enough : (a b : FolderView) (node most : ℕ) (bytes : List ℕ) → Waits a b → Begins (node_at (state b) node) bytes → most ≤ length bytes → length bytes ≤ most → ReadsNode node most bytes (state a) (moved a b)
reads_enough a b node most bytes w begun more within =
    let same : most ≡ length bytes = omega (arith, more, within) in
    closes a b node most bytes w begun (sym (ap (λ n. take n begun.view.bytes) same ∙ ap (take (length bytes)) begun.begins ∙ take-append_seam bytes begun.rest))

-- the last read found nothing more
pub reads_end : (a b c : FolderView) (number at k most : ℕ) (buf buf' : List ℕ) (opens : Opens) (file : OpenFile) (bytes : List ℕ) → Waits a c → Call b c (ReadsPart number at k buf buf' opens) → k ≡ 0 → opens number ≡ Some file
    → at ≡ length bytes → Begins (node_at (state b) file.node) bytes → length bytes ≤ most → ReadsNode file.node most bytes (state a) (moved a c)
reads_end a b c number at k most buf buf' opens file bytes w call none is_open at_is begun within =
    let on = read_on b c number at k buf buf' opens file bytes call is_open at_is begun in
    let whole : on.begun.view.bytes ≡ bytes = on.begun.begins ∙ ap (λ r. bytes ++ r) (on.at_end none) ∙ append-nil bytes in
    closes a c file.node most bytes w on.begun (sym (ap (take most) whole ∙ take_all most bytes within))

reads_still : (number at : ℕ) (buf buf' : List ℕ) (opens : Opens) (r : ReadAt) (s : State) (own : Option Move) → ReadsBytes number at buf buf' opens r s own → own ≡ None
reads_still number at buf buf' opens (Read k) s own h = h.move_is
reads_still number at buf buf' opens Failed s own h = h

-- a reading only waits
pub read_waits : (a b c : FolderView) (number at : ℕ) (buf buf' : List ℕ) (opens : Opens) (r : ReadAt) → b.token ≡ a.token → Waits a b → Call b c (ReadsBytes number at buf buf' opens r) → Waits a c
read_waits a b c number at buf buf' opens r token w call =
    waits_trans a b c token w (call_waits b c (ReadsBytes number at buf buf' opens r) call (reads_still number at buf buf' opens r _ call.own call.answer))

-- the node that was open from the opening on
reads_named : (a b₁ b₂ b₃ : FolderView) (path : PathView) (most number : ℕ) (bytes : List ℕ) → Call a b₁ (OpensNode path number b₁.opens) → Waits b₁ b₂ → Waits b₂ b₃
    → ReadsOpen number most (open_read.Bytes bytes) b₁ b₂ → ReadsNamed path most bytes (state a) (moved a b₃)
unfolding call_waits
reads_named a b₁ b₂ b₃ path most number bytes call w v reads =
    let u = call_waits a b₁ (OpensNode path number b₁.opens) call call.answer.move_is in
    let read = reads (record { node = call.answer.node; made = false }) call.answer.is_open in
    let parts : w.others ≡ read.before ++ read.later = sym (waits_moved b₁ b₂ w) ∙ read.split in
    let rest = w.others ++ v.others in
    let trace : b₃.history.trace ≡ a.history.trace ++ (call.others ++ rest) =
    v.trace ∙ ap (λ t. t ++ v.others) (w.trace ∙ ap (λ t. t ++ w.others) u.trace) ∙ append_assoc (a.history.trace ++ call.others) w.others v.others ∙ append_assoc a.history.trace call.others rest in
    record {
      before = call.others;
      middle = read.before;
      later = read.later ++ v.others;
      split = since-is a.history b₃.history (call.others ++ rest) trace ∙ ap (λ es. call.others ++ (es ++ v.others)) parts ∙ ap (λ es. call.others ++ es) (append_assoc read.before read.later v.others);
      node = call.answer.node;
      named = call.answer.named;
      view = read.view;
      node_is = ap (λ s. node_at s call.answer.node) (run-append (state a) call.others read.before ∙ ap (λ s. run s read.before) (sym (waits_state a b₁ u))) ∙ read.node_is;
      has = read.bytes_are;
    }

pub reads_file : (a b₁ b₂ b₃ : FolderView) (path : PathView) (most number : ℕ) (r : OpenRead) → Call a b₁ (OpensNode path number b₁.opens) → Waits b₁ b₂ → Waits b₂ b₃ → ReadsOpen number most r b₁ b₂ → ReadsFile path most (file_of r) (state a) (moved a b₃)
reads_file a b₁ b₂ b₃ path most number (open_read.Bytes bytes) call w v reads = reads_named a b₁ b₂ b₃ path most number bytes call w v reads
reads_file a b₁ b₂ b₃ path most number open_read.Failed call w v reads = tt
reads_file a b₁ b₂ b₃ path most number open_read.NoMemory call w v reads = tt

-- the path named no file at the step of the call
pub reads_no_file : (a b : FolderView) (path : PathView) → Call a b (λ s own. (is_file s path ≡ false) × (own ≡ None)) → AtSome (state a) (moved a b) (λ s. is_file s path ≡ false)
unfolding call_waits
reads_no_file a b path call =
    let w = call_waits a b (λ s own. (is_file s path ≡ false) × (own ≡ None)) call call.answer.1 in
    (call.others, [], waits_moved a b w ∙ sym (append-nil call.others), call.answer.0)

pub file_within : (most : ℕ) (r : OpenRead) → OpenWithin most r → FileWithin most (file_of r)
file_within most (open_read.Bytes bytes) h = h
file_within most open_read.Failed h = tt
file_within most open_read.NoMemory h = tt

-- a reading fails exactly where it is told as failed
pub file_failed : (r : OpenRead) → file_of r ≡ file_read.Failed → r ≡ open_read.Failed
file_failed (open_read.Bytes bytes) e = cc
file_failed open_read.Failed e = refl
file_failed open_read.NoMemory e = cc

-- a number that was opened and closed again
pub opened_closed : (made : Bool) (number : ℕ) (before between after : Opens) → OpensNew made number before between → after ≡ closed between number → after ≡ before
opened_closed made number before between after new is =
    is ∙ ap (λ o. closed o number) new.opens ∙ (λ i k. each k i)
  where
    put_off : (b : Bool) (file : OpenFile) (here : Option OpenFile) → (b ≡ true → here ≡ None) → cond b None (cond b (Some file) here) ≡ here
    put_off true file here none = sym (none refl)
    put_off false file here none = refl

    each : (k : ℕ) → closed (put_open before number new.file) number k ≡ before k
    each k = put_off (nat_eq k number) new.file (before k) (λ e. ap before ((Decides-eqb k number).0 e) ∙ new.fresh)
