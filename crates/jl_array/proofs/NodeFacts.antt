-- What an open number's node has, while others move and it is read.
use Rattle.std.proofs.Common.{◌≡◌, ℕ, ◌≤◌, List, [], ◌++◌, Option, None, Some, IsSome, length, take}
use Rattle.std.proofs.Common.{drop, refl, sym, ap, subst, ◌∙◌}
use Rattle.std.proofs.Common.{arith, append-nil, length-take, length-drop, take_at}
use Rattle.jl_folder.specs.declared.moves.Node.{Node}
use Rattle.jl_folder.specs.declared.moves.OpenFile.{OpenFile}
use Rattle.jl_folder.specs.declared.moves.Move.{Move}
use Rattle.jl_folder.specs.State.{State, IsHistory, node_at, run}
use Rattle.jl_folder.specs.Views.{FolderView, state}
use Rattle.jl_folder.specs.Calls.{Call, Waits, ReadsPart, own_event}
use Rattle.jl_folder.proofs.NodesKept.{Begins, is_there, begins_run}
use Rattle.jl_rely.proofs.Since.{now_went}
use Rattle.jl_rely.proofs.Composed.{went_call, went_waits}
use Rattle.jl_array.specs.Dumps.{HasPart}
use Rattle.jl_array.specs.Nodes.{OpenHas}
use Rattle.jl_array.proofs.Parts.{part_grown, part_front}

-- what is there is one thing
one_of : {A : Type 0} (o : Option A) (x y : A) → o ≡ Some x → o ≡ Some y → x ≡ y
one_of o x y e f = let h : Some x ≡ Some y = sym e ∙ f in cc

-- ---- facts of one node

-- an open number has its node
pub has_node : (v : FolderView) (number : ℕ) (P : List ℕ → Type 0) → IsHistory v.history v.opens
    → IsSome (v.opens number) → ((bytes : List ℕ) → P bytes) → OpenHas number P v
has_node v number P told opened all = by_file (v.opens number) refl opened
  where
    by_file : (o : Option OpenFile) → v.opens number ≡ o → IsSome o → OpenHas number P v
    by_file None is some = cc
    by_file (Some file) is some =
        let there = is_there (node_at (state v) file.node) (told.nodes number file is) in
        record {
          file = file;
          is_open = is;
          node = there.view;
          node_is = there.is;
          has = all there.view.bytes;
        }

-- a weaker fact
pub has_as : (v : FolderView) (number : ℕ) (P Q : List ℕ → Type 0)
    → ((bytes : List ℕ) → P bytes → Q bytes) → OpenHas number P v → OpenHas number Q v
has_as v number P Q f has =
    record {
      file = has.file;
      is_open = has.is_open;
      node = has.node;
      node_is = has.node_is;
      has = f has.node.bytes has.has;
    }

-- two facts hold of one node
pub has_both : (v : FolderView) (number : ℕ) (P Q : List ℕ → Type 0) → OpenHas number P v
    → OpenHas number Q v → OpenHas number (λ bytes. P bytes × Q bytes) v
has_both v number P Q a b =
    let one : b.file ≡ a.file = one_of (v.opens number) b.file a.file b.is_open a.is_open in
    let same : b.node ≡ a.node =
    one_of (node_at (state v) a.file.node) b.node a.node
    (ap (λ (f : OpenFile). node_at (state v) f.node) (sym one) ∙ b.node_is) a.node_is in
    record {
      file = a.file;
      is_open = a.is_open;
      node = a.node;
      node_is = a.node_is;
      has = (a.has, subst (λ (n : Node). Q n.bytes) same b.has);
    }

-- ---- while others move

-- a fact that a longer file has too
abbrev pub IsLastingFact : (List ℕ → Type 0) → Type 0
IsLastingFact P = (bytes rest : List ℕ) → P bytes → P (bytes ++ rest)

-- a part of a file is such a fact
pub part_lasting : (at : ℕ) (part : List ℕ) → IsLastingFact (HasPart at part)
part_lasting at part bytes rest has = part_grown at part bytes rest has

-- it holds after others moved
pub has_later : (a b : FolderView) (number : ℕ) (P : List ℕ → Type 0) → IsLastingFact P
    → b.opens ≡ a.opens → Waits a b → OpenHas number P a → OpenHas number P b
has_later a b number P lasts same waits has =
    let begun : Begins (node_at (state a) has.file.node) has.node.bytes =
    record {
      view = has.node;
      rest = [];
      is = has.node_is;
      begins = sym (append-nil has.node.bytes);
    } in
    let on = begins_run (state a) waits.others has.file.node has.node.bytes waits.lawful begun in
    record {
      file = has.file;
      is_open = ap (λ (o : ℕ → Option OpenFile). o number) same ∙ has.is_open;
      node = on.view;
      node_is =
          ap (λ (s : State). node_at s has.file.node)
          (now_went a b waits.others (went_waits a b waits)) ∙ on.is;
      has = subst P (sym on.begins) (lasts has.node.bytes on.rest has.has);
    }

-- ---- a read

-- the state that a call without a move leaves is the one in which it answers
pub state_answer : (a b : FolderView) (Answer : State → Option Move → Type 0)
    (call : Call a b Answer)
    → call.own ≡ None → state b ≡ run (state a) call.others
state_answer a b Answer call none =
    now_went a b (call.others ++ own_event a.token call.own) (went_call a b Answer call)
    ∙ ap (λ (o : Option Move). run (state a) (call.others ++ own_event a.token o)) none
    ∙ ap (run (state a)) (append-nil call.others)

-- what a read gave stands in the node from its place on, or the node ends there
pub record Gave (at k : ℕ) (part file : List ℕ) : Type 0 where
  pub size : length (take k part) ≡ k
  pub stands : HasPart at (take k part) file
  pub ends : k ≡ 0 → length file ≤ at

-- what a read gave, of the node that is open
pub read_gives : (a b : FolderView) (number at k : ℕ) (buf buf' : List ℕ) → b.opens ≡ a.opens
    → Call a b (ReadsPart number at k buf buf' a.opens) → OpenHas number (Gave at k buf') b
read_gives a b number at k buf buf' same call =
    let gives = call.answer in
    let file = gives.view.bytes in
    let piece = take k (drop at file) in
    let size : length piece ≡ k =
    omega (arith, gives.within, length-take k (drop at file), length-drop at file) in
    let front : take k buf' ≡ piece = ap (take k) gives.bytes ∙ take_at piece (drop k buf) k size in
    record {
      file = gives.file;
      is_open = ap (λ (o : ℕ → Option OpenFile). o number) same ∙ gives.was_open;
      node = gives.view;
      node_is =
          ap (λ (s : State). node_at s gives.file.node)
          (state_answer a b (ReadsPart number at k buf buf' a.opens) call gives.move_is)
          ∙ gives.node_is;
      has = record {
        size = ap length front ∙ size;
        stands =
            subst (λ (l : List ℕ). HasPart at l file) (sym front)
            (part_front at k file gives.within);
        ends = gives.at_end;
      };
    }
