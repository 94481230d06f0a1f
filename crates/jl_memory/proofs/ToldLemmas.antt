-- What a folder in memory tells goes on, step by step.
use Rattle.std.proofs.Common.{◌≡◌, ℕ, suc, ◌+◌, ◌<◌, ◌≤◌, List, [], ◌∷◌, ◌++◌, None, Some, IsSome, is_some, cond, Bool, true, false, ◌||◌, true≢false, nat_eq, length, take, drop, All, sym, ◌∙◌, ap, subst, refl, arith, length-append}
use Rattle.std.proofs.lemmas.List.Elements.{All-append, All-take, All-drop}
use Rattle.std.specs.List.{remove, list_any}
use Rattle.jl_folder.specs.declared.moves.Place.TheVariants.{File}
use Rattle.jl_folder.specs.declared.moves.Move.TheVariants.{Create}
use Rattle.jl_folder.specs.declared.moves.OpenFile.{OpenFile}
use Rattle.jl_text.specs.Paths.{PathView}
use Rattle.jl_folder.specs.State.{State, Event, Trace, Opens, IsForeign, place_at, node_at, put_open, closed, new_node}
use Rattle.jl_folder.specs.OpenTable.{opens_of}
use Rattle.jl_folder.proofs.NodesKept.{node-kept, node-kept_run, names-kept_run, same_node}
use Rattle.jl_folder.proofs.Looks.{node_at-after}
use Rattle.jl_memory.specs.declared.disk.Disk.{Disk}
use Rattle.jl_memory.specs.declared.memory.MemFolder.{MemFolder}
use Rattle.jl_memory.specs.Tables.{state_of, found_node}
use Rattle.jl_memory.specs.Disk.{disk_state, IsConsistent}
use Rattle.jl_memory.specs.Memory.{mem_state, IsTold}
use Rattle.jl_memory.specs.Scripts.{IsLeastFree}
use Rattle.jl_memory.proofs.LetLemmas.{state_on}

-- the open numbers stay on nodes that are there
pub told_on : (m m' : MemFolder) (es : Trace) → IsTold m → IsConsistent m'.disk → m'.disk.start ≡ m.disk.start → m'.disk.trace.items ≡ m.disk.trace.items ++ es → m'.opens.items ≡ m.opens.items → m'.begun ≡ m.begun
    → All (λ o. IsForeign m'.token o.1.items) m'.others.items → IsTold m'
told_on m m' es told sound start trace opens begun foreign = record {
  disk = sound;
  opens = λ number file is. subst (λ s. IsSome (node_at s file.node)) (sym (state_on m.disk.start m'.disk.start m.disk.trace.items m'.disk.trace.items es start trace))
      (node-kept_run (mem_state m) es file.node (told.opens number file (ap (λ files. opens_of files number) (sym opens) ∙ is)));
  foreign = foreign;
  begun = subst (λ n. n ≤ length m'.disk.trace.items) (sym begun) (subst (λ tr. m.begun ≤ length tr) (sym trace) (longer (length m.disk.trace.items) (length es) (length (m.disk.trace.items ++ es)) m.begun (length-append m.disk.trace.items es) told.begun));
}
  where
    longer : (n k l b : ℕ) → l ≡ n + k → b ≤ n → b ≤ l
    longer n k l b is le = omega (arith, is, le)

-- what is told depends on no count
pub told_counted : (m : MemFolder) (n : ℕ) → IsTold m → IsTold (record m { faults = n })
told_counted m n told = record { disk = told.disk; opens = told.opens; foreign = told.foreign; begun = told.begun }

-- nor on the number of the next call
pub told_numbered : (m : MemFolder) (n : ℕ) → IsTold m → IsTold (record m { calls = n })
told_numbered m n told = record { disk = told.disk; opens = told.opens; foreign = told.foreign; begun = told.begun }

-- other open numbers, each on a node that is there
pub told_open : (m m' : MemFolder) → IsTold m → m'.disk ≡ m.disk → m'.token ≡ m.token → m'.others ≡ m.others → m'.begun ≡ m.begun
    → ((number : ℕ) (file : OpenFile) → opens_of m'.opens.items number ≡ Some file → IsSome (node_at (mem_state m) file.node)) → IsTold m'
told_open m m' told disk token others begun opens = record {
  disk = subst IsConsistent (sym disk) told.disk;
  opens = λ number file is. subst (λ d. IsSome (node_at (disk_state d) file.node)) (sym disk) (opens number file is);
  foreign = subst (λ os. All (λ o. IsForeign m'.token o.1.items) os.items) (sym others) (subst (λ t. All (λ o. IsForeign t o.1.items) m.others.items) (sym token) told.foreign);
  begun = subst (λ n. n ≤ length m'.disk.trace.items) (sym begun) (subst (λ d. m.begun ≤ length d.trace.items) (sym disk) told.begun);
}

-- a number that is put is open on that file, and others are as before
pub open_put : (s : State) (opens : Opens) (place : ℕ) (new : OpenFile) → IsSome (node_at s new.node) → ((number : ℕ) (file : OpenFile) → opens number ≡ Some file → IsSome (node_at s file.node))
    → (number : ℕ) (file : OpenFile) → put_open opens place new number ≡ Some file → IsSome (node_at s file.node)
open_put s opens place new here each number file =
    elim (nat_eq number place) as (λ b. cond b (Some new) (opens number) ≡ Some file → IsSome (node_at s file.node)) [
      | true ↦ λ is. let same : new ≡ file = cc in subst (λ f. IsSome (node_at s f.node)) same here
      | false ↦ λ is. each number file is
    ]

pub open_closed : (s : State) (opens : Opens) (place : ℕ) → ((number : ℕ) (file : OpenFile) → opens number ≡ Some file → IsSome (node_at s file.node))
    → (number : ℕ) (file : OpenFile) → closed opens place number ≡ Some file → IsSome (node_at s file.node)
open_closed s opens place each number file =
    elim (nat_eq number place) as (λ b. cond b None (opens number) ≡ Some file → IsSome (node_at s file.node)) [
      | true ↦ λ is. cc
      | false ↦ λ is. each number file is
    ]

-- the node that a name names is there
pub sound_named : (d : Disk) → IsConsistent d → (p : PathView) (n : ℕ) → place_at (disk_state d) p ≡ Some (File n) → IsSome (node_at (disk_state d) n)
sound_named d sound p n is = names-kept_run (state_of d.start) d.trace.items sound.start.nodes p n is

-- a node that was made is there
pub created_node : (d d' : Disk) (t : List ℕ) (p : PathView) (n : ℕ) → d'.start ≡ d.start → d'.trace.items ≡ d.trace.items ++ (t, Create p n) ∷ [] → IsSome (node_at (disk_state d') n)
created_node d d' t p n start trace =
    subst (λ s. IsSome (node_at s n)) (sym (state_on d.start d'.start d.trace.items d'.trace.items ((t, Create p n) ∷ []) start trace))
    (subst IsSome (sym (node_at-after (disk_state d) (t, Create p n) n)) (same_node n n (new_node t) (node_at (disk_state d) n) refl))

pub All-remove : {X : Type 0} (P : X → Type 0) (i : ℕ) (xs : List X) → All P xs → All P (remove xs i)
All-remove P i xs all = All-append P (take i xs) (drop (suc i) xs) (All-take P i xs all) (All-drop P (suc i) xs all)

pub some_same : {X : Type 0} {x y : X} → Some x ≡ Some y → x ≡ y
some_same e = cc

or_kept : (x y x' y' : Bool) → (x ≡ true → x' ≡ true) → y ≡ y' → (x || y) ≡ true → (x' || y') ≡ true
or_kept true y x' y' on same h = ap (λ b. b || y') (on refl)
or_kept false y x' y' on same h = elim x' as (λ b. (b || y') ≡ true) [ true ↦ refl | false ↦ sym same ∙ h ]

or_false : (x y : Bool) → (x || y) ≡ false → y ≡ false
or_false true y h = absurd (true≢false h)
or_false false y h = h

-- the least number that was free is so beside the nodes after a move
pub least_after : (b n : MemFolder) (e : Event) (node : ℕ) → IsTold b → n.disk.start ≡ b.disk.start → n.disk.trace.items ≡ b.disk.trace.items ++ e ∷ [] → n.named ≡ b.named → IsLeastFree b.disk.nodes.items b.named.items node
    → (list_any (λ k. nat_eq k node) n.named.items ≡ false) × ((k : ℕ) → k < node → (is_some (node_at (mem_state n) k) || list_any (λ j. nat_eq j k) n.named.items) ≡ true)
least_after b n e node told start trace named least = (
  ap (λ v. list_any (λ k. nat_eq k node) v.items) named ∙ or_false (is_some (found_node b.disk.nodes.items node)) (list_any (λ k. nat_eq k node) b.named.items) least.0,
  λ k lt. or_kept (is_some (found_node b.disk.nodes.items k)) (list_any (λ j. nat_eq j k) b.named.items) (is_some (node_at (mem_state n) k)) (list_any (λ j. nat_eq j k) n.named.items)
      (λ there. subst (λ st. IsSome (node_at st k)) (sym (state_on b.disk.start n.disk.start b.disk.trace.items n.disk.trace.items (e ∷ []) start trace)) (node-kept (mem_state b) e k (ap is_some (sym (told.disk.agrees.node_is k)) ∙ there)))
      (ap (λ v. list_any (λ j. nat_eq j k) v.items) (sym named))
      (least.1 k lt),
)
