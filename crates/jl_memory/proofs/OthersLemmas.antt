-- The moves of others before a call: which groups are taken and which are left, and how many moves of its own the run has.
use Rattle.std.proofs.Common.{◌≡◌, ℕ, zero, suc, ◌+◌, ◌<◌, ◌≤◌, List, [], ◌∷◌, ◌++◌, Bool, true, false, cond, not, nat_eq, nat_le, nat_lt, Option, None, Some, is_some, length, drop, get_or, sym, ◌∙◌, ap, subst, refl, true≢false, min, append_assoc, add-zero, arith}
use Rattle.std.specs.List.{filter, position, position_or_len, remove, flat_map}
use Rattle.std.specs.Option.{option_map_or}
use Rattle.std.specs.Str.{bytes_eq}
use Rattle.std.proofs.lemmas.Bool.{ltb-false}
use Rattle.std.proofs.lemmas.Slice.Eq.{bytes_eq-Decides}
use Rattle.std.proofs.lemmas.List.Sums.{sum_by-append, length-filter}
use Rattle.std.proofs.lemmas.List.{append-nil, drop-append-le}
use Rattle.jl_folder.specs.declared.moves.Move.{Move}
use Rattle.jl_folder.specs.State.{Trace, IsForeign, own_moves}
use Rattle.jl_folder.specs.Calls.{own_event}
use Rattle.jl_memory.specs.declared.memory.MemFolder.{MemFolder}
use Rattle.jl_memory.specs.Memory.{IsTold, mem_state}
use Rattle.jl_memory.specs.Scripts.{own_count, is_cut, torn_of, moves_before}
use Rattle.jl_memory.specs.Steps.{Interlude, SoFar}
use Rattle.jl_memory.specs.Disk.{LetsMove, LetMoves}
use Rattle.jl_memory.proofs.LetLemmas.{let_none, let_on, lets_lawful, lets_foreign}

-- an element that fails the test may go
pub filter-remove : {X : Type 0} (p : X → Bool) (i : ℕ) (xs : List X) (d : X) → i < length xs → p (get_or xs i d) ≡ false → filter p (remove xs i) ≡ filter p xs
filter-remove p i [] d lt out = let bad : ⊥ = omega arith in absurd bad
filter-remove p zero (x ∷ xs) d lt out = sym (ap (λ b. cond b (x ∷ filter p xs) (filter p xs)) out)
filter-remove p (suc i) (x ∷ xs) d lt out = ap (λ r. cond (p x) (x ∷ r) r) (filter-remove p i xs d (omega arith) out)

filter_past : {X : Type 0} (p : X → Bool) (xs : List X) → length xs ≤ position_or_len p xs → (filter (λ x. not (p x)) xs ≡ xs) × (filter p xs ≡ [])
filter_past p [] le = (refl, refl)
filter_past p (x ∷ xs) le = elim (p x) as (λ b. suc (length xs) ≤ cond (not b) (1 + position_or_len p xs) 0 → (cond (not b) (x ∷ filter (λ y. not (p y)) xs) (filter (λ y. not (p y)) xs) ≡ x ∷ xs) × (cond b (x ∷ filter p xs) (filter p xs) ≡ [])) [
  | true ↦ λ past. let bad : ⊥ = omega arith in absurd bad
  | false ↦ λ past. let rest = filter_past p xs (omega arith) in (ap (λ r. x ∷ r) rest.0, rest.1)
] le

-- where no element passes a test, all pass its opposite
pub filter_none : {X : Type 0} (p : X → Bool) (xs : List X) → position p xs ≡ None → (filter (λ x. not (p x)) xs ≡ xs) × (filter p xs ≡ [])
filter_none p xs none =
    let n = position_or_len p xs in
    filter_past p xs (elim (nat_lt n (length xs)) as (λ b. nat_lt n (length xs) ≡ b → cond b (Some n) None ≡ None → length xs ≤ n) [
      | true ↦ λ _ e. absurd (true≢false (ap is_some e))
      | false ↦ λ is _. ltb-false n (length xs) is
    ] refl none)

filter_later : {X : Type 0} (p : X → Bool) (x : X) (xs : List X) (n : ℕ) (d : X) → p x ≡ false → filter p xs ≡ get_or xs n d ∷ filter p (remove xs n) → filter p (x ∷ xs) ≡ get_or (x ∷ xs) (suc n) d ∷ filter p (remove (x ∷ xs) (suc n))
filter_later p x xs n d out rest =
    ap (λ b. cond b (x ∷ filter p xs) (filter p xs)) out ∙ rest ∙ ap (λ r. get_or xs n d ∷ r) (sym (ap (λ b. cond b (x ∷ filter p (remove xs n)) (filter p (remove xs n))) out))

filter_at : {X : Type 0} (p : X → Bool) (xs : List X) (i : ℕ) (d : X) → i < length xs → position_or_len p xs ≡ i → filter p xs ≡ get_or xs i d ∷ filter p (remove xs i)
filter_at p [] i d lt is = let bad : ⊥ = omega arith in absurd bad
filter_at p (x ∷ xs) i d lt is = elim (p x) as (λ b. cond (not b) (1 + position_or_len p xs) 0 ≡ i → p x ≡ b → filter p (x ∷ xs) ≡ get_or (x ∷ xs) i d ∷ filter p (remove (x ∷ xs) i)) [
  | true ↦ λ at hit. subst (λ j. filter p (x ∷ xs) ≡ get_or (x ∷ xs) j d ∷ filter p (remove (x ∷ xs) j)) at (ap (λ b. cond b (x ∷ filter p xs) (filter p xs)) hit)
  | false ↦ λ at out.
      let short : position_or_len p xs < length xs = omega (arith, lt, at) in
      let here : suc (position_or_len p xs) ≡ i = omega (arith, at) in
      subst (λ j. filter p (x ∷ xs) ≡ get_or (x ∷ xs) j d ∷ filter p (remove (x ∷ xs) j)) here (filter_later p x xs (position_or_len p xs) d out (filter_at p xs (position_or_len p xs) d short refl))
] is refl

-- the first that passes a test comes before the others that do
pub filter_first : {X : Type 0} (p : X → Bool) (xs : List X) (i : ℕ) (d : X) → i < length xs → position p xs ≡ Some i → filter p xs ≡ get_or xs i d ∷ filter p (remove xs i)
filter_first p xs i d lt is =
    let n = position_or_len p xs in
    filter_at p xs i d lt (elim (nat_lt n (length xs)) as (λ b. cond b (Some n) None ≡ Some i → n ≡ i) [ true ↦ λ e. cc | false ↦ λ e. cc ] is)

none_own : (me : List ℕ) (es : Trace) → IsForeign me es → filter (λ e. bytes_eq e.0 me) es ≡ []
none_own me [] f = refl
none_own me (e ∷ es) f = elim (bytes_eq e.0 me) as (λ b. bytes_eq e.0 me ≡ b → cond b (e ∷ filter (λ x. bytes_eq x.0 me) es) (filter (λ x. bytes_eq x.0 me) es) ≡ []) [
  | true ↦ λ is. absurd (f.0 ((bytes_eq-Decides e.0 me).0 is))
  | false ↦ λ _. none_own me es f.1
] refl

own_moves-append : (me : List ℕ) (es fs : Trace) → IsForeign me fs → own_moves me (es ++ fs) ≡ own_moves me es
own_moves-append me es fs f =
    let none : own_moves me fs ≡ 0 = sym (length-filter (λ e. bytes_eq e.0 me) fs) ∙ ap length (none_own me fs f) in
    sum_by-append (λ e. cond (bytes_eq e.0 me) 1 0) es fs ∙ ap (λ n. own_moves me es + n) none ∙ add-zero (own_moves me es)

-- of others' moves and an own one, those of others are the others'
pub filter_foreign : (me : List ℕ) (es : Trace) (own : Option Move) → IsForeign me es → filter (λ e. not (bytes_eq e.0 me)) (es ++ own_event me own) ≡ es
filter_foreign me [] None f = refl
filter_foreign me [] (Some m) f = ap (λ b. cond (not b) ((me, m) ∷ []) []) ((bytes_eq-Decides me me).1 refl)
filter_foreign me (e ∷ es) own f = elim (bytes_eq e.0 me) as (λ b. bytes_eq e.0 me ≡ b → cond (not b) (e ∷ filter (λ x. not (bytes_eq x.0 me)) (es ++ own_event me own)) (filter (λ x. not (bytes_eq x.0 me)) (es ++ own_event me own)) ≡ e ∷ es) [
  | true ↦ λ is. absurd (f.0 ((bytes_eq-Decides e.0 me).0 is))
  | false ↦ λ _. ap (λ r. e ∷ r) (filter_foreign me es own f.1)
] refl

-- a run makes no move while others move
pub idle_interlude : (a b : MemFolder) → Interlude a b → own_moves a.token b.disk.trace.items ≡ own_moves a.token a.disk.trace.items
idle_interlude a b i = ap (own_moves a.token) i.trace ∙ own_moves-append a.token a.disk.trace.items i.others i.foreign

-- nor does the count of its moves change
count_kept : (a b : MemFolder) → IsTold a → Interlude a b → b.token ≡ a.token → b.begun ≡ a.begun → own_count b ≡ own_count a
count_kept a b told i token begun =
    (λ j. own_moves (token j) (drop (begun j) (i.trace j))) ∙ ap (own_moves a.token) (drop-append-le a.begun a.disk.trace.items i.others told.begun) ∙ own_moves-append a.token (drop a.begun a.disk.trace.items) i.others i.foreign

-- so that a run is cut off by its own moves alone
pub cut_kept : (a b : MemFolder) → IsTold a → Interlude a b → b.token ≡ a.token → b.begun ≡ a.begun → b.stop ≡ a.stop → is_cut b ≡ is_cut a
cut_kept a b told i token begun stop =
    let same : own_count b ≡ own_count a = count_kept a b told i token begun in
    λ j. option_map_or (λ s. nat_le s.moves (same j)) (stop j) false

-- what is torn off is the same before and after the moves of others
pub torn_kept : (a b : MemFolder) (n : ℕ) → IsTold a → Interlude a b → b.token ≡ a.token → b.begun ≡ a.begun → b.stop ≡ a.stop → torn_of b n ≡ torn_of a n
torn_kept a b n told i token begun stop =
    let same : own_count b ≡ own_count a = count_kept a b told i token begun in
    λ j. option_map_or (λ s. cond (nat_eq (same j) s.moves) (Some (min s.torn n)) None) (stop j) None

-- none are taken yet
pub so_none : (a : MemFolder) → SoFar a a
so_none a = record { taken = []; rest = refl; start = refl; moved = let_none a.disk }

-- one group more
pub so_more : (a b c : MemFolder) (items : Trace) → SoFar a b → flat_map (λ o. o.1.items) (filter (λ o. nat_eq o.0 a.calls) b.others.items) ≡ items ++ flat_map (λ o. o.1.items) (filter (λ o. nat_eq o.0 a.calls) c.others.items)
    → c.disk.start ≡ b.disk.start → LetMoves b.disk c.disk items → SoFar a c
so_more a b c items so split start moved = record {
  taken = so.taken ++ items;
  rest = so.rest ∙ ap (λ l. so.taken ++ l) split ∙ sym (append_assoc so.taken items (flat_map (λ o. o.1.items) (filter (λ o. nat_eq o.0 a.calls) c.others.items)));
  start = start ∙ so.start;
  moved = let_on a.disk b.disk c.disk so.taken items so.start so.moved moved;
}

-- all are taken
pub so_all : (a b : MemFolder) → SoFar a b → filter (λ o. nat_eq o.0 a.calls) b.others.items ≡ [] → IsForeign a.token (moves_before a) → Interlude a b
so_all a b so none foreign =
    let all : so.taken ≡ moves_before a = sym (so.rest ∙ ap (λ os. so.taken ++ flat_map (λ o. o.1.items) os) none ∙ append-nil so.taken) in
    let m = so.moved in
    let lets : LetsMove m.lost (mem_state a) (moves_before a) m.made = subst (λ l. LetsMove m.lost (mem_state a) l m.made) all m.lets in
    record {
      others = m.made;
      lost = m.lost;
      trace = m.trace;
      start = so.start;
      counts = m.counts;
      lets = lets;
      lawful = lets_lawful m.lost (mem_state a) (moves_before a) m.made lets;
      foreign = lets_foreign m.lost a.token (mem_state a) (moves_before a) m.made lets foreign;
    }
