-- Which moves of others are made: put together, and what follows of them.
use Rattle.std.proofs.Common.{◌≡◌, ℕ, zero, suc, ◌+◌, List, [], ◌∷◌, ◌++◌, inl, inr, sym, ◌∙◌, ap, subst, refl, append_assoc, arith}
use Rattle.std.proofs.lemmas.List.{append-nil}
use Rattle.jl_text.specs.Counts.{counted}
use Rattle.jl_folder.specs.State.{State, Event, Trace, run, after, Allowed, IsTrace, IsForeign}
use Rattle.jl_folder.proofs.Traces.{run-append}
use Rattle.jl_memory.specs.declared.tree.Tree.{Tree}
use Rattle.jl_memory.specs.declared.disk.Disk.{Disk}
use Rattle.jl_memory.specs.Tables.{state_of}
use Rattle.jl_memory.specs.Disk.{disk_state, LetMoves, LetsMove, counted_times}

-- the state after more moves
pub state_on : (t t' : Tree) (tr tr' es : Trace) → t' ≡ t → tr' ≡ tr ++ es → run (state_of t') tr' ≡ run (run (state_of t) tr) es
state_on t t' tr tr' es same more = (λ i. run (state_of (same i)) (more i)) ∙ run-append (state_of t) tr es

-- some moves, and then others
lets_on : (j k : ℕ) (s : State) (es made fs made' : Trace) → LetsMove j s es made → LetsMove k (run s made) fs made' → LetsMove (j + k) s (es ++ fs) (made ++ made')
lets_on j k s [] made fs made' (none, no_loss) l =
    let count : k ≡ j + k = omega (arith, no_loss) in
    subst (λ n. LetsMove n s fs (made ++ made')) count (subst (λ m. LetsMove k s fs (m ++ made')) (sym none) (subst (λ m. LetsMove k (run s m) fs made') none l))
lets_on j k s (e ∷ es) made fs made' (inl (may, rest, is, l)) later =
    inl (may, rest ++ made', ap (λ m. m ++ made') is, lets_on j k (after s e) es rest fs made' l (subst (λ m. LetsMove k (run s m) fs made') is later))
lets_on j k s (e ∷ es) made fs made' (inr (inl (not, l))) later = inr (inl (not, lets_on j k s es made fs made' l later))
lets_on j k s (e ∷ es) made fs made' (inr (inr (may, fewer, is, l))) later =
    let count : j + k ≡ suc (fewer + k) = omega (arith, is) in
    inr (inr (may, fewer + k, count, lets_on fewer k s es made fs made' l later))

-- what was made was allowed
pub lets_lawful : (k : ℕ) (s : State) (moves made : Trace) → LetsMove k s moves made → IsTrace s made
lets_lawful k s [] made (none, _) = subst (IsTrace s) (sym none) tt
lets_lawful k s (e ∷ moves) made (inl (may, rest, is, l)) = subst (IsTrace s) (sym is) (may, lets_lawful k (after s e) moves rest l)
lets_lawful k s (e ∷ moves) made (inr (inl (_, l))) = lets_lawful k s moves made l
lets_lawful k s (e ∷ moves) made (inr (inr (_, fewer, _, l))) = lets_lawful fewer s moves made l

-- and has the tokens of the moves
pub lets_foreign : (k : ℕ) (t : List ℕ) (s : State) (moves made : Trace) → LetsMove k s moves made → IsForeign t moves → IsForeign t made
lets_foreign k t s [] made (none, _) f = subst (IsForeign t) (sym none) tt
lets_foreign k t s (e ∷ moves) made (inl (may, rest, is, l)) (other, f) = subst (IsForeign t) (sym is) (other, lets_foreign k t (after s e) moves rest l f)
lets_foreign k t s (e ∷ moves) made (inr (inl (_, l))) (other, f) = lets_foreign k t s moves made l f
lets_foreign k t s (e ∷ moves) made (inr (inr (_, fewer, _, l))) (other, f) = lets_foreign fewer t s moves made l f

counted_on : (j k n : ℕ) → counted_times k (counted_times j n) ≡ counted_times (j + k) n
counted_on zero k n = let count : k ≡ 0 + k = omega arith in ap (λ i. counted_times i n) count
counted_on (suc j) k n = let count : suc (j + k) ≡ suc j + k = omega arith in counted_on j k (counted n) ∙ ap (λ i. counted_times i n) count

-- none of none were made
pub let_none : (d : Disk) → LetMoves d d []
let_none d = record { made = []; lost = 0; trace = sym (append-nil d.trace.items); counts = refl; lets = (refl, refl) }

-- one that isn't allowed is left out
pub let_out : (d : Disk) (e : Event) → (Allowed (disk_state d) e.1 → ⊥) → LetMoves d d (e ∷ [])
let_out d e not = record { made = []; lost = 0; trace = sym (append-nil d.trace.items); counts = refl; lets = inr (inl (not, (refl, refl))) }

-- one that is allowed is made
pub let_made : (d d' : Disk) (e : Event) → Allowed (disk_state d) e.1 → d'.trace.items ≡ d.trace.items ++ e ∷ [] → d'.unmade ≡ d.unmade → LetMoves d d' (e ∷ [])
let_made d d' e may trace unmade = record { made = e ∷ []; lost = 0; trace = trace; counts = unmade; lets = inl (may, [], refl, (refl, refl)) }

-- or there is no memory for it
pub let_lost : (d d' : Disk) (e : Event) → Allowed (disk_state d) e.1 → d'.trace.items ≡ d.trace.items → d'.unmade ≡ counted d.unmade → LetMoves d d' (e ∷ [])
let_lost d d' e may trace unmade = record { made = []; lost = 1; trace = trace ∙ sym (append-nil d.trace.items); counts = unmade; lets = inr (inr (may, 0, refl, (refl, refl))) }

-- some moves, and then others
pub let_on : (a b c : Disk) (es fs : Trace) → b.start ≡ a.start → LetMoves a b es → LetMoves b c fs → LetMoves a c (es ++ fs)
let_on a b c es fs start l m =
    let now : disk_state b ≡ run (disk_state a) l.made = state_on a.start b.start a.trace.items b.trace.items l.made start l.trace in
    record {
      made = l.made ++ m.made;
      lost = l.lost + m.lost;
      trace = m.trace ∙ ap (λ tr. tr ++ m.made) l.trace ∙ append_assoc a.trace.items l.made m.made;
      counts = m.counts ∙ ap (counted_times m.lost) l.counts ∙ counted_on l.lost m.lost a.unmade;
      lets = lets_on l.lost m.lost (disk_state a) es l.made fs m.made l.lets (subst (λ s. LetsMove m.lost s fs m.made) now m.lets);
    }
