-- Sums of sizes that were found out one after another.
use Rattle.std.proofs.Common.{◌≡◌, ℕ, ◌+◌, ◌-◌, ◌^◌, ◌<◌, length, get_or, ap, min, List, [], ◌∷◌, ◌++◌, take, refl, sym, subst, ◌∙◌, arith, sum_by}
use Rattle.std.proofs.lemmas.List.Sums.{sum_by_push, sum_by_more}
use Rattle.jl_text.specs.Paths.{PathView}
use Rattle.jl_folder.specs.declared.listing.Name.{Name}
use Rattle.jl_folder.specs.State.{State, Trace, AtSome}
use Rattle.jl_folder.specs.Views.{FolderView, state, moved}
use Rattle.jl_folder.proofs.Frames.{answers_next, answers_as, answers_none}
use Rattle.jl_rely.specs.Claims.{Silent}
use Rattle.jl_rely.proofs.Moving.{moves_none, moves_then}
use Rattle.jl_rely.proofs.Seen.{sooner, later, some_lasting}
use Rattle.jl_evict.specs.Items.{held, size_at, HadSizes, HadBytes}
use Rattle.jl_evict.specs.declared.measure.Measure.{Measure}
use Rattle.jl_evict.specs.declared.measure.Measure.TheVariants as measure
use Rattle.jl_evict.specs.Walks.{Measures, HadSize}
use Rattle.jl_evict.proofs.MeasureLemmas.{number_is}
use Rattle.jl_evict.proofs.SeenLemmas.{sizes_lasting}

-- a sum over one element more
pub held_more : {X : Type 0} (f : X → ℕ) (xs : List X) (i : ℕ) (x : X) (sum size result : ℕ) → i < length xs → x ≡ get_or xs i x → sum ≡ held (sum_by f (take i xs)) → size ≡ f x → result ≡ min (sum + size) (2 ^ 64 - 1) → result ≡ held (sum_by f (take (i + 1) xs))
held_more f xs i x sum size result lt is was here added = omega (arith, sum_by_more f xs i x lt, was, here ∙ ap f is, added)

sizes_push : (folder : PathView) (names : List Name) (sizes : List ℕ) (name : Name) (n : ℕ) (s : State) (moves : Trace) → HadSizes folder names sizes s moves → AtSome s moves (λ t. size_at t (folder ++ name.part ∷ []) ≡ n) → HadSizes folder (names ++ name ∷ []) (sizes ++ n ∷ []) s moves
sizes_push folder [] [] name n s moves h here = (here, tt)
sizes_push folder [] (k ∷ ks) name n s moves h here = absurd h
sizes_push folder (x ∷ names) [] name n s moves h here = absurd h
sizes_push folder (x ∷ names) (k ∷ ks) name n s moves h here = (h.0, sizes_push folder names ks name n s moves h.1 here)

held_push : (sizes : List ℕ) (n sum result : ℕ) → sum ≡ held (sum_by (λ k. k) sizes) → result ≡ min (sum + n) (2 ^ 64 - 1) → result ≡ held (sum_by (λ k. k) (sizes ++ n ∷ []))
held_push sizes n sum result was added = omega (arith, sum_by_push (λ k. k) sizes n, was, added)

module _ (folder : PathView) (names : List Name) where
  pub sums_none : (v : FolderView) → Measures (HadBytes folder (take 0 names)) (measure.Number 0) v v
  sums_none v = record {
    frame = answers_as v v (answers_none v) (λ e. cc) (λ f. absurd f);
    moves = λ t. moves_none Silent v;
    says = λ t n e. ([], tt, sym (number_is 0 n e));
  }

  pub sums_more : (i : ℕ) (item : Name) (part : List ℕ) (sum size result : ℕ) (old mid new : FolderView) → take (i + 1) names ≡ take i names ++ item ∷ [] → part ≡ item.part → result ≡ min (sum + size) (2 ^ 64 - 1) → Measures (HadBytes folder (take i names)) (measure.Number sum) old mid → Measures (HadSize (folder ++ part ∷ [])) (measure.Number size) mid new → Measures (HadBytes folder (take (i + 1) names)) (measure.Number result) old new
  sums_more i item part sum size result old mid new grown same added a b = record {
    frame = answers_next old mid new a.frame (λ e. cc) b.frame (λ e. cc) (λ e. cc);
    moves = λ t. moves_then Silent old mid new (a.moves t) (b.moves (a.frame.told t));
    says = λ t n e.
        let first = (a.moves t).went in
        let second = (b.moves (a.frame.told t)).went in
        let (sizes, had, is) = a.says t sum refl in
        let had' = sooner (HadSizes folder (take i names) sizes) (sizes_lasting folder (take i names) sizes) old mid new first second had in
        let P : State → Type 0 = λ s. size_at s (folder ++ item.part ∷ []) ≡ size in
        let here = later (λ s moves. AtSome s moves P) (some_lasting P) old mid new first second (subst (λ (w : List ℕ). HadSize (folder ++ w ∷ []) size (state mid) (moved mid new)) same (b.says (a.frame.told t) size refl)) in (
          sizes ++ size ∷ [],
          subst (λ (ns : List Name). HadSizes folder ns (sizes ++ size ∷ []) (state old) (moved old new)) (sym grown) (sizes_push folder (take i names) sizes item size (state old) (moved old new) had' here),
          held_push sizes size sum n is (sym (number_is result n e) ∙ added),
        );
  }

  -- a size was not found out
  pub sums_stop : (answer : Measure) (Says Says' : ℕ → State → Trace → Type 0) (sum : ℕ) (old mid new : FolderView) → ((n : ℕ) → answer ≡ measure.Number n → ⊥) → Measures Says (measure.Number sum) old mid → Measures Says' answer mid new → Measures (HadBytes folder names) answer old new
  sums_stop answer Says Says' sum old mid new undone a b = record {
    frame = answers_next old mid new a.frame (λ e. cc) b.frame (λ e. e) (λ e. e);
    moves = λ t. moves_then Silent old mid new (a.moves t) (b.moves (a.frame.told t));
    says = λ t n e. absurd (undone n e);
  }
