-- What sizes and moments are found out.
use Rattle.std.proofs.Common.{◌≡◌, inl, inr, ⊎_elim, ℕ, ◌^◌, ◌<◌, ◌≤◌, List, [], ◌∷◌, ◌++◌, false, true≢false, Option, None, Some, length, take, refl, sym, ap, subst, ◌∙◌, arith, length-append, length-take, decimal, option_map}
use Rattle.std.specs.Option.{option_map_or}
use Rattle.std.proofs.lemmas.Fmt.{length-decimal-le}
use Rattle.std.proofs.lemmas.Bool.{cases_lt}
use Rattle.std.proofs.lemmas.List.{take_all}
use Rattle.jl_text.specs.Paths.{PathView}
use Rattle.jl_folder.specs.declared.moves.Move.{Move}
use Rattle.jl_folder.specs.declared.moves.Node.{Node}
use Rattle.jl_folder.specs.declared.moves.Place.{Place}
use Rattle.jl_folder.specs.declared.moves.Place.TheVariants.{Folder, File}
use Rattle.jl_folder.specs.declared.folder.SizeOf.{SizeOf}
use Rattle.jl_folder.specs.declared.folder.SizeOf.TheVariants as size_of
use Rattle.jl_folder.specs.State.{State, Trace, place_at, node_at, is_file, is_file_place, bytes_at, bytes_of, run}
use Rattle.jl_folder.specs.Views.{FolderView, FolderAnswers, state, moved}
use Rattle.jl_folder.specs.Calls.{Call, Waits, SizesFile, own_event}
use Rattle.jl_folder.specs.Reading.{ReadsNamed}
use Rattle.jl_folder.proofs.Frames.{answers_as, answers_none}
use Rattle.jl_entry.specs.Moments.{IsAccess}
use Rattle.jl_rely.specs.Claims.{Silent}
use Rattle.jl_rely.proofs.Since.{since_went}
use Rattle.jl_rely.proofs.Composed.{went_call}
use Rattle.jl_rely.proofs.Moving.{moves_none, moves_waits, moves_call}
use Rattle.jl_evict.specs.Items.{size_at, HasAccess, HadAccess, IsAccessOf}
use Rattle.jl_evict.specs.declared.measure.Measure.{Measure}
use Rattle.jl_evict.specs.declared.measure.Measure.TheVariants as measure
use Rattle.jl_evict.specs.Walks.{Measures, measure_of, HadSize}

-- ---- the bytes of a path

pub bytes_there : (s : State) (p : PathView) (n : ℕ) (v : Node) → place_at s p ≡ Some (File n) → node_at s n ≡ Some v → bytes_at s p ≡ Some v.bytes
bytes_there s p n v place node = ap (bytes_of s) place ∙ ap (option_map (λ (w : Node). w.bytes)) node

no_bytes_of : (s : State) (o : Option Place) → option_map_or is_file_place o false ≡ false → bytes_of s o ≡ None
no_bytes_of s None e = refl
no_bytes_of s (Some place) e = elim place as (λ (k : Place). is_file_place k ≡ false → bytes_of s (Some k) ≡ None) [ Folder ↦ λ f. refl | File n ↦ λ f. absurd (true≢false f) ] e

pub no_bytes : (s : State) (p : PathView) → is_file s p ≡ false → bytes_at s p ≡ None
no_bytes s p e = no_bytes_of s (place_at s p) e

-- ---- sizes

size_still : (p : PathView) (r : SizeOf) (s : State) (own : Option Move) → SizesFile p r s own → own ≡ None
size_still p (size_of.Size k) s own gives = gives.1
size_still p size_of.NoFile s own gives = gives.1
size_still p size_of.Failed s own gives = gives
size_still p size_of.NoMemory s own gives = gives

size_fault : (r : SizeOf) → measure_of r ≡ measure.Fault → r ≡ size_of.Failed
size_fault (size_of.Size k) f = cc
size_fault size_of.NoFile f = cc
size_fault size_of.Failed f = refl
size_fault size_of.NoMemory f = cc

sized : (p : PathView) (r : SizeOf) (n : ℕ) (s : State) (own : Option Move) → SizesFile p r s own → measure_of r ≡ measure.Number n → size_at s p ≡ n
sized p (size_of.Size k) n s own gives e =
    let same : k ≡ n = cc in
    let g = gives.0 in
    ap (λ o. option_map_or (λ (bytes : List ℕ). length bytes) o 0) (bytes_there s p g.0 g.1 g.2 g.3) ∙ sym g.4 ∙ same
sized p size_of.NoFile n s own gives e = let same : 0 ≡ n = cc in ap (λ o. option_map_or (λ (bytes : List ℕ). length bytes) o 0) (no_bytes s p gives.0) ∙ same
sized p size_of.Failed n s own gives e = cc
sized p size_of.NoMemory n s own gives e = cc

-- ---- moments

access_short : (bytes : List ℕ) (n : ℕ) → IsAccess bytes n → length bytes ≤ 21
access_short bytes n is =
    let few = length-decimal-le 20 n (omega arith) (omega arith) (below_64 n is.0) in
    omega (arith, few, ap length is.1, length-append (decimal n) (10 ∷ []))
  where
    below_64 : (k : ℕ) → k ≤ 2 ^ 62 → k < 2 ^ 64
    below_64 k le = omega (arith, le)

-- the first bytes tell as much as all
access_front : (view bytes : List ℕ) (n : ℕ) → bytes ≡ take 22 view → IsAccess bytes n → IsAccess view n
access_front view bytes n front is =
    let short = access_short bytes n is in
    ⊎_elim
    (λ (lt : 21 < length view). absurd (omega (arith, lt, short, ap length front, length-take 22 view)))
    (λ (le : length view ≤ 21). subst (λ (b : List ℕ). IsAccess b n) (front ∙ take_all 22 view (omega (arith, le))) is)
    (cases_lt 21 (length view))

access_whole : (view bytes : List ℕ) (n : ℕ) → bytes ≡ take 22 view → IsAccess view n → IsAccess bytes n
access_whole view bytes n front is =
    let short = access_short view n is in subst (λ (b : List ℕ). IsAccess b n) (sym (front ∙ take_all 22 view (omega (arith, short)))) is

same_text : (a b : List ℕ) (o : Option (List ℕ)) → o ≡ Some a → o ≡ Some b → a ≡ b
same_text a b o e f = let h : Some a ≡ Some b = sym e ∙ f in cc

pub has_access : (s : State) (p : PathView) (bytes : List ℕ) (n : ℕ) → bytes_at s p ≡ Some bytes → IsAccessOf bytes n → HasAccess s p n
has_access s p bytes n there (inl is) = inl (bytes, there, is)
has_access s p bytes n there (inr (zero_is, none)) = inr (zero_is, λ b m at is. none m (subst (λ (w : List ℕ). IsAccess w m) (same_text b bytes (bytes_at s p) at there) is))

-- the first bytes of a text tell its moment, or that it has none
access_of : (view bytes : List ℕ) (n : ℕ) → bytes ≡ take 22 view → IsAccessOf bytes n → IsAccessOf view n
access_of view bytes n front (inl is) = inl (access_front view bytes n front is)
access_of view bytes n front (inr (zero_is, none)) = inr (zero_is, λ m is. none m (access_whole view bytes m front is))

pub accessed_read : (path : PathView) (bytes : List ℕ) (n : ℕ) (s : State) (moves : Trace) → ReadsNamed path 22 bytes s moves → IsAccessOf bytes n → HadAccess path n s moves
accessed_read path bytes n s moves reads is = inl (
  reads.view.bytes,
  record { before = reads.before; middle = reads.middle; later = reads.later; split = reads.split; node = reads.node; named = reads.named; view = reads.view; node_is = reads.node_is; has = refl },
  access_of reads.view.bytes bytes n reads.has is,
)

pub accessed_none : (path : PathView) (s : State) → is_file s path ≡ false → HasAccess s path 0
accessed_none path s gone = inr (refl, λ b m at is. let h : Some b ≡ None = sym at ∙ no_bytes s path gone in cc)

-- ---- measures

pub measures_none : (Says : ℕ → State → Trace → Type 0) (answer : Measure) (v : FolderView) → (answer ≡ measure.Fault → ⊥) → ((n : ℕ) → answer ≡ measure.Number n → ⊥) → Measures Says answer v v
measures_none Says answer v faultless none = record {
  frame = answers_as v v (answers_none v) faultless (λ f. absurd f);
  moves = λ t. moves_none Silent v;
  says = λ t n e. absurd (none n e);
}

pub measures_waits : {Fails : Type 0} (Says : ℕ → State → Trace → Type 0) (answer : Measure) (old new : FolderView) → FolderAnswers Fails old new → (answer ≡ measure.Fault → Fails) → (Fails → answer ≡ measure.Fault) → (old.told → Waits old new) → (old.told → (n : ℕ) → answer ≡ measure.Number n → Says n (state old) (moved old new)) → Measures Says answer old new
measures_waits Says answer old new frame to from waits says = record { frame = answers_as old new frame to from; moves = λ t. moves_waits Silent old new frame.token (waits t); says = says }

-- one size
pub measures_size : (path : PathView) (r : SizeOf) (old new : FolderView) → FolderAnswers (r ≡ size_of.Failed) old new → (old.told → Call old new (SizesFile path r)) → Measures (HadSize path) (measure_of r) old new
measures_size path r old new frame call = record {
  frame = answers_as old new frame (size_fault r) (λ f. ap measure_of f);
  moves = λ t. moves_call Silent old new (SizesFile path r) (λ s own gives. inl (size_still path r s own gives)) frame.token (call t);
  says = λ t n e.
      let c = call t in
      (c.others, own_event old.token c.own, since_went old new (c.others ++ own_event old.token c.own) (went_call old new (SizesFile path r) c), sized path r n (run (state old) c.others) c.own c.answer e);
}

pub number_is : (m n : ℕ) → measure.Number m ≡ measure.Number n → m ≡ n
number_is m n e = cc
