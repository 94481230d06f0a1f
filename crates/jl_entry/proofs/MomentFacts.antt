-- The small files have one spelling.
use Rattle.std.proofs.Common.{◌≡◌, ℕ, List, [], ◌∷◌, ◌++◌, refl, sym, ◌∙◌, arith, decimal}
use Rattle.std.specs.Prelude.{codes}
use Rattle.jl_entry.specs.Moments.{IsMoment, IsAccess, IsMetadata}
use Rattle.jl_entry.proofs.DecimalEnds.{same_numbers, same_fields}

-- behind the newline of `last_access` nothing stands
pub access_ends : (bytes rest : List ℕ) (m n : ℕ) → IsMoment m → bytes ≡ decimal m ++ 10 ∷ rest → IsAccess bytes n → (m ≡ n) × (rest ≡ [])
access_ends bytes rest m n small e h = same_numbers m n 10 rest [] (λ k. omega arith) small h.0 (sym e ∙ h.1)

-- bytes are `last_access` for one moment at most
pub access_once : (bytes : List ℕ) (m n : ℕ) → IsAccess bytes m → IsAccess bytes n → m ≡ n
access_once bytes m n h k = (access_ends bytes [] m n h.0 h.1 k).0

-- the words of `metadata.json` before its second number
abbrev pub time_words : List ℕ
time_words = codes "\"time\":"

-- and before its first
abbrev pub duration_words : List ℕ
duration_words = codes "{\"duration\":"

-- what stands behind the duration
pub metadata_duration : (bytes rest : List ℕ) (d' d t : ℕ) → IsMoment d' → bytes ≡ duration_words ++ (decimal d' ++ 44 ∷ rest) → IsMetadata bytes d t
    → (d' ≡ d) × (rest ≡ time_words ++ (decimal t ++ 125 ∷ []))
metadata_duration bytes rest d' d t small e h =
    same_fields duration_words d' d 44 rest (time_words ++ (decimal t ++ 125 ∷ [])) (λ k. omega arith) small h.0 (sym e ∙ h.2)

-- behind the closing brace nothing stands
pub metadata_ends : (bytes first last : List ℕ) (d' t' d t : ℕ) → IsMoment d' → IsMoment t' → bytes ≡ duration_words ++ (decimal d' ++ 44 ∷ first)
    → first ≡ time_words ++ (decimal t' ++ 125 ∷ last) → IsMetadata bytes d t → (d' ≡ d) × (t' ≡ t) × (last ≡ [])
metadata_ends bytes first last d' t' d t small small' e f h =
    let front = metadata_duration bytes first d' d t small e h in
    let back = same_fields time_words t' t 125 last [] (λ k. omega arith) small' h.1 (sym f ∙ front.1) in
    (front.0, back.0, back.1)

-- bytes are `metadata.json` for one duration and moment at most
pub metadata_once : (bytes : List ℕ) (d' t' d t : ℕ) → IsMetadata bytes d' t' → IsMetadata bytes d t → (d' ≡ d) × (t' ≡ t)
metadata_once bytes d' t' d t h k =
    let ends = metadata_ends bytes (time_words ++ (decimal t' ++ 125 ∷ [])) [] d' t' d t h.0 h.1 h.2 refl k in
    (ends.0, ends.1)
