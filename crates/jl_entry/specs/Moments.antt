-- The texts of `last_access` and `metadata.json`.
use Rattle.std.specs.Prelude.{◌≡◌, ◌≤◌, ◌^◌, ℕ, List, [], ◌∷◌, ◌++◌, decimal, codes}

-- microseconds, at most 2^62
abbrev pub IsMoment : ℕ → Type 0
IsMoment n = n ≤ 2 ^ 62

-- the text of `last_access`: the moment in decimal, and a newline
abbrev pub access_text : ℕ → List ℕ
access_text moment = decimal moment ++ 10 ∷ []

-- the bytes of `last_access` for a moment
abbrev pub IsAccess : List ℕ → ℕ → Type 0
IsAccess bytes moment = IsMoment moment × (bytes ≡ access_text moment)

-- the text of `metadata.json`: `{"duration":D,"time":T}`
abbrev pub metadata_text : ℕ → ℕ → List ℕ
metadata_text duration time = codes "{\"duration\":" ++ (decimal duration ++ 44 ∷ (codes "\"time\":" ++ (decimal time ++ 125 ∷ [])))

-- the bytes of `metadata.json` for a duration and a moment
abbrev pub IsMetadata : List ℕ → ℕ → ℕ → Type 0
IsMetadata bytes duration time = IsMoment duration × IsMoment time × (bytes ≡ metadata_text duration time)
