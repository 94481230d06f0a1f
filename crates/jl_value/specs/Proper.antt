-- What holds of each value of the program.
use Rattle.std.specs.Prelude.{◌≢◌, ℕ, ◌^◌, ◌<◌, ℤ, pos, negsuc, List, [], ◌∷◌, ⊤}
use Rattle.std.specs.Ordering.{nat_cmp}
use Rattle.std.specs.Cmp.Lexicographic.{slice_cmp}
use Rattle.std.specs.List.{AllByRecursion}
use Rattle.std.specs.List.Sorted.{IsStrictlySortedBy}
use Rattle.std.specs.Str.{IsUtf8}
use Rattle.jl_value.specs.Tree.{Tree, null, truth, whole, text, list, table, numbers, Items, no_items, item, Members, no_members, member}
use Rattle.jl_value.specs.Canonical.{array_key}

-- a signed number of 64 bits
abbrev pub FitsI64 : ℤ → Type 0
FitsI64 (pos n) = n < 2 ^ 63
FitsI64 (negsuc n) = n < 2 ^ 63

-- each number of an array is one
abbrev pub AllFitI64 : List ℤ → Type 0
AllFitI64 [] = ⊤
AllFitI64 (z ∷ zs) = FitsI64 z × AllFitI64 zs

-- the keys of a table, in their order
abbrev pub keys : Members → List (List ℕ)
keys no_members = []
keys (member k t ms) = k ∷ keys ms

-- the keys of a table: in strict byte order, and none is the key of an array
abbrev pub AreKeys : List (List ℕ) → Type 0
AreKeys ks = IsStrictlySortedBy (slice_cmp nat_cmp) ks × AllByRecursion (λ k. k ≢ array_key) ks

abbrev mutual
  -- whole numbers fit 64 bits, texts are UTF-8, and the keys of each table are in order
  pub IsProper : Tree → Type 0
  IsProper null = ⊤
  IsProper (truth b) = ⊤
  IsProper (whole z) = FitsI64 z
  IsProper (text s) = IsUtf8 s
  IsProper (list ts) = AreProper ts
  IsProper (table ms) = AreKeys (keys ms) × HasProper ms
  IsProper (numbers zs) = AllFitI64 zs

  -- the same of each member of a list
  pub AreProper : Items → Type 0
  AreProper no_items = ⊤
  AreProper (item t ts) = IsProper t × AreProper ts

  -- the same of each key and value of a table
  pub HasProper : Members → Type 0
  HasProper no_members = ⊤
  HasProper (member k t ms) = IsUtf8 k × IsProper t × HasProper ms
