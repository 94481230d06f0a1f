-- The text of a dump file: a list of whole numbers as bytes; and what a file is that may be none.
use Rattle.std.specs.Prelude.{◌≡◌, ◌≢◌, ◌⊎◌, ◌<◌, ◌≤◌, ◌+◌, ◌*◌, ◌^◌, ℕ, ℤ, List, ◌++◌}
use Rattle.std.specs.Prelude.{length, take, drop, All, FitsSigned, codes}
use Rattle.std.specs.Int.{w64, cast_unsigned, to_le_bytes}
use Rattle.std.specs.List.{flat_map}

-- ---- texts

-- what each dump file begins with
unfoldable pub dump_mark : List ℕ
dump_mark = codes "JLARR1\n"

-- a count as 8 bytes, the least significant first
unfoldable pub count_bytes : ℕ → List ℕ
count_bytes count = to_le_bytes w64 count

-- a signed number of 64 bits as 8 bytes: those of its two's complement, the least significant
-- first
unfoldable pub number_bytes : ℤ → List ℕ
number_bytes z = to_le_bytes w64 (cast_unsigned w64 z)

-- numbers, one after the other
unfoldable pub numbers_bytes : List ℤ → List ℕ
numbers_bytes numbers = flat_map number_bytes numbers

-- the head: the mark, and how many numbers follow
unfoldable pub dump_head : ℕ → List ℕ
dump_head count = dump_mark ++ count_bytes count

-- the text of a list: its head, and its numbers
unfoldable pub dump_text : List ℤ → List ℕ
dump_text numbers = dump_head (length numbers) ++ numbers_bytes numbers

-- how many bytes the dump of so many numbers has; in a longer one the next number begins there
abbrev pub dump_length : ℕ → ℕ
dump_length count = 15 + 8 * count

-- each is a signed number of 64 bits
abbrev pub AreSigned : List ℤ → Type 0
AreSigned numbers = All (FitsSigned w64) numbers

-- ---- files

-- the file has these bytes from this place on
abbrev pub HasPart : ℕ → (part file : List ℕ) → Type 0
HasPart at part file = take (length part) (drop at file) ≡ part

-- the file begins with a head, and that says this count
pub record SaysCount (count : ℕ) (file : List ℕ) : Type 0 where
  pub fits : count < 2 ^ 64
  pub head : HasPart 0 (dump_head count) file

-- the file has fewer bytes than a head, or begins with one and is shorter than that says
abbrev pub IsCutOff : List ℕ → Type 0
IsCutOff file =
    (length file < 15)
    ⊎ ((count : ℕ) × SaysCount count file × (length file < dump_length count))

-- the file has as many bytes as a head and doesn't begin with the mark, or begins with a head and
-- is longer than that says
abbrev pub IsNoDump : List ℕ → Type 0
IsNoDump file =
    (15 ≤ length file)
    × ((take 7 file ≢ dump_mark)
    ⊎ ((count : ℕ) × SaysCount count file × (dump_length count < length file)))

-- the file begins with a head, and is as long as that says
pub record IsDump (count : ℕ) (file : List ℕ) : Type 0 where
  pub says : SaysCount count file
  pub whole : length file ≡ dump_length count

-- its bytes are the text of a list of so many numbers
pub record HoldsList (count : ℕ) (file : List ℕ) : Type 0 where
  pub list : List ℤ
  pub signed : AreSigned list
  pub count_is : length list ≡ count
  pub text : file ≡ dump_text list

-- ---- a file that is compared with numbers

-- what the file has behind its head isn't these bytes: their fronts of this length differ, and both
-- are as long
pub record DiffersFrom (part file : List ℕ) : Type 0 where
  pub size : ℕ
  pub of_part : size ≤ length part
  pub of_file : 15 + size ≤ length file
  pub differ : take size (drop 15 file) ≢ take size part

-- the file has fewer bytes behind its head than these, and they are their front
pub record EndsInside (part file : List ℕ) : Type 0 where
  pub ends : length (drop 15 file) < length part
  pub front : HasPart 0 (drop 15 file) part
