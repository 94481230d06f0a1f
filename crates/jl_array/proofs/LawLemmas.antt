-- What a file is, in one way, and which list an array holds.
use Rattle.std.proofs.Common.{◌≡◌, inl, inr, ℕ, zero, suc, ◌*◌, ◌^◌, ◌<◌, ℤ, List, [], ◌∷◌, ◌++◌}
use Rattle.std.proofs.Common.{length, take, drop, All, refl, sym, ap, ◌∙◌}
use Rattle.std.proofs.Common.{arith, take_at, length-drop, drop-drop, take-append-drop, get_or}
use Rattle.std.proofs.Math.Facts.{sfits_to_z}
use Rattle.std.specs.Int.{w64, cast_signed}
use Rattle.byteorder.specs.Endian.{little_number, little_from}
use Rattle.byteorder.specs.Numbers.{little_from-lt}
use Rattle.jl_array.specs.Dumps.{numbers_bytes, dump_head, dump_text, dump_length, AreSigned}
use Rattle.jl_array.specs.Dumps.{IsCutOff, IsNoDump, IsDump, HoldsList}
use Rattle.jl_array.proofs.Numerals.{head_size, text_size, read_back, small_drop, small_index}
use Rattle.jl_array.proofs.JudgeLemmas.{says_one, says_mark, says_long}

-- ---- one way

-- an array is not cut off
pub dump_not_cut : (count : ℕ) (file : List ℕ) → IsDump count file → IsCutOff file → ⊥
dump_not_cut count file dump (inl short) = omega (arith, short, says_long count file dump.says)
dump_not_cut count file dump (inr cut) =
    let short : length file < dump_length cut.0 = cut.2 in
    omega (arith, short, dump.whole, says_one count cut.0 file dump.says cut.1)

-- nor is it none
pub dump_not_none : (count : ℕ) (file : List ℕ) → IsDump count file → IsNoDump file → ⊥
dump_not_none count file dump (long, inl other) = other (says_mark count file dump.says)
dump_not_none count file dump (long, inr more) =
    let past : dump_length more.0 < length file = more.2 in
    omega (arith, past, dump.whole, says_one count more.0 file dump.says more.1)

-- and what is cut off is not none
pub cut_not_none : (file : List ℕ) → IsCutOff file → IsNoDump file → ⊥
cut_not_none file (inl short) (long, why) = omega (arith, short, long)
cut_not_none file (inr cut) (long, inl other) = other (says_mark cut.0 file cut.1)
cut_not_none file (inr cut) (long, inr more) =
    let short : length file < dump_length cut.0 = cut.2 in
    let past : dump_length more.0 < length file = more.2 in
    omega (arith, short, past, says_one cut.0 more.0 file cut.1 more.1)

-- the text of a list is an array of its count
pub text_dump : (xs : List ℤ) → length xs < 2 ^ 64 → IsDump (length xs) (dump_text xs)
unfolding dump_text
text_dump xs fits = record {
  says =
      record {
        fits = fits;
        head = take_at (dump_head (length xs)) (numbers_bytes xs)
            (length (dump_head (length xs))) refl;
      };
  whole = text_size xs;
}

-- ---- the list

-- the numbers that bytes stand for, eight by eight
unfoldable numbers_of : ℕ → List ℕ → List ℤ
numbers_of zero bytes = []
numbers_of (suc k) bytes = cast_signed w64 (little_number 8 bytes) ∷ numbers_of k (drop 8 bytes)

-- they are as many
of_size : (k : ℕ) (bytes : List ℕ) → length (numbers_of k bytes) ≡ k
unfolding numbers_of
of_size zero bytes = refl
of_size (suc k) bytes = ap suc (of_size k (drop 8 bytes))

-- each is a signed number of 64 bits
of_signed : (k : ℕ) (bytes : List ℕ) → All (λ b. b < 256) bytes → AreSigned (numbers_of k bytes)
unfolding numbers_of
of_signed zero bytes small i d h = absurd (omega (arith, h))
of_signed (suc k) bytes small zero d h =
    let below : little_from 0 8 bytes < 256 ^ 8 =
    little_from-lt 0 8 bytes (small_index bytes small) in
    sfits_to_z (record { fits = below })
of_signed (suc k) bytes small (suc i) d h =
    of_signed k (drop 8 bytes) (small_drop 8 bytes small) i d (omega (arith, h))

-- each is that of its eight bytes
of_index : (k : ℕ) (bytes : List ℕ) (d : ℤ) (i : ℕ) → i < k
    → get_or (numbers_of k bytes) i d ≡ cast_signed w64 (little_number 8 (drop (8 * i) bytes))
unfolding numbers_of
of_index zero bytes d i h = absurd (omega (arith, h))
of_index (suc k) bytes d zero h = refl
of_index (suc k) bytes d (suc i) h =
    of_index k (drop 8 bytes) d i (omega (arith, h))
    ∙ ap (λ (bs : List ℕ). cast_signed w64 (little_number 8 bs))
    (drop-drop (8 * i) 8 bytes ∙ ap (λ (n : ℕ). drop n bytes) (omega arith))

-- which have these bytes
of_bytes : (k : ℕ) (bytes : List ℕ) → length bytes ≡ 8 * k → All (λ b. b < 256) bytes
    → numbers_bytes (numbers_of k bytes) ≡ bytes
of_bytes k bytes size small =
    read_back bytes (numbers_of k bytes) (omega (arith, size, of_size k bytes)) small
    (λ d i h. of_index k bytes d i (omega (arith, h, of_size k bytes)))

-- an array's bytes are the text of a list
pub dump_list : (count : ℕ) (file : List ℕ) → All (λ b. b < 256) file → IsDump count file
    → HoldsList count file
unfolding dump_text
dump_list count file small dump =
    let head = dump_head count in
    let body = drop 15 file in
    let list = numbers_of count body in
    let size : length list ≡ count = of_size count body in
    let front : take 15 file ≡ head =
    ap (λ (n : ℕ). take n file) (sym (head_size count)) ∙ dump.says.head in
    let bytes : numbers_bytes list ≡ body =
    of_bytes count body (omega (arith, dump.whole, length-drop 15 file))
    (small_drop 15 file small) in
    record {
      list = list;
      signed = of_signed count body (small_drop 15 file small);
      count_is = size;
      text =
          sym (take-append-drop 15 file) ∙ ap (λ (l : List ℕ). l ++ body) front
          ∙ ap (λ (l : List ℕ). head ++ l) (sym bytes)
          ∙ ap (λ (n : ℕ). dump_head n ++ numbers_bytes list) (sym size);
    }
