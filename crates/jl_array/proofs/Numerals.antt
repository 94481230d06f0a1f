-- The bytes of numbers, of heads and of whole texts.
use Rattle.std.proofs.Common.{◌≡◌, ℕ, zero, suc, ◌+◌, ◌-◌, ◌*◌, ◌^◌, ◌<◌, ◌≤◌, ℤ, pos, negsuc, List}
use Rattle.std.proofs.Common.{[], ◌∷◌, ◌++◌}
use Rattle.std.proofs.Common.{length, take, drop, get_or, All, FitsSigned, refl, sym, ap, subst}
use Rattle.std.proofs.Common.{◌∙◌, inl, inr}
use Rattle.std.proofs.Common.{Fits, w8, append-nil, arith, length-append, length-take, length-drop}
use Rattle.std.proofs.Common.{take_at, drop_at, drop-drop, get_or-take, get_or-drop}
use Rattle.std.proofs.Common.{take-append-drop, append_assoc}
use Rattle.std.proofs.lemmas.Bool.{cases_lt}
use Rattle.std.proofs.lemmas.List.{append_cancel_left, get_or_past, get_or_default}
use Rattle.std.proofs.lemmas.List.{get_or_append_left, get_or-append_right, nil_from_length}
use Rattle.std.proofs.lemmas.List.{length-take-le}
use Rattle.std.proofs.lemmas.Grind.{flat_map-append}
use Rattle.std.proofs.lemmas.Int.{to_z-of_z, of_z-to_z}
use Rattle.std.proofs.lemmas.Nat.{le_bytes_8, from_le_bytes-to_le_bytes_8}
use Rattle.std.proofs.Math.Facts.{sfits_to_z}
use Rattle.std.specs.Int.{w64, cast_unsigned, cast_signed, to_le_bytes, from_le_bytes}
use Rattle.std.specs.List.{flat_map}
use Rattle.byteorder.specs.Endian.{little_number, little_from}
use Rattle.byteorder.specs.Numbers.{little_from-take, little_from-lt}
use Rattle.jl_array.specs.Dumps.{dump_mark, count_bytes, number_bytes, numbers_bytes, dump_head}
use Rattle.jl_array.specs.Dumps.{dump_text, dump_length, AreSigned}

-- ---- one number

-- a number has eight bytes
pub number_size : (z : ℤ) → length (number_bytes z) ≡ 8
unfolding number_bytes
number_size z = refl

-- so has a count
pub count_size : (n : ℕ) → length (count_bytes n) ≡ 8
unfolding count_bytes
count_size n = refl

-- the mark has seven
pub mark_size : length dump_mark ≡ 7
unfolding dump_mark
mark_size = refl

-- the two's complement of a number has 64 bits
unsigned_below : (z : ℤ) → FitsSigned w64 z → cast_unsigned w64 z < 2 ^ 64
unsigned_below (pos n) fits = let h : n < 2 ^ 63 = fits.sfits in omega (arith, h)
unsigned_below (negsuc n) fits = omega arith

-- a number is read back from its bytes
number_back : (z : ℤ) → FitsSigned w64 z → cast_signed w64 (from_le_bytes w64 (number_bytes z)) ≡ z
unfolding number_bytes
number_back z fits =
    ap (cast_signed w64) (from_le_bytes-to_le_bytes_8 (cast_unsigned w64 z) (unsigned_below z fits))
    ∙ to_z-of_z w64 z fits

-- two numbers have two texts
number_one : (x y : ℤ) → FitsSigned w64 x → FitsSigned w64 y → number_bytes x ≡ number_bytes y
    → x ≡ y
number_one x y fx fy e =
    sym (number_back x fx) ∙ ap (λ bs. cast_signed w64 (from_le_bytes w64 bs)) e ∙ number_back y fy

-- and so have two counts
count_one : (m n : ℕ) → m < 2 ^ 64 → n < 2 ^ 64 → count_bytes m ≡ count_bytes n → m ≡ n
unfolding count_bytes
count_one m n fm fn e =
    sym (from_le_bytes-to_le_bytes_8 m fm) ∙ ap (from_le_bytes w64) e
    ∙ from_le_bytes-to_le_bytes_8 n fn

-- ---- bytes are below 256

-- each byte, and what stands for one behind the end
pub small_index : (bs : List ℕ) → All (λ b. b < 256) bs → (i : ℕ) → get_or bs i 0 < 256
small_index bs small i = elim (cases_lt i (length bs)) [
  | inl h ↦ small i 0 h
  | inr h ↦ let e : get_or bs i 0 ≡ 0 = get_or_past bs i 0 h in omega (arith, e)
]

-- the first bytes
pub small_take : (k : ℕ) (bs : List ℕ) → All (λ b. b < 256) bs → All (λ b. b < 256) (take k bs)
small_take k bs small i d h =
    let long = length-take k bs in
    subst (λ (b : ℕ). b < 256) (sym (get_or-take k bs i d (omega (arith, long, h))))
    (small i d (omega (arith, long, h)))

-- the others
pub small_drop : (k : ℕ) (bs : List ℕ) → All (λ b. b < 256) bs → All (λ b. b < 256) (drop k bs)
small_drop k bs small i d h =
    subst (λ (b : ℕ). b < 256) (sym (get_or-drop k bs i d))
    (small (k + i) d (omega (arith, length-drop k bs, h)))

-- ---- numbers of bytes

-- eight bytes make a number of 64 bits
from_below : (bs : List ℕ) → All (λ b. b < 256) bs → from_le_bytes w64 bs < 2 ^ 64
from_below bs small =
    let same : from_le_bytes w64 bs ≡ little_from 0 8 bs = omega arith in
    let below : little_from 0 8 bs < 256 ^ 8 = little_from-lt 0 8 bs (small_index bs small) in
    omega (arith, same, below)

-- eight bytes are those of the number that is read from them
bytes_back : (bs : List ℕ) → length bs ≡ 8 → All (λ b. b < 256) bs
    → number_bytes (cast_signed w64 (from_le_bytes w64 bs)) ≡ bs
unfolding number_bytes
bytes_back bs size small =
    ap (to_le_bytes w64) (of_z-to_z w64 (from_le_bytes w64 bs) (from_below bs small))
    ∙ le_bytes_8 bs (from_le_bytes w64 bs) size (small_index bs small) refl

-- the same of the first eight of more bytes
pub little_back : (bs : List ℕ) → 8 ≤ length bs → All (λ b. b < 256) bs
    → number_bytes (cast_signed w64 (little_number 8 bs)) ≡ take 8 bs
little_back bs long small =
    let front = take 8 bs in
    let of_front : little_from 0 8 front ≡ little_from 0 8 bs =
    little_from-take 0 8 8 bs (omega arith) in
    let same : from_le_bytes w64 front ≡ little_from 0 8 front = omega arith in
    ap (λ (n : ℕ). number_bytes (cast_signed w64 n)) (sym of_front ∙ sym same)
    ∙ bytes_back front (length-take-le 8 bs long) (small_take 8 bs small)

-- ---- numbers, one after the other

-- how many bytes numbers have
flat_size : (xs : List ℤ) → length (flat_map number_bytes xs) ≡ 8 * length xs
flat_size [] = refl
flat_size (x ∷ xs) =
    omega (
      arith,
      length-append (number_bytes x)
          (flat_map number_bytes xs),
      number_size x,
      flat_size xs,
    )

-- the same by their name
pub numbers_size : (xs : List ℤ) → length (numbers_bytes xs) ≡ 8 * length xs
unfolding numbers_bytes
numbers_size xs = flat_size xs

-- the bytes of two lists
pub numbers_append : (xs ys : List ℤ)
    → numbers_bytes (xs ++ ys) ≡ numbers_bytes xs ++ numbers_bytes ys
unfolding numbers_bytes
numbers_append xs ys = flat_map-append number_bytes xs ys

-- no numbers have no bytes
pub numbers_none : numbers_bytes [] ≡ []
unfolding numbers_bytes
numbers_none = refl

-- numbers that were read one by one have the bytes that they were read from
flat_back : (src : List ℕ) (dst : List ℤ) → length src ≡ 8 * length dst → All (λ b. b < 256) src
    → ((d : ℤ) (k : ℕ) → k < length dst → get_or dst k d
    ≡ cast_signed w64 (little_number 8 (drop (8 * k) src)))
    → flat_map number_bytes dst ≡ src
flat_back src [] size small reads = sym (nil_from_length src size)
flat_back src (z ∷ zs) size small reads =
    let first : z ≡ cast_signed w64 (little_number 8 src) = reads z 0 (omega arith) in
    let front : number_bytes z ≡ take 8 src =
    ap number_bytes first ∙ little_back src (omega (arith, size)) small in
    let rest : flat_map number_bytes zs ≡ drop 8 src =
    flat_back (drop 8 src) zs (omega (arith, size, length-drop 8 src)) (small_drop 8 src small)
    (λ d k h.
    let along : drop (8 * suc k) src ≡ drop (8 * k) (drop 8 src) =
    ap (λ (n : ℕ). drop n src) (omega arith) ∙ sym (drop-drop (8 * k) 8 src) in
    reads d (suc k) (omega arith) ∙ ap (λ (bs : List ℕ). cast_signed w64 (little_number 8 bs))
    along) in
    ap (λ (bs : List ℕ). bs ++ flat_map number_bytes zs) front
    ∙ ap (λ (bs : List ℕ). take 8 src ++ bs) rest ∙ take-append-drop 8 src

-- numbers that were read from bytes have them
pub read_back : (src : List ℕ) (dst : List ℤ) → length src ≡ 8 * length dst → All (λ b. b < 256) src
    → ((d : ℤ) (k : ℕ) → k < length dst → get_or dst k d
    ≡ cast_signed w64 (little_number 8 (drop (8 * k) src)))
    → numbers_bytes dst ≡ src
unfolding numbers_bytes
read_back src dst size small reads = flat_back src dst size small reads

-- ---- bytes of a slice, and heads

-- what a slice of bytes holds is below 256
pub small_bytes : (bs : List ℕ) → ((i : ℕ) → Fits w8 (get_or bs i 0)) → All (λ b. b < 256) bs
small_bytes bs fits k d h =
    let b : get_or bs k 0 < 2 ^ 8 = (fits k).fits in omega (arith, b, get_or_default bs k d 0 h)

-- a count is written as it was read
pub count_back : (bs : List ℕ) → length bs ≡ 8 → All (λ b. b < 256) bs
    → count_bytes (little_number 8 bs) ≡ bs
unfolding count_bytes
count_back bs size small =
    let same : little_from 0 8 bs ≡ from_le_bytes w64 bs = omega arith in
    le_bytes_8 bs (little_from 0 8 bs) size (small_index bs small) same

-- a head of 15 bytes, by its mark and the count in the others
pub head_is : (head : List ℕ) (n : ℕ) → length head ≡ 15 → All (λ b. b < 256) head
    → take 7 head ≡ dump_mark → n ≡ little_number 8 (drop 7 head) → head ≡ dump_head n
unfolding dump_head
head_is head n size small mark count =
    sym (take-append-drop 7 head)
    ∙ ap (λ (l : List ℕ). l ++ drop 7 head) mark
    ∙ ap (λ (l : List ℕ). dump_mark ++ l)
    (sym (count_back (drop 7 head) (omega (arith, size, length-drop 7 head))
    (small_drop 7 head small)) ∙ ap count_bytes (sym count))

-- a head has 15 bytes
pub head_size : (n : ℕ) → length (dump_head n) ≡ 15
unfolding dump_head
head_size n = omega (arith, length-append dump_mark (count_bytes n), mark_size, count_size n)

-- a text has those, and eight for each number
pub text_size : (xs : List ℤ) → length (dump_text xs) ≡ dump_length (length xs)
unfolding dump_text
text_size xs =
    omega (
      arith,
      length-append (dump_head (length xs)) (numbers_bytes xs),
      head_size
          (length xs),
      numbers_size xs,
    )

-- one head says one count
pub head_one : (m n : ℕ) → m < 2 ^ 64 → n < 2 ^ 64 → dump_head m ≡ dump_head n → m ≡ n
unfolding dump_head
head_one m n fm fn e =
    count_one m n fm fn (append_cancel_left dump_mark (count_bytes m) (count_bytes n) e)

-- ---- lists that fit

-- the first numbers
pub signed_take : (k : ℕ) (xs : List ℤ) → AreSigned xs → AreSigned (take k xs)
signed_take k xs all i d h =
    let long = length-take k xs in
    subst (FitsSigned w64) (sym (get_or-take k xs i d (omega (arith, long, h))))
    (all i d (omega (arith, long, h)))

-- the others
pub signed_drop : (k : ℕ) (xs : List ℤ) → AreSigned xs → AreSigned (drop k xs)
signed_drop k xs all i d h =
    subst (FitsSigned w64) (sym (get_or-drop k xs i d))
    (all (k + i) d (omega (arith, length-drop k xs, h)))

-- two lists have two texts
flat_one : (xs ys : List ℤ) → AreSigned xs → AreSigned ys
    → flat_map number_bytes xs ≡ flat_map number_bytes ys → xs ≡ ys
flat_one [] [] fx fy e = refl
flat_one [] (y ∷ ys) fx fy e =
    absurd (let long = ap length e in omega (arith, long, flat_size (y ∷ ys)))
flat_one (x ∷ xs) [] fx fy e =
    absurd (let long = ap length e in omega (arith, long, flat_size (x ∷ xs)))
flat_one (x ∷ xs) (y ∷ ys) fx fy e =
    let front : number_bytes x ≡ number_bytes y =
    sym (take_at (number_bytes x) (flat_map number_bytes xs) 8 (number_size x)) ∙ ap (take 8) e
    ∙ take_at (number_bytes y) (flat_map number_bytes ys) 8 (number_size y) in
    let rest : flat_map number_bytes xs ≡ flat_map number_bytes ys =
    sym (drop_at (number_bytes x) (flat_map number_bytes xs) 8 (number_size x)) ∙ ap (drop 8) e
    ∙ drop_at (number_bytes y) (flat_map number_bytes ys) 8 (number_size y) in
    let one : x ≡ y = number_one x y (fx 0 x (omega arith)) (fy 0 y (omega arith)) front in
    let all : xs ≡ ys =
    flat_one xs ys (λ k d h. fx (suc k) d (omega (arith, h)))
    (λ k d h. fy (suc k) d (omega (arith, h))) rest in
    ap (λ (z : ℤ). z ∷ xs) one ∙ ap (λ (zs : List ℤ). y ∷ zs) all

-- numbers have one text
pub numbers_one : (xs ys : List ℤ) → AreSigned xs → AreSigned ys
    → numbers_bytes xs ≡ numbers_bytes ys → xs ≡ ys
unfolding numbers_bytes
numbers_one xs ys fx fy e = flat_one xs ys fx fy e

-- a list of numbers has one dump
pub text_one : (xs ys : List ℤ) → AreSigned xs → AreSigned ys → dump_text xs ≡ dump_text ys
    → xs ≡ ys
unfolding dump_text
text_one xs ys fx fy e =
    numbers_one xs ys fx fy
    (sym (drop_at (dump_head (length xs)) (numbers_bytes xs) 15 (head_size (length xs)))
    ∙ ap (drop 15) e ∙ drop_at (dump_head (length ys)) (numbers_bytes ys) 15
    (head_size (length ys)))

-- nothing stands behind a dump in a dump
pub text_front : (xs ys : List ℤ) (rest : List ℕ) → length xs < 2 ^ 64 → length ys < 2 ^ 64
    → dump_text ys ≡ dump_text xs ++ rest → rest ≡ []
unfolding dump_text
text_front xs ys rest fx fy e =
    let head = dump_head (length xs) in
    let whole : dump_head (length ys) ++ numbers_bytes ys ≡ head ++ (numbers_bytes xs ++ rest) =
    e ∙ append_assoc head (numbers_bytes xs) rest in
    let same : dump_head (length ys) ≡ head =
    sym (take_at (dump_head (length ys)) (numbers_bytes ys) 15 (head_size (length ys)))
    ∙ ap (take 15) whole ∙ take_at head (numbers_bytes xs ++ rest) 15 (head_size (length xs)) in
    let counts : length ys ≡ length xs = head_one (length ys) (length xs) fy fx same in
    let long = ap length e in
    nil_from_length rest (omega (
      arith,
      counts,
      long,
      length-append
          (dump_text xs) rest,
      text_size xs,
      text_size ys,
    ))

-- no numbers
pub signed_none : AreSigned []
signed_none i d h = absurd (omega (arith, h))

-- two lists
pub signed_append : (xs ys : List ℤ) → AreSigned xs → AreSigned ys → AreSigned (xs ++ ys)
signed_append xs ys fx fy i d h = elim (cases_lt i (length xs)) [
  | inl front ↦ subst (FitsSigned w64) (sym (get_or_append_left xs ys d i front)) (fx i d front)
  | inr back ↦ subst (FitsSigned w64) (sym (get_or-append_right xs ys (length xs) i d refl back))
      (fy (i - length xs) d (omega (arith, h, back, length-append xs ys)))
]

-- what is read from bytes is a signed number of 64 bits
pub signed_read : (src : List ℕ) (dst : List ℤ) → All (λ b. b < 256) src
    → ((d : ℤ) (k : ℕ) → k < length dst → get_or dst k d
    ≡ cast_signed w64 (little_number 8 (drop (8 * k) src)))
    → AreSigned dst
signed_read src dst small reads k d h =
    let bytes = drop (8 * k) src in
    let below : little_from 0 8 bytes < 256 ^ 8 =
    little_from-lt 0 8 bytes (small_index bytes (small_drop (8 * k) src small)) in
    subst (FitsSigned w64) (sym (reads d k h)) (sfits_to_z (record { fits = below }))

-- one number more
pub numbers_push : (xs : List ℤ) (z : ℤ)
    → numbers_bytes (xs ++ z ∷ []) ≡ numbers_bytes xs ++ number_bytes z
unfolding numbers_bytes
numbers_push xs z =
    flat_map-append number_bytes xs (z ∷ [])
    ∙ ap (λ (l : List ℕ). flat_map number_bytes xs ++ l) (append-nil (number_bytes z))

-- and its sign
pub signed_push : (xs : List ℤ) (z : ℤ) → AreSigned xs → FitsSigned w64 z → AreSigned (xs ++ z ∷ [])
signed_push xs z fits fit = signed_append xs (z ∷ []) fits (one z fit)
  where
    one : (z : ℤ) → FitsSigned w64 z → AreSigned (z ∷ [])
    one z fit zero d h = fit
    one z fit (suc k) d h = absurd (omega (arith, h))
