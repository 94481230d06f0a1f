-- Parts of a file, of which more is read, and which grows.
use Rattle.std.proofs.Common.{◌≡◌, ℕ, ◌+◌, ◌*◌, ◌-◌, ◌≤◌, ◌<◌, ℤ, List, [], ◌∷◌, ◌++◌, length, take}
use Rattle.std.proofs.Common.{drop, refl, sym, ap, ◌∙◌}
use Rattle.std.proofs.Common.{suc, arith, length-append, length-take, length-drop, take-add}
use Rattle.std.proofs.Common.{take-take, drop-drop, take_at, drop_at}
use Rattle.std.proofs.lemmas.List.{take-append-le, drop-append-le, drop-take, length-take-le}
use borrow.Rule.Slice.PartMut.{put_mid, post_of}
use Rattle.jl_array.specs.Dumps.{number_bytes, numbers_bytes, HasPart}
use Rattle.jl_array.proofs.Numerals.{number_size, numbers_push}

-- a part is no longer than what the file has from its place on
pub part_within : (at : ℕ) (part file : List ℕ) → HasPart at part file
    → length part ≤ length file - at
part_within at part file has =
    let long : length (take (length part) (drop at file)) ≡ length part = ap length has in
    omega (arith, long, length-take (length part) (drop at file), length-drop at file)

-- so a part of some bytes ends where the file does or before
pub part_ends : (at : ℕ) (part file : List ℕ) → HasPart at part file → 0 < length part
    → at + length part ≤ length file
part_ends at part file has some = omega (arith, part_within at part file has, some)

-- nothing stands everywhere
pub part_none : (at : ℕ) (file : List ℕ) → HasPart at [] file
part_none at file = refl

-- a file that grows keeps its parts
pub part_grown : (at : ℕ) (part file rest : List ℕ) → HasPart at part file
    → HasPart at part (file ++ rest)
part_grown at [] file rest has = refl
part_grown at (b ∷ part) file rest has =
    let long : suc (length part) ≤ length file - at = part_within at (b ∷ part) file has in
    ap (take (suc (length part))) (drop-append-le at file rest (omega (arith, long)))
    ∙ take-append-le (suc (length part)) (drop at file) rest
    (omega (arith, long, length-drop at file))
    ∙ has

-- what stands behind a part goes on with it
pub part_more : (at : ℕ) (part more file : List ℕ) → HasPart at part file
    → HasPart (at + length part) more file → HasPart at (part ++ more) file
part_more at part more file has next =
    ap (λ (n : ℕ). take n (drop at file)) (length-append part more)
    ∙ take-add (length part) (length more) (drop at file)
    ∙ ap (λ (l : List ℕ). l ++ take (length more) (drop (length part) (drop at file))) has
    ∙ ap (λ (l : List ℕ). part ++ take (length more) l) (drop-drop (length part) at file)
    ∙ ap (λ (l : List ℕ). part ++ l) next

-- the first bytes from a place on stand there
pub part_front : (at k : ℕ) (file : List ℕ) → k ≤ length file - at
    → HasPart at (take k (drop at file)) file
part_front at k file long =
    ap (λ (n : ℕ). take n (drop at file))
    (length-take-le k (drop at file) (omega (arith, long, length-drop at file)))

-- a front of a part stands where that does
pub part_first : (at : ℕ) (part more file : List ℕ) → HasPart at (part ++ more) file
    → HasPart at part file
part_first at part more file has =
    sym (take-take (length part) (length (part ++ more)) (drop at file)
    (omega (arith, length-append part more)))
    ∙ ap (take (length part)) has
    ∙ take_at part more (length part) refl

-- and what comes behind the front stands behind it
pub part_last : (at : ℕ) (part more file : List ℕ) → HasPart at (part ++ more) file
    → HasPart (at + length part) more file
part_last at part more file has =
    let n = length part in
    ap (take (length more)) (sym (drop-drop n at file))
    ∙ sym (drop-take n (length more) (drop at file))
    ∙ ap (λ (k : ℕ). drop n (take k (drop at file))) (sym (length-append part more))
    ∙ ap (drop n) has
    ∙ drop_at part more n refl

-- what was written into a part of a buffer stands behind what stood before it
pub take_put : (a m k : ℕ) (xs ys : List ℕ) → a ≤ length xs → k ≤ length ys
    → take (a + k) (put_mid a m xs ys) ≡ take a xs ++ take k ys
take_put a m k xs ys long some =
    let size = length-take-le a xs long in
    let behind = ys ++ post_of a m xs in
    take-add a k (take a xs ++ behind)
    ∙ ap (λ (l : List ℕ). l ++ take k (drop a (take a xs ++ behind)))
    (take_at (take a xs) behind a size)
    ∙ ap (λ (l : List ℕ). take a xs ++ take k l) (drop_at (take a xs) behind a size)
    ∙ ap (λ (l : List ℕ). take a xs ++ l) (take-append-le k ys (post_of a m xs) some)

-- a write to a part of a buffer leaves its length
pub mid_size : {X : Type 0} (a m : ℕ) (xs ys : List X) → a + m ≤ length xs
    → length ys ≡ length (take m (drop a xs))
    → (length ys ≡ m) × (length (put_mid a m xs ys) ≡ length xs)
mid_size a m xs ys within same =
    let part : length ys ≡ m =
    omega (arith, within, same, length-take m (drop a xs), length-drop a xs) in (
      part,
      omega (
        arith,
        within,
        part,
        length-append (take a xs) (ys ++ post_of a m xs),
        length-append ys
            (post_of a m xs),
        length-take a xs,
        length-drop a xs,
        length-drop m (drop a xs),
      ),
    )

-- so does one to its rest
pub put_size : (a : ℕ) (xs ys : List ℕ) → a ≤ length xs
    → length ys ≡ length (take (length xs - a) (drop a xs))
    → length (put_mid a (length xs - a) xs ys) ≡ length xs
put_size a xs ys long same = (mid_size a (length xs - a) xs ys (omega (arith, long)) same).1

-- which has what is left
pub rest_size : (a : ℕ) (xs : List ℕ) → length (take (length xs - a) (drop a xs)) ≡ length xs - a
rest_size a xs = omega (arith, length-take (length xs - a) (drop a xs), length-drop a xs)

-- the bytes of one number more stand in a buffer
pub put_number : (ns : List ℤ) (i m : ℕ) (z : ℤ) (buf part rest : List ℕ) → 8 * i ≤ length buf
    → part ≡ number_bytes z ++ rest → take (8 * i) buf ≡ numbers_bytes (take i ns)
    → take (i + 1) ns ≡ take i ns ++ z ∷ []
    → take (8 * (i + 1)) (put_mid (8 * i) m buf part) ≡ numbers_bytes (take (i + 1) ns)
put_number ns i m z buf part rest long is before more =
    let step : 8 * (i + 1) ≡ 8 * i + 8 = omega arith in
    let size : 8 ≤ length part =
    omega (arith, ap length is, length-append (number_bytes z) rest, number_size z) in
    ap (λ (n : ℕ). take n (put_mid (8 * i) m buf part)) step
    ∙ take_put (8 * i) m 8 buf part long size
    ∙ ap (λ (l : List ℕ). l ++ take 8 part) before
    ∙ ap (λ (l : List ℕ). numbers_bytes (take i ns) ++ l)
    (ap (take 8) is ∙ take_at (number_bytes z) rest 8 (number_size z))
    ∙ sym (ap numbers_bytes more ∙ numbers_push (take i ns) z)
