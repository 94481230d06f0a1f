-- A file that is compared with bytes, read by read, and with the list that it holds.
use Rattle.std.proofs.Common.{◌≡◌, ◌≢◌, ℕ, ◌+◌, ◌-◌, ◌≤◌, ◌<◌, ℤ, List, ◌++◌, length, take, drop}
use Rattle.std.proofs.Common.{refl, sym, ap, subst, ◌∙◌}
use Rattle.std.proofs.Common.{arith, length-append, length-take, length-drop, take-take, take_at}
use Rattle.std.proofs.Common.{drop_at, take_all, append_assoc, take-add, take-append-drop}
use Rattle.std.proofs.lemmas.List.{take-append-le, length-take-le}
use borrow.Rule.Slice.PartMut.{put_mid, post_of}
use Rattle.jl_folder.specs.Views.{FolderView}
use Rattle.jl_folder.specs.Calls.{Call, ReadsPart}
use Rattle.jl_array.specs.declared.comparing.SameArray.{SameArray}
use Rattle.jl_array.specs.declared.comparing.SameArray.TheVariants as same_array
use Rattle.jl_array.specs.Dumps.{numbers_bytes, dump_head, dump_text, AreSigned, HasPart}
use Rattle.jl_array.specs.Dumps.{DiffersFrom, EndsInside}
use Rattle.jl_array.specs.Nodes.{OpenHas}
use Rattle.jl_array.specs.Answers.{ComparesBytes, ComparesList}
use Rattle.jl_array.proofs.Numerals.{numbers_size, numbers_one, head_size, text_size}
use Rattle.jl_array.proofs.Parts.{part_more, part_last, part_within}
use Rattle.jl_array.proofs.NodeFacts.{Gave, has_as, has_both, part_lasting}
use Rattle.jl_array.proofs.FillLemmas.{before_and_gave}

-- ---- bytes

-- the file has other bytes than are wanted in one place
differs_here : (front piece whole file : List ℕ) → HasPart 15 front file
    → HasPart (15 + length front) piece file → 0 < length piece
    → length front + length piece ≤ length whole
    → take (length front) whole ≡ front → take (length piece) (drop (length front) whole) ≢ piece
    → DiffersFrom whole file
differs_here front piece whole file has next some within same other =
    let n = length front in
    let m = length piece in
    let both : HasPart 15 (front ++ piece) file = part_more 15 front piece file has next in
    let size = length-append front piece in
    record {
      size = n + m;
      of_part = within;
      of_file = omega (arith, part_within 15 (front ++ piece) file both, size, some);
      differ = λ e.
          let of_file : take (n + m) (drop 15 file) ≡ front ++ piece =
          ap (λ (k : ℕ). take k (drop 15 file)) (sym size) ∙ both in
          let of_whole : take n whole ++ take m (drop n whole) ≡ front ++ piece =
          sym (take-add n m whole) ∙ sym e ∙ of_file in
          other (sym (drop_at (take n whole) (take m (drop n whole)) n (ap length same))
          ∙ ap (drop n) of_whole ∙ drop_at front piece n refl);
    }

-- the file ends in bytes of which it has the front
ends_here : (front whole file : List ℕ) → HasPart 15 front file → length file ≤ 15 + length front
    → length front < length whole → take (length front) whole ≡ front → EndsInside whole file
ends_here front whole file has short more same =
    let n = length front in
    let body : drop 15 file ≡ front =
    sym (take_all n (drop 15 file) (omega (arith, short, length-drop 15 file))) ∙ has in
    record {
      ends = omega (arith, short, more, length-drop 15 file);
      front = ap (λ (l : List ℕ). take (length l) whole) body ∙ same ∙ sym body;
    }

-- what is wanted, by how much of it was compared
module _ (before wanted : List ℕ) (have : ℕ) where
  -- all that is wanted
  abbrev Whole : List ℕ
  Whole = before ++ wanted

  -- what was compared
  abbrev Front : List ℕ
  Front = before ++ take have wanted

  -- the whole is that and the rest
  in_two : Whole ≡ Front ++ drop have wanted
  in_two =
      ap (λ (l : List ℕ). before ++ l) (sym (take-append-drop have wanted))
      ∙ sym (append_assoc before (take have wanted) (drop have wanted))

  -- so it begins with that
  whole_front : take (length Front) Whole ≡ Front
  whole_front =
      ap (take (length Front)) in_two ∙ take_at Front (drop have wanted) (length Front) refl

  -- and goes on with the rest
  whole_rest : drop (length Front) Whole ≡ drop have wanted
  whole_rest =
      ap (drop (length Front)) in_two ∙ drop_at Front (drop have wanted) (length Front) refl

  -- how much was compared
  front_size : have ≤ length wanted → length Front ≡ length before + have
  front_size within =
      omega (arith, within, length-append before (take have wanted), length-take have wanted)

-- the part of a buffer that was read
pub read_part : (have m k : ℕ) (xs ys : List ℕ) → have ≤ length xs → k ≤ length ys
    → take (have + k - have) (drop have (put_mid have m xs ys)) ≡ take k ys
read_part have m k xs ys long some =
    let behind = ys ++ post_of have m xs in
    let k_is : have + k - have ≡ k = omega arith in
    ap (λ (n : ℕ). take n (drop have (put_mid have m xs ys))) k_is
    ∙ ap (take k) (drop_at (take have xs) behind have (length-take-le have xs long))
    ∙ take-append-le k ys (post_of have m xs) some

-- it is what is wanted where the two parts are equal
pub same_piece : (have m k : ℕ) (xs ys wanted : List ℕ) → have ≤ length xs → k ≤ length ys
    → take (have + k - have) (drop have (put_mid have m xs ys))
    ≡ take (have + k - have) (drop have wanted)
    → take k (drop have wanted) ≡ take k ys
same_piece have m k xs ys wanted long some e =
    let k_is : have + k - have ≡ k = omega arith in
    sym (ap (λ (n : ℕ). take n (drop have wanted)) k_is) ∙ sym e
    ∙ read_part have m k xs ys long some

-- and only there
pub piece_same : (have m k : ℕ) (xs ys wanted : List ℕ) → have ≤ length xs → k ≤ length ys
    → take k (drop have wanted) ≡ take k ys
    → take (have + k - have) (drop have (put_mid have m xs ys))
    ≡ take (have + k - have) (drop have wanted)
piece_same have m k xs ys wanted long some e =
    let k_is : have + k - have ≡ k = omega arith in
    read_part have m k xs ys long some ∙ sym e
    ∙ sym (ap (λ (n : ℕ). take n (drop have wanted)) k_is)

-- ---- one read

module _ (a b : FolderView) (number done have k : ℕ) (buf buf' before wanted : List ℕ)
    (same : b.opens ≡ a.opens) (call : Call a b
    (ReadsPart number (15 + done + have) k buf buf' a.opens)) (size : length before ≡ done)
    (within : have ≤ length wanted)
    (has : OpenHas number (HasPart 15 (before ++ take have wanted)) a) where
  -- what is known of the file after the read
  abbrev Seen : List ℕ → Type 0
  Seen bytes = HasPart 15 (before ++ take have wanted) bytes × Gave (15 + done + have) k buf' bytes

  -- it holds of the node
  seen : OpenHas number Seen b
  seen =
      before_and_gave a b number (15 + done) have k buf buf' same call
      (HasPart 15 (before ++ take have wanted)) (part_lasting 15 (before ++ take have wanted)) has

  -- where the piece stands
  stands : (bytes : List ℕ) → Seen bytes
      → HasPart (15 + length (before ++ take have wanted)) (take k buf') bytes
  stands bytes both =
      let place : 15 + done + have ≡ 15 + length (before ++ take have wanted) =
      omega (arith, front_size before wanted have within, size) in
      subst (λ (n : ℕ). HasPart n (take k buf') bytes) place both.1.stands

  -- the piece is as wanted
  pub compare_more : have + k ≤ length wanted → take k (drop have wanted) ≡ take k buf'
      → OpenHas number (HasPart 15 (before ++ take (have + k) wanted)) b
  compare_more fits equal =
      let text : (before ++ take have wanted) ++ take k buf' ≡ before ++ take (have + k) wanted =
      append_assoc before (take have wanted) (take k buf')
      ∙ ap (λ (l : List ℕ). before ++ l)
      (ap (λ (l : List ℕ). take have wanted ++ l) (sym equal) ∙ sym (take-add have k wanted)) in
      has_as b number Seen (HasPart 15 (before ++ take (have + k) wanted))
      (λ bytes both. subst (λ (l : List ℕ). HasPart 15 l bytes) text
      (part_more 15 (before ++ take have wanted) (take k buf') bytes both.0 (stands bytes both)))
      seen

  -- it is another
  pub compare_differs : 0 < k → have + k ≤ length wanted → take k (drop have wanted) ≢ take k buf'
      → OpenHas number (DiffersFrom (before ++ wanted)) b
  compare_differs some fits other =
      has_as b number Seen (DiffersFrom (before ++ wanted))
      (λ bytes both.
      let piece = take k buf' in
      let gave : length piece ≡ k = both.1.size in
      differs_here (before ++ take have wanted) piece (before ++ wanted) bytes both.0
      (stands bytes both) (omega (arith, some, gave))
      (omega (arith, fits, gave, front_size before wanted have within, length-append before wanted))
      (whole_front before wanted have)
      (λ e. other (ap (λ (n : ℕ). take n (drop have wanted)) (sym gave)
      ∙ ap (take (length piece)) (sym (whole_rest before wanted have)) ∙ e)))
      seen

  -- there is none
  pub compare_short : k ≡ 0 → have < length wanted
      → OpenHas number (EndsInside (before ++ wanted)) b
  compare_short none more =
      has_as b number Seen (EndsInside (before ++ wanted))
      (λ bytes both.
      let end = both.1.ends none in
      ends_here (before ++ take have wanted) (before ++ wanted) bytes both.0
      (omega (arith, end, front_size before wanted have within, size))
      (omega (arith, more, front_size before wanted have within, length-append before wanted))
      (whole_front before wanted have))
      seen

-- ---- a block of more

-- bytes that differ from a front differ from the whole
pub differs_longer : (part more file : List ℕ) → DiffersFrom part file
    → DiffersFrom (part ++ more) file
differs_longer part more file d = record {
  size = d.size;
  of_part = omega (arith, d.of_part, length-append part more);
  of_file = d.of_file;
  differ = λ e. d.differ (e ∙ take-append-le d.size part more d.of_part);
}

-- a file that ends in a front ends in the whole
pub ends_longer : (part more file : List ℕ) → EndsInside part file → EndsInside (part ++ more) file
ends_longer part more file d = record {
  ends = omega (arith, d.ends, length-append part more);
  front =
      take-append-le (length (drop 15 file)) part more (omega (arith, d.ends))
      ∙ d.front;
}

-- what isn't the same in a front isn't in the whole
pub compares_longer : (number : ℕ) (part more all : List ℕ) (r : SameArray) (v : FolderView)
    → part ++ more ≡ all → r ≢ same_array.Yes → ComparesBytes number part r v
    → ComparesBytes number all r v
compares_longer number part more all same_array.Yes v is other d = absurd (other refl)
compares_longer number part more all same_array.No v is other d =
    subst (λ (l : List ℕ). OpenHas number (DiffersFrom l) v) is
    (has_as v number (DiffersFrom part) (DiffersFrom (part ++ more)) (differs_longer part more) d)
compares_longer number part more all same_array.Short v is other d =
    subst (λ (l : List ℕ). OpenHas number (EndsInside l) v) is
    (has_as v number (EndsInside part) (EndsInside (part ++ more)) (ends_longer part more) d)
compares_longer number part more all same_array.FolderFault v is other d = d

-- ---- a list that the file holds

-- behind the head stand the list's numbers
list_body : (list : List ℤ) (file : List ℕ) → HasPart 0 (dump_text list) file
    → HasPart 15 (numbers_bytes list) file
unfolding dump_text
list_body list file has =
    let place : 0 + length (dump_head (length list)) ≡ 15 =
    omega (arith, head_size (length list)) in
    subst (λ (n : ℕ). HasPart n (numbers_bytes list) file) place
    (part_last 0 (dump_head (length list)) (numbers_bytes list) file has)

-- which are the numbers, or not
pub compares_list : (number : ℕ) (list numbers : List ℤ) (r : SameArray) (v : FolderView)
    → AreSigned list → length numbers ≡ length list → (r ≡ same_array.Yes → AreSigned numbers)
    → OpenHas number (HasPart 0 (dump_text list)) v
    → ComparesBytes number (numbers_bytes numbers) r v
    → ComparesList list numbers r
compares_list number list numbers same_array.Yes v fl same fn text d =
    let both =
    has_both v number (HasPart 0 (dump_text list)) (HasPart 15 (numbers_bytes numbers)) text d in
    let file = both.node.bytes in
    let size : length (numbers_bytes numbers) ≡ length (numbers_bytes list) =
    omega (arith, same, numbers_size numbers, numbers_size list) in
    numbers_one numbers list (fn refl) fl
    (sym both.has.1 ∙ ap (λ (n : ℕ). take n (drop 15 file)) size ∙ list_body list file both.has.0)
compares_list number list numbers same_array.No v fl same fn text d =
    let both =
    has_both v number (HasPart 0 (dump_text list)) (DiffersFrom (numbers_bytes numbers)) text d in
    let file = both.node.bytes in
    let differs = both.has.1 in
    let body = list_body list file both.has.0 in
    λ e.
    let texts : numbers_bytes numbers ≡ numbers_bytes list = ap numbers_bytes e in
    let long : differs.size ≤ length (numbers_bytes list) =
    omega (arith, differs.of_part, ap length texts) in
    differs.differ (sym (take-take differs.size (length (numbers_bytes list)) (drop 15 file) long)
    ∙ ap (take differs.size) body ∙ ap (take differs.size) (sym texts))
compares_list number list numbers same_array.Short v fl same fn text d =
    let both =
    has_both v number (HasPart 0 (dump_text list)) (EndsInside (numbers_bytes numbers)) text d in
    let long = part_within 0 (dump_text list) both.node.bytes both.has.0 in
    let few : length (drop 15 both.node.bytes) < length (numbers_bytes numbers) =
    both.has.1.ends in
    let behind = length-drop 15 both.node.bytes in
    omega (arith, few, behind, long, same, numbers_size numbers, text_size list)
compares_list number list numbers same_array.FolderFault v fl same fn text d = tt

-- ---- one answer

-- a file that has bytes has no others
pub has_not_other : (part file : List ℕ) → HasPart 15 part file → DiffersFrom part file → ⊥
has_not_other part file has d =
    d.differ
    (sym (take-take d.size (length part) (drop 15 file) d.of_part) ∙ ap (take d.size) has)

-- nor does it end before them
pub has_not_short : (part file : List ℕ) → HasPart 15 part file → EndsInside part file → ⊥
has_not_short part file has d =
    omega (arith, part_within 15 part file has, d.ends, length-drop 15 file)

-- and one that ends inside them has no others
pub other_not_short : (part file : List ℕ) → DiffersFrom part file → EndsInside part file → ⊥
other_not_short part file d e =
    let body = drop 15 file in
    let within : d.size ≤ length body = omega (arith, d.of_file, length-drop 15 file) in
    d.differ
    (ap (take d.size) (sym e.front) ∙ take-take d.size (length body) part within)
