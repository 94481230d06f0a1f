-- Numbers that are read from a file, block by block, and those of the list that it holds.
use Rattle.std.proofs.Common.{◌≡◌, ℕ, ◌+◌, ◌*◌, ◌≤◌, ◌<◌, ℤ, List, ◌++◌, length, take, drop, sym}
use Rattle.std.proofs.Common.{ap, subst, ◌∙◌}
use Rattle.std.proofs.Common.{arith, length-take, length-drop, take-append-drop}
use Rattle.std.proofs.lemmas.Slice.{take-put_mid}
use borrow.Rule.Slice.PartMut.{put_mid}
use Rattle.jl_folder.specs.Views.{FolderView}
use Rattle.jl_folder.specs.Calls.{Waits}
use Rattle.jl_array.specs.Dumps.{numbers_bytes, dump_head, dump_text, dump_length, AreSigned}
use Rattle.jl_array.specs.Dumps.{HasPart}
use Rattle.jl_array.specs.Nodes.{OpenHas}
use Rattle.jl_array.proofs.Numerals.{numbers_size, numbers_append, numbers_one, head_size}
use Rattle.jl_array.proofs.Numerals.{text_size, signed_take, signed_drop}
use Rattle.jl_array.proofs.Parts.{part_more, part_first, part_last, part_within}
use Rattle.jl_array.proofs.NodeFacts.{has_as, has_both, has_later, part_lasting}

-- the numbers of a block stand behind those before it
numbers_more : (at have m n : ℕ) (out part : List ℤ) (bytes file : List ℕ) → have ≤ length out
    → n ≡ have + length part → numbers_bytes part ≡ bytes
    → HasPart at (numbers_bytes (take have out)) file → HasPart (at + 8 * have) bytes file
    → HasPart at (numbers_bytes (take n (put_mid have m out part))) file
numbers_more at have m n out part bytes file long whole is before next =
    let front = take have out in
    let size : length (numbers_bytes front) ≡ 8 * have =
    omega (arith, numbers_size front, length-take have out, long) in
    let text : numbers_bytes (take n (put_mid have m out part)) ≡ numbers_bytes front ++ bytes =
    ap numbers_bytes (take-put_mid have m out part n whole long) ∙ numbers_append front part
    ∙ ap (λ (l : List ℕ). numbers_bytes front ++ l) is in
    subst (λ (l : List ℕ). HasPart at l file) (sym text)
    (part_more at (numbers_bytes front) bytes file before
    (subst (λ (k : ℕ). HasPart (at + k) bytes file) (sym size) next))

-- a block was read
pub block_more : (a b : FolderView) (number at have m n : ℕ) (out part : List ℤ) (bytes : List ℕ)
    → b.opens ≡ a.opens → Waits a b → have ≤ length out → n ≡ have + length part
    → numbers_bytes part ≡ bytes
    → OpenHas number (HasPart at (numbers_bytes (take have out))) a
    → OpenHas number (HasPart (at + 8 * have) bytes) b
    → OpenHas number (HasPart at (numbers_bytes (take n (put_mid have m out part)))) b
block_more a b number at have m n out part bytes same waits long whole is before next =
    let front = numbers_bytes (take have out) in
    has_as b number (λ file. HasPart at front file × HasPart (at + 8 * have) bytes file)
    (HasPart at (numbers_bytes (take n (put_mid have m out part))))
    (λ file both. numbers_more at have m n out part bytes file long whole is both.0 both.1)
    (has_both b number (HasPart at front) (HasPart (at + 8 * have) bytes)
    (has_later a b number (HasPart at front) (part_lasting at front) same waits before) next)

-- a block that the file ends in
pub block_short : (v : FolderView) (number at place size : ℕ) (out : List ℤ)
    → place + size ≤ at + 8 * length out → OpenHas number (λ bytes. length bytes < place + size) v
    → OpenHas number (λ bytes. length bytes < at + length (numbers_bytes out)) v
block_short v number at place size out within ends =
    has_as v number (λ bytes. length bytes < place + size)
    (λ bytes. length bytes < at + length (numbers_bytes out))
    (λ bytes short. omega (arith, short, within, numbers_size out)) ends

-- ---- a list that the file holds

-- the numbers of a dump from one place on, as many as there are
list_part : (from k : ℕ) (list : List ℤ) (file : List ℕ) → from + k ≤ length list
    → HasPart 0 (dump_text list) file
    → HasPart (dump_length from) (numbers_bytes (take k (drop from list))) file
unfolding dump_text
list_part from k list file within has =
    let front = take from list in
    let rest = drop from list in
    let size : length (numbers_bytes front) ≡ 8 * from =
    omega (arith, numbers_size front, length-take from list, within) in
    let text : numbers_bytes list ≡ numbers_bytes front
    ++ (numbers_bytes (take k rest) ++ numbers_bytes (drop k rest)) =
    ap numbers_bytes (sym (take-append-drop from list)) ∙ numbers_append front rest
    ∙ ap (λ (l : List ℕ). numbers_bytes front ++ l)
    (ap numbers_bytes (sym (take-append-drop k rest))
    ∙ numbers_append (take k rest) (drop k rest)) in
    let body : HasPart (0 + length (dump_head (length list))) (numbers_bytes list) file =
    part_last 0 (dump_head (length list)) (numbers_bytes list) file has in
    let place : 0 + length (dump_head (length list)) ≡ 15 =
    omega (arith, head_size (length list)) in
    let behind : HasPart 15 (numbers_bytes list) file =
    subst (λ (n : ℕ). HasPart n (numbers_bytes list) file) place body in
    let parts = subst (λ (l : List ℕ). HasPart 15 l file) text behind in
    let last =
    part_last 15 (numbers_bytes front) (numbers_bytes (take k rest) ++ numbers_bytes (drop k rest))
    file parts in
    part_first (dump_length from) (numbers_bytes (take k rest)) (numbers_bytes (drop k rest)) file
    (subst (λ (n : ℕ). HasPart (15 + n) (numbers_bytes (take k rest) ++ numbers_bytes (drop k rest))
    file) size last)

-- two parts of one size at one place are the same
part_one : (at : ℕ) (p q file : List ℕ) → length p ≡ length q → HasPart at p file
    → HasPart at q file → p ≡ q
part_one at p q file same hp hq = sym hp ∙ ap (λ (n : ℕ). take n (drop at file)) same ∙ hq

-- so numbers that were read are those of the list
pub range_list : (v : FolderView) (number from : ℕ) (list part : List ℤ)
    → from + length part ≤ length list → AreSigned list → AreSigned part
    → OpenHas number (HasPart 0 (dump_text list)) v
    → OpenHas number (HasPart (dump_length from) (numbers_bytes part)) v
    → part ≡ take (length part) (drop from list)
range_list v number from list part within fl fp text read =
    let k = length part in
    let of_list = take k (drop from list) in
    let both =
    has_both v number (HasPart 0 (dump_text list))
    (HasPart (dump_length from) (numbers_bytes part)) text read in
    let file = both.node.bytes in
    let size : length (numbers_bytes part) ≡ length (numbers_bytes of_list) =
    omega (
      arith,
      within,
      numbers_size part,
      numbers_size of_list,
      length-take k
          (drop from list),
      length-drop from list,
    ) in
    numbers_one part of_list fp (signed_take k (drop from list) (signed_drop from list fl))
    (part_one (dump_length from) (numbers_bytes part) (numbers_bytes of_list) file size both.has.1
    (list_part from k list file within both.has.0))

-- a file that holds a list doesn't end before it
pub list_whole : (v : FolderView) (number n : ℕ) (list : List ℤ) → n ≤ length list
    → OpenHas number (HasPart 0 (dump_text list)) v
    → OpenHas number (λ bytes. length bytes < dump_length n) v → ⊥
list_whole v number n list within text short =
    let both =
    has_both v number (HasPart 0 (dump_text list))
    (λ bytes. length bytes < dump_length n) text short in
    let long = part_within 0 (dump_text list) both.node.bytes both.has.0 in
    let few : length both.node.bytes < dump_length n = both.has.1 in
    omega (arith, within, long, few, text_size list)
