-- The texts of an entry are whole: none is longer than a reader reads.
use Rattle.std.proofs.Common.{◌≡◌, ℕ, ◌+◌, ◌*◌, ◌/◌, ◌%◌, ◌≤◌, List, [], ◌∷◌, ◌++◌, length, Bool, true, false, cond, nat_lt, sym, subst, arith, length-append}
use Rattle.std.specs.Prelude.{decimal, codes, pos}
use Rattle.std.proofs.lemmas.Fmt.{length-decimal-le, length_signed_le}
use Rattle.std.specs.Char.{digit_char}
use Rattle.hex.specs.Hex.{encode_lower}
use Rattle.json.specs.Print.{escape_letter, escape_byte, escape, quoted}
use Rattle.jl_value.specs.Tree.{Tree, whole}
use Rattle.jl_value.specs.Canonical.{text_of}
use Rattle.jl_value.specs.Key.{args_tree, key_of}
use Rattle.jl_entry.specs.Names.{entry_of}
use Rattle.jl_entry.specs.Entry.{Members, IsEntryOf, entry_text, args_key, code_key, format_key, value_key}
use Rattle.jl_entry.specs.Moments.{IsMoment, IsAccess, IsMetadata, access_text, metadata_text}
use Rattle.jl_entry.specs.declared.names.EntryFile.TheVariants.{Output, Metadata, Access}
use Rattle.jl_protocol.specs.Whole.{IsWhole}
use Rattle.jl_store.specs.Keeping.{IsKeepable}

escaped_short : (b c : Bool) (x y z w : ℕ) → length (cond b (92 ∷ x ∷ []) (cond c (92 ∷ 117 ∷ 48 ∷ 48 ∷ y ∷ z ∷ []) (w ∷ []))) ≤ 6
escaped_short true c x y z w = omega arith
escaped_short false true x y z w = omega arith
escaped_short false false x y z w = omega arith

byte_short : (x : ℕ) → length (escape_byte x) ≤ 6
unfolding escape_byte
byte_short x = escaped_short (nat_lt 0 (escape_letter x)) (nat_lt x 32) (escape_letter x) (digit_char (x / 16)) (digit_char (x % 16)) x

escape_short : (s : List ℕ) → length (escape s) ≤ 6 * length s
escape_short [] = omega arith
escape_short (x ∷ xs) = let here = byte_short x in let rest = escape_short xs in omega (arith, here, rest, length-append (escape_byte x) (escape xs))

pub quoted_short : (s : List ℕ) → length (quoted s) ≤ 6 * length s + 2
quoted_short s = let inner = escape_short s in omega (arith, inner, length-append (escape s) (34 ∷ []))

-- a text, a colon, another text, and the rest
member_short : (a b rest : List ℕ) → length (a ++ 58 ∷ (b ++ rest)) ≡ length a + (length b + length rest) + 1
member_short a b rest = omega (arith, length-append a (58 ∷ (b ++ rest)), length-append b rest)

one_digit : length (text_of (whole (pos 1))) ≤ 2
one_digit = length_signed_le 1 (pos 1) (omega arith) (omega arith)

pub entry_short : (code : List ℕ) (ps : Members) (t : Tree) → IsKeepable code ps t → length (entry_text code ps t) ≤ 16777216
entry_short code ps t limits =
    let a = quoted_short args_key in
    let b = quoted_short code_key in
    let d = quoted_short format_key in
    let f = quoted_short value_key in
    let c = quoted_short code in
    let one = one_digit in
    let from_value : List ℕ = quoted value_key ++ 58 ∷ (text_of t ++ 125 ∷ []) in
    let from_format : List ℕ = quoted format_key ++ 58 ∷ (text_of (whole (pos 1)) ++ 44 ∷ (quoted value_key ++ 58 ∷ (text_of t ++ 125 ∷ []))) in
    let from_code : List ℕ = quoted code_key ++ 58 ∷ (quoted code ++ 44 ∷ (quoted format_key ++ 58 ∷ (text_of (whole (pos 1)) ++ 44 ∷ (quoted value_key ++ 58 ∷ (text_of t ++ 125 ∷ []))))) in
    omega (
      arith,
      a,
      b,
      c,
      d,
      f,
      one,
      limits.code_short,
      limits.args_short,
      limits.value_short,
      member_short (quoted args_key) (text_of (args_tree ps)) (44 ∷ from_code),
      member_short (quoted code_key) (quoted code) (44 ∷ from_format),
      member_short (quoted format_key) (text_of (whole (pos 1))) (44 ∷ from_value),
      member_short (quoted value_key) (text_of t) (125 ∷ []),
    )

few_digits : (n : ℕ) → IsMoment n → length (decimal n) ≤ 20
few_digits n small = length-decimal-le 20 n (omega arith) (omega (arith, small)) (omega (arith, small))

pub output_whole : (m f k bytes code : List ℕ) (ps : Members) (t : Tree) → IsKeepable code ps t → encode_lower (key_of ps) ≡ k → IsEntryOf bytes code ps t → IsWhole (entry_of Output m f k) bytes
unfolding IsWhole
output_whole m f k bytes code ps t limits key is = (subst (λ b. length b ≤ 16777216) (sym is.text) (entry_short code ps t limits), (code, ps, t, key, is))

pub metadata_whole : (m f k bytes : List ℕ) (duration time : ℕ) → IsMetadata bytes duration time → IsWhole (entry_of Metadata m f k) bytes
unfolding IsWhole
metadata_whole m f k bytes duration time is =
    let a = few_digits duration is.0 in
    let b = few_digits time is.1 in
    let end = decimal time ++ 125 ∷ [] in
    let mid = codes "\"time\":" ++ end in
    let start = decimal duration ++ 44 ∷ mid in
    let short : length (metadata_text duration time) ≤ 16777216 =
    omega (arith, a, b, length-append (decimal time) (125 ∷ []), length-append (codes "\"time\":") (decimal time ++ 125 ∷ []), length-append (decimal duration) (44 ∷ (codes "\"time\":" ++ (decimal time ++ 125 ∷ []))), length-append (codes "{\"duration\":") (decimal duration ++ 44 ∷ (codes "\"time\":" ++ (decimal time ++ 125 ∷ [])))) in
    (subst (λ l. length l ≤ 16777216) (sym is.2) short, (duration, time, is))

pub access_whole : (m f k bytes : List ℕ) (moment : ℕ) → IsAccess bytes moment → IsWhole (entry_of Access m f k) bytes
unfolding IsWhole
access_whole m f k bytes moment is =
    let a = few_digits moment is.0 in
    let short : length (access_text moment) ≤ 16777216 = omega (arith, a, length-append (decimal moment) (10 ∷ [])) in
    (subst (λ l. length l ≤ 16777216) (sym is.1) short, (moment, is))
