-- The pieces of an entry's text.
use Rattle.std.proofs.Common.{◌≡◌, ℕ, List, [], ◌∷◌, ◌++◌, decimal, refl, sym, ◌∙◌, arith, append_assoc}
use Rattle.std.proofs.lemmas.Fmt.{decimal_digit}
use Rattle.json.specs.Print.{quoted, escape_byte}
use Rattle.jl_value.specs.Tree.{Tree}
use Rattle.jl_value.specs.Canonical.{text_of}
use Rattle.jl_value.specs.Key.{args_tree}
use Rattle.jl_entry.specs.Entry.{Members as Args, args_key, code_key, format_key, value_key, entry_text, first_piece, code_piece, value_piece}

-- the keys in their quotes
quoted_args : quoted args_key ≡ 34 ∷ 97 ∷ 114 ∷ 103 ∷ 115 ∷ 34 ∷ []
unfolding escape_byte
quoted_args = refl

quoted_code : quoted code_key ≡ 34 ∷ 99 ∷ 111 ∷ 100 ∷ 101 ∷ 34 ∷ []
unfolding escape_byte
quoted_code = refl

quoted_format : quoted format_key ≡ 34 ∷ 102 ∷ 111 ∷ 114 ∷ 109 ∷ 97 ∷ 116 ∷ 34 ∷ []
unfolding escape_byte
quoted_format = refl

quoted_value : quoted value_key ≡ 34 ∷ 118 ∷ 97 ∷ 108 ∷ 117 ∷ 101 ∷ 34 ∷ []
unfolding escape_byte
quoted_value = refl

-- the format
one : decimal 1 ≡ 49 ∷ []
one = decimal_digit 1 (omega arith)

-- the text by its keys
by_keys : (qa qc qf qv one a c v : List ℕ) → List ℕ
by_keys qa qc qf qv one a c v = 123 ∷ (qa ++ 58 ∷ (a ++ (44 ∷ [] ++ (qc ++ 58 ∷ (c ++ (44 ∷ [] ++ (qf ++ 58 ∷ (one ++ (44 ∷ [] ++ (qv ++ 58 ∷ (v ++ 125 ∷ [])))))))))))

-- the text of an entry is that text
text_by_keys : (code : List ℕ) (ps : Args) (t : Tree) → entry_text code ps t ≡ by_keys (quoted args_key) (quoted code_key) (quoted format_key) (quoted value_key) (decimal 1) (text_of (args_tree ps)) (quoted code) (text_of t)
unfolding by_keys
text_by_keys code ps t = refl

-- the pieces put together are that text
regroup : (a c v : List ℕ) → ((((((first_piece ++ a) ++ code_piece) ++ c) ++ value_piece) ++ v) ++ 125 ∷ [])
    ≡ by_keys (34 ∷ 97 ∷ 114 ∷ 103 ∷ 115 ∷ 34 ∷ []) (34 ∷ 99 ∷ 111 ∷ 100 ∷ 101 ∷ 34 ∷ []) (34 ∷ 102 ∷ 111 ∷ 114 ∷ 109 ∷ 97 ∷ 116 ∷ 34 ∷ []) (34 ∷ 118 ∷ 97 ∷ 108 ∷ 117 ∷ 101 ∷ 34 ∷ []) (49 ∷ []) a c v
unfolding by_keys
regroup a c v = simp append_assoc

-- the pieces put together are the text of an entry
pub pieces : (code : List ℕ) (ps : Args) (t : Tree) → ((((((first_piece ++ text_of (args_tree ps)) ++ code_piece) ++ quoted code) ++ value_piece) ++ text_of t) ++ 125 ∷ []) ≡ entry_text code ps t
pieces code ps t =
    regroup (text_of (args_tree ps)) (quoted code) (text_of t)
    ∙ sym (text_by_keys code ps t ∙ (λ i. by_keys (quoted_args i) (quoted_code i) (quoted_format i) (quoted_value i) (one i) (text_of (args_tree ps)) (quoted code) (text_of t)))
