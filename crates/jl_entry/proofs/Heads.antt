-- The head of an entry, and the entry whose head it is.
use Rattle.std.proofs.Common.{◌≡◌, ℕ, List, [], ◌∷◌, ◌++◌, true, bytes_eq, refl, sym, ◌∙◌}
use Rattle.std.proofs.lemmas.Slice.Eq.{bytes_eq-Decides}
use Rattle.jl_value.specs.Tree.{Tree}
use Rattle.jl_value.specs.Canonical.{text_of}
use Rattle.jl_value.specs.Proper.{IsProper}
use Rattle.jl_entry.specs.Entry.{Members as Args, entry_text, IsEntryOf, IsHeadOf}
use Rattle.jl_entry.proofs.Entries.{entry_proper, same_nesting}
use Rattle.jl_entry.proofs.Pieces.{pieces}

-- a head with the text of a value behind it is an entry's text
pub headed : (head code : List ℕ) (ps : Args) (v t : Tree) → IsHeadOf head code ps → v ≡ t → (head ++ text_of v) ++ 125 ∷ [] ≡ entry_text code ps t
headed head code ps v t h same = (λ i. (h.text i ++ text_of (same i)) ++ 125 ∷ []) ∙ pieces code ps t

-- bytes that are the entry of one code and arguments, and are a head with the value behind it, are the head's entry
pub both_entries : (bytes head code other : List ℕ) (ps qs : Args) (v : Tree) → IsHeadOf head code ps → IsProper v
    → IsEntryOf bytes other qs v → bytes_eq ((head ++ text_of v) ++ 125 ∷ []) bytes ≡ true → IsEntryOf bytes code ps v
both_entries bytes head code other ps qs v h proper entry same =
    let mine : bytes ≡ entry_text code ps v = sym ((bytes_eq-Decides _ bytes).0 same) ∙ headed head code ps v v h refl in
    let mine_proper = entry_proper code ps v h.coded h.proper proper in
    record { text = mine; proper = mine_proper; shallow = same_nesting code ps v other qs v mine_proper entry.proper (sym mine ∙ entry.text) entry.shallow }
