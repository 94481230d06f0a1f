-- The signs of lists and tables, with more members behind them.
use Rattle.std.proofs.Common.{◌≡◌, ℕ, true, List, [], ◌∷◌, ◌++◌, refl, sym, ap, ◌∙◌, append_assoc}
use Rattle.jl_lexer.specs.Words.{is_key}
use Rattle.jl_lexer.specs.Trees.{Expression, members_of, entries_of}
use Rattle.jl_grammar.specs.Grammar.{IsFormed, AreFormed, HaveFormed, words_of, members_words}
use Rattle.jl_grammar.specs.Grammar.{more_members, entries_words, more_entries, comma, colon}

-- members, each with a comma behind it
abbrev pub listed_words : List Expression → List (List ℕ)
listed_words [] = []
listed_words (e ∷ es) = words_of e ++ comma ∷ listed_words es

-- keys and members, each with a comma behind it
abbrev pub keyed_words : List (List ℕ × Expression) → List (List ℕ)
keyed_words [] = []
keyed_words (p ∷ ps) = p.0 ∷ colon ∷ (words_of p.1 ++ comma ∷ keyed_words ps)

-- the members behind the first, with one more at the end
last_more : (es : List Expression) (e : Expression) (us : List (List ℕ))
    → more_members (members_of (es ++ e ∷ [])) ++ us
    ≡ comma ∷ (listed_words es ++ (words_of e ++ us))
last_more [] e us = ap (λ ws. comma ∷ ws) (append_assoc (words_of e) [] us)
last_more (a ∷ es) e us =
    ap (λ ws. comma ∷ ws) (append_assoc (words_of a) (more_members (members_of (es ++ e ∷ []))) us)
    ∙ ap (λ ws. comma ∷ (words_of a ++ ws)) (last_more es e us)
    ∙ ap (λ ws. comma ∷ ws)
    (sym (append_assoc (words_of a) (comma ∷ listed_words es) (words_of e ++ us)))

-- the members of a list, the last of them behind its commas
pub last_words : (es : List Expression) (e : Expression) (us : List (List ℕ))
    → members_words (members_of (es ++ e ∷ [])) ++ us ≡ listed_words es ++ (words_of e ++ us)
last_words [] e us = append_assoc (words_of e) [] us
last_words (a ∷ es) e us =
    append_assoc (words_of a) (more_members (members_of (es ++ e ∷ []))) us
    ∙ ap (λ ws. words_of a ++ ws) (last_more es e us)
    ∙ sym (append_assoc (words_of a) (comma ∷ listed_words es) (words_of e ++ us))

-- the signs of the members so far, with one more and its comma
pub comma_words : (es : List Expression) (e : Expression)
    → listed_words (es ++ e ∷ []) ≡ listed_words es ++ (words_of e ++ comma ∷ [])
comma_words [] e = refl
comma_words (a ∷ es) e =
    ap (λ ws. words_of a ++ comma ∷ ws) (comma_words es e)
    ∙ sym (append_assoc (words_of a) (comma ∷ listed_words es) (words_of e ++ comma ∷ []))

-- the entries behind the first, with one more at the end
last_more_entry : (ps : List (List ℕ × Expression)) (k : List ℕ) (e : Expression)
    (us : List (List ℕ))
    → more_entries (entries_of (ps ++ (k, e) ∷ [])) ++ us
    ≡ comma ∷ (keyed_words ps ++ k ∷ colon ∷ (words_of e ++ us))
last_more_entry [] k e us = ap (λ ws. comma ∷ k ∷ colon ∷ ws) (append_assoc (words_of e) [] us)
last_more_entry (p ∷ ps) k e us =
    ap (λ ws. comma ∷ p.0 ∷ colon ∷ ws)
    (append_assoc (words_of p.1) (more_entries (entries_of (ps ++ (k, e) ∷ []))) us)
    ∙ ap (λ ws. comma ∷ p.0 ∷ colon ∷ (words_of p.1 ++ ws)) (last_more_entry ps k e us)
    ∙ ap (λ ws. comma ∷ p.0 ∷ colon ∷ ws)
    (sym (append_assoc (words_of p.1) (comma ∷ keyed_words ps) (k ∷ colon ∷ (words_of e ++ us))))

-- the same of a table
pub last_entries : (ps : List (List ℕ × Expression)) (k : List ℕ) (e : Expression)
    (us : List (List ℕ))
    → entries_words (entries_of (ps ++ (k, e) ∷ [])) ++ us
    ≡ keyed_words ps ++ k ∷ colon ∷ (words_of e ++ us)
last_entries [] k e us = ap (λ ws. k ∷ colon ∷ ws) (append_assoc (words_of e) [] us)
last_entries (p ∷ ps) k e us =
    ap (λ ws. p.0 ∷ colon ∷ ws)
    (append_assoc (words_of p.1) (more_entries (entries_of (ps ++ (k, e) ∷ []))) us)
    ∙ ap (λ ws. p.0 ∷ colon ∷ (words_of p.1 ++ ws)) (last_more_entry ps k e us)
    ∙ ap (λ ws. p.0 ∷ colon ∷ ws)
    (sym (append_assoc (words_of p.1) (comma ∷ keyed_words ps) (k ∷ colon ∷ (words_of e ++ us))))

-- the signs of the entries so far, with one more and its comma
pub comma_entries : (ps : List (List ℕ × Expression)) (k : List ℕ) (e : Expression)
    → keyed_words (ps ++ (k, e) ∷ []) ≡ keyed_words ps ++ k ∷ colon ∷ (words_of e ++ comma ∷ [])
comma_entries [] k e = refl
comma_entries (p ∷ ps) k e =
    ap (λ ws. p.0 ∷ colon ∷ (words_of p.1 ++ comma ∷ ws)) (comma_entries ps k e)
    ∙ ap (λ ws. p.0 ∷ colon ∷ ws)
    (sym
    (append_assoc (words_of p.1) (comma ∷ keyed_words ps) (k ∷ colon ∷ (words_of e ++ comma ∷ []))))

-- one member more, and all are formed
pub formed_more : (es : List Expression) (e : Expression) → AreFormed (members_of es) → IsFormed e
    → AreFormed (members_of (es ++ e ∷ []))
formed_more [] e h k = (k, tt)
formed_more (a ∷ es) e h k = (h.0, formed_more es e h.1 k)

-- one entry more, and all are formed
pub entries_more : (ps : List (List ℕ × Expression)) (w : List ℕ) (e : Expression)
    → HaveFormed (entries_of ps) → is_key w ≡ true → IsFormed e
    → HaveFormed (entries_of (ps ++ (w, e) ∷ []))
entries_more [] w e h k f = (k, f, tt)
entries_more (p ∷ ps) w e h k f = (h.0, h.1, entries_more ps w e h.2 k f)
