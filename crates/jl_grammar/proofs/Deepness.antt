-- An expression whose brackets nest too deep is told to be so, whatever follows.
use Rattle.std.proofs.Common.{◌≡◌, ℕ, suc, ◌+◌, ◌<◌, ◌≤◌, false, List, [], ◌∷◌, ◌++◌, sym, ap, ◌∙◌}
use Rattle.std.proofs.Common.{arith, append_assoc, inl, inr}
use Rattle.std.specs.Prelude.{nat_lt}
use Rattle.std.proofs.lemmas.Bool.{cases_lt}
use Rattle.std.proofs.lemmas.List.{append-nil}
use Rattle.jl_lexer.specs.declared.operators.Function.TheVariants.{Range}
use Rattle.jl_grammar.specs.Frames.{Frame, Bracket, Behind, Operand, Condition, Otherwise, Element}
use Rattle.jl_grammar.specs.Frames.{Member, Bound, Listed, Keyed, Source, Filter}
use Rattle.jl_grammar.specs.declared.mode.Mode.TheVariants.{WantsOperand}
use Rattle.jl_lexer.specs.Marks.{operator_word, if_word, else_word, for_word, in_word}
use Rattle.jl_lexer.specs.Marks.{function_word}
use Rattle.jl_lexer.specs.Trees.{Expression, tall, leaf, bracketed, before, between, choice, index}
use Rattle.jl_lexer.specs.Trees.{call, span, list, each, filtered, table, Members, no_members}
use Rattle.jl_lexer.specs.Trees.{member, members_height, Entries, no_entries, entry, entries_height}
use Rattle.jl_lexer.specs.Trees.{height}
use Rattle.jl_grammar.specs.Grammar.{level, IsFormed, AreFormed, HaveFormed, words_of, more_members}
use Rattle.jl_grammar.specs.Grammar.{more_entries, brackets, members_brackets, entries_brackets}
use Rattle.jl_grammar.specs.Grammar.{round_open, round_close, square_open, square_close, curly_open}
use Rattle.jl_grammar.specs.Grammar.{curly_close, comma, colon}
use Rattle.jl_grammar.specs.Parser.{wanted, depth, with_bracket, at_table, Read, broken}
use Rattle.jl_grammar.specs.Parser.{nested_deep, follow, run, read_signs}
use Rattle.jl_grammar.proofs.Completeness.{own_le_left, spine, held, spine_atom, reads, complete}
use Rattle.jl_grammar.proofs.Completeness.{no_leaf_round, open_round, read_prefix, infix_read}
use Rattle.jl_grammar.proofs.Completeness.{if_read, else_read, square_read, nested_in, open_call}
use Rattle.jl_grammar.proofs.Completeness.{bound_read, open_square, comma_read, source_read}
use Rattle.jl_grammar.proofs.Completeness.{pick_read, open_curly, unkeyed_in, key_read, value_read}

-- what is not less is not told less
lt_false : (a b : ℕ) → b ≤ a → nat_lt a b ≡ false
lt_false a b h = grind arith

-- goes on where an operand is wanted
abbrev wanting : ℕ → List Frame → List (List ℕ) → Read
wanting room fs ws = run (λ e. e) room fs WantsOperand ws

-- a bracket that has no room is too deep
full : (room : ℕ) (f : Frame) (fs : List Frame) (ws : List (List ℕ)) → room ≤ depth fs
    → follow (with_bracket room f fs) (λ gs n. run (λ e. e) room gs n ws) ≡ nested_deep
full room f fs ws h = rw (lt_false (depth fs) room h)

-- so is `(`
full_round : (room : ℕ) (fs : List Frame) (ws : List (List ℕ)) → room ≤ depth fs
    → wanting room fs (round_open ∷ ws) ≡ nested_deep
full_round room fs ws h = rw no_leaf_round (full room Bracket fs ws h)

-- and `[` behind an operand
full_square : (room : ℕ) (a : Expression) (fs : List Frame) (ws : List (List ℕ)) → IsFormed a
    → 8 ≤ level a → room ≤ depth fs → held room (spine fs a) (square_open ∷ ws) ≡ nested_deep
full_square room a fs ws h k low =
    ap (λ r. held room r (square_open ∷ ws)) (spine_atom a fs h k) ∙ full room (Element a) fs ws low

-- and `{`
full_curly : (room : ℕ) (fs : List Frame) (ws : List (List ℕ)) → room ≤ depth fs
    → follow (at_table room fs) (λ gs n. run (λ e. e) room gs n ws) ≡ nested_deep
full_curly room fs ws h = rw (lt_false (depth fs) room h)

mutual
  -- a bracket that has no room is met
  pub deepens : (e : Expression) (room : ℕ) (fs : List Frame) (rest : List (List ℕ)) → IsFormed e
      → wanted fs ≤ level e → depth fs ≤ room → room < depth fs + brackets e
      → run (λ e. e) room fs WantsOperand (words_of e ++ rest) ≡ nested_deep
  deepens tall room fs rest h k low deep = absurd h
  deepens (leaf w) room fs rest h k low deep = absurd (omega arith)
  deepens (bracketed e) room fs rest h k low deep =
      ap (λ ws. wanting room fs (round_open ∷ ws))
      (append_assoc (words_of e) (round_close ∷ []) rest)
      ∙ elim (cases_lt (depth fs) room) [
        | inl some ↦ open_round room fs (words_of e ++ round_close ∷ rest) some
            ∙ deepens e room (Bracket ∷ fs) (round_close ∷ rest) h (omega arith) (omega arith)
            (omega arith)
        | inr none ↦ full_round room fs (words_of e ++ round_close ∷ rest) none
      ]
  deepens (before p e) room fs rest h k low deep =
      read_prefix room p fs (words_of e ++ rest) k
      ∙ deepens e room (Behind p ∷ fs) rest h.1 h.0 low deep
  deepens (between o a b) room fs rest h k low deep =
      let high = h.0 in let more = h.2 in let left = own_le_left o in
      ap (λ ws. wanting room fs ws) (append_assoc (words_of a) (operator_word o ∷ words_of b) rest)
      ∙ elim (cases_lt room (depth fs + brackets a)) [
        | inl over ↦
            deepens a room fs (operator_word o ∷ (words_of b ++ rest)) h.1 (omega arith) low over
        | inr under ↦
            reads a room fs (operator_word o ∷ (words_of b ++ rest)) h.1 (omega arith) under
            ∙ infix_read room o a fs (words_of b ++ rest) h.1 h.0 k
            ∙ deepens b room (Operand o a ∷ fs) rest h.3 (omega arith) low (omega arith)
      ]
  deepens (choice a c b) room fs rest h k low deep =
      let more = h.0 in let condition = h.2 in
      ap (λ ws. wanting room fs ws)
      (append_assoc (words_of a) (if_word ∷ (words_of c ++ else_word ∷ words_of b)) rest)
      ∙ elim (cases_lt room (depth fs + brackets a)) [
        | inl over ↦
            deepens a room fs (if_word ∷ ((words_of c ++ else_word ∷ words_of b) ++ rest)) h.1
            (omega arith) low over
        | inr under ↦
            reads a room fs (if_word ∷ ((words_of c ++ else_word ∷ words_of b) ++ rest)) h.1
            (omega arith) under
            ∙ if_read room a fs ((words_of c ++ else_word ∷ words_of b) ++ rest) h.1 h.0 k
            ∙ ap (λ ws. wanting room (Condition a ∷ fs) ws)
            (append_assoc (words_of c) (else_word ∷ words_of b) rest)
            ∙ elim (cases_lt room (depth fs + brackets c)) [
              | inl also ↦
                  deepens c room (Condition a ∷ fs) (else_word ∷ (words_of b ++ rest)) h.3 h.2 low
                  also
              | inr still ↦
                  reads c room (Condition a ∷ fs) (else_word ∷ (words_of b ++ rest)) h.3 h.2 still
                  ∙ else_read room a c fs (words_of b ++ rest) h.3 h.2
                  ∙ deepens b room (Otherwise a c ∷ fs) rest h.4 (omega arith) low (omega arith)
            ]
      ]
  deepens (index a i) room fs rest h k low deep =
      let high = h.0 in
      ap (λ ws. wanting room fs ws)
      (append_assoc (words_of a) (square_open ∷ (words_of i ++ square_close ∷ [])) rest)
      ∙ elim (cases_lt room (depth fs + brackets a)) [
        | inl over ↦
            deepens a room fs (square_open ∷ ((words_of i ++ square_close ∷ []) ++ rest)) h.1
            (omega arith) low over
        | inr under ↦
            reads a room fs (square_open ∷ ((words_of i ++ square_close ∷ []) ++ rest)) h.1
            (omega arith) under
            ∙ elim (cases_lt (depth fs) room) [
              | inl some ↦
                  square_read room a fs ((words_of i ++ square_close ∷ []) ++ rest) h.1 h.0 some
                  ∙ ap (λ ws. wanting room (Element a ∷ fs) ws)
                  (append_assoc (words_of i) (square_close ∷ []) rest)
                  ∙ deepens i room (Element a ∷ fs) (square_close ∷ rest) h.2 (omega arith)
                  (omega arith) (omega arith)
              | inr none ↦
                  full_square room a fs ((words_of i ++ square_close ∷ []) ++ rest) h.1 h.0 none
            ]
      ]
  deepens (call f e) room fs rest h k low deep =
      ap (λ ws. wanting room fs (function_word f ∷ round_open ∷ ws))
      (append_assoc (words_of e) (round_close ∷ []) rest)
      ∙ open_call room f fs (words_of e ++ round_close ∷ rest)
      ∙ elim (cases_lt (depth fs) room) [
        | inl some ↦ nested_in room (Member f) fs (words_of e ++ round_close ∷ rest) some
            ∙ deepens e room (Member f ∷ fs) (round_close ∷ rest) h (omega arith) (omega arith)
            (omega arith)
        | inr none ↦ full room (Member f) fs (words_of e ++ round_close ∷ rest) none
      ]
  deepens (span a b) room fs rest h k low deep =
      ap (λ ws. wanting room fs (function_word Range ∷ round_open ∷ ws))
      (append_assoc (words_of a) (comma ∷ (words_of b ++ round_close ∷ [])) rest)
      ∙ open_call room Range fs (words_of a ++ comma ∷ ((words_of b ++ round_close ∷ []) ++ rest))
      ∙ elim (cases_lt (depth fs) room) [
        | inr none ↦
            full room (Member Range) fs
            (words_of a ++ comma ∷ ((words_of b ++ round_close ∷ []) ++ rest)) none
        | inl some ↦
            nested_in room (Member Range) fs
            (words_of a ++ comma ∷ ((words_of b ++ round_close ∷ []) ++ rest)) some
            ∙ elim (cases_lt room (suc (depth fs) + brackets a)) [
              | inl over ↦
                  deepens a room (Member Range ∷ fs)
                  (comma ∷ ((words_of b ++ round_close ∷ []) ++ rest)) h.0 (omega arith)
                  (omega arith) over
              | inr under ↦
                  reads a room (Member Range ∷ fs)
                  (comma ∷ ((words_of b ++ round_close ∷ []) ++ rest)) h.0 (omega arith) under
                  ∙ bound_read room a fs ((words_of b ++ round_close ∷ []) ++ rest) h.0
                  ∙ ap (λ ws. wanting room (Bound a ∷ fs) ws)
                  (append_assoc (words_of b) (round_close ∷ []) rest)
                  ∙ deepens b room (Bound a ∷ fs) (round_close ∷ rest) h.1 (omega arith)
                  (omega arith) (omega arith)
            ]
      ]
  deepens (list no_members) room fs rest h k low deep =
      open_square room fs (square_close ∷ rest)
      ∙ full room (Listed []) fs (square_close ∷ rest) (omega arith)
  deepens (list (member e ms)) room fs rest h k low deep =
      ap (λ ws. wanting room fs (square_open ∷ ws))
      (append_assoc (words_of e ++ more_members ms) (square_close ∷ []) rest
      ∙ append_assoc (words_of e) (more_members ms) (square_close ∷ rest))
      ∙ open_square room fs (words_of e ++ (more_members ms ++ square_close ∷ rest))
      ∙ elim (cases_lt (depth fs) room) [
        | inr none ↦
            full room (Listed []) fs (words_of e ++ (more_members ms ++ square_close ∷ rest)) none
        | inl some ↦
            nested_in room (Listed []) fs (words_of e ++ (more_members ms ++ square_close ∷ rest))
            some
            ∙ elim (cases_lt room (suc (depth fs) + brackets e)) [
              | inl over ↦
                  deepens e room (Listed [] ∷ fs) (more_members ms ++ square_close ∷ rest) h.0
                  (omega arith) (omega arith) over
              | inr under ↦
                  reads e room (Listed [] ∷ fs) (more_members ms ++ square_close ∷ rest) h.0
                  (omega arith) under
                  ∙ deepens_more ms room [] e fs rest h.0 h.1 some (omega arith)
            ]
      ]
  deepens (each e x a) room fs rest h k low deep =
      let some_level = h.2 in
      ap (λ ws. wanting room fs (square_open ∷ ws))
      (append_assoc (words_of e) (for_word ∷ x ∷ in_word ∷ (words_of a ++ square_close ∷ [])) rest)
      ∙ open_square room fs
      (words_of e ++ for_word ∷ x ∷ in_word ∷ ((words_of a ++ square_close ∷ []) ++ rest))
      ∙ elim (cases_lt (depth fs) room) [
        | inr none ↦
            full room (Listed []) fs
            (words_of e ++ for_word ∷ x ∷ in_word ∷ ((words_of a ++ square_close ∷ []) ++ rest))
            none
        | inl some ↦
            nested_in room (Listed []) fs
            (words_of e ++ for_word ∷ x ∷ in_word ∷ ((words_of a ++ square_close ∷ []) ++ rest))
            some
            ∙ elim (cases_lt room (suc (depth fs) + brackets e)) [
              | inl over ↦
                  deepens e room (Listed [] ∷ fs)
                  (for_word ∷ x ∷ in_word ∷ ((words_of a ++ square_close ∷ []) ++ rest)) h.0
                  (omega arith) (omega arith) over
              | inr under ↦
                  reads e room (Listed [] ∷ fs)
                  (for_word ∷ x ∷ in_word ∷ ((words_of a ++ square_close ∷ []) ++ rest)) h.0
                  (omega arith) under
                  ∙ source_read room e x fs ((words_of a ++ square_close ∷ []) ++ rest) h.0 h.1 some
                  ∙ ap (λ ws. wanting room (Source e x ∷ fs) ws)
                  (append_assoc (words_of a) (square_close ∷ []) rest)
                  ∙ deepens a room (Source e x ∷ fs) (square_close ∷ rest) h.3 h.2 (omega arith)
                  (omega arith)
            ]
      ]
  deepens (filtered e x a c) room fs rest h k low deep =
      ap (λ ws. wanting room fs (square_open ∷ ws))
      (append_assoc (words_of e)
      (for_word ∷ x ∷ in_word ∷ (words_of a ++ if_word ∷ (words_of c ++ square_close ∷ []))) rest)
      ∙ open_square room fs
      (words_of e ++ for_word ∷ x ∷ in_word
      ∷ ((words_of a ++ if_word ∷ (words_of c ++ square_close ∷ [])) ++ rest))
      ∙ elim (cases_lt (depth fs) room) [
        | inr none ↦
            full room (Listed []) fs
            (words_of e ++ for_word ∷ x ∷ in_word
            ∷ ((words_of a ++ if_word ∷ (words_of c ++ square_close ∷ [])) ++ rest)) none
        | inl some ↦
            nested_in room (Listed []) fs
            (words_of e ++ for_word ∷ x ∷ in_word
            ∷ ((words_of a ++ if_word ∷ (words_of c ++ square_close ∷ [])) ++ rest)) some
            ∙ elim (cases_lt room (suc (depth fs) + brackets e)) [
              | inl over ↦
                  deepens e room (Listed [] ∷ fs)
                  (for_word ∷ x ∷ in_word
                  ∷ ((words_of a ++ if_word ∷ (words_of c ++ square_close ∷ [])) ++ rest)) h.0
                  (omega arith) (omega arith) over
              | inr under ↦
                  reads e room (Listed [] ∷ fs)
                  (for_word ∷ x ∷ in_word
                  ∷ ((words_of a ++ if_word ∷ (words_of c ++ square_close ∷ [])) ++ rest)) h.0
                  (omega arith) under
                  ∙ source_read room e x fs
                  ((words_of a ++ if_word ∷ (words_of c ++ square_close ∷ [])) ++ rest) h.0 h.1 some
                  ∙ ap (λ ws. wanting room (Source e x ∷ fs) ws)
                  (append_assoc (words_of a) (if_word ∷ (words_of c ++ square_close ∷ [])) rest)
                  ∙ elim (cases_lt room (suc (depth fs) + brackets a)) [
                    | inl also ↦
                        deepens a room (Source e x ∷ fs)
                        (if_word ∷ ((words_of c ++ square_close ∷ []) ++ rest)) h.3 h.2
                        (omega arith) also
                    | inr still ↦
                        reads a room (Source e x ∷ fs)
                        (if_word ∷ ((words_of c ++ square_close ∷ []) ++ rest)) h.3 h.2 still
                        ∙ pick_read room e a x fs ((words_of c ++ square_close ∷ []) ++ rest) h.3
                        h.2
                        ∙ ap (λ ws. wanting room (Filter e x a ∷ fs) ws)
                        (append_assoc (words_of c) (square_close ∷ []) rest)
                        ∙ deepens c room (Filter e x a ∷ fs) (square_close ∷ rest) h.5 h.4
                        (omega arith) (omega arith)
                  ]
            ]
      ]
  deepens (table no_entries) room fs rest h k low deep =
      open_curly room fs (curly_close ∷ rest)
      ∙ full_curly room fs (curly_close ∷ rest) (omega arith)
  deepens (table (entry w e es)) room fs rest h k low deep =
      ap (λ ws. wanting room fs (curly_open ∷ w ∷ colon ∷ ws))
      (append_assoc (words_of e ++ more_entries es) (curly_close ∷ []) rest
      ∙ append_assoc (words_of e) (more_entries es) (curly_close ∷ rest))
      ∙ open_curly room fs (w ∷ colon ∷ (words_of e ++ (more_entries es ++ curly_close ∷ rest)))
      ∙ elim (cases_lt (depth fs) room) [
        | inr none ↦
            full_curly room fs (w ∷ colon ∷ (words_of e ++ (more_entries es ++ curly_close ∷ rest)))
            none
        | inl some ↦
            unkeyed_in room fs (w ∷ colon ∷ (words_of e ++ (more_entries es ++ curly_close ∷ rest)))
            some
            ∙ key_read room [] w fs (words_of e ++ (more_entries es ++ curly_close ∷ rest)) h.0 some
            ∙ elim (cases_lt room (suc (depth fs) + brackets e)) [
              | inl over ↦
                  deepens e room (Keyed [] w ∷ fs) (more_entries es ++ curly_close ∷ rest) h.1
                  (omega arith) (omega arith) over
              | inr under ↦
                  reads e room (Keyed [] w ∷ fs) (more_entries es ++ curly_close ∷ rest) h.1
                  (omega arith) under
                  ∙ deepens_entries es room [] w e fs rest h.1 h.2 some (omega arith)
            ]
      ]

  -- the same behind the first member of a list
  deepens_more : (ms : Members) (room : ℕ) (es : List Expression) (e : Expression) (fs : List Frame)
      (rest : List (List ℕ)) → IsFormed e → AreFormed ms → depth fs < room
      → room < suc (depth fs) + members_brackets ms
      → held room (spine (Listed es ∷ fs) e) (more_members ms ++ square_close ∷ rest) ≡ nested_deep
  deepens_more no_members room es e fs rest h k low deep = absurd (omega arith)
  deepens_more (member a ms) room es e fs rest h k low deep =
      ap (λ ws. held room (spine (Listed es ∷ fs) e) (comma ∷ ws))
      (append_assoc (words_of a) (more_members ms) (square_close ∷ rest))
      ∙ comma_read room es e fs (words_of a ++ (more_members ms ++ square_close ∷ rest)) h
      ∙ elim (cases_lt room (suc (depth fs) + brackets a)) [
        | inl over ↦
            deepens a room (Listed (es ++ e ∷ []) ∷ fs) (more_members ms ++ square_close ∷ rest) k.0
            (omega arith) (omega arith) over
        | inr under ↦
            reads a room (Listed (es ++ e ∷ []) ∷ fs) (more_members ms ++ square_close ∷ rest) k.0
            (omega arith) under
            ∙ deepens_more ms room (es ++ e ∷ []) a fs rest k.0 k.1 low (omega arith)
      ]

  -- the same behind the first member of a table
  deepens_entries : (es : Entries) (room : ℕ) (ps : List (List ℕ × Expression)) (k : List ℕ)
      (e : Expression) (fs : List Frame) (rest : List (List ℕ)) → IsFormed e → HaveFormed es
      → depth fs < room → room < suc (depth fs) + entries_brackets es
      → held room (spine (Keyed ps k ∷ fs) e) (more_entries es ++ curly_close ∷ rest) ≡ nested_deep
  deepens_entries no_entries room ps k e fs rest h f low deep = absurd (omega arith)
  deepens_entries (entry w a es) room ps k e fs rest h f low deep =
      ap (λ ws. held room (spine (Keyed ps k ∷ fs) e) (comma ∷ w ∷ colon ∷ ws))
      (append_assoc (words_of a) (more_entries es) (curly_close ∷ rest))
      ∙ value_read room ps k e fs
      (w ∷ colon ∷ (words_of a ++ (more_entries es ++ curly_close ∷ rest))) h
      ∙ key_read room (ps ++ (k, e) ∷ []) w fs
      (words_of a ++ (more_entries es ++ curly_close ∷ rest)) f.0 low
      ∙ elim (cases_lt room (suc (depth fs) + brackets a)) [
        | inl over ↦
            deepens a room (Keyed (ps ++ (k, e) ∷ []) w ∷ fs)
            (more_entries es ++ curly_close ∷ rest) f.1 (omega arith) (omega arith) over
        | inr under ↦
            reads a room (Keyed (ps ++ (k, e) ∷ []) w ∷ fs) (more_entries es ++ curly_close ∷ rest)
            f.1 (omega arith) under
            ∙ deepens_entries es room (ps ++ (k, e) ∷ []) w a fs rest f.1 f.2 low (omega arith)
      ]

-- The signs of an expression whose brackets have no room are told too deep.
pub too_deep : (room : ℕ) (e : Expression) → IsFormed e → room < brackets e
    → run (λ e. e) room [] WantsOperand (words_of e) ≡ nested_deep
too_deep room e h deep =
    ap (λ ws. run (λ e. e) room [] WantsOperand ws) (sym (append-nil (words_of e)))
    ∙ deepens e room [] [] h (omega arith) (omega arith) (omega arith)

-- brackets nest no deeper than the tree is high
mutual
  pub brackets_low : (e : Expression) → brackets e ≤ height e
  brackets_low tall = omega arith
  brackets_low (leaf w) = omega arith
  brackets_low (bracketed e) = let x = brackets_low e in omega arith
  brackets_low (before p e) = let x = brackets_low e in omega arith
  brackets_low (between o a b) = let x = brackets_low a in let y = brackets_low b in omega arith
  brackets_low (choice a c b) = let x = brackets_low a in let y = brackets_low b in
      let z = brackets_low c in omega arith
  brackets_low (index a i) = let x = brackets_low a in let y = brackets_low i in omega arith
  brackets_low (call f e) = let x = brackets_low e in omega arith
  brackets_low (span a b) = let x = brackets_low a in let y = brackets_low b in omega arith
  brackets_low (list ms) = let x = members_low ms in omega arith
  brackets_low (each e v a) = let x = brackets_low e in let y = brackets_low a in omega arith
  brackets_low (filtered e v a c) = let x = brackets_low e in let y = brackets_low a in
      let z = brackets_low c in omega arith
  brackets_low (table es) = let x = entries_low es in omega arith

  -- those of the members of a list
  members_low : (ms : Members) → members_brackets ms ≤ members_height ms
  members_low no_members = omega arith
  members_low (member e ms) = let x = brackets_low e in let y = members_low ms in omega arith

  -- those of the values of a table
  entries_low : (es : Entries) → entries_brackets es ≤ entries_height es
  entries_low no_entries = omega arith
  entries_low (entry k e es) = let x = brackets_low e in let y = entries_low es in omega arith

-- signs that an expression writes are not told to be broken
pub not_broken : (ws : List (List ℕ)) (e : Expression) → IsFormed e → words_of e ≡ ws
    → read_signs ws ≡ broken → ⊥
not_broken ws e f w b = elim (cases_lt 128 (brackets e)) [
  | inl deep ↦ let x = ap read_signs (sym w) ∙ too_deep 128 e f deep in cc
  | inr room ↦ let x = ap read_signs (sym w) ∙ complete 128 e f room in cc
]
