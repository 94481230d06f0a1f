-- The grammar: which expressions there are, and which signs write each.
--   choice := or [ "if" or "else" choice ]
--   or     := and { "or" and }
--   and    := not { "and" not }
--   not    := "not" not | cmp
--   cmp    := sum [ ("==" | "!=" | "<" | "<=" | ">" | ">=") sum ]
--   sum    := term { ("+" | "-") term }
--   term   := unary { ("*" | "//" | "%") unary }
--   unary  := "-" unary | post
--   post   := atom { "[" choice "]" }
--   atom   := WHOLE | TEXT | "True" | "False" | "None" | NAME | "(" choice ")" | FUN "(" choice ")" | "range" "(" choice "," choice ")"
--           | "[" "]" | "[" choice { "," choice } "]" | "[" choice "for" NAME "in" or [ "if" or ] "]"
--           | "{" "}" | "{" KEY ":" choice { "," KEY ":" choice } "}"
--   FUN    := "len" | "sum" | "min" | "max" | "range" | "array"
-- The rules have the levels 0 (choice) to 8 (post and atom); operators of one level bind from the left. A KEY is any TEXT but `$i64`.
use Rattle.std.specs.Prelude.{◌≡◌, ◌≤◌, ◌<◌, ℕ, suc, max, true, List, [], ◌∷◌, ◌++◌, ⊤}
use Rattle.jl_lexer.specs.declared.operators.Function.TheVariants.{Range}
use Rattle.jl_lexer.specs.Words.{is_leaf, is_identifier, is_key}
use Rattle.jl_lexer.specs.Marks.{operator_word, prefix_word, if_word, else_word, for_word, in_word, own_level, left_level, prefix_level, function_word}
use Rattle.jl_lexer.specs.Trees.{Expression, tall, leaf, bracketed, before, between, choice, index, call, span, list, each, filtered, table, Members, no_members, member, Entries, no_entries, entry}

-- the rule that an expression is of
abbrev pub level : Expression → ℕ
level tall = 8
level (leaf w) = 8
level (bracketed e) = 8
level (before p e) = prefix_level p
level (between o a b) = own_level o
level (choice a c b) = 0
level (index a i) = 8
level (call f e) = 8
level (span a b) = 8
level (list ms) = 8
level (each e x a) = 8
level (filtered e x a c) = 8
level (table es) = 8

-- whether each part is of a rule that may stand there
abbrev mutual
  pub IsFormed : Expression → Type 0
  IsFormed tall = ⊥
  IsFormed (leaf w) = is_leaf w ≡ true
  IsFormed (bracketed e) = IsFormed e
  IsFormed (before p e) = (prefix_level p ≤ level e) × IsFormed e
  IsFormed (between o a b) = (left_level o ≤ level a) × IsFormed a × (own_level o < level b) × IsFormed b
  IsFormed (choice a c b) = (1 ≤ level a) × IsFormed a × (1 ≤ level c) × IsFormed c × IsFormed b
  IsFormed (index a i) = (8 ≤ level a) × IsFormed a × IsFormed i
  IsFormed (call f e) = IsFormed e
  IsFormed (span a b) = IsFormed a × IsFormed b
  IsFormed (list ms) = AreFormed ms
  IsFormed (each e x a) = IsFormed e × (is_identifier x ≡ true) × (1 ≤ level a) × IsFormed a
  IsFormed (filtered e x a c) = IsFormed e × (is_identifier x ≡ true) × (1 ≤ level a) × IsFormed a × (1 ≤ level c) × IsFormed c
  IsFormed (table es) = HaveFormed es

  pub AreFormed : Members → Type 0
  AreFormed no_members = ⊤
  AreFormed (member e ms) = IsFormed e × AreFormed ms

  pub HaveFormed : Entries → Type 0
  HaveFormed no_entries = ⊤
  HaveFormed (entry k e es) = (is_key k ≡ true) × IsFormed e × HaveFormed es

-- `(`, `)`, `[`, `]`, `{`, `}`, `,` and `:`
abbrev pub round_open : List ℕ
round_open = 40 ∷ []

abbrev pub round_close : List ℕ
round_close = 41 ∷ []

abbrev pub square_open : List ℕ
square_open = 91 ∷ []

abbrev pub square_close : List ℕ
square_close = 93 ∷ []

abbrev pub comma : List ℕ
comma = 44 ∷ []

abbrev pub curly_open : List ℕ
curly_open = 123 ∷ []

abbrev pub curly_close : List ℕ
curly_close = 125 ∷ []

abbrev pub colon : List ℕ
colon = 58 ∷ []

-- the signs that write an expression
abbrev mutual
  pub words_of : Expression → List (List ℕ)
  words_of tall = []
  words_of (leaf w) = w ∷ []
  words_of (bracketed e) = round_open ∷ (words_of e ++ round_close ∷ [])
  words_of (before p e) = prefix_word p ∷ words_of e
  words_of (between o a b) = words_of a ++ operator_word o ∷ words_of b
  words_of (choice a c b) = words_of a ++ if_word ∷ (words_of c ++ else_word ∷ words_of b)
  words_of (index a i) = words_of a ++ square_open ∷ (words_of i ++ square_close ∷ [])
  words_of (call f e) = function_word f ∷ round_open ∷ (words_of e ++ round_close ∷ [])
  words_of (span a b) = function_word Range ∷ round_open ∷ (words_of a ++ comma ∷ (words_of b ++ round_close ∷ []))
  words_of (list ms) = square_open ∷ (members_words ms ++ square_close ∷ [])
  words_of (each e x a) = square_open ∷ (words_of e ++ for_word ∷ x ∷ in_word ∷ (words_of a ++ square_close ∷ []))
  words_of (filtered e x a c) = square_open ∷ (words_of e ++ for_word ∷ x ∷ in_word ∷ (words_of a ++ if_word ∷ (words_of c ++ square_close ∷ [])))
  words_of (table es) = curly_open ∷ (entries_words es ++ curly_close ∷ [])

  pub members_words : Members → List (List ℕ)
  members_words no_members = []
  members_words (member e ms) = words_of e ++ more_members ms

  -- the same behind a first one
  pub more_members : Members → List (List ℕ)
  more_members no_members = []
  more_members (member e ms) = comma ∷ (words_of e ++ more_members ms)

  pub entries_words : Entries → List (List ℕ)
  entries_words no_entries = []
  entries_words (entry k e es) = k ∷ colon ∷ (words_of e ++ more_entries es)

  pub more_entries : Entries → List (List ℕ)
  more_entries no_entries = []
  more_entries (entry k e es) = comma ∷ k ∷ colon ∷ (words_of e ++ more_entries es)

-- how deep its brackets nest
abbrev mutual
  pub brackets : Expression → ℕ
  brackets tall = 0
  brackets (leaf w) = 0
  brackets (bracketed e) = suc (brackets e)
  brackets (before p e) = brackets e
  brackets (between o a b) = max (brackets a) (brackets b)
  brackets (choice a c b) = max (brackets a) (max (brackets c) (brackets b))
  brackets (index a i) = max (brackets a) (suc (brackets i))
  brackets (call f e) = suc (brackets e)
  brackets (span a b) = suc (max (brackets a) (brackets b))
  brackets (list ms) = suc (members_brackets ms)
  brackets (each e x a) = suc (max (brackets e) (brackets a))
  brackets (filtered e x a c) = suc (max (brackets e) (max (brackets a) (brackets c)))
  brackets (table es) = suc (entries_brackets es)

  pub members_brackets : Members → ℕ
  members_brackets no_members = 0
  members_brackets (member e ms) = max (brackets e) (members_brackets ms)

  pub entries_brackets : Entries → ℕ
  entries_brackets no_entries = 0
  entries_brackets (entry k e es) = max (brackets e) (entries_brackets es)

-- an expression that signs write
pub record Writes (ws : List (List ℕ)) (e : Expression) : Type 0 where
  pub formed : IsFormed e
  pub words : words_of e ≡ ws
