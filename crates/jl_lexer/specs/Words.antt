-- Words: names, the reserved ones, and whole numbers.
use Rattle.std.specs.Prelude.{ℕ, ◌+◌, ◌-◌, ◌*◌, ◌^◌, Bool, true, false, not, ◌&&◌, ◌||◌, nat_lt, nat_eq, if◌then◌else◌, pos, List, [], ◌∷◌, length, Option, Some, None, option_map, codes}
use Rattle.std.specs.List.{list_all}
use Rattle.std.specs.Str.{bytes_eq, is_utf8}
use Rattle.jl_value.specs.Tree.{Tree, null, truth, whole, text}
use Rattle.jl_value.specs.Canonical.{array_key}
use Rattle.jl_text.specs.Texts.{is_name}
use Rattle.jl_lexer.specs.Signs.{is_digit}

-- `def`
unfoldable pub def_word : List ℕ
def_word = codes "def"

-- `def`, `if`, `else`, `for` and `in`
unfoldable pub is_form_word : List ℕ → Bool
is_form_word w =
    bytes_eq w (codes "def") || (bytes_eq w (codes "if") || (bytes_eq w (codes "else")
    || (bytes_eq w (codes "for") || bytes_eq w (codes "in"))))

-- `or`, `and`, `not`, `True`, `False` and `None`
unfoldable pub is_truth_word : List ℕ → Bool
is_truth_word w =
    bytes_eq w (codes "or") || (bytes_eq w (codes "and") || (bytes_eq w (codes "not")
    || (bytes_eq w (codes "True") || (bytes_eq w (codes "False") || bytes_eq w (codes "None")))))

-- `len`, `sum`, `min`, `max`, `range` and `array`
unfoldable pub is_function_word : List ℕ → Bool
is_function_word w =
    bytes_eq w (codes "len") || (bytes_eq w (codes "sum") || (bytes_eq w (codes "min")
    || (bytes_eq w (codes "max") || (bytes_eq w (codes "range") || bytes_eq w (codes "array")))))

abbrev pub is_reserved : List ℕ → Bool
is_reserved w = is_form_word w || (is_truth_word w || is_function_word w)

-- a name that is not reserved
abbrev pub is_identifier : List ℕ → Bool
is_identifier w = is_name w && not (is_reserved w)

-- the number that digits write behind a number
abbrev pub number_behind : ℕ → List ℕ → ℕ
number_behind n [] = n
number_behind n (d ∷ ds) = number_behind (n * 10 + (d - 48)) ds

-- whether a digit 0 is followed by anything
abbrev pub has_leading_zero : List ℕ → Bool
has_leading_zero [] = false
has_leading_zero (d ∷ ds) = nat_eq d 48 && nat_lt 0 (length ds)

-- digits with no leading zero, of a number below 2 ^ 63
abbrev pub is_number : List ℕ → Bool
is_number w = nat_lt 0 (length w) && (list_all is_digit w && (not (has_leading_zero w) && nat_lt (number_behind 0 w) (2 ^ 63)))

abbrev pub number_of : List ℕ → Option ℕ
number_of w = if is_number w then Some (number_behind 0 w) else None

-- what stands behind a `\`: `"`, `\`, `n` for a newline or `t` for a tab
abbrev pub escape_of : ℕ → Option ℕ
escape_of b = if nat_eq b 34 then Some 34 else (if nat_eq b 92 then Some 92 else (if nat_eq b 110 then Some 10 else (if nat_eq b 116 then Some 9 else None)))

-- a byte before what follows, where both are there
abbrev pub onto_rest : Option ℕ → Option (List ℕ) → Option (List ℕ)
onto_rest None rest = None
onto_rest (Some b) None = None
onto_rest (Some b) (Some bs) = Some (b ∷ bs)

-- nothing follows the closing quote
abbrev pub ended : List ℕ → Option (List ℕ)
ended [] = Some []
ended (b ∷ bs) = None

-- a byte that stands for itself: a space or above
abbrev pub plain_of : ℕ → Option ℕ
plain_of b = if nat_lt b 32 then None else Some b

-- the bytes that a quoted text stands for, up to its last quote
abbrev pub unquoted : Bool → List ℕ → Option (List ℕ)
unquoted escaped [] = None
unquoted true (b ∷ bs) = onto_rest (escape_of b) (unquoted false bs)
unquoted false (b ∷ bs) = if nat_eq b 34 then ended bs else (if nat_eq b 92 then unquoted true bs else onto_rest (plain_of b) (unquoted false bs))

-- what is in quotes
abbrev pub quoted_in : List ℕ → Option (List ℕ)
quoted_in [] = None
quoted_in (b ∷ bs) = if nat_eq b 34 then unquoted false bs else None

abbrev pub if_text : Option (List ℕ) → Option (List ℕ)
if_text None = None
if_text (Some s) = if is_utf8 s then Some s else None

-- the text that a word in quotes stands for
abbrev pub text_in : List ℕ → Option (List ℕ)
text_in w = if_text (quoted_in w)

-- a text that may be a key: `$i64` is the key of an array
abbrev pub if_key : Option (List ℕ) → Option (List ℕ)
if_key None = None
if_key (Some s) = if bytes_eq s array_key then None else Some s

-- the key that a word in quotes stands for
abbrev pub key_in : List ℕ → Option (List ℕ)
key_in w = if_key (text_in w)

abbrev pub is_some : Option (List ℕ) → Bool
is_some None = false
is_some (Some s) = true

abbrev pub is_key : List ℕ → Bool
is_key w = is_some (key_in w)

-- `True`, `False` and `None`
unfoldable pub true_word : List ℕ
true_word = codes "True"

unfoldable pub false_word : List ℕ
false_word = codes "False"

unfoldable pub none_word : List ℕ
none_word = codes "None"

-- the value of `True`, `False`, `None` or a text
abbrev pub named_constant : List ℕ → Option Tree
named_constant w = if bytes_eq w true_word then Some (truth true) else (if bytes_eq w false_word then Some (truth false) else (if bytes_eq w none_word then Some null else option_map text (text_in w)))

-- the value that a word writes: a whole number, a text, `True`, `False` or `None`
abbrev pub constant_of : List ℕ → Option Tree
constant_of w = if is_number w then Some (whole (pos (number_behind 0 w))) else named_constant w

abbrev pub is_there : Option Tree → Bool
is_there None = false
is_there (Some t) = true

-- a word that is an expression: a name or a value
abbrev pub is_leaf : List ℕ → Bool
is_leaf w = is_identifier w || is_there (constant_of w)
