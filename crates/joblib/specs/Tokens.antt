-- The token of a run: what a first word gives, else the environment, else the moment.
use Rattle.std.specs.Prelude.{◌≡◌, ℕ, List, [], ◌∷◌, drop, ◌++◌, Option, None, Some, IsTrue, codes, false, ◌&&◌, nat_le, length, if◌then◌else◌}
use Rattle.std.specs.Fmt.{digits}
use Rattle.jl_text.specs.Texts.{is_token}

-- how a word that gives a token begins
abbrev pub token_flag : List ℕ
token_flag = codes "--token="

-- the word gives this token
pub record GivesToken (word token : List ℕ) : Type 0 where
  pub flag : word ≡ token_flag ++ token
  pub form : IsTrue (is_token token)

-- what a word gives: this token, or none
abbrev pub Gives : List ℕ → Option (List ℕ) → Type 0
Gives word (Some token) = GivesToken word token
Gives word None = (token : List ℕ) → GivesToken word token → ⊥

-- what the first of a program's words gives
abbrev pub FirstGives : List (List ℕ) → Option (List ℕ) → Type 0
FirstGives [] given = given ≡ None
FirstGives (word ∷ rest) given = Gives word given

-- the words that are left for a run, where its first gave this token
abbrev pub own_of : Option (List ℕ) → List (List ℕ) → List (List ℕ)
own_of None words = words
own_of (Some token) words = drop 1 words

-- `t` and the moment, in lower-case hexadecimal
abbrev pub moment_token : ℕ → List ℕ
moment_token moment = 116 ∷ digits 16 false moment

-- the variable's text, where it is a token of at most 36, or else this
abbrev pub variable_or : List ℕ → Option (List ℕ) → List ℕ
variable_or token None = token
variable_or token (Some text) = if is_token text && nat_le (length text) 36 then text else token

-- the token that was given, else the variable's, else the moment's
abbrev pub token_of : Option (List ℕ) → Option (List ℕ) → ℕ → List ℕ
token_of (Some token) variable moment = token
token_of None variable moment = variable_or (moment_token moment) variable

-- the token that was given, else one of some variable's text, or none, and of some moment
pub record IsTokenOf (given : Option (List ℕ)) (token : List ℕ) : Type 0 where
  pub variable : Option (List ℕ)
  pub moment : ℕ
  pub chosen : token ≡ token_of given variable moment
