-- How the words of a command are read: options with their values, and plain words.
use Rattle.std.specs.Prelude.{ℕ, List, [], ◌∷◌, ◌++◌, Bool, true, false, ◌&&◌, ◌==◌, not, nat_eq, Option, Some, None, is_some, option_map, option_and_then, length, cond, drop, find}
use Rattle.std.specs.List.{list_any, starts_with, before_first, after_first}
use Rattle.std.specs.Str.{bytes_eq}

abbrev pub Text : Type 0
Text = List ℕ

-- an option and its value
pub record Use : Type 0 where
  pub name : Text
  pub value : Text

-- what the words of a command say: the value of each option that is given, and the plain words
pub record Said : Type 0 where
  pub value : Text → Option Text
  pub plain : List Text

-- between two words: the options given and the plain words so far, the option that waits for its
-- value, and whether `--` has come
pub record WordsRead : Type 0 where
  pub given : List Use
  pub plain : List Text
  pub waiting : Option Text
  pub is_closed : Bool

abbrev pub nothing_read : WordsRead
nothing_read = record { given = []; plain = []; waiting = None; is_closed = false }

-- a word that begins with `-` and has more than one character
abbrev pub is_flag : Text → Bool
is_flag [] = false
is_flag (b ∷ bs) = (b == 45) && not (length bs == 0)

-- the word `--`
abbrev pub is_dashes : Text → Bool
is_dashes word = bytes_eq word (45 ∷ 45 ∷ [])

-- what stands before the first `=`, and what stands behind it where there is one
abbrev pub name_and_value : Text → Text × Option Text
name_and_value body = (before_first (λ b. b == 61) body, cond (list_any (λ b. b == 61) body) (Some (after_first (λ b. b == 61) body)) None)

-- what stands behind a first `--`
abbrev pub behind_dashes : Text → Option Text
behind_dashes word = cond (starts_with nat_eq word (45 ∷ 45 ∷ [])) (Some (drop 2 word)) None

-- `--NAME` or `--NAME=VALUE`
abbrev pub spelled : Text → Option (Text × Option Text)
spelled word = option_map name_and_value (behind_dashes word)

abbrev pub is_given : Text → List Use → Bool
is_given name uses = list_any (λ u. bytes_eq u.name name) uses

-- the value that an option is given
abbrev pub value_among : List Use → Text → Option Text
value_among uses name = option_map (λ u. u.value) (find (λ u. bytes_eq u.name name) uses)

abbrev pub with_use : Text → Text → WordsRead → WordsRead
with_use name value r = record r { given = r.given ++ record { name = name; value = value } ∷ []; waiting = None }

abbrev pub with_plain : Text → WordsRead → WordsRead
with_plain word r = record r { plain = r.plain ++ word ∷ [] }

-- an option with its value, or one that waits for it
abbrev pub with_option : Text × Option Text → WordsRead → WordsRead
with_option (name, Some value) r = with_use name value r
with_option (name, None) r = record r { waiting = Some name }

-- an option that the command has is given once
abbrev pub option_met : List Text → WordsRead → Text × Option Text → Option WordsRead
option_met names r o = cond (list_any (λ n. bytes_eq n o.0) names && not (is_given o.0 r.given)) (Some (with_option o r)) None

-- a word where no option waits, before `--`
abbrev pub word_met : List Text → WordsRead → Text → Option WordsRead
word_met names r word =
    cond (is_dashes word) (Some (record r { is_closed = true }))
    (cond (is_flag word) (option_and_then (option_met names r) (spelled word)) (Some (with_plain word r)))

-- the value of the option that waits
abbrev pub value_met : Text → WordsRead → Text → Option WordsRead
value_met name r word = cond (is_flag word) None (Some (with_use name word r))

abbrev pub with_word_at : Option Text → Bool → List Text → WordsRead → Text → Option WordsRead
with_word_at (Some name) closed names r word = value_met name r word
with_word_at None true names r word = Some (with_plain word r)
with_word_at None false names r word = word_met names r word

-- after one more word, where the command has options of these names
abbrev pub with_word : List Text → WordsRead → Text → Option WordsRead
with_word names r word = with_word_at r.waiting r.is_closed names r word

-- after these words
abbrev pub with_words : List Text → WordsRead → List Text → Option WordsRead
with_words names r [] = Some r
with_words names r (word ∷ words) = option_and_then (λ s. with_words names s words) (with_word names r word)

-- no option waits at the end
abbrev pub without_waiting : WordsRead → Option WordsRead
without_waiting r = cond (is_some r.waiting) None (Some r)

abbrev pub said_by : WordsRead → Said
said_by r = record { value = value_among r.given; plain = r.plain }

-- what the words of a command say, where they are no wrong usage
abbrev pub said_by_words : List Text → List Text → Option Said
said_by_words names words = option_map said_by (option_and_then without_waiting (with_words names nothing_read words))
