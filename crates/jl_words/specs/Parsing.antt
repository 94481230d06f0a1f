-- The command that clap reads words with: an option for each name, and any number of plain words.
use Rattle.std.specs.Prelude.{◌≡◌, List, [], ◌∷◌, ◌++◌, Bool, true, false, Option, Some, None, option_map, codes, map}
use Rattle.std.specs.List.{list_any}
use Rattle.std.specs.Str.{bytes_eq}
use Rattle.clap.specs.Words.{App, Rule, new_app, new_rule, first_value, found_of, matched_of, raw_values}
use Rattle.clap.specs.declared.parser.matches.ArgMatches.{ArgMatches}
use Rattle.clap.specs.declared.builder.action.ArgAction.TheVariants.{Set, Append}
use Rattle.jl_words.specs.Reading.{Text, Use, Said}

-- the id of the plain words, which is no option's name
abbrev pub plain_id : Text
plain_id = codes "WORDS"

abbrev pub plain_rule : Rule
plain_rule = record (new_rule plain_id) { action = Some Append }

abbrev pub option_rule : Text → Rule
option_rule name = record (new_rule name) { action = Some Set; long = Some name }

-- the command with options of these names
abbrev pub app_with : List Text → App
app_with names = record {
  top = record ((new_app (codes "joblib")).top) { rules = plain_rule ∷ map option_rule names; no_binary_name = true; disable_help_flag = true };
  subs = [];
}

-- whether the command has an option of this name
abbrev pub has_option : Text → List Text → Bool
has_option name names = list_any (λ n. bytes_eq n name) names

-- no option has the id of the plain words
abbrev pub IsFree : List Text → Type 0
IsFree names = list_any (λ n. bytes_eq plain_id n) names ≡ false

-- plain words as clap has them, which tells none from no words
abbrev pub plain_values : List Text → Option (List Text)
plain_values [] = None
plain_values (w ∷ ws) = Some (w ∷ ws)

-- the plain words that clap found
abbrev pub plain_found : ArgMatches → Option (List Text)
plain_found m = option_map raw_values (matched_of (found_of m) plain_id)

-- clap found what the words say
pub record FoundAsSaid (names : List Text) (m : ArgMatches) (s : Said) : Type 0 where
  pub options : (n : Text) → has_option n names ≡ true → first_value (found_of m) n ≡ s.value n
  pub plain : plain_found m ≡ plain_values s.plain

-- the use of an option that has a value
abbrev pub use_from : Text → Option Text → List Use
use_from name None = []
use_from name (Some value) = record { name = name; value = value } ∷ []

-- no other option has a value
abbrev pub HasOnlyOptions : List Text → Said → Type 0
HasOnlyOptions names s = (n : Text) → has_option n names ≡ false → s.value n ≡ None

-- an App with these arguments behind its own
unfoldable pub with_rules : App → List Rule → App
with_rules a rs = record a { top = record a.top { rules = a.top.rules ++ rs } }
