-- The canonical text is what `serde_json` writes, with no space, for the value as JSON data.
use Rattle.std.proofs.Common.{◌≡◌, ℤ, pos, negsuc, Bool, true, false, List, [], ◌∷◌, ◌++◌, refl, sym, ap, ap₂, ◌∙◌}
use Rattle.json.specs.Print.{quoted}
use Rattle.json.specs.Print.{print}
use Rattle.serde_json.proofs.Texts.{print-outline}
use Rattle.jl_value.specs.Tokens.{tokens_of}
use Rattle.serde_json.specs.Written as written
use Rattle.serde_json.specs.Written.{compact_text, number_text}
use Rattle.serde_json.specs.Find.{of_integer}
use Rattle.std.specs.Fmt.{signed_decimal}
use Rattle.jl_value.specs.Tree.{Tree, null, truth, whole, text, list, table, numbers, Items, no_items, item, Members, no_members, member}
use Rattle.jl_value.specs.Canonical.{array_key, comma_if, numbers_text, text_of, items_text, members_text, numbers_json, json_of, items_json, members_json}

pub whole_text : (z : ℤ) → signed_decimal z ≡ number_text (of_integer z)
whole_text (pos n) = refl
whole_text (negsuc n) = refl

pub wholes_text : (later : Bool) (zs : List ℤ) → numbers_text later zs ≡ written.items_text later (numbers_json zs)
wholes_text later [] = refl
wholes_text later (z ∷ zs) = ap₂ (λ s rest. comma_if later ++ (s ++ rest)) (whole_text z) (wholes_text true zs)

mutual
  pub text_is : (t : Tree) → text_of t ≡ compact_text (json_of t)
  text_is null = refl
  text_is (truth true) = refl
  text_is (truth false) = refl
  text_is (whole z) = whole_text z
  text_is (text s) = refl
  text_is (list ts) = ap (λ s. 91 ∷ s) (items_text_is false ts)
  text_is (table ms) = ap (λ s. 123 ∷ s) (members_text_is false ms)
  text_is (numbers zs) = ap (λ s. 123 ∷ (quoted array_key ++ 58 ∷ (91 ∷ (s ++ 125 ∷ [])))) (wholes_text false zs)

  pub items_text_is : (later : Bool) (ts : Items) → items_text later ts ≡ written.items_text later (items_json ts)
  items_text_is later no_items = refl
  items_text_is later (item t ts) = ap₂ (λ s rest. comma_if later ++ (s ++ rest)) (text_is t) (items_text_is true ts)

  pub members_text_is : (later : Bool) (ms : Members) → members_text later ms ≡ written.members_text later (members_json ms)
  members_text_is later no_members = refl
  members_text_is later (member k t ms) = ap₂ (λ s rest. comma_if later ++ (quoted k ++ 58 ∷ (s ++ rest))) (text_is t) (members_text_is true ms)

pub printed : (t : Tree) → print (tokens_of t) ≡ text_of t
printed t = print-outline (json_of t) ∙ sym (text_is t)
