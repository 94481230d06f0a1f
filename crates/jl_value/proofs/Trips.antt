-- A canonical text is read back as its value.
use Rattle.std.proofs.Common.{◌≡◌, ◌≢◌, ℕ, zero, suc, ◌+◌, ◌^◌, ◌<◌, ◌≤◌, ℤ, pos, negsuc, Bool, true, false, List, [], ◌∷◌, ◌++◌, Option, Some, None, option_map, option_and_then, Ordering, Less, Equal, Greater, bytes_eq, refl, sym, ap, ◌∙◌, subst, arith, append-nil, lt-ltb, ne_eqb, nat_cmp, is_eq}
use Rattle.std.specs.Prelude.{Ok, Err}
use Rattle.std.proofs.lemmas.Cmp.{nat_list_cmp_total}
use Rattle.std.proofs.lemmas.Map.Text.{is_eq-slice_cmp}
use Rattle.std.proofs.lemmas.Slice.Eq.{bytes_eq-Decides}
use Rattle.std.specs.Cmp.Lexicographic.{slice_cmp}
use Rattle.std.specs.List.{AllByRecursion}
use Rattle.std.specs.List.Sorted.{IsStrictlySortedBy}
use Rattle.std.specs.Ordering.{match_ordering, ordering_reverse}
use lib.Signed.{mag}
use Rattle.json.specs.Token.{Token}
use Rattle.json.specs.Lex.{tokens}
use Rattle.json.specs.Json as grammar
use Rattle.json.specs.Print.{IsNumber}
use Rattle.json.specs.Tree.{json_tokens, depth, items_depth, members_depth, HasNumbers, ItemsHaveNumbers, MembersHaveNumbers}
use Rattle.json.proofs.Printed.Tokens.{tokens-print}
use Rattle.json.proofs.Printed.Trees.{ArePrintable-json_tokens, value-json_tokens}
use Rattle.json.proofs.Printed.Decimals.{IsNumber-signed_decimal}
use Rattle.serde_json.specs.Data as json
use Rattle.serde_json.specs.Data.{put}
use Rattle.serde_json.specs.Find.{of_integer, as_i64, get_member}
use Rattle.serde_json.specs.Read.{number_of, of_json, of_items, of_members, read, max_depth}
use Rattle.serde_json.specs.Written.{number_text, outline, items_outline, members_outline}
use Rattle.serde_json.proofs.Numbers.{number_of-decimal, number_of-negative}
use Rattle.serde_json.proofs.Texts.{print-outline}
use Rattle.jl_value.specs.declared.fault.ValueFault.TheVariants.{NotJson}
use Rattle.jl_value.specs.Tree.{Tree, null, truth, whole, text, list, table, numbers, Items, no_items, item, Members, no_members, member, nesting, items_nesting, members_nesting}
use Rattle.jl_value.specs.Canonical.{array_key, text_of, numbers_json, json_of, items_json, members_json}
use Rattle.jl_value.specs.Reading.{Read, mapped, then', or_fault, wholes_in, walk, walk_items, walk_members, read_tree}
use Rattle.jl_value.specs.Proper.{FitsI64, AllFitI64, keys, IsProper, AreProper, HasProper}
use Rattle.jl_value.proofs.Texts.{whole_text, text_is}

abbrev whole_of : Option (grammar.Json × List Token) → Option json.Data
whole_of o = option_and_then of_json (option_and_then (λ p. grammar.if_last p.0 p.1) o)

-- ---- numbers

mag_small : (z : ℤ) → FitsI64 z → mag z < 2 ^ 63
mag_small (pos n) h = h
mag_small (negsuc n) h = h

number_printable : (z : ℤ) → FitsI64 z → IsNumber (number_text (of_integer z))
number_printable z h = subst IsNumber (whole_text z) (IsNumber-signed_decimal z (mag_small z h))

number_back : (z : ℤ) → FitsI64 z → number_of (number_text (of_integer z)) ≡ Some (of_integer z)
number_back (pos n) h = number_of-decimal n (omega arith)
number_back (negsuc n) h = number_of-negative n h

as_whole : (z : ℤ) → FitsI64 z → as_i64 (of_integer z) ≡ Some z
as_whole (pos n) h = rw (lt-ltb _ _ h)
as_whole (negsuc n) h = refl

wholes_back : (zs : List ℤ) → AllFitI64 zs → wholes_in (numbers_json zs) ≡ Some zs
wholes_back [] h = refl
wholes_back (z ∷ zs) h = rw (as_whole z h.0, wholes_back zs h.1)

-- ---- the tokens of the text

numbers_have : (zs : List ℤ) → AllFitI64 zs → ItemsHaveNumbers (items_outline (numbers_json zs))
numbers_have [] h = tt
numbers_have (z ∷ zs) h = (number_printable z h.0, numbers_have zs h.1)

mutual
  has_numbers : (t : Tree) → IsProper t → HasNumbers (outline (json_of t))
  has_numbers null h = tt
  has_numbers (truth b) h = tt
  has_numbers (whole z) h = number_printable z h
  has_numbers (text s) h = tt
  has_numbers (list ts) h = items_have ts h
  has_numbers (table ms) h = members_have ms h.1
  has_numbers (numbers zs) h = (numbers_have zs h, tt)

  items_have : (ts : Items) → AreProper ts → ItemsHaveNumbers (items_outline (items_json ts))
  items_have no_items h = tt
  items_have (item t ts) h = (has_numbers t h.0, items_have ts h.1)

  members_have : (ms : Members) → HasProper ms → MembersHaveNumbers (members_outline (members_json ms))
  members_have no_members h = tt
  members_have (member k t ms) h = (has_numbers t h.1, members_have ms h.2)

pub tokens_of_text : (t : Tree) → IsProper t → tokens (text_of t) ≡ json_tokens (outline (json_of t))
tokens_of_text t h = ap tokens (text_is t ∙ sym (print-outline (json_of t))) ∙ tokens-print _ (ArePrintable-json_tokens (outline (json_of t)) (has_numbers t h))

numbers_depth : (zs : List ℤ) → items_depth (items_outline (numbers_json zs)) ≡ 0
numbers_depth [] = refl
numbers_depth (z ∷ zs) = let rest = numbers_depth zs in omega arith

mutual
  outline_depth : (t : Tree) → depth (outline (json_of t)) ≤ nesting t
  outline_depth null = omega arith
  outline_depth (truth b) = omega arith
  outline_depth (whole z) = omega arith
  outline_depth (text s) = omega arith
  outline_depth (list ts) = let rest = items_outline_depth ts in omega arith
  outline_depth (table ms) = let rest = members_outline_depth ms in omega arith
  outline_depth (numbers zs) = let none = numbers_depth zs in omega arith

  items_outline_depth : (ts : Items) → items_depth (items_outline (items_json ts)) ≤ items_nesting ts
  items_outline_depth no_items = omega arith
  items_outline_depth (item t ts) = let here = outline_depth t in let rest = items_outline_depth ts in omega arith

  members_outline_depth : (ms : Members) → members_depth (members_outline (members_json ms)) ≤ members_nesting ms
  members_outline_depth no_members = omega arith
  members_outline_depth (member k t ms) = let here = outline_depth t in let rest = members_outline_depth ms in omega arith

-- ---- members that are put in order go to the end

abbrev json_keys : json.Members → List (List ℕ)
json_keys json.no_members = []
json_keys (json.member k d ms) = k ∷ json_keys ms

abbrev joined : json.Members → json.Members → json.Members
joined json.no_members ns = ns
joined (json.member k d ms) ns = json.member k d (joined ms ns)

joined_none : (ms : json.Members) → joined ms json.no_members ≡ ms
joined_none json.no_members = refl
joined_none (json.member k d ms) = ap (json.member k d) (joined_none ms)

joined_more : (found : json.Members) (k : List ℕ) (d : json.Data) (ms : json.Members) → joined (joined found (json.member k d json.no_members)) ms ≡ joined found (json.member k d ms)
joined_more json.no_members k d ms = refl
joined_more (json.member l e found) k d ms = ap (json.member l e) (joined_more found k d ms)

keys_joined : (found : json.Members) (k : List ℕ) (d : json.Data) (ks : List (List ℕ)) → json_keys (joined found (json.member k d json.no_members)) ++ ks ≡ json_keys found ++ k ∷ ks
keys_joined json.no_members k d ks = refl
keys_joined (json.member l e found) k d ks = ap (λ r. l ∷ r) (keys_joined found k d ks)

below : (x : List ℕ) (ys : List (List ℕ)) (k : List ℕ) (rest : List (List ℕ)) → AllByRecursion (λ y. slice_cmp nat_cmp x y ≡ Less) (ys ++ k ∷ rest) → slice_cmp nat_cmp x k ≡ Less
below x [] k rest h = h.0
below x (y ∷ ys) k rest h = below x ys k rest h.1

put_last : (found : json.Members) (k : List ℕ) (d : json.Data) (rest : List (List ℕ)) → IsStrictlySortedBy (slice_cmp nat_cmp) (json_keys found ++ k ∷ rest) → put k d found ≡ joined found (json.member k d json.no_members)
unfolding IsStrictlySortedBy
put_last json.no_members k d rest s = refl
put_last (json.member l e found) k d rest s =
    let above : slice_cmp nat_cmp k l ≡ Greater = nat_list_cmp_total.antisymm k l ∙ ap ordering_reverse (below l (json_keys found) k rest s.0) in
    rw above (ap (json.member l e) (put_last found k d rest s.1))

numbers_back : (zs : List ℤ) → AllFitI64 zs → of_items (items_outline (numbers_json zs)) ≡ Some (numbers_json zs)
numbers_back [] h = refl
numbers_back (z ∷ zs) h = rw (number_back z h.0, numbers_back zs h.1)

mutual
  data_back : (t : Tree) → IsProper t → of_json (outline (json_of t)) ≡ Some (json_of t)
  data_back null h = refl
  data_back (truth b) h = refl
  data_back (whole z) h = ap (option_map json.number) (number_back z h)
  data_back (text s) h = refl
  data_back (list ts) h = ap (option_map json.array) (items_back ts h)
  data_back (table ms) h = ap (option_map json.object) (members_back json.no_members ms h.0.0 h.1)
  data_back (numbers zs) h = rw (numbers_back zs h)

  items_back : (ts : Items) → AreProper ts → of_items (items_outline (items_json ts)) ≡ Some (items_json ts)
  items_back no_items h = refl
  items_back (item t ts) h = rw (data_back t h.0, items_back ts h.1)

  members_back : (found : json.Members) (ms : Members) → IsStrictlySortedBy (slice_cmp nat_cmp) (json_keys found ++ keys ms) → HasProper ms
      → of_members (members_outline (members_json ms)) found ≡ Some (joined found (members_json ms))
  members_back found no_members s h = ap Some (sym (joined_none found))
  members_back found (member k t ms) s h =
      rw (data_back t h.1, put_last found k (json_of t) (keys ms) s)
      (members_back (joined found (json.member k (json_of t) json.no_members)) ms
      (subst (IsStrictlySortedBy (slice_cmp nat_cmp)) (sym (keys_joined found k (json_of t) (keys ms))) s) h.2
      ∙ ap Some (joined_more found k (json_of t) (members_json ms)))

-- ---- the walk

either : (o : Ordering) (a b : Option json.Data) → is_eq o ≡ false → match_ordering o a b a ≡ a
either Less a b e = refl
either Equal a b e = absurd (cc)
either Greater a b e = refl

differ : (xs ys : List ℕ) (b : Bool) → bytes_eq xs ys ≡ b → xs ≢ ys → b ≡ false
differ xs ys true e other = absurd (other ((bytes_eq-Decides xs ys).0 e))
differ xs ys false e other = refl

no_array_key : (ms : Members) → AllByRecursion (λ k. k ≢ array_key) (keys ms) → get_member array_key (members_json ms) ≡ None
no_array_key no_members h = refl
no_array_key (member k t ms) h =
    either (slice_cmp nat_cmp array_key k) _ _ (is_eq-slice_cmp array_key k ∙ differ array_key k _ refl (λ e. h.0 (sym e))) ∙ no_array_key ms h.1

mutual
  walk_back : (n : ℕ) (t : Tree) → IsProper t → nesting t ≤ n → walk n (json_of t) ≡ Ok t
  walk_back n null h d = refl
  walk_back n (truth b) h d = refl
  walk_back n (whole z) h d = rw (as_whole z h)
  walk_back n (text s) h d = refl
  walk_back zero (list ts) h d = absurd (omega arith)
  walk_back (suc n) (list ts) h d = ap (mapped list) (walk_items_back n ts h (omega arith))
  walk_back zero (table ms) h d = absurd (omega arith)
  walk_back (suc n) (table ms) h d = rw (no_array_key ms h.0.1) (ap (mapped table) (walk_members_back n ms h.1 (omega arith)))
  walk_back zero (numbers zs) h d = absurd (omega arith)
  walk_back (suc zero) (numbers zs) h d = absurd (omega arith)
  walk_back (suc (suc n)) (numbers zs) h d = rw (wholes_back zs h, ne_eqb (suc n) 0 (λ e. omega arith))

  walk_items_back : (n : ℕ) (ts : Items) → AreProper ts → items_nesting ts ≤ n → walk_items n (items_json ts) ≡ Ok ts
  walk_items_back n no_items h d = refl
  walk_items_back n (item t ts) h d = rw (walk_back n t h.0 (omega arith), walk_items_back n ts h.1 (omega arith))

  walk_members_back : (n : ℕ) (ms : Members) → HasProper ms → members_nesting ms ≤ n → walk_members n (members_json ms) ≡ Ok ms
  walk_members_back n no_members h d = refl
  walk_members_back n (member k t ms) h d = rw (walk_back n t h.1 (omega arith), walk_members_back n ms h.2 (omega arith))

-- ---- the round trip

pub read_text : (t : Tree) → IsProper t → nesting t ≤ 127 → read (text_of t) ≡ Some (json_of t)
read_text t h shallow =
    let deep = outline_depth t in
    ap whole_of (ap (grammar.value max_depth) (tokens_of_text t h ∙ sym (append-nil _)) ∙ value-json_tokens (outline (json_of t)) max_depth [] (omega arith)) ∙ data_back t h

pub read_tree_back : (n : ℕ) (t : Tree) → IsProper t → nesting t ≤ n → nesting t ≤ 127 → read_tree n (text_of t) ≡ Ok t
read_tree_back n t h d shallow = ap (λ o. then' (or_fault NotJson (λ d. d) o) (walk n)) (read_text t h shallow) ∙ walk_back n t h d

-- ---- no two values have one text

abbrev first_or : grammar.Json → Option (grammar.Json × List Token) → grammar.Json
first_or i None = i
first_or i (Some p) = p.0

abbrev tree_or : Tree → Read Tree → Tree
tree_or t (Ok u) = u
tree_or t (Err e) = t

abbrev data_or : json.Data → Option json.Data → json.Data
data_or d None = d
data_or d (Some e) = e

same_json : (i j : grammar.Json) → json_tokens i ≡ json_tokens j → i ≡ j
same_json i j e =
    let n = depth i + depth j in
    let left : grammar.value n (json_tokens i ++ []) ≡ Some (i, []) = value-json_tokens i n [] (omega arith) in
    let right : grammar.value n (json_tokens j ++ []) ≡ Some (j, []) = value-json_tokens j n [] (omega arith) in
    ap (first_or i) (sym left ∙ ap (λ ts. grammar.value n (ts ++ [])) e ∙ right)

pub text_injective : (s t : Tree) → IsProper s → IsProper t → text_of s ≡ text_of t → s ≡ t
text_injective s t hs ht e =
    let one = same_json _ _ (sym (tokens_of_text s hs) ∙ ap tokens e ∙ tokens_of_text t ht) in
    let same : json_of s ≡ json_of t = ap (data_or (json_of s)) (sym (data_back s hs) ∙ ap of_json one ∙ data_back t ht) in
    let n = nesting s + nesting t in
    ap (tree_or s) (sym (walk_back n s hs (omega arith)) ∙ ap (walk n) same ∙ walk_back n t ht (omega arith))
