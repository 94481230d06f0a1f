-- What was read nests no deeper than was allowed.
use Rattle.std.proofs.Common.{◌≡◌, ℕ, zero, suc, ◌≤◌, ℤ, Bool, true, false, List, Option, Some, None, subst, arith, ne_eqb}
use Rattle.std.specs.Prelude.{Ok, Err, if◌then◌else◌}
use Rattle.std.specs.Str.{is_utf8}
use Rattle.serde_json.specs.Data as json
use Rattle.serde_json.specs.Find.{as_i64}
use Rattle.serde_json.specs.Read.{read}
use Rattle.jl_value.specs.declared.fault.ValueFault.TheVariants.{NotJson, NotWhole}
use Rattle.jl_value.specs.Tree.{Tree, whole, list, table, Items, item, Members, member, nesting, items_nesting, members_nesting}
use Rattle.jl_value.specs.Reading.{Read, mapped, then', or_fault, only_array, has_array_key, array_within, walk, walk_items, walk_members}
use Rattle.jl_value.specs.Walked.{read_bytes}

-- what holds of the value that was read, if one was
abbrev IfRead : {A : Type 0} → Read A → (A → Type 0) → Type 0
IfRead (Ok a) P = P a
IfRead (Err e) P = Unit {0}

whole_nests : (n : ℕ) (o : Option ℤ) → IfRead (or_fault NotWhole whole o) (λ t. nesting t ≤ n)
whole_nests n None = tt
whole_nests n (Some z) = omega arith

array_nests : (n : ℕ) (o : Option (List ℤ)) → IfRead (array_within n o) (λ t. nesting t ≤ suc n)
array_nests n None = tt
array_nests zero (Some zs) = tt
array_nests (suc n) (Some zs) = rw (ne_eqb (suc n) 0 (λ e. omega arith)) (omega arith)

list_nests : (n : ℕ) (r : Read Items) → IfRead r (λ ts. items_nesting ts ≤ n) → IfRead (mapped list r) (λ t. nesting t ≤ suc n)
list_nests n (Ok ts) h = omega arith
list_nests n (Err e) h = tt

table_nests : (n : ℕ) (r : Read Members) → IfRead r (λ ms. members_nesting ms ≤ n) → IfRead (mapped table r) (λ t. nesting t ≤ suc n)
table_nests n (Ok ms) h = omega arith
table_nests n (Err e) h = tt

either_nests : (b : Bool) (n : ℕ) (r s : Read Tree) → IfRead r (λ t. nesting t ≤ n) → IfRead s (λ t. nesting t ≤ n) → IfRead (if b then r else s) (λ t. nesting t ≤ n)
either_nests true n r s h k = h
either_nests false n r s h k = k

item_nests : (n : ℕ) (r : Read Tree) (s : Read Items) → IfRead r (λ t. nesting t ≤ n) → IfRead s (λ ts. items_nesting ts ≤ n) → IfRead (then' r (λ t. mapped (item t) s)) (λ ts. items_nesting ts ≤ n)
item_nests n (Ok t) (Ok ts) h k = omega arith
item_nests n (Ok t) (Err e) h k = tt
item_nests n (Err e) s h k = tt

member_nests : (n : ℕ) (key : List ℕ) (r : Read Tree) (s : Read Members) → IfRead r (λ t. nesting t ≤ n) → IfRead s (λ ms. members_nesting ms ≤ n) → IfRead (then' r (λ t. mapped (member key t) s)) (λ ms. members_nesting ms ≤ n)
member_nests n key (Ok t) (Ok ms) h k = omega arith
member_nests n key (Ok t) (Err e) h k = tt
member_nests n key (Err e) s h k = tt

mutual
  walk_nests : (n : ℕ) (d : json.Data) → IfRead (walk n d) (λ t. nesting t ≤ n)
  walk_nests n json.null = omega arith
  walk_nests n (json.boolean b) = omega arith
  walk_nests n (json.number m) = whole_nests n (as_i64 m)
  walk_nests n (json.string s) = omega arith
  walk_nests zero (json.array ds) = tt
  walk_nests (suc n) (json.array ds) = list_nests n (walk_items n ds) (walk_items_nest n ds)
  walk_nests zero (json.object ms) = tt
  walk_nests (suc n) (json.object ms) = either_nests (has_array_key ms) (suc n) _ _ (array_nests n (only_array ms)) (table_nests n (walk_members n ms) (walk_members_nest n ms))

  walk_items_nest : (n : ℕ) (ds : json.Items) → IfRead (walk_items n ds) (λ ts. items_nesting ts ≤ n)
  walk_items_nest n json.no_items = omega arith
  walk_items_nest n (json.item d ds) = item_nests n (walk n d) (walk_items n ds) (walk_nests n d) (walk_items_nest n ds)

  walk_members_nest : (n : ℕ) (ms : json.Members) → IfRead (walk_members n ms) (λ ms. members_nesting ms ≤ n)
  walk_members_nest n json.no_members = omega arith
  walk_members_nest n (json.member k d ms) = member_nests n k (walk n d) (walk_members n ms) (walk_nests n d) (walk_members_nest n ms)

read_nests : (n : ℕ) (b : Bool) (o : Option json.Data) → IfRead (if b then then' (or_fault NotJson (λ d. d) o) (walk n) else Err NotJson) (λ t. nesting t ≤ n)
read_nests n true (Some d) = walk_nests n d
read_nests n true None = tt
read_nests n false o = tt

pub read_bytes_nests : (n : ℕ) (s : List ℕ) (t : Tree) → read_bytes n s ≡ Ok t → nesting t ≤ n
read_bytes_nests n s t e = subst (λ (r : Read Tree). IfRead r (λ u. nesting u ≤ n)) e (read_nests n (is_utf8 s) (read s))

-- what a walk gives nests no deeper
pub walk_ok_nests : (n : ℕ) (d : json.Data) (t : Tree) → walk n d ≡ Ok t → nesting t ≤ n
walk_ok_nests n d t e = subst (λ (r : Read Tree). IfRead r (λ u. nesting u ≤ n)) e (walk_nests n d)
