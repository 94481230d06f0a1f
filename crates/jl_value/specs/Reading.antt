-- The value that JSON data is, down to a depth, or the first fault in the order of the canonical text.
use Rattle.std.specs.Prelude.{ℕ, zero, suc, ◌==◌, ℤ, Bool, if◌then◌else◌, List, [], ◌∷◌, Option, Some, None, is_some, option_map, option_and_then, Result}
use Rattle.std.specs.Prelude.{Ok, Err}
use Rattle.serde_json.specs.Data as json
use Rattle.serde_json.specs.Find.{as_i64, as_number, as_array, get_member}
use Rattle.serde_json.specs.Read.{read}
use Rattle.jl_value.specs.declared.fault.ValueFault.{ValueFault}
use Rattle.jl_value.specs.declared.fault.ValueFault.TheVariants.{NotJson, TooDeep, BadArray, NotWhole}
use Rattle.jl_value.specs.Tree.{Tree, null, truth, whole, text, list, table, numbers, Items, no_items, item, Members, no_members, member}
use Rattle.jl_value.specs.Canonical.{array_key}

-- what was read, or the first fault
abbrev pub Read : Type 0 → Type 0
Read A = Result A ValueFault

-- the same fault, or what becomes of what was read
abbrev pub mapped : {A B : Type 0} → (A → B) → Read A → Read B
mapped f (Ok a) = Ok (f a)
mapped f (Err e) = Err e

-- one reading after another
abbrev pub then' : {A B : Type 0} → Read A → (A → Read B) → Read B
then' (Ok a) f = f a
then' (Err e) f = Err e

-- a fault where nothing stands
abbrev pub or_fault : {A B : Type 0} → ValueFault → (A → B) → Option A → Read B
or_fault e f None = Err e
or_fault e f (Some a) = Ok (f a)

-- the signed 64-bit whole number that data is
abbrev pub whole_in : json.Data → Option ℤ
whole_in d = option_and_then as_i64 (as_number d)

-- the whole numbers that items are
abbrev pub wholes_in : json.Items → Option (List ℤ)
wholes_in json.no_items = Some []
wholes_in (json.item d ds) = option_and_then (λ z. option_map (λ zs. z ∷ zs) (wholes_in ds)) (whole_in d)

-- the numbers of a list of whole numbers
abbrev pub array_in : json.Data → Option (List ℤ)
array_in d = option_and_then wholes_in (as_array d)

-- the numbers of a table that has the array key
abbrev pub only_array : json.Members → Option (List ℤ)
only_array json.no_members = None
only_array (json.member k d json.no_members) = array_in d
only_array (json.member k d (json.member l e ms)) = None

-- whether one of the members has the array key
abbrev pub has_array_key : json.Members → Bool
has_array_key ms = is_some (get_member array_key ms)

-- its brackets are two deep, and n levels are left below the first
abbrev pub array_within : ℕ → Option (List ℤ) → Read Tree
array_within n None = Err BadArray
array_within n (Some zs) = if n == 0 then Err TooDeep else Ok (numbers zs)

abbrev mutual
  -- data as a value with this many levels of lists and tables: a node is judged before its members
  pub walk : ℕ → json.Data → Read Tree
  walk n json.null = Ok null
  walk n (json.boolean b) = Ok (truth b)
  walk n (json.number m) = or_fault NotWhole whole (as_i64 m)
  walk n (json.string s) = Ok (text s)
  walk zero (json.array ds) = Err TooDeep
  walk (suc n) (json.array ds) = mapped list (walk_items n ds)
  walk zero (json.object ms) = Err TooDeep
  walk (suc n) (json.object ms) = if has_array_key ms then array_within n (only_array ms) else mapped table (walk_members n ms)

  -- items in their order
  pub walk_items : ℕ → json.Items → Read Items
  walk_items n json.no_items = Ok no_items
  walk_items n (json.item d ds) = then' (walk n d) (λ t. mapped (item t) (walk_items n ds))

  -- members in their order, by keys
  pub walk_members : ℕ → json.Members → Read Members
  walk_members n json.no_members = Ok no_members
  walk_members n (json.member k d ms) = then' (walk n d) (λ t. mapped (member k t) (walk_members n ms))

-- the value that a text is, with lists and tables nested no deeper than the number
abbrev pub read_tree : ℕ → List ℕ → Read Tree
read_tree n s = then' (or_fault NotJson (λ d. d) (read s)) (walk n)
