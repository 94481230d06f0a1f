-- What a value is, as data: the form in which definitions speak of it.
use Rattle.std.specs.Prelude.{ℕ, suc, max, ℤ, Bool, List, [], ◌∷◌}

mutual
  -- a value
  pub data Tree : Type 0 where
    null : Tree
    truth : Bool → Tree
    whole : ℤ → Tree
    text : List ℕ → Tree
    list : Items → Tree
    table : Members → Tree
    numbers : List ℤ → Tree

  -- the members of a list
  pub data Items : Type 0 where
    no_items : Items
    item : Tree → Items → Items

  -- the keys and values of a table
  pub data Members : Type 0 where
    no_members : Members
    member : List ℕ → Tree → Members → Members

-- a list of trees as items, and back
abbrev pub items_of : List Tree → Items
items_of [] = no_items
items_of (t ∷ ts) = item t (items_of ts)

-- a list of keys and trees as members, and back
abbrev pub members_of : List (List ℕ × Tree) → Members
members_of [] = no_members
members_of (m ∷ ms) = member m.0 m.1 (members_of ms)

abbrev pub list_of : Items → List Tree
list_of no_items = []
list_of (item t ts) = t ∷ list_of ts

abbrev pub pairs_of : Members → List (List ℕ × Tree)
pairs_of no_members = []
pairs_of (member k t ms) = (k, t) ∷ pairs_of ms

-- how deep the brackets of the text nest
abbrev mutual
  pub nesting : Tree → ℕ
  nesting null = 0
  nesting (truth b) = 0
  nesting (whole z) = 0
  nesting (text s) = 0
  nesting (list ts) = suc (items_nesting ts)
  nesting (table ms) = suc (members_nesting ms)
  nesting (numbers zs) = 2

  pub items_nesting : Items → ℕ
  items_nesting no_items = 0
  items_nesting (item t ts) = max (nesting t) (items_nesting ts)

  pub members_nesting : Members → ℕ
  members_nesting no_members = 0
  members_nesting (member k t ms) = max (nesting t) (members_nesting ms)

-- how many levels, the measure of a walk
abbrev mutual
  pub height : Tree → ℕ
  height null = 0
  height (truth b) = 0
  height (whole z) = 0
  height (text s) = 0
  height (list ts) = suc (items_height ts)
  height (table ms) = suc (members_height ms)
  height (numbers zs) = 0

  pub items_height : Items → ℕ
  items_height no_items = 0
  items_height (item t ts) = max (height t) (items_height ts)

  pub members_height : Members → ℕ
  members_height no_members = 0
  members_height (member k t ms) = max (height t) (members_height ms)
