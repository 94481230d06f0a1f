-- Whether two trees are the same, as a test.
-- Machinery: nothing here need be believed.
use Rattle.std.specs.Prelude.{ℤ, Bool, true, false, ◌&&◌, List, [], ◌∷◌, bytes_eq}
use Rattle.std.specs.Bool.{beq}
use Rattle.std.specs.Ordering.{int_eq}
use Rattle.jl_value.specs.Tree.{Tree, null, truth, whole, text, list, table, numbers, Items, no_items, item, Members, no_members, member}

-- whether two lists of numbers are the same
abbrev pub wholes_eq : List ℤ → List ℤ → Bool
wholes_eq [] [] = true
wholes_eq [] (b ∷ bs) = false
wholes_eq (a ∷ as') [] = false
wholes_eq (a ∷ as') (b ∷ bs) = int_eq a b && wholes_eq as' bs

abbrev mutual
  -- whether two trees have one form and the same parts
  pub tree_eq : Tree → Tree → Bool
  tree_eq null null = true
  tree_eq null (truth b) = false
  tree_eq null (whole b) = false
  tree_eq null (text b) = false
  tree_eq null (list b) = false
  tree_eq null (table b) = false
  tree_eq null (numbers b) = false
  tree_eq (truth a) null = false
  tree_eq (truth a) (truth b) = beq a b
  tree_eq (truth a) (whole b) = false
  tree_eq (truth a) (text b) = false
  tree_eq (truth a) (list b) = false
  tree_eq (truth a) (table b) = false
  tree_eq (truth a) (numbers b) = false
  tree_eq (whole a) null = false
  tree_eq (whole a) (truth b) = false
  tree_eq (whole a) (whole b) = int_eq a b
  tree_eq (whole a) (text b) = false
  tree_eq (whole a) (list b) = false
  tree_eq (whole a) (table b) = false
  tree_eq (whole a) (numbers b) = false
  tree_eq (text a) null = false
  tree_eq (text a) (truth b) = false
  tree_eq (text a) (whole b) = false
  tree_eq (text a) (text b) = bytes_eq a b
  tree_eq (text a) (list b) = false
  tree_eq (text a) (table b) = false
  tree_eq (text a) (numbers b) = false
  tree_eq (list a) null = false
  tree_eq (list a) (truth b) = false
  tree_eq (list a) (whole b) = false
  tree_eq (list a) (text b) = false
  tree_eq (list a) (list b) = items_eq a b
  tree_eq (list a) (table b) = false
  tree_eq (list a) (numbers b) = false
  tree_eq (table a) null = false
  tree_eq (table a) (truth b) = false
  tree_eq (table a) (whole b) = false
  tree_eq (table a) (text b) = false
  tree_eq (table a) (list b) = false
  tree_eq (table a) (table b) = members_eq a b
  tree_eq (table a) (numbers b) = false
  tree_eq (numbers a) null = false
  tree_eq (numbers a) (truth b) = false
  tree_eq (numbers a) (whole b) = false
  tree_eq (numbers a) (text b) = false
  tree_eq (numbers a) (list b) = false
  tree_eq (numbers a) (table b) = false
  tree_eq (numbers a) (numbers b) = wholes_eq a b

  -- whether two lists have the same members
  pub items_eq : Items → Items → Bool
  items_eq no_items no_items = true
  items_eq no_items (item u us) = false
  items_eq (item t ts) no_items = false
  items_eq (item t ts) (item u us) = tree_eq t u && items_eq ts us

  -- whether two tables have the same keys and values
  pub members_eq : Members → Members → Bool
  members_eq no_members no_members = true
  members_eq no_members (member l u ns) = false
  members_eq (member k t ms) no_members = false
  members_eq (member k t ms) (member l u ns) = bytes_eq k l && (tree_eq t u && members_eq ms ns)
