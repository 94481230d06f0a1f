-- How the logic stores a tree.
-- Machinery: nothing here need be believed.
use Rattle.std.proofs.Common.{◌≡◌, ℕ, zero, suc, List, refl, ap}
use Rattle.std.specs.Coded.{Coded, code_by, coded×, coded_ℕ, coded_ℤ, coded_list}
use base.Stored.{Gv, gnil, gnum, gcons}
use Rattle.jl_value.specs.Stored.{coded_stored, truth_code, stored_truth, truth_back, stored_whole, whole_back, codes_code, stored_codes, codes_back, wholes_code, stored_wholes, wholes_back}
use Rattle.jl_value.specs.Tree.{Tree, null, truth, whole, text, list, table, numbers, Items, no_items, item, Members, no_members, member}

abbrev mutual
  -- a tag for each form, and then its parts
  pub tree_code : Tree → Gv
  tree_code null = gcons (gnum 0) gnil
  tree_code (truth b) = gcons (gnum 1) (truth_code b)
  tree_code (whole n) = gcons (gnum 2) (coded_ℤ.code n)
  tree_code (text bytes) = gcons (gnum 3) (codes_code bytes)
  tree_code (list items) = gcons (gnum 4) (items_code items)
  tree_code (table members) = gcons (gnum 5) (members_code members)
  tree_code (numbers ns) = gcons (gnum 6) (wholes_code ns)

  pub items_code : Items → Gv
  items_code no_items = gcons (gnum 0) gnil
  items_code (item t items) = gcons (gnum 1) (gcons (tree_code t) (items_code items))

  pub members_code : Members → Gv
  members_code no_members = gcons (gnum 0) gnil
  members_code (member key t members) = gcons (gnum 1) (gcons (codes_code key) (gcons (tree_code t) (members_code members)))

abbrev mutual
  -- the tree that is stored
  pub stored_tree : Gv → Tree
  stored_tree (gcons (gnum zero) g) = null
  stored_tree (gcons (gnum (suc zero)) g) = truth (stored_truth g)
  stored_tree (gcons (gnum (suc (suc zero))) g) = whole (stored_whole g)
  stored_tree (gcons (gnum (suc (suc (suc zero)))) g) = text (stored_codes g)
  stored_tree (gcons (gnum (suc (suc (suc (suc zero))))) g) = list (stored_items g)
  stored_tree (gcons (gnum (suc (suc (suc (suc (suc zero)))))) g) = table (stored_members g)
  stored_tree (gcons (gnum (suc (suc (suc (suc (suc (suc n))))))) g) = numbers (stored_wholes g)
  stored_tree _ = null

  pub stored_items : Gv → Items
  stored_items (gcons (gnum (suc n)) (gcons t items)) = item (stored_tree t) (stored_items items)
  stored_items _ = no_items

  pub stored_members : Gv → Members
  stored_members (gcons (gnum (suc n)) (gcons key (gcons t members))) = member (stored_codes key) (stored_tree t) (stored_members members)
  stored_members _ = no_members

mutual
  pub tree_back : (t : Tree) → stored_tree (tree_code t) ≡ t
  tree_back null = refl
  tree_back (truth b) = ap truth (truth_back b)
  tree_back (whole n) = ap whole (whole_back n)
  tree_back (text bytes) = ap text (codes_back bytes)
  tree_back (list items) = ap list (items_back items)
  tree_back (table members) = ap table (members_back members)
  tree_back (numbers ns) = ap numbers (wholes_back ns)

  pub items_back : (items : Items) → stored_items (items_code items) ≡ items
  items_back no_items = refl
  items_back (item t items) = λ i. item (tree_back t i) (items_back items i)

  pub members_back : (members : Members) → stored_members (members_code members) ≡ members
  members_back no_members = refl
  members_back (member key t members) = λ i. member (codes_back key i) (tree_back t i) (members_back members i)

-- the codes of trees, lists and tables
abbrev pub coded_tree : Coded Tree
coded_tree = code_by Gv coded_stored tree_code stored_tree tree_back

abbrev pub coded_trees : Coded (List Tree)
coded_trees = coded_list coded_tree

abbrev pub coded_pairs : Coded (List (List ℕ × Tree))
coded_pairs = coded_list (coded× (coded_list coded_ℕ) coded_tree)
