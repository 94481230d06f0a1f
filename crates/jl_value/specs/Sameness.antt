-- The test tells whether two trees are equal.
-- Machinery: nothing here need be believed.
use Rattle.std.proofs.Common.{◌≡◌, ℤ, Bool, true, false, List, [], ◌∷◌, refl, sym, ap, ap₂, ◌∙◌}
use Rattle.std.specs.Cmp.{IsPartialEquivalence}
use Rattle.std.specs.Bool.{Decides, beq}
use Rattle.std.specs.Ordering.{int_eq}
use Rattle.std.proofs.lemmas.Bool.Decides.{Decides-int_eq}
use Rattle.std.proofs.lemmas.Bool.{and_parts, and_from}
use Rattle.std.proofs.lemmas.Slice.Eq.{bytes_eq-Decides}
use Rattle.jl_value.specs.Tree.{Tree, null, truth, whole, text, list, table, numbers, Items, no_items, item, Members, no_members, member}
use Rattle.jl_value.specs.Same.{wholes_eq, tree_eq, items_eq, members_eq}

-- each test tells the equality of its two sides
bool_same : (a b : Bool) → Decides (beq a b) (a ≡ b)
bool_same true true = (λ e. refl, λ e. refl)
bool_same true false = (λ e. absurd (cc), λ e. cc)
bool_same false true = (λ e. absurd (cc), λ e. cc)
bool_same false false = (λ e. refl, λ e. refl)

whole_same : (a b : ℤ) → Decides (int_eq a b) (a ≡ b)
whole_same = Decides-int_eq

wholes_same : (a b : List ℤ) → Decides (wholes_eq a b) (a ≡ b)
wholes_same [] [] = (λ e. refl, λ e. refl)
wholes_same [] (b ∷ bs) = (λ e. absurd (cc), λ e. cc)
wholes_same (a ∷ as') [] = (λ e. absurd (cc), λ e. cc)
wholes_same (a ∷ as') (b ∷ bs) =
    let h = whole_same a b in let t = wholes_same as' bs in (
      λ e. (let p = and_parts _ _ e in ap₂ (λ (x : ℤ) (xs : List ℤ). x ∷ xs) (h.0 p.0) (t.0 p.1)),
      λ e. and_from _ _ (h.1 cc) (t.1 cc),
    )

mutual
  pub tree_same : (s t : Tree) → Decides (tree_eq s t) (s ≡ t)
  tree_same null null = (λ e. refl, λ e. refl)
  tree_same null (truth b) = (λ e. absurd (cc), λ e. cc)
  tree_same null (whole b) = (λ e. absurd (cc), λ e. cc)
  tree_same null (text b) = (λ e. absurd (cc), λ e. cc)
  tree_same null (list b) = (λ e. absurd (cc), λ e. cc)
  tree_same null (table b) = (λ e. absurd (cc), λ e. cc)
  tree_same null (numbers b) = (λ e. absurd (cc), λ e. cc)
  tree_same (truth a) null = (λ e. absurd (cc), λ e. cc)
  tree_same (truth a) (truth b) = let h = bool_same a b in (λ e. ap truth (h.0 e), λ e. h.1 cc)
  tree_same (truth a) (whole b) = (λ e. absurd (cc), λ e. cc)
  tree_same (truth a) (text b) = (λ e. absurd (cc), λ e. cc)
  tree_same (truth a) (list b) = (λ e. absurd (cc), λ e. cc)
  tree_same (truth a) (table b) = (λ e. absurd (cc), λ e. cc)
  tree_same (truth a) (numbers b) = (λ e. absurd (cc), λ e. cc)
  tree_same (whole a) null = (λ e. absurd (cc), λ e. cc)
  tree_same (whole a) (truth b) = (λ e. absurd (cc), λ e. cc)
  tree_same (whole a) (whole b) = let h = whole_same a b in (λ e. ap whole (h.0 e), λ e. h.1 cc)
  tree_same (whole a) (text b) = (λ e. absurd (cc), λ e. cc)
  tree_same (whole a) (list b) = (λ e. absurd (cc), λ e. cc)
  tree_same (whole a) (table b) = (λ e. absurd (cc), λ e. cc)
  tree_same (whole a) (numbers b) = (λ e. absurd (cc), λ e. cc)
  tree_same (text a) null = (λ e. absurd (cc), λ e. cc)
  tree_same (text a) (truth b) = (λ e. absurd (cc), λ e. cc)
  tree_same (text a) (whole b) = (λ e. absurd (cc), λ e. cc)
  tree_same (text a) (text b) = let h = bytes_eq-Decides a b in (λ e. ap text (h.0 e), λ e. h.1 cc)
  tree_same (text a) (list b) = (λ e. absurd (cc), λ e. cc)
  tree_same (text a) (table b) = (λ e. absurd (cc), λ e. cc)
  tree_same (text a) (numbers b) = (λ e. absurd (cc), λ e. cc)
  tree_same (list a) null = (λ e. absurd (cc), λ e. cc)
  tree_same (list a) (truth b) = (λ e. absurd (cc), λ e. cc)
  tree_same (list a) (whole b) = (λ e. absurd (cc), λ e. cc)
  tree_same (list a) (text b) = (λ e. absurd (cc), λ e. cc)
  tree_same (list a) (list b) = let h = items_same a b in (λ e. ap list (h.0 e), λ e. h.1 cc)
  tree_same (list a) (table b) = (λ e. absurd (cc), λ e. cc)
  tree_same (list a) (numbers b) = (λ e. absurd (cc), λ e. cc)
  tree_same (table a) null = (λ e. absurd (cc), λ e. cc)
  tree_same (table a) (truth b) = (λ e. absurd (cc), λ e. cc)
  tree_same (table a) (whole b) = (λ e. absurd (cc), λ e. cc)
  tree_same (table a) (text b) = (λ e. absurd (cc), λ e. cc)
  tree_same (table a) (list b) = (λ e. absurd (cc), λ e. cc)
  tree_same (table a) (table b) = let h = members_same a b in (λ e. ap table (h.0 e), λ e. h.1 cc)
  tree_same (table a) (numbers b) = (λ e. absurd (cc), λ e. cc)
  tree_same (numbers a) null = (λ e. absurd (cc), λ e. cc)
  tree_same (numbers a) (truth b) = (λ e. absurd (cc), λ e. cc)
  tree_same (numbers a) (whole b) = (λ e. absurd (cc), λ e. cc)
  tree_same (numbers a) (text b) = (λ e. absurd (cc), λ e. cc)
  tree_same (numbers a) (list b) = (λ e. absurd (cc), λ e. cc)
  tree_same (numbers a) (table b) = (λ e. absurd (cc), λ e. cc)
  tree_same (numbers a) (numbers b) = let h = wholes_same a b in (λ e. ap numbers (h.0 e), λ e. h.1 cc)

  items_same : (a b : Items) → Decides (items_eq a b) (a ≡ b)
  items_same no_items no_items = (λ e. refl, λ e. refl)
  items_same no_items (item u us) = (λ e. absurd (cc), λ e. cc)
  items_same (item t ts) no_items = (λ e. absurd (cc), λ e. cc)
  items_same (item t ts) (item u us) =
      let h = tree_same t u in let r = items_same ts us in (
        λ e. (let p = and_parts _ _ e in ap₂ item (h.0 p.0) (r.0 p.1)),
        λ e. and_from _ _ (h.1 cc) (r.1 cc),
      )

  members_same : (a b : Members) → Decides (members_eq a b) (a ≡ b)
  members_same no_members no_members = (λ e. refl, λ e. refl)
  members_same no_members (member l u ns) = (λ e. absurd (cc), λ e. cc)
  members_same (member k t ms) no_members = (λ e. absurd (cc), λ e. cc)
  members_same (member k t ms) (member l u ns) =
      let g = bytes_eq-Decides k l in let h = tree_same t u in let r = members_same ms ns in (
        λ e. (let p = and_parts _ _ e in let q = and_parts _ _ p.1 in λ i. member (g.0 p.0 i) (h.0 q.0 i) (r.0 q.1 i)),
        λ e. and_from _ _ (g.1 cc) (and_from _ _ (h.1 cc) (r.1 cc)),
      )

-- two tests that follow from each other are one
both_ways : (p q : Bool) → (p ≡ true → q ≡ true) → (q ≡ true → p ≡ true) → p ≡ q
both_ways true true f g = refl
both_ways true false f g = sym (f refl)
both_ways false true f g = g refl
both_ways false false f g = refl

symmetric : (x y : Tree) → tree_eq x y ≡ tree_eq y x
symmetric x y = both_ways _ _ (λ e. (tree_same y x).1 (sym ((tree_same x y).0 e))) (λ e. (tree_same x y).1 (sym ((tree_same y x).0 e)))

-- so the test is symmetric and transitive
pub tree_per : IsPartialEquivalence tree_eq
tree_per = record { symm = symmetric; trans = λ x y z p q. (tree_same x z).1 ((tree_same x y).0 p ∙ (tree_same y z).0 q) }
