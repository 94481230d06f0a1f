-- The keys of members, in the program and as trees.
use Rattle.std.proofs.Common.{◌≡◌, ℕ, List, [], ◌∷◌, refl, sym, ap, ◌∙◌, subst}
use Rattle.jl_value.specs.Tree.{Tree, members_of}
use Rattle.jl_value.specs.Form.{entries_of, keys_in}
use Rattle.jl_value.specs.Proper.{AreKeys, keys}
use Rattle.jl_value.specs.declared.value.Value.{Value}

keys_same : (es : List (List ℕ × Value)) → keys (members_of (entries_of es)) ≡ keys_in es
keys_same [] = refl
keys_same (e ∷ es) = ap (λ ks. e.0 ∷ ks) (keys_same es)

pub keys_there : (es : List (List ℕ × Value)) (kvs : List (List ℕ × Tree)) → entries_of es ≡ kvs → AreKeys (keys (members_of kvs)) → AreKeys (keys_in es)
keys_there es kvs same h = subst AreKeys (ap (λ k. keys (members_of k)) (sym same) ∙ keys_same es) h
