-- What the readers of a word answer.
use Rattle.std.specs.Prelude.{◌≡◌, ℕ, Bool, true, false, List, ◌∷◌, ◌++◌, Option, Some, None}
use Rattle.jl_value.specs.Tree.{Tree}
use Rattle.jl_value.specs.Form.{tree_of}
use Rattle.jl_value.specs.declared.value.Value.{Value}
use Rattle.std.specs.declared.vec.Vec.{Vec}
use Rattle.jl_lexer.specs.declared.word.Quoted.{Quoted}
use Rattle.jl_lexer.specs.declared.word.Quoted.TheVariants.{Byte, Escape, End, Bad}
use Rattle.jl_lexer.specs.Words.{onto_rest, ended, unquoted}

-- the tree of a value, if there is one
abbrev pub tree_if : Option Value → Option Tree
tree_if None = None
tree_if (Some v) = Some (tree_of v)

-- the bytes, if there are any
abbrev pub items_if : {A : Type 0} → Option (Vec ℕ A) → Option (List ℕ)
items_if None = None
items_if (Some v) = Some v.items

abbrev pub view_if : Option (List ℕ) → Option (List ℕ)
view_if o = o

-- how a quoted text goes on at a byte
abbrev pub IsUnquoted : Quoted → Bool → ℕ → Type 0
IsUnquoted (Byte c) escaped b = (rest : List ℕ) → unquoted escaped (b ∷ rest) ≡ onto_rest (Some c) (unquoted false rest)
IsUnquoted Escape escaped b = (rest : List ℕ) → unquoted escaped (b ∷ rest) ≡ unquoted true rest
IsUnquoted End escaped b = (rest : List ℕ) → unquoted escaped (b ∷ rest) ≡ ended rest
IsUnquoted Bad escaped b = (rest : List ℕ) → unquoted escaped (b ∷ rest) ≡ None

-- some bytes before others, if there are any
abbrev pub behind_bytes : List ℕ → Option (List ℕ) → Option (List ℕ)
behind_bytes s None = None
behind_bytes s (Some t) = Some (s ++ t)
