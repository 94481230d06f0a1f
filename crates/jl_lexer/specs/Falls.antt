-- Each part of a tree is lower than it.
use Rattle.std.proofs.Common.{ℕ, ◌+◌, ◌*◌, ◌≤◌, max, List, [], ◌∷◌, arith}
use denote.Param.Weighed.{most}
use Rattle.jl_lexer.specs.Trees.{Expression, height, members_of, members_height, entries_of, entries_height}
use Rattle.jl_lexer.specs.Form.{expression_of}
use Rattle.jl_lexer.specs.declared.tree.Node.{Node}
use Rattle.jl_lexer.specs.declared.tree.Node.TheVariants.{Tall, Leaf, Bracketed, Before, Between, Choice, Index, Call, Span, Listed, Each, Filtered, Tabled}
use Rattle.jl_lexer.specs.declared.tree.Entries.TheDeep.{deep-Node}

-- what the generated measure counts of a node is no more than the height
pub deep_height : (n : Node) → max (deep-Node n) 0 ≤ 3 * height (expression_of n)
deep_height Tall = omega arith
deep_height (Leaf w) = omega arith
deep_height (Bracketed e) = omega arith
deep_height (Before p e) = omega arith
deep_height (Between o a b) = omega arith
deep_height (Choice a c b) = omega arith
deep_height (Index a i) = omega arith
deep_height (Call f e) = omega arith
deep_height (Span a b) = omega arith
deep_height (Listed es) = omega arith
deep_height (Each e x a) = omega arith
deep_height (Filtered e x a c) = omega arith
deep_height (Tabled es) = omega arith

-- of the members of a list
pub most_members : (es : List Expression) → most (λ e. 3 * height e + 1) es ≤ 3 * members_height (members_of es) + 1
most_members [] = omega arith
most_members (e ∷ es) = let later = most_members es in omega arith

-- of the keys and members of a table
pub most_entries : (ps : List (List ℕ × Expression)) → most (λ p. 3 * height p.1 + 1 + 1) ps ≤ 3 * entries_height (entries_of ps) + 2
most_entries [] = omega arith
most_entries (p ∷ ps) = let later = most_entries ps in omega arith
