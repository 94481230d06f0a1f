-- The expression that one level of a tree of the program stands for.
use Rattle.jl_lexer.specs.Trees.{Expression, tall, leaf, bracketed, before, between, choice, index, call, span, list, each, filtered, table, members_of, entries_of}
use Rattle.jl_lexer.specs.declared.tree.Node.{Node}
use Rattle.jl_lexer.specs.declared.tree.Node.TheVariants.{Tall, Leaf, Bracketed, Before, Between, Choice, Index, Call, Span, Listed, Each, Filtered, Tabled}

abbrev pub expression_of : Node → Expression
expression_of Tall = tall
expression_of (Leaf w) = leaf w
expression_of (Bracketed e) = bracketed e.value
expression_of (Before p e) = before p e.value
expression_of (Between o a b) = between o a.value b.value
expression_of (Choice a c b) = choice a.value c.value b.value
expression_of (Index a i) = index a.value i.value
expression_of (Call f e) = call f e.value
expression_of (Span a b) = span a.value b.value
expression_of (Listed es) = list (members_of es)
expression_of (Each e x a) = each e.value x a.value
expression_of (Filtered e x a c) = filtered e.value x a.value c.value
expression_of (Tabled es) = table (entries_of es)
