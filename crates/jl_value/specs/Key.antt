-- The key of arguments.
use Rattle.std.specs.Prelude.{ℕ, List}
use Rattle.md5.specs.Md5.{md5}
use Rattle.jl_value.specs.Tree.{Tree, table, members_of}
use Rattle.jl_value.specs.Canonical.{text_of}

-- arguments as the tree that they are
abbrev pub args_tree : List (List ℕ × Tree) → Tree
args_tree ps = table (members_of ps)

-- the MD5 (RFC 1321) of their canonical text
abbrev pub key_of : List (List ℕ × Tree) → List ℕ
key_of ps = md5 (text_of (args_tree ps))
