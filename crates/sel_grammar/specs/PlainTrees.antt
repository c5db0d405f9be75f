-- A tree: an operator, an attribute, and no, one or two kids.
use Rattle.std.specs.Prelude.{ℕ, ◌+◌}
use Rattle.sel_grammar.specs.declared.grammar.Attribute.{Attribute}

pub data PlainTree : Type 0 where
  Node0 : (op : ℕ) (a : Attribute) → PlainTree
  Node1 : (op : ℕ) (a : Attribute) (t : PlainTree) → PlainTree
  Node2 : (op : ℕ) (a : Attribute) (t u : PlainTree) → PlainTree

-- the attribute of the root
abbrev pub attribute_of : PlainTree → Attribute
attribute_of (Node0 op a) = a
attribute_of (Node1 op a t) = a
attribute_of (Node2 op a t u) = a

-- how many nodes a tree has
abbrev pub size : PlainTree → ℕ
size (Node0 op a) = 1
size (Node1 op a t) = size t + 1
size (Node2 op a t u) = size t + size u + 1
