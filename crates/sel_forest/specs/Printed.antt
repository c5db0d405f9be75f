-- The text of a printed forest.
use Rattle.std.specs.Prelude.{◌≡◌, ℕ, Option, Some, None, List, ◌++◌, [], codes, map, flat_map, slice_get}
use Rattle.std.specs.Fmt.{signed_decimal}
use Rattle.sel_grammar.specs.declared.grammar.Attribute.{Attribute}
use Rattle.sel_grammar.specs.declared.grammar.Attribute.TheVariants.{Absent, Number, Symbol}
use Rattle.sel_grammar.specs.declared.grammar.Grammar.{Grammar}
use Rattle.sel_grammar.specs.declared.grammar.Operator.{Operator}
use Rattle.sel_grammar.specs.PlainTrees.{PlainTree, Node0, Node1, Node2}
use Rattle.sel_forest.specs.declared.forest.Tree.{Tree}
use Rattle.sel_forest.specs.declared.forest.Forest.{Forest}
use Rattle.sel_forest.specs.Postorder.{postorder}
pub use Rattle.sel_grammar.specs.Lawful.{HasNames}

abbrev pub name_of : Option Operator → List ℕ
name_of None = []
name_of (Some operator) = operator.name

-- the name of the operator with a number
abbrev pub operator_name : Grammar → ℕ → List ℕ
operator_name g op = name_of (slice_get g.operators op)

-- nothing, or a colon and a number in decimal, or a colon and a symbol
abbrev pub attribute_text : Attribute → List ℕ
attribute_text Absent = []
attribute_text (Number z) = codes ":" ++ signed_decimal z
attribute_text (Symbol name) = codes ":" ++ name

-- a name, its attribute, and the kids, if any, between parentheses
abbrev pub tree_text : Grammar → PlainTree → List ℕ
tree_text g (Node0 op a) = operator_name g op ++ attribute_text a
tree_text g (Node1 op a t) = operator_name g op ++ (attribute_text a ++ (codes "(" ++ (tree_text g t ++ codes ")")))
tree_text g (Node2 op a t u) = operator_name g op ++ (attribute_text a ++ (codes "(" ++ (tree_text g t ++ (codes "," ++ (tree_text g u ++ codes ")")))))

-- each tree on a line, and behind each line a line feed
abbrev pub forest_text : Grammar → List PlainTree → List ℕ
forest_text g ts = flat_map (λ t. tree_text g t ++ codes "\n") ts

abbrev pub tree_of : PlainTree → Tree
tree_of t = record { nodes = postorder 0 t }

-- the text is that of the forest's trees
pub record IsPrinted (g : Grammar) (forest : Forest) (text : List ℕ) : Type 0 where
  pub plain : List PlainTree
  pub trees_are : forest.trees ≡ map tree_of plain
  pub text_is : text ≡ forest_text g plain
