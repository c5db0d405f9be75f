-- A worked case: the rules 1 `s: P(U(a),P(U(a),a)) "" 1` and 2 `a: X ""` on the tree P(U(X),P(U(X),X)), whose list is 1 2 2 2 and whose cost is 1.
use Rattle.std.proofs.Common.{◌≡◌, ℕ, List, [], ◌∷◌, refl, Some, None, pos}
use Rattle.sel_grammar.specs.declared.grammar.Attribute.{Attribute}
use Rattle.sel_grammar.specs.declared.grammar.Attribute.TheVariants.{Absent}
use Rattle.sel_grammar.specs.declared.grammar.Grammar.{Grammar}
use Rattle.sel_grammar.specs.declared.grammar.Rule.{Rule}
use Rattle.sel_grammar.specs.declared.grammar.Pattern.{Pattern, Leaf, Nullary, Unary, Binary}
use Rattle.sel_grammar.specs.declared.grammar.Pattern.TheBlock.{shape-the_row-Pattern-0, hidden-the_row-Pattern-0}
use denote.Hole.Carrier.{hidden}
use Rattle.sel_grammar.specs.PlainTrees.{PlainTree, Node0, Node1, Node2}
use Rattle.sel_grammar.specs.Derivations.{Derivation, Deriv, Derivations, no_more, more, Derives, cost, list}

abbrev rule : ℕ → Pattern → ℕ → Rule
rule n p c = record { left = n; pattern = p; template = record { parts = [] }; cost = record { first = c; second = 0 }; range = None; external = None; line = 1; column = 1 }

-- X is 0, U is 1, P is 2; s is 0, a is 1
abbrev g : Grammar
g = record {
  start = 0;
  operators = [];
  nonterminals = [];
  rules = rule 0 (Binary 2 (Unary 1 (Leaf 1)) (Binary 2 (Unary 1 (Leaf 1)) (Leaf 1))) 1 ∷ rule 1 (Nullary 0) 0 ∷ [];
}

abbrev x : PlainTree
x = Node0 0 Absent

abbrev t : PlainTree
t = Node2 2 Absent (Node1 1 Absent x) (Node2 2 Absent (Node1 1 Absent x) x)

abbrev d : Derivation
d = Deriv 1 (more (Deriv 2 no_more) (more (Deriv 2 no_more) (more (Deriv 2 no_more) no_more)))

derives_x : Derives g (Deriv 2 no_more) 1 x
derives_x = (rule 1 (Nullary 0) 0, refl, refl, ([], refl, tt))

pub derives_t : Derives g d 0 t
unfolding shape-the_row-Pattern-0 hidden-the_row-Pattern-0 hidden
derives_t = (rule 0 (Binary 2 (Unary 1 (Leaf 1)) (Binary 2 (Unary 1 (Leaf 1)) (Leaf 1))) 1, refl, refl, (x ∷ x ∷ x ∷ [], refl, (derives_x, (derives_x, (derives_x, tt)))))

pub costs_one : cost g d ≡ record { first = 1; second = pos 0 }
costs_one = refl

pub listed : list d ≡ 1 ∷ 2 ∷ 2 ∷ 2 ∷ []
listed = refl
