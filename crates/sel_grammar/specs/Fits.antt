-- Where a rule's pattern lies over a tree.
use Rattle.std.specs.Prelude.{ℕ, Bool, true, false, ◌&&◌, ◌==◌, if◌then◌else◌, Option, Some, None, List, [], ◌∷◌, ◌++◌, slice_get}
use Rattle.std.specs.Prelude.{int_le}
use Rattle.std.proofs.Common.{zero, suc}
use Rattle.sel_base.specs.declared.range.Range.{Range}
use Rattle.sel_grammar.specs.declared.grammar.Attribute.{Attribute}
use Rattle.sel_grammar.specs.declared.grammar.Attribute.TheVariants.{Number}
use Rattle.sel_grammar.specs.declared.grammar.Grammar.{Grammar}
use Rattle.sel_grammar.specs.declared.grammar.Rule.{Rule}
use Rattle.sel_grammar.specs.declared.grammar.Pattern.{Pattern, Leaf, Nullary, Unary', Binary', end_of-Pattern, more_of-Pattern}
use Rattle.sel_grammar.specs.PlainTrees.{PlainTree, Node0, Node1, Node2, attribute_of}

-- the nonterminals of a pattern from left to right
abbrev pub leaves : Pattern → List ℕ
leaves (Leaf n) = n ∷ []
leaves (Nullary op) = []
leaves (Unary' op s (more_of-Pattern p end_of-Pattern)) = leaves p
leaves (Binary' op s (more_of-Pattern p end_of-Pattern) s' (more_of-Pattern q end_of-Pattern)) = leaves p ++ leaves q

-- both lists, one after the other, where there are two
abbrev pub joined : Option (List PlainTree) → Option (List PlainTree) → Option (List PlainTree)
joined (Some xs) (Some ys) = Some (xs ++ ys)
joined _ _ = None

-- the subtrees under a pattern's nonterminals from left to right, where the pattern lies over the tree:
-- each operator meets the same operator with the same number of kids
abbrev pub subtrees : Pattern → PlainTree → Option (List PlainTree)
subtrees (Leaf n) t = Some (t ∷ [])
subtrees (Nullary op) (Node0 o a) = if op == o then Some [] else None
subtrees (Unary' op s (more_of-Pattern p end_of-Pattern)) (Node1 o a t) = if op == o then subtrees p t else None
subtrees (Binary' op s (more_of-Pattern p end_of-Pattern) s' (more_of-Pattern q end_of-Pattern)) (Node2 o a t u) =
    if op == o then joined (subtrees p t) (subtrees q u) else None
subtrees _ _ = None

-- a rule with a range needs a number in it
abbrev pub in_range : Option Range → Attribute → Bool
in_range None a = true
in_range (Some r) (Number z) = int_le r.lo z && int_le z r.hi
in_range (Some r) _ = false

-- the subtrees for the kids of a derivation by this rule, where it fits
abbrev pub fits : Rule → PlainTree → Option (List PlainTree)
fits rule t = if in_range rule.range (attribute_of t) then subtrees rule.pattern t else None

-- the rule of a number, from 1
abbrev pub rule_at : Grammar → ℕ → Option Rule
rule_at g zero = None
rule_at g (suc k) = slice_get g.rules k
