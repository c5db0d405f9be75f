-- Sums of claims, as the walk over a pattern adds them.
use Rattle.std.proofs.Common.{◌≡◌, ℕ, ◌+◌, ◌<◌, ◌≤◌, Option, Some, None, List, [], ◌∷◌, ◌++◌, refl, ap, sym, ◌∙◌, subst, arith, ℤ, pos, ◌+ℤ◌, ◌≤ℤ◌, slice_get}
use Rattle.std.specs.Prelude.{IfSome}
use Rattle.std.proofs.lemmas.Int.{ints}
use Rattle.sqlite_items.specs.declared.boxed.Boxed.{Boxed}
use Rattle.sel_grammar.specs.declared.grammar.Pattern.{Pattern, Leaf, Unary, Binary}
use Rattle.sel_grammar.specs.declared.grammar.Pattern.TheBlock.{shape-the_row-Pattern-0, hidden-the_row-Pattern-0}
use denote.Hole.Carrier.{hidden}
use Rattle.sel_grammar.specs.Costs.{Cost, no_cost, ◌⊕◌}
use Rattle.sel_grammar.specs.Lawful.{names_of}
use Rattle.sel_grammar.specs.SmallCosts.{IsSmall}
use Rattle.sel_grammar.proofs.CostLaws.{sum_none, sum_before, sum_assoc}
use Rattle.sel_forest.specs.declared.forest.Node.{Node}
use Rattle.sel_forest.specs.declared.walk.Goal.{Goal}
use Rattle.sel_forest.specs.Places.{goals, of_node}
use Rattle.sel_forest.proofs.PlaceLemmas.{goals_unary, goals_binary}
use Rattle.sel_plain.specs.NodeCosts.{NodeCosts}
use Rattle.sel_check.specs.Certificates.{claim, both, claimed}
use Rattle.sel_check.specs.CertificateTexts.{greatest_claim, HasSmallClaims}

one_claim : (o : Option Cost) → o ≡ both o (Some no_cost)
one_claim None = refl
one_claim (Some a) = ap Some (sum_none a)

none_first : (o : Option Cost) → o ≡ both (Some no_cost) o
none_first None = refl
none_first (Some a) = ap Some (sum_before a)

both_assoc : (o p q : Option Cost) → both (both o p) q ≡ both o (both p q)
both_assoc None p q = refl
both_assoc (Some a) None q = refl
both_assoc (Some a) (Some b) None = refl
both_assoc (Some a) (Some b) (Some c) = ap Some (sum_assoc a b c)

claimed-append : (costs : NodeCosts) (xs ys : List Goal) → claimed costs (xs ++ ys) ≡ both (claimed costs xs) (claimed costs ys)
claimed-append costs [] ys = none_first (claimed costs ys)
claimed-append costs (x ∷ xs) ys = ap (both (claim costs x)) (claimed-append costs xs ys) ∙ sym (both_assoc (claim costs x) (claimed costs xs) (claimed costs ys))

-- the sum at each form of a pattern
pub leaf_sum : (costs : NodeCosts) (pattern : Pattern) (n : ℕ) (nodes : List Node) (i : ℕ) (r : Option Cost) → pattern ≡ Leaf n → r ≡ claim costs (record { at = i; nonterminal = n })
    → r ≡ claimed costs (goals pattern nodes i)
leaf_sum costs pattern n nodes i r is e = e ∙ one_claim (claim costs (record { at = i; nonterminal = n })) ∙ ap (λ p. claimed costs (goals p nodes i)) (sym is)

pub unary_sum : (costs : NodeCosts) (pattern : Pattern) (op : ℕ) (b : Boxed Pattern) (p : Pattern) (node : Node) (nodes : List Node) (i : ℕ) (r : Option Cost)
    → pattern ≡ Unary op b → Some node ≡ slice_get nodes i → p ≡ b → r ≡ claimed costs (goals p nodes node.left) → r ≡ claimed costs (goals pattern nodes i)
unary_sum costs pattern op b p node nodes i r is here q e =
    e ∙ ap (claimed costs) (ap (λ x. goals x nodes node.left) q ∙ ap (λ o. of_node o (λ node. goals b nodes node.left)) here ∙ sym (goals_unary op b nodes i) ∙ ap (λ x. goals x nodes i) (sym is))

pub binary_sum : (costs : NodeCosts) (pattern : Pattern) (op : ℕ) (b b' : Boxed Pattern) (p p' : Pattern) (node : Node) (nodes : List Node) (i : ℕ) (r s t : Option Cost)
    → pattern ≡ Binary op b b' → Some node ≡ slice_get nodes i → p ≡ b → p' ≡ b' → s ≡ claimed costs (goals p nodes node.left) → t ≡ claimed costs (goals p' nodes node.right) → r ≡ both s t
    → r ≡ claimed costs (goals pattern nodes i)
binary_sum costs pattern op b b' p p' node nodes i r s t is here q q' e f h =
    h ∙ (λ j. both (e j) (f j)) ∙ sym (claimed-append costs (goals p nodes node.left) (goals p' nodes node.right))
    ∙ ap (claimed costs) ((λ j. goals (q j) nodes node.left ++ goals (q' j) nodes node.right)
    ∙ ap (λ o. of_node o (λ node. goals b nodes node.left ++ goals b' nodes node.right)) here ∙ sym (goals_binary op b b' nodes i) ∙ ap (λ x. goals x nodes i) (sym is))

pub unary_none_sum : (costs : NodeCosts) (pattern : Pattern) (op : ℕ) (b : Boxed Pattern) (nodes : List Node) (i : ℕ) (c : Cost) → pattern ≡ Unary op b → None ≡ slice_get nodes i → c ≡ no_cost
    → Some c ≡ claimed costs (goals pattern nodes i)
unary_none_sum costs pattern op b nodes i c is here e =
    ap Some e ∙ ap (claimed costs) (ap (λ o. of_node o (λ node. goals b nodes node.left)) here ∙ sym (goals_unary op b nodes i) ∙ ap (λ x. goals x nodes i) (sym is))

pub binary_none_sum : (costs : NodeCosts) (pattern : Pattern) (op : ℕ) (b b' : Boxed Pattern) (nodes : List Node) (i : ℕ) (c : Cost) → pattern ≡ Binary op b b' → None ≡ slice_get nodes i → c ≡ no_cost
    → Some c ≡ claimed costs (goals pattern nodes i)
binary_none_sum costs pattern op b b' nodes i c is here e =
    ap Some e ∙ ap (claimed costs) (ap (λ o. of_node o (λ node. goals b nodes node.left ++ goals b' nodes node.right)) here ∙ sym (goals_binary op b b' nodes i) ∙ ap (λ x. goals x nodes i) (sym is))

names_over_unary : (op : ℕ) (p : Boxed Pattern) → names_of (Unary op p) ≡ 1 + names_of p
unfolding shape-the_row-Pattern-0 hidden-the_row-Pattern-0 hidden
names_over_unary op p = refl

names_over_binary : (op : ℕ) (p q : Boxed Pattern) → names_of (Binary op p q) ≡ 1 + (names_of p + names_of q)
unfolding shape-the_row-Pattern-0 hidden-the_row-Pattern-0 hidden
names_over_binary op p q = refl

pub names_unary : (pattern : Pattern) (op : ℕ) (b : Boxed Pattern) (p : Pattern) → pattern ≡ Unary op b → p ≡ b → names_of pattern ≡ 1 + names_of p
names_unary pattern op b p is q = ap names_of is ∙ names_over_unary op b ∙ ap (λ x. 1 + names_of x) (sym q)

pub names_binary : (pattern : Pattern) (op : ℕ) (b b' : Boxed Pattern) (p p' : Pattern) → pattern ≡ Binary op b b' → p ≡ b → p' ≡ b' → names_of pattern ≡ 1 + (names_of p + names_of p')
names_binary pattern op b b' p p' is q q' =
    let e : names_of pattern ≡ 1 + (names_of b + names_of b') = ap names_of is ∙ names_over_binary op b b' in
    let f : names_of p ≡ names_of b = ap names_of q in
    let f' : names_of p' ≡ names_of b' = ap names_of q' in
    omega arith

pub names_first : (pattern : Pattern) (op : ℕ) (b b' : Boxed Pattern) (p : Pattern) → pattern ≡ Binary op b b' → p ≡ b → names_of p < names_of pattern
names_first pattern op b b' p is q =
    let e : names_of pattern ≡ 1 + (names_of b + names_of b') = ap names_of is ∙ names_over_binary op b b' in
    let f : names_of p ≡ names_of b = ap names_of q in
    omega arith

-- small sums
pub small_more : (a b : ℕ) (c : Cost) → IsSmall a c → a ≤ b → IsSmall b c
small_more a b c h l = record { first = let f = h.first in omega arith; low = h.low; high = high c.second h.high }
  where
    high : (x : ℤ) → x ≤ℤ pos a → x ≤ℤ pos b
    high x m = omega (arith, ints)

small_sum : (a b : ℕ) (c d : Cost) → IsSmall a c → IsSmall b d → IsSmall (a + b) (c ⊕ d)
small_sum a b c d h k = record { first = let f = h.first in let g = k.first in omega arith; low = low c.second d.second h.low k.low; high = high c.second d.second h.high k.high }
  where
    low : (x y : ℤ) → pos 0 ≤ℤ x → pos 0 ≤ℤ y → pos 0 ≤ℤ (x +ℤ y)
    low x y p q = omega (arith, ints)

    high : (x y : ℤ) → x ≤ℤ pos a → y ≤ℤ pos b → (x +ℤ y) ≤ℤ pos (a + b)
    high x y p q = omega (arith, ints)

pub small_none : (k : ℕ) → IsSmall k no_cost
small_none k = record { first = omega arith; low = omega (arith, ints); high = omega (arith, ints) }

pub some_more : (a b : ℕ) (o : Option Cost) → IfSome o (IsSmall a) → a ≤ b → IfSome o (IsSmall b)
some_more a b None h l = tt
some_more a b (Some c) h l = small_more a b c h l

pub few_claimed : (costs : NodeCosts) (goal : Goal) (o : Option Cost) (k : ℕ) → HasSmallClaims costs → o ≡ claim costs goal → greatest_claim ≤ k → IfSome o (IsSmall k)
few_claimed costs goal None k h e l = tt
few_claimed costs goal (Some c) k h e l = small_more greatest_claim k c (h goal.at goal.nonterminal c (sym e)) l

pub few_both : (a b k : ℕ) (o p q : Option Cost) → IfSome o (IsSmall a) → IfSome p (IsSmall b) → q ≡ both o p → a + b ≤ k → IfSome q (IsSmall k)
few_both a b k o p q h m e l = subst (λ x. IfSome x (IsSmall k)) (sym e) (go o p h m)
  where
    go : (o p : Option Cost) → IfSome o (IsSmall a) → IfSome p (IsSmall b) → IfSome (both o p) (IsSmall k)
    go None p h m = tt
    go (Some c) None h m = tt
    go (Some c) (Some d) h m = small_more (a + b) k (c ⊕ d) (small_sum a b c d h m) l
