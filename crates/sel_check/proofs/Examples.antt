-- A worked case: the rules 1 `a: b ""`, 2 `a: X "" 1` and 3 `b: X "" 1` on the tree X, whose best list is 1 3 and whose cost is 1.
use Rattle.std.proofs.Common.{◌≡◌, ℕ, zero, suc, ◌⊎◌, inl, inr, [], ◌∷◌, ◌++◌, ◌+◌, ◌<◌, refl, ap, sym, ◌∙◌, subst, Some, None, pos, arith}
use Rattle.sel_grammar.specs.declared.grammar.Attribute.TheVariants.{Absent}
use Rattle.sel_grammar.specs.declared.grammar.Grammar.{Grammar}
use Rattle.sel_grammar.specs.declared.grammar.Rule.{Rule}
use Rattle.sel_grammar.specs.declared.grammar.Pattern.{Pattern, Leaf, Nullary}
use Rattle.sel_grammar.specs.Costs.{Cost, ◌⊕◌, no_cost, IsCheaper, price}
use Rattle.sel_grammar.specs.PlainTrees.{PlainTree, Node0, Node1, Node2}
use Rattle.sel_grammar.specs.Derivations.{Derivation, Deriv, no_more, more, Derives, cost}
use Rattle.sel_grammar.proofs.Words.{lists_are_words}
use Rattle.sel_forest.specs.declared.forest.Tree.{Tree}
use Rattle.sel_forest.specs.Postorder.{IsPostorderOf}
use Rattle.sel_forest.specs.Places.{goals}
use Rattle.sel_forest.proofs.Matching.{some_same, some_none}
use Rattle.sel_plain.specs.NodeCosts.{NodeCosts}
use Rattle.sel_check.specs.Certificates.{claim, claimed, IsAtMost, BoundsAt, Bounds, IsShown, Proves}

abbrev rule : ℕ → Pattern → ℕ → Rule
rule n p c = record { left = n; pattern = p; template = record { parts = [] }; cost = record { first = c; second = 0 }; range = None; external = None; line = 1; column = 1 }

-- X is 0; a is 0, b is 1
abbrev g : Grammar
g = record { start = 0; operators = []; nonterminals = []; rules = rule 0 (Leaf 1) 0 ∷ rule 0 (Nullary 0) 1 ∷ rule 1 (Nullary 0) 1 ∷ [] }

abbrev x : PlainTree
x = Node0 0 Absent

abbrev tree : Tree
tree = record { nodes = record { operator = 0; kids = 0; left = 0; right = 0; attribute = Absent } ∷ [] }

spelled : IsPostorderOf tree x
spelled = refl

abbrev costs_of : ℕ → ℕ → NodeCosts
costs_of a b = (Some (record { first = a; second = pos 0 }) ∷ Some (record { first = b; second = pos 0 }) ∷ []) ∷ []

abbrev one : Cost
one = record { first = 1; second = pos 0 }

abbrev d : Derivation
d = Deriv 1 (more (Deriv 3 no_more) no_more)

derives : Derives g d 0 x
derives = (rule 0 (Leaf 1) 0, refl, refl, (x ∷ [], refl, ((rule 1 (Nullary 0) 1, refl, refl, ([], refl, tt)), tt)))

module _ (k : ℕ) where
  abbrev same : Cost
  same = record { first = k; second = pos 0 }

  -- both claims are k, which is at most 1
  bounds_by : (IsAtMost (Some same) one) → Bounds g tree (costs_of k k)
  bounds_by most (suc i) r q (Node0 op a) ts c at (node, get, is, kids, of) fit sum = absurd (some_none (sym get))
  bounds_by most (suc i) r q (Node1 op a t) ts c at (node, get, is, kids, of, w) fit sum = absurd (some_none (sym get))
  bounds_by most (suc i) r q (Node2 op a t u) ts c at (node, get, is, kids, of, w) fit sum = absurd (some_none (sym get))
  bounds_by most zero zero q t ts c at stands fit sum = absurd (some_none (sym at))
  bounds_by most zero (suc zero) q t ts c at stands fit sum =
      subst (λ (q : Rule). claimed (costs_of k k) (goals q.pattern tree.nodes 0) ≡ Some c → IsAtMost (claim (costs_of k k) (record { at = 0; nonterminal = q.left })) (price q ⊕ c)) (some_same at)
      (λ sum. subst (λ (c : Cost). (same ≡ (price (rule 0 (Leaf 1) 0) ⊕ c)) ⊎ IsCheaper same (price (rule 0 (Leaf 1) 0) ⊕ c)) (some_same sum) (inl (λ i. record { first = k_none i; second = pos 0 }))) sum
    where
      k_none : k ≡ 0 + (k + 0)
      k_none = omega arith
  bounds_by most zero (suc (suc zero)) q t ts c at stands fit sum =
      subst (λ (q : Rule). claimed (costs_of k k) (goals q.pattern tree.nodes 0) ≡ Some c → IsAtMost (claim (costs_of k k) (record { at = 0; nonterminal = q.left })) (price q ⊕ c)) (some_same at)
      (λ sum. subst (λ (c : Cost). (same ≡ (price (rule 0 (Nullary 0) 1) ⊕ c)) ⊎ IsCheaper same (price (rule 0 (Nullary 0) 1) ⊕ c)) (some_same sum) most) sum
  bounds_by most zero (suc (suc (suc zero))) q t ts c at stands fit sum =
      subst (λ (q : Rule). claimed (costs_of k k) (goals q.pattern tree.nodes 0) ≡ Some c → IsAtMost (claim (costs_of k k) (record { at = 0; nonterminal = q.left })) (price q ⊕ c)) (some_same at)
      (λ sum. subst (λ (c : Cost). (same ≡ (price (rule 1 (Nullary 0) 1) ⊕ c)) ⊎ IsCheaper same (price (rule 1 (Nullary 0) 1) ⊕ c)) (some_same sum) most) sum
  bounds_by most zero (suc (suc (suc (suc r)))) q t ts c at stands fit sum = absurd (some_none (sym at))

-- the claims 1 and 1 with the list 1 3 are a proof
pub proved : Proves g tree x (costs_of 1 1) (Some (1 ∷ 3 ∷ []))
proved = record { bounds = bounds_by 1 (inl refl); shown = record { derivation = d; derives = derives; list_is = refl; cost_is = refl } }

-- the claims 2 and 1 don't bound rule 1 at the one node
pub unbound : BoundsAt g tree (costs_of 2 1) 0 → ⊥
unbound h = go (h 1 (rule 0 (Leaf 1) 0) x (x ∷ []) one refl (record { operator = 0; kids = 0; left = 0; right = 0; attribute = Absent }, refl, refl, refl, refl) refl refl)
  where
    two : (n : ℕ) → n ≡ 2 → n ≡ 1 → ⊥
    two n q e = absurd (omega arith)

    less : (n : ℕ) → n ≡ 2 → n < 1 → ⊥
    less n q e = absurd (omega arith)

    go : IsAtMost (Some (record { first = 2; second = pos 0 })) one → ⊥
    go (inl e) = two 2 refl (ap (λ (c : Cost). c.first) e)
    go (inr (inl h)) = less 2 refl h
    go (inr (inr h)) = two 2 refl h.0

-- the claims 0 and 0 bound each rule
pub bound_none : Bounds g tree (costs_of 0 0)
bound_none = bounds_by 0 (inr (inl (omega arith)))

-- but the list 1 3 doesn't show a cost of 0
pub not_shown : IsShown g x (Some no_cost) (Some (1 ∷ 3 ∷ [])) → ⊥
not_shown h = none 0 refl (ap (λ (c : Cost). c.first) (h.cost_is ∙ ap (cost g) (lists_are_words g 0 x h.derivation d [] [] h.derives derives (ap (λ xs. xs ++ []) h.list_is)).0))
  where
    none : (n : ℕ) → n ≡ 0 → n ≡ 1 → ⊥
    none n q e = absurd (omega arith)
