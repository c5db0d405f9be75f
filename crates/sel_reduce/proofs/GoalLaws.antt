-- The goals that a rule's right side leads to stand for its kids.
use Rattle.std.proofs.Common.{◌≡◌, ℕ, suc, ◌+◌, inl, inr, Option, Some, None, Bool, true, false, ◌==◌, if◌then◌else◌, List, [], ◌∷◌, ◌++◌, length, refl, ap, sym, ◌∙◌, subst, slice_get, arith, length-append, append-nil}
use Rattle.sel_grammar.specs.declared.grammar.Grammar.{Grammar}
use Rattle.sel_grammar.specs.declared.grammar.Pattern.{Pattern, Leaf, Nullary, Unary', Binary', end_of-Pattern, more_of-Pattern}
use Rattle.sel_grammar.specs.Costs.{◌⊕◌}
use Rattle.sel_grammar.specs.PlainTrees.{PlainTree, Node0, Node1, Node2}
use Rattle.sel_grammar.specs.Fits.{leaves, subtrees, joined}
use Rattle.sel_grammar.specs.Derivations.{Derivations, no_more, more, costs, lists}
use Rattle.sel_grammar.specs.Firsts.{AllFirst}
use Rattle.sel_grammar.proofs.CostLaws.{sum_none}
use Rattle.sel_grammar.proofs.Kids.{both_kids, costs-both, lists-both}
use Rattle.sel_forest.specs.declared.forest.Node.{Node}
use Rattle.sel_forest.specs.declared.walk.Goal.{Goal}
use Rattle.sel_forest.specs.Places.{IsRootAt, of_node}
use Rattle.sel_normal.specs.Forms.{parts, inner_parts, head, body}
use Rattle.sel_normal.specs.Cuts.{HeadAt, BodyAt}
use Rattle.sel_normal.proofs.Steps.{some_same, some_none}
use Rattle.sel_grammar.proofs.Subtrees.{subtrees_long}
use Rattle.sel_reduce.specs.Goals.{kid_goal, kid_goals, StandsFor, AreBestAt, all_lists, all_costs}
use Rattle.sel_reduce.proofs.Weights.{weights, weight_is}

-- the normal nonterminal that the rules have for a part stands for it
pub head_stands : (g : Grammar) (k : ℕ) (p : Pattern) → HeadAt g k p → StandsFor g (head k p) p
head_stands g k (Leaf n) h = inl (h, refl)
head_stands g k (Nullary op) h = inr h
head_stands g k (Unary' op s (more_of-Pattern p end_of-Pattern)) h = inr h
head_stands g k (Binary' op s (more_of-Pattern p end_of-Pattern) s' (more_of-Pattern q end_of-Pattern)) h = inr h

-- kids of two patterns are kids of each
record Halves (g : Grammar) (es : Derivations) (ns ms : List ℕ) (ts us : List PlainTree) : Type 0 where
  left : Derivations
  right : Derivations
  are : es ≡ both_kids left right
  left_first : AllFirst g left ns ts
  right_first : AllFirst g right ms us

halves : (g : Grammar) (es : Derivations) (ns ms : List ℕ) (ts us : List PlainTree) → length ns ≡ length ts → AllFirst g es (ns ++ ms) (ts ++ us) → Halves g es ns ms ts us
halves g es [] ms [] us q h = record { left = no_more; right = es; are = refl; left_first = tt; right_first = h }
halves g es [] ms (t ∷ ts) us q h = cc
halves g es (n ∷ ns) ms [] us q h = cc
halves g no_more (n ∷ ns) ms (t ∷ ts) us q h = absurd h
halves g (more e es) (n ∷ ns) ms (t ∷ ts) us q h =
    let s = halves g es ns ms ts us (suc_same q) h.1 in
    record { left = more e s.left; right = s.right; are = ap (more e) s.are; left_first = (h.0, s.left_first); right_first = s.right_first }
  where
    suc_same : {a b : ℕ} → suc a ≡ suc b → a ≡ b
    suc_same k = cc

joined_parts : (x y : Option (List PlainTree)) (ts : List PlainTree) → joined x y ≡ Some ts → (us vs : List PlainTree) × (x ≡ Some us) × (y ≡ Some vs) × (ts ≡ us ++ vs)
joined_parts None y ts h = absurd (some_none (sym h))
joined_parts (Some us) None ts h = absurd (some_none (sym h))
joined_parts (Some us) (Some vs) ts h = (us, vs, refl, refl, sym (some_same h))

module _ (g : Grammar) (nodes : List Node) where
  -- the goals stand for these derivations
  pub record AreKidsAt (es : Derivations) (goals : List Goal) (heavy : ℕ) : Type 0 where
    pub kids : List Derivations
    pub for : AreBestAt g nodes kids goals
    pub listed : lists es ≡ all_lists kids
    pub costed : costs g es ≡ all_costs g kids
    pub weighed : weights g goals ≡ heavy

  -- one goal
  one_goal : (es : Derivations) (at n : ℕ) (tree : PlainTree) (part : Pattern) (under : List PlainTree) → IsRootAt nodes at tree → StandsFor g n part → subtrees part tree ≡ Some under → AllFirst g es (leaves part) under
      → AreKidsAt es (record { at = at; nonterminal = n } ∷ []) (length (parts part))
  one_goal es at n tree part under root stands lies firsts = record {
    kids = es ∷ [];
    for = (record { tree = tree; root = root; part = part; stands = stands; under = under; lies = lies; firsts = firsts }, tt);
    listed = sym (append-nil (lists es));
    costed = sum_none (costs g es);
    weighed = let w = weight_is g n part stands in omega arith;
  }

  -- two goals
  two_goals : (es ds : Derivations) (first second : Goal) (v w : ℕ) → AreKidsAt es (first ∷ []) v → AreKidsAt ds (second ∷ []) w → AreKidsAt (both_kids es ds) (first ∷ second ∷ []) (v + w)
  two_goals es ds first second v w h k = go h.kids k.kids h.for k.for h.listed k.listed h.costed k.costed
    where
      go : (xs ys : List Derivations) → AreBestAt g nodes xs (first ∷ []) → AreBestAt g nodes ys (second ∷ []) → lists es ≡ all_lists xs → lists ds ≡ all_lists ys → costs g es ≡ all_costs g xs → costs g ds ≡ all_costs g ys
          → AreKidsAt (both_kids es ds) (first ∷ second ∷ []) (v + w)
      go [] ys p q l m a b = absurd p
      go (x ∷ x' ∷ xs) ys p q l m a b = absurd p.1
      go (x ∷ []) ys p q l m a b = record {
        kids = x ∷ ys;
        for = (p.0, q);
        listed = lists-both es ds ∙ (λ i. (l ∙ append-nil (lists x)) i ++ m i);
        costed = costs-both g es ds ∙ (λ i. (a ∙ sym (sum_none (costs g x))) i ⊕ b i);
        weighed = let e = h.weighed in let f = k.weighed in omega arith;
      }

  none_goal : (es : Derivations) (under : List PlainTree) → AllFirst g es [] under → AreKidsAt es [] 0
  none_goal no_more [] f = record { kids = []; for = tt; listed = refl; costed = refl; weighed = refl }
  none_goal no_more (t ∷ ts) f = absurd f
  none_goal (more e es) under f = absurd f

  moved : (es : Derivations) (xs ys : List Goal) (heavy : ℕ) → xs ≡ ys → AreKidsAt es xs heavy → AreKidsAt es ys heavy
  moved es xs ys heavy same h = subst (λ x. AreKidsAt es x heavy) same h

  placed : (es ds : Derivations) (o : Option Node) (node : Node) (f : Node → List Goal) (v w : ℕ) → es ≡ ds → o ≡ Some node → v ≡ w → AreKidsAt ds (f node) w → AreKidsAt es (of_node o f) v
  placed es ds o node f v w same is heavy h =
      subst (λ x. AreKidsAt x (of_node o f) v) (sym same) (subst (λ x. AreKidsAt ds x v) (ap (λ x. of_node x f) (sym is)) (subst (λ x. AreKidsAt ds (f node) x) (sym heavy) h))

  at_node : (o : Option Node) (node : Node) (f : Node → List Goal) → o ≡ Some node → f node ≡ of_node o f
  at_node o node f is = ap (λ x. of_node x f) (sym is)

  given : (b : Bool) (o : Option (List PlainTree)) (under : List PlainTree) → (if b then o else None) ≡ Some under → o ≡ Some under
  given true o under h = h
  given false o under h = absurd (some_none (sym h))

  pub kids_at : (k : ℕ) (test : Option ℕ) (p : Pattern) (es : Derivations) (at : ℕ) (tree : PlainTree) (under : List PlainTree) → BodyAt g k p → IsRootAt nodes at tree → subtrees p tree ≡ Some under → AllFirst g es (leaves p) under
      → AreKidsAt es (kid_goals (body k test p) nodes at) (length (inner_parts p))
  kids_at k test (Leaf n) es at tree under b root lies firsts = one_goal es at n tree (Leaf n) under root (inl (b, refl)) lies firsts
  kids_at k test (Nullary op) es at (Node0 o a) under b (node, get, is, none, same) lies firsts = moved es [] (of_node (slice_get nodes at) (λ node. [])) 0 (at_node (slice_get nodes at) node (λ node. []) get) (none_goal es under firsts)
  kids_at k test (Nullary op) es at (Node1 o a t) under b root lies firsts = absurd (some_none (sym lies))
  kids_at k test (Nullary op) es at (Node2 o a t u) under b root lies firsts = absurd (some_none (sym lies))
  kids_at k test (Unary' op s (more_of-Pattern p end_of-Pattern)) es at (Node0 o a) under b root lies firsts = absurd (some_none (sym lies))
  kids_at k test (Unary' op s (more_of-Pattern p end_of-Pattern)) es at (Node1 o a t) under b (node, get, is, one, same, w) lies firsts =
      moved es (record { at = node.left; nonterminal = head k p } ∷ []) (of_node (slice_get nodes at) (λ node. kid_goal node.left (Some (head k p)) ++ [])) (length (parts p))
      (at_node (slice_get nodes at) node (λ node. kid_goal node.left (Some (head k p)) ++ []) get)
      (one_goal es node.left (head k p) t p under w.1 (head_stands g k p b) (given (op == o) (subtrees p t) under lies) firsts)
  kids_at k test (Unary' op s (more_of-Pattern p end_of-Pattern)) es at (Node2 o a t u) under b root lies firsts = absurd (some_none (sym lies))
  kids_at k test (Binary' op s (more_of-Pattern p end_of-Pattern) s' (more_of-Pattern q end_of-Pattern)) es at (Node0 o a) under b root lies firsts = absurd (some_none (sym lies))
  kids_at k test (Binary' op s (more_of-Pattern p end_of-Pattern) s' (more_of-Pattern q end_of-Pattern)) es at (Node1 o a t) under b root lies firsts = absurd (some_none (sym lies))
  kids_at k test (Binary' op s (more_of-Pattern p end_of-Pattern) s' (more_of-Pattern q end_of-Pattern)) es at (Node2 o a t u) under b (node, get, is, two, same, w) lies firsts =
      let second = k + length (parts p) in
      let j = joined_parts (subtrees p t) (subtrees q u) under (given (op == o) (joined (subtrees p t) (subtrees q u)) under lies) in
      let h = halves g es (leaves p) (leaves q) j.0 j.1 (subtrees_long p t j.0 j.2) (subst (λ x. AllFirst g es (leaves p ++ leaves q) x) j.4 firsts) in
      let both = two_goals h.left h.right (record { at = node.left; nonterminal = head k p }) (record { at = node.right; nonterminal = head second q }) (length (parts p)) (length (parts q))
      (one_goal h.left node.left (head k p) t p j.0 w.2 (head_stands g k p b.0) j.2 h.left_first)
      (one_goal h.right node.right (head second q) u q j.1 w.3 (head_stands g second q b.1) j.3 h.right_first) in
      placed es (both_kids h.left h.right) (slice_get nodes at) node (λ node. kid_goal node.left (Some (head k p)) ++ kid_goal node.right (Some (head second q))) (length (parts p ++ parts q)) (length (parts p) + length (parts q))
      h.are get (length-append (parts p) (parts q)) both
