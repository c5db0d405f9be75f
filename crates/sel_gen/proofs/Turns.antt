-- One turn of a tree's growth.
use Rattle.std.proofs.Common.{◌≡◌, ℕ, suc, ◌+◌, ◌-◌, ◌*◌, ◌%◌, ◌<◌, ◌≤◌, List, [], ◌∷◌, ◌++◌, length, reverse, refl, ap, sym, ◌∙◌, subst, arith, append_assoc, Some, slice_get, length-append}
use Rattle.std.proofs.lemmas.List.{reverse-append, reverse-reverse}
use Rattle.std.specs.List.{sum}
use Rattle.rand_pcg.specs.Lcg.{Lcg}
use Rattle.sel_base.specs.declared.range.Range.{Range}
use Rattle.std.specs.Prelude.{Option}
use Rattle.sel_grammar.specs.declared.grammar.Attribute.TheVariants.{Absent}
use Rattle.sel_grammar.specs.declared.grammar.Grammar.{Grammar}
use Rattle.sel_grammar.specs.declared.grammar.Rule.{Rule}
use Rattle.sel_grammar.specs.Fits.{leaves}
use Rattle.sel_grammar.specs.Lawful.{HasOperator, IsLawful, names_of}
use Rattle.sel_grammar.specs.Limits.{most_names}
use Rattle.sel_grammar.specs.PlainTrees.{PlainTree, Node0, Node1, Node2, size}
use Rattle.sel_forest.specs.declared.forest.Node.{Node}
use Rattle.sel_forest.specs.Postorder.{postorder}
use Rattle.sel_forest.specs.Valid.{Takes, IsOperatorOf, IsAttribute}
use Rattle.sel_forest.proofs.Matching.{some_same}
use Rattle.sel_forest.proofs.Roots.{length-postorder}
use Rattle.sel_gen.specs.declared.tasks.Task.{Task}
use Rattle.sel_gen.specs.declared.tasks.Task.TheVariants.{Derive, Draw, Wrap, Join}
use Rattle.sel_gen.specs.Sizes.{Sizes, size_at, rule_size}
use Rattle.sel_gen.specs.Made.{word, behind, attribute_by, candidates, leaf_sizes, shared, IsMade}
use Rattle.sel_gen.specs.Growing.{steps, IsSpread, IsDerived, laid, roots_of, AreOver, Finishes, LeaveOne, weights, IsGrowing, HasGrown}
use Rattle.sel_gen.proofs.Steps.{LeaveOne-steps, Finishes-steps, AreEnough, AreReady-append, AreReady-steps, weights-append, weights-steps}
use Rattle.sel_gen.proofs.Levels.{in_levels}
use Rattle.sel_gen.proofs.Lowered.{rule_size_of}
use Rattle.sel_gen.proofs.Candidates.{IsCandidate, drawn_candidate, leaf_sum_is, shared_sum, shared_enough}

operator_of : (g : Grammar) (op kids : ℕ) → HasOperator g op kids → IsOperatorOf g op kids
operator_of g op kids (operator, there, arity) = (operator, there, subst (λ a. Takes a kids) (sym arity) refl)

-- the nodes of whole trees
length-laid : (t : PlainTree) (ts : List PlainTree) → length (laid (t ∷ ts)) ≡ length (laid ts) + size t
length-laid t ts = length-append (laid ts) (postorder (length (laid ts)) t) ∙ ap (λ n. length (laid ts) + n) (length-postorder t (length (laid ts)))

module _ (g : Grammar) (sizes : Sizes) (budget : ℕ) (before : Lcg) where
  pub begun : (k : ℕ) (words : Lcg) → before ≡ words → size_at sizes g.start ≡ Some k → k ≤ budget → IsGrowing g sizes budget before (Derive g.start budget ∷ []) words [] []
  begun k words same at le = record {
    trees = [];
    nodes_are = refl;
    roots_are = refl;
    over = tt;
    ready = ((k, at, le), tt);
    one = refl;
    light = omega arith;
    whole = λ t after h. let (u, between, made, w) = h in first t u after between made w.0 w.1;
  }
    where
      first : (t u : PlainTree) (after between : Lcg) → IsMade g sizes g.start budget words u between → u ∷ [] ≡ t ∷ [] → between ≡ after → IsMade g sizes g.start budget before t after
      first t u after between made e q =
          let same_tree : u ≡ t = cc in
          subst (λ w. IsMade g sizes g.start budget w t after) (sym same)
          (subst (λ x. IsMade g sizes g.start budget words x after) same_tree (subst (λ w. IsMade g sizes g.start budget words u w) q made))

  pub ended : (words : Lcg) (nodes : List Node) (roots : List ℕ) → IsGrowing g sizes budget before [] words nodes roots → HasGrown g sizes budget before words nodes
  ended words nodes roots h = go h.trees h.one h.nodes_are h.over h.whole
    where
      go : (ts : List PlainTree) → length ts ≡ 1 → nodes ≡ laid ts → AreOver g ts → ((t : PlainTree) (after : Lcg) → Finishes (IsMade g sizes) [] ts words t after → IsMade g sizes g.start budget before t after)
          → HasGrown g sizes budget before words nodes
      go [] one are over whole = absurd (omega arith)
      go (t ∷ u ∷ ts) one are over whole = absurd (omega arith)
      go (t ∷ []) one are over whole = record { tree = t; made = whole t words (refl, refl); postorder_is = are; over = over.0; small = let l = h.light in omega arith }

  module _ (words : Lcg) (nodes : List Node) (roots : List ℕ) (rest : List Task) where
    -- an operator without kids
    pub drawn : (op : ℕ) (range : Option Range) (nodes' : List Node) (roots' : List ℕ) → IsGrowing g sizes budget before (Draw op range ∷ rest) words nodes roots → IsAttribute (attribute_by range (word words))
        → nodes' ≡ nodes ++ record { operator = op; kids = 0; left = 0; right = 0; attribute = attribute_by range (word words) } ∷ [] → roots' ≡ roots ++ length nodes ∷ []
        → IsGrowing g sizes budget before rest (behind words) nodes' roots'
    drawn op range nodes' roots' h lawful more root = record {
      trees = Node0 op (attribute_by range (word words)) ∷ h.trees;
      nodes_are = more ∙ ap (λ x. x ++ record { operator = op; kids = 0; left = 0; right = 0; attribute = attribute_by range (word words) } ∷ []) h.nodes_are;
      roots_are = root ∙ (λ i. h.roots_are i ++ at i ∷ []);
      over = ((operator_of g op 0 (h.ready.0).0, lawful), h.over);
      ready = h.ready.1;
      one = h.one;
      light = let l = h.light in let m = ap length more ∙ length-append nodes (record { operator = op; kids = 0; left = 0; right = 0; attribute = attribute_by range (word words) } ∷ []) in omega arith;
      whole = h.whole;
    }
      where
        at : length nodes ≡ length (laid h.trees) + 1 - 1
        at = let e = ap length h.nodes_are in omega arith

    -- an operator over the last tree
    pub wrapped : (op : ℕ) (nodes' : List Node) (roots' : List ℕ) → IsGrowing g sizes budget before (Wrap op ∷ rest) words nodes roots
        → ((below : List ℕ) (left : ℕ) → roots ≡ below ++ left ∷ [] → (nodes' ≡ nodes ++ record { operator = op; kids = 1; left = left; right = 0; attribute = Absent } ∷ []) × (roots' ≡ below ++ length nodes ∷ []))
        → IsGrowing g sizes budget before rest words nodes' roots'
    wrapped op nodes' roots' h closes = go h.trees h.nodes_are h.roots_are h.over h.one h.whole
      where
        go : (ts : List PlainTree) → nodes ≡ laid ts → roots ≡ roots_of ts → AreOver g ts → LeaveOne (Wrap op ∷ rest) (length ts)
            → ((t : PlainTree) (after : Lcg) → Finishes (IsMade g sizes) (Wrap op ∷ rest) ts words t after → IsMade g sizes g.start budget before t after) → IsGrowing g sizes budget before rest words nodes' roots'
        go [] are roots_are over one whole = absurd one
        go (u ∷ ts) are roots_are over one whole =
            let base = length (laid ts) in
            let node : Node = record { operator = op; kids = 1; left = length (laid ts) + size u - 1; right = 0; attribute = Absent } in
            let c = closes (roots_of ts) (length (laid ts) + size u - 1) roots_are in
            let at : length nodes ≡ length (laid ts) + (size u + 1) - 1 = let e = ap length are ∙ length-laid u ts in omega arith in
            record {
              trees = Node1 op Absent u ∷ ts;
              nodes_are = c.0 ∙ ap (λ x. x ++ record { operator = op; kids = 1; left = length (laid ts) + size u - 1; right = 0; attribute = Absent } ∷ []) are ∙ append_assoc (laid ts) (postorder (length (laid ts)) u) (record { operator = op; kids = 1; left = length (laid ts) + size u - 1; right = 0; attribute = Absent } ∷ []);
              roots_are = c.1 ∙ ap (λ n. roots_of ts ++ n ∷ []) at;
              over = ((operator_of g op 1 h.ready.0, tt, over.0), over.1);
              ready = h.ready.1;
              one = one;
              light = let l = h.light in let m = ap length c.0 ∙ length-append nodes (record { operator = op; kids = 1; left = length (laid ts) + size u - 1; right = 0; attribute = Absent } ∷ []) in omega arith;
              whole = whole;
            }

    -- an operator over the last two trees
    pub joined : (op : ℕ) (nodes' : List Node) (roots' : List ℕ) → IsGrowing g sizes budget before (Join op ∷ rest) words nodes roots
        → ((below : List ℕ) (left right : ℕ) → roots ≡ (below ++ left ∷ []) ++ right ∷ [] → (nodes' ≡ nodes ++ record { operator = op; kids = 2; left = left; right = right; attribute = Absent } ∷ []) × (roots' ≡ below ++ length nodes ∷ []))
        → IsGrowing g sizes budget before rest words nodes' roots'
    joined op nodes' roots' h closes = go h.trees h.nodes_are h.roots_are h.over h.one h.whole
      where
        go : (ts : List PlainTree) → nodes ≡ laid ts → roots ≡ roots_of ts → AreOver g ts → LeaveOne (Join op ∷ rest) (length ts)
            → ((t : PlainTree) (after : Lcg) → Finishes (IsMade g sizes) (Join op ∷ rest) ts words t after → IsMade g sizes g.start budget before t after) → IsGrowing g sizes budget before rest words nodes' roots'
        go [] are roots_are over one whole = absurd one
        go (v ∷ []) are roots_are over one whole = absurd one
        go (v ∷ u ∷ ts) are roots_are over one whole =
            let base = length (laid ts) in
            let long : length (laid (u ∷ ts)) ≡ length (laid ts) + size u = length-laid u ts in
            let node : Node = record { operator = op; kids = 2; left = length (laid ts) + size u - 1; right = length (laid ts) + size u + size v - 1; attribute = Absent } in
            let c = closes (roots_of ts) (length (laid ts) + size u - 1) (length (laid ts) + size u + size v - 1) (roots_are ∙ ap (λ n. (roots_of ts ++ (length (laid ts) + size u - 1) ∷ []) ++ (n + size v - 1) ∷ []) long) in
            let at : length nodes ≡ length (laid ts) + (size u + size v + 1) - 1 = let e = ap length are ∙ length-laid v (u ∷ ts) in omega arith in
            record {
              trees = Node2 op Absent u v ∷ ts;
              nodes_are = c.0 ∙ ap (λ x. x ++ node ∷ []) (are ∙ ap (λ n. (laid ts ++ postorder (length (laid ts)) u) ++ postorder n v) long)
                  ∙ append_assoc (laid ts ++ postorder (length (laid ts)) u) (postorder (length (laid ts) + size u) v) (node ∷ [])
                  ∙ append_assoc (laid ts) (postorder (length (laid ts)) u) (postorder (length (laid ts) + size u) v ++ node ∷ []);
              roots_are = c.1 ∙ ap (λ n. roots_of ts ++ n ∷ []) at;
              over = ((operator_of g op 2 h.ready.0, tt, (over.1).0, over.0), (over.1).1);
              ready = h.ready.1;
              one = one;
              light = let l = h.light in let m = ap length c.0 ∙ length-append nodes (node ∷ []) in omega arith;
              whole = whole;
            }

    -- a rule that is drawn, and spread
    pub derived : (n b : ℕ) (rule : Rule) (after : Lcg) (old new : List Task) → IsLawful g → IsCandidate sizes n b rule → (number : ℕ) → slice_get g.rules number ≡ Some rule → (size : ℕ) → rule_size sizes rule ≡ Some size → size ≤ b
        → slice_get (candidates g sizes n b) (word words % length (candidates g sizes n b)) ≡ Some rule → IsSpread sizes rule (b - size) (behind words) after old new
        → IsGrowing g sizes budget before (Derive n b ∷ reverse old) words nodes roots
        → IsGrowing g sizes budget before (reverse new) after nodes roots × (weights (reverse new) < weights (Derive n b ∷ reverse old))
    derived n b rule after old new lawful is number there size size_is within drawn spread h =
        let todo : reverse new ≡ steps rule.range rule.pattern spread.shares ++ reverse old =
        ap reverse spread.pushed ∙ reverse-append old (reverse (steps rule.range rule.pattern spread.shares)) ∙ ap (λ x. x ++ reverse old) (reverse-reverse (steps rule.range rule.pattern spread.shares)) in
        let own = lawful.rules number rule there in
        let (kids, sums, count) = rule_size_of sizes rule size size_is in
        let given : (shared (leaf_sizes sizes rule.pattern) (b - size) (behind words)).0 ≡ spread.shares = ap (λ (x : List ℕ × Lcg). x.0) spread.sharing in
        let most : sum spread.shares ≤ sum (leaf_sizes sizes rule.pattern) + (b - size) = subst (λ x. sum x ≤ sum (leaf_sizes sizes rule.pattern) + (b - size)) given (shared_sum (leaf_sizes sizes rule.pattern) (b - size) (behind words)) in
        let total = leaf_sum_is sizes rule size size_is in
        let names : names_of rule.pattern ≤ most_names = own.names in
        let heavy = weights-steps rule.range rule.pattern spread.shares in
        let less : weights (steps rule.range rule.pattern spread.shares) < 64 * b = omega arith in
        let sum_weights = weights-append (steps rule.range rule.pattern spread.shares) (reverse old) in
        let lighter : weights (steps rule.range rule.pattern spread.shares ++ reverse old) < weights (Derive n b ∷ reverse old) = omega arith in
        let ready = AreReady-append g sizes (steps rule.range rule.pattern spread.shares) (reverse old)
        (AreReady-steps g sizes rule.range rule.pattern spread.shares own.pattern is.usable (subst (AreEnough sizes (leaves rule.pattern)) given (shared_enough sizes (leaves rule.pattern) kids (b - size) (behind words) sums))) h.ready.1 in
        let growing : IsGrowing g sizes budget before (steps rule.range rule.pattern spread.shares ++ reverse old) after nodes roots = record {
          trees = h.trees;
          nodes_are = h.nodes_are;
          roots_are = h.roots_are;
          over = h.over;
          ready = ready;
          one = LeaveOne-steps rule.range rule.pattern spread.shares (reverse old) (length h.trees) h.one;
          light = let l = h.light in omega arith;
          whole = λ t last f.
              let (u, between, filled, others) = Finishes-steps (IsMade g sizes) rule.range rule.pattern spread.shares (reverse old) h.trees after t last f in
              let (levels, in_them) = in_levels g sizes rule.range rule.pattern spread.shares after u between filled in
              h.whole t last (u, between, (suc levels, record { rule = rule; size = size; drawn = drawn; size_is = size_is; shares = spread.shares; between = after; sharing = spread.sharing; filled = in_them }), others);
        } in
        (subst (λ x. IsGrowing g sizes budget before x after nodes roots) (sym todo) growing, subst (λ x. weights x < weights (Derive n b ∷ reverse old)) (sym todo) lighter)

    pub derived_by : (n b : ℕ) (after : Lcg) (old new : List Task) → IsLawful g → IsDerived g sizes n b words after old new → IsGrowing g sizes budget before (Derive n b ∷ reverse old) words nodes roots
        → IsGrowing g sizes budget before (reverse new) after nodes roots × (weights (reverse new) < weights (Derive n b ∷ reverse old))
    derived_by n b after old new lawful d h =
        let is = drawn_candidate g sizes n b (word words % length (candidates g sizes n b)) d.rule d.drawn in
        let same : is.size ≡ d.size = some_same (sym is.size_is ∙ d.size_is) in
        derived n b d.rule after old new lawful is d.number d.there d.size d.size_is (subst (λ x. x ≤ b) same is.within) d.drawn d.spread h
