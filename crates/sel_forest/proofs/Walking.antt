-- A list of rule numbers, read number by number against a stack of goals.
use Rattle.std.proofs.Common.{◌≡◌, ℕ, suc, ◌+◌, ◌-◌, ◌<◌, ◌≤◌, Some, None, List, [], ◌∷◌, ◌++◌, refl, ap, sym, ◌∙◌, subst, reverse, append_assoc, length, take, drop, get_or, add-one, drop-cons}
use Rattle.std.proofs.Math.Seq.{take-suc}
use Rattle.std.proofs.Math.ListN.{drop_of_length-le}
use Rattle.std.proofs.lemmas.List.{take-append-drop}
use Rattle.std.proofs.lemmas.List.{reverse-append, reverse-reverse}
use Rattle.sel_grammar.specs.declared.grammar.Grammar.{Grammar}
use Rattle.sel_grammar.specs.declared.grammar.Rule.{Rule}
use Rattle.sel_grammar.specs.declared.grammar.RuleCost.{RuleCost}
use Rattle.sel_grammar.specs.Costs.{Cost, no_cost, ◌⊕◌, paid, price}
use Rattle.sel_grammar.specs.PlainTrees.{PlainTree}
use Rattle.sel_grammar.specs.Fits.{leaves, fits, rule_at}
use Rattle.sel_grammar.specs.Derivations.{Derivation, Deriv, Derivations, no_more, more, Derives, DeriveAll, rule_cost, cost, costs, list, lists}
use Rattle.sel_grammar.proofs.CostLaws.{sum_none, sum_before, sum_assoc}
use Rattle.sel_forest.specs.declared.forest.Node.{Node}
use Rattle.sel_forest.specs.declared.walk.Goal.{Goal}
use Rattle.sel_forest.specs.Postorder.{postorder}
use Rattle.sel_forest.specs.Places.{IsRootAt, goals}
use Rattle.sel_forest.specs.Covers.{IsChecked}
use Rattle.sel_forest.specs.Goals.{DerivesAt, IsRuleFor, AppliesRule}
use Rattle.sel_forest.proofs.PlaceLemmas.{append-none}
use Rattle.sel_forest.proofs.Matching.{some_same, Match, goals_match}
use Rattle.sel_forest.proofs.Lying.{given, fits_is, fits_some, fits_subtrees}
use Rattle.sel_grammar.proofs.Kids.{both_kids, costs-both, lists-both}
use Rattle.sel_forest.proofs.Roots.{same_tree, stands_root}

sums_swap : (t p a b : Cost) → t ⊕ ((p ⊕ a) ⊕ b) ≡ (t ⊕ p) ⊕ (a ⊕ b)
sums_swap t p a b = ap (λ x. t ⊕ x) (sum_assoc p a b) ∙ sym (sum_assoc t p (a ⊕ b))

-- derivations of goals, one by one
abbrev pub ForGoals : Grammar → List Node → Derivations → List Goal → Type 0
ForGoals g nodes no_more [] = Unit {0}
ForGoals g nodes (more d ds) (goal ∷ rest) = DerivesAt g nodes d goal × ForGoals g nodes ds rest
ForGoals g nodes _ _ = ⊥

-- at each goal's node a tree stands
abbrev pub Stand : List Node → List Goal → Type 0
Stand nodes [] = Unit {0}
Stand nodes (goal ∷ rest) = ((t : PlainTree) × IsRootAt nodes goal.at t) × Stand nodes rest

pub Stand-append : (nodes : List Node) (xs ys : List Goal) → Stand nodes xs → Stand nodes ys → Stand nodes (xs ++ ys)
Stand-append nodes [] ys h k = k
Stand-append nodes (x ∷ xs) ys h k = (h.0, Stand-append nodes xs ys h.1 k)

pub Stand-match : (nodes : List Node) (xs : List Goal) (ns : List ℕ) (ts : List PlainTree) → Match nodes xs ns ts → Stand nodes xs
Stand-match nodes [] [] [] h = tt
Stand-match nodes [] [] (t ∷ ts) h = absurd h
Stand-match nodes [] (n ∷ ns) ts h = absurd h
Stand-match nodes (x ∷ xs) [] ts h = absurd h
Stand-match nodes (x ∷ xs) (n ∷ ns) [] h = absurd h
Stand-match nodes (x ∷ xs) (n ∷ ns) (t ∷ ts) h = ((t, h.1), Stand-match nodes xs ns ts h.2)

module _ (g : Grammar) (nodes : List Node) where
  ForGoals-match : (ds : Derivations) (xs : List Goal) (ns : List ℕ) (ts : List PlainTree) → DeriveAll g ds ns ts → Match nodes xs ns ts → ForGoals g nodes ds xs
  ForGoals-match no_more [] [] [] f h = tt
  ForGoals-match no_more (x ∷ xs) [] [] f h = absurd h
  ForGoals-match no_more xs [] (t ∷ ts) f h = absurd f
  ForGoals-match no_more xs (n ∷ ns) ts f h = absurd f
  ForGoals-match (more d ds) xs [] ts f h = absurd f
  ForGoals-match (more d ds) xs (n ∷ ns) [] f h = absurd f
  ForGoals-match (more d ds) [] (n ∷ ns) (t ∷ ts) f h = absurd h
  ForGoals-match (more d ds) (x ∷ xs) (n ∷ ns) (t ∷ ts) f h =
      ((t, (h.1, subst (λ m. Derives g d m t) (sym h.0) f.0)), ForGoals-match ds xs ns ts f.1 h.2)

  DeriveAll-match : (ds : Derivations) (xs : List Goal) (ns : List ℕ) (ts : List PlainTree) → ForGoals g nodes ds xs → Match nodes xs ns ts → DeriveAll g ds ns ts
  DeriveAll-match no_more [] [] [] f h = tt
  DeriveAll-match no_more [] [] (t ∷ ts) f h = absurd h
  DeriveAll-match no_more [] (n ∷ ns) ts f h = absurd h
  DeriveAll-match no_more (x ∷ xs) ns ts f h = absurd f
  DeriveAll-match (more d ds) [] ns ts f h = absurd f
  DeriveAll-match (more d ds) (x ∷ xs) [] ts f h = absurd h
  DeriveAll-match (more d ds) (x ∷ xs) (n ∷ ns) [] f h = absurd h
  DeriveAll-match (more d ds) (x ∷ xs) (n ∷ ns) (t ∷ ts) f h =
      (derived f.0, DeriveAll-match ds xs ns ts f.1 h.2)
    where
      derived : DerivesAt g nodes d x → Derives g d n t
      derived (s, (stands, derives)) = let same : s ≡ t = same_tree nodes x.at s t stands h.1 in
          subst (λ m. Derives g d m t) h.0 (subst (λ s. Derives g d x.nonterminal s) same derives)

  ForGoals-both : (ds es : Derivations) (xs ys : List Goal) → ForGoals g nodes ds xs → ForGoals g nodes es ys → ForGoals g nodes (both_kids ds es) (xs ++ ys)
  ForGoals-both no_more es [] ys h k = k
  ForGoals-both no_more es (x ∷ xs) ys h k = absurd h
  ForGoals-both (more d ds) es [] ys h k = absurd h
  ForGoals-both (more d ds) es (x ∷ xs) ys h k = (h.0, ForGoals-both ds es xs ys h.1 k)

  record Halves (ds : Derivations) (xs ys : List Goal) : Type 0 where
    first : Derivations
    second : Derivations
    are : ds ≡ both_kids first second
    for_first : ForGoals g nodes first xs
    for_second : ForGoals g nodes second ys

  halves : (ds : Derivations) (xs ys : List Goal) → ForGoals g nodes ds (xs ++ ys) → Halves ds xs ys
  halves ds [] ys h = record { first = no_more; second = ds; are = refl; for_first = tt; for_second = h }
  halves no_more (x ∷ xs) ys h = absurd h
  halves (more d ds) (x ∷ xs) ys h =
      let r = halves ds xs ys h.1 in
      record { first = more d r.first; second = r.second; are = ap (more d) r.are; for_first = (h.0, r.for_first); for_second = r.for_second }

  -- a rule that fits a goal, with kids for its own goals, derives the goal
  module _ (goal : Goal) (number : ℕ) (is : IsRuleFor g nodes goal number) where
    abbrev kid_goals : List Goal
    kid_goals = goals is.rule.pattern nodes goal.at

    record Fitted : Type 0 where
      tree : PlainTree
      stands : IsRootAt nodes goal.at tree
      trees : List PlainTree
      fitting : fits is.rule tree ≡ Some trees
      matched : Match nodes kid_goals (leaves is.rule.pattern) trees

    fitted : (t : PlainTree) × IsRootAt nodes goal.at t → Fitted
    fitted (t, stands) =
        let (ts, (fitting, lying)) = fits_some nodes is.rule goal.at t stands is.fits in
        record { tree = t; stands = stands; trees = ts; fitting = fitting; matched = goals_match nodes is.rule.pattern goal.at t ts stands lying }

    built : Fitted → (ds : Derivations) → ForGoals g nodes ds kid_goals → DerivesAt g nodes (Deriv number ds) goal
    built f ds h = (f.tree, (f.stands, (is.rule, is.numbered, is.left, (f.trees, f.fitting, DeriveAll-match ds kid_goals (leaves is.rule.pattern) f.trees h f.matched))))

    pub taken : (q : ℕ) (kids : Derivations) → q ≡ number → DerivesAt g nodes (Deriv q kids) goal → ForGoals g nodes kids kid_goals
    taken q kids e (t, (stands, (rule, numbered, left, (ts, fitting, derive)))) =
        let same : rule ≡ is.rule = some_same (sym numbered ∙ ap (rule_at g) e ∙ is.numbered) in
        subst (λ (r : Rule). ForGoals g nodes kids (goals r.pattern nodes goal.at)) same
        (ForGoals-match kids (goals rule.pattern nodes goal.at) (leaves rule.pattern) ts derive (goals_match nodes rule.pattern goal.at t ts stands (fits_subtrees rule t ts fitting)))

  -- the rule of a derivation of a goal fits it
  pub rule_for : (goal : Goal) (q number : ℕ) (kids : Derivations) → q ≡ number → DerivesAt g nodes (Deriv q kids) goal → IsRuleFor g nodes goal number
  rule_for goal q number kids e (t, (stands, (rule, numbered, left, (ts, fitting, derive)))) =
      record { rule = rule; numbered = ap (rule_at g) (sym e) ∙ numbered; left = left; fits = fits_is nodes rule goal.at t stands ∙ ap given fitting }

  module _ (root : Goal) (rules : List ℕ) where
    -- the whole derivation, where these derivations are for the goals that are left
    pub record IsWhole (done : List ℕ) (total : Cost) (ds : Derivations) : Type 0 where
      pub whole : Derivation
      pub derives : DerivesAt g nodes whole root
      pub listed : list whole ≡ done ++ lists ds
      pub sum : cost g whole ≡ total ⊕ costs g ds

    -- what is left of a derivation with this list, when its first numbers are read
    pub record IsRest (rest : List ℕ) (left : List Goal) : Type 0 where
      pub kids : Derivations
      pub for : ForGoals g nodes kids left
      pub listed : lists kids ≡ rest

    -- the list's first numbers are read, they cost this much, and the goals of the stack are left, its last goal first
    pub record IsSoFar (done rest : List ℕ) (total : Cost) (stack : List Goal) : Type 0 where
      pub stand : Stand nodes (reverse stack)
      pub sound : (ds : Derivations) → ForGoals g nodes ds (reverse stack) → IsWhole done total ds
      pub complete : (d : Derivation) → DerivesAt g nodes d root → list d ≡ rules → IsRest rest (reverse stack)

    pub so_far_first : (t : PlainTree) → IsRootAt nodes root.at t → IsSoFar [] rules no_cost (root ∷ [])
    so_far_first t stands = record {
      stand = ((t, stands), tt);
      sound = one;
      complete = λ d h e. record { kids = more d no_more; for = (h, tt); listed = sym (append-none (list d)) ∙ e };
    }
      where
        one : (ds : Derivations) → ForGoals g nodes ds (root ∷ []) → IsWhole [] no_cost ds
        one no_more h = absurd h
        one (more d no_more) h = record { whole = d; derives = h.0; listed = append-none (list d); sum = sum_none (cost g d) ∙ sum_before (cost g d ⊕ no_cost) }
        one (more d (more e es)) h = absurd h.1

    module _ (done rest : List ℕ) (total : Cost) (stack : List Goal) (goal : Goal) (number : ℕ) (so : IsSoFar done (number ∷ rest) total (stack ++ goal ∷ [])) where
      order : reverse (stack ++ goal ∷ []) ≡ goal ∷ reverse stack
      order = reverse-append stack (goal ∷ [])

      -- the first of what is left of a derivation is one by this number
      record Next : Type 0 where
        kids : Derivations
        others : Derivations
        first : DerivesAt g nodes (Deriv number kids) goal
        for : ForGoals g nodes others (reverse stack)
        listed : lists kids ++ lists others ≡ rest

      next : IsRest (number ∷ rest) (reverse (stack ++ goal ∷ [])) → Next
      next r = go r.kids (subst (λ x. ForGoals g nodes r.kids x) order r.for) r.listed
        where
          go : (ds : Derivations) → ForGoals g nodes ds (goal ∷ reverse stack) → lists ds ≡ number ∷ rest → Next
          go no_more h e = absurd h
          go (more (Deriv q kids) ds) h e =
              let same : q ≡ number = cc in
              record { kids = kids; others = ds; first = subst (λ x. DerivesAt g nodes (Deriv x kids) goal) same h.0; for = h.1; listed = cc }

      pub no_rule : (IsRuleFor g nodes goal number → ⊥) → (d : Derivation) → DerivesAt g nodes d root → list d ≡ rules → ⊥
      no_rule not d h e = let n = next (so.complete d h e) in not (rule_for goal number number n.kids refl n.first)

      module _ (new : List Goal) (c : RuleCost) (taking : AppliesRule g nodes goal number stack new c) where
        gs : List Goal
        gs = goals taking.is.rule.pattern nodes goal.at

        reordered : reverse new ≡ gs ++ reverse stack
        unfolding gs
        reordered = ap reverse taking.pushes ∙ reverse-append stack (reverse (goals taking.is.rule.pattern nodes goal.at))
            ∙ ap (λ x. x ++ reverse stack) (reverse-reverse (goals taking.is.rule.pattern nodes goal.at))

        standing : Stand nodes (goal ∷ reverse stack)
        standing = subst (λ x. Stand nodes x) order so.stand

        fit : Fitted goal number taking.is
        fit = fitted goal number taking.is (standing).0

        now : (ds : Derivations) → ForGoals g nodes ds (reverse new) → IsWhole (done ++ number ∷ []) (total ⊕ paid c) ds
        unfolding gs
        now ds h =
            let two = halves ds gs (reverse stack) (subst (λ x. ForGoals g nodes ds x) reordered h) in
            let one = built goal number taking.is fit two.first two.for_first in
            let kids = more (Deriv number two.first) two.second in
            let w = so.sound kids (subst (λ x. ForGoals g nodes kids x) (sym order) (one, two.for_second)) in
            record {
              whole = w.whole;
              derives = w.derives;
              listed = w.listed ∙ sym (append_assoc done (number ∷ []) (lists two.first ++ lists two.second))
                  ∙ ap (λ x. (done ++ number ∷ []) ++ x) (sym (lists-both two.first two.second) ∙ ap lists (sym two.are));
              sum = w.sum ∙ ap (λ x. total ⊕ ((rule_cost x ⊕ costs g two.first) ⊕ costs g two.second)) taking.is.numbered
                  ∙ sums_swap total (price taking.is.rule) (costs g two.first) (costs g two.second)
                  ∙ (λ j. (total ⊕ paid (sym taking.cost_is j)) ⊕ (sym (costs-both g two.first two.second) ∙ ap (costs g) (sym two.are)) j);
            }

        pub so_far_next : IsSoFar (done ++ number ∷ []) rest (total ⊕ paid c) new
        unfolding gs
        so_far_next = record {
          stand = subst (λ x. Stand nodes x) (sym reordered) (Stand-append nodes gs (reverse stack) (Stand-match nodes gs (leaves taking.is.rule.pattern) (fit).trees (fit).matched) (standing).1);
          sound = now;
          complete = λ d h e.
              let n = next (so.complete d h e) in
              let kids = both_kids n.kids n.others in
              record {
                kids = kids;
                for = subst (λ x. ForGoals g nodes kids x) (sym reordered) (ForGoals-both n.kids n.others gs (reverse stack) (taken goal number taking.is number n.kids refl n.first) n.for);
                listed = lists-both n.kids n.others ∙ n.listed;
              };
        }

    -- the list goes on, and no goal is left
    pub too_long : (done rest : List ℕ) (total : Cost) (number : ℕ) → IsSoFar done (number ∷ rest) total [] → (d : Derivation) → DerivesAt g nodes d root → list d ≡ rules → ⊥
    too_long done rest total number so d h e = let r = so.complete d h e in go r.kids r.for r.listed
      where
        go : (ds : Derivations) → ForGoals g nodes ds [] → lists ds ≡ number ∷ rest → ⊥
        go no_more h e = cc
        go (more d ds) h e = absurd h

    -- the list ends, and a goal is left
    pub too_short : (done : List ℕ) (total : Cost) (stack : List Goal) → (reverse stack ≡ [] → ⊥) → IsSoFar done [] total stack → (d : Derivation) → DerivesAt g nodes d root → list d ≡ rules → ⊥
    too_short done total stack some so d h e = let r = so.complete d h e in go (reverse stack) some r.kids r.for r.listed
      where
        go : (gs : List Goal) → (gs ≡ [] → ⊥) → (ds : Derivations) → ForGoals g nodes ds gs → lists ds ≡ [] → ⊥
        go [] some ds h e = some refl
        go (x ∷ gs) some no_more h e = absurd h
        go (x ∷ gs) some (more (Deriv q kids) ds) h e = cc

-- the walk's answers are those that are wanted
module _ (g : Grammar) (nodes : List Node) (t : PlainTree) (spelled : nodes ≡ postorder 0 t) (rules : List ℕ) where
  abbrev pub root_goal : Goal
  root_goal = record { at = length nodes - 1; nonterminal = g.start }

  at_root : (d : Derivation) → DerivesAt g nodes d root_goal → Derives g d g.start t
  at_root d (s, (stands, derives)) =
      subst (λ x. Derives g d g.start x) (same_tree nodes (length nodes - 1) s t stands (stands_root nodes t spelled)) derives

  pub none_checked : ((d : Derivation) → DerivesAt g nodes d root_goal → list d ≡ rules → ⊥) → IsChecked g t rules None
  none_checked h d derives e = h d (t, (stands_root nodes t spelled, derives)) e

  pub some_checked : (total : Cost) → IsSoFar g nodes root_goal rules rules [] total [] → IsChecked g t rules (Some total)
  some_checked total so =
      let w = so.sound no_more tt in
      record { derivation = w.whole; derives = at_root w.whole w.derives; list_is = w.listed ∙ sym (append-none rules); cost_is = sum_none total ∙ sym w.sum }

pub nil_of_none : {A : Type 0} (xs : List A) → length xs ≡ 0 → xs ≡ []
nil_of_none [] h = refl
nil_of_none (x ∷ xs) h = cc

pub reverse_some : (xs : List Goal) → (length xs ≡ 0 → ⊥) → reverse xs ≡ [] → ⊥
reverse_some xs h e = let q : xs ≡ [] = sym (reverse-reverse xs) ∙ ap reverse e in h (ap length q)

-- the walk, at a number of the list
module _ (g : Grammar) (nodes : List Node) (root : Goal) (rules : List ℕ) (k : ℕ) (total : Cost) where
  abbrev pub SoFarAt : List Goal → Type 0
  SoFarAt stack = IsSoFar g nodes root rules (take k rules) (drop k rules) total stack

  pub next_at : (stack old : List Goal) (goal : Goal) → k < length rules → old ≡ stack ++ goal ∷ [] → SoFarAt old → IsSoFar g nodes root rules (take k rules) (get_or rules k 0 ∷ drop (suc k) rules) total (stack ++ goal ∷ [])
  next_at stack old goal lt e so = subst (λ x. IsSoFar g nodes root rules (take k rules) (get_or rules k 0 ∷ drop (suc k) rules) total x) e
      (subst (λ x. IsSoFar g nodes root rules (take k rules) x total old) (drop-cons rules k 0 lt) so)

  pub too_long_at : (old : List Goal) → k < length rules → old ≡ [] → SoFarAt old → (d : Derivation) → DerivesAt g nodes d root → list d ≡ rules → ⊥
  too_long_at old lt e so = too_long g nodes root rules (take k rules) (drop (suc k) rules) total (get_or rules k 0)
      (subst (λ x. IsSoFar g nodes root rules (take k rules) (get_or rules k 0 ∷ drop (suc k) rules) total x) e
      (subst (λ x. IsSoFar g nodes root rules (take k rules) x total old) (drop-cons rules k 0 lt) so))

  pub no_rule_at : (stack old : List Goal) (goal : Goal) → k < length rules → old ≡ stack ++ goal ∷ [] → SoFarAt old → (IsRuleFor g nodes goal (get_or rules k 0) → ⊥)
      → (d : Derivation) → DerivesAt g nodes d root → list d ≡ rules → ⊥
  no_rule_at stack old goal lt e so not = no_rule g nodes root rules (take k rules) (drop (suc k) rules) total stack goal (get_or rules k 0) (next_at stack old goal lt e so) not

  pub so_far_at : (stack old new : List Goal) (goal : Goal) (c : RuleCost) → k < length rules → old ≡ stack ++ goal ∷ [] → SoFarAt old → AppliesRule g nodes goal (get_or rules k 0) stack new c
      → IsSoFar g nodes root rules (take (k + 1) rules) (drop (k + 1) rules) (total ⊕ paid c) new
  so_far_at stack old new goal c lt e so taking = rw add-one
      (subst (λ x. IsSoFar g nodes root rules x (drop (suc k) rules) (total ⊕ paid c) new) (sym (take-suc rules k 0 lt))
      (so_far_next g nodes root rules (take k rules) (drop (suc k) rules) total stack goal (get_or rules k 0) (next_at stack old goal lt e so) new c taking))

  at_end : (stack : List Goal) → length rules ≤ k → SoFarAt stack → IsSoFar g nodes root rules rules [] total stack
  at_end stack le so = subst (λ x. IsSoFar g nodes root rules x [] total stack) (append-none (take k rules) ∙ ap (λ x. take k rules ++ x) (sym (drop_of_length-le rules le)) ∙ take-append-drop k rules)
      (subst (λ x. IsSoFar g nodes root rules (take k rules) x total stack) (drop_of_length-le rules le) so)

  pub too_short_at : (stack : List Goal) → length rules ≤ k → (length stack ≡ 0 → ⊥) → SoFarAt stack → (d : Derivation) → DerivesAt g nodes d root → list d ≡ rules → ⊥
  too_short_at stack le some so = too_short g nodes root rules rules total stack (reverse_some stack some) (at_end stack le so)

  pub end_at : (stack : List Goal) → length rules ≤ k → length stack ≡ 0 → SoFarAt stack → IsSoFar g nodes root rules rules [] total []
  end_at stack le none so = subst (λ x. IsSoFar g nodes root rules rules [] total x) (nil_of_none stack none) (at_end stack le so)
