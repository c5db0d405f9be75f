-- The entry for a goal: its rule is the next of the list, and leads to goals for the rest.
use Rattle.std.proofs.Common.{◌≡◌, ℕ, zero, suc, ◌+◌, ◌*◌, ◌<◌, ◌≤◌, inl, inr, Option, Some, None, true, false, if◌then◌else◌, List, [], ◌∷◌, ◌++◌, length, refl, ap, sym, ◌∙◌, subst, arith, append-nil, slice_get}
use Rattle.std.specs.Prelude.{nat_le}
use Rattle.sel_grammar.specs.declared.grammar.Grammar.{Grammar}
use Rattle.sel_grammar.specs.declared.grammar.Rule.{Rule}
use Rattle.sel_grammar.specs.declared.grammar.Pattern.{Pattern, Leaf}
use Rattle.sel_grammar.specs.Costs.{Cost, no_cost, ◌⊕◌, paid}
use Rattle.sel_grammar.specs.PlainTrees.{PlainTree}
use Rattle.sel_grammar.specs.Fits.{leaves, subtrees, rule_at}
use Rattle.sel_grammar.specs.Derivations.{Derivation, Deriv, Derivations, no_more, more, costs, lists, rule_cost}
use Rattle.sel_grammar.specs.Firsts.{IsFirst, AllFirst}
use Rattle.sel_grammar.specs.Lawful.{IsLawful, names_of}
use Rattle.sel_grammar.proofs.CostLaws.{sum_none, sum_before}
use Rattle.sel_grammar.proofs.Existence.{fits_subtrees}
use Rattle.sel_grammar.proofs.Firsts.{DeriveAll-first}
use Rattle.sel_forest.specs.declared.forest.Node.{Node}
use Rattle.sel_forest.specs.declared.walk.Goal.{Goal}
use Rattle.sel_forest.specs.Places.{IsRootAt}
use Rattle.sel_normal.specs.declared.normal.NormalRule.{NormalRule}
use Rattle.sel_normal.specs.NormalForms.{NormalForm, normal_at}
use Rattle.sel_normal.specs.Forms.{places, inner_parts, test_number, body}
use Rattle.sel_normal.specs.Cuts.{IsCut}
use Rattle.sel_normal.proofs.Kept.{form_cut}
use Rattle.sel_normal.proofs.Steps.{some_same, some_none, within_rules}
use Rattle.sel_items.specs.declared.items.Item.{Item}
use Rattle.sel_items.specs.declared.items.Items.{Items}
use Rattle.sel_items.specs.Entries.{item_at}
use Rattle.sel_items.specs.Follows.{item_cost}
use Rattle.sel_items.specs.ItemsOf.{IsItemsOf, root_rule}
use Rattle.sel_items.specs.Laws.{IsAcceptedForm}
use Rattle.sel_items.proofs.BestParts.{items_are_nodes}
use Rattle.sel_items.proofs.Meanings.{EntryMeans, PartCosts, IsNodeSet}
use Rattle.sel_reduce.specs.Goals.{kid_goals, StandsFor, IsBestAt, AreBestAt, all_lists, all_costs, some_number, written}
use Rattle.sel_reduce.proofs.BestKids.{first_one, kids_first}
use Rattle.sel_reduce.proofs.GoalLaws.{kids_at}
use Rattle.sel_reduce.proofs.Weights.{weight, weights, weight_is, operators_more, inner_few}

names_few : (g : Grammar) → IsLawful g → (r : ℕ) (rule : Rule) → rule_at g r ≡ Some rule → names_of rule.pattern ≤ 63
names_few g h zero rule at = absurd (some_none (sym at))
names_few g h (suc k) rule at = (h.rules k rule at).names

user_written : (normal : NormalForm) (r : ℕ) → r ≤ normal.user_rules → r ∷ [] ≡ written normal r
user_written normal r h = ap (λ b. some_number (if b then Some r else None)) (sym (within r normal.user_rules h))
  where
    within : (r n : ℕ) → r ≤ n → nat_le r n ≡ true
    within r n h = grind arith

helper_unwritten : (normal : NormalForm) (r : ℕ) → normal.user_rules < r → [] ≡ written normal r
helper_unwritten normal r h = ap (λ b. some_number (if b then Some r else None)) (sym (behind r normal.user_rules h))
  where
    behind : (r n : ℕ) → n < r → nat_le r n ≡ false
    behind r n h = grind arith

module _ (g : Grammar) (normal : NormalForm) (nodes : List Node) (goal : Goal) where
  -- the rule is the next for the goal's derivations, and the goals that it leads to stand for the rest
  pub record IsNext (ds : Derivations) (number : ℕ) (rule : NormalRule) : Type 0 where
    pub numbered : normal_at normal number ≡ Some rule
    pub kids : List Derivations
    pub for : AreBestAt g nodes kids (kid_goals rule.body nodes goal.at)
    pub listed : lists ds ≡ written normal number ++ all_lists kids
    pub costed : costs g ds ≡ paid rule.cost ⊕ all_costs g kids
    pub lighter : weights g (kid_goals rule.body nodes goal.at) < weight g goal.nonterminal + 64 * length (written normal number)

  pub record IsTop (items : Items) (ds : Derivations) : Type 0 where
    pub item : Item
    pub there : item_at items.entries goal.nonterminal ≡ Some item
    pub rule : NormalRule
    pub next : IsNext ds item.rule rule

  module _ (ok : IsAcceptedForm g normal) where
    cut : IsCut g normal
    cut = form_cut g normal ok.lawful ok.form

    user_next : (tree : PlainTree) → IsRootAt nodes goal.at tree → (d : Derivation) → IsFirst g d goal.nonterminal tree → (rule : NormalRule) × IsNext (more d no_more) (root_rule d) rule
    user_next tree root (Deriv r kids) f =
        let (rule, at, left, (ts, fit, all)) = f.derives in
        let firsts = kids_first g (ok.accepted).free goal.nonterminal tree r kids rule ts at left fit f in
        let u = cut.user r rule at in
        let c = u.2 in
        let ka = kids_at g nodes c.number (test_number c.test rule.range) rule.pattern kids goal.at tree ts c.below root (fits_subtrees rule tree ts fit) firsts in
        let is : body c.number (test_number c.test rule.range) rule.pattern ≡ (u.0).body = ap (λ (x : NormalRule). x.body) (sym c.is) in
        let priced : rule_cost (rule_at g r) ≡ paid (u.0).cost = ap rule_cost at ∙ ap (λ (x : NormalRule). paid x.cost) (sym c.is) in
        let few : r ≤ normal.user_rules = let w = within_rules g r rule at in let e = (ok.form).user_rules in omega arith in
        let one : length (written normal r) ≡ 1 = ap length (sym (user_written normal r few)) in (
          u.0,
          record {
            numbered = u.1;
            kids = ka.kids;
            for = subst (λ b. AreBestAt g nodes ka.kids (kid_goals b nodes goal.at)) is ka.for;
            listed = append-nil (r ∷ lists kids) ∙ (λ i. user_written normal r few i ++ ka.listed i);
            costed = sym (sum_none (rule_cost (rule_at g r) ⊕ costs g kids)) ∙ (λ i. priced i ⊕ ka.costed i);
            lighter =
                let w : weights g (kid_goals (u.0).body nodes goal.at) ≡ length (inner_parts rule.pattern) = subst (λ b. weights g (kid_goals b nodes goal.at) ≡ length (inner_parts rule.pattern)) is ka.weighed in
                let names = names_few g ok.lawful r rule at in
                let inner = inner_few rule.pattern in
                omega arith;
          },
        )

    helper_next : (ds : Derivations) (tree : PlainTree) (part : Pattern) (under : List PlainTree) (j : ℕ) → IsRootAt nodes goal.at tree → subtrees part tree ≡ Some under → AllFirst g ds (leaves part) under
        → goal.nonterminal ≡ length g.nonterminals + j → slice_get (places g.rules) j ≡ Some part → (rule : NormalRule) × IsNext ds (length g.rules + j + 1) rule
    helper_next ds tree part under j root lies firsts is at =
        let number = length g.rules + j + 1 in
        let u = cut.helper j part at in
        let c = u.2 in
        let ka = kids_at g nodes (length g.nonterminals + j + 1) None part ds goal.at tree under c.below root lies firsts in
        let same : body (length g.nonterminals + j + 1) None part ≡ (u.0).body = ap (λ (x : NormalRule). x.body) (sym c.is) in
        let free : no_cost ≡ paid (u.0).cost = ap (λ (x : NormalRule). paid x.cost) (sym c.is) in
        let nothing = helper_unwritten normal number (let e = (ok.form).user_rules in omega arith) in
        let none : length (written normal number) ≡ 0 = ap length (sym nothing) in (
          u.0,
          record {
            numbered = u.1;
            kids = ka.kids;
            for = subst (λ b. AreBestAt g nodes ka.kids (kid_goals b nodes goal.at)) same ka.for;
            listed = λ i. nothing i ++ ka.listed i;
            costed = sum_before (costs g ds) ∙ (λ i. free i ⊕ ka.costed i);
            lighter =
                let w : weights g (kid_goals (u.0).body nodes goal.at) ≡ length (inner_parts part) = subst (λ b. weights g (kid_goals b nodes goal.at) ≡ length (inner_parts part)) same ka.weighed in
                let heavy = weight_is g goal.nonterminal part (inr (j, is, at)) in
                let more = operators_more part c.operator in
                omega arith;
          },
        )

    -- of kids of one nonterminal there is one
    one_kid : (n : ℕ) (tree : PlainTree) (part : Pattern) (under : List PlainTree) (ds : Derivations) → part ≡ Leaf n → subtrees part tree ≡ Some under → AllFirst g ds (leaves part) under
        → (d : Derivation) × (ds ≡ more d no_more) × IsFirst g d n tree
    one_kid n tree part under ds is lies firsts = go ds (subst (λ p. AllFirst g ds (leaves p) (tree ∷ [])) is (subst (λ ts. AllFirst g ds (leaves part) ts) alone firsts))
      where
        alone : under ≡ tree ∷ []
        alone = some_same (sym lies ∙ ap (λ p. subtrees p tree) is)

        go : (ds : Derivations) → AllFirst g ds (n ∷ []) (tree ∷ []) → (d : Derivation) × (ds ≡ more d no_more) × IsFirst g d n tree
        go no_more h = absurd h
        go (more d no_more) h = (d, refl, h.0)
        go (more d (more e es)) h = absurd h.1

    user_top : (items : Items) (tree : PlainTree) (shift : Cost) (d : Derivation) → IsRootAt nodes goal.at tree → IsFirst g d goal.nonterminal tree → (o : Option Item) → item_at items.entries goal.nonterminal ≡ o
        → EntryMeans g goal.nonterminal tree shift o → IsTop items (more d no_more)
    user_top items tree shift d root f None at m = absurd (m d f.derives)
    user_top items tree shift d root f (Some item) at (e, first, priced, ruled) =
        let same : root_rule d ≡ item.rule = ap root_rule (first_one g goal.nonterminal tree d e f first) ∙ ruled in
        let n = user_next tree root d f in
        record { item = item; there = at; rule = n.0; next = subst (λ r. IsNext (more d no_more) r n.0) same n.1 }

    helper_top : (items : Items) (tree : PlainTree) (shift : Cost) (ds : Derivations) (part : Pattern) (under : List PlainTree) (j : ℕ) → IsRootAt nodes goal.at tree → subtrees part tree ≡ Some under → AllFirst g ds (leaves part) under
        → goal.nonterminal ≡ length g.nonterminals + j → slice_get (places g.rules) j ≡ Some part → (o : Option Item) → item_at items.entries goal.nonterminal ≡ o
        → PartCosts g part tree shift (item_cost o) → ((item : Item) → o ≡ Some item → item.rule ≡ length g.rules + j + 1) → IsTop items ds
    helper_top items tree shift ds part under j root lies firsts is at None there m ruled = absurd (m under lies ds (DeriveAll-first g ds (leaves part) under firsts))
    helper_top items tree shift ds part under j root lies firsts is at (Some item) there m ruled =
        let n = helper_next ds tree part under j root lies firsts is at in
        record { item = item; there = there; rule = n.0; next = subst (λ r. IsNext ds r n.0) (sym (ruled item refl)) n.1 }

    pub top : (ds : Derivations) (h : IsBestAt g nodes ds goal) (items : Items) → IsItemsOf g h.tree items → IsTop items ds
    top ds h items m = go (items_are_nodes g h.tree items m) h.stands
      where
        go : (set : IsNodeSet g h.tree items) → StandsFor g goal.nonterminal h.part → IsTop items ds
        go set (inl (low, is)) =
            let k = one_kid goal.nonterminal h.tree h.part h.under ds is h.lies h.firsts in
            subst (IsTop items) (sym k.1) (user_top items h.tree set.shift k.0 h.root k.2 (item_at items.entries goal.nonterminal) refl ((set.means).symbols goal.nonterminal low))
        go set (inr (j, is, at)) =
            helper_top items h.tree set.shift ds h.part h.under j h.root h.lies h.firsts is at (item_at items.entries goal.nonterminal) refl
            (subst (λ n. PartCosts g h.part h.tree set.shift (item_cost (item_at items.entries n))) (sym is) ((set.means).parts j h.part at))
            (λ item e. (set.means).helpers j h.part item at (ap (item_at items.entries) (sym is) ∙ e))
