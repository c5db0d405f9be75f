-- The least candidates without chain rules, closed under the chain rules, are the least of all.
use Rattle.std.proofs.Common.{◌≡◌, ℕ, suc, ◌+◌, ◌<◌, ◌≤◌, ◌⊎◌, inl, inr, refl, subst, sym, ◌∙◌, Option, Some, None, [], slice_get, add-one}
use Rattle.sel_grammar.specs.Costs.{Cost, ◌⊕◌, paid}
use Rattle.sel_normal.specs.declared.normal.NormalRule.{NormalRule}
use Rattle.sel_normal.specs.NormalForms.{NormalForm, normal_at}
use Rattle.sel_normal.specs.Standing.{IsStanding}
use Rattle.sel_normal.proofs.Steps.{some_none}
use Rattle.sel_items.specs.declared.items.Item.{Item}
use Rattle.sel_items.specs.CostBounds.{AreBelow}
use Rattle.sel_items.specs.Entries.{ItemRow, item_at}
use Rattle.sel_items.specs.Evaluating.{IsStart}
use Rattle.sel_items.specs.Follows.{NodeKey, operator_cost, IsCandidate}
use Rattle.sel_items.specs.Laws.{IsOperatorEntry, HasOperatorEntries, ClosedAreAbsolute}
use Rattle.sel_items.specs.Offers.{offer_for, operator_offer, Stands}
use Rattle.sel_items.proofs.Rows.{no_entry, below_or_not}
use Rattle.sel_items.proofs.Starts.{IsAbsolute-closed}

module _ (normal : NormalForm) (key : NodeKey) (given : ItemRow) (standing : IsStanding normal) (low : AreBelow 48 given) (h : HasOperatorEntries normal key given) where
  backed : (n : ℕ) (item : Item) → item_at given n ≡ Some item → IsCandidate normal key n [] item.rule item.cost
  backed n item e = go (below_or_not n normal.nonterminals)
    where
      go : (n < normal.nonterminals) ⊎ (normal.nonterminals ≤ n) → IsCandidate normal key n [] item.rule item.cost
      go (inl b) = let w : IsOperatorEntry normal key n (Some item) = subst (IsOperatorEntry normal key n) e (h.each n b) in w.0
      go (inr b) = absurd (some_none (sym e ∙ no_entry given n (subst (λ x. x ≤ n) (sym h.long) b)))

  stands : (j : ℕ) (rule : NormalRule) → slice_get normal.rules j ≡ Some rule → Stands (item_at given rule.left) (operator_offer normal key rule (j + 1))
  stands j rule at = go (operator_cost normal key rule.body) refl
    where
      against : (k : Cost) → operator_cost normal key rule.body ≡ Some k → (o : Option Item) → IsOperatorEntry normal key rule.left o → Stands o (Some (record { cost = paid rule.cost ⊕ k; rule = j + 1 }))
      against k e None w = w (j + 1) (paid rule.cost ⊕ k) (rule, subst (λ x. normal_at normal x ≡ Some rule) (sym (add-one j)) at, refl, (k, e, refl))
      against k e (Some item) w = w.1 (j + 1) (paid rule.cost ⊕ k) (rule, subst (λ x. normal_at normal x ≡ Some rule) (sym (add-one j)) at, refl, (k, e, refl))

      go : (o : Option Cost) → operator_cost normal key rule.body ≡ o → Stands (item_at given rule.left) (operator_offer normal key rule (j + 1))
      go None e = subst (λ o. Stands (item_at given rule.left) (offer_for rule.cost (j + 1) o)) (sym e) tt
      go (Some k) e =
          subst (λ o. Stands (item_at given rule.left) (offer_for rule.cost (j + 1) o)) (sym e)
          (against k e (item_at given rule.left) (h.each rule.left (standing.within (suc j) rule at).left))

  is_start : IsStart normal key given
  is_start = record { long = h.long; low = low; backed = backed; stands = λ j rule l at. stands j rule at }

pub closed_are_absolute : ClosedAreAbsolute
closed_are_absolute normal key given row standing low h closed = IsAbsolute-closed normal key given row (is_start normal key given standing low h) closed
