-- Each turn offers one operator rule.
use Rattle.std.proofs.Common.{arith, ◌≡◌, ◌<◌, ◌+◌, length, slice_get, Some, ℕ, Bool, true, false, sym, ◌∙◌, refl, subst, add-one}
use Rattle.std.specs.Option.{option_copied}
use Rattle.sel_normal.specs.declared.normal.NormalRule.{NormalRule}
use Rattle.sel_normal.specs.NormalForms.{NormalForm, normal_at}
use Rattle.sel_items.specs.declared.items.Item.{Item}
use Rattle.sel_items.specs.Offers.{operator_offer, Stands, IsBettered}
use Rattle.sel_items.specs.Evaluating.{IsStartTo}
use Rattle.sel_items.specs.Follows.{NodeKey, key_of}
use Rattle.sel_items.specs.KidSets.{kid_sets}
use Rattle.sel_items.specs.Entries.{ItemRow, item_at}
use Rattle.sel_items.specs.CostBounds.{IsBelow}
use Rattle.sel_items.proofs.Starts.{start_stays, start_taken}
use Rattle.sel_items.proofs.evaluation.offer_operators.Goals as goal

-- a rule's number is one more than its place
at_place : (normal : NormalForm) (k : ℕ) (rule : NormalRule) → normal_at normal (k + 1) ≡ Some rule → slice_get normal.rules k ≡ Some rule
at_place normal k rule h = subst (λ x. normal_at normal x ≡ Some rule) (add-one k) h

pub improve-taken-requires : goal.improve-taken-requires
improve-taken-requires g c = let w = (c.rule-rule.ensures.within).left in let l = c.loop-k.invariant.start.long in omega arith

turned : (normal : NormalForm) (key : NodeKey) (k : ℕ) (rule : NormalRule) (old new : ItemRow) → slice_get normal.rules k ≡ Some rule → IsStartTo normal key k old → rule.left < length old → (b : Bool)
    → (b ≡ false → new ≡ old) → (b ≡ false → Stands (item_at old rule.left) (operator_offer normal key rule (k + 1))) → (b ≡ true → IsBettered rule.left (operator_offer normal key rule (k + 1)) old new)
    → ((item : Item) → operator_offer normal key rule (k + 1) ≡ Some item → IsBelow 48 item.cost) → IsStartTo normal key (k + 1) new
turned normal key k rule old new at i inside false stays stands bettered low = subst (IsStartTo normal key (k + 1)) (sym (stays refl)) (start_stays normal key k rule at old old i (stands refl))
turned normal key k rule old new at i inside true stays stands bettered low = let b = bettered refl in start_taken normal key k rule at old new i b inside (low b.item b.offered_is)

pub loop-k-preserved : goal.loop-k-preserved
loop-k-preserved g c =
    let normal = c.args.normal.now in
    let key = key_of c.args.operator c.args.class (kid_sets (option_copied c.args.first) (option_copied c.args.second)) in
    let rule = c.rule-rule.result in
    let at : slice_get normal.rules c.loop-k.k ≡ Some rule = at_place normal c.loop-k.k rule c.rule-rule.ensures.is in
    let inside : rule.left < length c.loop-k.row = let w = (c.rule-rule.ensures.within).left in let l = c.loop-k.invariant.start.long in omega arith in
    let is = c.rule_offer-offer.ensures.offer in
    record {
      start = turned normal key c.loop-k.k rule c.loop-k.row c.improve-taken.new.row at c.loop-k.invariant.start inside c.improve-taken.result c.improve-taken.ensures.stays
          (λ e. subst (λ o. Stands (item_at c.loop-k.row rule.left) o) is (c.improve-taken.ensures.stands e))
          (λ e. subst (λ o. IsBettered rule.left o c.loop-k.row c.improve-taken.new.row) is (c.improve-taken.ensures.bettered e))
          (λ item h. c.rule_offer-offer.ensures.low item (is ∙ h));
      steps = (let a = c.loop-k.invariant.steps in let t = c.tick.ensures in omega arith);
    }
