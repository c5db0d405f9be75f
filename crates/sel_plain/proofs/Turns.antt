-- One turn of the loop that offers each rule of a kind to a row.
use Rattle.std.proofs.Common.{◌≡◌, ℕ, ◌+◌, ◌<◌, ◌⊎◌, inl, inr, Bool, true, false, if◌then◌else◌, List, length, refl, ap, sym, ◌∙◌, subst, arith, Option, Some, None, slice_get, add-one}
use Rattle.std.proofs.lemmas.List.{length-set}
use Rattle.std.specs.Option.{option_and_then}
use Rattle.sel_grammar.specs.declared.grammar.Grammar.{Grammar}
use Rattle.sel_grammar.specs.declared.grammar.Rule.{Rule}
use Rattle.sel_grammar.specs.declared.grammar.Pattern.{Pattern, Leaf, Nullary, Unary', Binary'}
use Rattle.sel_grammar.specs.Costs.{Cost}
use Rattle.sel_grammar.specs.Fits.{rule_at, in_range}
use Rattle.sel_forest.specs.declared.forest.Node.{Node}
use Rattle.sel_plain.specs.declared.entry.Entry.{Entry}
use Rattle.sel_plain.specs.declared.kind.RuleKind.{RuleKind}
use Rattle.sel_plain.specs.declared.kind.RuleKind.TheVariants.{Operator, Chain}
use Rattle.sel_plain.specs.Kinds.{rule_kind}
use Rattle.sel_plain.specs.Rows.{Row, entry_at}
use Rattle.sel_plain.specs.Offers.{offered, offered_by}
use Rattle.sel_plain.specs.Bettering.{Withstands, KindWithstood, IsBettered, Keeps, total_distance, KeepsBacked, offer_entry}
use Rattle.sel_forest.proofs.Matching.{some_same}
use Rattle.sel_plain.proofs.Betters.{AllBacked-bettered, Keeps-bettered, new_same, no_later_self, no_later_trans}

-- what a rule with an operator offers doesn't depend on the row
by_apart : (p : Pattern) (nodes : List Node) (rows : List Row) (row new : Row) (i : ℕ) → rule_kind p ≡ Operator → offered_by p nodes rows row i ≡ offered_by p nodes rows new i
by_apart (Leaf m) nodes rows row new i h = cc
by_apart (Nullary op) nodes rows row new i h = refl
by_apart (Unary' op s p) nodes rows row new i h = refl
by_apart (Binary' op s p s' q) nodes rows row new i h = refl

offered_apart : (rule : Rule) (nodes : List Node) (rows : List Row) (row new : Row) (i : ℕ) → rule_kind rule.pattern ≡ Operator → offered rule nodes rows row i ≡ offered rule nodes rows new i
offered_apart rule nodes rows row new i h = go (slice_get nodes i)
  where
    go : (o : Option Node) → option_and_then (λ (node : Node). if in_range rule.range node.attribute then offered_by rule.pattern nodes rows row i else None) o ≡ option_and_then (λ (node : Node). if in_range rule.range node.attribute then offered_by rule.pattern nodes rows new i else None) o
    go None = refl
    go (Some node) = ap (λ x. if in_range rule.range node.attribute then x else None) (by_apart rule.pattern nodes rows row new i h)

withstands_still : (rule : Rule) (r : ℕ) (offer : Option Cost) (old new : Row) → Keeps old new → Withstands (entry_at old rule.left) offer rule r → Withstands (entry_at new rule.left) offer rule r
withstands_still rule r None old new keeps w = tt
withstands_still rule r (Some c) old new keeps w = go (entry_at old rule.left) refl w
  where
    go : (o : Option Entry) → entry_at old rule.left ≡ o → Withstands o (Some c) rule r → Withstands (entry_at new rule.left) (Some c) rule r
    go None q w = absurd w.0
    go (Some e) q w =
        let s = keeps rule.left e q in
        subst (λ o. Withstands o (Some c) rule r) (sym s.1) (no_later_trans s.0 e (offer_entry rule r c) s.2 w.0, w.1)

module _ (g : Grammar) (nodes : List Node) (rows : List Row) (i : ℕ) where
  -- the offers of the first rules, as far as they are of a kind, are withstood
  abbrev pub KindTo : RuleKind → ℕ → Row → Type 0
  KindTo kind k row = (j : ℕ) (rule : Rule) → j < k → slice_get g.rules j ≡ Some rule → rule_kind rule.pattern ≡ kind → Withstands (entry_at row rule.left) (offered rule nodes rows row i) rule (j + 1)

  pub KindTo-more : (kind : RuleKind) (k : ℕ) (row : Row) (rule : Rule) → slice_get g.rules k ≡ Some rule → KindTo kind k row
      → (rule_kind rule.pattern ≡ kind → Withstands (entry_at row rule.left) (offered rule nodes rows row i) rule (k + 1)) → KindTo kind (k + 1) row
  KindTo-more kind k row rule at below here j rule' lt at' q = go (split j k lt)
    where
      split : (j k : ℕ) → j < k + 1 → (j < k) ⊎ (j ≡ k)
      split j k h = grind arith

      go : (j < k) ⊎ (j ≡ k) → Withstands (entry_at row rule'.left) (offered rule' nodes rows row i) rule' (j + 1)
      go (inl h) = below j rule' h at' q
      go (inr e) =
          let same : rule ≡ rule' = some_same (sym at ∙ ap (slice_get g.rules) (sym e) ∙ at') in
          subst (λ x. Withstands (entry_at row rule'.left) (offered rule' nodes rows row i) rule' (x + 1)) (sym e)
          (subst (λ (x : Rule). Withstands (entry_at row x.left) (offered x nodes rows row i) x (k + 1)) same (here (ap (λ (x : Rule). rule_kind x.pattern) same ∙ q)))

  -- a better row withstands what rules with operators offer
  pub Operators-kept : (k : ℕ) (row new : Row) → Keeps row new → KindTo Operator k row → KindTo Operator k new
  Operators-kept k row new keeps below j rule lt at q =
      withstands_still rule (j + 1) (offered rule nodes rows new i) row new keeps
      (subst (λ x. Withstands (entry_at row rule.left) x rule (j + 1)) (offered_apart rule nodes rows row new i q) (below j rule lt at q))

  pub Operators-still : (row new : Row) → Keeps row new → KindWithstood Operator g nodes rows row i → KindWithstood Operator g nodes rows new i
  Operators-still row new keeps h k rule at q = Operators-kept (k + 1) row new keeps (λ j rule lt at q. h j rule at q) k rule (omega arith) at q

  pub both_kinds : (row : Row) → KindWithstood Operator g nodes rows row i → KindWithstood Chain g nodes rows row i → (kind : RuleKind) → KindWithstood kind g nodes rows row i
  both_kinds row h k Operator = h
  both_kinds row h k Chain = k

  module _ (row new : Row) (k : ℕ) (rule : Rule) (at : slice_get g.rules k ≡ Some rule) (inside : rule.left < length row) (b : IsBettered rule (k + 1) (offered rule nodes rows row i) row new) where
    pub Operators-bettered : KindTo Operator k row → KindTo Operator (k + 1) new
    Operators-bettered below = KindTo-more Operator k new rule at (Operators-kept k row new (Keeps-bettered rule (k + 1) _ row new inside b) below) own
      where
        own : rule_kind rule.pattern ≡ Operator → Withstands (entry_at new rule.left) (offered rule nodes rows new i) rule (k + 1)
        own q =
            let offer : offered rule nodes rows new i ≡ Some (b.kids) = offered_apart rule nodes rows new row i q ∙ b.offered in
            subst (λ x. Withstands (entry_at new rule.left) x rule (k + 1)) (sym offer)
            (subst (λ o. Withstands o (Some (b.kids)) rule (k + 1)) (sym (new_same rule (k + 1) _ row new inside b)) (no_later_self (offer_entry rule (k + 1) b.kids), b.cheap))

    pub KeepsBacked-bettered : (old : Row) → length row ≡ length old → KeepsBacked g nodes rows i old row → KeepsBacked g nodes rows i old new
    KeepsBacked-bettered old long keeps base low short ops backed =
        let numbered : rule_at g (k + 1) ≡ Some rule = rw (add-one) at in
        AllBacked-bettered g rule (k + 1) nodes rows row new i base numbered inside (omega arith) low ops (keeps base low short ops backed) b

    pub long_more : (old : Row) → length row ≡ length old → length new ≡ length old
    long_more old h = ap length b.set ∙ length-set row rule.left (Some (offer_entry rule (k + 1) b.kids)) ∙ h
