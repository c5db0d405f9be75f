-- A node's row, as rules better it.
use Rattle.std.specs.Prelude.{◌≡◌, ℕ, ◌+◌, ◌*◌, ◌≤◌, ◌^◌, ◌⊎◌, if◌then◌else◌, Option, Some, None, List, length, slice_get, slice_set}
use Rattle.std.specs.List.{sum_by}
use Rattle.sel_grammar.specs.declared.grammar.Grammar.{Grammar}
use Rattle.sel_grammar.specs.declared.grammar.Rule.{Rule}
use Rattle.sel_grammar.specs.Costs.{Cost, ◌⊕◌, IsCheaper, price}
use Rattle.sel_grammar.specs.Limits.{greatest_cost, most_nonterminals}
use Rattle.sel_grammar.specs.Fits.{rule_at}
use Rattle.sel_forest.specs.declared.forest.Node.{Node}
use Rattle.sel_plain.specs.declared.entry.Entry.{Entry}
use Rattle.sel_plain.specs.CostBounds.{capped_sum, IsUpTo, IsNoDearer, is_dearer, cost_place, per_tree}
use Rattle.sel_plain.specs.declared.kind.RuleKind.{RuleKind}
use Rattle.sel_plain.specs.declared.kind.RuleKind.TheVariants.{Operator}
use Rattle.sel_plain.specs.Kinds.{rule_kind}
use Rattle.sel_plain.specs.Rows.{Row, entry_at}
use Rattle.sel_plain.specs.Offers.{offered}

-- less cost, or the same and no greater rule
abbrev pub IsNoLater : Entry → Entry → Type 0
IsNoLater a b = IsCheaper a.cost b.cost ⊎ ((a.cost ≡ b.cost) × (a.rule ≤ b.rule))

-- the rule with the number r over kids of a cost
abbrev pub offer_entry : Rule → ℕ → Cost → Entry
offer_entry rule r c = record { cost = capped_sum (price rule) c; rule = r }

-- what a place has is no later than an entry
abbrev pub KeepsOut : Option Entry → Entry → Type 0
KeepsOut None f = ⊥
KeepsOut (Some e) f = IsNoLater e f

-- a place withstands what a rule offers: there is no offer, or the place keeps it out
abbrev pub Withstands : Option Entry → Option Cost → Rule → ℕ → Type 0
Withstands place None rule r = Unit {0}
Withstands place (Some c) rule r = KeepsOut place (offer_entry rule r c) × IsUpTo greatest_cost (price rule)

-- the row takes what the rule offers, since its place doesn't keep it out
pub record IsBettered (rule : Rule) (r : ℕ) (offer : Option Cost) (old new : Row) : Type 0 where
  pub kids : Cost
  pub cheap : IsUpTo greatest_cost (price rule)
  pub offered : offer ≡ Some kids
  pub set : new ≡ slice_set old rule.left (Some (offer_entry rule r kids))
  pub later : KeepsOut (entry_at old rule.left) (offer_entry rule r kids) → ⊥

-- the offers of all rules of a kind are withstood
abbrev pub KindWithstood : RuleKind → Grammar → List Node → List Row → Row → ℕ → Type 0
KindWithstood kind g nodes rows row i =
    (k : ℕ) (rule : Rule) → slice_get g.rules k ≡ Some rule → rule_kind rule.pattern ≡ kind → Withstands (entry_at row rule.left) (offered rule nodes rows row i) rule (k + 1)

-- each entry is there still, or one that is no later
abbrev pub Keeps : Row → Row → Type 0
Keeps old new = (n : ℕ) (e : Entry) → entry_at old n ≡ Some e → (f : Entry) × (entry_at new n ≡ Some f) × IsNoLater f e

-- how far an entry is from the least one: costs have places below 2 ^ 128, and rules have numbers below 2 ^ 16
abbrev pub distance : Option Entry → ℕ
distance None = 2 ^ 145
distance (Some e) = cost_place e.cost * 2 ^ 16 + e.rule

abbrev pub total_distance : Row → ℕ
total_distance row = sum_by distance row

-- 1 where the entry is there and costs no more than c
abbrev pub counts_to : Cost → Option Entry → ℕ
counts_to c None = 0
counts_to c (Some e) = if is_dearer e.cost c then 0 else 1

-- how many entries cost no more than c
abbrev pub count_to : Cost → Row → ℕ
count_to c row = sum_by (counts_to c) row

-- an entry is some rule's that offers no more, and neither of its numbers is greater than the entries that cost no more allow
pub record IsBacked (g : Grammar) (nodes : List Node) (rows : List Row) (row : Row) (i base n : ℕ) (e : Entry) : Type 0 where
  pub rule : Rule
  pub numbered : rule_at g e.rule ≡ Some rule
  pub left : rule.left ≡ n
  pub kids : Cost
  pub offered : offered rule nodes rows row i ≡ Some kids
  pub no_more : IsNoDearer (price rule ⊕ kids) e.cost
  pub small : IsUpTo (base + greatest_cost * count_to e.cost row) e.cost

abbrev pub AllBacked : Grammar → List Node → List Row → Row → ℕ → ℕ → Type 0
AllBacked g nodes rows row i base = (n : ℕ) (e : Entry) → entry_at row n ≡ Some e → IsBacked g nodes rows row i base n e

-- what rules but chain rules offer is at most base
abbrev pub OperatorOffers : Grammar → List Node → List Row → ℕ → ℕ → Type 0
OperatorOffers g nodes rows i base = (rule : Rule) (row : Row) (c : Cost) → rule_kind rule.pattern ≡ Operator → offered rule nodes rows row i ≡ Some c → IsUpTo base c

-- where the old row's entries are backed, so are the new row's
abbrev pub KeepsBacked : Grammar → List Node → List Row → ℕ → Row → Row → Type 0
KeepsBacked g nodes rows i old new = (base : ℕ) → base ≤ per_tree → length old ≤ most_nonterminals → OperatorOffers g nodes rows i base → AllBacked g nodes rows old i base → AllBacked g nodes rows new i base
