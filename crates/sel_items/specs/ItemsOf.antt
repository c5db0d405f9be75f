-- The item set of a tree, by derivations of the user's grammar.
use Rattle.std.specs.Prelude.{◌≡◌, ℕ, ℤ, ◌+◌, ◌<◌, Option, Some, None, [], ◌∷◌, length, slice_get}
use Rattle.sel_grammar.specs.declared.grammar.Attribute.{Attribute}
use Rattle.sel_grammar.specs.declared.grammar.Attribute.TheVariants.{Number}
use Rattle.sel_grammar.specs.declared.grammar.Grammar.{Grammar}
use Rattle.sel_grammar.specs.declared.grammar.Pattern.{Pattern}
use Rattle.sel_grammar.specs.Costs.{Cost}
use Rattle.sel_grammar.specs.PlainTrees.{PlainTree, Node0, Node1, Node2}
use Rattle.sel_grammar.specs.Derivations.{Derivation, Deriv, Derivations, cost, costs}
use Rattle.sel_grammar.specs.Best.{IsBest, HasNone}
use Rattle.sel_range.specs.Classes.{class_of}
use Rattle.sel_normal.specs.Forms.{places, tests}
use Rattle.sel_normal.specs.Goals.{IsBestPart, HasNoPart}
use Rattle.sel_items.specs.declared.items.Item.{Item}
use Rattle.sel_items.specs.declared.items.Items.{Items}
use Rattle.sel_items.specs.Entries.{ItemRow, item_at, IsReduced}
use Rattle.sel_items.specs.Follows.{NodeKey}

-- the number of the rule at a derivation's root
abbrev pub root_rule : Derivation → ℕ
root_rule (Deriv r kids) = r

-- the cost and the first rule of the best derivation of the tree from the nonterminal
pub record IsBestItem (g : Grammar) (n : ℕ) (t : PlainTree) (item : Item) : Type 0 where
  pub best : Derivation
  pub is_best : IsBest g best n t
  pub cost_is : item.cost ≡ cost g best
  pub rule_is : item.rule ≡ root_rule best

-- the cost of the best kids of an inner part of a pattern that lies over the tree, and the part's helper rule
pub record IsPartItem (g : Grammar) (part : Pattern) (helper : ℕ) (t : PlainTree) (item : Item) : Type 0 where
  pub best : Derivations
  pub is_best : IsBestPart g best part t
  pub cost_is : item.cost ≡ costs g best
  pub rule_is : item.rule ≡ helper

-- the best derivation's item, or nothing where nothing derives the tree
abbrev pub SymbolMeans : Grammar → ℕ → PlainTree → Option Item → Type 0
SymbolMeans g n t None = HasNone g n t
SymbolMeans g n t (Some item) = IsBestItem g n t item

-- the part's item, or nothing where no derivations stand under it
abbrev pub PartMeans : Grammar → Pattern → ℕ → PlainTree → Option Item → Type 0
PartMeans g part helper t None = HasNoPart g part t
PartMeans g part helper t (Some item) = IsPartItem g part helper t item

-- The item set of the tree: of each nonterminal, and behind these of each inner part of a pattern, the best cost less the least of all, and a first rule.
pub record IsItemsOf (g : Grammar) (t : PlainTree) (items : Items) : Type 0 where
  pub absolute : ItemRow
  pub least : Cost
  pub long : length absolute ≡ length g.nonterminals + length (places g.rules)
  pub symbols : (n : ℕ) → n < length g.nonterminals → SymbolMeans g n t (item_at absolute n)
  pub parts : (j : ℕ) (part : Pattern) → slice_get (places g.rules) j ≡ Some part → PartMeans g part (length g.rules + j + 1) t (item_at absolute (length g.nonterminals + j))
  pub reduced : IsReduced least absolute items.entries

-- the number that an attribute is, where it is one
abbrev pub attribute_number : Attribute → Option ℤ
attribute_number (Number z) = Some z
attribute_number _ = None

-- The key of a tree: its operator, and the class of its attribute without kids or the kids' item sets.
abbrev pub IsKeyOf : Grammar → PlainTree → NodeKey → Type 0
IsKeyOf g (Node0 op a) key = (key.operator ≡ op) × (key.class ≡ class_of (tests g.rules) (attribute_number a)) × (key.kids ≡ [])
IsKeyOf g (Node1 op a t) key = (key.operator ≡ op) × (key.class ≡ 0) × ((i : Items) × (key.kids ≡ i ∷ []) × IsItemsOf g t i)
IsKeyOf g (Node2 op a t u) key = (key.operator ≡ op) × (key.class ≡ 0) × ((i j : Items) × (key.kids ≡ i ∷ j ∷ []) × IsItemsOf g t i × IsItemsOf g u j)
