-- What a row of entries says of a tree under the user's grammar, where `shift` was taken away from each cost: of nonterminals, and of inner parts of patterns.
use Rattle.std.specs.Prelude.{◌≡◌, ℕ, ◌+◌, ◌<◌, ◌⊎◌, Option, Some, None, List, [], ◌∷◌, length, slice_get}
use Rattle.sel_grammar.specs.declared.grammar.Grammar.{Grammar}
use Rattle.sel_grammar.specs.declared.grammar.Rule.{Rule}
use Rattle.sel_base.specs.declared.range.Range.{Range}
use Rattle.sel_grammar.specs.declared.grammar.Pattern.{Pattern, Leaf, Nullary}
use Rattle.sel_grammar.specs.Costs.{Cost, no_cost, ◌⊕◌, IsCheaper}
use Rattle.sel_grammar.specs.PlainTrees.{PlainTree, Node0, Node1, Node2, attribute_of}
use Rattle.sel_grammar.specs.Fits.{leaves, subtrees, rule_at, in_range}
use Rattle.sel_grammar.specs.Derivations.{Derivation, Derivations, DeriveAll, cost, costs}
use Rattle.sel_grammar.specs.Best.{HasNone}
use Rattle.sel_grammar.specs.Firsts.{IsFirst, AllFirst}
use Rattle.sel_normal.specs.NormalForms.{NormalForm}
use Rattle.sel_normal.specs.Cuts.{IsCut}
use Rattle.sel_normal.specs.Forms.{places}
use Rattle.sel_normal.specs.Seen.{range_at}
use Rattle.sel_items.specs.declared.items.Item.{Item}
use Rattle.sel_items.specs.declared.items.Items.{Items}
use Rattle.sel_items.specs.Entries.{ItemRow, item_at}
use Rattle.sel_items.specs.Follows.{NodeKey, item_cost, test_holds}
use Rattle.sel_items.specs.ItemsOf.{root_rule}

-- the kids of a tree
abbrev pub kid_trees : PlainTree → List PlainTree
kid_trees (Node0 o at) = []
kid_trees (Node1 o at t) = t ∷ []
kid_trees (Node2 o at t u) = t ∷ u ∷ []

abbrev pub operator_of : PlainTree → ℕ
operator_of (Node0 o at) = o
operator_of (Node1 o at t) = o
operator_of (Node2 o at t u) = o

abbrev pub EntryMeans : Grammar → ℕ → PlainTree → Cost → Option Item → Type 0
EntryMeans g n t shift None = HasNone g n t
EntryMeans g n t shift (Some item) = (d : Derivation) × IsFirst g d n t × (cost g d ≡ shift ⊕ item.cost) × (root_rule d ≡ item.rule)

-- the part's best kids, and their cost
pub record HasPart (g : Grammar) (p : Pattern) (t : PlainTree) (shift c : Cost) : Type 0 where
  pub under : List PlainTree
  pub lies : subtrees p t ≡ Some under
  pub kids : Derivations
  pub firsts : AllFirst g kids (leaves p) under
  pub is : costs g kids ≡ shift ⊕ c

abbrev pub HasNoKids : Grammar → Pattern → PlainTree → Type 0
HasNoKids g p t = (ts : List PlainTree) → subtrees p t ≡ Some ts → (es : Derivations) → DeriveAll g es (leaves p) ts → ⊥

abbrev pub PartCosts : Grammar → Pattern → PlainTree → Cost → Option Cost → Type 0
PartCosts g p t shift None = HasNoKids g p t
PartCosts g p t shift (Some c) = HasPart g p t shift c

pub record GoalsMean (g : Grammar) (t : PlainTree) (shift : Cost) (row : ItemRow) : Type 0 where
  pub symbols : (n : ℕ) → n < length g.nonterminals → EntryMeans g n t shift (item_at row n)
  pub parts : (j : ℕ) (part : Pattern) → slice_get (places g.rules) j ≡ Some part → PartCosts g part t shift (item_cost (item_at row (length g.nonterminals + j)))
  pub helpers : (j : ℕ) (part : Pattern) (item : Item) → slice_get (places g.rules) j ≡ Some part → item_at row (length g.nonterminals + j) ≡ Some item → item.rule ≡ length g.rules + j + 1

-- the item sets are the kids', and what was taken away from them makes `shift`
abbrev pub KidsGoals : Grammar → List PlainTree → Cost → List Items → Type 0
KidsGoals g [] shift [] = shift ≡ no_cost
KidsGoals g (t ∷ []) shift (i ∷ []) = GoalsMean g t shift i.entries
KidsGoals g (t ∷ u ∷ []) shift (i ∷ j ∷ []) = (a b : Cost) × (shift ≡ a ⊕ b) × GoalsMean g t a i.entries × GoalsMean g u b j.entries
KidsGoals g _ shift _ = ⊥

-- where a rule's pattern lies over the tree, the class decides its range as the attribute does
abbrev pub Decides : Grammar → NormalForm → NodeKey → PlainTree → Type 0
Decides g normal key t = (r : ℕ) (rule : Rule) (ts : List PlainTree) (test : Option ℕ) → rule_at g r ≡ Some rule → subtrees rule.pattern t ≡ Some ts → range_at normal.tests test ≡ rule.range
    → test_holds normal.tests key.class test ≡ in_range rule.range (attribute_of t)

-- a rule with a range has a pattern of one operator without kids
abbrev pub HasRangesPlaced : Grammar → Type 0
HasRangesPlaced g = (r : ℕ) (rule : Rule) (x : Range) → rule_at g r ≡ Some rule → rule.range ≡ Some x → (op : ℕ) × (rule.pattern ≡ Nullary op)

-- The key is the tree's under the grammar and its normal form: `shift` was taken away from what the kids' item sets say.
pub record IsTreeKey (g : Grammar) (normal : NormalForm) (key : NodeKey) (t : PlainTree) (shift : Cost) : Type 0 where
  pub cut : IsCut g normal
  pub width : normal.nonterminals ≡ length g.nonterminals + length (places g.rules)
  pub lefts : (r : ℕ) (rule : Rule) → rule_at g r ≡ Some rule → rule.left < length g.nonterminals
  pub kids : KidsGoals g (kid_trees t) shift key.kids
  pub operator : key.operator ≡ operator_of t
  pub decides : Decides g normal key t
  pub chains_open : (r : ℕ) (rule : Rule) (m : ℕ) → rule_at g r ≡ Some rule → rule.pattern ≡ Leaf m → rule.range ≡ None

-- What a node's item set means: some cost was taken away from each entry, so that the least is nothing.
pub record IsNodeSet (g : Grammar) (t : PlainTree) (items : Items) : Type 0 where
  pub shift : Cost
  pub long : length items.entries ≡ length g.nonterminals + length (places g.rules)
  pub means : GoalsMean g t shift items.entries
  pub lowest : (n : ℕ) (item : Item) → item_at items.entries n ≡ Some item → IsCheaper item.cost no_cost → ⊥
  pub reached : ((n : ℕ) × (item : Item) × (item_at items.entries n ≡ Some item) × (item.cost ≡ no_cost)) ⊎ ((n : ℕ) → item_at items.entries n ≡ None)
