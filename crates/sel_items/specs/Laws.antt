-- Laws of item sets.
use Rattle.std.specs.Prelude.{◌≡◌, ℕ, ◌<◌, ◌^◌, Option, Some, None, [], length}
use Rattle.sel_grammar.specs.declared.grammar.Grammar.{Grammar}
use Rattle.sel_grammar.specs.Costs.{Cost}
use Rattle.sel_grammar.specs.Lawful.{IsLawful}
use Rattle.sel_grammar.specs.PlainTrees.{PlainTree, attribute_of, size}
use Rattle.sel_range.specs.Limits.{IsAttributeValue}
use Rattle.sel_normal.specs.declared.normal.NormalRule.{NormalRule}
use Rattle.sel_normal.specs.NormalForms.{NormalForm, normal_at}
use Rattle.sel_normal.specs.Standing.{IsStanding}
use Rattle.sel_normal.specs.NormalFaults.{IsAccepted}
use Rattle.sel_normal.specs.Forms.{IsFormOf}
use Rattle.sel_items.specs.declared.items.Item.{Item}
use Rattle.sel_items.specs.declared.items.Items.{Items}
use Rattle.sel_items.specs.Entries.{ItemRow, item_at, NoLater}
use Rattle.sel_items.specs.ChainClosing.{IsClosedFrom}
use Rattle.sel_items.specs.CostBounds.{AreBelow, IsKidSet}
use Rattle.sel_items.specs.Follows.{NodeKey, IsCandidate, IsAbsolute, Follows}
use Rattle.sel_items.specs.ItemsOf.{IsItemsOf, IsKeyOf, attribute_number}
use Rattle.sel_items.specs.Unpacking.{unpacked}
use Rattle.sel_items.specs.Words.{FitsWords, IsPackable, IsWordOf}

-- A grammar that is lawful and accepted, and its normal form.
pub record IsAcceptedForm (g : Grammar) (normal : NormalForm) : Type 0 where
  pub lawful : IsLawful g
  pub accepted : IsAccepted g
  pub form : IsFormOf g normal

-- What follows from the key of a node is the node's item set, so relative costs keep what is least and what comes first.
abbrev pub ItemsFollow : Type 0
ItemsFollow = (g : Grammar) (normal : NormalForm) (t : PlainTree) (key : NodeKey) (items : Items) → IsAcceptedForm g normal → IsAttributeValue (attribute_number (attribute_of t)) → IsKeyOf g t key → Follows normal key items → IsItemsOf g t items

-- And the other way round: the item set of a node follows from the node's key.
abbrev pub ItemsOfFollow : Type 0
ItemsOfFollow = (g : Grammar) (normal : NormalForm) (t : PlainTree) (key : NodeKey) (items : Items) → IsAcceptedForm g normal → IsAttributeValue (attribute_number (attribute_of t)) → IsKeyOf g t key → IsItemsOf g t items → Follows normal key items

-- From a key follows one item set at most.
abbrev pub FollowsIsOne : Type 0
FollowsIsOne = (normal : NormalForm) (key : NodeKey) (i j : Items) → Follows normal key i → Follows normal key j → i ≡ j

-- A tree has one item set at most.
abbrev pub ItemsAreOne : Type 0
ItemsAreOne = (g : Grammar) (t : PlainTree) (i j : Items) → IsItemsOf g t i → IsItemsOf g t j → i ≡ j

-- Each tree has an item set.
abbrev pub ItemsExist : Type 0
ItemsExist = (g : Grammar) (t : PlainTree) → IsLawful g → IsAccepted g → (i : Items) × IsItemsOf g t i

-- The item set of a tree of fewer than 2^16 nodes is one that its parent's may be evaluated from.
abbrev pub ItemsAreKidSets : Type 0
ItemsAreKidSets = (g : Grammar) (normal : NormalForm) (t : PlainTree) (i : Items) → IsAcceptedForm g normal → size t < 2 ^ 16 → IsItemsOf g t i → IsKidSet normal i

-- The rule of an entry is one of the normal form's, with the entry's nonterminal on its left.
abbrev pub EntriesHaveRules : Type 0
EntriesHaveRules = (normal : NormalForm) (key : NodeKey) (items : Items) (n : ℕ) (item : Item) → Follows normal key items → item_at items.entries n ≡ Some item
    → (rule : NormalRule) × (normal_at normal item.rule ≡ Some rule) × (rule.left ≡ n)

-- So each entry has a word where the costs of the item set fit words.
abbrev pub FittingSetsHaveWords : Type 0
FittingSetsHaveWords = (normal : NormalForm) (key : NodeKey) (items : Items) (n : ℕ) → IsStanding normal → Follows normal key items → FitsWords items → IsPackable (item_at items.entries n)

-- A word of an entry that has one says the entry.
abbrev pub WordsSayEntries : Type 0
WordsSayEntries = (word : ℕ) (entry : Option Item) → IsPackable entry → IsWordOf entry word → unpacked word ≡ entry

-- the least candidate without chain rules, or nothing where there is none
abbrev pub IsOperatorEntry : NormalForm → NodeKey → ℕ → Option Item → Type 0
IsOperatorEntry normal key n None = (r : ℕ) (c : Cost) → IsCandidate normal key n [] r c → ⊥
IsOperatorEntry normal key n (Some item) = IsCandidate normal key n [] item.rule item.cost × ((r : ℕ) (c : Cost) → IsCandidate normal key n [] r c → NoLater item.cost item.rule c r)

-- the entries stand for the candidates without chain rules
pub record HasOperatorEntries (normal : NormalForm) (key : NodeKey) (row : ItemRow) : Type 0 where
  pub long : length row ≡ normal.nonterminals
  pub each : (n : ℕ) → n < normal.nonterminals → IsOperatorEntry normal key n (item_at row n)

-- Entries that stand for the candidates without chain rules, closed under the chain rules, are the least candidates of all.
abbrev pub ClosedAreAbsolute : Type 0
ClosedAreAbsolute = (normal : NormalForm) (key : NodeKey) (given row : ItemRow) → IsStanding normal → AreBelow 48 given → HasOperatorEntries normal key given → IsClosedFrom normal given row → IsAbsolute normal key row
