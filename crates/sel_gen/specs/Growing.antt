-- A tree that grows: what is left to do, and the trees that are whole.
use Rattle.std.specs.Prelude.{◌≡◌, ℕ, zero, suc, ◌+◌, ◌-◌, ◌*◌, ◌%◌, ◌≤◌, true, Option, Some, List, [], ◌∷◌, ◌++◌, length, drop, reverse, slice_get}
use Rattle.rand_pcg.specs.Lcg.{Lcg}
use Rattle.sel_base.specs.declared.range.Range.{Range}
use Rattle.sel_grammar.specs.declared.grammar.Attribute.TheVariants.{Absent}
use Rattle.sel_grammar.specs.declared.grammar.Grammar.{Grammar}
use Rattle.sel_grammar.specs.declared.grammar.Pattern.{Pattern, Leaf, Nullary, Unary', Binary', end_of-Pattern, more_of-Pattern}
use Rattle.sel_grammar.specs.declared.grammar.Rule.{Rule}
use Rattle.sel_grammar.specs.Fits.{leaves}
use Rattle.sel_grammar.specs.Lawful.{HasOperator}
use Rattle.sel_grammar.specs.PlainTrees.{PlainTree, Node0, Node1, Node2, size}
use Rattle.sel_forest.specs.declared.forest.Node.{Node}
use Rattle.sel_forest.specs.Postorder.{postorder}
use Rattle.sel_forest.specs.Valid.{IsOver}
use Rattle.sel_gen.specs.declared.tasks.Task.{Task}
use Rattle.sel_gen.specs.declared.tasks.Task.TheVariants.{Derive, Draw, Wrap, Join}
use Rattle.sel_gen.specs.Sizes.{is_usable, Sizes, size_at, AreLeastSizes, rule_size}
use Rattle.sel_gen.specs.Made.{most_size, word, behind, leaf_sizes, shared, attribute_by, candidates, Making, first_share, IsMade}

-- what is to be done for a pattern, kids before their node, where these are the shares of its nonterminals
abbrev pub steps : Option Range → Pattern → List ℕ → List Task
steps range (Leaf n) shares = Derive n (first_share shares) ∷ []
steps range (Nullary op) shares = Draw op range ∷ []
steps range (Unary' op s (more_of-Pattern p end_of-Pattern)) shares = steps range p shares ++ (Wrap op ∷ [])
steps range (Binary' op s (more_of-Pattern p end_of-Pattern) s' (more_of-Pattern q end_of-Pattern)) shares = steps range p shares ++ (steps range q (drop (length (leaves p)) shares) ++ (Join op ∷ []))

-- the steps are put on a stack, the first one last, and the pattern's own shares are taken off theirs
pub record HasPushed (range : Option Range) (p : Pattern) (front own shares : List ℕ) (old new : List Task) : Type 0 where
  pub shares_left : shares ≡ front
  pub pushed : new ≡ old ++ reverse (steps range p own)

-- the spare is shared out, and the rule's steps are put on the stack
pub record IsSpread (sizes : Sizes) (rule : Rule) (spare : ℕ) (before after : Lcg) (old new : List Task) : Type 0 where
  pub shares : List ℕ
  pub sharing : shared (leaf_sizes sizes rule.pattern) spare before ≡ (shares, after)
  pub pushed : new ≡ old ++ reverse (steps rule.range rule.pattern shares)

-- a candidate is drawn and spread
pub record IsDerived (g : Grammar) (sizes : Sizes) (n b : ℕ) (before after : Lcg) (old new : List Task) : Type 0 where
  pub number : ℕ
  pub rule : Rule
  pub there : slice_get g.rules number ≡ Some rule
  pub size : ℕ
  pub drawn : slice_get (candidates g sizes n b) (word before % length (candidates g sizes n b)) ≡ Some rule
  pub size_is : rule_size sizes rule ≡ Some size
  pub spread : IsSpread sizes rule (b - size) (behind before) after old new

-- whole trees, the last one first: their nodes, one tree behind the other
abbrev pub laid : List PlainTree → List Node
laid [] = []
laid (t ∷ ts) = laid ts ++ postorder (length (laid ts)) t

-- the places of their roots
abbrev pub roots_of : List PlainTree → List ℕ
roots_of [] = []
roots_of (t ∷ ts) = roots_of ts ++ ((length (laid ts) + size t - 1) ∷ [])

abbrev pub AreOver : Grammar → List PlainTree → Type 0
AreOver g [] = Unit {0}
AreOver g (t ∷ ts) = IsOver g t × AreOver g ts

-- Doing these tasks, the first one first, on whole trees leaves this tree alone, and these words.
abbrev pub Finishes : Making → List Task → List PlainTree → Lcg → PlainTree → Lcg → Type 0
Finishes Made [] ts words t after = (ts ≡ t ∷ []) × (words ≡ after)
Finishes Made (Derive n b ∷ tasks) ts words t after = (u : PlainTree) × (between : Lcg) × Made n b words u between × Finishes Made tasks (u ∷ ts) between t after
Finishes Made (Draw op range ∷ tasks) ts words t after = Finishes Made tasks (Node0 op (attribute_by range (word words)) ∷ ts) (behind words) t after
Finishes Made (Wrap op ∷ tasks) [] words t after = ⊥
Finishes Made (Wrap op ∷ tasks) (u ∷ ts) words t after = Finishes Made tasks (Node1 op Absent u ∷ ts) words t after
Finishes Made (Join op ∷ tasks) [] words t after = ⊥
Finishes Made (Join op ∷ tasks) (v ∷ []) words t after = ⊥
Finishes Made (Join op ∷ tasks) (v ∷ u ∷ ts) words t after = Finishes Made tasks (Node2 op Absent u v ∷ ts) words t after

-- Where so many trees are whole, each of the tasks finds the trees that it takes, and one is left.
abbrev pub LeaveOne : List Task → ℕ → Type 0
LeaveOne [] count = count ≡ 1
LeaveOne (Derive n b ∷ tasks) count = LeaveOne tasks (suc count)
LeaveOne (Draw op range ∷ tasks) count = LeaveOne tasks (suc count)
LeaveOne (Wrap op ∷ tasks) zero = ⊥
LeaveOne (Wrap op ∷ tasks) (suc count) = LeaveOne tasks (suc count)
LeaveOne (Join op ∷ tasks) zero = ⊥
LeaveOne (Join op ∷ tasks) (suc zero) = ⊥
LeaveOne (Join op ∷ tasks) (suc (suc count)) = LeaveOne tasks (suc count)

-- A budget is at least the nonterminal's size, a range isn't empty, and the grammar has the operators.
abbrev pub IsReady : Grammar → Sizes → Task → Type 0
IsReady g sizes (Derive n b) = (k : ℕ) × (size_at sizes n ≡ Some k) × (k ≤ b)
IsReady g sizes (Draw op range) = HasOperator g op 0 × (is_usable range ≡ true)
IsReady g sizes (Wrap op) = HasOperator g op 1
IsReady g sizes (Join op) = HasOperator g op 2

abbrev pub AreReady : Grammar → Sizes → List Task → Type 0
AreReady g sizes [] = Unit {0}
AreReady g sizes (task ∷ tasks) = IsReady g sizes task × AreReady g sizes tasks

-- at most so many turns come of a task, since a rule has at most 63 names
abbrev pub weight : Task → ℕ
weight (Derive n b) = 64 * b
weight (Draw op range) = 1
weight (Wrap op) = 1
weight (Join op) = 1

abbrev pub weights : List Task → ℕ
weights [] = 0
weights (task ∷ tasks) = weight task + weights tasks

-- A tree grows from the start symbol, with a budget: these are the tasks, the next one first, the words so far, and the nodes and roots of the trees that are whole. What the tasks make of them is made from the start symbol.
pub record IsGrowing (g : Grammar) (sizes : Sizes) (budget : ℕ) (before : Lcg) (todo : List Task) (words : Lcg) (nodes : List Node) (roots : List ℕ) : Type 0 where
  pub trees : List PlainTree
  pub nodes_are : nodes ≡ laid trees
  pub roots_are : roots ≡ roots_of trees
  pub over : AreOver g trees
  pub ready : AreReady g sizes todo
  pub one : LeaveOne todo (length trees)
  pub light : length nodes + weights todo ≤ 64 * budget
  pub whole : (t : PlainTree) (after : Lcg) → Finishes (IsMade g sizes) todo trees words t after → IsMade g sizes g.start budget before t after

-- the tree is one that is made, and its nodes are these
pub record HasGrown (g : Grammar) (sizes : Sizes) (budget : ℕ) (before after : Lcg) (nodes : List Node) : Type 0 where
  pub tree : PlainTree
  pub made : IsMade g sizes g.start budget before tree after
  pub postorder_is : nodes ≡ postorder 0 tree
  pub over : IsOver g tree
  pub small : length nodes ≤ 64 * budget

-- the sizes are the least within some limit
pub record AreLeastWithin (g : Grammar) (sizes : Sizes) : Type 0 where
  pub limit : ℕ
  pub least : AreLeastSizes g limit sizes
  pub small : limit ≤ most_size
