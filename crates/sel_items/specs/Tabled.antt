-- Nodes whose item sets fit words, so that an automaton may keep them in tables.
use Rattle.sel_grammar.specs.declared.grammar.Grammar.{Grammar}
use Rattle.sel_grammar.specs.PlainTrees.{PlainTree, Node0, Node1, Node2}
use Rattle.sel_items.specs.declared.items.Items.{Items}
use Rattle.sel_items.specs.ItemsOf.{IsItemsOf}
use Rattle.sel_items.specs.Words.{FitsWords}

-- the item set of the tree fits words
abbrev pub FitsItems : Grammar → PlainTree → Type 0
FitsItems g t = (i : Items) × IsItemsOf g t i × FitsWords i

-- The node at the tree's root is tabled: its item set and that of each node below it fit words.
abbrev pub IsTabled : Grammar → PlainTree → Type 0
IsTabled g (Node0 op a) = FitsItems g (Node0 op a)
IsTabled g (Node1 op a t) = FitsItems g (Node1 op a t) × IsTabled g t
IsTabled g (Node2 op a t u) = FitsItems g (Node2 op a t u) × IsTabled g t × IsTabled g u
