-- The goals that a derivation's list is written from.
use Rattle.std.specs.Prelude.{◌≡◌, ℕ, Some, List, [], ◌∷◌, ◌++◌, reverse}
use Rattle.sel_grammar.specs.declared.grammar.Grammar.{Grammar}
use Rattle.sel_grammar.specs.declared.grammar.Rule.{Rule}
use Rattle.sel_grammar.specs.PlainTrees.{PlainTree}
use Rattle.sel_grammar.specs.Fits.{rule_at}
use Rattle.sel_grammar.specs.Derivations.{Derivations, no_more, more, Derivation, list, lists}
use Rattle.sel_grammar.specs.Firsts.{IsFirst}
use Rattle.sel_forest.specs.declared.forest.Node.{Node}
use Rattle.sel_forest.specs.Places.{goals}
use Rattle.sel_plain.specs.declared.entry.Entry.{Entry}
use Rattle.sel_forest.specs.declared.walk.Goal.{Goal}
use Rattle.sel_plain.specs.Rows.{Row, entry_at, row_at}
use Rattle.sel_forest.specs.Places.{IsRootAt}

-- best derivations for goals
abbrev pub BestFor : Grammar → List Node → Derivations → List Goal → Type 0
BestFor g nodes no_more [] = Unit {0}
BestFor g nodes (more d ds) (goal ∷ rest) = ((t : PlainTree) × IsRootAt nodes goal.at t × IsFirst g d goal.nonterminal t) × BestFor g nodes ds rest
BestFor g nodes _ _ = ⊥

-- a best derivation whose list is what is written and then the lists for the goals of the stack, its last goal first
pub record IsHalfWritten (g : Grammar) (nodes : List Node) (goal : Goal) (written : List ℕ) (stack : List Goal) : Type 0 where
  pub tree : PlainTree
  pub root : IsRootAt nodes goal.at tree
  pub best : Derivation
  pub first : IsFirst g best goal.nonterminal tree
  pub kids : Derivations
  pub for : BestFor g nodes kids (reverse stack)
  pub whole : list best ≡ written ++ lists kids

-- the table has a rule for the goal
pub record HasRule (g : Grammar) (rows : List Row) (goal : Goal) (number : ℕ) (rule : Rule) : Type 0 where
  pub entry : Entry
  pub there : entry_at (row_at rows goal.at) goal.nonterminal ≡ Some entry
  pub number_is : entry.rule ≡ number
  pub numbered : rule_at g number ≡ Some rule

-- the goal's rule is written, and its own goals are put on the stack
pub record WritesRule (g : Grammar) (nodes : List Node) (rows : List Row) (goal : Goal) (written new : List ℕ) (stack left : List Goal) : Type 0 where
  pub number : ℕ
  pub rule : Rule
  pub has : HasRule g rows goal number rule
  pub writes : new ≡ written ++ number ∷ []
  pub pushes : left ≡ stack ++ reverse (goals rule.pattern nodes goal.at)
