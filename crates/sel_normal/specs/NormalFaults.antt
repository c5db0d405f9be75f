-- When a grammar has no normal form that is accepted: too many normal nonterminals, or a cycle of chain rules that costs nothing.
use Rattle.std.specs.Prelude.{◌≡◌, ℕ, ◌+◌, ◌<◌, ◌≤◌, ◌⊎◌, Some, take, length}
use Rattle.sel_grammar.specs.declared.grammar.Grammar.{Grammar}
use Rattle.sel_grammar.specs.declared.grammar.Rule.{Rule}
use Rattle.sel_grammar.specs.declared.refusal.GrammarFault.{GrammarFault}
use Rattle.sel_grammar.specs.declared.refusal.GrammarRefusal.{GrammarRefusal}
use Rattle.sel_grammar.specs.declared.refusal.GrammarRefusal.TheVariants.{Fault, NoMemory}
use Rattle.sel_grammar.specs.Chains.{IsFreeStep, FreeWalk, HasNoFreeCycle}
use Rattle.sel_grammar.specs.Fits.{rule_at}
use Rattle.sel_grammar.specs.Limits.{most_normal_nonterminals, too_many, zero_cycle}
use Rattle.sel_normal.specs.Forms.{places}

-- how many normal nonterminals the grammar has with its first r rules
abbrev pub nonterminals_to : Grammar → ℕ → ℕ
nonterminals_to g r = length g.nonterminals + length (places (take r g.rules))

-- the grammar has few enough normal nonterminals
abbrev pub HasFew : Grammar → Type 0
HasFew g = length g.nonterminals + length (places g.rules) ≤ most_normal_nonterminals

-- the helpers of the rule r are the first that are too many
pub record IsTooManyAt (g : Grammar) (r : ℕ) : Type 0 where
  pub passes : most_normal_nonterminals < nonterminals_to g r
  pub first : (q : ℕ) → q < r → nonterminals_to g q ≤ most_normal_nonterminals

-- free chain rules lead from where the chain rule r leads back to its left side, or it leads there itself
pub record StandsOnFreeCycle (g : Grammar) (r : ℕ) : Type 0 where
  pub left : ℕ
  pub right : ℕ
  pub step : IsFreeStep g r left right
  pub back : (right ≡ left) ⊎ FreeWalk g right left

-- the rule r is the first on a cycle of free chain rules
pub record IsZeroCycleAt (g : Grammar) (r : ℕ) : Type 0 where
  pub stands : StandsOnFreeCycle g r
  pub first : (q : ℕ) → q < r → StandsOnFreeCycle g q → ⊥

-- a fault of this kind at the left name of the rule r
abbrev pub IsFaultAt : Grammar → ℕ → ℕ → GrammarFault → Type 0
IsFaultAt g kind r fault = (rule : Rule) × (rule_at g r ≡ Some rule) × (fault ≡ record { kind = kind; line = rule.line; column = rule.column })

-- The fault of a grammar's normal form: too many nonterminals come first.
pub data IsNormalFault (g : Grammar) (fault : GrammarFault) : Type 0 where
  TooMany : (r : ℕ) → IsTooManyAt g r → IsFaultAt g too_many r fault → IsNormalFault g fault
  ZeroCycle : (r : ℕ) → HasFew g → IsZeroCycleAt g r → IsFaultAt g zero_cycle r fault → IsNormalFault g fault

-- Nothing is wrong with the grammar's normal form.
pub record IsAccepted (g : Grammar) : Type 0 where
  pub few : HasFew g
  pub free : HasNoFreeCycle g

-- a refusal tells the fault, or that there was no memory
abbrev pub NormalRefusedFor : Grammar → GrammarRefusal → Type 0
NormalRefusedFor g (Fault fault) = IsNormalFault g fault
NormalRefusedFor g NoMemory = Unit {0}
