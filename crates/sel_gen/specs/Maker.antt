-- A maker of trees: what it makes them of, and which are still to come.
use Rattle.std.specs.Prelude.{◌≡◌, ℕ, ◌<◌, ◌≤◌, Option, Some, None, List, map, refl}
use Rattle.std.specs.Coded.{Coded, code_by, coded×, coded_ℕ, coded_list, coded_option}
use Rattle.rand_pcg.specs.Lcg.{Lcg}
use Rattle.rand_pcg.specs.contracts.pcg128.Lcg128Xsl64 as generator
use Rattle.sel_grammar.specs.declared.grammar.Grammar.{Grammar}
use Rattle.sel_grammar.specs.contracts.grammar.Grammar.{the_row}
use Rattle.sel_grammar.specs.Lawful.{IsLawful}
use Rattle.sel_forest.specs.declared.forest.Tree.{Tree}
use Rattle.sel_gen.specs.declared.choices.Choice.{Choice}
use Rattle.sel_gen.specs.Sizes.{Sizes, size_at}
use Rattle.sel_gen.specs.Made.{most_size, AreMade}
use Rattle.sel_gen.specs.Drawing.{choice_of}
use Rattle.sel_gen.specs.Growing.{AreLeastWithin}

-- The grammar, the least sizes of its nonterminals, the budget of rules of each tree, how many trees are left to make, and the words before the next one.
pub record Maker : Type 0 where
  pub grammar : Grammar
  pub sizes : Sizes
  pub budget : ℕ
  pub left : ℕ
  pub words : Lcg

-- a maker is stored as the tuple of its fields
abbrev pub maker_code : Coded Maker
maker_code =
    code_by (Grammar × (Sizes × (ℕ × (ℕ × Lcg)))) (coded× the_row.coded (coded× (coded_list (coded_option coded_ℕ)) (coded× coded_ℕ (coded× coded_ℕ generator.the_row.coded))))
    (λ m. (m.grammar, (m.sizes, (m.budget, (m.left, m.words)))))
    (λ p. record { grammar = p.0; sizes = p.1.0; budget = p.1.1.0; left = p.1.1.1.0; words = p.1.1.1.1 })
    (λ _. refl)

-- the trees that are still to come
abbrev pub AreToCome : Maker → List Tree → Type 0
AreToCome m trees = AreMade m.grammar m.sizes m.budget m.left m.words trees

-- no trees where the start symbol has no size
abbrev pub count_for : Option ℕ → ℕ → ℕ
count_for None count = 0
count_for (Some least) count = count

-- The grammar is lawful, and these are its least sizes, with a choice for each rule. Where a tree is left to make, the budget is enough for one.
pub record IsEquipped (m : Maker) (choices : List Choice) : Type 0 where
  pub lawful : IsLawful m.grammar
  pub least : AreLeastWithin m.grammar m.sizes
  pub choices_are : choices ≡ map (choice_of m.sizes) (m.grammar).rules
  pub small : m.budget ≤ most_size
  pub start : 0 < m.left → (k : ℕ) × (size_at m.sizes (m.grammar).start ≡ Some k) × (k ≤ m.budget)
