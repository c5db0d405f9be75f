-- The least costs that certificates prove are what is told of them.
use Rattle.std.proofs.Common.{◌≡◌, ℕ, Bool, Option, List, [], ◌∷◌, length, is_some, refl, sym, ap, subst, ◌∙◌, arith}
use Rattle.std.specs.List.{list_all}
use Rattle.sel_grammar.specs.declared.grammar.Grammar.{Grammar}
use Rattle.sel_grammar.specs.Costs.{Cost}
use Rattle.sel_forest.specs.declared.forest.Tree.{Tree}
use Rattle.sel_forest.specs.declared.forest.Forest.{Forest}
use Rattle.sel_forest.specs.Valid.{IsValidForest}
use Rattle.sel_check.specs.Checks.{AreLeastCosts}
use Rattle.sel_closing.proofs.Asks.{forests_are_valid}
use Rattle.sel_answers.specs.Output.{AreLeast, has_second_costs, least_costs_text}
use Rattle.sel_cli.proofs.Certifying.{are_trees}

-- one for each tree
pub least_count : (g : Grammar) (trees : List Tree) (costs : List (Option Cost)) → AreLeastCosts g trees costs → length costs ≡ length trees
least_count g [] [] h = refl
least_count g [] (c ∷ costs) h = absurd h
least_count g (t ∷ trees) [] h = absurd h
least_count g (t ∷ trees) (c ∷ costs) h = let e = least_count g trees costs h.1 in omega arith

pub least_told : (g : Grammar) (forest : Forest) (costs told : List (Option Cost)) (second covered : Bool) (bytes : List ℕ) → IsValidForest g forest → AreLeastCosts g forest.trees costs → told ≡ costs
    → second ≡ has_second_costs g → bytes ≡ least_costs_text second 1 told → covered ≡ list_all (λ (cost : Option Cost). is_some cost) told → AreLeast g forest.trees covered bytes
least_told g forest costs told second covered bytes valid least same is text all = record {
  are_trees = are_trees g forest.trees (forests_are_valid g forest valid);
  costs = costs;
  least = least;
  written = text ∙ ap (λ s. least_costs_text s 1 told) is ∙ ap (least_costs_text (has_second_costs g) 1) same;
  all_covered = sym (all ∙ ap (list_all (λ (cost : Option Cost). is_some cost)) same);
}
