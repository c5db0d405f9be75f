use Rattle.std.proofs.Common.{◌≡◌, ◌≤◌, ◌+◌, ◌++◌, length, ℕ}
use Rattle.sel_grammar.specs.Limits.{most_normal_nonterminals}
use Rattle.sel_normal.specs.Forms as form
use Rattle.sel_normal.proofs.Rests.{AreRulesOf}
use Rattle.sel_normal.proofs.form.push_helper_rules.Given as goal

abbrev pub invariant-helpers : goal.invariant-helpers
invariant-helpers l = record {
  made : l.rules.items ++ form.helper_rules l.number (form.places l.rest) ≡ l.initial.rules.items ++ form.helper_rules (length l.grammar.nonterminals) (form.places l.grammar.rules);
  few : l.number + length (form.places l.rest) ≤ most_normal_nonterminals;
  lawful : AreRulesOf l.grammar l.rest;
}

abbrev pub decreases-helpers : goal.decreases-helpers
decreases-helpers l = length l.rest
