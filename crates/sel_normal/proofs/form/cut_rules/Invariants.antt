use Rattle.std.proofs.Common.{◌≡◌, ◌≤◌, ◌+◌, ◌++◌, length, ℕ}
use Rattle.sel_grammar.specs.Limits.{most_rules, most_normal_nonterminals}
use Rattle.sel_normal.specs.Forms as form
use Rattle.sel_normal.proofs.Rests.{AreRulesOf}
use Rattle.sel_normal.proofs.form.cut_rules.Given as goal

abbrev pub invariant-users : goal.invariant-users
invariant-users l = record {
  made : l.rules.items ++ form.cut_rules l.number l.test l.rest ≡ form.cut_rules (length l.grammar.nonterminals) 0 l.grammar.rules;
  few : l.number + length (form.places l.rest) ≤ most_normal_nonterminals;
  tests : l.test + length l.rest ≤ most_rules;
  lawful : AreRulesOf l.grammar l.rest;
}

abbrev pub decreases-users : goal.decreases-users
decreases-users l = length l.rest
