use Rattle.std.proofs.Common.{◌≡◌, ◌++◌, drop}
use Rattle.sel_answers.specs.Output.{behind_spaces}
use Rattle.sel_answers.proofs.answers.put_rules.Given as goal

abbrev pub invariant-rules : goal.invariant-rules
invariant-rules l = l.text.items ++ behind_spaces (drop l.rule-index l.rest) ≡ l.initial.text.items ++ behind_spaces l.rest
