use Rattle.std.proofs.Common.{◌≡◌, take, map}
use Rattle.sel_gen.specs.Drawing.{choice_of}
use Rattle.sel_gen.proofs.choices.choices.Given as goal

abbrev pub invariant-loop-rule : goal.invariant-loop-rule
invariant-loop-rule l = l.choices.items ≡ map (choice_of l.sizes) (take l.rule-index l.rule-items)
