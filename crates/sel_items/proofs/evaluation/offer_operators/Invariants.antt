use Rattle.std.specs.Prelude.{◌≡◌, ◌+◌}
use Rattle.std.specs.Option.{option_copied}
use Rattle.sel_items.specs.Evaluating.{IsStartTo}
use Rattle.sel_items.specs.Follows.{key_of}
use Rattle.sel_items.specs.KidSets.{kid_sets}
use Rattle.sel_items.proofs.evaluation.offer_operators.Given as goal

abbrev pub invariant-loop-k : goal.invariant-loop-k
invariant-loop-k g l = record {
  start : IsStartTo l.normal (key_of l.operator l.class (kid_sets (option_copied l.first) (option_copied l.second))) l.k l.row;
  steps : l.steps ≡ l.initial.steps + l.k;
}
