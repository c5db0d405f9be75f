use Rattle.std.proofs.Common.{◌≡◌, ℕ, List, Option, Some, None, MatchOption, sym, ◌∙◌}
use Rattle.std.specs.Map.{lookup}
use Rattle.sel_auto.specs.declared.key.StateKey.{StateKey}
use Rattle.sel_auto.specs.contracts.key.StateKeyPartialEq.TheImpl.{eq-value}
use Rattle.sel_auto.specs.Sets.{IsAmong}
use Rattle.sel_auto.proofs.Finding.{no_number, found_number}
use Rattle.sel_auto.proofs.KeyEquality.{itself, same}
use Rattle.sel_auto.proofs.transitions.Transitions.get.Goals as goal

by : (es : List (StateKey × ℕ)) (k : StateKey) (r : Option ℕ) → r ≡ lookup (eq-value.it k) es → MatchOption r ((n : ℕ) → IsAmong es (k, n) → ⊥) (λ n. IsAmong es (k, n))
by es k None h = no_number eq-value.it itself es k (sym h)
by es k (Some n) h = found_number eq-value.it same es k n (sym h)

pub returns : goal.returns
returns c = rw (← c.self.view_is) (by (c.self.inside.numbers).entries c.args.key c.copied.result (c.copied.ensures ∙ c.get.ensures.value))
