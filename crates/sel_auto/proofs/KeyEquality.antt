-- Keys are equal exactly where they are the same.
use Rattle.std.proofs.Common.{rules, ◌≡◌, true}
use Rattle.sel_auto.specs.declared.key.StateKey.{StateKey}
use Rattle.sel_auto.specs.contracts.key.StateKeyPartialEq.TheImpl.{eq-value}

pub itself : (x : StateKey) → eq-value.it x x ≡ true
itself x = search rules

pub same : (x y : StateKey) → eq-value.it x y ≡ true → x ≡ y
same x y h = search rules
