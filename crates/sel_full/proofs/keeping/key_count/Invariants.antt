use Rattle.std.proofs.Common.{◌≡◌, ◌≤◌, ◌*◌, List, length}
use Rattle.sel_items.specs.declared.items.Items.{Items}
use Rattle.sel_full.specs.Tables.{key_start}
use Rattle.sel_full.proofs.keeping.key_count.Given as goal

abbrev pub invariant-loop-operator : goal.invariant-loop-operator
invariant-loop-operator l = record { is : (xs : List Items) → length xs ≡ l.states → key_start l.normal xs l.operator ≡ l.count; few : l.count ≤ l.operator * 4294967296 }
