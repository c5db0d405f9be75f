use Rattle.std.proofs.Common.{◌≡◌, drop}
use Rattle.sel_full.specs.Tables.{kids_by}
use Rattle.sel_full.proofs.places.kids_by.Given as goal

abbrev pub invariant-loop-k : goal.invariant-loop-k
invariant-loop-k l = kids_by (l.normal).rules l.operator ≡ kids_by (drop l.k (l.normal).rules) l.operator
