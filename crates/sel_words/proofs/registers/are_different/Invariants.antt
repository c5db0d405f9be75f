use Rattle.std.proofs.Common.{◌≡◌, length, map}
use Rattle.sel_words.specs.Registers.{are_different}
use Rattle.sel_words.proofs.registers.are_different.Given as goal

abbrev pub invariant-names : goal.invariant-names
invariant-names l = are_different (map (λ name. name.now) l.names) ≡ are_different (map (λ name. name.now) l.rest)

abbrev pub decreases-names : goal.decreases-names
decreases-names l = length l.rest
