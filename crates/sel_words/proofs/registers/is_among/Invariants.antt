use Rattle.std.proofs.Common.{◌≡◌, length, map}
use Rattle.std.specs.Prelude.{bytes_eq}
use Rattle.std.specs.List.{list_any}
use Rattle.sel_words.proofs.registers.is_among.Given as goal

abbrev pub invariant-names : goal.invariant-names
invariant-names l = list_any (bytes_eq l.name) (map (λ other. other.now) l.names) ≡ list_any (bytes_eq l.name) (map (λ other. other.now) l.rest)

abbrev pub decreases-names : goal.decreases-names
decreases-names l = length l.rest
