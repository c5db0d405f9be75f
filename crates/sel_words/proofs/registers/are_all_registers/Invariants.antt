use Rattle.std.proofs.Common.{◌≡◌, length, map}
use Rattle.std.specs.List.{list_all}
use Rattle.sel_words.specs.Registers.{is_register}
use Rattle.sel_words.proofs.registers.are_all_registers.Given as goal

abbrev pub invariant-names : goal.invariant-names
invariant-names l = list_all is_register (map (λ name. name.now) l.names) ≡ list_all is_register (map (λ name. name.now) l.rest)

abbrev pub decreases-names : goal.decreases-names
decreases-names l = length l.rest
