-- The costs of a lawful grammar's rules are small.
use Rattle.std.proofs.Common.{◌≡◌, ℕ, zero, suc, Some, None}
use Rattle.sel_grammar.specs.Laws.{LawfulCosts}

pub lawful_costs : LawfulCosts
lawful_costs g h zero rule at = absurd (cc)
lawful_costs g h (suc k) rule at = (h.rules k rule at).cost
