use Rattle.std.proofs.Common.{List, length}
use Rattle.std.specs.Prelude.{All}
use Rattle.sel_forest.specs.Tokens.{Token, IsCutInto}
use Rattle.sel_forest.specs.Reprinting.{IsSmall}
use Rattle.sel_forest.proofs.LineCopies.{IsLeft}
use Rattle.sel_forest.proofs.reprint.put_tokens.Given as goal

abbrev pub invariant-tokens : goal.invariant-tokens
invariant-tokens l = (ts : List Token) → IsCutInto l.line ts → All IsSmall ts → IsLeft l.attribute l.rest l.fn.text.items l.text.items ts

abbrev pub decreases-tokens : goal.decreases-tokens
decreases-tokens l = length l.rest
