use Rattle.std.proofs.Common.{◌≡◌, ◌++◌, drop}
use Rattle.std.specs.Prelude.{flat_map, codes}
use Rattle.sel_full.specs.TableTexts.{item_text}
use Rattle.sel_full.proofs.print.put_entries.Given as goal

abbrev pub invariant-loop-entry : goal.invariant-loop-entry
invariant-loop-entry l = l.text.items ++ flat_map (λ x. codes " " ++ item_text x) (drop l.entry-index l.entries) ≡ l.initial.text.items ++ flat_map (λ x. codes " " ++ item_text x) l.entries
