use Rattle.std.proofs.Common.{◌≡◌, ◌++◌, drop}
use Rattle.std.specs.Prelude.{flat_map, codes}
use Rattle.sel_check.specs.CertificateTexts.{entry_text}
use Rattle.sel_check.proofs.print.put_entries.Given as goal

abbrev pub invariant-loop-entry : goal.invariant-loop-entry
invariant-loop-entry l = l.text.items ++ flat_map (λ e. codes " " ++ entry_text e) (drop l.entry-index l.entries) ≡ l.initial.text.items ++ flat_map (λ e. codes " " ++ entry_text e) l.entries
