use Rattle.std.proofs.Common.{◌≡◌, ◌++◌, drop}
use Rattle.std.specs.List.{flat_map}
use Rattle.sel_grammar_text.specs.Printing.{printed_part}
use Rattle.sel_grammar_print.proofs.print.put_template.Given as goal

abbrev pub invariant-parts : goal.invariant-parts
invariant-parts l = l.text.items ++ flat_map printed_part (drop l.part-index l.parts) ≡ l.initial.text.items ++ flat_map printed_part l.parts
