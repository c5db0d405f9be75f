use Rattle.std.proofs.Common.{◌≡◌, ◌++◌, drop}
use Rattle.std.specs.List.{flat_map}
use Rattle.sel_grammar_text.specs.Printing.{printed_byte}
use Rattle.sel_grammar_print.proofs.print.put_text.Given as goal

abbrev pub invariant-bytes : goal.invariant-bytes
invariant-bytes l = l.text.items ++ flat_map printed_byte (drop l.byte-index l.bytes) ≡ l.initial.text.items ++ flat_map printed_byte l.bytes
