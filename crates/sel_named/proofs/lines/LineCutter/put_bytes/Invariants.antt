use Rattle.std.proofs.Common.{◌≡◌, ◌++◌, map, drop}
use Rattle.sel_grammar.specs.declared.emission.Emitted.TheVariants.{Byte}
use Rattle.sel_grammar.specs.Expansions.{Text}
use Rattle.sel_named.specs.Cutting.{all_lines}
use Rattle.sel_named.proofs.lines.LineCutter.put_bytes.Given as goal

abbrev pub invariant-bytes : goal.invariant-bytes
invariant-bytes l = (rest : Text) → all_lines l.self (map Byte (drop l.byte-index l.bytes) ++ rest) ≡ all_lines l.initial.self (map Byte l.bytes ++ rest)
