use Rattle.std.proofs.Common.{◌≡◌, ◌++◌, map, take}
use Rattle.sel_grammar.specs.declared.emission.Emitted.TheVariants.{Byte}
use Rattle.sel_expand.proofs.sheet.VecEmittedSheet.put_bytes.Given as goal

abbrev pub invariant-bytes : goal.invariant-bytes
invariant-bytes l = l.self.items ≡ l.initial.self.items ++ map Byte (take l.byte-index l.bytes)
