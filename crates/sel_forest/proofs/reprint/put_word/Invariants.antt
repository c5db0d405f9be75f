use Rattle.std.proofs.Common.{◌≡◌, ◌++◌, take}
use Rattle.sel_forest.proofs.reprint.put_word.Given as goal

abbrev pub invariant-bytes : goal.invariant-bytes
invariant-bytes l = l.text.items ≡ l.fn.text.items ++ take l.byte-index l.bytes
