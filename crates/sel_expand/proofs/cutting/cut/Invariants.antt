use Rattle.std.proofs.Common.{◌≡◌, ◌++◌, map, take}
use Rattle.sel_grammar.specs.declared.emission.Emitted.TheVariants.{Byte}
use Rattle.sel_expand.specs.Pieces.{pieces_text}
use Rattle.sel_expand.proofs.cutting.cut.Given as goal

abbrev pub invariant-text : goal.invariant-text
invariant-text l = pieces_text l.pieces.items ++ map Byte l.bytes.items ≡ take l.emitted-index l.text
