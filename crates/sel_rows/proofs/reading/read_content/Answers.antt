use Rattle.std.proofs.Common.{◌+◌, ◌++◌, [], ◌∷◌, map, sym, ap, ◌∙◌}
use Rattle.std.specs.Prelude.{slice_index}
use Rattle.sel_items.specs.Unpacking.{unpacked}
use Rattle.sel_law.specs.Words.{read}
use Rattle.sel_rows.proofs.Lists.{read_snoc, map_snoc}
use Rattle.sel_rows.proofs.reading.read_content.Goals as goal

pub loop-index-preserved : goal.loop-index-preserved
loop-index-preserved c =
    let ws = c.args.words.now in
    let b = c.args.first in
    let i = c.loop-index.index in
    c.in_ok-push.ensures.items ∙ ((λ k. c.loop-index.invariant k ++ c.unpack.ensures.is k ∷ []) ∙ (sym (map_snoc unpacked (read ws b i) (slice_index ws (b + i))) ∙ ap (map unpacked) (sym (read_snoc ws b i))))
