use Rattle.std.proofs.Common.{◌≡◌, ◌+◌, ◌++◌, [], ◌∷◌, sym, ap, ◌∙◌}
use Rattle.std.specs.Prelude.{slice_index}
use Rattle.sel_law.specs.Words.{read}
use Rattle.sel_rows.specs.declared.snapshot.Key.{Key}
use Rattle.sel_rows.specs.Snapshots.{transitions_in, transition_by}
use Rattle.sel_rows.proofs.Lists.{read_snoc, transitions_free, transitions_used, made_by_key}
use Rattle.sel_rows.proofs.reading.read_transitions.Goals as goal

pub loop-place-preserved-then-word-eq0 : goal.loop-place-preserved-then-word-eq0
loop-place-preserved-then-word-eq0 c =
    let ws = c.args.words.now in
    let b = c.args.first in
    let q = c.loop-place.place in
    c.loop-place.invariant ∙ sym (ap transitions_in (read_snoc ws b q) ∙ transitions_free (read ws b q) (slice_index ws (b + q)) c.if-word-eq0.true)

pub loop-place-preserved : goal.loop-place-preserved
loop-place-preserved c =
    let ws = c.args.words.now in
    let b = c.args.first in
    let q = c.loop-place.place in
    let word = slice_index ws (b + q) in
    let said : made_by_key c.key_of_word.result word ≡ transition_by word = ap (λ (k : Key). made_by_key k word) c.key_of_word.ensures in
    c.in_ok-push.ensures.items ∙ ((λ k. c.loop-place.invariant k ++ said k ∷ []) ∙ (sym (transitions_used (read ws b q) word (λ e. c.if-word-eq0.false e)) ∙ ap transitions_in (sym (read_snoc ws b q))))
