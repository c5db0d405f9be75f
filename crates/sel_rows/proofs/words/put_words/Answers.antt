use Rattle.std.proofs.Common.{◌≡◌, ◌<◌, length, set, sym, ap, ◌∙◌, subst, arith}
use Rattle.std.specs.Prelude.{slice_index}
use mathlib.Core.Logic.{dite}
use native.Mathlib.Decide.{ℕ_discrete}
use Rattle.sel_items.specs.Entries.{item_at}
use Rattle.sel_items.specs.Unpacking.{unpacked}
use Rattle.sel_items.specs.Words.{IsWordOf}
use Rattle.sel_law.proofs.Base.{index_set, index_else}
use Rattle.sel_law.proofs.Draw.{length_set}
use Rattle.sel_rows.proofs.Sets.{items_again}
use Rattle.sel_rows.proofs.words.put_words.Goals as goal

pub loop-index-preserved : goal.loop-index-preserved
loop-index-preserved c =
    let i = c.loop-index.invariant in
    let at = c.loop-index.index in
    let old = c.loop-index.words in
    let word = c.word_of.result in
    let says : unpacked word ≡ item_at c.args.items.now.entries at = c.word_of.ensures.again ∙ c.entry_at.ensures in
    let lt : at < length old = c.loop-index-test.true in
    record {
      long = length_set old at word ∙ i.long;
      again = λ j l. dite (ℕ_discrete j at)
          (λ e. ap (λ k. unpacked (slice_index (set old at word) k)) e ∙ (ap unpacked (index_set old at word lt) ∙ (says ∙ ap (item_at c.args.items.now.entries) (sym e))))
          (λ ne. ap unpacked (index_else old at j word ne) ∙ i.again j (omega arith));
      packed = λ j l. dite (ℕ_discrete j at)
          (λ e. subst (λ w. IsWordOf (unpacked w) w) (sym (ap (slice_index (set old at word)) e ∙ index_set old at word lt)) (subst (λ o. IsWordOf o word) (sym c.word_of.ensures.again) c.word_of.ensures.word))
          (λ ne. subst (λ w. IsWordOf (unpacked w) w) (sym (index_else old at j word ne)) (i.packed j (omega arith)));
    }

pub returns-clause-again : goal.returns-clause-again
returns-clause-again c =
    let i = c.loop-index.invariant in
    let past = c.loop-index-test.false in
    items_again c.loop-index.words c.args.items.now i.long (λ j lt. i.again j (omega arith))

pub returns-clause-packed : goal.returns-clause-packed
returns-clause-packed c =
    let i = c.loop-index.invariant in
    let past = c.loop-index-test.false in
    λ j lt. i.packed j (omega arith)
