use Rattle.std.proofs.Common.{◌≡◌, ℕ, zero, suc, ◌+◌, ◌<◌, List, [], ◌∷◌, ◌++◌, length, sym, ap, ◌∙◌, subst, arith}
use Rattle.std.specs.Prelude.{slice_index}
use mathlib.Core.Logic.{dite}
use native.Mathlib.Decide.{ℕ_discrete}
use Rattle.sel_items.specs.Entries.{item_at}
use Rattle.sel_items.specs.Unpacking.{unpacked}
use Rattle.sel_items.specs.Words.{IsWordOf}
use Rattle.sel_rows.proofs.Sets.{items_again}
use Rattle.sel_rows.proofs.words.words_of.Goals as goal

snoc_length : (l : List ℕ) (x : ℕ) → length (l ++ x ∷ []) ≡ length l + 1
snoc_length [] x = omega arith
snoc_length (y ∷ l) x = omega (arith, snoc_length l x)

snoc_last : (l : List ℕ) (x i : ℕ) → i ≡ length l → slice_index (l ++ x ∷ []) i ≡ x
snoc_last [] x i e = ap (slice_index (x ∷ [])) e
snoc_last (y ∷ l) x i e = ap (slice_index (y ∷ (l ++ x ∷ []))) e ∙ snoc_last l x (length l) (λ _. length l)

snoc_front : (l : List ℕ) (x i : ℕ) → i < length l → slice_index (l ++ x ∷ []) i ≡ slice_index l i
snoc_front [] x i h = absurd (omega arith)
snoc_front (y ∷ l) x zero h = λ _. y
snoc_front (y ∷ l) x (suc i) h = snoc_front l x i (omega arith)

pub loop-index-preserved : goal.loop-index-preserved
loop-index-preserved c =
    let i = c.loop-index.invariant in
    let at = c.loop-index.index in
    let old = c.loop-index.words.items in
    let word = c.word_of.result in
    let is = c.in_ok-push.ensures.items in
    let says : unpacked word ≡ item_at c.args.items.now.entries at = c.word_of.ensures.again ∙ c.entry_at.ensures in
    let lt = c.loop-index-test.true in
    record {
      long = ap length is ∙ (snoc_length old word ∙ ap (λ k. k + 1) i.long);
      within = omega arith;
      again = λ j l. dite (ℕ_discrete j at)
          (λ e. ap (λ ws. unpacked (slice_index ws j)) is ∙ (ap unpacked (snoc_last old word j (e ∙ sym i.long)) ∙ (says ∙ ap (item_at c.args.items.now.entries) (sym e))))
          (λ ne. ap (λ ws. unpacked (slice_index ws j)) is ∙ (ap unpacked (snoc_front old word j (let a = i.long in omega arith)) ∙ i.again j (omega arith)));
      words = λ j l. dite (ℕ_discrete j at)
          (λ e. subst (λ w. IsWordOf (unpacked w) w) (sym (ap (λ ws. slice_index ws j) is ∙ snoc_last old word j (e ∙ sym i.long))) (subst (λ o. IsWordOf o word) (sym c.word_of.ensures.again) c.word_of.ensures.word))
          (λ ne. subst (λ w. IsWordOf (unpacked w) w) (sym (ap (λ ws. slice_index ws j) is ∙ snoc_front old word j (let a = i.long in omega arith))) (i.words j (omega arith)));
    }

pub returns-clause-again : goal.returns-clause-again
returns-clause-again c =
    let i = c.loop-index.invariant in
    let past = c.loop-index-test.false in
    let all = i.within in
    items_again c.loop-index.words.items c.args.items.now (let a = i.long in omega arith) (λ j lt. i.again j (let a = i.long in omega arith))
