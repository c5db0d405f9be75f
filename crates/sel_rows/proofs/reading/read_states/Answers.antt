use Rattle.std.proofs.Common.{◌≡◌, ℕ, ◌+◌, ◌*◌, ◌++◌, [], ◌∷◌, List, take, sym, ap, ◌∙◌, arith, length}
use Rattle.std.specs.Prelude.{slice_index}
use Rattle.sel_law.specs.Words.{read}
use Rattle.sel_rows.specs.Numbered.{states_in, state_by}
use Rattle.sel_rows.proofs.Lists.{take_snoc, take_long, states_free, states_used, made_of_items}
use Rattle.sel_rows.proofs.reading.read_states.Goals as goal

pub loop-number-preserved-then-found-number-eq0 : goal.loop-number-preserved-then-found-number-eq0
loop-number-preserved-then-found-number-eq0 c =
    let found = c.args.found.now in
    let f : ℕ → List ℕ = λ n. read c.args.words.now (c.args.first + n * c.args.width) c.args.width in
    let n = c.loop-number.number in
    c.loop-number.invariant ∙ sym (ap (states_in f 0) (take_snoc found n c.loop-number-test.true) ∙ states_free f 0 (take n found) (slice_index found n) c.if-found-number-eq0.true)

pub loop-number-preserved : goal.loop-number-preserved
loop-number-preserved c =
    let found = c.args.found.now in
    let f : ℕ → List ℕ = λ n. read c.args.words.now (c.args.first + n * c.args.width) c.args.width in
    let n = c.loop-number.number in
    let lt = c.loop-number-test.true in
    let said : made_of_items n c.in_ok-items.items ≡ state_by f n = ap (made_of_items n) c.in_ok-items.ensures in
    let long = take_long found n (let t = lt in omega arith) in
    let place : 0 + length (take n found) ≡ n = omega arith in
    c.in_ok-push.ensures.items ∙ ((λ k. c.loop-number.invariant k ++ said k ∷ []) ∙ (ap (λ m. states_in f 0 (take n found) ++ state_by f m ∷ []) (sym place) ∙ (sym (states_used f 0 (take n found) (slice_index found n) (λ e. c.if-found-number-eq0.false e)) ∙ ap (states_in f 0) (sym (take_snoc found n lt)))))
