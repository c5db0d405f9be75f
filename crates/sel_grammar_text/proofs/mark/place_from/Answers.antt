use Rattle.std.proofs.Common.{◌≡◌, ℕ, ◌+◌, ◌-◌, ◌≤◌, List, ◌++◌, length, take, drop, ap, sym, ◌∙◌, subst, arith, length-take}
use Rattle.std.proofs.lemmas.List.{drop-take, take_rest}
use Rattle.std.proofs.Math.Seq.{take-add}
use Rattle.sel_grammar_text.specs.Places.{IsPlaceBehind}
use Rattle.sel_grammar_text.proofs.ReadSteps.{line_small, column_small}
use Rattle.sel_grammar_text.proofs.mark.place_from.Goals as goal

joined_by : (xs : List ℕ) (n m : ℕ) → take n xs ++ drop n (take (n + m) xs) ≡ take (n + m) xs
joined_by xs n m = ap (λ y. take n xs ++ y) (drop-take n m xs) ∙ sym (take-add n m xs)

joined : (xs : List ℕ) (n k : ℕ) → n ≤ k → take n xs ++ drop n (take k xs) ≡ take k xs
joined xs n k h = subst (λ y. take n xs ++ drop n (take y xs) ≡ take y xs) (let e : n + (k - n) ≡ k = omega (arith, h) in e) (joined_by xs n (k - n))

pub advance-requires-clause-line_fits : goal.advance-requires-clause-line_fits
advance-requires-clause-line_fits c =
    let bytes = c.args.bytes.now in
    let mark = c.args.mark in
    let front = c.front-front.result.now in
    omega (arith, line_small (take mark.at bytes) mark.place c.requires.mark.place, length-take mark.at bytes, length-take (length front - mark.at) (drop mark.at front), c.requires.mark.within, c.front-front.ensures.within, c.requires.short)

pub advance-requires-clause-column_fits : goal.advance-requires-clause-column_fits
advance-requires-clause-column_fits c =
    let bytes = c.args.bytes.now in
    let mark = c.args.mark in
    let front = c.front-front.result.now in
    omega (arith, column_small (take mark.at bytes) mark.place c.requires.mark.place, length-take mark.at bytes, length-take (length front - mark.at) (drop mark.at front), c.requires.mark.within, c.front-front.ensures.within, c.requires.short)

pub returns : goal.returns
returns c =
    let bytes = c.args.bytes.now in
    let mark = c.args.mark in
    let front = c.front-front.result.now in
    let rest_is : take (length front - mark.at) (drop mark.at front) ≡ drop mark.at (take c.args.at bytes) = take_rest front mark.at ∙ ap (drop mark.at) c.front-front.ensures.front in
    let all_is : take mark.at bytes ++ take (length front - mark.at) (drop mark.at front) ≡ take c.args.at bytes = ap (λ y. take mark.at bytes ++ y) rest_is ∙ joined bytes mark.at c.args.at c.requires.before in
    subst (λ y. IsPlaceBehind y c.advance.result) all_is (c.advance.ensures (take mark.at bytes) c.requires.mark.place)
