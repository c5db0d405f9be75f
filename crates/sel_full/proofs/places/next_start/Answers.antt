use Rattle.std.proofs.Common.{◌+◌, ap, sym, ◌∙◌, length, refl, arith}
use Rattle.sel_full.specs.Tables.{keys_with, key_start}
use Rattle.sel_full.proofs.Counts.{pairs_fit, start_within, start_next}
use Rattle.sel_full.proofs.places.next_start.Goals as goal

pub key_count_of-count-requires : goal.key_count_of-count-requires
key_count_of-count-requires c = record { fits = λ k is two. pairs_fit c.args.normal.now c.args.states.now c.args.operator _ k c.args.kids refl c.requires.below c.requires.kids is two c.requires.fits }

pub overflow_add-result : goal.overflow_add-result
overflow_add-result c =
    let e = c.key_count_of-count.ensures.is c.args.states.now c.args.operator refl in
    let q = ap (λ o. length (keys_with c.args.normal.now c.args.states.now c.args.operator o)) c.requires.kids in
    let w = start_within c.args.normal.now c.args.states.now c.args.operator _ refl c.requires.below in
    let f = c.requires.fits in
    let a = c.requires.at in
    omega arith

pub returns : goal.returns
returns c =
    ap (λ n. n + c.key_count_of-count.result) c.requires.at
    ∙ (ap (λ n. key_start c.args.normal.now c.args.states.now c.args.operator + n) (sym (c.key_count_of-count.ensures.is c.args.states.now c.args.operator refl) ∙ ap (λ o. length (keys_with c.args.normal.now c.args.states.now c.args.operator o)) c.requires.kids)
    ∙ sym (start_next c.args.normal.now c.args.states.now c.args.operator))
