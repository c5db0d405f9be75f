use Rattle.sel_rows.proofs.Keys.{not_numbered}
use Rattle.sel_rows.proofs.Labelled.{if_ok_of, labelled_added}
use Rattle.sel_rows.proofs.pass.Pass.answer_over_plain.Goals as goal

pub returns-clause-labelled : goal.returns-clause-labelled
returns-clause-labelled g c =
    let s = c.args.self.now in
    let new = c.add_plain.new.self in
    let a = c.args.kids.0 in
    let b = c.args.kids.1 in
    if_ok_of c.add_plain.result _ _ (λ l h is k.
    labelled_added c.evaluate_kids.new.self.plain.items new.plain.items c.in_ok-items.items c.add_plain.result s.normal.now new.hand.seat.me.0 new.used_up new.row_full c.args.operator c.args.class a b is
    (c.in_ok-items.ensures.follows is k)
    (λ num. absurd (not_numbered s.hand.seat.me.0 s.plain.items c.args.operator c.args.class a b is c.requires.plain k num)) l h)
    c.add_plain.ensures.ok
