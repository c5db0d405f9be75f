use Rattle.std.proofs.Common.{◌≡◌, [], sym, ap, ◌∙◌, arith}
use Rattle.sel_law.specs.declared.Setting.{Setting}
use Rattle.sel_rows.proofs.Growth.{nil_behind}
use Rattle.sel_rows.proofs.EntryReads.{entry_read, held_back}
use Rattle.sel_rows.proofs.pass.Pass.held_item.Goals as goal

pub entry-word-requires-clause-inside : goal.entry-word-requires-clause-inside
entry-word-requires-clause-inside c =
    let s = c.args.self.now in
    let below = c.requires.held.1.below in
    let states : s.hand.rows.now.states ≡ s.hand.seat.me.0.setting.states = s.hand.rows.now.states_is ∙ ap (λ (y : Setting). y.states) (sym s.hand.setting) in
    let width : s.hand.rows.now.width ≡ s.normal.now.nonterminals = s.hand.rows.now.width_normal ∙ ap (λ n. n.nonterminals) s.normal_is in
    let lt = c.requires.nonterminal in
    (omega arith, omega arith)

pub entry-word-requires-clause-held : goal.entry-word-requires-clause-held
entry-word-requires-clause-held c = c.requires.held.1.number

pub returns-clause-entry : goal.returns-clause-entry
returns-clause-entry c = λ i h.
    let s = c.args.self.now in
    let v = s.hand.seat.me.0 in
    let w = c.entry-word.new.self.seat.me.0 in
    let e = c.entry-word.ensures in
    let width : s.hand.rows.now.width ≡ s.normal.now.nonterminals = s.hand.rows.now.width_normal ∙ ap (λ n. n.nonterminals) s.normal_is in
    let ws : v.setting.width ≡ s.hand.rows.now.width = ap (λ (y : Setting). y.width) s.hand.setting ∙ sym s.hand.rows.now.width_is in
    let lt = c.requires.nonterminal in
    c.unpack.ensures.is ∙ entry_read [] v w e.grown c.args.number c.args.nonterminal c.entry-word.result e.exact e.there.1 e.there.0 i h (omega arith)

pub returns-clause-same : goal.returns-clause-same
returns-clause-same c = (c.entry-word.ensures.exact.asked ∙ sym (nil_behind c.args.self.now.hand.seat.me.0.asked), c.entry-word.ensures.exact.known)

pub returns-clause-back : goal.returns-clause-back
returns-clause-back c = λ i h.
    let s = c.args.self.now in
    let e = c.entry-word.ensures in
    held_back [] s.hand.seat.me.0 c.entry-word.new.self.seat.me.0 e.grown c.args.number c.args.nonterminal c.entry-word.result e.exact e.there.1 e.there.0 (e.exact.asked ∙ sym (nil_behind s.hand.seat.me.0.asked)) c.requires.held.1.whole i h
