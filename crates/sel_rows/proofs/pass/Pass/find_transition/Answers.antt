use Rattle.std.proofs.Common.{◌≡◌, ◌+◌, ◌≤◌, [], ◌∷◌, sym, ap, ◌∙◌, subst, refl, arith}
use Rattle.sel_law.specs.declared.Setting.{Setting}
use Rattle.sel_law.specs.Words.{In}
use Rattle.sel_law.proofs.Base.{in_here}
use Rattle.sel_rows.specs.Held.{held_ask}
use Rattle.sel_rows.specs.Grown.{Grown}
use Rattle.sel_rows.specs.Calls.{ask_of_key}
use Rattle.sel_rows.specs.SeenKey.{walk_length, WalksRow}
use Rattle.sel_rows.proofs.SingleCalls.{ReadKey, read_key, standing_kept}
use Rattle.sel_rows.proofs.pass.Pass.find_transition.Goals as goal

pub find_key-requires : goal.find_key-requires
find_key-requires c =
    let v = c.args.self.now.hand.seat.me.0 in
    let x = c.number_of_key.result in
    let r = subst (ReadKey v c.args.key) (sym c.number_of_key.ensures) (read_key v c.args.key (omega arith) (omega arith) (omega arith) c.requires.key) in
    record { key = (refl, r.key, r.held, in_here (held_ask v x) []) }

pub returns-clause-found : goal.returns-clause-found
returns-clause-found c =
    let s = c.args.self.now in
    let v = s.hand.seat.me.0 in
    let w = c.find_key.new.self.hand.seat.me.0 in
    subst (λ x. WalksRow v w x (held_ask v x) s.row_full c.find_key.result) c.number_of_key.ensures c.find_key.ensures.walked

pub returns-clause-known : goal.returns-clause-known
returns-clause-known c = λ n h.
    let s = c.args.self.now in
    let v = s.hand.seat.me.0 in
    let known = subst (λ x. In (held_ask v x, n) v.known) (sym c.number_of_key.ensures) h.known in
    (c.find_key.ensures.no_other n known h.some_rows, λ unmarked. c.find_key.ensures.known n known unmarked h.some_rows)

pub returns-clause-kept : goal.returns-clause-kept
returns-clause-kept c =
    let s = c.args.self.now in
    let t = c.find_key.new.self in
    let v = s.hand.seat.me.0 in
    let e = c.find_key.ensures in
    let grown = subst (λ x. Grown (held_ask v x ∷ []) v t.hand.seat.me.0) c.number_of_key.ensures e.grown in
    record {
      grown = grown;
      standing = standing_kept (ask_of_key v c.args.key ∷ []) s t e.kept.0 grown;
      plain = e.plain;
      evaluated = e.kept.3;
    }

pub returns-clause-few : goal.returns-clause-few
returns-clause-few c =
    let s = c.args.self.now in
    let v = s.hand.seat.me.0 in
    let w = c.find_key.new.self.hand.seat.me.0 in
    let rows : s.hand.rows.now.rows ≡ v.setting.rows = s.hand.rows.now.rows_is ∙ ap (λ (y : Setting). y.rows) (sym s.hand.setting) in
    subst (λ r. w.steps ≤ v.steps + walk_length s.row_full r) rows c.find_key.ensures.few
