use Rattle.std.proofs.Common.{◌≡◌, sym, subst, arith, Result, Ok, Err}
use Rattle.std.specs.Prelude.{IfOk}
use Rattle.std.specs.Slots.{slots_items}
use Rattle.sel_law.specs.Law.{Closes}
use Rattle.sel_law.proofs.Close.{closes}
use Rattle.sel_law.proofs.SharedWords.close.Goals as goal

if_ok_more : {A E : Type 0} (r : Result A E) (P Q : A → Type 0) → ((x : A) → P x → Q x) → IfOk r P → IfOk r Q
if_ok_more (Ok x) P Q f h = f x h
if_ok_more (Err e) P Q f h = h

pub free-requires : goal.free-requires
free-requires c = λ k h. absurd (let a = c.close_with-closed.ensures.counts.1 in let b = c.args.self.no_slot in omega arith)

pub returns : goal.returns
returns c =
    let z = c.args.self.table.shared.key in
    let words = slots_items c.close_with-closed.result.words in
    let f = closes z words (slots_items c.close_with-closed.result.slots) c.args.seat.id c.args.seat.me.0 c.requires.whole.1 c.requires.whole.0 c.close_with-closed.ensures.values.2 in
    if_ok_more c.copy-copied.result (λ v. v.items ≡ words) (λ v. Closes z v.items c.args.seat.me.0) (λ v e. subst (λ ws. Closes z ws c.args.seat.me.0) (sym e) f) c.copy-copied.ensures
