use Rattle.std.proofs.Common.{ℕ, Bool, true, false, List, refl, sym, subst}
use Rattle.std.specs.Prelude.{nat_lt}
use Rattle.sel_law.specs.declared.Ask.{Ask}
use Rattle.sel_law.specs.declared.View.{View}
use Rattle.sel_law.specs.Kinds.{drew_as}
use Rattle.sel_rows.specs.Grown.{Grown, KeepsHeld}
use Rattle.sel_rows.proofs.Growth.{grown_drew}
use Rattle.sel_rows.proofs.pass.Pass.take_number.Goals as goal
use Rattle.sel_rows.proofs.pass.Pass.take_number.Goals.{then-found-self, else-found-self}

pub returns-clause-grown : goal.returns-clause-grown
returns-clause-grown g c =
    let u = c.args.self.now.hand.seat.me.0 in
    let grown = grown_drew g.J.Doing.asks u c.draw-found.new.self.seat.me.0 c.draw-found.result c.draw-found.ensures.view in
    elim c.if-found-self.branch [
      | then-found-self w ↦ subst (λ s. Grown g.J.Doing.asks u s.hand.seat.me.0) (sym w.self-is) grown
      | else-found-self w ↦ subst (λ s. Grown g.J.Doing.asks u s.hand.seat.me.0) (sym w.self-is) grown
    ]

held_as : (b : Bool) (v : View) (asks : List Ask) (found : ℕ) → KeepsHeld v (drew_as b v asks found)
held_as true v asks found = record { setting = refl; last = refl; places = refl; contents = refl; known = refl }
held_as false v asks found = record { setting = refl; last = refl; places = refl; contents = refl; known = refl }

pub returns-clause-held : goal.returns-clause-held
returns-clause-held g c =
    let u = c.args.self.now.hand.seat.me.0 in
    let e : KeepsHeld u c.draw-found.new.self.seat.me.0 = subst (KeepsHeld u) (sym c.draw-found.ensures.view) (held_as (nat_lt c.draw-found.result u.setting.states) u g.J.Doing.asks c.draw-found.result) in
    elim c.if-found-self.branch [
      | then-found-self w ↦ subst (λ s. KeepsHeld u s.hand.seat.me.0) (sym w.self-is) e
      | else-found-self w ↦ subst (λ s. KeepsHeld u s.hand.seat.me.0) (sym w.self-is) e
    ]
