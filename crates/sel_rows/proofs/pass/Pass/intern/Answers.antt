use Rattle.std.proofs.Common.{◌≡◌, ℕ, ◌+◌, ◌*◌, ◌<◌, List, sym, ap, ◌∙◌, arith, subst, inl, inr, Option, Some, None, MatchOption}
use Rattle.std.specs.Prelude.{slice_index}
use Rattle.sel_law.specs.declared.Setting.{Setting}
use Rattle.sel_law.specs.declared.View.{View}
use Rattle.sel_law.specs.Words.{In, intern_at, content_home, IsMadeOf}
use Rattle.sel_law.specs.Kinds.{HeldNumber}
use Rattle.sel_law.proofs.Base.{in_back}
use Rattle.sel_rows.specs.FoundState.{NoneHolds}
use Rattle.sel_rows.specs.Grown.{KeepsHeld}
use Rattle.sel_rows.proofs.Growth.{grown_then, walked_states_grown}
use Rattle.sel_rows.proofs.KnownKeys.{has_grown}
use Rattle.sel_rows.proofs.pass.Pass.intern.Goals as goal

pub find_state-requires-clause-home : goal.find_state-requires-clause-home
unfolding content_home
find_state-requires-clause-home g c = (c.home_of_words.ensures.is, c.home_of_words.ensures.small)

pub returns-in_err-number-in-Absent-clause-grown : goal.returns-in_err-number-in-Absent-clause-grown
returns-in_err-number-in-Absent-clause-grown g c =
    grown_then g.J.Doing.asks c.args.self.now.hand.seat.me.0 c.find_state.new.self.seat.me.0 c.take_number.new.self.hand.seat.me.0 c.find_state.ensures.grown c.take_number.ensures.grown

pub publish-requires-clause-walked : goal.publish-requires-clause-walked
publish-requires-clause-walked g c =
    let v = c.find_state.new.self.seat.me.0 in
    let w = c.take_number.new.self.hand.seat.me.0 in
    let found = c.in-Absent.ensures.found in
    let inside = found.0 in
    let a : c.take_number.new.self.hand.rows.now.states ≡ c.find_state.new.self.rows.now.states = ap (λ r. r.now.states) c.take_number.ensures.kept.0 in
    let b : c.find_state.new.self.rows.now.states ≡ v.setting.states = c.find_state.new.self.rows.now.states_is ∙ ap (λ s. s.states) (sym c.find_state.new.self.setting) in
    (omega arith, (walked_states_grown g.J.Doing.asks v w c.take_number.ensures.grown c.args.words.now c.in-Absent.place found.1).0)

pub returns-in-Own-clause-grown : goal.returns-in-Own-clause-grown
returns-in-Own-clause-grown g c =
    let asks = g.J.Doing.asks in
    let u = c.args.self.now.hand.seat.me.0 in
    let w = c.take_number.new.self.hand.seat.me.0 in
    grown_then asks u w c.publish.new.self.seat.me.0 (grown_then asks u c.find_state.new.self.seat.me.0 w c.find_state.ensures.grown c.take_number.ensures.grown) c.publish.ensures.grown

pub returns-in-Lost-clause-grown : goal.returns-in-Lost-clause-grown
returns-in-Lost-clause-grown g c =
    let asks = g.J.Doing.asks in
    let u = c.args.self.now.hand.seat.me.0 in
    let w = c.take_number.new.self.hand.seat.me.0 in
    grown_then asks u w c.publish.new.self.seat.me.0 (grown_then asks u c.find_state.new.self.seat.me.0 w c.find_state.ensures.grown c.take_number.ensures.grown) c.publish.ensures.grown

of_none : {A : Type 0} (o : Option A) (P : Type 0) (Q : A → Type 0) → o ≡ None → P → MatchOption o P Q
of_none None P Q e p = p
of_none (Some x) P Q e p = absurd (cc)

held_moved : (v w : View) → KeepsHeld v w → (c : List ℕ) → NoneHolds v c → NoneHolds w c
held_moved v w k c none n lt number whole =
    none n (subst (λ (s : Setting). n < s.states) k.setting lt) (number_moved number) (whole.0 ∙ ap (λ (s : Setting). s.width) k.setting, λ i h. subst (In (n, i, slice_index c i)) k.contents (whole.1 i (subst (λ (s : Setting). i < s.width) (sym k.setting) h)))
  where
    number_moved : HeldNumber w n → HeldNumber v n
    number_moved (inl (p, l, h)) = inl (p, subst (λ (s : Setting). p < 2 * s.states) k.setting l, subst (In (intern_at p, n + 1)) k.places h)
    number_moved (inr (a, h)) = inr (a, subst (In (a, n)) k.known h)

pub returns-in_err-number-in-Absent-clause-number : goal.returns-in_err-number-in-Absent-clause-number
returns-in_err-number-in-Absent-clause-number g c =
    let v = c.find_state.new.self.seat.me.0 in
    let w = c.take_number.new.self.hand.seat.me.0 in
    let found = c.in-Absent.ensures.found in
    let t = c.take_number.ensures in
    let e = c.in_err-number-in-Absent.ensures.number in
    of_none c.from_residual.result _ _ c.from_residual.ensures (
      e.0,
      e.1,
      (
        held_moved v w t.held c.args.words.now found.4,
        inr (c.in-Absent.place, v.steps, subst (λ (s : Setting). c.in-Absent.place < 2 * s.states) (sym t.grown.setting) found.0, (walked_states_grown g.J.Doing.asks v w t.grown c.args.words.now c.in-Absent.place found.1).0, found.2, t.held.last ∙ found.3),
      ),
      e.2,
    )

pub publish-requires-clause-asked : goal.publish-requires-clause-asked
publish-requires-clause-asked g c =
    let a = g.J.Doing.ask in
    let w = c.take_number.new.self.hand.seat.me.0 in
    let same = ap (λ r. r.now.table.shared.key) (c.take_number.ensures.kept.0 ∙ c.find_state.ensures.same) in
    (a, in_back a w.asked g.J.Doing.asks c.requires.asked.0, subst (λ (s : Setting). IsMadeOf s a c.args.words.now) (sym same) c.requires.asked.1)

pub returns-then-self-eq0-clause-only : goal.returns-then-self-eq0-clause-only
returns-then-self-eq0-clause-only g c = λ n some has. absurd (let none = c.if-self-eq0.true in omega arith)

pub returns-in-Number-clause-only : goal.returns-in-Number-clause-only
returns-in-Number-clause-only g c = λ n some has.
    ap Some (sym (c.in-Number.ensures.only n (has_grown g.J.Doing.asks c.args.self.now.hand.seat.me.0 c.find_state.new.self.seat.me.0 c.find_state.ensures.grown n c.args.words.now has)))

pub returns-in_err-number-in-Absent-clause-only : goal.returns-in_err-number-in-Absent-clause-only
returns-in_err-number-in-Absent-clause-only g c = λ n some has.
    absurd (c.in-Absent.ensures.only n (has_grown g.J.Doing.asks c.args.self.now.hand.seat.me.0 c.find_state.new.self.seat.me.0 c.find_state.ensures.grown n c.args.words.now has))

pub returns-in-Own-clause-only : goal.returns-in-Own-clause-only
returns-in-Own-clause-only g c = λ n some has.
    absurd (c.in-Absent.ensures.only n (has_grown g.J.Doing.asks c.args.self.now.hand.seat.me.0 c.find_state.new.self.seat.me.0 c.find_state.ensures.grown n c.args.words.now has))

pub returns-in-Lost-clause-only : goal.returns-in-Lost-clause-only
returns-in-Lost-clause-only g c = λ n some has.
    absurd (c.in-Absent.ensures.only n (has_grown g.J.Doing.asks c.args.self.now.hand.seat.me.0 c.find_state.new.self.seat.me.0 c.find_state.ensures.grown n c.args.words.now has))
