use Rattle.std.proofs.Common.{◌≡◌, ◌≢◌, ℕ, ◌+◌, ◌-◌, ◌*◌, ◌≤◌, List, length, sym, ap, ◌∙◌, subst, arith, inl, ⊎_elim}
use Rattle.sel_law.specs.declared.Setting.{Setting}
use Rattle.sel_law.specs.declared.View.{View}
use Rattle.sel_law.specs.Words.{In, intern_at, IsMadeOf}
use Rattle.sel_law.specs.Kinds.{HeldNumber, WalkedStates}
use Rattle.sel_law.proofs.Base.{in_front, in_back, in_split}
use Rattle.sel_rows.proofs.Growth.{grown_then, grown_seen, grown_stood, number_grown, walked_states_grown}
use Rattle.sel_rows.proofs.Interns.{own_then, own_seen, seen_there}
use Rattle.sel_rows.proofs.Publishes.{won, lost, stands_whole, step_goes, step_around, step_on}
use Rattle.sel_rows.proofs.StepCounts.{look_off, look_last}
use Rattle.sel_rows.proofs.hand.Hand.publish.Goals as goal

count_first : (u v n m : ℕ) → v ≤ u + n → v + m * (n + 1) ≤ u + n + m * (n + 1)
count_first u v n m e = omega arith

pub loop-left-init : goal.loop-left-init
loop-left-init g c =
    let u = c.args.self.now.seat.me.0 in
    let v = c.draft.new.self.seat.me.0 in
    let items = c.args.items.now in
    let wk = walked_states_grown g.J.Doing.asks u v c.draft.ensures.grown items c.args.place c.requires.walked.1 in
    let dr : c.draft.new.self.rows.now.states ≡ c.args.self.now.rows.now.states = ap (λ r. r.now.states) c.draft.ensures.same in
    let p = c.requires.walked.0 in
    record {
      same = c.draft.ensures.same;
      grown = c.draft.ensures.grown;
      used_up = c.draft.ensures.used_up;
      row_full = c.draft.ensures.row_full;
      own = c.draft.ensures.draft.0;
      draft = c.draft.ensures.draft.1;
      inside = omega arith;
      count = (let few = c.draft.ensures.few in count_first u.steps v.steps (length items) (2 * c.draft.new.self.rows.now.states) few);
      walked = (wk.0, omega arith);
    }

pub stand-found-requires-clause-place : goal.stand-found-requires-clause-place
stand-found-requires-clause-place g c =
    let i = c.loop-left.invariant in
    let items = c.args.items.now in
    let asks = g.J.Doing.asks in
    let u = c.args.self.now.seat.me.0 in
    let v = c.loop-left.self.seat.me.0 in
    let at = c.loop-left.at in
    let number = c.args.number in
    let key = c.loop-left.self.setting ∙ ap (λ r. r.now.table.shared.key) i.same in
    let st : c.args.self.now.rows.now.states ≡ v.setting.states = c.args.self.now.rows.now.states_is ∙ ap (λ s. s.states) (sym key) in
    let dr : c.draft.new.self.rows.now.states ≡ c.args.self.now.rows.now.states = ap (λ r. r.now.states) c.draft.ensures.same in
    let inside = i.inside in
    let r : c.loop-left.self.rows.now.states ≡ c.args.self.now.rows.now.states = ap (λ r. r.now.states) i.same in
    (omega arith, subst (λ (d : List ℕ). WalkedStates v d at) (sym i.draft) i.walked.0)

pub stand-found-requires-clause-whole : goal.stand-found-requires-clause-whole
stand-found-requires-clause-whole g c =
    let i = c.loop-left.invariant in
    let items = c.args.items.now in
    let asks = g.J.Doing.asks in
    let u = c.args.self.now.seat.me.0 in
    let v = c.loop-left.self.seat.me.0 in
    let at = c.loop-left.at in
    let number = c.args.number in
    let key = c.loop-left.self.setting ∙ ap (λ r. r.now.table.shared.key) i.same in
    let st : c.args.self.now.rows.now.states ≡ v.setting.states = c.args.self.now.rows.now.states_is ∙ ap (λ s. s.states) (sym key) in
    let dr : c.draft.new.self.rows.now.states ≡ c.args.self.now.rows.now.states = ap (λ r. r.now.states) c.draft.ensures.same in
    let inside = i.inside in
    let r : c.loop-left.self.rows.now.width ≡ c.args.self.now.rows.now.width = ap (λ r. r.now.width) i.same in
    ap length i.draft ∙ (c.requires.items.0 ∙ sym r)

pub stand-found-requires-clause-asked : goal.stand-found-requires-clause-asked
stand-found-requires-clause-asked g c =
    let i = c.loop-left.invariant in
    let items = c.args.items.now in
    let k = c.requires.asked in
    let v = c.loop-left.self.seat.me.0 in
    let asks = g.J.Doing.asks in (
      k.0,
      ⊎_elim (λ (h : In k.0 c.args.self.now.seat.me.0.asked). in_front k.0 v.asked asks (i.grown.asked k.0 h)) (λ (h : In k.0 asks). in_back k.0 v.asked asks h)
          (in_split k.0 c.args.self.now.seat.me.0.asked asks k.1),
      subst (λ (d : List ℕ). IsMadeOf c.loop-left.self.rows.now.table.shared.key k.0 d) (sym i.draft) (subst (λ (s : Setting). IsMadeOf s k.0 items) (sym (ap (λ r. r.now.table.shared.key) i.same)) k.2),
    )

pub returns-then-found-eq0-clause-grown : goal.returns-then-found-eq0-clause-grown
returns-then-found-eq0-clause-grown g c =
    let i = c.loop-left.invariant in
    let items = c.args.items.now in
    let asks = g.J.Doing.asks in
    let u = c.args.self.now.seat.me.0 in
    let v = c.loop-left.self.seat.me.0 in
    let at = c.loop-left.at in
    let number = c.args.number in
    let key = c.loop-left.self.setting ∙ ap (λ r. r.now.table.shared.key) i.same in
    let st : c.args.self.now.rows.now.states ≡ v.setting.states = c.args.self.now.rows.now.states_is ∙ ap (λ s. s.states) (sym key) in
    let dr : c.draft.new.self.rows.now.states ≡ c.args.self.now.rows.now.states = ap (λ r. r.now.states) c.draft.ensures.same in
    let inside = i.inside in
    let w = c.stand-found.new.self.seat.me.0 in
    let found = c.stand-found.result in
    let is = c.stand-found.ensures.view in
    grown_then asks u v w i.grown (grown_stood asks v w (intern_at at) number (won v w asks (intern_at at) number found is c.if-found-eq0.true))

pub returns-then-found-eq0-clause-used_up : goal.returns-then-found-eq0-clause-used_up
returns-then-found-eq0-clause-used_up g c =
    let i = c.loop-left.invariant in
    let items = c.args.items.now in
    let asks = g.J.Doing.asks in
    let u = c.args.self.now.seat.me.0 in
    let v = c.loop-left.self.seat.me.0 in
    let at = c.loop-left.at in
    let number = c.args.number in
    let key = c.loop-left.self.setting ∙ ap (λ r. r.now.table.shared.key) i.same in
    let st : c.args.self.now.rows.now.states ≡ v.setting.states = c.args.self.now.rows.now.states_is ∙ ap (λ s. s.states) (sym key) in
    let dr : c.draft.new.self.rows.now.states ≡ c.args.self.now.rows.now.states = ap (λ r. r.now.states) c.draft.ensures.same in
    let inside = i.inside in
    let w = c.stand-found.new.self.seat.me.0 in
    let found = c.stand-found.result in
    let is = c.stand-found.ensures.view in
    ap (λ (x : View). x.used_up) (won v w asks (intern_at at) number found is c.if-found-eq0.true) ∙ i.used_up

pub returns-then-found-eq0-clause-row_full : goal.returns-then-found-eq0-clause-row_full
returns-then-found-eq0-clause-row_full g c =
    let i = c.loop-left.invariant in
    let items = c.args.items.now in
    let asks = g.J.Doing.asks in
    let u = c.args.self.now.seat.me.0 in
    let v = c.loop-left.self.seat.me.0 in
    let at = c.loop-left.at in
    let number = c.args.number in
    let key = c.loop-left.self.setting ∙ ap (λ r. r.now.table.shared.key) i.same in
    let st : c.args.self.now.rows.now.states ≡ v.setting.states = c.args.self.now.rows.now.states_is ∙ ap (λ s. s.states) (sym key) in
    let dr : c.draft.new.self.rows.now.states ≡ c.args.self.now.rows.now.states = ap (λ r. r.now.states) c.draft.ensures.same in
    let inside = i.inside in
    let w = c.stand-found.new.self.seat.me.0 in
    let found = c.stand-found.result in
    let is = c.stand-found.ensures.view in
    ap (λ (x : View). x.row_full) (won v w asks (intern_at at) number found is c.if-found-eq0.true) ∙ i.row_full

pub returns-then-found-eq0-clause-stands : goal.returns-then-found-eq0-clause-stands
returns-then-found-eq0-clause-stands g c =
    let i = c.loop-left.invariant in
    let items = c.args.items.now in
    let asks = g.J.Doing.asks in
    let u = c.args.self.now.seat.me.0 in
    let v = c.loop-left.self.seat.me.0 in
    let at = c.loop-left.at in
    let number = c.args.number in
    let key = c.loop-left.self.setting ∙ ap (λ r. r.now.table.shared.key) i.same in
    let st : c.args.self.now.rows.now.states ≡ v.setting.states = c.args.self.now.rows.now.states_is ∙ ap (λ s. s.states) (sym key) in
    let dr : c.draft.new.self.rows.now.states ≡ c.args.self.now.rows.now.states = ap (λ r. r.now.states) c.draft.ensures.same in
    let inside = i.inside in
    let w = c.stand-found.new.self.seat.me.0 in
    let found = c.stand-found.result in
    let is = c.stand-found.ensures.view in
    let s = won v w asks (intern_at at) number found is c.if-found-eq0.true in
    let width : length items ≡ v.setting.width = c.requires.items.0 ∙ (c.args.self.now.rows.now.width_is ∙ ap (λ s. s.width) (sym key)) in
    let low = c.requires.own.1 in
    (c.requires.own.0, ap (λ (x : View). x.own) s, stands_whole v w asks at number items s i.draft width (omega arith) (omega arith) c.stand-found.ensures.told.2)

pub differs-requires-clause-held : goal.differs-requires-clause-held
differs-requires-clause-held g c =
    let i = c.loop-left.invariant in
    let items = c.args.items.now in
    let asks = g.J.Doing.asks in
    let u = c.args.self.now.seat.me.0 in
    let v = c.loop-left.self.seat.me.0 in
    let at = c.loop-left.at in
    let number = c.args.number in
    let key = c.loop-left.self.setting ∙ ap (λ r. r.now.table.shared.key) i.same in
    let st : c.args.self.now.rows.now.states ≡ v.setting.states = c.args.self.now.rows.now.states_is ∙ ap (λ s. s.states) (sym key) in
    let dr : c.draft.new.self.rows.now.states ≡ c.args.self.now.rows.now.states = ap (λ r. r.now.states) c.draft.ensures.same in
    let inside = i.inside in
    let w = c.stand-found.new.self.seat.me.0 in
    let found = c.stand-found.result in
    let is = c.stand-found.ensures.view in
    let n = found - 1 in
    let some_found : found ≢ 0 = λ e. c.if-found-eq0.false e in
    let up : found ≡ n + 1 = omega arith in
    let look = lost v w asks (intern_at at) number found is some_found in
    let m = grown_seen asks v w (intern_at at) found look in
    let held : HeldNumber w n = inl (at, (let sw : w.setting.states ≡ v.setting.states = ap (λ s. s.states) m.setting in omega arith), subst (λ k. In (intern_at at, k) w.places) up (seen_there v w asks (intern_at at) found look some_found)) in
    let own = own_seen v w asks (intern_at at) found look in
    let below = c.stand-found.ensures.told.1 in
    let f = below (omega arith) in
    let r : c.stand-found.new.self.rows.now.states ≡ c.args.self.now.rows.now.states = ap (λ r. r.now.states) (c.stand-found.ensures.same ∙ i.same) in
    (omega arith, held)

pub returns-then-not-differs-clause-grown : goal.returns-then-not-differs-clause-grown
returns-then-not-differs-clause-grown g c =
    let i = c.loop-left.invariant in
    let items = c.args.items.now in
    let asks = g.J.Doing.asks in
    let u = c.args.self.now.seat.me.0 in
    let v = c.loop-left.self.seat.me.0 in
    let at = c.loop-left.at in
    let number = c.args.number in
    let key = c.loop-left.self.setting ∙ ap (λ r. r.now.table.shared.key) i.same in
    let st : c.args.self.now.rows.now.states ≡ v.setting.states = c.args.self.now.rows.now.states_is ∙ ap (λ s. s.states) (sym key) in
    let dr : c.draft.new.self.rows.now.states ≡ c.args.self.now.rows.now.states = ap (λ r. r.now.states) c.draft.ensures.same in
    let inside = i.inside in
    let w = c.stand-found.new.self.seat.me.0 in
    let found = c.stand-found.result in
    let is = c.stand-found.ensures.view in
    let n = found - 1 in
    let some_found : found ≢ 0 = λ e. c.if-found-eq0.false e in
    let up : found ≡ n + 1 = omega arith in
    let look = lost v w asks (intern_at at) number found is some_found in
    let m = grown_seen asks v w (intern_at at) found look in
    let held : HeldNumber w n = inl (at, (let sw : w.setting.states ≡ v.setting.states = ap (λ s. s.states) m.setting in omega arith), subst (λ k. In (intern_at at, k) w.places) up (seen_there v w asks (intern_at at) found look some_found)) in
    let own = own_seen v w asks (intern_at at) found look in
    let y = c.differs.new.self.seat.me.0 in
    let d = c.differs.ensures in
    let more = grown_then asks v w y m d.grown in
    let ownd = own_then v w y own d.own in
    grown_then asks u v y i.grown more

pub returns-then-not-differs-clause-used_up : goal.returns-then-not-differs-clause-used_up
returns-then-not-differs-clause-used_up g c =
    let i = c.loop-left.invariant in
    let items = c.args.items.now in
    let asks = g.J.Doing.asks in
    let u = c.args.self.now.seat.me.0 in
    let v = c.loop-left.self.seat.me.0 in
    let at = c.loop-left.at in
    let number = c.args.number in
    let key = c.loop-left.self.setting ∙ ap (λ r. r.now.table.shared.key) i.same in
    let st : c.args.self.now.rows.now.states ≡ v.setting.states = c.args.self.now.rows.now.states_is ∙ ap (λ s. s.states) (sym key) in
    let dr : c.draft.new.self.rows.now.states ≡ c.args.self.now.rows.now.states = ap (λ r. r.now.states) c.draft.ensures.same in
    let inside = i.inside in
    let w = c.stand-found.new.self.seat.me.0 in
    let found = c.stand-found.result in
    let is = c.stand-found.ensures.view in
    let n = found - 1 in
    let some_found : found ≢ 0 = λ e. c.if-found-eq0.false e in
    let up : found ≡ n + 1 = omega arith in
    let look = lost v w asks (intern_at at) number found is some_found in
    let m = grown_seen asks v w (intern_at at) found look in
    let held : HeldNumber w n = inl (at, (let sw : w.setting.states ≡ v.setting.states = ap (λ s. s.states) m.setting in omega arith), subst (λ k. In (intern_at at, k) w.places) up (seen_there v w asks (intern_at at) found look some_found)) in
    let own = own_seen v w asks (intern_at at) found look in
    let y = c.differs.new.self.seat.me.0 in
    let d = c.differs.ensures in
    let more = grown_then asks v w y m d.grown in
    let ownd = own_then v w y own d.own in
    ownd.used_up ∙ i.used_up

pub returns-then-not-differs-clause-row_full : goal.returns-then-not-differs-clause-row_full
returns-then-not-differs-clause-row_full g c =
    let i = c.loop-left.invariant in
    let items = c.args.items.now in
    let asks = g.J.Doing.asks in
    let u = c.args.self.now.seat.me.0 in
    let v = c.loop-left.self.seat.me.0 in
    let at = c.loop-left.at in
    let number = c.args.number in
    let key = c.loop-left.self.setting ∙ ap (λ r. r.now.table.shared.key) i.same in
    let st : c.args.self.now.rows.now.states ≡ v.setting.states = c.args.self.now.rows.now.states_is ∙ ap (λ s. s.states) (sym key) in
    let dr : c.draft.new.self.rows.now.states ≡ c.args.self.now.rows.now.states = ap (λ r. r.now.states) c.draft.ensures.same in
    let inside = i.inside in
    let w = c.stand-found.new.self.seat.me.0 in
    let found = c.stand-found.result in
    let is = c.stand-found.ensures.view in
    let n = found - 1 in
    let some_found : found ≢ 0 = λ e. c.if-found-eq0.false e in
    let up : found ≡ n + 1 = omega arith in
    let look = lost v w asks (intern_at at) number found is some_found in
    let m = grown_seen asks v w (intern_at at) found look in
    let held : HeldNumber w n = inl (at, (let sw : w.setting.states ≡ v.setting.states = ap (λ s. s.states) m.setting in omega arith), subst (λ k. In (intern_at at, k) w.places) up (seen_there v w asks (intern_at at) found look some_found)) in
    let own = own_seen v w asks (intern_at at) found look in
    let y = c.differs.new.self.seat.me.0 in
    let d = c.differs.ensures in
    let more = grown_then asks v w y m d.grown in
    let ownd = own_then v w y own d.own in
    ownd.row_full ∙ i.row_full

pub returns-then-not-differs-clause-stands : goal.returns-then-not-differs-clause-stands
returns-then-not-differs-clause-stands g c =
    let i = c.loop-left.invariant in
    let items = c.args.items.now in
    let asks = g.J.Doing.asks in
    let u = c.args.self.now.seat.me.0 in
    let v = c.loop-left.self.seat.me.0 in
    let at = c.loop-left.at in
    let number = c.args.number in
    let key = c.loop-left.self.setting ∙ ap (λ r. r.now.table.shared.key) i.same in
    let st : c.args.self.now.rows.now.states ≡ v.setting.states = c.args.self.now.rows.now.states_is ∙ ap (λ s. s.states) (sym key) in
    let dr : c.draft.new.self.rows.now.states ≡ c.args.self.now.rows.now.states = ap (λ r. r.now.states) c.draft.ensures.same in
    let inside = i.inside in
    let w = c.stand-found.new.self.seat.me.0 in
    let found = c.stand-found.result in
    let is = c.stand-found.ensures.view in
    let n = found - 1 in
    let some_found : found ≢ 0 = λ e. c.if-found-eq0.false e in
    let up : found ≡ n + 1 = omega arith in
    let look = lost v w asks (intern_at at) number found is some_found in
    let m = grown_seen asks v w (intern_at at) found look in
    let held : HeldNumber w n = inl (at, (let sw : w.setting.states ≡ v.setting.states = ap (λ s. s.states) m.setting in omega arith), subst (λ k. In (intern_at at, k) w.places) up (seen_there v w asks (intern_at at) found look some_found)) in
    let own = own_seen v w asks (intern_at at) found look in
    let below = c.stand-found.ensures.told.1 in
    let f = below (omega arith) in
    let r : c.stand-found.new.self.rows.now.states ≡ c.args.self.now.rows.now.states = ap (λ r. r.now.states) (c.stand-found.ensures.same ∙ i.same) in
    let y = c.differs.new.self.seat.me.0 in
    let d = c.differs.ensures in
    let more = grown_then asks v w y m d.grown in
    let ownd = own_then v w y own d.own in
    let e = d.equal c.if-not-differs.true in
    let sy : y.setting.states ≡ v.setting.states = ap (λ (s : Setting). s.states) more.setting in
    (ownd.own ∙ (i.own ∙ sym c.requires.own.0), record { below = omega arith; number = number_grown asks w y d.grown n held; whole = e.0; content_is = e.1 })

pub loop-left-preserved-then-at-count : goal.loop-left-preserved-then-at-count
loop-left-preserved-then-at-count g c =
    let i = c.loop-left.invariant in
    let items = c.args.items.now in
    let asks = g.J.Doing.asks in
    let u = c.args.self.now.seat.me.0 in
    let v = c.loop-left.self.seat.me.0 in
    let at = c.loop-left.at in
    let number = c.args.number in
    let key = c.loop-left.self.setting ∙ ap (λ r. r.now.table.shared.key) i.same in
    let st : c.args.self.now.rows.now.states ≡ v.setting.states = c.args.self.now.rows.now.states_is ∙ ap (λ s. s.states) (sym key) in
    let dr : c.draft.new.self.rows.now.states ≡ c.args.self.now.rows.now.states = ap (λ r. r.now.states) c.draft.ensures.same in
    let inside = i.inside in
    let w = c.stand-found.new.self.seat.me.0 in
    let found = c.stand-found.result in
    let is = c.stand-found.ensures.view in
    let n = found - 1 in
    let some_found : found ≢ 0 = λ e. c.if-found-eq0.false e in
    let up : found ≡ n + 1 = omega arith in
    let look = lost v w asks (intern_at at) number found is some_found in
    let m = grown_seen asks v w (intern_at at) found look in
    let held : HeldNumber w n = inl (at, (let sw : w.setting.states ≡ v.setting.states = ap (λ s. s.states) m.setting in omega arith), subst (λ k. In (intern_at at, k) w.places) up (seen_there v w asks (intern_at at) found look some_found)) in
    let own = own_seen v w asks (intern_at at) found look in
    let y = c.differs.new.self.seat.me.0 in
    let d = c.differs.ensures in
    let more = grown_then asks v w y m d.grown in
    let ownd = own_then v w y own d.own in
    let unlike = d.other c.if-not-differs.false in
    let some_state = (let q = c.requires.walked.0 in let k : 1 ≤ v.setting.states = omega arith in k) in
    let goes = step_goes asks v w y items at found n look d.grown some_found up unlike c.stand-found.ensures.told.0 some_state i.walked.0 in
    let next = step_around asks v w y items at found n look d.grown some_found up unlike c.stand-found.ensures.told.0 some_state i.walked.0 (let t = c.if-at-count.true in omega arith) in
    let left = i.walked.1 in
    record {
      same = d.same ∙ (c.stand-found.ensures.same ∙ i.same);
      grown = grown_then asks u v y i.grown more;
      used_up = ownd.used_up ∙ i.used_up;
      row_full = ownd.row_full ∙ i.row_full;
      own = ownd.own ∙ i.own;
      draft = ownd.draft ∙ i.draft;
      inside = (let t = c.if-at-count.true in omega arith);
      count = look_off v.steps y.steps c.loop-left.left (length items + 1) _ i.count c.loop-left-test.true (let one : w.steps ≡ v.steps + 1 = ap (λ (x : View). x.steps) look in let few = d.few in omega arith);
      walked = (next.0, (let k = next.1 in let a = i.walked.1 in let b = c.loop-left-test.true in omega arith));
    }

pub loop-left-preserved : goal.loop-left-preserved
loop-left-preserved g c =
    let i = c.loop-left.invariant in
    let items = c.args.items.now in
    let asks = g.J.Doing.asks in
    let u = c.args.self.now.seat.me.0 in
    let v = c.loop-left.self.seat.me.0 in
    let at = c.loop-left.at in
    let number = c.args.number in
    let key = c.loop-left.self.setting ∙ ap (λ r. r.now.table.shared.key) i.same in
    let st : c.args.self.now.rows.now.states ≡ v.setting.states = c.args.self.now.rows.now.states_is ∙ ap (λ s. s.states) (sym key) in
    let dr : c.draft.new.self.rows.now.states ≡ c.args.self.now.rows.now.states = ap (λ r. r.now.states) c.draft.ensures.same in
    let inside = i.inside in
    let w = c.stand-found.new.self.seat.me.0 in
    let found = c.stand-found.result in
    let is = c.stand-found.ensures.view in
    let n = found - 1 in
    let some_found : found ≢ 0 = λ e. c.if-found-eq0.false e in
    let up : found ≡ n + 1 = omega arith in
    let look = lost v w asks (intern_at at) number found is some_found in
    let m = grown_seen asks v w (intern_at at) found look in
    let held : HeldNumber w n = inl (at, (let sw : w.setting.states ≡ v.setting.states = ap (λ s. s.states) m.setting in omega arith), subst (λ k. In (intern_at at, k) w.places) up (seen_there v w asks (intern_at at) found look some_found)) in
    let own = own_seen v w asks (intern_at at) found look in
    let y = c.differs.new.self.seat.me.0 in
    let d = c.differs.ensures in
    let more = grown_then asks v w y m d.grown in
    let ownd = own_then v w y own d.own in
    let unlike = d.other c.if-not-differs.false in
    let some_state = (let q = c.requires.walked.0 in let k : 1 ≤ v.setting.states = omega arith in k) in
    let goes = step_goes asks v w y items at found n look d.grown some_found up unlike c.stand-found.ensures.told.0 some_state i.walked.0 in
    let next = step_on asks v w y items at found n look d.grown some_found up unlike c.stand-found.ensures.told.0 some_state i.walked.0 (let t = c.if-at-count.false in omega arith) in
    let left = i.walked.1 in
    record {
      same = d.same ∙ (c.stand-found.ensures.same ∙ i.same);
      grown = grown_then asks u v y i.grown more;
      used_up = ownd.used_up ∙ i.used_up;
      row_full = ownd.row_full ∙ i.row_full;
      own = ownd.own ∙ i.own;
      draft = ownd.draft ∙ i.draft;
      inside = (let t = c.if-at-count.false in omega arith);
      count = look_off v.steps y.steps c.loop-left.left (length items + 1) _ i.count c.loop-left-test.true (let one : w.steps ≡ v.steps + 1 = ap (λ (x : View). x.steps) look in let few = d.few in omega arith);
      walked = (next.0, (let k = next.1 in let a = i.walked.1 in let b = c.loop-left-test.true in omega arith));
    }

pub returns-then-found-eq0-clause-few : goal.returns-then-found-eq0-clause-few
returns-then-found-eq0-clause-few g c =
    let i = c.loop-left.invariant in
    let items = c.args.items.now in
    let u = c.args.self.now.seat.me.0 in
    let v = c.loop-left.self.seat.me.0 in
    let w = c.stand-found.new.self.seat.me.0 in
    let won_is = won v w g.J.Doing.asks (intern_at c.loop-left.at) c.args.number c.stand-found.result c.stand-found.ensures.view c.if-found-eq0.true in
    let one : w.steps ≡ v.steps + 1 = ap (λ (x : View). x.steps) won_is in
    let dr : c.draft.new.self.rows.now.states ≡ c.args.self.now.rows.now.states = ap (λ r. r.now.states) c.draft.ensures.same in
    subst (λ s. w.steps ≤ u.steps + length items + 2 * s * (length items + 1)) dr (look_last v.steps w.steps c.loop-left.left (length items + 1) _ i.count c.loop-left-test.true (omega arith))

pub returns-then-not-differs-clause-few : goal.returns-then-not-differs-clause-few
returns-then-not-differs-clause-few g c =
    let i = c.loop-left.invariant in
    let items = c.args.items.now in
    let u = c.args.self.now.seat.me.0 in
    let v = c.loop-left.self.seat.me.0 in
    let w = c.stand-found.new.self.seat.me.0 in
    let y = c.differs.new.self.seat.me.0 in
    let look = lost v w g.J.Doing.asks (intern_at c.loop-left.at) c.args.number c.stand-found.result c.stand-found.ensures.view (λ e. c.if-found-eq0.false e) in
    let one : w.steps ≡ v.steps + 1 = ap (λ (x : View). x.steps) look in
    let few = c.differs.ensures.few in
    let dr : c.draft.new.self.rows.now.states ≡ c.args.self.now.rows.now.states = ap (λ r. r.now.states) c.draft.ensures.same in
    subst (λ s. y.steps ≤ u.steps + length items + 2 * s * (length items + 1)) dr (look_last v.steps y.steps c.loop-left.left (length items + 1) _ i.count c.loop-left-test.true (omega arith))
