use Rattle.std.proofs.Common.{◌≡◌, ◌≢◌, ◌+◌, ◌-◌, ◌*◌, length, sym, ap, ◌∙◌, subst, arith, inl}
use Rattle.sel_law.specs.declared.Setting.{Setting}
use Rattle.sel_law.specs.declared.View.{View}
use Rattle.sel_law.specs.Words.{In, intern_at, walk, content_home}
use Rattle.sel_law.specs.Kinds.{HeldNumber}
use Rattle.sel_rows.proofs.Places.{walk_next, walk_around}
use Rattle.sel_rows.proofs.Growth.{grown_then, grown_seen, number_grown, other_state_grown}
use Rattle.sel_rows.proofs.Interns.{none_has, none_holds, own_then, own_seen, seen_there, seen_asks, walked_from, others_on, never_all}
use Rattle.sel_rows.proofs.StepCounts.{look_on, look_within}
use Rattle.sel_rows.proofs.hand.Hand.find_state.Goals as goal

pub returns-then-found-eq0-clause-grown : goal.returns-then-found-eq0-clause-grown
returns-then-found-eq0-clause-grown g c =
    let i = c.loop-steps.invariant in
    let items = c.args.items.now in
    let asks = g.J.Doing.asks in
    let u = c.args.self.now.seat.me.0 in
    let v = c.loop-steps.self.seat.me.0 in
    let w = c.look-found.new.self.seat.me.0 in
    let at = c.loop-steps.at in
    let found = c.look-found.result in
    let n = found - 1 in
    let m = grown_seen asks v w (intern_at at) found c.look-found.ensures.view in
    let rows = c.look-found.ensures.same ∙ i.same in
    let key = c.look-found.new.self.setting ∙ ap (λ r. r.now.table.shared.key) rows in
    let st : 2 * c.args.self.now.rows.now.states ≡ 2 * w.setting.states = ap (λ k. 2 * k) (c.args.self.now.rows.now.states_is ∙ ap (λ s. s.states) (sym key)) in
    let home = c.requires.home.0 ∙ ap (λ (s : Setting). content_home s items) (sym key) in
    let own = own_seen v w asks (intern_at at) found c.look-found.ensures.view in
    grown_then asks u v w i.grown m

pub returns-then-found-eq0-clause-own : goal.returns-then-found-eq0-clause-own
returns-then-found-eq0-clause-own g c =
    let i = c.loop-steps.invariant in
    let items = c.args.items.now in
    let asks = g.J.Doing.asks in
    let u = c.args.self.now.seat.me.0 in
    let v = c.loop-steps.self.seat.me.0 in
    let w = c.look-found.new.self.seat.me.0 in
    let at = c.loop-steps.at in
    let found = c.look-found.result in
    let n = found - 1 in
    let m = grown_seen asks v w (intern_at at) found c.look-found.ensures.view in
    let rows = c.look-found.ensures.same ∙ i.same in
    let key = c.look-found.new.self.setting ∙ ap (λ r. r.now.table.shared.key) rows in
    let st : 2 * c.args.self.now.rows.now.states ≡ 2 * w.setting.states = ap (λ k. 2 * k) (c.args.self.now.rows.now.states_is ∙ ap (λ s. s.states) (sym key)) in
    let home = c.requires.home.0 ∙ ap (λ (s : Setting). content_home s items) (sym key) in
    let own = own_seen v w asks (intern_at at) found c.look-found.ensures.view in
    own_then u v w i.own own

pub returns-then-found-eq0-clause-stepped : goal.returns-then-found-eq0-clause-stepped
returns-then-found-eq0-clause-stepped g c =
    let i = c.loop-steps.invariant in
    let items = c.args.items.now in
    let asks = g.J.Doing.asks in
    let u = c.args.self.now.seat.me.0 in
    let v = c.loop-steps.self.seat.me.0 in
    let w = c.look-found.new.self.seat.me.0 in
    let at = c.loop-steps.at in
    let found = c.look-found.result in
    let n = found - 1 in
    let m = grown_seen asks v w (intern_at at) found c.look-found.ensures.view in
    let rows = c.look-found.ensures.same ∙ i.same in
    let key = c.look-found.new.self.setting ∙ ap (λ r. r.now.table.shared.key) rows in
    let st : 2 * c.args.self.now.rows.now.states ≡ 2 * w.setting.states = ap (λ k. 2 * k) (c.args.self.now.rows.now.states_is ∙ ap (λ s. s.states) (sym key)) in
    let home = c.requires.home.0 ∙ ap (λ (s : Setting). content_home s items) (sym key) in
    let own = own_seen v w asks (intern_at at) found c.look-found.ensures.view in
    λ b h. seen_asks v w asks (intern_at at) found c.look-found.ensures.view b h

pub returns-then-found-eq0-clause-found : goal.returns-then-found-eq0-clause-found
returns-then-found-eq0-clause-found g c =
    let i = c.loop-steps.invariant in
    let items = c.args.items.now in
    let asks = g.J.Doing.asks in
    let u = c.args.self.now.seat.me.0 in
    let v = c.loop-steps.self.seat.me.0 in
    let w = c.look-found.new.self.seat.me.0 in
    let at = c.loop-steps.at in
    let found = c.look-found.result in
    let n = found - 1 in
    let m = grown_seen asks v w (intern_at at) found c.look-found.ensures.view in
    let rows = c.look-found.ensures.same ∙ i.same in
    let key = c.look-found.new.self.setting ∙ ap (λ r. r.now.table.shared.key) rows in
    let st : 2 * c.args.self.now.rows.now.states ≡ 2 * w.setting.states = ap (λ k. 2 * k) (c.args.self.now.rows.now.states_is ∙ ap (λ s. s.states) (sym key)) in
    let home = c.requires.home.0 ∙ ap (λ (s : Setting). content_home s items) (sym key) in
    let own = own_seen v w asks (intern_at at) found c.look-found.ensures.view in
    let lt = c.loop-steps-test.true in
    let inside = i.place.1 in (
      (omega arith),
      (walked_from w items (2 * c.args.self.now.rows.now.states) c.args.home at c.loop-steps.steps st home lt i.place.0 (λ j l. other_state_grown asks v w m items (walk (2 * c.args.self.now.rows.now.states) c.args.home j) (i.others j l))).0,
      (let f = i.grown.steps in let g = ap (λ (x : View). x.steps) c.look-found.ensures.view in omega arith),
      ap (λ (x : View). x.last) c.look-found.ensures.view ∙ (ap (λ (x : View). (x.steps, intern_at at, found)) (sym c.look-found.ensures.view) ∙ (λ k. (w.steps, intern_at at, c.if-found-eq0.true k))),
      none_holds v w asks at found items c.look-found.ensures.view c.if-found-eq0.true c.look-found.ensures.told.2 (walked_from v items (2 * c.args.self.now.rows.now.states) c.args.home at c.loop-steps.steps (st ∙ ap (λ (s : Setting). 2 * s.states) m.setting) (home ∙ ap (λ (s : Setting). content_home s items) m.setting) lt i.place.0 i.others).0,
    )

pub returns-then-found-eq0-clause-only : goal.returns-then-found-eq0-clause-only
returns-then-found-eq0-clause-only g c =
    let i = c.loop-steps.invariant in
    let items = c.args.items.now in
    let asks = g.J.Doing.asks in
    let u = c.args.self.now.seat.me.0 in
    let v = c.loop-steps.self.seat.me.0 in
    let w = c.look-found.new.self.seat.me.0 in
    let at = c.loop-steps.at in
    let found = c.look-found.result in
    let n = found - 1 in
    let m = grown_seen asks v w (intern_at at) found c.look-found.ensures.view in
    let rows = c.look-found.ensures.same ∙ i.same in
    let key = c.look-found.new.self.setting ∙ ap (λ r. r.now.table.shared.key) rows in
    let st : 2 * c.args.self.now.rows.now.states ≡ 2 * w.setting.states = ap (λ k. 2 * k) (c.args.self.now.rows.now.states_is ∙ ap (λ s. s.states) (sym key)) in
    let home = c.requires.home.0 ∙ ap (λ (s : Setting). content_home s items) (sym key) in
    let own = own_seen v w asks (intern_at at) found c.look-found.ensures.view in
    let lt = c.loop-steps-test.true in
    none_has v w asks at found items c.look-found.ensures.view c.if-found-eq0.true c.look-found.ensures.told.2 (walked_from v items (2 * c.args.self.now.rows.now.states) c.args.home at c.loop-steps.steps (st ∙ ap (λ (s : Setting). 2 * s.states) m.setting) (home ∙ ap (λ (s : Setting). content_home s items) m.setting) lt i.place.0 i.others).0

pub differs-requires-clause-held : goal.differs-requires-clause-held
differs-requires-clause-held g c =
    let i = c.loop-steps.invariant in
    let items = c.args.items.now in
    let asks = g.J.Doing.asks in
    let u = c.args.self.now.seat.me.0 in
    let v = c.loop-steps.self.seat.me.0 in
    let w = c.look-found.new.self.seat.me.0 in
    let at = c.loop-steps.at in
    let found = c.look-found.result in
    let n = found - 1 in
    let m = grown_seen asks v w (intern_at at) found c.look-found.ensures.view in
    let rows = c.look-found.ensures.same ∙ i.same in
    let key = c.look-found.new.self.setting ∙ ap (λ r. r.now.table.shared.key) rows in
    let st : 2 * c.args.self.now.rows.now.states ≡ 2 * w.setting.states = ap (λ k. 2 * k) (c.args.self.now.rows.now.states_is ∙ ap (λ s. s.states) (sym key)) in
    let home = c.requires.home.0 ∙ ap (λ (s : Setting). content_home s items) (sym key) in
    let own = own_seen v w asks (intern_at at) found c.look-found.ensures.view in
    let some_found : found ≢ 0 = λ e. c.if-found-eq0.false e in
    let up : found ≡ n + 1 = omega arith in
    let spot = subst (λ k. In (intern_at at, k) w.places) up (seen_there v w asks (intern_at at) found c.look-found.ensures.view some_found) in
    let held : HeldNumber w n = inl (at, (let p = i.place.1 in omega arith), spot) in
    let below = c.look-found.ensures.told.1 in
    let sv : w.setting.states ≡ v.setting.states = ap (λ s. s.states) m.setting in
    let r : c.look-found.new.self.rows.now.states ≡ c.args.self.now.rows.now.states = ap (λ r. r.now.states) rows in
    let inside = i.place.1 in
    let f = below (omega arith) in
    (omega arith, held)

pub returns-then-not-differs-clause-grown : goal.returns-then-not-differs-clause-grown
returns-then-not-differs-clause-grown g c =
    let i = c.loop-steps.invariant in
    let items = c.args.items.now in
    let asks = g.J.Doing.asks in
    let u = c.args.self.now.seat.me.0 in
    let v = c.loop-steps.self.seat.me.0 in
    let w = c.look-found.new.self.seat.me.0 in
    let at = c.loop-steps.at in
    let found = c.look-found.result in
    let n = found - 1 in
    let m = grown_seen asks v w (intern_at at) found c.look-found.ensures.view in
    let rows = c.look-found.ensures.same ∙ i.same in
    let key = c.look-found.new.self.setting ∙ ap (λ r. r.now.table.shared.key) rows in
    let st : 2 * c.args.self.now.rows.now.states ≡ 2 * w.setting.states = ap (λ k. 2 * k) (c.args.self.now.rows.now.states_is ∙ ap (λ s. s.states) (sym key)) in
    let home = c.requires.home.0 ∙ ap (λ (s : Setting). content_home s items) (sym key) in
    let own = own_seen v w asks (intern_at at) found c.look-found.ensures.view in
    let y = c.differs.new.self.seat.me.0 in
    let d = c.differs.ensures in
    let more = grown_then asks v w y m d.grown in
    grown_then asks u v y i.grown more

pub returns-then-not-differs-clause-own : goal.returns-then-not-differs-clause-own
returns-then-not-differs-clause-own g c =
    let i = c.loop-steps.invariant in
    let items = c.args.items.now in
    let asks = g.J.Doing.asks in
    let u = c.args.self.now.seat.me.0 in
    let v = c.loop-steps.self.seat.me.0 in
    let w = c.look-found.new.self.seat.me.0 in
    let at = c.loop-steps.at in
    let found = c.look-found.result in
    let n = found - 1 in
    let m = grown_seen asks v w (intern_at at) found c.look-found.ensures.view in
    let rows = c.look-found.ensures.same ∙ i.same in
    let key = c.look-found.new.self.setting ∙ ap (λ r. r.now.table.shared.key) rows in
    let st : 2 * c.args.self.now.rows.now.states ≡ 2 * w.setting.states = ap (λ k. 2 * k) (c.args.self.now.rows.now.states_is ∙ ap (λ s. s.states) (sym key)) in
    let home = c.requires.home.0 ∙ ap (λ (s : Setting). content_home s items) (sym key) in
    let own = own_seen v w asks (intern_at at) found c.look-found.ensures.view in
    let y = c.differs.new.self.seat.me.0 in
    let d = c.differs.ensures in
    let more = grown_then asks v w y m d.grown in
    own_then u v y i.own (own_then v w y own d.own)

pub returns-then-not-differs-clause-stepped : goal.returns-then-not-differs-clause-stepped
returns-then-not-differs-clause-stepped g c =
    let i = c.loop-steps.invariant in
    let items = c.args.items.now in
    let asks = g.J.Doing.asks in
    let u = c.args.self.now.seat.me.0 in
    let v = c.loop-steps.self.seat.me.0 in
    let w = c.look-found.new.self.seat.me.0 in
    let at = c.loop-steps.at in
    let found = c.look-found.result in
    let n = found - 1 in
    let m = grown_seen asks v w (intern_at at) found c.look-found.ensures.view in
    let rows = c.look-found.ensures.same ∙ i.same in
    let key = c.look-found.new.self.setting ∙ ap (λ r. r.now.table.shared.key) rows in
    let st : 2 * c.args.self.now.rows.now.states ≡ 2 * w.setting.states = ap (λ k. 2 * k) (c.args.self.now.rows.now.states_is ∙ ap (λ s. s.states) (sym key)) in
    let home = c.requires.home.0 ∙ ap (λ (s : Setting). content_home s items) (sym key) in
    let own = own_seen v w asks (intern_at at) found c.look-found.ensures.view in
    let y = c.differs.new.self.seat.me.0 in
    let d = c.differs.ensures in
    let more = grown_then asks v w y m d.grown in
    λ b h. d.grown.asked b (seen_asks v w asks (intern_at at) found c.look-found.ensures.view b h)

pub returns-then-not-differs-clause-found : goal.returns-then-not-differs-clause-found
returns-then-not-differs-clause-found g c =
    let i = c.loop-steps.invariant in
    let items = c.args.items.now in
    let asks = g.J.Doing.asks in
    let u = c.args.self.now.seat.me.0 in
    let v = c.loop-steps.self.seat.me.0 in
    let w = c.look-found.new.self.seat.me.0 in
    let at = c.loop-steps.at in
    let found = c.look-found.result in
    let n = found - 1 in
    let m = grown_seen asks v w (intern_at at) found c.look-found.ensures.view in
    let rows = c.look-found.ensures.same ∙ i.same in
    let key = c.look-found.new.self.setting ∙ ap (λ r. r.now.table.shared.key) rows in
    let st : 2 * c.args.self.now.rows.now.states ≡ 2 * w.setting.states = ap (λ k. 2 * k) (c.args.self.now.rows.now.states_is ∙ ap (λ s. s.states) (sym key)) in
    let home = c.requires.home.0 ∙ ap (λ (s : Setting). content_home s items) (sym key) in
    let own = own_seen v w asks (intern_at at) found c.look-found.ensures.view in
    let some_found : found ≢ 0 = λ e. c.if-found-eq0.false e in
    let up : found ≡ n + 1 = omega arith in
    let spot = subst (λ k. In (intern_at at, k) w.places) up (seen_there v w asks (intern_at at) found c.look-found.ensures.view some_found) in
    let held : HeldNumber w n = inl (at, (let p = i.place.1 in omega arith), spot) in
    let below = c.look-found.ensures.told.1 in
    let sv : w.setting.states ≡ v.setting.states = ap (λ s. s.states) m.setting in
    let r : c.look-found.new.self.rows.now.states ≡ c.args.self.now.rows.now.states = ap (λ r. r.now.states) rows in
    let inside = i.place.1 in
    let f = below (omega arith) in
    let y = c.differs.new.self.seat.me.0 in
    let d = c.differs.ensures in
    let more = grown_then asks v w y m d.grown in
    let e = d.equal c.if-not-differs.true in
    let sy : y.setting.states ≡ w.setting.states = ap (λ (s : Setting). s.states) d.grown.setting in
    record { below = omega arith; number = number_grown asks w y d.grown n held; whole = e.0; content_is = e.1 }

pub returns-then-not-differs-clause-only : goal.returns-then-not-differs-clause-only
returns-then-not-differs-clause-only g c =
    let i = c.loop-steps.invariant in
    let items = c.args.items.now in
    let asks = g.J.Doing.asks in
    let u = c.args.self.now.seat.me.0 in
    let v = c.loop-steps.self.seat.me.0 in
    let w = c.look-found.new.self.seat.me.0 in
    let at = c.loop-steps.at in
    let found = c.look-found.result in
    let n = found - 1 in
    let m = grown_seen asks v w (intern_at at) found c.look-found.ensures.view in
    let rows = c.look-found.ensures.same ∙ i.same in
    let key = c.look-found.new.self.setting ∙ ap (λ r. r.now.table.shared.key) rows in
    let st : 2 * c.args.self.now.rows.now.states ≡ 2 * w.setting.states = ap (λ k. 2 * k) (c.args.self.now.rows.now.states_is ∙ ap (λ s. s.states) (sym key)) in
    let home = c.requires.home.0 ∙ ap (λ (s : Setting). content_home s items) (sym key) in
    let own = own_seen v w asks (intern_at at) found c.look-found.ensures.view in
    let some_found : found ≢ 0 = λ e. c.if-found-eq0.false e in
    let up : found ≡ n + 1 = omega arith in
    let spot = subst (λ k. In (intern_at at, k) w.places) up (seen_there v w asks (intern_at at) found c.look-found.ensures.view some_found) in
    let held : HeldNumber w n = inl (at, (let p = i.place.1 in omega arith), spot) in
    let below = c.look-found.ensures.told.1 in
    let sv : w.setting.states ≡ v.setting.states = ap (λ s. s.states) m.setting in
    let r : c.look-found.new.self.rows.now.states ≡ c.args.self.now.rows.now.states = ap (λ r. r.now.states) rows in
    let inside = i.place.1 in
    let f = below (omega arith) in
    let y = c.differs.new.self.seat.me.0 in
    let d = c.differs.ensures in
    let more = grown_then asks v w y m d.grown in
    let e = d.equal c.if-not-differs.true in
    λ p has. d.numbers c.if-not-differs.true p n items has (inl (number_grown asks w y d.grown n held, e.0))

pub loop-steps-preserved-then-at-count : goal.loop-steps-preserved-then-at-count
loop-steps-preserved-then-at-count g c =
    let i = c.loop-steps.invariant in
    let items = c.args.items.now in
    let asks = g.J.Doing.asks in
    let u = c.args.self.now.seat.me.0 in
    let v = c.loop-steps.self.seat.me.0 in
    let w = c.look-found.new.self.seat.me.0 in
    let at = c.loop-steps.at in
    let found = c.look-found.result in
    let n = found - 1 in
    let m = grown_seen asks v w (intern_at at) found c.look-found.ensures.view in
    let rows = c.look-found.ensures.same ∙ i.same in
    let key = c.look-found.new.self.setting ∙ ap (λ r. r.now.table.shared.key) rows in
    let st : 2 * c.args.self.now.rows.now.states ≡ 2 * w.setting.states = ap (λ k. 2 * k) (c.args.self.now.rows.now.states_is ∙ ap (λ s. s.states) (sym key)) in
    let home = c.requires.home.0 ∙ ap (λ (s : Setting). content_home s items) (sym key) in
    let own = own_seen v w asks (intern_at at) found c.look-found.ensures.view in
    let some_found : found ≢ 0 = λ e. c.if-found-eq0.false e in
    let up : found ≡ n + 1 = omega arith in
    let spot = subst (λ k. In (intern_at at, k) w.places) up (seen_there v w asks (intern_at at) found c.look-found.ensures.view some_found) in
    let held : HeldNumber w n = inl (at, (let p = i.place.1 in omega arith), spot) in
    let y = c.differs.new.self.seat.me.0 in
    let d = c.differs.ensures in
    let more = grown_then asks v w y m d.grown in
    let count = 2 * c.args.self.now.rows.now.states in
    let there = d.grown.places (intern_at at, n + 1) spot in
    let sv : w.setting.states ≡ v.setting.states = ap (λ s. s.states) m.setting in
    let cv : count ≡ 2 * v.setting.states = st ∙ ap (λ k. 2 * k) sv in
    let some_states = c.requires.states in
    record {
      same = d.same ∙ rows;
      place = (sym (walk_around (2 * c.args.self.now.rows.now.states) c.args.home c.loop-steps.steps (let p = i.place.0 in let t = c.if-at-count.true in omega arith)), omega arith, omega arith);
      grown = grown_then asks u v y i.grown more;
      own = own_then u v y i.own (own_then v w y own d.own);
      others = others_on asks v y more items count c.args.home at c.loop-steps.steps n i.place.0 i.others there (d.other c.if-not-differs.false);
      goes_on = never_all v items count c.args.home at c.loop-steps.steps found cv (omega arith) i.place.0 some_found i.others c.look-found.ensures.told.0;
      count = look_on u.steps v.steps y.steps c.loop-steps.steps (length items + 1) i.count (let one : w.steps ≡ v.steps + 1 = ap (λ (x : View). x.steps) c.look-found.ensures.view in let more = d.few in omega arith);
    }

pub loop-steps-preserved : goal.loop-steps-preserved
loop-steps-preserved g c =
    let i = c.loop-steps.invariant in
    let items = c.args.items.now in
    let asks = g.J.Doing.asks in
    let u = c.args.self.now.seat.me.0 in
    let v = c.loop-steps.self.seat.me.0 in
    let w = c.look-found.new.self.seat.me.0 in
    let at = c.loop-steps.at in
    let found = c.look-found.result in
    let n = found - 1 in
    let m = grown_seen asks v w (intern_at at) found c.look-found.ensures.view in
    let rows = c.look-found.ensures.same ∙ i.same in
    let key = c.look-found.new.self.setting ∙ ap (λ r. r.now.table.shared.key) rows in
    let st : 2 * c.args.self.now.rows.now.states ≡ 2 * w.setting.states = ap (λ k. 2 * k) (c.args.self.now.rows.now.states_is ∙ ap (λ s. s.states) (sym key)) in
    let home = c.requires.home.0 ∙ ap (λ (s : Setting). content_home s items) (sym key) in
    let own = own_seen v w asks (intern_at at) found c.look-found.ensures.view in
    let some_found : found ≢ 0 = λ e. c.if-found-eq0.false e in
    let up : found ≡ n + 1 = omega arith in
    let spot = subst (λ k. In (intern_at at, k) w.places) up (seen_there v w asks (intern_at at) found c.look-found.ensures.view some_found) in
    let held : HeldNumber w n = inl (at, (let p = i.place.1 in omega arith), spot) in
    let y = c.differs.new.self.seat.me.0 in
    let d = c.differs.ensures in
    let more = grown_then asks v w y m d.grown in
    let count = 2 * c.args.self.now.rows.now.states in
    let there = d.grown.places (intern_at at, n + 1) spot in
    let sv : w.setting.states ≡ v.setting.states = ap (λ s. s.states) m.setting in
    let cv : count ≡ 2 * v.setting.states = st ∙ ap (λ k. 2 * k) sv in
    let some_states = c.requires.states in
    record {
      same = d.same ∙ rows;
      place = (ap (λ q. q + 1) i.place.0 ∙ sym (walk_next (2 * c.args.self.now.rows.now.states) c.args.home c.loop-steps.steps (let p = i.place.0 in let t = c.if-at-count.false in omega arith)), omega arith, omega arith);
      grown = grown_then asks u v y i.grown more;
      own = own_then u v y i.own (own_then v w y own d.own);
      others = others_on asks v y more items count c.args.home at c.loop-steps.steps n i.place.0 i.others there (d.other c.if-not-differs.false);
      goes_on = never_all v items count c.args.home at c.loop-steps.steps found cv (omega arith) i.place.0 some_found i.others c.look-found.ensures.told.0;
      count = look_on u.steps v.steps y.steps c.loop-steps.steps (length items + 1) i.count (let one : w.steps ≡ v.steps + 1 = ap (λ (x : View). x.steps) c.look-found.ensures.view in let more = d.few in omega arith);
    }

pub returns-then-found-eq0-clause-few : goal.returns-then-found-eq0-clause-few
returns-then-found-eq0-clause-few g c =
    let v = c.loop-steps.self.seat.me.0 in
    let w = c.look-found.new.self.seat.me.0 in
    let n = length c.args.items.now + 1 in
    let one : w.steps ≡ v.steps + 1 = ap (λ (x : View). x.steps) c.look-found.ensures.view in
    look_within c.args.self.now.seat.me.0.steps v.steps w.steps c.loop-steps.steps n (2 * c.args.self.now.rows.now.states) c.loop-steps.invariant.count c.loop-steps-test.true (omega arith)

pub returns-then-not-differs-clause-few : goal.returns-then-not-differs-clause-few
returns-then-not-differs-clause-few g c =
    let v = c.loop-steps.self.seat.me.0 in
    let w = c.look-found.new.self.seat.me.0 in
    let y = c.differs.new.self.seat.me.0 in
    let n = length c.args.items.now + 1 in
    let one : w.steps ≡ v.steps + 1 = ap (λ (x : View). x.steps) c.look-found.ensures.view in
    let more = c.differs.ensures.few in
    look_within c.args.self.now.seat.me.0.steps v.steps y.steps c.loop-steps.steps n (2 * c.args.self.now.rows.now.states) c.loop-steps.invariant.count c.loop-steps-test.true (omega arith)
