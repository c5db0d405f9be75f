use Rattle.std.proofs.Common.{◌≡◌, ℕ, ◌<◌, Some, length, slice_get, refl, sym, subst, ap, ◌∙◌}
use Rattle.sel_items.specs.declared.items.Items.{Items}
use Rattle.sel_auto.specs.Sets.{IsAmong}
use Rattle.sel_auto.specs.Tables.{Tables, IsKept, IsTransition, with_evaluation, with_state}
use Rattle.sel_auto.proofs.KeyFacts.{transition, transition_added}
use Rattle.sel_auto.proofs.Refusals.{on_err, refused_evaluated, refused_added}
use Rattle.sel_auto.proofs.private.PrivateAutomaton.answer_missed.Goals as goal

pub returns-in_err-items-clause-refused : goal.returns-in_err-items-clause-refused
returns-in_err-items-clause-refused g c = on_err _ (refused_evaluated c.args.self.now _ _ _ _ _ c.args.key c.requires.key c.requires.missing c.in_err-items.ensures.tables)

pub keep-requires-clause-fresh : goal.keep-requires-clause-fresh
keep-requires-clause-fresh g c = subst (λ (s : Tables). (n : ℕ) → IsKept s c.args.key n → ⊥) (sym c.in_ok-items.ensures.tables) c.requires.missing

pub keep-requires-clause-follows : goal.keep-requires-clause-follows
keep-requires-clause-follows g c =
    let t : Tables = c.args.self.now in
    let e = c.in_ok-items.ensures.tables in
    let n : ℕ = c.in-Some.number in
    let i : Items = c.in_ok-items.items in
    let stands : slice_get t.states n ≡ Some i = subst (λ (s : Tables). slice_get s.states n ≡ Some i) e c.in-Some.ensures in
    subst (λ (s : Tables). IsTransition s.normal s.states c.args.key n) (sym e)
    (transition t (c.args.key).operator (c.args.key).class c.args.kids.0 c.args.kids.1 (c.requires.kids).0 c.args.key n i c.requires.key (c.requires.kids).1 c.in_ok-items.ensures.follows stands)

pub returns-in_err-keep-in-Some-clause-refused : goal.returns-in_err-keep-in-Some-clause-refused
returns-in_err-keep-in-Some-clause-refused g c = on_err _ (refused_evaluated c.args.self.now _ _ _ _ _ c.args.key c.requires.key c.requires.missing (c.in_err-keep-in-Some.ensures.err ∙ c.in_ok-items.ensures.tables))

pub returns-in_err-number-in-None-clause-refused : goal.returns-in_err-number-in-None-clause-refused
returns-in_err-number-in-None-clause-refused g c = on_err _ (refused_evaluated c.args.self.now _ _ _ _ _ c.args.key c.requires.key c.requires.missing (c.in_err-number-in-None.ensures.err ∙ c.in_ok-items.ensures.tables))

pub keep-requires-then-has_number_left-clause-fresh : goal.keep-requires-then-has_number_left-clause-fresh
keep-requires-then-has_number_left-clause-fresh g c =
    subst (λ (s : Tables). (n : ℕ) → IsKept s c.args.key n → ⊥) (sym c.in_ok-number-in-None.ensures.ok) (subst (λ (s : Tables). (n : ℕ) → IsKept s c.args.key n → ⊥) (sym c.in_ok-items.ensures.tables) c.requires.missing)

pub keep-requires-then-has_number_left-clause-follows : goal.keep-requires-then-has_number_left-clause-follows
keep-requires-then-has_number_left-clause-follows g c =
    let t : Tables = c.args.self.now in
    let i : Items = c.in_ok-items.items in
    let e : c.add_state.new.self ≡ with_state (with_evaluation t) i = c.in_ok-number-in-None.ensures.ok ∙ ap (λ (s : Tables). with_state s i) c.in_ok-items.ensures.tables in
    let number : c.in_ok-number-in-None.number ≡ length t.states = c.in_ok-number-in-None.ensures.number ∙ ap (λ (s : Tables). length s.states) c.in_ok-items.ensures.tables in
    subst (λ (s : Tables). IsTransition s.normal s.states c.args.key c.in_ok-number-in-None.number) (sym e)
    (transition_added t (c.args.key).operator (c.args.key).class c.args.kids.0 c.args.kids.1 (c.requires.kids).0 c.args.key c.in_ok-number-in-None.number i c.requires.key (c.requires.kids).1 c.in_ok-items.ensures.follows number)

pub returns-in_err-keep-in-None-clause-refused : goal.returns-in_err-keep-in-None-clause-refused
returns-in_err-keep-in-None-clause-refused g c =
    let t : Tables = c.args.self.now in
    let i : Items = c.in_ok-items.items in
    let e = c.in_ok-items.ensures.tables in
    let fresh : IsAmong t.states i → ⊥ = subst (λ (s : Tables). IsAmong s.states i → ⊥) e c.in-None.ensures in
    let room : length t.states < t.most_states = subst (λ (s : Tables). length s.states < s.most_states) e (c.if-has_number_left.ensures.yes refl) in
    on_err _ (refused_added t _ _ _ _ _ c.args.key c.requires.key c.requires.missing i c.in_ok-items.ensures.follows fresh room (c.in_err-keep-in-None.ensures.err ∙ c.in_ok-number-in-None.ensures.ok ∙ ap (λ (s : Tables). with_state s i) e))

pub returns-in_err-label-in-None-clause-refused : goal.returns-in_err-label-in-None-clause-refused
returns-in_err-label-in-None-clause-refused g c = on_err _ (refused_evaluated c.args.self.now _ _ _ _ _ c.args.key c.requires.key c.requires.missing (c.in_err-label-in-None.ensures.err ∙ c.in_ok-items.ensures.tables))
