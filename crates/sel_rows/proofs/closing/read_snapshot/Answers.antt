use Rattle.std.proofs.Common.{◌≡◌, ◌≢◌, ℕ, ◌+◌, ◌-◌, ◌*◌, ◌<◌, ◌≤◌, List, length, sym, ap, ◌∙◌, subst, arith, refl}
use Rattle.std.specs.Prelude.{slice_index}
use mathlib.Core.Logic.{dite}
use native.Mathlib.Decide.{ℕ_discrete}
use Rattle.sel_law.specs.declared.Setting.{Setting}
use Rattle.sel_law.specs.Words.{read, intern_at, row_at, content_at, content}
use Rattle.sel_rows.specs.Closing.{AreClosedWords}
use Rattle.sel_rows.specs.Numbered.{AreByNumber, states_in}
use Rattle.sel_rows.specs.Snapshots.{AreStatesOf, transitions_in}
use Rattle.sel_rows.proofs.Numbering.{states_are, states_same}
use Rattle.sel_rows.proofs.closing.read_snapshot.Goals as goal

below_states : (z : Setting) (ws : List ℕ) (states rows width : ℕ) → AreClosedWords z ws states rows width → (p : ℕ) → p < 2 * states → slice_index ws (intern_at p) ≤ states
below_states z ws states rows width a p lt = dite (ℕ_discrete (slice_index ws (intern_at p)) 0)
    (λ e. omega arith)
    (λ ne.
    let n : ℕ = slice_index ws (intern_at p) - 1 in
    let b = (a.numbers.each p n (let e = a.states_is in omega arith) (omega arith)).below in
    let e = a.states_is in
    omega arith)

alone : (z : Setting) (ws : List ℕ) (states rows width : ℕ) → AreClosedWords z ws states rows width → (p q : ℕ) → p < 2 * states → q < 2 * states → slice_index ws (intern_at p) ≢ 0 → slice_index ws (intern_at p) ≡ slice_index ws (intern_at q) → p ≡ q
alone z ws states rows width a p q lp lq ne same =
    let n : ℕ = slice_index ws (intern_at p) - 1 in
    let e = a.states_is in
    a.numbers.differ p q n n (omega arith) (omega arith) (omega arith) (omega arith) refl

pub order_by_number-requires-clause-inside : goal.order_by_number-requires-clause-inside
order_by_number-requires-clause-inside c =
    let a = c.requires.lawful.1 in
    let e = a.states_is in
    let l = a.size in
    omega arith

pub order_by_number-requires-clause-below : goal.order_by_number-requires-clause-below
order_by_number-requires-clause-below c = below_states c.requires.lawful.0 c.args.words.now c.args.states c.args.rows c.args.width c.requires.lawful.1

pub order_by_number-requires-clause-apart : goal.order_by_number-requires-clause-apart
order_by_number-requires-clause-apart c = alone c.requires.lawful.0 c.args.words.now c.args.states c.args.rows c.args.width c.requires.lawful.1

content_same : (z : Setting) (ws : List ℕ) (states rows width first : ℕ) → AreClosedWords z ws states rows width → first ≡ 1 + 2 * states → (n : ℕ) → read ws (first + rows + n * width) width ≡ content z ws n
content_same z ws states rows width first a e n =
    let place : first + rows + n * width ≡ content_at z n 0 = (let s = a.states_is in let r = a.rows_is in let w : n * width ≡ n * z.width = ap (λ k. n * k) a.width_is in omega arith) in
    λ i. read ws (place i) (a.width_is i)

inside_content : (z : Setting) (ws : List ℕ) (states rows width count : ℕ) → AreClosedWords z ws states rows width → count ≡ states → 1 + 2 * states + rows + count * width ≤ length ws
inside_content z ws states rows width count a e = let s = a.states_is in let r = a.rows_is in let l = a.size in let w : count * width ≡ z.states * z.width = (λ i. e i * width) ∙ (λ i. s i * a.width_is i) in omega arith

by_setting : (z : Setting) (ws found : List ℕ) (states : ℕ) → states ≡ z.states → AreByNumber ws states (2 * states) found → AreByNumber ws z.states (2 * z.states) found
by_setting z ws found states e h = subst (λ n. AreByNumber ws n (2 * n) found) e h

pub returns : goal.returns
returns c = λ z a.
    let ws = c.args.words.now in
    let states = c.args.states in
    let rows = c.args.rows in
    let width = c.args.width in
    let found = c.as_slice.result.now in
    let by : AreByNumber ws states (2 * states) found = subst (AreByNumber ws states (2 * states)) (sym c.as_slice.ensures.value) c.in_ok-found.ensures in
    let place : 1 + 2 * states ≡ row_at z 0 = (let s = a.states_is in omega arith) in
    let are = states_are z ws found (by_setting z ws found states a.states_is by) (λ p n lt e. (a.numbers.each p n lt e).below) in
    let same : c.in_ok-states.states ≡ states_in (content z ws) 0 found = c.in_ok-states.ensures ∙ states_same (λ n. read ws (1 + 2 * states + rows + n * width) width) (content z ws) (content_same z ws states rows width (1 + 2 * states) a refl) 0 found in
    record {
      states = subst (AreStatesOf z ws) (sym same) are;
      transitions = c.in_ok-transitions.ensures ∙ (λ i. transitions_in (read ws (place i) (a.rows_is i)));
    }
