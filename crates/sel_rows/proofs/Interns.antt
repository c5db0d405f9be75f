-- The walk over the intern row.
use Rattle.std.proofs.Common.{◌≡◌, ◌≢◌, ℕ, ◌+◌, ◌*◌, ◌<◌, ◌≤◌, cond, List, [], ◌∷◌, ◌++◌, refl, sym, ap, ◌∙◌, subst, inl, inr, arith, eq-eqb, ne_eqb}
use mathlib.Core.Logic.{dite}
use native.Mathlib.Decide.{ℕ_discrete}
use Rattle.sel_law.specs.declared.Ask.{Ask}
use Rattle.sel_law.specs.declared.View.{View}
use Rattle.sel_law.specs.Words.{In, intern_at, walk, content_home}
use Rattle.sel_law.specs.Kinds.{seen, HasContent, OtherState, WalkedStates, NotAll, TellsStates}
use Rattle.sel_law.proofs.Base.{in_back, in_here}
use Rattle.sel_rows.specs.Grown.{Grown, KeepsOwn, KeepsNumber}
use Rattle.sel_rows.specs.FoundState.{Unlike, NoneHolds}
use Rattle.sel_rows.proofs.Places.{walk_covers}
use Rattle.sel_rows.proofs.Growth.{other_state_grown}

pub number_then : (u v w : View) → KeepsNumber u v → KeepsNumber v w → KeepsNumber u w
number_then u v w a b = record { own = b.own ∙ a.own; draft = b.draft ∙ a.draft; used_up = b.used_up ∙ a.used_up }

pub own_then : (u v w : View) → KeepsOwn u v → KeepsOwn v w → KeepsOwn u w
own_then u v w a b = record { own = b.own ∙ a.own; draft = b.draft ∙ a.draft; used_up = b.used_up ∙ a.used_up; row_full = b.row_full ∙ a.row_full }

pub own_seen : (v w : View) (asks : List Ask) (place found : ℕ) → w ≡ seen v asks place found → KeepsOwn v w
own_seen v w asks place found is = record { own = ap (λ (y : View). y.own) is; draft = ap (λ (y : View). y.draft) is; used_up = ap (λ (y : View). y.used_up) is; row_full = ap (λ (y : View). y.row_full) is }

pub seen_there : (v w : View) (asks : List Ask) (place found : ℕ) → w ≡ seen v asks place found → found ≢ 0 → In (place, found) w.places
seen_there v w asks place found is ne =
    let spot : ℕ × ℕ = (place, found) in
    subst (λ (y : View). In spot y.places) (sym is) (subst (λ b. In spot (cond b v.places (v.places ++ spot ∷ []))) (sym (ne_eqb found 0 ne)) (in_back spot v.places (spot ∷ []) (in_here spot [])))

pub seen_asks : (v w : View) (asks : List Ask) (place found : ℕ) → w ≡ seen v asks place found → (b : Ask) → In b asks → In b w.asked
seen_asks v w asks place found is b h = subst (λ (y : View). In b y.asked) (sym is) (in_back b v.asked asks h)

pub walked_from : (w : View) (c : List ℕ) (count home at steps : ℕ) → count ≡ 2 * w.setting.states → home ≡ content_home w.setting c → steps < count → at ≡ walk count home steps
    → ((j : ℕ) → j < steps → OtherState w c (walk count home j)) → (k : WalkedStates w c at) × (k.0 ≡ steps)
walked_from w c count home at steps a b lt e others = ((steps, omega arith, e ∙ (λ k. walk (a k) (b k) steps), λ j l. subst (OtherState w c) (λ k. walk (a k) (b k) j) (others j l)), refl)

pub others_on : (asks : List Ask) (v y : View) → Grown asks v y → (c : List ℕ) (count home at steps n : ℕ) → at ≡ walk count home steps → ((j : ℕ) → j < steps → OtherState v c (walk count home j))
    → In (intern_at at, n + 1) y.places → Unlike y n c → (j : ℕ) → j < steps + 1 → OtherState y c (walk count home j)
others_on asks v y g c count home at steps n e others there unlike j lt = dite (ℕ_discrete j steps)
    (λ same. subst (OtherState y c) (e ∙ ap (walk count home) (sym same)) (n, unlike.0, unlike.1, there, unlike.2, unlike.3))
    (λ ne. other_state_grown asks v y g c (walk count home j) (others j (omega arith)))

-- where the word is free, no number is known to have the content
pub none_has : (v w : View) (asks : List Ask) (at found : ℕ) (c : List ℕ) → w ≡ seen v asks (intern_at at) found → found ≡ 0 → TellsStates v (intern_at at) found → WalkedStates v c at → (n : ℕ) → HasContent w n c → ⊥
none_has v w asks at found c is free told walked n has =
    let same : w ≡ record v { steps = v.steps + 1; last = (v.steps + 1, intern_at at, found); asked = v.asked ++ asks } =
    is ∙ (λ i. record v { steps = v.steps + 1; last = (v.steps + 1, intern_at at, found); places = cond (eq-eqb found 0 free i) v.places (v.places ++ (intern_at at, found) ∷ []); asked = v.asked ++ asks }) in
    told c n at (subst (λ (y : View). HasContent y n c) same has) refl walked free

pub none_holds : (v w : View) (asks : List Ask) (at found : ℕ) (c : List ℕ) → w ≡ seen v asks (intern_at at) found → found ≡ 0 → TellsStates v (intern_at at) found → WalkedStates v c at → NoneHolds w c
none_holds v w asks at found c is free told walked n lt number whole = none_has v w asks at found c is free told walked n (inl (number, whole))

-- the walk can't have passed over every place
pub never_all : (v : View) (c : List ℕ) (count home at steps found : ℕ) → count ≡ 2 * v.setting.states → 1 ≤ v.setting.states → at ≡ walk count home steps → found ≢ 0
    → ((j : ℕ) → j < steps → OtherState v c (walk count home j)) → NotAll v (intern_at at) found → steps + 1 ≡ count → ⊥
never_all v c count home at steps found a some_state e ne others told last = told ne some_state (λ p lt.
    let k = walk_covers count home p (omega arith) in
    dite (ℕ_discrete k.0 steps)
    (λ same. inl (ap intern_at (sym k.2 ∙ (ap (walk count home) same ∙ sym e))))
    (λ no. inr (let o = others k.0 (let b = k.1 in omega arith) in
    (o.0 + 1, subst (λ q. In (intern_at q, o.0 + 1) v.places) k.2 o.3))))
