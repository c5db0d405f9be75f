-- Drafts, and the walk of a publication.
use Rattle.std.proofs.Common.{◌≡◌, ◌≢◌, ℕ, zero, suc, ◌+◌, ◌*◌, ◌<◌, ◌≤◌, ◌==◌, List, [], ◌∷◌, ◌++◌, length, take, refl, sym, ap, ◌∙◌, subst, inl, arith, eq-eqb, ne_eqb}
use Rattle.std.specs.Prelude.{slice_index}
use mathlib.Core.Logic.{dite}
use native.Mathlib.Decide.{ℕ_discrete}
use Rattle.sel_law.specs.declared.Setting.{Setting}
use Rattle.sel_law.specs.declared.Ask.{Ask}
use Rattle.sel_law.specs.declared.View.{View}
use Rattle.sel_law.specs.Words.{In, intern_at, walk, content_home}
use Rattle.sel_law.specs.Kinds.{seen, stood, stood_as, entries, HeldNumber, HeldWhole, WalkedStates, NotAll, OneContent}
use Rattle.sel_law.proofs.Base.{in_back, in_here}
use Rattle.sel_rows.specs.Grown.{Grown}
use Rattle.sel_rows.specs.FoundState.{Unlike, HoldsContent}
use Rattle.sel_rows.proofs.Places.{walk_next, walk_around}
use Rattle.sel_rows.proofs.Growth.{grown_then, grown_seen}
use Rattle.sel_rows.proofs.Contents.{content_is}
use Rattle.sel_rows.proofs.Interns.{seen_there, walked_from, others_on, never_all}
use Rattle.sel_rows.proofs.RowWalks.{entry_in}

pub take_item : (l : List ℕ) (i : ℕ) → i < length l → take i l ++ slice_index l i ∷ [] ≡ take (suc i) l
take_item [] i h = absurd (omega arith)
take_item (x ∷ l) zero h = refl
take_item (x ∷ l) (suc i) h = λ k. x ∷ take_item l i (omega arith) k

pub take_twice : (l : List ℕ) (i : ℕ) → take i (take i l) ≡ take i l
take_twice l zero = refl
take_twice [] (suc i) = refl
take_twice (x ∷ l) (suc i) = λ k. x ∷ take_twice l i k

pub take_length : (l : List ℕ) (i : ℕ) → i ≤ length l → length (take i l) ≡ i
take_length l zero h = refl
take_length [] (suc i) h = absurd (omega arith)
take_length (x ∷ l) (suc i) h = ap suc (take_length l i (omega arith))

pub take_past : (l : List ℕ) (n : ℕ) → length l ≤ n → take n l ≡ l
take_past [] zero h = refl
take_past [] (suc n) h = refl
take_past (x ∷ l) zero h = absurd (omega arith)
take_past (x ∷ l) (suc n) h = λ k. x ∷ take_past l n (omega arith) k

pub won : (v w : View) (asks : List Ask) (place n found : ℕ) → w ≡ stood_as (found == 0) v asks place n found → found ≡ 0 → w ≡ stood v asks place n
won v w asks place n found is e = is ∙ ap (λ b. stood_as b v asks place n found) (eq-eqb found 0 e)

pub lost : (v w : View) (asks : List Ask) (place n found : ℕ) → w ≡ stood_as (found == 0) v asks place n found → found ≢ 0 → w ≡ seen v asks place found
lost v w asks place n found is e = is ∙ ap (λ b. stood_as b v asks place n found) (ne_eqb found 0 e)

-- what stands after a won step
pub stands_whole : (v w : View) (asks : List Ask) (p n : ℕ) (c : List ℕ) → w ≡ stood v asks (intern_at p) n → v.draft ≡ c → length c ≡ v.setting.width → p < 2 * v.setting.states → n < v.setting.states → OneContent w → HoldsContent w c n
stands_whole v w asks p n c is draft len lt below one =
    let spot : ℕ × ℕ = (intern_at p, n + 1) in
    let here : HeldNumber (stood v asks (intern_at p) n) n = inl (p, lt, in_back spot v.places (spot ∷ []) (in_here spot [])) in
    let all : HeldWhole (stood v asks (intern_at p) n) n c = (
      len,
      λ i h. in_back (n, i, slice_index c i) v.contents (entries n 0 v.draft)
          (subst (λ (d : List ℕ). In (n, i, slice_index c i) (entries n 0 d)) (sym draft) (entry_in n 0 i c i (omega arith) (omega arith))),
    ) in
    let whole : HeldWhole w n c = subst (λ (y : View). HeldWhole y n c) (sym is) all in
    record {
      below = subst (λ (y : View). n < y.setting.states) (sym is) below;
      number = subst (λ (y : View). HeldNumber y n) (sym is) here;
      whole = whole;
      content_is = content_is w n one c whole;
    }

module _ (asks : List Ask) (v w y : View) (c : List ℕ) (p found n : ℕ) (is : w ≡ seen v asks (intern_at p) found) (after : Grown asks w y) (ne : found ≢ 0) (up : found ≡ n + 1) (unlike : Unlike y n c)
    (told : NotAll v (intern_at p) found) (some_state : 1 ≤ v.setting.states) (wk : WalkedStates v c p) where
  abbrev count : ℕ
  count = 2 * v.setting.states

  abbrev home : ℕ
  home = content_home v.setting c

  pub step_more : Grown asks v y
  step_more = grown_then asks v w y (grown_seen asks v w (intern_at p) found is) after

  pub step_goes : wk.0 + 1 < 2 * v.setting.states
  step_goes = dite (ℕ_discrete (wk.0 + 1) count)
      (λ e. absurd (never_all v c count home p wk.0 found refl some_state wk.2 ne wk.3 told e))
      (λ no. let a = wk.1 in omega arith)

  pub step_walked : (q : ℕ) → q ≡ walk count home (wk.0 + 1) → (k : WalkedStates y c q) × (k.0 ≡ wk.0 + 1)
  step_walked q e =
      let m = step_more in
      let there : In (intern_at p, n + 1) y.places = after.places (intern_at p, n + 1) (subst (λ k. In (intern_at p, k) w.places) up (seen_there v w asks (intern_at p) found is ne)) in
      walked_from y c count home q (wk.0 + 1) (ap (λ (s : Setting). 2 * s.states) (sym m.setting)) (ap (λ (s : Setting). content_home s c) (sym m.setting)) step_goes e
      (others_on asks v y m c count home p wk.0 n wk.2 wk.3 there unlike)

  pub step_around : p + 1 ≡ count → (k : WalkedStates y c 0) × (k.0 ≡ wk.0 + 1)
  step_around e = step_walked 0 (sym (walk_around count home wk.0 (let a = wk.2 in omega arith)))

  pub step_on : p + 1 < count → (k : WalkedStates y c (p + 1)) × (k.0 ≡ wk.0 + 1)
  step_on e = step_walked (p + 1) (ap (λ k. k + 1) wk.2 ∙ sym (walk_next count home wk.0 (let a = wk.2 in omega arith)))
