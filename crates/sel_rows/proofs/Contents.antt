-- The contents that a view holds: what is held first of each entry, and that it stays.
use Rattle.std.proofs.Common.{◌≡◌, ℕ, zero, suc, ◌+◌, ◌<◌, Bool, true, false, cond, ◌==◌, ◌&&◌, List, [], ◌∷◌, ◌++◌, length, refl, sym, ap, ◌∙◌, subst, arith, eq-eqb}
use Rattle.std.specs.Prelude.{slice_index}
use Rattle.std.proofs.lemmas.Bool.Decides.{nat_tests}
use mathlib.Core.Option.{some, some-injective}
use Rattle.sel_items.specs.declared.items.Items.{Items}
use Rattle.sel_law.specs.declared.Setting.{Setting}
use Rattle.sel_law.specs.declared.Ask.{Ask}
use Rattle.sel_law.specs.declared.View.{View}
use Rattle.sel_items.specs.Follows.{Follows}
use Rattle.sel_law.specs.Words.{In, items_of, ArePacked}
use Rattle.sel_law.specs.Kinds.{HeldWhole, OneContent}
use Rattle.sel_law.proofs.Base.{in_nil}
use Rattle.sel_rows.specs.Held.{held_entry, held_from, held_content, IsWhole}
use Rattle.sel_rows.specs.Grown.{Grown}
use Rattle.sel_rows.specs.Meanings.{HoldsItems, IsHeld}
use Rattle.sel_rows.proofs.Growth.{content_grown, number_grown}

eq_of : (x y : ℕ) → (x == y) ≡ true → x ≡ y
eq_of x y e = grind (arith, nat_tests)

true_false : true ≡ false → ⊥
true_false e = cc

both_true : (a b : Bool) → (a && b) ≡ true → (a ≡ true) × (b ≡ true)
both_true true b e = (refl, e)
both_true false b e = absurd (true_false (sym e))

test_true : (e : ℕ × ℕ × ℕ) (n i w : ℕ) → e ≡ (n, i, w) → ((e.0 == n) && (e.1 == i)) ≡ true
test_true e n i w s = λ k. eq-eqb e.0 n (ap (λ (t : ℕ × ℕ × ℕ). t.0) s) k && eq-eqb e.1 i (ap (λ (t : ℕ × ℕ × ℕ). t.1) s) k

pub entry_here : (es : List (ℕ × ℕ × ℕ)) (n i w : ℕ) → In (n, i, w) es → In (n, i, held_entry es n i) es
entry_here [] n i w h = absurd (in_nil (n, i, w) h)
entry_here (e ∷ es) n i w h = go (λ k. entry_here es n i w k) ((e.0 == n) && (e.1 == i)) refl h
  where
    go : (In (n, i, w) es → In (n, i, held_entry es n i) es) → (b : Bool) → ((e.0 == n) && (e.1 == i)) ≡ b → In (n, i, w) (e ∷ es) → In (n, i, cond b e.2 (held_entry es n i)) (e ∷ es)
    go more true t k = let s = both_true (e.0 == n) (e.1 == i) t in (0, ap some (λ j. (eq_of e.0 n s.0 j, eq_of e.1 i s.1 j, e.2)))
    go more false t (zero, s) = absurd (true_false (sym (test_true e n i w (some-injective e (n, i, w) s)) ∙ t))
    go more false t (suc k, s) = let r = more (k, s) in (suc r.0, r.1)

pub entry_front : (es more : List (ℕ × ℕ × ℕ)) (n i w : ℕ) → In (n, i, w) es → held_entry (es ++ more) n i ≡ held_entry es n i
entry_front [] more n i w h = absurd (in_nil (n, i, w) h)
entry_front (e ∷ es) more n i w h = go (λ k. entry_front es more n i w k) ((e.0 == n) && (e.1 == i)) refl h
  where
    go : (In (n, i, w) es → held_entry (es ++ more) n i ≡ held_entry es n i) → (b : Bool) → ((e.0 == n) && (e.1 == i)) ≡ b → In (n, i, w) (e ∷ es) → cond b e.2 (held_entry (es ++ more) n i) ≡ cond b e.2 (held_entry es n i)
    go rest true t k = refl
    go rest false t (zero, s) = absurd (true_false (sym (test_true e n i w (some-injective e (n, i, w) s)) ∙ t))
    go rest false t (suc k, s) = rest (k, s)

pub from_length : (es : List (ℕ × ℕ × ℕ)) (n b k : ℕ) → length (held_from es n b k) ≡ k
from_length es n b zero = refl
from_length es n b (suc k) = omega (arith, from_length es n (b + 1) k)

pub from_at : (es : List (ℕ × ℕ × ℕ)) (n b k j : ℕ) → j < k → slice_index (held_from es n b k) j ≡ held_entry es n (b + j)
from_at es n b zero j lt = absurd (omega arith)
from_at es n b (suc k) zero lt = ap (held_entry es n) (omega arith)
from_at es n b (suc k) (suc j) lt = from_at es n (b + 1) k j (omega arith) ∙ ap (held_entry es n) (omega arith)

pub from_is : (es : List (ℕ × ℕ × ℕ)) (n b : ℕ) (c : List ℕ) (k : ℕ) → length c ≡ k → ((j : ℕ) → j < k → held_entry es n (b + j) ≡ slice_index c j) → held_from es n b k ≡ c
from_is es n b [] zero e h = refl
from_is es n b [] (suc k) e h = absurd (omega arith)
from_is es n b (x ∷ c) zero e h = absurd (omega arith)
from_is es n b (x ∷ c) (suc k) e h =
    let a : held_entry es n b ≡ x = ap (held_entry es n) (omega arith) ∙ h 0 (omega arith) in
    let r = from_is es n (b + 1) c k (omega arith) (λ j lt. ap (held_entry es n) (omega arith) ∙ h (suc j) (omega arith)) in
    λ q. a q ∷ r q

module _ (v : View) (n : ℕ) where
  pub is_whole : (c : List ℕ) → HeldWhole v n c → IsWhole v n
  is_whole c h i lt = (slice_index c i, h.1 i lt)

  pub whole_is : IsWhole v n → HeldWhole v n (held_content v n)
  whole_is h = (
    from_length v.contents n 0 v.setting.width,
    λ i lt.
        subst (λ w. In (n, i, w) v.contents) (ap (held_entry v.contents n) (omega arith) ∙ sym (from_at v.contents n 0 v.setting.width i lt)) (entry_here v.contents n i (h i lt).0 (h i lt).1),
  )

  -- what is held of one content is the content
  pub entry_is : OneContent v → (i w : ℕ) → In (n, i, w) v.contents → held_entry v.contents n i ≡ w
  entry_is one i w h = one n i (held_entry v.contents n i) w (entry_here v.contents n i w h) h

  pub content_is : OneContent v → (c : List ℕ) → HeldWhole v n c → held_content v n ≡ c
  content_is one c h = from_is v.contents n 0 c v.setting.width h.0 (λ j lt. ap (held_entry v.contents n) (omega arith) ∙ entry_is one j (slice_index c j) (h.1 j lt))

  pub content_at_is : (i : ℕ) → i < v.setting.width → slice_index (held_content v n) i ≡ held_entry v.contents n i
  content_at_is i lt = from_at v.contents n 0 v.setting.width i lt ∙ ap (held_entry v.contents n) (omega arith)

module _ (asks : List Ask) (v w : View) (g : Grown asks v w) (n : ℕ) where
  pub is_whole_grown : IsWhole v n → IsWhole w n
  is_whole_grown h i lt = let k = h i (subst (λ (y : Setting). i < y.width) g.setting lt) in (k.0, content_grown asks v w g (n, i, k.0) k.1)

  pub content_stays : IsWhole v n → held_content w n ≡ held_content v n
  content_stays h =
      from_is w.contents n 0 (held_content v n) w.setting.width (from_length v.contents n 0 v.setting.width ∙ ap (λ (y : Setting). y.width) (sym g.setting)) (λ j lt.
      let lv : j < v.setting.width = subst (λ (y : Setting). j < y.width) g.setting lt in
      let k = h j lv in
      ap (held_entry w.contents n) (omega arith)
      ∙ (ap (λ es. held_entry es n j) g.contents.1
      ∙ (entry_front v.contents g.contents.0 n j k.0 k.1
      ∙ sym (content_at_is v n j lv))))

  pub holds_stays : (i : Items) → HoldsItems v n i → HoldsItems w n i
  holds_stays i h = record {
    below = subst (λ (y : Setting). n < y.states) (sym g.setting) h.below;
    number = number_grown asks v w g n h.number;
    whole = is_whole_grown h.whole;
    packed = subst ArePacked (sym (content_stays h.whole)) h.packed;
    items = h.items ∙ ap items_of (sym (content_stays h.whole));
    fits = h.fits;
  }

pub held_stays : (asks : List Ask) (v w : View) → Grown asks v w → (i : Items) → IsHeld v i → IsHeld w i
held_stays asks v w g i h =
    let k = h.1.1 in
    ((h.0.0, holds_stays asks v w g h.0.0 i h.0.1), (h.1.0, (k.0, g.asked k.0 k.1, k.2), subst (λ (s : Setting). Follows s.normal.value h.1.0 i) (sym g.setting) h.1.2))
