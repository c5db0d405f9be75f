-- What passes on from one view of a pass to a later one.
use Rattle.std.proofs.Common.{◌≡◌, ℕ, ◌<◌, Bool, true, Option, Some, None, List, [], ◌∷◌, refl, sym, ap, subst, ◌∙◌, inl, inr, arith}
use Rattle.sel_items.specs.declared.items.Items.{Items}
use Rattle.sel_items.specs.declared.label.Label.{Label}
use Rattle.std.specs.Prelude.{slice_get}
use Rattle.sel_items.specs.declared.label.Label.TheVariants.{Numbered, Plain}
use Rattle.sel_items.specs.Labels.{KidsAre}
use Rattle.sel_law.specs.declared.Setting.{Setting}
use Rattle.sel_law.specs.declared.Ask.{Ask}
use Rattle.sel_law.specs.declared.View.{View}
use Rattle.sel_rows.specs.Grown.{Grown}
use Rattle.sel_rows.specs.Meanings.{Means}
use Rattle.sel_rows.specs.SeenKey.{IsSeen}
use Rattle.sel_rows.specs.FoundState.{HoldsContent, IsMissed}
use Rattle.sel_rows.specs.Answers.{IsLeftPlain}
use Rattle.sel_items.specs.Follows.{Follows}
use Rattle.sel_law.specs.Words.{node_key, IsMadeOf}
use Rattle.sel_rows.specs.declared.found.Seen.{Seen}
use Rattle.sel_rows.specs.declared.found.Seen.TheVariants.{Number, Absent, Full}
use Rattle.sel_rows.proofs.Growth.{number_grown, whole_grown, walked_row_grown}
use Rattle.sel_rows.proofs.Contents.{is_whole, content_stays, holds_stays}
use Rattle.sel_rows.proofs.KidSets.{kid_meant}

pub seen_grown : (asks : List Ask) (v w : View) → Grown asks v w → (x : ℕ) (a : Ask) (before after : Bool) → (before ≡ true → after ≡ true) → (s : Seen) → ((n : ℕ) → s ≡ Number n → ⊥) → IsSeen v x a before s → IsSeen w x a after s
seen_grown asks v w g x a before after m (Number n) missed h = absurd (missed n refl)
seen_grown asks v w g x a before after m (Absent q) missed h = (subst (λ (s : Setting). q < s.rows) (sym g.setting) h.0, (walked_row_grown asks v w g x q h.1).0)
seen_grown asks v w g x a before after m Full missed h = m h

pub holds_content_grown : (asks : List Ask) (v w : View) → Grown asks v w → (c : List ℕ) (n : ℕ) → HoldsContent v c n → HoldsContent w c n
holds_content_grown asks v w g c n h = record {
  below = subst (λ (s : Setting). n < s.states) (sym g.setting) h.below;
  number = number_grown asks v w g n h.number;
  whole = whole_grown asks v w g n c h.whole;
  content_is = content_stays asks v w g n (is_whole v n c h.whole) ∙ h.content_is;
}

module _ (m k : Label → Items → Type 0) (f : (l : Label) (i : Items) → m l i → k l i) where
  pub kids_keep : (a b : Option Label) (is : List Items) → KidsAre m a b is → KidsAre k a b is
  kids_keep None None [] h = h
  kids_keep None None (i ∷ is) h = h
  kids_keep None (Some b) is h = absurd h
  kids_keep (Some a) None [] h = h
  kids_keep (Some a) None (i ∷ []) h = f a i h
  kids_keep (Some a) None (i ∷ j ∷ is) h = h
  kids_keep (Some a) (Some b) [] h = h
  kids_keep (Some a) (Some b) (i ∷ []) h = h
  kids_keep (Some a) (Some b) (i ∷ j ∷ []) h = (f a i h.0, f b j h.1)
  kids_keep (Some a) (Some b) (i ∷ j ∷ l ∷ is) h = h

-- kids mean one list of item sets
pub kids_one : (v : View) (plain : List Items) (a b : Option Label) (is js : List Items) → KidsAre (Means v plain) a b is → KidsAre (Means v plain) a b js → is ≡ js
kids_one v plain a b is js h k = sym (kid_meant v plain a b is h) ∙ kid_meant v plain a b js k

pub means_keep : (asks : List Ask) (v w : View) → Grown asks v w → (p q : List Items) → q ≡ p → (l : Label) (i : Items) → Means v p l i → Means w q l i
means_keep asks v w g p q e (Numbered n) i h = holds_stays asks v w g n i h
means_keep asks v w g p q e (Plain n) i h = ap (λ k. slice_get k n) e ∙ h

pub missed_before : (asks : List Ask) (u v w : View) → Grown asks u v → (c : List ℕ) → IsMissed v c w → IsMissed u c w
missed_before asks u v w g c (none, inl e) = (none, inl (ap (λ (s : Setting). s.states) (sym g.setting) ∙ e))
missed_before asks u v w g c (none, inr m) = (none, inr (m.0, m.1, m.2, m.3, (let s = g.steps in let t = m.4 in omega arith), m.5))

pub left_before : (asks : List Ask) (u v w : View) → Grown asks u v → (s t : Option ℕ) → t ≡ s → (z y : Setting) → y ≡ z → (k : Ask) (used_up : Bool) → IsLeftPlain v t y k used_up w → IsLeftPlain u s z k used_up w
left_before asks u v w g s t e z y f k used_up (inl h) = inl (h.0, subst (λ (x : Setting). Follows x.normal.value (node_key k) h.0) f h.1, h.2)
left_before asks u v w g s t e z y f k used_up (inr h) = inr (h.0, sym e ∙ h.1, (h.2.0, subst (λ (x : Setting). IsMadeOf x k h.2.0) f h.2.1, missed_before asks u v w g h.2.0 h.2.2))
