-- Keys whose numbers are known, and what a walk of a marked pass looks at.
use Rattle.std.proofs.Common.{◌≡◌, ℕ, ◌<◌, ◌≤◌, Bool, true, false, min, List, Result, refl, sym, ap, subst, ◌∙◌, ⊎_elim, inl, inr, arith}
use Rattle.std.specs.Prelude.{IfOk}
use Rattle.sel_normal.specs.NormalForms.{NormalForm}
use Rattle.sel_items.specs.declared.items.Items.{Items}
use Rattle.sel_items.specs.Follows.{NodeKey, Follows}
use Rattle.sel_items.specs.Laws.{FollowsIsOne}
use Rattle.sel_items.specs.Words.{FitsWords}
use Rattle.sel_law.specs.declared.Setting.{Setting}
use Rattle.sel_law.specs.declared.Ask.{Ask}
use Rattle.sel_law.specs.declared.View.{View}
use Rattle.sel_law.specs.Words.{items_of, node_key, ArePacked, IsMadeOf, key_home, walk}
use Rattle.sel_law.specs.Kinds.{OnlyMadeOf, HasContent, OtherKey}
use Rattle.sel_law.proofs.Packed.{items_same}
use Rattle.sel_rows.specs.declared.found.Seen.{Seen}
use Rattle.sel_rows.specs.declared.found.Seen.TheVariants.{Number, Absent, Full}
use Rattle.sel_rows.specs.FoundRow.{HoldsOthers, FoundRow}
use Rattle.sel_rows.specs.Grown.{Grown}
use Rattle.sel_rows.specs.Meanings.{KnowsKey}
use Rattle.sel_rows.specs.SeenKey.{walk_length, WalksRow, FindsNoOther, MarksRow}
use Rattle.sel_rows.proofs.Growth.{number_grown, whole_grown, other_key_grown}

true_false : true ≡ false → ⊥
true_false e = cc

-- what follows from a key is one item set, which its content says
module _ (one : FollowsIsOne) (normal : NormalForm) (z : Setting) (form : z.normal.value ≡ normal) (k : Ask) (node : NodeKey) (same : node_key k ≡ node) (i : Items) (follows : Follows normal node i) where
  made_is : (d : List ℕ) → IsMadeOf z k d → items_of d ≡ i
  made_is d m = one normal node (items_of d) i (subst (λ (y : NodeKey). Follows normal y (items_of d)) same (subst (λ (f : NormalForm). Follows f (node_key k) (items_of d)) form m.follows)) follows

  pub made_fits : (d : List ℕ) → IsMadeOf z k d → FitsWords i
  made_fits d m = subst FitsWords (made_is d m) m.fits

  pub only_made : (c : List ℕ) → ArePacked c → items_of c ≡ i → OnlyMadeOf z k c
  only_made c packed says d m = items_same d c m.words packed (made_is d m ∙ sym says)

module _ (asks : List Ask) (v w : View) (g : Grown asks v w) where
  pub has_grown : (n : ℕ) (c : List ℕ) → HasContent v n c → HasContent w n c
  has_grown n c (inl h) = inl (number_grown asks v w g n h.0, whole_grown asks v w g n c h.1)
  has_grown n c (inr h) = inr (h.0, g.known (h.0, n) h.1, subst (λ (s : Setting). OnlyMadeOf s h.0 c) (sym g.setting) h.2)

  pub knows_grown : (a : Ask) (n : ℕ) → KnowsKey v a n → KnowsKey w a n
  knows_grown a n h = record {
    known = g.known (a, n) h.known;
    some_rows = subst (λ (s : Setting). 1 ≤ s.rows) (sym g.setting) h.some_rows;
    packed = h.packed;
    below = subst (λ (s : Setting). n < s.states) (sym g.setting) h.below;
    made = ((h.made).0, subst (λ (s : Setting). IsMadeOf s a (h.made).0) (sym g.setting) (h.made).1);
  }

  pub others_grown : (x most : ℕ) → HoldsOthers v x most → HoldsOthers w x most
  others_grown x most h j lt = subst (λ (s : Setting). OtherKey w x (walk s.rows (key_home s x) j)) (sym g.setting) (other_key_grown asks v w g x (walk v.setting.rows (key_home v.setting x) j) (h j lt))

-- a walk that found no number, of a key whose number is known, found as many words with other keys as it looks at
pub is_full : (s : Seen) (n : ℕ) → ((m : ℕ) → s ≡ Number m → ⊥) → FindsNoOther n s → s ≡ Full
is_full (Number m) n not f = absurd (not m refl)
is_full (Absent q) n not f = absurd f
is_full Full n not f = refl

pub looked_others : (u v : View) (x : ℕ) (a : Ask) (s : Seen) (b b' : Bool) → b ≡ true → 1 ≤ v.setting.rows → ((m : ℕ) → s ≡ Number m → ⊥) → WalksRow u v x a b s → MarksRow b b' s → HoldsOthers v x (min v.setting.rows 64)
looked_others u v x a (Number m) b b' e some not walked marks = absurd (not m refl)
looked_others u v x a (Absent q) b b' e some not walked marks = absurd (true_false (sym e ∙ marks.0))
looked_others u v x a Full b b' e some not walked marks = ⊎_elim
    (λ (h : (v.setting.rows ≡ 0) × (Full ≡ Full) × (v ≡ u)). absurd (let none = h.0 in omega arith))
    (λ (h : (1 ≤ v.setting.rows) × FoundRow u v x a (walk_length b v.setting.rows) Full). subst (λ c. HoldsOthers v x (walk_length c v.setting.rows)) e h.1.1)
    walked

pub walked_by : (u v : View) (x : ℕ) (a : Ask) (b : Bool) (rows most : ℕ) (s : Seen) → most ≡ walk_length b rows → rows ≡ v.setting.rows → 1 ≤ rows → FoundRow u v x a most s → WalksRow u v x a b s
walked_by u v x a b rows most s e r some f = inr (subst (λ k. 1 ≤ k) r some, subst (λ k. FoundRow u v x a k s) (e ∙ ap (walk_length b) r) f)

pub walk_fits : (b : Bool) (r : ℕ) → 1 ≤ r → (1 ≤ walk_length b r) × (walk_length b r ≤ r)
walk_fits true r h = (omega arith, omega arith)
walk_fits false r h = (h, omega arith)

pub if_ok_none : {A E : Type 0} (r : Result A E) (P : A → Type 0) → ⊥ → IfOk r P
if_ok_none r P h = absurd h
