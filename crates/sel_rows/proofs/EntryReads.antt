-- An entry of a held item set is read.
use Rattle.std.proofs.Common.{◌≡◌, ℕ, zero, suc, ◌+◌, ◌*◌, ◌<◌, List, [], ◌∷◌, length, map, refl, sym, ap, subst, ◌∙◌, ⊎_elim, inl, inr, arith}
use Rattle.std.specs.Prelude.{slice_index}
use mathlib.Core.Logic.{dite}
use native.Mathlib.Decide.{ℕ_discrete}
use Rattle.sel_items.specs.declared.items.Items.{Items}
use Rattle.sel_items.specs.Entries.{item_at}
use Rattle.sel_items.specs.Unpacking.{unpacked}
use Rattle.sel_law.specs.declared.Setting.{Setting}
use Rattle.sel_law.specs.declared.Ask.{Ask}
use Rattle.sel_law.specs.declared.View.{View}
use Rattle.sel_items.specs.Follows.{Follows}
use Rattle.sel_law.specs.Words.{In, intern_at, items_of, ArePacked}
use Rattle.sel_law.specs.Kinds.{HeldNumber, OneContent}
use Rattle.sel_law.proofs.Base.{in_split, in_one}
use Rattle.sel_rows.specs.Held.{held_content, IsWhole, IsRead}
use Rattle.sel_rows.specs.Grown.{Grown}
use Rattle.sel_rows.specs.Meanings.{HoldsItems, IsHeld}
use Rattle.sel_rows.proofs.Contents.{entry_is, content_at_is, content_stays, from_length}

item_in : (ws : List ℕ) (k : ℕ) → k < length ws → item_at (map unpacked ws) k ≡ unpacked (slice_index ws k)
item_in [] k h = absurd (omega arith)
item_in (w ∷ ws) zero h = refl
item_in (w ∷ ws) (suc k) h = item_in ws k (omega arith)

module _ (asks : List Ask) (v w : View) (g : Grown asks v w) (n i word : ℕ) (read : IsRead v asks n i word w) (one : OneContent w) (there : In (n, i, word) w.contents) where
  -- the word says the entry of the item set
  pub entry_read : (items : Items) → HoldsItems v n items → i < v.setting.width → unpacked word ≡ item_at items.entries i
  entry_read items h lt =
      let c = held_content v n in
      let long : length c ≡ v.setting.width = from_length v.contents n 0 v.setting.width in
      let ltw : i < w.setting.width = subst (λ (s : Setting). i < s.width) (sym g.setting) lt in
      let word_is : word ≡ slice_index c i = sym (content_at_is w n i ltw ∙ entry_is w n one i word there) ∙ ap (λ l. slice_index l i) (content_stays asks v w g n h.whole) in
      ap unpacked word_is ∙ (sym (item_in c i (omega arith)) ∙ ap (λ (y : Items). item_at y.entries i) (sym h.items))

  number_back : (m : ℕ) → HeldNumber w m → HeldNumber v m
  number_back m (inl (p, lt, h)) = inl (p, subst (λ (s : Setting). p < 2 * s.states) read.setting lt, subst (In (intern_at p, m + 1)) read.places h)
  number_back m (inr (a, h)) = inr (a, subst (In (a, m)) read.known h)

  whole_back : IsWhole v n → (m : ℕ) → IsWhole w m → IsWhole v m
  whole_back own m h k lt = dite (ℕ_discrete m n)
      (λ same. subst (λ j. (u : ℕ) × In (j, k, u) v.contents) (sym same) (own k lt))
      (λ ne.
      let e = h k (subst (λ (s : Setting). k < s.width) (sym read.setting) lt) in
      let spot : ℕ × ℕ × ℕ = (m, k, e.0) in
      let last : ℕ × ℕ × ℕ = (n, i, word) in
      ⊎_elim (λ (t : In spot v.contents). (e.0, t))
      (λ (t : In spot (last ∷ [])). absurd (ne (ap (λ (p : ℕ × ℕ × ℕ). p.0) (sym (in_one spot last t)))))
      (in_split spot v.contents (last ∷ []) (subst (In spot) read.contents e.1)))

  -- no item set is held but those that were
  pub held_back : w.asked ≡ v.asked → IsWhole v n → (items : Items) → IsHeld w items → IsHeld v items
  held_back same_asked own items h =
      let m = h.0.0 in
      let k = h.0.1 in
      let whole = whole_back own m k.whole in
      let a = h.1.1 in (
        (
          m,
          record {
            below = subst (λ (s : Setting). m < s.states) read.setting k.below;
            number = number_back m k.number;
            whole = whole;
            packed = subst ArePacked (content_stays asks v w g m whole) k.packed;
            items = k.items ∙ ap items_of (content_stays asks v w g m whole);
            fits = k.fits;
          },
        ),
        (h.1.0, (a.0, subst (In a.0) same_asked a.1, a.2), subst (λ (s : Setting). Follows s.normal.value h.1.0 items) read.setting h.1.2),
      )
