-- When a label is plain, and the counts of evaluations.
use Rattle.std.proofs.Common.{◌≡◌, ℕ, Option, Result, Ok, Err, sym, subst, ◌∙◌, inl, inr}
use Rattle.std.specs.Prelude.{IfOk}
use Rattle.sel_normal.specs.NormalForms.{NormalForm}
use Rattle.sel_items.specs.declared.items.Items.{Items}
use Rattle.sel_items.specs.declared.label.Label.{Label}
use Rattle.sel_items.specs.declared.label.Label.TheVariants.{Numbered}
use Rattle.sel_items.specs.Follows.{NodeKey, Follows}
use Rattle.sel_items.specs.Labels.{AreNumbered}
use Rattle.sel_items.specs.Laws.{FollowsIsOne}
use Rattle.sel_items.specs.Words.{FitsWords}
use Rattle.sel_law.specs.declared.Setting.{Setting}
use Rattle.sel_law.specs.declared.Ask.{Ask}
use Rattle.sel_law.specs.Words.{items_of, node_key}
use Rattle.sel_law.specs.Kinds.{HeldWhole}
use Rattle.sel_law.proofs.Packed.{items_same}
use Rattle.sel_rows.specs.declared.pass.Pass.{Pass}
use Rattle.sel_rows.specs.Answers.{IsLeftPlain}
use Rattle.sel_rows.specs.Held.{held_content}
use Rattle.sel_rows.specs.Meanings.{Means}
use Rattle.sel_rows.specs.PlainLabels.{IsPlainFor}
use Rattle.sel_rows.specs.Told.{pass_view}
use Rattle.sel_rows.proofs.Contents.{whole_is}

module _ (one : FollowsIsOne) (old new : Pass) (normal : NormalForm) (z : Setting) (form : z.normal.value ≡ normal) (k : Ask) (node : NodeKey) (same : node_key k ≡ node) (a b : Option Label) (l : Label) (i : Items)
    (means : Means (pass_view new) new.plain.items l i) (follows : Follows normal node i) where
  moved : (j : Items) → Follows z.normal.value (node_key k) j → Follows normal node j
  moved j h = subst (λ (y : NodeKey). Follows normal y j) same (subst (λ (n : NormalForm). Follows n (node_key k) j) form h)

  pub plain_cause : IsLeftPlain (pass_view old) old.spare z k new.used_up (pass_view new) → IsPlainFor old new a b l
  plain_cause (inl h) = inr (i, means, inl (λ f. h.2 (subst FitsWords (one normal node i h.0 follows (moved h.0 h.1)) f)))
  plain_cause (inr h) = inr (
    i,
    means,
    inr record {
      used_up = h.0;
      no_spare = h.1;
      content = h.2.0;
      packed = (h.2.1).words;
      says = one normal node (items_of h.2.0) i (moved (items_of h.2.0) (h.2.1).follows) follows;
      missed = h.2.2;
    },
  )

pub not_plain_for : (old new : Pass) (a b : Option Label) (n : ℕ) → AreNumbered a b → IsPlainFor old new a b (Numbered n) → ⊥
not_plain_for old new a b n num (inl h) = h num
not_plain_for old new a b n num (inr (i, m, inl unfit)) = unfit m.fits
not_plain_for old new a b n num (inr (i, m, inr h)) =
    let w = pass_view new in
    let same : held_content w n ≡ h.content = items_same (held_content w n) h.content m.packed h.packed (sym m.items ∙ sym h.says) in
    (h.missed).0 n m.below m.number (subst (HeldWhole w n) same (whole_is w n m.whole))

pub if_ok_both : {A E : Type 0} (r : Result A E) (P Q S : A → Type 0) → ((x : A) → P x → Q x → S x) → IfOk r P → IfOk r Q → IfOk r S
if_ok_both (Ok x) P Q S f p q = f x p q
if_ok_both (Err e) P Q S f p q = p
