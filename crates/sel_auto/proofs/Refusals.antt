-- What stands where memory was refused.
use Rattle.std.proofs.Common.{◌≡◌, ℕ, ◌<◌, ◌⊎◌, inl, inr, Option, Some, Result, Ok, Err, OnErr, length, slice_get, sym, ap, subst, ◌∙◌}
use Rattle.sel_items.specs.declared.items.Items.{Items}
use Rattle.sel_items.specs.declared.label.Label.{Label}
use Rattle.sel_items.specs.declared.label.Label.TheVariants.{Numbered, Plain}
use Rattle.sel_items.specs.Labels.{IsPlain, AreNumbered}
use Rattle.sel_auto.specs.declared.key.StateKey.{StateKey}
use Rattle.sel_auto.specs.Sets.{IsAmong}
use Rattle.sel_auto.specs.Keys.{numbered_key}
use Rattle.sel_auto.specs.Tables.{Tables, Means, IsKept, one_more, with_evaluation, with_state}
use Rattle.sel_auto.specs.TableChanges.{FollowsKids, IsRefused}
use Rattle.sel_auto.proofs.Growth.{some_same}
use Rattle.sel_auto.proofs.Numbering.{numbered_by_key}

pub on_err : {A E P : Type 0} (r : Result A E) → P → OnErr r P
on_err (Ok x) h = tt
on_err (Err e) h = h

module _ (t new : Tables) (operator class : ℕ) (a b : Option Label) (key : StateKey) (is_key : numbered_key operator class a b ≡ Some key) (missing : (n : ℕ) → IsKept t key n → ⊥) where
  missing_any : (k : StateKey) → numbered_key operator class a b ≡ Some k → (n : ℕ) → IsKept t k n → ⊥
  missing_any k e = subst (λ (q : StateKey). (n : ℕ) → IsKept t q n → ⊥) (some_same key k (sym is_key ∙ e)) missing

  pub refused_evaluated : new ≡ with_evaluation t → IsRefused t new operator class a b
  refused_evaluated h = record { missing = λ n own. missing_any own.0 own.1 n own.2; tables = inl h }

  pub refused_added : (i : Items) → FollowsKids t operator class a b i → (IsAmong t.states i → ⊥) → length t.states < t.most_states → new ≡ with_state (with_evaluation t) i → IsRefused t new operator class a b
  refused_added i follows fresh room h = record { missing = λ n own. missing_any own.0 own.1 n own.2; tables = inr (i, follows, numbered_by_key operator class a b key is_key, fresh, room, h) }

module _ (t new : Tables) (operator class : ℕ) (a b : Option Label) (refused : IsRefused t new operator class a b) where
  -- each plain label means what it did
  pub meant_refused : (m : Label) (i : Items) → IsPlain m → Means new m i → Means t m i
  meant_refused m i p h = by m p h refused.tables
    where
      at : (s : Tables) → s.plain ≡ t.plain → (k : Label) → IsPlain k → Means s k i → Means t k i
      at s e (Numbered n) p h = absurd p
      at s e (Plain q) p h = subst (λ xs. slice_get xs q ≡ Some i) e h

      by : (k : Label) → IsPlain k → Means new k i → (new ≡ with_evaluation t) ⊎ ((j : Items) × FollowsKids t operator class a b j × AreNumbered a b × (IsAmong t.states j → ⊥) × (length t.states < t.most_states) × (new ≡ with_state (with_evaluation t) j)) → Means t k i
      by k p h (inl e) = at new (ap (λ (s : Tables). s.plain) e) k p h
      by k p h (inr e) = at new (ap (λ (s : Tables). s.plain) e.5) k p h

  pub evaluation_refused : new.evaluated ≡ one_more t.evaluated
  evaluation_refused = by refused.tables
    where
      by : (new ≡ with_evaluation t) ⊎ ((j : Items) × FollowsKids t operator class a b j × AreNumbered a b × (IsAmong t.states j → ⊥) × (length t.states < t.most_states) × (new ≡ with_state (with_evaluation t) j)) → new.evaluated ≡ one_more t.evaluated
      by (inl e) = ap (λ (s : Tables). s.evaluated) e
      by (inr e) = ap (λ (s : Tables). s.evaluated) e.5
