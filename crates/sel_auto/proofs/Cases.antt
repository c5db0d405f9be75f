-- The five ways in which a node gets its label, one by one.
use Rattle.std.proofs.Common.{◌≡◌, ℕ, ◌<◌, ◌⊎◌, inl, inr, Option, Some, None, refl}
use Rattle.sel_items.specs.declared.items.Items.{Items}
use Rattle.sel_items.specs.declared.label.Label.{Label}
use Rattle.sel_auto.specs.declared.key.StateKey.{StateKey}
use Rattle.sel_auto.specs.Keys.{numbered_key}
use Rattle.sel_auto.specs.Tables.{Tables, IsKept, with_evaluation}
use Rattle.sel_auto.specs.Answers.{IsFound, IsAdded, IsUnnumbered, IsHit, IsMissed, IsOverPlain, IsAnswerBy, IsAnswer}
use Rattle.sel_auto.specs.TableChanges.{FollowsKids}

module _ (t new : Tables) (before after operator class : ℕ) (a b : Option Label) (l : Label) where
  pub record Missed (key : StateKey) (items : Items) : Type 0 where
    pub is_key : numbered_key operator class a b ≡ Some key
    pub missing : (n : ℕ) → IsKept t key n → ⊥
    pub follows : FollowsKids t operator class a b items
    pub step : before < after

  pub data Way : Type 0 where
    over_plain : numbered_key operator class a b ≡ None → IsOverPlain t new operator class a b l → before < after → Way
    hit : (key : StateKey) → numbered_key operator class a b ≡ Some key → IsHit t new key l → after ≡ before → Way
    found : (key : StateKey) (items : Items) → Missed key items → IsFound (with_evaluation t) new key items l → Way
    added : (key : StateKey) (items : Items) → Missed key items → IsAdded (with_evaluation t) new key items l → Way
    unnumbered : (key : StateKey) (items : Items) → Missed key items → IsUnnumbered (with_evaluation t) new items l → Way

  pub way : IsAnswer t new before after operator class a b l → Way
  way h = by (numbered_key operator class a b) refl h
    where
      missed : (key : StateKey) → numbered_key operator class a b ≡ Some key → (m : IsMissed t new key operator class a b l) → before < after
          → IsFound (with_evaluation t) new key m.items l ⊎ (IsAdded (with_evaluation t) new key m.items l ⊎ IsUnnumbered (with_evaluation t) new m.items l) → Way
      missed key e m s (inl f) = found key m.items (record { is_key = e; missing = m.missing; follows = m.follows; step = s }) f
      missed key e m s (inr (inl f)) = added key m.items (record { is_key = e; missing = m.missing; follows = m.follows; step = s }) f
      missed key e m s (inr (inr f)) = unnumbered key m.items (record { is_key = e; missing = m.missing; follows = m.follows; step = s }) f

      by : (o : Option StateKey) → numbered_key operator class a b ≡ o → IsAnswerBy o t new before after operator class a b l → Way
      by None e k = over_plain e k.0 k.1
      by (Some key) e (inl k) = hit key e k.0 k.1
      by (Some key) e (inr k) = missed key e k.0 k.1 (k.0).answer
