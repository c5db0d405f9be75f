-- A node has a key by numbers exactly where each kid that there is has a numbered label.
use Rattle.std.proofs.Common.{◌≡◌, ℕ, Option, Some, None}
use Rattle.sel_items.specs.declared.label.Label.{Label}
use Rattle.sel_items.specs.declared.label.Label.TheVariants.{Numbered, Plain}
use Rattle.sel_items.specs.Labels.{AreNumbered}
use Rattle.sel_auto.specs.declared.key.StateKey.{StateKey}
use Rattle.sel_auto.specs.Keys.{numbered_key}

pub numbered_by_key : (operator class : ℕ) (a b : Option Label) (key : StateKey) → numbered_key operator class a b ≡ Some key → AreNumbered a b
numbered_by_key op class None None key e = (tt, tt)
numbered_by_key op class None (Some (Numbered m)) key e = (tt, tt)
numbered_by_key op class None (Some (Plain q)) key e = absurd (cc)
numbered_by_key op class (Some (Numbered n)) None key e = (tt, tt)
numbered_by_key op class (Some (Numbered n)) (Some (Numbered m)) key e = (tt, tt)
numbered_by_key op class (Some (Numbered n)) (Some (Plain q)) key e = absurd (cc)
numbered_by_key op class (Some (Plain p)) b key e = absurd (cc)

pub plain_without_key : (operator class : ℕ) (a b : Option Label) → numbered_key operator class a b ≡ None → AreNumbered a b → ⊥
plain_without_key op class None None e h = cc
plain_without_key op class None (Some (Numbered m)) e h = cc
plain_without_key op class None (Some (Plain q)) e h = h.1
plain_without_key op class (Some (Numbered n)) None e h = cc
plain_without_key op class (Some (Numbered n)) (Some (Numbered m)) e h = cc
plain_without_key op class (Some (Numbered n)) (Some (Plain q)) e h = h.1
plain_without_key op class (Some (Plain p)) b e h = h.0
