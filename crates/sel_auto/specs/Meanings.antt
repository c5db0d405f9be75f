-- A label means one item set at most.
use Rattle.std.specs.Prelude.{◌≡◌, Option, Some, None}
use Rattle.std.proofs.Common.{sym, ap, ◌∙◌}
use Rattle.sel_items.specs.declared.items.Items.{Items}
use Rattle.sel_items.specs.declared.label.Label.{Label}
use Rattle.sel_auto.specs.Tables.{Tables, Means}

or_other : Items → Option Items → Items
or_other i None = i
or_other i (Some j) = j

pub one_meaning : (t : Tables) (l : Label) (i j : Items) → Means t l i → Means t l j → i ≡ j
unfolding or_other
one_meaning t l i j h k = ap (or_other i) (sym h ∙ k)
