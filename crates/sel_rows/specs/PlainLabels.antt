-- When a pass gives a plain label, and what it knows after a numbered one.
use Rattle.std.specs.Prelude.{◌≡◌, ℕ, ◌⊎◌, ◌↔◌, Option, Some, None, Result, IfOk, OnErr, true, false, List}
use Rattle.sel_items.specs.declared.items.Items.{Items}
use Rattle.sel_items.specs.declared.label.Label.{Label}
use Rattle.sel_items.specs.declared.label.Label.TheVariants.{Numbered}
use Rattle.sel_items.specs.Automata.{IsOwnKey}
use Rattle.sel_items.specs.Follows.{NodeKey}
use Rattle.sel_items.specs.Labels.{AreNumbered, IsPlain}
use Rattle.sel_items.specs.Words.{FitsWords}
use Rattle.sel_law.specs.Words.{items_of, ArePacked}
use Rattle.sel_rows.specs.declared.pass.Pass.{Pass}
use Rattle.sel_rows.specs.Answers.{IsKnownHit}
use Rattle.sel_rows.specs.Counts.{CountsSteps}
use Rattle.sel_rows.specs.FoundState.{IsMissed}
use Rattle.sel_rows.specs.Held.{held_ask}
use Rattle.sel_rows.specs.Keys.{key_number}
use Rattle.sel_rows.specs.Meanings.{Means, IsKnownAs}
use Rattle.sel_rows.specs.SeenKey.{LooksMarked}
use Rattle.sel_rows.specs.Told.{pass_view, spare_of, evaluated_of, told_of_pass}

-- The pass is used up, it had no spare number when the call began, and the walk of the intern row in the call found no state with the item set.
pub record HasNoState (old new : Pass) (i : Items) : Type 0 where
  pub used_up : new.used_up ≡ true
  pub no_spare : old.spare ≡ None
  pub content : List ℕ
  pub packed : ArePacked content
  pub says : items_of content ≡ i
  pub missed : IsMissed (pass_view old) content (pass_view new)

-- Why a label is plain: a kid's is, or its item set doesn't fit words, or it has no state and can have none.
abbrev pub IsPlainFor : Pass → Pass → Option Label → Option Label → Label → Type 0
IsPlainFor old new a b l = (AreNumbered a b → ⊥) ⊎ ((i : Items) × Means (pass_view new) new.plain.items l i × ((FitsWords i → ⊥) ⊎ HasNoState old new i))

-- A key of numbered kids whose number is known is answered with its number, if the call isn't refused. Where the pass isn't marked row full, it is a hit: it isn't refused, takes no step of the counter and no memory, and draws no number.
abbrev pub FindsKnownKey : {E : Type 0} → Pass → Pass → ℕ → ℕ → Option Label → Option Label → Result Label E → ℕ → ℕ → Type 0
FindsKnownKey old new operator class a b result before after = (k : NodeKey) (n : ℕ) → IsOwnKey (told_of_pass old) operator class a b k → IsKnownAs (pass_view old) k n
    → IfOk result (λ l. l ≡ Numbered n) × (old.row_full ≡ false → IsKnownHit old new n result before after)

-- After a numbered label the key has that number in what is known, or the pass is marked row full.
abbrev pub KnowsOwnKey : Pass → Pass → ℕ → ℕ → Option Label → Option Label → Label → Type 0
KnowsOwnKey old new operator class a b l = (k : NodeKey) (n : ℕ) → IsOwnKey (told_of_pass old) operator class a b k → l ≡ Numbered n → IsKnownAs (pass_view new) k n ⊎ (new.row_full ≡ true)

-- A marked pass looks, too: over numbered kids, and where the row has words, the key is known afterwards, or the first 64 words from its home, or all where there are fewer, are held with other keys.
abbrev pub LooksIfMarked : Pass → Pass → ℕ → ℕ → Option Label → Option Label → Type 0
LooksIfMarked old new operator class a b = (x : ℕ) → key_number operator class a b ≡ Some x → LooksMarked (pass_view old) (pass_view new) x (held_ask (pass_view old) x) old.row_full

-- What a label by a pass tells beside the laws of automata: when it is a hit, what a marked pass looks at, what is known of its key, when it is plain, what it counts, and that want of memory takes no spare number away.
pub record IsLabelByPass {E : Type 0} (old new : Pass) (operator class : ℕ) (a b : Option Label) (result : Result Label E) (before after : ℕ) : Type 0 where
  pub known : FindsKnownKey old new operator class a b result before after
  pub looked : LooksIfMarked old new operator class a b
  pub published : IfOk result (λ l. KnowsOwnKey old new operator class a b l)
  pub plain_where : IfOk result (λ l. IsPlain l ↔ IsPlainFor old new a b l)
  pub counted : CountsSteps (evaluated_of old) (evaluated_of new) before after
  pub refused : OnErr result (spare_of new ≡ spare_of old)
