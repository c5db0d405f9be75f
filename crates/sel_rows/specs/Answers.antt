-- What an answer to a node leaves.
use Rattle.std.specs.Prelude.{◌≡◌, ℕ, ◌⊎◌, ◌<◌, ◌≤◌, ◌^◌, List, [], ◌∷◌, ◌++◌, length, Option, Result, Ok, Bool, true, false, None, IfOk, OnErr}
use Rattle.sel_items.specs.declared.items.Items.{Items}
use Rattle.sel_items.specs.declared.label.Label.{Label}
use Rattle.sel_items.specs.declared.label.Label.TheVariants.{Numbered, Plain}
use Rattle.sel_items.specs.Follows.{key_of, Follows}
use Rattle.sel_items.specs.Words.{FitsWords}
use Rattle.sel_items.specs.Labels.{KidsAre, AreNumbered, IsPlain}
use Rattle.sel_items.specs.Automata.{IsLabelled}
use Rattle.sel_law.specs.declared.Setting.{Setting}
use Rattle.sel_law.specs.declared.Ask.{Ask}
use Rattle.sel_law.specs.declared.View.{View}
use Rattle.sel_law.specs.Words.{In, IsKey, HasPackedKids, node_key, IsMadeOf}
use Rattle.sel_law.specs.Kinds.{HeldKey}
use Rattle.sel_rows.specs.declared.pass.Pass.{Pass}
use Rattle.sel_rows.specs.Counts.{CountsSteps}
use Rattle.sel_rows.specs.Grown.{Grown}
use Rattle.sel_rows.specs.Meanings.{Means, told_by}
use Rattle.sel_rows.specs.Told.{pass_view, plain_of, spare_of, evaluated_of}
use Rattle.sel_rows.specs.FoundRow.{HoldsKey}
use Rattle.sel_rows.specs.FoundState.{IsMissed}

-- Nothing is asked but the node's own key, and that only over numbered kids.
pub record GrownFor (v : View) (plain : List Items) (operator class : ℕ) (a b : Option Label) (w : View) : Type 0 where
  pub asks : List Ask
  pub grown : Grown asks v w
  pub own : (k : Ask) → In k asks → AreNumbered a b × ((is : List Items) → KidsAre (Means v plain) a b is → node_key k ≡ key_of operator class is)

-- a plain label has the next place
abbrev pub IsPlainAfter : {E : Type 0} → List Items → List Items → Result Label E → Type 0
IsPlainAfter old new result = (new ≡ old) ⊎ ((i : Items) × (new ≡ old ++ i ∷ []) × (result ≡ Ok (Plain (length old))))

-- The key's number x over numbered kids or none: the key is k by what the pass holds of them, and the node's by item sets.
pub record IsNodeKey (p : Pass) (x : ℕ) (k : Ask) (operator class : ℕ) (a b : Option Label) : Type 0 where
  pub lawful : IsKey x × (x < 2 ^ 48)
  pub held : HeldKey (pass_view p) x k
  pub numbered : AreNumbered a b
  pub packed : HasPackedKids k
  pub node : (is : List Items) → KidsAre (Means (pass_view p) (plain_of p)) a b is → node_key k ≡ key_of operator class is

-- What an answer leaves of the pass: its table and normal form, the mark of a full row, its plain labels and its count; and where memory is refused, its spare number.
pub record LeavesPass {E : Type 0} (old new : Pass) (result : Result Label E) (before after : ℕ) : Type 0 where
  pub rows : new.hand.rows ≡ old.hand.rows
  pub normal : new.normal ≡ old.normal
  pub row_full : old.row_full ≡ true → new.row_full ≡ true
  pub plain : IsPlainAfter (plain_of old) (plain_of new) result
  pub counted : CountsSteps (evaluated_of old) (evaluated_of new) before after
  pub refused : OnErr result (spare_of new ≡ spare_of old)
  pub steps : before ≤ after

-- The label tells what a label of the node is to tell.
abbrev pub LabelsNode : {E : Type 0} → Pass → Pass → ℕ → ℕ → Option Label → Option Label → Result Label E → Type 0
LabelsNode old new operator class a b result = IfOk result (λ l. (is : List Items) → KidsAre (Means (pass_view old) (plain_of old)) a b is → IsLabelled (told_by old.normal.now (pass_view new) (plain_of new) new.used_up new.row_full) operator class a b is l)

-- the number m is known for the key, or it is the number n and the row is full
abbrev pub IsPublished : View → Ask → Bool → ℕ → ℕ → Type 0
IsPublished w k row_full n m = HoldsKey w k m ⊎ ((m ≡ n) × (row_full ≡ true))

-- The label is the number n: memory isn't refused, no step is taken and none counted, no number is drawn, and no mark is set.
pub record IsKnownHit {E : Type 0} (old new : Pass) (n : ℕ) (result : Result Label E) (before after : ℕ) : Type 0 where
  pub label : result ≡ Ok (Numbered n)
  pub no_step : after ≡ before
  pub evaluated : evaluated_of new ≡ evaluated_of old
  pub spare : spare_of new ≡ spare_of old
  pub used_up : new.used_up ≡ old.used_up
  pub row_full : new.row_full ≡ false

-- a known key is a hit where the pass isn't marked row full
abbrev pub AnswersKnown : {E : Type 0} → Pass → Pass → Ask → Result Label E → ℕ → ℕ → Type 0
AnswersKnown old new k result before after = (n : ℕ) → In (k, n) (pass_view old).known → old.row_full ≡ false → 1 ≤ (pass_view old).setting.rows → IsKnownHit old new n result before after

-- Why a label over numbered kids is plain: the item set fits no words; or the pass is used up, it had no spare number when the call began, and no equal state was found in the call.
abbrev pub IsLeftPlain : View → Option ℕ → Setting → Ask → Bool → View → Type 0
IsLeftPlain v spare z k used_up w =
    ((i : Items) × Follows z.normal.value (node_key k) i × (FitsWords i → ⊥))
    ⊎ ((used_up ≡ true) × (spare ≡ None) × ((c : List ℕ) × IsMadeOf z k c × IsMissed v c w))

abbrev pub PlainCause : {E : Type 0} → View → Option ℕ → Setting → Ask → Bool → View → Result Label E → Type 0
PlainCause v spare z k used_up w result = IfOk result (λ l. IsPlain l → IsLeftPlain v spare z k used_up w)

-- A number that was answered is known for the key, or the row is full.
abbrev pub IsTabledAs : {E : Type 0} → View → Ask → Bool → Result Label E → Type 0
IsTabledAs w k row_full result = IfOk result (λ l. (n : ℕ) → l ≡ Numbered n → HoldsKey w k n ⊎ (row_full ≡ true))
