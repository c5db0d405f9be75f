-- What an automaton tells of itself, what a label gives, and how a call changes what is told.
use Rattle.std.specs.Prelude.{◌≡◌, ◌≤◌, ◌<◌, ◌+◌, ◌^◌, ℕ, ◌⊎◌, Bool, true, false, Option, List, Result, Ok, Err, OnErr}
use Rattle.sel_normal.specs.NormalForms.{NormalForm}
use Rattle.sel_items.specs.declared.items.Items.{Items}
use Rattle.sel_items.specs.declared.label.Label.{Label}
use Rattle.sel_items.specs.declared.label.Label.TheVariants.{Numbered}
use Rattle.sel_items.specs.Follows.{NodeKey, key_of, Follows}
use Rattle.sel_items.specs.Words.{FitsWords}
use Rattle.sel_items.specs.Labels.{IsPlain, IsNumbered, AreNumbered, KidsAre, AreKidSets, IsClassOver, HasLawfulKids}

-- What an automaton tells of itself.
pub record Told : Type 1 where
  -- the normal form, and what each label means
  pub normal : NormalForm
  pub means : Label → Items → Type 0
  -- how many plain labels were given since the tree began
  pub plain_labels : ℕ
  -- the keys that `label` was asked for, those whose numbers are known, and those whose labels take no step and no memory
  pub asked : NodeKey → Type 0
  pub known : NodeKey → Type 0
  pub ready : NodeKey → Type 0
  -- the item sets of states
  pub held : Items → Type 0
  -- a state found no number, and a known state's key no room
  pub used_up : Bool
  pub row_full : Bool

-- `label` may be called: the kids' labels mean item sets, of which the node's may be evaluated with this class and operator, and there is a number left for a plain label.
pub record MayLabel (s : Told) (operator class : ℕ) (a b : Option Label) : Type 0 where
  pub kids : (is : List Items) × KidsAre s.means a b is × AreKidSets s.normal is
  pub over : IsClassOver s.normal class a
  pub lawful : HasLawfulKids s.normal operator a b
  pub room : s.plain_labels < 2 ^ 32

-- What a label of a node gives, where `s` is told after the call, and `kids` are the item sets of the node's kids.
pub record IsLabelled (s : Told) (operator class : ℕ) (a b : Option Label) (kids : List Items) (l : Label) : Type 0 where
  -- it means the item set that follows from the node's key
  pub items : Items
  pub meant : s.means l items
  pub follows : Follows s.normal (key_of operator class kids) items
  -- where it is numbered, the kids' labels are, and the item set is held
  pub numbered : IsNumbered l → AreNumbered a b × s.held items
  -- where it is plain over numbered kids or none, the automaton is used up, or the item set doesn't fit words
  pub plain : IsPlain l → AreNumbered a b → (s.used_up ≡ true) ⊎ (FitsWords items → ⊥)
  -- without a mark, over numbered kids or none, it is numbered and its key known where its item set fits words
  pub tabled : AreNumbered a b → s.used_up ≡ false → s.row_full ≡ false → FitsWords items → IsNumbered l × s.known (key_of operator class kids)

-- the answer of a call that may fail is this label
abbrev pub IsLabelOf : {E : Type 0} → Result Label E → Label → Type 0
IsLabelOf (Ok x) l = l ≡ x
IsLabelOf (Err e) l = ⊥

-- whatever was told is told
abbrev pub StaysTrue : {A : Type 0} → (A → Type 0) → (A → Type 0) → Type 0
StaysTrue {A} old new = (x : A) → old x → new x

-- the same is told
abbrev pub AreSame : {A : Type 0} → (A → Type 0) → (A → Type 0) → Type 0
AreSame old new = StaysTrue old new × StaysTrue new old

-- each meaning of a label stays
abbrev pub KeepsMeanings : (Label → Items → Type 0) → (Label → Items → Type 0) → Type 0
KeepsMeanings old new = (l : Label) → StaysTrue (old l) (new l)

-- each meaning of a numbered label stays
abbrev pub KeepsNumbered : (Label → Items → Type 0) → (Label → Items → Type 0) → Type 0
KeepsNumbered old new = (n : ℕ) → StaysTrue (old (Numbered n)) (new (Numbered n))

-- a mark stays
abbrev pub KeepsMark : Bool → Bool → Type 0
KeepsMark old new = old ≡ true → new ≡ true

-- Nothing that tables tell is lost: numbered labels mean what they did, what was asked, known and held is, and marks stay.
pub record Keeps (old new : Told) : Type 0 where
  pub normal : new.normal ≡ old.normal
  pub numbered : KeepsNumbered old.means new.means
  pub asked : StaysTrue old.asked new.asked
  pub known : StaysTrue old.known new.known
  pub held : StaysTrue old.held new.held
  pub used_up : KeepsMark old.used_up new.used_up
  pub row_full : KeepsMark old.row_full new.row_full

-- So it is when a node is labelled, and no label loses its meaning. The only plain label that gets one is the call's own, and it alone is counted.
pub record Grows {E : Type 0} (old new : Told) (result : Result Label E) : Type 0 where
  pub keeps : Keeps old new
  pub means : KeepsMeanings old.means new.means
  pub plain : (l : Label) (i : Items) → IsPlain l → new.means l i → old.means l i ⊎ IsLabelOf result l
  pub plain_labels : new.plain_labels ≤ old.plain_labels + 1
  pub none_counted : OnErr result (new.plain_labels ≤ old.plain_labels)

-- the key is the call's: its kids' labels are numbered, or there are none, and mean the key's kids
abbrev pub IsOwnKey : Told → ℕ → ℕ → Option Label → Option Label → NodeKey → Type 0
IsOwnKey s operator class a b k = AreNumbered a b × ((kids : List Items) × KidsAre s.means a b kids × (k ≡ key_of operator class kids))

-- Nothing else is asked or known than the call's own key, and nothing else held than what follows from it, or from a key that was asked before.
pub record AddsOwn (old new : Told) (operator class : ℕ) (a b : Option Label) : Type 0 where
  pub asked : (k : NodeKey) → new.asked k → old.asked k ⊎ IsOwnKey old operator class a b k
  pub known : (k : NodeKey) → new.known k → old.known k ⊎ IsOwnKey old operator class a b k
  pub held : (i : Items) → new.held i → old.held i ⊎ ((k : NodeKey) × (old.asked k ⊎ IsOwnKey old operator class a b k) × Follows old.normal k i)

-- the call's key is ready
abbrev pub IsReady : Told → ℕ → ℕ → Option Label → Option Label → Type 0
IsReady s operator class a b = (k : NodeKey) × IsOwnKey s operator class a b k × s.ready k

-- The call gives a number and takes no step, and each key that was ready is.
pub record IsHit {E : Type 0} (old new : Told) (result : Result Label E) (before after : ℕ) : Type 0 where
  pub number : ℕ
  pub label : result ≡ Ok (Numbered number)
  pub no_step : after ≡ before
  pub ready : StaysTrue old.ready new.ready

-- what tables tell is the same
pub record AreTablesSame (old new : Told) : Type 0 where
  pub normal : new.normal ≡ old.normal
  pub asked : AreSame old.asked new.asked
  pub known : AreSame old.known new.known
  pub ready : AreSame old.ready new.ready
  pub held : AreSame old.held new.held
  pub used_up : new.used_up ≡ old.used_up
  pub row_full : new.row_full ≡ old.row_full

-- A tree begins: numbered labels keep their meaning, no plain label has one, and tables tell the same.
pub record BeginsTree (old new : Told) : Type 0 where
  pub tables : AreTablesSame old new
  pub numbered : KeepsNumbered old.means new.means
  pub none_plain : (l : Label) (i : Items) → IsPlain l → new.means l i → ⊥
  pub plain_labels : new.plain_labels ≡ 0

-- Labels are read: each keeps its meaning, no plain label gets one, and tables tell the same.
pub record IsRead (old new : Told) : Type 0 where
  pub tables : AreTablesSame old new
  pub means : KeepsMeanings old.means new.means
  pub plain : (l : Label) (i : Items) → IsPlain l → new.means l i → old.means l i
  pub plain_labels : new.plain_labels ≡ old.plain_labels
