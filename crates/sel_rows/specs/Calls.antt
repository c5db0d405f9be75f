-- What the single calls of a pass find, draw and publish, and what they leave.
use Rattle.std.specs.Prelude.{◌≡◌, ℕ, ◌+◌, ◌*◌, ◌<◌, ◌≤◌, ◌⊎◌, true, false, List, length, Some, None}
use Rattle.sel_normal.specs.NormalForms.{NormalForm}
use Rattle.sel_items.specs.declared.items.Items.{Items}
use Rattle.sel_items.specs.Entries.{item_at}
use Rattle.sel_items.specs.Follows.{NodeKey, Follows}
use Rattle.sel_items.specs.Words.{IsPackable}
use Rattle.sel_law.specs.declared.Ask.{Ask}
use Rattle.sel_law.specs.declared.View.{View}
use Rattle.sel_law.specs.Words.{In, items_of, node_key, ArePacked, EachKid}
use Rattle.sel_law.specs.Kinds.{WalkedStates, WalkedRow}
use Rattle.sel_rows.specs.declared.snapshot.Key.{Key}
use Rattle.sel_rows.specs.declared.found.Seen.{Seen}
use Rattle.sel_rows.specs.declared.found.Seen.TheVariants.{Number as Numbered}
use Rattle.sel_rows.specs.declared.found.Found.{Found}
use Rattle.sel_rows.specs.declared.found.Found.TheVariants.{Number, Absent}
use Rattle.sel_rows.specs.declared.found.Draw.{Draw}
use Rattle.sel_rows.specs.declared.found.Draw.TheVariants.{Own as Drawn, UsedUp}
use Rattle.sel_rows.specs.declared.found.Won.{Won}
use Rattle.sel_rows.specs.declared.found.Won.TheVariants.{Own, Lost}
use Rattle.sel_rows.specs.declared.found.Placed.{Placed}
use Rattle.sel_rows.specs.declared.found.Placed.TheVariants.{Known, RowFull}
use Rattle.sel_rows.specs.declared.pass.Pass.{Pass}
use Rattle.sel_rows.specs.FoundRow.{HoldsKey, HoldsOthers}
use Rattle.sel_rows.specs.FoundState.{FoundState}
use Rattle.sel_rows.specs.Grown.{Grown}
use Rattle.sel_rows.specs.Held.{held_ask}
use Rattle.sel_rows.specs.Meanings.{HoldsItems, KnowsKey, IsAsked}
use Rattle.sel_rows.specs.SeenKey.{FindsNoOther}
use Rattle.sel_rows.specs.Told.{pass_view, standing_of, spare_of, evaluated_of, plain_of}

-- the number of a key: 3·operator + kids + 1, then the class or the left kid's number, then the right kid's
abbrev pub number_of_key : Key → ℕ
number_of_key k = (3 * k.operator + k.kids + 1) * 4294967296 + k.left * 65536 + k.right

-- There are at most two kids, a kid that there is not has the number 0, and the item set of each kid's number is held.
pub record IsReadableKey (v : View) (k : Key) : Type 0 where
  pub kids : k.kids ≤ 2
  pub right : k.kids ≤ 1 → k.right ≡ 0
  pub held : EachKid (λ n. (i : Items) × HoldsItems v n i) k.kids k.left k.right

-- the key by what is held of its kids, as words and as item sets
abbrev pub ask_of_key : View → Key → Ask
ask_of_key v k = held_ask v (number_of_key k)

abbrev pub node_of_key : View → Key → NodeKey
node_of_key v k = node_key (ask_of_key v k)

-- What a call leaves that labels no node: where the pass stands, its plain labels, its count and all that it knows; and nothing is asked or known but of the keys `asks`.
pub record KeepsPass (asks : List Ask) (old new : Pass) : Type 0 where
  pub grown : Grown asks (pass_view old) (pass_view new)
  pub standing : standing_of new ≡ standing_of old
  pub plain : plain_of new ≡ plain_of old
  pub evaluated : evaluated_of new ≡ evaluated_of old

-- the spare number and both marks stay
pub record KeepsMarks (old new : Pass) : Type 0 where
  pub spare : spare_of new ≡ spare_of old
  pub used_up : new.used_up ≡ old.used_up
  pub row_full : new.row_full ≡ old.row_full

-- A key that was known with the number n is found with it where the pass isn't marked row full; and never with another number, or free.
abbrev pub FindsKnownNumber : Pass → Ask → Seen → Type 0
FindsKnownNumber old a s = (n : ℕ) → KnowsKey (pass_view old) a n → FindsNoOther n s × (old.row_full ≡ false → s ≡ Numbered n)

-- One entry for each normal nonterminal, and each has a word.
pub record HasWords (normal : NormalForm) (i : Items) : Type 0 where
  pub long : length i.entries ≡ normal.nonterminals
  pub packable : (n : ℕ) → IsPackable (item_at i.entries n)

-- these words say the item set
pub record Say (c : List ℕ) (i : Items) : Type 0 where
  pub packed : ArePacked c
  pub says : items_of c ≡ i

-- What a walk over the intern row from the view u to the view v found: a number whose item set it is; or a place whose word was free at the last step, with all words before it held with other item sets, which is then held under no number. Without states there is no walk, and the place is 0.
abbrev pub FindsState : View → View → Items → Found → Type 0
FindsState u v i (Number n) = HoldsItems v n i
FindsState u v i (Absent p) = ((v.setting.states ≡ 0) × (p ≡ 0) × (v ≡ u)) ⊎ ((c : List ℕ) × Say c i × FoundState u v c (Absent p))

-- What a draw gave: the spare number with no step, where there is one, and else a number that was drawn; or none, where the pass is marked used up, before or by this draw, and has no spare number. A marked pass draws no more.
abbrev pub IsDrawn : Pass → Pass → Draw → Type 0
IsDrawn old new (Drawn n) = (spare_of new ≡ Some n) × (new.used_up ≡ old.used_up) × ((m : ℕ) → spare_of old ≡ Some m → new ≡ old) × (spare_of old ≡ None → old.used_up ≡ false)
IsDrawn old new UsedUp = (spare_of old ≡ None) × (spare_of new ≡ None) × (new.used_up ≡ true) × (old.used_up ≡ true → new ≡ old)

-- the words of the intern row from the item set's home up to the place are held with other item sets
abbrev pub IsBehindStates : View → Items → ℕ → Type 0
IsBehindStates v i p = (p < 2 * v.setting.states) × ((c : List ℕ) × Say c i × WalkedStates v c p)

-- the item set follows from a key that was asked
abbrev pub FollowsFromAsked : View → Items → Type 0
FollowsFromAsked v i = (k : NodeKey) × IsAsked v k × Follows v.setting.normal.value k i

-- What became of a state: it is published under the number that was the pass's own, or stands under another, and the own one is kept.
abbrev pub StandsFor : Pass → Pass → Items → Won → Type 0
StandsFor old new i (Own n) = (spare_of old ≡ Some n) × (spare_of new ≡ None) × HoldsItems (pass_view new) n i
StandsFor old new i (Lost n) = (spare_of new ≡ spare_of old) × HoldsItems (pass_view new) n i

-- The words of the row from the key's home up to the place are held with other keys, and the key was asked. In a row without words the place is 0.
abbrev pub IsBehindKeys : View → Key → ℕ → Type 0
IsBehindKeys v k p = ((v.setting.rows ≡ 0) × (p ≡ 0)) ⊎ ((p < v.setting.rows) × WalkedRow v (number_of_key k) p × In (ask_of_key v k) v.asked)

-- the number's item set follows from the key
abbrev pub IsNumberFor : View → Key → ℕ → Type 0
IsNumberFor v k n = (i : Items) × HoldsItems v n i × Follows v.setting.normal.value (node_of_key v k) i

-- What became of a key that was published: it is known with this number, whose item set follows from it, and the mark of a full row stays; or each word of the row is held with another key, and the pass is marked.
abbrev pub PlacesKey : Pass → Pass → ℕ → Ask → Placed → Type 0
PlacesKey old new x a (Known n) = HoldsKey (pass_view new) a n × (new.row_full ≡ old.row_full)
PlacesKey old new x a RowFull = (new.row_full ≡ true) × HoldsOthers (pass_view new) x (pass_view new).setting.rows
