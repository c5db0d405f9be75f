-- What a walk over the intern row found.
use Rattle.std.specs.Prelude.{◌≡◌, ◌≢◌, ℕ, ◌*◌, ◌<◌, ◌⊎◌, List, slice_index}
use Rattle.sel_law.specs.declared.View.{View}
use Rattle.sel_law.specs.Words.{In, intern_at}
use Rattle.sel_law.specs.Kinds.{HeldNumber, HeldWhole, HasContent, WalkedStates}
use Rattle.sel_rows.specs.Held.{held_content}
use Rattle.sel_rows.specs.declared.found.Found.{Found}
use Rattle.sel_rows.specs.declared.found.Found.TheVariants.{Number, Absent}

-- some entry of n that is held is another than c has
abbrev pub Unlike : View → ℕ → List ℕ → Type 0
Unlike v n c = (i w : ℕ) × In (n, i, w) v.contents × (w ≢ slice_index c i)

-- the number's content is held whole, and it is c
pub record HoldsContent (v : View) (c : List ℕ) (n : ℕ) : Type 0 where
  pub below : n < v.setting.states
  pub number : HeldNumber v n
  pub whole : HeldWhole v n c
  pub content_is : held_content v n ≡ c

-- the content isn't held whole under any published number
abbrev pub NoneHolds : View → List ℕ → Type 0
NoneHolds v c = (n : ℕ) → n < v.setting.states → HeldNumber v n → HeldWhole v n c → ⊥

-- What a walk from the view u to the view v found: a number whose content is the one that was looked for; or a place whose word was free at the last step, with all words before it held with other contents.
abbrev pub FoundState : View → View → List ℕ → Found → Type 0
FoundState u v c (Number n) = HoldsContent v c n
FoundState u v c (Absent p) = (p < 2 * v.setting.states) × WalkedStates v c p × (u.steps < v.steps) × (v.last ≡ (v.steps, intern_at p, 0)) × NoneHolds v c

-- What a walk for the content c found is all that is known of it: a number that is known to have the content is the one that was found, and where none was found there is none.
abbrev pub FoundOnly : View → List ℕ → Found → Type 0
FoundOnly w c (Number n) = (m : ℕ) → HasContent w m c → m ≡ n
FoundOnly w c (Absent p) = (m : ℕ) → HasContent w m c → ⊥

-- In the steps between the two views the walk over the intern row found no equal state, and none is held: the last word that was read is that of a free place, or there is no state at all.
abbrev pub IsMissed : View → List ℕ → View → Type 0
IsMissed v c w = NoneHolds w c × ((v.setting.states ≡ 0) ⊎ ((p t : ℕ) × (p < 2 * w.setting.states) × WalkedStates w c p × (v.steps < t) × (w.last ≡ (t, intern_at p, 0))))
