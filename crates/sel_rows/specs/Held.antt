-- The contents that a view holds, as a function of it.
use Rattle.std.specs.Prelude.{◌≡◌, ℕ, suc, zero, ◌+◌, ◌<◌, cond, ◌==◌, ◌&&◌, List, [], ◌∷◌, ◌++◌}
use Rattle.sel_law.specs.declared.Ask.{Ask}
use Rattle.sel_law.specs.declared.View.{View}
use Rattle.sel_law.specs.Words.{In, ask_by}

-- the entry of n for i that is held first, or 0
abbrev pub held_entry : List (ℕ × ℕ × ℕ) → ℕ → ℕ → ℕ
held_entry [] n i = 0
held_entry (e ∷ es) n i = cond ((e.0 == n) && (e.1 == i)) e.2 (held_entry es n i)

abbrev pub held_from : List (ℕ × ℕ × ℕ) → ℕ → ℕ → ℕ → List ℕ
held_from es n i zero = []
held_from es n i (suc k) = held_entry es n i ∷ held_from es n (i + 1) k

-- the content of n by what is held
abbrev pub held_content : View → ℕ → List ℕ
held_content v n = held_from v.contents n 0 v.setting.width

-- some word is held of each entry of n
abbrev pub IsWhole : View → ℕ → Type 0
IsWhole v n = (i : ℕ) → i < v.setting.width → (w : ℕ) × In (n, i, w) v.contents

-- the key of a number by the contents that are held
abbrev pub held_ask : View → ℕ → Ask
held_ask v x = ask_by (held_content v) x

-- an entry was read, and nothing else changed of what is held
pub record IsRead (v : View) (asks : List Ask) (n i word : ℕ) (w : View) : Type 0 where
  pub setting : w.setting ≡ v.setting
  pub places : w.places ≡ v.places
  pub known : w.known ≡ v.known
  pub asked : w.asked ≡ v.asked ++ asks
  pub contents : w.contents ≡ v.contents ++ (n, i, word) ∷ []
  pub steps : w.steps ≡ v.steps + 1
