-- What the words of a closed table say, by item sets.
use Rattle.std.specs.Prelude.{◌≡◌, ◌≢◌, ℕ, ◌+◌, ◌*◌, ◌<◌, ◌≤◌, true, List, slice_index}
use Rattle.sel_items.specs.declared.items.Items.{Items}
use Rattle.sel_items.specs.Follows.{NodeKey, Follows}
use Rattle.sel_items.specs.Words.{FitsWords}
use Rattle.sel_law.specs.declared.Setting.{Setting}
use Rattle.sel_law.specs.declared.View.{View}
use Rattle.sel_law.specs.Words.{items_of, node_key, content, Published, published, KidsPublished, key_of, number_of, ask_of, row_at, intern_at}
use Rattle.sel_rows.specs.Meanings.{IsAsked, IsKnownAs, IsHeld}
use Rattle.sel_rows.specs.Parts.{Within}

-- the item set of a number
abbrev pub state_items : Setting → List ℕ → ℕ → Items
state_items z ws n = items_of (content z ws n)

-- the transition word of a place, its key and the item set of its number
abbrev pub row_word : Setting → List ℕ → ℕ → ℕ
row_word z ws q = slice_index ws (row_at z q)

abbrev pub row_key : Setting → List ℕ → ℕ → NodeKey
row_key z ws q = node_key (ask_of z ws (key_of (row_word z ws q)))

-- A number stands at one place; the states differ, fit words, and each follows from an asked key; the keys of the transitions differ, were asked, their kids have states, and each number's item set follows from the key; what a view that was joined in holds and knows is there; and the marks say how much is.
pub record IsClosedTable (z : Setting) (ws : List ℕ) (v : View) : Type 0 where
  pub states : (n : ℕ) → Published z ws n → (n < z.states) × FitsWords (state_items z ws n) × ((k : NodeKey) × IsAsked v k × Follows z.normal.value k (state_items z ws n))
  pub places : (p q n : ℕ) → p < 2 * z.states → q < 2 * z.states → slice_index ws (intern_at p) ≡ n + 1 → slice_index ws (intern_at q) ≡ n + 1 → p ≡ q
  pub states_differ : (m n : ℕ) → Published z ws m → Published z ws n → state_items z ws m ≡ state_items z ws n → m ≡ n
  pub rows : (q : ℕ) → q < z.rows → row_word z ws q ≢ 0 → Published z ws (number_of (row_word z ws q)) × IsAsked v (row_key z ws q) × Follows z.normal.value (row_key z ws q) (state_items z ws (number_of (row_word z ws q)))
  pub kids : (q : ℕ) → q < z.rows → row_word z ws q ≢ 0 → KidsPublished z ws (key_of (row_word z ws q))
  pub rows_differ : (q r : ℕ) → q < z.rows → r < z.rows → row_word z ws q ≢ 0 → row_word z ws r ≢ 0 → row_key z ws q ≡ row_key z ws r → q ≡ r
  pub held : (p : View) (i : Items) → p.setting ≡ z → Within p v → IsHeld p i → (n : ℕ) × Published z ws n × (i ≡ state_items z ws n)
  pub known : (p : View) (k : NodeKey) (n : ℕ) → Within p v → IsKnownAs p k n → (q : ℕ) × (q < z.rows) × (row_word z ws q ≢ 0) × (row_key z ws q ≡ k) × (number_of (row_word z ws q) ≡ n)
  pub few : published z ws ≤ z.states
  pub used_up : v.used_up ≡ true → z.states < published z ws + z.workers
  pub row_full : v.row_full ≡ true → z.rows ≢ 0 → ((q : ℕ) → q < z.rows → row_word z ws q ≢ 0) × ((k : NodeKey) × IsAsked v k × ((q : ℕ) → q < z.rows → row_key z ws q ≢ k))
