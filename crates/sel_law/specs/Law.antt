-- The rule of the shared table.
use Rattle.std.specs.Prelude.{◌≡◌, ◌≢◌, ℕ, ◌+◌, ◌*◌, ◌<◌, ◌≤◌, ◌^◌, ◌⊎◌, true, false, List, [], length, slice_index, Option, Some, None}
use mathlib.Core.Option.{some}
use lib.ListN.{get_elem?}
use Rattle.sel_law.specs.declared.Setting.{Setting}
use Rattle.sel_law.specs.declared.Ask.{Ask}
use Rattle.sel_law.specs.declared.View.{View}
use Rattle.sel_law.specs.Words.{IsMadeOf, key_home, content_home, weigh, In, walk, intern_at, row_at, content_at, word_count, content, Published, published, key_of, number_of, ask_of, node_key, KidsPublished, IsKey}

-- what a seat that was joined into another leaves
abbrev pub spent : View
spent = record {
  setting = record { normal = record { marker = record {}; value = record { nonterminals = 0; user_rules = 0; rules = []; tests = [] } }; states = 0; rows = 0; workers = 0; width = 0 };
  steps = 0;
  last = (0, 0, 0);
  places = [];
  contents = [];
  asked = [];
  known = [];
  own = None;
  draft = [];
  seats = 0;
  rest = 0;
  dropped = 0;
  past = 0;
  used_up = false;
  row_full = false;
}

abbrev pub own_count : Option ℕ → ℕ
own_count None = 0
own_count (Some n) = 1

-- no word of the walk from home up to the d-th place is 0
abbrev pub NoGap : List ℕ → ℕ → ℕ → ℕ → ℕ → Type 0
NoGap ws base m home d = (j : ℕ) → j < d → slice_index ws (base + walk m home j) ≢ 0

-- A transition, the word w at the place q: its number and its kids' are published, no word from its key's home up to it is 0, and its number's content is what follows from its key.
pub record TransitionAt (z : Setting) (ws : List ℕ) (q w : ℕ) : Type 0 where
  pub number : Published z ws (number_of w)
  pub kids : KidsPublished z ws (key_of w)
  pub lawful_key : IsKey (key_of w)
  pub made_of : IsMadeOf z (ask_of z ws (key_of w)) (content z ws (number_of w))
  pub place : (d : ℕ) × (d < z.rows) × (q ≡ walk z.rows (key_home z (key_of w)) d) × NoGap ws (row_at z 0) z.rows (key_home z (key_of w)) d

pub record Transitions (z : Setting) (ws : List ℕ) : Type 0 where
  pub each : (q : ℕ) → q < z.rows → slice_index ws (row_at z q) ≢ 0 → TransitionAt z ws q (slice_index ws (row_at z q))
  pub differ : (q r : ℕ) → q < z.rows → r < z.rows → slice_index ws (row_at z q) ≢ 0 → slice_index ws (row_at z r) ≢ 0 → key_of (slice_index ws (row_at z q)) ≡ key_of (slice_index ws (row_at z r)) → q ≡ r

-- A state, the number n that is published at the place p: it is below the bound and the counter, and no word from its content's home up to it is 0.
pub record StateAt (z : Setting) (ws : List ℕ) (p n : ℕ) : Type 0 where
  pub below : n < z.states
  pub drawn : n < slice_index ws 0
  pub place : (d : ℕ) × (d < 2 * z.states) × (p ≡ walk (2 * z.states) (content_home z (content z ws n)) d) × NoGap ws 1 (2 * z.states) (content_home z (content z ws n)) d

pub record States (z : Setting) (ws : List ℕ) : Type 0 where
  pub each : (p n : ℕ) → p < 2 * z.states → slice_index ws (intern_at p) ≡ n + 1 → StateAt z ws p n
  pub differ : (p q m n : ℕ) → p < 2 * z.states → q < 2 * z.states → slice_index ws (intern_at p) ≡ m + 1 → slice_index ws (intern_at q) ≡ n + 1 → content z ws m ≡ content z ws n → p ≡ q

-- What one view holds is true of the words now, and its own number is drawn, published nowhere, and has the draft as its content.
pub record IsTrueOf (z : Setting) (ws : List ℕ) (v : View) : Type 0 where
  pub places : (e : ℕ × ℕ) → In e v.places → (1 ≤ e.0) × (e.0 < row_at z z.rows) × (e.1 ≢ 0) × (slice_index ws e.0 ≡ e.1)
  pub contents : (e : ℕ × ℕ × ℕ) → In e v.contents → Published z ws e.0 × (e.1 < z.width) × (slice_index ws (content_at z e.0 e.1) ≡ e.2)
  pub known : (e : Ask × ℕ) → In e v.known → In e.0 v.asked × ((q : ℕ) × (q < z.rows) × (slice_index ws (row_at z q) ≢ 0) × (number_of (slice_index ws (row_at z q)) ≡ e.1) × (ask_of z ws (key_of (slice_index ws (row_at z q))) ≡ e.0))

pub record Owns (z : Setting) (ws : List ℕ) (draft : List ℕ) (n : ℕ) : Type 0 where
  pub below : n < z.states
  pub drawn : n < slice_index ws 0
  pub hidden : ¬ Published z ws n
  pub short : length draft ≤ z.width
  pub draft_is : (i : ℕ) → i < length draft → slice_index ws (content_at z n i) ≡ slice_index draft i

-- Where a view is marked row full, every transition word is in use, and one of its asked keys is published nowhere.
abbrev pub Full : Setting → List ℕ → View → Type 0
Full z ws v = ((q : ℕ) → q < z.rows → slice_index ws (row_at z q) ≢ 0) × ((a : Ask) × In a v.asked × ((q : ℕ) → q < z.rows → node_key (ask_of z ws (key_of (slice_index ws (row_at z q)))) ≢ node_key a))

-- what the rule says of a view that is not spent
pub record IsInUse (z : Setting) (ws : List ℕ) (v : View) : Type 0 where
  pub setting : v.setting ≡ z
  pub true_now : IsTrueOf z ws v
  pub own : (n : ℕ) → v.own ≡ Some n → Owns z ws v.draft n
  pub seated : 1 ≤ v.seats
  pub spare : v.used_up ≡ false → v.dropped + v.past + 1 ≤ v.seats
  pub few : v.used_up ≡ true → own_count v.own + v.dropped + v.past ≤ v.seats
  pub full : v.row_full ≡ true → z.rows ≢ 0 → Full z ws v

abbrev pub owned : List View → ℕ
owned views = weigh (λ (v : View). own_count v.own) views

abbrev pub dropped : List View → ℕ
dropped views = weigh (λ (v : View). v.dropped) views

abbrev pub past : List View → ℕ
past views = weigh (λ (v : View). v.past) views

-- How many numbers are published, views' own, given up and past the bound, and how many seats there are: together they make the counter and the workers.
pub record Counts (z : Setting) (ws : List ℕ) (views : List View) : Type 0 where
  pub counter : slice_index ws 0 ≡ published z ws + owned views + dropped views + past views
  pub room : published z ws + owned views + dropped views ≤ z.states
  pub filled : 1 ≤ past views → published z ws + owned views + dropped views ≡ z.states
  pub marked : (i : ℕ) (v : View) → get_elem? views i ≡ some v → v.used_up ≡ true → 1 ≤ past views
  pub seats : weigh (λ (v : View). v.seats + v.rest) views ≡ z.workers

-- some view has it
abbrev pub IsInSomeView : List View → (View → Type 0) → Type 0
IsInSomeView views P = (i : ℕ) × (v : View) × (get_elem? views i ≡ some v) × P v

-- Each published content follows from a key that some view was asked, each transition's key was asked, each word in use stands in some view's places, and all views have one setting.
pub record Asked (z : Setting) (ws : List ℕ) (views : List View) : Type 0 where
  pub states : (n : ℕ) → Published z ws n → (a : Ask) × IsMadeOf z a (content z ws n) × IsInSomeView views (λ v. In a v.asked)
  pub rows : (q : ℕ) → q < z.rows → slice_index ws (row_at z q) ≢ 0 → IsInSomeView views (λ v. In (ask_of z ws (key_of (slice_index ws (row_at z q)))) v.asked)
  pub places : (j : ℕ) → 1 ≤ j → j < row_at z z.rows → slice_index ws j ≢ 0 → IsInSomeView views (λ v. In (j, slice_index ws j) v.places)

pub record Small (z : Setting) : Type 0 where
  pub states : z.states < 2 ^ 16
  pub rows : z.rows < 2 ^ 32
  pub workers : z.workers < 2 ^ 32
  pub width : z.width < 2 ^ 16
  pub width_is : z.width ≡ (z.normal.value).nonterminals

-- The rule: the words are of the setting's size; transitions and states are as they should be; each view fits; no two views have one own number; the counts add up; and what is published was asked for.
pub record Lawful (z : Setting) (ws : List ℕ) (views : List View) : Type 0 where
  pub small : Small z
  pub size : length ws ≡ word_count z
  pub transitions : Transitions z ws
  pub states : States z ws
  pub views_fit : (i : ℕ) (v : View) → get_elem? views i ≡ some v → (v ≡ spent) ⊎ IsInUse z ws v
  pub own_apart : (i j : ℕ) (v w : View) (n : ℕ) → get_elem? views i ≡ some v → get_elem? views j ≡ some w → v.own ≡ Some n → w.own ≡ Some n → i ≡ j
  pub counts : Counts z ws views
  pub asked : Asked z ws views

-- what the closed words say, with the view that has every seat
pub record Closes (z : Setting) (ws : List ℕ) (v : View) : Type 0 where
  pub small : Small z
  pub size : length ws ≡ word_count z
  pub setting : v.setting ≡ z
  pub rows : Transitions z ws
  pub states : States z ws
  pub true_now : IsTrueOf z ws v
  pub asked_states : (n : ℕ) → Published z ws n → (a : Ask) × IsMadeOf z a (content z ws n) × In a v.asked
  pub asked_rows : (q : ℕ) → q < z.rows → slice_index ws (row_at z q) ≢ 0 → In (ask_of z ws (key_of (slice_index ws (row_at z q)))) v.asked
  pub held : (j : ℕ) → 1 ≤ j → j < row_at z z.rows → slice_index ws j ≢ 0 → In (j, slice_index ws j) v.places
  pub few : published z ws ≤ z.states
  pub used_up : v.used_up ≡ true → z.states < published z ws + z.workers
  pub full : v.row_full ≡ true → z.rows ≢ 0 → Full z ws v
