-- What each kind of step does to the seat's own view.
use Rattle.std.specs.Prelude.{◌≡◌, ◌≢◌, ℕ, suc, zero, ◌+◌, ◌-◌, ◌*◌, ◌<◌, ◌≤◌, Bool, true, false, cond, ◌==◌, nat_lt, List, [], ◌∷◌, ◌++◌, length, slice_index, take, Some, None, ◌||◌, ◌&&◌, not, ◌⊎◌}
use Rattle.sel_law.specs.declared.Setting.{Setting}
use Rattle.sel_law.specs.declared.Ask.{Ask}
use Rattle.sel_law.specs.declared.View.{View}
use Rattle.sel_law.specs.Words.{IsMadeOf, key_home, content_home, In, walk, intern_at, row_at, key_of, number_of, kids_of, left_of, right_of, ask_by, EachKid, word_of}
use Rattle.sel_law.specs.Law.{own_count}

abbrev pub first_view : Setting → View
first_view z = record {
  setting = z;
  steps = 0;
  last = (0, 0, 0);
  places = [];
  contents = [];
  asked = [];
  known = [];
  own = None;
  draft = [];
  seats = 1;
  rest = z.workers - 1;
  dropped = 0;
  past = 0;
  used_up = false;
  row_full = false;
}

-- the keys `asks` join those that were asked, at any step
abbrev pub asking : View → List Ask → View
asking v asks = record v { steps = v.steps + 1; asked = v.asked ++ asks }

-- a word that was read
abbrev pub seen : View → List Ask → ℕ → ℕ → View
seen v asks place found = record v { steps = v.steps + 1; last = (v.steps + 1, place, found); places = cond (found == 0) v.places (v.places ++ (place, found) ∷ []); asked = v.asked ++ asks }

-- a number was drawn: the view's own where it is below the bound, else one past it
abbrev pub drew_as : Bool → View → List Ask → ℕ → View
drew_as true v asks found = record v { steps = v.steps + 1; asked = v.asked ++ asks; own = Some found; draft = [] }
drew_as false v asks found = record v { steps = v.steps + 1; asked = v.asked ++ asks; past = v.past + 1; used_up = true }

abbrev pub drew : View → List Ask → ℕ → View
drew v asks found = drew_as (nat_lt found v.setting.states) v asks found

-- a content word of the own number was stored
abbrev pub drafted : View → List Ask → ℕ → ℕ → ℕ → View
drafted v asks place i w = record v { steps = v.steps + 1; last = (v.steps + 1, place, w); asked = v.asked ++ asks; draft = take i v.draft ++ w ∷ [] }

-- an entry of a published number's content was read
abbrev pub read_entry : View → List Ask → ℕ → ℕ → ℕ → ℕ → View
read_entry v asks place n i found = record v { steps = v.steps + 1; last = (v.steps + 1, place, found); contents = v.contents ++ (n, i, found) ∷ []; asked = v.asked ++ asks }

-- the entries of n, from the i-th on
abbrev pub entries : ℕ → ℕ → List ℕ → List (ℕ × ℕ × ℕ)
entries n i [] = []
entries n i (w ∷ ws) = (n, i, w) ∷ entries n (i + 1) ws

-- the own number was published
abbrev pub stood : View → List Ask → ℕ → ℕ → View
stood v asks place n = record v { steps = v.steps + 1; last = (v.steps + 1, place, n + 1); places = v.places ++ (place, n + 1) ∷ []; contents = v.contents ++ entries n 0 v.draft; asked = v.asked ++ asks; own = None; draft = [] }

abbrev pub stood_as : Bool → View → List Ask → ℕ → ℕ → ℕ → View
stood_as true v asks place n found = stood v asks place n
stood_as false v asks place n found = seen v asks place found

-- a seat was split off, or another view's joined
abbrev pub left_view : View → View
left_view v = record v { steps = v.steps + 1; rest = v.rest - 1 }

abbrev pub new_view : View → View
new_view v = record v { steps = 0; last = (0, 0, 0); own = None; draft = []; seats = 1; rest = 0; dropped = 0; past = 0 }

abbrev pub both_views : View → View → View
both_views v w = record v {
  steps = v.steps + w.steps + 1;
  places = v.places ++ w.places;
  contents = v.contents ++ w.contents;
  asked = v.asked ++ w.asked;
  known = v.known ++ w.known;
  seats = v.seats + w.seats;
  rest = v.rest + w.rest;
  dropped = v.dropped + w.dropped + own_count w.own;
  past = v.past + w.past;
  used_up = v.used_up || w.used_up;
  row_full = v.row_full || w.row_full;
}

-- a number is held as published: an intern word holds it, or a known key has it
abbrev pub HeldNumber : View → ℕ → Type 0
HeldNumber v n = ((p : ℕ) × (p < 2 * v.setting.states) × In (intern_at p, n + 1) v.places) ⊎ ((a : Ask) × In (a, n) v.known)

-- of each entry of a number one word is held at most
abbrev pub OneContent : View → Type 0
OneContent v = (n i w u : ℕ) → In (n, i, w) v.contents → In (n, i, u) v.contents → w ≡ u

-- its content c is held whole
abbrev pub HeldWhole : View → ℕ → List ℕ → Type 0
HeldWhole v n c = (length c ≡ v.setting.width) × ((i : ℕ) → i < v.setting.width → In (n, i, slice_index c i) v.contents)

-- of the key c is made, and no other content
abbrev pub OnlyMadeOf : Setting → Ask → List ℕ → Type 0
OnlyMadeOf z a c = (d : List ℕ) → IsMadeOf z a d → d ≡ c

-- The number is held as published, with the content c: each word of it is held, or the number is known for a key of which only c is made.
abbrev pub HasContent : View → ℕ → List ℕ → Type 0
HasContent v n c = (HeldNumber v n × HeldWhole v n c) ⊎ ((a : Ask) × In (a, n) v.known × OnlyMadeOf v.setting a c)

-- a content is that of one number at most
abbrev pub OneNumber : View → Type 0
OneNumber v = (m n : ℕ) (c : List ℕ) → HasContent v m c → HasContent v n c → m ≡ n

-- an intern word is held, and its number has another content
abbrev pub OtherState : View → List ℕ → ℕ → Type 0
OtherState v c p = (m i w : ℕ) × In (intern_at p, m + 1) v.places × In (m, i, w) v.contents × (w ≢ slice_index c i)

-- a transition word is held, and it has another key
abbrev pub OtherKey : View → ℕ → ℕ → Type 0
OtherKey v x q = (w : ℕ) × In (row_at v.setting q, w) v.places × (key_of w ≢ x)

-- the words from home to the place are held with others
abbrev pub WalkedStates : View → List ℕ → ℕ → Type 0
WalkedStates v c p = (d : ℕ) × (d < 2 * v.setting.states) × (p ≡ walk (2 * v.setting.states) (content_home v.setting c) d) × ((j : ℕ) → j < d → OtherState v c (walk (2 * v.setting.states) (content_home v.setting c) j))

abbrev pub WalkedRow : View → ℕ → ℕ → Type 0
WalkedRow v x q = (d : ℕ) × (d < v.setting.rows) × (q ≡ walk v.setting.rows (key_home v.setting x) d) × ((j : ℕ) → j < d → OtherKey v x (walk v.setting.rows (key_home v.setting x) j))

-- a key is held: its kids are held whole, and a is the key by their contents
pub record HeldKey (v : View) (x : ℕ) (a : Ask) : Type 0 where
  pub contents_of : ℕ → List ℕ
  pub kids : EachKid (λ n. HeldNumber v n × HeldWhole v n (contents_of n)) (kids_of x) (left_of x) (right_of x)
  pub ask : a ≡ ask_by contents_of x

-- some word that is held at this place has another key
abbrev pub other_at : List (ℕ × ℕ) → ℕ → ℕ → Bool
other_at [] place x = false
other_at (e ∷ es) place x = ((e.0 == place) && not (key_of e.1 == x)) || other_at es place x

-- the first k words of the row are held with other keys
abbrev pub all_other : Setting → List (ℕ × ℕ) → ℕ → ℕ → Bool
all_other z ps x zero = true
all_other z ps x (suc k) = other_at ps (row_at z k) x && all_other z ps x k

abbrev pub is_hit : ℕ → ℕ → Bool
is_hit x found = not (found == 0) && (key_of found == x)

-- a transition word was read for the key x, which is a by item sets, where c is the content of the number that is found
abbrev pub looked : View → List Ask → ℕ → Ask → List ℕ → ℕ → ℕ → View
looked v asks x a c place found = record v {
  steps = v.steps + 1;
  last = (v.steps + 1, place, found);
  places = cond (found == 0) v.places (v.places ++ (place, found) ∷ []);
  asked = v.asked ++ asks;
  contents = cond (is_hit x found) (v.contents ++ entries (number_of found) 0 c) v.contents;
  known = cond (is_hit x found) (v.known ++ (a, number_of found) ∷ []) v.known;
  row_full = v.row_full || all_other v.setting (cond (found == 0) v.places (v.places ++ (place, found) ∷ [])) x v.setting.rows;
}

-- a transition was published, or the word found in its place
abbrev pub placed : View → List Ask → ℕ → Ask → ℕ → ℕ → View
placed v asks x a place n = record v {
  steps = v.steps + 1;
  last = (v.steps + 1, place, word_of x n);
  places = v.places ++ (place, word_of x n) ∷ [];
  asked = v.asked ++ asks;
  known = v.known ++ (a, n) ∷ [];
}

abbrev pub placed_as : Bool → View → List Ask → ℕ → Ask → List ℕ → ℕ → ℕ → ℕ → View
placed_as true v asks x a c place n found = placed v asks x a place n
placed_as false v asks x a c place n found = looked v asks x a c place found

-- what a look at a transition word with the key tells of the number's content c
abbrev pub Learns : View → ℕ → Ask → List ℕ → ℕ → Type 0
Learns v x a c found = is_hit x found ≡ true → IsMadeOf v.setting a c × (number_of found < v.setting.states)

-- what a look at a transition word tells of a key that is known: no 0 stands before its word, and its word has its number
abbrev pub Tells : View → ℕ → Ask → ℕ → ℕ → Type 0
Tells v x a place found = (n q : ℕ) → In (a, n) v.known → place ≡ row_at v.setting q → WalkedRow v x q → (found ≢ 0) × (key_of found ≡ x → number_of found ≡ n)

-- where the key is known, the mark of a full row isn't set
abbrev pub Stays : View → Ask → View → Type 0
Stays v a w = (n : ℕ) → In (a, n) v.known → w.row_full ≡ true → v.row_full ≡ true

-- every transition word is held with another key
abbrev pub AllOther : View → ℕ → Type 0
AllOther v x = (q : ℕ) → q < v.setting.rows → OtherKey v x q

-- what a transition word that is found tells of the mark of a full row: where it is free there is none, and where it has the key not every word is another's
pub record Marks (v : View) (x found : ℕ) (w : View) : Type 0 where
  pub free : found ≡ 0 → w.row_full ≡ false
  pub alone : is_hit x found ≡ true → AllOther v x → ⊥

-- the intern words are not all in use
abbrev pub NotAll : View → ℕ → ℕ → Type 0
NotAll v place found = found ≢ 0 → 1 ≤ v.setting.states → ((p : ℕ) → p < 2 * v.setting.states → (intern_at p ≡ place) ⊎ ((w : ℕ) × In (intern_at p, w) v.places)) → ⊥

-- what a look at an intern word tells of a number's content: no 0 stands on its walk before its number
abbrev pub TellsStates : View → ℕ → ℕ → Type 0
TellsStates v place found = (c : List ℕ) (n q : ℕ) → HasContent v n c → place ≡ intern_at q → WalkedStates v c q → found ≢ 0

-- a number that an intern word holds is below S
abbrev pub Below : View → ℕ → ℕ → Type 0
Below v place found = place ≤ 2 * v.setting.states → found ≤ v.setting.states
