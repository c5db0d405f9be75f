-- Keys of single calls, and what goes on to hold of them while a view grows.
use Rattle.std.proofs.Common.{◌≡◌, ℕ, ◌+◌, ◌*◌, ◌/◌, ◌<◌, ◌≤◌, List, sym, ap, subst, ◌∙◌, inl, inr, arith}
use Rattle.sel_items.specs.declared.items.Items.{Items}
use Rattle.sel_items.specs.Follows.{Follows}
use Rattle.sel_law.specs.declared.Setting.{Setting}
use Rattle.sel_law.specs.declared.Ask.{Ask}
use Rattle.sel_law.specs.declared.View.{View}
use Rattle.sel_law.specs.Words.{In, ArePacked, HasPackedKids, IsKey, items_of, kids_of, operator_of, left_of, right_of, EachKid}
use Rattle.sel_law.specs.Kinds.{HeldNumber, HeldWhole, HeldKey, WalkedStates}
use Rattle.sel_law.proofs.Grow.{each_kid_map, ask_same}
use Rattle.sel_law.proofs.Packed.{items_same}
use Rattle.sel_rows.specs.declared.snapshot.Key.{Key}
use Rattle.sel_rows.specs.declared.pass.Pass.{Pass}
use Rattle.sel_rows.specs.Calls.{number_of_key, IsReadableKey, ask_of_key, Say, FindsState, IsBehindStates, FollowsFromAsked, IsBehindKeys}
use Rattle.sel_rows.specs.declared.found.Found.{Found}
use Rattle.sel_rows.specs.declared.found.Found.TheVariants.{Number, Absent}
use Rattle.sel_rows.specs.FoundState.{HoldsContent, FoundState}
use Rattle.sel_rows.specs.Grown.{Grown}
use Rattle.sel_rows.specs.Held.{held_content, held_ask}
use Rattle.sel_rows.specs.Meanings.{HoldsItems}
use Rattle.sel_rows.specs.Told.{pass_view, standing_of}
use Rattle.sel_items.specs.Entries.{item_at}
use Rattle.sel_items.specs.Words.{IsPackable, FitsWords}
use Rattle.sel_rows.proofs.Contents.{content_stays, holds_stays, is_whole}
use Rattle.sel_rows.proofs.Growth.{walked_states_grown, walked_row_grown}
use Rattle.sel_rows.proofs.Keys.{held_kid, held_by, packed_by}

-- what the number of a readable key gives
pub record ReadKey (v : View) (k : Key) (x : ℕ) : Type 0 where
  pub key : IsKey x
  pub small : x < 281474976710656
  pub operator : operator_of x ≡ k.operator
  pub kids : kids_of x ≡ k.kids
  pub left : left_of x ≡ k.left
  pub right : right_of x ≡ k.right
  pub held : HeldKey v x (held_ask v x)
  pub packed : HasPackedKids (held_ask v x)

pub read_key : (v : View) (k : Key) → k.operator < 256 → k.left < 65536 → k.right < 65536 → IsReadableKey v k → ReadKey v k (number_of_key k)
read_key v k ho hl hr h =
    let operator = k.operator in
    let kids = k.kids in
    let l = k.left in
    let r = k.right in
    let few : kids ≤ 2 = h.kids in
    let x : ℕ = (3 * operator + kids + 1) * 4294967296 + l * 65536 + r in
    let top : x / 4294967296 ≡ 3 * operator + kids + 1 = omega arith in
    let o : operator_of x ≡ operator = omega arith in
    let n : kids_of x ≡ kids = omega arith in
    let el : left_of x ≡ l = omega arith in
    let er : right_of x ≡ r = omega arith in
    record {
      key = (omega arith, (λ le. er ∙ h.right (omega arith)), omega arith);
      small = omega arith;
      operator = o;
      kids = n;
      left = el;
      right = er;
      held = held_by v x operator l r o el er kids n (each_kid_map (λ m. (i : Items) × HoldsItems v m i) (λ m. HeldNumber v m × HeldWhole v m (held_content v m)) kids l r (λ m i. held_kid v m i.0 i.1) h.held);
      packed = packed_by v x operator l r o el er kids n (each_kid_map (λ m. (i : Items) × HoldsItems v m i) (λ m. ArePacked (held_content v m)) kids l r (λ m i. (i.1).packed) h.held);
    }

-- a number that holds the words of an item set that fits holds the item set
pub holds_of_content : (v : View) (n : ℕ) (c : List ℕ) (i : Items) → HoldsContent v c n → ArePacked c → items_of c ≡ i → FitsWords i → HoldsItems v n i
holds_of_content v n c i h packed says fits = record {
  below = h.below;
  number = h.number;
  whole = is_whole v n c h.whole;
  packed = subst ArePacked (sym h.content_is) packed;
  items = sym says ∙ ap items_of (sym h.content_is);
  fits = fits;
}

-- an item set each of whose entries has a word fits words
pub fits_of_packable : (i : Items) → ((n : ℕ) → IsPackable (item_at i.entries n)) → FitsWords i
fits_of_packable i h n item e = (subst IsPackable e (h n)).0

-- what a walk for the words of an item set found
pub finds_state : (u v : View) (c : List ℕ) (i : Items) → Say c i → FitsWords i → (s : Found) → FoundState u v c s → FindsState u v i s
finds_state u v c i say fits (Number n) h = holds_of_content v n c i h say.packed say.says fits
finds_state u v c i say fits (Absent p) h = inr (c, say, h)

-- a place behind other states is behind other contents
pub walked_for : (v : View) (i : Items) (p : ℕ) (c : List ℕ) → Say c i → IsBehindStates v i p → WalkedStates v c p
walked_for v i p c say h =
    let same : h.1.0 ≡ c = items_same h.1.0 c (h.1.1).packed say.packed ((h.1.1).says ∙ sym say.says) in
    subst (λ d. WalkedStates v d p) same h.1.2

pub standing_kept : (asks : List Ask) (s t : Pass) → t.hand.rows ≡ s.hand.rows → Grown asks (pass_view s) (pass_view t) → standing_of t ≡ standing_of s
standing_kept asks s t same g = λ i. record {
  table = (same i).now.table.shared.table_id;
  setting = (same i).now.table.shared.key;
  seats = g.seats.0 i;
  rest = g.seats.1 i;
}

module _ (asks : List Ask) (v w : View) (g : Grown asks v w) where
  pub readable_key_grown : (k : Key) → IsReadableKey v k → IsReadableKey w k
  readable_key_grown k h = record {
    kids = h.kids;
    right = h.right;
    held = each_kid_map (λ m. (i : Items) × HoldsItems v m i) (λ m. (i : Items) × HoldsItems w m i) k.kids k.left k.right (λ m i. (i.0, holds_stays asks v w g m i.0 i.1)) h.held;
  }

  -- the key by what is held of its kids stays the same
  pub ask_stays : (k : Key) → k.operator < 256 → k.left < 65536 → k.right < 65536 → IsReadableKey v k → ask_of_key w k ≡ ask_of_key v k
  ask_stays k ho hl hr h =
      let r = read_key v k ho hl hr h in
      let x = number_of_key k in
      ask_same (held_content w) (held_content v) x
      (subst (λ (t : ℕ × ℕ × ℕ). EachKid (λ n. held_content w n ≡ held_content v n) t.0 t.1 t.2) (λ i. (sym r.kids i, sym r.left i, sym r.right i))
      (each_kid_map (λ m. (i : Items) × HoldsItems v m i) (λ n. held_content w n ≡ held_content v n) k.kids k.left k.right (λ m i. content_stays asks v w g m (i.1).whole) h.held))

  pub behind_states_grown : (i : Items) (p : ℕ) → IsBehindStates v i p → IsBehindStates w i p
  behind_states_grown i p h = (
    subst (λ (s : Setting). p < 2 * s.states) (sym g.setting) h.0,
    (h.1.0, h.1.1, (walked_states_grown asks v w g h.1.0 p h.1.2).0),
  )

  pub behind_keys_grown : (k : Key) (p : ℕ) → k.operator < 256 → k.left < 65536 → k.right < 65536 → IsReadableKey v k → IsBehindKeys v k p → IsBehindKeys w k p
  behind_keys_grown k p ho hl hr r (inl h) = inl (ap (λ (s : Setting). s.rows) g.setting ∙ h.0, h.1)
  behind_keys_grown k p ho hl hr r (inr h) = inr (
    subst (λ (s : Setting). p < s.rows) (sym g.setting) h.0,
    (walked_row_grown asks v w g (number_of_key k) p h.1).0,
    subst (λ (a : Ask). In a w.asked) (sym (ask_stays k ho hl hr r)) (g.asked (ask_of_key v k) h.2),
  )

  pub follows_asked_grown : (i : Items) → FollowsFromAsked v i → FollowsFromAsked w i
  follows_asked_grown i h = (h.0, (h.1.0, g.asked h.1.0 h.1.1, h.1.2), subst (λ (s : Setting). Follows s.normal.value h.0 i) (sym g.setting) h.2)
