-- What a call that labels a node tells, shown for each of the five ways.
use Rattle.std.proofs.Common.{◌≡◌, ℕ, ◌<◌, ◌≤◌, ◌↔◌, ◌⊎◌, inl, inr, Bool, true, false, Option, Some, None, List, [], ◌∷◌, ◌++◌, length, slice_get, map, nat_lt, if◌then◌else◌, refl, sym, ap, subst, ◌∙◌, arith, ltb-true, ltb-false}
use Rattle.std.proofs.lemmas.List.{append-nil}
use Rattle.std.proofs.lemmas.Option.{slice_get_within, slice_get-map}
use Rattle.std.specs.Option.{option_map}
use Rattle.sel_items.specs.declared.items.Items.{Items}
use Rattle.sel_items.specs.declared.label.Label.{Label}
use Rattle.sel_items.specs.declared.label.Label.TheVariants.{Numbered, Plain}
use Rattle.sel_items.specs.Follows.{NodeKey, key_of, Follows}
use Rattle.sel_items.specs.Labels.{KidsAre}
use Rattle.sel_items.specs.Laws.{FollowsIsOne}
use Rattle.sel_auto.specs.declared.key.StateKey.{StateKey}
use Rattle.sel_auto.specs.Sets.{IsAmong, AreDifferent}
use Rattle.sel_auto.specs.Keys.{numbered_key}
use Rattle.sel_auto.specs.Tables.{Tables, Means, IsKept, IsTransition, keys_with, with_evaluation, with_plain, with_state, with_key, with_used_up}
use Rattle.sel_auto.specs.TableChanges.{HasNoNumber, KeepsStates, KeepsKeys, FollowsKids}
use Rattle.sel_auto.proofs.Cases.{Way, over_plain, hit, found, added, unnumbered}
use Rattle.sel_auto.proofs.Growth.{some_same, get_last, IsAmong-push}
use Rattle.sel_auto.proofs.KeyFacts.{key_facts}

-- what is known of the tables before the call
pub record Before (t : Tables) : Type 0 where
  pub within : length t.keys ≤ t.most_keys
  pub sets : AreDifferent t.states
  pub differ : AreDifferent (map (λ e. e.0) t.keys)
  pub follow : (key : StateKey) (n : ℕ) → IsKept t key n → IsTransition t.normal t.states key n
  pub one : FollowsIsOne

-- the longer list of keys
pub record Grown (t s : Tables) : Type 0 where
  pub more_states : List Items
  pub states : s.states ≡ t.states ++ more_states
  pub more_keys : List (StateKey × ℕ)
  pub keys : s.keys ≡ t.keys ++ more_keys
  pub more_plain : List Items
  pub plain : s.plain ≡ t.plain ++ more_plain

module _ (t : Tables) (operator class : ℕ) (a b : Option Label) where
  -- a fact of the new tables and the label, from its five cases
  module _ (P : Tables → Label → Type 0)
      (plain_case : (i : Items) → numbered_key operator class a b ≡ None → FollowsKids t operator class a b i → P (with_plain (with_evaluation t) i) (Plain (length t.plain)))
      (hit_case : (key : StateKey) (n : ℕ) → numbered_key operator class a b ≡ Some key → IsKept t key n → P t (Numbered n))
      (found_case : (key : StateKey) (i : Items) (n : ℕ) → numbered_key operator class a b ≡ Some key → ((m : ℕ) → IsKept t key m → ⊥) → FollowsKids t operator class a b i → slice_get t.states n ≡ Some i → P (with_key (with_evaluation t) key n) (Numbered n))
      (added_case : (key : StateKey) (i : Items) → numbered_key operator class a b ≡ Some key → ((m : ℕ) → IsKept t key m → ⊥) → FollowsKids t operator class a b i → (IsAmong t.states i → ⊥) → length t.states < t.most_states → P (with_key (with_state (with_evaluation t) i) key (length t.states)) (Numbered (length t.states)))
      (full_case : (key : StateKey) (i : Items) → numbered_key operator class a b ≡ Some key → ((m : ℕ) → IsKept t key m → ⊥) → FollowsKids t operator class a b i → (IsAmong t.states i → ⊥) → length t.states ≡ t.most_states → P (with_used_up (with_plain (with_evaluation t) i)) (Plain (length t.plain)))
    where
      at : (s new : Tables) (k l : Label) → new ≡ s → l ≡ k → P s k → P new l
      at s new k l e f h = subst (λ (x : Tables). P x l) (sym e) (subst (P s) (sym f) h)

      pub each : (new : Tables) (before after : ℕ) (l : Label) → Way t new before after operator class a b l → P new l
      each new before after l (over_plain e w s) = at _ new _ l w.tables w.label (plain_case w.items e w.follows)
      each new before after l (hit key e w s) = at _ new _ l w.same w.label (hit_case key w.number e w.kept)
      each new before after l (found key i m w) = at _ new _ l w.tables w.label (found_case key i w.number m.is_key m.missing m.follows w.stands)
      each new before after l (added key i m w) = at _ new _ l w.tables w.label (added_case key i m.is_key m.missing m.follows w.fresh w.room)
      each new before after l (unnumbered key i m w) = at _ new _ l w.tables w.label (full_case key i m.is_key m.missing m.follows w.fresh w.full)

  -- keys and room
  pub keys_split : (key : StateKey) (n : ℕ) (x : StateKey × ℕ) → IsAmong (keys_with t key n) x → IsAmong t.keys x ⊎ ◌≡◌ {A = StateKey × ℕ} x (key, n)
  keys_split key n x = by (nat_lt (length t.keys) t.most_keys)
    where
      by : (c : Bool) → IsAmong (if c then t.keys ++ (key, n) ∷ [] else t.keys) x → IsAmong t.keys x ⊎ ◌≡◌ {A = StateKey × ℕ} x (key, n)
      by true h = IsAmong-push t.keys (key, n) x h
      by false h = inl h

  pub keys_more : (key : StateKey) (n : ℕ) → (more : List (StateKey × ℕ)) × (keys_with t key n ≡ t.keys ++ more)
  keys_more key n = by (nat_lt (length t.keys) t.most_keys)
    where
      by : (c : Bool) → (more : List (StateKey × ℕ)) × ((if c then t.keys ++ (key, n) ∷ [] else t.keys) ≡ t.keys ++ more)
      by true = ((key, n) ∷ [], refl)
      by false = ([], sym (append-nil t.keys))

  -- where the mark stays away the key is kept
  pub keys_kept : (key : StateKey) (n : ℕ) → (if nat_lt (length t.keys) t.most_keys then t.row_full else true) ≡ false → IsAmong (keys_with t key n) (key, n)
  keys_kept key n = by (nat_lt (length t.keys) t.most_keys)
    where
      by : (c : Bool) → (if c then t.row_full else true) ≡ false → IsAmong (if c then t.keys ++ (key, n) ∷ [] else t.keys) (key, n)
      by true h = (length t.keys, get_last t.keys (key, n))
      by false h = absurd (cc)

  pub full_mark : (N H : Type 0) → N → H → length t.keys ≤ t.most_keys → ((if nat_lt (length t.keys) t.most_keys then t.row_full else true) ≡ true) ↔ ((t.row_full ≡ true) ⊎ (N × H × (length t.keys ≡ t.most_keys)))
  full_mark N H n h within = by (nat_lt (length t.keys) t.most_keys) refl
    where
      none_left : (c : Bool) → nat_lt (length t.keys) t.most_keys ≡ c → c ≡ true → length t.keys ≡ t.most_keys → ⊥
      none_left c e f q = let l : length t.keys < t.most_keys = ltb-true (length t.keys) t.most_keys (e ∙ f) in absurd (omega arith)

      back : (length t.keys ≡ t.most_keys → ⊥) → (t.row_full ≡ true) ⊎ (N × H × (length t.keys ≡ t.most_keys)) → t.row_full ≡ true
      back none (inl k) = k
      back none (inr q) = absurd (none q.2)

      full : (c : Bool) → nat_lt (length t.keys) t.most_keys ≡ c → c ≡ false → length t.keys ≡ t.most_keys
      full c e f = let l : t.most_keys ≤ length t.keys = ltb-false (length t.keys) t.most_keys (e ∙ f) in omega arith

      by : (c : Bool) → nat_lt (length t.keys) t.most_keys ≡ c → ((if c then t.row_full else true) ≡ true) ↔ ((t.row_full ≡ true) ⊎ (N × H × (length t.keys ≡ t.most_keys)))
      by true e = (λ k. inl k, λ q. back (none_left true e refl) q)
      by false e = (λ k. inr (n, h, full false e refl), λ q. refl)

  module _ (before_call : Before t) where
    -- the states of a kept key, and what follows from them
    pub follows_kept : (kids : List Items) (key : StateKey) (n : ℕ) → KidsAre (Means t) a b kids → numbered_key operator class a b ≡ Some key → (kept : IsKept t key n) → Follows t.normal (key_of operator class kids) (before_call.follow key n kept).items
    follows_kept kids key n h e kept =
        let own = before_call.follow key n kept in
        subst (λ (k : NodeKey). Follows t.normal k own.items) ((key_facts t operator class a b kids key e h).node) own.follows

    pub within_kept : (key : StateKey) (n : ℕ) → IsKept t key n → n < length t.states
    within_kept key n kept = let own = before_call.follow key n kept in slice_get_within t.states n own.items own.stands

    -- a key has one number
    pub one_number : (key : StateKey) (m n : ℕ) → IsKept t key m → IsKept t key n → m ≡ n
    one_number key m n h k =
        let key_at : (i v : ℕ) → slice_get t.keys i ≡ Some (key, v) → slice_get (map (λ (e : StateKey × ℕ). e.0) t.keys) i ≡ Some key = λ i v e. slice_get-map (λ (p : StateKey × ℕ). p.0) t.keys i ∙ ap (option_map (λ (p : StateKey × ℕ). p.0)) e in
        let place : h.0 ≡ k.0 = before_call.differ h.0 k.0 key (key_at h.0 m h.1) (key_at k.0 n k.1) in
        ap (λ (p : StateKey × ℕ). p.1) (some_same (key, m) (key, n) (sym h.1 ∙ ap (slice_get t.keys) place ∙ k.1))

    pub states_kept : (new : Tables) (before after : ℕ) (l : Label) → Way t new before after operator class a b l → KeepsStates t new l
    states_kept = each (KeepsStates t) (λ i e f. refl) (λ key n e kept. inl (within_kept key n kept, refl)) (λ key i n e m f s. inl (slice_get_within t.states n i s, refl)) (λ key i e m f fresh room. inr (refl, (i, refl))) (λ key i e m f fresh full. refl)

    pub keys_changed : (new : Tables) (before after : ℕ) (l : Label) → Way t new before after operator class a b l → HasNoNumber t operator class a b → KeepsKeys t new (numbered_key operator class a b) l
    keys_changed = each (λ s l. HasNoNumber t operator class a b → KeepsKeys t s (numbered_key operator class a b) l)
        (λ i e f none. subst (λ o. KeepsKeys t (with_plain (with_evaluation t) i) o (Plain (length t.plain))) (sym e) refl)
        (λ key n e kept none. absurd (none n (key, e, kept)))
        (λ key i n e m f s none. subst (λ o. KeepsKeys t (with_key (with_evaluation t) key n) o (Numbered n)) (sym e) refl)
        (λ key i e m f fresh room none. subst (λ o. KeepsKeys t (with_key (with_state (with_evaluation t) i) key (length t.states)) o (Numbered (length t.states))) (sym e) refl)
        (λ key i e m f fresh full none. subst (λ o. KeepsKeys t (with_used_up (with_plain (with_evaluation t) i)) o (Plain (length t.plain))) (sym e) refl)

pub known_before_call : (t : Tables) (kept : ℕ) → kept ≡ length t.keys → kept ≤ t.most_keys → AreDifferent t.states → AreDifferent (map (λ e. e.0) t.keys) → ((key : StateKey) (n : ℕ) → IsKept t key n → IsTransition t.normal t.states key n) → FollowsIsOne → Before t
known_before_call t kept e within sets differ follow one = record { within = omega arith; sets = sets; differ = differ; follow = follow; one = one }
