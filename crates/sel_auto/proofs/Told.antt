-- What the clauses of a call that labels a node say, shown for each way.
use Rattle.std.proofs.Common.{◌≡◌, ℕ, ◌+◌, ◌<◌, ◌≤◌, ◌↔◌, Bool, nat_lt, if◌then◌else◌, ◌⊎◌, inl, inr, true, false, Option, Some, List, [], ◌∷◌, ◌++◌, length, slice_get, refl, sym, ap, subst, ◌∙◌, arith}
use Rattle.std.proofs.lemmas.List.{append-nil, length_push}
use Rattle.sel_items.specs.declared.items.Items.{Items}
use Rattle.sel_items.specs.declared.label.Label.{Label}
use Rattle.sel_items.specs.declared.label.Label.TheVariants.{Numbered, Plain}
use Rattle.sel_items.specs.Follows.{NodeKey, key_of, Follows}
use Rattle.sel_items.specs.Labels.{IsPlain, IsNumbered, AreNumbered, KidsAre}
use Rattle.sel_items.specs.Automata.{IsLabelled, IsOwnKey, KeepsMark}
use Rattle.sel_auto.specs.declared.key.StateKey.{StateKey}
use Rattle.sel_auto.specs.Sets.{IsAmong}
use Rattle.sel_auto.specs.Keys.{numbered_key}
use Rattle.sel_auto.specs.Tables.{Tables, Means, IsKept, IsKnown, told_of, limits_of, node_key, one_more, with_evaluation, with_plain, with_state, with_key, with_used_up}
use Rattle.sel_auto.specs.TableChanges.{IsKeptFor, HasNoNumber, IsLeftWithout, KeepsPlain, FollowsKids, IsRefused}
use Rattle.sel_auto.proofs.Cases.{Way, over_plain, hit, found, added, unnumbered}
use Rattle.sel_auto.proofs.Growth.{some_same, get_kept, get_last, get_split, IsAmong-kept, IsAmong-push}
use Rattle.sel_auto.proofs.KeyFacts.{key_facts}
use Rattle.sel_auto.proofs.Lawful.{node_key-grown}
use Rattle.sel_auto.proofs.Numbering.{numbered_by_key, plain_without_key}
use Rattle.sel_auto.proofs.Ways.{Before, Grown, each, keys_split, keys_more, keys_kept, full_mark, follows_kept, one_number}

module _ (t : Tables) (operator class : ℕ) (a b : Option Label) (before_call : Before t) where
  pub mark_full : (new : Tables) (before after : ℕ) (l : Label) → Way t new before after operator class a b l
      → (new.row_full ≡ true) ↔ ((t.row_full ≡ true) ⊎ (IsNumbered l × HasNoNumber t operator class a b × (length t.keys ≡ t.most_keys)))
  mark_full = each t operator class a b (λ s l. (s.row_full ≡ true) ↔ ((t.row_full ≡ true) ⊎ (IsNumbered l × HasNoNumber t operator class a b × (length t.keys ≡ t.most_keys))))
      (λ i e f. (λ h. inl h, λ q. unmarked q))
      (λ key n e kept. (λ h. inl h, λ q. unhit q (λ none. none n (key, e, kept))))
      (λ key i n e m f s. full_mark t operator class a b (Unit {0}) (HasNoNumber t operator class a b) tt (none_for key e m) before_call.within)
      (λ key i e m f fresh room. full_mark t operator class a b (Unit {0}) (HasNoNumber t operator class a b) tt (none_for key e m) before_call.within)
      (λ key i e m f fresh full. (λ h. inl h, λ q. unmarked q))
    where
      unmarked : (t.row_full ≡ true) ⊎ (⊥ × HasNoNumber t operator class a b × (length t.keys ≡ t.most_keys)) → t.row_full ≡ true
      unmarked (inl h) = h
      unmarked (inr q) = absurd q.0

      unhit : (t.row_full ≡ true) ⊎ (Unit {0} × HasNoNumber t operator class a b × (length t.keys ≡ t.most_keys)) → (HasNoNumber t operator class a b → ⊥) → t.row_full ≡ true
      unhit (inl h) no_none = h
      unhit (inr q) no_none = absurd (no_none q.1)

      none_for : (key : StateKey) → numbered_key operator class a b ≡ Some key → ((m : ℕ) → IsKept t key m → ⊥) → HasNoNumber t operator class a b
      none_for key e m n h =
          let same : Some h.0 ≡ Some key = sym h.1 ∙ e in
          let own : h.0 ≡ key = cc in
          m n (subst (λ (k : StateKey). IsKept t k n) own h.2)

  pub evaluations : (new : Tables) (before after : ℕ) (l : Label) → Way t new before after operator class a b l → HasNoNumber t operator class a b → new.evaluated ≡ one_more t.evaluated
  evaluations = each t operator class a b (λ s l. HasNoNumber t operator class a b → s.evaluated ≡ one_more t.evaluated)
      (λ i e f none. refl) (λ key n e kept none. absurd (none n (key, e, kept))) (λ key i n e m f s none. refl) (λ key i e m f fresh room none. refl) (λ key i e m f fresh full none. refl)

  pub plain_cause : (kids : List Items) → KidsAre (Means t) a b kids → (new : Tables) (before after : ℕ) (l : Label) → Way t new before after operator class a b l
      → IsPlain l ↔ ((AreNumbered a b → ⊥) ⊎ IsLeftWithout t (key_of operator class kids))
  plain_cause kids h = each t operator class a b (λ s l. IsPlain l ↔ ((AreNumbered a b → ⊥) ⊎ IsLeftWithout t (key_of operator class kids)))
      (λ i e f. (λ p. inl (plain_without_key operator class a b e), λ q. tt))
      (λ key n e kept. (λ p. absurd p, λ q. numbered (numbered_by_key operator class a b key e) (λ w. let own = before_call.follow key n kept in w.1 own.items (follows_kept t operator class a b before_call kids key n h e kept) (n, own.stands)) q))
      (λ key i n e m f s. (λ p. absurd p, λ q. numbered (numbered_by_key operator class a b key e) (λ w. w.1 i (f kids h) (n, s)) q))
      (λ key i e m f fresh room. (λ p. absurd p, λ q. numbered (numbered_by_key operator class a b key e) (λ w. let l = w.0 in absurd (omega arith)) q))
      (λ key i e m f fresh full. (λ p. inr (full, λ j g among. fresh (subst (IsAmong t.states) (before_call.one t.normal (key_of operator class kids) j i g (f kids h)) among)), λ q. tt))
    where
      numbered : AreNumbered a b → (IsLeftWithout t (key_of operator class kids) → ⊥) → (AreNumbered a b → ⊥) ⊎ IsLeftWithout t (key_of operator class kids) → ⊥
      numbered n w (inl p) = p n
      numbered n w (inr p) = w p

  pub labelled : (kids : List Items) → KidsAre (Means t) a b kids → (new : Tables) (before after : ℕ) (l : Label) → Way t new before after operator class a b l
      → IsLabelled (told_of new) operator class a b kids l
  labelled kids h = each t operator class a b (λ s l. IsLabelled (told_of s) operator class a b kids l)
      (λ i e f. record {
        items = i;
        meant = get_last t.plain i;
        follows = f kids h;
        numbered = λ p. absurd p;
        plain = λ p n. absurd (plain_without_key operator class a b e n);
        tabled = λ n u r w. absurd (plain_without_key operator class a b e n);
      })
      (λ key n e kept. let own = before_call.follow key n kept in record {
        items = own.items;
        meant = own.stands;
        follows = follows_kept t operator class a b before_call kids key n h e kept;
        numbered = λ p. (numbered_by_key operator class a b key e, (n, own.stands));
        plain = λ p. absurd p;
        tabled = λ m u r w. (tt, (key, n, kept, sym (key_facts t operator class a b kids key e h).node));
      })
      (λ key i n e m f s. record {
        items = i;
        meant = s;
        follows = f kids h;
        numbered = λ p. (numbered_by_key operator class a b key e, (n, s));
        plain = λ p. absurd p;
        tabled = λ q u r w. (tt, (key, n, keys_kept t operator class a b key n r, sym (key_facts t operator class a b kids key e h).node));
      })
      (λ key i e m f fresh room. let facts = key_facts t operator class a b kids key e h in record {
        items = i;
        meant = get_last t.states i;
        follows = f kids h;
        numbered = λ p. (numbered_by_key operator class a b key e, (length t.states, get_last t.states i));
        plain = λ p. absurd p;
        tabled = λ q u r w. (tt, (key, length t.states, keys_kept t operator class a b key (length t.states) r, sym (node_key-grown t.states (i ∷ []) key facts.first facts.second ∙ facts.node)));
      })
      (λ key i e m f fresh full. record {
        items = i;
        meant = get_last t.plain i;
        follows = f kids h;
        numbered = λ p. absurd p;
        plain = λ p n. inl refl;
        tabled = λ n u r w. absurd (let no : true ≡ false = u in cc);
      })

  pub mark_used : (new : Tables) (before after : ℕ) (l : Label) → Way t new before after operator class a b l → (new.used_up ≡ true) ↔ ((t.used_up ≡ true) ⊎ (IsPlain l × AreNumbered a b))
  mark_used = each t operator class a b (λ s l. (s.used_up ≡ true) ↔ ((t.used_up ≡ true) ⊎ (IsPlain l × AreNumbered a b)))
      (λ i e f. (λ h. inl h, λ q. over q (plain_without_key operator class a b e)))
      (λ key n e kept. (λ h. inl h, λ q. no_plain q))
      (λ key i n e m f s. (λ h. inl h, λ q. no_plain q))
      (λ key i e m f fresh room. (λ h. inl h, λ q. no_plain q))
      (λ key i e m f fresh full. (λ h. inr (tt, numbered_by_key operator class a b key e), λ q. refl))
    where
      over : (t.used_up ≡ true) ⊎ (Unit {0} × AreNumbered a b) → (AreNumbered a b → ⊥) → t.used_up ≡ true
      over (inl h) f = h
      over (inr q) f = absurd (f q.1)

      no_plain : (t.used_up ≡ true) ⊎ (⊥ × AreNumbered a b) → t.used_up ≡ true
      no_plain (inl h) = h
      no_plain (inr q) = absurd q.0

  pub plain_kept : (new : Tables) (before after : ℕ) (l : Label) → Way t new before after operator class a b l → KeepsPlain t new l
  plain_kept = each t operator class a b (KeepsPlain t) (λ i e f. (refl, (i, refl))) (λ key n e kept. refl) (λ key i n e m f s. refl) (λ key i e m f fresh room. refl) (λ key i e m f fresh full. (refl, (i, refl)))

  pub limits_kept : (new : Tables) (before after : ℕ) (l : Label) → Way t new before after operator class a b l → limits_of new ≡ limits_of t
  limits_kept = each t operator class a b (λ s l. limits_of s ≡ limits_of t) (λ i e f. refl) (λ key n e kept. refl) (λ key i n e m f s. refl) (λ key i e m f fresh room. refl) (λ key i e m f fresh full. refl)

  pub normal_kept : (new : Tables) (before after : ℕ) (l : Label) → Way t new before after operator class a b l → new.normal ≡ t.normal
  normal_kept = each t operator class a b (λ s l. s.normal ≡ t.normal) (λ i e f. refl) (λ key n e kept. refl) (λ key i n e m f s. refl) (λ key i e m f fresh room. refl) (λ key i e m f fresh full. refl)

  pub marks_kept : (new : Tables) (before after : ℕ) (l : Label) → Way t new before after operator class a b l → KeepsMark t.used_up new.used_up × KeepsMark t.row_full new.row_full
  marks_kept = each t operator class a b (λ s l. KeepsMark t.used_up s.used_up × KeepsMark t.row_full s.row_full)
      (λ i e f. (λ h. h, λ h. h)) (λ key n e kept. (λ h. h, λ h. h)) (λ key i n e m f s. (λ h. h, stays (nat_lt (length t.keys) t.most_keys))) (λ key i e m f fresh room. (λ h. h, stays (nat_lt (length t.keys) t.most_keys))) (λ key i e m f fresh full. (λ h. refl, λ h. h))
    where
      stays : (c : Bool) → KeepsMark t.row_full (if c then t.row_full else true)
      stays true h = h
      stays false h = refl

  pub plain_more : (new : Tables) (before after : ℕ) (l : Label) → Way t new before after operator class a b l → length new.plain ≤ length t.plain + 1
  plain_more = each t operator class a b (λ s l. length s.plain ≤ length t.plain + 1)
      (λ i e f. let q = length_push t.plain i in omega arith) (λ key n e kept. omega arith) (λ key i n e m f s. omega arith) (λ key i e m f fresh room. omega arith) (λ key i e m f fresh full. let q = length_push t.plain i in omega arith)

  -- tables grow only
  pub grown : (new : Tables) (before after : ℕ) (l : Label) → Way t new before after operator class a b l → Grown t new
  grown = each t operator class a b (λ s l. Grown t s)
      (λ i e f. record { more_states = []; states = sym (append-nil t.states); more_keys = []; keys = sym (append-nil t.keys); more_plain = i ∷ []; plain = refl })
      (λ key n e kept. record { more_states = []; states = sym (append-nil t.states); more_keys = []; keys = sym (append-nil t.keys); more_plain = []; plain = sym (append-nil t.plain) })
      (λ key i n e m f s. let k = keys_more t operator class a b key n in record { more_states = []; states = sym (append-nil t.states); more_keys = k.0; keys = k.1; more_plain = []; plain = sym (append-nil t.plain) })
      (λ key i e m f fresh room. let k = keys_more t operator class a b key (length t.states) in record { more_states = i ∷ []; states = refl; more_keys = k.0; keys = k.1; more_plain = []; plain = sym (append-nil t.plain) })
      (λ key i e m f fresh full. record { more_states = []; states = sym (append-nil t.states); more_keys = []; keys = sym (append-nil t.keys); more_plain = i ∷ []; plain = refl })

  pub grown_refused : (new : Tables) → IsRefused t new operator class a b → Grown t new
  grown_refused new r = by r.tables
    where
      at : (s : Tables) → new ≡ s → Grown t s → Grown t new
      at s e g = subst (Grown t) (sym e) g

      by : (new ≡ with_evaluation t) ⊎ ((i : Items) × FollowsKids t operator class a b i × AreNumbered a b × (IsAmong t.states i → ⊥) × (length t.states < t.most_states) × (new ≡ with_state (with_evaluation t) i)) → Grown t new
      by (inl e) = at _ e (record { more_states = []; states = sym (append-nil t.states); more_keys = []; keys = sym (append-nil t.keys); more_plain = []; plain = sym (append-nil t.plain) })
      by (inr e) = at _ e.5 (record { more_states = e.0 ∷ []; states = refl; more_keys = []; keys = sym (append-nil t.keys); more_plain = []; plain = sym (append-nil t.plain) })

  pub means_kept : (s : Tables) → Grown t s → (l : Label) (i : Items) → Means t l i → Means s l i
  means_kept s g (Numbered n) i h = subst (λ xs. slice_get xs n ≡ Some i) (sym g.states) (get_kept t.states g.more_states n i h)
  means_kept s g (Plain p) i h = subst (λ xs. slice_get xs p ≡ Some i) (sym g.plain) (get_kept t.plain g.more_plain p i h)

  pub held_kept : (s : Tables) → Grown t s → (i : Items) → IsAmong t.states i → IsAmong s.states i
  held_kept s g i h = subst (λ xs. IsAmong xs i) (sym g.states) (IsAmong-kept t.states g.more_states i h)

  pub known_kept : (s : Tables) → Grown t s → (k : NodeKey) → IsKnown t k → IsKnown s k
  known_kept s g k h =
      let own = before_call.follow h.0 h.1 h.2 in
      let node : node_key s.states h.0 ≡ node_key t.states h.0 = ap (λ xs. node_key xs h.0) g.states ∙ node_key-grown t.states g.more_states h.0 own.first own.second in
      (h.0, h.1, subst (λ es. IsAmong es (h.0, h.1)) (sym g.keys) (IsAmong-kept t.keys g.more_keys (h.0, h.1) h.2), h.3 ∙ sym node)

  -- a plain label that means something did so before, or is the call's own
  pub plain_meant : (new : Tables) (before after : ℕ) (l : Label) → Way t new before after operator class a b l → (m : Label) (i : Items) → IsPlain m → Means new m i → Means t m i ⊎ (m ≡ l)
  plain_meant = each t operator class a b (λ s l. (m : Label) (i : Items) → IsPlain m → Means s m i → Means t m i ⊎ (m ≡ l))
      (λ j e f. longer (with_plain (with_evaluation t) j) j refl)
      (λ key n e kept. same t (Numbered n) refl)
      (λ key j n e m f s. same (with_key (with_evaluation t) key n) (Numbered n) refl)
      (λ key j e m f fresh room. same (with_key (with_state (with_evaluation t) j) key (length t.states)) (Numbered (length t.states)) refl)
      (λ key j e m f fresh full. longer (with_used_up (with_plain (with_evaluation t) j)) j refl)
    where
      same : (s : Tables) (l : Label) → s.plain ≡ t.plain → (m : Label) (i : Items) → IsPlain m → Means s m i → Means t m i ⊎ (m ≡ l)
      same s l e (Numbered n) i p h = absurd p
      same s l e (Plain q) i p h = inl (subst (λ xs. slice_get xs q ≡ Some i) e h)

      split : (q : ℕ) (i : Items) → (slice_get t.plain q ≡ Some i) ⊎ ((q ≡ length t.plain) × (i ≡ i)) → (slice_get t.plain q ≡ Some i) ⊎ (Plain q ≡ Plain (length t.plain))
      split q i (inl h) = inl h
      split q i (inr h) = inr (ap Plain h.0)

      forget : (q : ℕ) (i j : Items) → (slice_get t.plain q ≡ Some i) ⊎ ((q ≡ length t.plain) × (i ≡ j)) → (slice_get t.plain q ≡ Some i) ⊎ ((q ≡ length t.plain) × (i ≡ i))
      forget q i j (inl h) = inl h
      forget q i j (inr h) = inr (h.0, refl)

      longer : (s : Tables) (j : Items) → s.plain ≡ t.plain ++ j ∷ [] → (m : Label) (i : Items) → IsPlain m → Means s m i → Means t m i ⊎ (m ≡ Plain (length t.plain))
      longer s j e (Numbered n) i p h = absurd p
      longer s j e (Plain q) i p h = split q i (forget q i j (get_split t.plain j q i (subst (λ xs. slice_get xs q ≡ Some i) e h)))

  -- more states and no more keys: no more is known
  known_before : (s : Tables) (more : List Items) → s.keys ≡ t.keys → s.states ≡ t.states ++ more → (k : NodeKey) → IsKnown s k → IsKnown t k
  known_before s more e f k h =
      let kept : IsKept t h.0 h.1 = subst (λ es. IsAmong es (h.0, h.1)) e h.2 in
      let own = before_call.follow h.0 h.1 kept in
      (h.0, h.1, kept, h.3 ∙ ap (λ xs. node_key xs h.0) f ∙ node_key-grown t.states more h.0 own.first own.second)

  pub known_refused : (new : Tables) → IsRefused t new operator class a b → (k : NodeKey) → IsKnown new k → IsKnown t k
  known_refused new r k h = by r.tables
    where
      by : (new ≡ with_evaluation t) ⊎ ((i : Items) × FollowsKids t operator class a b i × AreNumbered a b × (IsAmong t.states i → ⊥) × (length t.states < t.most_states) × (new ≡ with_state (with_evaluation t) i)) → IsKnown t k
      by (inl e) = known_before new [] (ap (λ (s : Tables). s.keys) e) (ap (λ (s : Tables). s.states) e ∙ sym (append-nil t.states)) k h
      by (inr e) = known_before new (e.0 ∷ []) (ap (λ (s : Tables). s.keys) e.5) (ap (λ (s : Tables). s.states) e.5) k h

  -- or it is the node's own
  pub known_own : (kids : List Items) → KidsAre (Means t) a b kids → (new : Tables) (before after : ℕ) (l : Label) → Way t new before after operator class a b l
      → (k : NodeKey) → IsKnown new k → IsKnown t k ⊎ IsOwnKey (told_of t) operator class a b k
  known_own kids h = each t operator class a b (λ s l. (k : NodeKey) → IsKnown s k → IsKnown t k ⊎ IsOwnKey (told_of t) operator class a b k)
      (λ i e f k g. inl g)
      (λ key n e kept k g. inl g)
      (λ key i n e m f s k g. old_or_new [] key n k g.0 g.1 e (g.3 ∙ ap (λ xs. node_key xs g.0) (sym (append-nil t.states))) (keys_split t operator class a b key n (g.0, g.1) g.2))
      (λ key i e m f fresh room k g. old_or_new (i ∷ []) key (length t.states) k g.0 g.1 e g.3 (keys_split t operator class a b key (length t.states) (g.0, g.1) g.2))
      (λ key i e m f fresh full k g. inl g)
    where
      old_or_new : (more : List Items) (key : StateKey) (n : ℕ) (k : NodeKey) (own : StateKey) (m : ℕ) → numbered_key operator class a b ≡ Some key → k ≡ node_key (t.states ++ more) own
          → IsAmong t.keys (own, m) ⊎ ◌≡◌ {A = StateKey × ℕ} (own, m) (key, n) → IsKnown t k ⊎ IsOwnKey (told_of t) operator class a b k
      old_or_new more key n k own m e g (inl kept) =
          let facts = before_call.follow own m kept in
          inl (own, m, kept, g ∙ node_key-grown t.states more own facts.first facts.second)
      old_or_new more key n k own m e g (inr q) =
          let facts = key_facts t operator class a b kids key e h in
          inr (numbered_by_key operator class a b key e, (kids, h, g ∙ ap (λ (p : StateKey × ℕ). node_key (t.states ++ more) p.0) q ∙ node_key-grown t.states more key facts.first facts.second ∙ facts.node))

  abbrev IsGiven : Tables → Items → Type 0
  IsGiven s i = (k : NodeKey) × (IsKnown s k ⊎ IsOwnKey (told_of s) operator class a b k) × Follows s.normal k i

  given_split : (kids : List Items) → KidsAre (Means t) a b kids → AreNumbered a b → (i : Items) → FollowsKids t operator class a b i → (j : Items) → IsAmong (t.states ++ i ∷ []) j → IsAmong t.states j ⊎ IsGiven t j
  given_split kids h n i f j g = by (IsAmong-push t.states i j g)
    where
      by : IsAmong t.states j ⊎ (j ≡ i) → IsAmong t.states j ⊎ IsGiven t j
      by (inl o) = inl o
      by (inr e) = inr (key_of operator class kids, inr (n, (kids, h, refl)), subst (Follows t.normal (key_of operator class kids)) (sym e) (f kids h))

  -- an item set that is a state's was so before, or is the one that follows from the node's key
  pub held_own : (kids : List Items) → KidsAre (Means t) a b kids → (new : Tables) (before after : ℕ) (l : Label) → Way t new before after operator class a b l
      → (i : Items) → IsAmong new.states i → IsAmong t.states i ⊎ IsGiven t i
  held_own kids h = each t operator class a b (λ s l. (i : Items) → IsAmong s.states i → IsAmong t.states i ⊎ IsGiven t i)
      (λ i e f j g. inl g)
      (λ key n e kept j g. inl g)
      (λ key i n e m f s j g. inl g)
      (λ key i e m f fresh room j g. given_split kids h (numbered_by_key operator class a b key e) i f j g)
      (λ key i e m f fresh full j g. inl g)

  pub held_refused : (kids : List Items) → KidsAre (Means t) a b kids → (new : Tables) → IsRefused t new operator class a b → (i : Items) → IsAmong new.states i → IsAmong t.states i ⊎ IsGiven t i
  held_refused kids h new r i g = by r.tables
    where
      by : (new ≡ with_evaluation t) ⊎ ((i : Items) × FollowsKids t operator class a b i × AreNumbered a b × (IsAmong t.states i → ⊥) × (length t.states < t.most_states) × (new ≡ with_state (with_evaluation t) i)) → IsAmong t.states i ⊎ IsGiven t i
      by (inl e) = inl (subst (λ (s : Tables). IsAmong s.states i) e g)
      by (inr e) = given_split kids h e.2 e.0 e.1 i (subst (λ (s : Tables). IsAmong s.states i) e.5 g)

  no_miss : (x y : StateKey) (n : ℕ) → numbered_key operator class a b ≡ Some x → numbered_key operator class a b ≡ Some y → ((m : ℕ) → IsKept t x m → ⊥) → IsKept t y n → ⊥
  no_miss x y n e f missing kept = missing n (subst (λ (k : StateKey). IsKept t k n) (some_same y x (sym f ∙ e)) kept)

  -- a kept number is the label, and nothing changes
  pub hit_told : (new : Tables) (before after : ℕ) (l : Label) → Way t new before after operator class a b l → (n : ℕ) → IsKeptFor t operator class a b n → (l ≡ Numbered n) × (new ≡ t) × (after ≡ before)
  hit_told new before after l (over_plain e w s) n h = absurd (let no = sym e ∙ h.1 in cc)
  hit_told new before after l (hit key e w s) n h =
      let own = key_same key h.0 e h.1 in
      let number : w.number ≡ n = one_number t operator class a b before_call h.0 w.number n (subst (λ (k : StateKey). IsKept t k w.number) own w.kept) h.2 in
      (w.label ∙ ap Numbered number, w.same, s)
    where
      key_same : (x y : StateKey) → numbered_key operator class a b ≡ Some x → numbered_key operator class a b ≡ Some y → x ≡ y
      key_same x y e f = some_same x y (sym e ∙ f)
  hit_told new before after l (found key i m w) n h = absurd (no_miss key h.0 n m.is_key h.1 m.missing h.2)
  hit_told new before after l (added key i m w) n h = absurd (no_miss key h.0 n m.is_key h.1 m.missing h.2)
  hit_told new before after l (unnumbered key i m w) n h = absurd (no_miss key h.0 n m.is_key h.1 m.missing h.2)

  pub counted : (new : Tables) (before after : ℕ) (l : Label) → Way t new before after operator class a b l → HasNoNumber t operator class a b → before < after
  counted new before after l (over_plain e w s) none = s
  counted new before after l (hit key e w s) none = absurd (none w.number (key, e, w.kept))
  counted new before after l (found key i m w) none = m.step
  counted new before after l (added key i m w) none = m.step
  counted new before after l (unnumbered key i m w) none = m.step
