-- Words that go on: what is in use stays, and so do the contents of published numbers.
use Rattle.std.proofs.Common.{◌≡◌, ◌≢◌, ◌⊎◌, ℕ, zero, suc, ◌+◌, ◌*◌, ◌<◌, ◌≤◌, List, [], ◌∷◌, length, set, refl, sym, ap, ◌∙◌, subst, ⊎_elim, arith, Some}
use Rattle.std.specs.Prelude.{slice_index}
use mathlib.Core.Option.{some, some-ne-none, some-injective}
use lib.ListN.{get_elem?}
use Rattle.atomic_table.proofs.Lists.{set_here, set_else}
use Rattle.sel_law.specs.declared.Setting.{Setting}
use Rattle.sel_law.specs.declared.Ask.{Ask}
use Rattle.sel_law.specs.declared.View.{View}
use Rattle.sel_law.specs.Words.{IsMadeOf, node_key, key_home, content_home, In, walk, intern_at, row_at, content_at, content, Published, key_of, number_of, ask_of, ask_by, by_kids, EachKid, class_by, operator_of, left_of, right_of, KidsPublished, kids_of}
use Rattle.sel_law.specs.Law.{NoGap, TransitionAt, Transitions, StateAt, States, IsTrueOf, Owns, Full, IsInUse, Asked, IsInSomeView}
use Rattle.sel_law.proofs.Base.{read_at}

pub made_moves : (z : Setting) (a b : Ask) (c d : List ℕ) → a ≡ b → c ≡ d → IsMadeOf z a c → IsMadeOf z b d
made_moves z a b c d e f h = subst (λ (k : Ask). IsMadeOf z k d) e (subst (IsMadeOf z a) f h)

pub each_kid_map : (P Q : ℕ → Type 0) (k l r : ℕ) → ((n : ℕ) → P n → Q n) → EachKid P k l r → EachKid Q k l r
each_kid_map P Q zero l r f h = tt
each_kid_map P Q (suc zero) l r f h = f l h
each_kid_map P Q (suc (suc k)) l r f h = (f l h.0, f r h.1)

by_kids_same : (f g : ℕ → List ℕ) (k l r : ℕ) → EachKid (λ n. f n ≡ g n) k l r → by_kids k (f l) (f r) ≡ by_kids k (g l) (g r)
by_kids_same f g zero l r h = refl
by_kids_same f g (suc zero) l r h = λ i. h i ∷ []
by_kids_same f g (suc (suc k)) l r h = λ i. h.0 i ∷ h.1 i ∷ []

pub ask_same : (f g : ℕ → List ℕ) (x : ℕ) → EachKid (λ n. f n ≡ g n) (kids_of x) (left_of x) (right_of x) → ask_by f x ≡ ask_by g x
ask_same f g x h =
    let make : List (List ℕ) → Ask = λ ks. record { operator = operator_of x; class = class_by (kids_of x) (left_of x); kids = ks } in
    ap make (by_kids_same f g (kids_of x) (left_of x) (right_of x) h)

walk_below : (m home j : ℕ) → 0 < m → walk m home j < m
walk_below m home j h = omega arith

module _ (z : Setting) where
  pub record Grows (ws us : List ℕ) : Type 0 where
    pub counter : slice_index ws 0 ≤ slice_index us 0
    pub kept : (j : ℕ) → 1 ≤ j → j < row_at z z.rows → slice_index ws j ≢ 0 → slice_index us j ≡ slice_index ws j
    pub content_kept : (n : ℕ) → Published z ws n → content z us n ≡ content z ws n

  module _ (ws us : List ℕ) (g : Grows ws us) where
    pub published_grows : (n : ℕ) → Published z ws n → Published z us n
    published_grows n (p, lt, e) = (p, lt, g.kept (intern_at p) (omega arith) (omega arith) (λ zero_there. absurd (omega arith)) ∙ e)

    pub ask_grows : (x : ℕ) → KidsPublished z ws x → ask_of z us x ≡ ask_of z ws x
    ask_grows x h = ask_same (content z us) (content z ws) x (each_kid_map (Published z ws) (λ n. content z us n ≡ content z ws n) (kids_of x) (left_of x) (right_of x) g.content_kept h)

    pub kids_grow : (x : ℕ) → KidsPublished z ws x → KidsPublished z us x
    kids_grow x h = each_kid_map (Published z ws) (Published z us) (kids_of x) (left_of x) (right_of x) published_grows h

    nogap_grows : (base m home d : ℕ) → 1 ≤ base → base + m ≤ row_at z z.rows → 0 < m → NoGap ws base m home d → NoGap us base m home d
    nogap_grows base m home d lo hi some_place h j lt e =
        let b = walk_below m home j some_place in
        let k = g.kept (base + walk m home j) (omega arith) (omega arith) (h j lt) in
        h j lt (sym k ∙ e)

    pub transition_grows : (q w : ℕ) → q < z.rows → TransitionAt z ws q w → TransitionAt z us q w
    transition_grows q w lt t = record {
      number = published_grows (number_of w) t.number;
      kids = kids_grow (key_of w) t.kids;
      lawful_key = t.lawful_key;
      made_of = made_moves z (ask_of z ws (key_of w)) (ask_of z us (key_of w)) (content z ws (number_of w)) (content z us (number_of w)) (sym (ask_grows (key_of w) t.kids)) (sym (g.content_kept (number_of w) t.number)) t.made_of;
      place = (t.place.0, t.place.1, t.place.2, nogap_grows (row_at z 0) z.rows (key_home z (key_of w)) t.place.0 (omega arith) (omega arith) (omega arith) t.place.3);
    }

    pub transitions_same : Transitions z ws → ((q : ℕ) → q < z.rows → slice_index us (row_at z q) ≡ slice_index ws (row_at z q)) → Transitions z us
    transitions_same t same = record {
      each = λ q lt ne. (let e = same q lt in
          subst (TransitionAt z us q) (sym e) (transition_grows q (slice_index ws (row_at z q)) lt (t.each q lt (λ n. ne (e ∙ n)))));
      differ = λ q r a b ne nf k. (let e = same q a in let f = same r b in
          t.differ q r a b (λ n. ne (e ∙ n)) (λ n. nf (f ∙ n)) (ap key_of (sym e) ∙ k ∙ ap key_of f));
    }

    pub state_grows : (p n : ℕ) → p < 2 * z.states → slice_index ws (intern_at p) ≡ n + 1 → StateAt z ws p n → StateAt z us p n
    state_grows p n lt here s =
        let c = g.content_kept n (p, lt, here) in
        let more = g.counter in let d = s.drawn in record {
          below = s.below;
          drawn = omega arith;
          place = subst (λ (c : List ℕ). (d : ℕ) × (d < 2 * z.states) × (p ≡ walk (2 * z.states) (content_home z c) d) × NoGap us 1 (2 * z.states) (content_home z c) d) (sym c)
              (s.place.0, s.place.1, s.place.2, nogap_grows 1 (2 * z.states) (content_home z (content z ws n)) s.place.0 (omega arith) (omega arith) (omega arith) s.place.3);
        }

    pub states_same : States z ws → ((p : ℕ) → p < 2 * z.states → slice_index us (intern_at p) ≡ slice_index ws (intern_at p)) → States z us
    states_same s same = record {
      each = λ p n lt e. (let e' = sym (same p lt) ∙ e in state_grows p n lt e' (s.each p n lt e'));
      differ = λ p q m n a b e f k. (
          let e' = sym (same p a) ∙ e in let f' = sym (same q b) ∙ f in
          s.differ p q m n a b e' f' (sym (g.content_kept m (p, a, e')) ∙ k ∙ g.content_kept n (q, b, f')));
    }

    -- an entry of a published number stays
    pub entry_grows : (n i : ℕ) → Published z ws n → i < z.width → slice_index us (content_at z n i) ≡ slice_index ws (content_at z n i)
    entry_grows n i h lt =
        let at : (vs : List ℕ) → slice_index (content z vs n) i ≡ slice_index vs (content_at z n i) = λ vs. read_at vs (content_at z n 0) z.width i lt ∙ ap (slice_index vs) (omega arith) in
        sym (at us) ∙ ap (λ c. slice_index c i) (g.content_kept n h) ∙ at ws

    pub true_grows : Transitions z ws → (v : View) → IsTrueOf z ws v → IsTrueOf z us v
    true_grows t v h = record {
      places = λ e m. (let a = h.places e m in
          (a.0, a.1, a.2, g.kept e.0 a.0 a.1 (λ n. a.2 (sym a.3 ∙ n)) ∙ a.3));
      contents = λ e m. (let a = h.contents e m in (published_grows e.0 a.0, a.1, entry_grows e.0 e.1 a.0 a.1 ∙ a.2));
      known = λ e m. (let a = h.known e m in
          let q = a.1.0 in let lt = a.1.1 in let ne = a.1.2 in
          let k = g.kept (row_at z q) (omega arith) (omega arith) ne in
          (a.0, (q, lt, (λ n. ne (sym k ∙ n)), ap number_of k ∙ a.1.3, ap (λ w. ask_of z us (key_of w)) k ∙ ask_grows (key_of (slice_index ws (row_at z q))) (t.each q lt ne).kids ∙ a.1.4)));
    }

    pub owns_grows : (draft : List ℕ) (n : ℕ) → Owns z ws draft n → ¬ Published z us n → ((i : ℕ) → i < z.width → slice_index us (content_at z n i) ≡ slice_index ws (content_at z n i)) → Owns z us draft n
    owns_grows draft n o hidden same = let a = g.counter in let b = o.drawn in let c = o.short in record {
      below = o.below;
      drawn = omega arith;
      hidden = hidden;
      short = o.short;
      draft_is = λ i lt. same i (omega arith) ∙ o.draft_is i lt;
    }

    pub full_grows : Transitions z ws → (v : View) → Full z ws v → Full z us v
    full_grows t v f = (
      (λ q lt n. f.0 q lt (sym (g.kept (row_at z q) (omega arith) (omega arith) (f.0 q lt)) ∙ n)),
      (
        f.1.0,
        f.1.1,
        (λ q lt e.
            let k = g.kept (row_at z q) (omega arith) (omega arith) (f.0 q lt) in
            f.1.2 q lt (ap node_key (sym (ask_grows (key_of (slice_index ws (row_at z q))) (t.each q lt (f.0 q lt)).kids) ∙ ap (λ w. ask_of z us (key_of w)) (sym k)) ∙ e)),
      ),
    )

    pub fits_grows : Transitions z ws → (v : View) → IsInUse z ws v
        → ((n : ℕ) → v.own ≡ Some n → (¬ Published z us n) × ((i : ℕ) → i < z.width → slice_index us (content_at z n i) ≡ slice_index ws (content_at z n i)))
        → IsInUse z us v
    fits_grows t v u own = record {
      setting = u.setting;
      true_now = true_grows t v u.true_now;
      own = λ n e. owns_grows v.draft n (u.own n e) (own n e).0 (own n e).1;
      seated = u.seated;
      spare = u.spare;
      few = u.few;
      full = λ e r. full_grows t v (u.full e r);
    }

    -- What is asked and seen by some view, where no word of the rows changed, but those that are told anew
    pub asked_grows : Transitions z ws → (views : List View) → Asked z ws views
        → ((n : ℕ) → Published z us n → Published z ws n ⊎ ((a : Ask) × IsMadeOf z a (content z us n) × IsInSomeView views (λ v. In a v.asked)))
        → ((q : ℕ) → q < z.rows → slice_index us (row_at z q) ≢ 0 → (slice_index us (row_at z q) ≡ slice_index ws (row_at z q)) ⊎ IsInSomeView views (λ v. In (ask_of z us (key_of (slice_index us (row_at z q)))) v.asked))
        → ((j : ℕ) → 1 ≤ j → j < row_at z z.rows → slice_index us j ≢ 0 → (slice_index us j ≡ slice_index ws j) ⊎ IsInSomeView views (λ v. In (j, slice_index us j) v.places))
        → Asked z us views
    asked_grows t views a states rows places = record {
      states = λ n h. ⊎_elim (λ (old : Published z ws n). let b = a.states n old in (b.0, subst (IsMadeOf z b.0) (sym (g.content_kept n old)) b.1, b.2)) (λ (new : (a : Ask) × IsMadeOf z a (content z us n) × IsInSomeView views (λ v. In a v.asked)). new) (states n h);
      rows = λ q lt ne. ⊎_elim
          (λ (e : slice_index us (row_at z q) ≡ slice_index ws (row_at z q)).
          let ne' : slice_index ws (row_at z q) ≢ 0 = λ n. ne (e ∙ n) in
          let b = a.rows q lt ne' in
          let same = ap (λ w. ask_of z us (key_of w)) e ∙ ask_grows (key_of (slice_index ws (row_at z q))) (t.each q lt ne').kids in
          (b.0, b.1, b.2, subst (λ (k : Ask). In k b.1.asked) (sym same) b.3))
          (λ (new : IsInSomeView views (λ v. In (ask_of z us (key_of (slice_index us (row_at z q)))) v.asked)). new)
          (rows q lt ne);
      places = λ j lo hi ne. ⊎_elim
          (λ (e : slice_index us j ≡ slice_index ws j).
          let b = a.places j lo hi (λ n. ne (e ∙ n)) in
          (b.0, b.1, b.2, subst (λ (w : ℕ). In (j, w) b.1.places) (sym e) b.3))
          (λ (new : IsInSomeView views (λ v. In (j, slice_index us j) v.places)). new)
          (places j lo hi ne);
    }

  -- What is asked and seen by some view, where the views know more
  pub asked_views : (ws : List ℕ) (views more : List View) → Asked z ws views
      → ((a : Ask) → IsInSomeView views (λ v. In a v.asked) → IsInSomeView more (λ v. In a v.asked))
      → ((e : ℕ × ℕ) → IsInSomeView views (λ v. In e v.places) → IsInSomeView more (λ v. In e v.places))
      → Asked z ws more
  asked_views ws views more a asks places = record {
    states = λ n h. (let b = a.states n h in (b.0, b.1, asks b.0 b.2));
    rows = λ q lt ne. asks (ask_of z ws (key_of (slice_index ws (row_at z q)))) (a.rows q lt ne);
    places = λ j lo hi ne. places (j, slice_index ws j) (a.places j lo hi ne);
  }

pub some_set : (views : List View) (id : ℕ) (v w : View) (P : View → Type 0) → get_elem? views id ≡ some v → (P v → P w) → IsInSomeView views P → IsInSomeView (set views id w) P
some_set views id v w P at more (i, u, here, p) = go (native.Mathlib.Decide.ℕ_discrete i id)
  where
    len : (views : List View) (id : ℕ) (v : View) → get_elem? views id ≡ some v → id < length views
    len [] id v e = absurd (some-ne-none v (sym e))
    len (x ∷ xs) zero v e = omega arith
    len (x ∷ xs) (suc id) v e = omega (arith, len xs id v e)

    go : Dec (i ≡ id) → IsInSomeView (set views id w) P
    go (yes e) = (id, w, set_here views id w (len views id v at), more (subst P (some-injective u v (sym here ∙ ap (get_elem? views) e ∙ at)) p))
    go (no n) = (i, u, set_else views id i w n ∙ here, p)
