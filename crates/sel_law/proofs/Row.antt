-- Loads of transition words, and the compare-exchange of one.
use Rattle.std.proofs.Common.{◌≡◌, ◌≢◌, ◌⊎◌, ℕ, zero, suc, ◌+◌, ◌-◌, ◌/◌, ◌%◌, ◌<◌, ◌≤◌, Bool, true, false, cond, ◌==◌, List, [], ◌∷◌, ◌++◌, length, set, refl, sym, ap, ◌∙◌, subst, ⊎_elim, inl, inr, arith, eq-eqb}
use Rattle.std.specs.Prelude.{slice_index, not, ◌&&◌, ◌||◌}
use Rattle.std.proofs.lemmas.Bool.Decides.{nat_tests}
use mathlib.Core.Option.{some}
use mathlib.Core.Logic.{dite}
use native.Mathlib.Decide.{ℕ_discrete}
use lib.ListN.{get_elem?}
use Rattle.sel_law.specs.declared.Setting.{Setting}
use Rattle.sel_law.specs.declared.Ask.{Ask}
use Rattle.sel_law.specs.declared.View.{View}
use Rattle.sel_law.specs.Words.{IsMadeOf, node_key, In, intern_at, row_at, content_at, content, Published, key_of, number_of, kids_of, left_of, right_of, class_by, by_kids, EachKid, ask_of, KidsPublished, IsKey}
use Rattle.sel_law.specs.Law.{IsTrueOf, Full, IsInUse, Transitions, States, Lawful}
use Rattle.sel_law.specs.Kinds.{entries, HeldNumber, HeldWhole, HeldKey, other_at, all_other, is_hit, looked, Learns, OneContent, Marks}
use Rattle.sel_law.proofs.Base.{in_front, in_split, in_one, read_at, read_is, length_read}
use Rattle.sel_law.proofs.Grow.{each_kid_map, ask_same}
use Rattle.sel_law.proofs.Draw.{in_use, quiet}
use Rattle.sel_law.proofs.Look.{placed_in, full_more, seen_truth, same_counts, held_published, one_content}
use Rattle.sel_law.proofs.Packed.{keys_apart}
use Rattle.sel_law.proofs.Publish.{in_entries}

-- keys

kid_count : {A : Type 0} (k : ℕ) (a b : A) → k < 3 → length (by_kids k a b) ≡ k
kid_count zero a b h = refl
kid_count (suc zero) a b h = refl
kid_count (suc (suc k)) a b h = let e : k ≡ 0 = omega arith in omega arith

kids_equal : (f : ℕ → List ℕ) (P : ℕ → Type 0) → ((m n : ℕ) → P m → P n → f m ≡ f n → m ≡ n) → (k l r l' r' : ℕ) → EachKid P k l r → EachKid P k l' r'
    → by_kids k (f l) (f r) ≡ by_kids k (f l') (f r') → class_by k l ≡ class_by k l' → (k ≤ 1 → r ≡ 0) → (k ≤ 1 → r' ≡ 0) → (l ≡ l') × (r ≡ r')
kids_equal f P inj zero l r l' r' p q e c z z' = (c, (let a = z (omega arith) in let b = z' (omega arith) in omega arith))
kids_equal f P inj (suc zero) l r l' r' p q e c z z' = (let s : f l ≡ f l' = cc in inj l l' p q s, (let a = z (omega arith) in let b = z' (omega arith) in omega arith))
kids_equal f P inj (suc (suc k)) l r l' r' p q e c z z' = (let s : f l ≡ f l' = cc in inj l l' p.0 q.0 s, (let s : f r ≡ f r' = cc in inj r r' p.1 q.1 s))

whole_key : (x y : ℕ) → 1 ≤ x / 4294967296 → 1 ≤ y / 4294967296 → (x / 4294967296 - 1) / 3 ≡ (y / 4294967296 - 1) / 3 → (x / 4294967296 - 1) % 3 ≡ (y / 4294967296 - 1) % 3
    → (x / 65536) % 65536 ≡ (y / 65536) % 65536 → x % 65536 ≡ y % 65536 → x ≡ y
whole_key x y a b c d e f = omega arith

true_false : true ≡ false → ⊥
true_false e = cc

and_true : (a b : Bool) → a && b ≡ true → (a ≡ true) × (b ≡ true)
and_true true b e = (refl, e)
and_true false b e = absurd (true_false (sym e))

pub or_true : (a b : Bool) → a || b ≡ true → (a ≡ true) ⊎ (b ≡ true)
or_true true b e = inl refl
or_true false b e = inr e

not_true : (b : Bool) → not b ≡ true → b ≡ false
not_true true e = absurd (true_false (sym e))
not_true false e = refl

eq_of : (x y : ℕ) → (x == y) ≡ true → x ≡ y
eq_of x y e = grind (arith, nat_tests)

ne_of : (x y : ℕ) → (x == y) ≡ false → x ≢ y
ne_of x y e same = true_false (sym (eq-eqb x y same) ∙ e)

some_other : (ps : List (ℕ × ℕ)) (place x : ℕ) → other_at ps place x ≡ true → (w : ℕ) × In (place, w) ps × (key_of w ≢ x)
some_other [] place x e = absurd (true_false (sym e))
some_other (p ∷ ps) place x e = ⊎_elim
    (λ (t : ((p.0 == place) && not (key_of p.1 == x)) ≡ true).
    let s = and_true (p.0 == place) (not (key_of p.1 == x)) t in
    (p.1, (0, ap some (λ i. (eq_of p.0 place s.0 i, p.1))), ne_of (key_of p.1) x (not_true (key_of p.1 == x) s.1)))
    (λ (t : other_at ps place x ≡ true). let r = some_other ps place x t in (r.0, (suc r.1.0, r.1.1), r.2))
    (or_true ((p.0 == place) && not (key_of p.1 == x)) (other_at ps place x) e)

pub every_other : (z : Setting) (ps : List (ℕ × ℕ)) (x k : ℕ) → all_other z ps x k ≡ true → (q : ℕ) → q < k → (w : ℕ) × In (row_at z q, w) ps × (key_of w ≢ x)
every_other z ps x zero e q lt = absurd (omega arith)
every_other z ps x (suc k) e q lt =
    let s = and_true (other_at ps (row_at z k) x) (all_other z ps x k) e in
    dite (ℕ_discrete q k)
    (λ same. subst (λ j. (w : ℕ) × In (row_at z j, w) ps × (key_of w ≢ x)) (sym same) (some_other ps (row_at z k) x s.0))
    (λ ne. every_other z ps x k s.1 q (omega arith))

module _ (z : Setting) (ws : List ℕ) where
  -- published numbers with one content are one number
  pub number_injective : States z ws → (m n : ℕ) → Published z ws m → Published z ws n → content z ws m ≡ content z ws n → m ≡ n
  number_injective s m n (p, a, e) (q, b, f) same =
      let one : p ≡ q = s.differ p q m n a b e f same in
      let g : slice_index ws (intern_at p) ≡ n + 1 = ap (λ r. slice_index ws (intern_at r)) one ∙ f in
      omega arith

  pub key_injective : States z ws → (x y : ℕ) → KidsPublished z ws x → KidsPublished z ws y → IsKey x → IsKey y → ask_of z ws x ≡ ask_of z ws y → x ≡ y
  key_injective s x y kx ky ix iy e =
      let f = content z ws in
      let kids_x = by_kids (kids_of x) (f (left_of x)) (f (right_of x)) in
      let kids_y = by_kids (kids_of y) (f (left_of y)) (f (right_of y)) in
      let lists : kids_x ≡ kids_y = ap (λ (a : Ask). a.kids) e in
      let count : kids_of x ≡ kids_of y = sym (kid_count (kids_of x) (f (left_of x)) (f (right_of x)) (omega arith)) ∙ (ap length lists ∙ kid_count (kids_of y) (f (left_of y)) (f (right_of y)) (omega arith)) in
      let classes : class_by (kids_of x) (left_of x) ≡ class_by (kids_of y) (left_of y) = ap (λ (a : Ask). a.class) e in
      let r = kids_equal f (Published z ws) (number_injective s) (kids_of x) (left_of x) (right_of x) (left_of y) (right_of y) kx
      (subst (λ k. EachKid (Published z ws) k (left_of y) (right_of y)) (sym count) ky)
      (lists ∙ ap (λ k. by_kids k (f (left_of y)) (f (right_of y))) (sym count))
      (classes ∙ ap (λ k. class_by k (left_of y)) (sym count))
      ix.1
      (λ h. iy.1 (omega arith)) in
      whole_key x y ix.0 iy.0 (ap (λ (a : Ask). a.operator) e) count r.0 r.1

  module _ (v : View) (setting : v.setting ≡ z) (t : IsTrueOf z ws v) where
    pub held_whole : (n : ℕ) (c : List ℕ) → HeldWhole v n c → content z ws n ≡ c
    held_whole n c h = read_is ws (content_at z n 0) c z.width (h.0 ∙ ap (λ (y : Setting). y.width) setting)
        (λ i lt. ap (slice_index ws) (omega arith) ∙ (t.contents (n, i, slice_index c i) (h.1 i (subst (λ (y : Setting). i < y.width) (sym setting) lt))).2)

    pub held_kids : Transitions z ws → (x : ℕ) (a : Ask) → HeldKey v x a → KidsPublished z ws x
    held_kids rows x a h = each_kid_map (λ n. HeldNumber v n × HeldWhole v n (h.contents_of n)) (Published z ws) (kids_of x) (left_of x) (right_of x) (λ n k. held_published z ws v setting t rows n k.0) h.kids

    pub held_ask : (x : ℕ) (a : Ask) → HeldKey v x a → ask_of z ws x ≡ a
    held_ask x a h = ask_same (content z ws) h.contents_of x
        (each_kid_map (λ n. HeldNumber v n × HeldWhole v n (h.contents_of n)) (λ n. content z ws n ≡ h.contents_of n) (kids_of x) (left_of x) (right_of x) (λ n k. held_whole n (h.contents_of n) k.1) h.kids)
        ∙ sym h.ask

pub hit_of : (x found : ℕ) → is_hit x found ≡ true → (found ≢ 0) × (key_of found ≡ x)
hit_of x found e = let s = and_true (not (found == 0)) (key_of found == x) e in (ne_of found 0 (not_true (found == 0) s.0), eq_of (key_of found) x s.1)

in_cond : {A : Type 0} (e : A) (b : Bool) (l m : List A) → In e (cond b (l ++ m) l) → In e l ⊎ ((b ≡ true) × In e m)
in_cond e true l m h = ⊎_elim (λ (t : In e l). inl t) (λ (t : In e m). inr (refl, t)) (in_split e l m h)
in_cond e false l m h = inl h

module _ (z : Setting) (ws : List ℕ) (views : List View) (l : Lawful z ws views) (id : ℕ) (v : View) (at : get_elem? views id ≡ some v) (seat : 1 ≤ v.seats)
    (asks : List Ask) (x : ℕ) (a : Ask) (key : IsKey x) (held : HeldKey v x a) (asked : In a (v.asked ++ asks)) (q : ℕ) (inside : q < z.rows) where
  abbrev i : ℕ
  i = row_at z q

  mine : IsInUse z ws v
  mine = in_use z ws v (l.views_fit id v at) seat

  abbrev found : ℕ
  found = slice_index ws i

  -- the content of the number that is found
  abbrev c : List ℕ
  c = content z ws (number_of found)

  abbrev w : View
  w = looked v asks x a c i found

  truth : IsTrueOf z ws w
  truth =
      let s = seen_truth z ws v asks i (omega arith) (omega arith) mine.true_now in
      let y : v.setting ≡ z = mine.setting in record {
        places = s.places;
        contents = λ e h. ⊎_elim (λ (k : In e v.contents). s.contents e k)
            (λ (k : (is_hit x found ≡ true) × In e (entries (number_of found) 0 c)). (
            let hit = hit_of x found k.0 in
            let t = l.transitions.each q inside hit.0 in
            let r = in_entries e (number_of found) 0 c k.1 in
            let len : length c ≡ z.width = length_read ws (content_at z (number_of found) 0) z.width in
            let lt : e.1 < z.width = (let b = r.1.1 in let d = r.1.2 in omega arith) in
            let j : e.1 ≡ r.1.0 = (let d = r.1.2 in omega arith) in
            let entry : slice_index ws (content_at z (number_of found) e.1) ≡ slice_index c e.1 = ap (slice_index ws) (omega arith) ∙ sym (read_at ws (content_at z (number_of found) 0) z.width e.1 lt) in
            (subst (Published z ws) (sym r.0) t.number, lt, ap (λ n. slice_index ws (content_at z n e.1)) r.0 ∙ (entry ∙ (ap (slice_index c) j ∙ r.1.3)))))
            (in_cond e (is_hit x found) v.contents (entries (number_of found) 0 c) h);
        known = λ e h. ⊎_elim (λ (k : In e v.known). s.known e k)
            (λ (k : (is_hit x found ≡ true) × In e ((a, number_of found) ∷ [])). (
            let hit = hit_of x found k.0 in
            let same : (a, number_of found) ≡ e = in_one e (a, number_of found) k.1 in
            subst (λ (e : Ask × ℕ). In e.0 w.asked × ((q : ℕ) × (q < z.rows) × (slice_index ws (row_at z q) ≢ 0) × (number_of (slice_index ws (row_at z q)) ≡ e.1) × (ask_of z ws (key_of (slice_index ws (row_at z q))) ≡ e.0))) same
            (asked, (q, inside, hit.0, refl, ap (ask_of z ws) hit.1 ∙ held_ask z ws v y mine.true_now x a held))))
            (in_cond e (is_hit x found) v.known ((a, number_of found) ∷ []) h);
      }

  now_full : w.row_full ≡ true → z.rows ≢ 0 → Full z ws w
  now_full e r = ⊎_elim
      (λ (h : v.row_full ≡ true). full_more z ws v asks w (λ b k. in_front b v.asked asks k) (mine.full h r))
      (λ (h : all_other v.setting w.places x v.setting.rows ≡ true). (
      let others = every_other z w.places x z.rows (subst (λ (s : Setting). all_other s w.places x s.rows ≡ true) mine.setting h) in
      let in_use_at : (k : ℕ) → k < z.rows → slice_index ws (row_at z k) ≢ 0 = λ k lt n. (let o = others k lt in let t = truth.places (row_at z k, o.0) o.1 in t.2 (sym t.3 ∙ n)) in (
        in_use_at,
        (
          a,
          asked,
          λ k lt same. (
              let o = others k lt in
              let t = truth.places (row_at z k, o.0) o.1 in
              let row = l.transitions.each k lt (in_use_at k lt) in
              let keys : key_of (slice_index ws (row_at z k)) ≡ x = key_injective z ws l.states (key_of (slice_index ws (row_at z k))) x row.kids (held_kids z ws v mine.setting mine.true_now l.transitions x a held) row.lawful_key key
              (keys_apart z ws (λ n p. (l.asked.states n p).1.words) (key_of (slice_index ws (row_at z k))) x row.kids (held_kids z ws v mine.setting mine.true_now l.transitions x a held) (same ∙ ap node_key (sym (held_ask z ws v mine.setting mine.true_now x a held)))) in
              o.2 (ap key_of (sym t.3) ∙ keys)),
        ),
      )))
      (or_true v.row_full (all_other v.setting w.places x v.setting.rows) e)

  pub looked_lawful : Lawful z ws (set views id w)
  looked_lawful = quiet z ws views l id v w at (λ b h. in_front b v.asked asks h) (λ e h. placed_in e v.places i found h) refl (same_counts v w refl refl refl refl refl refl)
      record { setting = mine.setting; true_now = truth; own = mine.own; seated = seat; spare = mine.spare; few = mine.few; full = now_full }

  pub looked_learns : Learns v x a c found
  looked_learns e =
      let hit = hit_of x found e in
      let t = l.transitions.each q inside hit.0 in
      let b = (l.states.each t.number.0 (number_of found) t.number.1 t.number.2).below in
      let st : v.setting.states ≡ z.states = ap (λ (y : Setting). y.states) mine.setting in
      (subst (λ (s : Setting). IsMadeOf s a c) (sym mine.setting) (subst (λ (k : Ask). IsMadeOf z k c) (ap (ask_of z ws) hit.1 ∙ held_ask z ws v mine.setting mine.true_now x a held) t.made_of), omega arith)

  pub looked_one : OneContent w
  looked_one = one_content z ws w truth

  -- where the key is known, its word is in the row
  pub looked_stays : (n : ℕ) → In (a, n) v.known → w.row_full ≡ true → v.row_full ≡ true
  looked_stays n known e = ⊎_elim
      (λ (h : v.row_full ≡ true). h)
      (λ (h : all_other v.setting w.places x v.setting.rows ≡ true). absurd (
      let others = every_other z w.places x z.rows (subst (λ (s : Setting). all_other s w.places x s.rows ≡ true) mine.setting h) in
      let t = mine.true_now.known (a, n) known in
      let row = l.transitions.each t.1.0 t.1.1 t.1.2 in
      let o = others t.1.0 t.1.1 in
      let p = truth.places (row_at z t.1.0, o.0) o.1 in
      let keys : key_of (slice_index ws (row_at z t.1.0)) ≡ x = key_injective z ws l.states (key_of (slice_index ws (row_at z t.1.0))) x row.kids (held_kids z ws v mine.setting mine.true_now l.transitions x a held) row.lawful_key key
      (t.1.4 ∙ sym (held_ask z ws v mine.setting mine.true_now x a held)) in
      o.2 (ap key_of (sym p.3) ∙ keys)))
      (or_true v.row_full (all_other v.setting w.places x v.setting.rows) e)

  pub looked_marks : Marks v x found w
  looked_marks = record {
    free = λ e. bool_false w.row_full (λ h. (now_full h (λ r. absurd (omega arith))).0 q inside e);
    alone = λ h others. (
        let hit = hit_of x found h in
        let o = others q (subst (λ (s : Setting). q < s.rows) (sym mine.setting) inside) in
        let t = mine.true_now.places (row_at v.setting q, o.0) o.1 in
        let same : row_at v.setting q ≡ row_at z q = ap (λ (s : Setting). row_at s q) mine.setting in
        o.2 (ap key_of (sym (ap (slice_index ws) (sym same) ∙ t.3)) ∙ hit.1));
  }
    where
      bool_false : (b : Bool) → (b ≡ true → ⊥) → b ≡ false
      bool_false true n = absurd (n refl)
      bool_false false n = refl
