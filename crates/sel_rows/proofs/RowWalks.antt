-- Walks over the row of transitions.
use Rattle.std.proofs.Common.{◌≡◌, ◌≢◌, ◌⊎◌, ℕ, zero, suc, ◌+◌, ◌-◌, ◌*◌, ◌/◌, ◌%◌, ◌<◌, ◌≤◌, Bool, true, false, cond, ◌==◌, List, [], ◌∷◌, ◌++◌, length, refl, sym, ap, ◌∙◌, subst, ⊎_elim, inl, inr, arith, eq-eqb, ne_eqb, div-add-mod'}
use Rattle.std.specs.Prelude.{slice_index, not, ◌&&◌, ◌||◌}
use mathlib.Core.Option.{some, some-injective, some-ne-none}
use mathlib.Core.Logic.{dite}
use native.Mathlib.Decide.{dec_lt, ℕ_discrete}
use Rattle.sel_law.specs.declared.Setting.{Setting}
use Rattle.sel_law.specs.declared.Ask.{Ask}
use Rattle.sel_law.specs.declared.View.{View}
use Rattle.sel_law.specs.Words.{key_home, In, row_at, walk, key_of, number_of, IsMadeOf}
use Rattle.sel_law.specs.Kinds.{looked, is_hit, other_at, all_other, entries, HeldWhole, OtherKey, WalkedRow, OneContent, Learns, AllOther, Marks}
use Rattle.sel_law.proofs.Base.{in_back, in_here}
use Rattle.sel_law.proofs.Look.{in_placed}
use Rattle.sel_law.proofs.Row.{every_other, or_true}
use Rattle.sel_rows.specs.Grown.{KeepsNumber}
use Rattle.sel_rows.specs.FoundRow.{HoldsKey}
use Rattle.sel_rows.proofs.Places.{walk_covers, walk_is}
use Rattle.sel_rows.proofs.Growth.{grown_looked, other_key_grown}
use Rattle.sel_rows.proofs.Contents.{is_whole, content_is}

other_from : (ps : List (ℕ × ℕ)) (place x w : ℕ) → In (place, w) ps → key_of w ≢ x → other_at ps place x ≡ true
other_from [] place x w h ne = absurd (some-ne-none (place, w) (sym h.1))
other_from (p ∷ ps) place x w (zero, e) ne =
    let s = some-injective p (place, w) e in
    let one : (p.0 == place) ≡ true = eq-eqb p.0 place (ap (λ (t : ℕ × ℕ). t.0) s) in
    let two : (key_of p.1 == x) ≡ false = ne_eqb (key_of p.1) x (λ k. ne (ap (λ (t : ℕ × ℕ). key_of t.1) (sym s) ∙ k)) in
    subst (λ b. (b && not (key_of p.1 == x)) || other_at ps place x ≡ true) (sym one) (subst (λ b. (not b) || other_at ps place x ≡ true) (sym two) refl)
other_from (p ∷ ps) place x w (suc k, e) ne = or_right ((p.0 == place) && not (key_of p.1 == x)) (other_at ps place x) (other_from ps place x w (k, e) ne)
  where
    or_right : (p q : Bool) → q ≡ true → p || q ≡ true
    or_right true q e = refl
    or_right false q e = e

all_from : (z : Setting) (ps : List (ℕ × ℕ)) (x k : ℕ) → ((q : ℕ) → q < k → (w : ℕ) × In (row_at z q, w) ps × (key_of w ≢ x)) → all_other z ps x k ≡ true
all_from z ps x zero h = refl
all_from z ps x (suc k) h = let o = h k (omega arith) in
    subst (λ b. b && all_other z ps x k ≡ true) (sym (other_from ps (row_at z k) x o.0 o.1 o.2)) (all_from z ps x k (λ q lt. h q (omega arith)))

or_second : (p q : Bool) → q ≡ true → p || q ≡ true
or_second true q e = refl
or_second false q e = e

pub entry_in : (n b i : ℕ) (ds : List ℕ) (k : ℕ) → i ≡ b + k → k < length ds → In (n, i, slice_index ds k) (entries n b ds)
entry_in n b i [] k e h = absurd (omega arith)
entry_in n b i (d ∷ ds) zero e h = (0, let s : b ≡ i = omega arith in ap some (λ j. (n, s j, d)))
entry_in n b i (d ∷ ds) (suc k) e h = let r = entry_in n (b + 1) i ds k (omega arith) (omega arith) in (suc r.0, r.1)

pub hit_is : (x found : ℕ) → found ≢ 0 → key_of found ≡ x → is_hit x found ≡ true
hit_is x found ne e = subst (λ b. not b && (key_of found == x) ≡ true) (sym (ne_eqb found 0 ne)) (eq-eqb (key_of found) x e)

-- a step of a walk that looked at the word of a place
module _ (v w : View) (asks : List Ask) (x : ℕ) (a : Ask) (c : List ℕ) (place found : ℕ) (is : w ≡ looked v asks x a c place found) where
  pub own_looked : KeepsNumber v w
  own_looked = record { own = ap (λ (y : View). y.own) is; draft = ap (λ (y : View). y.draft) is; used_up = ap (λ (y : View). y.used_up) is }

  pub last_looked : w.last ≡ (w.steps, place, found)
  last_looked = ap (λ (y : View). y.last) is ∙ ap (λ (y : View). (y.steps, place, found)) (sym is)

  pub asked_looked : In a asks → In a w.asked
  asked_looked own = subst (λ (y : View). In a y.asked) (sym is) (in_back a v.asked asks own)

  -- a word with the key
  pub found_looked : In a asks → 1 ≤ v.setting.rows → found ≢ 0 → key_of found ≡ x → Learns v x a c found → OneContent w → HoldsKey w a (number_of found)
  found_looked own some_rows ne e learns one =
      let n = number_of found in
      let spot : Ask × ℕ = (a, n) in
      let hit = hit_is x found ne e in
      let told = learns hit in
      let set_is : w.setting ≡ v.setting = ap (λ (y : View). y.setting) is in
      let known : In spot w.known = subst (λ (y : View). In spot y.known) (sym is) (subst (λ b. In spot (cond b (v.known ++ spot ∷ []) v.known)) (sym hit) (in_back spot v.known (spot ∷ []) (in_here spot []))) in
      let width : length c ≡ w.setting.width = told.0.long ∙ ap (λ (s : Setting). s.width) (sym set_is) in
      let inside : (i : ℕ) → i < length c → In (n, i, slice_index c i) w.contents = λ i lt. subst (λ (y : View). In (n, i, slice_index c i) y.contents) (sym is)
      (subst (λ b. In (n, i, slice_index c i) (cond b (v.contents ++ entries n 0 c) v.contents)) (sym hit) (in_back (n, i, slice_index c i) v.contents (entries n 0 c) (entry_in n 0 i c i (omega arith) lt))) in
      let whole : HeldWhole w n c = (width, λ i lt. inside i (omega arith)) in
      record {
        asked = asked_looked own;
        known = known;
        some_rows = subst (λ (s : Setting). 1 ≤ s.rows) (sym set_is) some_rows;
        below = subst (λ (s : Setting). n < s.states) (sym set_is) told.1;
        whole = is_whole w n c whole;
        made_of = subst (λ (s : Setting). IsMadeOf s a (Rattle.sel_rows.specs.Held.held_content w n)) (sym set_is) (subst (IsMadeOf v.setting a) (sym (content_is w n one c whole)) told.0);
      }

  -- a word with another key
  pub other_here : (q : ℕ) → place ≡ row_at v.setting q → found ≢ 0 → key_of found ≢ x → OtherKey w x q
  other_here q e ne other =
      let spot : ℕ × ℕ = (row_at v.setting q, found) in
      let one : List (ℕ × ℕ) = (place, found) ∷ [] in
      let last : In spot one = (0, ap some (λ i. (e i, found))) in
      subst (λ (y : View). OtherKey y x q) (sym is) (found, subst (λ b. In spot (cond b v.places (v.places ++ one))) (sym (ne_eqb found 0 ne)) (in_back spot v.places one last), other)

  pub others_looked : In a asks → (m h d : ℕ) → ((j : ℕ) → j < d → OtherKey v x (walk m h j)) → OtherKey w x (walk m h d) → (j : ℕ) → j < d + 1 → OtherKey w x (walk m h j)
  others_looked own m h d before here j lt = dite (ℕ_discrete j d)
      (λ e. subst (λ k. OtherKey w x (walk m h k)) (sym e) here)
      (λ ne. other_key_grown asks v w (grown_looked asks v w x a c place found own is) x (walk m h j) (before j (omega arith)))

  full_by : w.row_full ≡ true → (v.row_full ≡ true) ⊎ AllOther w x
  full_by e =
      let y = looked v asks x a c place found in
      ⊎_elim (λ (h : v.row_full ≡ true). inl h)
      (λ (h : all_other v.setting y.places x v.setting.rows ≡ true). inr (λ q lt.
      let o = every_other v.setting y.places x v.setting.rows h q (subst (λ (s : Setting). q < s.rows) (ap (λ (t : View). t.setting) is) lt) in
      subst (λ (t : View). OtherKey t x q) (sym is) (o.0, o.1, o.2)))
      (or_true v.row_full (all_other v.setting y.places x v.setting.rows) (sym (ap (λ (t : View). t.row_full) is) ∙ e))

  -- the mark of a walk that goes on
  pub marks_looked : In a asks → (u : View) → (v.row_full ≡ true → (u.row_full ≡ true) ⊎ AllOther v x) → w.row_full ≡ true → (u.row_full ≡ true) ⊎ AllOther w x
  marks_looked own u marks f = ⊎_elim
      (λ (h : v.row_full ≡ true). ⊎_elim
      (λ (o : u.row_full ≡ true). inl o)
      (λ (o : AllOther v x). inr (λ q lt. other_key_grown asks v w (grown_looked asks v w x a c place found own is) x q (o q (subst (λ (s : Setting). q < s.rows) (ap (λ (t : View). t.setting) is) lt))))
      (marks h))
      (λ (o : AllOther w x). inr o)
      (full_by f)

  -- what was held with other keys before a word with the key was found
  all_before : key_of found ≡ x → AllOther w x → AllOther v x
  all_before key others q lt =
      let o = subst (λ (t : View). OtherKey t x q) is (others q (subst (λ (s : Setting). q < s.rows) (sym (ap (λ (t : View). t.setting) is)) lt)) in
      let spot : ℕ × ℕ = (row_at v.setting q, o.0) in
      ⊎_elim (λ (t : In spot v.places). (o.0, t, o.2))
      (λ (t : (found ≢ 0) × ((place, found) ≡ spot)). absurd (o.2 (sym (ap (λ (p : ℕ × ℕ). key_of p.1) t.1) ∙ key)))
      (in_placed spot v.places place found o.1)

  pub hit_marks : (u : View) → (v.row_full ≡ true → (u.row_full ≡ true) ⊎ AllOther v x) → found ≢ 0 → key_of found ≡ x → Marks v x found w → w.row_full ≡ true → u.row_full ≡ true
  hit_marks u marks ne key told f =
      let hit = hit_is x found ne key in
      ⊎_elim
      (λ (h : v.row_full ≡ true). ⊎_elim (λ (o : u.row_full ≡ true). o) (λ (o : AllOther v x). absurd (told.alone hit o)) (marks h))
      (λ (o : AllOther w x). absurd (told.alone hit (all_before key o)))
      (full_by f)

  pub full_looked : (m h : ℕ) → m ≡ v.setting.rows → ((j : ℕ) → j < m → OtherKey w x (walk m h j)) → w.row_full ≡ true
  full_looked m h e others =
      let y = looked v asks x a c place found in
      let there : (j : ℕ) → j < v.setting.rows → OtherKey y x (walk v.setting.rows h j) = λ j lt. subst (λ (y : View). OtherKey y x (walk v.setting.rows h j)) is (subst (λ k. OtherKey w x (walk k h j)) e (others j (omega arith))) in
      ap (λ (y : View). y.row_full) is
      ∙ or_second v.row_full (all_other v.setting y.places x v.setting.rows)
      (all_from v.setting y.places x v.setting.rows (λ q lt. (let k = walk_covers v.setting.rows h q lt in
      subst (λ r. (u : ℕ) × In (row_at v.setting r, u) y.places × (key_of u ≢ x)) k.2 (there k.0 k.1))))

pub walked_row : (v : View) (x m h at d : ℕ) → m ≡ v.setting.rows → h ≡ key_home v.setting x → d < m → at ≡ walk m h d → ((j : ℕ) → j < d → OtherKey v x (walk m h j)) → WalkedRow v x at
walked_row v x m h at d a b lt e others = (d, omega arith, e ∙ (λ k. walk (a k) (b k) d), λ j l. subst (OtherKey v x) (λ k. walk (a k) (b k) j) (others j l))

-- how far a place is from the walk's beginning
pub walk_far : (m h d at start : ℕ) → d < m → start ≡ h % m → at ≡ walk m h d → (start ≤ at → d ≡ at - start) × (at < start → d ≡ at + m - start)
walk_far m h d at start lt s e =
    let p = div-add-mod' h m in
    let x : ℕ = h / m * m in
    let r : ℕ = h % m in
    let p' : x + r ≡ h = p in
    let small : r < m = omega arith in
    dite (dec_lt (r + d) m)
    (λ before.
    let k : walk m h d ≡ r + d = walk_is m h d (h / m) (r + d) (let goal : h + d ≡ x + (r + d) = omega arith in goal) before in
    ((λ le. omega arith), (λ le. absurd (omega arith))))
    (λ no.
    let k : walk m h d ≡ r + d - m = walk_is m h d (h / m + 1) (r + d - m) (let y : (h / m + 1) * m ≡ x + m = grind arith in let goal : h + d ≡ (h / m + 1) * m + (r + d - m) = omega arith in goal) (omega arith) in
    ((λ le. absurd (omega arith)), (λ le. omega arith)))
