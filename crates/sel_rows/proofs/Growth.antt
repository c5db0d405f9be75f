-- Steps of a pass let its view grow.
use Rattle.std.proofs.Common.{◌≡◌, ◌⊎◌, ℕ, ◌+◌, ◌*◌, ◌<◌, Bool, true, false, cond, ◌==◌, nat_lt, List, [], ◌∷◌, ◌++◌, refl, sym, ap, ◌∙◌, subst, ⊎_elim, inl, inr, arith}
use Rattle.std.specs.Prelude.{slice_index, ◌||◌}
use Rattle.sel_law.specs.declared.Setting.{Setting}
use Rattle.sel_law.specs.declared.Ask.{Ask}
use Rattle.sel_law.specs.declared.View.{View}
use Rattle.sel_law.specs.Words.{In, intern_at, row_at, walk, content_home, key_home, kids_of, left_of, right_of, number_of, EachKid}
use Rattle.sel_law.specs.Kinds.{seen, drew_as, drew, drafted, read_entry, entries, stood, looked, placed, is_hit, all_other, HeldNumber, HeldWhole, HeldKey, OtherState, OtherKey, WalkedStates, WalkedRow}
use Rattle.sel_law.proofs.Base.{in_front, in_split, in_one}
use Rattle.sel_law.proofs.Grow.{each_kid_map}
use Rattle.sel_law.proofs.Look.{placed_in}
use Rattle.sel_rows.specs.Grown.{Grown}

pub nil_behind : {A : Type 0} (l : List A) → l ≡ l ++ []
nil_behind [] = refl
nil_behind (x ∷ l) = ap (λ k. x ∷ k) (nil_behind l)

pub behind : {A : Type 0} (l m n : List A) → (l ++ m) ++ n ≡ l ++ (m ++ n)
behind [] m n = refl
behind (x ∷ l) m n = ap (λ k. x ∷ k) (behind l m n)

cond_front : {A : Type 0} (b : Bool) (l m : List A) → (more : List A) × (cond b (l ++ m) l ≡ l ++ more)
cond_front true l m = (m, refl)
cond_front false l m = ([], nil_behind l)

cond_in : {A : Type 0} (e : A) (b : Bool) (l m : List A) → In e l → In e (cond b (l ++ m) l)
cond_in e true l m h = in_front e l m h
cond_in e false l m h = h

cond_out : {A : Type 0} (e : A) (b : Bool) (l m : List A) → In e (cond b (l ++ m) l) → In e l ⊎ In e m
cond_out e true l m h = in_split e l m h
cond_out e false l m h = inl h

or_first : (p q : Bool) → p ≡ true → p || q ≡ true
or_first true q e = refl
or_first false q e = cc

module _ (asks : List Ask) where
  pub grown_self : (v : View) → Grown asks v v
  grown_self v = record { setting = refl; places = λ e h. h; contents = ([], nil_behind v.contents); asked = λ b h. h; only = λ b h. inl h; known = λ e h. h; known_only = λ e h. inl h; seats = (refl, refl); used_up = λ h. h; row_full = λ h. h; steps = omega arith }

  pub grown_then : (u v w : View) → Grown asks u v → Grown asks v w → Grown asks u w
  grown_then u v w a b = record {
    setting = b.setting ∙ a.setting;
    places = λ e h. b.places e (a.places e h);
    contents = (a.contents.0 ++ b.contents.0, b.contents.1 ∙ (ap (λ l. l ++ b.contents.0) a.contents.1 ∙ behind u.contents a.contents.0 b.contents.0));
    asked = λ e h. b.asked e (a.asked e h);
    only = λ e h. ⊎_elim (λ (t : In e v.asked). a.only e t) (λ (t : In e asks). inr t) (b.only e h);
    known = λ e h. b.known e (a.known e h);
    known_only = λ e h. ⊎_elim (λ (t : In e v.known). a.known_only e t) (λ (t : In e.0 asks). inr t) (b.known_only e h);
    seats = (b.seats.0 ∙ a.seats.0, b.seats.1 ∙ a.seats.1);
    used_up = λ h. b.used_up (a.used_up h);
    row_full = λ h. b.row_full (a.row_full h);
    steps = (let p = a.steps in let q = b.steps in omega arith);
  }

  pub grown_seen : (v w : View) (place found : ℕ) → w ≡ seen v asks place found → Grown asks v w
  grown_seen v w place found is = subst (Grown asks v) (sym is) record {
    setting = refl;
    places = λ e h. placed_in e v.places place found h;
    contents = ([], nil_behind v.contents);
    asked = λ b h. in_front b v.asked asks h;
    only = λ b h. in_split b v.asked asks h;
    known = λ e h. h;
    known_only = λ e h. inl h;
    seats = (refl, refl);
    used_up = λ h. h;
    row_full = λ h. h;
    steps = omega arith;
  }

  pub grown_read : (v w : View) (place n i found : ℕ) → w ≡ read_entry v asks place n i found → Grown asks v w
  grown_read v w place n i found is = subst (Grown asks v) (sym is) record {
    setting = refl;
    places = λ e h. h;
    contents = ((n, i, found) ∷ [], refl);
    asked = λ b h. in_front b v.asked asks h;
    only = λ b h. in_split b v.asked asks h;
    known = λ e h. h;
    known_only = λ e h. inl h;
    seats = (refl, refl);
    used_up = λ h. h;
    row_full = λ h. h;
    steps = omega arith;
  }

  pub grown_drafted : (v w : View) (place i x : ℕ) → w ≡ drafted v asks place i x → Grown asks v w
  grown_drafted v w place i x is = subst (Grown asks v) (sym is) record {
    setting = refl;
    places = λ e h. h;
    contents = ([], nil_behind v.contents);
    asked = λ b h. in_front b v.asked asks h;
    only = λ b h. in_split b v.asked asks h;
    known = λ e h. h;
    known_only = λ e h. inl h;
    seats = (refl, refl);
    used_up = λ h. h;
    row_full = λ h. h;
    steps = omega arith;
  }

  pub grown_stood : (v w : View) (place n : ℕ) → w ≡ stood v asks place n → Grown asks v w
  grown_stood v w place n is = subst (Grown asks v) (sym is) record {
    setting = refl;
    places = λ e h. in_front e v.places ((place, n + 1) ∷ []) h;
    contents = (entries n 0 v.draft, refl);
    asked = λ b h. in_front b v.asked asks h;
    only = λ b h. in_split b v.asked asks h;
    known = λ e h. h;
    known_only = λ e h. inl h;
    seats = (refl, refl);
    used_up = λ h. h;
    row_full = λ h. h;
    steps = omega arith;
  }

  drew_grown : (b : Bool) (v : View) (found : ℕ) → Grown asks v (drew_as b v asks found)
  drew_grown true v found = record {
    setting = refl;
    places = λ e h. h;
    contents = ([], nil_behind v.contents);
    asked = λ b h. in_front b v.asked asks h;
    only = λ b h. in_split b v.asked asks h;
    known = λ e h. h;
    known_only = λ e h. inl h;
    seats = (refl, refl);
    used_up = λ h. h;
    row_full = λ h. h;
    steps = omega arith;
  }
  drew_grown false v found = record {
    setting = refl;
    places = λ e h. h;
    contents = ([], nil_behind v.contents);
    asked = λ b h. in_front b v.asked asks h;
    only = λ b h. in_split b v.asked asks h;
    known = λ e h. h;
    known_only = λ e h. inl h;
    seats = (refl, refl);
    used_up = λ h. refl;
    row_full = λ h. h;
    steps = omega arith;
  }

  pub grown_drew : (v w : View) (found : ℕ) → w ≡ drew v asks found → Grown asks v w
  grown_drew v w found is = subst (Grown asks v) (sym is) (drew_grown (nat_lt found v.setting.states) v found)

  pub grown_looked : (v w : View) (x : ℕ) (a : Ask) (c : List ℕ) (place found : ℕ) → In a asks → w ≡ looked v asks x a c place found → Grown asks v w
  grown_looked v w x a c place found own is = subst (Grown asks v) (sym is) (
      let spot : List (Ask × ℕ) = (a, number_of found) ∷ [] in record {
        setting = refl;
        places = λ e h. placed_in e v.places place found h;
        contents = cond_front (is_hit x found) v.contents (entries (number_of found) 0 c);
        asked = λ b h. in_front b v.asked asks h;
        only = λ b h. in_split b v.asked asks h;
        known = λ e h. cond_in e (is_hit x found) v.known spot h;
        known_only = λ e h. ⊎_elim (λ (t : In e v.known). inl t)
            (λ (t : In e spot). inr (subst (λ (b : Ask). In b asks) (ap (λ (k : Ask × ℕ). k.0) (in_one e (a, number_of found) t)) own))
            (cond_out e (is_hit x found) v.known spot h);
        seats = (refl, refl);
        used_up = λ h. h;
        row_full = λ h. or_first v.row_full (all_other v.setting (cond (found == 0) v.places (v.places ++ (place, found) ∷ [])) x v.setting.rows) h;
        steps = omega arith;
      })

  pub grown_placed : (v w : View) (x : ℕ) (a : Ask) (place n : ℕ) → In a asks → w ≡ placed v asks x a place n → Grown asks v w
  grown_placed v w x a place n own is = subst (Grown asks v) (sym is) (
      let spot : List (Ask × ℕ) = (a, n) ∷ [] in record {
        setting = refl;
        places = λ e h. in_front e v.places ((place, Rattle.sel_law.specs.Words.word_of x n) ∷ []) h;
        contents = ([], nil_behind v.contents);
        asked = λ b h. in_front b v.asked asks h;
        only = λ b h. in_split b v.asked asks h;
        known = λ e h. in_front e v.known spot h;
        known_only = λ e h. ⊎_elim (λ (t : In e v.known). inl t)
            (λ (t : In e spot). inr (subst (λ (b : Ask). In b asks) (ap (λ (k : Ask × ℕ). k.0) (in_one e (a, n) t)) own))
            (in_split e v.known spot h);
        seats = (refl, refl);
        used_up = λ h. h;
        row_full = λ h. h;
        steps = omega arith;
      })

  module _ (v w : View) (g : Grown asks v w) where
    pub content_grown : (e : ℕ × ℕ × ℕ) → In e v.contents → In e w.contents
    content_grown e h = subst (In e) (sym g.contents.1) (in_front e v.contents g.contents.0 h)

    pub number_grown : (n : ℕ) → HeldNumber v n → HeldNumber w n
    number_grown n (inl (p, lt, h)) = inl (p, subst (λ (y : Setting). p < 2 * y.states) (sym g.setting) lt, g.places (intern_at p, n + 1) h)
    number_grown n (inr (a, h)) = inr (a, g.known (a, n) h)

    pub whole_grown : (n : ℕ) (c : List ℕ) → HeldWhole v n c → HeldWhole w n c
    whole_grown n c h = (h.0 ∙ ap (λ (y : Setting). y.width) (sym g.setting), λ i lt. content_grown (n, i, slice_index c i) (h.1 i (subst (λ (y : Setting). i < y.width) g.setting lt)))

    pub key_grown : (x : ℕ) (a : Ask) → HeldKey v x a → HeldKey w x a
    key_grown x a h = record {
      contents_of = h.contents_of;
      kids = each_kid_map (λ n. HeldNumber v n × HeldWhole v n (h.contents_of n)) (λ n. HeldNumber w n × HeldWhole w n (h.contents_of n)) (kids_of x) (left_of x) (right_of x)
          (λ n k. (number_grown n k.0, whole_grown n (h.contents_of n) k.1)) h.kids;
      ask = h.ask;
    }

    pub other_state_grown : (c : List ℕ) (p : ℕ) → OtherState v c p → OtherState w c p
    other_state_grown c p o = (o.0, o.1, o.2, g.places (intern_at p, o.0 + 1) o.3, content_grown (o.0, o.1, o.2) o.4, o.5)

    pub other_key_grown : (x q : ℕ) → OtherKey v x q → OtherKey w x q
    other_key_grown x q o = (o.0, subst (λ (y : Setting). In (row_at y q, o.0) w.places) (sym g.setting) (g.places (row_at v.setting q, o.0) o.1), o.2)

    pub walked_states_grown : (c : List ℕ) (p : ℕ) → (k : WalkedStates v c p) → (l : WalkedStates w c p) × (l.0 ≡ k.0)
    walked_states_grown c p k = (
      (
        k.0,
        subst (λ (s : Setting). k.0 < 2 * s.states) (sym g.setting) k.1,
        subst (λ (s : Setting). p ≡ walk (2 * s.states) (content_home s c) k.0) (sym g.setting) k.2,
        λ j l. subst (λ (s : Setting). OtherState w c (walk (2 * s.states) (content_home s c) j)) (sym g.setting) (other_state_grown c (walk (2 * v.setting.states) (content_home v.setting c) j) (k.3 j l)),
      ),
      refl,
    )

    pub walked_row_grown : (x q : ℕ) → (k : WalkedRow v x q) → (l : WalkedRow w x q) × (l.0 ≡ k.0)
    walked_row_grown x q k = (
      (
        k.0,
        subst (λ (s : Setting). k.0 < s.rows) (sym g.setting) k.1,
        subst (λ (s : Setting). q ≡ walk s.rows (key_home s x) k.0) (sym g.setting) k.2,
        λ j l. subst (λ (s : Setting). OtherKey w x (walk s.rows (key_home s x) j)) (sym g.setting) (other_key_grown x (walk v.setting.rows (key_home v.setting x) j) (k.3 j l)),
      ),
      refl,
    )
