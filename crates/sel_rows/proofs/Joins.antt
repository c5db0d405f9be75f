-- Parts that are joined one by one.
use Rattle.std.proofs.Common.{Bool, true, false, ◌||◌, refl, ◌≡◌, ◌⊎◌, ◌+◌, List, [], ◌∷◌, ◌++◌, sym, ap, ◌∙◌, subst, ⊎_elim, inl, inr, arith}
use Rattle.sel_law.specs.declared.Ask.{Ask}
use Rattle.sel_law.specs.declared.Setting.{Setting}
use Rattle.sel_law.specs.declared.View.{View}
use Rattle.sel_law.specs.Words.{In}
use Rattle.sel_law.specs.Kinds.{both_views}
use Rattle.sel_law.proofs.Base.{in_front, in_back, in_split, in_one, in_here, weigh_append}
use Rattle.atomic_table.specs.Seated.{TableId}
use Rattle.sel_rows.specs.declared.part.PassPart.{PassPart}
use Rattle.sel_rows.specs.Parts.{PartOf, AllOf, Within, AskedIn, seats_of}

pub or_left : (a b : Bool) → a ≡ true → (a || b) ≡ true
or_left true b h = refl
or_left false b h = cc

pub or_right : (a b : Bool) → b ≡ true → (a || b) ≡ true
or_right true b h = refl
or_right false b h = h

pub within_self : (v : View) → Within v v
within_self v = record { asked = λ b h. h; known = λ e h. h; contents = λ e h. h; places = λ e h. h; used_up = λ h. h; row_full = λ h. h }

pub within_left : (u v w b : View) → b ≡ both_views v w → Within u v → Within u b
within_left u v w b is g = subst (Within u) (sym is) record {
  asked = λ x h. in_front x v.asked w.asked (g.asked x h);
  known = λ x h. in_front x v.known w.known (g.known x h);
  contents = λ x h. in_front x v.contents w.contents (g.contents x h);
  places = λ x h. in_front x v.places w.places (g.places x h);
  used_up = λ h. or_left v.used_up w.used_up (g.used_up h);
  row_full = λ h. or_left v.row_full w.row_full (g.row_full h);
}

pub within_right : (v w b : View) → b ≡ both_views v w → Within w b
within_right v w b is = subst (Within w) (sym is) record {
  asked = λ x h. in_back x v.asked w.asked h;
  known = λ x h. in_back x v.known w.known h;
  contents = λ x h. in_back x v.contents w.contents h;
  places = λ x h. in_back x v.places w.places h;
  used_up = λ h. or_right v.used_up w.used_up h;
  row_full = λ h. or_right v.row_full w.row_full h;
}

module _ (t : TableId) (z : Setting) (all front : List PassPart) (last : PassPart) (is : all ≡ front ++ last ∷ []) where
  pub last_of : AllOf t z all → PartOf t z last
  last_of h = h last (subst (In last) (sym is) (in_back last front (last ∷ []) (in_here last [])))

  pub front_of : AllOf t z all → AllOf t z front
  front_of h p k = h p (subst (In p) (sym is) (in_front p front (last ∷ []) k))

  pub seats_split : seats_of all ≡ seats_of front + last.seat.me.0.seats
  seats_split = ap seats_of is ∙ (let a = weigh_append (λ (p : PassPart). p.seat.me.0.seats) front (last ∷ []) in omega arith)

  pub still : (v b : View) → b ≡ both_views v last.seat.me.0 → (whole : List PassPart) → ((p : PassPart) → In p whole → In p all ⊎ Within p.seat.me.0 v) → (p : PassPart) → In p whole → In p front ⊎ Within p.seat.me.0 b
  still v b e whole h p k = ⊎_elim
      (λ (i : In p all). ⊎_elim
      (λ (j : In p front). inl j)
      (λ (j : In p (last ∷ [])). inr (subst (λ (q : PassPart). Within q.seat.me.0 b) (in_one p last j) (within_right v last.seat.me.0 b e)))
      (in_split p front (last ∷ []) (subst (In p) is i)))
      (λ (i : Within p.seat.me.0 v). inr (within_left p.seat.me.0 v last.seat.me.0 b e i))
      (h p k)

  -- a key that was asked behind the join was asked before it, in the view or in the part
  pub asked_still : (whole : List PassPart) (first v b : View) → b ≡ both_views v last.seat.me.0 → In last whole → ((x : Ask) → In x v.asked → AskedIn first whole x) → (x : Ask) → In x b.asked → AskedIn first whole x
  asked_still whole first v b e there h x k = ⊎_elim
      (λ (i : In x v.asked). h x i)
      (λ (i : In x last.seat.me.0.asked). inr (last, there, i))
      (in_split x v.asked last.seat.me.0.asked (subst (λ (y : View). In x y.asked) e k))
