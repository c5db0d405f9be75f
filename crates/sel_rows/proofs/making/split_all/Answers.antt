use Rattle.std.proofs.Common.{◌≡◌, ◌+◌, ◌-◌, List, [], ◌∷◌, ◌++◌, ap, ◌∙◌, subst, ⊎_elim, arith, length}
use Rattle.std.proofs.lemmas.List.{length_push}
use Rattle.sel_law.specs.declared.View.{View}
use Rattle.sel_law.specs.Words.{In}
use Rattle.sel_law.proofs.Base.{in_split, in_one}
use Rattle.sel_rows.specs.declared.part.PassPart.{PassPart}
use Rattle.sel_rows.specs.Parts.{IsNew, IsFresh}
use Rattle.sel_rows.specs.Tables.{IsPartOf, AreSplit}
use Rattle.sel_rows.proofs.making.split_all.Goals as goal

more : (P : PassPart → Type 0) (l : List PassPart) (n : PassPart) (all : List PassPart) → all ≡ l ++ n ∷ [] → ((p : PassPart) → In p l → P p) → P n → (p : PassPart) → In p all → P p
more P l n all e f h p k = ⊎_elim (λ (t : In p l). f p t) (λ (t : In p (n ∷ [])). subst P (in_one p n t) h) (in_split p l (n ∷ []) (subst (In p) e k))

long_more : (l : List PassPart) (n : PassPart) (all : List PassPart) → all ≡ l ++ n ∷ [] → length all ≡ length l + 1
long_more l n all e = ap length e ∙ length_push l n

old_new : (p old new : PassPart) → AreSplit p old new → IsNew p → IsNew old
old_new p old new s h = record {
  asked = ap (λ (v : View). v.asked) s.old_view ∙ h.asked;
  known = ap (λ (v : View). v.known) s.old_view ∙ h.known;
  places = ap (λ (v : View). v.places) s.old_view ∙ h.places;
  contents = ap (λ (v : View). v.contents) s.old_view ∙ h.contents;
  spare = s.spare.0;
  used_up = s.used_up.0 ∙ h.used_up;
  row_full = s.row_full.0 ∙ h.row_full;
  evaluated = s.evaluated.0 ∙ h.evaluated;
}

new_fresh : (p old new : PassPart) → AreSplit p old new → IsNew p → IsFresh new
new_fresh p old new s h = record {
  new = record {
    asked = ap (λ (v : View). v.asked) s.new_view_is ∙ h.asked;
    known = ap (λ (v : View). v.known) s.new_view_is ∙ h.known;
    places = ap (λ (v : View). v.places) s.new_view_is ∙ h.places;
    contents = ap (λ (v : View). v.contents) s.new_view_is ∙ h.contents;
    spare = s.spare.1;
    used_up = s.used_up.1 ∙ h.used_up;
    row_full = s.row_full.1 ∙ h.row_full;
    evaluated = s.evaluated.1;
  };
  one_seat = ap (λ (v : View). v.seats) s.new_view_is;
  none_left = ap (λ (v : View). v.rest) s.new_view_is;
}

pub loop-left-preserved : goal.loop-left-preserved
loop-left-preserved c =
    let i = c.loop-left.invariant in
    let p = c.loop-left.first in
    let e = c.split-old.ensures in
    let old = c.split-old.result.0 in
    let new = c.split-old.result.1 in
    let before = c.loop-left.parts.items in
    let all = c.push.new.self.items in
    let is = c.in_ok-push.ensures.items in
    record {
      first = e.of.0;
      first_new = old_new p old new e.split i.first_new;
      seats = (ap (λ (v : View). v.seats) e.split.old_view ∙ i.seats.0, ap (λ (v : View). v.rest) e.split.old_view ∙ ap (λ r. r - 1) i.seats.1);
      parts = more (IsPartOf c.args.rows.now) before new all is i.parts e.of.1;
      fresh = more IsFresh before new all is i.fresh (new_fresh p old new e.split i.first_new);
      long = (let k = long_more before new all is in let j = i.long in let some = c.loop-left-test.true in omega arith);
    }

last_fresh : (p : PassPart) → IsNew p → (p.seat.me.0.seats ≡ 1) → (p.seat.me.0.rest ≡ 0) → IsFresh p
last_fresh p n s r = record { new = n; one_seat = s; none_left = r }

pub returns-clause-of : goal.returns-clause-of
returns-clause-of c =
    let i = c.loop-left.invariant in
    more (IsPartOf c.args.rows.now) c.loop-left.parts.items c.loop-left.first c.push-2.new.self.items c.in_ok-push-2.ensures.items i.parts i.first

pub returns-clause-fresh : goal.returns-clause-fresh
returns-clause-fresh c =
    let i = c.loop-left.invariant in
    let none = c.loop-left-test.false in
    more IsFresh c.loop-left.parts.items c.loop-left.first c.push-2.new.self.items c.in_ok-push-2.ensures.items i.fresh (last_fresh c.loop-left.first i.first_new i.seats.0 (i.seats.1 ∙ omega arith))

pub returns-clause-count : goal.returns-clause-count
returns-clause-count c =
    let k = long_more c.loop-left.parts.items c.loop-left.first c.push-2.new.self.items c.in_ok-push-2.ensures.items in
    let j = c.loop-left.invariant.long in
    let none = c.loop-left-test.false in
    omega arith
