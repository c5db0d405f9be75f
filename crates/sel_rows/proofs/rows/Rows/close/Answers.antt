use Rattle.std.proofs.Common.{◌≡◌, ℕ, List, [], ◌∷◌, ◌++◌, Result, Ok, Err, sym, ◌∙◌, subst, ⊎_elim, arith}
use Rattle.std.specs.Prelude.{IfOk}
use Rattle.sel_law.specs.declared.Setting.{Setting}
use Rattle.sel_law.specs.declared.Ask.{Ask}
use Rattle.sel_law.specs.declared.View.{View}
use Rattle.sel_law.specs.Words.{In}
use Rattle.sel_law.specs.Law.{Closes}
use Rattle.sel_law.proofs.Base.{in_front, in_back, in_split, in_one, in_here}
use Rattle.sel_rows.specs.declared.part.PassPart.{PassPart}
use Rattle.sel_rows.specs.declared.snapshot.Snapshot.{Snapshot}
use Rattle.sel_rows.specs.Parts.{AllWithin, Within, AskedIn}
use Rattle.sel_rows.specs.Snapshots.{IsSnapshotOf}
use Rattle.sel_rows.specs.Closing.{AreClosedWords, IsClosedBy}
use Rattle.sel_rows.specs.Tables.{id_of, setting_of}
use Rattle.sel_rows.proofs.Joins.{last_of, front_of, seats_split}
use Rattle.sel_rows.proofs.Closings.{closed_table}
use Rattle.sel_rows.proofs.SnapshotIs.{lawful_snapshot}
use Rattle.sel_rows.proofs.rows.Rows.close.Goals as goal

-- the parts are the others and the last one
split_parts : (parts all front : List PassPart) (last : PassPart) → all ≡ parts → all ≡ front ++ last ∷ [] → parts ≡ front ++ last ∷ []
split_parts parts all front last a b = sym a ∙ b

pub join_all-seat-requires-clause-first : goal.join_all-seat-requires-clause-first
join_all-seat-requires-clause-first c =
    let is = split_parts c.args.parts c.into_vec-parts.result.items c.pop.new.self.items c.in-Some.part c.into_vec-parts.ensures c.in-Some.ensures.items in
    let l = last_of (id_of c.args.self) (setting_of c.args.self) c.args.parts c.pop.new.self.items c.in-Some.part is c.requires.of in
    (l.of, c.in-Some.part.idle, c.in-Some.part.seated)

pub join_all-seat-requires-clause-parts : goal.join_all-seat-requires-clause-parts
join_all-seat-requires-clause-parts c =
    let is = split_parts c.args.parts c.into_vec-parts.result.items c.pop.new.self.items c.in-Some.part c.into_vec-parts.ensures c.in-Some.ensures.items in
    front_of (id_of c.args.self) (setting_of c.args.self) c.args.parts c.pop.new.self.items c.in-Some.part is c.requires.of

pub close-requires-clause-whole : goal.close-requires-clause-whole
close-requires-clause-whole c =
    let is = split_parts c.args.parts c.into_vec-parts.result.items c.pop.new.self.items c.in-Some.part c.into_vec-parts.ensures c.in-Some.ensures.items in
    let sum = seats_split (id_of c.args.self) (setting_of c.args.self) c.args.parts c.pop.new.self.items c.in-Some.part is in
    let seats = c.requires.seats in
    let got = c.join_all-seat.ensures.seats in
    let one = c.in-Some.part.seated in
    (omega arith, omega arith)

closed_by : (z : Setting) (parts front : List PassPart) (last : PassPart) → parts ≡ front ++ last ∷ [] → (ws : List ℕ) (w : View) → Closes z ws w → Within last.seat.me.0 w → AllWithin front w
    → ((b : Ask) → In b w.asked → AskedIn last.seat.me.0 front b) → (s : Snapshot) → IsSnapshotOf z ws s → IsClosedBy z parts s
closed_by z parts front last is ws w closes own others asked s snap = record {
  words = ws;
  view = w;
  snapshot = snap;
  table = closed_table z ws w closes;
  parts_within = λ p h. ⊎_elim (λ (t : In p front). others p t) (λ (t : In p (last ∷ [])). subst (λ (q : PassPart). Within q.seat.me.0 w) (in_one p last t) own) (in_split p front (last ∷ []) (subst (In p) is h));
  asked = λ b h. ⊎_elim
      (λ (t : In b last.seat.me.0.asked). (last, subst (In last) (sym is) (in_back last front (last ∷ []) (in_here last [])), t))
      (λ (t : (p : PassPart) × In p front × In b p.seat.me.0.asked). (t.0, subst (In t.0) (sym is) (in_front t.0 front (last ∷ []) t.1), t.2))
      (asked b h);
}

if_ok_of : {A E : Type 0} (r : Result A E) (P Q : A → Type 0) → ((x : A) → P x → Q x) → IfOk r P → IfOk r Q
if_ok_of (Ok x) P Q f h = f x h
if_ok_of (Err e) P Q f h = h

pub returns : goal.returns
returns c =
    let z = setting_of c.args.self in
    let is = split_parts c.args.parts c.into_vec-parts.result.items c.pop.new.self.items c.in-Some.part c.into_vec-parts.ensures c.in-Some.ensures.items in
    let w = c.join_all-seat.result.me.0 in
    let j = c.join_all-seat.ensures in
    let ws = c.as_slice.result.now in
    let closes : Closes z ws w = subst (λ l. Closes z l w) (sym c.as_slice.ensures.value) c.in_ok-closed-in-Some.ensures in
    let words = c.args.self.words in
    let lawful : AreClosedWords z ws words.states words.rows words.width = record {
      states_is = words.states_is;
      rows_is = words.rows_is;
      width_is = words.width_is;
      small = closes.small;
      size = closes.size;
      transitions = closes.rows;
      numbers = closes.states;
    } in
    let by : (s : Snapshot) → IsSnapshotOf z ws s → IsClosedBy z c.args.parts s = closed_by z c.args.parts c.pop.new.self.items c.in-Some.part is ws w closes j.within.0 j.within.1 j.only in
    record {
      closed = if_ok_of c.read_snapshot.result _ _ (λ s h. by s (h z lawful)) c.read_snapshot.ensures;
      lawful = if_ok_of c.read_snapshot.result _ _ (λ s h. lawful_snapshot (id_of c.args.self) z c.args.parts c.requires.of s (by s (h z lawful))) c.read_snapshot.ensures;
    }
