use Rattle.std.proofs.Common.{◌≡◌, ◌⊎◌, true, ℕ, ◌<◌, min, arith, inr, List, length, sym, ap, ◌∙◌, subst, refl, Ok, inl}
use Rattle.sel_normal.specs.NormalForms.{NormalForm}
use Rattle.sel_items.specs.declared.items.Items.{Items}
use Rattle.sel_items.specs.declared.label.Label.TheVariants.{Numbered}
use Rattle.sel_items.specs.Follows.{key_of}
use Rattle.sel_items.specs.Labels.{KidsAre, AreKidSets, IsClassOver, HasLawfulKids}
use Rattle.sel_items.specs.Automata.{IsLabelled}
use Rattle.sel_law.specs.declared.Setting.{Setting}
use Rattle.sel_rows.specs.declared.found.Seen.TheVariants.{Number}
use Rattle.sel_rows.specs.Meanings.{told_by, Means}
use Rattle.sel_rows.specs.Answers.{IsPlainAfter}
use Rattle.sel_rows.specs.Counts.{CountsSteps}
use Rattle.sel_rows.specs.FoundRow.{HoldsKey, HoldsOthers}
use Rattle.sel_rows.proofs.KnownKeys.{knows_grown, is_full, looked_others, others_grown}
use Rattle.sel_rows.proofs.Growth.{grown_then, key_grown}
use Rattle.sel_rows.proofs.Labelled.{if_ok_of, on_err_of, labelled_key}
use Rattle.sel_rows.proofs.Steps.{kids_keep, kids_one, means_keep, left_before}
use Rattle.sel_rows.proofs.pass.Pass.answer_over_numbers.Goals as goal

number_is : (m n : ℕ) → Number m ≡ Number n → m ≡ n
number_is m n e = cc

pub answer_missed-requires : goal.answer_missed-requires
answer_missed-requires g c =
    let s = c.args.self.now in
    let s1 = c.find_key-seen.new.self in
    let asks = g.J.Doing.asks in
    let ask = g.J.Doing.ask in
    let u = s.hand.seat.me.0 in
    let v1 = s1.hand.seat.me.0 in
    let e = c.find_key-seen.ensures in
    let k = c.requires.node in
    let ks = (c.requires.may).kids in
    let a = c.args.kids.0 in
    let b = c.args.kids.1 in
    let op = c.args.operator in
    let class = c.args.class in
    let same_normal : s1.normal.now ≡ s.normal.now = ap (λ r. r.now) e.kept.1 in
    let moved : (is : List Items) → KidsAre (Means u s.plain.items) a b is → KidsAre (Means v1 s1.plain.items) a b is =
    λ is h. kids_keep (Means u s.plain.items) (Means v1 s1.plain.items) (means_keep asks u v1 e.grown s.plain.items s1.plain.items e.plain) a b is h in
    let long = ap length e.plain in
    let room = (c.requires.may).room in
    record {
      may = record {
        kids = (ks.0, moved ks.0 ks.1, subst (λ (n : NormalForm). AreKidSets n ks.0) (sym same_normal) ks.2);
        over = subst (λ (n : NormalForm). IsClassOver n class a) (sym same_normal) (c.requires.may).over;
        lawful = subst (λ (n : NormalForm). HasLawfulKids n op a b) (sym same_normal) (c.requires.may).lawful;
        room = subst (λ m. m < 4294967296) (sym long) room;
      };
      doing = c.requires.doing;
      node = record {
        lawful = k.lawful;
        held = key_grown asks u v1 e.grown c.args.key ask k.held;
        numbered = k.numbered;
        packed = k.packed;
        node = λ is h. k.node ks.0 ks.1 ∙ ap (λ l. key_of op class l) (kids_one v1 s1.plain.items a b ks.0 is (moved ks.0 ks.1) h);
      };
      walked = e.seen;
      missed = λ n q. c.in_default.not-Number n q;
    }

pub returns-in-Number-clause-labelled : goal.returns-in-Number-clause-labelled
returns-in-Number-clause-labelled g c =
    let s = c.args.self.now in
    let s1 = c.find_key-seen.new.self in
    let asks = g.J.Doing.asks in
    let ask = g.J.Doing.ask in
    let u = s.hand.seat.me.0 in
    let v1 = s1.hand.seat.me.0 in
    let e = c.find_key-seen.ensures in
    let k = c.requires.node in
    let ks = (c.requires.may).kids in
    let a = c.args.kids.0 in
    let b = c.args.kids.1 in
    let op = c.args.operator in
    let class = c.args.class in
    let same_normal : s1.normal.now ≡ s.normal.now = ap (λ r. r.now) e.kept.1 in
    let moved : (is : List Items) → KidsAre (Means u s.plain.items) a b is → KidsAre (Means v1 s1.plain.items) a b is =
    λ is h. kids_keep (Means u s.plain.items) (Means v1 s1.plain.items) (means_keep asks u v1 e.grown s.plain.items s1.plain.items e.plain) a b is h in
    let form : v1.setting.normal.value ≡ s.normal.now = ap (λ (y : Setting). y.normal.value) s1.hand.setting ∙ (s1.normal_is ∙ same_normal) in
    λ is kd. labelled_key s.normal.now v1 s1.plain.items s1.used_up s1.row_full op class a b is ask c.in-Number.number c.in-Number.ensures.seen form k.numbered k.packed (k.node is kd)

pub returns-in-Number-clause-hit : goal.returns-in-Number-clause-hit
returns-in-Number-clause-hit g c =
    let s = c.args.self.now in
    let s1 = c.find_key-seen.new.self in
    let asks = g.J.Doing.asks in
    let ask = g.J.Doing.ask in
    let u = s.hand.seat.me.0 in
    let v1 = s1.hand.seat.me.0 in
    let e = c.find_key-seen.ensures in
    let k = c.requires.node in
    let ks = (c.requires.may).kids in
    let a = c.args.kids.0 in
    let b = c.args.kids.1 in
    let op = c.args.operator in
    let class = c.args.class in
    let same_normal : s1.normal.now ≡ s.normal.now = ap (λ r. r.now) e.kept.1 in
    let moved : (is : List Items) → KidsAre (Means u s.plain.items) a b is → KidsAre (Means v1 s1.plain.items) a b is =
    λ is h. kids_keep (Means u s.plain.items) (Means v1 s1.plain.items) (means_keep asks u v1 e.grown s.plain.items s1.plain.items e.plain) a b is h in
    λ n kn rf some. record {
      label = ap (λ m. Ok (Numbered m)) (number_is c.in-Number.number n (c.in-Number.ensures.known n kn rf some));
      no_step = refl;
      evaluated = e.kept.3;
      spare = e.kept.2;
      used_up = e.kept.4;
      row_full = c.in-Number.ensures.marks ∙ rf;
    }

pub returns-in_default-clause-grown : goal.returns-in_default-clause-grown
returns-in_default-clause-grown g c =
    let s = c.args.self.now in
    let s1 = c.find_key-seen.new.self in
    let asks = g.J.Doing.asks in
    let ask = g.J.Doing.ask in
    let u = s.hand.seat.me.0 in
    let v1 = s1.hand.seat.me.0 in
    let e = c.find_key-seen.ensures in
    let k = c.requires.node in
    let ks = (c.requires.may).kids in
    let a = c.args.kids.0 in
    let b = c.args.kids.1 in
    let op = c.args.operator in
    let class = c.args.class in
    let same_normal : s1.normal.now ≡ s.normal.now = ap (λ r. r.now) e.kept.1 in
    let moved : (is : List Items) → KidsAre (Means u s.plain.items) a b is → KidsAre (Means v1 s1.plain.items) a b is =
    λ is h. kids_keep (Means u s.plain.items) (Means v1 s1.plain.items) (means_keep asks u v1 e.grown s.plain.items s1.plain.items e.plain) a b is h in
    let new = c.answer_missed.new.self in
    let f = c.answer_missed.ensures in
    grown_then asks u v1 new.hand.seat.me.0 e.grown f.grown

pub returns-in-Number-clause-left : goal.returns-in-Number-clause-left
returns-in-Number-clause-left g c =
    let e = c.find_key-seen.ensures in
    record {
      rows = e.kept.0;
      normal = e.kept.1;
      row_full = e.row_full;
      plain = inl e.plain;
      counted = inl (e.kept.3, refl);
      refused = tt;
      steps = omega arith;
    }

pub returns-in_default-clause-left : goal.returns-in_default-clause-left
returns-in_default-clause-left g c =
    let s = c.args.self.now in
    let e = c.find_key-seen.ensures in
    let new = c.answer_missed.new.self in
    let f = c.answer_missed.ensures.left in
    record {
      rows = f.rows ∙ e.kept.0;
      normal = f.normal ∙ e.kept.1;
      row_full = λ h. f.row_full (e.row_full h);
      plain = subst (λ l. IsPlainAfter l new.plain.items c.answer_missed.result) e.plain f.plain;
      counted = subst (λ m. CountsSteps m new.evaluated c.args.steps.now c.answer_missed.new.steps) e.kept.3 f.counted;
      refused = on_err_of c.answer_missed.result _ _ (λ h. h ∙ e.kept.2) f.refused;
      steps = f.steps;
    }

pub returns-in_default-clause-labelled : goal.returns-in_default-clause-labelled
returns-in_default-clause-labelled g c =
    let s = c.args.self.now in
    let s1 = c.find_key-seen.new.self in
    let asks = g.J.Doing.asks in
    let ask = g.J.Doing.ask in
    let u = s.hand.seat.me.0 in
    let v1 = s1.hand.seat.me.0 in
    let e = c.find_key-seen.ensures in
    let k = c.requires.node in
    let ks = (c.requires.may).kids in
    let a = c.args.kids.0 in
    let b = c.args.kids.1 in
    let op = c.args.operator in
    let class = c.args.class in
    let same_normal : s1.normal.now ≡ s.normal.now = ap (λ r. r.now) e.kept.1 in
    let moved : (is : List Items) → KidsAre (Means u s.plain.items) a b is → KidsAre (Means v1 s1.plain.items) a b is =
    λ is h. kids_keep (Means u s.plain.items) (Means v1 s1.plain.items) (means_keep asks u v1 e.grown s.plain.items s1.plain.items e.plain) a b is h in
    let new = c.answer_missed.new.self in
    let f = c.answer_missed.ensures in
    if_ok_of c.answer_missed.result _ _ (λ l h is kd.
    subst (λ (n : NormalForm). IsLabelled (told_by n new.hand.seat.me.0 new.plain.items new.used_up new.row_full) op class a b is l) same_normal (h is (moved is kd))) f.labelled

pub returns-in_default-clause-hit : goal.returns-in_default-clause-hit
returns-in_default-clause-hit g c =
    let s = c.args.self.now in
    let s1 = c.find_key-seen.new.self in
    let asks = g.J.Doing.asks in
    let ask = g.J.Doing.ask in
    let u = s.hand.seat.me.0 in
    let v1 = s1.hand.seat.me.0 in
    let e = c.find_key-seen.ensures in
    let k = c.requires.node in
    let ks = (c.requires.may).kids in
    let a = c.args.kids.0 in
    let b = c.args.kids.1 in
    let op = c.args.operator in
    let class = c.args.class in
    let same_normal : s1.normal.now ≡ s.normal.now = ap (λ r. r.now) e.kept.1 in
    let moved : (is : List Items) → KidsAre (Means u s.plain.items) a b is → KidsAre (Means v1 s1.plain.items) a b is =
    λ is h. kids_keep (Means u s.plain.items) (Means v1 s1.plain.items) (means_keep asks u v1 e.grown s.plain.items s1.plain.items e.plain) a b is h in
    let new = c.answer_missed.new.self in
    let f = c.answer_missed.ensures in
    λ n kn rf some. absurd (c.in_default.not-Number n (e.known n kn rf some))

pub returns-in_default-clause-cause : goal.returns-in_default-clause-cause
returns-in_default-clause-cause g c =
    let s = c.args.self.now in
    let s1 = c.find_key-seen.new.self in
    let asks = g.J.Doing.asks in
    let ask = g.J.Doing.ask in
    let u = s.hand.seat.me.0 in
    let v1 = s1.hand.seat.me.0 in
    let e = c.find_key-seen.ensures in
    let k = c.requires.node in
    let ks = (c.requires.may).kids in
    let a = c.args.kids.0 in
    let b = c.args.kids.1 in
    let op = c.args.operator in
    let class = c.args.class in
    let same_normal : s1.normal.now ≡ s.normal.now = ap (λ r. r.now) e.kept.1 in
    let moved : (is : List Items) → KidsAre (Means u s.plain.items) a b is → KidsAre (Means v1 s1.plain.items) a b is =
    λ is h. kids_keep (Means u s.plain.items) (Means v1 s1.plain.items) (means_keep asks u v1 e.grown s.plain.items s1.plain.items e.plain) a b is h in
    let new = c.answer_missed.new.self in
    let f = c.answer_missed.ensures in
    let keys : s1.hand.rows.now.table.shared.key ≡ s.hand.rows.now.table.shared.key = ap (λ r. r.now.table.shared.key) e.kept.0 in
    if_ok_of c.answer_missed.result _ _ (λ l h p. left_before asks u v1 new.hand.seat.me.0 e.grown s.spare s1.spare e.kept.2 s.hand.rows.now.table.shared.key s1.hand.rows.now.table.shared.key keys ask new.used_up (h p)) f.cause

label_is : (m n : ℕ) → Numbered m ≡ Numbered n → m ≡ n
label_is m n e = cc

pub returns-in-Number-clause-published : goal.returns-in-Number-clause-published
returns-in-Number-clause-published g c = λ n e.
    subst (λ m. HoldsKey c.find_key-seen.new.self.hand.seat.me.0 g.J.Doing.ask m ⊎ (c.find_key-seen.new.self.row_full ≡ true)) (label_is c.in-Number.number n e) (inl c.in-Number.ensures.seen)

pub returns-in-Number-clause-known : goal.returns-in-Number-clause-known
returns-in-Number-clause-known g c = λ n known. ap Numbered (c.in-Number.ensures.no_other n known.known known.some_rows)

pub returns-in_default-clause-known : goal.returns-in_default-clause-known
returns-in_default-clause-known g c = λ n known.
    let e = c.find_key-seen.ensures in
    c.answer_missed.ensures.known n
    (knows_grown g.J.Doing.asks c.args.self.now.hand.seat.me.0 c.find_key-seen.new.self.hand.seat.me.0 e.grown g.J.Doing.ask n known)
    (is_full c.find_key-seen.result n (λ m q. c.in_default.not-Number m q) (e.no_other n known.known known.some_rows))

pub returns-in-Number-clause-looked : goal.returns-in-Number-clause-looked
returns-in-Number-clause-looked g c = λ b some. inl (c.in-Number.number, c.in-Number.ensures.seen)

pub returns-in_default-clause-looked : goal.returns-in_default-clause-looked
returns-in_default-clause-looked g c = λ b some.
    let u = c.args.self.now.hand.seat.me.0 in
    let s1 = c.find_key-seen.new.self in
    let v = s1.hand.seat.me.0 in
    let w = c.answer_missed.new.self.hand.seat.me.0 in
    let e = c.find_key-seen.ensures in
    let rows : v.setting.rows ≡ u.setting.rows = ap (λ (y : Setting). y.rows) e.grown.setting in
    let there = looked_others u v c.args.key g.J.Doing.ask c.find_key-seen.result c.args.self.now.row_full s1.row_full b (omega arith) (λ m q. c.in_default.not-Number m q) e.walked e.marks in
    inr (subst (λ r. HoldsOthers w c.args.key (min r 64)) rows (others_grown g.J.Doing.asks v w c.answer_missed.ensures.grown c.args.key (min v.setting.rows 64) there))
