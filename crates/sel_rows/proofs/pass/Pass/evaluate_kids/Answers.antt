use Rattle.std.proofs.Common.{◌≡◌, List, Result, Ok, Err, sym, ap, ◌∙◌, subst}
use Rattle.std.specs.Prelude.{IfOk}
use Rattle.std.specs.Option.{option_copied}
use Rattle.sel_items.specs.declared.items.Items.{Items}
use Rattle.sel_items.specs.Follows.{key_of, Follows}
use Rattle.sel_items.specs.KidSets.{kid_sets, IsKid}
use Rattle.sel_rows.specs.Keys.{kid_meaning, kid_chosen}
use Rattle.sel_rows.proofs.KidSets.{kid_first, kid_second, kid_meant, chosen_is}
use Rattle.sel_rows.proofs.pass.Pass.evaluate_kids.Goals as goal

if_ok_more : {A E : Type 0} (r : Result A E) (P Q : A → Type 0) → ((x : A) → P x → Q x) → IfOk r P → IfOk r Q
if_ok_more (Ok x) P Q f h = f x h
if_ok_more (Err e) P Q f h = h

pub evaluate-requires-clause-first : goal.evaluate-requires-clause-first
evaluate-requires-clause-first g c =
    let v = c.args.self.now.hand.seat.me.0 in
    let plain = c.args.self.now.plain.items in
    let k = c.requires.kids in
    let first : option_copied c.kid_of-first.result ≡ kid_meaning v plain c.args.kids.0 =
    c.kid_of-first.ensures ∙ (ap (kid_chosen c.args.kids.0 c.in_ok-first_read.first_read) c.as_slice.ensures.value ∙ chosen_is v plain c.args.kids.0 c.in_ok-first_read.first_read c.in_ok-first_read.ensures.read.0) in
    subst (IsKid c.args.self.now.normal.now) (sym first) (kid_first v plain c.args.kids.0 c.args.kids.1 k.0 k.1 c.args.self.now.normal.now k.2)

pub evaluate-requires-clause-second : goal.evaluate-requires-clause-second
evaluate-requires-clause-second g c =
    let v = c.args.self.now.hand.seat.me.0 in
    let plain = c.args.self.now.plain.items in
    let k = c.requires.kids in
    let second : option_copied c.kid_of-second.result ≡ kid_meaning v plain c.args.kids.1 =
    c.kid_of-second.ensures ∙ (ap (kid_chosen c.args.kids.1 c.in_ok-first_read.second_read) c.as_slice-2.ensures.value ∙ chosen_is v plain c.args.kids.1 c.in_ok-first_read.second_read c.in_ok-first_read.ensures.read.1) in
    subst (IsKid c.args.self.now.normal.now) (sym second) (kid_second v plain c.args.kids.0 c.args.kids.1 k.0 k.1 c.args.self.now.normal.now k.2)

pub returns-clause-follows : goal.returns-clause-follows
returns-clause-follows g c =
    let v = c.args.self.now.hand.seat.me.0 in
    let plain = c.args.self.now.plain.items in
    let a = c.args.kids.0 in
    let b = c.args.kids.1 in
    let normal = c.args.self.now.normal.now in
    let first : option_copied c.kid_of-first.result ≡ kid_meaning v plain a =
    c.kid_of-first.ensures ∙ (ap (kid_chosen a c.in_ok-first_read.first_read) c.as_slice.ensures.value ∙ chosen_is v plain a c.in_ok-first_read.first_read c.in_ok-first_read.ensures.read.0) in
    let second : option_copied c.kid_of-second.result ≡ kid_meaning v plain b =
    c.kid_of-second.ensures ∙ (ap (kid_chosen b c.in_ok-first_read.second_read) c.as_slice-2.ensures.value ∙ chosen_is v plain b c.in_ok-first_read.second_read c.in_ok-first_read.ensures.read.1) in
    if_ok_more c.evaluate.result _ _ (λ i h is k.
    subst (λ (l : List Items). Follows normal (key_of c.args.operator c.args.class l) i) ((λ j. kid_sets (first j) (second j)) ∙ kid_meant v plain a b is k) h) c.evaluate.ensures.follows
