use Rattle.std.proofs.Common.{◌≡◌, Option, sym, ap, subst}
use Rattle.std.specs.Option.{option_copied}
use Rattle.sel_normal.specs.NormalForms.{NormalForm}
use Rattle.sel_items.specs.declared.items.Items.{Items}
use Rattle.sel_items.specs.KidSets.{IsKid}
use Rattle.sel_auto.specs.Tables.{Tables, kid_meaning}
use Rattle.sel_auto.proofs.KidMeanings.{first_kid, second_kid}
use Rattle.sel_auto.proofs.private.PrivateAutomaton.evaluate.Goals as goal

moved : (t : Tables) (normal : NormalForm) (o p : Option Items) → normal ≡ t.normal → o ≡ p → IsKid t.normal p → IsKid normal o
moved t normal o p e f h = subst (λ (n : NormalForm). IsKid n o) (sym e) (subst (IsKid t.normal) (sym f) h)

pub evaluate-requires-clause-first : goal.evaluate-requires-clause-first
evaluate-requires-clause-first g c =
    let t : Tables = c.args.self.now in
    let kids = c.requires.kids in
    moved t c.self.inside.normal.now (option_copied c.kid_meaning-first.result) (kid_meaning t c.args.kids.0) (ap (λ (s : Tables). s.normal) c.self.view_is) c.kid_meaning-first.ensures (first_kid t.normal t c.args.kids.0 c.args.kids.1 kids.0 kids.1 kids.2)

pub evaluate-requires-clause-second : goal.evaluate-requires-clause-second
evaluate-requires-clause-second g c =
    let t : Tables = c.args.self.now in
    let kids = c.requires.kids in
    moved t c.self.inside.normal.now (option_copied c.kid_meaning-second.result) (kid_meaning t c.args.kids.1) (ap (λ (s : Tables). s.normal) c.self.view_is) c.kid_meaning-second.ensures (second_kid t.normal t c.args.kids.0 c.args.kids.1 kids.0 kids.1 kids.2)
