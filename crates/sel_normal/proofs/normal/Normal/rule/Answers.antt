use Rattle.std.proofs.Common.{◌≡◌, ◌-◌, ◌<◌, ◌≤◌, length, refl, subst, ap, Some, slice_get, arith}
use Rattle.std.proofs.lemmas.Option.{slice_get_read}
use Rattle.sel_normal.specs.NormalForms.{NormalForm, normal_at}
use Rattle.sel_normal.specs.Standing.{IsRuleWithin}
use Rattle.sel_normal.proofs.Kept.{normal_at_place}
use Rattle.sel_normal.proofs.normal.Normal.rule.Goals as goal

pub returns-clause-within : goal.returns-clause-within
returns-clause-within c =
    let inside = c.self.inside in
    let form : NormalForm = record { nonterminals = inside.nonterminals; user_rules = inside.user_rules; rules = inside.rules.items; tests = inside.classes } in
    let long : length inside.rules.items ≡ length c.args.self.now.rules = ap (λ (n : NormalForm). length n.rules) c.self.view_is in
    let from = c.requires.from in
    let to = c.requires.to in
    let rule = c.index.result.now in
    subst (λ n. IsRuleWithin n rule) c.self.view_is
    (c.self.invariant.within c.args.rule rule (normal_at_place form c.args.rule rule from (slice_get_read inside.rules.items _ _ _ refl (omega arith) c.index.ensures)))
