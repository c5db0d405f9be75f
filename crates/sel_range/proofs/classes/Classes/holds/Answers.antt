use Rattle.std.proofs.Common.{◌≡◌, Option, Some, None, get_or, slice_get, ap, sym, ◌∙◌, subst, refl}
use Rattle.std.specs.Prelude.{◌↔◌, IfSome, IsTrue}
use Rattle.sel_range.specs.Classes.{holds, HoldsOfClass}
use Rattle.sel_range.specs.SortedCuts.{spans_class}
use Rattle.sel_range.proofs.Deciding.{span_at, span_decides, holds_every}
use Rattle.sel_range.proofs.classes.Classes.holds.Goals as goal

by_some : {X : Type 0} (o : Option X) (P : X → Type 0) → ((x : X) → o ≡ Some x → P x) → IfSome o P
by_some None P h = tt
by_some (Some x) P h = h x refl

pub returns-clause-rule : goal.returns-clause-rule
returns-clause-rule c =
    by_some (slice_get c.args.self.now c.args.test) (λ range. c.contains.result ≡ holds c.args.self.now c.args.class range) (λ range at.
    let tests = c.self.inside.tests.items in
    let sorted = c.self.inside.cuts.items in
    let same : tests ≡ c.args.self.now = c.self.view_is in
    let here : slice_get tests c.args.test ≡ Some range = subst (λ ts. slice_get ts c.args.test ≡ Some range) (sym same) at in
    let span = c.index.ensures ∙ ap (λ spans. get_or spans c.args.test c.index.result.now) c.self.invariant.spanned ∙ span_at sorted tests c.args.test range c.index.result.now here in
    c.contains.ensures ∙ ap (λ s. spans_class s c.args.class) span ∙ span_decides tests sorted range c.args.class c.self.invariant.ordered ∙ ap (λ ts. holds ts c.args.class range) same)

pub returns-clause-every : goal.returns-clause-every
returns-clause-every c =
    let rule = returns-clause-rule c in
    by_some (slice_get c.args.self.now c.args.test) (λ range. IsTrue c.contains.result ↔ HoldsOfClass c.args.self.now c.args.class range) (λ range at.
    let is : c.contains.result ≡ holds c.args.self.now c.args.class range = subst (λ o. IfSome o (λ range. c.contains.result ≡ holds c.args.self.now c.args.class range)) at rule in
    subst (λ b. IsTrue b ↔ HoldsOfClass c.args.self.now c.args.class range) (sym is) (holds_every c.args.self.now c.args.test range c.args.class at c.requires.occurs))
