use Rattle.std.proofs.Common.{◌≡◌, ℕ, [], ◌∷◌, ◌++◌, sym, ap, ◌∙◌, subst}
use Rattle.sel_law.specs.declared.View.{View}
use Rattle.sel_law.specs.Words.{In}
use Rattle.sel_law.specs.Kinds.{HeldNumber}
use Rattle.sel_law.proofs.Base.{in_back, in_here}
use Rattle.sel_rows.proofs.Growth.{grown_read}
use Rattle.sel_rows.proofs.hand.Hand.entry.Goals as goal

pub read_as-requires-clause-held : goal.read_as-requires-clause-held
read_as-requires-clause-held g c = (subst (HeldNumber c.args.self.now.seat.me.0) (sym c.requires.about.0) c.requires.held, c.args.self.now.seated)

pub returns-clause-grown : goal.returns-clause-grown
returns-clause-grown g c =
    let v = c.args.self.now.seat.me.0 in
    let w = c.read_as.new.seat.me.0 in
    grown_read g.J.Doing.asks v w _ _ _ _ (ap (λ m. m.0) c.read_as.ensures.1)

pub returns-clause-there : goal.returns-clause-there
returns-clause-there g c =
    let v = c.args.self.now.seat.me.0 in
    let w = c.read_as.new.seat.me.0 in
    let n = c.args.number in
    let i = c.args.index in
    let x = c.read_as.result in
    let spot : ℕ × ℕ × ℕ = (n, i, x) in
    let is : w.contents ≡ v.contents ++ spot ∷ [] = ap (λ m. m.0.contents) c.read_as.ensures.1 ∙ (λ k. v.contents ++ (c.requires.about.0 k, c.requires.about.1 k, x) ∷ []) in
    (subst (In spot) (sym is) (in_back spot v.contents (spot ∷ []) (in_here spot [])), c.read_as.ensures.2)

pub returns-clause-exact : goal.returns-clause-exact
returns-clause-exact g c =
    let v = c.args.self.now.seat.me.0 in
    let is = ap (λ m. m.0) c.read_as.ensures.1 in record {
      setting = ap (λ (y : View). y.setting) is;
      places = ap (λ (y : View). y.places) is;
      known = ap (λ (y : View). y.known) is;
      asked = ap (λ (y : View). y.asked) is;
      contents = ap (λ (y : View). y.contents) is ∙ (λ k. v.contents ++ (c.requires.about.0 k, c.requires.about.1 k, c.read_as.result) ∷ []);
      steps = ap (λ (y : View). y.steps) is;
    }
