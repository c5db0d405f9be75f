use Rattle.std.proofs.Common.{◌≡◌, ◌<◌, ◌≤◌, List, [], length, sym, ap, ◌∙◌, subst}
use Rattle.sel_items.specs.declared.items.Items.{Items}
use Rattle.sel_items.specs.declared.label.Label.{Label}
use Rattle.sel_items.specs.declared.label.Label.TheVariants.{Numbered, Plain}
use Rattle.sel_items.specs.Labels.{IsPlain}
use Rattle.sel_items.specs.Follows.{NodeKey}
use Rattle.sel_law.specs.declared.Setting.{Setting}
use Rattle.sel_law.specs.declared.View.{View}
use Rattle.sel_law.specs.Words.{In, IsMadeOf}
use Rattle.sel_rows.specs.Meanings.{Means, IsAsked, IsKnown}
use Rattle.sel_rows.proofs.Contents.{held_stays}
use Rattle.sel_rows.proofs.Steps.{means_keep}
use Rattle.sel_rows.proofs.automaton.PassAutomaton.item.Goals as goal

known_same : (v w : View) → w.known ≡ v.known → w.setting ≡ v.setting → (k : NodeKey) → IsKnown v k → IsKnown w k
known_same v w e s k h = let f = h.1.1 in (
  h.0,
  (
    h.1.0,
    record {
      known = subst (In (h.1.0, h.0)) (sym e) f.known;
      some_rows = subst (λ (y : Setting). 1 ≤ y.rows) (sym s) f.some_rows;
      packed = f.packed;
      below = subst (λ (y : Setting). h.0 < y.states) (sym s) f.below;
      made = ((f.made).0, subst (λ (y : Setting). IsMadeOf y h.1.0 (f.made).0) (sym s) (f.made).1);
    },
    h.1.2,
  ),
)

asked_same : (v w : View) → w.asked ≡ v.asked → (k : NodeKey) → IsAsked v k → IsAsked w k
asked_same v w e k h = (h.0, subst (In h.0) (sym e) h.1, h.2)

plain_back : (v w : View) (p q : List Items) → q ≡ p → (l : Label) (i : Items) → IsPlain l → Means w q l i → Means v p l i
plain_back v w p q e (Numbered n) i t h = absurd t
plain_back v w p q e (Plain n) i t h = subst (λ r. Means w r (Plain n) i) e h

pub returns-in-Numbered-clause-read : goal.returns-in-Numbered-clause-read
returns-in-Numbered-clause-read c =
    let s = c.args.self.now in
    let t = c.held_item.new.self in
    let v = s.hand.seat.me.0 in
    let w = t.hand.seat.me.0 in
    let e = c.held_item.ensures in
    let g = e.grown in
    record {
      tables = record {
        normal = λ i. (e.kept.1 i).now;
        asked = (asked_same v w e.same.0, asked_same w v (sym e.same.0));
        known = (known_same v w e.same.1 g.setting, known_same w v (sym e.same.1) (sym g.setting));
        ready = (
          (λ k h. (known_same v w e.same.1 g.setting k h.0, e.kept.3 ∙ h.1)),
          (λ k h. (known_same w v (sym e.same.1) (sym g.setting) k h.0, sym e.kept.3 ∙ h.1)),
        );
        held = (held_stays [] v w g, e.back);
        used_up = e.kept.4;
        row_full = e.kept.3;
      };
      means = means_keep [] v w g s.plain.items t.plain.items e.kept.2;
      plain = plain_back v w s.plain.items t.plain.items e.kept.2;
      plain_labels = ap length e.kept.2;
    }
