-- A numbered node is tabled, where held item sets fit words.
use Rattle.std.proofs.Common.{ℕ, zero, suc, ◌<◌, inl, inr, List, [], ◌∷◌, length, refl, sym, subst, arith}
use Rattle.sel_grammar.specs.PlainTrees.{Node0, Node1, Node2}
use Rattle.sel_forest.proofs.Matching.{within}
use Rattle.sel_items.specs.declared.label.Label.{Label}
use Rattle.sel_items.specs.declared.label.Label.TheVariants.{Numbered, Plain}
use Rattle.sel_label.specs.Labelling.{LabelAt}
use Rattle.sel_label.specs.Laws.{NumberedAreTabled, NumberedAreNotPlain}

label_at : (labels : List Label) (i : ℕ) → i < length labels → (l : Label) × LabelAt labels i l
label_at [] i h = absurd (omega arith)
label_at (l ∷ labels) zero h = (l, refl)
label_at (l ∷ labels) (suc i) h = label_at labels i (omega arith)

pub numbered_tabled : NumberedAreTabled
numbered_tabled g nodes labels i (Node0 op a) l long held root at n = let h = (held i (Node0 op a) l root at n).0 in (h.0, h.1, h.2)
numbered_tabled g nodes labels i (Node1 op a t) l long held root at n =
    let (node, get, is, kids, same, w) = root in
    let h = held i (Node1 op a t) l root at n in
    let kid = label_at labels node.left (subst (λ x. node.left < x) (sym long) (within nodes node.left t w.1)) in (
      ((h.0).0, (h.0).1, (h.0).2),
      numbered_tabled g nodes labels node.left t kid.0 long held w.1 kid.1 (h.1 node.left t kid.0 (node, get, inl (refl, refl)) kid.1),
    )
numbered_tabled g nodes labels i (Node2 op a t u) l long held root at n =
    let (node, get, is, kids, same, w) = root in
    let h = held i (Node2 op a t u) l root at n in
    let first = label_at labels node.left (subst (λ x. node.left < x) (sym long) (within nodes node.left t w.2)) in
    let second = label_at labels node.right (subst (λ x. node.right < x) (sym long) (within nodes node.right u w.3)) in (
      ((h.0).0, (h.0).1, (h.0).2),
      numbered_tabled g nodes labels node.left t first.0 long held w.2 first.1 (h.1 node.left t first.0 (node, get, inl (inl (refl, refl))) first.1),
      numbered_tabled g nodes labels node.right u second.0 long held w.3 second.1 (h.1 node.right u second.0 (node, get, inr (inl (refl, refl))) second.1),
    )

pub numbered_not_plain : NumberedAreNotPlain
numbered_not_plain [] h = refl
numbered_not_plain (Numbered n ∷ labels) h = numbered_not_plain labels (λ i l at. h (suc i) l at)
numbered_not_plain (Plain p ∷ labels) h = absurd (h 0 (Plain p) refl)
