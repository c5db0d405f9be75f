-- Each label of a labelled tree means an item set.
use Rattle.std.proofs.Common.{◌≡◌, ℕ, zero, suc, ◌<◌, Some, None, List, [], ◌∷◌, length, refl, sym, ◌∙◌, subst, arith}
use Rattle.std.specs.Prelude.{slice_get, slice_index_or}
use Rattle.sel_grammar.specs.declared.grammar.Grammar.{Grammar}
use Rattle.sel_forest.specs.declared.forest.Tree.{Tree}
use Rattle.sel_forest.specs.Valid.{IsValidTree}
use Rattle.sel_items.specs.declared.items.Items.{Items}
use Rattle.sel_items.specs.declared.label.Label.{Label}
use Rattle.sel_items.specs.Automata.{Told}
use Rattle.sel_label.specs.Labelling.{AreLabelled}
use Rattle.sel_label.proofs.NodeTrees.{valid_node}

none_some : {A : Type 0} {x : A} → None ≡ Some x → ⊥
none_some e = cc

pub some_is : {A : Type 0} (x y : A) → Some x ≡ Some y → x ≡ y
some_is x y e = cc

pub get_within : {A : Type 0} (xs : List A) (k : ℕ) (x : A) → slice_get xs k ≡ Some x → k < length xs
get_within [] k x h = absurd (none_some h)
get_within (y ∷ xs) zero x h = omega arith
get_within (y ∷ xs) (suc k) x h = let w = get_within xs k x h in omega arith

pub each_means : (g : Grammar) (told : Told) (tree : Tree) (labels : List Label) → IsValidTree g tree → AreLabelled g tree.nodes told labels
    → (k : ℕ) (l : Label) → slice_get labels k ≡ Some l → (i : Items) × told.means l i
each_means g told tree labels valid h k l at =
    let lt = get_within labels k l at in
    let node = valid_node g tree k valid (subst (λ n. k < n) h.long lt) in
    let m = h.mean k node.0 node.1 in
    (m.2.0, subst (λ x. told.means x m.2.0) (some_is m.0 l (sym m.1 ∙ at)) m.2.1)

-- what stands at an index within a list
pub get_index : {A : Type 0} (xs : List A) (k : ℕ) (d : A) → k < length xs → slice_get xs k ≡ Some (slice_index_or xs k d)
get_index [] k d lt = absurd (omega arith)
get_index (x ∷ xs) zero d lt = refl
get_index (x ∷ xs) (suc k) d lt = get_index xs k d (omega arith)
