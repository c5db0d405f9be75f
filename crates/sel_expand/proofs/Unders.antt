-- The goals under an operator's kids.
use Rattle.std.proofs.Common.{◌≡◌, ℕ, List, ◌++◌, ap, sym, ◌∙◌, slice_get}
use Rattle.sqlite_items.specs.declared.boxed.Boxed.{Boxed}
use Rattle.sel_grammar.specs.declared.grammar.Pattern.{Pattern, Unary, Binary}
use Rattle.sel_forest.specs.declared.forest.Node.{Node}
use Rattle.sel_forest.specs.Places.{goals, of_node}
use Rattle.sel_forest.proofs.PlaceLemmas.{goals_unary, goals_binary}

pub unary_are : (pattern : Pattern) (op : ℕ) (b : Boxed Pattern) (p : Pattern) (nodes : List Node) (i : ℕ) → pattern ≡ Unary op b → p ≡ b → of_node (slice_get nodes i) (λ node. goals p nodes node.left) ≡ goals pattern nodes i
unary_are pattern op b p nodes i is q = ap (λ x. of_node (slice_get nodes i) (λ node. goals x nodes node.left)) q ∙ sym (goals_unary op b nodes i) ∙ ap (λ x. goals x nodes i) (sym is)

pub binary_are : (pattern : Pattern) (op : ℕ) (b b' : Boxed Pattern) (p p' : Pattern) (nodes : List Node) (i : ℕ) → pattern ≡ Binary op b b' → p ≡ b → p' ≡ b'
    → of_node (slice_get nodes i) (λ node. goals p nodes node.left ++ goals p' nodes node.right) ≡ goals pattern nodes i
binary_are pattern op b b' p p' nodes i is q q' =
    (λ j. of_node (slice_get nodes i) (λ node. goals (q j) nodes node.left ++ goals (q' j) nodes node.right)) ∙ sym (goals_binary op b b' nodes i) ∙ ap (λ x. goals x nodes i) (sym is)
