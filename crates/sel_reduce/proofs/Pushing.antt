-- The goals of a right side, pushed the last first.
use Rattle.std.proofs.Common.{◌≡◌, ℕ, Option, Some, None, List, ◌++◌, reverse, refl, ap, sym, ◌∙◌, slice_get, append_assoc, append-nil}
use Rattle.sel_forest.specs.declared.forest.Node.{Node}
use Rattle.sel_forest.specs.declared.walk.Goal.{Goal}
use Rattle.sel_forest.specs.Places.{of_node}
use Rattle.sel_normal.specs.declared.normal.Body.{Body}
use Rattle.sel_normal.specs.declared.normal.Body.TheVariants.{Operator}
use Rattle.sel_reduce.specs.Goals.{kid_goal, kid_goals}

turned : (at : ℕ) (first : Option ℕ) (to : ℕ) (second : Option ℕ) → kid_goal to second ++ kid_goal at first ≡ reverse (kid_goal at first ++ kid_goal to second)
turned at None to None = refl
turned at None to (Some m) = refl
turned at (Some n) to None = refl
turned at (Some n) to (Some m) = refl

pub both_pushed : (body : Body) (op : ℕ) (first second test : Option ℕ) (nodes : List Node) (at : ℕ) (node : Node) (old mid new : List Goal) → body ≡ Operator op first second test → slice_get nodes at ≡ Some node
    → mid ≡ old ++ kid_goal node.right second → new ≡ mid ++ kid_goal node.left first → new ≡ old ++ reverse (kid_goals body nodes at)
both_pushed body op first second test nodes at node old mid new is there right left =
    left ∙ ap (λ l. l ++ kid_goal node.left first) right ∙ append_assoc old (kid_goal node.right second) (kid_goal node.left first)
    ∙ ap (λ l. old ++ l) (turned node.left first node.right second)
    ∙ ap (λ o. old ++ reverse (of_node o (λ node. kid_goal node.left first ++ kid_goal node.right second))) (sym there)
    ∙ ap (λ b. old ++ reverse (kid_goals b nodes at)) (sym is)

pub none_pushed : (body : Body) (op : ℕ) (first second test : Option ℕ) (nodes : List Node) (at : ℕ) (old : List Goal) → body ≡ Operator op first second test → slice_get nodes at ≡ None → old ≡ old ++ reverse (kid_goals body nodes at)
none_pushed body op first second test nodes at old is there =
    sym (append-nil old) ∙ ap (λ o. old ++ reverse (of_node o (λ node. kid_goal node.left first ++ kid_goal node.right second))) (sym there)
    ∙ ap (λ b. old ++ reverse (kid_goals b nodes at)) (sym is)
