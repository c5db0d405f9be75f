-- `kids_cost` at each form of a pattern.
use Rattle.std.proofs.Common.{◌≡◌, ℕ, Option, Some, List, refl, ap, sym, ◌∙◌, slice_get}
use Rattle.std.specs.Prelude.{option_and_then}
use Rattle.sqlite_items.specs.declared.boxed.Boxed.{Boxed}
use Rattle.sel_grammar.specs.declared.grammar.Pattern.{Pattern, Leaf, Nullary, Unary, Binary, Unary', Binary'}
use Rattle.sel_grammar.specs.declared.grammar.Pattern.TheBlock.{shape-the_row-Pattern-0, hidden-the_row-Pattern-0}
use denote.Hole.Carrier.{hidden}
use Rattle.sel_grammar.specs.Costs.{Cost}
use Rattle.sel_forest.specs.declared.forest.Node.{Node}
use Rattle.sel_plain.specs.declared.kind.RuleKind.TheVariants.{Operator, Chain}
use Rattle.sel_plain.specs.Kinds.{rule_kind}
use Rattle.sel_plain.specs.Rows.{Row}
use Rattle.sel_plain.specs.Offers.{kids_cost, both_costs, offered_by}
use Rattle.sel_forest.specs.Places.{met}

pub kids_cost_unary : (op : ℕ) (p : Boxed Pattern) (nodes : List Node) (rows : List Row) (i : ℕ)
    → kids_cost (Unary op p) nodes rows i ≡ option_and_then (λ node. kids_cost p nodes rows node.left) (met (slice_get nodes i) op 1)
unfolding shape-the_row-Pattern-0 hidden-the_row-Pattern-0 hidden
kids_cost_unary op p nodes rows i = refl

pub kids_cost_binary : (op : ℕ) (p q : Boxed Pattern) (nodes : List Node) (rows : List Row) (i : ℕ)
    → kids_cost (Binary op p q) nodes rows i ≡ option_and_then (λ node. both_costs (kids_cost p nodes rows node.left) (kids_cost q nodes rows node.right)) (met (slice_get nodes i) op 2)
unfolding shape-the_row-Pattern-0 hidden-the_row-Pattern-0 hidden
kids_cost_binary op p q nodes rows i = refl

pub ruleset kids_cost_cases = (kids_cost_unary, kids_cost_binary)

pub unary_at : (pattern : Pattern) (op : ℕ) (b : Boxed Pattern) (p : Pattern) (node : Node) (nodes : List Node) (rows : List Row) (i : ℕ) (r : Option Cost)
    → pattern ≡ Unary op b → Some node ≡ met (slice_get nodes i) op 1 → p ≡ b → r ≡ kids_cost p nodes rows node.left → r ≡ kids_cost pattern nodes rows i
unary_at pattern op b p node nodes rows i r is here q e =
    e ∙ ap (λ x. kids_cost x nodes rows node.left) q ∙ ap (option_and_then (λ (node : Node). kids_cost b nodes rows node.left)) here
    ∙ sym (kids_cost_unary op b nodes rows i) ∙ ap (λ x. kids_cost x nodes rows i) (sym is)

pub binary_at : (pattern : Pattern) (op : ℕ) (b b' : Boxed Pattern) (p p' : Pattern) (node : Node) (nodes : List Node) (rows : List Row) (i : ℕ) (r s t : Option Cost)
    → pattern ≡ Binary op b b' → Some node ≡ met (slice_get nodes i) op 2 → p ≡ b → p' ≡ b' → r ≡ kids_cost p nodes rows node.left → s ≡ kids_cost p' nodes rows node.right
    → t ≡ both_costs r s → t ≡ kids_cost pattern nodes rows i
binary_at pattern op b b' p p' node nodes rows i r s t is here q q' e f h =
    h ∙ ap (λ x. both_costs x s) (e ∙ ap (λ x. kids_cost x nodes rows node.left) q) ∙ ap (λ x. both_costs (kids_cost b nodes rows node.left) x) (f ∙ ap (λ x. kids_cost x nodes rows node.right) q')
    ∙ ap (option_and_then (λ (node : Node). both_costs (kids_cost b nodes rows node.left) (kids_cost b' nodes rows node.right))) here
    ∙ sym (kids_cost_binary op b b' nodes rows i) ∙ ap (λ x. kids_cost x nodes rows i) (sym is)

pub offered_by_nullary : (op : ℕ) (nodes : List Node) (rows : List Row) (row : Row) (i : ℕ) → offered_by (Nullary op) nodes rows row i ≡ kids_cost (Nullary op) nodes rows i
offered_by_nullary op nodes rows row i = refl

pub offered_by_unary : (op : ℕ) (p : Boxed Pattern) (nodes : List Node) (rows : List Row) (row : Row) (i : ℕ) → offered_by (Unary op p) nodes rows row i ≡ kids_cost (Unary op p) nodes rows i
offered_by_unary op p nodes rows row i = refl

pub offered_by_binary : (op : ℕ) (p q : Boxed Pattern) (nodes : List Node) (rows : List Row) (row : Row) (i : ℕ) → offered_by (Binary op p q) nodes rows row i ≡ kids_cost (Binary op p q) nodes rows i
offered_by_binary op p q nodes rows row i = refl

pub ruleset offer_cases = (offered_by_nullary, offered_by_unary, offered_by_binary)

pub kind_nullary : (op : ℕ) → rule_kind (Nullary op) ≡ Operator
kind_nullary op = refl

pub kind_unary : (op : ℕ) (p : Boxed Pattern) → rule_kind (Unary op p) ≡ Operator
kind_unary op p = refl

pub kind_binary : (op : ℕ) (p q : Boxed Pattern) → rule_kind (Binary op p q) ≡ Operator
kind_binary op p q = refl

pub ruleset kind_cases = (kind_nullary, kind_unary, kind_binary)

pub not_leaf : (p : Pattern) → rule_kind p ≡ Operator → (m : ℕ) → p ≡ Leaf m → ⊥
not_leaf p h m q = let k : Chain ≡ Operator = ap rule_kind (sym q) ∙ h in cc

pub operator_kind : (p : Pattern) → ((m : ℕ) → p ≡ Leaf m → ⊥) → rule_kind p ≡ Operator
operator_kind (Leaf n) h = absurd (h n refl)
operator_kind (Nullary op) h = refl
operator_kind (Unary' op s p) h = refl
operator_kind (Binary' op s p s' q) h = refl
