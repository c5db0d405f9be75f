-- Normal rules as a grammar: what its rules are, where they fit, and what their leaves are.
use Rattle.std.proofs.Common.{◌≡◌, ℕ, zero, suc, List, [], ◌∷◌, refl, ap, subst, sym, ◌∙◌, Option, Some, None, Bool, true, false, ◌==◌, if◌then◌else◌, slice_get, map}
use Rattle.sel_base.specs.declared.range.Range.{Range}
use Rattle.sel_grammar.specs.declared.grammar.Attribute.{Attribute}
use Rattle.sel_grammar.specs.declared.grammar.Rule.{Rule}
use Rattle.sel_grammar.specs.declared.grammar.Pattern.{Pattern, Leaf, Nullary, Unary, Binary}
use Rattle.sel_grammar.specs.declared.grammar.Pattern.TheBlock.{shape-the_row-Pattern-0, hidden-the_row-Pattern-0}
use denote.Hole.Carrier.{hidden}
use Rattle.sel_grammar.specs.PlainTrees.{PlainTree, Node0, Node1, Node2, attribute_of}
use Rattle.sel_grammar.specs.Fits.{leaves, subtrees, fits, rule_at, in_range}
use Rattle.sel_normal.specs.declared.normal.NormalRule.{NormalRule}
use Rattle.sel_normal.specs.NormalForms.{NormalForm, normal_at}
use Rattle.sel_normal.specs.Seen.{seen_kids, seen_rule, seen}
use Rattle.sel_normal.proofs.Steps.{some_same, some_none}

pub leaves_none : (op : ℕ) → leaves (seen_kids op None None) ≡ []
leaves_none op = refl

pub leaves_one : (op a : ℕ) → leaves (seen_kids op (Some a) None) ≡ a ∷ []
unfolding shape-the_row-Pattern-0 hidden-the_row-Pattern-0 hidden
leaves_one op a = refl

pub leaves_two : (op a b : ℕ) → leaves (seen_kids op (Some a) (Some b)) ≡ a ∷ b ∷ []
unfolding shape-the_row-Pattern-0 hidden-the_row-Pattern-0 hidden
leaves_two op a b = refl

pub subtrees_one : (op a o : ℕ) (at : Attribute) (t : PlainTree) → subtrees (seen_kids op (Some a) None) (Node1 o at t) ≡ (if op == o then Some (t ∷ []) else None)
unfolding shape-the_row-Pattern-0 hidden-the_row-Pattern-0 hidden
subtrees_one op a o at t = refl

pub subtrees_two : (op a b o : ℕ) (at : Attribute) (t u : PlainTree) → subtrees (seen_kids op (Some a) (Some b)) (Node2 o at t u) ≡ (if op == o then Some (t ∷ u ∷ []) else None)
unfolding shape-the_row-Pattern-0 hidden-the_row-Pattern-0 hidden
subtrees_two op a b o at t u = refl

-- an operator over one kid lies over nodes with one kid alone
pub only_one : (op a : ℕ) (t : PlainTree) (us : List PlainTree) → subtrees (seen_kids op (Some a) None) t ≡ Some us → (o : ℕ) × (at : Attribute) × (u : PlainTree) × (t ≡ Node1 o at u) × ((op == o) ≡ true) × (us ≡ u ∷ [])
unfolding shape-the_row-Pattern-0 hidden-the_row-Pattern-0 hidden
only_one op a (Node0 o at) us h = absurd (some_none (sym h))
only_one op a (Node1 o at u) us h = go (op == o) refl h
  where
    go : (b : Bool) → (op == o) ≡ b → (if b then Some (u ∷ []) else None) ≡ Some us → (p : ℕ) × (c : Attribute) × (v : PlainTree) × (Node1 o at u ≡ Node1 p c v) × ((op == p) ≡ true) × (us ≡ v ∷ [])
    go true e h = (o, at, u, refl, e, sym (some_same h))
    go false e h = absurd (some_none (sym h))
only_one op a (Node2 o at u v) us h = absurd (some_none (sym h))

pub only_two : (op a b : ℕ) (t : PlainTree) (us : List PlainTree) → subtrees (seen_kids op (Some a) (Some b)) t ≡ Some us
    → (o : ℕ) × (at : Attribute) × (u v : PlainTree) × (t ≡ Node2 o at u v) × ((op == o) ≡ true) × (us ≡ u ∷ v ∷ [])
unfolding shape-the_row-Pattern-0 hidden-the_row-Pattern-0 hidden
only_two op a b (Node0 o at) us h = absurd (some_none (sym h))
only_two op a b (Node1 o at u) us h = absurd (some_none (sym h))
only_two op a b (Node2 o at u v) us h = go (op == o) refl h
  where
    go : (c : Bool) → (op == o) ≡ c → (if c then Some (u ∷ v ∷ []) else None) ≡ Some us
        → (p : ℕ) × (d : Attribute) × (x y : PlainTree) × (Node2 o at u v ≡ Node2 p d x y) × ((op == p) ≡ true) × (us ≡ x ∷ y ∷ [])
    go true e h = (o, at, u, v, refl, e, sym (some_same h))
    go false e h = absurd (some_none (sym h))

get_map : {A B : Type 0} (f : A → B) (xs : List A) (k : ℕ) (x : A) → slice_get xs k ≡ Some x → slice_get (map f xs) k ≡ Some (f x)
get_map f [] k x h = absurd (some_none (sym h))
get_map f (y ∷ xs) zero x h = ap (λ v. Some (f v)) (some_same h)
get_map f (y ∷ xs) (suc k) x h = get_map f xs k x h

map_get : {A B : Type 0} (f : A → B) (xs : List A) (k : ℕ) (y : B) → slice_get (map f xs) k ≡ Some y → (x : A) × (slice_get xs k ≡ Some x) × (y ≡ f x)
map_get f [] k y h = absurd (some_none (sym h))
map_get f (x ∷ xs) zero y h = (x, refl, sym (some_same h))
map_get f (x ∷ xs) (suc k) y h = map_get f xs k y h

pub rule_seen : (normal : NormalForm) (r : ℕ) (rule : NormalRule) → normal_at normal r ≡ Some rule → rule_at (seen normal) r ≡ Some (seen_rule normal.tests rule)
rule_seen normal zero rule h = absurd (some_none (sym h))
rule_seen normal (suc k) rule h = get_map (seen_rule normal.tests) normal.rules k rule h

pub seen_back : (normal : NormalForm) (r : ℕ) (rule : Rule) → rule_at (seen normal) r ≡ Some rule → (nr : NormalRule) × (normal_at normal r ≡ Some nr) × (rule ≡ seen_rule normal.tests nr)
seen_back normal zero rule h = absurd (some_none (sym h))
seen_back normal (suc k) rule h = map_get (seen_rule normal.tests) normal.rules k rule h

-- a rule fits where its range holds and its pattern lies over the tree
pub fits_both : (rule : Rule) (t : PlainTree) (ts : List PlainTree) → fits rule t ≡ Some ts → (in_range rule.range (attribute_of t) ≡ true) × (subtrees rule.pattern t ≡ Some ts)
fits_both rule t ts h = go (in_range rule.range (attribute_of t)) refl h
  where
    go : (b : Bool) → in_range rule.range (attribute_of t) ≡ b → (if b then subtrees rule.pattern t else None) ≡ Some ts → (in_range rule.range (attribute_of t) ≡ true) × (subtrees rule.pattern t ≡ Some ts)
    go true e h = (e, h)
    go false e h = absurd (some_none (sym h))

pub both_fit : (rule : Rule) (t : PlainTree) (ts : List PlainTree) → in_range rule.range (attribute_of t) ≡ true → subtrees rule.pattern t ≡ Some ts → fits rule t ≡ Some ts
both_fit rule t ts e h = ap (λ b. if b then subtrees rule.pattern t else None) e ∙ h
