-- Keys over the states of a table.
use Rattle.std.proofs.Common.{◌≡◌, ℕ, Option, Some, None, List, [], ◌∷◌, refl, ap, sym, ◌∙◌, subst, length, arith}
use Rattle.sel_grammar.specs.declared.grammar.Grammar.{Grammar}
use Rattle.sel_grammar.specs.PlainTrees.{PlainTree, Node0, Node1, Node2}
use Rattle.sel_forest.specs.Valid.{IsOver}
use Rattle.sel_forest.proofs.Matching.{within}
use Rattle.sel_forest.proofs.Roots.{same_tree}
use Rattle.sel_range.specs.Classes.{class_of}
use Rattle.sel_normal.specs.Forms.{tests}
use Rattle.sel_normal.specs.NormalForms.{NormalForm}
use Rattle.sel_items.specs.declared.items.Items.{Items}
use Rattle.sel_items.specs.declared.label.Label.{Label}
use Rattle.sel_items.specs.declared.label.Label.TheVariants.{Numbered, Plain}
use Rattle.sel_items.specs.Follows.{NodeKey, key_of, Follows}
use Rattle.sel_items.specs.ItemsOf.{IsItemsOf, IsKeyOf, attribute_number}
use Rattle.sel_items.specs.Labels.{KidsAre, AreAlike, IsClassOver, HasLawfulKids}
use Rattle.sel_items.specs.Laws.{IsAcceptedForm}
use Rattle.sel_label.proofs.Arities.{lawful_none, lawful_one, lawful_two}
use Rattle.sel_label.proofs.Fitting.{attribute_value}
use Rattle.sel_label.proofs.NodeTrees.{valid_node}
use Rattle.sel_full.specs.Automata.{FullTable, Means, TakesAll, IsStateKey}
use Rattle.sel_full.specs.Laws.{StateKeysFollow, TreesAreReady}
use Rattle.sel_full.specs.Reach.{IsOneOf, kid_count}
use Rattle.sel_full.specs.Tables.{IsLawfulTable, kids_by}
use Rattle.sel_full.proofs.Empties.{unused_are_empty}
use Rattle.sel_full.proofs.KeyLists.{among_keys, key_follows, tables_hold_trees}
use Rattle.sel_full.proofs.Uses.{takes_by, none_by, used_below}

pub state_keys_follow : StateKeysFollow
state_keys_follow t key standing table k = go (kids_by (t.normal).rules key.operator) refl
  where
    go : (o : Option ℕ) → kids_by (t.normal).rules key.operator ≡ o → (i : Items) × IsOneOf t.states i × Follows t.normal key i
    go None e = let (i, at, none) = table.empty in (i, (0, at), unused_are_empty t.normal key i (none_by t.normal key.operator (length key.kids) e) none)
    go (Some j) e =
        let same = takes_by t.normal key.operator (length key.kids) j k.operator e in
        key_follows t.normal t.states t.numbers key table
        (among_keys t.normal t.states key.operator key.class key.kids (used_below t.normal key.operator j standing e) (e ∙ ap Some same) k.class k.kids)

alike_none : (x y : Option ℕ) → AreAlike {A = ℕ} {B = Label} x None × AreAlike {A = ℕ} {B = Label} y None → kid_count x y ≡ 0
alike_none None y h = refl
alike_none (Some a) y h = absurd h.0

alike_one : (x y : Option ℕ) (a : Label) → AreAlike x (Some a) × AreAlike {A = ℕ} {B = Label} y None → kid_count x y ≡ 1
alike_one None y a h = absurd h.0
alike_one (Some x) None a h = refl
alike_one (Some x) (Some y) a h = absurd h.1

alike_two : (x y : Option ℕ) (a b : Label) → AreAlike x (Some a) × AreAlike y (Some b) → kid_count x y ≡ 2
alike_two None y a b h = absurd h.0
alike_two (Some x) None a b h = absurd h.1
alike_two (Some x) (Some y) a b h = refl

pub takes_none : (normal : NormalForm) (op : ℕ) → HasLawfulKids {A = Label} normal op None None → TakesAll normal op 0
takes_none normal op h r rule x y test at is = alike_none x y (h r rule x y test at is)

pub takes_one : (normal : NormalForm) (op : ℕ) (a : Label) → HasLawfulKids normal op (Some a) None → TakesAll normal op 1
takes_one normal op a h r rule x y test at is = alike_one x y a (h r rule x y test at is)

pub takes_two : (normal : NormalForm) (op : ℕ) (a b : Label) → HasLawfulKids normal op (Some a) (Some b) → TakesAll normal op 2
takes_two normal op a b h r rule x y test at is = alike_two x y a b (h r rule x y test at is)

-- what a label means is a state
means_state : (t : FullTable) (l : Label) (i : Items) → Means t l i → IsOneOf t.states i
means_state t (Numbered n) i h = (n, h)
means_state t (Plain p) i h = absurd h

-- a key that may be asked for is one over the states
pub own_key : (t : FullTable) (op class : ℕ) (a b : Option Label) (is : List Items) → KidsAre (Means t) a b is → IsClassOver t.normal class a → HasLawfulKids t.normal op a b → IsStateKey t (key_of op class is)
own_key t op class None None [] kids over lawful = record { few = omega arith; kids = tt; class = over; operator = takes_none t.normal op lawful }
own_key t op class None None (i ∷ is) kids over lawful = absurd kids
own_key t op class None (Some b) is kids over lawful = absurd kids
own_key t op class (Some a) None [] kids over lawful = absurd kids
own_key t op class (Some a) None (i ∷ []) kids over lawful = record { few = omega arith; kids = (means_state t a i kids, tt); class = over; operator = takes_one t.normal op a lawful }
own_key t op class (Some a) None (i ∷ j ∷ is) kids over lawful = absurd kids
own_key t op class (Some a) (Some b) [] kids over lawful = absurd kids
own_key t op class (Some a) (Some b) (i ∷ []) kids over lawful = absurd kids
own_key t op class (Some a) (Some b) (i ∷ j ∷ []) kids over lawful = record { few = omega arith; kids = (means_state t a i kids.0, (means_state t b j kids.1, tt)); class = over; operator = takes_two t.normal op a b lawful }
own_key t op class (Some a) (Some b) (i ∷ j ∷ k ∷ is) kids over lawful = absurd kids

-- so is the key of each tree over the grammar's operators
module _ (g : Grammar) (t : FullTable) (form : IsAcceptedForm g t.normal) (table : IsLawfulTable t.normal t.states t.numbers) where
  same_key : (key : NodeKey) (op class : ℕ) (is : List Items) → key.operator ≡ op → key.class ≡ class → key.kids ≡ is → key_of op class is ≡ key
  same_key key op class is a b c = λ i. record { operator = sym a i; class = sym b i; kids = sym c i }

  held : (u : PlainTree) (i : Items) → IsOver g u → IsItemsOf g u i → IsOneOf t.states i
  held u i over is = tables_hold_trees g t.normal t.states t.numbers u i form table over is

  tree_key : (u : PlainTree) (key : NodeKey) → IsOver g u → IsKeyOf g u key → IsStateKey t key
  tree_key (Node0 op a) key (o, w) (same, class, kids) =
      subst (IsStateKey t) (same_key key op (class_of (tests g.rules) (attribute_number a)) [] same class kids) (record {
        few = omega arith;
        kids = tt;
        class = (attribute_number a, attribute_value a w, ap (λ ts. class_of ts (attribute_number a)) ((form.form).tests));
        operator = takes_none t.normal op (lawful_none g t.normal form.lawful form.form op o);
      })
  tree_key (Node1 op a u) key (o, w, over) (same, class, (i, kids, is)) =
      subst (IsStateKey t) (same_key key op 0 (i ∷ []) same class kids)
      (record { few = omega arith; kids = (held u i over is, tt); class = refl; operator = takes_one t.normal op (Numbered 0) (lawful_one g t.normal form.lawful form.form op (Numbered 0) o) })
  tree_key (Node2 op a u v) key (o, w, over, over') (same, class, (i, j, kids, is, is')) =
      subst (IsStateKey t) (same_key key op 0 (i ∷ j ∷ []) same class kids)
      (record { few = omega arith; kids = (held u i over is, (held v j over' is', tt)); class = refl; operator = takes_two t.normal op (Numbered 0) (Numbered 0) (lawful_two g t.normal form.lawful form.form op (Numbered 0) (Numbered 0) o) })

pub trees_are_ready : TreesAreReady
trees_are_ready g t tree form table valid i u k root key =
    let (v, root', over, few) = valid_node g tree i valid (within tree.nodes i u root) in
    tree_key g t form table u k (subst (IsOver g) (same_tree tree.nodes i v u root' root) over) key
