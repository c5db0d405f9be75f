-- The key of a leaf, and what single calls of a pass leave for the next one.
use Rattle.std.proofs.Common.{◌≡◌, ℕ, ◌<◌, Bool, List, [], Option, Some, refl, sym, ap, ◌∙◌, subst, map, inl, inr, arith}
use Rattle.sel_normal.specs.NormalForms.{NormalForm}
use Rattle.sel_items.specs.declared.items.Items.{Items}
use Rattle.sel_items.specs.declared.label.Label.{Label}
use Rattle.sel_items.specs.declared.label.Label.TheVariants.{Numbered}
use Rattle.sel_items.specs.Follows.{NodeKey, Follows, key_of}
use Rattle.sel_law.specs.declared.Setting.{Setting}
use Rattle.sel_law.specs.declared.Ask.{Ask}
use Rattle.sel_law.specs.declared.View.{View}
use Rattle.sel_law.specs.Words.{In, items_of, class_by, by_kids}
use Rattle.sel_rows.specs.declared.snapshot.Key.{Key}
use Rattle.sel_rows.specs.declared.pass.Pass.{Pass}
use Rattle.sel_rows.specs.declared.found.Seen.TheVariants.{Absent as Free, Full}
use Rattle.sel_rows.specs.declared.found.Found.TheVariants.{Absent}
use Rattle.sel_rows.specs.Calls.{number_of_key, IsReadableKey, ask_of_key, node_of_key, FindsState, IsBehindStates, FollowsFromAsked, IsBehindKeys}
use Rattle.sel_rows.specs.Grown.{Grown}
use Rattle.sel_rows.specs.Held.{held_content}
use Rattle.sel_rows.specs.SeenKey.{WalksRow}
use Rattle.sel_rows.specs.Told.{Standing, standing_of, told_of_pass, pass_view, spare_of}
use Rattle.sel_rows.proofs.SingleCalls.{read_key, ask_stays}

-- a pass that stands where it stood has the same normal form
pub same_normal : (s t : Pass) → standing_of t ≡ standing_of s → (told_of_pass t).normal ≡ (told_of_pass s).normal
same_normal s t e = sym t.normal_is ∙ (ap (λ (x : Standing). x.setting.normal.value) e ∙ s.normal_is)

-- the normal form of the table is the pass's
pub table_normal : (s : Pass) → (pass_view s).setting.normal.value ≡ (told_of_pass s).normal
table_normal s = ap (λ (z : Setting). z.normal.value) s.hand.setting ∙ s.normal_is

-- where there is a spare number, the table has states
pub some_states : (s : Pass) (n : ℕ) → spare_of s ≡ Some n → (pass_view s).setting.states ≡ 0 → ⊥
some_states s n h none =
    let low = s.low n h in
    let same : s.hand.rows.now.states ≡ (pass_view s).setting.states = s.hand.rows.now.states_is ∙ ap (λ (z : Setting). z.states) (sym s.hand.setting) in
    absurd (omega arith)

abbrev pub leaf_key : ℕ → Key
leaf_key operator = record { operator = operator; kids = 0; left = 0; right = 0 }

pub readable_leaf : (v : View) (operator : ℕ) → IsReadableKey v (leaf_key operator)
readable_leaf v operator = record { kids = omega arith; right = λ _. refl; held = tt }

pub leaf_node : (v : View) (operator : ℕ) → operator < 256 → node_of_key v (leaf_key operator) ≡ key_of operator 0 []
leaf_node v operator small =
    let r = read_key v (leaf_key operator) small (omega arith) (omega arith) (readable_leaf v operator) in
    λ i. key_of (r.operator i) (class_by (r.kids i) (r.left i)) (map items_of (by_kids (r.kids i) (held_content v (r.left i)) (held_content v (r.right i))))

free_full : (q : ℕ) → Free q ≡ Full → ⊥
free_full q e = cc

-- a key that was looked for and not found may be published at the place where it was missed, and counts as asked
pub behind_leaf : (asks : List Ask) (u v : View) (operator q : ℕ) (b : Bool) → operator < 256 → Grown asks u v
    → WalksRow u v (number_of_key (leaf_key operator)) (ask_of_key u (leaf_key operator)) b (Free q)
    → IsBehindKeys v (leaf_key operator) q × In (ask_of_key v (leaf_key operator)) v.asked
behind_leaf asks u v operator q b small g (inl h) = absurd (free_full q h.1)
behind_leaf asks u v operator q b small g (inr h) =
    let same = ask_stays asks u v g (leaf_key operator) small (omega arith) (omega arith) (readable_leaf u operator) in
    let there = subst (λ (a : Ask). In a v.asked) (sym same) h.1.4 in
    (inr (h.1.0, h.1.1, there), there)

-- the item set follows from the leaf's key in the table's terms
pub leaf_follows : (v : View) (operator : ℕ) (i : Items) (normal : NormalForm) → operator < 256 → v.setting.normal.value ≡ normal
    → Follows normal (key_of operator 0 []) i → Follows v.setting.normal.value (node_of_key v (leaf_key operator)) i
leaf_follows v operator i normal small is follows =
    subst (λ (n : NormalForm). Follows n (node_of_key v (leaf_key operator)) i) (sym is) (subst (λ (k : NodeKey). Follows normal k i) (sym (leaf_node v operator small)) follows)

pub asked_leaf : (v : View) (operator : ℕ) (i : Items) (normal : NormalForm) → operator < 256 → v.setting.normal.value ≡ normal → In (ask_of_key v (leaf_key operator)) v.asked
    → Follows normal (key_of operator 0 []) i → FollowsFromAsked v i
asked_leaf v operator i normal small is there follows =
    (node_of_key v (leaf_key operator), (ask_of_key v (leaf_key operator), there, refl), leaf_follows v operator i normal small is follows)

pub behind_found : (u v : View) (i : Items) (p : ℕ) → (v.setting.states ≡ 0 → ⊥) → FindsState u v i (Absent p) → IsBehindStates v i p
behind_found u v i p some (inl h) = absurd (some h.0)
behind_found u v i p some (inr h) = (h.2.0, (h.0, h.1, h.2.1))

-- a label that stands at a place is the one that was read there
pub label_there : (l f : Label) (o : Option Label) (n : ℕ) → o ≡ Some l → Some f ≡ o → f ≡ Numbered n → l ≡ Numbered n
label_there l f o n a b e = cc
