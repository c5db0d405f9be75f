-- What labels say stays, while an automaton learns more and more nodes get labels.
use Rattle.std.proofs.Common.{◌≡◌, ℕ, zero, suc, ◌+◌, ◌<◌, ◌≤◌, ◌⊎◌, inl, inr, Bool, true, false, Some, Result, Ok, List, [], ◌∷◌, ◌++◌, length, slice_get, refl, ap, sym, ◌∙◌, subst, arith}
use Rattle.std.proofs.lemmas.List.{length_push}
use Rattle.sel_grammar.specs.declared.grammar.Grammar.{Grammar}
use Rattle.sel_grammar.specs.PlainTrees.{PlainTree, Node0, Node1, Node2}
use Rattle.sel_forest.specs.declared.forest.Node.{Node}
use Rattle.sel_forest.specs.Places.{IsRootAt}
use Rattle.sel_forest.proofs.Matching.{some_same}
use Rattle.sel_forest.proofs.Roots.{slice_get-left, slice_get-right}
use Rattle.sel_items.specs.declared.items.Items.{Items}
use Rattle.sel_items.specs.declared.label.Label.{Label}
use Rattle.sel_items.specs.declared.label.Label.TheVariants.{Numbered}
use Rattle.sel_items.specs.Automata.{Told, StaysTrue, KeepsMeanings, KeepsMark, Keeps}
use Rattle.sel_items.specs.Follows.{NodeKey, Follows}
use Rattle.sel_items.specs.ItemsOf.{IsKeyOf}
use Rattle.sel_items.specs.Labels.{IsNumbered}
use Rattle.sel_label.specs.Labelling.{StandsBelow, LabelAt, IsOfNumber, IsHeld, AreHeldBelow, AreNumberedBelow, AddsKeysOf, AddsHeldKeys, AddsNumberedKeys, IsAskedKey, AddsOfTree, AreAllNumbered}
use Rattle.sel_label.specs.Fronts.{IsNodeLabelled, AreLabelledTo, IsKeyBefore, AddsKeysBefore, AddsSetsBefore, AddsBefore}

-- a node below stands before
under : (i j k : ℕ) (A B : Type 0) → k < i → ((k ≡ j) × A) ⊎ B → (B → j < k) → j < i
under i j k A B h (inl s) r = let e = s.0 in omega arith
under i j k A B h (inr b) r = let l = r b in omega arith

pub below_before : (nodes : List Node) (u : PlainTree) (i j : ℕ) (v : PlainTree) → IsRootAt nodes i u → StandsBelow nodes i u j v → j < i
below_before nodes (Node0 op a) i j v root s = absurd s
below_before nodes (Node1 op a t) i j v (node, get, is, kids, at, w) (node', get', s) =
    let q : node ≡ node' = some_same (sym get ∙ get') in
    let e : node.left ≡ node'.left = ap (λ (n : Node). n.left) q in
    let lt = w.0 in
    under i j node'.left (t ≡ v) (StandsBelow nodes node'.left t j v) (omega arith) s
    (λ b. below_before nodes t node'.left j v (subst (λ x. IsRootAt nodes x t) e w.1) b)
below_before nodes (Node2 op a t u) i j v (node, get, is, kids, at, w) (node', get', s) =
    let q : node ≡ node' = some_same (sym get ∙ get') in
    let e : node.left ≡ node'.left = ap (λ (n : Node). n.left) q in
    let f : node.right ≡ node'.right = ap (λ (n : Node). n.right) q in
    let lt = w.0 in
    let lt' = w.1 in
    either s
    (λ l. under i j node'.left (t ≡ v) (StandsBelow nodes node'.left t j v) (omega arith) l (λ b. below_before nodes t node'.left j v (subst (λ x. IsRootAt nodes x t) e w.2) b))
    (λ r. under i j node'.right (u ≡ v) (StandsBelow nodes node'.right u j v) (omega arith) r (λ b. below_before nodes u node'.right j v (subst (λ x. IsRootAt nodes x u) f w.3) b))
  where
    either : {A B C : Type 0} → A ⊎ B → (A → C) → (B → C) → C
    either (inl x) l r = l x
    either (inr x) l r = r x

pub held_more : (g : Grammar) (H K : Items → Type 0) (u : PlainTree) → StaysTrue H K → IsHeld g H u → IsHeld g K u
held_more g H K u f (i, is, h) = (i, is, f i h)

pub held_below_more : (g : Grammar) (H K : Items → Type 0) (u : PlainTree) → StaysTrue H K → AreHeldBelow g H u → AreHeldBelow g K u
held_below_more g H K (Node0 op a) f h = tt
held_below_more g H K (Node1 op a t) f h = (held_more g H K t f h.0, held_below_more g H K t f h.1)
held_below_more g H K (Node2 op a t u) f h = (held_more g H K t f h.0, held_more g H K u f h.1, held_below_more g H K t f h.2, held_below_more g H K u f h.3)

pub numbered_below_more : (nodes : List Node) (labels ys : List Label) (i : ℕ) (u : PlainTree) → IsRootAt nodes i u → i ≤ length labels → AreNumberedBelow nodes labels i u → AreNumberedBelow nodes (labels ++ ys) i u
numbered_below_more nodes labels ys i u root lt h = λ j v m s at.
    let before = below_before nodes u i j v root s in
    h j v m s (sym (slice_get-left labels ys j (omega arith)) ∙ at)

pub mark_back : (old new : Bool) → KeepsMark old new → new ≡ false → old ≡ false
mark_back false new h e = refl
mark_back true new h e = sym (h refl) ∙ e

pub number_more : (told told' : Told) → Keeps told told' → StaysTrue (IsOfNumber told) (IsOfNumber told')
number_more told told' keeps i (h, (n, m)) = (keeps.held i h, (n, keeps.numbered n i m))

module _ (g : Grammar) (nodes : List Node) where
  module _ (told told' : Told) (keeps : Keeps told told') (km : KeepsMeanings told.means told'.means) where
    pub node_more : (labels ys : List Label) (i : ℕ) (u : PlainTree) (l : Label) → IsRootAt nodes i u → i ≤ length labels
        → IsNodeLabelled g nodes told labels i u l → IsNodeLabelled g nodes told' (labels ++ ys) i u l
    node_more labels ys i u l root lt h = record {
      items = h.items;
      meant = km l h.items h.meant;
      is = h.is;
      numbered = λ n. let x = h.numbered n in (
        number_more told told' keeps h.items x.0,
        held_below_more g (IsOfNumber told) (IsOfNumber told') u (number_more told told' keeps) x.1,
        numbered_below_more nodes labels ys i u root lt x.2,
      );
      tabled = λ e t. h.tabled (mark_back told.used_up told'.used_up keeps.used_up e) t;
      known_key = λ e f t k is. keeps.known k (h.known_key (mark_back told.used_up told'.used_up keeps.used_up e) (mark_back told.row_full told'.row_full keeps.row_full f) t k is);
    }

    -- one label more
    pub labels_more : (labels : List Label) (l : Label) → AreLabelledTo g nodes told labels
        → ((u : PlainTree) → IsRootAt nodes (length labels) u → IsNodeLabelled g nodes told' (labels ++ l ∷ []) (length labels) u l)
        → AreLabelledTo g nodes told' (labels ++ l ∷ [])
    labels_more labels l h new i u lt root = go (split i (length labels) (labels_long lt))
      where
        split : (k n : ℕ) → k < n + 1 → (k < n) ⊎ (k ≡ n)
        split k n h = grind arith

        labels_long : i < length (labels ++ l ∷ []) → i < length labels + 1
        labels_long lt = subst (λ n. i < n) (length_push labels l) lt

        go : (i < length labels) ⊎ (i ≡ length labels)
            → (m : Label) × LabelAt (labels ++ l ∷ []) i m × IsNodeLabelled g nodes told' (labels ++ l ∷ []) i u m
        go (inl b) =
            let old = h i u b root in
            (old.0, slice_get-left labels (l ∷ []) i b ∙ old.1, node_more labels (l ∷ []) i u old.0 root (omega arith) old.2)
        go (inr q) = (
          l,
          slice_get-right labels (l ∷ []) 0 i (omega arith),
          subst (λ x. IsNodeLabelled g nodes told' (labels ++ l ∷ []) x u l) (sym q) (new u (subst (λ x. IsRootAt nodes x u) q root)),
        )

  key_before : (H K : Items → Type 0) (labels ys : List Label) (n m : ℕ) (k : NodeKey) → StaysTrue H K → n ≤ m → n ≤ length labels + 1 → IsKeyBefore g H nodes labels n k → IsKeyBefore g K nodes (labels ++ ys) m k
  key_before H K labels ys n m k f le few (i, lt, (u, root, is, held, numbered)) =
      (i, omega arith, (u, root, is, held_below_more g H K u f held, numbered_below_more nodes labels ys i u root (omega arith) numbered))

  -- keys that were added by two steps, where a label was given since
  pub keys_more : (H K : Items → Type 0) (labels ys : List Label) (n m : ℕ) (first old new : NodeKey → Type 0) → StaysTrue H K → n ≤ m → m ≤ length labels + 1
      → AddsKeysBefore g H nodes labels n first old → AddsKeysBefore g K nodes labels m old new → AddsKeysBefore g K nodes (labels ++ ys) m first new
  keys_more H K labels ys n m first old new f le few a b k is = go (b k is)
    where
      back : first k ⊎ IsKeyBefore g H nodes labels n k → first k ⊎ IsKeyBefore g K nodes (labels ++ ys) m k
      back (inl h) = inl h
      back (inr h) = inr (key_before H K labels ys n m k f le (omega arith) h)

      go : old k ⊎ IsKeyBefore g K nodes labels m k → first k ⊎ IsKeyBefore g K nodes (labels ++ ys) m k
      go (inl h) = back (a k h)
      go (inr h) = inr (key_before K K labels ys m m k (λ i x. x) (omega arith) few h)

  pub known_more : (first old new : NodeKey → Type 0) → AddsKeysOf g nodes first old → AddsKeysOf g nodes old new → AddsKeysOf g nodes first new
  known_more first old new a b k is = go (b k is)
    where
      go : old k ⊎ ((i : ℕ) × ((u : PlainTree) × IsRootAt nodes i u × IsKeyOf g u k)) → first k ⊎ ((i : ℕ) × ((u : PlainTree) × IsRootAt nodes i u × IsKeyOf g u k))
      go (inl h) = a k h
      go (inr h) = inr h

  -- what keys that were added say
  pub held_keys : (H K : Items → Type 0) (labels : List Label) (n : ℕ) (old new : NodeKey → Type 0) → StaysTrue H K → AddsKeysBefore g H nodes labels n old new → AddsHeldKeys g K nodes old new
  held_keys H K labels n old new f a k is = go (a k is)
    where
      go : old k ⊎ IsKeyBefore g H nodes labels n k → old k ⊎ ((i : ℕ) × ((u : PlainTree) × IsRootAt nodes i u × IsKeyOf g u k × AreHeldBelow g K u))
      go (inl h) = inl h
      go (inr (i, lt, (u, root, is, held, numbered))) = inr (i, (u, root, is, held_below_more g H K u f held))

  pub numbered_keys : (H : Items → Type 0) (labels : List Label) (n : ℕ) (old new : NodeKey → Type 0) → AddsKeysBefore g H nodes labels n old new → AddsNumberedKeys g nodes labels old new
  numbered_keys H labels n old new a k is = go (a k is)
    where
      go : old k ⊎ IsKeyBefore g H nodes labels n k → old k ⊎ ((i : ℕ) × ((u : PlainTree) × IsRootAt nodes i u × IsKeyOf g u k × AreNumberedBelow nodes labels i u))
      go (inl h) = inl h
      go (inr (i, lt, (u, root, is, held, numbered))) = inr (i, (u, root, is, numbered))

  -- one node more was asked for, and no label given or one
  pub asked_step : (H K : Items → Type 0) (ls sl ys : List Label) (first old new : NodeKey → Type 0) → StaysTrue H K → sl ≡ ls
      → AddsKeysBefore g H nodes ls (length ls) first old → AddsKeysBefore g K nodes sl (length sl + 1) old new → AddsKeysBefore g K nodes (ls ++ ys) (length ls + 1) first new
  asked_step H K ls sl ys first old new f e a b =
      keys_more H K ls ys (length ls) (length ls + 1) first old new f (omega arith) (omega arith) a (subst (λ x. AddsKeysBefore g K nodes x (length x + 1) old new) e b)

  pub asked_pushed : (H K : Items → Type 0) (ls sl pushed : List Label) (l : Label) (first old new : NodeKey → Type 0) → StaysTrue H K → sl ≡ ls → pushed ≡ ls ++ l ∷ []
      → AddsKeysBefore g H nodes ls (length ls) first old → AddsKeysBefore g K nodes sl (length sl + 1) old new → AddsKeysBefore g K nodes pushed (length pushed) first new
  asked_pushed H K ls sl pushed l first old new f e q a b =
      subst (λ x. AddsKeysBefore g K nodes x (length x) first new) (sym q)
      (subst (λ n. AddsKeysBefore g K nodes (ls ++ l ∷ []) n first new) (sym (length_push ls l)) (asked_step H K ls sl (l ∷ []) first old new f e a b))

  key_from : (H K : Items → Type 0) (labels ys : List Label) (n m : ℕ) (k : NodeKey) (first old : NodeKey → Type 0) → StaysTrue H K → n ≤ m → m ≤ length labels + 1
      → AddsKeysBefore g H nodes labels n first old → old k ⊎ IsKeyBefore g K nodes labels m k → first k ⊎ IsKeyBefore g K nodes (labels ++ ys) m k
  key_from H K labels ys n m k first old f le few a (inr h) = inr (key_before K K labels ys m m k (λ i x. x) (omega arith) few h)
  key_from H K labels ys n m k first old f le few a (inl h) = go (a k h)
    where
      go : first k ⊎ IsKeyBefore g H nodes labels n k → first k ⊎ IsKeyBefore g K nodes (labels ++ ys) m k
      go (inl x) = inl x
      go (inr x) = inr (key_before H K labels ys n m k f le (omega arith) x)

  sets_more : (first old new : Told) (ls ys : List Label) → Keeps old new → AddsKeysBefore g (IsOfNumber old) nodes ls (length ls) first.asked old.asked → AddsSetsBefore g nodes ls (length ls) first old → AddsSetsBefore g nodes ls (length ls + 1) old new
      → AddsSetsBefore g nodes (ls ++ ys) (length ls + 1) first new
  sets_more first old new ls ys keeps asked a b i h = go (b i h)
    where
      back : first.held i ⊎ ((k : NodeKey) × (first.asked k ⊎ IsKeyBefore g (IsOfNumber old) nodes ls (length ls) k) × Follows old.normal k i)
          → first.held i ⊎ ((k : NodeKey) × (first.asked k ⊎ IsKeyBefore g (IsOfNumber new) nodes (ls ++ ys) (length ls + 1) k) × Follows new.normal k i)
      back (inl x) = inl x
      back (inr (k, inl x, follows)) = inr (k, inl x, subst (λ n. Follows n k i) (sym keeps.normal) follows)
      back (inr (k, inr x, follows)) =
          inr (k, inr (key_before (IsOfNumber old) (IsOfNumber new) ls ys (length ls) (length ls + 1) k (number_more old new keeps) (omega arith) (omega arith) x), subst (λ n. Follows n k i) (sym keeps.normal) follows)

      go : old.held i ⊎ ((k : NodeKey) × (old.asked k ⊎ IsKeyBefore g (IsOfNumber new) nodes ls (length ls + 1) k) × Follows new.normal k i)
          → first.held i ⊎ ((k : NodeKey) × (first.asked k ⊎ IsKeyBefore g (IsOfNumber new) nodes (ls ++ ys) (length ls + 1) k) × Follows new.normal k i)
      go (inl x) = back (a i x)
      go (inr (k, from, follows)) = inr (k, key_from (IsOfNumber old) (IsOfNumber new) ls ys (length ls) (length ls + 1) k first.asked old.asked (number_more old new keeps) (omega arith) (omega arith) asked from, follows)

  -- so what two steps added
  pub adds_step : (first old new : Told) (ls sl ys : List Label) → Keeps old new → sl ≡ ls → AddsBefore g nodes ls (length ls) first old → AddsBefore g nodes sl (length sl + 1) old new
      → AddsBefore g nodes (ls ++ ys) (length ls + 1) first new
  adds_step first old new ls sl ys keeps e a b = record {
    asked = asked_step (IsOfNumber old) (IsOfNumber new) ls sl ys first.asked old.asked new.asked (number_more old new keeps) e a.asked b.asked;
    known = known_more first.known old.known new.known a.known b.known;
    held = sets_more first old new ls ys keeps a.asked a.held (subst (λ x. AddsSetsBefore g nodes x (length x + 1) old new) e b.held);
  }

  pub adds_pushed : (first old new : Told) (ls sl pushed : List Label) (l : Label) → Keeps old new → sl ≡ ls → pushed ≡ ls ++ l ∷ [] → AddsBefore g nodes ls (length ls) first old → AddsBefore g nodes sl (length sl + 1) old new
      → AddsBefore g nodes pushed (length pushed) first new
  adds_pushed first old new ls sl pushed l keeps e q a b = record {
    asked = asked_pushed (IsOfNumber old) (IsOfNumber new) ls sl pushed l first.asked old.asked new.asked (number_more old new keeps) e q a.asked b.asked;
    known = known_more first.known old.known new.known a.known b.known;
    held = subst (λ x. AddsSetsBefore g nodes x (length x) first new) (sym q)
        (subst (λ n. AddsSetsBefore g nodes (ls ++ l ∷ []) n first new) (sym (length_push ls l)) (sets_more first old new ls (l ∷ []) keeps a.asked a.held (subst (λ x. AddsSetsBefore g nodes x (length x + 1) old new) e b.held)));
  }

  pub adds_whole : (first new : Told) (labels : List Label) (n : ℕ) → AddsBefore g nodes labels n first new → new.plain_labels ≤ length nodes → AddsOfTree g nodes first new
  adds_whole first new labels n a few = record {
    asked = held_keys (IsOfNumber new) (IsOfNumber new) labels n first.asked new.asked (λ i h. h) a.asked;
    known = a.known;
    held = λ i h. sets_of i (a.held i h);
    plain_labels = few;
  }
    where
      key_of_tree : (k : NodeKey) → first.asked k ⊎ IsKeyBefore g (IsOfNumber new) nodes labels n k → first.asked k ⊎ IsAskedKey g (IsOfNumber new) nodes k
      key_of_tree k (inl x) = inl x
      key_of_tree k (inr (i, lt, (u, root, is, held, numbered))) = inr (i, (u, root, is, held))

      sets_of : (i : Items) → first.held i ⊎ ((k : NodeKey) × (first.asked k ⊎ IsKeyBefore g (IsOfNumber new) nodes labels n k) × Follows new.normal k i)
          → first.held i ⊎ ((k : NodeKey) × (first.asked k ⊎ IsAskedKey g (IsOfNumber new) nodes k) × Follows new.normal k i)
      sets_of i (inl x) = inl x
      sets_of i (inr (k, from, follows)) = inr (k, key_of_tree k from, follows)

pub all_pushed : (ls pushed : List Label) (l : Label) → pushed ≡ ls ++ l ∷ [] → IsNumbered l → AreAllNumbered ls → AreAllNumbered pushed
all_pushed ls pushed l e n h = subst AreAllNumbered (sym e) (go ls h)
  where
    go : (xs : List Label) → AreAllNumbered xs → AreAllNumbered (xs ++ l ∷ [])
    go [] h zero m at = subst IsNumbered (some_same at) n
    go [] h (suc i) m at = absurd (let no : slice_get {X = Label} [] i ≡ Some m = at in cc)
    go (x ∷ xs) h zero m at = h zero m at
    go (x ∷ xs) h (suc i) m at = go xs (λ j k a. h (suc j) k a) i m at

pub hit_numbered : {E : Type 0} (l : Label) (n : ℕ) → ◌≡◌ {A = Result Label E} (Ok l) (Ok (Numbered n)) → IsNumbered l
hit_numbered l n e = subst IsNumbered (sym same) tt
  where
    same : l ≡ Numbered n
    same = cc
