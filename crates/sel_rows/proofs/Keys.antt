-- The numbers of keys, and the keys by item sets.
use Rattle.std.proofs.Common.{◌≡◌, ℕ, ◌+◌, ◌*◌, ◌/◌, ◌<◌, Option, Some, None, List, [], ◌∷◌, map, refl, sym, subst, ◌∙◌, arith}
use Rattle.sel_normal.specs.NormalForms.{NormalForm}
use Rattle.sel_items.specs.declared.items.Items.{Items}
use Rattle.sel_items.specs.declared.label.Label.{Label}
use Rattle.sel_items.specs.declared.label.Label.TheVariants.{Numbered, Plain}
use Rattle.sel_items.specs.Follows.{key_of}
use Rattle.sel_items.specs.Labels.{KidsAre, AreNumbered, IsClassOver}
use Rattle.sel_law.specs.declared.View.{View}
use Rattle.sel_law.proofs.Packed.{each_packed}
use Rattle.sel_law.specs.Words.{In, ArePacked, HasPackedKids, items_of, node_key, IsKey, kids_of, operator_of, left_of, right_of, class_by, by_kids, EachKid}
use Rattle.sel_law.specs.Kinds.{HeldNumber, HeldWhole, HeldKey}
use Rattle.sel_rows.specs.Held.{held_content, held_ask}
use Rattle.sel_rows.specs.Meanings.{Means, HoldsItems}
use Rattle.sel_rows.specs.Keys.{key_number}
use Rattle.sel_rows.proofs.Contents.{whole_is}

-- what the number of a key gives, where its kids' labels mean these item sets
pub record KeyFacts (v : View) (x operator class : ℕ) (a b : Option Label) (is : List Items) : Type 0 where
  pub numbered : AreNumbered a b
  pub key : IsKey x
  pub small : x < 281474976710656
  pub held : HeldKey v x (held_ask v x)
  pub node : node_key (held_ask v x) ≡ key_of operator class is
  pub packed : HasPackedKids (held_ask v x)

pub held_kid : (v : View) (n : ℕ) (i : Items) → HoldsItems v n i → HeldNumber v n × HeldWhole v n (held_content v n)
held_kid v n i h = (h.number, whole_is v n h.whole)

module _ (v : View) (x operator l r : ℕ) (o : operator_of x ≡ operator) (el : left_of x ≡ l) (er : right_of x ≡ r) where
  abbrev pub kids_at : ℕ → Type 0
  kids_at k = EachKid (λ n. HeldNumber v n × HeldWhole v n (held_content v n)) k l r

  pub held_by : (k : ℕ) → kids_of x ≡ k → kids_at k → HeldKey v x (held_ask v x)
  held_by k e h = record {
    contents_of = held_content v;
    kids = subst (λ (t : ℕ × ℕ × ℕ). EachKid (λ n. HeldNumber v n × HeldWhole v n (held_content v n)) t.0 t.1 t.2) (λ i. (sym e i, sym el i, sym er i)) h;
    ask = refl;
  }

  pub packed_by : (k : ℕ) → kids_of x ≡ k → EachKid (λ n. ArePacked (held_content v n)) k l r → HasPackedKids (held_ask v x)
  packed_by k e h = subst (λ cs. (c : List ℕ) → In c cs → ArePacked c) (λ i. by_kids (sym e i) (held_content v (sym el i)) (held_content v (sym er i)))
      (each_packed (λ n. ArePacked (held_content v n)) (held_content v) (λ n p. p) k l r h)

  node_by : (k : ℕ) → kids_of x ≡ k → node_key (held_ask v x) ≡ key_of operator (class_by k l) (map items_of (by_kids k (held_content v l) (held_content v r)))
  node_by k e = λ i. key_of (o i) (class_by (e i) (el i)) (map items_of (by_kids (e i) (held_content v (el i)) (held_content v (er i))))

leaf_facts : (v : View) (operator class : ℕ) → operator < 256 → class < 65536 → KeyFacts v ((3 * operator + 1) * 4294967296 + class * 65536) operator class None None []
leaf_facts v operator class ho hc =
    let x : ℕ = (3 * operator + 1) * 4294967296 + class * 65536 in
    let top : x / 4294967296 ≡ 3 * operator + 1 = omega arith in
    let o : operator_of x ≡ operator = omega arith in
    let k : kids_of x ≡ 0 = omega arith in
    let el : left_of x ≡ class = omega arith in
    let er : right_of x ≡ 0 = omega arith in
    record {
      numbered = (tt, tt);
      key = (omega arith, (λ _. er), omega arith);
      small = omega arith;
      held = held_by v x operator class 0 o el er 0 k tt;
      node = node_by v x operator class 0 o el er 0 k;
      packed = packed_by v x operator class 0 o el er 0 k tt;
    }

one_facts : (v : View) (operator class l : ℕ) (i : Items) → operator < 256 → class ≡ 0 → l < 65536 → HoldsItems v l i → KeyFacts v ((3 * operator + 2) * 4294967296 + l * 65536) operator class (Some (Numbered l)) None (i ∷ [])
one_facts v operator class l i ho hc hl h =
    let x : ℕ = (3 * operator + 2) * 4294967296 + l * 65536 in
    let top : x / 4294967296 ≡ 3 * operator + 2 = omega arith in
    let o : operator_of x ≡ operator = omega arith in
    let k : kids_of x ≡ 1 = omega arith in
    let el : left_of x ≡ l = omega arith in
    let er : right_of x ≡ 0 = omega arith in
    record {
      numbered = (tt, tt);
      key = (omega arith, (λ _. er), omega arith);
      small = omega arith;
      held = held_by v x operator l 0 o el er 1 k (held_kid v l i h);
      node = node_by v x operator l 0 o el er 1 k ∙ (λ j. key_of operator (sym hc j) (sym h.items j ∷ []));
      packed = packed_by v x operator l 0 o el er 1 k h.packed;
    }

two_facts : (v : View) (operator class l r : ℕ) (i j : Items) → operator < 256 → class ≡ 0 → l < 65536 → r < 65536 → HoldsItems v l i → HoldsItems v r j
    → KeyFacts v ((3 * operator + 3) * 4294967296 + l * 65536 + r) operator class (Some (Numbered l)) (Some (Numbered r)) (i ∷ j ∷ [])
two_facts v operator class l r i j ho hc hl hr h k2 =
    let x : ℕ = (3 * operator + 3) * 4294967296 + l * 65536 + r in
    let top : x / 4294967296 ≡ 3 * operator + 3 = omega arith in
    let o : operator_of x ≡ operator = omega arith in
    let k : kids_of x ≡ 2 = omega arith in
    let el : left_of x ≡ l = omega arith in
    let er : right_of x ≡ r = omega arith in
    record {
      numbered = (tt, tt);
      key = (omega arith, (λ le. absurd (omega arith)), omega arith);
      small = omega arith;
      held = held_by v x operator l r o el er 2 k (held_kid v l i h, held_kid v r j k2);
      node = node_by v x operator l r o el er 2 k ∙ (λ q. key_of operator (sym hc q) (sym h.items q ∷ sym k2.items q ∷ []));
      packed = packed_by v x operator l r o el er 2 k (h.packed, k2.packed);
    }

none_some : (x : ℕ) → None ≡ Some x → ⊥
none_some x e = cc

some_is : (x y : ℕ) → Some x ≡ Some y → x ≡ y
some_is x y e = cc

pub key_facts : (normal : NormalForm) (v : View) (plain : List Items) (operator class x : ℕ) (a b : Option Label) (is : List Items) → operator < 256 → class < 65536 → v.setting.states < 65536 → IsClassOver normal class a
    → key_number operator class a b ≡ Some x → KidsAre (Means v plain) a b is → KeyFacts v x operator class a b is
key_facts normal v plain operator class x None None [] ho hc sm cl e h = subst (λ y. KeyFacts v y operator class None None []) (some_is _ x e) (leaf_facts v operator class ho hc)
key_facts normal v plain operator class x None None (i ∷ is) ho hc sm cl e h = absurd h
key_facts normal v plain operator class x None (Some b) is ho hc sm cl e h = absurd h
key_facts normal v plain operator class x (Some (Plain p)) None is ho hc sm cl e h = absurd (none_some x e)
key_facts normal v plain operator class x (Some (Plain p)) (Some b) is ho hc sm cl e h = absurd (none_some x e)
key_facts normal v plain operator class x (Some (Numbered l)) None [] ho hc sm cl e h = absurd h
key_facts normal v plain operator class x (Some (Numbered l)) None (i ∷ []) ho hc sm cl e h = subst (λ y. KeyFacts v y operator class (Some (Numbered l)) None (i ∷ [])) (some_is _ x e) (one_facts v operator class l i ho cl (let b = h.below in omega arith) h)
key_facts normal v plain operator class x (Some (Numbered l)) None (i ∷ j ∷ is) ho hc sm cl e h = absurd h
key_facts normal v plain operator class x (Some (Numbered l)) (Some (Plain p)) is ho hc sm cl e h = absurd (none_some x e)
key_facts normal v plain operator class x (Some (Numbered l)) (Some (Numbered r)) [] ho hc sm cl e h = absurd h
key_facts normal v plain operator class x (Some (Numbered l)) (Some (Numbered r)) (i ∷ []) ho hc sm cl e h = absurd h
key_facts normal v plain operator class x (Some (Numbered l)) (Some (Numbered r)) (i ∷ j ∷ []) ho hc sm cl e h =
    subst (λ y. KeyFacts v y operator class (Some (Numbered l)) (Some (Numbered r)) (i ∷ j ∷ [])) (some_is _ x e) (two_facts v operator class l r i j ho cl (let b = (h.0).below in omega arith) (let b = (h.1).below in omega arith) h.0 h.1)
key_facts normal v plain operator class x (Some (Numbered l)) (Some (Numbered r)) (i ∷ j ∷ k ∷ is) ho hc sm cl e h = absurd h

-- where each kid is numbered, the key has a number
pub some_number : (v : View) (plain : List Items) (operator class : ℕ) (a b : Option Label) (is : List Items) → KidsAre (Means v plain) a b is → AreNumbered a b → (x : ℕ) × (key_number operator class a b ≡ Some x)
some_number v plain operator class None None is h n = (_, refl)
some_number v plain operator class None (Some b) is h n = absurd h
some_number v plain operator class (Some (Plain p)) None is h n = absurd n.0
some_number v plain operator class (Some (Plain p)) (Some b) is h n = absurd n.0
some_number v plain operator class (Some (Numbered l)) None is h n = (_, refl)
some_number v plain operator class (Some (Numbered l)) (Some (Plain p)) is h n = absurd n.1
some_number v plain operator class (Some (Numbered l)) (Some (Numbered r)) is h n = (_, refl)

none_not : (x : ℕ) → Some x ≡ None → ⊥
none_not x e = cc

-- where the key has no number, a kid is plain
pub not_numbered : (v : View) (plain : List Items) (operator class : ℕ) (a b : Option Label) (is : List Items) → key_number operator class a b ≡ None → KidsAre (Means v plain) a b is → AreNumbered a b → ⊥
not_numbered v plain operator class None None is e h n = none_not _ e
not_numbered v plain operator class None (Some b) is e h n = h
not_numbered v plain operator class (Some (Plain p)) None is e h n = n.0
not_numbered v plain operator class (Some (Plain p)) (Some b) is e h n = n.0
not_numbered v plain operator class (Some (Numbered l)) None is e h n = none_not _ e
not_numbered v plain operator class (Some (Numbered l)) (Some (Plain p)) is e h n = n.1
not_numbered v plain operator class (Some (Numbered l)) (Some (Numbered r)) is e h n = none_not _ e
