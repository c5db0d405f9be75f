-- Words that are those of their entries: contents and keys are told apart by item sets.
use Rattle.std.proofs.Common.{◌≡◌, ℕ, zero, suc, pos, ◌+◌, ◌*◌, ◌^◌, Option, Some, None, List, [], ◌∷◌, map, refl, sym, ap, subst, ◌∙◌, arith}
use mathlib.Core.Option.{some, some-injective}
use Rattle.sel_items.specs.declared.items.Item.{Item}
use Rattle.sel_items.specs.declared.items.Items.{Items}
use Rattle.sel_items.specs.Follows.{NodeKey}
use Rattle.sel_items.specs.Unpacking.{unpacked}
use Rattle.sel_items.specs.Words.{IsWordOf}
use Rattle.sel_law.specs.declared.Setting.{Setting}
use Rattle.sel_law.specs.declared.Ask.{Ask}
use Rattle.sel_law.specs.Words.{ArePacked, HasPackedKids, In, items_of, node_key, content, Published, kids_of, left_of, right_of, by_kids, EachKid, ask_of}
use Rattle.sel_law.proofs.Base.{in_nil}

pos_is : (a b : ℕ) → pos a ≡ pos b → a ≡ b
pos_is a b e = cc

-- an entry has one word
word_one : (o : Option Item) (w u : ℕ) → IsWordOf o w → IsWordOf o u → w ≡ u
word_one None w u a b = a ∙ sym b
word_one (Some item) w u a b =
    let same : a.0 ≡ b.0 = pos_is a.0 b.0 (a.1 ∙ sym b.1) in
    a.2 ∙ (ap (λ s. (item.cost).first * 2 ^ 36 + s * 2 ^ 16 + item.rule + 1) same ∙ sym b.2)

head_is : (x y : Option Item) (xs ys : List (Option Item)) → x ∷ xs ≡ y ∷ ys → (x ≡ y) × (xs ≡ ys)
head_is x y xs ys e = (cc, cc)

packed_same : (c d : List ℕ) → ArePacked c → ArePacked d → map unpacked c ≡ map unpacked d → c ≡ d
packed_same [] [] a b e = refl
packed_same [] (y ∷ d) a b e = absurd (cc)
packed_same (x ∷ c) [] a b e = absurd (cc)
packed_same (x ∷ c) (y ∷ d) a b e =
    let h = head_is (unpacked x) (unpacked y) (map unpacked c) (map unpacked d) e in
    let one : x ≡ y = word_one (unpacked y) x y (subst (λ o. IsWordOf o x) h.0 (a 0 (omega arith))) (b 0 (omega arith)) in
    let rest : c ≡ d = packed_same c d (λ i lt. a (suc i) (omega arith)) (λ i lt. b (suc i) (omega arith)) h.1 in
    λ k. one k ∷ rest k

pub items_same : (c d : List ℕ) → ArePacked c → ArePacked d → items_of c ≡ items_of d → c ≡ d
items_same c d a b e = packed_same c d a b (ap (λ (i : Items). i.entries) e)

items_head : (x y : Items) (xs ys : List Items) → x ∷ xs ≡ y ∷ ys → (x ≡ y) × (xs ≡ ys)
items_head x y xs ys e = (cc, cc)

-- contents of kids are told apart by their item sets
abbrev ArePackedAll : List (List ℕ) → Type 0
ArePackedAll cs = (c : List ℕ) → In c cs → ArePacked c

lists_same : (cs ds : List (List ℕ)) → ArePackedAll cs → ArePackedAll ds → map items_of cs ≡ map items_of ds → cs ≡ ds
lists_same [] [] a b e = refl
lists_same [] (d ∷ ds) a b e = absurd (cc)
lists_same (c ∷ cs) [] a b e = absurd (cc)
lists_same (c ∷ cs) (d ∷ ds) a b e =
    let h = items_head (items_of c) (items_of d) (map items_of cs) (map items_of ds) e in
    let one : c ≡ d = items_same c d (a c (0, refl)) (b d (0, refl)) h.0 in
    let rest : cs ≡ ds = lists_same cs ds (λ x i. a x (suc i.0, i.1)) (λ x i. b x (suc i.0, i.1)) h.1 in
    λ k. one k ∷ rest k

in_none : {A : Type 0} (x : A) → In x [] → ⊥
in_none x h = in_nil x h

pub each_packed : (P : ℕ → Type 0) (f : ℕ → List ℕ) → ((n : ℕ) → P n → ArePacked (f n)) → (k l r : ℕ) → EachKid P k l r → ArePackedAll (by_kids k (f l) (f r))
each_packed P f g zero l r h c i = absurd (in_none c i)
each_packed P f g (suc zero) l r h c (zero, e) = subst ArePacked (some_is (f l) c e) (g l h)
  where
    some_is : (x y : List ℕ) → some x ≡ some y → x ≡ y
    some_is x y e = some-injective x y e
each_packed P f g (suc zero) l r h c (suc k, e) = absurd (in_none c (k, e))
each_packed P f g (suc (suc k)) l r h c (zero, e) = subst ArePacked (some_is (f l) c e) (g l h.0)
  where
    some_is : (x y : List ℕ) → some x ≡ some y → x ≡ y
    some_is x y e = some-injective x y e
each_packed P f g (suc (suc k)) l r h c (suc zero, e) = subst ArePacked (some_is (f r) c e) (g r h.1)
  where
    some_is : (x y : List ℕ) → some x ≡ some y → x ≡ y
    some_is x y e = some-injective x y e
each_packed P f g (suc (suc k)) l r h c (suc (suc j), e) = absurd (in_none c (j, e))

-- keys are told apart by their item sets
pub asks_same : (a b : Ask) → HasPackedKids a → HasPackedKids b → node_key a ≡ node_key b → a ≡ b
asks_same a b p q e =
    let kids = lists_same a.kids b.kids p q (ap (λ (k : NodeKey). k.kids) e) in
    let op = ap (λ (k : NodeKey). k.operator) e in
    let cs = ap (λ (k : NodeKey). k.class) e in
    λ i. record { operator = op i; class = cs i; kids = kids i }

module _ (z : Setting) (ws : List ℕ) (packed : (n : ℕ) → Published z ws n → ArePacked (content z ws n)) where
  pub keys_apart : (x y : ℕ) → EachKid (Published z ws) (kids_of x) (left_of x) (right_of x) → EachKid (Published z ws) (kids_of y) (left_of y) (right_of y) → node_key (ask_of z ws x) ≡ node_key (ask_of z ws y) → ask_of z ws x ≡ ask_of z ws y
  keys_apart x y kx ky e =
      let f = content z ws in
      let kids = lists_same (by_kids (kids_of x) (f (left_of x)) (f (right_of x))) (by_kids (kids_of y) (f (left_of y)) (f (right_of y)))
      (each_packed (Published z ws) f packed (kids_of x) (left_of x) (right_of x) kx) (each_packed (Published z ws) f packed (kids_of y) (left_of y) (right_of y) ky)
      (ap (λ (k : NodeKey). k.kids) e) in
      let op = ap (λ (k : NodeKey). k.operator) e in
      let cs = ap (λ (k : NodeKey). k.class) e in
      λ i. record { operator = op i; class = cs i; kids = kids i }
