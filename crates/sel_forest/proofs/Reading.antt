-- What the open nodes have to do with the tokens that were read, token by token.
use Rattle.std.proofs.Common.{◌≡◌, ℕ, ◌+◌, ◌≤◌, ◌<◌, ◌==◌, ◌||◌, nat_le, nat_lt, Bool, true, false, List, [], ◌∷◌, ◌++◌, Option, Some, None, refl, ap, sym, ◌∙◌, subst, arith, length, append_assoc, slice_get, unwrap_or, map, if◌then◌else◌}
use Rattle.sel_grammar.specs.declared.grammar.Attribute.{Attribute}
use Rattle.sel_grammar.specs.declared.grammar.Attribute.TheVariants as attribute
use Rattle.sel_grammar.specs.declared.grammar.Grammar.{Grammar}
use Rattle.sel_grammar.specs.declared.grammar.Operator.{Operator}
use Rattle.sel_grammar.specs.Limits.{IsWithinLimits, IsArity}
use Rattle.sel_grammar.specs.PlainTrees.{PlainTree, Node0, Node1, Node2}
use Rattle.sel_forest.specs.Limits.{most_nodes, greatest_depth}
use Rattle.sel_forest.specs.Valid.{depth, Takes, IsAttribute, IsOver}
use Rattle.sel_forest.specs.Tokens.{Token, Name, Colon, Open, Comma, Close}
use Rattle.sel_forest.specs.TreeText.{operator_number, SpellsAttribute, SpellsTree, no_kids, one_kid, two_kids}
use Rattle.sel_forest.specs.LineFaults.{Around, least_of, most_of, least_kids, most_kids, takes_none, wants_some, takes_no_further, wants_another}
use Rattle.sel_forest.specs.OpenNodes.{Opened, Fresh, Half, Full, opened_operator, kid_count, whole, closed, parent_of, first_operator, bare_in, parents_in, total}
use Rattle.sel_forest.specs.Machine.{open_count}
use Rattle.sel_forest.specs.declared.line.State.{State}
use Rattle.sel_forest.specs.declared.line.State.TheVariants.{Start, Wanted, Named, Colonned, Attributed, Closed, Ended}

-- no operator of a grammar takes more than two kids
abbrev pub HasPairsAtMost : Grammar → Type 0
HasPairsAtMost g = (op : ℕ) → most_kids g op ≤ 2

pub not_le : (a b : ℕ) → nat_le a b ≡ false → b < a
not_le a b h = grind arith

pub not_lt : (a b : ℕ) → nat_lt a b ≡ false → b ≤ a
not_lt a b h = grind arith

pub not_zero : (a : ℕ) → (a == 0) ≡ false → 0 < a
not_zero a h = grind arith

-- The name and the attribute with which a node begins.
pub record Begins (g : Grammar) (op : ℕ) (a : Attribute) (n : List ℕ) (xs : List Token) : Type 0 where
  pub number : operator_number g n ≡ op
  pub operator : Operator
  pub known : slice_get g.operators op ≡ Some operator
  pub attribute : SpellsAttribute xs a
  pub lawful : IsAttribute a

-- The tokens of a parent from its name on.
pub record FreshText (g : Grammar) (op : ℕ) (a : Attribute) (ts : List Token) : Type 0 where
  pub n : List ℕ
  pub xs : List Token
  pub begins : Begins g op a n xs
  pub tokens : ts ≡ Name n ∷ (xs ++ (Open ∷ []))

pub record HalfText (g : Grammar) (op : ℕ) (a : Attribute) (t : PlainTree) (ts : List Token) : Type 0 where
  pub n : List ℕ
  pub xs : List Token
  pub begins : Begins g op a n xs
  pub us : List Token
  pub kid : SpellsTree g us t
  pub over : IsOver g t
  pub tokens : ts ≡ Name n ∷ (xs ++ (Open ∷ (us ++ (Comma ∷ []))))

abbrev pub ParentText : Grammar → Opened → List Token → Type 0
ParentText g (Fresh op a) ts = FreshText g op a ts
ParentText g (Half op a t) ts = HalfText g op a t ts
ParentText g (Full op a t u) ts = ⊥

-- the tokens of parents, the innermost last
abbrev pub ParentTexts : Grammar → List Opened → List Token → Type 0
ParentTexts g [] ts = ts ≡ []
ParentTexts g (o ∷ os) ts =
    (before : List Token) × (mine : List Token) × (ts ≡ before ++ mine) × ParentTexts g os before × ParentText g o mine
    × (kid_count o < most_kids g (opened_operator o)) × (length os + depth (whole o) ≤ greatest_depth)

-- The innermost node has a name and no parenthesis.
pub record Bare (g : Grammar) (os : List Opened) (ts xs : List Token) (x : Attribute) : Type 0 where
  pub op : ℕ
  pub n : List ℕ
  pub rest : List Opened
  pub before : List Token
  pub os_are : os ≡ Fresh op x ∷ rest
  pub tokens : ts ≡ before ++ (Name n ∷ xs)
  pub number : operator_number g n ≡ op
  pub operator : Operator
  pub known : slice_get g.operators op ≡ Some operator
  pub outside : ParentTexts g rest before
  pub deep : length rest + 1 ≤ greatest_depth

-- The innermost node is a whole tree.
pub record Whole (g : Grammar) (os : List Opened) (ts : List Token) : Type 0 where
  pub o : Opened
  pub rest : List Opened
  pub before : List Token
  pub mine : List Token
  pub os_are : os ≡ o ∷ rest
  pub tokens : ts ≡ before ++ mine
  pub outside : ParentTexts g rest before
  pub spells : SpellsTree g mine (whole o)
  pub over : IsOver g (whole o)
  pub deep : length rest + depth (whole o) ≤ greatest_depth

abbrev pub Reads : Grammar → State → List Opened → List Token → Type 0
Reads g Start os ts = (os ≡ []) × (ts ≡ [])
Reads g (Wanted d) os ts = ParentTexts g os ts
Reads g (Named d) os ts = Bare g os ts [] attribute.Absent
Reads g (Colonned d) os ts = Bare g os ts (Colon ∷ []) attribute.Absent
Reads g (Attributed d) os ts = (xs : List Token) × (x : Attribute) × SpellsAttribute xs x × IsAttribute x × Bare g os ts xs x
Reads g (Closed d) os ts = Whole g os ts
Reads g Ended os ts = ⊥

pub record Fits (g : Grammar) (s : State) (a : Around) (os : List Opened) (ts : List Token) : Type 0 where
  pub reads : Reads g s os ts
  pub bare : a.bare ≡ bare_in s os
  pub parents : a.parents ≡ parents_in s os
  pub deep : length a.parents ≡ open_count s
  pub names : a.names ≡ total os
  pub few : a.names ≤ most_nodes

-- What the arity's checks give.

pub takes_of : (g : Grammar) (op n : ℕ) (operator : Operator) → slice_get g.operators op ≡ Some operator → least_kids g op ≤ n → n ≤ most_kids g op → n ≤ 2 → Takes operator.arity n
takes_of g op n operator k low high two =
    go operator.arity (subst (λ o. least_of o ≤ n) k low) (subst (λ o. n ≤ most_of o) k high)
  where
    go : (a : Option ℕ) → unwrap_or a 0 ≤ n → n ≤ unwrap_or a 2 → Takes a n
    go None low high = two
    go (Some m) low high = omega arith

pub most_two : (g : Grammar) → IsWithinLimits g → HasPairsAtMost g
most_two g within op = go (slice_get g.operators op) refl
  where
    bounded : (a : Option ℕ) → IsArity a → unwrap_or a 2 ≤ 2
    bounded None h = omega arith
    bounded (Some k) h = h

    go : (o : Option Operator) → slice_get g.operators op ≡ o → most_of o ≤ 2
    go None e = omega arith
    go (Some operator) e = bounded operator.arity (within.arities op operator e)

-- the checks that a token passed
pub right : (b : Bool) (k : ℕ) → (if b then Some k else None) ≡ None → b ≡ false
right true k h = cc
right false k h = refl

pub left_false : (a b : Bool) → (a || b) ≡ false → a ≡ false
left_false false b h = refl
left_false true b h = h

pub right_false : (a b : Bool) → (a || b) ≡ false → b ≡ false
right_false false b h = h
right_false true b h = cc

-- A name and its attribute, whose operator wants no kids, are a tree.
pub whole_of_bare : (g : Grammar) (a : Around) (os : List Opened) (ts xs : List Token) (x : Attribute) → SpellsAttribute xs x → IsAttribute x → Bare g os ts xs x
    → a.bare ≡ first_operator os → wants_some g a.bare ≡ false → Whole g os ts
whole_of_bare g a os ts xs x spelled lawful b e w =
    let named : a.bare ≡ Some b.op = e ∙ ap first_operator b.os_are in
    let low : least_kids g b.op ≤ 0 = not_lt 0 (least_kids g b.op) (sym (ap (wants_some g) named) ∙ w) in
    record {
      o = Fresh b.op x;
      rest = b.rest;
      before = b.before;
      mine = Name b.n ∷ xs;
      os_are = b.os_are;
      tokens = b.tokens;
      outside = b.outside;
      spells = subst (λ op. SpellsTree g (Name b.n ∷ xs) (Node0 op x)) b.number (no_kids b.n x xs spelled);
      over = ((b.operator, b.known, takes_of g b.op 0 b.operator b.known low (omega arith) (omega arith)), lawful);
      deep = b.deep;
    }

-- A parenthesis opens behind a name and its attribute.
pub open_texts : (g : Grammar) (a : Around) (os : List Opened) (ts xs : List Token) (x : Attribute) → SpellsAttribute xs x → IsAttribute x → Bare g os ts xs x
    → a.bare ≡ first_operator os → takes_none g a.bare ≡ false → ParentTexts g os (ts ++ (Open ∷ []))
open_texts g a os ts xs x spelled lawful b e w =
    let named : a.bare ≡ Some b.op = e ∙ ap first_operator b.os_are in
    let some : 0 < most_kids g b.op = not_zero (most_kids g b.op) (sym (ap (takes_none g) named) ∙ w) in
    subst (λ o. ParentTexts g o (ts ++ (Open ∷ []))) (sym b.os_are) (
      b.before,
      Name b.n ∷ (xs ++ (Open ∷ [])),
      ap (λ us. us ++ (Open ∷ [])) b.tokens ∙ append_assoc b.before (Name b.n ∷ xs) (Open ∷ []),
      b.outside,
      record { n = b.n; xs = xs; begins = record { number = b.number; operator = b.operator; known = b.known; attribute = spelled; lawful = lawful }; tokens = refl },
      some,
      b.deep,
    )

-- A comma ends a whole tree: it is the first kid of the node around it.
pub comma_texts : (g : Grammar) → HasPairsAtMost g → (o : Opened) (rest : List Opened) (before mine : List Token) → ParentTexts g rest before → SpellsTree g mine (whole o) → IsOver g (whole o)
    → length rest + depth (whole o) ≤ greatest_depth → 0 < length rest → takes_no_further g (map parent_of rest) ≡ false → ParentTexts g (closed (o ∷ rest)) ((before ++ mine) ++ (Comma ∷ []))
comma_texts g two o [] before mine outside spells over deep some w = absurd (omega arith)
comma_texts g two o (Fresh op x ∷ more) before mine (out, own, e, outer, text, count, far) spells over deep some w = (
  out,
  own ++ (mine ++ (Comma ∷ [])),
  simp (e, append_assoc) refl,
  outer,
  record { n = text.n; xs = text.xs; begins = text.begins; us = mine; kid = spells; over = over; tokens = simp (text.tokens, append_assoc) refl },
  not_le (most_kids g op) 1 w,
  omega arith,
)
comma_texts g two o (Half op x t ∷ more) before mine outside spells over deep some w = absurd (let h : 2 < most_kids g op = not_le (most_kids g op) 2 w in let k = two op in omega arith)
comma_texts g two o (Full op x t u ∷ more) before mine outside spells over deep some w = absurd outside.4

-- A closing parenthesis ends a whole tree: the node around it is one too.
pub close_texts : (g : Grammar) → (o : Opened) (rest : List Opened) (before mine : List Token) → ParentTexts g rest before → SpellsTree g mine (whole o) → IsOver g (whole o)
    → length rest + depth (whole o) ≤ greatest_depth → 0 < length rest → wants_another g (map parent_of rest) ≡ false → Whole g (closed (o ∷ rest)) ((before ++ mine) ++ (Close ∷ []))
close_texts g o [] before mine outside spells over deep some w = absurd (omega arith)
close_texts g o (Fresh op x ∷ more) before mine (out, own, e, outer, text, count, far) spells over deep some w = record {
  o = Half op x (whole o);
  rest = more;
  before = out;
  mine = own ++ (mine ++ (Close ∷ []));
  os_are = refl;
  tokens = simp (e, append_assoc) refl;
  outside = outer;
  spells = subst (λ us. SpellsTree g us (Node1 op x (whole o))) (simp (text.tokens, append_assoc) refl)
      (subst (λ k. SpellsTree g (Name text.n ∷ (text.xs ++ (Open ∷ (mine ++ (Close ∷ []))))) (Node1 k x (whole o))) text.begins.number
      (one_kid text.n x text.xs mine (whole o) text.begins.attribute spells));
  over = (
    (text.begins.operator, text.begins.known, takes_of g op 1 text.begins.operator text.begins.known (not_lt 1 (least_kids g op) w) (omega arith) (omega arith)),
    text.begins.lawful,
    over,
  );
  deep = omega arith;
}
close_texts g o (Half op x t ∷ more) before mine (out, own, e, outer, text, count, far) spells over deep some w = record {
  o = Full op x t (whole o);
  rest = more;
  before = out;
  mine = own ++ (mine ++ (Close ∷ []));
  os_are = refl;
  tokens = simp (e, append_assoc) refl;
  outside = outer;
  spells = subst (λ us. SpellsTree g us (Node2 op x t (whole o))) (simp (text.tokens, append_assoc) refl)
      (subst (λ k. SpellsTree g (Name text.n ∷ (text.xs ++ (Open ∷ (text.us ++ (Comma ∷ (mine ++ (Close ∷ []))))))) (Node2 k x t (whole o))) text.begins.number
      (two_kids text.n x text.xs text.us mine t (whole o) text.begins.attribute text.kid spells));
  over = (
    (text.begins.operator, text.begins.known, takes_of g op 2 text.begins.operator text.begins.known (not_lt 2 (least_kids g op) w) (omega arith) (omega arith)),
    text.begins.lawful,
    text.over,
    over,
  );
  deep = omega arith;
}
close_texts g o (Full op x t u ∷ more) before mine outside spells over deep some w = absurd outside.4
