-- A token with which the line goes on, and with which nothing is wrong, keeps what the open nodes have to do with the tokens.
use Rattle.std.proofs.Common.{◌≡◌, ℕ, suc, zero, ◌+◌, ◌≤◌, ◌<◌, ◌==◌, ◌&&◌, ◌^◌, nat_le, nat_lt, Bool, true, false, List, [], ◌∷◌, ◌++◌, Option, Some, None, refl, ap, sym, ◌∙◌, subst, arith, length, append_assoc, slice_get, map, if◌then◌else◌, ◌⊎◌, inl, inr, pos, neg_ℤ}
use Rattle.std.proofs.lemmas.List.{length-map}
use Rattle.std.proofs.lemmas.Int.{ints}
use Rattle.std.specs.Str.Parse.{digits_value}
use Rattle.sel_grammar.specs.declared.grammar.Attribute.{Attribute}
use Rattle.sel_grammar.specs.declared.grammar.Attribute.TheVariants as attribute
use Rattle.sel_grammar.specs.declared.grammar.Grammar.{Grammar}
use Rattle.sel_grammar.specs.declared.grammar.Operator.{Operator}
use Rattle.sel_forest.specs.Limits as limits
use Rattle.sel_forest.specs.Limits.{most_nodes, most_trees, greatest_depth}
use Rattle.sel_forest.specs.Valid.{depth, IsAttribute, IsOver}
use Rattle.sel_forest.specs.Tokens.{Token, Name, Number, Symbol, Colon, Open, Comma, Close, End}
use Rattle.sel_forest.specs.TreeText.{operator_number, SpellsAttribute, no_attribute, a_number, a_symbol, SpellsTree, value_of, is_negative, without_sign}
use Rattle.sel_forest.specs.LineFaults.{Around, around_next, wants_some, takes_no_further, wants_another, has_wrong_arity, is_too_large, name_kind, unknown_kind, kind_of, with_parent, with_whole_kid, without_first}
use Rattle.sel_forest.specs.declared.around.Parent.{Parent}
use Rattle.sel_forest.specs.OpenNodes.{Opened, Fresh, Half, Full, opened_operator, whole, closed, with_attribute, opened_next, parent_of, first_operator, behind_first, IsClosable, TakesToken, total}
use Rattle.sel_forest.specs.Pieces.{IsLawful}
use Rattle.sel_forest.specs.Machine.{after_tree, step}
use Rattle.sel_forest.specs.declared.line.State.{State}
use Rattle.sel_forest.specs.declared.line.State.TheVariants.{Start, Wanted, Named, Colonned, Attributed, Closed, Ended}
use Rattle.sel_forest.proofs.Reading.{HasPairsAtMost, not_le, not_lt, right, left_false, right_false, ParentTexts, Bare, Whole, Fits, whole_of_bare, open_texts, comma_texts, close_texts}

-- What the checks of a name say.
pub record NameIsRight (g : Grammar) (trees : ℕ) (a : Around) (n : List ℕ) : Type 0 where
  pub few_trees : (nat_le most_trees trees && (a.names == 0)) ≡ false
  pub shallow : length a.parents < greatest_depth
  pub few : a.names < most_nodes
  pub operator : Operator
  pub known : slice_get g.operators (operator_number g n) ≡ Some operator

if_none : (b : Bool) (k : ℕ) (o : Option ℕ) → (if b then Some k else o) ≡ None → (b ≡ false) × (o ≡ None)
if_none true k o h = absurd cc
if_none false k o h = (refl, h)

known_of : (o : Option Operator) → unknown_kind o ≡ None → (operator : Operator) × (o ≡ Some operator)
known_of None h = absurd cc
known_of (Some operator) h = (operator, refl)

pub name_right : (g : Grammar) (trees : ℕ) (a : Around) (n : List ℕ) → name_kind g trees a n ≡ None → NameIsRight g trees a n
name_right g trees a n h =
    let x = if_none _ _ _ h in
    let y = if_none _ _ _ x.1 in
    let z = if_none _ _ _ y.1 in
    let k = known_of (slice_get g.operators (operator_number g n)) z.1 in
    record { few_trees = x.0; shallow = not_le greatest_depth (length a.parents) y.0; few = not_le most_nodes a.names z.0; operator = k.0; known = k.1 }

-- Where the line ends: nothing was read, or one tree.
abbrev pub Ending : Grammar → List Opened → List Token → Type 0
Ending g os ts = ((os ≡ []) × (ts ≡ [])) ⊎ ((o : Opened) × (os ≡ o ∷ []) × SpellsTree g ts (whole o) × IsOver g (whole o) × (depth (whole o) ≤ greatest_depth))

pub record Moves (g : Grammar) (a : Around) (os : List Opened) (ts : List Token) (t : Token) (u : State) : Type 0 where
  pub takes : TakesToken os t
  pub on : (u ≡ Ended → ⊥) → Fits g u (around_next g a t) (opened_next g os t) (ts ++ (t ∷ []))
  pub ends : u ≡ Ended → Ending g os ts

abbrev pub MovesTo : Grammar → Around → List Opened → List Token → Token → Option State → Type 0
MovesTo g a os ts t None = Unit {0}
MovesTo g a os ts t (Some u) = Moves g a os ts t u

-- A name opens a node.
name_moves : (g : Grammar) (trees d : ℕ) (a : Around) (os : List Opened) (ts : List Token) (n : List ℕ) → ParentTexts g os ts → a.parents ≡ map parent_of os → length a.parents ≡ d → a.names ≡ total os
    → name_kind g trees a n ≡ None → Moves g a os ts (Name n) (Named d)
name_moves g trees d a os ts n texts parents deep names h =
    let r = name_right g trees a n h in
    let long : length a.parents ≡ length os = ap length parents ∙ length-map os parent_of in
    record {
      takes = tt;
      on = λ _. record {
        reads = record {
          op = operator_number g n;
          n = n;
          rest = os;
          before = ts;
          os_are = refl;
          tokens = refl;
          number = refl;
          operator = r.operator;
          known = r.known;
          outside = texts;
          deep = omega (arith, r.shallow);
        };
        bare = refl;
        parents = parents;
        deep = deep;
        names = let e : a.names + 1 ≡ 1 + total os = omega arith in e;
        few = omega (arith, r.few);
      };
      ends = λ e. absurd cc;
    }

-- A colon stands behind a name.
colon_moves : (g : Grammar) (d : ℕ) (a : Around) (os : List Opened) (ts : List Token) → Fits g (Named d) a os ts → Moves g a os ts Colon (Colonned d)
colon_moves g d a os ts f = record {
  takes = tt;
  on = λ _. record {
    reads = let b : Bare g os ts [] attribute.Absent = f.reads in record {
      op = b.op;
      n = b.n;
      rest = b.rest;
      before = b.before;
      os_are = b.os_are;
      tokens = ap (λ us. us ++ (Colon ∷ [])) b.tokens ∙ append_assoc b.before (Name b.n ∷ []) (Colon ∷ []);
      number = b.number;
      operator = b.operator;
      known = b.known;
      outside = b.outside;
      deep = b.deep;
    };
    bare = f.bare;
    parents = f.parents;
    deep = f.deep;
    names = f.names;
    few = f.few;
  };
  ends = λ e. absurd cc;
}

-- The attribute behind a colon.
marked_bare : (g : Grammar) (os : List Opened) (ts : List Token) (t : Token) (x : Attribute) → Bare g os ts (Colon ∷ []) attribute.Absent → Bare g (with_attribute x os) (ts ++ (t ∷ [])) (Colon ∷ t ∷ []) x
marked_bare g os ts t x b = record {
  op = b.op;
  n = b.n;
  rest = b.rest;
  before = b.before;
  os_are = ap (with_attribute x) b.os_are;
  tokens = ap (λ us. us ++ (t ∷ [])) b.tokens ∙ append_assoc b.before (Name b.n ∷ Colon ∷ []) (t ∷ []);
  number = b.number;
  operator = b.operator;
  known = b.known;
  outside = b.outside;
  deep = b.deep;
}

marked_first : (x : Attribute) (os : List Opened) → first_operator (with_attribute x os) ≡ first_operator os
marked_first x [] = refl
marked_first x (Fresh op a ∷ os) = refl
marked_first x (Half op a t ∷ os) = refl
marked_first x (Full op a t u ∷ os) = refl

marked_rest : (x : Attribute) (os : List Opened) → behind_first (with_attribute x os) ≡ behind_first os
marked_rest x [] = refl
marked_rest x (Fresh op a ∷ os) = refl
marked_rest x (Half op a t ∷ os) = refl
marked_rest x (Full op a t u ∷ os) = refl

marked_total : (x : Attribute) (os : List Opened) → total (with_attribute x os) ≡ total os
marked_total x [] = refl
marked_total x (Fresh op a ∷ os) = refl
marked_total x (Half op a t ∷ os) = refl
marked_total x (Full op a t u ∷ os) = refl

marked_fits : (g : Grammar) (d : ℕ) (a : Around) (os : List Opened) (ts : List Token) (t : Token) (x : Attribute) → SpellsAttribute (Colon ∷ t ∷ []) x → IsAttribute x → Fits g (Colonned d) a os ts
    → Fits g (Attributed d) a (with_attribute x os) (ts ++ (t ∷ []))
marked_fits g d a os ts t x spelled lawful f = record {
  reads = (Colon ∷ t ∷ [], x, spelled, lawful, marked_bare g os ts t x f.reads);
  bare = f.bare ∙ sym (marked_first x os);
  parents = f.parents ∙ ap (map parent_of) (sym (marked_rest x os));
  deep = f.deep;
  names = f.names ∙ sym (marked_total x os);
  few = f.few;
}

some_bare : (g : Grammar) (os : List Opened) (ts xs : List Token) (x : Attribute) → Bare g os ts xs x → 0 < length os
some_bare g os ts xs x b = let e : length os ≡ suc (length b.rest) = ap length b.os_are in omega arith

value_fits : (bytes : List ℕ) → is_too_large bytes ≡ false → IsAttribute (attribute.Number (value_of bytes))
value_fits bytes h = go (is_negative bytes) (digits_value 10 (without_sign bytes)) h
  where
    go : (b : Bool) (n : ℕ) → (if b then nat_lt (2 ^ 63) n else nat_le (2 ^ 63) n) ≡ false → IsAttribute (attribute.Number (if b then neg_ℤ (pos n) else pos n))
    go true n h = let k : n ≤ 2 ^ 63 = not_lt (2 ^ 63) n h in (omega (arith, ints), omega (arith, ints))
    go false n h = let k : n < 2 ^ 63 = not_le (2 ^ 63) n h in (omega (arith, ints), omega (arith, ints))

-- A parenthesis opens behind a name and its attribute.
open_moves : (g : Grammar) (d : ℕ) (a : Around) (os : List Opened) (ts xs : List Token) (x : Attribute) → SpellsAttribute xs x → IsAttribute x → Bare g os ts xs x
    → a.bare ≡ first_operator os → a.parents ≡ map parent_of (behind_first os) → length a.parents ≡ d → a.names ≡ total os → a.names ≤ most_nodes
    → has_wrong_arity g a Open ≡ false → Moves g a os ts Open (Wanted (suc d))
open_moves g d a os ts xs x spelled lawful b bare parents deep names few w =
    let named : a.bare ≡ Some b.op = bare ∙ ap first_operator b.os_are in
    let around : a.parents ≡ map parent_of b.rest = parents ∙ ap (λ o. map parent_of (behind_first o)) b.os_are in
    let opened : with_parent a.bare a.parents ≡ map parent_of (Fresh b.op x ∷ b.rest) = ap (λ o. with_parent o a.parents) named ∙ ap (with_parent (Some b.op)) around in
    record {
      takes = tt;
      on = λ _. record {
        reads = open_texts g a os ts xs x spelled lawful b bare w;
        bare = refl;
        parents = opened ∙ ap (map parent_of) (sym b.os_are);
        deep = ap (λ o. length (with_parent o a.parents)) named ∙ (let e : suc (length a.parents) ≡ suc d = ap suc deep in e);
        names = names;
        few = few;
      };
      ends = λ e. absurd cc;
    }

-- A comma and a closing parenthesis end a tree.

closable : (g : Grammar) → HasPairsAtMost g → (o : Opened) (rest : List Opened) (before : List Token) → ParentTexts g rest before → 0 < length rest → IsClosable (o ∷ rest)
closable g two o [] before texts some = absurd (omega arith)
closable g two o (p ∷ rest) before (out, own, e, outer, text, count, far) some = let k = two (opened_operator p) in omega arith

kid_parents : (o : Opened) (rest : List Opened) → IsClosable (o ∷ rest) → with_whole_kid (map parent_of rest) ≡ map parent_of (closed (o ∷ rest))
kid_parents o [] h = absurd h
kid_parents o (Fresh op a ∷ rest) h = refl
kid_parents o (Half op a t ∷ rest) h = refl
kid_parents o (Full op a t u ∷ rest) h = absurd (omega arith)

closed_rest : (o : Opened) (rest : List Opened) → IsClosable (o ∷ rest) → without_first (map parent_of rest) ≡ map parent_of (behind_first (closed (o ∷ rest)))
closed_rest o [] h = absurd h
closed_rest o (p ∷ rest) h = refl

pub closed_total : (o : Opened) (rest : List Opened) → IsClosable (o ∷ rest) → total (o ∷ rest) ≡ total (closed (o ∷ rest))
closed_total o [] h = absurd h
closed_total o (Fresh op a ∷ rest) h = omega arith
closed_total o (Half op a t ∷ rest) h = omega arith
closed_total o (Full op a t u ∷ rest) h = absurd (omega arith)

same_length : (ps : List Parent) → length (with_whole_kid ps) ≡ length ps
same_length [] = refl
same_length (p ∷ ps) = refl

one_less : (ps : List Parent) (d : ℕ) → length ps ≡ suc d → length (without_first ps) ≡ d
one_less [] d h = absurd (omega arith)
one_less (p ∷ ps) d h = omega arith

comma_moves : (g : Grammar) → HasPairsAtMost g → (d : ℕ) (a : Around) (os : List Opened) (ts : List Token) → Whole g os ts → a.parents ≡ map parent_of (behind_first os) → length a.parents ≡ suc d
    → a.names ≡ total os → a.names ≤ most_nodes → takes_no_further g a.parents ≡ false → Moves g a os ts Comma (Wanted (suc d))
comma_moves g two d a os ts w parents deep names few h =
    let around : a.parents ≡ map parent_of w.rest = parents ∙ ap (λ o. map parent_of (behind_first o)) w.os_are in
    let long : length w.rest ≡ suc d = sym (length-map w.rest parent_of) ∙ ap length (sym around) ∙ deep in
    let room : IsClosable (w.o ∷ w.rest) = closable g two w.o w.rest w.before w.outside (omega arith) in
    let texts = comma_texts g two w.o w.rest w.before w.mine w.outside w.spells w.over w.deep (omega arith) (sym (ap (takes_no_further g) around) ∙ h) in
    record {
      takes = subst IsClosable (sym w.os_are) room;
      on = λ _. record {
        reads = subst (λ o. ParentTexts g (closed o) (ts ++ (Comma ∷ []))) (sym w.os_are) (subst (λ us. ParentTexts g (closed (w.o ∷ w.rest)) (us ++ (Comma ∷ []))) (sym w.tokens) texts);
        bare = refl;
        parents = ap with_whole_kid around ∙ kid_parents w.o w.rest room ∙ ap (λ o. map parent_of (closed o)) (sym w.os_are);
        deep = same_length a.parents ∙ deep;
        names = names ∙ ap total w.os_are ∙ closed_total w.o w.rest room ∙ ap (λ o. total (closed o)) (sym w.os_are);
        few = few;
      };
      ends = λ e. absurd cc;
    }

close_moves : (g : Grammar) → HasPairsAtMost g → (d : ℕ) (a : Around) (os : List Opened) (ts : List Token) → Whole g os ts → a.parents ≡ map parent_of (behind_first os) → length a.parents ≡ suc d
    → a.names ≡ total os → a.names ≤ most_nodes → wants_another g a.parents ≡ false → Moves g a os ts Close (Closed d)
close_moves g two d a os ts w parents deep names few h =
    let around : a.parents ≡ map parent_of w.rest = parents ∙ ap (λ o. map parent_of (behind_first o)) w.os_are in
    let long : length w.rest ≡ suc d = sym (length-map w.rest parent_of) ∙ ap length (sym around) ∙ deep in
    let room : IsClosable (w.o ∷ w.rest) = closable g two w.o w.rest w.before w.outside (omega arith) in
    let done = close_texts g w.o w.rest w.before w.mine w.outside w.spells w.over w.deep (omega arith) (sym (ap (wants_another g) around) ∙ h) in
    record {
      takes = subst IsClosable (sym w.os_are) room;
      on = λ _. record {
        reads = subst (λ o. Whole g (closed o) (ts ++ (Close ∷ []))) (sym w.os_are) (subst (λ us. Whole g (closed (w.o ∷ w.rest)) (us ++ (Close ∷ []))) (sym w.tokens) done);
        bare = refl;
        parents = ap without_first around ∙ closed_rest w.o w.rest room ∙ ap (λ o. map parent_of (behind_first (closed o))) (sym w.os_are);
        deep = one_less a.parents d deep;
        names = names ∙ ap total w.os_are ∙ closed_total w.o w.rest room ∙ ap (λ o. total (closed o)) (sym w.os_are);
        few = few;
      };
      ends = λ e. absurd cc;
    }

-- The line ends behind its tree.
no_parents : (os : List Opened) → length (map parent_of os) ≡ 0 → os ≡ []
no_parents [] h = refl
no_parents (o ∷ os) h = absurd (omega arith)

tree_ends : (g : Grammar) (a : Around) (os : List Opened) (ts : List Token) → Whole g os ts → a.parents ≡ map parent_of (behind_first os) → length a.parents ≡ 0 → Moves g a os ts End Ended
tree_ends g a os ts w parents deep =
    let none : w.rest ≡ [] = no_parents w.rest (ap (λ o. length (map parent_of (behind_first o))) (sym w.os_are) ∙ ap length (sym parents) ∙ deep) in
    let empty : w.before ≡ [] = subst (λ r. ParentTexts g r w.before) none w.outside in
    let mine : ts ≡ w.mine = w.tokens ∙ ap (λ us. us ++ w.mine) empty in
    let far = w.deep in
    record {
      takes = tt;
      on = λ open_still. absurd (open_still refl);
      ends = λ _. inr (w.o, w.os_are ∙ ap (λ r. w.o ∷ r) none, subst (λ us. SpellsTree g us (whole w.o)) (sym mine) w.spells, w.over, omega arith);
    }

wrong_none : (g : Grammar) (a : Around) (t : Token) → (if has_wrong_arity g a t then Some limits.arity else None) ≡ None → has_wrong_arity g a t ≡ false
wrong_none g a t h = right (has_wrong_arity g a t) limits.arity h

-- A token behind a tree, which a name and its attribute are where their operator wants no kids.
behind_moves : (g : Grammar) → HasPairsAtMost g → (trees : ℕ) (a : Around) (os : List Opened) (ts : List Token) → (wants_some g a.bare ≡ false → Whole g os ts)
    → a.parents ≡ map parent_of (behind_first os) → a.names ≡ total os → a.names ≤ most_nodes → (d : ℕ) (t : Token) → length a.parents ≡ d → kind_of g trees a t ≡ None → MovesTo g a os ts t (after_tree d t)
behind_moves g two trees a os ts w parents names few (suc d) Comma deep k =
    let h = wrong_none g a Comma k in
    comma_moves g two d a os ts (w (left_false (wants_some g a.bare) (takes_no_further g a.parents) h)) parents deep names few (right_false (wants_some g a.bare) (takes_no_further g a.parents) h)
behind_moves g two trees a os ts w parents names few (suc d) Close deep k =
    let h = wrong_none g a Close k in
    close_moves g two d a os ts (w (left_false (wants_some g a.bare) (wants_another g a.parents) h)) parents deep names few (right_false (wants_some g a.bare) (wants_another g a.parents) h)
behind_moves g two trees a os ts w parents names few zero End deep k = tree_ends g a os ts (w (wrong_none g a End k)) parents deep
behind_moves g two trees a os ts w parents names few _ _ deep k = tt

pub moves : (g : Grammar) → HasPairsAtMost g → (trees : ℕ) (a : Around) (os : List Opened) (ts : List Token) (s : State) (t : Token) → Fits g s a os ts → IsLawful t → kind_of g trees a t ≡ None → MovesTo g a os ts t (step s t)
moves g two trees a os ts Start (Name n) f l k = name_moves g trees 0 a os ts n (subst (λ o. ParentTexts g o ts) (sym f.reads.0) f.reads.1) f.parents f.deep f.names k
moves g two trees a os ts Start End f l k = record { takes = tt; on = λ h. absurd (h refl); ends = λ _. inl f.reads }
moves g two trees a os ts (Wanted d) (Name n) f l k = name_moves g trees d a os ts n f.reads f.parents f.deep f.names k
moves g two trees a os ts (Named d) Colon f l k = colon_moves g d a os ts f
moves g two trees a os ts (Named d) Open f l k =
    open_moves g d a os ts [] attribute.Absent no_attribute tt f.reads f.bare f.parents f.deep f.names f.few (wrong_none g a Open k)
moves g two trees a os ts (Named d) t f l k =
    behind_moves g two trees a os ts (λ w. whole_of_bare g a os ts [] attribute.Absent no_attribute tt f.reads f.bare w) f.parents f.names f.few d t f.deep k
moves g two trees a os ts (Colonned d) (Number bytes) f l k =
    let small : is_too_large bytes ≡ false = right (is_too_large bytes) limits.number_large k in
    record {
      takes = (small, some_bare g os ts (Colon ∷ []) attribute.Absent f.reads);
      on = λ _. marked_fits g d a os ts (Number bytes) (attribute.Number (value_of bytes)) (a_number bytes) (value_fits bytes small) f;
      ends = λ e. absurd cc;
    }
moves g two trees a os ts (Colonned d) (Symbol bytes) f l k = record {
  takes = some_bare g os ts (Colon ∷ []) attribute.Absent f.reads;
  on = λ _. marked_fits g d a os ts (Symbol bytes) (attribute.Symbol bytes) (a_symbol bytes) l f;
  ends = λ e. absurd cc;
}
moves g two trees a os ts (Attributed d) Open f l k =
    open_moves g d a os ts f.reads.0 f.reads.1 f.reads.2 f.reads.3 f.reads.4 f.bare f.parents f.deep f.names f.few (wrong_none g a Open k)
moves g two trees a os ts (Attributed d) t f l k =
    behind_moves g two trees a os ts (λ w. whole_of_bare g a os ts f.reads.0 f.reads.1 f.reads.2 f.reads.3 f.reads.4 f.bare w) f.parents f.names f.few d t f.deep k
moves g two trees a os ts (Closed d) t f l k = behind_moves g two trees a os ts (λ _. f.reads) f.parents f.names f.few d t f.deep k
moves g two trees a os ts _ _ f l k = tt
