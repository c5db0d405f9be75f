-- What the checks of a rule's names give, by the tables.
use Rattle.std.proofs.Common.{◌≡◌, ℕ, suc, ◌+◌, ◌<◌, ◌≤◌, List, [], ◌∷◌, ◌++◌, Option, Some, None, Bool, true, false, length, refl, ap, sym, ◌∙◌, arith, cond, eqb, ◌||◌, ◌&&◌, map, take, drop, get_or, drop-cons, length-append}
use Rattle.std.proofs.lemmas.List.{map_more}
use Rattle.sel_grammar_text.proofs.ItemLists.{with_words-append}
use Rattle.std.specs.Prelude.{not, bytes_eq, nat_lt, nat_le}
use Rattle.std.proofs.lemmas.Slice.Eq.{bytes_eq-Decides}
use Rattle.sel_grammar.specs.Limits.{most_nonterminals, most_kids}
use Rattle.sel_grammar_text.specs.Items.{Word, Item, StartItem, EntryItem, CodeItem, PercentsItem, RuleItem}
use Rattle.sel_grammar_text.specs.Names.{is_among, operators, leaves, with_words, first_use}
use Rattle.sel_grammar_text.specs.Meaning.{operators_of}
use Rattle.sel_grammar_text.specs.Checks.{has_wrong_kids, differs, past_most}
use Rattle.sel_grammar_text.specs.Tables.{arity_in, or_count}

first_use-append : (us vs : List (Word × ℕ)) (name : List ℕ) → first_use (us ++ vs) name ≡ or_count (first_use us name) (first_use vs name)
first_use-append [] vs name = refl
first_use-append (u ∷ us) vs name = go (bytes_eq u.0.bytes name) (first_use-append us vs name)
  where
    go : (b : Bool) → first_use (us ++ vs) name ≡ or_count (first_use us name) (first_use vs name) → cond b (Some u.1) (first_use (us ++ vs) name) ≡ or_count (cond b (Some u.1) (first_use us name)) (first_use vs name)
    go true h = refl
    go false h = h

arity_known : (us : List (Word × ℕ)) (items : List Item) (name : List ℕ) → arity_in (operators_of us items) name ≡ cond (is_among (operators items) name) (Some (first_use us name)) None
arity_known us [] name = refl
arity_known us (StartItem w ∷ items) name = arity_known us items name
arity_known us (EntryItem n number ∷ items) name = go (bytes_eq n.bytes name) refl (arity_known us items name)
  where
    go : (b : Bool) → bytes_eq n.bytes name ≡ b → arity_in (operators_of us items) name ≡ cond (is_among (operators items) name) (Some (first_use us name)) None
        → cond b (Some (first_use us n.bytes)) (arity_in (operators_of us items) name) ≡ cond (b || is_among (operators items) name) (Some (first_use us name)) None
    go true e h = ap (λ x. Some (first_use us x)) ((bytes_eq-Decides n.bytes name).0 e)
    go false e h = h
arity_known us (CodeItem ∷ items) name = arity_known us items name
arity_known us (PercentsItem at ∷ items) name = arity_known us items name
arity_known us (RuleItem r ∷ items) name = arity_known us items name

pub wrong_unknown : (us earlier : List (Word × ℕ)) (items : List Item) (n : Word × ℕ) → arity_in (operators_of us items) n.0.bytes ≡ None → nat_lt 0 n.1 ≡ has_wrong_kids (operators items) (us ++ earlier) n
wrong_unknown us earlier items n h = go (is_among (operators items) n.0.bytes) (sym (arity_known us items n.0.bytes) ∙ h)
  where
    go : (b : Bool) → cond b (Some (first_use us n.0.bytes)) None ≡ None → nat_lt 0 n.1 ≡ cond b (nat_lt most_kids n.1 || differs (first_use (us ++ earlier) n.0.bytes) n.1) (nat_lt 0 n.1)
    go true e = absurd (cc)
    go false e = refl

pub wrong_known : (us earlier : List (Word × ℕ)) (items : List Item) (n : Word × ℕ) (a : Option ℕ) → arity_in (operators_of us items) n.0.bytes ≡ Some a
    → (nat_lt most_kids n.1 || differs (or_count a (first_use earlier n.0.bytes)) n.1) ≡ has_wrong_kids (operators items) (us ++ earlier) n
wrong_known us earlier items n a h = go (is_among (operators items) n.0.bytes) (sym (arity_known us items n.0.bytes) ∙ h)
  where
    go : (b : Bool) → cond b (Some (first_use us n.0.bytes)) None ≡ Some a
        → (nat_lt most_kids n.1 || differs (or_count a (first_use earlier n.0.bytes)) n.1) ≡ cond b (nat_lt most_kids n.1 || differs (first_use (us ++ earlier) n.0.bytes) n.1) (nat_lt 0 n.1)
    go true e = let s : first_use us n.0.bytes ≡ a = cc in
        ap (λ x. nat_lt most_kids n.1 || differs x n.1) (ap (λ x. or_count x (first_use earlier n.0.bytes)) (sym s) ∙ sym (first_use-append us earlier n.0.bytes))
    go false e = absurd (cc)

among-append : (names more : List (List ℕ)) (name : List ℕ) → is_among (names ++ more) name ≡ (is_among names name || is_among more name)
among-append [] more name = refl
among-append (n ∷ names) more name = go (bytes_eq n name) (among-append names more name)
  where
    go : (b : Bool) → is_among (names ++ more) name ≡ (is_among names name || is_among more name) → (b || is_among (names ++ more) name) ≡ ((b || is_among names name) || is_among more name)
    go true h = refl
    go false h = h

-- a name is among the names with words behind them where it is among either
pub among_words : (names : List (List ℕ)) (words : List Word) (name : List ℕ) → is_among (with_words names words) name ≡ (is_among names name || is_among (map (λ w. w.bytes) words) name)
among_words names [] name = or_none (is_among names name)
  where
    or_none : (b : Bool) → b ≡ (b || false)
    or_none true = refl
    or_none false = refl
among_words names (w ∷ words) name = go (is_among names w.bytes) refl (λ ns. among_words ns words name)
  where
    known : (x y z : Bool) → (y ≡ true → x ≡ true) → (x || z) ≡ (x || (y || z))
    known true y z h = refl
    known false true z h = absurd (let k : false ≡ true = h refl in cc)
    known false false z h = refl

    apart : (x y z : Bool) → ((x || (y || false)) || z) ≡ (x || (y || z))
    apart true y z = refl
    apart false true z = refl
    apart false false z = refl

    go : (b : Bool) → is_among names w.bytes ≡ b → ((ns : List (List ℕ)) → is_among (with_words ns words) name ≡ (is_among ns name || is_among (map (λ w. w.bytes) words) name))
        → is_among (with_words (cond b names (names ++ (w.bytes ∷ []))) words) name ≡ (is_among names name || (bytes_eq w.bytes name || is_among (map (λ w. w.bytes) words) name))
    go true e k = k names ∙ known (is_among names name) (bytes_eq w.bytes name) (is_among (map (λ w. w.bytes) words) name) (λ h. ap (is_among names) (sym ((bytes_eq-Decides w.bytes name).0 h)) ∙ e)
    go false e k = k (names ++ (w.bytes ∷ [])) ∙ ap (λ x. x || is_among (map (λ w. w.bytes) words) name) (among-append names (w.bytes ∷ []) name) ∙ apart (is_among names name) (bytes_eq w.bytes name) (is_among (map (λ w. w.bytes) words) name)

pub leaves-append : (ops : List (List ℕ)) (xs ys : List (Word × ℕ)) → leaves ops (xs ++ ys) ≡ leaves ops xs ++ leaves ops ys
leaves-append ops [] ys = refl
leaves-append ops (n ∷ xs) ys = go (eqb n.1 0 && not (is_among ops n.0.bytes)) (leaves-append ops xs ys)
  where
    go : (b : Bool) → leaves ops (xs ++ ys) ≡ leaves ops xs ++ leaves ops ys → cond b (n.0 ∷ leaves ops (xs ++ ys)) (leaves ops (xs ++ ys)) ≡ cond b (n.0 ∷ leaves ops xs) (leaves ops xs) ++ leaves ops ys
    go true h = ap (λ x. n.0 ∷ x) h
    go false h = h

-- the names behind the first i names of a pattern, and the leaves of those that are left
abbrev pub known_to : {X : Type 0} → (X → Word × ℕ) → List (List ℕ) → List (List ℕ) → Word → List X → ℕ → List (List ℕ)
known_to f ops nts left p i = with_words nts (left ∷ leaves ops (map f (take i p)))

abbrev pub leaves_from : {X : Type 0} → (X → Word × ℕ) → List (List ℕ) → List X → ℕ → List Word
leaves_from f ops p i = leaves ops (map f (drop i p))

pub record PastStep {X : Type 0} (f : X → Word × ℕ) (ops nts : List (List ℕ)) (left : Word) (p : List X) (i count : ℕ) : Type 0 where
  pub same : past_most (known_to f ops nts left p (i + 1)) (leaves_from f ops p (i + 1)) ≡ past_most (known_to f ops nts left p i) (leaves_from f ops p i)
  pub counted : count ≡ length (known_to f ops nts left p (i + 1))

known_more : {X : Type 0} (f : X → Word × ℕ) (ops nts : List (List ℕ)) (left : Word) (p : List X) (i : ℕ) (d : X) → i < length p
    → known_to f ops nts left p (i + 1) ≡ with_words (known_to f ops nts left p i) (leaves ops (f (get_or p i d) ∷ []))
known_more f ops nts left p i d h =
    ap (λ x. with_words nts (left ∷ leaves ops x)) (map_more f p i d h) ∙ ap (λ x. with_words nts (left ∷ x)) (leaves-append ops (map f (take i p)) (f (get_or p i d) ∷ []))
    ∙ with_words-append nts (left ∷ leaves ops (map f (take i p))) (leaves ops (f (get_or p i d) ∷ []))

left_more : {X : Type 0} (f : X → Word × ℕ) (ops : List (List ℕ)) (p : List X) (i : ℕ) (d : X) → i < length p
    → leaves_from f ops p i ≡ leaves ops (f (get_or p i d) ∷ map f (drop (i + 1) p))
left_more f ops p i d h = ap (λ x. leaves ops (map f x)) (let s : suc i ≡ i + 1 = omega arith in drop-cons p i d h ∙ ap (λ n. get_or p i d ∷ drop n p) s)

pub past_no_leaf : {X : Type 0} (f : X → Word × ℕ) (ops nts : List (List ℕ)) (left : Word) (p : List X) (i count : ℕ) (d : X) → i < length p
    → (eqb (f (get_or p i d)).1 0 && not (is_among ops (f (get_or p i d)).0.bytes)) ≡ false → count ≡ length (known_to f ops nts left p i) → PastStep f ops nts left p i count
past_no_leaf f ops nts left p i count d h e k =
    let n : known_to f ops nts left p (i + 1) ≡ known_to f ops nts left p i = known_more f ops nts left p i d h ∙ ap (λ b. with_words (known_to f ops nts left p i) (cond b ((f (get_or p i d)).0 ∷ []) [])) e in
    let l : leaves_from f ops p i ≡ leaves_from f ops p (i + 1) = left_more f ops p i d h ∙ ap (λ b. cond b ((f (get_or p i d)).0 ∷ leaves_from f ops p (i + 1)) (leaves_from f ops p (i + 1))) e in
    record { same = ap (λ x. past_most x (leaves_from f ops p (i + 1))) n ∙ ap (past_most (known_to f ops nts left p i)) (sym l); counted = k ∙ ap length (sym n) }

-- at a leaf
leaf_known : {X : Type 0} (f : X → Word × ℕ) (ops nts : List (List ℕ)) (left : Word) (p : List X) (i : ℕ) (d : X) (b : Bool) → i < length p
    → (eqb (f (get_or p i d)).1 0 && not (is_among ops (f (get_or p i d)).0.bytes)) ≡ true → is_among (known_to f ops nts left p i) (f (get_or p i d)).0.bytes ≡ b
    → known_to f ops nts left p (i + 1) ≡ cond b (known_to f ops nts left p i) (known_to f ops nts left p i ++ ((f (get_or p i d)).0.bytes ∷ []))
leaf_known f ops nts left p i d b h e k =
    known_more f ops nts left p i d h ∙ ap (λ b. with_words (known_to f ops nts left p i) (cond b ((f (get_or p i d)).0 ∷ []) [])) e
    ∙ ap (λ b. cond b (known_to f ops nts left p i) (known_to f ops nts left p i ++ ((f (get_or p i d)).0.bytes ∷ []))) k

leaf_left : {X : Type 0} (f : X → Word × ℕ) (ops : List (List ℕ)) (p : List X) (i : ℕ) (d : X) → i < length p
    → (eqb (f (get_or p i d)).1 0 && not (is_among ops (f (get_or p i d)).0.bytes)) ≡ true → leaves_from f ops p i ≡ (f (get_or p i d)).0 ∷ leaves_from f ops p (i + 1)
leaf_left f ops p i d h e = left_more f ops p i d h ∙ ap (λ b. cond b ((f (get_or p i d)).0 ∷ leaves_from f ops p (i + 1)) (leaves_from f ops p (i + 1))) e

pub past_known : {X : Type 0} (f : X → Word × ℕ) (ops nts : List (List ℕ)) (left : Word) (p : List X) (i count : ℕ) (d : X) → i < length p
    → (eqb (f (get_or p i d)).1 0 && not (is_among ops (f (get_or p i d)).0.bytes)) ≡ true → is_among (known_to f ops nts left p i) (f (get_or p i d)).0.bytes ≡ true
    → count ≡ length (known_to f ops nts left p i) → PastStep f ops nts left p i count
past_known f ops nts left p i count d h e a k =
    let n = leaf_known f ops nts left p i d true h e a in
    let w = (f (get_or p i d)).0 in
    record {
      same = ap (λ x. past_most x (leaves_from f ops p (i + 1))) n
          ∙ sym (ap (past_most (known_to f ops nts left p i)) (leaf_left f ops p i d h e)
          ∙ ap (λ b. cond b (past_most (known_to f ops nts left p i) (leaves_from f ops p (i + 1))) (cond (nat_le most_nonterminals (length (known_to f ops nts left p i))) (Some w.at) (past_most (known_to f ops nts left p i ++ (w.bytes ∷ [])) (leaves_from f ops p (i + 1))))) a);
      counted = k ∙ ap length (sym n);
    }

past_new_is : {X : Type 0} (f : X → Word × ℕ) (ops nts : List (List ℕ)) (left : Word) (p : List X) (i : ℕ) (d : X) (t : Bool) → i < length p
    → (eqb (f (get_or p i d)).1 0 && not (is_among ops (f (get_or p i d)).0.bytes)) ≡ true → is_among (known_to f ops nts left p i) (f (get_or p i d)).0.bytes ≡ false
    → nat_le most_nonterminals (length (known_to f ops nts left p i)) ≡ t
    → past_most (known_to f ops nts left p i) (leaves_from f ops p i) ≡ cond t (Some (f (get_or p i d)).0.at) (past_most (known_to f ops nts left p i ++ ((f (get_or p i d)).0.bytes ∷ [])) (leaves_from f ops p (i + 1)))
past_new_is f ops nts left p i d t h e a g =
    let w = (f (get_or p i d)).0 in
    ap (past_most (known_to f ops nts left p i)) (leaf_left f ops p i d h e)
    ∙ ap (λ b. cond b (past_most (known_to f ops nts left p i) (leaves_from f ops p (i + 1))) (cond (nat_le most_nonterminals (length (known_to f ops nts left p i))) (Some w.at) (past_most (known_to f ops nts left p i ++ (w.bytes ∷ [])) (leaves_from f ops p (i + 1))))) a
    ∙ ap (λ b. cond b (Some w.at) (past_most (known_to f ops nts left p i ++ (w.bytes ∷ [])) (leaves_from f ops p (i + 1)))) g

pub past_new : {X : Type 0} (f : X → Word × ℕ) (ops nts : List (List ℕ)) (left : Word) (p : List X) (i count : ℕ) (d : X) → i < length p
    → (eqb (f (get_or p i d)).1 0 && not (is_among ops (f (get_or p i d)).0.bytes)) ≡ true → is_among (known_to f ops nts left p i) (f (get_or p i d)).0.bytes ≡ false
    → count ≡ length (known_to f ops nts left p i) → count < most_nonterminals → PastStep f ops nts left p i (count + 1)
past_new f ops nts left p i count d h e a k few =
    let n = leaf_known f ops nts left p i d false h e a in
    let t : nat_le most_nonterminals (length (known_to f ops nts left p i)) ≡ false = (let s : nat_le most_nonterminals count ≡ false = grind (arith, few) in ap (nat_le most_nonterminals) (sym k) ∙ s) in
    record {
      same = ap (λ x. past_most x (leaves_from f ops p (i + 1))) n ∙ sym (past_new_is f ops nts left p i d false h e a t);
      counted = ap (λ c. c + 1) k ∙ sym (ap length n ∙ length-append (known_to f ops nts left p i) ((f (get_or p i d)).0.bytes ∷ []));
    }

pub past_full : {X : Type 0} (f : X → Word × ℕ) (ops nts : List (List ℕ)) (left : Word) (p : List X) (i count : ℕ) (d : X) (whole : Option ℕ) → i < length p
    → (eqb (f (get_or p i d)).1 0 && not (is_among ops (f (get_or p i d)).0.bytes)) ≡ true → is_among (known_to f ops nts left p i) (f (get_or p i d)).0.bytes ≡ false
    → count ≡ length (known_to f ops nts left p i) → most_nonterminals ≤ count → past_most (known_to f ops nts left p i) (leaves_from f ops p i) ≡ whole → Some (f (get_or p i d)).0.at ≡ whole
past_full f ops nts left p i count d whole h e a k many s =
    let t : nat_le most_nonterminals (length (known_to f ops nts left p i)) ≡ true = (let s : nat_le most_nonterminals count ≡ true = grind (arith, many) in ap (nat_le most_nonterminals) (sym k) ∙ s) in
    sym (past_new_is f ops nts left p i d true h e a t) ∙ s

pub from_not_false : (b : Bool) → not b ≡ false → b ≡ true
from_not_false true h = refl
from_not_false false h = absurd (cc)

pub from_not_true : (b : Bool) → not b ≡ true → b ≡ false
from_not_true false h = refl
from_not_true true h = absurd (cc)
