-- A tree of names builds a pattern.
use denote.Hole.Carrier.{hidden}
use Rattle.std.proofs.Common.{◌≡◌, ℕ, List, ◌++◌, refl, ap, sym, ◌∙◌, append_assoc, suc, zero, ◌+◌, ◌≤◌, ◌<◌, [], ◌∷◌, Bool, true, false, length, arith, cond, ◌||◌, ◌⊎◌, append-nil, length-append, inl, inr, map}
use Rattle.std.specs.Prelude.{codes, bytes_eq, not}
use Rattle.std.proofs.lemmas.List.{map-append}
use Rattle.std.proofs.lemmas.Slice.Eq.{bytes_eq-Decides}
use Rattle.std.proofs.Math.Numerals.{one-add}
use Rattle.sqlite_items.specs.declared.boxed.Boxed.{Boxed}
use Rattle.sel_grammar.specs.declared.grammar.Pattern.{Pattern, Unary, Binary, Leaf, Nullary}
use Rattle.sel_grammar.specs.declared.grammar.Pattern.TheBlock.{shape-the_row-Pattern-0, hidden-the_row-Pattern-0}
use Rattle.sel_grammar_text.specs.Printing.{name_at, printed_pattern}
use Rattle.sel_grammar_text.specs.declared.pattern.PatternName.{PatternName}
use Rattle.sel_grammar_text.specs.declared.pattern.PatternName.TheVariants.{Nonterminal, Operator}
use Rattle.sel_grammar_text.specs.Items.{Word}
use Rattle.sel_grammar_text.specs.Names.{is_among, number_of}
use Rattle.sel_grammar_text.specs.Form.{Patterns, no_patterns, pattern, below}
use Rattle.sel_grammar_text.specs.Patterns.{built_to, numbered}
use Rattle.sel_grammar_text.proofs.NamedPatterns.{patterns_text}
use Rattle.sel_grammar_text.proofs.FormItems.{plain_names, kid_count, preorder}

-- patterns with kids, whose kids stand behind boxes
pub printed_unary : (ops nts : List (List ℕ)) (op : ℕ) (kid : Boxed Pattern) → printed_pattern ops nts (Unary op kid) ≡ name_at ops op ++ (codes "(" ++ (printed_pattern ops nts kid ++ codes ")"))
unfolding shape-the_row-Pattern-0 hidden-the_row-Pattern-0 hidden
printed_unary ops nts op kid = refl

pub printed_binary : (ops nts : List (List ℕ)) (op : ℕ) (left right : Boxed Pattern)
    → printed_pattern ops nts (Binary op left right) ≡ name_at ops op ++ (codes "(" ++ (printed_pattern ops nts left ++ (codes "," ++ (printed_pattern ops nts right ++ codes ")"))))
unfolding shape-the_row-Pattern-0 hidden-the_row-Pattern-0 hidden
printed_binary ops nts op left right = refl

pub same_bytes : (x y : List ℕ) → bytes_eq x y ≡ true → x ≡ y
same_bytes x y h = (bytes_eq-Decides x y).0 h

pub bytes_same : (x : List ℕ) → bytes_eq x x ≡ true
bytes_same x = (bytes_eq-Decides x x).1 refl

-- a name's number leads back to it
pub name_number : (names : List (List ℕ)) (b : List ℕ) → is_among names b ≡ true → name_at names (number_of names b) ≡ b
name_number [] b h = cc
name_number (x ∷ names) b h = first (bytes_eq x b) refl h (name_number names b)
  where
    first : (t : Bool) → bytes_eq x b ≡ t → (t || is_among names b) ≡ true → (is_among names b ≡ true → name_at names (number_of names b) ≡ b) → name_at (x ∷ names) (cond (not t) (1 + number_of names b) 0) ≡ b
    first true e k r = same_bytes x b e
    first false e k r = ap (name_at (x ∷ names)) (one-add (number_of names b)) ∙ r k

-- the name by its number
abbrev pub numbered_plain : List (List ℕ) → List (List ℕ) → List ℕ × ℕ → PatternName
numbered_plain ops nts p = cond (is_among ops p.0) (Operator (number_of ops p.0) p.1) (Nonterminal (number_of nts p.0))

pub numbered_so : (ops nts : List (List ℕ)) (names : List (Word × ℕ)) → map (numbered ops nts) names ≡ map (numbered_plain ops nts) (plain_names names)
numbered_so ops nts [] = refl
numbered_so ops nts (w ∷ names) = ap (λ x. numbered ops nts w ∷ x) (numbered_so ops nts names)

-- an operator with at most two kids, or a nonterminal without any
abbrev pub NodeFits : List (List ℕ) → List (List ℕ) → List ℕ × ℕ → Type 0
NodeFits ops nts p = ((is_among ops p.0 ≡ true) × (p.1 ≤ 2)) ⊎ ((is_among ops p.0 ≡ false) × ((p.1 ≡ 0) × (is_among nts p.0 ≡ true)))

abbrev pub NodesFit : List (List ℕ) → List (List ℕ) → List (List ℕ × ℕ) → Type 0
NodesFit ops nts [] = Unit {0}
NodesFit ops nts (p ∷ ps) = NodeFits ops nts p × NodesFit ops nts ps

fit-split : (ops nts : List (List ℕ)) (xs ys : List (List ℕ × ℕ)) → NodesFit ops nts (xs ++ ys) → NodesFit ops nts xs × NodesFit ops nts ys
fit-split ops nts [] ys h = (tt, h)
fit-split ops nts (x ∷ xs) ys h = let r = fit-split ops nts xs ys h.1 in ((h.0, r.0), r.1)

nullary_built : (m op : ℕ) (more : List PatternName) → built_to (suc m) (Operator op 0 ∷ more) ≡ (Nullary op, more)
nullary_built m op more = refl

unary_built : (m op : ℕ) (names more : List PatternName) (p : Pattern) → built_to m names ≡ (p, more) → built_to (suc m) (Operator op 1 ∷ names) ≡ (Unary op p, more)
unary_built m op names more p h = ap (λ x. (Unary op x.0, x.1)) h

binary_built : (m op : ℕ) (names mid more : List PatternName) (p q : Pattern) → built_to m names ≡ (p, mid) → built_to m mid ≡ (q, more) → built_to (suc m) (Operator op 2 ∷ names) ≡ (Binary op p q, more)
binary_built m op names mid more p q h k = ap (λ x. (Binary op x.0 (built_to m x.1).0, (built_to m x.1).1)) h ∙ ap (λ y. (Binary op p y.0, y.1)) k

length-front : (xs ys : List (List ℕ × ℕ)) → length (xs ++ ys) ≡ length xs + length ys
length-front xs ys = length-append xs ys

joined : (n a x b y : List ℕ) → n ++ (codes "(" ++ ((a ++ x) ++ (codes "," ++ ((b ++ y) ++ codes ")")))) ≡ n ++ (40 ∷ (a ++ (x ++ ((44 ∷ (b ++ (y ++ []))) ++ (41 ∷ [])))))
joined n a x b y = simp (append_assoc, append-nil) refl

module _ (ops nts : List (List ℕ)) where
  abbrev plain : List (List ℕ × ℕ) → List PatternName
  plain ps = map (numbered_plain ops nts) ps

  operator_is : (b : List ℕ) (k : ℕ) → is_among ops b ≡ true → numbered_plain ops nts (b, k) ≡ Operator (number_of ops b) k
  operator_is b k h = ap (λ t. cond t (Operator (number_of ops b) k) (Nonterminal (number_of nts b))) h

  nonterminal_is : (b : List ℕ) (k : ℕ) → is_among ops b ≡ false → numbered_plain ops nts (b, k) ≡ Nonterminal (number_of nts b)
  nonterminal_is b k h = ap (λ t. cond t (Operator (number_of ops b) k) (Nonterminal (number_of nts b))) h

  pub record Builds (m : ℕ) (names more : List PatternName) (text : List ℕ) : Type 0 where
    pub it : Pattern
    pub is_built : built_to m names ≡ (it, more)
    pub prints : printed_pattern ops nts it ≡ text

  split_plain : (x : List ℕ × ℕ) (xs ys : List (List ℕ × ℕ)) (more : List PatternName) → plain (x ∷ (xs ++ ys)) ++ more ≡ numbered_plain ops nts x ∷ (plain xs ++ (plain ys ++ more))
  split_plain x xs ys more = ap (λ l. numbered_plain ops nts x ∷ (l ++ more)) (map-append (numbered_plain ops nts) xs ys) ∙ ap (λ l. numbered_plain ops nts x ∷ l) (append_assoc (plain xs) (plain ys) more)

  pub tree_builds : (n : List ℕ) (kids : Patterns) (m : ℕ) (more : List PatternName) → NodesFit ops nts ((n, kid_count kids) ∷ preorder kids) → length (preorder kids) < m
      → Builds m (numbered_plain ops nts (n, kid_count kids) ∷ (plain (preorder kids) ++ more)) more (n ++ patterns_text below kids)
  tree_builds n kids zero more (f, g) h = absurd (omega arith)
  tree_builds n no_patterns (suc m) more (inl f, g) h = record {
    it = Nullary (number_of ops n);
    is_built = ap (λ x. built_to (suc m) (x ∷ more)) (operator_is n 0 f.0);
    prints = name_number ops n f.0 ∙ sym (append-nil n);
  }
  tree_builds n no_patterns (suc m) more (inr f, g) h = record {
    it = Leaf (number_of nts n);
    is_built = ap (λ x. built_to (suc m) (x ∷ more)) (nonterminal_is n 0 f.0);
    prints = name_number nts n f.1.1 ∙ sym (append-nil n);
  }
  tree_builds n (pattern a ka more_kids) (suc m) more (inr f, g) h = let z : 1 + kid_count more_kids ≡ 0 = f.1.0 in absurd (omega (arith, z))
  tree_builds n (pattern a ka no_patterns) (suc m) more (inl f, g) h =
      let parts = fit-split ops nts (preorder ka) [] g.1 in
      let one = tree_builds a ka m more (g.0, parts.0) (omega (arith, h, length-front (preorder ka) [])) in
      let names = numbered_plain ops nts (a, kid_count ka) ∷ (plain (preorder ka) ++ more) in
      record {
        it = Unary (number_of ops n) one.it;
        is_built = ap (λ x. built_to (suc m) (x ∷ (plain ((a, kid_count ka) ∷ (preorder ka ++ [])) ++ more))) (operator_is n 1 f.0)
            ∙ ap (λ x. built_to (suc m) (Operator (number_of ops n) 1 ∷ x)) (split_plain (a, kid_count ka) (preorder ka) [] more) ∙ unary_built m (number_of ops n) names more one.it one.is_built;
        prints = printed_unary ops nts (number_of ops n) one.it ∙ ap (λ x. x ++ (codes "(" ++ (printed_pattern ops nts one.it ++ codes ")"))) (name_number ops n f.0)
            ∙ ap (λ x. n ++ (codes "(" ++ (x ++ codes ")"))) one.prints ∙ ap (λ x. n ++ (codes "(" ++ x)) (append_assoc a (patterns_text below ka) (codes ")"));
      }
  tree_builds n (pattern a ka (pattern b kb no_patterns)) (suc m) more (inl f, g) h =
      let second = (b, kid_count kb) ∷ (preorder kb ++ []) in
      let parts = fit-split ops nts (preorder ka) second g.1 in
      let parts' = fit-split ops nts (preorder kb) [] parts.1.1 in
      let mid = numbered_plain ops nts (b, kid_count kb) ∷ (plain (preorder kb) ++ more) in
      let size = length-front (preorder ka) second in
      let size' = length-front (preorder kb) [] in
      let one = tree_builds a ka m mid (g.0, parts.0) (omega (arith, h, size)) in
      let two = tree_builds b kb m more (parts.1.0, parts'.0) (omega (arith, h, size, size')) in
      let names = numbered_plain ops nts (a, kid_count ka) ∷ (plain (preorder ka) ++ mid) in
      record {
        it = Binary (number_of ops n) one.it two.it;
        is_built = ap (λ x. built_to (suc m) (x ∷ (plain ((a, kid_count ka) ∷ (preorder ka ++ second)) ++ more))) (operator_is n 2 f.0)
            ∙ ap (λ x. built_to (suc m) (Operator (number_of ops n) 2 ∷ x)) (split_plain (a, kid_count ka) (preorder ka) second more
            ∙ ap (λ x. numbered_plain ops nts (a, kid_count ka) ∷ (plain (preorder ka) ++ x)) (split_plain (b, kid_count kb) (preorder kb) [] more))
            ∙ binary_built m (number_of ops n) names mid more one.it two.it one.is_built two.is_built;
        prints = printed_binary ops nts (number_of ops n) one.it two.it ∙ ap (λ x. x ++ (codes "(" ++ (printed_pattern ops nts one.it ++ (codes "," ++ (printed_pattern ops nts two.it ++ codes ")"))))) (name_number ops n f.0)
            ∙ ap (λ x. n ++ (codes "(" ++ (x ++ (codes "," ++ (printed_pattern ops nts two.it ++ codes ")"))))) one.prints
            ∙ ap (λ x. n ++ (codes "(" ++ ((a ++ patterns_text below ka) ++ (codes "," ++ (x ++ codes ")"))))) two.prints
            ∙ joined n a (patterns_text below ka) b (patterns_text below kb);
      }
  tree_builds n (pattern a ka (pattern b kb (pattern c kc rest))) (suc m) more (inl f, g) h = let z : 1 + (1 + (1 + kid_count rest)) ≤ 2 = f.1 in absurd (omega (arith, z))
