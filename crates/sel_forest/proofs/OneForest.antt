-- A text spells one forest.
use Rattle.std.proofs.Common.{◌≡◌, ℕ, suc, zero, ◌<◌, ◌⊎◌, inl, inr, List, [], ◌∷◌, ◌++◌, Option, Some, None, refl, ap, sym, ◌∙◌, subst, arith, length, append_assoc, append-nil}
use Rattle.sel_grammar.specs.declared.grammar.Attribute.{Attribute}
use Rattle.sel_grammar.specs.declared.grammar.Attribute.TheVariants as attribute
use Rattle.sel_grammar.specs.declared.grammar.Grammar.{Grammar}
use Rattle.sel_grammar.specs.PlainTrees.{PlainTree, Node1, Node2}
use Rattle.sel_forest.specs.declared.forest.Tree.{Tree}
use Rattle.sel_forest.specs.Postorder.{postorder}
use Rattle.sel_forest.specs.Tokens.{Token, Name, Number, Symbol, Open, Comma, Close, End, Spot, start, token_at, behind, first, IsCutInto}
use Rattle.sel_forest.specs.Form.{Trees, no_trees, tree, below, attribute_tokens, IsAttributeToken, AreTrees, tokens_of, IsLine, blank, one_tree}
use Rattle.sel_forest.specs.TreeText.{operator_number, SpellsAttribute, no_attribute, a_number, a_symbol, SpellsTree, no_kids, one_kid, two_kids}
use Rattle.sel_forest.specs.OpenNodes.{Opened, Fresh, Half, Full, whole, opened_from, opened}
use Rattle.sel_forest.specs.Machine.{step, run, go}
use Rattle.sel_forest.specs.declared.line.State.{State}
use Rattle.sel_forest.specs.declared.line.State.TheVariants.{Start, Ended}
use Rattle.sel_forest.specs.ForestText.{SpellsLine, IsBlankLine, LinesSpell, no_lines, blank_line, tree_line, lines_of}
use Rattle.sel_forest.specs.Laws.{ForestIsOne}
use Rattle.sel_forest.proofs.Viable.{complete}

-- A tree's tokens are of the form.
pub record HasForm (ts : List Token) : Type 0 where
  pub n : List ℕ
  pub a : Option Token
  pub kids : Trees
  pub attribute : IsAttributeToken a
  pub trees : AreTrees kids
  pub tokens : ts ≡ Name n ∷ (attribute_tokens a ++ tokens_of below kids)

attribute_form : (xs : List Token) (x : Attribute) → SpellsAttribute xs x → (a : Option Token) × IsAttributeToken a × (xs ≡ attribute_tokens a)
attribute_form _ _ no_attribute = (None, tt, refl)
attribute_form _ _ (a_number bytes) = (Some (Number bytes), tt, refl)
attribute_form _ _ (a_symbol bytes) = (Some (Symbol bytes), tt, refl)

one_glue : (n m : List ℕ) (xs a ts b k : List Token) → xs ≡ a → ts ≡ Name m ∷ (b ++ k) → Name n ∷ (xs ++ (Open ∷ (ts ++ (Close ∷ [])))) ≡ Name n ∷ (a ++ (Open ∷ Name m ∷ (b ++ (k ++ (Close ∷ [])))))
one_glue n m xs a ts b k e f = simp (e, f, append_assoc) refl

two_glue : (n m l : List ℕ) (xs a ts b k us c j : List Token) → xs ≡ a → ts ≡ Name m ∷ (b ++ k) → us ≡ Name l ∷ (c ++ j)
    → Name n ∷ (xs ++ (Open ∷ (ts ++ (Comma ∷ (us ++ (Close ∷ [])))))) ≡ Name n ∷ (a ++ (Open ∷ Name m ∷ (b ++ (k ++ ((Comma ∷ Name l ∷ (c ++ (j ++ []))) ++ (Close ∷ []))))))
two_glue n m l xs a ts b k us c j e f g = simp (e, f, g, append_assoc, append-nil) refl

tree_form : (g : Grammar) (ts : List Token) (t : PlainTree) → SpellsTree g ts t → HasForm ts
tree_form g _ _ (no_kids n a xs s) =
    let f = attribute_form xs a s in
    record { n = n; a = f.0; kids = no_trees; attribute = f.1; trees = tt; tokens = ap (λ ys. Name n ∷ ys) (f.2 ∙ sym (append-nil (attribute_tokens f.0))) }
tree_form g _ _ (one_kid n a xs ts t s h) =
    let f = attribute_form xs a s in
    let k = tree_form g ts t h in
    record {
      n = n;
      a = f.0;
      kids = tree k.n k.a k.kids no_trees;
      attribute = f.1;
      trees = (k.attribute, k.trees, tt);
      tokens = one_glue n k.n xs (attribute_tokens f.0) ts (attribute_tokens k.a) (tokens_of below k.kids) f.2 k.tokens;
    }
tree_form g _ _ (two_kids n a xs ts us t u s h h') =
    let f = attribute_form xs a s in
    let k = tree_form g ts t h in
    let l = tree_form g us u h' in
    record {
      n = n;
      a = f.0;
      kids = tree k.n k.a k.kids (tree l.n l.a l.kids no_trees);
      attribute = f.1;
      trees = (k.attribute, k.trees, (l.attribute, l.trees, tt));
      tokens = two_glue n k.n l.n xs (attribute_tokens f.0) ts (attribute_tokens k.a) (tokens_of below k.kids) us (attribute_tokens l.a) (tokens_of below l.kids) f.2 k.tokens l.tokens;
    }

end_glue : (n : List ℕ) (a k ts : List Token) → ts ≡ Name n ∷ (a ++ k) → Name n ∷ (a ++ (k ++ (End ∷ []))) ≡ ts ++ (End ∷ [])
end_glue n a k ts e = simp (e, append_assoc) refl

pub tree_line_form : (g : Grammar) (ts : List Token) (t : PlainTree) → SpellsTree g ts t → IsLine (ts ++ (End ∷ []))
tree_line_form g ts t h =
    let f = tree_form g ts t h in
    subst IsLine (end_glue f.n (attribute_tokens f.a) (tokens_of below f.kids) ts f.tokens) (one_tree f.n f.a f.kids f.attribute f.trees)

-- What a tree's tokens open is the tree.
opens_attribute : (g : Grammar) (op : ℕ) (os : List Opened) (xs k : List Token) (x : Attribute) → SpellsAttribute xs x → opened_from g (Fresh op attribute.Absent ∷ os) (xs ++ k) ≡ opened_from g (Fresh op x ∷ os) k
opens_attribute g op os _ k _ no_attribute = refl
opens_attribute g op os _ k _ (a_number bytes) = refl
opens_attribute g op os _ k _ (a_symbol bytes) = refl

abbrev Opens : Grammar → List Token → PlainTree → Type 0
Opens g ts t = (os : List Opened) (k : List Token) → (o : Opened) × (whole o ≡ t) × (opened_from g os (ts ++ k) ≡ opened_from g (o ∷ os) k)

opens_tree : (g : Grammar) (ts : List Token) (t : PlainTree) → SpellsTree g ts t → Opens g ts t
opens_tree g _ _ (no_kids n a xs s) os k = (Fresh (operator_number g n) a, refl, opens_attribute g (operator_number g n) os xs k a s)
opens_tree g _ _ (one_kid n a xs ts t s h) os k =
    let op = operator_number g n in
    let x = opens_tree g ts t h (Fresh op a ∷ os) (Close ∷ k) in (
      Half op a (whole x.0),
      ap (Node1 op a) x.1,
      ap (opened_from g (Fresh op attribute.Absent ∷ os)) (one_kid_glue xs ts k) ∙ opens_attribute g op os xs (Open ∷ (ts ++ (Close ∷ k))) a s ∙ x.2,
    )
  where
    one_kid_glue : (xs ts k : List Token) → (xs ++ (Open ∷ (ts ++ (Close ∷ [])))) ++ k ≡ xs ++ (Open ∷ (ts ++ (Close ∷ k)))
    one_kid_glue xs ts k = simp append_assoc refl
opens_tree g _ _ (two_kids n a xs ts us t u s h h') os k =
    let op = operator_number g n in
    let x = opens_tree g ts t h (Fresh op a ∷ os) (Comma ∷ (us ++ (Close ∷ k))) in
    let y = opens_tree g us u h' (Half op a (whole x.0) ∷ os) (Close ∷ k) in (
      Full op a (whole x.0) (whole y.0),
      ap (λ v. Node2 op a v (whole y.0)) x.1 ∙ ap (Node2 op a t) y.1,
      ap (opened_from g (Fresh op attribute.Absent ∷ os)) (two_kids_glue xs ts us k) ∙ opens_attribute g op os xs (Open ∷ (ts ++ (Comma ∷ (us ++ (Close ∷ k))))) a s ∙ x.2 ∙ y.2,
    )
  where
    two_kids_glue : (xs ts us k : List Token) → (xs ++ (Open ∷ (ts ++ (Comma ∷ (us ++ (Close ∷ [])))))) ++ k ≡ xs ++ (Open ∷ (ts ++ (Comma ∷ (us ++ (Close ∷ k)))))
    two_kids_glue xs ts us k = simp append_assoc refl

-- A line is whole at one number of tokens.
pub beyond : (j k : ℕ) (p : Spot) (s : State) → run (first j p) s ≡ Some Ended → j < k → run (first k p) s ≡ None
beyond j zero p s h lt = absurd (omega arith)
beyond zero (suc k) p s h lt = let e : s ≡ Ended = cc in ap (run (first (suc k) p)) e
beyond (suc j) (suc k) p s h lt = go' (step s (token_at p)) h (λ u e. beyond j k (behind p) u e (omega arith))
  where
    go' : (o : Option State) → go (run (first j (behind p))) o ≡ Some Ended → ((u : State) → run (first j (behind p)) u ≡ Some Ended → run (first k (behind p)) u ≡ None) → go (run (first k (behind p))) o ≡ None
    go' None h ih = refl
    go' (Some u) h ih = ih u h

not_before : (j k : ℕ) (line : List ℕ) → IsLine (first j (start line)) → IsLine (first k (start line)) → j < k → ⊥
not_before j k line h h' lt =
    let e : None ≡ Some Ended = sym (beyond j k (start line) Start (complete (first j (start line)) h) lt) ∙ complete (first k (start line)) h' in cc

pub whole_once : (j k : ℕ) (line : List ℕ) → IsLine (first j (start line)) → IsLine (first k (start line)) → j ≡ k
whole_once j k line h h' = go' (order j k)
  where
    order : (j k : ℕ) → (j < k) ⊎ ((k < j) ⊎ (j ≡ k))
    order j k = grind arith

    go' : (j < k) ⊎ ((k < j) ⊎ (j ≡ k)) → j ≡ k
    go' (inl lt) = absurd (not_before j k line h h' lt)
    go' (inr (inl lt)) = absurd (not_before k j line h' h lt)
    go' (inr (inr e)) = e

-- the tokens before a line's end are one list
same_cut : (line : List ℕ) (ts us : List Token) → IsCutInto line ts → IsLine (ts ++ (End ∷ [])) → IsCutInto line us → IsLine (us ++ (End ∷ [])) → ts ++ (End ∷ []) ≡ us ++ (End ∷ [])
same_cut line ts us h l h' l' =
    let e : suc (length ts) ≡ suc (length us) = whole_once (suc (length ts)) (suc (length us)) line (subst IsLine (sym h) l) (subst IsLine (sym h') l') in
    sym h ∙ ap (λ n. first n (start line)) e ∙ h'

line_opens : (g : Grammar) (ts : List Token) (t : PlainTree) → SpellsTree g ts t → (o : Opened) × (whole o ≡ t) × (opened g (ts ++ (End ∷ [])) ≡ o ∷ [])
line_opens g ts t h = opens_tree g ts t h [] (End ∷ [])

tree_once : (g : Grammar) (ts us : List Token) (t u : PlainTree) → ts ++ (End ∷ []) ≡ us ++ (End ∷ []) → SpellsTree g ts t → SpellsTree g us u → t ≡ u
tree_once g ts us t u e h h' =
    let x = line_opens g ts t h in
    let y = line_opens g us u h' in
    let q : x.0 ∷ [] ≡ y.0 ∷ [] = sym x.2 ∙ ap (opened g) e ∙ y.2 in
    let same : x.0 ≡ y.0 = cc in
    sym x.1 ∙ ap whole same ∙ y.1

pub line_once : (g : Grammar) (line : List ℕ) (made other : Tree) → SpellsLine g line made → SpellsLine g line other → made ≡ other
line_once g line made other h h' =
    let e = same_cut line h.tokens h'.tokens h.cut (tree_line_form g h.tokens h.valid.plain h.spells) h'.cut (tree_line_form g h'.tokens h'.valid.plain h'.spells) in
    let same : h.valid.plain ≡ h'.valid.plain = tree_once g h.tokens h'.tokens h.valid.plain h'.valid.plain e h.spells h'.spells in
    let nodes : made.nodes ≡ other.nodes = h.valid.postorder ∙ ap (postorder 0) same ∙ sym h'.valid.postorder in
    λ i. record { nodes = nodes i }

some_token : (g : Grammar) (ts : List Token) (t : PlainTree) → SpellsTree g ts t → 0 < length ts
some_token g _ _ (no_kids n a xs s) = omega arith
some_token g _ _ (one_kid n a xs ts t s h) = omega arith
some_token g _ _ (two_kids n a xs ts us t u s h h') = omega arith

pub not_blank : (g : Grammar) (line : List ℕ) (made : Tree) → SpellsLine g line made → IsBlankLine line → ⊥
not_blank g line made h b =
    let e : suc (length h.tokens) ≡ 1 = whole_once (suc (length h.tokens)) 1 line (subst IsLine (sym h.cut) (tree_line_form g h.tokens h.valid.plain h.spells)) (subst IsLine (sym b) blank) in
    let some = some_token g h.tokens h.valid.plain h.spells in
    omega arith

pub lines_once : (g : Grammar) (lines : List (List ℕ)) (trees trees' : List Tree) → LinesSpell g lines trees → LinesSpell g lines trees' → trees ≡ trees'
lines_once g _ _ _ no_lines no_lines = refl
lines_once g _ trees trees' (blank_line line lines _ h r) (blank_line _ _ _ h' r') = lines_once g lines trees trees' r r'
lines_once g _ trees _ (blank_line line lines _ h r) (tree_line _ _ other trees' h' r') = absurd (not_blank g line other h' h)
lines_once g _ _ trees' (tree_line line lines made trees h r) (blank_line _ _ _ h' r') = absurd (not_blank g line made h h')
lines_once g _ _ _ (tree_line line lines made trees h r) (tree_line _ _ other trees' h' r') =
    ap (λ x. x ∷ trees) (line_once g line made other h h') ∙ ap (λ x. other ∷ x) (lines_once g lines trees trees' r r')

pub forest_one : ForestIsOne
forest_one g bytes f h s s' = let e : f.trees ≡ h.trees = lines_once g (lines_of bytes) f.trees h.trees s.lines s'.lines in λ i. record { trees = e i }
