-- The pattern that a tree of names builds is printed as the tree.
use Rattle.std.proofs.Common.{◌≡◌, ℕ, suc, ◌<◌, List, [], ◌∷◌, ◌++◌, length, ap, sym, ◌∙◌, arith, append-nil, map}
use Rattle.sel_grammar_text.specs.Items.{Word}
use Rattle.sel_grammar_text.specs.Form.{Patterns, below}
use Rattle.sel_grammar_text.specs.Patterns.{built_to, built, numbered, pattern_of}
use Rattle.sel_grammar_text.specs.Printing.{printed_pattern}
use Rattle.sel_grammar_text.specs.SaidForms.{plain_names, kid_count, preorder}
use Rattle.sel_grammar_text.proofs.NamedPatterns.{patterns_text}
use Rattle.sel_grammar_text.proofs.PatternTexts.{tree_builds, numbered_plain, NodesFit, numbered_so}

-- the pattern of a rule, by its names in preorder
pub pattern_prints : (ops nts : List (List ℕ)) (names : List (Word × ℕ)) (n : List ℕ) (kids : Patterns) → plain_names names ≡ (n, kid_count kids) ∷ preorder kids → NodesFit ops nts ((n, kid_count kids) ∷ preorder kids)
    → printed_pattern ops nts (pattern_of ops nts names) ≡ n ++ patterns_text below kids
pattern_prints ops nts names n kids e f =
    let all = map (numbered_plain ops nts) ((n, kid_count kids) ∷ preorder kids) in
    let b = tree_builds ops nts n kids (length all) [] f (size (numbered_plain ops nts) (preorder kids)) in
    let same : map (numbered ops nts) names ≡ all = numbered_so ops nts names ∙ ap (map (numbered_plain ops nts)) e in
    ap (λ x. printed_pattern ops nts (built x).0) same
    ∙ ap (λ x. printed_pattern ops nts (built_to (length all) x).0) (sym (append-nil all))
    ∙ ap (λ x. printed_pattern ops nts x.0) b.is_built ∙ b.prints
  where
    size : {A B : Type 0} (f : A → B) (xs : List A) → length xs < suc (length (map f xs))
    size f [] = omega arith
    size f (x ∷ xs) = omega (arith, size f xs)
