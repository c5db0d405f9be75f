-- What is put piece by piece.
use Rattle.std.proofs.Common.{◌≡◌, ℕ, List, ◌++◌, refl, ap, sym, ◌∙◌, append_assoc}
use Rattle.std.specs.Prelude.{codes}
use Rattle.std.specs.List.{flat_map}
use Rattle.sqlite_items.specs.declared.boxed.Boxed.{Boxed}
use Rattle.sel_grammar.specs.declared.grammar.Grammar.{Grammar}
use Rattle.sel_grammar.specs.declared.grammar.Pattern.{Pattern, Unary, Binary}
use Rattle.sel_grammar_text.specs.Printing.{name_at, printed_pattern}
use Rattle.sel_grammar_print.specs.PrintedGrammar.{printed, printed_operator, printed_rule, operator_names}
use Rattle.sel_grammar_text.proofs.PatternTexts.{printed_unary, printed_binary}

pub unary : (ops nts : List (List ℕ)) (old a b d e : List ℕ) (op : ℕ) (p kid : Pattern) (behind_box : Boxed Pattern) → p ≡ Unary op behind_box → kid ≡ behind_box
    → a ≡ old ++ name_at ops op → b ≡ a ++ codes "(" → d ≡ b ++ printed_pattern ops nts kid → e ≡ d ++ codes ")" → e ≡ old ++ printed_pattern ops nts p
unary ops nts old a b d e op p kid bx h g k1 k2 k3 k4 = k4 ∙ ap (λ x. x ++ codes ")") (k3 ∙ ap (λ x. b ++ printed_pattern ops nts x) g ∙ ap (λ x. x ++ printed_pattern ops nts bx) (k2 ∙ ap (λ x. x ++ codes "(") k1))
    ∙ joined old (name_at ops op) (printed_pattern ops nts bx) ∙ ap (λ x. old ++ x) (sym (printed_unary ops nts op bx)) ∙ ap (λ x. old ++ printed_pattern ops nts x) (sym h)
  where
    joined : (x y z : List ℕ) → (((x ++ y) ++ codes "(") ++ z) ++ codes ")" ≡ x ++ (y ++ (codes "(" ++ (z ++ codes ")")))
    joined x y z = simp append_assoc refl

pub binary : (ops nts : List (List ℕ)) (old a b d e f i : List ℕ) (op : ℕ) (p l r : Pattern) (left right : Boxed Pattern) → p ≡ Binary op left right → l ≡ left → r ≡ right
    → a ≡ old ++ name_at ops op → b ≡ a ++ codes "(" → d ≡ b ++ printed_pattern ops nts l → e ≡ d ++ codes "," → f ≡ e ++ printed_pattern ops nts r → i ≡ f ++ codes ")"
    → i ≡ old ++ printed_pattern ops nts p
binary ops nts old a b d e f i op p l r left right h g g' k1 k2 k3 k4 k5 k6 =
    k6 ∙ ap (λ x. x ++ codes ")") (k5 ∙ ap (λ x. e ++ printed_pattern ops nts x) g' ∙ ap (λ x. x ++ printed_pattern ops nts right) (k4 ∙ ap (λ x. x ++ codes ",") (k3 ∙ ap (λ x. b ++ printed_pattern ops nts x) g
    ∙ ap (λ x. x ++ printed_pattern ops nts left) (k2 ∙ ap (λ x. x ++ codes "(") k1))))
    ∙ joined old (name_at ops op) (printed_pattern ops nts left) (printed_pattern ops nts right) ∙ ap (λ x. old ++ x) (sym (printed_binary ops nts op left right)) ∙ ap (λ x. old ++ printed_pattern ops nts x) (sym h)
  where
    joined : (x y z w : List ℕ) → (((((x ++ y) ++ codes "(") ++ z) ++ codes ",") ++ w) ++ codes ")" ≡ x ++ (y ++ (codes "(" ++ (z ++ (codes "," ++ (w ++ codes ")")))))
    joined x y z w = simp append_assoc refl

pub all_put : (g : Grammar) (a b d e f i : List ℕ) → a ≡ codes "%start " → b ≡ a ++ name_at g.nonterminals g.start → d ≡ b ++ codes "\n"
    → e ≡ d ++ flat_map printed_operator g.operators → f ≡ e ++ codes "%%\n" → i ≡ f ++ flat_map (printed_rule (operator_names g.operators) g.nonterminals) g.rules → i ≡ printed g
unfolding printed
all_put g a b d e f i k1 k2 k3 k4 k5 k6 = rw (k6, k5, k4, k3, k2, k1) (simp append_assoc refl)
