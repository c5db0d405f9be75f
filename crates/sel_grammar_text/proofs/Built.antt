-- More turns than names change no pattern.
use Rattle.std.proofs.Common.{◌≡◌, ℕ, suc, zero, ◌≤◌, List, [], ◌∷◌, Bool, true, false, refl, ap, ◌∙◌, subst, arith, length, cond, eqb, inl, inr}
use Rattle.std.proofs.lemmas.Bool.Decides.{eqb_tells}
use Rattle.sel_grammar.specs.declared.grammar.Pattern.{Pattern, Nullary, Unary, Binary}
use Rattle.sel_grammar_text.specs.declared.pattern.PatternName.{PatternName}
use Rattle.sel_grammar_text.specs.declared.pattern.PatternName.TheVariants.{Nonterminal, Operator}
use Rattle.sel_grammar_text.specs.Patterns.{built_to}

choose : (P : Pattern × List PatternName → Type 0) (b : Bool) (x y : Pattern × List PatternName) → P x → P y → P (cond b x y)
choose P true x y p q = p
choose P false x y p q = q

pub built_shorter : (n : ℕ) (names : List PatternName) → length (built_to n names).1 ≤ length names
built_shorter zero names = omega arith
built_shorter (suc n) [] = omega arith
built_shorter (suc n) (Nonterminal k ∷ names) = omega arith
built_shorter (suc n) (Operator op kids ∷ names) =
    let one = built_to n names in let two = built_to n one.1 in
    let a : length one.1 ≤ length names = built_shorter n names in
    let b : length two.1 ≤ length one.1 = built_shorter n one.1 in
    choose (λ x. length x.1 ≤ length (Operator op kids ∷ names)) (eqb kids 0) (Nullary op, names) _ (omega arith)
    (choose (λ x. length x.1 ≤ length (Operator op kids ∷ names)) (eqb kids 1) (Unary op one.0, one.1) (Binary op one.0 two.0, two.1) (omega arith) (omega arith))

pub enough : (n m : ℕ) (names : List PatternName) → length names ≤ n → length names ≤ m → built_to n names ≡ built_to m names
enough zero zero names h k = refl
enough zero (suc m) [] h k = refl
enough zero (suc m) (x ∷ names) h k = absurd (omega arith)
enough (suc n) zero [] h k = refl
enough (suc n) zero (x ∷ names) h k = absurd (omega arith)
enough (suc n) (suc m) [] h k = refl
enough (suc n) (suc m) (Nonterminal j ∷ names) h k = refl
enough (suc n) (suc m) (Operator op kids ∷ names) h k =
    let one : built_to n names ≡ built_to m names = enough n m names (omega arith) (omega arith) in
    let a : length (built_to m names).1 ≤ length names = built_shorter m names in
    let two : built_to n (built_to n names).1 ≡ built_to m (built_to m names).1 = ap (λ x. built_to n x.1) one ∙ enough n m (built_to m names).1 (omega arith) (omega arith) in
    ap (λ x. cond (eqb kids 0) (Nullary op, names) (cond (eqb kids 1) (Unary op x.0, x.1) (Binary op x.0 (built_to n (built_to n names).1).0, (built_to n (built_to n names).1).1))) one
    ∙ ap (λ y. cond (eqb kids 0) (Nullary op, names) (cond (eqb kids 1) (Unary op (built_to m names).0, (built_to m names).1) (Binary op (built_to m names).0 y.0, y.1))) two

unequal : (a b : ℕ) → (a ≡ b → ⊥) → eqb a b ≡ false
unequal a b h = elim (eqb_tells a b) [ inl e ↦ absurd (h e.1) | inr e ↦ e.0 ]

pub binary_built : (n k op kids : ℕ) (names rest rest' rest'' : List PatternName) (l r : Pattern) → names ≡ Operator op kids ∷ rest → n ≡ suc (length rest) → k ≡ length rest'
    → (kids ≡ 0 → ⊥) → (kids ≡ 1 → ⊥) → built_to (length rest) rest ≡ (l, rest') → built_to k rest' ≡ (r, rest'') → built_to n names ≡ (Binary op l r, rest'')
binary_built n k op kids names rest rest' rest'' l r e m j z u a b =
    let short : length rest' ≤ length rest = subst (λ x. length x.1 ≤ length rest) a (built_shorter (length rest) rest) in
    let second : built_to (length rest) rest' ≡ (r, rest'') = enough (length rest) k rest' short (omega arith) ∙ b in
    ap (λ x. built_to x names) m ∙ ap (built_to (suc (length rest))) e
    ∙ rw (unequal kids 0 z, unequal kids 1 u, a) (ap (λ y. (Binary op l y.0, y.1)) second)
