-- A pattern whose names are more than their kids is the grammar's, and has no more names and leaves than there are.
use Rattle.std.proofs.Common.{◌≡◌, ℕ, suc, zero, ◌+◌, ◌<◌, ◌≤◌, List, [], ◌∷◌, ◌++◌, Bool, true, false, length, refl, ap, ◌∙◌, subst, arith, cond, eqb, length-append}
use Rattle.std.specs.List.{AllByRecursion}
use Rattle.sel_grammar.specs.Limits.{most_kids}
use Rattle.sel_grammar.specs.Fits.{leaves}
use Rattle.sel_grammar.specs.Lawful.{names_of, HasOperator, IsPatternOf}
use Rattle.sel_grammar.specs.declared.grammar.Grammar.{Grammar}
use Rattle.sel_grammar.specs.declared.grammar.Pattern.{Pattern, Nullary, Unary, Binary}
use Rattle.sel_grammar.specs.declared.grammar.Pattern.TheBlock.{shape-the_row-Pattern-0, hidden-the_row-Pattern-0}
use denote.Hole.Carrier.{hidden}
use Rattle.sel_grammar.proofs.PatternShapes.{names_unary, names_binary, is_unary, is_binary}
use Rattle.sel_grammar_text.specs.declared.pattern.PatternName.{PatternName}
use Rattle.sel_grammar_text.specs.declared.pattern.PatternName.TheVariants.{Nonterminal, Operator}
use Rattle.sel_grammar_text.specs.Patterns.{built_to}
use Rattle.sel_grammar_text.proofs.Built.{built_shorter}

-- a name by its number is the grammar's, and has few kids
abbrev pub IsNameOf : Grammar → PatternName → Type 0
IsNameOf g (Nonterminal n) = n < length g.nonterminals
IsNameOf g (Operator op kids) = HasOperator g op kids × (kids ≤ most_kids)

-- how many kids the names have together
abbrev pub kids_of : List PatternName → ℕ
kids_of [] = 0
kids_of (Nonterminal n ∷ names) = kids_of names
kids_of (Operator op kids ∷ names) = kids + kids_of names

-- how many of the names are nonterminals
abbrev pub leaf_names : List PatternName → ℕ
leaf_names [] = 0
leaf_names (Nonterminal n ∷ names) = 1 + leaf_names names
leaf_names (Operator op kids ∷ names) = leaf_names names

-- The pattern is the grammar's, has as many names as it takes and leaves as these have nonterminals, and leaves enough for k more patterns.
pub record Fits (g : Grammar) (k all nonterminals : ℕ) (b : Pattern × List PatternName) : Type 0 where
  pub count : names_of b.0 + length b.1 ≡ all
  pub leaf_count : length (leaves b.0) + leaf_names b.1 ≡ nonterminals
  pub enough : kids_of b.1 + k ≤ length b.1
  pub rest : AllByRecursion (IsNameOf g) b.1
  pub pattern : IsPatternOf g b.0

chosen : {X : Type 0} (P : X → Type 0) (b : Bool) (x y : X) → (b ≡ true → P x) → (b ≡ false → P y) → P (cond b x y)
chosen P true x y p q = p refl
chosen P false x y p q = q refl

leaves_unary : (op : ℕ) (p : Pattern) → leaves (Unary op p) ≡ leaves p
unfolding shape-the_row-Pattern-0 hidden-the_row-Pattern-0 hidden
leaves_unary op p = refl

leaves_binary : (op : ℕ) (p q : Pattern) → leaves (Binary op p q) ≡ leaves p ++ leaves q
unfolding shape-the_row-Pattern-0 hidden-the_row-Pattern-0 hidden
leaves_binary op p q = refl

fits_unary : (g : Grammar) (k all nonterminals op : ℕ) (one : Pattern × List PatternName) → HasOperator g op 1 → Fits g k all nonterminals one → Fits g k (suc all) nonterminals (Unary op one.0, one.1)
fits_unary g k all nonterminals op one h f =
    let l : length (leaves (Unary op one.0)) ≡ length (leaves one.0) = ap length (leaves_unary op one.0) in
    record {
      count = omega (arith, f.count, names_unary op one.0);
      leaf_count = omega (arith, f.leaf_count, l);
      enough = f.enough;
      rest = f.rest;
      pattern = is_unary g op one.0 h f.pattern;
    }

fits_binary : (g : Grammar) (k all nonterminals op : ℕ) (one two : Pattern × List PatternName) → HasOperator g op 2 → names_of one.0 + length one.1 ≡ all → length (leaves one.0) + leaf_names one.1 ≡ nonterminals → IsPatternOf g one.0
    → Fits g k (length one.1) (leaf_names one.1) two → Fits g k (suc all) nonterminals (Binary op one.0 two.0, two.1)
fits_binary g k all nonterminals op one two h count leaf_count first f =
    let l : length (leaves (Binary op one.0 two.0)) ≡ length (leaves one.0) + length (leaves two.0) = ap length (leaves_binary op one.0 two.0) ∙ length-append (leaves one.0) (leaves two.0) in
    record {
      count = omega (arith, count, f.count, names_binary op one.0 two.0);
      leaf_count = omega (arith, leaf_count, f.leaf_count, l);
      enough = f.enough;
      rest = f.rest;
      pattern = is_binary g op one.0 two.0 h first f.pattern;
    }

equal_to : (a b : ℕ) → eqb a b ≡ true → a ≡ b
equal_to a b h = grind (arith, h)

unequal_to : (a b : ℕ) → eqb a b ≡ false → a ≡ b → ⊥
unequal_to a b h e = grind (arith, h, e)

pub built_fits : (g : Grammar) (n k : ℕ) (names : List PatternName) → length names ≤ n → AllByRecursion (IsNameOf g) names → kids_of names + suc k ≤ length names → Fits g k (length names) (leaf_names names) (built_to n names)
built_fits g zero k [] h a e = absurd (omega arith)
built_fits g zero k (x ∷ names) h a e = absurd (omega arith)
built_fits g (suc n) k [] h a e = absurd (omega arith)
built_fits g (suc n) k (Nonterminal m ∷ names) h a e = record { count = omega arith; leaf_count = omega arith; enough = omega arith; rest = a.1; pattern = a.0 }
built_fits g (suc n) k (Operator op kids ∷ names) h a e =
    chosen (Fits g k (length (Operator op kids ∷ names)) (leaf_names names)) (eqb kids 0) (Nullary op, names) _
    (λ z. let none : kids ≡ 0 = equal_to kids 0 z in record { count = omega arith; leaf_count = omega arith; enough = omega (arith, none); rest = a.1; pattern = subst (HasOperator g op) none a.0.0 })
    (λ z. let some : kids ≡ 0 → ⊥ = unequal_to kids 0 z in
    chosen (Fits g k (length (Operator op kids ∷ names)) (leaf_names names)) (eqb kids 1) (Unary op (built_to n names).0, (built_to n names).1) _
    (λ u.
    let single : kids ≡ 1 = equal_to kids 1 u in
    let f = built_fits g n k names (omega arith) a.1 (omega (arith, single)) in
    fits_unary g k (length names) (leaf_names names) op (built_to n names) (subst (HasOperator g op) single a.0.0) f)
    (λ u.
    let not_one : kids ≡ 1 → ⊥ = unequal_to kids 1 u in
    let two : kids ≡ 2 = two_left kids a.0.1 some not_one in
    let f = built_fits g n (suc k) names (omega arith) a.1 (omega (arith, two)) in
    let short : length (built_to n names).1 ≤ length names = built_shorter n names in
    let s = built_fits g n k (built_to n names).1 (omega (arith, short)) f.rest f.enough in
    fits_binary g k (length names) (leaf_names names) op (built_to n names) (built_to n (built_to n names).1) (subst (HasOperator g op) two a.0.0) f.count f.leaf_count f.pattern s))
  where
    two_left : (kids : ℕ) → kids ≤ most_kids → (kids ≡ 0 → ⊥) → (kids ≡ 1 → ⊥) → kids ≡ 2
    two_left zero h a b = absurd (a refl)
    two_left (suc zero) h a b = absurd (b refl)
    two_left (suc (suc zero)) h a b = refl
    two_left (suc (suc (suc n))) h a b = absurd (omega (arith, h))
