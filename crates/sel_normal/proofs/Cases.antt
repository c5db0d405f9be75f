-- The words on patterns, at a pattern that the code took apart.
use Rattle.std.proofs.Common.{◌≡◌, ℕ, ◌+◌, ◌≤◌, List, [], ◌∷◌, ◌++◌, length, refl, ap, sym, ◌∙◌, subst, Option, Some, None, Result, Ok, Err, IfOk, arith, length-append}
use Rattle.sqlite_items.specs.declared.boxed.Boxed.{Boxed}
use Rattle.sel_grammar.specs.declared.grammar.Pattern.{Pattern, Leaf, Nullary, Unary, Binary, Unary', Binary', end_of-Pattern, more_of-Pattern}
use Rattle.sel_grammar.specs.declared.grammar.Pattern.TheBlock.{shape-the_row-Pattern-0, hidden-the_row-Pattern-0}
use denote.Hole.Carrier.{hidden}
use Rattle.sel_grammar.specs.declared.grammar.Grammar.{Grammar}
use Rattle.sel_grammar.specs.Lawful.{names_of, HasOperator, IsPatternOf}
use Rattle.sel_normal.specs.declared.normal.Body.{Body}
use Rattle.sel_normal.specs.declared.normal.Body.TheVariants.{Chain, Operator}
use Rattle.sel_normal.specs.Forms.{parts, inner_parts, head, body}

-- the pattern is an operator over p
pub record IsOver (pattern : Pattern) (op : ℕ) (p : Pattern) : Type 0 where
  pub names_is : names_of pattern ≡ 1 + names_of p
  pub parts_is : parts pattern ≡ pattern ∷ parts p
  pub inner_is : inner_parts pattern ≡ parts p
  pub body_is : (k : ℕ) (test : Option ℕ) → body k test pattern ≡ Operator op (Some (head k p)) None test
  pub lawful_is : (g : Grammar) → HasOperator g op 1 → IsPatternOf g p → IsPatternOf g pattern

-- the pattern is an operator over p and q
pub record AreOver (pattern : Pattern) (op : ℕ) (p q : Pattern) : Type 0 where
  pub names_is : names_of pattern ≡ 1 + (names_of p + names_of q)
  pub parts_is : parts pattern ≡ pattern ∷ (parts p ++ parts q)
  pub inner_is : inner_parts pattern ≡ parts p ++ parts q
  pub body_is : (k : ℕ) (test : Option ℕ) → body k test pattern ≡ Operator op (Some (head k p)) (Some (head (k + length (parts p)) q)) test
  pub lawful_is : (g : Grammar) → HasOperator g op 2 → IsPatternOf g p → IsPatternOf g q → IsPatternOf g pattern

over_unary : (op : ℕ) (p : Boxed Pattern) → IsOver (Unary op p) op p
unfolding shape-the_row-Pattern-0 hidden-the_row-Pattern-0 hidden
over_unary op p = record { names_is = refl; parts_is = refl; inner_is = refl; body_is = λ k test. refl; lawful_is = λ g h k. (h, k) }

over_binary : (op : ℕ) (p q : Boxed Pattern) → AreOver (Binary op p q) op p q
unfolding shape-the_row-Pattern-0 hidden-the_row-Pattern-0 hidden
over_binary op p q = record { names_is = refl; parts_is = refl; inner_is = refl; body_is = λ k test. refl; lawful_is = λ g h k l. (h, (k, l)) }

pub is_over : (pattern : Pattern) (op : ℕ) (b : Boxed Pattern) (p : Pattern) → pattern ≡ Unary op b → p ≡ b → IsOver pattern op p
is_over pattern op b p is e = subst (λ x. IsOver x op p) (sym is) (subst (λ (y : Pattern). IsOver (Unary op b) op y) (sym e) (over_unary op b))

pub are_over : (pattern : Pattern) (op : ℕ) (b b' : Boxed Pattern) (p q : Pattern) → pattern ≡ Binary op b b' → p ≡ b → q ≡ b' → AreOver pattern op p q
are_over pattern op b b' p q is e f =
    subst (λ x. AreOver x op p q) (sym is) (subst (λ (y : Pattern). AreOver (Binary op b b') op y q) (sym e) (subst (λ (z : Pattern). AreOver (Binary op b b') op b z) (sym f) (over_binary op b b')))

-- a pattern has no more operators than names
pub parts_few : (p : Pattern) → length (parts p) ≤ names_of p
parts_few (Leaf n) = omega arith
parts_few (Nullary op) = omega arith
parts_few (Unary' op s (more_of-Pattern p end_of-Pattern)) = omega (arith, parts_few p)
parts_few (Binary' op s (more_of-Pattern p end_of-Pattern) s' (more_of-Pattern q end_of-Pattern)) = omega (arith, parts_few p, parts_few q, length-append (parts p) (parts q))

pub one_part : (pattern : Pattern) (op : ℕ) (p : Pattern) → IsOver pattern op p → length (parts pattern) ≡ 1 + length (parts p)
one_part pattern op p o = let e = ap length o.parts_is in omega arith

pub two_parts : (pattern : Pattern) (op : ℕ) (p q : Pattern) → AreOver pattern op p q → length (parts pattern) ≡ 1 + length (parts p) + length (parts q)
two_parts pattern op p q o = let e = ap length o.parts_is in omega (arith, length-append (parts p) (parts q))

pub two_inner : (pattern : Pattern) (op : ℕ) (p q : Pattern) → AreOver pattern op p q → length (inner_parts pattern) ≡ length (parts p) + length (parts q)
two_inner pattern op p q o = let e = ap length o.inner_is in omega (arith, length-append (parts p) (parts q))

-- a fact of a good result, weakened
pub ok_map : {A E : Type 0} {P Q : A → Type 0} (r : Result A E) → ((x : A) → P x → Q x) → IfOk r P → IfOk r Q
ok_map (Ok x) f h = f x h
ok_map (Err e) f h = tt
