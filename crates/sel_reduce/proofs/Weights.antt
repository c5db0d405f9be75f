-- How many rules of helpers may be taken for the goals of a stack before a user's rule is: one for each operator of the part that a helper stands for.
use Rattle.std.proofs.Common.{◌≡◌, ℕ, suc, ◌+◌, ◌-◌, ◌<◌, ◌≤◌, inl, inr, Option, Some, None, true, false, if◌then◌else◌, List, [], ◌∷◌, ◌++◌, length, refl, ap, sym, ◌∙◌, slice_get, arith, length-append}
use Rattle.std.specs.Prelude.{nat_le, reverse}
use Rattle.std.proofs.lemmas.List.{reverse-append}
use Rattle.sel_grammar.specs.declared.grammar.Grammar.{Grammar}
use Rattle.sel_grammar.specs.declared.grammar.Pattern.{Pattern, Leaf, Nullary, Unary', Binary', end_of-Pattern, more_of-Pattern}
use Rattle.sel_grammar.specs.Lawful.{names_of}
use Rattle.sel_forest.specs.declared.walk.Goal.{Goal}
use Rattle.sel_normal.specs.Forms.{places, parts, inner_parts}
use Rattle.sel_normal.specs.Cuts.{IsOperatorPart}
use Rattle.sel_reduce.specs.Goals.{StandsFor}

-- how many operators a part has, where there is one
abbrev operators : Option Pattern → ℕ
operators None = 0
operators (Some p) = length (parts p)

abbrev pub weight : Grammar → ℕ → ℕ
weight g n = if nat_le (length g.nonterminals) n then operators (slice_get (places g.rules) (n - length g.nonterminals)) else 0

abbrev pub weights : Grammar → List Goal → ℕ
weights g [] = 0
weights g (goal ∷ rest) = weight g goal.nonterminal + weights g rest

not_below : (n users : ℕ) → n < users → nat_le users n ≡ false
not_below n users h = grind arith

above : (users j : ℕ) → nat_le users (users + j) ≡ true
above users j = grind arith

behind : (users j : ℕ) → users + j - users ≡ j
behind users j = omega arith

pub weight_is : (g : Grammar) (n : ℕ) (part : Pattern) → StandsFor g n part → weight g n ≡ length (parts part)
weight_is g n part (inl (low, is)) =
    ap (λ b. if b then operators (slice_get (places g.rules) (n - length g.nonterminals)) else 0) (not_below n (length g.nonterminals) low) ∙ ap (λ p. length (parts p)) (sym is)
weight_is g n part (inr (j, is, at)) =
    let users = length g.nonterminals in
    ap (weight g) is ∙ ap (λ b. if b then operators (slice_get (places g.rules) (users + j - users)) else 0) (above users j)
    ∙ ap (λ i. operators (slice_get (places g.rules) i)) (behind users j) ∙ ap operators at

pub weights-append : (g : Grammar) (xs ys : List Goal) → weights g (xs ++ ys) ≡ weights g xs + weights g ys
weights-append g [] ys = omega arith
weights-append g (x ∷ xs) ys = let h = weights-append g xs ys in omega arith

-- an operator's part has one operator more than lie below it
pub operators_more : (p : Pattern) → IsOperatorPart p → length (parts p) ≡ suc (length (inner_parts p))
operators_more (Leaf n) h = absurd (h n refl)
operators_more (Nullary op) h = refl
operators_more (Unary' op s (more_of-Pattern p end_of-Pattern)) h = refl
operators_more (Binary' op s (more_of-Pattern p end_of-Pattern) s' (more_of-Pattern q end_of-Pattern)) h = refl

operators_few : (p : Pattern) → length (parts p) ≤ names_of p
operators_few (Leaf n) = omega arith
operators_few (Nullary op) = omega arith
operators_few (Unary' op s (more_of-Pattern p end_of-Pattern)) = let h = operators_few p in omega arith
operators_few (Binary' op s (more_of-Pattern p end_of-Pattern) s' (more_of-Pattern q end_of-Pattern)) =
    let h = operators_few p in let k = operators_few q in omega (arith, length-append (parts p) (parts q))

-- below a pattern's root stand fewer operators than it has names
pub inner_few : (p : Pattern) → length (inner_parts p) < names_of p
inner_few (Leaf n) = omega arith
inner_few (Nullary op) = omega arith
inner_few (Unary' op s (more_of-Pattern p end_of-Pattern)) = let h = operators_few p in omega arith
inner_few (Binary' op s (more_of-Pattern p end_of-Pattern) s' (more_of-Pattern q end_of-Pattern)) =
    let h = operators_few p in let k = operators_few q in omega (arith, length-append (parts p) (parts q))

pub weights-reverse : (g : Grammar) (xs : List Goal) → weights g (reverse xs) ≡ weights g xs
weights-reverse g [] = refl
weights-reverse g (x ∷ xs) = let h = weights-reverse g xs in let k = weights-append g (reverse xs) (x ∷ []) in omega (arith, ap (weights g) (reverse-append (x ∷ []) xs))
