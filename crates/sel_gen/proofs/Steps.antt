-- A pattern's steps, done one after the other, fill the pattern.
use Rattle.std.proofs.Common.{◌≡◌, ℕ, suc, ◌+◌, ◌*◌, ◌≤◌, true, Option, Some, List, [], ◌∷◌, ◌++◌, length, drop, refl, ap, sym, ◌∙◌, subst, arith, append_assoc, length-append}
use Rattle.std.specs.List.{sum}
use Rattle.std.proofs.lemmas.List.{drop-drop}
use Rattle.std.proofs.lemmas.List.Sums.{sum_by-cons}
use Rattle.rand_pcg.specs.Lcg.{Lcg}
use Rattle.sel_base.specs.declared.range.Range.{Range}
use Rattle.sel_grammar.specs.declared.grammar.Attribute.TheVariants.{Absent}
use Rattle.sel_grammar.specs.declared.grammar.Grammar.{Grammar}
use Rattle.sel_grammar.specs.declared.grammar.Pattern.{Pattern, Leaf, Nullary, Unary', Binary', end_of-Pattern, more_of-Pattern}
use Rattle.sel_grammar.specs.Fits.{leaves}
use Rattle.sel_grammar.specs.Lawful.{names_of, IsPatternOf}
use Rattle.sel_grammar.specs.PlainTrees.{PlainTree, Node0, Node1, Node2}
use Rattle.sel_gen.specs.declared.tasks.Task.{Task}
use Rattle.sel_gen.specs.declared.tasks.Task.TheVariants.{Wrap, Join}
use Rattle.sel_gen.specs.Sizes.{is_usable, Sizes, size_at}
use Rattle.sel_gen.specs.Made.{word, behind, attribute_by, Making, IsFilled}
use Rattle.sel_gen.specs.Growing.{steps, Finishes, LeaveOne, AreReady, weights}

pub LeaveOne-steps : (range : Option Range) (p : Pattern) (shares : List ℕ) (rest : List Task) (count : ℕ) → LeaveOne rest (suc count) → LeaveOne (steps range p shares ++ rest) count
LeaveOne-steps range (Leaf n) shares rest count h = h
LeaveOne-steps range (Nullary op) shares rest count h = h
LeaveOne-steps range (Unary' op s (more_of-Pattern p end_of-Pattern)) shares rest count h =
    subst (λ x. LeaveOne x count) (sym (append_assoc (steps range p shares) (Wrap op ∷ []) rest)) (LeaveOne-steps range p shares (Wrap op ∷ rest) count h)
LeaveOne-steps range (Binary' op s (more_of-Pattern p end_of-Pattern) s' (more_of-Pattern q end_of-Pattern)) shares rest count h =
    let own = steps range q (drop (length (leaves p)) shares) in
    let after = LeaveOne-steps range q (drop (length (leaves p)) shares) (Join op ∷ rest) (suc count) h in
    subst (λ x. LeaveOne x count) (sym (append_assoc (steps range p shares) (steps range q (drop (length (leaves p)) shares) ++ (Join op ∷ [])) rest ∙ ap (λ x. steps range p shares ++ x) (append_assoc (steps range q (drop (length (leaves p)) shares)) (Join op ∷ []) rest)))
    (LeaveOne-steps range p shares (steps range q (drop (length (leaves p)) shares) ++ (Join op ∷ rest)) count after)

module _ (Made : Making) (range : Option Range) where
  -- a pattern is filled, and then the rest is done
  abbrev pub FilledFirst : Pattern → List ℕ → List Task → List PlainTree → Lcg → PlainTree → Lcg → Type 0
  FilledFirst p shares rest ts words t after = (u : PlainTree) × (between : Lcg) × IsFilled Made range p shares words u between × Finishes Made rest (u ∷ ts) between t after

  pub Finishes-steps : (p : Pattern) (shares : List ℕ) (rest : List Task) (ts : List PlainTree) (words : Lcg) (t : PlainTree) (after : Lcg) → Finishes Made (steps range p shares ++ rest) ts words t after → FilledFirst p shares rest ts words t after
  Finishes-steps (Leaf n) shares rest ts words t after h = h
  Finishes-steps (Nullary op) shares rest ts words t after h = (Node0 op (attribute_by range (word words)), behind words, (refl, refl), h)
  Finishes-steps (Unary' op s (more_of-Pattern p end_of-Pattern)) shares rest ts words t after h =
      let (u, between, filled, others) = Finishes-steps p shares (Wrap op ∷ rest) ts words t after (subst (λ x. Finishes Made x ts words t after) (append_assoc (steps range p shares) (Wrap op ∷ []) rest) h) in
      (Node1 op Absent u, between, (u, refl, filled), others)
  Finishes-steps (Binary' op s (more_of-Pattern p end_of-Pattern) s' (more_of-Pattern q end_of-Pattern)) shares rest ts words t after h =
      let (u, middle, first, others) = Finishes-steps p shares (steps range q (drop (length (leaves p)) shares) ++ (Join op ∷ rest)) ts words t after
      (subst (λ x. Finishes Made x ts words t after) (append_assoc (steps range p shares) (steps range q (drop (length (leaves p)) shares) ++ (Join op ∷ [])) rest ∙ ap (λ x. steps range p shares ++ x) (append_assoc (steps range q (drop (length (leaves p)) shares)) (Join op ∷ []) rest)) h) in
      let (v, between, second, last) = Finishes-steps q (drop (length (leaves p)) shares) (Join op ∷ rest) (u ∷ ts) middle t after others in
      (Node2 op Absent u v, between, (u, v, refl, (middle, first, second)), last)

-- shares that are enough for nonterminals
abbrev pub AreEnough : Sizes → List ℕ → List ℕ → Type 0
AreEnough sizes [] shares = Unit {0}
AreEnough sizes (n ∷ ns) [] = ⊥
AreEnough sizes (n ∷ ns) (b ∷ shares) = ((k : ℕ) × (size_at sizes n ≡ Some k) × (k ≤ b)) × AreEnough sizes ns shares

pub enough_parts : (sizes : Sizes) (ns ms shares : List ℕ) → AreEnough sizes (ns ++ ms) shares → AreEnough sizes ns shares × AreEnough sizes ms (drop (length ns) shares)
enough_parts sizes [] ms shares h = (tt, h)
enough_parts sizes (n ∷ ns) ms [] h = absurd h
enough_parts sizes (n ∷ ns) ms (b ∷ shares) h = let r = enough_parts sizes ns ms shares h.1 in ((h.0, r.0), r.1)

pub AreReady-append : (g : Grammar) (sizes : Sizes) (xs ys : List Task) → AreReady g sizes xs → AreReady g sizes ys → AreReady g sizes (xs ++ ys)
AreReady-append g sizes [] ys h k = k
AreReady-append g sizes (x ∷ xs) ys h k = (h.0, AreReady-append g sizes xs ys h.1 k)

pub AreReady-steps : (g : Grammar) (sizes : Sizes) (range : Option Range) (p : Pattern) (shares : List ℕ) → IsPatternOf g p → is_usable range ≡ true → AreEnough sizes (leaves p) shares → AreReady g sizes (steps range p shares)
AreReady-steps g sizes range (Leaf n) [] of usable h = absurd h
AreReady-steps g sizes range (Leaf n) (b ∷ shares) of usable h = (h.0, tt)
AreReady-steps g sizes range (Nullary op) shares of usable h = ((of, usable), tt)
AreReady-steps g sizes range (Unary' op s (more_of-Pattern p end_of-Pattern)) shares of usable h =
    AreReady-append g sizes (steps range p shares) (Wrap op ∷ []) (AreReady-steps g sizes range p shares of.1 usable h) (of.0, tt)
AreReady-steps g sizes range (Binary' op s (more_of-Pattern p end_of-Pattern) s' (more_of-Pattern q end_of-Pattern)) shares of usable h =
    let two = enough_parts sizes (leaves p) (leaves q) shares h in
    AreReady-append g sizes (steps range p shares) (steps range q (drop (length (leaves p)) shares) ++ (Join op ∷ [])) (AreReady-steps g sizes range p shares (of.1).0 usable two.0)
    (AreReady-append g sizes (steps range q (drop (length (leaves p)) shares)) (Join op ∷ []) (AreReady-steps g sizes range q (drop (length (leaves p)) shares) (of.1).1 usable two.1) (of.0, tt))

pub weights-append : (xs ys : List Task) → weights (xs ++ ys) ≡ weights xs + weights ys
weights-append [] ys = omega arith
weights-append (x ∷ xs) ys = let h = weights-append xs ys in omega arith

-- a pattern's steps are no heavier than its names and its shares
pub weights-steps : (range : Option Range) (p : Pattern) (shares : List ℕ) → weights (steps range p shares) + 64 * sum (drop (length (leaves p)) shares) ≤ names_of p + 64 * sum shares
weights-steps range (Leaf n) [] = omega arith
weights-steps range (Leaf n) (b ∷ shares) = let h = sum_by-cons (λ x. x) b shares in omega arith
weights-steps range (Nullary op) shares = omega arith
weights-steps range (Unary' op s (more_of-Pattern p end_of-Pattern)) shares = let h = weights-steps range p shares in let a = weights-append (steps range p shares) (Wrap op ∷ []) in omega arith
weights-steps range (Binary' op s (more_of-Pattern p end_of-Pattern) s' (more_of-Pattern q end_of-Pattern)) shares =
    let h = weights-steps range p shares in
    let k = weights-steps range q (drop (length (leaves p)) shares) in
    let a = weights-append (steps range p shares) (steps range q (drop (length (leaves p)) shares) ++ (Join op ∷ [])) in
    let b = weights-append (steps range q (drop (length (leaves p)) shares)) (Join op ∷ []) in
    let d : sum (drop (length (leaves p ++ leaves q)) shares) ≡ sum (drop (length (leaves q)) (drop (length (leaves p)) shares)) =
    ap sum (ap (λ n. drop n shares) (length-append (leaves p) (leaves q)) ∙ sym (drop-drop (length (leaves q)) (length (leaves p)) shares)) in
    omega arith
