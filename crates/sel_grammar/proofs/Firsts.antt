-- The best derivations of kids make the best derivation by one rule.
use Rattle.std.proofs.Common.{◌≡◌, ℕ, ◌⊎◌, inl, inr, List, [], ◌∷◌, ◌++◌, refl, ap, subst, sym}
use Rattle.sel_grammar.specs.declared.grammar.Grammar.{Grammar}
use Rattle.sel_grammar.specs.Costs.{Cost, no_cost, ◌⊕◌, IsCheaper}
use Rattle.sel_grammar.specs.PlainTrees.{PlainTree}
use Rattle.sel_grammar.specs.Fits.{rule_at}
use Rattle.sel_grammar.specs.Derivations.{Derivation, Deriv, Derivations, no_more, more, Derives, DeriveAll, rule_cost, cost, costs, list, lists}
use Rattle.sel_grammar.specs.Best.{IsBest, Beats}
use Rattle.sel_grammar.specs.Firsts.{IsBefore, IsLesser, Leads, LeadAll, IsFirst, AllFirst}
use Rattle.sel_grammar.proofs.Order.{IsLexLess-before, IsBefore-append, IsBefore-behind}
use Rattle.sel_grammar.proofs.CostLaws.{both_cheaper, left_cheaper, right_cheaper, same_sums}

pub IsBest-first : (g : Grammar) (d : Derivation) (n : ℕ) (t : PlainTree) → IsFirst g d n t → IsBest g d n t
IsBest-first g d n t f = record { derives = f.derives; beats = λ e h. go e (f.leads e h) }
  where
    go : (e : Derivation) → Leads g d e → (e ≡ d) ⊎ Beats g d e
    go e (inl h) = inl h
    go e (inr (inl h)) = inr (inl h)
    go e (inr (inr h)) = inr (inr (h.0, IsLexLess-before (list d) (list e) h.1))

pub DeriveAll-first : (g : Grammar) (ds : Derivations) (ns : List ℕ) (ts : List PlainTree) → AllFirst g ds ns ts → DeriveAll g ds ns ts
DeriveAll-first g no_more [] [] f = tt
DeriveAll-first g no_more [] (t ∷ ts) f = f
DeriveAll-first g no_more (n ∷ ns) ts f = f
DeriveAll-first g (more d ds) [] ts f = f
DeriveAll-first g (more d ds) (n ∷ ns) [] f = f
DeriveAll-first g (more d ds) (n ∷ ns) (t ∷ ts) f = ((f.0).derives, DeriveAll-first g ds ns ts f.1)

-- a lesser first part, or the same first part and a lesser rest
module _ (a b a' b' : Cost) (xs ys xs' ys' : List ℕ) where
  lesser_first : IsLesser a xs b ys → (a' ≡ b') ⊎ IsCheaper a' b' → IsLesser (a ⊕ a') (xs ++ xs') (b ⊕ b') (ys ++ ys')
  lesser_first (inl h) (inl k) = inl (left_cheaper a b a' b' h k)
  lesser_first (inl h) (inr k) = inl (both_cheaper a b a' b' h k)
  lesser_first (inr h) (inl k) = inr (same_sums a b a' b' h.0 k, IsBefore-append xs ys xs' ys' h.1)
  lesser_first (inr h) (inr k) = inl (right_cheaper a b a' b' h.0 k)

  pub lesser_rest : IsLesser a' xs' b' ys' → IsLesser (a ⊕ a') (xs ++ xs') (a ⊕ b') (xs ++ ys')
  lesser_rest (inl h) = inl (right_cheaper a a a' b' refl h)
  lesser_rest (inr h) = inr (same_sums a a a' b' refl h.0, IsBefore-behind xs xs' ys' h.1)

pub no_dearer : (g : Grammar) (ds es : Derivations) → LeadAll g ds es → (costs g ds ≡ costs g es) ⊎ IsCheaper (costs g ds) (costs g es)
no_dearer g ds es (inl h) = inl (ap (costs g) (sym h))
no_dearer g ds es (inr (inl h)) = inr h
no_dearer g ds es (inr (inr h)) = inl h.0

pub lead_more : (g : Grammar) (d e : Derivation) (ds es : Derivations) → Leads g d e → LeadAll g ds es → LeadAll g (more d ds) (more e es)
lead_more g d e ds es (inl h) (inl k) = inl (λ i. more (h i) (k i))
lead_more g d e ds es (inl h) (inr k) =
    inr (subst (λ x. IsLesser (cost g d ⊕ costs g ds) (list d ++ lists ds) (cost g x ⊕ costs g es) (list x ++ lists es)) (sym h)
    (lesser_rest (cost g d) (cost g d) (costs g ds) (costs g es) (list d) (list d) (lists ds) (lists es) k))
lead_more g d e ds es (inr h) k =
    inr (lesser_first (cost g d) (cost g e) (costs g ds) (costs g es) (list d) (list e) (lists ds) (lists es) h (no_dearer g ds es k))

-- the best kids lead any other kids
pub LeadAll-first : (g : Grammar) (ds es : Derivations) (ns : List ℕ) (ts : List PlainTree) → AllFirst g ds ns ts → DeriveAll g es ns ts → LeadAll g ds es
LeadAll-first g no_more no_more [] [] f h = inl refl
LeadAll-first g no_more (more e es) [] [] f h = absurd h
LeadAll-first g no_more es [] (t ∷ ts) f h = absurd f
LeadAll-first g no_more es (n ∷ ns) ts f h = absurd f
LeadAll-first g (more d ds) es [] ts f h = absurd f
LeadAll-first g (more d ds) es (n ∷ ns) [] f h = absurd f
LeadAll-first g (more d ds) no_more (n ∷ ns) (t ∷ ts) f h = absurd h
LeadAll-first g (more d ds) (more e es) (n ∷ ns) (t ∷ ts) f h =
    lead_more g d e ds es ((f.0).leads e h.0) (LeadAll-first g ds es ns ts f.1 h.1)

-- by one rule, the best kids make the best derivation
pub Leads-kids : (g : Grammar) (r : ℕ) (ds es : Derivations) → LeadAll g ds es → Leads g (Deriv r ds) (Deriv r es)
Leads-kids g r ds es (inl h) = inl (ap (Deriv r) h)
Leads-kids g r ds es (inr k) = inr (lesser_rest (rule_cost (rule_at g r)) no_cost (costs g ds) (costs g es) (r ∷ []) [] (lists ds) (lists es) k)
