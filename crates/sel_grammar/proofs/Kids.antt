-- Lists of kids, put together and taken apart.
use Rattle.std.proofs.Common.{◌≡◌, ℕ, suc, List, [], ◌∷◌, ◌++◌, length, refl, ap, sym, ◌∙◌, append_assoc}
use Rattle.sel_grammar.specs.declared.grammar.Grammar.{Grammar}
use Rattle.sel_grammar.specs.Costs.{◌⊕◌}
use Rattle.sel_grammar.specs.PlainTrees.{PlainTree}
use Rattle.sel_grammar.specs.Derivations.{Derivations, no_more, more, DeriveAll, cost, costs, list, lists}
use Rattle.sel_grammar.proofs.CostLaws.{sum_before, sum_assoc}
use Rattle.sel_grammar.specs.Firsts.{AllFirst}

abbrev pub both_kids : Derivations → Derivations → Derivations
both_kids no_more es = es
both_kids (more d ds) es = more d (both_kids ds es)

pub costs-both : (g : Grammar) (ds es : Derivations) → costs g (both_kids ds es) ≡ costs g ds ⊕ costs g es
costs-both g no_more es = sum_before (costs g es)
costs-both g (more d ds) es = ap (λ x. cost g d ⊕ x) (costs-both g ds es) ∙ sym (sum_assoc (cost g d) (costs g ds) (costs g es))

pub lists-both : (ds es : Derivations) → lists (both_kids ds es) ≡ lists ds ++ lists es
lists-both no_more es = refl
lists-both (more d ds) es = ap (λ x. list d ++ x) (lists-both ds es) ∙ sym (append_assoc (list d) (lists ds) (lists es))

pub AllFirst-both : (g : Grammar) (ds es : Derivations) (ns ms : List ℕ) (ts us : List PlainTree) → AllFirst g ds ns ts → AllFirst g es ms us → AllFirst g (both_kids ds es) (ns ++ ms) (ts ++ us)
AllFirst-both g no_more es [] ms [] us f h = h
AllFirst-both g no_more es [] ms (t ∷ ts) us f h = absurd f
AllFirst-both g no_more es (n ∷ ns) ms ts us f h = absurd f
AllFirst-both g (more d ds) es [] ms ts us f h = absurd f
AllFirst-both g (more d ds) es (n ∷ ns) ms [] us f h = absurd f
AllFirst-both g (more d ds) es (n ∷ ns) ms (t ∷ ts) us f h = (f.0, AllFirst-both g ds es ns ms ts us f.1 h)

-- kids of two patterns are kids of each
pub DeriveAll-split : (g : Grammar) (es : Derivations) (ns ms : List ℕ) (ts us : List PlainTree) → length ns ≡ length ts → DeriveAll g es (ns ++ ms) (ts ++ us)
    → ((ds : Derivations) × DeriveAll g ds ns ts) × ((ds : Derivations) × DeriveAll g ds ms us)
DeriveAll-split g es [] ms [] us q h = ((no_more, tt), (es, h))
DeriveAll-split g es [] ms (t ∷ ts) us q h = cc
DeriveAll-split g es (n ∷ ns) ms [] us q h = cc
DeriveAll-split g no_more (n ∷ ns) ms (t ∷ ts) us q h = absurd h
DeriveAll-split g (more e es) (n ∷ ns) ms (t ∷ ts) us q h =
    let s = DeriveAll-split g es ns ms ts us (suc_same q) h.1 in
    ((more e (s.0).0, (h.0, (s.0).1)), s.1)
  where
    suc_same : {a b : ℕ} → suc a ≡ suc b → a ≡ b
    suc_same k = cc
