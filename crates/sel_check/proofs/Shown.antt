-- Rules show one cost at most.
use Rattle.std.proofs.Common.{◌≡◌, ℕ, Option, Some, None, List, [], ◌++◌, refl, ap, sym, ◌∙◌, subst}
use Rattle.sel_grammar.specs.declared.grammar.Grammar.{Grammar}
use Rattle.sel_grammar.specs.Costs.{Cost}
use Rattle.sel_grammar.specs.PlainTrees.{PlainTree}
use Rattle.sel_grammar.specs.Derivations.{cost}
use Rattle.sel_grammar.proofs.Words.{lists_are_words}
use Rattle.sel_forest.specs.Covers.{IsCover}
use Rattle.sel_forest.specs.declared.forest.Tree.{Tree}
use Rattle.sel_forest.specs.Postorder.{IsPostorderOf}
use Rattle.sel_check.specs.declared.certificate.TreeCertificate.{TreeCertificate}
use Rattle.sel_check.specs.declared.refusal.TreeRefusal.{TreeRefusal}
use Rattle.sel_check.specs.declared.refusal.TreeFault.TheVariants as fault
use Rattle.sel_check.specs.declared.refusal.TreeRefusal.TheVariants as refusal
use Rattle.sel_check.specs.Certificates.{claim, Bounds, start_goal, IsShown}
use Rattle.sel_check.specs.Laws.{IsLeastCost}
use Rattle.sel_check.proofs.Bounding.{proof_is_least}
use Rattle.sel_check.specs.TreeChecks.{ProvesCost, IsNotShown, IsTreeRefusal, IsShownRefusal}

pub cover_cost_is_one : (g : Grammar) (t : PlainTree) (rules : List ℕ) (c d : Cost) → IsCover g t rules c → IsCover g t rules d → c ≡ d
cover_cost_is_one g t rules c d h k =
    h.cost_is ∙ ap (cost g) (lists_are_words g g.start t h.derivation k.derivation [] [] h.derives k.derives (ap (λ xs. xs ++ []) (h.list_is ∙ sym k.list_is))).0 ∙ sym k.cost_is

pub shown_is_one : (g : Grammar) (t : PlainTree) (o p : Option Cost) (rules : Option (List ℕ)) → IsShown g t o rules → IsShown g t p rules → o ≡ p
shown_is_one g t None None rules h k = refl
shown_is_one g t None (Some d) None h k = absurd k
shown_is_one g t None (Some d) (Some rules) h k = absurd h
shown_is_one g t (Some c) None None h k = absurd h
shown_is_one g t (Some c) None (Some rules) h k = absurd k
shown_is_one g t (Some c) (Some d) None h k = absurd h
shown_is_one g t (Some c) (Some d) (Some rules) h k = ap Some (cover_cost_is_one g t rules c d h k)

module _ (g : Grammar) (tree : Tree) (c : TreeCertificate) (t : PlainTree) (spelled : IsPostorderOf tree t) (bounds : Bounds g tree c.costs) where
  module _ (shown claimed : Option Cost) (shows : IsShown g t shown c.rules) (is : claimed ≡ claim c.costs (start_goal g tree)) where
    pub agree_proves : shown ≡ claimed → ProvesCost g tree c claimed
    agree_proves e = record {
      plain = t;
      postorder = spelled;
      proves = record { bounds = bounds; shown = subst (λ o. IsShown g t o c.rules) (e ∙ is) shows };
      cost_is = is;
    }

    pub agree_least : shown ≡ claimed → IsLeastCost g g.start t claimed
    agree_least e =
        subst (λ o. IsLeastCost g g.start t o) (sym is)
        (proof_is_least g tree t c.costs c.rules spelled (record { bounds = bounds; shown = subst (λ o. IsShown g t o c.rules) (e ∙ is) shows }))

    pub differ_refutes : (shown ≡ claimed → ⊥) → IsNotShown g tree c
    differ_refutes d = record {
      bounds = bounds;
      plain = t;
      postorder = spelled;
      derived = λ rules there. derived shown rules (subst (λ o. IsShown g t shown o) there shows);
      not_shown = λ h. d (shown_is_one g t shown claimed c.rules shows (subst (λ o. IsShown g t o c.rules) (sym is) h));
    }
      where
        derived : (o : Option Cost) (rules : List ℕ) → IsShown g t o (Some rules) → (cost : Cost) × IsCover g t rules cost
        derived None rules h = absurd h
        derived (Some c) rules h = (c, h)

  pub refused : (r : TreeRefusal) → IsShownRefusal g t c.rules r → IsTreeRefusal g tree c r
  refused r h = go c.rules refl r h
    where
      go : (o : Option (List ℕ)) → c.rules ≡ o → (r : TreeRefusal) → IsShownRefusal g t o r → IsTreeRefusal g tree c r
      go (Some rules) e (refusal.Fault fault.Cover) h = record { bounds = bounds; plain = t; postorder = spelled; rules = rules; there = e; none = h }
      go (Some rules) e (refusal.Fault (fault.Bound n)) h = absurd h
      go (Some rules) e (refusal.Fault fault.Cost) h = absurd h
      go (Some rules) e refusal.NoMemory h = tt
      go None e (refusal.Fault fault.Cover) h = absurd h
      go None e (refusal.Fault (fault.Bound n)) h = absurd h
      go None e (refusal.Fault fault.Cost) h = absurd h
      go None e refusal.NoMemory h = tt
