-- Writing the best derivation's list goal by goal.
use Rattle.std.proofs.Common.{◌≡◌, ℕ, inl, inr, Option, Some, None, List, [], ◌∷◌, ◌++◌, refl, ap, sym, ◌∙◌, subst, reverse, append_assoc, arith, length}
use Rattle.std.proofs.lemmas.List.{reverse-append, reverse-reverse}
use Rattle.sel_grammar.specs.declared.grammar.Grammar.{Grammar}
use Rattle.sel_grammar.specs.declared.grammar.Rule.{Rule}
use Rattle.sel_grammar.specs.Costs.{Cost}
use Rattle.sel_grammar.specs.PlainTrees.{PlainTree}
use Rattle.sel_grammar.specs.Fits.{leaves, rule_at}
use Rattle.sel_grammar.specs.Derivations.{Derivation, Deriv, Derivations, no_more, more, cost, list, lists}
use Rattle.sel_grammar.specs.Firsts.{IsBefore}
use Rattle.sel_grammar.specs.Firsts.{IsFirst, AllFirst, Leads, IsLesser}
use Rattle.sel_grammar.specs.Firsts.{IsKept}
use Rattle.sel_forest.specs.declared.forest.Node.{Node}
use Rattle.sel_plain.specs.declared.entry.Entry.{Entry}
use Rattle.sel_forest.specs.declared.walk.Goal.{Goal}
use Rattle.sel_plain.specs.Rows.{Row, entry_at, row_at}
use Rattle.sel_plain.specs.BestRows.{IsBestEntry, AreBestRows}
use Rattle.sel_forest.specs.Places.{IsRootAt}
use Rattle.sel_plain.specs.Writing.{BestFor, IsHalfWritten, HasRule, WritesRule}
use Rattle.sel_forest.specs.Places.{goals}
use Rattle.sel_forest.proofs.Matching.{Match, goals_match, within}
use Rattle.sel_grammar.proofs.Kids.{both_kids, lists-both}
use Rattle.sel_grammar.proofs.CostLaws.{cheaper_not_both, cheaper_not_same}
use Rattle.sel_forest.proofs.Lying.{fits_subtrees}
use Rattle.sel_forest.proofs.Matching.{some_same}

-- the best derivation is one
before_not_both : (xs ys : List ℕ) → IsBefore xs ys → IsBefore ys xs → ⊥
before_not_both [] ys h k = h
before_not_both (x ∷ xs) [] h k = h
before_not_both (x ∷ xs) (y ∷ ys) (inl h) (inl k) = absurd (omega arith)
before_not_both (x ∷ xs) (y ∷ ys) (inl h) (inr k) = let q = k.0 in absurd (omega arith)
before_not_both (x ∷ xs) (y ∷ ys) (inr h) (inl k) = let q = h.0 in absurd (omega arith)
before_not_both (x ∷ xs) (y ∷ ys) (inr h) (inr k) = before_not_both xs ys h.1 k.1

lesser_not_both : (a b : Cost) (xs ys : List ℕ) → IsLesser a xs b ys → IsLesser b ys a xs → ⊥
lesser_not_both a b xs ys (inl h) (inl k) = cheaper_not_both a b h k
lesser_not_both a b xs ys (inl h) (inr k) = cheaper_not_same a b h k.0
lesser_not_both a b xs ys (inr h) (inl k) = cheaper_not_same b a k h.0
lesser_not_both a b xs ys (inr h) (inr k) = before_not_both xs ys h.1 k.1

pub same_first : (g : Grammar) (d e : Derivation) (n : ℕ) (t : PlainTree) → IsFirst g d n t → IsFirst g e n t → d ≡ e
same_first g d e n t f h = go (f.leads e h.derives) (h.leads d f.derives)
  where
    go : Leads g d e → Leads g e d → d ≡ e
    go (inl q) k = sym q
    go (inr q) (inl k) = k
    go (inr q) (inr k) = absurd (lesser_not_both (cost g d) (cost g e) (list d) (list e) q k)

BestFor-match : (g : Grammar) (nodes : List Node) (ds : Derivations) (xs : List Goal) (ns : List ℕ) (ts : List PlainTree) → AllFirst g ds ns ts → Match nodes xs ns ts → BestFor g nodes ds xs
BestFor-match g nodes no_more [] [] [] f h = tt
BestFor-match g nodes no_more (x ∷ xs) [] [] f h = absurd h
BestFor-match g nodes no_more xs [] (t ∷ ts) f h = absurd f
BestFor-match g nodes no_more xs (n ∷ ns) ts f h = absurd f
BestFor-match g nodes (more d ds) xs [] ts f h = absurd f
BestFor-match g nodes (more d ds) xs (n ∷ ns) [] f h = absurd f
BestFor-match g nodes (more d ds) [] (n ∷ ns) (t ∷ ts) f h = absurd h
BestFor-match g nodes (more d ds) (x ∷ xs) (n ∷ ns) (t ∷ ts) f h =
    ((t, h.1, subst (λ m. IsFirst g d m t) (sym h.0) f.0), BestFor-match g nodes ds xs ns ts f.1 h.2)

BestFor-both : (g : Grammar) (nodes : List Node) (ds es : Derivations) (xs ys : List Goal) → BestFor g nodes ds xs → BestFor g nodes es ys → BestFor g nodes (both_kids ds es) (xs ++ ys)
BestFor-both g nodes no_more es [] ys h k = k
BestFor-both g nodes no_more es (x ∷ xs) ys h k = absurd h
BestFor-both g nodes (more d ds) es [] ys h k = absurd h
BestFor-both g nodes (more d ds) es (x ∷ xs) ys h k = (h.0, BestFor-both g nodes ds es xs ys h.1 k)

module _ (g : Grammar) (nodes : List Node) (rows : List Row) (means : AreBestRows g nodes rows (length nodes)) (next : Goal) where
  -- the table's entry for a goal is the best derivation's
  record IsTop (d : Derivation) : Type 0 where
    tree : PlainTree
    root : IsRootAt nodes next.at tree
    entry : Entry
    there : entry_at (row_at rows next.at) next.nonterminal ≡ Some entry
    kids : Derivations
    kept : IsKept g tree next.nonterminal entry.cost entry.rule kids
    same : d ≡ Deriv entry.rule kids

  top : (d : Derivation) (t : PlainTree) → IsRootAt nodes next.at t → IsFirst g d next.nonterminal t → IsTop d
  top d t root first = go (entry_at (row_at rows next.at) next.nonterminal) refl (means next.at t (within nodes next.at t root) root next.nonterminal)
    where
      go : (o : Option Entry) → entry_at (row_at rows next.at) next.nonterminal ≡ o → IsBestEntry g next.nonterminal t o → IsTop d
      go None e h = absurd (h d first.derives)
      go (Some x) e h = record {
        tree = t;
        root = root;
        entry = x;
        there = e;
        kids = (h.0).0;
        kept = (h.0).1;
        same = same_first g d (Deriv x.rule (h.0).0) next.nonterminal t first ((h.0).1).first;
      }

  -- the first derivation of those for the goals, and the others
  record Parts (kids : Derivations) (rest : List Goal) : Type 0 where
    d : Derivation
    ds : Derivations
    are : kids ≡ more d ds
    top_is : IsTop d
    others : BestFor g nodes ds rest

  parts : (kids : Derivations) (rest : List Goal) → BestFor g nodes kids (next ∷ rest) → Parts kids rest
  parts no_more rest h = absurd h
  parts (more d ds) rest h = record { d = d; ds = ds; are = refl; top_is = top d (h.0).0 (h.0).1 (h.0).2; others = h.1 }

  has_rule : (d : Derivation) → IsTop d → (number : ℕ) × ((rule : Rule) × HasRule g rows next number rule)
  has_rule d t = (t.entry.rule, (t.kept.rule, record { entry = t.entry; there = t.there; number_is = refl; numbered = t.kept.numbered }))

  -- what the step's goals are for
  pushed : (d : Derivation) (t : IsTop d) (number : ℕ) (rule : Rule) → HasRule g rows next number rule → (number ≡ t.entry.rule) × BestFor g nodes t.kids (goals rule.pattern nodes next.at)
  pushed d t number rule h =
      let same : h.entry ≡ t.entry = some_same (sym h.there ∙ t.there) in
      let number_is : number ≡ t.entry.rule = sym h.number_is ∙ ap (λ (e : Entry). e.rule) same in
      let rule_is : t.kept.rule ≡ rule = some_same (sym t.kept.numbered ∙ ap (rule_at g) (sym number_is) ∙ h.numbered) in (
        number_is,
        subst (λ (x : Rule). BestFor g nodes t.kids (goals x.pattern nodes next.at)) rule_is
            (BestFor-match g nodes t.kids (goals t.kept.rule.pattern nodes next.at) (leaves t.kept.rule.pattern) t.kept.subtrees t.kept.firsts
            (goals_match nodes t.kept.rule.pattern next.at t.tree t.kept.subtrees t.root (fits_subtrees t.kept.rule t.tree t.kept.subtrees t.kept.fitting))),
      )

  module _ (goal : Goal) (written : List ℕ) (stack : List Goal) (partly : IsHalfWritten g nodes goal written (stack ++ next ∷ [])) where
    now : Parts partly.kids (reverse stack)
    now = parts partly.kids (reverse stack) (subst (λ x. BestFor g nodes partly.kids x) (reverse-append stack (next ∷ [])) partly.for)

    pub top_rule : (number : ℕ) × ((rule : Rule) × HasRule g rows next number rule)
    top_rule = has_rule now.d now.top_is

    pub IsHalfWritten-step : (new : List ℕ) (left : List Goal) → WritesRule g nodes rows next written new stack left → IsHalfWritten g nodes goal new left
    IsHalfWritten-step new left s =
        let n = now in
        let p = pushed n.d n.top_is s.number s.rule s.has in
        let kids = both_kids n.top_is.kids n.ds in
        let gs = goals s.rule.pattern nodes next.at in
        let order : reverse left ≡ gs ++ reverse stack = ap reverse s.pushes ∙ reverse-append stack (reverse gs) ∙ ap (λ x. x ++ reverse stack) (reverse-reverse gs) in
        let listed : lists partly.kids ≡ (s.number ∷ lists n.top_is.kids) ++ lists n.ds =
        ap lists n.are ∙ ap (λ x. list x ++ lists n.ds) n.top_is.same ∙ ap (λ x. (x ∷ lists n.top_is.kids) ++ lists n.ds) (sym p.0) in
        record {
          tree = partly.tree;
          root = partly.root;
          best = partly.best;
          first = partly.first;
          kids = kids;
          for = subst (λ x. BestFor g nodes kids x) (sym order) (BestFor-both g nodes n.top_is.kids n.ds gs (reverse stack) p.1 n.others);
          whole = partly.whole ∙ ap (λ x. written ++ x) listed ∙ sym (append_assoc written (s.number ∷ []) (lists n.top_is.kids ++ lists n.ds))
              ∙ ap (λ x. x ++ (lists n.top_is.kids ++ lists n.ds)) (sym s.writes) ∙ ap (λ x. new ++ x) (sym (lists-both n.top_is.kids n.ds));
        }
