-- The root's entry and the written list make the best cover.
use Rattle.std.proofs.Common.{◌≡◌, ℕ, ◌-◌, Some, None, List, [], ◌∷◌, ◌++◌, refl, ap, sym, ◌∙◌, subst, arith, length}
use Rattle.sel_grammar.specs.declared.grammar.Grammar.{Grammar}
use Rattle.sel_grammar.specs.PlainTrees.{PlainTree}
use Rattle.sel_grammar.specs.Derivations.{Deriv, Derivations, no_more, more, cost, list, lists}
use Rattle.sel_grammar.specs.Best.{HasNone}
use Rattle.sel_grammar.proofs.Firsts.{IsBest-first}
use Rattle.sel_grammar.specs.Firsts.{IsFirst}
use Rattle.sel_forest.specs.declared.forest.Node.{Node}
use Rattle.sel_forest.specs.Postorder.{postorder}
use Rattle.sel_plain.specs.declared.entry.Entry.{Entry}
use Rattle.sel_forest.specs.declared.walk.Goal.{Goal}
use Rattle.sel_plain.specs.Rows.{Row, entry_at, row_at}
use Rattle.sel_plain.specs.BestRows.{IsBestEntry, AreBestRows}
use Rattle.sel_plain.specs.Writing.{BestFor, IsHalfWritten}
use Rattle.sel_forest.specs.Covers.{IsBestCover}
use Rattle.sel_forest.proofs.PlaceLemmas.{append-none}
use Rattle.sel_plain.proofs.Writing.{same_first}
use Rattle.sel_forest.proofs.Roots.{same_tree, stands_root, some_node}

module _ (g : Grammar) (nodes : List Node) (rows : List Row) (t : PlainTree) (h : nodes ≡ postorder 0 t) (means : AreBestRows g nodes rows (length nodes)) where
  at_root : IsBestEntry g g.start t (entry_at (row_at rows (length nodes - 1)) g.start)
  at_root = let some = some_node nodes t h in means (length nodes - 1) t (omega arith) (stands_root nodes t h) g.start

  pub root_none : None ≡ entry_at (row_at rows (length nodes - 1)) g.start → HasNone g g.start t
  root_none e = subst (λ o. IsBestEntry g g.start t o) (sym e) at_root

  root_some : (e : Entry) → Some e ≡ entry_at (row_at rows (length nodes - 1)) g.start → IsBestEntry g g.start t (Some e)
  root_some e q = subst (λ o. IsBestEntry g g.start t o) (sym q) at_root

  abbrev root_goal : Goal
  root_goal = record { at = length nodes - 1; nonterminal = g.start }

  pub root_partly : (e : Entry) → Some e ≡ entry_at (row_at rows (length nodes - 1)) g.start → IsHalfWritten g nodes root_goal [] (root_goal ∷ [])
  root_partly e q =
      let m = (root_some e q).0 in
      let best = Deriv e.rule m.0 in
      record {
        tree = t;
        root = stands_root nodes t h;
        best = best;
        first = (m.1).first;
        kids = more best no_more;
        for = ((t, stands_root nodes t h, (m.1).first), tt);
        whole = append-none (list best);
      }

  no_kids : (kids : Derivations) → BestFor g nodes kids [] → lists kids ≡ []
  no_kids no_more k = refl
  no_kids (more d ds) k = absurd k

  pub root_best : (e : Entry) (rules : List ℕ) → Some e ≡ entry_at (row_at rows (length nodes - 1)) g.start → IsHalfWritten g nodes root_goal rules []
      → IsBestCover g t (record { cost = e.cost; rules = rules })
  root_best e rules q partly =
      let m = (root_some e q).0 in
      let tree : partly.tree ≡ t = same_tree nodes (length nodes - 1) partly.tree t partly.root (stands_root nodes t h) in
      let first : IsFirst g partly.best g.start t = subst (λ x. IsFirst g partly.best g.start x) tree partly.first in
      let same : Deriv e.rule m.0 ≡ partly.best = same_first g (Deriv e.rule m.0) partly.best g.start t (m.1).first first in
      record {
        best = partly.best;
        is_best = IsBest-first g partly.best g.start t first;
        cost_is = (m.1).priced ∙ ap (cost g) same;
        rules_are = sym (partly.whole ∙ ap (λ x. rules ++ x) (no_kids partly.kids partly.for) ∙ sym (append-none rules));
      }
