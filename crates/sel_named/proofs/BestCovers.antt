-- The text of a best cover.
use Rattle.std.proofs.Common.{ℕ, List, sym, Result, Ok, Err, IfOk}
use Rattle.sel_grammar.specs.declared.grammar.Grammar.{Grammar}
use Rattle.sel_grammar.specs.PlainTrees.{PlainTree}
use Rattle.sel_forest.specs.declared.forest.Cover.{Cover}
use Rattle.sel_forest.specs.declared.forest.Tree.{Tree}
use Rattle.sel_forest.specs.Covers.{IsBestCover}
use Rattle.sel_forest.specs.Postorder.{IsPostorderOf}
use Rattle.sel_expand.specs.Expanding.{IsCovered}
use Rattle.sel_named.specs.NamedTexts.{IsNamedText, IsBestNamed}
use Rattle.sel_named.specs.declared.texts.NamedText.{NamedText}

-- a best cover is the cover of a derivation
pub best_is_covered : (g : Grammar) (tree : Tree) (cover : Cover) → ((t : PlainTree) → IsPostorderOf tree t → IsBestCover g t cover) → IsCovered g tree cover.rules
best_is_covered g tree cover best = λ t spelled.
    let b = best t spelled in
    (cover.cost, record { derivation = b.best; derives = b.is_best.derives; list_is = sym b.rules_are; cost_is = b.cost_is })

-- what becomes of its text becomes of what the best derivation expands to
named_is_best : (g : Grammar) (tree : Tree) (cover : Cover) (names : List (List ℕ)) (answer : NamedText) (t : PlainTree) → IsPostorderOf tree t → IsBestCover g t cover
    → IsNamedText g tree cover.rules names answer → IsBestNamed g t names cover.cost answer
named_is_best g tree cover names answer t spelled b is = record {
  best = b.best;
  is_best = b.is_best;
  cost_is = b.cost_is;
  named = is t b.best (record { spelled = spelled; derives = b.is_best.derives; listed = sym b.rules_are });
}

pub named_are_best : {E : Type 0} (g : Grammar) (tree : Tree) (cover : Cover) (names : List (List ℕ)) (result : Result NamedText E)
    → ((t : PlainTree) → IsPostorderOf tree t → IsBestCover g t cover) → IfOk result (λ answer. IsNamedText g tree cover.rules names answer)
    → IfOk result (λ answer. (t : PlainTree) → IsPostorderOf tree t → IsBestNamed g t names cover.cost answer)
named_are_best g tree cover names (Err fault) best is = tt
named_are_best g tree cover names (Ok answer) best is = λ t spelled. named_is_best g tree cover names answer t spelled (best t spelled) is
