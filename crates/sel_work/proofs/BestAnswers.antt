-- The best cover of a tree, and the text that it expands to.
use Rattle.std.proofs.Common.{ℕ, List, sym}
use Rattle.sel_grammar.specs.declared.grammar.Grammar.{Grammar}
use Rattle.sel_grammar.specs.PlainTrees.{PlainTree}
use Rattle.sel_forest.specs.declared.forest.Cover.{Cover}
use Rattle.sel_forest.specs.declared.forest.Tree.{Tree}
use Rattle.sel_forest.specs.Covers.{IsBestCover}
use Rattle.sel_forest.specs.Postorder.{IsPostorderOf}
use Rattle.sel_expand.specs.Expanding.{IsCovered, IsDerivationBy, IsText}
use Rattle.sel_work.specs.Answers.{IsBestText}

-- a best cover is the cover of a derivation
pub best_is_covered : (g : Grammar) (tree : Tree) (cover : Cover) → ((t : PlainTree) → IsPostorderOf tree t → IsBestCover g t cover) → IsCovered g tree cover.rules
best_is_covered g tree cover best = λ t spelled.
    let b = best t spelled in
    (cover.cost, record { derivation = b.best; derives = b.is_best.derives; list_is = sym b.rules_are; cost_is = b.cost_is })

derivation_by : (g : Grammar) (tree : Tree) (cover : Cover) (t : PlainTree) → IsPostorderOf tree t → (b : IsBestCover g t cover) → IsDerivationBy g tree cover.rules t b.best
derivation_by g tree cover t spelled b = record { spelled = spelled; derives = b.is_best.derives; listed = sym b.rules_are }

-- the text of a best cover is what the best derivation expands to
pub text_is_best : (g : Grammar) (tree : Tree) (cover : Cover) (text : List ℕ) (t : PlainTree) → IsPostorderOf tree t → IsBestCover g t cover
    → IsText g tree cover.rules text → IsBestText g t cover.cost text
text_is_best g tree cover text t spelled b is =
    let emitted = is t b.best (derivation_by g tree cover t spelled b) in
    record { best = b.best; is_best = b.is_best; cost_is = b.cost_is; text_is = emitted.0; fits = emitted.1 }
