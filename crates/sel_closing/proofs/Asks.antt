-- What parts and passes asked.
use Rattle.std.proofs.Common.{◌≡◌, ◌⊎◌, inl, inr, List, Bool, true, false, Some, sym, ap, subst, ◌∙◌}
use Rattle.std.specs.List.{Contains}
use Rattle.std.proofs.lemmas.Option.{slice_get-get_or}
use Rattle.sel_grammar.specs.declared.grammar.Grammar.{Grammar}
use Rattle.sel_grammar.specs.PlainTrees.{PlainTree, Node0, Node1, Node2}
use Rattle.sel_forest.specs.declared.forest.Tree.{Tree}
use Rattle.sel_items.specs.declared.items.Items.{Items}
use Rattle.sel_items.specs.Automata.{Told, Keeps}
use Rattle.sel_items.specs.Follows.{NodeKey}
use Rattle.sel_items.specs.Words.{FitsWords}
use Rattle.sel_label.specs.Labelling.{AreHeldBelow, IsAskedKey, IsOfNumber}
use Rattle.sel_law.specs.declared.View.{View}
use Rattle.sel_law.specs.Words.{In}
use Rattle.sel_law.proofs.Base.{in_nil}
use Rattle.sel_rows.specs.Meanings.{IsAsked, IsKnown, IsHeld}
use Rattle.sel_rows.specs.Told.{pass_view, told_of_pass}
use Rattle.sel_count.specs.Things.{IsAskableKey}
use Rattle.sel_count.proofs.Asked.{asked_may_be_asked, asked_of_more}
use Rattle.sel_closing.specs.Asking.{told_of_part, AsksOnly, TellsMore}
use Rattle.sel_closing.specs.Laws.{ForestsAreValid, FreshAskNothing, AskOfMore, PassesTellOfParts, AnswersAskOnly, AnswersTellMore}

pub forests_are_valid : ForestsAreValid
forests_are_valid g forest valid tree c = valid.trees c.0 tree (slice_get-get_or forest.trees c.0 tree c.1 ∙ ap Some c.2)

none_set : {A : Type 0} (b : Bool) → b ≡ false → b ≡ true → A
none_set b f t = absurd (let e : true ≡ false = sym t ∙ f in cc)

pub fresh_ask_nothing : FreshAskNothing
fresh_ask_nothing g trees parts fresh p i = record {
  keys = λ k h. absurd (in_nil h.0 (subst (λ l. In h.0 l) ((fresh p i).new).asked h.1));
  some_tree = λ f. none_set p.row_full ((fresh p i).new).row_full f;
}

pub more_trees : (g : Grammar) (trees more : List Tree) (told : Told) → ((tree : Tree) → Contains trees tree → Contains more tree) → AsksOnly g trees told → AsksOnly g more told
more_trees g trees more told all asks = record {
  keys = λ k h. asked_of_more g trees more k all (asks.keys k h);
  some_tree = λ f. (let t = asks.some_tree f in (t.0, all t.0 t.1));
}

pub ask_of_more : AskOfMore
ask_of_more g trees more parts all asks p i = more_trees g trees more (told_of_part p) all (asks p i)

-- what is told of a view and of marks, where the plain labels and the normal form are any
pub passes_tell_of_parts : PassesTellOfParts
passes_tell_of_parts p s of = (
  record {
    asked = λ k h. subst (λ (v : View). IsAsked v k) (sym of.view) h;
    known = λ k h. subst (λ (v : View). IsKnown v k) (sym of.view) h;
    held = λ i h. subst (λ (v : View). IsHeld v i) (sym of.view) h;
    used_up = λ u. of.used_up ∙ u;
    row_full = λ f. of.row_full ∙ f;
  },
  record {
    asked = λ k h. subst (λ (v : View). IsAsked v k) of.view h;
    known = λ k h. subst (λ (v : View). IsKnown v k) of.view h;
    held = λ i h. subst (λ (v : View). IsHeld v i) of.view h;
    used_up = λ u. sym of.used_up ∙ u;
    row_full = λ f. sym of.row_full ∙ f;
  },
  λ g trees. (
    λ asks. record {
      keys = λ k h. asks.keys k (subst (λ (v : View). IsAsked v k) of.view h);
      some_tree = λ f. asks.some_tree (sym of.row_full ∙ f);
    },
    λ asks. record {
      keys = λ k h. asks.keys k (subst (λ (v : View). IsAsked v k) (sym of.view) h);
      some_tree = λ f. asks.some_tree (of.row_full ∙ f);
    },
  ),
)

fits_below : (g : Grammar) (P : Items → Type 0) → ((i : Items) → P i → FitsWords i) → (t : PlainTree) → AreHeldBelow g P t → AreHeldBelow g FitsWords t
fits_below g P f (Node0 op a) h = h
fits_below g P f (Node1 op a t) h = ((h.0.0, h.0.1, f h.0.0 h.0.2), fits_below g P f t h.1)
fits_below g P f (Node2 op a t u) h = ((h.0.0, h.0.1, f h.0.0 h.0.2), (h.1.0, h.1.1, f h.1.0 h.1.2), fits_below g P f t h.2, fits_below g P f u h.3)

pub answers_ask_only : AnswersAskOnly
answers_ask_only g trees tree old new c adds asks = record {
  keys = λ k h. may k (adds.asked k h);
  some_tree = λ f. (tree, c);
}
  where
    fits : (i : Items) → IsOfNumber (told_of_pass new) i → FitsWords i
    fits i h = (h.1.1).fits

    may : (k : NodeKey) → IsAsked (pass_view old) k ⊎ IsAskedKey g (IsOfNumber (told_of_pass new)) tree.nodes k → IsAskableKey g trees k
    may k (inl h) = asks.keys k h
    may k (inr (i, (u, root, key, below))) = asked_may_be_asked g trees tree k c (i, (u, root, key, fits_below g (IsOfNumber (told_of_pass new)) fits u below))

pub tells_more : (old new : Told) → Keeps old new → TellsMore old new
tells_more old new k = record { asked = k.asked; known = k.known; held = k.held; used_up = k.used_up; row_full = k.row_full }

pub answers_tell_more : AnswersTellMore
answers_tell_more old new k = tells_more (told_of_pass old) (told_of_pass new) k
