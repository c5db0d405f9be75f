-- What is kept of a labelled tree where its labels were read since.
use Rattle.std.proofs.Common.{◌≡◌, ◌⊎◌, ℕ, List, Result, Ok, Err, OnOk, sym, subst, ◌∙◌, inl, inr, arith}
use Rattle.std.specs.Prelude.{count_by}
use Rattle.sel_grammar.specs.declared.grammar.Grammar.{Grammar}
use Rattle.sel_grammar.specs.PlainTrees.{PlainTree, Node0, Node1, Node2}
use Rattle.sel_forest.specs.declared.forest.Node.{Node}
use Rattle.sel_items.specs.declared.items.Items.{Items}
use Rattle.sel_items.specs.declared.label.Label.{Label}
use Rattle.sel_items.specs.declared.label.Label.TheVariants.{Numbered}
use Rattle.sel_items.specs.Automata.{Told, IsRead}
use Rattle.sel_items.specs.Follows.{NodeKey, Follows}
use Rattle.sel_items.specs.Labels.{is_plain}
use Rattle.sel_label.specs.Labelling.{AreLabelled, IsHeld, AreHeldBelow, IsAskedKey, IsOfNumber, AddsOfTree}
use Rattle.sel_work.specs.Kept.{AreTabledKept, IsPlainCount}

pub on_ok : {A E : Type 0} (r : Result A E) (P : Type 0) → P → OnOk r P
on_ok (Ok x) P h = h
on_ok (Err e) P h = tt

module _ (g : Grammar) (P Q : Items → Type 0) (f : (i : Items) → P i → Q i) where
  is_held : (t : PlainTree) → IsHeld g P t → IsHeld g Q t
  is_held t h = (h.0, h.1, f h.0 h.2)

  below : (t : PlainTree) → AreHeldBelow g P t → AreHeldBelow g Q t
  below (Node0 op a) h = h
  below (Node1 op a t) h = (is_held t h.0, below t h.1)
  below (Node2 op a t u) h = (is_held t h.0, is_held u h.1, below t h.2, below u h.3)

module _ (g : Grammar) (nodes : List Node) (first mid last : Told) (read : IsRead mid last) where
  pub adds_read : AddsOfTree g nodes first mid → AddsOfTree g nodes first last
  adds_read adds = record {
    asked = λ k h. asked k (adds.asked k (read.tables.asked.1 k h));
    known = λ k h. adds.known k (read.tables.known.1 k h);
    held = λ i h. sets i (adds.held i (read.tables.held.1 i h));
    plain_labels = omega (arith, adds.plain_labels, read.plain_labels);
  }
    where
      asked : (k : NodeKey) → first.asked k ⊎ IsAskedKey g (IsOfNumber mid) nodes k → first.asked k ⊎ IsAskedKey g (IsOfNumber last) nodes k
      asked k (inl h) = inl h
      asked k (inr (i, (u, root, key, held))) =
          inr (i, (u, root, key, below g (IsOfNumber mid) (IsOfNumber last) (λ x h. (read.tables.held.0 x h.0, (h.1.0, read.means (Numbered h.1.0) x h.1.1))) u held))

      sets : (i : Items) → first.held i ⊎ ((k : NodeKey) × (first.asked k ⊎ IsAskedKey g (IsOfNumber mid) nodes k) × Follows mid.normal k i)
          → first.held i ⊎ ((k : NodeKey) × (first.asked k ⊎ IsAskedKey g (IsOfNumber last) nodes k) × Follows last.normal k i)
      sets i (inl h) = inl h
      sets i (inr (k, from, follows)) = inr (k, asked k from, subst (λ n. Follows n k i) (sym read.tables.normal) follows)

  module _ (labels : List Label) (h : AreLabelled g nodes mid labels) where
    labelled_read : AreLabelled g nodes last labels
    labelled_read = record {
      long = h.long;
      mean = λ i u root. let m = h.mean i u root in (m.0, m.1, ((m.2).0, read.means m.0 (m.2).0 (m.2).1, (m.2).2));
      numbered = λ i u l root at n. let x = h.numbered i u l root at n in (is_held g mid.held last.held read.tables.held.0 u x.0, x.1);
      tabled = λ e. h.tabled (sym read.tables.used_up ∙ e);
      known_keys = λ e f i u k root t is. read.tables.known.0 k (h.known_keys (sym read.tables.used_up ∙ e) (sym read.tables.row_full ∙ f) i u k root t is);
    }

    pub kept : AreTabledKept g nodes last
    kept = record {
      sets = λ e i u root t.
          let m = labelled_read.mean i u root in
          let n = labelled_read.tabled e i u m.0 root t m.1 in
          (labelled_read.numbered i u m.0 root m.1 n).0;
      keys = λ e f. labelled_read.known_keys e f;
    }

    pub plain_count : (n : ℕ) → n ≡ count_by is_plain labels → IsPlainCount g nodes last n
    plain_count n e = record { labels = labels; labelled = labelled_read; count = e }
