-- Lines, one after the other.
use Rattle.std.proofs.Common.{◌≡◌, ℕ, zero, suc, ◌+◌, Bool, true, false, Option, Some, None, List, [], ◌∷◌, ◌++◌, refl, ap, sym, ◌∙◌, append_assoc, slice_get, length, ◌≤◌, take, drop, add-one}
use Rattle.std.proofs.Math.Seq.{take-length}
use Rattle.sel_grammar.specs.declared.grammar.Grammar.{Grammar}
use Rattle.sel_grammar.specs.Expansions.{Text}
use Rattle.sel_forest.specs.declared.forest.Node.{Node}
use Rattle.sel_forest.proofs.PlaceLemmas.{append-none}
use Rattle.sel_expand.specs.declared.templates.Kind.{Kind}
use Rattle.sel_expand.specs.declared.templates.Kind.TheVariants.{Named, Unnamed, Fragment}
use Rattle.sel_expand.specs.Reductions.{Reduced}
use Rattle.sel_expand.specs.Sheets.{shown, IsOver, IsCut, IsWhole}
use Rattle.sel_expand.specs.Expanding.{longest_text}
use Rattle.sel_expand.specs.Values.{filled_at, line_by, line_of, lines_of}
use Rattle.sel_expand.specs.Printing.{rest_of, is_line, is_line_kind, line_at}
use Rattle.sel_expand.proofs.Sheets.{shown-append, cut_more, cut_whole}

module _ (g : Grammar) (nodes : List Node) (texts : List Text) where
  pub line_rest : (o : Option Reduced) → is_line o ≡ true → rest_of g nodes texts o 0 ≡ line_at g nodes texts o
  line_rest None h = refl
  line_rest (Some r) h = go r.own.kind h (filled_at g nodes texts r)
    where
      go : (k : Kind) → is_line_kind k ≡ true → (f : Text) → f ≡ line_by k f
      go Named e f = refl
      go Unnamed e f = refl
      go Fragment e f = cc

  pub line_none : (o : Option Reduced) → is_line o ≡ false → [] ≡ line_at g nodes texts o
  line_none None h = refl
  line_none (Some r) h = go r.own.kind h (filled_at g nodes texts r)
    where
      go : (k : Kind) → is_line_kind k ≡ false → (f : Text) → [] ≡ line_by k f
      go Named e f = cc
      go Unnamed e f = cc
      go Fragment e f = refl

  lines-suc : (rs : List Reduced) (k : ℕ) → lines_of g nodes texts (take (suc k) rs) ≡ lines_of g nodes texts (take k rs) ++ line_at g nodes texts (slice_get rs k)
  lines-suc [] zero = refl
  lines-suc [] (suc k) = refl
  lines-suc (r ∷ rs) zero = sym (append-none (line_of g nodes texts r))
  lines-suc (r ∷ rs) (suc k) =
      ap (λ x. line_of g nodes texts r ++ x) (lines-suc rs k) ∙ sym (append_assoc (line_of g nodes texts r) (lines_of g nodes texts (take k rs)) (line_at g nodes texts (slice_get rs k)))

  pub lines-more : (b : Bool) (rs : List Reduced) (k : ℕ) → shown b (lines_of g nodes texts (take k rs)) ++ shown b (line_at g nodes texts (slice_get rs k)) ≡ shown b (lines_of g nodes texts (take (k + 1) rs))
  lines-more b rs k = sym (shown-append b (lines_of g nodes texts (take k rs)) (line_at g nodes texts (slice_get rs k))) ∙ ap (shown b) (sym (lines-suc rs k) ∙ ap (λ n. lines_of g nodes texts (take n rs)) (sym (add-one k)))

  lines-split : (rs : List Reduced) (k : ℕ) → lines_of g nodes texts (take k rs) ++ lines_of g nodes texts (drop k rs) ≡ lines_of g nodes texts rs
  lines-split rs zero = refl
  lines-split [] (suc k) = refl
  lines-split (r ∷ rs) (suc k) = append_assoc (line_of g nodes texts r) (lines_of g nodes texts (take k rs)) (lines_of g nodes texts (drop k rs)) ∙ ap (λ x. line_of g nodes texts r ++ x) (lines-split rs k)

  -- the first lines are a front of all that is printed
  pub lines_front : (b : Bool) (rs : List Reduced) (k : ℕ) (value : Text)
      → shown b (lines_of g nodes texts (take k rs)) ++ shown b (lines_of g nodes texts (drop k rs) ++ value) ≡ shown b (lines_of g nodes texts rs ++ value)
  lines_front b rs k value =
      sym (shown-append b (lines_of g nodes texts (take k rs)) (lines_of g nodes texts (drop k rs) ++ value))
      ∙ ap (shown b) (sym (append_assoc (lines_of g nodes texts (take k rs)) (lines_of g nodes texts (drop k rs)) value) ∙ ap (λ x. x ++ value) (lines-split rs k))

  module _ (b : Bool) (rs : List Reduced) (k : ℕ) (out out' : Text) (so_far : out ≡ shown b (lines_of g nodes texts (take k rs))) where
    -- a line more
    pub line_done : out' ≡ out ++ shown b (line_at g nodes texts (slice_get rs k)) → out' ≡ shown b (lines_of g nodes texts (take (k + 1) rs))
    line_done e = e ∙ ap (λ x. x ++ shown b (line_at g nodes texts (slice_get rs k))) so_far ∙ lines-more b rs k

    -- the sheet is full within a line
    pub line_cut : (value : Text) → IsCut b out' (out ++ shown b (line_at g nodes texts (slice_get rs k))) → IsCut b out' (shown b (lines_of g nodes texts rs ++ value))
    line_cut value c = cut_more b out' (out ++ shown b (line_at g nodes texts (slice_get rs k))) (shown b (lines_of g nodes texts (drop (k + 1) rs) ++ value)) (shown b (lines_of g nodes texts rs ++ value))
        (ap (λ x. x ++ shown b (lines_of g nodes texts (drop (k + 1) rs) ++ value)) (line_done_as refl) ∙ lines_front b rs (k + 1) value) c
      where
        line_done_as : {x : Text} → x ≡ out ++ shown b (line_at g nodes texts (slice_get rs k)) → x ≡ shown b (lines_of g nodes texts (take (k + 1) rs))
        line_done_as e = e ∙ ap (λ y. y ++ shown b (line_at g nodes texts (slice_get rs k))) so_far ∙ lines-more b rs k

  -- the value stands behind all lines
  pub value_last : (b : Bool) (rs : List Reduced) (k : ℕ) (out value : Text) → k ≡ length rs → out ≡ shown b (lines_of g nodes texts (take k rs)) → out ++ shown b value ≡ shown b (lines_of g nodes texts rs ++ value)
  value_last b rs k out value end so_far =
      ap (λ x. x ++ shown b value) (so_far ∙ ap (λ x. shown b (lines_of g nodes texts x)) (ap (λ n. take n rs) end ∙ take-length rs)) ∙ sym (shown-append b (lines_of g nodes texts rs) value)

-- a sheet that shows all may be full
pub whole_by : (b full : Bool) (out target : Text) → (full ≡ true → IsOver b out) → (full ≡ false → b ≡ false → length out ≤ longest_text) → out ≡ target → IsWhole full b out target
whole_by b true out target over within e = cut_whole b out target e (over refl)
whole_by b false out target over within e = (e, within refl)
