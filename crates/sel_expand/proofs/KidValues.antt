-- The value of a reduction of each kind.
use Rattle.std.proofs.Common.{◌≡◌, ℕ, Bool, Option, Some, None, List, [], ◌∷◌, ◌++◌, ap, sym, ◌∙◌, slice_get, refl, map}
use Rattle.sel_grammar.specs.declared.emission.Emitted.TheVariants.{Temporary}
use Rattle.sel_grammar.specs.declared.grammar.Grammar.{Grammar}
use Rattle.sel_grammar.specs.declared.grammar.Part.{Part}
use Rattle.sel_grammar.specs.declared.grammar.Part.TheVariants as Parts
use Rattle.sel_grammar.specs.Expansions.{Text, value_or_none, filled}
use Rattle.sel_forest.specs.declared.forest.Node.{Node}
use Rattle.sel_forest.proofs.Matching.{some_same}
use Rattle.sel_forest.proofs.PlaceLemmas.{append-none}
use Rattle.sel_expand.specs.declared.sheet.Span.{Span}
use Rattle.sel_expand.specs.declared.templates.Kind.{Kind}
use Rattle.sel_expand.specs.declared.templates.Kind.TheVariants.{Named, Unnamed, Fragment}
use Rattle.sel_expand.specs.Reductions.{Reduced}
use Rattle.sel_expand.specs.Running.{attribute_at, parts_at}
use Rattle.sel_expand.specs.Sheets.{shown}
use Rattle.sel_expand.specs.Values.{text_at, filled_at, value_by, AreTexts}
use Rattle.sel_expand.specs.Printing.{only_part, Puts, printed, postponed, part_wanted, IsKidOf}
use Rattle.sel_expand.proofs.Sheets.{none_both, text_of_kid, text_or_none, shown-none}

only_is : (parts : List Part) (part : Part) → only_part parts ≡ Some part → parts ≡ part ∷ []
only_is [] part h = cc
only_is (x ∷ []) part h = ap (λ y. y ∷ []) (some_same h)
only_is (x ∷ y ∷ parts) part h = cc

module _ (g : Grammar) (nodes : List Node) (rs : List Reduced) (texts : List Text) (are : AreTexts g nodes rs texts) (i : ℕ) where
  pub no_value : slice_get rs i ≡ None → [] ≡ text_at texts i
  no_value h = sym (ap value_or_none (none_both rs texts i are.long h))

  module _ (r : Reduced) (at : slice_get rs i ≡ Some r) where
    value_is : (k : Kind) → r.own.kind ≡ k → value_by k r.own.next (filled_at g nodes texts r) ≡ text_at texts i
    value_is k e = sym (are.each i r at ∙ ap (λ x. value_by x r.own.next (filled_at g nodes texts r)) e)

    pub named_value : r.own.kind ≡ Named → Temporary r.own.next ∷ [] ≡ text_at texts i
    named_value e = value_is Named e

    -- the value of a fragment with one part
    pub part_value : (part : Part) → r.own.kind ≡ Fragment → only_part (parts_at g r.own.rule) ≡ Some part → part_wanted nodes r part texts ≡ text_at texts i
    part_value part e only =
        append-none (part_wanted nodes r part texts) ∙ ap (filled (map (text_at texts) r.kids) (attribute_at nodes r.own.at) r.own.next) (sym (only_is (parts_at g r.own.rule) part only)) ∙ value_is Fragment e

    pub unnamed_value : r.own.kind ≡ Unnamed → [] ≡ text_at texts i
    unnamed_value e = value_is Unnamed e

-- nothing is appended where nothing is wanted
pub shows_none : (b : Bool) (out text : Text) → [] ≡ text → out ≡ out ++ shown b text
shows_none b out text e = append-none out ∙ ap (λ x. out ++ x) (sym (shown-none b) ∙ ap (shown b) e)

pub puts_kid : (b : Bool) (g : Grammar) (nodes : List Node) (rs : List Reduced) (spans : List (Option Span)) (out out' : Text) (later : Option ℕ) (r : Reduced) (part : Part) (k i : ℕ) → part ≡ Parts.Kid k → slice_get r.kids k ≡ Some i
    → Puts b g nodes rs spans out out' later (λ texts. text_at texts i) (λ j. j ≡ i) → Puts b g nodes rs spans out out' later (part_wanted nodes r part) (IsKidOf r)
puts_kid b g nodes rs spans out out' later r part k i kid at p = go p
  where
    wants : (texts : List Text) → part_wanted nodes r part texts ≡ text_at texts i
    wants texts = ap (λ x. part_wanted nodes r x texts) kid ∙ text_of_kid texts r.kids k ∙ ap (text_or_none texts) at

    go : Puts b g nodes rs spans out out' later (λ texts. text_at texts i) (λ j. j ≡ i) → Puts b g nodes rs spans out out' later (part_wanted nodes r part) (IsKidOf r)
    go (printed none is) = printed none (λ texts are hold. is texts are hold ∙ ap (λ x. out ++ shown b x) (sym (wants texts)))
    go (postponed j x some is there fragment same value) = postponed j x some (k, at ∙ ap Some (sym is)) there fragment same (λ texts. wants texts ∙ ap (text_at texts) (sym is))

-- a part that is printed at once
pub puts_part : (b : Bool) (g : Grammar) (nodes : List Node) (rs : List Reduced) (spans : List (Option Span)) (out out' : Text) (r : Reduced) (part : Part) (text : Text) → ((texts : List Text) → part_wanted nodes r part texts ≡ text)
    → out' ≡ out ++ shown b text → Puts b g nodes rs spans out out' None (part_wanted nodes r part) (IsKidOf r)
puts_part b g nodes rs spans out out' r part text wants e = printed refl (λ texts are hold. e ∙ ap (λ x. out ++ shown b x) (sym (wants texts)))

-- a fragment that is printed at once
pub puts_fragment : (b : Bool) (g : Grammar) (nodes : List Node) (rs : List Reduced) (spans : List (Option Span)) (out out' : Text) (kid : ℕ) (r : Reduced) (part : Part) (text : Text) → slice_get rs kid ≡ Some r → r.own.kind ≡ Fragment
    → only_part (parts_at g r.own.rule) ≡ Some part → ((texts : List Text) → part_wanted nodes r part texts ≡ text) → out' ≡ out ++ shown b text → Puts b g nodes rs spans out out' None (λ texts. text_at texts kid) (λ j. j ≡ kid)
puts_fragment b g nodes rs spans out out' kid r part text at fragment only wants e =
    printed refl (λ texts are hold. e ∙ ap (λ x. out ++ shown b x) (sym (wants texts) ∙ part_value g nodes rs texts are kid r at part fragment only))
