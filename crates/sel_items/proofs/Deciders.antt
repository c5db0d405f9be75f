-- The class of a node's key decides the ranges of the rules that lie over it.
use Rattle.std.proofs.Common.{◌≡◌, ℕ, refl, ap, sym, ◌∙◌, Option, Some, None, List, true}
use Rattle.sel_base.specs.declared.range.Range.{Range}
use Rattle.sel_grammar.specs.declared.grammar.Attribute.{Attribute}
use Rattle.sel_grammar.specs.declared.grammar.Attribute.TheVariants.{Absent, Number, Symbol}
use Rattle.sel_grammar.specs.declared.grammar.Grammar.{Grammar}
use Rattle.sel_grammar.specs.declared.grammar.Pattern.{Nullary}
use Rattle.sel_grammar.specs.PlainTrees.{PlainTree, Node0, attribute_of}
use Rattle.sel_grammar.specs.Fits.{subtrees, in_range}
use Rattle.sel_range.specs.Classes.{class_of, passes}
use Rattle.sel_range.specs.Limits.{IsAttributeValue}
use Rattle.sel_range.proofs.Deciding.{class_decides}
use Rattle.sel_normal.specs.NormalForms.{NormalForm}
use Rattle.sel_normal.specs.Seen.{range_at}
use Rattle.sel_normal.proofs.Steps.{some_none}
use Rattle.sel_items.specs.Follows.{NodeKey, range_holds, test_holds}
use Rattle.sel_items.specs.ItemsOf.{attribute_number}
use Rattle.sel_items.proofs.Meanings.{Decides, HasRangesPlaced}

-- without a range the test holds of each class
no_range : (tests : List Range) (class : ℕ) (test : Option ℕ) → range_at tests test ≡ None → test_holds tests class test ≡ true
no_range tests class test h = ap (range_holds tests class) h

number_passes : (r : Range) (a : Attribute) → passes r (attribute_number a) ≡ in_range (Some r) a
number_passes r Absent = refl
number_passes r (Number v) = refl
number_passes r (Symbol s) = refl

with_range : (tests : List Range) (a : Attribute) (test : Option ℕ) (r : Range) → IsAttributeValue (attribute_number a) → range_at tests test ≡ Some r → test_holds tests (class_of tests (attribute_number a)) test ≡ in_range (Some r) a
with_range tests a None r small h = absurd (some_none (sym h))
with_range tests a (Some i) r small h =
    ap (range_holds tests (class_of tests (attribute_number a))) h ∙ class_decides tests i r (attribute_number a) h small ∙ number_passes r a

pub Decides-leaf : (g : Grammar) (normal : NormalForm) (key : NodeKey) (op : ℕ) (a : Attribute) → IsAttributeValue (attribute_number a) → key.class ≡ class_of normal.tests (attribute_number a) → Decides g normal key (Node0 op a)
Decides-leaf g normal key op a small is r rule ts test at lies range = go rule.range range
  where
    go : (o : Option Range) → range_at normal.tests test ≡ o → test_holds normal.tests key.class test ≡ in_range o a
    go None h = no_range normal.tests key.class test h
    go (Some x) h = ap (λ c. test_holds normal.tests c test) is ∙ with_range normal.tests a test x small h

-- a node with kids: no rule with a range lies over it
pub Decides-kids : (g : Grammar) (normal : NormalForm) (key : NodeKey) (t : PlainTree) → ((op : ℕ) → subtrees (Nullary op) t ≡ None) → HasRangesPlaced g → Decides g normal key t
Decides-kids g normal key t none placed r rule ts test at lies range = go rule.range refl
  where
    go : (o : Option Range) → rule.range ≡ o → test_holds normal.tests key.class test ≡ in_range rule.range (attribute_of t)
    go None h = no_range normal.tests key.class test (range ∙ h) ∙ sym (ap (λ x. in_range x (attribute_of t)) h)
    go (Some x) h = let p = placed r rule x at h in absurd (some_none (sym lies ∙ ap (λ q. subtrees q t) p.1 ∙ none p.0))
