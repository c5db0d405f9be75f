-- Laws of texts of certificates.
use Rattle.std.specs.Prelude.{◌≡◌, ℕ, Bool, Option, List, [], ◌∷◌, is_some}
use Rattle.std.specs.List.{list_all}
use Rattle.sel_grammar.specs.declared.grammar.Grammar.{Grammar}
use Rattle.sel_grammar.specs.Costs.{Cost}
use Rattle.sel_grammar.specs.PlainTrees.{PlainTree}
use Rattle.sel_forest.specs.declared.forest.Forest.{Forest}
use Rattle.sel_forest.specs.declared.forest.Tree.{Tree}
use Rattle.sel_forest.specs.Postorder.{IsPostorderOf}
use Rattle.sel_forest.specs.Valid.{IsValidForest}
use Rattle.sel_plain.specs.NodeCosts.{HasPlaces, AreBestCosts}
use Rattle.sel_check.specs.declared.certificate.TreeCertificate.{TreeCertificate}
use Rattle.sel_check.specs.declared.refusal.CheckFault.{CheckFault}
use Rattle.sel_check.specs.CertificateTexts.{certificates_text, IsPrintable}
use Rattle.sel_check.specs.Checks.{ProvesCosts, IsCheckFault}
use Rattle.sel_check.specs.Laws.{IsBestList}

-- what `certify` gives of a tree
pub record IsCertified (g : Grammar) (tree : Tree) (c : TreeCertificate) : Type 0 where
  pub places : HasPlaces g tree c.costs
  pub costs : AreBestCosts g tree c.costs
  pub rules : (t : PlainTree) → IsPostorderOf tree t → IsBestList g t c.rules
  pub printable : IsPrintable c

-- and so of each
abbrev pub AreCertified : Grammar → List Tree → List TreeCertificate → Type 0
AreCertified g [] [] = Unit {0}
AreCertified g (tree ∷ trees) (c ∷ cs) = IsCertified g tree c × AreCertified g trees cs
AreCertified g _ _ = ⊥

-- Of each tree, numbered from this number on, what `certify` gives is in the text; and whether each has a cover.
pub record IsCertifiedText (g : Grammar) (number : ℕ) (trees : List Tree) (text : List ℕ) (covered : Bool) : Type 0 where
  pub certificates : List TreeCertificate
  pub certified : AreCertified g trees certificates
  pub text_is : text ≡ certificates_text number certificates
  pub covered_is : covered ≡ list_all (λ (c : TreeCertificate). is_some c.rules) certificates

-- the text of what `certify` gives of a forest's trees proves costs
abbrev pub CertifiedIsProved : Type 0
CertifiedIsProved = (g : Grammar) (forest : Forest) (cs : List TreeCertificate) → IsValidForest g forest → AreCertified g forest.trees cs → (costs : List (Option Cost)) × ProvesCosts g forest (certificates_text 1 cs) costs

-- a text proves one list of costs
abbrev pub ProvedCostsAreOne : Type 0
ProvedCostsAreOne = (g : Grammar) (forest : Forest) (bytes : List ℕ) (costs others : List (Option Cost)) → IsValidForest g forest → ProvesCosts g forest bytes costs → ProvesCosts g forest bytes others → costs ≡ others

-- a text has one first fault
abbrev pub CheckFaultIsOne : Type 0
CheckFaultIsOne = (g : Grammar) (forest : Forest) (bytes : List ℕ) (found other : CheckFault) → IsValidForest g forest → IsCheckFault g forest bytes found → IsCheckFault g forest bytes other → found ≡ other

-- a text that proves costs has no fault
abbrev pub NoFaultIsProved : Type 0
NoFaultIsProved = (g : Grammar) (forest : Forest) (bytes : List ℕ) (costs : List (Option Cost)) (found : CheckFault) → IsValidForest g forest → ProvesCosts g forest bytes costs → IsCheckFault g forest bytes found → ⊥
