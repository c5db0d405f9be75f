-- What each grammar has that a text spells: rules for what is to be derived, and templates that print only what there is.
use Rattle.std.specs.Prelude.{◌≡◌, ℕ, ◌<◌, true, List, [], ◌∷◌, length, slice_get, Some, codes}
use Rattle.sel_grammar.specs.declared.grammar.Grammar.{Grammar}
use Rattle.sel_grammar.specs.declared.grammar.Part.TheVariants.{Text, Kid}
use Rattle.sel_grammar.specs.declared.grammar.Rule.{Rule}
use Rattle.sel_grammar.specs.Fits.{leaves}
use Rattle.sel_grammar.specs.Expansions.{has_result, is_instruction}

-- the nonterminal is the left side of some rule
abbrev pub IsLeftSide : Grammar → ℕ → Type 0
IsLeftSide g n = (k : ℕ) × ((rule : Rule) × ((slice_get g.rules k ≡ Some rule) × (rule.left ≡ n)))

-- The kids that the template names are leaves of the pattern, only an instruction names its result, and the first byte isn't reserved.
pub record HasLawfulTemplate (rule : Rule) : Type 0 where
  pub kids : (j k : ℕ) → slice_get rule.template.parts j ≡ Some (Kid k) → k < length (leaves rule.pattern)
  pub result : has_result rule.template.parts ≡ true → is_instruction rule.template.parts ≡ true
  pub first : (b : ℕ) (bytes : List ℕ) → slice_get rule.template.parts 0 ≡ Some (Text (b ∷ bytes)) → (b ∷ [] ≡ codes "?" → ⊥) × (b ∷ [] ≡ codes "#" → ⊥)

-- There is a rule, each nonterminal is the left side of one, the start symbol and the leaves of patterns among them, and each rule's template is lawful.
pub record IsComplete (g : Grammar) : Type 0 where
  pub some : 0 < length g.rules
  pub lefts : (n : ℕ) → n < length g.nonterminals → IsLeftSide g n
  pub templates : (k : ℕ) (rule : Rule) → slice_get g.rules k ≡ Some rule → HasLawfulTemplate rule
