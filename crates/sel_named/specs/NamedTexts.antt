-- A text with the names of registers in place of its temporaries.
use Rattle.std.specs.Prelude.{◌≡◌, ℕ, ◌<◌, ◌≤◌, List, [], ◌∷◌, length, slice_get, option_and_then, unwrap_or}
use Rattle.std.specs.List.{flat_map}
use Rattle.sel_grammar.specs.declared.emission.Emitted.{Emitted}
use Rattle.sel_grammar.specs.declared.emission.Emitted.TheVariants.{Byte, Temporary}
use Rattle.sel_grammar.specs.declared.grammar.Grammar.{Grammar}
use Rattle.sel_grammar.specs.Costs.{Cost}
use Rattle.sel_grammar.specs.PlainTrees.{PlainTree}
use Rattle.sel_grammar.specs.Derivations.{Derivation, cost}
use Rattle.sel_grammar.specs.Best.{IsBest}
use Rattle.sel_grammar.specs.Expansions.{Text, text_bytes, expanded}
use Rattle.sel_forest.specs.declared.forest.Tree.{Tree}
use Rattle.sel_expand.specs.Expanding.{IsDerivationBy, longest_text}
use Rattle.sel_regs.specs.Lives.{needs}
use Rattle.sel_regs.specs.Scans.{register_of}
use Rattle.sel_regs.specs.Assignments.{IsAssigned}
use Rattle.sel_named.specs.TextLines.{temps_by_line, temps_of}
use Rattle.sel_named.specs.declared.texts.NamedText.{NamedText}
use Rattle.sel_named.specs.declared.texts.NamedText.TheVariants as named

-- the name of a temporary's register, by the names of the registers and the register of each temporary; nothing where it has none
abbrev pub register_name : List (List ℕ) → List ℕ → ℕ → List ℕ
register_name names registers k = unwrap_or (option_and_then (slice_get names) (register_of registers k)) []

-- a byte, or the name of the temporary's register
abbrev pub emitted_by_name : List (List ℕ) → List ℕ → Emitted → List ℕ
emitted_by_name names registers (Byte b) = b ∷ []
emitted_by_name names registers (Temporary k) = register_name names registers k

-- the bytes that a text prints, with the name of its register for each temporary
abbrev pub bytes_by_name : List (List ℕ) → List ℕ → Text → List ℕ
bytes_by_name names registers text = flat_map (emitted_by_name names registers) text

-- The bytes print the text with the names of registers. The scan of its lines gives each temporary its register, and there are enough.
pub record IsByName (text : Text) (names : List (List ℕ)) (bytes : List ℕ) : Type 0 where
  pub registers : List ℕ
  pub assigned : IsAssigned (temps_by_line text) (temps_of text) (length names) registers
  pub bytes_are : bytes ≡ bytes_by_name names registers text

-- on some line so many temporaries of the text are live, and there are fewer registers
pub record TakesMore (text : Text) (registers n : ℕ) : Type 0 where
  pub exact : n ≡ needs (temps_by_line text) (temps_of text)
  pub fewer : registers < n

-- what becomes of a text that isn't too long
abbrev pub IsAllotted : Text → List (List ℕ) → NamedText → Type 0
IsAllotted text names (named.Text bytes) = IsByName text names bytes
IsAllotted text names (named.TooFew n) = TakesMore text (length names) n
IsAllotted text names named.TooLong = ⊥

-- What becomes of a text. Whether it is too long goes by the numbers of its temporaries, before they have registers.
abbrev pub Becomes : Text → List (List ℕ) → NamedText → Type 0
Becomes text names (named.Text bytes) = (length (text_bytes text) ≤ longest_text) × IsByName text names bytes
Becomes text names (named.TooFew n) = (length (text_bytes text) ≤ longest_text) × TakesMore text (length names) n
Becomes text names named.TooLong = longest_text < length (text_bytes text)

-- what becomes of the text that the derivation expands to
abbrev pub IsNamedText : Grammar → Tree → List ℕ → List (List ℕ) → NamedText → Type 0
IsNamedText g tree rules names answer = (t : PlainTree) (d : Derivation) → IsDerivationBy g tree rules t d → Becomes (expanded g d t) names answer

-- the cost of the tree's best derivation from the start symbol, and what becomes of the text that it expands to
pub record IsBestNamed (g : Grammar) (t : PlainTree) (names : List (List ℕ)) (c : Cost) (answer : NamedText) : Type 0 where
  pub best : Derivation
  pub is_best : IsBest g best g.start t
  pub cost_is : c ≡ cost g best
  pub named : Becomes (expanded g best t) names answer
