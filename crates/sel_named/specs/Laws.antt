-- Laws of texts with the names of registers.
use Rattle.std.specs.Prelude.{◌≡◌, ℕ, ◌≤◌, ◌<◌, List, Some, length, slice_get}
use Rattle.sel_grammar.specs.declared.emission.Emitted.TheVariants.{Temporary}
use Rattle.sel_grammar.specs.declared.grammar.Grammar.{Grammar}
use Rattle.sel_grammar.specs.PlainTrees.{PlainTree}
use Rattle.sel_grammar.specs.Derivations.{Derivation}
use Rattle.sel_grammar.specs.Expansions.{Text, text_bytes}
use Rattle.sel_forest.specs.declared.forest.Tree.{Tree}
use Rattle.sel_expand.specs.Expanding.{IsDerivationBy, IsText}
use Rattle.sel_regs.specs.Lives.{needs}
use Rattle.sel_regs.specs.Scans.{register_of, ShareNone}
use Rattle.sel_named.specs.TextLines.{temps_by_line, temps_of}
use Rattle.sel_named.specs.NamedTexts.{bytes_by_name, Becomes, IsNamedText}
use Rattle.sel_named.specs.declared.texts.NamedText.{NamedText}
use Rattle.sel_named.specs.declared.texts.NamedText.TheVariants as named

-- At most one thing becomes of a text.
abbrev pub NamedIsOne : Type 0
NamedIsOne = (text : Text) (names : List (List ℕ)) (a b : NamedText) → Becomes text names a → Becomes text names b → a ≡ b

-- Where there is a register, something becomes of each text.
abbrev pub NamedExists : Type 0
NamedExists = (text : Text) (names : List (List ℕ)) → 1 ≤ length names → (answer : NamedText) × Becomes text names answer

-- the temporary has one of so many registers
pub record HasRegister (registers : List ℕ) (count k : ℕ) : Type 0 where
  pub register : ℕ
  pub has : register_of registers k ≡ Some register
  pub within : register < count

-- The first bytes print a text with the numbers of its temporaries, and the second the same text with the names of their registers. Each
-- temporary has one, and no two that are live on one line have the same.
pub record IsRenaming (names : List (List ℕ)) (by_number by_name : List ℕ) : Type 0 where
  pub text : Text
  pub registers : List ℕ
  pub numbers : by_number ≡ text_bytes text
  pub names_are : by_name ≡ bytes_by_name names registers text
  pub each : (i k : ℕ) → slice_get text i ≡ Some (Temporary k) → HasRegister registers (length names) k
  pub apart : ShareNone (temps_by_line text) registers

-- The text with names is the expansion's with the name of a register for each temporary.
abbrev pub NamedIsRenamed : Type 0
NamedIsRenamed = (g : Grammar) (tree : Tree) (t : PlainTree) (d : Derivation) (rules : List ℕ) (names : List (List ℕ)) (bytes by_name : List ℕ)
    → IsDerivationBy g tree rules t d → IsText g tree rules bytes → IsNamedText g tree rules names (named.Text by_name) → IsRenaming names bytes by_name

-- Where there are enough registers, there is a text with names.
abbrev pub EnoughAreNamed : Type 0
EnoughAreNamed = (text : Text) (names : List (List ℕ)) (n : ℕ) → needs (temps_by_line text) (temps_of text) ≤ length names → Becomes text names (named.TooFew n) → ⊥
