-- What the reductions of a cover say of the texts that they stand for.
use Rattle.std.specs.Prelude.{◌≡◌, ℕ, ◌+◌, ◌-◌, ◌<◌, if◌then◌else◌, Some, List, [], ◌∷◌, ◌++◌, length, take, drop, slice_get, map}
use Rattle.sel_grammar.specs.declared.emission.Emitted.TheVariants.{Temporary}
use Rattle.sel_grammar.specs.declared.grammar.Grammar.{Grammar}
use Rattle.sel_grammar.specs.declared.grammar.Part.{Part}
use Rattle.sel_grammar.specs.PlainTrees.{PlainTree}
use Rattle.sel_grammar.specs.Derivations.{Derivation}
use Rattle.sel_grammar.specs.Expansions.{Text, Emissions, value_or_none, filled, is_instruction, has_result, expanded}
use Rattle.sel_forest.specs.declared.forest.Node.{Node}
use Rattle.sel_forest.specs.declared.forest.Tree.{Tree}
use Rattle.sel_forest.specs.declared.walk.Goal.{Goal}
use Rattle.sel_expand.specs.declared.places.Step.{Step}
use Rattle.sel_expand.specs.declared.templates.Kind.{Kind}
use Rattle.sel_expand.specs.declared.templates.Kind.TheVariants.{Named, Unnamed, Fragment}
use Rattle.sel_expand.specs.Expanding.{IsDerivationBy}
use Rattle.sel_expand.specs.Reductions.{Reduced}
use Rattle.sel_expand.specs.Running.{attribute_at, parts_at, run, nothing}
use Rattle.sel_expand.specs.Steps.{IsPlaced}

-- an instruction that names its result, one that doesn't, or a fragment
abbrev pub kind_of : List Part → Kind
kind_of parts = if is_instruction parts then (if has_result parts then Named else Unnamed) else Fragment

-- the number of the next temporary behind a template of this kind
abbrev pub next_by : Kind → ℕ → ℕ
next_by Named next = next + 1
next_by Unnamed next = next
next_by Fragment next = next

-- the value of a template of this kind, which prints this text
abbrev pub value_by : Kind → ℕ → Text → Text
value_by Named next text = Temporary next ∷ []
value_by Unnamed next text = []
value_by Fragment next text = text

-- its line
abbrev pub line_by : Kind → Text → Text
line_by Named text = text
line_by Unnamed text = text
line_by Fragment text = []

-- the step's reduction is added, and its kids give way to it
pub record IsAdded (g : Grammar) (step : Step) (next after : ℕ) (old new : List Reduced) (stack left : List ℕ) : Type 0 where
  pub next_is : after ≡ next_by (kind_of (parts_at g step.rule)) next
  pub reductions_are : new ≡ old ++ record { own = record { rule = step.rule; kind = kind_of (parts_at g step.rule); at = step.at; next = next }; kids = drop (length stack - step.kids) stack } ∷ []
  pub left_are : left ≡ take (length stack - step.kids) stack ++ length old ∷ []

abbrev pub text_at : List Text → ℕ → Text
text_at texts i = value_or_none (slice_get texts i)

-- a reduction's template, filled in
abbrev pub filled_at : Grammar → List Node → List Text → Reduced → Text
filled_at g nodes texts r = filled (map (text_at texts) r.kids) (attribute_at nodes r.own.at) r.own.next (parts_at g r.own.rule)

abbrev pub value_of : Grammar → List Node → List Text → Reduced → Text
value_of g nodes texts r = value_by r.own.kind r.own.next (filled_at g nodes texts r)

abbrev pub line_of : Grammar → List Node → List Text → Reduced → Text
line_of g nodes texts r = line_by r.own.kind (filled_at g nodes texts r)

abbrev pub lines_of : Grammar → List Node → List Text → List Reduced → Text
lines_of g nodes texts [] = []
lines_of g nodes texts (r ∷ rs) = line_of g nodes texts r ++ lines_of g nodes texts rs

-- these are the values of the reductions, in their order
pub record AreTexts (g : Grammar) (nodes : List Node) (rs : List Reduced) (texts : List Text) : Type 0 where
  pub long : length texts ≡ length rs
  pub each : (i : ℕ) (r : Reduced) → slice_get rs i ≡ Some r → text_at texts i ≡ value_of g nodes texts r
  pub below : (i : ℕ) (r : Reduced) (k j : ℕ) → slice_get rs i ≡ Some r → slice_get r.kids k ≡ Some j → j < i

-- the reductions, their values, and what is emitted so far
pub record IsListed (g : Grammar) (nodes : List Node) (s : Emissions) (rs : List Reduced) (left : List ℕ) : Type 0 where
  pub texts : List Text
  pub are : AreTexts g nodes rs texts
  pub lines : lines_of g nodes texts rs ≡ s.lines
  pub inside : (k j : ℕ) → slice_get left k ≡ Some j → j < length rs
  pub values : map (text_at texts) left ≡ s.values

-- the reductions are those of the steps of a derivation with this list
pub record AreListed (g : Grammar) (nodes : List Node) (root : Goal) (rules : List ℕ) (rs : List Reduced) (left : List ℕ) : Type 0 where
  pub steps : List Step
  pub placed : IsPlaced g nodes root rules steps
  pub listed : IsListed g nodes (run g nodes nothing steps) rs left

-- the reductions are those of the cover's derivation, and the last one's value stands behind all lines
pub record IsReduced (g : Grammar) (tree : Tree) (rules : List ℕ) (rs : List Reduced) (last : ℕ) : Type 0 where
  pub texts : List Text
  pub are : AreTexts g tree.nodes rs texts
  pub whole : (t : PlainTree) (d : Derivation) → IsDerivationBy g tree rules t d → lines_of g tree.nodes texts rs ++ text_at texts last ≡ expanded g d t
