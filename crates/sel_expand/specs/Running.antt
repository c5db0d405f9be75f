-- What steps emit, one after the other.
use Rattle.std.specs.Prelude.{ℕ, ◌-◌, Option, Some, None, List, [], ◌∷◌, ◌++◌, length, take, drop, slice_get}
use Rattle.sel_grammar.specs.declared.grammar.Grammar.{Grammar}
use Rattle.sel_grammar.specs.declared.grammar.Part.{Part}
use Rattle.sel_grammar.specs.declared.grammar.Attribute.{Attribute}
use Rattle.sel_grammar.specs.declared.grammar.Attribute.TheVariants.{Absent}
use Rattle.sel_grammar.specs.Fits.{rule_at}
use Rattle.sel_grammar.specs.Expansions.{Emission, Emissions, by_template, parts_of_rule}
use Rattle.sel_forest.specs.declared.forest.Node.{Node}
use Rattle.sel_expand.specs.declared.places.Step.{Step}

-- the attribute of a node
abbrev pub attribute_or_none : Option Node → Attribute
attribute_or_none None = Absent
attribute_or_none (Some node) = node.attribute

abbrev pub attribute_at : List Node → ℕ → Attribute
attribute_at nodes i = attribute_or_none (slice_get nodes i)

-- the parts of a rule's template
abbrev pub parts_at : Grammar → ℕ → List Part
parts_at g r = parts_of_rule (rule_at g r)

-- a rule's emission, where the last values are its kids'
abbrev pub emission_of : Grammar → List Node → Emissions → Step → Emission
emission_of g nodes s step =
    by_template (parts_at g step.rule) (attribute_at nodes step.at) (record { lines = s.lines; values = drop (length s.values - step.kids) s.values; next = s.next })

-- the kids' values give way to the rule's
abbrev pub advance : Grammar → List Node → Emissions → Step → Emissions
advance g nodes s step =
    let e = emission_of g nodes s step in
    record { lines = e.lines; values = take (length s.values - step.kids) s.values ++ e.value ∷ []; next = e.next }

abbrev pub run : Grammar → List Node → Emissions → List Step → Emissions
run g nodes s [] = s
run g nodes s (step ∷ steps) = run g nodes (advance g nodes s step) steps

-- nothing is emitted yet
abbrev pub nothing : Emissions
nothing = record { lines = []; values = []; next = 1 }
