-- The line that tells a status.
use Rattle.std.specs.Prelude.{ℕ, List, [], ◌++◌, codes, decimal, ◌==◌, if◌then◌else◌}
use Rattle.sel_forest.specs.Limits as forest
use Rattle.sel_grammar.specs.Limits as grammar
use Rattle.sel_grammar.specs.declared.refusal.GrammarFault.{GrammarFault}
use Rattle.sel_forest.specs.declared.refusal.ForestFault.{ForestFault}
use Rattle.sel_check.specs.declared.refusal.CheckFault.{CheckFault}
use Rattle.sel_check.specs.Checks as certificate
use Rattle.sel_cli.specs.declared.status.Status.{Status}
use Rattle.sel_cli.specs.declared.status.Status.TheVariants.{Done, Usage, ReadFault, TooBig, BadGrammar, BadForest, WriteFault, NoMemory, Uncovered, BadCertificate}

-- the name of a kind of fault of a grammar's text
abbrev pub grammar_kind_name : ℕ → List ℕ
grammar_kind_name kind =
    if kind == grammar.token then codes "Token" else (
    if kind == grammar.no_rules then codes "NoRules" else (
    if kind == grammar.duplicate_term then codes "DuplicateTerm" else (
    if kind == grammar.arity then codes "Arity" else (
    if kind == grammar.term_on_left then codes "TermOnLeft" else (
    if kind == grammar.no_rule then codes "NoRule" else (
    if kind == grammar.cost_form then codes "CostForm" else (
    if kind == grammar.cost_large then codes "CostLarge" else (
    if kind == grammar.template_form then codes "TemplateForm" else (
    if kind == grammar.kid_number then codes "KidNumber" else (
    if kind == grammar.result_in_fragment then codes "ResultInFragment" else (
    if kind == grammar.range_place then codes "RangePlace" else (
    if kind == grammar.too_many then codes "TooMany" else (
    if kind == grammar.zero_cycle then codes "ZeroCycle" else codes "Unknown")))))))))))))

-- the name of a kind of fault of a forest's text
abbrev pub forest_kind_name : ℕ → List ℕ
forest_kind_name kind =
    if kind == forest.token then codes "Token" else (
    if kind == forest.unknown_operator then codes "UnknownOperator" else (
    if kind == forest.arity then codes "Arity" else (
    if kind == forest.number_large then codes "NumberLarge" else (
    if kind == forest.too_deep then codes "TooDeep" else (
    if kind == forest.too_many_nodes then codes "TooManyNodes" else (
    if kind == forest.too_many_trees then codes "TooManyTrees" else codes "Unknown"))))))

-- the name of a kind of fault of a text of certificates
abbrev pub certificate_kind_name : ℕ → List ℕ
certificate_kind_name kind =
    if kind == certificate.text_fault then codes "Text" else (
    if kind == certificate.bound_fault then codes "Bound" else (
    if kind == certificate.cover_fault then codes "Cover" else (
    if kind == certificate.cost_fault then codes "Cost" else codes "Unknown")))

-- :LINE:COLUMN
abbrev pub place_text : ℕ → ℕ → List ℕ
place_text line column = codes ":" ++ (decimal line ++ (codes ":" ++ decimal column))

-- :LINE
abbrev pub line_text : ℕ → List ℕ
line_text line = codes ":" ++ decimal line

-- KIND WORD
abbrev pub kind_text : ℕ → List ℕ → List ℕ
kind_text kind word = decimal kind ++ (codes " " ++ (word ++ codes "\n"))

-- where a fault of the grammar's text of this name stands, and what it is
abbrev pub grammar_fault_line : List ℕ → GrammarFault → List ℕ
grammar_fault_line name fault = name ++ (place_text fault.line fault.column ++ (codes ": grammar fault " ++ kind_text fault.kind (grammar_kind_name fault.kind)))

-- the same of a forest's text
abbrev pub forest_fault_line : List ℕ → ForestFault → List ℕ
forest_fault_line name fault = name ++ (place_text fault.line fault.column ++ (codes ": forest fault " ++ kind_text fault.kind (forest_kind_name fault.kind)))

-- the same of a text of certificates, of which the line alone is told
abbrev pub certificate_fault_line : List ℕ → CheckFault → List ℕ
certificate_fault_line name fault = name ++ (line_text fault.line ++ (codes ": certificate fault " ++ kind_text fault.kind (certificate_kind_name fault.kind)))

-- the line of a status that speaks of the text of this name
abbrev pub status_line : List ℕ → Status → List ℕ
status_line name Done = []
status_line name Uncovered = []
status_line name Usage = codes "usage: sel MODE GRAMMAR [FOREST] [OPTIONS]\n"
status_line name ReadFault = codes "cannot read " ++ (name ++ codes "\n")
status_line name TooBig = name ++ (codes " is too big" ++ codes "\n")
status_line name (BadGrammar fault) = grammar_fault_line name fault
status_line name (BadForest fault) = forest_fault_line name fault
status_line name (BadCertificate fault) = certificate_fault_line name fault
status_line name WriteFault = codes "write fault\n"
status_line name NoMemory = codes "no memory\n"
