-- The fault of an item that has none of form: that of the first check, in this order, that gives a place.
use Rattle.std.specs.Prelude.{ℕ, List, [], ◌∷◌, ◌++◌, Option, None}
use Rattle.sel_grammar.specs.Limits as limits
use Rattle.sel_grammar_text.specs.Items.{Item}
use Rattle.sel_grammar_text.specs.Faults.{fault_at, or_fault}
use Rattle.sel_grammar_text.specs.Checks.{duplicate_term, too_many_items, term_on_left, too_many_nonterminals, arity, template_form, kid_number, result_in_fragment, range_place, cost_large}
use Rattle.sel_grammar_text.specs.declared.fault.Fault.{Fault}

-- the first of some places, each with its kind
abbrev pub first_fault : List (ℕ × Option ℕ) → Option Fault
first_fault [] = None
first_fault (p ∷ places) = or_fault (fault_at p.0 p.1) (first_fault places)

unfoldable pub check : List Item → Item → Option Fault
check before item =
    or_fault (fault_at limits.duplicate_term (duplicate_term before item))
    (or_fault (fault_at limits.too_many (too_many_items before item))
    (or_fault (fault_at limits.term_on_left (term_on_left before item))
    (or_fault (fault_at limits.too_many (too_many_nonterminals before item))
    (or_fault (fault_at limits.arity (arity before item))
    (or_fault (fault_at limits.template_form (template_form before item))
    (or_fault (fault_at limits.kid_number (kid_number before item))
    (or_fault (fault_at limits.result_in_fragment (result_in_fragment before item))
    (or_fault (fault_at limits.range_place (range_place before item))
    (fault_at limits.cost_large (cost_large before item))))))))))

-- the fault of the first item with one
abbrev pub check_all : List Item → List Item → Option Fault
check_all before [] = None
check_all before (item ∷ items) = or_fault (check before item) (check_all (before ++ (item ∷ [])) items)
