use Rattle.std.proofs.Common.{◌≡◌, List, sym, subst, map}
use Rattle.std.specs.Prelude.{Option, Result, Ok, Err, IfOk}
use Rattle.std.specs.List.{AllByRecursion}
use Rattle.sel_grammar_text.specs.Cutting as cutting
use Rattle.sel_grammar_text.specs.ItemNumbers.{HasNumbers, IsSpot}
use Rattle.sel_grammar_text.specs.Items as items
use Rattle.sel_grammar_text.specs.Words as words
use Rattle.sel_grammar_text.specs.declared.words.Item.{Item}
use Rattle.sel_grammar_text.proofs.ItemWords.{named_numbers}
use Rattle.sel_grammar_text.proofs.item.item.Goals as goal

numbers_of : {E : Type 0} (o : Result (Option Item) E) (is : List items.Item) → IfOk o (λ i. words.view_items i ≡ is) → AllByRecursion HasNumbers is → IfOk o (λ i. AllByRecursion HasNumbers (words.view_items i))
numbers_of (Ok i) is e h = subst (AllByRecursion HasNumbers) (sym e) h
numbers_of (Err x) is e h = tt

pub returns-in-Name-clause-numbers : goal.returns-in-Name-clause-numbers
returns-in-Name-clause-numbers c =
    let name : items.Word = items.word c.in-Some.spot.now.at c.in-Name.bytes.now in
    let lexical = (subst (λ s. AllByRecursion IsSpot (map words.view_spot s)) c.in-Some.ensures.cases.0 c.requires).1 in
    numbers_of c.named_item.result (cutting.named_item name (map words.view_spot c.in-Some.behind.now)) c.named_item.ensures (named_numbers name (map words.view_spot c.in-Some.behind.now) lexical)
