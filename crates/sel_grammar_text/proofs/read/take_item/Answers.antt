-- One item taken.
use Rattle.std.proofs.Common.{◌≡◌, ◌-◌, ℕ, List, [], ◌∷◌, ◌++◌, None, length, take, map, ap, sym, ◌∙◌, subst, arith, length-take}
use Rattle.std.specs.List.{AllByRecursion}
use Rattle.sel_grammar_text.specs.Spots.{first}
use Rattle.sel_grammar_text.specs.Cutting.{item_of, cutting}
use Rattle.sel_grammar_text.specs.ItemFaults.{check}
use Rattle.sel_grammar_text.specs.ItemNumbers.{HasNumbers}
use Rattle.sel_grammar_text.specs.Places.{IsPlaceBehind}
use Rattle.sel_grammar_text.specs.Tables.{Means}
use Rattle.sel_grammar_text.specs.Words.{view_item, view_items, view_spot}
use Rattle.sel_grammar_text.proofs.Ready.{ready}
use Rattle.sel_grammar_text.proofs.ReadSteps.{item_fault, taken, taken_none, one_item, placed, item_place, left_within, place_fits}
use Rattle.sel_grammar_text.proofs.read.take_item.Goals as goal

pub spots_of-requires-clause-left : goal.spots_of-requires-clause-left
spots_of-requires-clause-left c = left_within c.args.bytes.now c.args.from.left.now c.requires.reading.n c.requires.reading.stands.left_is

pub returns-in_default-clause-taken : goal.returns-in_default-clause-taken
returns-in_default-clause-taken c =
    let bytes = c.args.bytes.now in
    let r = c.requires.reading in
    let x = c.requires.extent r.n r.stands in
    let items_are : view_items c.in_ok-item.field-0 ≡ item_of (first (length bytes) c.args.extent.now.count c.args.from.left.now) =
    c.in_ok-item.ensures.says ∙ ap (λ y. item_of (map view_spot y)) c.as_slice.ensures.value ∙ ap item_of c.in_ok-spots.ensures.are in
    taken_none bytes c.args.tables.now c.args.from c.args.extent.now r x (sym (ap view_items c.in_default.is) ∙ items_are)

pub returns-in-Some-check-clause-stop : goal.returns-in-Some-check-clause-stop
returns-in-Some-check-clause-stop c =
    let bytes = c.args.bytes.now in
    let r = c.requires.reading in
    let x = c.requires.extent r.n r.stands in
    let items_are : view_items c.in_ok-item.field-0 ≡ item_of (first (length bytes) c.args.extent.now.count c.args.from.left.now) =
    c.in_ok-item.ensures.says ∙ ap (λ y. item_of (map view_spot y)) c.as_slice.ensures.value ∙ ap item_of c.in_ok-spots.ensures.are in
    let item = view_item c.in-Some.item in
    let item_is : item ∷ [] ≡ item_of (first (length bytes) c.args.extent.now.count c.args.from.left.now) = sym (ap view_items c.in-Some.is) ∙ items_are in
    let one = one_item bytes c.args.tables.now c.args.from c.args.extent.now r x item item_is in
    item_fault bytes c.args.tables.now c.args.from c.args.extent.now r x c.in-Some-check.fault (one.0 ∙ sym (c.in-Some-check.ensures bytes (cutting r.n bytes).items r.means))

pub advance-place-requires-clause-line_fits : goal.advance-place-requires-clause-line_fits
advance-place-requires-clause-line_fits c =
    let r = c.requires.reading in
    let fits = place_fits c.args.bytes.now c.args.from.left.now r.n c.args.from.place c.requires.short r.stands.left_is r.place in
    omega (arith, fits.0, length-take (length c.args.from.left.now - length c.skip.result.now) c.args.from.left.now)

pub advance-place-requires-clause-column_fits : goal.advance-place-requires-clause-column_fits
advance-place-requires-clause-column_fits c =
    let r = c.requires.reading in
    let fits = place_fits c.args.bytes.now c.args.from.left.now r.n c.args.from.place c.requires.short r.stands.left_is r.place in
    omega (arith, fits.1, length-take (length c.args.from.left.now - length c.skip.result.now) c.args.from.left.now)

pub add-requires : goal.add-requires
add-requires c =
    let bytes = c.args.bytes.now in
    let r = c.requires.reading in
    let x = c.requires.extent r.n r.stands in
    let items_are : view_items c.in_ok-item.field-0 ≡ item_of (first (length bytes) c.args.extent.now.count c.args.from.left.now) =
    c.in_ok-item.ensures.says ∙ ap (λ y. item_of (map view_spot y)) c.as_slice.ensures.value ∙ ap item_of c.in_ok-spots.ensures.are in
    let item = view_item c.in-Some.item in
    let item_is : item ∷ [] ≡ item_of (first (length bytes) c.args.extent.now.count c.args.from.left.now) = sym (ap view_items c.in-Some.is) ∙ items_are in
    let one = one_item bytes c.args.tables.now c.args.from c.args.extent.now r x item item_is in
    let passed : check (cutting r.n bytes).items item ≡ None = sym (c.in_default-check.ensures bytes (cutting r.n bytes).items r.means) in
    let numbers : AllByRecursion HasNumbers (item ∷ []) = subst (λ y. AllByRecursion HasNumbers (view_items y)) c.in-Some.is c.in_ok-item.ensures.numbers in
    ready bytes (cutting r.n bytes).items item c.args.tables.now r.means passed numbers.0 one.1

pub returns-clause-taken : goal.returns-clause-taken
returns-clause-taken c =
    let bytes = c.args.bytes.now in
    let r = c.requires.reading in
    let x = c.requires.extent r.n r.stands in
    let items_are : view_items c.in_ok-item.field-0 ≡ item_of (first (length bytes) c.args.extent.now.count c.args.from.left.now) =
    c.in_ok-item.ensures.says ∙ ap (λ y. item_of (map view_spot y)) c.as_slice.ensures.value ∙ ap item_of c.in_ok-spots.ensures.are in
    let item = view_item c.in-Some.item in
    let item_is : item ∷ [] ≡ item_of (first (length bytes) c.args.extent.now.count c.args.from.left.now) = sym (ap view_items c.in-Some.is) ∙ items_are in
    let one = one_item bytes c.args.tables.now c.args.from c.args.extent.now r x item item_is in
    let passed : check (cutting r.n bytes).items item ≡ None = sym (c.in_default-check.ensures bytes (cutting r.n bytes).items r.means) in
    let left = c.args.from.left.now in
    let place = item_place bytes left r.n c.args.from.place c.advance-place.result r.stands.left_is r.place
    (subst (λ y. (before : List ℕ) → IsPlaceBehind before c.args.from.place → IsPlaceBehind (before ++ take (length left - length y) left) c.advance-place.result) c.skip.ensures.skipped c.advance-place.ensures) in
    let stands = placed bytes left c.args.extent.now.count c.advance-place.result.line c.advance-place.result.column item item_is place.line place.column in
    let means : Means bytes ((cutting r.n bytes).items ++ item ∷ []) c.add.new.self = c.in_ok-add.ensures bytes (cutting r.n bytes).items r.means passed one.2 stands in
    taken bytes c.args.tables.now c.args.from c.args.extent.now r x c.add.new.self (one.0 ∙ passed) (subst (λ y. Means bytes ((cutting r.n bytes).items ++ y) c.add.new.self) item_is means)
