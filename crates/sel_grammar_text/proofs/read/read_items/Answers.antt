-- The loop over a text's items.
use Rattle.std.proofs.Common.{refl}
use Rattle.sel_grammar_text.specs.Machine.{begin}
use Rattle.sel_grammar_text.specs.Reading.{IsReading}
use Rattle.sel_grammar_text.proofs.MarkSteps.{mark_added}
use Rattle.sel_grammar_text.proofs.ReadSteps.{reading_start, reading_next, behind_is, next_place, left_within, place_fits}
use Rattle.sel_grammar_text.proofs.read.read_items.Goals as goal

pub items-init : goal.items-init
items-init c =
    let start = reading_start c.args.bytes.now c.new-tables.result (record { state = begin; left = c.args.bytes; place = record { line = 1; column = 1 } }) (c.new-tables.ensures c.args.bytes.now) refl refl refl in
    (start, c.requires.marks)

pub overflow_sub-at : goal.overflow_sub-at
overflow_sub-at c =
    let r : IsReading c.args.bytes.now c.items.tables c.items.from = c.items.invariant.0 in
    left_within c.args.bytes.now c.items.from.left.now r.n r.stands.left_is

pub next_extent-requires-clause-within : goal.next_extent-requires-clause-within
next_extent-requires-clause-within c =
    let r : IsReading c.args.bytes.now c.items.tables c.items.from = c.items.invariant.0 in
    left_within c.args.bytes.now c.items.from.left.now r.n r.stands.left_is

pub behind_item-from-requires : goal.behind_item-from-requires
behind_item-from-requires c =
    let r : IsReading c.args.bytes.now c.items.tables c.items.from = c.items.invariant.0 in
    let fits = place_fits c.args.bytes.now c.items.from.left.now r.n c.items.from.place c.requires.short r.stands.left_is r.place in
    record { within = c.in-Ok.ensures.within; line_fits = fits.0; column_fits = fits.1 }

pub items-preserved : goal.items-preserved
items-preserved c =
    let r : IsReading c.args.bytes.now c.items.tables c.items.from = c.items.invariant.0 in
    let bytes = c.args.bytes.now in
    let left = c.items.from.left.now in
    let e = c.in-Ok.extent in
    let next = reading_next bytes c.take_item.new.tables e c.behind_item-from.result c.in_ok-take_item.ensures.taken c.in-Ok.ensures.border c.in_default.not-Ended c.behind_item-from.ensures.state c.behind_item-from.ensures.left
    (next_place bytes left e.behind.now r.n 0 c.items.from.place c.behind_item-from.result.place r.stands.left_is
    (behind_is bytes left r.n c.take_item.new.tables e r.stands.left_is c.in_ok-take_item.ensures.taken c.in-Ok.ensures.within) r.place c.behind_item-from.ensures.place) in
    (next, mark_added bytes left c.items.from.place c.items.marks.items c.add_mark.new.marks.items (left_within bytes left r.n r.stands.left_is) r.place c.items.invariant.1 c.in_ok-add_mark.ensures.ok)
