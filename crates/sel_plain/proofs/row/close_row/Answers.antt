-- A pass that changes nothing shows that no chain rule betters the row; each pass keeps it backed, and better for operators' offers.
use Rattle.std.proofs.Common.{arith, length, ◌≡◌, ◌∙◌, refl, sym}
use Rattle.sel_forest.proofs.Matching.{some_none}
use Rattle.sel_plain.proofs.Closing.{IsBestRow-settled}
use Rattle.sel_plain.proofs.Turns.{Operators-still, both_kinds}
use Rattle.sel_plain.proofs.row.close_row.Goals as goal

pub returns-then-not-offer_all : goal.returns-then-not-offer_all
returns-then-not-offer_all c =
    let g = c.args.grammar.now in
    let nodes = c.args.nodes.now in
    let rows = c.args.table.now.rows in
    let i = c.passes.invariant in
    let e = c.offer_all-in-passes.ensures in
    let new = c.offer_all-in-passes.new.row in
    let long : length new ≡ length g.nonterminals = let short = c.offer_all-in-passes.auto.row in let given = i.long in omega arith in
    λ t root.
    IsBestRow-settled g nodes rows new c.args.at t c.requires.free c.requires.limits.nonterminals c.requires.lower root (c.requires.sizes c.args.at t root) long
    (both_kinds g nodes rows c.args.at new (Operators-still g nodes rows c.args.at c.passes.row new e.keeps i.operators) (e.withstood c.if-not-offer_all.true))
    (λ base low ops. let given = i.long in let few = c.requires.limits.nonterminals in e.backed base low (omega arith) ops (i.backed base low ops))

pub passes-preserved : goal.passes-preserved
passes-preserved c =
    let i = c.passes.invariant in
    let e = c.offer_all-in-passes.ensures in
    record {
      long = let long = i.long in let short = c.offer_all-in-passes.auto.row in omega arith;
      operators = Operators-still c.args.grammar.now c.args.nodes.now c.args.table.now.rows c.args.at c.passes.row c.offer_all-in-passes.new.row e.keeps i.operators;
      backed = λ base low ops. let given = i.long in let few = c.requires.limits.nonterminals in e.backed base low (omega arith) ops (i.backed base low ops);
    }

pub passes-init : goal.passes-init
passes-init c =
    let e = c.offer_all.ensures in
    let clear = c.clear.auto.row in
    let long = c.offer_all.auto.row in
    let given = c.requires.long in
    record {
      long = omega arith;
      operators = e.operators refl;
      backed = λ base low ops. let few = c.requires.limits.nonterminals in e.backed base low (omega arith) ops (λ n e h. absurd (some_none (sym h ∙ c.clear.ensures n)));
    }
