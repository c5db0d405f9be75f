use Rattle.std.proofs.Common.{rules, ◌≡◌, IfOk, map, string_bytes, sym, ap, subst}
use Rattle.sel_words.specs.Words.{command}
use Rattle.sel_cli.specs.Code.{ExitsFor}
use Rattle.sel_cli.specs.Ends.{NeedsNoText}
use Rattle.sel_cli.proofs.Exits.{exits}
use Rattle.sel_cli.proofs.program.run_program.Goals as goal

pub returns-in-Ok-clause-run : goal.returns-in-Ok-clause-run
returns-in-Ok-clause-run g c =
    let shelf = g.S.Shelf.told c.args.shelf.now in
    let shelf_now = g.S.Shelf.told c.run.new.shelf in
    let out = g.K.Sink.told c.args.out.now in
    let out_now = g.K.Sink.told c.run.new.out in
    let err = g.E.Sink.told c.args.err.now in
    let err_now = g.E.Sink.told c.run.new.err in
    let same : c.deref.result.now ≡ c.in-Ok.words.items = search rules in
    let e = c.run.ensures in
    subst (λ r. IfOk r (λ words. ExitsFor (command (map string_bytes words.items)) shelf shelf_now out out_now err err_now c.code.result)) (sym c.in-Ok.is)
    (exits _ _ shelf shelf_now out out_now err err_now c.run.result.0 c.run.result.1 c.code.result (ap (λ l. command (map string_bytes l)) same)
    (record { ends = e.ends; exactly = e.exactly; complete = e.complete; reads = e.reads; writes = e.writes; tells = e.tells }) c.code.ensures)

pub returns-in-Ok-clause-untouched : goal.returns-in-Ok-clause-untouched
returns-in-Ok-clause-untouched g c =
    let same : c.deref.result.now ≡ c.in-Ok.words.items = search rules in
    subst (λ r. IfOk r (λ words. NeedsNoText (command (map string_bytes words.items)) → c.run.new.shelf ≡ c.args.shelf.now)) (sym c.in-Ok.is)
    (subst (λ l. NeedsNoText (command (map string_bytes l)) → c.run.new.shelf ≡ c.args.shelf.now) same c.run.ensures.untouched)
