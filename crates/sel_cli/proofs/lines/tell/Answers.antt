use Rattle.std.proofs.Common.{rules, ◌≡◌}
use Rattle.sel_cli.specs.Lines.{status_line}
use Rattle.sel_cli.proofs.Writing.{line_told}
use Rattle.sel_cli.proofs.lines.tell.Goals as goal

pub returns-then-is_ok-clause-line : goal.returns-then-is_ok-clause-line
returns-then-is_ok-clause-line g c =
    let written : c.deref.result.now ≡ status_line c.args.name.now c.args.status = search rules in
    line_told c.args.name.now c.args.status c.deref.result.now _ _ c.write_all_of.result written c.write_all_of.ensures.told
