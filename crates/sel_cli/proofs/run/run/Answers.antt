use Rattle.sel_cli.proofs.Decided.{decided, completes}
use Rattle.sel_cli.proofs.run.run.Goals as goal

pub returns-clause-exactly : goal.returns-clause-exactly
returns-clause-exactly g c =
    decided _ c.obey-status.result.report (g.S.Shelf.told c.args.shelf.now) (g.S.Shelf.told c.obey-status.new.shelf) (g.K.Sink.told c.args.out.now) (g.K.Sink.told c.obey-status.new.out) _ _ _ c.obey-status.ensures.served.why

pub returns-clause-complete : goal.returns-clause-complete
returns-clause-complete g c = completes _ c.obey-status.result.report _ _ _ _ _ _ _ c.obey-status.ensures.served.written c.obey-status.ensures.served.why
