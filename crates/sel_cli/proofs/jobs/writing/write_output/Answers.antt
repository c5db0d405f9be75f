use Rattle.std.proofs.Common.{rules, ◌≡◌}
use Rattle.sel_cli.proofs.Writing.{put_failed, put_without_memory}
use Rattle.sel_cli.proofs.jobs.writing.write_output.Goals as goal

pub returns-in-Failed : goal.returns-in-Failed
returns-in-Failed g c =
    let written : c.deref.result.now ≡ c.args.output.now.text.items = search rules in
    record { done = put_failed c.args.output.now.covered c.args.output.now.text.items _ _ c.in-Err.stop c.in-Failed.is (rw written at c.in-Err.ensures.told) }

pub returns-in-NoMemory : goal.returns-in-NoMemory
returns-in-NoMemory g c =
    let written : c.deref.result.now ≡ c.args.output.now.text.items = search rules in
    record { done = put_without_memory c.args.output.now.covered c.args.output.now.text.items _ _ c.in-Err.stop c.in-NoMemory.is (rw written at c.in-Err.ensures.told) }
