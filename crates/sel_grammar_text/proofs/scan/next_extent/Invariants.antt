use Rattle.std.proofs.Common.{◌+◌, ◌≤◌, length}
use Rattle.sel_grammar_text.specs.Machine.{open_count}
use Rattle.sel_grammar_text.proofs.Walking.{Walk}
use Rattle.sel_grammar_text.proofs.scan.next_extent.Given as goal

abbrev pub invariant-tokens : goal.invariant-tokens
invariant-tokens l = record {
  walk : Walk l.all l.fn.start l.text l.state l.names l.rest l.count;
  within : length l.rest ≤ length l.text;
  depth : open_count l.state + length l.rest ≤ length l.text;
  names : l.names + length l.rest ≤ length l.text;
  count : l.count + length l.rest ≤ length l.text;
}

abbrev pub decreases-tokens : goal.decreases-tokens
decreases-tokens l = length l.rest
