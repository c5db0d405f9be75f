use Rattle.sel_closing.proofs.PlainNodes.{plain_are_untabled, plain_counts_untabled}
use Rattle.sel_closing.proofs.laws.plain_are_untabled.Goals as goal

pub returns : goal.returns
returns c = record { each = plain_are_untabled; count = plain_counts_untabled }
