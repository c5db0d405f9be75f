use Rattle.std.proofs.Common.{◌∙◌}
use Rattle.sel_law.proofs.Close.{begins}
use Rattle.sel_law.proofs.SharedWords.new.Goals as goal

pub of_words-requires : goal.of_words-requires
of_words-requires c = let e = c.in_ok-words.ensures in let f = c.as_slice.ensures in begins c.args.setting c.as_slice.result.now (f.value ∙ e.items_if_clones_equal (λ y h. h)) c.requires.small.0 c.requires.small.1
