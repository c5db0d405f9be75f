-- The command line as it is told to clap: options with a value, and plain words. That no option stands twice is the caller's.
use Rattle.std.specs.Prelude.{ℕ, true, List, Some, codes}
use Rattle.clap.specs.Walk.{Rule}
use Rattle.clap.specs.Simple.{App, new_rule, new_app, on_top, with_rule}
use Rattle.clap.specs.declared.builder.action.ArgAction.TheVariants.{Append}

abbrev pub option_rule : List ℕ → Rule
option_rule name = record (new_rule name) { long = Some name; action = Some Append }

abbrev pub plain_rule : Rule
plain_rule = record (new_rule (codes "plain")) { action = Some Append }

abbrev pub bare : App
bare = on_top (λ s. record s { no_binary_name = true; disable_help_flag = true; disable_version_flag = true }) (new_app (codes "sel"))

-- the options whose values are numbers
abbrev pub with_numbers : App → App
with_numbers app = with_rule (with_rule (with_rule (with_rule (with_rule (with_rule app
    (option_rule (codes "workers"))) (option_rule (codes "states"))) (option_rule (codes "rows")))
    (option_rule (codes "seed"))) (option_rule (codes "trees"))) (option_rule (codes "size"))

abbrev pub sel_app : App
sel_app = with_rule (with_rule (with_numbers bare) (option_rule (codes "registers"))) plain_rule
