-- What a command means: the texts behind its references.
use Rattle.std.specs.Prelude.{◌≤◌, length}
use Rattle.sel_targets.specs.Lines.{most_bytes}
use Rattle.sel_words.specs.Words.{Job, PrintGrammar, Make, OverForest, Regs, Check, GrammarSource, Held, Shipped, Task}
use Rattle.sel_words.specs.Registers.{register_names}
use Rattle.sel_words.specs.declared.settings.Settings.{Settings}
use Rattle.sel_words.specs.declared.words.Command.{Command}
use Rattle.sel_words.specs.declared.words.Job.TheVariants as words
use Rattle.sel_words.specs.declared.words.Job as declared
use Rattle.sel_words.specs.declared.words.GrammarSource as sources
use Rattle.sel_words.specs.declared.words.GrammarSource.TheVariants as source

abbrev pub job_for : Settings → declared.Job → Job
job_for settings words.PrintGrammar = PrintGrammar
job_for settings words.Make = Make settings.seed settings.trees settings.size
job_for settings (words.OverForest mode name) = OverForest mode name.now
job_for settings (words.Regs forest registers) = Regs (register_names registers.now) forest.now
job_for settings (words.Check forest certificate) = Check forest.now certificate.now

abbrev pub source_for : sources.GrammarSource → GrammarSource
source_for source.Held = Held
source_for (source.Shipped text) = Shipped text.now

abbrev pub task_for : Command → Task
task_for c = record { job = job_for c.settings c.job; grammar = c.grammar.now; source = source_for c.source; settings = c.settings }

-- a shipped text is short
abbrev pub IsShort : GrammarSource → Type 0
IsShort Held = Unit {0}
IsShort (Shipped text) = length text ≤ most_bytes
