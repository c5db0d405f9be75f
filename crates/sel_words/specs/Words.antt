-- What the words ask for.
use Rattle.std.specs.Prelude.{ℕ, ◌*◌, ◌==◌, nat_le, List, [], ◌∷◌, Option, Some, None, option_and_then, option_map, unwrap_or, bytes_eq, codes, if◌then◌else◌}
use Rattle.sel_base.specs.Ascii.{at_sign}
use Rattle.sel_targets.specs.TargetText.{target_text}
use Rattle.sel_words.specs.declared.settings.Settings.{Settings}
use Rattle.sel_words.specs.declared.words.Mode.{Mode}
use Rattle.sel_words.specs.declared.words.Mode.TheVariants.{Cover, Select, Print, Summary, Certify}
use Rattle.sel_words.specs.Registers.{register_names, given_registers, default_registers, AreRegisters}
use Rattle.sel_words.specs.Settings.{chosen_settings}
use Rattle.sel_words.specs.Split.{Parts, parts_of, values_for}

-- what is to be done: the grammar is printed; a forest is made of a seed, a count of trees and their size, and a summary is written of it;
-- a forest, whose text has this name, is read, and answered, printed, summed up or certified; registers with these names are given to the
-- texts of a forest, which has this name; or a forest and a text of certificates, which have these names, are read, and the certificates are
-- checked
pub data Job : Type 0 where
  PrintGrammar : Job
  Make : ℕ → ℕ → ℕ → Job
  OverForest : Mode → List ℕ → Job
  Regs : List (List ℕ) → List ℕ → Job
  Check : List ℕ → List ℕ → Job

-- where the grammar's text is from: the shelf holds it under the grammar's name, or the program ships it, and it is this text
pub data GrammarSource : Type 0 where
  Held : GrammarSource
  Shipped : List ℕ → GrammarSource

-- what is to be done, the grammar's name, which is its word as given, where its text is from, and how it is to be done
pub record Task : Type 0 where
  pub job : Job
  pub grammar : List ℕ
  pub source : GrammarSource
  pub settings : Settings

-- the name under which the shelf holds a grammar's text of this source and name; none for a shipped grammar
abbrev pub held_under : GrammarSource → List ℕ → Option (List ℕ)
held_under Held name = Some name
held_under (Shipped text) name = None

-- the name of the grammar's text on the shelf, where it is read
abbrev pub grammar_name : Task → Option (List ℕ)
grammar_name task = held_under task.source task.grammar

-- the name of the forest's text, where there is one
abbrev pub forest_name : Job → Option (List ℕ)
forest_name PrintGrammar = None
forest_name (Make seed trees size) = None
forest_name (OverForest mode name) = Some name
forest_name (Regs registers name) = Some name
forest_name (Check name certificate) = Some name

-- the name of the text of certificates, where there is one
abbrev pub certificate_name : Job → Option (List ℕ)
certificate_name PrintGrammar = None
certificate_name (Make seed trees size) = None
certificate_name (OverForest mode name) = None
certificate_name (Regs registers name) = None
certificate_name (Check name certificate) = Some certificate

-- of the names of two texts that are read one after the other, the last
abbrev pub later_name : Option (List ℕ) → Option (List ℕ) → Option (List ℕ)
later_name first None = first
later_name first (Some second) = Some second

-- the name of the text that is read last; none where none is read, which is so where a shipped grammar is printed, or a forest made of it
abbrev pub last_name : Task → Option (List ℕ)
last_name task = later_name (later_name (grammar_name task) (forest_name task.job)) (certificate_name task.job)

-- what is done over a forest, by the word
abbrev pub mode_of : List ℕ → Option Mode
mode_of word =
    if bytes_eq word (codes "cover") then Some Cover else (
    if bytes_eq word (codes "select") then Some Select else (
    if bytes_eq word (codes "print") then Some Print else (
    if bytes_eq word (codes "summary") then Some Summary else (
    if bytes_eq word (codes "certify") then Some Certify else None))))

-- the greatest count of trees times their size
abbrev pub most_made : ℕ
most_made = 16000000

-- a forest is made, as the settings say, unless it is too large
abbrev pub making : Settings → Option Job
making settings = if nat_le (settings.trees * settings.size) most_made then Some (Make settings.seed settings.trees settings.size) else None

-- what is done with a grammar alone, by the word
abbrev pub grammar_job : Settings → List ℕ → Option Job
grammar_job settings word =
    if bytes_eq word (codes "print") then Some PrintGrammar else (
    if bytes_eq word (codes "make") then making settings else None)

-- what is done with a forest, by the word, with registers of these names
abbrev pub forest_job : List (List ℕ) → List ℕ → List ℕ → Option Job
forest_job registers word forest =
    if bytes_eq word (codes "regs") then Some (Regs registers forest) else option_map (λ mode. OverForest mode forest) (mode_of word)

-- what is done with a forest and a further text, by the word
abbrev pub checking : List ℕ → List ℕ → List ℕ → Option Job
checking word forest certificate = if bytes_eq word (codes "check") then Some (Check forest certificate) else None

-- what is done, by the first word and those behind the grammar's, with registers of these names
abbrev pub job_of : Settings → List (List ℕ) → List ℕ → List (List ℕ) → Option Job
job_of settings registers word [] = grammar_job settings word
job_of settings registers word (forest ∷ []) = forest_job registers word forest
job_of settings registers word (forest ∷ certificate ∷ []) = checking word forest certificate
job_of settings registers word (forest ∷ certificate ∷ more ∷ words) = None

-- where the text of the grammar with this word is from: behind `@` stands the name of a shipped grammar, and none for every other name there;
-- any other word is a name for the shelf
abbrev pub source_of : List ℕ → Option GrammarSource
source_of [] = Some Held
source_of (first ∷ rest) = if first == at_sign then option_map (λ text. Shipped text) (target_text rest) else Some Held

-- the names of the registers that are given, or of the grammar's where none are
abbrev pub chosen_registers : Option (List ℕ) → List ℕ → List (List ℕ)
chosen_registers given grammar = register_names (unwrap_or given (default_registers grammar))

-- MODE, GRAMMAR and, for most, FOREST and CERTIFICATE, with these settings and, where they are given, these registers
abbrev pub task_of : Settings → Option (List ℕ) → List (List ℕ) → Option Task
task_of settings given (mode ∷ grammar ∷ words) =
    option_and_then (λ job. option_map (λ source. record { job = job; grammar = grammar; source = source; settings = settings }) (source_of grammar))
    (job_of settings (chosen_registers given grammar) mode words)
task_of settings given _ = None

-- what the parts ask for: lawful options, and the plain words of a task
abbrev pub asked_by : Parts → Option Task
asked_by parts = option_and_then (λ settings. option_and_then (λ given. task_of settings given parts.plain) (given_registers (values_for (codes "registers") parts.given)))
    (chosen_settings (λ name. values_for name parts.given))

-- what the words ask for; none where they are no command
abbrev pub command : List (List ℕ) → Option Task
command words = option_and_then asked_by (parts_of None words)

-- registers of a job have lawful names
abbrev pub HasRegisters : Job → Type 0
HasRegisters (Regs registers name) = AreRegisters registers
HasRegisters _ = Unit {0}
