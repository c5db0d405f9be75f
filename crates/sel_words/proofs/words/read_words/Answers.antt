use Rattle.std.proofs.Common.{◌≡◌, Result, Ok, Err, Option, Some, None, map, string_bytes, sym, ap, IfOk, subst, rules}
use Rattle.std.specs.Prelude.{List, ℕ, IfSome, option_map, option_and_then}
use Rattle.sel_words.specs.Found.{IsFound}
use Rattle.sel_words.specs.Split.{Parts, parts_of}
use Rattle.sel_words.specs.declared.words.Command.{Command}
use Rattle.sel_words.specs.Words.{Task, asked_by, command, HasRegisters}
use Rattle.sel_words.proofs.Bounded.{command_registers}
use Rattle.sel_words.specs.Names.{task_for}
use Rattle.sel_words.proofs.words.read_words.Goals as goal

abbrev AreLawful : Option Command → Type 0
AreLawful answer = IfSome answer (λ c. HasRegisters (task_for c).job)

registers_of : {E : Type 0} (words : List (List ℕ)) (r : Result (Option Command) E) → IfOk r (λ answer. option_map task_for answer ≡ command words) → IfOk r AreLawful
registers_of words (Err e) h = tt
registers_of words (Ok None) h = tt
registers_of words (Ok (Some c)) h = command_registers words (task_for c) (sym h)

pub returns-clause-exact : goal.returns-clause-exact
returns-clause-exact c =
    let p : (parts : Parts) × (parts_of None (map string_bytes c.args.words.now) ≡ Some parts) × IsFound c.in-Some.found parts = search rules in
    subst (λ (task : Option Task). IfOk c.asked_by.result (λ answer. option_map task_for answer ≡ task)) (sym (ap (option_and_then asked_by) p.1)) (c.asked_by.ensures.exact p.0 p.2)

pub returns-clause-registers : goal.returns-clause-registers
returns-clause-registers c = registers_of (map string_bytes c.args.words.now) c.asked_by.result (returns-clause-exact c)
