-- What the words ask for has settings within their bounds, and lawful registers.
use Rattle.std.proofs.Common.{◌≡◌, ℕ, ◌*◌, ◌≤◌, ◌==◌, length, sym, Bool, true, false, ◌&&◌, List, [], ◌∷◌, Option, Some, None, refl, ap, subst, arith, leb-true, codes}
use Rattle.std.proofs.lemmas.List.Splits.{length-slice_split}
use Rattle.std.specs.List.{list_all}
use Rattle.std.specs.Prelude.{nat_le, bytes_eq, unwrap_or, option_and_then, option_map, if◌then◌else◌}
use Rattle.std.specs.Str.Parse.{digits_value}
use Rattle.sel_words.specs.declared.settings.Bounds.{Bounds}
use Rattle.sel_words.specs.declared.settings.Settings.{Settings}
use Rattle.sel_words.specs.Settings.{is_number, is_within, number_within, chosen_value, chosen_settings, workers_bounds, states_bounds, rows_bounds, seed_bounds, trees_bounds, size_bounds, AreWithinBounds}
use Rattle.sel_words.specs.Registers.{most_registers, register_names, is_register, are_registers, given_registers, default_registers, AreRegisters}
use Rattle.sel_words.specs.Split.{Parts, parts_of, values_for}
use Rattle.sel_words.specs.declared.words.Mode.{Mode}
use Rattle.sel_words.specs.Words.{Job, PrintGrammar, Make, OverForest, Regs, Check, GrammarSource, Task, most_made, making, mode_of, job_of, source_of, chosen_registers, task_of, asked_by, command, HasRegisters}

-- what is made of a value is made of some
from_some : {A B : Type 0} (f : A → Option B) (o : Option A) (y : B) → option_and_then f o ≡ Some y → (x : A) × (o ≡ Some x) × (f x ≡ Some y)
from_some f None y e = absurd (cc)
from_some f (Some x) y e = (x, refl, e)

from_mapped : {A B : Type 0} (f : A → B) (o : Option A) (y : B) → option_map f o ≡ Some y → (x : A) × (o ≡ Some x) × (f x ≡ y)
from_mapped f None y e = absurd (cc)
from_mapped f (Some x) y e = (x, refl, cc)

and_both : (a b : Bool) → (a && b) ≡ true → (a ≡ true) × (b ≡ true)
and_both true b e = (refl, e)
and_both false b e = absurd (cc)

-- a number is within the bounds
abbrev IsBetween : Bounds → ℕ → Type 0
IsBetween bounds n = (bounds.least ≤ n) × (n ≤ bounds.greatest)

within_if : (test : Bool) (n m : ℕ) (bounds : Bounds) → (test ≡ true → IsBetween bounds n) → (if test then Some n else None) ≡ Some m → IsBetween bounds m
within_if true n m bounds h e = let same : n ≡ m = cc in subst (IsBetween bounds) same (h refl)
within_if false n m bounds h e = absurd (cc)

is_between : (bounds : Bounds) (n : ℕ) → is_within bounds n ≡ true → IsBetween bounds n
is_between bounds n e =
    let both = and_both (nat_le bounds.least n) (nat_le n bounds.greatest) e in
    (leb-true bounds.least n both.0, leb-true n bounds.greatest both.1)

number_bounded : (bounds : Bounds) (text : List ℕ) (n : ℕ) → number_within bounds text ≡ Some n → IsBetween bounds n
number_bounded bounds text n e =
    within_if (is_number text && is_within bounds (digits_value 10 text)) (digits_value 10 text) n bounds
    (λ t. is_between bounds (digits_value 10 text) (and_both (is_number text) (is_within bounds (digits_value 10 text)) t).1) e

value_bounded : (bounds : Bounds) (values : List (List ℕ)) (n : ℕ) → IsBetween bounds bounds.default → chosen_value bounds values ≡ Some n → IsBetween bounds n
value_bounded bounds [] n h e = let same : bounds.default ≡ n = cc in subst (IsBetween bounds) same h
value_bounded bounds (value ∷ []) n h e = number_bounded bounds value n e
value_bounded bounds (value ∷ next ∷ more) n h e = absurd (cc)

-- the settings of these values; none where a value is missing
abbrev made : Option ℕ → Option ℕ → Option ℕ → Option ℕ → Option ℕ → Option ℕ → Option Settings
made w s r d t z =
    option_and_then (λ workers. option_and_then (λ states. option_and_then (λ rows. option_and_then (λ seed. option_and_then (λ trees. option_map (λ size.
    record { workers = workers; states = states; rows = rows; seed = seed; trees = trees; size = size })
    z) t) d) r) s) w

-- where there are settings, each of the values is there
record AreThese (w s r t z : Option ℕ) (settings : Settings) : Type 0 where
  workers : w ≡ Some settings.workers
  states : s ≡ Some settings.states
  rows : r ≡ Some settings.rows
  trees : t ≡ Some settings.trees
  size : z ≡ Some settings.size

made_parts : (w s r d t z : Option ℕ) (settings : Settings) → made w s r d t z ≡ Some settings → AreThese w s r t z settings
made_parts None s r d t z settings e = absurd (cc)
made_parts (Some w) None r d t z settings e = absurd (cc)
made_parts (Some w) (Some s) None d t z settings e = absurd (cc)
made_parts (Some w) (Some s) (Some r) None t z settings e = absurd (cc)
made_parts (Some w) (Some s) (Some r) (Some d) None z settings e = absurd (cc)
made_parts (Some w) (Some s) (Some r) (Some d) (Some t) None settings e = absurd (cc)
made_parts (Some w) (Some s) (Some r) (Some d) (Some t) (Some z) settings e =
    let whole : Settings = record { workers = w; states = s; rows = r; seed = d; trees = t; size = z } in
    let same : whole ≡ settings = cc in
    record {
      workers = ap (λ (x : Settings). Some x.workers) same;
      states = ap (λ (x : Settings). Some x.states) same;
      rows = ap (λ (x : Settings). Some x.rows) same;
      trees = ap (λ (x : Settings). Some x.trees) same;
      size = ap (λ (x : Settings). Some x.size) same;
    }

chosen_bounded : (values : List ℕ → List (List ℕ)) (settings : Settings) → chosen_settings values ≡ Some settings → AreWithinBounds settings
chosen_bounded values settings e =
    let parts = made_parts (chosen_value workers_bounds (values (codes "workers"))) (chosen_value states_bounds (values (codes "states"))) (chosen_value rows_bounds (values (codes "rows")))
    (chosen_value seed_bounds (values (codes "seed"))) (chosen_value trees_bounds (values (codes "trees"))) (chosen_value size_bounds (values (codes "size"))) settings e in
    record {
      some_workers = (value_bounded workers_bounds (values (codes "workers")) settings.workers (omega arith, omega arith) parts.workers).0;
      few_workers = (value_bounded workers_bounds (values (codes "workers")) settings.workers (omega arith, omega arith) parts.workers).1;
      few_states = (value_bounded states_bounds (values (codes "states")) settings.states (omega arith, omega arith) parts.states).1;
      few_rows = (value_bounded rows_bounds (values (codes "rows")) settings.rows (omega arith, omega arith) parts.rows).1;
      few_trees = (value_bounded trees_bounds (values (codes "trees")) settings.trees (omega arith, omega arith) parts.trees).1;
      some_size = (value_bounded size_bounds (values (codes "size")) settings.size (omega arith, omega arith) parts.size).0;
      small_size = (value_bounded size_bounds (values (codes "size")) settings.size (omega arith, omega arith) parts.size).1;
    }

-- the task has these settings, and its job the registers that are given or its grammar's
record Has (settings : Settings) (given : Option (List ℕ)) (task : Task) : Type 0 where
  settings_are : settings ≡ task.settings
  mode : List ℕ
  words : List (List ℕ)
  job_is : job_of settings (chosen_registers given task.grammar) mode words ≡ Some task.job

task_has : (settings : Settings) (given : Option (List ℕ)) (plain : List (List ℕ)) (task : Task) → task_of settings given plain ≡ Some task → Has settings given task
task_has settings given [] task e = absurd (cc)
task_has settings given (word ∷ []) task e = absurd (cc)
task_has settings given (mode ∷ grammar ∷ words) task e =
    let with : Job → GrammarSource → Task = λ job source. record { job = job; grammar = grammar; source = source; settings = settings } in
    let j = from_some (λ job. option_map (with job) (source_of grammar)) (job_of settings (chosen_registers given grammar) mode words) task e in
    let g = from_mapped (with j.0) (source_of grammar) task j.2 in
    record {
      settings_are = ap (λ (t : Task). t.settings) g.2;
      mode = mode;
      words = words;
      job_is = subst (λ (t : Task). job_of settings (chosen_registers given t.grammar) mode words ≡ Some t.job) g.2 j.1;
    }

-- a job that is picked has the registers that it is picked with
picked_job : (test : Bool) (chosen : Job) (other : Option Job) (job : Job) → HasRegisters chosen → ((j : Job) → other ≡ Some j → HasRegisters j) → (if test then Some chosen else other) ≡ Some job → HasRegisters job
picked_job true chosen other job h k e = let same : chosen ≡ job = cc in subst HasRegisters same h
picked_job false chosen other job h k e = k job e

none_picked : (j : Job) → None ≡ Some j → HasRegisters j
none_picked j e = absurd (cc)

made_job : (settings : Settings) (job : Job) → making settings ≡ Some job → HasRegisters job
made_job settings job e = picked_job (nat_le (settings.trees * settings.size) most_made) (Make settings.seed settings.trees settings.size) None job tt none_picked e

mode_job : (forest : List ℕ) (mode : Option Mode) (job : Job) → option_map (λ mode. OverForest mode forest) mode ≡ Some job → HasRegisters job
mode_job forest None job e = absurd (cc)
mode_job forest (Some mode) job e = let same : OverForest mode forest ≡ job = cc in subst HasRegisters same tt

job_has : (settings : Settings) (registers : List (List ℕ)) (word : List ℕ) (words : List (List ℕ)) (job : Job) → AreRegisters registers → job_of settings registers word words ≡ Some job → HasRegisters job
job_has settings registers word [] job r e =
    picked_job (bytes_eq word (codes "print")) PrintGrammar (if bytes_eq word (codes "make") then making settings else None) job tt
    (λ j f. made_or (bytes_eq word (codes "make")) j f) e
  where
    made_or : (test : Bool) (j : Job) → (if test then making settings else None) ≡ Some j → HasRegisters j
    made_or true j f = made_job settings j f
    made_or false j f = none_picked j f
job_has settings registers word (forest ∷ []) job r e =
    picked_job (bytes_eq word (codes "regs")) (Regs registers forest) (option_map (λ mode. OverForest mode forest) (mode_of word)) job r (λ j f. mode_job forest (mode_of word) j f) e
job_has settings registers word (forest ∷ certificate ∷ []) job r e = picked_job (bytes_eq word (codes "check")) (Check forest certificate) None job tt none_picked e
job_has settings registers word (forest ∷ certificate ∷ more ∷ words) job r e = absurd (cc)

-- ---- registers

names_some : (text : List ℕ) → 1 ≤ length (register_names text)
names_some text = subst (λ n. 1 ≤ n) (sym (length-slice_split (λ b. b == 44) text)) (omega arith)

registers_if : (names : List (List ℕ)) → 1 ≤ length names → are_registers names ≡ true → AreRegisters names
registers_if names some e =
    let few = and_both (nat_le (length names) most_registers) _ e in
    let rest = and_both (list_all is_register names) _ few.1 in
    record { some = some; few = leb-true (length names) most_registers few.0; named = rest.0; different = rest.1 }

default_lawful : (grammar : List ℕ) → are_registers (register_names (default_registers grammar)) ≡ true
default_lawful grammar = go (bytes_eq grammar (codes "@rv64i")) (bytes_eq grammar (codes "@aarch64")) (bytes_eq grammar (codes "@x86-64")) refl refl refl
  where
    go : (a b c : Bool) → bytes_eq grammar (codes "@rv64i") ≡ a → bytes_eq grammar (codes "@aarch64") ≡ b → bytes_eq grammar (codes "@x86-64") ≡ c
        → are_registers (register_names (default_registers grammar)) ≡ true
    go true b c e f g = rw e refl
    go false true c e f g = rw (e, f) refl
    go false false true e f g = rw (e, f, g) refl
    go false false false e f g = rw (e, f, g) refl

some_if : (test : Bool) (text : List ℕ) (given : Option (List ℕ)) → (if test then Some (Some text) else None) ≡ Some given → (test ≡ true) × (given ≡ Some text)
some_if true text given e = (refl, cc)
some_if false text given e = absurd (cc)

given_lawful : (values : List (List ℕ)) (given : Option (List ℕ)) (grammar : List ℕ) → given_registers values ≡ Some given → are_registers (chosen_registers given grammar) ≡ true
given_lawful [] given grammar e =
    let none : None ≡ given = cc in
    subst (λ (o : Option (List ℕ)). are_registers (chosen_registers o grammar) ≡ true) none (default_lawful grammar)
given_lawful (value ∷ []) given grammar e =
    let h = some_if (are_registers (register_names value)) value given e in
    subst (λ (o : Option (List ℕ)). are_registers (chosen_registers o grammar) ≡ true) (sym h.1) h.0
given_lawful (value ∷ next ∷ more) given grammar e = absurd (cc)

-- what is asked for by words: settings and given registers, and a task that has them
record Asked (task : Task) : Type 0 where
  parts : Parts
  settings : Settings
  given : Option (List ℕ)
  chosen : chosen_settings (λ name. values_for name parts.given) ≡ Some settings
  gave : given_registers (values_for (codes "registers") parts.given) ≡ Some given
  has : Has settings given task

asked_parts : (words : List (List ℕ)) (task : Task) → command words ≡ Some task → Asked task
asked_parts words task e =
    let p = from_some asked_by (parts_of None words) task e in
    let parts = p.0 in
    let s = from_some (λ settings. option_and_then (λ given. task_of settings given parts.plain) (given_registers (values_for (codes "registers") parts.given)))
    (chosen_settings (λ name. values_for name parts.given)) task p.2 in
    let g = from_some (λ given. task_of s.0 given parts.plain) (given_registers (values_for (codes "registers") parts.given)) task s.2 in
    record { parts = parts; settings = s.0; given = g.0; chosen = s.1; gave = g.1; has = task_has s.0 g.0 parts.plain task g.2 }

pub command_bounded : (words : List (List ℕ)) (task : Task) → command words ≡ Some task → AreWithinBounds task.settings
command_bounded words task e =
    let a = asked_parts words task e in
    subst AreWithinBounds a.has.settings_are (chosen_bounded (λ name. values_for name a.parts.given) a.settings a.chosen)

pub command_registers : (words : List (List ℕ)) (task : Task) → command words ≡ Some task → HasRegisters task.job
command_registers words task e =
    let a = asked_parts words task e in
    let h = a.has in
    job_has a.settings (chosen_registers a.given task.grammar) h.mode h.words task.job
    (registers_if (chosen_registers a.given task.grammar) (names_some (unwrap_or a.given (default_registers task.grammar))) (given_lawful (values_for (codes "registers") a.parts.given) a.given task.grammar a.gave))
    h.job_is
