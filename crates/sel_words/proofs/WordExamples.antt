-- Lists of words, with what they ask for, by hand.
use Rattle.std.proofs.Common.{◌≡◌, ℕ, List, [], ◌∷◌, Option, Some, None, refl, codes}
use Rattle.sel_words.specs.declared.settings.Settings.{Settings}
use Rattle.sel_words.specs.declared.words.Mode.TheVariants.{Cover, Select, Print, Certify}
use Rattle.sel_targets.specs.Rv64i.{rv64i_text}
use Rattle.sel_targets.specs.X8664.{x86_64_text}
use Rattle.sel_words.specs.Words.{Task, PrintGrammar, OverForest, Regs, Check, Held, Shipped, command}

abbrev plain_settings : Settings
plain_settings = record { workers = 4; states = 4096; rows = 65536; seed = 1; trees = 1000; size = 64 }

abbrev plain_registers : List (List ℕ)
plain_registers = codes "r0" ∷ codes "r1" ∷ codes "r2" ∷ codes "r3" ∷ codes "r4" ∷ codes "r5" ∷ codes "r6" ∷ codes "r7" ∷ []

abbrev plain : Settings → Option Task
plain settings = Some (record { job = OverForest Cover (codes "f"); grammar = codes "g0"; source = Held; settings = settings })

abbrev no : Option Task
no = None

three_words : command (codes "cover" ∷ codes "g0" ∷ codes "f" ∷ []) ≡ plain plain_settings
three_words = refl

selected : command (codes "select" ∷ codes "g0" ∷ codes "f" ∷ []) ≡ Some (record { job = OverForest Select (codes "f"); grammar = codes "g0"; source = Held; settings = plain_settings })
selected = refl

select_of_two : command (codes "select" ∷ codes "g0" ∷ []) ≡ no
select_of_two = refl

one_word_option : command (codes "cover" ∷ codes "--workers=4" ∷ codes "g0" ∷ codes "f" ∷ []) ≡ plain plain_settings
one_word_option = refl

two_word_option : command (codes "cover" ∷ codes "g0" ∷ codes "--workers" ∷ codes "64" ∷ codes "f" ∷ []) ≡ plain (record plain_settings { workers = 64 })
two_word_option = refl

behind_hyphens : command (codes "cover" ∷ codes "g0" ∷ codes "--" ∷ codes "f" ∷ []) ≡ plain plain_settings
behind_hyphens = refl

no_words : command [] ≡ no
no_words = refl

grammar_alone : command (codes "print" ∷ codes "g0" ∷ []) ≡ Some (record { job = PrintGrammar; grammar = codes "g0"; source = Held; settings = plain_settings })
grammar_alone = refl

forest_printed : command (codes "print" ∷ codes "--size" ∷ codes "7" ∷ codes "g0" ∷ codes "f" ∷ []) ≡ Some (record { job = OverForest Print (codes "f"); grammar = codes "g0"; source = Held; settings = record plain_settings { size = 7 } })
forest_printed = refl

print_of_three : command (codes "print" ∷ codes "g0" ∷ codes "f" ∷ codes "f" ∷ []) ≡ no
print_of_three = refl

print_alone : command (codes "print" ∷ []) ≡ no
print_alone = refl

too_few : command (codes "cover" ∷ codes "g0" ∷ []) ≡ no
too_few = refl

too_many : command (codes "cover" ∷ codes "g0" ∷ codes "f" ∷ codes "f" ∷ []) ≡ no
too_many = refl

too_many_workers : command (codes "cover" ∷ codes "g0" ∷ codes "f" ∷ codes "--workers" ∷ codes "65" ∷ []) ≡ no
too_many_workers = refl

twice : command (codes "cover" ∷ codes "g0" ∷ codes "f" ∷ codes "--workers" ∷ codes "1" ∷ codes "--workers" ∷ codes "1" ∷ []) ≡ no
twice = refl

unknown : command (codes "cover" ∷ codes "g0" ∷ codes "f" ∷ codes "-x" ∷ []) ≡ no
unknown = refl

-- a shipped grammar is named by its own name alone, behind `--` too
selected_shipped : command (codes "select" ∷ codes "@rv64i" ∷ codes "f" ∷ []) ≡ Some (record { job = OverForest Select (codes "f"); grammar = codes "@rv64i"; source = Shipped rv64i_text; settings = plain_settings })
selected_shipped = refl

printed_shipped : command (codes "print" ∷ codes "--" ∷ codes "@x86-64" ∷ []) ≡ Some (record { job = PrintGrammar; grammar = codes "@x86-64"; source = Shipped x86_64_text; settings = plain_settings })
printed_shipped = refl

not_shipped : command (codes "cover" ∷ codes "@mips" ∷ codes "f" ∷ []) ≡ no
not_shipped = refl

not_shipped_behind_hyphens : command (codes "cover" ∷ codes "--" ∷ codes "@mips" ∷ codes "f" ∷ []) ≡ no
not_shipped_behind_hyphens = refl

no_name_behind_the_sign : command (codes "print" ∷ codes "@" ∷ []) ≡ no
no_name_behind_the_sign = refl

hyphens_for_a_value : command (codes "cover" ∷ codes "g0" ∷ codes "--rows" ∷ codes "--" ∷ codes "f" ∷ []) ≡ no
hyphens_for_a_value = refl

largest_seed : command (codes "cover" ∷ codes "g0" ∷ codes "f" ∷ codes "--seed=18446744073709551615" ∷ []) ≡ plain (record plain_settings { seed = 18446744073709551615 })
largest_seed = refl

seed_too_large : command (codes "cover" ∷ codes "g0" ∷ codes "f" ∷ codes "--seed=18446744073709551616" ∷ []) ≡ no
seed_too_large = refl

certified : command (codes "certify" ∷ codes "g0" ∷ codes "f" ∷ []) ≡ Some (record { job = OverForest Certify (codes "f"); grammar = codes "g0"; source = Held; settings = plain_settings })
certified = refl

checked : command (codes "check" ∷ codes "g0" ∷ codes "f" ∷ codes "c" ∷ []) ≡ Some (record { job = Check (codes "f") (codes "c"); grammar = codes "g0"; source = Held; settings = plain_settings })
checked = refl

check_of_two : command (codes "check" ∷ codes "g0" ∷ codes "f" ∷ []) ≡ no
check_of_two = refl

certify_of_three : command (codes "certify" ∷ codes "g0" ∷ codes "f" ∷ codes "c" ∷ []) ≡ no
certify_of_three = refl

registered : command (codes "regs" ∷ codes "g0" ∷ codes "f" ∷ codes "--registers" ∷ codes "a,b" ∷ []) ≡ Some (record { job = Regs (codes "a" ∷ codes "b" ∷ []) (codes "f"); grammar = codes "g0"; source = Held; settings = plain_settings })
registered = refl

plain_registered : command (codes "regs" ∷ codes "g0" ∷ codes "f" ∷ []) ≡ Some (record { job = Regs plain_registers (codes "f"); grammar = codes "g0"; source = Held; settings = plain_settings })
plain_registered = refl

shipped_registered : command (codes "regs" ∷ codes "@x86-64" ∷ codes "f" ∷ []) ≡ Some (record { job = Regs (codes "r8" ∷ codes "r9" ∷ codes "r10" ∷ codes "r11" ∷ []) (codes "f"); grammar = codes "@x86-64"; source = Shipped x86_64_text; settings = plain_settings })
shipped_registered = refl

same_register : command (codes "regs" ∷ codes "g0" ∷ codes "f" ∷ codes "--registers" ∷ codes "a,a" ∷ []) ≡ no
same_register = refl

no_register : command (codes "regs" ∷ codes "g0" ∷ codes "f" ∷ codes "--registers=" ∷ []) ≡ no
no_register = refl

long_register : command (codes "regs" ∷ codes "g0" ∷ codes "f" ∷ codes "--registers=abcdefghijklmno1" ∷ []) ≡ no
long_register = refl

longest_register : command (codes "regs" ∷ codes "g0" ∷ codes "f" ∷ codes "--registers=abcdefghijklmno" ∷ []) ≡ Some (record { job = Regs (codes "abcdefghijklmno" ∷ []) (codes "f"); grammar = codes "g0"; source = Held; settings = plain_settings })
longest_register = refl
