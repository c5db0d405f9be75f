-- The parts of the words are what clap finds, and where it finds none the words are no command.
use Rattle.std.proofs.Common.{◌≡◌, ℕ, Bool, true, false, not, ◌&&◌, ◌||◌, if◌then◌else◌, List, [], ◌∷◌, Option, Some, None, is_some, IfSome, refl, sym, ap, ◌∙◌, codes}
use Rattle.std.proofs.Common.{true≢false}
use Rattle.std.specs.Prelude.{bytes_eq, option_map, option_and_then}
use Rattle.std.specs.List.{list_any}
use Rattle.clap.specs.declared.parser.matches.ArgMatches.{ArgMatches}
use Rattle.sel_words.specs.Split.{Given, Parts, is_hyphened, is_option, is_name, name_in, value_in, with_given, with_plain, parts_of, values_for}
use Rattle.sel_words.specs.Registers.{are_registers, register_names, given_registers}
use Rattle.sel_words.specs.Settings.{is_number, chosen_value, chosen_settings, workers_bounds, states_bounds, rows_bounds, seed_bounds, trees_bounds, size_bounds}
use Rattle.sel_words.specs.declared.settings.Bounds.{Bounds}
use Rattle.sel_words.specs.declared.settings.Settings.{Settings}
use Rattle.sel_words.specs.Words.{Task, task_of, asked_by, command}
use Rattle.sel_words.specs.Found.{values_in, IsFound}
use Rattle.sel_words.proofs.ClapReading.{Text, dashes, is_plain, reads, plain_name, value_at, values}
use Rattle.sel_words.proofs.ClapTakes.{names_case, same_bytes}
use Rattle.sel_words.proofs.WordShapes.{long_some, long_none, short_is, no_number, no_registers}

-- the parts have these values, under each name and among the plain words
abbrev Matches : Option Parts → (Text → List Text) → Type 0
Matches (Some parts) vs = (vs plain_name ≡ parts.plain) × ((name : Text) → is_name name ≡ true → vs name ≡ values_for name parts.given)
Matches None vs = ⊥

no_plain : (name : Text) → is_name name ≡ true → bytes_eq name plain_name ≡ false
no_plain = names_case (λ name. bytes_eq name plain_name ≡ false) refl refl refl refl refl refl refl

plain_no : (name : Text) → is_name name ≡ true → bytes_eq plain_name name ≡ false
plain_no = names_case (λ name. bytes_eq plain_name name ≡ false) refl refl refl refl refl refl refl

given_value : (name value other : Text) (vs : List Text) (given : List Given) (b : Bool) → bytes_eq name other ≡ b → vs ≡ values_for other given
    → value_at other name value vs ≡ values_for other (record { name = name; value = value } ∷ given)
given_value name value other vs given true e h = rw e (ap (λ l. value ∷ l) h)
given_value name value other vs given false e h = rw e h

given_matches : (o : Option Parts) (vs : Text → List Text) (name value : Text) → is_name name ≡ true → Matches o vs
    → Matches (option_map (with_given name value) o) (λ id. value_at id name value (vs id))
given_matches None vs name value m h = h
given_matches (Some parts) vs name value m h =
    (rw (no_plain name m) h.0, λ other k. given_value name value other (vs other) parts.given (bytes_eq name other) refl (h.1 other k))

plain_matches : (o : Option Parts) (vs : Text → List Text) (word : Text) → Matches o vs
    → Matches (option_map (with_plain word) o) (λ id. value_at id plain_name word (vs id))
plain_matches None vs word h = h
plain_matches (Some parts) vs word h = (ap (λ l. word ∷ l) h.0, λ other k. rw (plain_no other k) (h.1 other k))

behind_matches : (rest : List Text) → Matches (Some (record { given = []; plain = rest })) (λ id. if bytes_eq plain_name id then rest else [])
behind_matches rest = (refl, λ other k. rw (plain_no other k) refl)

and_right : (a b : Bool) → (a && b) ≡ true → b ≡ true
and_right true b e = e
and_right false b e = absurd (true≢false (sym e))

abbrev Idle : List Text → Type 0
Idle words = reads None words ≡ true → Matches (parts_of None words) (λ id. values id None words)

abbrev Wait : List Text → Type 0
Wait words = (name : Text) → is_name name ≡ true → reads (Some name) words ≡ true → Matches (parts_of (Some name) words) (λ id. values id (Some name) words)

none_is : {A : Type 0} (o : Option A) → is_some o ≡ false → o ≡ None
none_is None e = refl
none_is (Some x) e = absurd (true≢false e)

module _ (word : Text) (rest : List Text) (idle : Idle rest) (wait : Wait rest) where
  option_matches : bytes_eq word dashes ≡ false → is_option word ≡ true → (m : Bool) (v : Option Text) → is_name (name_in word) ≡ m → value_in word ≡ v
      → Idle (word ∷ rest)
  option_matches d o true None em ev r =
      let q = rw (d, long_some word o, em, ev) at r in
      rw (d, o, long_some word o, em, ev) (wait (name_in word) em q)
  option_matches d o true (Some v) em ev r =
      let q = rw (d, long_some word o, em, ev) at r in
      rw (d, o, long_some word o, em, ev) (given_matches _ _ (name_in word) v em (idle q))
  option_matches d o false v em ev r = absurd (true≢false (sym (rw (d, long_some word o, em) at r)))

  other_matches : bytes_eq word dashes ≡ false → is_option word ≡ false → (h : Bool) → is_hyphened word ≡ h → Idle (word ∷ rest)
  other_matches d o true eh r =
      let short = short_is word d o ∙ eh in
      absurd (true≢false (sym (rw (d, long_none word o, short) at r)))
  other_matches d o false eh r =
      let short = short_is word d o ∙ eh in
      let q = rw (d, long_none word o, short) at r in
      rw (d, o, eh, long_none word o) (plain_matches _ _ word (idle q))

  idle_matches : (d o : Bool) → bytes_eq word dashes ≡ d → is_option word ≡ o → Idle (word ∷ rest)
  idle_matches true o ed eo r = rw ed (behind_matches rest)
  idle_matches false true ed eo r = option_matches ed eo (is_name (name_in word)) (value_in word) refl refl r
  idle_matches false false ed eo r = other_matches ed eo (is_hyphened word) refl r

  wait_matches : Wait (word ∷ rest)
  wait_matches name m r = given_matches _ _ name word m (idle (and_right (is_plain word) _ r))

-- where the words can be read, their parts have the values that clap reads
matches : (words : List Text) → Idle words × Wait words
matches [] = (λ r. (refl, λ name m. refl), λ name m r. absurd (true≢false (sym r)))
matches (word ∷ rest) =
    let h = matches rest in
    (idle_matches word rest h.0 h.1 (bytes_eq word dashes) (is_option word) refl refl, wait_matches word rest h.0 h.1)

found_parts : (o : Option Parts) (vs : Text → List Text) (found : ArgMatches) → ((name : Text) → values_in found name ≡ vs name) → Matches o vs
    → (parts : Parts) × (o ≡ Some parts) × IsFound found parts
found_parts None vs found e h = absurd h
found_parts (Some parts) vs found e h = (parts, refl, record { plain = e plain_name ∙ h.0; given = λ name m. e name ∙ h.1 name m })

-- what clap found are the parts of the words
pub finds : (words : List Text) (found : ArgMatches) → ((name : Text) → values_in found name ≡ values name None words) → reads None words ≡ true
    → (parts : Parts) × (parts_of None words ≡ Some parts) × IsFound found parts
finds words found e r = found_parts _ _ found e ((matches words).0 r)

-- ---- words that can't be read

-- the value is one for the option of this name
abbrev is_lawful : Text → Text → Bool
is_lawful name value = if bytes_eq name (codes "registers") then are_registers (register_names value) else is_number value

no_lawful : (name word : Text) → is_plain word ≡ false → is_lawful name word ≡ false
no_lawful name word p = go (bytes_eq name (codes "registers")) refl
  where
    go : (b : Bool) → bytes_eq name (codes "registers") ≡ b → is_lawful name word ≡ false
    go true e = rw e (no_registers word p)
    go false e = rw e (no_number word p)

abbrev has_bad : Text → List Given → Bool
has_bad name given = list_any (λ value. not (is_lawful name value)) (values_for name given)

-- there are no parts, or some option's value is none for it
abbrev Refused : Option Parts → Type 0
Refused o = IfSome o (λ parts. (name : Text) × (is_name name ≡ true) × (has_bad name parts.given ≡ true))

or_right : (a b : Bool) → b ≡ true → (a || b) ≡ true
or_right true b e = refl
or_right false b e = e

bad_behind : (name value other : Text) (given : List Given) (b : Bool) → bytes_eq name other ≡ b → has_bad other given ≡ true
    → has_bad other (record { name = name; value = value } ∷ given) ≡ true
bad_behind name value other given true e h = rw e (or_right (not (is_lawful other value)) _ h)
bad_behind name value other given false e h = rw e h

given_refused : (o : Option Parts) (name value : Text) → Refused o → Refused (option_map (with_given name value) o)
given_refused None name value h = h
given_refused (Some parts) name value h = (h.0, h.1, bad_behind name value h.0 parts.given (bytes_eq name h.0) refl h.2)

plain_refused : (o : Option Parts) (word : Text) → Refused o → Refused (option_map (with_plain word) o)
plain_refused None word h = h
plain_refused (Some parts) word h = h

bad_refused : (o : Option Parts) (name value : Text) → is_name name ≡ true → is_lawful name value ≡ false → Refused (option_map (with_given name value) o)
bad_refused None name value m bad = tt
bad_refused (Some parts) name value m bad = (name, m, rw (same_bytes name, bad) refl)

abbrev IdleRefused : List Text → Type 0
IdleRefused words = reads None words ≡ false → Refused (parts_of None words)

abbrev WaitRefused : List Text → Type 0
WaitRefused words = (name : Text) → is_name name ≡ true → reads (Some name) words ≡ false → Refused (parts_of (Some name) words)

module _ (word : Text) (rest : List Text) (idle : IdleRefused rest) (wait : WaitRefused rest) where
  option_refused : bytes_eq word dashes ≡ false → is_option word ≡ true → (m : Bool) (v : Option Text) → is_name (name_in word) ≡ m → value_in word ≡ v
      → IdleRefused (word ∷ rest)
  option_refused d o true None em ev r =
      let q = rw (d, long_some word o, em, ev) at r in
      rw (d, o, em, ev) (wait (name_in word) em q)
  option_refused d o true (Some v) em ev r =
      let q = rw (d, long_some word o, em, ev) at r in
      rw (d, o, em, ev) (given_refused _ (name_in word) v (idle q))
  option_refused d o false v em ev r = rw (d, o, em) tt

  other_refused : bytes_eq word dashes ≡ false → is_option word ≡ false → (h : Bool) → is_hyphened word ≡ h → IdleRefused (word ∷ rest)
  other_refused d o true eh r = rw (d, o, eh) tt
  other_refused d o false eh r =
      let short = short_is word d o ∙ eh in
      let q = rw (d, long_none word o, short) at r in
      rw (d, o, eh) (plain_refused _ word (idle q))

  idle_refused : (d o : Bool) → bytes_eq word dashes ≡ d → is_option word ≡ o → IdleRefused (word ∷ rest)
  idle_refused true o ed eo r = absurd (true≢false (rw ed at r))
  idle_refused false true ed eo r = option_refused ed eo (is_name (name_in word)) (value_in word) refl refl r
  idle_refused false false ed eo r = other_refused ed eo (is_hyphened word) refl r

  value_refused : (name : Text) → is_name name ≡ true → (p : Bool) → is_plain word ≡ p → (p && reads None rest) ≡ false → Refused (parts_of (Some name) (word ∷ rest))
  value_refused name m true e r = given_refused _ name word (idle r)
  value_refused name m false e r = bad_refused _ name word m (no_lawful name word e)

  wait_refused : WaitRefused (word ∷ rest)
  wait_refused name m r = value_refused name m (is_plain word) refl r

refuses : (words : List Text) → IdleRefused words × WaitRefused words
refuses [] = (λ r. absurd (true≢false r), λ name m r. tt)
refuses (word ∷ rest) =
    let h = refuses rest in
    (idle_refused word rest h.0 h.1 (bytes_eq word dashes) (is_option word) refl refl, wait_refused word rest h.0 h.1)

bad_value : (bounds : Bounds) (vs : List Text) → list_any (λ value. not (is_number value)) vs ≡ true → chosen_value bounds vs ≡ None
bad_value bounds [] e = absurd (true≢false (sym e))
bad_value bounds (v ∷ []) e = go (is_number v) refl
  where
    go : (b : Bool) → is_number v ≡ b → chosen_value bounds (v ∷ []) ≡ None
    go true f = absurd (true≢false (sym (rw f at e)))
    go false f = rw f refl
bad_value bounds (v ∷ w ∷ vs) e = refl

-- what six values say together
abbrev six : Option ℕ → Option ℕ → Option ℕ → Option ℕ → Option ℕ → Option ℕ → Option Settings
six w s r d t z =
    option_and_then (λ workers. option_and_then (λ states. option_and_then (λ rows. option_and_then (λ seed. option_and_then (λ trees. option_map (λ size.
    record { workers = workers; states = states; rows = rows; seed = seed; trees = trees; size = size }) z) t) d) r) s) w

no_workers : (s r d t z : Option ℕ) → six None s r d t z ≡ None
no_workers s r d t z = refl

no_states : (w r d t z : Option ℕ) → six w None r d t z ≡ None
no_states None r d t z = refl
no_states (Some w) r d t z = refl

no_rows : (w s d t z : Option ℕ) → six w s None d t z ≡ None
no_rows None s d t z = refl
no_rows (Some w) None d t z = refl
no_rows (Some w) (Some s) d t z = refl

no_seed : (w s r t z : Option ℕ) → six w s r None t z ≡ None
no_seed None s r t z = refl
no_seed (Some w) None r t z = refl
no_seed (Some w) (Some s) None t z = refl
no_seed (Some w) (Some s) (Some r) t z = refl

no_trees : (w s r d z : Option ℕ) → six w s r d None z ≡ None
no_trees None s r d z = refl
no_trees (Some w) None r d z = refl
no_trees (Some w) (Some s) None d z = refl
no_trees (Some w) (Some s) (Some r) None z = refl
no_trees (Some w) (Some s) (Some r) (Some d) z = refl

no_size : (w s r d t : Option ℕ) → six w s r d t None ≡ None
no_size None s r d t = refl
no_size (Some w) None r d t = refl
no_size (Some w) (Some s) None d t = refl
no_size (Some w) (Some s) (Some r) None t = refl
no_size (Some w) (Some s) (Some r) (Some d) None = refl
no_size (Some w) (Some s) (Some r) (Some d) (Some t) = refl

abbrev under : Bounds → Text → List Given → Option ℕ
under bounds name given = chosen_value bounds (values_for name given)

bad_registers : (vs : List Text) → list_any (λ value. not (are_registers (register_names value))) vs ≡ true → given_registers vs ≡ None
bad_registers [] e = absurd (true≢false (sym e))
bad_registers (v ∷ []) e = go (are_registers (register_names v)) refl
  where
    go : (b : Bool) → are_registers (register_names v) ≡ b → given_registers (v ∷ []) ≡ None
    go true f = absurd (true≢false (sym (rw f at e)))
    go false f = rw f refl
bad_registers (v ∷ w ∷ vs) e = refl

-- what is asked for by settings and given registers
abbrev asked : Option Settings → Option (Option Text) → List Text → Option Task
asked s r plain = option_and_then (λ settings. option_and_then (λ given. task_of settings given plain) r) s

no_settings : (s : Option Settings) (r : Option (Option Text)) (plain : List Text) → s ≡ None → asked s r plain ≡ None
no_settings s r plain e = rw e refl

no_given : (s : Option Settings) (r : Option (Option Text)) (plain : List Text) → r ≡ None → asked s r plain ≡ None
no_given None r plain e = refl
no_given (Some settings) r plain e = rw e refl

bad_asked : (given : List Given) (plain : List Text) (name : Text) → is_name name ≡ true → has_bad name given ≡ true
    → asked (chosen_settings (λ other. values_for other given)) (given_registers (values_for (codes "registers") given)) plain ≡ None
bad_asked given plain =
    let w : Option ℕ = under workers_bounds (codes "workers") given in
    let s : Option ℕ = under states_bounds (codes "states") given in
    let r : Option ℕ = under rows_bounds (codes "rows") given in
    let d : Option ℕ = under seed_bounds (codes "seed") given in
    let t : Option ℕ = under trees_bounds (codes "trees") given in
    let z : Option ℕ = under size_bounds (codes "size") given in
    let registers : Option (Option Text) = given_registers (values_for (codes "registers") given) in
    names_case (λ name. has_bad name given ≡ true → asked (chosen_settings (λ other. values_for other given)) registers plain ≡ None)
    (λ e. no_settings _ registers plain (ap (λ o. six o s r d t z) (bad_value workers_bounds (values_for (codes "workers") given) e) ∙ no_workers s r d t z))
    (λ e. no_settings _ registers plain (ap (λ o. six w o r d t z) (bad_value states_bounds (values_for (codes "states") given) e) ∙ no_states w r d t z))
    (λ e. no_settings _ registers plain (ap (λ o. six w s o d t z) (bad_value rows_bounds (values_for (codes "rows") given) e) ∙ no_rows w s d t z))
    (λ e. no_settings _ registers plain (ap (λ o. six w s r o t z) (bad_value seed_bounds (values_for (codes "seed") given) e) ∙ no_seed w s r t z))
    (λ e. no_settings _ registers plain (ap (λ o. six w s r d o z) (bad_value trees_bounds (values_for (codes "trees") given) e) ∙ no_trees w s r d z))
    (λ e. no_settings _ registers plain (ap (λ o. six w s r d t o) (bad_value size_bounds (values_for (codes "size") given) e) ∙ no_size w s r d t))
    (λ e. no_given (chosen_settings (λ other. values_for other given)) registers plain (bad_registers (values_for (codes "registers") given) e))

refused_none : (o : Option Parts) → Refused o → option_and_then asked_by o ≡ None
refused_none None h = refl
refused_none (Some parts) h = bad_asked parts.given parts.plain h.0 h.1 h.2

-- where clap can't read the words, they are no command
pub no_command : (words : List Text) → reads None words ≡ false → command words ≡ None
no_command words r = refused_none (parts_of None words) ((refuses words).0 r)
