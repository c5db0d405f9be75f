-- Texts of tables as their lines: what a table that is spelled has at each, and where no text goes on.
use Rattle.std.proofs.Common.{◌≡◌, ℕ, zero, suc, ◌+◌, ◌-◌, ◌≤◌, ◌<◌, ◌^◌, ◌⊎◌, inl, inr, None, List, [], ◌∷◌, ◌++◌, All, length, take, drop, map, replicate, refl, ap, sym, ◌∙◌, subst, arith, decimal, codes, append_assoc, append-nil, length-append, take-append-drop}
use Rattle.std.proofs.lemmas.Fmt.{decimal_injective}
use Rattle.std.proofs.lemmas.List.{length-map, map-append, length-replicate}
use Rattle.std.proofs.lemmas.List.Elements.{All-nil, All-cons, All-head, All-tail, All-append, All-replicate}
use Rattle.sel_normal.specs.NormalForms.{NormalForm}
use Rattle.sel_normal.specs.Standing.{IsStanding}
use Rattle.sel_items.specs.declared.items.Items.{Items}
use Rattle.sel_full.specs.declared.table.Table.{Table}
use Rattle.sel_full.specs.Forms.{IsFormEntry, IsFormState, HasForm}
use Rattle.sel_full.specs.TableTexts.{head_text, state_text, table_lines, lines_text}
use Rattle.sel_full.proofs.Counts.{all_same}
use Rattle.sel_table.specs.declared.entries.Head.{Head}
use Rattle.sel_table.specs.LineReading.{Lacks, IsHead, IsNumber, first_line, BeginsWithout}
use Rattle.sel_table.specs.Loading.{Spells, GoesOn, IsFormFault}
use Rattle.sel_table.proofs.Cutting.{heads, tails, both, one_cut}
use Rattle.sel_table.proofs.Spelling.{state_lacks, number_lacks, head_lacks}
use Rattle.sel_table.proofs.Taking.{lines_append, lines_first}

-- what stands before the first line feed is one, and so for each line
pub front_lines : (xs ls : List (List ℕ)) (a b : List ℕ) → All (Lacks 10) xs → All (Lacks 10) ls → lines_text xs ++ a ≡ lines_text ls ++ b → length ls ≤ length xs → (ys : List (List ℕ)) × (xs ≡ ls ++ ys) × (lines_text ys ++ a ≡ b)
front_lines xs [] a b h k e l = (xs, refl, e)
front_lines [] (y ∷ ls) a b h k e l = absurd (omega arith)
front_lines (x ∷ xs) (y ∷ ls) a b h k e l =
    let (p, q) = one_cut 10 x y (lines_text xs ++ a) (lines_text ls ++ b) (All-head (Lacks 10) x xs h) (All-head (Lacks 10) y ls k) (sym (lines_first x xs a) ∙ (e ∙ lines_first y ls b)) in
    let (ys, r, s) = front_lines xs ls a b (All-tail (Lacks 10) x xs h) (All-tail (Lacks 10) y ls k) q (omega arith) in
    (ys, both p r, s)

-- lines aren't nothing
pub some_lines : (y : List ℕ) (ys : List (List ℕ)) (rest : List ℕ) → lines_text (y ∷ ys) ++ rest ≡ [] → ⊥
some_lines [] ys rest e = cc
some_lines (b ∷ y) ys rest e = cc

map_lacks : {A : Type 0} (IsSuch : A → Type 0) (text : A → List ℕ) → ((a : A) → IsSuch a → Lacks 10 (text a)) → (xs : List A) → All IsSuch xs → All (Lacks 10) (map text xs)
map_lacks IsSuch text lacks [] h = All-nil (Lacks 10)
map_lacks IsSuch text lacks (x ∷ xs) h = All-cons (Lacks 10) (text x) (map text xs) (lacks x (All-head IsSuch x xs h)) (map_lacks IsSuch text lacks xs (All-tail IsSuch x xs h))

-- the line behind some of the lines of items is the text of the next item
at_place : {A : Type 0} (IsSuch : A → Type 0) (text : A → List ℕ) (xs : List A) (zs us : List (List ℕ)) (y : List ℕ) (back : List (List ℕ)) → All IsSuch xs → map text xs ++ zs ≡ us ++ (y ∷ back) → length us < length xs → (x : A) × IsSuch x × (y ≡ text x)
at_place IsSuch text [] zs us y back h e l = absurd (omega arith)
at_place IsSuch text (x ∷ xs) zs [] y back h e l = (x, All-head IsSuch x xs h, sym (heads e))
at_place IsSuch text (x ∷ xs) zs (u ∷ us) y back h e l = at_place IsSuch text xs zs us y back (All-tail IsSuch x xs h) (tails e) (omega arith)

-- behind as many lines stands the same
back_same : (xs ys zs ws : List (List ℕ)) → length xs ≡ length ys → xs ++ zs ≡ ys ++ ws → zs ≡ ws
back_same [] [] zs ws l e = e
back_same [] (y ∷ ys) zs ws l e = absurd (omega (arith, l))
back_same (x ∷ xs) [] zs ws l e = absurd (omega (arith, l))
back_same (x ∷ xs) (y ∷ ys) zs ws l e = back_same xs ys zs ws (omega (arith, l)) (tails e)

pub head_one : (a b : ℕ) → a < 2 ^ 64 → b < 2 ^ 64 → head_text a ≡ head_text b → a ≡ b
head_one a b small small' e = decimal_injective a b small small' (eleven e)
  where
    eleven : codes "seltable 1 " ++ decimal a ≡ codes "seltable 1 " ++ decimal b → decimal a ≡ decimal b
    eleven e = tails (tails (tails (tails (tails (tails (tails (tails (tails (tails (tails e))))))))))

module _ (normal : NormalForm) (standing : IsStanding normal) where
  many : length normal.rules < 2 ^ 64
  many = let few = standing.few_rules in omega (arith, few)

  pub state_line : (i : Items) → IsFormState normal i → Lacks 10 (state_text i)
  state_line i h = state_lacks normal i many h

  -- the head of a table, and what is read under a head
  abbrev head_of : Table → Head
  head_of t = record { states = length t.states; keys = length t.numbers }

  head_is : (t : Table) → HasForm normal t → IsHead normal (head_of t)
  head_is t form = record { some = form.some; few = form.few; keys = λ xs e. all_same normal xs t.states e ∙ sym form.as_many; few_keys = form.few_keys }

  pub form_of : (h : Head) (states : List Items) (numbers : List ℕ) → IsHead normal h → length states ≡ h.states → All (IsFormState normal) states → length numbers ≡ h.keys → All IsNumber numbers → HasForm normal (record { states = states; numbers = numbers })
  form_of h states numbers head count are count' are' = record {
    some = let s = head.some in omega (arith, s, count);
    few = let f = head.few in omega (arith, f, count);
    states = are;
    as_many = count' ∙ sym (head.keys states count);
    few_keys = let f = head.few_keys in omega (arith, f, count');
    numbers = are';
  }

  pub table_lacks : (t : Table) → HasForm normal t → All (Lacks 10) (table_lines t)
  table_lacks t form =
      All-cons (Lacks 10) (head_text (length t.states)) (map state_text t.states ++ map decimal t.numbers) (let few = form.few in head_lacks (length t.states) (omega (arith, few)))
      (All-append (Lacks 10) (map state_text t.states) (map decimal t.numbers) (map_lacks (IsFormState normal) state_text state_line t.states form.states) (map_lacks IsNumber decimal number_lacks t.numbers form.numbers))

  -- how many lines there are
  lines_count : (t : Table) → length (table_lines t) ≡ 1 + length t.states + length t.numbers
  lines_count t = omega (arith, length-append (map state_text t.states) (map decimal t.numbers), length-map t.states state_text, length-map t.numbers decimal)

  module _ (bytes : List ℕ) (ls : List (List ℕ)) (rest : List ℕ) (lack : All (Lacks 10) ls) (are : bytes ≡ lines_text ls ++ rest)
      (never : (t : Table) (y : List ℕ) (back : List (List ℕ)) (behind : List ℕ) → HasForm normal t → table_lines t ≡ ls ++ (y ∷ back) → rest ≡ y ++ (10 ∷ behind) → ⊥) where
    -- a table has no line more than were read
    no_further : (t : Table) (front others : List (List ℕ)) (rest' : List ℕ) → HasForm normal t → table_lines t ≡ front ++ others → bytes ≡ lines_text front ++ rest' → length ls < length front → ⊥
    no_further t front others rest' form e f l = go (front_lines front ls rest' rest front_lacks lack (sym f ∙ are) (omega arith))
      where
        front_lacks : All (Lacks 10) front
        front_lacks = all_front front others (subst (All (Lacks 10)) e (table_lacks t form))
          where
            all_front : (xs ys : List (List ℕ)) → All (Lacks 10) (xs ++ ys) → All (Lacks 10) xs
            all_front [] ys h = All-nil (Lacks 10)
            all_front (x ∷ xs) ys h = All-cons (Lacks 10) x xs (All-head (Lacks 10) x (xs ++ ys) h) (all_front xs ys (All-tail (Lacks 10) x (xs ++ ys) h))

        go : (ys : List (List ℕ)) × (front ≡ ls ++ ys) × (lines_text ys ++ rest' ≡ rest) → ⊥
        go ([], p, q) = absurd (omega (arith, ap length p, length-append ls [], l))
        go (y ∷ ys, p, q) = never t y (ys ++ others) (lines_text ys ++ rest') form (e ∙ (ap (λ xs. xs ++ others) p ∙ append_assoc ls (y ∷ ys) others)) (sym q ∙ lines_first y ys rest')

    pub form_fault : ((t : Table) → HasForm normal t → table_lines t ≡ ls → rest ≡ [] → ⊥) → (ls ≡ []) ⊎ ((t : Table) × (more : List (List ℕ)) × HasForm normal t × (table_lines t ≡ ls ++ more)) → IsFormFault normal bytes (length ls + 1)
    form_fault whole goes = record {
      none = none;
      from_one = omega arith;
      before = before goes;
      here = λ g. no_further g.table g.front g.others g.rest g.form g.lines_are g.begins (let n = g.so_many in omega (arith, n));
    }
      where
        order : (a b : ℕ) → (a < b) ⊎ (b ≤ a)
        order a b = grind arith

        none : (t : Table) → Spells normal bytes t → ⊥
        none t s = go (order (length ls) (length (table_lines t)))
          where
            text : bytes ≡ lines_text (table_lines t) ++ []
            text = s.text ∙ sym (append-nil (lines_text (table_lines t)))

            same : (ys : List (List ℕ)) × (ls ≡ table_lines t ++ ys) × (lines_text ys ++ rest ≡ []) → ⊥
            same ([], p, q) = whole t s.form (sym (append-nil (table_lines t)) ∙ sym p) q
            same (y ∷ ys, p, q) = some_lines y ys rest q

            go : (length ls < length (table_lines t)) ⊎ (length (table_lines t) ≤ length ls) → ⊥
            go (inl l) = no_further t (table_lines t) [] [] s.form (sym (append-nil (table_lines t))) text l
            go (inr l) = same (front_lines ls (table_lines t) rest [] lack (table_lacks t s.form) (sym are ∙ text) l)

        before : (ls ≡ []) ⊎ ((t : Table) × (more : List (List ℕ)) × HasForm normal t × (table_lines t ≡ ls ++ more)) → (k : ℕ) → 1 ≤ k → k < length ls + 1 → GoesOn normal bytes k
        before (inl e) k one l = absurd (omega (arith, ap length e, one, l))
        before (inr (t, more, form, e)) k one l = record {
          table = t;
          form = form;
          front = take k ls;
          others = drop k ls ++ more;
          lines_are = e ∙ (ap (λ xs. xs ++ more) (sym (take-append-drop k ls)) ∙ append_assoc (take k ls) (drop k ls) more);
          so_many = front_length ls k (omega (arith, l));
          rest = lines_text (drop k ls) ++ rest;
          begins = are ∙ (ap (λ xs. lines_text xs ++ rest) (sym (take-append-drop k ls)) ∙ (ap (λ xs. xs ++ rest) (lines_append (take k ls) (drop k ls)) ∙ append_assoc (lines_text (take k ls)) (lines_text (drop k ls)) rest));
        }
          where
            front_length : (xs : List (List ℕ)) (k : ℕ) → k ≤ length xs → length (take k xs) ≡ k
            front_length xs zero l = refl
            front_length [] (suc k) l = absurd (omega arith)
            front_length (x ∷ xs) (suc k) l = let e = front_length xs k (omega arith) in omega arith

  -- states and numbers with which each front of a table can go on
  abbrev empty_state : Items
  empty_state = record { entries = replicate normal.nonterminals None }

  empty_form : IsFormState normal empty_state
  empty_form = record { long = length-replicate normal.nonterminals None; entries = All-replicate (IsFormEntry (length normal.rules)) normal.nonterminals None tt }

  -- the first line is wrong
  pub wrong_head : (bytes : List ℕ) → BeginsWithout (IsHead normal) first_line bytes → IsFormFault normal bytes 1
  wrong_head bytes without = subst (IsFormFault normal bytes) one (form_fault bytes [] bytes (All-nil (Lacks 10)) refl never (λ t form e f. nothing e) (inl refl))
    where
      one : length {A = List ℕ} [] + 1 ≡ 1
      one = omega arith

      nothing : {x : List ℕ} {xs : List (List ℕ)} → x ∷ xs ≡ [] → ⊥
      nothing e = cc

      never : (t : Table) (y : List ℕ) (back : List (List ℕ)) (behind : List ℕ) → HasForm normal t → table_lines t ≡ [] ++ (y ∷ back) → bytes ≡ y ++ (10 ∷ behind) → ⊥
      never t y back behind form e f = without (head_of t) behind (head_is t form) (f ∙ ap (λ l. l ++ (10 ∷ behind)) (sym (heads e)))

  -- states with which so many go on, and numbers
  abbrev more_states : ℕ → List Items
  more_states n = replicate n empty_state

  abbrev zeros : ℕ → List ℕ
  zeros n = replicate n 0

  module _ (h : Head) (head : IsHead normal h) where
    -- a table with this first line has as many states and numbers
    same_states : (t : Table) → HasForm normal t → head_text (length t.states) ≡ first_line h → length t.states ≡ h.states
    same_states t form e = let f = form.few in let g = head.few in head_one (length t.states) h.states (omega (arith, f)) (omega (arith, g)) e

    same_numbers : (t : Table) → HasForm normal t → head_text (length t.states) ≡ first_line h → length t.numbers ≡ h.keys
    same_numbers t form e = form.as_many ∙ head.keys t.states (same_states t form e)

    -- a state's line is wrong
    pub wrong_state : (bytes : List ℕ) (read : List Items) (rest : List ℕ) → length read < h.states → All (IsFormState normal) read → bytes ≡ lines_text (first_line h ∷ map state_text read) ++ rest → BeginsWithout (IsFormState normal) state_text rest
        → IsFormFault normal bytes (length (first_line h ∷ map state_text read) + 1)
    wrong_state bytes read rest few such are without = form_fault bytes (first_line h ∷ map state_text read) rest lack are never whole (inr goes)
      where
        lack : All (Lacks 10) (first_line h ∷ map state_text read)
        lack = All-cons (Lacks 10) (first_line h) (map state_text read) (let f = head.few in head_lacks h.states (omega (arith, f))) (map_lacks (IsFormState normal) state_text state_line read such)

        never : (t : Table) (y : List ℕ) (back : List (List ℕ)) (behind : List ℕ) → HasForm normal t → table_lines t ≡ (first_line h ∷ map state_text read) ++ (y ∷ back) → rest ≡ y ++ (10 ∷ behind) → ⊥
        never t y back behind form e f =
            let n = same_states t form (heads e) in
            let (i, is, q) = at_place (IsFormState normal) state_text t.states (map decimal t.numbers) (map state_text read) y back form.states (tails e) (omega (arith, length-map read state_text, few, n)) in
            without i behind is (f ∙ ap (λ l. l ++ (10 ∷ behind)) q)

        whole : (t : Table) → HasForm normal t → table_lines t ≡ first_line h ∷ map state_text read → rest ≡ [] → ⊥
        whole t form e f =
            let n = same_states t form (heads e) in
            let c = lines_count t in
            absurd (omega (arith, ap length e, length-map read state_text, few, n, c))

        goes : (t : Table) × (more : List (List ℕ)) × HasForm normal t × (table_lines t ≡ (first_line h ∷ map state_text read) ++ more)
        goes = (
          record { states = read ++ (more_states (h.states - length read)); numbers = (zeros h.keys) },
          map state_text (more_states (h.states - length read)) ++ map decimal (zeros h.keys),
          form_of h (read ++ (more_states (h.states - length read))) (zeros h.keys) head count (All-append (IsFormState normal) read (more_states (h.states - length read)) such (All-replicate (IsFormState normal) (h.states - length read) empty_state empty_form)) (length-replicate {A = ℕ} h.keys 0) (All-replicate IsNumber h.keys 0 (omega arith)),
          both (ap head_text count) (ap (λ xs. xs ++ map decimal (zeros h.keys)) (map-append state_text read (more_states (h.states - length read))) ∙ append_assoc (map state_text read) (map state_text (more_states (h.states - length read))) (map decimal (zeros h.keys))),
        )
          where
            count : length (read ++ (more_states (h.states - length read))) ≡ h.states
            count = omega (arith, length-append read (more_states (h.states - length read)), length-replicate (h.states - length read) empty_state, few)

    module _ (states : List Items) (count : length states ≡ h.states) (such : All (IsFormState normal) states) where
      -- a number's line is wrong
      pub wrong_number : (bytes : List ℕ) (read : List ℕ) (rest : List ℕ) → length read < h.keys → All IsNumber read → bytes ≡ lines_text (first_line h ∷ (map state_text states ++ map decimal read)) ++ rest → BeginsWithout IsNumber decimal rest
          → IsFormFault normal bytes (length (first_line h ∷ (map state_text states ++ map decimal read)) + 1)
      wrong_number bytes read rest few are' are without = form_fault bytes (first_line h ∷ (map state_text states ++ map decimal read)) rest lack are never whole (inr goes)
        where
          lack : All (Lacks 10) (first_line h ∷ (map state_text states ++ map decimal read))
          lack = All-cons (Lacks 10) (first_line h) (map state_text states ++ map decimal read) (let f = head.few in head_lacks h.states (omega (arith, f)))
              (All-append (Lacks 10) (map state_text states) (map decimal read) (map_lacks (IsFormState normal) state_text state_line states such) (map_lacks IsNumber decimal number_lacks read are'))

          never : (t : Table) (y : List ℕ) (back : List (List ℕ)) (behind : List ℕ) → HasForm normal t → table_lines t ≡ (first_line h ∷ (map state_text states ++ map decimal read)) ++ (y ∷ back) → rest ≡ y ++ (10 ∷ behind) → ⊥
          never t y back behind form e f =
              let n = same_states t form (heads e) in
              let m = same_numbers t form (heads e) in
              let q = back_same (map state_text t.states) (map state_text states) (map decimal t.numbers) (map decimal read ++ (y ∷ back)) (omega (arith, length-map t.states state_text, length-map states state_text, n, count)) (tails e ∙ append_assoc (map state_text states) (map decimal read) (y ∷ back)) in
              let (k, is, p) = at_place IsNumber decimal t.numbers [] (map decimal read) y back form.numbers (append-nil (map decimal t.numbers) ∙ q) (omega (arith, length-map read decimal, few, m)) in
              without k behind is (f ∙ ap (λ l. l ++ (10 ∷ behind)) p)

          whole : (t : Table) → HasForm normal t → table_lines t ≡ first_line h ∷ (map state_text states ++ map decimal read) → rest ≡ [] → ⊥
          whole t form e f =
              let n = same_states t form (heads e) in
              let m = same_numbers t form (heads e) in
              let c = lines_count t in
              absurd (omega (arith, ap length e, length-append (map state_text states) (map decimal read), length-map states state_text, length-map read decimal, few, n, m, c, count))

          goes : (t : Table) × (more : List (List ℕ)) × HasForm normal t × (table_lines t ≡ (first_line h ∷ (map state_text states ++ map decimal read)) ++ more)
          goes = (
            record { states = states; numbers = read ++ (zeros (h.keys - length read)) },
            map decimal (zeros (h.keys - length read)),
            form_of h states (read ++ (zeros (h.keys - length read))) head count such count' (All-append IsNumber read (zeros (h.keys - length read)) are' (All-replicate IsNumber (h.keys - length read) 0 (omega arith))),
            both (ap head_text count) (ap (λ xs. map state_text states ++ xs) (map-append decimal read (zeros (h.keys - length read))) ∙ sym (append_assoc (map state_text states) (map decimal read) (map decimal (zeros (h.keys - length read))))),
          )
            where
              count' : length (read ++ (zeros (h.keys - length read))) ≡ h.keys
              count' = omega (arith, length-append read (zeros (h.keys - length read)), length-replicate {A = ℕ} (h.keys - length read) 0, few)

      module _ (numbers : List ℕ) (count' : length numbers ≡ h.keys) (are' : All IsNumber numbers) where
        abbrev whole_table : Table
        whole_table = record { states = states; numbers = numbers }

        whole_form : HasForm normal whole_table
        whole_form = form_of h states numbers head count such count' are'

        whole_lines : table_lines whole_table ≡ first_line h ∷ (map state_text states ++ map decimal numbers)
        whole_lines = both (ap head_text count) refl

        -- all lines are there, and nothing more
        pub all_spelled : (bytes : List ℕ) → bytes ≡ lines_text (first_line h ∷ (map state_text states ++ map decimal numbers)) ++ [] → Spells normal bytes (record { states = states; numbers = numbers })
        all_spelled bytes e = record { form = whole_form; text = e ∙ (append-nil (lines_text (first_line h ∷ (map state_text states ++ map decimal numbers))) ∙ ap lines_text (sym whole_lines)) }

        -- there is more
        pub more_text : (bytes rest : List ℕ) → bytes ≡ lines_text (first_line h ∷ (map state_text states ++ map decimal numbers)) ++ rest → (rest ≡ [] → ⊥) → IsFormFault normal bytes (length (first_line h ∷ (map state_text states ++ map decimal numbers)) + 1)
        more_text bytes rest are some =
            form_fault bytes (first_line h ∷ (map state_text states ++ map decimal numbers)) rest (subst (All (Lacks 10)) whole_lines (table_lacks whole_table whole_form)) are never (λ t form e f. some f)
            (inr (whole_table, [], whole_form, whole_lines ∙ sym (append-nil (first_line h ∷ (map state_text states ++ map decimal numbers)))))
          where
            never : (t : Table) (y : List ℕ) (back : List (List ℕ)) (behind : List ℕ) → HasForm normal t → table_lines t ≡ (first_line h ∷ (map state_text states ++ map decimal numbers)) ++ (y ∷ back) → rest ≡ y ++ (10 ∷ behind) → ⊥
            never t y back behind form e f =
                let n = same_states t form (heads e) in
                let m = same_numbers t form (heads e) in
                let c = lines_count t in
                absurd (omega (arith, ap length e, length-append (map state_text states ++ map decimal numbers) (y ∷ back), length-append (map state_text states) (map decimal numbers), length-map states state_text, length-map numbers decimal, n, m, c, count, count'))
