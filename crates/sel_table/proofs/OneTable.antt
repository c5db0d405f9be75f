-- A text has one answer.
use Rattle.std.proofs.Common.{◌≡◌, ℕ, zero, suc, ◌≤◌, ◌<◌, ◌^◌, ◌⊎◌, inl, inr, List, [], ◌∷◌, ◌++◌, Option, Some, None, All, length, map, refl, ap, sym, ◌∙◌, subst, arith, decimal, ℤ, pos, negsuc, append-nil, length-append}
use Rattle.std.specs.Int.Signed.{mag}
use Rattle.std.specs.Fmt.{signed_decimal}
use Rattle.std.proofs.lemmas.Fmt.{decimal_injective, decimal_nonempty, signed_decimal_injective}
use Rattle.std.proofs.lemmas.Int.{ints}
use Rattle.std.proofs.lemmas.List.{length-map}
use Rattle.std.proofs.lemmas.List.Elements.{All-head, All-tail}
use Rattle.sel_normal.specs.NormalForms.{NormalForm}
use Rattle.sel_normal.specs.Standing.{IsStanding}
use Rattle.sel_items.specs.declared.items.Item.{Item}
use Rattle.sel_items.specs.declared.items.Items.{Items}
use Rattle.sel_full.specs.declared.table.Table.{Table}
use Rattle.sel_full.specs.Forms.{IsFormItem, IsFormEntry, IsFormState, HasForm}
use Rattle.sel_full.specs.Judging.{IsTableFault}
use Rattle.sel_full.specs.TableTexts.{item_text, entries_text, state_text, table_lines, lines_text, table_text}
use Rattle.sel_full.proofs.Formed.{complete_has_form, table_fault_is_one, lawful_has_no_fault}
use Rattle.sel_table.specs.declared.refusal.LoadFault.{LoadFault}
use Rattle.sel_table.specs.LineReading.{IsAmount, IsRow, IsNumber, own_text}
use Rattle.sel_table.specs.Loading.{Spells, IsFormFault, IsLoaded, IsLoadFault, placed}
use Rattle.sel_table.specs.LoadLaws.{SpelledIsOne, LoadFaultIsOne, LoadedHasNoFault, CompleteIsLoaded}
use Rattle.sel_table.proofs.Cutting.{heads, tails, both, one_cut}
use Rattle.sel_table.proofs.Decimals.{decimal_lacks}
use Rattle.sel_table.proofs.Pairs.{signed_lacks, small_first, small_second}
use Rattle.sel_table.proofs.Spelling.{row_parts}
use Rattle.sel_table.proofs.Forming.{table_lacks, head_one, front_lines, some_lines}

amount_small : (z : ℤ) → IsAmount z → mag z < 2 ^ 63
amount_small (pos n) h = let high = h.high in omega (arith, ints, high)
amount_small (negsuc n) h = let low = h.low in omega (arith, ints, low)

items_one : {A : Type 0} (text : A → List ℕ) (IsSuch : A → Type 0) → ((x y : A) → IsSuch x → IsSuch y → text x ≡ text y → x ≡ y) → (xs ys : List A) → All IsSuch xs → All IsSuch ys → map text xs ≡ map text ys → xs ≡ ys
items_one text IsSuch one [] [] h k e = refl
items_one text IsSuch one [] (y ∷ ys) h k e = cc
items_one text IsSuch one (x ∷ xs) [] h k e = cc
items_one text IsSuch one (x ∷ xs) (y ∷ ys) h k e = both (one x y (All-head IsSuch x xs h) (All-head IsSuch y ys k) (heads e)) (items_one text IsSuch one xs ys (All-tail IsSuch x xs h) (All-tail IsSuch y ys k) (tails e))

module _ (rules : ℕ) (many : rules < 2 ^ 64) where
  item_one : (i j : Item) → IsFormItem rules i → IsFormItem rules j → own_text i ≡ own_text j → i ≡ j
  item_one i j h k e =
      let few = small_first i.cost h.cheap in
      let few' = small_first j.cost k.cheap in
      let amount = small_second i.cost h.cheap in
      let amount' = small_second j.cost k.cheap in
      let rule = h.rule in
      let rule' = k.rule in
      let (p, rest) = one_cut 44 (decimal (i.cost).first) (decimal (j.cost).first) (signed_decimal (i.cost).second ++ (58 ∷ decimal i.rule)) (signed_decimal (j.cost).second ++ (58 ∷ decimal j.rule)) (decimal_lacks 44 (i.cost).first (inl (omega arith)) (omega (arith, few))) (decimal_lacks 44 (j.cost).first (inl (omega arith)) (omega (arith, few'))) e in
      let (q, last) = one_cut 58 (signed_decimal (i.cost).second) (signed_decimal (j.cost).second) (decimal i.rule) (decimal j.rule) (signed_lacks 58 (i.cost).second (inr (omega arith)) (grind arith) amount) (signed_lacks 58 (j.cost).second (inr (omega arith)) (grind arith) amount') rest in
      let a : (i.cost).first ≡ (j.cost).first = decimal_injective (i.cost).first (j.cost).first (omega (arith, few)) (omega (arith, few')) p in
      let b : (i.cost).second ≡ (j.cost).second = signed_decimal_injective (i.cost).second (j.cost).second (amount_small (i.cost).second amount) (amount_small (j.cost).second amount') q in
      let c : i.rule ≡ j.rule = decimal_injective i.rule j.rule (omega (arith, rule, many)) (omega (arith, rule', many)) last in
      λ x. record { cost = record { first = a x; second = b x }; rule = c x }

  item_long : (i : Item) → IsFormItem rules i → 1 < length (own_text i)
  item_long i h =
      let few = small_first i.cost h.cheap in
      omega (arith, length-append (decimal (i.cost).first) (44 ∷ (signed_decimal (i.cost).second ++ (58 ∷ decimal i.rule))), decimal_nonempty (i.cost).first (omega (arith, few)))

  entry_one : (x y : Option Item) → IsFormEntry rules x → IsFormEntry rules y → item_text x ≡ item_text y → x ≡ y
  entry_one None None h k e = refl
  entry_one None (Some j) h k e = absurd (omega (arith, item_long j k, ap length e))
  entry_one (Some i) None h k e = absurd (omega (arith, item_long i h, ap length e))
  entry_one (Some i) (Some j) h k e = ap Some (item_one i j h k e)

  row_one : (width : ℕ) (x y : List (Option Item)) → IsRow width rules x → IsRow width rules y → entries_text x ≡ entries_text y → x ≡ y
  row_one zero [] [] h k e = refl
  row_one zero [] (e' ∷ y) h k e = let w = k.width_is in absurd (omega (arith, w))
  row_one zero (e' ∷ x) y h k e = let w = h.width_is in absurd (omega (arith, w))
  row_one (suc n) x y h k e =
      items_one item_text (IsFormEntry rules) entry_one x y h.entries k.entries
      (sym (row_parts rules many (entries_text x) (suc n) x (omega arith) h refl) ∙ row_parts rules many (entries_text x) (suc n) y (omega arith) k e)

state_one : (normal : NormalForm) → length normal.rules < 2 ^ 64 → (i j : Items) → IsFormState normal i → IsFormState normal j → state_text i ≡ state_text j → i ≡ j
state_one normal many i j h k e =
    let p : i.entries ≡ j.entries = row_one (length normal.rules) many normal.nonterminals i.entries j.entries (record { width_is = h.long; entries = h.entries }) (record { width_is = k.long; entries = k.entries }) e in
    λ x. record { entries = p x }

number_one : (x y : ℕ) → IsNumber x → IsNumber y → decimal x ≡ decimal y → x ≡ y
number_one x y h k e = decimal_injective x y (omega (arith, h)) (omega (arith, k)) e

-- lists of one length, each before another
front_one : {A : Type 0} (xs ys zs ws : List A) → length xs ≡ length ys → xs ++ zs ≡ ys ++ ws → (xs ≡ ys) × (zs ≡ ws)
front_one [] [] zs ws l e = (refl, e)
front_one [] (y ∷ ys) zs ws l e = absurd (omega (arith, l))
front_one (x ∷ xs) [] zs ws l e = absurd (omega (arith, l))
front_one (x ∷ xs) (y ∷ ys) zs ws l e = let (p, q) = front_one xs ys zs ws (omega (arith, l)) (tails e) in (both (heads e) p, q)

module _ (normal : NormalForm) (standing : IsStanding normal) where
  many : length normal.rules < 2 ^ 64
  many = let few = standing.few_rules in omega (arith, few)

  -- one table's lines
  lines_one : (t u : Table) → HasForm normal t → HasForm normal u → table_text t ≡ table_text u → table_lines t ≡ table_lines u
  lines_one t u form form' e = go (order (length (table_lines t)) (length (table_lines u)))
    where
      order : (a b : ℕ) → (a ≤ b) ⊎ (b ≤ a)
      order a b = grind arith

      text : lines_text (table_lines t) ++ [] ≡ lines_text (table_lines u) ++ []
      text = append-nil (table_text t) ∙ (e ∙ sym (append-nil (table_text u)))

      same : (xs ls : List (List ℕ)) → (ys : List (List ℕ)) × (xs ≡ ls ++ ys) × (lines_text ys ++ [] ≡ []) → xs ≡ ls
      same xs ls ([], p, q) = p ∙ append-nil ls
      same xs ls (y ∷ ys, p, q) = absurd (some_lines y ys [] q)

      go : (length (table_lines t) ≤ length (table_lines u)) ⊎ (length (table_lines u) ≤ length (table_lines t)) → table_lines t ≡ table_lines u
      go (inl l) = sym (same (table_lines u) (table_lines t) (front_lines (table_lines u) (table_lines t) [] [] (table_lacks normal standing u form') (table_lacks normal standing t form) (sym text) l))
      go (inr l) = same (table_lines t) (table_lines u) (front_lines (table_lines t) (table_lines u) [] [] (table_lacks normal standing t form) (table_lacks normal standing u form') text l)

  table_one : (t u : Table) → HasForm normal t → HasForm normal u → table_text t ≡ table_text u → t ≡ u
  table_one t u form form' e =
      let lines = lines_one t u form form' e in
      let few = form.few in
      let few' = form'.few in
      let n : length t.states ≡ length u.states = head_one (length t.states) (length u.states) (omega (arith, few)) (omega (arith, few')) (heads lines) in
      let (p, q) = front_one (map state_text t.states) (map state_text u.states) (map decimal t.numbers) (map decimal u.numbers) (omega (arith, n, length-map t.states state_text, length-map u.states state_text)) (tails lines) in
      let a : t.states ≡ u.states = items_one state_text (IsFormState normal) (state_one normal many) t.states u.states form.states form'.states p in
      let b : t.numbers ≡ u.numbers = items_one decimal IsNumber number_one t.numbers u.numbers form.numbers form'.numbers q in
      λ x. record { states = a x; numbers = b x }

  spelled_one : (bytes : List ℕ) (t u : Table) → Spells normal bytes t → Spells normal bytes u → t ≡ u
  spelled_one bytes t u h k = table_one t u h.form k.form (sym h.text ∙ k.text)

  form_one : (bytes : List ℕ) (m n : ℕ) → IsFormFault normal bytes m → IsFormFault normal bytes n → m ≡ n
  form_one bytes m n f g = go (order m n)
    where
      order : (a b : ℕ) → (a < b) ⊎ ((b < a) ⊎ (a ≡ b))
      order a b = grind arith

      go : (m < n) ⊎ ((n < m) ⊎ (m ≡ n)) → m ≡ n
      go (inl l) = absurd (f.here (g.before m f.from_one l))
      go (inr (inl l)) = absurd (g.here (f.before n g.from_one l))
      go (inr (inr e)) = e

  fault_one : (bytes : List ℕ) (x y : LoadFault) → IsLoadFault normal bytes x → IsLoadFault normal bytes y → x ≡ y
  fault_one bytes x y (inl (kind, f)) (inl (kind', g)) =
      let p : x.kind ≡ y.kind = kind ∙ sym kind' in
      let q : x.line ≡ y.line = form_one bytes x.line y.line f g in
      λ i. record { kind = p i; line = q i }
  fault_one bytes x y (inl (kind, f)) (inr k) = absurd (f.none k.table k.spells)
  fault_one bytes x y (inr h) (inl (kind, f)) = absurd (f.none h.table h.spells)
  fault_one bytes x y (inr h) (inr k) =
      let same : k.table ≡ h.table = spelled_one bytes k.table h.table k.spells h.spells in
      let faults : h.fault ≡ k.fault = table_fault_is_one normal h.table h.fault k.fault h.wrong (subst (λ t. IsTableFault normal t k.fault) same k.wrong) in
      h.found_is ∙ (ap (λ f. placed (length (h.table).states) f) faults ∙ (ap (λ (t : Table). placed (length t.states) k.fault) (sym same) ∙ sym k.found_is))

  no_fault : (bytes : List ℕ) (t : Table) (x : LoadFault) → IsLoaded normal bytes t → IsLoadFault normal bytes x → ⊥
  no_fault bytes t x h (inl (kind, f)) = f.none t h.spells
  no_fault bytes t x h (inr k) =
      let same : k.table ≡ t = spelled_one bytes k.table t k.spells h.spells in
      lawful_has_no_fault normal t k.fault h.lawful (subst (λ t. IsTableFault normal t k.fault) same k.wrong)

pub spelled_is_one : SpelledIsOne
spelled_is_one normal bytes t u standing h k = spelled_one normal standing bytes t u h k

pub load_fault_is_one : LoadFaultIsOne
load_fault_is_one normal bytes x y standing h k = fault_one normal standing bytes x y h k

pub loaded_has_no_fault : LoadedHasNoFault
loaded_has_no_fault normal bytes t x standing h k = no_fault normal standing bytes t x h k

pub complete_is_loaded : CompleteIsLoaded
complete_is_loaded normal states rows t few few_keys h = record { spells = record { form = complete_has_form normal states rows t few few_keys h; text = refl }; lawful = h.lawful }
