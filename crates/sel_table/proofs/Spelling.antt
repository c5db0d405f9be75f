-- What the texts of entries, rows and lines are cut into.
use Rattle.std.proofs.Common.{◌≡◌, ℕ, ◌<◌, ◌^◌, ◌==◌, Bool, true, false, not, ◌&&◌, inl, List, [], ◌∷◌, ◌++◌, Option, Some, None, All, length, map, refl, ap, ◌∙◌, arith, decimal, codes}
use Rattle.std.specs.Fmt.{signed_decimal}
use Rattle.std.specs.List.{list_all}
use Rattle.std.proofs.lemmas.List.Elements.{All-append, All-cons, All-nil, All-head, All-tail}
use Rattle.sel_items.specs.declared.items.Item.{Item}
use Rattle.sel_items.specs.declared.items.Items.{Items}
use Rattle.sel_normal.specs.NormalForms.{NormalForm}
use Rattle.sel_full.specs.Forms.{IsFormEntry, IsFormState}
use Rattle.sel_full.specs.TableTexts.{item_text, entries_text, state_text, head_text}
use Rattle.sel_table.specs.LineReading.{parts_of, Lacks, IsRow}
use Rattle.sel_table.proofs.Cutting.{split_items, spelled_items, behind}
use Rattle.sel_table.proofs.Decimals.{decimal_lacks}
use Rattle.sel_table.proofs.Pairs.{small_first, small_second, signed_lacks}

one_lacks : (c b : ℕ) (bytes : List ℕ) → (b == c) ≡ false → Lacks c bytes → Lacks c (b ∷ bytes)
one_lacks c b bytes h k = All-cons (λ b. (b == c) ≡ false) b bytes h k

nothing_lacks : (c : ℕ) → Lacks c []
nothing_lacks c = All-nil (λ b. (b == c) ≡ false)

more_lack : (c : ℕ) (xs ys : List ℕ) → Lacks c xs → Lacks c ys → Lacks c (xs ++ ys)
more_lack c xs ys h k = All-append (λ b. (b == c) ≡ false) xs ys h k

-- neither line feeds nor spaces are in an entry
pub entry_lacks : (c rules : ℕ) → c < 44 → (entry : Option Item) → IsFormEntry rules entry → rules < 2 ^ 64 → Lacks c (item_text entry)
entry_lacks c rules low None h many = one_lacks c 45 [] (grind arith) (nothing_lacks c)
entry_lacks c rules low (Some item) h many =
    let few = small_first item.cost h.cheap in
    let rule = h.rule in
    more_lack c (decimal (item.cost).first) (44 ∷ (signed_decimal (item.cost).second ++ (58 ∷ decimal item.rule))) (decimal_lacks c (item.cost).first (inl (omega arith)) (omega (arith, few)))
    (one_lacks c 44 (signed_decimal (item.cost).second ++ (58 ∷ decimal item.rule)) (grind arith)
    (more_lack c (signed_decimal (item.cost).second) (58 ∷ decimal item.rule) (signed_lacks c (item.cost).second (inl (omega arith)) (grind arith) (small_second item.cost h.cheap))
    (one_lacks c 58 (decimal item.rule) (grind arith) (decimal_lacks c item.rule (inl (omega arith)) (omega (arith, rule, many))))))

entries_lack : (c rules : ℕ) → c < 44 → rules < 2 ^ 64 → (row : List (Option Item)) → All (IsFormEntry rules) row → All (λ e. Lacks c (item_text e)) row
entries_lack c rules low many [] h = All-nil (λ e. Lacks c (item_text e))
entries_lack c rules low many (e ∷ row) h =
    All-cons (λ e. Lacks c (item_text e)) e row (entry_lacks c rules low e (All-head (IsFormEntry rules) e row h) many) (entries_lack c rules low many row (All-tail (IsFormEntry rules) e row h))

module _ (rules : ℕ) (many : rules < 2 ^ 64) where
  pub row_parts : (line : List ℕ) (width : ℕ) (row : List (Option Item)) → 0 < width → IsRow width rules row → line ≡ entries_text row → parts_of 32 line ≡ map item_text row
  row_parts line width [] some h e = let w = h.width_is in absurd (omega (arith, w, some))
  row_parts line width (x ∷ row) some h e =
      ap (parts_of 32) e
      ∙ split_items item_text 32 x row (entry_lacks 32 rules (omega arith) x (All-head (IsFormEntry rules) x row h.entries) many) (entries_lack 32 rules (omega arith) many row (All-tail (IsFormEntry rules) x row h.entries))

pub parts_row : (line : List ℕ) (row : List (Option Item)) → 0 < length row → parts_of 32 line ≡ map item_text row → line ≡ entries_text row
parts_row line [] some e = absurd (omega arith)
parts_row line (x ∷ row) some e = spelled_items item_text 32 line x row e

-- no line of a table has a line feed
behind_lacks : {A : Type 0} (text : A → List ℕ) (c : ℕ) → (32 == c) ≡ false → (items : List A) → All (λ e. Lacks c (text e)) items → Lacks c (behind text 32 items)
behind_lacks text c other [] h = nothing_lacks c
behind_lacks text c other (x ∷ items) h =
    one_lacks c 32 (text x ++ behind text 32 items) other (more_lack c (text x) (behind text 32 items) (All-head (λ e. Lacks c (text e)) x items h) (behind_lacks text c other items (All-tail (λ e. Lacks c (text e)) x items h)))

row_lacks : (rules : ℕ) → rules < 2 ^ 64 → (row : List (Option Item)) → All (IsFormEntry rules) row → Lacks 10 (entries_text row)
row_lacks rules many [] h = nothing_lacks 10
row_lacks rules many (x ∷ row) h =
    more_lack 10 (item_text x) (behind item_text 32 row) (entry_lacks 10 rules (omega arith) x (All-head (IsFormEntry rules) x row h) many)
    (behind_lacks item_text 10 refl row (entries_lack 10 rules (omega arith) many row (All-tail (IsFormEntry rules) x row h)))

pub state_lacks : (normal : NormalForm) (i : Items) → length normal.rules < 2 ^ 64 → IsFormState normal i → Lacks 10 (state_text i)
state_lacks normal i many h = row_lacks (length normal.rules) many i.entries h.entries

pub number_lacks : (n : ℕ) → n < 2 ^ 16 → Lacks 10 (decimal n)
number_lacks n small = decimal_lacks 10 n (inl (omega arith)) (omega (arith, small))

first_differs : (x y : Bool) → (not x && y) ≡ true → x ≡ false
first_differs true y e = cc
first_differs false y e = refl

others_differ : (x y : Bool) → (not x && y) ≡ true → y ≡ true
others_differ true y e = cc
others_differ false y e = e

-- by a test of each byte
tested : (bytes : List ℕ) → list_all (λ b. not (b == 10)) bytes ≡ true → Lacks 10 bytes
tested [] e = nothing_lacks 10
tested (b ∷ bytes) e = one_lacks 10 b bytes (first_differs (b == 10) (list_all (λ b. not (b == 10)) bytes) e) (tested bytes (others_differ (b == 10) (list_all (λ b. not (b == 10)) bytes) e))

pub head_lacks : (states : ℕ) → states < 2 ^ 64 → Lacks 10 (head_text states)
head_lacks states small = more_lack 10 (codes "seltable 1 ") (decimal states) (tested (codes "seltable 1 ") refl) (decimal_lacks 10 states (inl (omega arith)) small)
