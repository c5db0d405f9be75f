-- What the reader's steps tell.
use Rattle.std.specs.Prelude.{◌≡◌, ℕ, suc, ℤ, pos, negsuc, neg_ℤ, ◌≤ℤ◌, ◌+◌, ◌≤◌, ◌<◌, ◌^◌, ◌==◌, false, Option, Some, None, List, [], ◌∷◌, ◌++◌, All, length, get_or, map}
use Rattle.std.specs.Fmt.{decimal, signed_decimal}
use Rattle.std.specs.Str.Parse.{AllDigits}
use Rattle.std.specs.Borrow.{Bor}
use Rattle.std.specs.List.{slice_split}
use Rattle.sel_normal.specs.NormalForms.{NormalForm}
use Rattle.sel_items.specs.declared.items.Item.{Item}
use Rattle.sel_items.specs.declared.items.Items.{Items}
use Rattle.sel_full.specs.declared.refusal.TableFault.{TableFault}
use Rattle.sel_full.specs.declared.refusal.TableFault.TheVariants.{State, Number}
use Rattle.sel_full.specs.Builds.{most_cost, most_states, most_keys}
use Rattle.sel_full.specs.Forms.{IsFormEntry}
use Rattle.sel_full.specs.Tables.{all_keys}
use Rattle.sel_full.specs.TableTexts.{item_text, head_text, lines_text}
use Rattle.sel_table.specs.declared.entries.Head.{Head}
use Rattle.sel_table.specs.declared.entries.Tail.{Tail}
use Rattle.sel_table.specs.declared.lines.Lines.{Lines}
use Rattle.sel_table.specs.declared.refusal.LoadRefusal.{LoadRefusal}
use Rattle.sel_table.specs.declared.refusal.LoadRefusal.TheVariants as refusal
use Rattle.sel_table.specs.Loading.{form_fault}

-- the parts of a text that is cut at each such byte
abbrev pub parts_of : ℕ → List ℕ → List (List ℕ)
parts_of separator bytes = slice_split (λ b. b == separator) bytes

-- no byte is this one
abbrev pub Lacks : ℕ → List ℕ → Type 0
Lacks c bytes = All (λ b. (b == c) ≡ false) bytes

-- a separator, if there is one, and what stands behind it
abbrev pub with_rest : ℕ → Option (Bor (List ℕ)) → List ℕ
with_rest separator None = []
with_rest separator (Some rest) = separator ∷ rest.now

-- the value that the bytes are the text of, or none where they are the text of no such value
abbrev pub IsReadAs : {A : Type 0} → (A → Type 0) → (A → List ℕ) → List ℕ → Option A → Type 0
IsReadAs {A} IsSuch text bytes None = (a : A) → IsSuch a → bytes ≡ text a → ⊥
IsReadAs IsSuch text bytes (Some a) = IsSuch a × (bytes ≡ text a)

-- digits, one or more, of which the first is 0 only where it is alone
pub record IsShortest (bytes : List ℕ) : Type 0 where
  pub digits : AllDigits 10 bytes
  pub some : 0 < length bytes
  pub lead : get_or bytes 0 0 ≡ 48 → length bytes ≡ 1

-- a number of a cost that isn't too great in amount
pub record IsAmount (z : ℤ) : Type 0 where
  pub low : neg_ℤ (pos most_cost) ≤ℤ z
  pub high : z ≤ℤ pos most_cost

-- what the digits behind a minus sign spell, if it is one
abbrev pub IsNegativeOf : List ℕ → Option ℤ → Type 0
IsNegativeOf digits None = (n : ℕ) → n < most_cost → digits ≡ decimal (suc n) → ⊥
IsNegativeOf digits (Some z) = (n : ℕ) × (n < most_cost) × (z ≡ negsuc n) × (digits ≡ decimal (suc n))

-- the number of one of so many rules, from 1
abbrev pub IsRule : ℕ → ℕ → Type 0
IsRule rules r = (1 ≤ r) × (r ≤ rules)

-- what stands behind the first comma of an entry
pub record IsTail (rules : ℕ) (t : Tail) : Type 0 where
  pub amount : IsAmount t.second
  pub rule : IsRule rules t.rule

abbrev pub tail_text : Tail → List ℕ
tail_text t = signed_decimal t.second ++ (58 ∷ decimal t.rule)

-- the text of an entry that is there
abbrev pub own_text : Item → List ℕ
own_text item = item_text (Some item)

-- so many entries of the form
pub record IsRow (width rules : ℕ) (row : List (Option Item)) : Type 0 where
  pub width_is : length row ≡ width
  pub entries : All (IsFormEntry rules) row

-- a number of 16 bits
abbrev pub IsNumber : ℕ → Type 0
IsNumber n = n < 2 ^ 16

-- some states, and how many keys there are over so many, no more of both than any table may have
pub record IsHead (normal : NormalForm) (head : Head) : Type 0 where
  pub some : 1 ≤ head.states
  pub few : head.states ≤ most_states
  pub keys : (xs : List Items) → length xs ≡ head.states → length (all_keys normal xs) ≡ head.keys
  pub few_keys : head.keys ≤ most_keys

abbrev pub first_line : Head → List ℕ
first_line head = head_text head.states

-- these lines were taken
pub record Took (old new : Lines) (lines : List (List ℕ)) : Type 0 where
  pub bytes : (old.rest).now ≡ lines_text lines ++ (new.rest).now
  pub count : new.taken ≡ old.taken + length lines

-- the first line was taken
pub record IsTaken (old new : Lines) (line : List ℕ) : Type 0 where
  pub took : Took old new (line ∷ [])
  pub lacks : Lacks 10 line

-- the text doesn't begin with such a line
abbrev pub BeginsWithout : {A : Type 0} → (A → Type 0) → (A → List ℕ) → List ℕ → Type 0
BeginsWithout {A} IsSuch text bytes = (a : A) (behind : List ℕ) → IsSuch a → bytes ≡ text a ++ (10 ∷ behind) → ⊥

-- Such lines, fewer than so many, were read; then comes none, and that is the line with this number.
pub record EndsEarly {A : Type 0} (IsSuch : A → Type 0) (text : A → List ℕ) (lines : Lines) (count number : ℕ) : Type 0 where
  pub read : List A
  pub few : length read < count
  pub such : All IsSuch read
  pub rest : List ℕ
  pub bytes : (lines.rest).now ≡ lines_text (map text read) ++ rest
  pub none : BeginsWithout IsSuch text rest
  pub number_is : number ≡ lines.taken + length read + 1

-- a refusal tells that line, or that there was no memory
abbrev pub IsEarlyEnd : {A : Type 0} → (A → Type 0) → (A → List ℕ) → Lines → ℕ → LoadRefusal → Type 0
IsEarlyEnd IsSuch text lines count (refusal.Fault found) = (found.kind ≡ form_fault) × EndsEarly IsSuch text lines count found.line
IsEarlyEnd IsSuch text lines count refusal.NoMemory = Unit {0}

-- a refusal tells that no line is left that ends, or that there was no memory
abbrev pub IsUncut : Lines → LoadRefusal → Type 0
IsUncut lines (refusal.Fault found) = Lacks 10 (lines.rest).now × (found ≡ record { kind = form_fault; line = lines.taken + 1 })
IsUncut lines refusal.NoMemory = Unit {0}

-- the place of what is wrong is below what any table may have
abbrev pub IsInside : TableFault → Type 0
IsInside (State k) = k < most_states
IsInside (Number p) = p < most_keys
