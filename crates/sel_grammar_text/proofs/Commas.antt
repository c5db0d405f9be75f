-- The kids of a pattern's names are no more than its opening parentheses and commas.
use Rattle.std.proofs.Common.{◌≡◌, ℕ, suc, zero, ◌+◌, ◌-◌, ◌≤◌, List, [], ◌∷◌, false, refl, arith, eqb}
use Rattle.sel_grammar_text.specs.Tokens.{Token, Name, Quoted, Equals, Open, Close, Comma}
use Rattle.sel_grammar_text.specs.Items.{Word}
use Rattle.sel_grammar_text.specs.Spots.{Spot}
use Rattle.sel_grammar_text.specs.Cutting.{commas, kids_behind, pattern_in}

-- how many kids the names have together
abbrev pub kids_sum : List (Word × ℕ) → ℕ
kids_sum [] = 0
kids_sum (n ∷ names) = n.1 + kids_sum names

-- the opening parentheses and commas before the tail
abbrev pub joints : List Spot → ℕ
joints [] = 0
joints (s ∷ spots) = elim s.token as (λ _. ℕ) [ Open ↦ 1 + joints spots | Comma ↦ 1 + joints spots | Quoted inside line ↦ 0 | Equals ↦ 0 | _ ↦ joints spots ]

-- commas stand in the tail only within parentheses of its own
abbrev pub HasPlainTail : List Spot → Type 0
HasPlainTail [] = Unit {0}
HasPlainTail (s ∷ spots) = elim s.token as (λ _. Type 0) [ Quoted inside line ↦ ((d : ℕ) → commas d spots ≡ 0) | Equals ↦ ((d : ℕ) → commas d spots ≡ 0) | _ ↦ HasPlainTail spots ]

-- the commas on m levels from d on
abbrev levels : ℕ → ℕ → List Spot → ℕ
levels d zero spots = 0
levels d (suc m) spots = commas d spots + levels (suc d) m spots

levels_same : (d m : ℕ) (xs ys : List Spot) → ((e : ℕ) → commas e xs ≡ commas e ys) → levels d m xs ≡ levels d m ys
levels_same d zero xs ys h = refl
levels_same d (suc m) xs ys h = rw (h d, levels_same (suc d) m xs ys h) refl

levels_none : (d m : ℕ) (xs : List Spot) → ((e : ℕ) → commas e xs ≡ 0) → levels d m xs ≡ 0
levels_none d zero xs h = refl
levels_none d (suc m) xs h = rw (h d, levels_none (suc d) m xs h) refl

levels_open : (d m at : ℕ) (spots : List Spot) → levels d m (record { token = Open; at = at } ∷ spots) ≡ levels (suc d) m spots
levels_open d zero at spots = refl
levels_open d (suc m) at spots = let e : d + 1 ≡ suc d = omega arith in rw (e, levels_open (suc d) m at spots) refl

not_zero : (d : ℕ) → eqb (suc d) 0 ≡ false
not_zero d = grind arith

levels_close : (d m at : ℕ) (spots : List Spot) → levels (suc d) m (record { token = Close; at = at } ∷ spots) ≡ levels d m spots
levels_close d zero at spots = refl
levels_close d (suc m) at spots = let e : suc d - 1 ≡ d = omega arith in rw (not_zero d, e, levels_close (suc d) m at spots) refl

levels_comma : (d m at : ℕ) (spots : List Spot) → levels (suc d) m (record { token = Comma; at = at } ∷ spots) ≡ levels (suc d) m spots
levels_comma d zero at spots = refl
levels_comma d (suc m) at spots = let e : 0 + commas (suc d) spots ≡ commas (suc d) spots = omega arith in rw (not_zero d, e, levels_comma (suc d) m at spots) refl

-- What stands below the bound, also where a name stands right before the spots.
record Bounded (spots : List Spot) : Type 0 where
  alone : (m : ℕ) → kids_sum (pattern_in spots) + levels 0 m spots ≤ joints spots
  named : (m : ℕ) → kids_behind spots + kids_sum (pattern_in spots) + levels 0 m spots ≤ joints spots

bounded : (spots : List Spot) → HasPlainTail spots → Bounded spots
bounded [] h = record { alone = λ m. (let e = levels_none 0 m [] (λ d. refl) in omega (arith, e)); named = λ m. (let e = levels_none 0 m [] (λ d. refl) in omega (arith, e)) }
bounded (s ∷ spots) h = go s.token h (λ k. bounded spots k)
  where
    go : (t : Token) → HasPlainTail (record { token = t; at = s.at } ∷ spots) → (HasPlainTail spots → Bounded spots) → Bounded (record { token = t; at = s.at } ∷ spots)
    go Open h k =
        let b = k h in
        record {
          alone = λ m. (let e = levels_open 0 m s.at spots in let f = b.alone (suc m) in omega (arith, e, f));
          named = λ m. (let e = levels_open 0 m s.at spots in let f = b.alone (suc m) in omega (arith, e, f));
        }
    go Comma h k =
        let b = k h in
        let one : (m : ℕ) → kids_sum (pattern_in spots) + levels 0 m (record { token = Comma; at = s.at } ∷ spots) ≤ 1 + joints spots = λ m. comma m (b.alone m) in
        record { alone = one; named = λ m. (let f = one m in omega (arith, f)) }
      where
        comma : (m : ℕ) → kids_sum (pattern_in spots) + levels 0 m spots ≤ joints spots → kids_sum (pattern_in spots) + levels 0 m (record { token = Comma; at = s.at } ∷ spots) ≤ 1 + joints spots
        comma zero f = omega (arith, f)
        comma (suc m) f = let e = levels_comma 0 m s.at spots in omega (arith, e, f)
    go Close h k =
        let b = k h in
        let one : (m : ℕ) → kids_sum (pattern_in spots) + levels 0 m (record { token = Close; at = s.at } ∷ spots) ≤ joints spots = λ m. close m (λ n. b.alone n) in
        record { alone = one; named = λ m. (let f = one m in omega (arith, f)) }
      where
        close : (m : ℕ) → ((n : ℕ) → kids_sum (pattern_in spots) + levels 0 n spots ≤ joints spots) → kids_sum (pattern_in spots) + levels 0 m (record { token = Close; at = s.at } ∷ spots) ≤ joints spots
        close zero f = f 0
        close (suc m) f = let e = levels_close 0 m s.at spots in let g = f m in omega (arith, e, g)
    go (Name n) h k =
        let b = k h in
        let same : (m : ℕ) → levels 0 m (record { token = Name n; at = s.at } ∷ spots) ≡ levels 0 m spots = λ m. levels_same 0 m (record { token = Name n; at = s.at } ∷ spots) spots (λ d. refl) in
        record {
          alone = λ m. (let e = same m in let f = b.named m in omega (arith, e, f));
          named = λ m. (let e = same m in let f = b.named m in omega (arith, e, f));
        }
    go (Quoted inside line) h k =
        record { alone = λ m. (let e = levels_none 0 m (record { token = Quoted inside line; at = s.at } ∷ spots) h in omega (arith, e)); named = λ m. (let e = levels_none 0 m (record { token = Quoted inside line; at = s.at } ∷ spots) h in omega (arith, e)) }
    go Equals h k =
        record { alone = λ m. (let e = levels_none 0 m (record { token = Equals; at = s.at } ∷ spots) h in omega (arith, e)); named = λ m. (let e = levels_none 0 m (record { token = Equals; at = s.at } ∷ spots) h in omega (arith, e)) }
    go t h k =
        let b = k h in
        record {
          alone = λ m. (let e = levels_same 0 m (record { token = t; at = s.at } ∷ spots) spots (λ d. refl) in let f = b.alone m in omega (arith, e, f));
          named = λ m. (let e = levels_same 0 m (record { token = t; at = s.at } ∷ spots) spots (λ d. refl) in let f = b.alone m in omega (arith, e, f));
        }

-- The kids of the names before the tail are no more than the opening parentheses and commas.
pub kids_bounded : (spots : List Spot) → HasPlainTail spots → kids_sum (pattern_in spots) ≤ joints spots
kids_bounded spots h = let f = (bounded spots h).alone 0 in omega (arith, f)
