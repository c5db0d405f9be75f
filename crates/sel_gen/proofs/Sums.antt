-- Sums of sizes, which are small, and what they say of derivations.
use Rattle.std.proofs.Common.{◌≡◌, ℕ, ◌+◌, ◌*◌, ◌<◌, ◌≤◌, ◌^◌, true, false, nat_le, if◌then◌else◌, refl, ap, sym, ◌∙◌, arith, Option, Some, None}
use Rattle.std.specs.Option.{option_map}
use Rattle.std.proofs.lemmas.Bool.Decides.{nat_tests}
use Rattle.sel_grammar.specs.declared.grammar.Pattern.{Pattern, Leaf, Nullary, Unary', Binary', end_of-Pattern, more_of-Pattern}
use Rattle.sel_grammar.specs.Lawful.{names_of}
use Rattle.sel_grammar.specs.Limits.{most_names}
use Rattle.sel_gen.specs.Sizes.{Sizes, plus, kids_size}
use Rattle.sel_gen.specs.Made.{most_size}
use Rattle.sel_gen.specs.Lowering.{capped, small_sum, small_kids_size, AreUpTo}
use Rattle.sel_forest.proofs.Matching.{some_same, some_none}

pub nat_le_true : (a b : ℕ) → a ≤ b → nat_le a b ≡ true
nat_le_true a b h = grind (arith, nat_tests)

pub nat_le_is : (a b : ℕ) → nat_le a b ≡ true → a ≤ b
nat_le_is a b h = grind (arith, nat_tests)

pub nat_le_not : (a b : ℕ) → nat_le a b ≡ false → b < a
nat_le_not a b h = grind (arith, nat_tests)

-- both summands, where there is a sum
pub plus_parts : (x y : Option ℕ) (k : ℕ) → plus x y ≡ Some k → (a : ℕ) × (b : ℕ) × (x ≡ Some a) × (y ≡ Some b) × (k ≡ a + b)
plus_parts None y k h = absurd (some_none (sym h))
plus_parts (Some a) None k h = absurd (some_none (sym h))
plus_parts (Some a) (Some b) k h = (a, b, refl, refl, sym (some_same h))

-- at most so much for each name of a pattern
pub kids_size_most : (sizes : Sizes) (p : Pattern) (k : ℕ) → AreUpTo most_size sizes → kids_size sizes p ≡ Some k → k ≤ most_size * names_of p
kids_size_most sizes (Leaf n) k small h = let x = small n k h in omega arith
kids_size_most sizes (Nullary op) k small h = let x : 0 ≡ k = some_same h in omega arith
kids_size_most sizes (Unary' op s (more_of-Pattern p end_of-Pattern)) k small h = let x = kids_size_most sizes p k small h in omega arith
kids_size_most sizes (Binary' op s (more_of-Pattern p end_of-Pattern) s' (more_of-Pattern q end_of-Pattern)) k small h =
    let (a, b, x, y, e) = plus_parts (kids_size sizes p) (kids_size sizes q) k h in
    let u = kids_size_most sizes p a small x in
    let v = kids_size_most sizes q b small y in
    omega arith

capped_same : (limit : ℕ) (o : Option ℕ) → ((k : ℕ) → o ≡ Some k → k ≤ limit) → capped limit o ≡ o
capped_same limit None h = refl
capped_same limit (Some k) h = ap (λ b. if b then Some k else None) (nat_le_true k limit (h k refl))

pub small_is : (sizes : Sizes) (p : Pattern) → AreUpTo most_size sizes → names_of p ≤ most_names → small_kids_size sizes p ≡ kids_size sizes p
small_is sizes (Leaf n) small h = refl
small_is sizes (Nullary op) small h = refl
small_is sizes (Unary' op s (more_of-Pattern p end_of-Pattern)) small h = small_is sizes p small (omega arith)
small_is sizes (Binary' op s (more_of-Pattern p end_of-Pattern) s' (more_of-Pattern q end_of-Pattern)) small h =
    ap (λ x. small_sum x (small_kids_size sizes q)) (small_is sizes p small (omega arith)) ∙ ap (small_sum (kids_size sizes p)) (small_is sizes q small (omega arith))
    ∙ capped_same 4294967295 (plus (kids_size sizes p) (kids_size sizes q)) (λ k e.
    let (a, b, x, y, sum) = plus_parts (kids_size sizes p) (kids_size sizes q) k e in
    let u = kids_size_most sizes p a small x in
    let v = kids_size_most sizes q b small y in
    omega arith)

-- a rule's size
pub kids_some : (sizes : Sizes) (p : Pattern) (k : ℕ) → AreUpTo most_size sizes → names_of p ≤ most_names → Some k ≡ small_kids_size sizes p → k + 1 < 2 ^ 32
kids_some sizes p k small h e = let x = kids_size_most sizes p k small (sym (e ∙ small_is sizes p small h)) in omega arith

pub some_size : (sizes : Sizes) (p : Pattern) (k : ℕ) → AreUpTo most_size sizes → names_of p ≤ most_names → Some k ≡ small_kids_size sizes p → Some (k + 1) ≡ option_map (λ k. k + 1) (kids_size sizes p)
some_size sizes p k small h e = ap (option_map (λ k. k + 1)) (e ∙ small_is sizes p small h)

pub no_size : (sizes : Sizes) (p : Pattern) → AreUpTo most_size sizes → names_of p ≤ most_names → None ≡ small_kids_size sizes p → None ≡ option_map (λ k. k + 1) (kids_size sizes p)
no_size sizes p small h e = ap (option_map (λ k. k + 1)) (e ∙ small_is sizes p small h)
