-- Keys, operator by operator.
use Rattle.std.proofs.Common.{◌≡◌, ℕ, zero, suc, ◌+◌, Some, List, [], ◌∷◌, ◌++◌, refl, ap, sym, ◌∙◌, slice_get, take, arith}
use Rattle.std.specs.List.{flat_map, range_with_len}
use Rattle.std.proofs.lemmas.List.Concat.{flat_map-append}
use Rattle.sel_normal.specs.NormalForms.{NormalForm}
use Rattle.sel_normal.proofs.Steps.{some_same, some_none}
use Rattle.sel_items.specs.declared.items.Items.{Items}
use Rattle.sel_full.specs.Tables.{keys_of, keys_below}

pub append_none : {A : Type 0} (xs : List A) → xs ++ [] ≡ xs
append_none [] = refl
append_none (x ∷ xs) = ap (λ ys. x ∷ ys) (append_none xs)

pub append_assoc : {A : Type 0} (xs ys zs : List A) → (xs ++ ys) ++ zs ≡ xs ++ (ys ++ zs)
append_assoc [] ys zs = refl
append_assoc (x ∷ xs) ys zs = ap (λ ws. x ∷ ws) (append_assoc xs ys zs)

pub take_next : {A : Type 0} (xs : List A) (k : ℕ) (x : A) → slice_get xs k ≡ Some x → take (suc k) xs ≡ take k xs ++ x ∷ []
take_next [] k x h = absurd (some_none (sym h))
take_next (y ∷ xs) zero x h = ap (λ y. y ∷ []) (some_same h)
take_next (y ∷ xs) (suc k) x h = ap (λ zs. y ∷ zs) (take_next xs k x h)

pub range_next : (n a : ℕ) → range_with_len a (suc n) ≡ range_with_len a n ++ (a + n) ∷ []
range_next zero a = let e : a ≡ a + 0 = omega arith in ap (λ b. b ∷ []) e
range_next (suc n) a = let e : a + 1 + n ≡ a + suc n = omega arith in ap (λ ys. a ∷ ys) (range_next n (a + 1) ∙ ap (λ b. range_with_len (a + 1) n ++ b ∷ []) e)

pub keys_below_next : (normal : NormalForm) (xs : List Items) (op : ℕ) → keys_below normal xs (suc op) ≡ keys_below normal xs op ++ keys_of normal xs op
keys_below_next normal xs op =
    let e : 0 + op ≡ op = omega arith in
    ap (flat_map (keys_of normal xs)) (range_next op 0 ∙ ap (λ b. range_with_len 0 op ++ b ∷ []) e) ∙ flat_map-append (keys_of normal xs) (range_with_len 0 op) (op ∷ [])
    ∙ ap (λ ys. keys_below normal xs op ++ ys) (append_none (keys_of normal xs op))
