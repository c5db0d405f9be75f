-- The last of a list, and another in its place.
use Rattle.std.proofs.Common.{◌≡◌, ℕ, ◌+◌, ◌-◌, ◌<◌, List, [], ◌∷◌, ◌++◌, Some, refl, ap, sym, ◌∙◌, subst, arith, length, length-append, reverse, slice_index_or, slice_set}
use Rattle.std.specs.Prelude.{IfSome}
use Rattle.std.proofs.lemmas.List.{append_cancel_right, reverse-append, reverse-reverse}
use Rattle.std.proofs.Math.Seq.{get_or-append_seam, set-append_seam}
use Rattle.sel_forest.specs.declared.around.Parent.{Parent}
use Rattle.sel_forest.specs.LineFaults.{with_whole_kid}
use Rattle.sel_forest.specs.OpenNodes.{first_parent}

pub last_is : {X : Type 0} (xs below : List X) (x d : X) (n : ℕ) → xs ≡ below ++ (x ∷ []) → n ≡ length xs → slice_index_or xs (n - 1) d ≡ x
last_is xs below x d n e l =
    let at : n - 1 ≡ length below = let a : length xs ≡ length (below ++ (x ∷ [])) = ap length e in omega (arith, a, l, length-append below (x ∷ [])) in
    ap (λ i. slice_index_or xs i d) at ∙ ap (λ ys. slice_index_or ys (length below) d) e ∙ get_or-append_seam below x [] d

pub last_set : {X : Type 0} (xs below : List X) (x y : X) (n : ℕ) → xs ≡ below ++ (x ∷ []) → n ≡ length xs → slice_set xs (n - 1) y ≡ below ++ (y ∷ [])
last_set xs below x y n e l =
    let at : n - 1 ≡ length below = let a : length xs ≡ length (below ++ (x ∷ [])) = ap length e in omega (arith, a, l, length-append below (x ∷ [])) in
    ap (λ i. slice_set xs i y) at ∙ ap (λ ys. slice_set ys (length below) y) e ∙ set-append_seam below x [] y

-- Two lists with a last element are equal only if their fronts and their last are.
pub same_last : {X : Type 0} (xs : List X) (x : X) (ys : List X) (y : X) → xs ++ (x ∷ []) ≡ ys ++ (y ∷ []) → x ≡ y
same_last xs x ys y e = sym (last_is (xs ++ (x ∷ [])) xs x x (length (xs ++ (x ∷ []))) refl refl) ∙ last_is (xs ++ (x ∷ [])) ys y x (length (xs ++ (x ∷ []))) e refl

pub same_front : {X : Type 0} (xs : List X) (x : X) (ys : List X) (y : X) → xs ++ (x ∷ []) ≡ ys ++ (y ∷ []) → xs ≡ ys
same_front xs x ys y e = append_cancel_right xs ys (x ∷ []) (e ∙ ap (λ z. ys ++ (z ∷ [])) (sym (same_last xs x ys y e)))

-- A list that is read from its end.
pub reversed : {X : Type 0} (xs : List X) (x : X) (rest : List X) → reverse xs ≡ x ∷ rest → xs ≡ reverse rest ++ (x ∷ [])
reversed xs x rest e = sym (reverse-reverse xs) ∙ ap reverse e ∙ reverse-append (x ∷ []) rest

pub reverse-snoc : {X : Type 0} (xs : List X) (x : X) → reverse (xs ++ (x ∷ [])) ≡ x ∷ reverse xs
reverse-snoc xs x = reverse-append xs (x ∷ [])

-- The innermost parent stands last, and gets one kid more.
pub innermost_is : (ps : List Parent) (d : Parent) (n : ℕ) → n ≡ length ps → 0 < n → first_parent (reverse ps) ≡ Some (slice_index_or ps (n - 1) d)
innermost_is ps d n l some = go (reverse ps) refl
  where
    go : (rs : List Parent) → reverse ps ≡ rs → first_parent rs ≡ Some (slice_index_or ps (n - 1) d)
    go [] e = let k : length ps ≡ 0 = ap length (sym (reverse-reverse ps) ∙ ap reverse e) in absurd (omega (arith, k, l))
    go (p ∷ rs) e = ap Some (sym (last_is ps (reverse rs) p d n (reversed ps p rs e) l))

pub innermost_few : (ps : List Parent) (p d : Parent) (n : ℕ) → n ≡ length ps → 0 < n → p ≡ slice_index_or ps (n - 1) d → IfSome (first_parent (reverse ps)) (λ parent. parent.kids < 255) → p.kids < 255
innermost_few ps p d n l some is few = subst (λ o. IfSome o (λ parent. parent.kids < 255)) (innermost_is ps d n l some ∙ ap Some (sym is)) few

pub kid_counted : (ps : List Parent) (p d : Parent) (n : ℕ) → n ≡ length ps → 0 < n → p ≡ slice_index_or ps (n - 1) d
    → reverse (slice_set ps (n - 1) (record { operator = p.operator; kids = p.kids + 1 })) ≡ with_whole_kid (reverse ps)
kid_counted ps p d n l some is = go (reverse ps) refl
  where
    go : (rs : List Parent) → reverse ps ≡ rs → reverse (slice_set ps (n - 1) (record { operator = p.operator; kids = p.kids + 1 })) ≡ with_whole_kid rs
    go [] e = let k : length ps ≡ 0 = ap length (sym (reverse-reverse ps) ∙ ap reverse e) in absurd (omega (arith, k, l))
    go (q ∷ rs) e =
        let split = reversed ps q rs e in
        let same : p ≡ q = is ∙ last_is ps (reverse rs) q d n split l in
        ap reverse (last_set ps (reverse rs) q (record { operator = p.operator; kids = p.kids + 1 }) n split l)
        ∙ reverse-snoc (reverse rs) (record { operator = p.operator; kids = p.kids + 1 })
        ∙ ap (λ xs. record { operator = p.operator; kids = p.kids + 1 } ∷ xs) (reverse-reverse rs)
        ∙ ap (λ (x : Parent). record { operator = x.operator; kids = x.kids + 1 } ∷ rs) same
