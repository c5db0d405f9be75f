-- Rows that are cut from one list.
use Rattle.std.proofs.Common.{◌≡◌, ℕ, zero, suc, ◌+◌, ◌*◌, ◌<◌, ◌≤◌, [], ◌∷◌, ◌++◌, length, take, drop, refl, ap, sym, ◌∙◌, subst, arith, None, slice_get}
use Rattle.std.proofs.Math.Nat.{suc-mul}
use Rattle.std.proofs.Math.Seq.{take-length}
use Rattle.std.specs.Option.{option_flatten}
use Rattle.std.proofs.lemmas.List.{length-take, length-drop, take-append-le, drop-append-le}
use Rattle.std.proofs.lemmas.Option.{slice_get_past}
use Rattle.std.specs.Option.{unwrap_or}
use Rattle.sel_plain.specs.Rows.{Row, rows_of, entry_at, row_at}

pub length-rows_of : (count width : ℕ) (xs : Row) → length (rows_of count width xs) ≡ count
length-rows_of zero width xs = refl
length-rows_of (suc count) width xs = ap suc (length-rows_of count width (drop width xs))

none_left : (xs : Row) → length xs ≡ 0 → xs ≡ []
none_left [] h = refl
none_left (x ∷ xs) h = absurd (omega arith)

one_row : (width : ℕ) (row : Row) → length row ≡ width → take width row ≡ row
one_row width row h = subst (λ n. take n row ≡ row) h (take-length row)

pub rows_of-push : (count width : ℕ) (xs row : Row) → length xs ≡ count * width → length row ≡ width → rows_of (suc count) width (xs ++ row) ≡ rows_of count width xs ++ row ∷ []
rows_of-push zero width xs row h k =
    let none : xs ≡ [] = none_left xs (omega arith) in
    ap (λ x. take width (x ++ row) ∷ []) none ∙ ap (λ x. x ∷ []) (one_row width row k)
rows_of-push (suc count) width xs row h k =
    let long : length xs ≡ count * width + width = h ∙ suc-mul count width in
    let rest : length (drop width xs) ≡ count * width = let l = length-drop width xs in omega arith in
    (λ i. take-append-le width xs row (omega arith) i ∷ rows_of (suc count) width (drop-append-le width xs row (omega arith) i))
    ∙ ap (λ x. take width xs ∷ x) (rows_of-push count width (drop width xs) row rest k)

slice_get-take : (xs : Row) (width n : ℕ) → n < width → slice_get (take width xs) n ≡ slice_get xs n
slice_get-take [] zero n h = refl
slice_get-take [] (suc width) n h = refl
slice_get-take (x ∷ xs) zero n h = absurd (omega arith)
slice_get-take (x ∷ xs) (suc width) zero h = refl
slice_get-take (x ∷ xs) (suc width) (suc n) h = slice_get-take xs width n (omega arith)

slice_get-drop : (xs : Row) (width n : ℕ) → slice_get (drop width xs) n ≡ slice_get xs (width + n)
slice_get-drop xs zero n = let q : n ≡ 0 + n = omega arith in ap (slice_get xs) q
slice_get-drop [] (suc width) n = sym (slice_get_past [] (suc width + n) (omega arith))
slice_get-drop (x ∷ xs) (suc width) n = let q : suc (width + n) ≡ suc width + n = omega arith in slice_get-drop xs width n ∙ ap (slice_get (x ∷ xs)) q

pub entry_rows : (count width at n : ℕ) (xs : Row) → at < count → n < width → entry_at (row_at (rows_of count width xs) at) n ≡ entry_at xs (at * width + n)
entry_rows zero width at n xs h k = absurd (omega arith)
entry_rows (suc count) width zero n xs h k = ap option_flatten (slice_get-take xs width n k) ∙ (let q : n ≡ 0 * width + n = omega arith in ap (entry_at xs) q)
entry_rows (suc count) width (suc at) n xs h k =
    let q : width + (at * width + n) ≡ suc at * width + n = let m = suc-mul at width in omega arith in
    entry_rows count width at n (drop width xs) (omega arith) k ∙ ap option_flatten (slice_get-drop xs width (at * width + n)) ∙ ap (entry_at xs) q

pub entry_rows_past : (count width at n : ℕ) (xs : Row) → count ≤ at → entry_at (row_at (rows_of count width xs) at) n ≡ None
entry_rows_past count width at n xs h =
    let l = length-rows_of count width xs in
    ap (λ x. entry_at (unwrap_or x []) n) (slice_get_past (rows_of count width xs) at (omega arith))

pub entry_rows_beside : (count width at n : ℕ) (xs : Row) → width ≤ n → entry_at (row_at (rows_of count width xs) at) n ≡ None
entry_rows_beside zero width at n xs h = refl
entry_rows_beside (suc count) width zero n xs h = let l = length-take width xs in ap option_flatten (slice_get_past (take width xs) n (omega arith))
entry_rows_beside (suc count) width (suc at) n xs h = entry_rows_beside count width at n (drop width xs) h
