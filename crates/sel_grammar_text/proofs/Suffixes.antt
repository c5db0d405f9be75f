-- What is left of a text is its end.
use Rattle.std.proofs.Common.{◌≡◌, ℕ, suc, zero, ◌+◌, ◌-◌, ◌≤◌, List, [], ◌∷◌, ◌++◌, Option, Some, None, Bool, true, false, length, take, drop, refl, ap, sym, ◌∙◌, arith, length-drop, cond, ◌&&◌, eqb}
use Rattle.std.proofs.Math.Seq.{take-add}
use Rattle.sel_grammar_text.specs.Blanks.{is_blank, behind_pair, behind_comment, behind_blank, skip_at_most, skip}
use Rattle.sel_grammar_text.specs.Tokens.{token_of, width}
use Rattle.sel_grammar_text.specs.Spots.{behind, after}

-- the rest stands at the end of the bytes
pub record IsEnd (bytes rest : List ℕ) : Type 0 where
  pub gone : ℕ
  pub within : gone ≤ length bytes
  pub rest_is : rest ≡ drop gone bytes

pub whole : (bytes : List ℕ) → IsEnd bytes bytes
whole bytes = record { gone = 0; within = omega arith; rest_is = refl }

one_gone : (b : ℕ) (bytes rest : List ℕ) → IsEnd bytes rest → IsEnd (b ∷ bytes) rest
one_gone b bytes rest h = record { gone = suc h.gone; within = omega (arith, h.within); rest_is = h.rest_is }

pub dropped : (n : ℕ) (bytes : List ℕ) → IsEnd bytes (drop n bytes)
dropped zero bytes = whole bytes
dropped (suc n) [] = record { gone = 0; within = omega arith; rest_is = refl }
dropped (suc n) (b ∷ bytes) = one_gone b bytes (drop n bytes) (dropped n bytes)

drop_both : (n m : ℕ) (bytes : List ℕ) → drop m (drop n bytes) ≡ drop (n + m) bytes
drop_both zero m bytes = ap (λ k. drop k bytes) (let e : m ≡ 0 + m = omega arith in e)
drop_both (suc n) m [] = nil m ∙ sym (nil (suc n + m))
  where
    nil : (k : ℕ) → drop {A = ℕ} k [] ≡ []
    nil zero = refl
    nil (suc k) = refl
drop_both (suc n) m (b ∷ bytes) = drop_both n m bytes ∙ ap (λ k. drop k (b ∷ bytes)) (let e : suc (n + m) ≡ suc n + m = omega arith in e)

pub both : (bytes rest more : List ℕ) → IsEnd bytes rest → IsEnd rest more → IsEnd bytes more
both bytes rest more h k = record {
  gone = h.gone + k.gone;
  within = omega (arith, h.within, k.within, ap length h.rest_is, length-drop h.gone bytes);
  rest_is = k.rest_is ∙ ap (drop k.gone) h.rest_is ∙ drop_both h.gone k.gone bytes;
}

abbrev IsEndIn : List ℕ → Option (List ℕ) → Type 0
IsEndIn bytes None = Unit {0}
IsEndIn bytes (Some rest) = IsEnd bytes rest

choose : (P : Option (List ℕ) → Type 0) (b : Bool) (x y : Option (List ℕ)) → P x → P y → P (cond b x y)
choose P true x y p q = p
choose P false x y p q = q

further : (b : ℕ) (bytes : List ℕ) (o : Option (List ℕ)) → IsEndIn bytes o → IsEndIn (b ∷ bytes) o
further b bytes None h = tt
further b bytes (Some rest) h = one_gone b bytes rest h

pair_end : (x y : ℕ) (bytes : List ℕ) → IsEndIn bytes (behind_pair x y bytes)
pair_end x y [] = tt
pair_end x y (b ∷ []) = tt
pair_end x y (b ∷ c ∷ bytes) =
    choose (IsEndIn (b ∷ c ∷ bytes)) (eqb b x && eqb c y) (Some bytes) (behind_pair x y (c ∷ bytes)) (one_gone b (c ∷ bytes) bytes (one_gone c bytes bytes (whole bytes)))
    (further b (c ∷ bytes) (behind_pair x y (c ∷ bytes)) (pair_end x y (c ∷ bytes)))

comment_end : (bytes : List ℕ) → IsEndIn bytes (behind_comment bytes)
comment_end [] = tt
comment_end (b ∷ []) = tt
comment_end (b ∷ c ∷ bytes) =
    choose (IsEndIn (b ∷ c ∷ bytes)) (eqb b 47 && eqb c 42) (behind_pair 42 47 bytes) None
    (further b (c ∷ bytes) (behind_pair 42 47 bytes) (further c bytes (behind_pair 42 47 bytes) (pair_end 42 47 bytes))) tt

blank_end : (bytes : List ℕ) → IsEndIn bytes (behind_blank bytes)
blank_end [] = tt
blank_end (b ∷ bytes) = choose (IsEndIn (b ∷ bytes)) (is_blank b) (Some bytes) (behind_comment (b ∷ bytes)) (one_gone b bytes bytes (whole bytes)) (comment_end (b ∷ bytes))

skip_end_to : (n : ℕ) (bytes : List ℕ) → IsEnd bytes (skip_at_most n bytes)
skip_end_to zero bytes = whole bytes
skip_end_to (suc n) bytes = go (behind_blank bytes) (blank_end bytes) (skip_end_to n)
  where
    go : (o : Option (List ℕ)) → IsEndIn bytes o → ((rest : List ℕ) → IsEnd rest (skip_at_most n rest)) → IsEnd bytes (elim o as (λ _. List ℕ) [ None ↦ bytes | Some rest ↦ skip_at_most n rest ])
    go None h ih = whole bytes
    go (Some rest) h ih = both bytes rest (skip_at_most n rest) h (ih rest)

pub skip_end : (bytes : List ℕ) → IsEnd bytes (skip bytes)
skip_end bytes = skip_end_to (length bytes) bytes

behind_end : (bytes : List ℕ) → IsEnd bytes (behind bytes)
behind_end bytes = both bytes (skip bytes) (behind bytes) (skip_end bytes) (dropped (width (token_of (skip bytes))) (skip bytes))

pub after_end : (n : ℕ) (bytes : List ℕ) → IsEnd bytes (after n bytes)
after_end zero bytes = whole bytes
after_end (suc n) bytes = both bytes (behind bytes) (after n (behind bytes)) (behind_end bytes) (after_end n (behind bytes))

pub end_within : (bytes rest : List ℕ) → IsEnd bytes rest → length rest ≤ length bytes
end_within bytes rest h = omega (arith, ap length h.rest_is, length-drop h.gone bytes)

gone_is : (bytes rest : List ℕ) (h : IsEnd bytes rest) → h.gone ≡ length bytes - length rest
gone_is bytes rest h = omega (arith, h.within, ap length h.rest_is, length-drop h.gone bytes)

-- the bytes before what is left, and those before what is left of that
pub fronts : (bytes rest more : List ℕ) → IsEnd bytes rest → IsEnd rest more
    → take (length bytes - length rest) bytes ++ take (length rest - length more) rest ≡ take (length bytes - length more) bytes
fronts bytes rest more h k =
    let n = length bytes - length rest in
    let m = length rest - length more in
    let a : rest ≡ drop n bytes = h.rest_is ∙ ap (λ x. drop x bytes) (gone_is bytes rest h) in
    let sum : n + m ≡ length bytes - length more = omega (arith, end_within bytes rest h, end_within rest more k) in
    ap (λ x. take n bytes ++ take m x) a ∙ sym (take-add n m bytes) ∙ ap (λ x. take x bytes) sum

-- of two ends of some bytes the shorter is an end of the longer
pub within : (bytes rest more : List ℕ) → IsEnd bytes rest → IsEnd bytes more → length more ≤ length rest → IsEnd rest more
within bytes rest more h k w =
    let less : h.gone + (k.gone - h.gone) ≡ k.gone = omega (arith, gone_is bytes rest h, gone_is bytes more k, w, end_within bytes rest h) in
    record {
      gone = k.gone - h.gone;
      within = omega (arith, gone_is bytes rest h, gone_is bytes more k, w, end_within bytes rest h, h.within, k.within);
      rest_is = k.rest_is ∙ ap (λ n. drop n bytes) (sym less) ∙ sym (drop_both h.gone (k.gone - h.gone) bytes) ∙ ap (drop (k.gone - h.gone)) (sym h.rest_is);
    }
