-- Lines that are printed as they stand, and lines that are printed token by token.
use Rattle.std.proofs.Common.{◌≡◌, ℕ, suc, zero, ◌≤◌, ◌<◌, ◌&&◌, List, [], ◌∷◌, ◌++◌, Bool, true, false, length, take, drop, refl, ap, sym, ◌∙◌, subst, arith, append_assoc, length-drop, eqb}
use Rattle.std.specs.Prelude.{All, flat_map}
use Rattle.std.specs.List.{prefix_len}
use Rattle.std.specs.Char.{is_ascii_digit}
use Rattle.std.proofs.lemmas.Grind.{flat_map-append}
use Rattle.std.proofs.lemmas.List.{take-append-drop}
use Rattle.std.proofs.lemmas.List.Elements.{All-head, All-tail}
use Rattle.sel_forest.specs.Tokens.{Token, Number, Colon, Open, Comma, Close, Bad, End, token_of, skip, width, source, is_colon, mark, begins_with_digit, Spot, token_at, behind, first, IsCutInto}
use Rattle.sel_forest.specs.Symbols.{is_symbol_start, is_symbol_byte, is_name_byte, is_letter}
use Rattle.sel_forest.specs.Reprinting.{token_text, IsSmall}
use Rattle.sel_forest.specs.Pieces.{view}
use Rattle.sel_forest.specs.declared.tokens.Piece.{Piece}
use Rattle.sel_forest.specs.declared.tokens.Piece.TheVariants as piece
use Rattle.sel_forest.proofs.PlaceLemmas.{append-none}
use Rattle.sel_forest.proofs.Strides.{width_pos, choose, skip_short}

-- A token's bytes stand at the front of its text.
take_take : (n : ℕ) (xs : List ℕ) → take n xs ≡ take (length (take n xs)) xs
take_take zero xs = refl
take_take (suc n) [] = refl
take_take (suc n) (x ∷ xs) = ap (λ ys. x ∷ ys) (take_take n xs)

code_is : (b c : ℕ) → eqb b c ≡ true → b ≡ c
code_is b c h = grind (arith, h)

abbrev StandsBefore : List ℕ → Token → Type 0
StandsBefore bs t = source t ≡ take (width t) bs

mark_source : (b : ℕ) (bs : List ℕ) → StandsBefore (b ∷ bs) (mark b)
mark_source b bs =
    choose (StandsBefore (b ∷ bs)) (eqb b 58) Colon _ (λ h. ap (λ x. x ∷ []) (sym (code_is b 58 h))) (λ _. choose (StandsBefore (b ∷ bs)) (eqb b 40) Open _ (λ h. ap (λ x. x ∷ []) (sym (code_is b 40 h)))
    (λ _. choose (StandsBefore (b ∷ bs)) (eqb b 44) Comma _ (λ h. ap (λ x. x ∷ []) (sym (code_is b 44 h)))
    (λ _. choose (StandsBefore (b ∷ bs)) (eqb b 41) Close (Bad b) (λ h. ap (λ x. x ∷ []) (sym (code_is b 41 h))) (λ _. refl))))

pub source_is : (a : Bool) (bs : List ℕ) → source (token_of a bs) ≡ take (width (token_of a bs)) bs
source_is true [] = refl
source_is false [] = refl
source_is true (b ∷ bs) =
    choose (StandsBefore (b ∷ bs)) (is_symbol_start b) _ _ (λ _. take_take (prefix_len is_symbol_byte (b ∷ bs)) (b ∷ bs))
    (λ _. choose (StandsBefore (b ∷ bs)) (is_ascii_digit b) _ _ (λ _. take_take (prefix_len is_ascii_digit (b ∷ bs)) (b ∷ bs))
    (λ _. choose (StandsBefore (b ∷ bs)) (eqb b 45 && begins_with_digit bs) (Number (b ∷ take (prefix_len is_ascii_digit bs) bs)) _ (λ _. ap (λ x. b ∷ x) (take_take (prefix_len is_ascii_digit bs) bs)) (λ _. mark_source b bs)))
source_is false (b ∷ bs) =
    choose (StandsBefore (b ∷ bs)) (is_letter b) _ _ (λ _. take_take (prefix_len is_name_byte (b ∷ bs)) (b ∷ bs)) (λ _. mark_source b bs)

-- Only the empty text has the end at its front.
pub ended_is : (a : Bool) (bs : List ℕ) → token_of a bs ≡ End → bs ≡ []
ended_is a [] e = refl
ended_is a (b ∷ bs) e = absurd (let h = width_pos a b bs in let k : width (token_of a (b ∷ bs)) ≡ 0 = ap width e in omega (arith, h, k))

pub shorter_behind : (a : Bool) (rest : List ℕ) → (token_of a (skip rest) ≡ End → ⊥) → length (drop (width (token_of a (skip rest))) (skip rest)) < length rest
shorter_behind a rest more = go (skip rest) (skip_short rest) more
  where
    go : (bs : List ℕ) → length bs ≤ length rest → (token_of a bs ≡ End → ⊥) → length (drop (width (token_of a bs)) bs) < length rest
    go [] h more = absurd (more refl)
    go (b ∷ bs) h more = omega (arith, h, width_pos a b bs, length-drop (width (token_of a (b ∷ bs))) (b ∷ bs))

-- A line that is plain so far is its tokens' bytes and what is left of it.
same_drop : (k : ℕ) (xs : List ℕ) → length (drop k xs) ≡ length xs → drop k xs ≡ xs
same_drop zero xs h = refl
same_drop (suc k) [] h = refl
same_drop (suc k) (x ∷ xs) h = absurd (omega (arith, h, length-drop k xs))

one_more : (f : Token → List ℕ) (ts : List Token) (t : Token) → flat_map f (ts ++ (t ∷ [])) ≡ flat_map f ts ++ f t
one_more f ts t = flat_map-append f ts (t ∷ []) ∙ ap (λ x. flat_map f ts ++ x) (sym (append-none (f t)))

abbrev pub IsCopy : Bool → List Token → List ℕ → List ℕ → Type 0
IsCopy plain ts rest line = plain ≡ true → flat_map source ts ++ rest ≡ line

pub copy_next : (plain plain' flag : Bool) (ts : List Token) (t : Token) (rest from behind line : List ℕ) → IsCopy plain ts rest line
    → from ≡ skip rest → t ≡ token_of flag (skip rest) → behind ≡ drop (width t) (skip rest) → (plain' ≡ true → (plain ≡ true) × (length from ≡ length rest))
    → IsCopy plain' (ts ++ (t ∷ [])) behind line
copy_next plain plain' flag ts t rest from behind line h from_is token_is behind_is stays now =
    let (before, same) = stays now in
    let whole : skip rest ≡ rest = same_drop _ rest (ap length (sym from_is) ∙ same) in
    let front : source t ≡ take (width t) (skip rest) = ap source token_is ∙ source_is flag (skip rest) ∙ ap (λ u. take (width u) (skip rest)) (sym token_is) in
    ap (λ x. x ++ behind) (one_more source ts t) ∙ append_assoc (flat_map source ts) (source t) behind
    ∙ ap (λ x. flat_map source ts ++ x) ((λ j. front j ++ behind_is j) ∙ take-append-drop (width t) (skip rest) ∙ whole) ∙ h before

pub copy_end : (plain plain' : Bool) (ts : List Token) (rest from line : List ℕ) → IsCopy plain ts rest line
    → from ≡ skip rest → skip rest ≡ [] → (plain' ≡ true → (plain ≡ true) × (length from ≡ length rest)) → plain' ≡ true → flat_map source ts ≡ line
copy_end plain plain' ts rest from line h from_is nothing stays now =
    let (before, same) = stays now in
    let whole : skip rest ≡ rest = same_drop _ rest (ap length (sym from_is) ∙ same) in
    append-none (flat_map source ts) ∙ ap (λ x. flat_map source ts ++ x) (sym nothing ∙ whole) ∙ h before

-- What is left of a line whose first tokens are printed.
pub record IsLeft (attribute : Bool) (rest old text : List ℕ) (ts : List Token) : Type 0 where
  pub done : List Token
  pub left : List Token
  pub parts : ts ≡ done ++ left
  pub cut : first (suc (length left)) (record { attribute = attribute; text = rest }) ≡ left ++ (End ∷ [])
  pub small : All IsSmall left
  pub text_is : text ≡ old ++ flat_map token_text done

pub left_first : (line text : List ℕ) (ts : List Token) → IsCutInto line ts → All IsSmall ts → IsLeft false line text text ts
left_first line text ts cut small = record { done = []; left = ts; parts = refl; cut = cut; small = small; text_is = append-none text }

heads : (a b : Token) (xs ys : List Token) → a ∷ xs ≡ b ∷ ys → a ≡ b
heads a b xs ys e = cc

tails : (a b : Token) (xs ys : List Token) → a ∷ xs ≡ b ∷ ys → xs ≡ ys
tails a b xs ys e = cc

pub left_next : (flag flag' : Bool) (rest later old text text' : List ℕ) (ts : List Token) (t : Token) → IsLeft flag rest old text ts → t ≡ token_of flag (skip rest) → (t ≡ End → ⊥)
    → later ≡ drop (width t) (skip rest) → flag' ≡ is_colon t → (IsSmall t → text' ≡ text ++ token_text t) → IsLeft flag' later old text' ts
left_next flag flag' rest later old text text' ts t l token_is more behind_is flag_is put = go l.left l.parts l.cut l.small
  where
    go : (left : List Token) → ts ≡ l.done ++ left → first (suc (length left)) (record { attribute = flag; text = rest }) ≡ left ++ (End ∷ []) → All IsSmall left → IsLeft flag' later old text' ts
    go [] parts cut small = absurd (more (token_is ∙ heads (token_of flag (skip rest)) End [] [] cut))
    go (v ∷ vs) parts cut small =
        let p : Spot = record { attribute = flag; text = rest } in
        let here : token_of flag (skip rest) ≡ v = heads (token_of flag (skip rest)) v (first (suc (length vs)) (behind p)) (vs ++ (End ∷ [])) cut in
        let same : t ≡ v = token_is ∙ here in
        let next : record { attribute = flag'; text = later } ≡ behind p =
        λ j. record { attribute = (flag_is ∙ ap is_colon token_is) j; text = (behind_is ∙ ap (λ u. drop (width u) (skip rest)) token_is) j } in
        record {
          done = l.done ++ (v ∷ []);
          left = vs;
          parts = parts ∙ sym (append_assoc l.done (v ∷ []) vs);
          cut = ap (first (suc (length vs))) next ∙ tails (token_of flag (skip rest)) v (first (suc (length vs)) (behind p)) (vs ++ (End ∷ [])) cut;
          small = All-tail IsSmall v vs small;
          text_is = put (subst IsSmall (sym same) (All-head IsSmall v vs small)) ∙ (λ j. l.text_is j ++ token_text (same j)) ∙ append_assoc old (flat_map token_text l.done) (token_text v)
              ∙ ap (λ x. old ++ x) (sym (one_more token_text l.done v));
        }

-- behind the end there are ends alone, which print nothing
ends_print : (n : ℕ) (p : Spot) → token_at p ≡ End → flat_map token_text (first n p) ≡ []
ends_print zero p e = refl
ends_print (suc n) p e =
    let none : skip p.text ≡ [] = ended_is p.attribute (skip p.text) e in
    let again : token_at (behind p) ≡ End = at_end (token_at p) (skip p.text) none in
    (λ j. token_text (e j) ++ ends_print n (behind p) again j)
  where
    at_end : (t : Token) (bs : List ℕ) → bs ≡ [] → token_of (is_colon t) (skip (drop (width t) bs)) ≡ End
    at_end t bs h = ap (λ bs. token_of (is_colon t) (skip (drop (width t) bs))) h ∙ nothing (is_colon t) (width t)
      where
        nothing : (a : Bool) (n : ℕ) → token_of a (skip (drop n [])) ≡ End
        nothing true zero = refl
        nothing true (suc n) = refl
        nothing false zero = refl
        nothing false (suc n) = refl

pub left_end : (flag : Bool) (rest old text : List ℕ) (ts : List Token) → IsLeft flag rest old text ts → token_of flag (skip rest) ≡ End → text ≡ old ++ flat_map token_text ts
left_end flag rest old text ts l e =
    let p : Spot = record { attribute = flag; text = rest } in
    let none : flat_map token_text (l.left ++ (End ∷ [])) ≡ [] = ap (flat_map token_text) (sym l.cut) ∙ ends_print (suc (length l.left)) p e in
    let nothing : flat_map token_text l.left ≡ [] = append-none (flat_map token_text l.left) ∙ sym (one_more token_text l.left End) ∙ none in
    l.text_is ∙ ap (λ x. old ++ x) (append-none (flat_map token_text l.done) ∙ ap (λ x. flat_map token_text l.done ++ x) (sym nothing)
    ∙ sym (flat_map-append token_text l.done l.left) ∙ ap (flat_map token_text) (sym l.parts))

pub view_end : (p : Piece) → view p ≡ End → p ≡ piece.End
view_end (piece.Name bytes) e = cc
view_end (piece.Number bytes) e = cc
view_end (piece.Symbol bytes) e = cc
view_end piece.Colon e = cc
view_end piece.Open e = cc
view_end piece.Comma e = cc
view_end piece.Close e = cc
view_end (piece.Bad b) e = cc
view_end piece.End e = refl
