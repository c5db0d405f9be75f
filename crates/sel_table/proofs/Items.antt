-- Items that are read one by one from a text that is cut at separators.
use Rattle.std.proofs.Common.{◌≡◌, ℕ, ◌≤◌, ◌<◌, ◌^◌, List, [], ◌∷◌, ◌++◌, Option, Some, None, MatchOption, All, length, map, refl, ap, sym, ◌∙◌, subst, arith, append_assoc, append-nil, length-append}
use Rattle.std.specs.Borrow.{Bor}
use Rattle.std.proofs.lemmas.List.{length-map, map-append}
use Rattle.std.proofs.lemmas.List.Elements.{All-nil, All-push}
use Rattle.sel_items.specs.declared.items.Item.{Item}
use Rattle.sel_full.specs.Forms.{IsFormEntry}
use Rattle.sel_full.specs.TableTexts.{item_text, entries_text}
use Rattle.sel_table.specs.LineReading.{parts_of, Lacks, with_rest, IsReadAs, IsRow}
use Rattle.sel_table.proofs.Cutting.{cut_parts, cut_shorter, parts_behind, part_of_items, parts_some}
use Rattle.sel_table.proofs.Spelling.{row_parts, parts_row}

-- the items of the parts before the rest
abbrev pub ReadSoFar : {A : Type 0} → (A → List ℕ) → (A → Type 0) → List ℕ → List ℕ → List A → Type 0
ReadSoFar text IsSuch bytes rest items = (parts_of 32 bytes ≡ map text items ++ parts_of 32 rest) × All IsSuch items

module _ {A : Type 0} (text : A → List ℕ) (IsSuch : A → Type 0) where
  pub read_none : (bytes : List ℕ) → ReadSoFar text IsSuch bytes bytes []
  read_none bytes = (refl, All-nil IsSuch)

  one_more : (bytes : List ℕ) (items : List A) (a : A) (part : List ℕ) (others : List (List ℕ)) → parts_of 32 bytes ≡ map text items ++ (part ∷ others) → part ≡ text a → parts_of 32 bytes ≡ map text (items ++ (a ∷ [])) ++ others
  one_more bytes items a part others e is =
      e ∙ ap (λ p. map text items ++ (p ∷ others)) is ∙ sym (append_assoc (map text items) (text a ∷ []) others) ∙ ap (λ t. t ++ others) (sym (map-append text items (a ∷ [])))

  module _ (bytes rest part : List ℕ) (items : List A) (behind : Option (Bor (List ℕ))) (lacks : Lacks 32 part) (whole : rest ≡ part ++ with_rest 32 behind) (h : ReadSoFar text IsSuch bytes rest items) where
    parts : parts_of 32 bytes ≡ map text items ++ (part ∷ parts_behind 32 behind)
    parts = h.0 ∙ ap (λ p. map text items ++ p) (cut_parts 32 rest part behind lacks whole)

    pub read_more : (a : A) (items' : List A) → part ≡ text a → IsSuch a → items' ≡ items ++ (a ∷ []) → (parts_of 32 bytes ≡ map text items' ++ parts_behind 32 behind) × All IsSuch items'
    read_more a items' is such e =
        (one_more bytes items a part (parts_behind 32 behind) parts is ∙ ap (λ xs. map text xs ++ parts_behind 32 behind) (sym e), subst (All IsSuch) (sym e) (All-push IsSuch items a h.1 such))

    pub read_wrong : ((a : A) → IsSuch a → part ≡ text a → ⊥) → (all : List A) → All IsSuch all → parts_of 32 bytes ≡ map text all → ⊥
    read_wrong never all such e = let (a, is, spelled) = part_of_items text 32 IsSuch all (map text items) (parts_behind 32 behind) part such (sym e ∙ parts) in never a is spelled

-- rows
abbrev pub RowSoFar : ℕ → List ℕ → List ℕ → ℕ → List (Option Item) → Type 0
RowSoFar rules line rest width row = ReadSoFar item_text (IsFormEntry rules) line rest row × (length row < width)

module _ (line rest part : List ℕ) (width : ℕ) (row : List (Option Item)) (behind : Option (Bor (List ℕ))) (lacks : Lacks 32 part) (whole : rest ≡ part ++ with_rest 32 behind) (some : 0 < width) (rules : ℕ) (many : rules < 2 ^ 64) (h : RowSoFar rules line rest width row) where
  pub row_wrong : ((a : Option Item) → IsFormEntry rules a → part ≡ item_text a → ⊥) → (all : List (Option Item)) → IsRow width rules all → line ≡ entries_text all → ⊥
  row_wrong never all is e = read_wrong item_text (IsFormEntry rules) line rest part row behind lacks whole h.0 never all is.entries (row_parts rules many line width all some is e)

  module _ (a : Option Item) (row' : List (Option Item)) (is : part ≡ item_text a) (such : IsFormEntry rules a) (more : row' ≡ row ++ (a ∷ [])) where
    read : (parts_of 32 line ≡ map item_text row' ++ parts_behind 32 behind) × All (IsFormEntry rules) row'
    read = read_more item_text (IsFormEntry rules) line rest part row behind lacks whole h.0 a row' is such more

    count : length row' ≤ width
    count = let few = h.1 in omega (arith, few, ap length more, length-append row (a ∷ []))

    -- the last entry
    pub row_read : behind ≡ None → length row' ≡ width → IsRow width rules row' × (line ≡ entries_text row')
    row_read none full =
        (record { width_is = full; entries = read.1 }, parts_row line row' (omega (arith, full, some)) (read.0 ∙ ap (λ b. map item_text row' ++ parts_behind 32 b) none ∙ append-nil (map item_text row')))

    pub row_short : behind ≡ None → (length row' ≡ width → ⊥) → (all : List (Option Item)) → IsRow width rules all → line ≡ entries_text all → ⊥
    row_short none short all is' e =
        let p = sym (row_parts rules many line width all some is' e) ∙ read.0 ∙ ap (λ b. map item_text row' ++ parts_behind 32 b) none ∙ append-nil (map item_text row') in
        short (omega (arith, ap length p, length-map all item_text, length-map row' item_text, is'.width_is))

    -- what a full row is read as
    pub row_end : (o : Option (List (Option Item))) → behind ≡ None → MatchOption o (length row' ≡ width → ⊥) (λ full. (length row' ≡ width) × (full ≡ row')) → IsReadAs (IsRow width rules) entries_text line o
    row_end None none short = row_short none short
    row_end (Some full) none (is', e) = subst (λ r. IsRow width rules r × (line ≡ entries_text r)) (sym e) (row_read none is')

    pub row_long : (r : Bor (List ℕ)) → behind ≡ Some r → length row' ≡ width → (all : List (Option Item)) → IsRow width rules all → line ≡ entries_text all → ⊥
    row_long r there full all is' e = go (parts_of 32 r.now) refl
      where
        p : map item_text all ≡ map item_text row' ++ parts_of 32 r.now
        p = sym (row_parts rules many line width all some is' e) ∙ read.0 ∙ ap (λ b. map item_text row' ++ parts_behind 32 b) there

        go : (ps : List (List ℕ)) → parts_of 32 r.now ≡ ps → ⊥
        go [] q = parts_some 32 r.now q
        go (x ∷ ps) q = absurd (omega (arith, ap length p, length-append (map item_text row') (parts_of 32 r.now), ap length q, length-map all item_text, length-map row' item_text, is'.width_is, full))

    pub row_next : (r : Bor (List ℕ)) → behind ≡ Some r → (length row' ≡ width → ⊥) → RowSoFar rules line r.now width row'
    row_next r there short = ((read.0 ∙ ap (λ b. map item_text row' ++ parts_behind 32 b) there, read.1), less (length row') width count short)
      where
        less : (a b : ℕ) → a ≤ b → (a ≡ b → ⊥) → a < b
        less a b h k = grind arith

  pub rest_shorter : (r : Bor (List ℕ)) → behind ≡ Some r → length r.now < length rest
  rest_shorter r there = cut_shorter 32 rest part r.now (whole ∙ ap (λ b. part ++ with_rest 32 b) there)
