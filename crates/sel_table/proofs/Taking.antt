-- Lines that are taken, one behind the other.
use Rattle.std.proofs.Common.{◌≡◌, ℕ, ◌+◌, ◌≤◌, ◌<◌, List, [], ◌∷◌, ◌++◌, Option, None, All, length, map, refl, ap, sym, ◌∙◌, subst, arith, append_assoc, length-append}
use Rattle.std.proofs.lemmas.List.{map-append, length-map}
use Rattle.std.proofs.lemmas.List.Elements.{All-nil, All-push, All-append}
use Rattle.sel_full.specs.TableTexts.{lines_text}
use Rattle.sel_table.specs.declared.lines.Lines.{Lines}
use Rattle.sel_table.specs.declared.refusal.LoadFault.{LoadFault}
use Rattle.sel_table.specs.declared.refusal.LoadRefusal.{LoadRefusal}
use Rattle.sel_table.specs.declared.refusal.LoadRefusal.TheVariants as refusal
use Rattle.sel_table.specs.Loading.{form_fault}
use Rattle.sel_table.specs.LineReading.{Lacks, Took, IsTaken, IsEarlyEnd, IsUncut, IsReadAs}
use Rattle.sel_table.proofs.Cutting.{one_cut, separator_stands}

pub lines_append : (xs ys : List (List ℕ)) → lines_text (xs ++ ys) ≡ lines_text xs ++ lines_text ys
lines_append [] ys = refl
lines_append (x ∷ xs) ys = ap (λ rest. (x ++ (10 ∷ [])) ++ rest) (lines_append xs ys) ∙ sym (append_assoc (x ++ (10 ∷ [])) (lines_text xs) (lines_text ys))

lines_longer : (xs : List (List ℕ)) → length xs ≤ length (lines_text xs)
lines_longer [] = omega arith
lines_longer (x ∷ xs) = omega (arith, lines_longer xs, length-append (x ++ (10 ∷ [])) (lines_text xs), length-append x (10 ∷ []))

-- a line, its line feed, and what stands behind
pub lines_first : (line : List ℕ) (lines : List (List ℕ)) (rest : List ℕ) → lines_text (line ∷ lines) ++ rest ≡ line ++ (10 ∷ (lines_text lines ++ rest))
lines_first line lines rest = append_assoc (line ++ (10 ∷ [])) (lines_text lines) rest ∙ append_assoc line (10 ∷ []) (lines_text lines ++ rest)

pub took_room : (old new : Lines) (lines : List (List ℕ)) → Took old new lines → new.taken + length (new.rest).now ≤ old.taken + length (old.rest).now
took_room old new lines h =
    let count = h.count in
    omega (arith, count, ap length h.bytes, length-append (lines_text lines) (new.rest).now, lines_longer lines)

took_both : (a b c : Lines) (xs ys : List (List ℕ)) → Took a b xs → Took b c ys → Took a c (xs ++ ys)
took_both a b c xs ys h k = record {
  bytes = h.bytes ∙ (ap (λ r. lines_text xs ++ r) k.bytes ∙ (sym (append_assoc (lines_text xs) (lines_text ys) (c.rest).now) ∙ ap (λ t. t ++ (c.rest).now) (sym (lines_append xs ys))));
  count = let p = h.count in let q = k.count in omega (arith, p, q, length-append xs ys);
}

took_none : (lines : Lines) → Took lines lines []
took_none lines = record { bytes = refl; count = omega arith }

module _ {A : Type 0} (IsSuch : A → Type 0) (text : A → List ℕ) where
  -- no line is left that ends
  pub uncut_end : (lines : Lines) (r : LoadRefusal) → IsUncut lines r → IsEarlyEnd IsSuch text lines 1 r
  uncut_end lines (refusal.Fault found) (lacks, is) = (
    ap (λ (f : LoadFault). f.kind) is,
    record {
      read = [];
      few = omega arith;
      such = All-nil IsSuch;
      rest = (lines.rest).now;
      bytes = refl;
      none = λ a behind h e. separator_stands 10 (text a) behind (lines.rest).now lacks e;
      number_is = let e = ap (λ (f : LoadFault). f.line) is in omega (arith, e);
    },
  )
  uncut_end lines refusal.NoMemory h = tt

  -- the line that was taken is no such line
  pub wrong_end : (old new : Lines) (line : List ℕ) → ((a : A) → IsSuch a → Lacks 10 (text a)) → IsTaken old new line → ((a : A) → IsSuch a → line ≡ text a → ⊥) → IsEarlyEnd IsSuch text old 1 (refusal.Fault (record { kind = form_fault; line = new.taken }))
  wrong_end old new line lacks taken never = (
    refl,
    record {
      read = [];
      few = omega arith;
      such = All-nil IsSuch;
      rest = (old.rest).now;
      bytes = refl;
      none = λ a behind h e. never a h (one_cut 10 line (text a) (new.rest).now behind taken.lacks (lacks a h) (sym (lines_first line [] (new.rest).now) ∙ (sym (taken.took).bytes ∙ e))).0;
      number_is = let e = (taken.took).count in omega (arith, e);
    },
  )

  -- such lines that were taken so far
  pub record SoFar (old new : Lines) (count : ℕ) (items : List A) : Type 0 where
    pub counted : length items ≡ count
    pub such : All IsSuch items
    pub took : Took old new (map text items)

  pub so_far_none : (lines : Lines) → SoFar lines lines 0 []
  so_far_none lines = record { counted = refl; such = All-nil IsSuch; took = took_none lines }

  pub so_far_more : (old cur new : Lines) (k : ℕ) (items items' : List A) (a : A) → SoFar old cur k items → IsSuch a → Took cur new (text a ∷ []) → items' ≡ items ++ (a ∷ []) → SoFar old new (k + 1) items'
  so_far_more old cur new k items items' a h such took e =
      subst (SoFar old new (k + 1)) (sym e) (record {
        counted = let c = h.counted in omega (arith, c, length-append items (a ∷ []));
        such = All-push IsSuch items a h.such such;
        took = subst (Took old new) (sym (map-append text items (a ∷ []))) (took_both old cur new (map text items) (text a ∷ []) h.took took);
      })

  pub early_behind : (old cur : Lines) (k count : ℕ) (items : List A) (r : LoadRefusal) → SoFar old cur k items → k < count → IsEarlyEnd IsSuch text cur 1 r → IsEarlyEnd IsSuch text old count r
  early_behind old cur k count items (refusal.Fault found) h l (kind, e) = (
    kind,
    record {
      read = items ++ e.read;
      few = let c = h.counted in let f = e.few in omega (arith, c, f, l, length-append items e.read);
      such = All-append IsSuch items e.read h.such e.such;
      rest = e.rest;
      bytes = (h.took).bytes
          ∙ (ap (λ b. lines_text (map text items) ++ b) e.bytes
          ∙ (sym (append_assoc (lines_text (map text items)) (lines_text (map text e.read)) e.rest) ∙ (ap (λ b. b ++ e.rest) (sym (lines_append (map text items) (map text e.read))) ∙ ap (λ ls. lines_text ls ++ e.rest) (sym (map-append text items e.read)))));
      none = e.none;
      number_is = let c = h.counted in let n = e.number_is in let t = (h.took).count in omega (arith, c, n, t, length-append items e.read, length-map items text);
    },
  )
  early_behind old cur k count items refusal.NoMemory h l e = tt

-- what isn't read has no such text
pub unread : {A : Type 0} (IsSuch : A → Type 0) (text : A → List ℕ) (bytes : List ℕ) (o : Option A) → IsReadAs IsSuch text bytes o → o ≡ None → (a : A) → IsSuch a → bytes ≡ text a → ⊥
unread IsSuch text bytes o h e = subst (IsReadAs IsSuch text bytes) e h
