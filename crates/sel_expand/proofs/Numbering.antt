-- The numbers of the temporaries that a derivation names.
use Rattle.std.proofs.Common.{◌≡◌, ℕ, zero, suc, ◌+◌, ◌≤◌, Bool, true, false, if◌then◌else◌, Some, List, [], ◌∷◌, ◌++◌, refl, ap, sym, ◌∙◌, length, length-append, map, slice_get, arith}
use Rattle.std.specs.Fmt.{decimal}
use Rattle.sel_grammar.specs.declared.emission.Emitted.TheVariants.{Byte, Temporary}
use Rattle.sel_grammar.specs.declared.grammar.Attribute.{Attribute}
use Rattle.sel_grammar.specs.declared.grammar.Grammar.{Grammar}
use Rattle.sel_grammar.specs.declared.grammar.Part.{Part}
use Rattle.sel_grammar.specs.declared.grammar.Part.TheVariants as Parts
use Rattle.sel_grammar.specs.Fits.{rule_at}
use Rattle.sel_grammar.specs.PlainTrees.{PlainTree, attribute_of}
use Rattle.sel_grammar.specs.Derivations.{Derivation, Deriv, Derivations, no_more, more}
use Rattle.sel_grammar.specs.Expansions.{Text, Emission, Emissions, text_bytes, attribute_bytes, value_or_none, part_text, filled, has_result, is_instruction, by_template, parts_of_rule, kid_trees, emit, emit_all, expanded}
use Rattle.sel_forest.specs.declared.forest.Tree.{Tree}
use Rattle.sel_forest.specs.Postorder.{IsTree}
use Rattle.sel_expand.specs.Expanding.{longest_text, IsCovered, IsEmitted, IsDerivationBy}
use Rattle.sel_expand.specs.Pieces.{AreNumbered}
use Rattle.sel_expand.proofs.Sheets.{size-append}

-- each temporary has a number from low to high
abbrev Within : ℕ → ℕ → Text → Type 0
Within low high [] = Unit {0}
Within low high (Byte b ∷ xs) = Within low high xs
Within low high (Temporary k ∷ xs) = (low ≤ k) × ((k ≤ high) × Within low high xs)

-- how many temporaries are named
count : Text → ℕ
count [] = 0
count (Byte b ∷ xs) = count xs
count (Temporary k ∷ xs) = suc (count xs)

within-append : (low high : ℕ) (xs ys : Text) → Within low high xs → Within low high ys → Within low high (xs ++ ys)
within-append low high [] ys h l = l
within-append low high (Byte b ∷ xs) ys h l = within-append low high xs ys h l
within-append low high (Temporary k ∷ xs) ys h l = (h.0, (h.1.0, within-append low high xs ys h.1.1 l))

wider : (low high low' high' : ℕ) (xs : Text) → low' ≤ low → high ≤ high' → Within low high xs → Within low' high' xs
wider low high low' high' [] p q h = tt
wider low high low' high' (Byte b ∷ xs) p q h = wider low high low' high' xs p q h
wider low high low' high' (Temporary k ∷ xs) p q h = let a = h.0 in let b = h.1.0 in (omega arith, (omega arith, wider low high low' high' xs p q h.1.1))

within-bytes : (low high : ℕ) (bytes : List ℕ) → Within low high (map Byte bytes)
within-bytes low high [] = tt
within-bytes low high (b ∷ bytes) = within-bytes low high bytes

count-append : (xs ys : Text) → count (xs ++ ys) ≡ count xs + count ys
unfolding count
count-append [] ys = omega arith
count-append (Byte b ∷ xs) ys = count-append xs ys
count-append (Temporary k ∷ xs) ys = let h = count-append xs ys in omega arith

-- each has a byte at least
count_le : (xs : Text) → count xs ≤ length (text_bytes xs)
unfolding count
count_le [] = omega arith
count_le (Byte b ∷ xs) = let h = count_le xs in let e = length-append (b ∷ []) (text_bytes xs) in omega arith
count_le (Temporary k ∷ xs) = let h = count_le xs in let e = length-append (116 ∷ decimal k) (text_bytes xs) in omega arith

abbrev AllWithin : ℕ → ℕ → List Text → Type 0
AllWithin low high [] = Unit {0}
AllWithin low high (v ∷ vs) = Within low high v × AllWithin low high vs

all_wider : (low high low' high' : ℕ) (vs : List Text) → low' ≤ low → high ≤ high' → AllWithin low high vs → AllWithin low' high' vs
all_wider low high low' high' [] p q h = tt
all_wider low high low' high' (v ∷ vs) p q h = (wider low high low' high' v p q h.0, all_wider low high low' high' vs p q h.1)

-- What is emitted from temporary k on: the numbers are from k to the next, and the lines name as many temporaries as were taken.
record IsFrom (k : ℕ) (lines value : Text) (next : ℕ) : Type 0 where
  lines_within : Within k next lines
  value_within : Within k next value
  grows : k ≤ next
  many : next ≤ k + count lines

record AreFrom (k : ℕ) (lines : Text) (values : List Text) (next : ℕ) : Type 0 where
  lines_within : Within k next lines
  values_within : AllWithin k next values
  grows : k ≤ next
  many : next ≤ k + count lines

value_within : (low high : ℕ) (values : List Text) (k : ℕ) → AllWithin low high values → Within low high (value_or_none (slice_get values k))
value_within low high [] k h = tt
value_within low high (v ∷ vs) zero h = h.0
value_within low high (v ∷ vs) (suc k) h = value_within low high vs k h.1

part_within : (low high : ℕ) (values : List Text) (a : Attribute) (next : ℕ) (part : Part) → AllWithin low high values → low ≤ next → next ≤ high → Within low high (part_text values a next part)
part_within low high values a next (Parts.Text text) h p q = within-bytes low high text
part_within low high values a next (Parts.Kid k) h p q = value_within low high values k h
part_within low high values a next Parts.Attribute h p q = within-bytes low high (attribute_bytes a)
part_within low high values a next Parts.Temp h p q = (p, (q, tt))

filled_within : (low high : ℕ) (values : List Text) (a : Attribute) (next : ℕ) (parts : List Part) → AllWithin low high values → low ≤ next → next ≤ high → Within low high (filled values a next parts)
filled_within low high values a next [] h p q = tt
filled_within low high values a next (part ∷ parts) h p q = within-append low high (part_text values a next part) (filled values a next parts) (part_within low high values a next part h p q) (filled_within low high values a next parts h p q)

filled_names : (values : List Text) (a : Attribute) (next : ℕ) (parts : List Part) → has_result parts ≡ true → 1 ≤ count (filled values a next parts)
unfolding count
filled_names values a next [] h = absurd (cc)
filled_names values a next (Parts.Text text ∷ parts) h = let e = count-append (map Byte text) (filled values a next parts) in let l = filled_names values a next parts h in omega arith
filled_names values a next (Parts.Kid k ∷ parts) h = let e = count-append (value_or_none (slice_get values k)) (filled values a next parts) in let l = filled_names values a next parts h in omega arith
filled_names values a next (Parts.Attribute ∷ parts) h = let e = count-append (map Byte (attribute_bytes a)) (filled values a next parts) in let l = filled_names values a next parts h in omega arith
filled_names values a next (Parts.Temp ∷ parts) h = omega arith

abbrev EmissionFrom : ℕ → Emission → Type 0
EmissionFrom k e = IsFrom k e.lines e.value e.next

abbrev EmissionsFrom : ℕ → Emissions → Type 0
EmissionsFrom k e = AreFrom k e.lines e.values e.next

template_from : (parts : List Part) (a : Attribute) (k : ℕ) (kids : Emissions) → EmissionsFrom k kids → EmissionFrom k (by_template parts a kids)
template_from parts a k kids h = go (is_instruction parts) (has_result parts) refl
  where
    p : k ≤ kids.next
    p = h.grows

    more_count : count kids.lines ≤ count (kids.lines ++ filled kids.values a kids.next parts)
    more_count = let e = count-append kids.lines (filled kids.values a kids.next parts) in omega arith

    go : (b c : Bool) → has_result parts ≡ c → EmissionFrom k (if b then
        (if c then record { lines = kids.lines ++ filled kids.values a kids.next parts; value = Temporary kids.next ∷ []; next = kids.next + 1 } else record { lines = kids.lines ++ filled kids.values a kids.next parts; value = []; next = kids.next })
        else record { lines = kids.lines; value = filled kids.values a kids.next parts; next = kids.next })
    go true true e = record {
      lines_within = within-append k (kids.next + 1) kids.lines (filled kids.values a kids.next parts) (wider k kids.next k (kids.next + 1) kids.lines (omega arith) (omega arith) h.lines_within)
          (filled_within k (kids.next + 1) kids.values a kids.next parts (all_wider k kids.next k (kids.next + 1) kids.values (omega arith) (omega arith) h.values_within) h.grows (omega arith));
      value_within = (h.grows, (omega arith, tt));
      grows = omega arith;
      many = let m = h.many in let n = filled_names kids.values a kids.next parts e in let s = count-append kids.lines (filled kids.values a kids.next parts) in omega arith;
    }
    go true false e = record {
      lines_within = within-append k kids.next kids.lines (filled kids.values a kids.next parts) h.lines_within (filled_within k kids.next kids.values a kids.next parts h.values_within h.grows (omega arith));
      value_within = tt;
      grows = h.grows;
      many = let m = h.many in let s = more_count in omega arith;
    }
    go false c e = record {
      lines_within = h.lines_within;
      value_within = filled_within k kids.next kids.values a kids.next parts h.values_within h.grows (omega arith);
      grows = h.grows;
      many = h.many;
    }

nothing_from : (k : ℕ) → AreFrom k [] [] k
unfolding count
nothing_from k = record { lines_within = tt; values_within = tt; grows = omega arith; many = omega arith }

both_from : (k : ℕ) (first : Emission) (rest : Emissions) → EmissionFrom k first → EmissionsFrom first.next rest → AreFrom k (first.lines ++ rest.lines) (first.value ∷ rest.values) rest.next
both_from k first rest h l = record {
  lines_within = within-append k rest.next first.lines rest.lines (wider k first.next k rest.next first.lines (omega arith) q h.lines_within) (wider first.next rest.next k rest.next rest.lines p (omega arith) l.lines_within);
  values_within = (wider k first.next k rest.next first.value (omega arith) q h.value_within, all_wider first.next rest.next k rest.next rest.values p (omega arith) l.values_within);
  grows = omega arith;
  many = let e = count-append first.lines rest.lines in let m = h.many in let n = l.many in omega arith;
}
  where
    p : k ≤ first.next
    p = h.grows

    q : first.next ≤ rest.next
    q = l.grows

mutual
  emit_from : (g : Grammar) (d : Derivation) (t : PlainTree) (k : ℕ) → EmissionFrom k (emit g d t k)
  emit_from g (Deriv r kids) t k = template_from (parts_of_rule (rule_at g r)) (attribute_of t) k (emit_all g kids (kid_trees (rule_at g r) t) k) (emit_all_from g kids (kid_trees (rule_at g r) t) k)

  emit_all_from : (g : Grammar) (ds : Derivations) (ts : List PlainTree) (k : ℕ) → EmissionsFrom k (emit_all g ds ts k)
  emit_all_from g no_more ts k = nothing_from k
  emit_all_from g (more d ds) [] k = nothing_from k
  emit_all_from g (more d ds) (t ∷ ts) k = both_from k (emit g d t k) (emit_all g ds ts (emit g d t k).next) (emit_from g d t k) (emit_all_from g ds ts (emit g d t k).next)

at_within : (low high : ℕ) (xs : Text) (i k : ℕ) → Within low high xs → slice_get xs i ≡ Some (Temporary k) → (low ≤ k) × (k ≤ high)
at_within low high [] i k h e = absurd (cc)
at_within low high (Byte b ∷ xs) zero k h e = absurd (cc)
at_within low high (Byte b ∷ xs) (suc i) k h e = at_within low high xs i k h e
at_within low high (Temporary j ∷ xs) zero k h e = let same : j ≡ k = cc in let a = h.0 in let b = h.1.0 in (omega arith, omega arith)
at_within low high (Temporary j ∷ xs) (suc i) k h e = at_within low high xs i k h.1.1 e

-- A derivation names temporaries from 1 on, and fewer than its text has bytes.
pub expanded_numbered : (g : Grammar) (d : Derivation) (t : PlainTree) (text : Text) → text ≡ expanded g d t → length (text_bytes text) ≤ longest_text → AreNumbered text
expanded_numbered g d t text is long i k at =
    let e = emit g d t 1 in
    let from = emit_from g d t 1 in
    let range = at_within 1 e.next (e.lines ++ e.value) i k (within-append 1 e.next e.lines e.value from.lines_within from.value_within) (ap (λ x. slice_get x i) (sym is) ∙ at) in
    let size : length (text_bytes text) ≡ length (text_bytes e.lines) + length (text_bytes e.value) = ap (λ x. length (text_bytes x)) is ∙ size-append e.lines e.value in
    let few = count_le e.lines in
    let many = from.many in
    let a = range.0 in
    let b = range.1 in
    (omega arith, omega arith)

pub emitted_numbered : (g : Grammar) (tree : Tree) (rules : List ℕ) (text : Text) → IsTree tree → IsCovered g tree rules → IsEmitted g tree rules text → AreNumbered text
emitted_numbered g tree rules text (t, spells, small) covered emitted =
    let (c, is) = covered t spells in
    let by : IsDerivationBy g tree rules t is.derivation = record { spelled = spells; derives = is.derives; listed = is.list_is } in
    let (same, long) = emitted t is.derivation by in
    expanded_numbered g is.derivation t text same long
