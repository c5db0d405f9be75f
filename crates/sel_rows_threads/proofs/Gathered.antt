-- Reports of a crew, and the parts that are gathered of them.
use Rattle.std.proofs.Common.{◌≡◌, ℕ, zero, suc, ◌+◌, ◌<◌, List, [], ◌∷◌, ◌++◌, length, refl, sym, ap, ◌∙◌, subst, ⊎_elim, arith}
use Rattle.std.specs.Prelude.{slice_index_or}
use mathlib.Core.Option.{some, some-ne-none, some-injective}
use lib.ListN.{get_elem?}
use Rattle.sel_law.specs.Words.{In}
use Rattle.sel_law.proofs.Base.{in_front, in_back, in_split, in_one, in_here, weigh_append}
use Rattle.sel_rows.specs.declared.rows.Rows.{Rows}
use Rattle.sel_rows.specs.declared.part.PassPart.{PassPart}
use Rattle.sel_rows.specs.Parts.{seats_of}
use Rattle.sel_rows.specs.Tables.{IsPartOf, ArePartsOf}
use Rattle.sel_rows_threads.specs.declared.crew.Report.{Report}
use Rattle.sel_rows_threads.specs.Reports.{IsReportOf, AreReportsOf}

-- what stands in a list stands at an index
pub at_index : {A : Type 0} (l : List A) (x d : A) (k : ℕ) → get_elem? l k ≡ some x → (k < length l) × (slice_index_or l k d ≡ x)
at_index [] x d k e = absurd (some-ne-none x (sym e))
at_index (y ∷ l) x d zero e = (omega arith, some-injective y x e)
at_index (y ∷ l) x d (suc k) e = let r = at_index l x d k e in let lt = r.0 in (omega arith, r.1)

module _ (rows : Rows) where
  pub last_report : (all front : List Report) (last : Report) → all ≡ front ++ last ∷ [] → AreReportsOf rows all → IsReportOf rows last
  last_report all front last is h = h last (subst (In last) (sym is) (in_back last front (last ∷ []) (in_here last [])))

  pub front_reports : (all front : List Report) (last : Report) → all ≡ front ++ last ∷ [] → AreReportsOf rows all → AreReportsOf rows front
  front_reports all front last is h r k = h r (subst (In r) (sym is) (in_front r front (last ∷ []) k))

  pub more_parts : (all parts : List PassPart) (part : PassPart) → all ≡ parts ++ part ∷ [] → ArePartsOf rows parts → IsPartOf rows part → ArePartsOf rows all
  more_parts all parts part is h one p k = ⊎_elim (λ (i : In p parts). h p i) (λ (i : In p (part ∷ [])). subst (IsPartOf rows) (in_one p part i) one) (in_split p parts (part ∷ []) (subst (In p) is k))

pub more_seats : (all parts : List PassPart) (part : PassPart) → all ≡ parts ++ part ∷ [] → seats_of all ≡ seats_of parts + part.seat.me.0.seats
more_seats all parts part is = ap seats_of is ∙ (let a = weigh_append (λ (p : PassPart). p.seat.me.0.seats) parts (part ∷ []) in omega arith)

-- what is read at an index stands in the list
pub index_in : {A : Type 0} (l : List A) (x : A) (k : ℕ) → k < length l → x ≡ slice_index_or l k x → In x l
index_in [] x k lt e = absurd (omega arith)
index_in (y ∷ l) x zero lt e = (zero, ap some (sym e))
index_in (y ∷ l) x (suc k) lt e = let r = index_in l x k (omega arith) e in (suc r.0, r.1)

long_more : {A : Type 0} (front : List A) (x : A) → length (front ++ x ∷ []) ≡ length front + 1
long_more [] x = refl
long_more (y ∷ front) x = omega (arith, long_more front x)

-- a list is one longer than what stands before its last
pub long_by_one : {A : Type 0} (all front : List A) (x : A) → all ≡ front ++ x ∷ [] → length all ≡ length front + 1
long_by_one all front x is = ap length is ∙ long_more front x
