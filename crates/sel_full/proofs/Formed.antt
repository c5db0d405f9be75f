-- Laws of tables that have the form.
use Rattle.std.proofs.Common.{◌≡◌, ℕ, zero, suc, ◌<◌, ◌≤◌, ◌^◌, ◌⊎◌, inl, inr, Option, Some, None, List, [], ◌∷◌, All, refl, ap, sym, ◌∙◌, subst, slice_get, length, arith}
use Rattle.std.specs.Option.{option_flatten}
use Rattle.std.proofs.lemmas.List.Elements.{All-nil, All-cons}
use Rattle.std.proofs.lemmas.Option.{slice_get_within}
use Rattle.sel_normal.specs.declared.normal.NormalRule.{NormalRule}
use Rattle.sel_normal.specs.NormalForms.{NormalForm, normal_at}
use Rattle.sel_normal.proofs.Steps.{some_same, some_none}
use Rattle.sel_items.specs.declared.items.Item.{Item}
use Rattle.sel_items.specs.declared.items.Items.{Items}
use Rattle.sel_items.specs.Entries.{item_at}
use Rattle.sel_items.specs.Follows.{Follows}
use Rattle.sel_items.proofs.EntryRules.{entries_have_rules}
use Rattle.sel_full.specs.declared.refusal.TableFault.TheVariants.{State, Number}
use Rattle.sel_full.specs.declared.table.Table.{Table}
use Rattle.sel_full.specs.Builds.{IsDearEntry, IsCompleteTable, most_states, most_keys}
use Rattle.sel_full.specs.FormLaws.{CompleteHasForm, TableFaultIsOne, LawfulHasNoFault}
use Rattle.sel_full.specs.Forms.{IsFormEntry, IsFormState, HasForm}
use Rattle.sel_full.specs.Judging.{HasEntry, IsEarlier, IsWrongState, IsWrongNumber, IsFirstOf}
use Rattle.sel_full.specs.Tables.{all_keys}
use Rattle.sel_full.proofs.ListPlaces.{within_get}

all_from : {A : Type 0} (P : A → Type 0) (xs : List A) → ((k : ℕ) (x : A) → slice_get xs k ≡ Some x → P x) → All P xs
all_from P [] h = All-nil P
all_from P (x ∷ xs) h = All-cons P x xs (h 0 x refl) (all_from P xs (λ k y at. h (suc k) y at))

-- the number of a rule is from 1 to how many there are
rule_within : (normal : NormalForm) (r : ℕ) (rule : NormalRule) → normal_at normal r ≡ Some rule → (1 ≤ r) × (r ≤ length normal.rules)
rule_within normal zero rule at = absurd (some_none (sym at))
rule_within normal (suc k) rule at = let w = slice_get_within normal.rules k rule at in (omega arith, omega arith)

module _ (normal : NormalForm) (states rows : ℕ) (t : Table) (few : states ≤ most_states) (few_keys : rows ≤ most_keys) (h : IsCompleteTable normal states rows t) where
  -- an entry of a state names a rule
  names : (m : ℕ) (i : Items) (n : ℕ) (item : Item) → slice_get t.states m ≡ Some i → item_at i.entries n ≡ Some item → (1 ≤ item.rule) × (item.rule ≤ length normal.rules)
  names zero i n item at entry =
      let (e, there, none) = (h.lawful).empty in
      absurd (some_none (sym (ap (λ (j : Items). item_at j.entries n) (some_same (sym there ∙ at)) ∙ entry) ∙ none.none n))
  names (suc m) i n item at entry =
      let f = h.found (suc m) (omega arith) (slice_get_within t.states (suc m) i at) in
      let same : f.items ≡ i = some_same (sym f.state ∙ at) in
      let (rule, there, left) = entries_have_rules normal f.key i n item (subst (Follows normal f.key) same f.follows) entry in
      rule_within normal item.rule rule there

  entry_form : (m : ℕ) (i : Items) (n : ℕ) (entry : Option Item) → slice_get t.states m ≡ Some i → slice_get i.entries n ≡ Some entry → IsFormEntry (length normal.rules) entry
  entry_form m i n None at there = tt
  entry_form m i n (Some item) at there =
      let e : item_at i.entries n ≡ Some item = ap option_flatten there in
      let (some, rule) = names m i n item at e in
      record { cheap = λ dear. (h.within).cheap i (m, at) (n, subst IsDearEntry (sym e) dear); some = some; rule = rule }

  state_form : (m : ℕ) (i : Items) → slice_get t.states m ≡ Some i → IsFormState normal i
  state_form m i at = record { long = (h.lawful).long m i at; entries = all_from (IsFormEntry (length normal.rules)) i.entries (λ n entry there. entry_form m i n entry at there) }

  number_form : (p n : ℕ) → slice_get t.numbers p ≡ Some n → n < 2 ^ 16
  number_form p n at =
      let (key, there) = within_get (all_keys normal t.states) p (let w = slice_get_within t.numbers p n at in let m = (h.lawful).as_many in omega arith) in
      let (i, state, f) = (h.lawful).follow p n key there at in
      let w = slice_get_within t.states n i state in
      let s = (h.within).few_states in
      omega arith

  formed : HasForm normal t
  formed = record {
    some = let (i, at, none) = (h.lawful).empty in let w = slice_get_within t.states 0 i at in omega arith;
    few = let s = (h.within).few_states in omega arith;
    states = all_from (IsFormState normal) t.states state_form;
    as_many = (h.lawful).as_many;
    few_keys = let m = (h.lawful).as_many in let k = (h.within).few_keys in omega arith;
    numbers = all_from (λ n. n < 2 ^ 16) t.numbers number_form;
  }

pub complete_has_form : CompleteHasForm
complete_has_form normal states rows t few few_keys h = formed normal states rows t few few_keys h

pub first_one : (P : ℕ → Type 0) (j k : ℕ) → IsFirstOf P j → IsFirstOf P k → j ≡ k
first_one P j k f g = go (order j k)
  where
    order : (j k : ℕ) → (j < k) ⊎ ((k < j) ⊎ (j ≡ k))
    order j k = grind arith

    go : (j < k) ⊎ ((k < j) ⊎ (j ≡ k)) → j ≡ k
    go (inl l) = absurd (g.before j l f.here)
    go (inr (inl l)) = absurd (f.before k l g.here)
    go (inr (inr e)) = e

pub table_fault_is_one : TableFaultIsOne
table_fault_is_one normal t (State j) (State k) f g = ap State (first_one (IsWrongState t.states) j k f g)
table_fault_is_one normal t (State j) (Number p) f g = absurd (g.0 j f.here)
table_fault_is_one normal t (Number p) (State k) f g = absurd (f.0 k g.here)
table_fault_is_one normal t (Number p) (Number q) f g = ap Number (first_one (IsWrongNumber normal t) p q f.1 g.1)

pub lawful_has_no_fault : LawfulHasNoFault
lawful_has_no_fault normal t (State k) lawful f = let (i, at, h) = f.here in go i at h
  where
    go : (i : Items) → slice_get t.states k ≡ Some i → ((k ≡ 0) × HasEntry i) ⊎ IsEarlier t.states k i → ⊥
    go i at (inl (e, (n, item, there))) =
        let (j, first, none) = lawful.empty in
        some_none (sym (ap (λ (j : Items). item_at j.entries n) (some_same (sym first ∙ (ap (slice_get t.states) (sym e) ∙ at))) ∙ there) ∙ none.none n)
    go i at (inr (j, l, there)) = let e = lawful.differ j k i there at in absurd (omega arith)
lawful_has_no_fault normal t (Number p) lawful (right, f) =
    let w = f.here in
    let (i, state, g) = lawful.follow p w.number w.key w.there w.numbered in
    w.wrong i state g
