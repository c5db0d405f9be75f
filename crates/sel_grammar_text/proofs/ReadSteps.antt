-- What a reader knows behind each item, and at the end.
use Rattle.std.proofs.Common.{◌≡◌, ℕ, suc, zero, ◌+◌, ◌-◌, ◌≤◌, ◌<◌, ◌^◌, ◌⊎◌, inl, inr, List, [], ◌∷◌, ◌++◌, Option, Some, None, Bool, true, false, refl, ap, sym, ◌∙◌, subst, arith, length, take, append-nil, cond, eqb}
use Rattle.std.specs.Prelude.{not}
use Rattle.std.specs.List.{AllByRecursion}
use Rattle.std.proofs.lemmas.List.Sums.{count_by-le-length, suffix_len-le-length}
use Rattle.std.proofs.Common.{length-take}
use Rattle.sel_grammar.specs.declared.grammar.Grammar.{Grammar}
use Rattle.sel_grammar_text.specs.Blanks.{skip}
use Rattle.sel_grammar_text.specs.Tokens.{Token, Name, Start, Percents, Code}
use Rattle.sel_grammar_text.specs.Items.{Word, word, Item, RuleItem}
use Rattle.sel_grammar_text.specs.Spots.{Spot, spot, first, after, behind, tokens, first_spots, here}
use Rattle.sel_grammar_text.specs.Names.{rules}
use Rattle.sel_grammar_text.specs.Cutting.{Cutting, cutting, with_spot, ends, item_of, named_item, entry_in, start_item, pattern_in, tail_in, is_equals}
use Rattle.sel_grammar_text.specs.ItemFaults.{check, check_all}
use Rattle.sel_grammar_text.specs.Faults.{or_fault}
use Rattle.sel_grammar_text.specs.GrammarText.{HasFault, HasFirstFault, SpellsGrammar, at_token, end_fault, items_of}
use Rattle.sel_grammar_text.specs.Meaning.{grammar_of}
use Rattle.sel_grammar_text.specs.Places.{IsPlaceBehind, line_of, column_of}
use Rattle.sel_grammar_text.specs.Machine.{begin, run, is_border, is_declaring}
use Rattle.sel_grammar_text.specs.ItemNumbers.{HasExternal}
use Rattle.sel_grammar_text.specs.Extents.{HasExtent}
use Rattle.sel_grammar_text.specs.Tables.{Means, IsPlaced, StandsRight}
use Rattle.sel_grammar_text.specs.Reading.{IsReading, IsTaken}
use Rattle.sel_grammar_text.specs.declared.fault.Fault.{Fault}
use Rattle.sel_grammar_text.specs.declared.form.State.{State}
use Rattle.sel_grammar_text.specs.declared.form.State.TheVariants.{Ended}
use Rattle.sel_grammar_text.specs.declared.place.Place.{Place}
use Rattle.sel_grammar_text.specs.declared.read.Position.{Position}
use Rattle.sel_grammar_text.specs.declared.scan.Extent.{Extent}
use Rattle.sel_grammar_text.specs.declared.tables.Tables.{Tables}
use Rattle.sel_grammar_text.proofs.Steps.{Reached, reached_start, reached_next, reached_end, reached_end_fault, cutting-snoc}
use Rattle.sel_grammar_text.proofs.ItemLists.{rules-append}
use Rattle.sel_grammar_text.proofs.Suffixes.{IsEnd, after_end, skip_end, end_within, fronts, within}

-- The end: the grammar that the items say, or the fault behind them.
pub finished : (bytes : List ℕ) (t : Tables) (e : Extent) (x : IsTaken bytes t e) → e.state ≡ Ended → None ≡ end_fault (items_of x.last bytes) e.last
    → (g : Grammar) → g ≡ grammar_of bytes (items_of x.last bytes) → SpellsGrammar bytes g
finished bytes t e x h k g s =
    let r : Reached bytes x.last x.state = record { run_so = x.reached; sound = x.sound.faultless; no_text = x.sound.open_still } in
    subst (SpellsGrammar bytes) (sym s) (reached_end bytes x.last x.state r (x.stepped ∙ ap Some h) x.faultless (ap (end_fault (items_of x.last bytes)) (sym x.place) ∙ sym k))

pub fault_behind : (bytes : List ℕ) (t : Tables) (e : Extent) (x : IsTaken bytes t e) → e.state ≡ Ended → (f : Fault) → Some f ≡ end_fault (items_of x.last bytes) e.last → HasFirstFault bytes f
fault_behind bytes t e x h f k =
    let r : Reached bytes x.last x.state = record { run_so = x.reached; sound = x.sound.faultless; no_text = x.sound.open_still } in
    reached_end_fault bytes x.last x.state f r (x.stepped ∙ ap Some h) x.faultless (ap (end_fault (items_of x.last bytes)) (sym x.place) ∙ sym k)

-- the items with those of one more spot
cut_by : (c : Cutting) (x : Spot) (e : Extent) → (ends c.left x.token ≡ true) ⊎ ((item_of (c.left ++ x ∷ []) ≡ []) × (e.state ≡ Ended)) → (with_spot c x).items ≡ c.items ++ item_of (c.left ++ x ∷ [])
cut_by c x e h = go (ends c.left x.token) refl h
  where
    go : (b : Bool) → ends c.left x.token ≡ b → (ends c.left x.token ≡ true) ⊎ ((item_of (c.left ++ x ∷ []) ≡ []) × (e.state ≡ Ended))
        → (cond {A = Cutting} b (record { items = c.items ++ item_of (c.left ++ (x ∷ [])); left = [] }) (record { items = c.items; left = c.left ++ (x ∷ []) })).items ≡ c.items ++ item_of (c.left ++ x ∷ [])
    go true d k = refl
    go false d (inl k) = let z : true ≡ false = sym k ∙ d in absurd (let w : ⊥ = cc in w)
    go false d (inr k) = sym (append-nil c.items) ∙ ap (λ y. c.items ++ y) (sym k.0)

-- what a token that ends an item leaves
closed_by : (c : Cutting) (x : Spot) → ends c.left x.token ≡ true → (with_spot c x).left ≡ []
closed_by c x h = ap (λ b. (cond {A = Cutting} b (record { items = c.items ++ item_of (c.left ++ (x ∷ [])); left = [] }) (record { items = c.items; left = c.left ++ (x ∷ []) })).left) h

module _ (bytes : List ℕ) (old : Tables) (from : Position) (e : Extent) (r : IsReading bytes old from) (x : HasExtent bytes r.n from.left.now e) where
  abbrev spots : List Spot
  spots = first (length bytes) e.count from.left.now

  abbrev sofar : List Item
  sofar = (cutting r.n bytes).items

  items_next : items_of x.last bytes ≡ sofar ++ item_of spots
  items_next =
      ap (λ c. c.items) (cutting-snoc x.last bytes) ∙ cut_by (cutting x.last bytes) (here x.last bytes) e x.ends ∙ ap (λ y. y ++ item_of ((cutting x.last bytes).left ++ here x.last bytes ∷ [])) x.items
      ∙ ap (λ y. sofar ++ item_of y) x.spots

  check_here : check_all (cutting x.last bytes).items (item_of ((cutting x.last bytes).left ++ here x.last bytes ∷ [])) ≡ check_all sofar (item_of spots)
  check_here = ap (λ y. check_all y (item_of ((cutting x.last bytes).left ++ here x.last bytes ∷ []))) x.items ∙ ap (λ y. check_all sofar (item_of y)) x.spots

  none_here : check_all sofar (item_of spots) ≡ None → (f : Fault) → HasFault bytes x.last f → ⊥
  unfolding HasFault
  none_here k f (inl y) = x.well_formed f y
  none_here k f (inr y) = let z : Some f ≡ None = sym y.2 ∙ check_here ∙ k in absurd (let w : ⊥ = cc in w)

  -- the item's fault is the text's first one
  pub item_fault : (f : Fault) → check_all sofar (item_of spots) ≡ Some f → HasFirstFault bytes f
  unfolding HasFault
  item_fault f k = at_token x.last f x.sound (inr (x.well_formed, ended, check_here ∙ k))
    where
      ended : ends (cutting x.last bytes).left (here x.last bytes).token ≡ true
      ended = elim x.ends [
        | inl y ↦ y
        | inr y ↦ let z : None ≡ Some f = sym (ap (check_all (cutting x.last bytes).items) y.0) ∙ check_here ∙ k in absurd (let w : ⊥ = cc in w)
      ]

  -- the item is taken
  pub taken : (new : Tables) → check_all sofar (item_of spots) ≡ None → Means bytes (sofar ++ item_of spots) new → IsTaken bytes new e
  taken new k m = record {
    last = x.last;
    state = x.state;
    reached = x.reached;
    stepped = x.stepped;
    sound = x.sound;
    faultless = none_here k;
    means = subst (λ y. Means bytes y new) (sym items_next) m;
    nothing_left = λ open_still. ap (λ c. c.left) (cutting-snoc x.last bytes) ∙ closed_by (cutting x.last bytes) (here x.last bytes) (elim x.ends [ inl y ↦ y | inr y ↦ absurd (open_still y.1) ]);
    no_rules = λ d. ap rules items_next ∙ both_none sofar (item_of spots) (r.no_rules (x.declared from.state r.stands.reached d)) (ap (λ y. rules (item_of y)) (sym x.spots) ∙ x.no_rule d);
    place = x.place;
    behind = x.behind;
  }
    where
      both_none : (xs ys : List Item) → rules xs ≡ [] → rules ys ≡ [] → rules (xs ++ ys) ≡ []
      both_none xs ys h k = rules-append xs ys ∙ ap (λ y. y ++ rules ys) h ∙ k

  -- no item is taken
  pub taken_none : [] ≡ item_of spots → IsTaken bytes old e
  taken_none k = taken old (ap (check_all sofar) (sym k)) (subst (λ y. Means bytes (sofar ++ y) old) k (subst (λ y. Means bytes y old) (sym (append-nil sofar)) r.means))

  -- what is known of one item
  pub one_item : (item : Item) → item ∷ [] ≡ item_of spots → (check_all sofar (item_of spots) ≡ check sofar item) × HasExternal item × StandsRight sofar item
  one_item item k = (
    ap (check_all sofar) (sym k) ∙ or_none (check sofar item),
    (subst (AllByRecursion HasExternal) (ap item_of x.spots ∙ sym k) x.number).0,
    (subst (AllByRecursion (StandsRight sofar)) (ap item_of x.spots ∙ sym k) (x.order sofar (λ d. r.no_rules (x.declared from.state r.stands.reached d)))).0,
  )
    where
      or_none : (o : Option Fault) → or_fault o None ≡ o
      or_none None = refl
      or_none (Some f) = refl

-- a rule's left name is the item's first token
placed_named : (bytes : List ℕ) (line column : ℕ) (name : Word) (more : List Spot) → line ≡ line_of bytes name.at → column ≡ column_of bytes name.at → AllByRecursion (IsPlaced bytes line column) (named_item name more)
placed_named bytes line column name [] l c = tt
placed_named bytes line column name (y ∷ more) l c = by (is_equals y.token) (by_entry more)
  where
    by_entry : (zs : List Spot) → AllByRecursion (IsPlaced bytes line column) (entry_in name zs)
    by_entry [] = tt
    by_entry (z ∷ zs) = (tt, tt)

    by : (b : Bool) → AllByRecursion (IsPlaced bytes line column) (entry_in name more)
        → AllByRecursion (IsPlaced bytes line column) (cond b (entry_in name more) (RuleItem (record { left = name; pattern = pattern_in more; tail = tail_in more }) ∷ []))
    by true h = h
    by false h = ((l, c), tt)

placed_by : (bytes : List ℕ) (line column : ℕ) (x : Spot) (more : List Spot) → line ≡ line_of bytes x.at → column ≡ column_of bytes x.at → AllByRecursion (IsPlaced bytes line column) (item_of (x ∷ more))
placed_by bytes line column x more l c = by x.token more
  where
    by_start : (zs : List Spot) → AllByRecursion (IsPlaced bytes line column) (start_item zs)
    by_start [] = tt
    by_start (z ∷ zs) = (tt, tt)

    by : (t : Token) (zs : List Spot) → AllByRecursion (IsPlaced bytes line column) (item_of (record { token = t; at = x.at } ∷ zs))
    by (Name n) zs = placed_named bytes line column (word x.at n) zs l c
    by Start zs = by_start zs
    by (Code n) zs = (tt, tt)
    by Percents zs = (tt, tt)
    by _ zs = tt

pub placed : (bytes left : List ℕ) (count line column : ℕ) (item : Item) → item ∷ [] ≡ item_of (first (length bytes) count left)
    → line ≡ line_of bytes (length bytes - length (skip left)) → column ≡ column_of bytes (length bytes - length (skip left)) → IsPlaced bytes line column item
placed bytes left zero line column item k l c = let z : ⊥ = cc in absurd z
placed bytes left (suc count) line column item k l c =
    (subst (AllByRecursion (IsPlaced bytes line column)) (sym k) (placed_by bytes line column (spot (length bytes) left) (first (length bytes) count (behind left)) l c)).0

-- the place in front of an item's first token
pub item_place : (bytes left : List ℕ) (n : ℕ) (p q : Place) → left ≡ after n bytes → IsPlaceBehind (take (length bytes - length left) bytes) p
    → ((before : List ℕ) → IsPlaceBehind before p → IsPlaceBehind (before ++ take (length left - length (skip left)) left) q)
    → IsPlaceBehind (take (length bytes - length (skip left)) bytes) q
item_place bytes left n p q e h k = subst (λ y. IsPlaceBehind y q) (fronts bytes left (skip left) (subst (IsEnd bytes) (sym e) (after_end n bytes)) (skip_end left)) (k (take (length bytes - length left) bytes) h)

-- the place behind an item
pub next_place : (bytes left more : List ℕ) (n m : ℕ) (p q : Place) → left ≡ after n bytes → IsEnd left more → IsPlaceBehind (take (length bytes - length left) bytes) p
    → ((before : List ℕ) → IsPlaceBehind before p → IsPlaceBehind (before ++ take (length left - length more) left) q)
    → IsPlaceBehind (take (length bytes - length more) bytes) q
next_place bytes left more n m p q e d h k = subst (λ y. IsPlaceBehind y q) (fronts bytes left more (subst (IsEnd bytes) (sym e) (after_end n bytes)) d) (k (take (length bytes - length left) bytes) h)

-- a place is no greater than what stands before it
pub line_small : (before : List ℕ) (p : Place) → IsPlaceBehind before p → p.line ≤ 1 + length before
line_small before p h = omega (arith, h.line, count_by-le-length (λ b. eqb b 10) before)

pub column_small : (before : List ℕ) (p : Place) → IsPlaceBehind before p → p.column ≤ 1 + length before
column_small before p h = omega (arith, h.column, suffix_len-le-length (λ b. not (eqb b 10)) before)

pub left_within : (bytes left : List ℕ) (n : ℕ) → left ≡ after n bytes → length left ≤ length bytes
left_within bytes left n e = end_within bytes left (subst (IsEnd bytes) (sym e) (after_end n bytes))

-- the place and what is left fit the numbers
pub place_fits : (bytes left : List ℕ) (n : ℕ) (p : Place) → length bytes < 4294967295 → left ≡ after n bytes → IsPlaceBehind (take (length bytes - length left) bytes) p
    → (p.line + length left < 2 ^ 32) × (p.column + length left < 2 ^ 32)
place_fits bytes left n p short e h =
    let w = left_within bytes left n e in
    let l = line_small (take (length bytes - length left) bytes) p h in
    let c = column_small (take (length bytes - length left) bytes) p h in
    let t = length-take (length bytes - length left) bytes in
    (omega (arith, w, l, t, short), omega (arith, w, c, t, short))

-- nothing is read yet
pub reading_start : (bytes : List ℕ) (t : Tables) (p : Position) → Means bytes [] t → p.state ≡ begin → p.left.now ≡ bytes → p.place ≡ record { line = 1; column = 1 } → IsReading bytes t p
unfolding cutting
reading_start bytes t p m s l q =
    let start = reached_start bytes in
    record {
      n = 0;
      stands = record {
        reached = ap Some (sym s);
        sound = record { faultless = start.sound; open_still = start.no_text };
        nothing_left = refl;
        left_is = l;
      };
      border = ap is_border s;
      open_still = λ e. let z : begin ≡ Ended = sym s ∙ e in cc;
      means = m;
      no_rules = λ _. refl;
      place = subst (λ y. IsPlaceBehind (take (length bytes - length y) bytes) p.place) (sym l)
          (subst (IsPlaceBehind (take (length bytes - length bytes) bytes)) (sym q)
          (subst (λ k. IsPlaceBehind (take k bytes) (record { line = 1; column = 1 })) (let e : 0 ≡ length bytes - length bytes = omega arith in e) (record { line = refl; column = refl })));
    }

-- behind an item that isn't the last
pub reading_next : (bytes : List ℕ) (t : Tables) (e : Extent) (p : Position) → IsTaken bytes t e → is_border e.state ≡ true → (e.state ≡ Ended → ⊥) → p.state ≡ e.state → p.left.now ≡ e.behind.now
    → IsPlaceBehind (take (length bytes - length e.behind.now) bytes) p.place → IsReading bytes t p
reading_next bytes t e p x b o s l q = record {
  n = suc x.last;
  stands = record {
    reached = ran ∙ ap Some (sym s);
    sound = record { faultless = (reached e.state ran).sound; open_still = (reached e.state ran).no_text };
    nothing_left = x.nothing_left o;
    left_is = l ∙ x.behind;
  };
  border = ap is_border s ∙ b;
  open_still = λ z. o (sym s ∙ z);
  means = x.means;
  no_rules = λ d. x.no_rules (ap is_declaring (sym s) ∙ d);
  place = subst (λ y. IsPlaceBehind (take (length bytes - length y) bytes) p.place) (sym l) q;
}
  where
    r : Reached bytes (suc x.last) e.state
    r = reached_next bytes x.last x.state e.state (record { run_so = x.reached; sound = x.sound.faultless; no_text = x.sound.open_still }) x.stepped o x.faultless

    ran : run (tokens (first_spots (suc x.last) bytes)) begin ≡ Some e.state
    ran = r.run_so

    reached : (u : State) → run (tokens (first_spots (suc x.last) bytes)) begin ≡ Some u → Reached bytes (suc x.last) e.state
    reached u h = r

-- what is left behind an item
pub behind_is : (bytes left : List ℕ) (n : ℕ) (t : Tables) (e : Extent) → left ≡ after n bytes → IsTaken bytes t e → length e.behind.now ≤ length left → IsEnd left e.behind.now
behind_is bytes left n t e l x w = within bytes left e.behind.now (subst (IsEnd bytes) (sym l) (after_end n bytes)) (subst (IsEnd bytes) (sym x.behind) (after_end (suc x.last) bytes)) w
