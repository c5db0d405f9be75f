-- Each turn looks at one entry.
use Rattle.std.proofs.Common.{◌≡◌, ◌<◌, ◌≤◌, ◌+◌, ℕ, ◌⊎◌, inl, inr, length, Some, ap, sym, ◌∙◌, subst, arith, IsTrue, refl}
use Rattle.sel_items.specs.declared.items.Item.{Item}
use Rattle.sel_items.specs.Entries.{ItemRow, item_at}
use Rattle.sel_items.specs.Words.{FitsWord}
use Rattle.sel_items.proofs.Rows.{below_or_at, below_or_not, no_entry}
use Rattle.sel_normal.proofs.Steps.{some_none}
use Rattle.sel_items.proofs.fitting.fits.Goals as goal

more : (row : ItemRow) (n : ℕ) → ((k : ℕ) (item : Item) → k < n → item_at row k ≡ Some item → FitsWord item.cost) → ((item : Item) → item_at row n ≡ Some item → FitsWord item.cost)
    → (k : ℕ) (item : Item) → k < n + 1 → item_at row k ≡ Some item → FitsWord item.cost
more row n below here k item l e = go (below_or_at k n l)
  where
    go : (k < n) ⊎ (n ≡ k) → FitsWord item.cost
    go (inl b) = below k item b e
    go (inr q) = here item (ap (item_at row) q ∙ e)

all : (row : ItemRow) (n : ℕ) → n ≡ length row → ((k : ℕ) (item : Item) → k < n → item_at row k ≡ Some item → FitsWord item.cost) → (k : ℕ) (item : Item) → item_at row k ≡ Some item → FitsWord item.cost
all row n long below k item e = go (below_or_not k (length row))
  where
    go : (k < length row) ⊎ (length row ≤ k) → FitsWord item.cost
    go (inl b) = below k item (omega arith) e
    go (inr b) = absurd (some_none (sym e ∙ no_entry row k b))

pub returns-then-not-fits_entry : goal.returns-then-not-fits_entry
returns-then-not-fits_entry c =
    let is : c.entry_of-entry.result ≡ item_at c.args.items.now.entries c.loop-n.n = c.entry_of-entry.ensures ∙ ap (λ xs. item_at xs c.loop-n.n) c.as_slice.ensures in
    (λ h. cc, λ w. subst IsTrue c.if-not-fits_entry.true (c.fits_entry.ensures.1 (λ item e. w c.loop-n.n item (sym is ∙ e))))

pub loop-n-preserved : goal.loop-n-preserved
loop-n-preserved c =
    let is : c.entry_of-entry.result ≡ item_at c.args.items.now.entries c.loop-n.n = c.entry_of-entry.ensures ∙ ap (λ xs. item_at xs c.loop-n.n) c.as_slice.ensures in
    let yes : IsTrue c.fits_entry.result = c.if-not-fits_entry.false in
    more c.args.items.now.entries c.loop-n.n c.loop-n.invariant (λ item e. c.fits_entry.ensures.0 yes item (is ∙ e))

pub returns : goal.returns
returns c =
    let long : c.loop-n.n ≡ length c.args.items.now.entries = let a = c.len-count.ensures in let b = c.loop-n.auto.n-end in let d = c.loop-n-test.false in omega arith in
    (λ h. all c.args.items.now.entries c.loop-n.n long c.loop-n.invariant, λ h. refl)
