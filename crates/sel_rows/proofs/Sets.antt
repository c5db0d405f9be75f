-- Item sets by their words.
use Rattle.std.proofs.Common.{◌≡◌, ℕ, zero, suc, ◌+◌, ◌<◌, ◌≤◌, List, [], ◌∷◌, ◌++◌, length, take, map, refl, ap, ◌∙◌, arith, Option}
use Rattle.std.specs.Prelude.{slice_index}
use Rattle.sel_items.specs.declared.items.Item.{Item}
use Rattle.sel_items.specs.declared.items.Items.{Items}
use Rattle.sel_items.specs.Entries.{item_at}
use Rattle.sel_items.specs.Unpacking.{unpacked}
use Rattle.sel_law.specs.Words.{items_of}

map_suc : {B : Type 0} (f : ℕ → B) (l : List ℕ) (i : ℕ) → i < length l → map f (take i l) ++ f (slice_index l i) ∷ [] ≡ map f (take (suc i) l)
map_suc f [] i h = absurd (omega arith)
map_suc f (x ∷ l) zero h = refl
map_suc f (x ∷ l) (suc i) h = ap (λ k. f x ∷ k) (map_suc f l i (omega arith))

pub map_next : {B : Type 0} (f : ℕ → B) (l : List ℕ) (i : ℕ) → i < length l → map f (take i l) ++ f (slice_index l i) ∷ [] ≡ map f (take (i + 1) l)
map_next f l i h = let e : suc i ≡ i + 1 = omega arith in map_suc f l i h ∙ ap (λ k. map f (take k l)) e

pub map_all : {B : Type 0} (f : ℕ → B) (l : List ℕ) (n : ℕ) → length l ≤ n → map f (take n l) ≡ map f l
map_all f [] zero h = refl
map_all f [] (suc n) h = refl
map_all f (x ∷ l) zero h = absurd (omega arith)
map_all f (x ∷ l) (suc n) h = ap (λ k. f x ∷ k) (map_all f l n (omega arith))

entries_again : (ws : List ℕ) (es : List (Option Item)) → length ws ≡ length es → ((j : ℕ) → j < length ws → unpacked (slice_index ws j) ≡ item_at es j) → map unpacked ws ≡ es
entries_again [] [] e h = refl
entries_again [] (x ∷ es) e h = absurd (omega arith)
entries_again (w ∷ ws) [] e h = absurd (omega arith)
entries_again (w ∷ ws) (x ∷ es) e h =
    let a : unpacked w ≡ x = h 0 (omega arith) in
    let r = entries_again ws es (omega arith) (λ j lt. h (suc j) (omega arith)) in
    λ k. a k ∷ r k

-- words that say the entries of an item set say the item set
pub items_again : (ws : List ℕ) (i : Items) → length ws ≡ length i.entries → ((j : ℕ) → j < length ws → unpacked (slice_index ws j) ≡ item_at i.entries j) → items_of ws ≡ i
items_again ws i e h = let r = entries_again ws i.entries e h in λ k. record { entries = r k }
