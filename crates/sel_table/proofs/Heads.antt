-- First lines of tables.
use Rattle.std.proofs.Common.{◌≡◌, ℕ, ◌≤◌, ◌<◌, ◌⊎◌, inl, inr, List, [], ◌++◌, Option, Some, None, MatchOption, length, replicate, ap, sym, ◌∙◌, arith, decimal, codes}
use Rattle.std.proofs.lemmas.List.{length-replicate}
use Rattle.sel_normal.specs.NormalForms.{NormalForm}
use Rattle.sel_items.specs.declared.items.Items.{Items}
use Rattle.sel_full.specs.Builds.{most_states, most_keys}
use Rattle.sel_full.specs.Tables.{all_keys}
use Rattle.sel_table.specs.declared.entries.Head.{Head}
use Rattle.sel_table.specs.LineReading.{IsReadAs, IsHead, first_line}
use Rattle.sel_table.proofs.Forming.{head_one}

-- some list of so many item sets
abbrev nothing : Items
nothing = record { entries = [] }

keys_same : (normal : NormalForm) (states keys : ℕ) → ((xs : List Items) → length xs ≡ states → length (all_keys normal xs) ≡ keys) → (head : Head) → head.states ≡ states → IsHead normal head → head.keys ≡ keys
keys_same normal states keys count head e is =
    let n = length-replicate states nothing in
    sym (is.keys (replicate states nothing) (n ∙ sym e)) ∙ count (replicate states nothing) n

pub no_head : (normal : NormalForm) (states keys : ℕ) → ((xs : List Items) → length xs ≡ states → length (all_keys normal xs) ≡ keys) → (states ≡ 0) ⊎ (most_keys < keys) → (head : Head) → head.states ≡ states → IsHead normal head → ⊥
no_head normal states keys count (inl none) head e is = let some = is.some in omega (arith, some, none, e)
no_head normal states keys count (inr many) head e is = let few = is.few_keys in omega (arith, few, many, keys_same normal states keys count head e is)

pub is_head : (normal : NormalForm) (states keys : ℕ) → ((xs : List Items) → length xs ≡ states → length (all_keys normal xs) ≡ keys) → (states ≡ 0 → ⊥) → states ≤ most_states → keys ≤ most_keys → IsHead normal (record { states = states; keys = keys })
is_head normal states keys count some few few_keys = record { some = one states some; few = few; keys = count; few_keys = few_keys }
  where
    one : (n : ℕ) → (n ≡ 0 → ⊥) → 1 ≤ n
    one n h = grind arith

pub head_read : (normal : NormalForm) (line digits : List ℕ) (states : ℕ) (o : Option Head) → line ≡ codes "seltable 1 " ++ digits → states ≤ most_states → digits ≡ decimal states
    → MatchOption o ((head : Head) → head.states ≡ states → IsHead normal head → ⊥) (λ head. (head.states ≡ states) × IsHead normal head) → IsReadAs (IsHead normal) first_line line o
head_read normal line digits states None e few f never = λ h is g. let small = is.few in never h (head_one h.states states (omega (arith, small)) (omega (arith, few)) (sym g ∙ (e ∙ ap (λ ds. codes "seltable 1 " ++ ds) f))) is
head_read normal line digits states (Some h) e few f (same, is) = (is, e ∙ (ap (λ ds. codes "seltable 1 " ++ ds) f ∙ ap (λ n. codes "seltable 1 " ++ decimal n) (sym same)))

pub either_head : (states keys : ℕ) → (states ≡ 0) ⊎ ((states ≡ 0 → ⊥) × (most_keys < keys)) → (states ≡ 0) ⊎ (most_keys < keys)
either_head states keys (inl e) = inl e
either_head states keys (inr (some, l)) = inr l
