-- A word of an entry says the entry.
use Rattle.std.proofs.Common.{◌≡◌, ℕ, suc, ℤ, pos, ◌+◌, ◌-◌, ◌*◌, ◌<◌, ◌/◌, ◌%◌, ◌^◌, ◌==◌, if◌then◌else◌, ◌≤ℤ◌, Option, Some, None, refl, sym, ap, subst, ◌∙◌, arith}
use Rattle.std.specs.Prelude.{◌+ℤ◌, ◌-ℤ◌}
use Rattle.std.proofs.lemmas.Int.{ints}
use Rattle.std.proofs.Math.Dec.{eqb-suc-zero}
use Rattle.sel_items.specs.declared.items.Item.{Item}
use Rattle.sel_items.specs.Laws.{WordsSayEntries}
use Rattle.sel_items.specs.Unpacking.{unpacked}
use Rattle.sel_items.specs.Words.{IsPackable, IsWordOf}

-- what the three parts of a word say
abbrev said : ℕ → ℕ → ℕ → Option Item
said rule second first = if rule == 0 then None else Some (record { cost = record { first = first; second = pos second -ℤ pos 524288 }; rule = rule - 1 })

part_low : (f s r w : ℕ) → r < 65535 → w ≡ f * 2 ^ 36 + s * 2 ^ 16 + r + 1 → w % 2 ^ 16 ≡ suc r
part_low f s r w h e = omega arith

part_high : (f s r w : ℕ) → r < 65535 → s < 2 ^ 20 → w ≡ f * 2 ^ 36 + s * 2 ^ 16 + r + 1 → w / 2 ^ 36 ≡ f
part_high f s r w h k e = omega arith

part_middle : (f s r w : ℕ) → r < 65535 → s < 2 ^ 20 → w ≡ f * 2 ^ 36 + s * 2 ^ 16 + r + 1 → w / 2 ^ 16 % 2 ^ 20 ≡ s
part_middle f s r w h k e = omega arith

few : (s : ℕ) (y : ℤ) → y ≤ℤ pos 524287 → pos s ≡ y +ℤ pos 524288 → s < 2 ^ 20
few s y h e = omega (arith, ints)

back : (s : ℕ) (y : ℤ) → pos s ≡ y +ℤ pos 524288 → pos s -ℤ pos 524288 ≡ y
back s y e = omega (arith, ints)

less : (r : ℕ) → suc r - 1 ≡ r
less r = omega arith

says_item : (item : Item) (s : ℕ) → pos s ≡ (item.cost).second +ℤ pos 524288 → said (suc item.rule) s (item.cost).first ≡ Some item
says_item item s e =
    ap (λ b. if b then None else Some (record { cost = record { first = (item.cost).first; second = pos s -ℤ pos 524288 }; rule = suc item.rule - 1 })) (eqb-suc-zero item.rule) ∙ parts
  where
    parts : Some (record { cost = record { first = (item.cost).first; second = pos s -ℤ pos 524288 }; rule = suc item.rule - 1 }) ≡ Some item
    parts = λ i. Some (record { cost = record { first = (item.cost).first; second = back s (item.cost).second e i }; rule = less item.rule i })

pub words_say : WordsSayEntries
words_say word None h e = subst (λ w. unpacked w ≡ None) (sym e) refl
words_say word (Some item) h (s, shifted, e) =
    let f = (item.cost).first in
    let r = item.rule in
    let k : s < 2 ^ 20 = few s (item.cost).second (h.0).2 shifted in
    ap (λ x. said x (word / 2 ^ 16 % 2 ^ 20) (word / 2 ^ 36)) (part_low f s r word h.1 e)
    ∙ ap (λ x. said (suc r) x (word / 2 ^ 36)) (part_middle f s r word h.1 k e)
    ∙ ap (λ x. said (suc r) s x) (part_high f s r word h.1 k e)
    ∙ says_item item s shifted
