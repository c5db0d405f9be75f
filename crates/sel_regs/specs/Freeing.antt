-- Registers that are taken and given back.
use Rattle.std.specs.Prelude.{◌≡◌, ℕ, ◌+◌, ◌<◌, max, nat_le, Bool, true, false, ◌||◌, ◌&&◌, ◌==◌, not}
use Rattle.std.specs.Ordering.{nat_cmp}
use Rattle.std.specs.BTreeSet.{contains}
use Rattle.sel_regs.specs.declared.free.Free.{Free}

-- the register is free
abbrev pub is_free : Free → ℕ → Bool
is_free free r = nat_le free.fresh r || contains nat_cmp free.released r

-- the register was the lowest that is free, and is the only one that no longer is
pub record IsNextTaken (free free' : Free) (r : ℕ) : Type 0 where
  pub was_free : is_free free r ≡ true
  pub lowest : (q : ℕ) → q < r → is_free free q ≡ false
  pub after : (q : ℕ) → is_free free' q ≡ (is_free free q && not (q == r))
  pub fresh : free'.fresh ≡ max free.fresh (r + 1)

-- the register is free, and the others are as they were
pub record IsReleased (free free' : Free) (r : ℕ) : Type 0 where
  pub after : (q : ℕ) → is_free free' q ≡ (is_free free q || (q == r))
  pub fresh : free'.fresh ≡ free.fresh
