-- The names of registers, and which are taken where none are given.
use Rattle.std.specs.Prelude.{◌≡◌, ℕ, ◌≤◌, ◌==◌, Bool, true, not, ◌&&◌, nat_le, List, [], ◌∷◌, length, Option, Some, None, bytes_eq, codes, if◌then◌else◌}
use Rattle.std.specs.List.{list_all, list_any, slice_split}
use Rattle.std.specs.Char.{is_ascii_alphanumeric}
use Rattle.sel_base.specs.Ascii.{comma}

-- the most registers that have names
abbrev pub most_registers : ℕ
most_registers = 64

-- the most bytes of a register's name
abbrev pub longest_register : ℕ
longest_register = 15

-- the parts of a text between its commas
abbrev pub register_names : List ℕ → List (List ℕ)
register_names text = slice_split (λ b. b == comma) text

-- one or more letters and digits, and not too many
abbrev pub is_register : List ℕ → Bool
is_register name = nat_le 1 (length name) && (nat_le (length name) longest_register && list_all is_ascii_alphanumeric name)

-- no name stands twice
abbrev pub are_different : List (List ℕ) → Bool
are_different [] = true
are_different (name ∷ names) = not (list_any (bytes_eq name) names) && are_different names

-- names of registers, not too many, and no two the same
abbrev pub are_registers : List (List ℕ) → Bool
are_registers names = nat_le (length names) most_registers && (list_all is_register names && are_different names)

-- what the option says, which stands at most once: nothing where it isn't given, and else a text of names
abbrev pub given_registers : List (List ℕ) → Option (Option (List ℕ))
given_registers [] = Some None
given_registers (value ∷ []) = if are_registers (register_names value) then Some (Some value) else None
given_registers _ = None

-- the registers of the grammar with this word, where none are given: those of a shipped grammar's machine that a call need not keep
abbrev pub default_registers : List ℕ → List ℕ
default_registers grammar =
    if bytes_eq grammar (codes "@rv64i") then codes "t0,t1,t2,t3,t4,t5,t6" else (
    if bytes_eq grammar (codes "@aarch64") then codes "x9,x10,x11,x12,x13,x14,x15" else (
    if bytes_eq grammar (codes "@x86-64") then codes "r8,r9,r10,r11" else codes "r0,r1,r2,r3,r4,r5,r6,r7"))

-- the registers of a task: from one to the most, each named by letters and digits, and no two the same
pub record AreRegisters (names : List (List ℕ)) : Type 0 where
  pub some : 1 ≤ length names
  pub few : length names ≤ most_registers
  pub named : list_all is_register names ≡ true
  pub different : are_different names ≡ true
