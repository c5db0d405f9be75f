-- Which grammar is shipped under which name.
use Rattle.std.specs.Prelude.{ℕ, List, Option, Some, None, bytes_eq, codes, if◌then◌else◌}
use Rattle.sel_targets.specs.Rv64i.{rv64i_text}
use Rattle.sel_targets.specs.Aarch64.{aarch64_text}
use Rattle.sel_targets.specs.X8664.{x86_64_text}

-- the text of the grammar with this name, and none for every other name
abbrev pub target_text : List ℕ → Option (List ℕ)
target_text name =
    if bytes_eq name (codes "rv64i") then Some rv64i_text else (if bytes_eq name (codes "aarch64") then Some aarch64_text
    else (if bytes_eq name (codes "x86-64") then Some x86_64_text else None))
