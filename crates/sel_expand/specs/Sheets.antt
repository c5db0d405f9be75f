-- What a text is printed on.
use Rattle.std.specs.Prelude.{◌≡◌, ◌<◌, ◌≤◌, Bool, true, false, ◌++◌, length, map}
use Rattle.sel_grammar.specs.declared.emission.Emitted.TheVariants.{Byte}
use Rattle.sel_grammar.specs.Expansions.{Text, text_bytes}
use Rattle.sel_expand.specs.Expanding.{longest_text}

-- what a sheet shows of a text: the text itself where its temporaries stand apart, and else its bytes
abbrev pub shown : Bool → Text → Text
shown true text = text
shown false text = map Byte (text_bytes text)

-- on a sheet of bytes stands more than a text may have
pub record IsOver (apart : Bool) (out : Text) : Type 0 where
  pub together : apart ≡ false
  pub long : longest_text < length out

-- what stands on the sheet is a front of the target, and more than a text may have
pub record IsCut (apart : Bool) (out target : Text) : Type 0 where
  pub more : Text
  pub front : out ++ more ≡ target
  pub over : IsOver apart out

-- the sheet is full, or it shows the whole target
abbrev pub IsEnded : Bool → Bool → Text → Text → Type 0
IsEnded true apart out target = IsCut apart out target
IsEnded false apart out target = out ≡ target

-- the same, where no more stands on a sheet of bytes than a text may have
abbrev pub IsWhole : Bool → Bool → Text → Text → Type 0
IsWhole true apart out target = IsCut apart out target
IsWhole false apart out target = (out ≡ target) × (apart ≡ false → length out ≤ longest_text)
