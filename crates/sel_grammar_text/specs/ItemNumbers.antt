-- What an item's words are: numbers, and a place for a template.
use Rattle.std.specs.Prelude.{◌+◌, ◌^◌, ◌<◌, ◌≤◌, Option, Some, None, if◌then◌else◌, drop, length}
use Rattle.std.specs.Str.Parse.{digits_value, AllDigits}
use Rattle.sel_grammar.specs.Limits.{greatest_external}
use Rattle.sel_grammar_text.specs.Items.{Word, AmountText, CostText, NoCost, Amount, Ranged, TailText, OneLine, Burg, Item, EntryItem, RuleItem}
use Rattle.sel_grammar_text.specs.Checks.{begins_with_minus}
use Rattle.sel_grammar_text.specs.Spots.{Spot}
use Rattle.sel_grammar_text.specs.Tokens.{Token, Integer, width}

-- the word consists of digits
abbrev pub IsNumber : Word → Type 0
IsNumber w = AllDigits 10 w.bytes

abbrev pub IsNumberIfAny : Option Word → Type 0
IsNumberIfAny None = Unit {0}
IsNumberIfAny (Some w) = IsNumber w

abbrev pub HasNumbersInAmount : AmountText → Type 0
HasNumbersInAmount a = IsNumber a.first × IsNumberIfAny a.second

abbrev pub HasNumbersIfAny : Option AmountText → Type 0
HasNumbersIfAny None = Unit {0}
HasNumbersIfAny (Some a) = HasNumbersInAmount a

-- digits, or a minus sign and digits
abbrev pub IsBound : Word → Type 0
IsBound w = AllDigits 10 (if begins_with_minus w.bytes then drop 1 w.bytes else w.bytes)

abbrev pub HasNumbersInCost : CostText → Type 0
HasNumbersInCost NoCost = Unit {0}
HasNumbersInCost (Amount a) = HasNumbersInAmount a
HasNumbersInCost (Ranged at lo hi addend) = IsBound lo × IsBound hi × HasNumbersIfAny addend

-- the word stands in a text that isn't too long
abbrev pub IsWithin : Word → Type 0
IsWithin w = w.at + length w.bytes < 2 ^ 63

abbrev pub HasNumbersInTail : TailText → Type 0
HasNumbersInTail (OneLine w cost) = IsWithin w × HasNumbersInCost cost
HasNumbersInTail (Burg external cost) = IsNumber external × HasNumbersIfAny cost

-- the numbers of an item consist of digits, and it stands in a text that isn't too long
abbrev pub HasNumbers : Item → Type 0
HasNumbers (EntryItem name number) = IsNumber number
HasNumbers (RuleItem r) = HasNumbersInTail r.tail
HasNumbers _ = Unit {0}

-- the number is no greater than that of an operator or a rule may be
abbrev pub IsExternal : Word → Type 0
IsExternal w = digits_value 10 w.bytes ≤ greatest_external

abbrev pub HasExternalInTail : TailText → Type 0
HasExternalInTail (OneLine w cost) = Unit {0}
HasExternalInTail (Burg external cost) = IsExternal external

-- the number that an item gives itself isn't too large
abbrev pub HasExternal : Item → Type 0
HasExternal (EntryItem name number) = IsExternal number
HasExternal (RuleItem r) = HasExternalInTail r.tail
HasExternal _ = Unit {0}

-- an Integer consists of digits
abbrev pub HasDigits : Token → Type 0
HasDigits (Integer digits) = AllDigits 10 digits
HasDigits _ = Unit {0}

-- the token stands in a text that isn't too long, and an Integer consists of digits
pub record IsSpot (s : Spot) : Type 0 where
  pub within : s.at + width s.token < 2 ^ 63
  pub digits : HasDigits s.token
