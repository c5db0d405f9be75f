-- The items of a grammar's text, as they stand.
use Rattle.std.specs.Prelude.{ℕ, List, Option}

-- a word of the text and where it begins, from 0
pub record Word : Type 0 where
  pub bytes : List ℕ
  pub at : ℕ

abbrev pub word : ℕ → List ℕ → Word
word at bytes = record { bytes = bytes; at = at }

-- an amount: a number, and a second one where two stand in parentheses
pub record AmountText : Type 0 where
  pub first : Word
  pub second : Option Word

-- The cost of a one-line rule: none, an amount, or a range, with the place of the word `range`, the bounds with their
-- signs, and the addend.
pub data CostText : Type 0 where
  NoCost : CostText
  Amount : AmountText → CostText
  Ranged : ℕ → Word → Word → Option AmountText → CostText

-- A rule's tail: the template's bytes from behind the quote on, with the cost, or the external number and the cost.
pub data TailText : Type 0 where
  OneLine : Word → CostText → TailText
  Burg : Word → Option AmountText → TailText

-- A rule as it stands. The names of its pattern are in preorder, each with how many kids it has.
pub record RuleText : Type 0 where
  pub left : Word
  pub pattern : List (Word × ℕ)
  pub tail : TailText

-- an item: the name behind `%start`, an entry of `%term`, C text, `%%` at a place, or a rule
pub data Item : Type 0 where
  StartItem : Word → Item
  EntryItem : Word → Word → Item
  CodeItem : Item
  PercentsItem : ℕ → Item
  RuleItem : RuleText → Item
