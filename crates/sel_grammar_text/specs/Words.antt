-- What the code's items stand for.
use Rattle.std.specs.Prelude.{ℕ, Option, Some, None, List, [], ◌∷◌, map, option_map}
use Rattle.sel_grammar_text.specs.Items as items
use Rattle.sel_grammar_text.specs.Items.{word}
use Rattle.sel_grammar_text.specs.Spots as spots
use Rattle.sel_grammar_text.specs.Pieces.{view}
use Rattle.sel_grammar_text.specs.declared.words.Spot.{Spot}
use Rattle.sel_grammar_text.specs.declared.words.TextWord.{TextWord}
use Rattle.sel_grammar_text.specs.declared.words.WrittenAmount.{WrittenAmount}
use Rattle.sel_grammar_text.specs.declared.words.WrittenCost.{WrittenCost}
use Rattle.sel_grammar_text.specs.declared.words.WrittenCost.TheVariants.{Absent, Amount, Ranged}
use Rattle.sel_grammar_text.specs.declared.words.Tail.{Tail}
use Rattle.sel_grammar_text.specs.declared.words.Tail.TheVariants.{OneLine, Burg}
use Rattle.sel_grammar_text.specs.declared.words.Named.{Named}
use Rattle.sel_grammar_text.specs.declared.words.RuleItem.{RuleItem}
use Rattle.sel_grammar_text.specs.declared.words.Item.{Item}
use Rattle.sel_grammar_text.specs.declared.words.Item.TheVariants.{Start, Entry, Code, Percents, Rule}

abbrev pub view_spot : Spot → spots.Spot
view_spot s = record { token = view s.piece; at = s.at }

abbrev pub view_word : TextWord → items.Word
view_word w = word w.at w.bytes.now

abbrev pub view_amount : WrittenAmount → items.AmountText
view_amount a = record { first = view_word a.first; second = option_map view_word a.second }

abbrev pub view_cost : WrittenCost → items.CostText
view_cost Absent = items.NoCost
view_cost (Amount a) = items.Amount (view_amount a)
view_cost (Ranged at lo hi addend) = items.Ranged at (view_word lo) (view_word hi) (option_map view_amount addend)

abbrev pub view_tail : Tail → items.TailText
view_tail (OneLine w cost) = items.OneLine (view_word w) (view_cost cost)
view_tail (Burg external cost) = items.Burg (view_word external) (option_map view_amount cost)

abbrev pub view_named : Named → items.Word × ℕ
view_named n = (view_word n.word, n.kids)

abbrev pub view_rule : RuleItem → items.RuleText
view_rule r = record { left = view_word r.left; pattern = map view_named r.pattern.items; tail = view_tail r.tail }

abbrev pub view_item : Item → items.Item
view_item (Start w) = items.StartItem (view_word w)
view_item (Entry name number) = items.EntryItem (view_word name) (view_word number)
view_item Code = items.CodeItem
view_item (Percents at) = items.PercentsItem at
view_item (Rule r) = items.RuleItem (view_rule r)

-- one item or none
abbrev pub view_items : Option Item → List items.Item
view_items None = []
view_items (Some i) = view_item i ∷ []
