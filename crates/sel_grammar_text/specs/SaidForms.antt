-- What a rule says of its form: the names, the numbers of kids and the tail that its tokens have.
use Rattle.std.specs.Prelude.{◌≡◌, ℕ, ◌+◌, List, [], ◌∷◌, ◌++◌, length, map, Some, None}
use Rattle.sel_grammar_text.specs.Form.{Patterns, no_patterns, pattern, AmountForm, OneNumber, TwoNumbers, TailForm, OneLineForm, BurgForm, RuleForm}
use Rattle.sel_grammar_text.specs.Items.{Word, AmountText, TailText, OneLine, Burg, RuleText, Item, RuleItem}
use Rattle.sel_grammar_text.specs.CostText.{cost_in}
use Rattle.sel_grammar_text.specs.Spots.{Spot}
use Rattle.sel_grammar_text.specs.Cutting.{or_no_cost, cut_on}

-- the names of a pattern without their places
abbrev pub plain_names : List (Word × ℕ) → List (List ℕ × ℕ)
plain_names names = map (λ w. (w.0.bytes, w.1)) names

-- how many patterns stand side by side
abbrev pub kid_count : Patterns → ℕ
kid_count no_patterns = 0
kid_count (pattern n kids more) = 1 + kid_count more

-- the names of patterns in preorder, each with how many kids it has
abbrev pub preorder : Patterns → List (List ℕ × ℕ)
preorder no_patterns = []
preorder (pattern n kids more) = (n, kid_count kids) ∷ (preorder kids ++ preorder more)

-- the amount is the one number, or both
abbrev pub SaysAmount : AmountForm → AmountText → Type 0
SaysAmount (OneNumber c) a = (a.first.bytes ≡ c) × (a.second ≡ None)
SaysAmount (TwoNumbers c d) a = (a.first.bytes ≡ c) × ((second : Word) × ((a.second ≡ Some second) × (second.bytes ≡ d)))

-- the tail is the template and the cost behind its closing quote, or the external number and the amount
abbrev pub SaysTail : TailForm → TailText → Type 0
SaysTail (OneLineForm inside behind) (OneLine w cost) = (w.bytes ≡ inside) × (cost ≡ or_no_cost (cost_in (w.at + length inside + 1) behind))
SaysTail (BurgForm external None) (Burg w cost) = (w.bytes ≡ external) × (cost ≡ None)
SaysTail (BurgForm external (Some c)) (Burg w cost) = (w.bytes ≡ external) × ((amount : AmountText) × ((cost ≡ Some amount) × SaysAmount c amount))
SaysTail _ _ = ⊥

-- the rule has the form's left name, the names of its pattern in preorder, each with how many kids it has, and its tail
pub record SaysRule (form : RuleForm) (rule : RuleText) : Type 0 where
  pub left : rule.left.bytes ≡ form.left
  pub pattern : plain_names rule.pattern ≡ (form.root, kid_count form.kids) ∷ preorder form.kids
  pub tail : SaysTail form.tail rule.tail

-- each rule says its form, in their order
abbrev pub SayRules : List RuleForm → List RuleText → Type 0
SayRules [] [] = Unit {0}
SayRules (form ∷ forms) (rule ∷ rules) = SaysRule form rule × SayRules forms rules
SayRules _ _ = ⊥

-- behind some items, where no token is left, the spots are one more item, a rule that says the form
pub record AreRule (items : List Item) (form : RuleForm) (spots : List Spot) : Type 0 where
  pub rule : RuleText
  pub cut : cut_on (record { items = items; left = [] }) spots ≡ record { items = items ++ (RuleItem rule ∷ []); left = [] }
  pub says : SaysRule form rule
