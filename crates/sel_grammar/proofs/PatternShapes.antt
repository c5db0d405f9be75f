-- What is said of a pattern with kids, by its kids.
use Rattle.std.proofs.Common.{◌≡◌, ℕ, ◌+◌, refl}
use Rattle.sel_grammar.specs.Lawful.{names_of, HasOperator, IsPatternOf}
use Rattle.sel_grammar.specs.declared.grammar.Grammar.{Grammar}
use Rattle.sel_grammar.specs.declared.grammar.Pattern.{Pattern, Unary, Binary}
use Rattle.sel_grammar.specs.declared.grammar.Pattern.TheBlock.{shape-the_row-Pattern-0, hidden-the_row-Pattern-0}
use denote.Hole.Carrier.{hidden}

pub names_unary : (op : ℕ) (p : Pattern) → names_of (Unary op p) ≡ 1 + names_of p
unfolding shape-the_row-Pattern-0 hidden-the_row-Pattern-0 hidden
names_unary op p = refl

pub names_binary : (op : ℕ) (p q : Pattern) → names_of (Binary op p q) ≡ 1 + (names_of p + names_of q)
unfolding shape-the_row-Pattern-0 hidden-the_row-Pattern-0 hidden
names_binary op p q = refl

pub is_unary : (g : Grammar) (op : ℕ) (p : Pattern) → HasOperator g op 1 → IsPatternOf g p → IsPatternOf g (Unary op p)
unfolding shape-the_row-Pattern-0 hidden-the_row-Pattern-0 hidden
is_unary g op p h k = (h, k)

pub is_binary : (g : Grammar) (op : ℕ) (p q : Pattern) → HasOperator g op 2 → IsPatternOf g p → IsPatternOf g q → IsPatternOf g (Binary op p q)
unfolding shape-the_row-Pattern-0 hidden-the_row-Pattern-0 hidden
is_binary g op p q h k l = (h, (k, l))
