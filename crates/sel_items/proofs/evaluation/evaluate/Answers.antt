-- The operator rules' least candidates, closed, and less the least cost.
use Rattle.std.proofs.Common.{None, sym, ◌∙◌, subst, ap}
use Rattle.std.specs.Prelude.{replicate}
use Rattle.std.specs.Option.{option_copied}
use Rattle.sel_items.specs.Follows.{key_of}
use Rattle.sel_items.specs.KidSets.{kid_sets}
use Rattle.sel_items.specs.Evaluating.{IsStartTo}
use Rattle.sel_items.proofs.Starts.{empty_start, IsAbsolute-closed}
use Rattle.sel_items.proofs.Widths.{IsBelow-50}
use Rattle.sel_items.proofs.evaluation.evaluate.Goals as goal

pub relative-least-requires : goal.relative-least-requires
relative-least-requires g c = λ n item h. IsBelow-50 item.cost (c.close_chains.ensures.low n item h)

pub returns-clause-follows : goal.returns-clause-follows
returns-clause-follows g c = record {
  absolute = c.close_chains.new.items.entries;
  least = c.relative-least.result;
  is_absolute = IsAbsolute-closed c.args.normal.now (key_of c.args.operator c.args.class (kid_sets (option_copied c.args.first) (option_copied c.args.second))) c.offer_operators.new.row c.close_chains.new.items.entries c.offer_operators.ensures.start c.close_chains.ensures.closed;
  reduced = c.relative-least.ensures;
}

pub offer_operators-requires-clause-first : goal.offer_operators-requires-clause-first
offer_operators-requires-clause-first g c = λ i h. (c.requires.first i h).small

pub offer_operators-requires-clause-second : goal.offer_operators-requires-clause-second
offer_operators-requires-clause-second g c = λ i h. (c.requires.second i h).small

pub offer_operators-requires-clause-empty : goal.offer_operators-requires-clause-empty
offer_operators-requires-clause-empty g c = subst (λ row. IsStartTo c.args.normal.now (key_of c.args.operator c.args.class (kid_sets (option_copied c.args.first) (option_copied c.args.second))) 0 row) (sym (c.in_ok-row.ensures ∙ ap (λ n. replicate n None) c.nonterminals.ensures.is)) (empty_start c.args.normal.now (key_of c.args.operator c.args.class (kid_sets (option_copied c.args.first) (option_copied c.args.second))))
