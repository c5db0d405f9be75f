use Rattle.std.proofs.Common.{refl}
use Rattle.sel_table.proofs.Heads.{no_head, is_head, either_head}
use Rattle.sel_table.proofs.entries.head_over.Goals as goal

pub returns-then-keys-gt-MOST_KEYS : goal.returns-then-keys-gt-MOST_KEYS
returns-then-keys-gt-MOST_KEYS c = no_head c.args.normal.now c.args.states c.key_count-keys.result c.key_count-keys.ensures (either_head c.args.states c.key_count-keys.result c.if-keys-gt-MOST_KEYS.either)

pub returns-else-keys-gt-MOST_KEYS : goal.returns-else-keys-gt-MOST_KEYS
returns-else-keys-gt-MOST_KEYS c = (refl, is_head c.args.normal.now c.args.states c.key_count-keys.result c.key_count-keys.ensures c.if-keys-gt-MOST_KEYS.false.0 c.requires.few c.if-keys-gt-MOST_KEYS.false.1)
