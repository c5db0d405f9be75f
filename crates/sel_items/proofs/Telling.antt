-- How what an automaton tells changes over several calls. It is for the crates that call one.
use Rattle.std.proofs.Common.{◌∙◌, refl}
use Rattle.sel_items.specs.declared.label.Label.TheVariants.{Numbered}
use Rattle.sel_items.specs.Automata.{Told, Keeps, Grows, AreTablesSame, BeginsTree, IsRead}

pub keeps_same : (a : Told) → Keeps a a
keeps_same a = record {
  normal = refl;
  numbered = λ n i h. h;
  asked = λ k h. h;
  known = λ k h. h;
  held = λ i h. h;
  used_up = λ h. h;
  row_full = λ h. h;
}

pub keeps_then : (a b c : Told) → Keeps a b → Keeps b c → Keeps a c
keeps_then a b c h k = record {
  normal = k.normal ∙ h.normal;
  numbered = λ n i m. k.numbered n i (h.numbered n i m);
  asked = λ x m. k.asked x (h.asked x m);
  known = λ x m. k.known x (h.known x m);
  held = λ x m. k.held x (h.held x m);
  used_up = λ m. k.used_up (h.used_up m);
  row_full = λ m. k.row_full (h.row_full m);
}

pub tables_then : (a b c : Told) → AreTablesSame a b → AreTablesSame b c → AreTablesSame a c
tables_then a b c h k = record {
  normal = k.normal ∙ h.normal;
  asked = ((λ x m. k.asked.0 x (h.asked.0 x m)), (λ x m. h.asked.1 x (k.asked.1 x m)));
  known = ((λ x m. k.known.0 x (h.known.0 x m)), (λ x m. h.known.1 x (k.known.1 x m)));
  ready = ((λ x m. k.ready.0 x (h.ready.0 x m)), (λ x m. h.ready.1 x (k.ready.1 x m)));
  held = ((λ x m. k.held.0 x (h.held.0 x m)), (λ x m. h.held.1 x (k.held.1 x m)));
  used_up = k.used_up ∙ h.used_up;
  row_full = k.row_full ∙ h.row_full;
}

pub read_then : (a b c : Told) → IsRead a b → IsRead b c → IsRead a c
read_then a b c h k = record {
  tables = tables_then a b c h.tables k.tables;
  means = λ l i m. k.means l i (h.means l i m);
  plain = λ l i p m. h.plain l i p (k.plain l i p m);
  plain_labels = k.plain_labels ∙ h.plain_labels;
}

pub read_keeps : (a b : Told) → IsRead a b → Keeps a b
read_keeps a b h = record {
  normal = h.tables.normal;
  numbered = λ n i m. h.means (Numbered n) i m;
  asked = h.tables.asked.0;
  known = h.tables.known.0;
  held = h.tables.held.0;
  used_up = λ m. h.tables.used_up ∙ m;
  row_full = λ m. h.tables.row_full ∙ m;
}

pub begins_keeps : (a b : Told) → BeginsTree a b → Keeps a b
begins_keeps a b h = record {
  normal = h.tables.normal;
  numbered = h.numbered;
  asked = h.tables.asked.0;
  known = h.tables.known.0;
  held = h.tables.held.0;
  used_up = λ m. h.tables.used_up ∙ m;
  row_full = λ m. h.tables.row_full ∙ m;
}
