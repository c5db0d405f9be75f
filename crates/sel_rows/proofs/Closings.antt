-- The words of a closed table by item sets.
use Rattle.std.proofs.Common.{ℕ, List, refl, sym, ap, ◌∙◌}
use Rattle.sel_law.specs.declared.Setting.{Setting}
use Rattle.sel_law.specs.declared.View.{View}
use Rattle.sel_law.specs.Words.{ArePacked, items_of, node_key, content, Published, key_of, ask_of}
use Rattle.sel_law.specs.Law.{Closes, IsTrueOf}
use Rattle.sel_law.proofs.Look.{held_published}
use Rattle.sel_law.proofs.Packed.{items_same, keys_apart}
use Rattle.sel_law.proofs.Row.{number_injective, key_injective, held_whole}
use Rattle.sel_rows.specs.Closed.{row_word, IsClosedTable}
use Rattle.sel_rows.proofs.Contents.{whole_is}
use Rattle.sel_rows.specs.Held.{held_content}
use Rattle.sel_rows.specs.Parts.{Within}

module _ (z : Setting) (ws : List ℕ) (v : View) (cl : Closes z ws v) where
  packed : (n : ℕ) → Published z ws n → ArePacked (content z ws n)
  packed n p = (cl.asked_states n p).1.words

  -- a view that was joined in, with all keys that were asked
  abbrev borrowed : View → View
  borrowed p = record p { asked = v.asked }

  true_within : (p : View) → Within p v → IsTrueOf z ws (borrowed p)
  true_within p w = record {
    places = λ e h. (cl.true_now).places e (w.places e h);
    contents = λ e h. (cl.true_now).contents e (w.contents e h);
    known = λ e h. (cl.true_now).known e (w.known e h);
  }

  pub closed_table : IsClosedTable z ws v
  closed_table = record {
    states = λ n p. (
        let a = cl.asked_states n p in
        ((cl.states.each p.0 n p.1 p.2).below, a.1.fits, (node_key a.0, (a.0, a.2, refl), a.1.follows)));
    places = λ p q n lp lq ep eq. cl.states.differ p q n n lp lq ep eq refl;
    states_differ = λ m n p q e. number_injective z ws cl.states m n p q (items_same (content z ws m) (content z ws n) (packed m p) (packed n q) e);
    rows = λ q lt ne. (
        let t = cl.rows.each q lt ne in
        (t.number, (ask_of z ws (key_of (row_word z ws q)), cl.asked_rows q lt ne, refl), t.made_of.follows));
    kids = λ q lt ne. (cl.rows.each q lt ne).kids;
    rows_differ = λ q r lq lr nq nr e. (
        let t = cl.rows.each q lq nq in
        let u = cl.rows.each r lr nr in
        let same = key_injective z ws cl.states (key_of (row_word z ws q)) (key_of (row_word z ws r)) t.kids u.kids t.lawful_key u.lawful_key (keys_apart z ws packed (key_of (row_word z ws q)) (key_of (row_word z ws r)) t.kids u.kids e) in
        cl.rows.differ q r lq lr nq nr same);
    held = λ p i same w h. (
        let n = h.0.0 in
        let k = h.0.1 in
        let t = true_within p w in
        (n, held_published z ws (borrowed p) same t cl.rows n k.number, k.items ∙ ap items_of (sym (held_whole z ws (borrowed p) same t n (held_content p n) (whole_is p n k.whole)))));
    known = λ p k n w h. (
        let t = (cl.true_now.known (h.0, n) (w.known (h.0, n) h.1.known)).1 in
        (t.0, t.1, t.2, ap node_key t.4 ∙ sym h.2, t.3));
    few = cl.few;
    used_up = cl.used_up;
    row_full = λ h r. (let f = cl.full h r in (f.0, (node_key f.1.0, (f.1.0, f.1.1, refl), f.1.2)));
  }
