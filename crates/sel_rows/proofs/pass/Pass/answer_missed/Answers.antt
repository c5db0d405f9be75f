use Rattle.std.proofs.Common.{◌≡◌, ◌⊎◌, ℕ, true, false, Some, None, sym, ap, ◌∙◌, subst, inl, inr, ⊎_elim, arith}
use Rattle.sel_normal.specs.NormalForms.{NormalForm}
use Rattle.sel_normal.specs.Standing.{IsStanding}
use Rattle.sel_items.specs.declared.label.Label.TheVariants.{Numbered}
use Rattle.sel_items.specs.Follows.{NodeKey, key_of, Follows}
use Rattle.sel_items.specs.Automata.{IsLabelled}
use Rattle.sel_law.specs.declared.Setting.{Setting}
use Rattle.sel_law.specs.Words.{In, IsMadeOf, ArePacked, items_of, node_key}
use Rattle.sel_law.specs.Kinds.{HasContent}
use Rattle.sel_rows.proofs.KnownKeys.{made_fits, only_made, has_grown}
use Rattle.sel_rows.specs.Grown.{Grown}
use Rattle.sel_rows.specs.FoundRow.{HoldsKey}
use Rattle.sel_rows.specs.Meanings.{told_by}
use Rattle.sel_rows.proofs.Growth.{grown_then, key_grown}
use Rattle.sel_rows.proofs.Labelled.{if_ok_of, labelled_added, labelled_key, labelled_content, made_by}
use Rattle.sel_rows.proofs.Steps.{seen_grown, holds_content_grown, missed_before}
use Rattle.sel_rows.specs.FoundState.{IsMissed}
use Rattle.sel_rows.proofs.pass.Pass.answer_missed.Goals as goal

true_false : true ≡ false → ⊥
true_false e = cc

pub returns-then-not-fits-clause-labelled : goal.returns-then-not-fits-clause-labelled
returns-then-not-fits-clause-labelled g c =
    let s = c.args.self.now in
    let s1 = c.evaluate_kids.new.self in
    let asks = g.J.Doing.asks in
    let ask = g.J.Doing.ask in
    let u = s.hand.seat.me.0 in
    let v1 = s1.hand.seat.me.0 in
    let k = c.requires.node in
    let a = c.args.kids.0 in
    let b = c.args.kids.1 in
    let op = c.args.operator in
    let class = c.args.class in
    let items = c.in_ok-items.items in
    let ks = c.requires.may.kids in
    let normal = s.normal.now in
    let same_normal : s1.normal.now ≡ normal = ap (λ r. r.now) c.evaluate_kids.ensures.kept.1 in
    let follows = c.in_ok-items.ensures.follows ks.0 ks.1 in
    let node = k.node ks.0 ks.1 in
    let new = c.add_plain.new.self in
    if_ok_of c.add_plain.result _ _ (λ l h is kd.
    labelled_added s1.plain.items new.plain.items items c.add_plain.result normal new.hand.seat.me.0 new.used_up new.row_full op class a b is
    (c.in_ok-items.ensures.follows is kd)
    (λ num. inr (λ f. true_false (sym (c.fits.ensures.1 f) ∙ c.if-not-fits.true))) l h)
    c.add_plain.ensures.ok

pub words_of-requires : goal.words_of-requires
words_of-requires g c =
    let s = c.args.self.now in
    let s1 = c.evaluate_kids.new.self in
    let asks = g.J.Doing.asks in
    let ask = g.J.Doing.ask in
    let u = s.hand.seat.me.0 in
    let v1 = s1.hand.seat.me.0 in
    let k = c.requires.node in
    let a = c.args.kids.0 in
    let b = c.args.kids.1 in
    let op = c.args.operator in
    let class = c.args.class in
    let items = c.in_ok-items.items in
    let ks = c.requires.may.kids in
    let normal = s.normal.now in
    let same_normal : s1.normal.now ≡ normal = ap (λ r. r.now) c.evaluate_kids.ensures.kept.1 in
    let follows = c.in_ok-items.ensures.follows ks.0 ks.1 in
    let node = k.node ks.0 ks.1 in
    let standing = subst IsStanding same_normal c.is_standing.ensures in
    record { packable = λ n. c.entries_have_rules.ensures.words normal (key_of op class ks.0) items n standing follows (c.fits.ensures.0 c.if-not-fits.false) }

pub intern-requires-clause-asked : goal.intern-requires-clause-asked
intern-requires-clause-asked g c =
    let s = c.args.self.now in
    let s1 = c.evaluate_kids.new.self in
    let asks = g.J.Doing.asks in
    let ask = g.J.Doing.ask in
    let u = s.hand.seat.me.0 in
    let v1 = s1.hand.seat.me.0 in
    let k = c.requires.node in
    let a = c.args.kids.0 in
    let b = c.args.kids.1 in
    let op = c.args.operator in
    let class = c.args.class in
    let items = c.in_ok-items.items in
    let ks = c.requires.may.kids in
    let normal = s.normal.now in
    let same_normal : s1.normal.now ≡ normal = ap (λ r. r.now) c.evaluate_kids.ensures.kept.1 in
    let follows = c.in_ok-items.ensures.follows ks.0 ks.1 in
    let node = k.node ks.0 ks.1 in
    let key1 = s1.hand.rows.now.table.shared.key in
    let form : key1.normal.value ≡ normal = s1.normal_is ∙ same_normal in
    let width : key1.width ≡ normal.nonterminals = sym s1.hand.rows.now.width_is ∙ (s1.hand.rows.now.width_normal ∙ ap (λ (n : NormalForm). n.nonterminals) form) in
    let made0 : IsMadeOf key1 ask c.in_ok-words.words.items = made_by key1 normal ask (key_of op class ks.0) items c.in_ok-words.words.items width form node follows (c.fits.ensures.0 c.if-not-fits.false) c.in_ok-words.ensures.again c.in_ok-words.ensures.words in
    let made : IsMadeOf key1 ask c.as_slice.result.now = subst (IsMadeOf key1 ask) (sym c.as_slice.ensures.value) made0 in
    (c.requires.doing.1, made)

pub intern-requires-clause-long : goal.intern-requires-clause-long
intern-requires-clause-long g c =
    let s = c.args.self.now in
    let s1 = c.evaluate_kids.new.self in
    let asks = g.J.Doing.asks in
    let ask = g.J.Doing.ask in
    let u = s.hand.seat.me.0 in
    let v1 = s1.hand.seat.me.0 in
    let k = c.requires.node in
    let a = c.args.kids.0 in
    let b = c.args.kids.1 in
    let op = c.args.operator in
    let class = c.args.class in
    let items = c.in_ok-items.items in
    let ks = c.requires.may.kids in
    let normal = s.normal.now in
    let same_normal : s1.normal.now ≡ normal = ap (λ r. r.now) c.evaluate_kids.ensures.kept.1 in
    let follows = c.in_ok-items.ensures.follows ks.0 ks.1 in
    let node = k.node ks.0 ks.1 in
    let key1 = s1.hand.rows.now.table.shared.key in
    let form : key1.normal.value ≡ normal = s1.normal_is ∙ same_normal in
    let width : key1.width ≡ normal.nonterminals = sym s1.hand.rows.now.width_is ∙ (s1.hand.rows.now.width_normal ∙ ap (λ (n : NormalForm). n.nonterminals) form) in
    let made0 : IsMadeOf key1 ask c.in_ok-words.words.items = made_by key1 normal ask (key_of op class ks.0) items c.in_ok-words.words.items width form node follows (c.fits.ensures.0 c.if-not-fits.false) c.in_ok-words.ensures.again c.in_ok-words.ensures.words in
    let made : IsMadeOf key1 ask c.as_slice.result.now = subst (IsMadeOf key1 ask) (sym c.as_slice.ensures.value) made0 in
    made.long ∙ sym s1.hand.rows.now.width_is

pub publish_key-known-requires-clause-key : goal.publish_key-known-requires-clause-key
publish_key-known-requires-clause-key g c =
    let s = c.args.self.now in
    let s1 = c.evaluate_kids.new.self in
    let asks = g.J.Doing.asks in
    let ask = g.J.Doing.ask in
    let u = s.hand.seat.me.0 in
    let v1 = s1.hand.seat.me.0 in
    let k = c.requires.node in
    let a = c.args.kids.0 in
    let b = c.args.kids.1 in
    let op = c.args.operator in
    let class = c.args.class in
    let items = c.in_ok-items.items in
    let ks = c.requires.may.kids in
    let normal = s.normal.now in
    let same_normal : s1.normal.now ≡ normal = ap (λ r. r.now) c.evaluate_kids.ensures.kept.1 in
    let follows = c.in_ok-items.ensures.follows ks.0 ks.1 in
    let node = k.node ks.0 ks.1 in
    let s2 = c.intern.new.self in
    let v2 = s2.hand.seat.me.0 in
    let grown2 = grown_then asks u v1 v2 c.evaluate_kids.ensures.grown c.intern.ensures.grown in
    (c.requires.doing.0, (k.lawful).0, (k.lawful).1, key_grown asks u v2 grown2 c.args.key ask k.held, c.requires.doing.1)

pub publish_key-known-requires-clause-walked : goal.publish_key-known-requires-clause-walked
publish_key-known-requires-clause-walked g c =
    let s = c.args.self.now in
    let s1 = c.evaluate_kids.new.self in
    let asks = g.J.Doing.asks in
    let ask = g.J.Doing.ask in
    let u = s.hand.seat.me.0 in
    let v1 = s1.hand.seat.me.0 in
    let k = c.requires.node in
    let a = c.args.kids.0 in
    let b = c.args.kids.1 in
    let op = c.args.operator in
    let class = c.args.class in
    let items = c.in_ok-items.items in
    let ks = c.requires.may.kids in
    let normal = s.normal.now in
    let same_normal : s1.normal.now ≡ normal = ap (λ r. r.now) c.evaluate_kids.ensures.kept.1 in
    let follows = c.in_ok-items.ensures.follows ks.0 ks.1 in
    let node = k.node ks.0 ks.1 in
    let s2 = c.intern.new.self in
    let v2 = s2.hand.seat.me.0 in
    let grown2 = grown_then asks u v1 v2 c.evaluate_kids.ensures.grown c.intern.ensures.grown in
    let full : s2.row_full ≡ s.row_full = c.intern.ensures.lists.1 ∙ c.evaluate_kids.ensures.lists.1 in
    seen_grown asks u v2 grown2 c.args.key ask s.row_full s2.row_full (λ h. full ∙ h) c.args.seen c.requires.missed c.requires.walked

pub publish_key-known-requires-clause-number : goal.publish_key-known-requires-clause-number
publish_key-known-requires-clause-number g c =
    let s = c.args.self.now in
    let s1 = c.evaluate_kids.new.self in
    let asks = g.J.Doing.asks in
    let ask = g.J.Doing.ask in
    let u = s.hand.seat.me.0 in
    let v1 = s1.hand.seat.me.0 in
    let k = c.requires.node in
    let a = c.args.kids.0 in
    let b = c.args.kids.1 in
    let op = c.args.operator in
    let class = c.args.class in
    let items = c.in_ok-items.items in
    let ks = c.requires.may.kids in
    let normal = s.normal.now in
    let same_normal : s1.normal.now ≡ normal = ap (λ r. r.now) c.evaluate_kids.ensures.kept.1 in
    let follows = c.in_ok-items.ensures.follows ks.0 ks.1 in
    let node = k.node ks.0 ks.1 in
    let key1 = s1.hand.rows.now.table.shared.key in
    let form : key1.normal.value ≡ normal = s1.normal_is ∙ same_normal in
    let width : key1.width ≡ normal.nonterminals = sym s1.hand.rows.now.width_is ∙ (s1.hand.rows.now.width_normal ∙ ap (λ (n : NormalForm). n.nonterminals) form) in
    let made0 : IsMadeOf key1 ask c.in_ok-words.words.items = made_by key1 normal ask (key_of op class ks.0) items c.in_ok-words.words.items width form node follows (c.fits.ensures.0 c.if-not-fits.false) c.in_ok-words.ensures.again c.in_ok-words.ensures.words in
    let made : IsMadeOf key1 ask c.as_slice.result.now = subst (IsMadeOf key1 ask) (sym c.as_slice.ensures.value) made0 in
    let s2 = c.intern.new.self in
    let v2 = s2.hand.seat.me.0 in
    let grown2 = grown_then asks u v1 v2 c.evaluate_kids.ensures.grown c.intern.ensures.grown in
    let h = c.in-Some.ensures.number.0 in
    let states : s2.hand.rows.now.states ≡ v2.setting.states = s2.hand.rows.now.states_is ∙ ap (λ (y : Setting). y.states) (sym s2.hand.setting) in
    let below = h.below in
    let key2 : key1 ≡ s2.hand.rows.now.table.shared.key = sym (ap (λ r. r.now.table.shared.key) c.intern.ensures.kept.0) in
    (omega arith, h.number, (c.as_slice.result.now, h.whole, subst (λ (y : Setting). IsMadeOf y ask c.as_slice.result.now) key2 made))

pub returns-in-None-clause-grown : goal.returns-in-None-clause-grown
returns-in-None-clause-grown g c =
    let s = c.args.self.now in
    let s1 = c.evaluate_kids.new.self in
    let asks = g.J.Doing.asks in
    let ask = g.J.Doing.ask in
    let u = s.hand.seat.me.0 in
    let v1 = s1.hand.seat.me.0 in
    let k = c.requires.node in
    let a = c.args.kids.0 in
    let b = c.args.kids.1 in
    let op = c.args.operator in
    let class = c.args.class in
    let items = c.in_ok-items.items in
    let ks = c.requires.may.kids in
    let normal = s.normal.now in
    let same_normal : s1.normal.now ≡ normal = ap (λ r. r.now) c.evaluate_kids.ensures.kept.1 in
    let follows = c.in_ok-items.ensures.follows ks.0 ks.1 in
    let node = k.node ks.0 ks.1 in
    let s2 = c.intern.new.self in
    let v2 = s2.hand.seat.me.0 in
    let grown2 = grown_then asks u v1 v2 c.evaluate_kids.ensures.grown c.intern.ensures.grown in
    subst (λ h. Grown asks u h.seat.me.0) (sym c.add_plain-in-None.ensures.kept.0) grown2

pub returns-in-None-clause-labelled : goal.returns-in-None-clause-labelled
returns-in-None-clause-labelled g c =
    let s = c.args.self.now in
    let s1 = c.evaluate_kids.new.self in
    let asks = g.J.Doing.asks in
    let ask = g.J.Doing.ask in
    let u = s.hand.seat.me.0 in
    let v1 = s1.hand.seat.me.0 in
    let k = c.requires.node in
    let a = c.args.kids.0 in
    let b = c.args.kids.1 in
    let op = c.args.operator in
    let class = c.args.class in
    let items = c.in_ok-items.items in
    let ks = c.requires.may.kids in
    let normal = s.normal.now in
    let same_normal : s1.normal.now ≡ normal = ap (λ r. r.now) c.evaluate_kids.ensures.kept.1 in
    let follows = c.in_ok-items.ensures.follows ks.0 ks.1 in
    let node = k.node ks.0 ks.1 in
    let s2 = c.intern.new.self in
    let v2 = s2.hand.seat.me.0 in
    let grown2 = grown_then asks u v1 v2 c.evaluate_kids.ensures.grown c.intern.ensures.grown in
    let new = c.add_plain-in-None.new.self in
    if_ok_of c.add_plain-in-None.result _ _ (λ l h is kd.
    labelled_added s2.plain.items new.plain.items items c.add_plain-in-None.result normal new.hand.seat.me.0 new.used_up new.row_full op class a b is
    (c.in_ok-items.ensures.follows is kd)
    (λ num. inl (c.add_plain-in-None.ensures.kept.3 ∙ c.in-None.ensures.number.0)) l h)
    c.add_plain-in-None.ensures.ok

pub returns-in-Some-clause-grown : goal.returns-in-Some-clause-grown
returns-in-Some-clause-grown g c =
    let s = c.args.self.now in
    let s1 = c.evaluate_kids.new.self in
    let asks = g.J.Doing.asks in
    let ask = g.J.Doing.ask in
    let u = s.hand.seat.me.0 in
    let v1 = s1.hand.seat.me.0 in
    let k = c.requires.node in
    let a = c.args.kids.0 in
    let b = c.args.kids.1 in
    let op = c.args.operator in
    let class = c.args.class in
    let items = c.in_ok-items.items in
    let ks = c.requires.may.kids in
    let normal = s.normal.now in
    let same_normal : s1.normal.now ≡ normal = ap (λ r. r.now) c.evaluate_kids.ensures.kept.1 in
    let follows = c.in_ok-items.ensures.follows ks.0 ks.1 in
    let node = k.node ks.0 ks.1 in
    let s2 = c.intern.new.self in
    let v2 = s2.hand.seat.me.0 in
    let grown2 = grown_then asks u v1 v2 c.evaluate_kids.ensures.grown c.intern.ensures.grown in
    let s3 = c.publish_key-known.new.self in
    let v3 = s3.hand.seat.me.0 in
    let grown3 = c.publish_key-known.ensures.grown in
    grown_then asks u v2 v3 grown2 grown3

pub returns-in-Some-clause-labelled : goal.returns-in-Some-clause-labelled
returns-in-Some-clause-labelled g c =
    let s = c.args.self.now in
    let s1 = c.evaluate_kids.new.self in
    let asks = g.J.Doing.asks in
    let ask = g.J.Doing.ask in
    let u = s.hand.seat.me.0 in
    let v1 = s1.hand.seat.me.0 in
    let k = c.requires.node in
    let a = c.args.kids.0 in
    let b = c.args.kids.1 in
    let op = c.args.operator in
    let class = c.args.class in
    let items = c.in_ok-items.items in
    let ks = c.requires.may.kids in
    let normal = s.normal.now in
    let same_normal : s1.normal.now ≡ normal = ap (λ r. r.now) c.evaluate_kids.ensures.kept.1 in
    let follows = c.in_ok-items.ensures.follows ks.0 ks.1 in
    let node = k.node ks.0 ks.1 in
    let s2 = c.intern.new.self in
    let v2 = s2.hand.seat.me.0 in
    let grown2 = grown_then asks u v1 v2 c.evaluate_kids.ensures.grown c.intern.ensures.grown in
    let s3 = c.publish_key-known.new.self in
    let v3 = s3.hand.seat.me.0 in
    let grown3 = c.publish_key-known.ensures.grown in
    let n = c.in-Some.number in
    let m = c.publish_key-known.result in
    let key3 : v3.setting.normal.value ≡ normal = ap (λ (y : Setting). y.normal.value) (s3.hand.setting ∙ ap (λ r. r.now.table.shared.key) (c.publish_key-known.ensures.kept.0 ∙ c.intern.ensures.kept.0)) ∙ (s1.normal_is ∙ same_normal) in
    let again = ap (λ ws. Rattle.sel_law.specs.Words.items_of ws) c.as_slice.ensures.value ∙ c.in_ok-words.ensures.again in
    let key1 = s1.hand.rows.now.table.shared.key in
    let form : key1.normal.value ≡ normal = s1.normal_is ∙ same_normal in
    let width : key1.width ≡ normal.nonterminals = sym s1.hand.rows.now.width_is ∙ (s1.hand.rows.now.width_normal ∙ ap (λ (n : NormalForm). n.nonterminals) form) in
    let made0 : IsMadeOf key1 ask c.in_ok-words.words.items = made_by key1 normal ask (key_of op class ks.0) items c.in_ok-words.words.items width form node follows (c.fits.ensures.0 c.if-not-fits.false) c.in_ok-words.ensures.again c.in_ok-words.ensures.words in
    let setting3 : v3.setting ≡ key1 = s3.hand.setting ∙ ap (λ r. r.now.table.shared.key) (c.publish_key-known.ensures.kept.0 ∙ c.intern.ensures.kept.0) in
    let made3 : IsMadeOf v3.setting ask c.as_slice.result.now = subst (λ (z : Setting). IsMadeOf z ask c.as_slice.result.now) (sym setting3) (subst (IsMadeOf key1 ask) (sym c.as_slice.ensures.value) made0) in
    λ is kd. ⊎_elim
    (λ (h : HoldsKey v3 ask m). labelled_key normal v3 s3.plain.items s3.used_up s3.row_full op class a b is ask m h key3 k.numbered k.packed (k.node is kd))
    (λ (h : (m ≡ n) × (s3.row_full ≡ true)).
    subst (λ j. IsLabelled (told_by normal v3 s3.plain.items s3.used_up s3.row_full) op class a b is (Numbered j)) (sym h.0)
    (labelled_content normal v3 s3.plain.items s3.used_up s3.row_full op class a b is ask (grown3.asked ask c.in-Some.ensures.number.1) n items c.as_slice.result.now (holds_content_grown asks v2 v3 grown3 c.as_slice.result.now n c.in-Some.ensures.number.0) made3 again (c.fits.ensures.0 c.if-not-fits.false) (c.in_ok-items.ensures.follows is kd) k.numbered h.1))
    c.publish_key-known.ensures.number

pub returns-then-not-fits-clause-cause : goal.returns-then-not-fits-clause-cause
returns-then-not-fits-clause-cause g c =
    let s = c.args.self.now in
    let s1 = c.evaluate_kids.new.self in
    let asks = g.J.Doing.asks in
    let ask = g.J.Doing.ask in
    let u = s.hand.seat.me.0 in
    let v1 = s1.hand.seat.me.0 in
    let k = c.requires.node in
    let a = c.args.kids.0 in
    let b = c.args.kids.1 in
    let op = c.args.operator in
    let class = c.args.class in
    let items = c.in_ok-items.items in
    let ks = c.requires.may.kids in
    let normal = s.normal.now in
    let same_normal : s1.normal.now ≡ normal = ap (λ r. r.now) c.evaluate_kids.ensures.kept.1 in
    let follows = c.in_ok-items.ensures.follows ks.0 ks.1 in
    let node = k.node ks.0 ks.1 in
    let key1 = s1.hand.rows.now.table.shared.key in
    let key0 : key1 ≡ s.hand.rows.now.table.shared.key = ap (λ r. r.now.table.shared.key) c.evaluate_kids.ensures.kept.0 in
    let form : key1.normal.value ≡ normal = s1.normal_is ∙ same_normal in
    if_ok_of c.add_plain.result _ _ (λ l h p. inl (items, subst (λ (n : NormalForm). Follows n (node_key ask) items) (sym form ∙ ap (λ (y : Setting). y.normal.value) key0) (subst (λ (y : NodeKey). Follows normal y items) (sym node) follows), (λ f. true_false (sym (c.fits.ensures.1 f) ∙ c.if-not-fits.true)))) c.add_plain.ensures.ok

pub returns-in-None-clause-cause : goal.returns-in-None-clause-cause
returns-in-None-clause-cause g c =
    let s = c.args.self.now in
    let s1 = c.evaluate_kids.new.self in
    let asks = g.J.Doing.asks in
    let ask = g.J.Doing.ask in
    let u = s.hand.seat.me.0 in
    let v1 = s1.hand.seat.me.0 in
    let k = c.requires.node in
    let a = c.args.kids.0 in
    let b = c.args.kids.1 in
    let op = c.args.operator in
    let class = c.args.class in
    let items = c.in_ok-items.items in
    let ks = c.requires.may.kids in
    let normal = s.normal.now in
    let same_normal : s1.normal.now ≡ normal = ap (λ r. r.now) c.evaluate_kids.ensures.kept.1 in
    let follows = c.in_ok-items.ensures.follows ks.0 ks.1 in
    let node = k.node ks.0 ks.1 in
    let key1 = s1.hand.rows.now.table.shared.key in
    let form : key1.normal.value ≡ normal = s1.normal_is ∙ same_normal in
    let width : key1.width ≡ normal.nonterminals = sym s1.hand.rows.now.width_is ∙ (s1.hand.rows.now.width_normal ∙ ap (λ (n : NormalForm). n.nonterminals) form) in
    let made0 : IsMadeOf key1 ask c.in_ok-words.words.items = made_by key1 normal ask (key_of op class ks.0) items c.in_ok-words.words.items width form node follows (c.fits.ensures.0 c.if-not-fits.false) c.in_ok-words.ensures.again c.in_ok-words.ensures.words in
    let made : IsMadeOf key1 ask c.as_slice.result.now = subst (IsMadeOf key1 ask) (sym c.as_slice.ensures.value) made0 in
    let s2 = c.intern.new.self in
    let v2 = s2.hand.seat.me.0 in
    let key0 : key1 ≡ s.hand.rows.now.table.shared.key = ap (λ r. r.now.table.shared.key) c.evaluate_kids.ensures.kept.0 in
    let n = c.in-None.ensures.number in
    let spare : s1.spare ≡ s.spare = sym s1.spare_is ∙ (c.evaluate_kids.ensures.own.own ∙ s.spare_is) in
    if_ok_of c.add_plain-in-None.result _ _ (λ l h p. inr (
      c.add_plain-in-None.ensures.kept.3 ∙ n.0,
      sym spare ∙ n.1,
      (
        c.as_slice.result.now,
        subst (λ (y : Setting). IsMadeOf y ask c.as_slice.result.now) key0 made,
        subst (λ h. IsMissed u c.as_slice.result.now h.seat.me.0) (sym c.add_plain-in-None.ensures.kept.0) (missed_before asks u v1 v2 c.evaluate_kids.ensures.grown c.as_slice.result.now n.2),
      ),
    )) c.add_plain-in-None.ensures.ok

label_is : (m n : ℕ) → Numbered m ≡ Numbered n → m ≡ n
label_is m n e = cc

pub returns-in-Some-clause-published : goal.returns-in-Some-clause-published
returns-in-Some-clause-published g c = λ n e.
    let w = c.publish_key-known.new.self in
    subst (λ m. HoldsKey w.hand.seat.me.0 g.J.Doing.ask m ⊎ (w.row_full ≡ true)) (label_is c.publish_key-known.result n e)
    (⊎_elim (λ (h : HoldsKey w.hand.seat.me.0 g.J.Doing.ask c.publish_key-known.result). inl h) (λ (h : (c.publish_key-known.result ≡ c.in-Some.number) × (w.row_full ≡ true)). inr h.1) c.publish_key-known.ensures.number)

pub returns-then-not-fits-clause-known : goal.returns-then-not-fits-clause-known
returns-then-not-fits-clause-known g c = λ n known full.
    let k = c.requires.node in
    let s = c.args.self.now in
    let s1 = c.evaluate_kids.new.self in
    let asks = g.J.Doing.asks in
    let ask = g.J.Doing.ask in
    let u = s.hand.seat.me.0 in
    let v1 = s1.hand.seat.me.0 in
    let op = c.args.operator in
    let class = c.args.class in
    let items = c.in_ok-items.items in
    let ks = c.requires.may.kids in
    let normal = s.normal.now in
    let follows = c.in_ok-items.ensures.follows ks.0 ks.1 in
    let node = k.node ks.0 ks.1 in
    let form : u.setting.normal.value ≡ normal = ap (λ (y : Setting). y.normal.value) s.hand.setting ∙ s.normal_is in
    absurd (true_false (sym (c.fits.ensures.1 (made_fits c.follows_is_one.ensures normal u.setting form ask (key_of op class ks.0) node items follows (known.made).0 (known.made).1)) ∙ c.if-not-fits.true))

none_some : (n : ℕ) → None ≡ Some n → ⊥
none_some n e = cc

some_is : (m n : ℕ) → Some m ≡ Some n → m ≡ n
some_is m n e = cc

pub returns-in-None-clause-known : goal.returns-in-None-clause-known
returns-in-None-clause-known g c = λ n known full.
    let k = c.requires.node in
    let s = c.args.self.now in
    let s1 = c.evaluate_kids.new.self in
    let asks = g.J.Doing.asks in
    let ask = g.J.Doing.ask in
    let u = s.hand.seat.me.0 in
    let v1 = s1.hand.seat.me.0 in
    let op = c.args.operator in
    let class = c.args.class in
    let items = c.in_ok-items.items in
    let ks = c.requires.may.kids in
    let normal = s.normal.now in
    let follows = c.in_ok-items.ensures.follows ks.0 ks.1 in
    let node = k.node ks.0 ks.1 in
    let form : u.setting.normal.value ≡ normal = ap (λ (y : Setting). y.normal.value) s.hand.setting ∙ s.normal_is in
    let again = ap (λ ws. items_of ws) c.as_slice.ensures.value ∙ c.in_ok-words.ensures.again in
    let packed : ArePacked c.as_slice.result.now = subst ArePacked (sym c.as_slice.ensures.value) c.in_ok-words.ensures.words in
    let only = only_made c.follows_is_one.ensures normal u.setting form ask (key_of op class ks.0) node items follows c.as_slice.result.now packed again in
    let has : HasContent v1 n c.as_slice.result.now = has_grown asks u v1 c.evaluate_kids.ensures.grown n c.as_slice.result.now (inr (ask, known.known, only)) in
    let below = known.below in
    let states : s1.hand.rows.now.states ≡ u.setting.states = s1.hand.rows.now.states_is ∙ (ap (λ r. r.now.table.shared.key.states) c.evaluate_kids.ensures.kept.0 ∙ ap (λ (y : Setting). y.states) (sym s.hand.setting)) in
    absurd (none_some n (sym c.in-None.is ∙ c.intern.ensures.only n (omega arith) has))

pub returns-in-Some-clause-known : goal.returns-in-Some-clause-known
returns-in-Some-clause-known g c = λ n known full.
    let k = c.requires.node in
    let s = c.args.self.now in
    let s1 = c.evaluate_kids.new.self in
    let asks = g.J.Doing.asks in
    let ask = g.J.Doing.ask in
    let u = s.hand.seat.me.0 in
    let v1 = s1.hand.seat.me.0 in
    let op = c.args.operator in
    let class = c.args.class in
    let items = c.in_ok-items.items in
    let ks = c.requires.may.kids in
    let normal = s.normal.now in
    let follows = c.in_ok-items.ensures.follows ks.0 ks.1 in
    let node = k.node ks.0 ks.1 in
    let form : u.setting.normal.value ≡ normal = ap (λ (y : Setting). y.normal.value) s.hand.setting ∙ s.normal_is in
    let again = ap (λ ws. items_of ws) c.as_slice.ensures.value ∙ c.in_ok-words.ensures.again in
    let packed : ArePacked c.as_slice.result.now = subst ArePacked (sym c.as_slice.ensures.value) c.in_ok-words.ensures.words in
    let only = only_made c.follows_is_one.ensures normal u.setting form ask (key_of op class ks.0) node items follows c.as_slice.result.now packed again in
    let has : HasContent v1 n c.as_slice.result.now = has_grown asks u v1 c.evaluate_kids.ensures.grown n c.as_slice.result.now (inr (ask, known.known, only)) in
    let below = known.below in
    let states : s1.hand.rows.now.states ≡ u.setting.states = s1.hand.rows.now.states_is ∙ (ap (λ r. r.now.table.shared.key.states) c.evaluate_kids.ensures.kept.0 ∙ ap (λ (y : Setting). y.states) (sym s.hand.setting)) in
    let found : c.in-Some.number ≡ n = some_is c.in-Some.number n (sym c.in-Some.is ∙ c.intern.ensures.only n (omega arith) has) in
    ap Numbered (c.publish_key-known.ensures.unplaced full ∙ found)
