-- The names of the operators in a grammar that a text spells.
use Rattle.std.proofs.Common.{◌≡◌, ℕ, suc, zero, List, [], ◌∷◌, ◌++◌, Some, Bool, true, false, refl, ap, sym, ◌∙◌, subst, ◌&&◌}
use Rattle.std.specs.Prelude.{slice_get, option_map}
use Rattle.std.specs.List.{list_all, AllByRecursion}
use Rattle.std.proofs.lemmas.Option.{same_Some, slice_get-map}
use Rattle.sel_grammar.specs.Lawful.{HasNames}
use Rattle.sel_grammar.specs.Names as names
use Rattle.sel_grammar.specs.Names.{is_name_byte}
use Rattle.sel_grammar.specs.declared.grammar.Operator.{Operator}
use Rattle.sel_grammar_text.specs.Items.{Word, Item, StartItem, EntryItem, CodeItem, PercentsItem, RuleItem}
use Rattle.sel_grammar_text.specs.Names.{is_among, operators, rules, uses}
use Rattle.sel_grammar_text.specs.Spots.{here}
use Rattle.sel_grammar_text.specs.GrammarText.{items_of}
use Rattle.sel_grammar_text.specs.Meaning.{operators_of, grammar_of}
use Rattle.sel_grammar_text.specs.SpelledLaws.{SpelledHasNames}
use Rattle.sel_grammar_text.proofs.Printed.{Each}
use Rattle.sel_grammar_text.proofs.NamedPatterns.{IsName}
use Rattle.sel_grammar_text.proofs.SourceNames.{EntriesGood, NamesPass, among_more, among_last}
use Rattle.sel_grammar_text.proofs.ItemLists.{operator_names_of}
use Rattle.sel_grammar_text.proofs.SpelledItems.{Known, known}

-- what holds of each holds of the one at a place
pub each_at : (P : List ℕ → Type 0) (bs : List (List ℕ)) (k : ℕ) (b : List ℕ) → AllByRecursion P bs → slice_get bs k ≡ Some b → P b
each_at P [] k b h e = cc
each_at P (x ∷ bs) zero b h e = subst P (same_Some x b e) h.0
each_at P (x ∷ bs) (suc k) b h e = each_at P bs k b h.1 e

-- Names are names.

each_passes : (p : ℕ → Bool) (bytes : List ℕ) → Each p bytes → list_all p bytes ≡ true
each_passes p [] h = refl
each_passes p (b ∷ bytes) h = ap (λ t. t && list_all p bytes) h.0 ∙ each_passes p bytes h.1

pub is_name : (bytes : List ℕ) → IsName bytes → names.IsName bytes
is_name [] h = h
is_name (b ∷ bytes) h = (h.0, each_passes is_name_byte bytes h.1)

entries_named : (items : List Item) → EntriesGood items → AllByRecursion names.IsName (operators items)
entries_named [] h = tt
entries_named (EntryItem name number ∷ items) h = (is_name name.bytes h.0.0, entries_named items h.1)
entries_named (StartItem w ∷ items) h = entries_named items h.1
entries_named (CodeItem ∷ items) h = entries_named items h.1
entries_named (PercentsItem at ∷ items) h = entries_named items h.1
entries_named (RuleItem r ∷ items) h = entries_named items h.1

-- Names that are new, each behind those before it, stand at one place each.

abbrev pub AreNew : List (List ℕ) → List (List ℕ) → Type 0
AreNew before [] = Unit {0}
AreNew before (b ∷ bs) = (is_among before b ≡ false) × AreNew (before ++ (b ∷ [])) bs

passing_new : (before bs : List (List ℕ)) → NamesPass before bs → AreNew before bs
passing_new before [] h = tt
passing_new before (b ∷ bs) h = (h.0.0, passing_new (before ++ (b ∷ [])) bs h.1)

not_again : (before bs : List (List ℕ)) (k : ℕ) (b : List ℕ) → AreNew before bs → is_among before b ≡ true → slice_get bs k ≡ Some b → ⊥
not_again before [] k b h m e = cc
not_again before (x ∷ bs) zero b h m e =
    let w : true ≡ false = sym m ∙ ap (is_among before) (sym (same_Some x b e)) ∙ h.0 in cc
not_again before (x ∷ bs) (suc k) b h m e = not_again (before ++ (x ∷ [])) bs k b h.1 (among_more before x b m) e

not_behind : (before bs : List (List ℕ)) (x b : List ℕ) (k : ℕ) → AreNew before (x ∷ bs) → Some x ≡ Some b → slice_get bs k ≡ Some b → ⊥
not_behind before bs x b k h d e =
    not_again (before ++ (x ∷ [])) bs k b h.1 (subst (λ y. is_among (before ++ (x ∷ [])) y ≡ true) (same_Some x b d) (among_last before x)) e

pub same_place : (before bs : List (List ℕ)) (j k : ℕ) (b : List ℕ) → AreNew before bs → slice_get bs j ≡ Some b → slice_get bs k ≡ Some b → j ≡ k
same_place before [] j k b h d e = cc
same_place before (x ∷ bs) zero zero b h d e = refl
same_place before (x ∷ bs) zero (suc k) b h d e = absurd (not_behind before bs x b k h d e)
same_place before (x ∷ bs) (suc j) zero b h d e = absurd (not_behind before bs x b j h e d)
same_place before (x ∷ bs) (suc j) (suc k) b h d e = ap suc (same_place (before ++ (x ∷ [])) bs j k b h.1 d e)

-- Operators by their names.

pub name_there : (us : List (Word × ℕ)) (items : List Item) (k : ℕ) (operator : Operator) → slice_get (operators_of us items) k ≡ Some operator → slice_get (operators items) k ≡ Some operator.name
name_there us items k operator h =
    ap (λ bs. slice_get bs k) (sym (operator_names_of us items)) ∙ slice_get-map (λ (o : Operator). o.name) (operators_of us items) k ∙ ap (option_map (λ (o : Operator). o.name)) h

have_names : (source : List ℕ) (items : List Item) → Known items → HasNames (grammar_of source items)
unfolding grammar_of
have_names source items k =
    let us = uses (rules items) in
    record {
      named = λ i operator h. each_at names.IsName (operators items) i operator.name (entries_named items k.entries) (name_there us items i operator h);
      differ = λ i j a b h l e. same_place [] (operators items) i j b.name (passing_new [] (operators items) k.names) (name_there us items i a h ∙ ap Some e) (name_there us items j b l);
    }

pub spelled_has_names : SpelledHasNames
spelled_has_names source g s =
    subst HasNames (sym s.says) (have_names source (items_of s.n source) (known source s.n (here s.n source).at s.whole s.no_fault))
