-- The loop over a text's lines.
use Rattle.std.proofs.Common.{◌≡◌, ℕ, suc, zero, ◌+◌, ◌≤◌, ◌<◌, ◌==◌, Bool, true, false, not, List, [], ◌∷◌, ◌++◌, Option, Some, None, refl, ap, sym, ◌∙◌, subst, arith, length, take, drop, length-append, append_assoc, slice_get}
use Rattle.std.specs.Prelude.{option_to_list}
use Rattle.std.specs.Option.{OnSome}
use Rattle.std.specs.List.{prefix_len, onto_first}
use Rattle.std.proofs.lemmas.List.Splits.{slice_split-cons_yes, slice_split-cons_no}
use Rattle.sel_grammar.specs.declared.grammar.Grammar.{Grammar}
use Rattle.sel_forest.specs.declared.forest.Tree.{Tree}
use Rattle.sel_forest.specs.declared.forest.Forest.{Forest}
use Rattle.sel_forest.specs.declared.refusal.ForestRefusal.{ForestRefusal}
use Rattle.sel_forest.specs.declared.refusal.ForestRefusal.TheVariants as refusal
use Rattle.sel_forest.specs.Limits.{most_trees}
use Rattle.sel_forest.specs.Valid.{IsValidTree, IsValidForest}
use Rattle.sel_forest.specs.ForestText.{SpellsLine, IsBlankLine, IsLineResult, IsLineFault, IsLineRefusal, LinesSpell, no_lines, blank_line, tree_line, lines_of, SpellsForest, IsForestRefusal}
use Rattle.sel_forest.proofs.Lawful.{front_yes}

-- The first line ends before the first line feed.
abbrev inside : ℕ → Bool
inside b = not (b == 10)

prefix_yes : (b : ℕ) (bytes : List ℕ) → inside b ≡ true → prefix_len inside (b ∷ bytes) ≡ 1 + prefix_len inside bytes
prefix_yes b bytes h = rw h refl

prefix_no : (b : ℕ) (bytes : List ℕ) → inside b ≡ false → prefix_len inside (b ∷ bytes) ≡ 0
prefix_no b bytes h = rw h refl

drop_more : (n b : ℕ) (bytes : List ℕ) → drop (1 + n + 1) (b ∷ bytes) ≡ drop (n + 1) bytes
drop_more n b bytes = let e : 1 + n + 1 ≡ suc (n + 1) = omega arith in rw e refl

pub last_cut : (bytes : List ℕ) → length bytes ≤ prefix_len inside bytes → lines_of bytes ≡ take (prefix_len inside bytes) bytes ∷ []
last_cut [] h = refl
last_cut (b ∷ bytes) h = go (b == 10) refl (last_cut bytes)
  where
    go : (x : Bool) → (b == 10) ≡ x → (length bytes ≤ prefix_len inside bytes → lines_of bytes ≡ take (prefix_len inside bytes) bytes ∷ []) → lines_of (b ∷ bytes) ≡ take (prefix_len inside (b ∷ bytes)) (b ∷ bytes) ∷ []
    go true e ih = absurd (omega (arith, prefix_no b bytes (ap not e), h))
    go false e ih =
        let short : length bytes ≤ prefix_len inside bytes = omega (arith, prefix_yes b bytes (ap not e), h) in
        slice_split-cons_no (λ c. c == 10) b bytes e ∙ ap (onto_first b) (ih short) ∙ ap (λ x. x ∷ []) (sym (front_yes inside b bytes (ap not e)))

pub first_cut : (bytes : List ℕ) → prefix_len inside bytes < length bytes → lines_of bytes ≡ take (prefix_len inside bytes) bytes ∷ lines_of (drop (prefix_len inside bytes + 1) bytes)
first_cut [] h = absurd (omega arith)
first_cut (b ∷ bytes) h = go (b == 10) refl (first_cut bytes)
  where
    go : (x : Bool) → (b == 10) ≡ x → (prefix_len inside bytes < length bytes → lines_of bytes ≡ take (prefix_len inside bytes) bytes ∷ lines_of (drop (prefix_len inside bytes + 1) bytes))
        → lines_of (b ∷ bytes) ≡ take (prefix_len inside (b ∷ bytes)) (b ∷ bytes) ∷ lines_of (drop (prefix_len inside (b ∷ bytes) + 1) (b ∷ bytes))
    go true e ih =
        slice_split-cons_yes (λ c. c == 10) b bytes e
        ∙ ap (λ n. take n (b ∷ bytes) ∷ lines_of (drop (n + 1) (b ∷ bytes))) (sym (prefix_no b bytes (ap not e)))
    go false e ih =
        let short : prefix_len inside bytes < length bytes = omega (arith, prefix_yes b bytes (ap not e), h) in
        slice_split-cons_no (λ c. c == 10) b bytes e ∙ ap (onto_first b) (ih short)
        ∙ ap (λ x. x ∷ lines_of (drop (prefix_len inside bytes + 1) bytes)) (sym (front_yes inside b bytes (ap not e)))
        ∙ ap (λ x. take (prefix_len inside (b ∷ bytes)) (b ∷ bytes) ∷ lines_of x) (sym (drop_more (prefix_len inside bytes) b bytes) ∙ ap (λ n. drop (n + 1) (b ∷ bytes)) (sym (prefix_yes b bytes (ap not e))))

-- One line more.
pub more_blank : (g : Grammar) (before : List (List ℕ)) (line : List ℕ) (trees : List Tree) → LinesSpell g before trees → IsBlankLine line → LinesSpell g (before ++ (line ∷ [])) trees
more_blank g _ line _ no_lines h = blank_line line [] [] h no_lines
more_blank g _ line trees (blank_line first lines _ e rest) h = blank_line first (lines ++ (line ∷ [])) trees e (more_blank g lines line trees rest h)
more_blank g _ line _ (tree_line first lines tree trees e rest) h = tree_line first (lines ++ (line ∷ [])) tree trees e (more_blank g lines line trees rest h)

pub more_tree : (g : Grammar) (before : List (List ℕ)) (line : List ℕ) (trees : List Tree) (tree : Tree) → LinesSpell g before trees → SpellsLine g line tree → LinesSpell g (before ++ (line ∷ [])) (trees ++ (tree ∷ []))
more_tree g _ line _ tree no_lines h = tree_line line [] tree [] h no_lines
more_tree g _ line trees tree (blank_line first lines _ e rest) h = blank_line first (lines ++ (line ∷ [])) (trees ++ (tree ∷ [])) e (more_tree g lines line trees tree rest h)
more_tree g _ line _ tree (tree_line first lines other trees e rest) h = tree_line first (lines ++ (line ∷ [])) other (trees ++ (tree ∷ [])) e (more_tree g lines line trees tree rest h)

more_lines : (g : Grammar) (before : List (List ℕ)) (line : List ℕ) (trees trees' : List Tree) (tree : Option Tree) → LinesSpell g before trees → IsLineResult g line tree → trees' ≡ trees ++ option_to_list tree
    → LinesSpell g (before ++ (line ∷ [])) trees'
more_lines g before line trees trees' None s h e = subst (LinesSpell g (before ++ (line ∷ []))) (sym (e ∙ nothing trees)) (more_blank g before line trees s h)
  where
    nothing : (xs : List Tree) → xs ++ [] ≡ xs
    nothing [] = refl
    nothing (x ∷ xs) = ap (λ ys. x ∷ ys) (nothing xs)
more_lines g before line trees trees' (Some tree) s h e = subst (LinesSpell g (before ++ (line ∷ []))) (sym e) (more_tree g before line trees tree s h)

few_more : (trees trees' : List Tree) (tree : Option Tree) → length trees ≤ most_trees → OnSome tree (length trees < most_trees) → trees' ≡ trees ++ option_to_list tree → length trees' ≤ most_trees
few_more trees trees' None few h e = omega (arith, ap length e, length-append trees [])
few_more trees trees' (Some tree) few h e = omega (arith, ap length e, length-append trees (tree ∷ []), h)

-- The invariant: these lines were read, and gave these trees.
pub record LinesRead (g : Grammar) (bytes rest : List ℕ) (trees : List Tree) (number : ℕ) : Type 0 where
  pub before : List (List ℕ)
  pub lines : lines_of bytes ≡ before ++ lines_of rest
  pub spelled : LinesSpell g before trees
  pub few : length trees ≤ most_trees
  pub number_is : number ≡ length before + 1
  pub room : number + length rest ≤ length bytes + 1

pub read_start : (g : Grammar) (bytes : List ℕ) (trees : List Tree) → trees ≡ [] → LinesRead g bytes bytes trees 1
read_start g bytes trees e = record {
  before = [];
  lines = refl;
  spelled = subst (LinesSpell g []) (sym e) no_lines;
  few = omega (arith, ap length e);
  number_is = refl;
  room = omega arith;
}

pub read_next : (g : Grammar) (bytes rest behind line : List ℕ) (trees trees' : List Tree) (tree : Option Tree) (number : ℕ) → LinesRead g bytes rest trees number → lines_of rest ≡ line ∷ lines_of behind
    → length behind < length rest → IsLineResult g line tree → OnSome tree (length trees < most_trees) → trees' ≡ trees ++ option_to_list tree → LinesRead g bytes behind trees' (number + 1)
read_next g bytes rest behind line trees trees' tree number r cut short h few e = record {
  before = r.before ++ (line ∷ []);
  lines = r.lines ∙ ap (λ x. r.before ++ x) cut ∙ sym (append_assoc r.before (line ∷ []) (lines_of behind));
  spelled = more_lines g r.before line trees trees' tree r.spelled h e;
  few = few_more trees trees' tree r.few few e;
  number_is = omega (arith, r.number_is, length-append r.before (line ∷ []));
  room = omega (arith, r.room);
}

pub read_end : (g : Grammar) (bytes rest line : List ℕ) (trees trees' : List Tree) (tree : Option Tree) (number : ℕ) → LinesRead g bytes rest trees number → lines_of rest ≡ line ∷ []
    → IsLineResult g line tree → OnSome tree (length trees < most_trees) → trees' ≡ trees ++ option_to_list tree → SpellsForest g bytes (record { trees = trees' })
read_end g bytes rest line trees trees' tree number r cut h few e = record {
  lines = subst (λ x. LinesSpell g x trees') (sym (r.lines ∙ ap (λ x. r.before ++ x) cut)) (more_lines g r.before line trees trees' tree r.spelled h e);
  few = few_more trees trees' tree r.few few e;
}

pub read_fault : (g : Grammar) (bytes rest line : List ℕ) (others : List (List ℕ)) (trees : List Tree) (number : ℕ) (why : ForestRefusal) → LinesRead g bytes rest trees number → lines_of rest ≡ line ∷ others
    → IsLineRefusal g (length trees) line number why → IsForestRefusal g bytes why
read_fault g bytes rest line others trees number (refusal.Fault fault) r cut h = record {
  before = r.before;
  line = line;
  others = others;
  lines = r.lines ∙ ap (λ x. r.before ++ x) cut;
  trees = trees;
  spelled = r.spelled;
  few = r.few;
  here = subst (λ n. IsLineFault g (length trees) line n fault) r.number_is h;
}
read_fault g bytes rest line others trees number refusal.NoMemory r cut h = tt

-- A spelled forest is valid.
each_valid : (g : Grammar) (lines : List (List ℕ)) (trees : List Tree) → LinesSpell g lines trees → (k : ℕ) (tree : Tree) → slice_get trees k ≡ Some tree → IsValidTree g tree
each_valid g _ _ no_lines k tree h = cc
each_valid g _ trees (blank_line line lines _ e rest) k tree h = each_valid g lines trees rest k tree h
each_valid g _ _ (tree_line line lines first trees e rest) zero tree h = let q : first ≡ tree = cc in subst (IsValidTree g) q e.valid
each_valid g _ _ (tree_line line lines first trees e rest) (suc k) tree h = each_valid g lines trees rest k tree h

pub spelled_valid : (g : Grammar) (bytes : List ℕ) (forest : Forest) → SpellsForest g bytes forest → IsValidForest g forest
spelled_valid g bytes forest s = record { trees = each_valid g (lines_of bytes) forest.trees s.lines; few = s.few }
