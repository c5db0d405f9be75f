-- A printed forest: how it grows tree by tree, and that it spells the forest.
use Rattle.std.proofs.Common.{◌≡◌, ℕ, suc, ◌+◌, ◌<◌, ◌≤◌, ◌==◌, Bool, true, false, not, ◌&&◌, Some, List, [], ◌∷◌, ◌++◌, refl, ap, sym, ◌∙◌, subst, append_assoc, slice_get, codes, length, take, slice_index_or, add-one}
use Rattle.std.specs.Fmt.{signed_decimal}
use Rattle.std.specs.Prelude.{flat_map, map, option_map}
use Rattle.std.specs.List.{list_all, onto_first}
use Rattle.std.proofs.Math.Seq.{take-suc}
use Rattle.std.proofs.lemmas.Grind.{flat_map-append}
use Rattle.std.proofs.lemmas.List.{map-append}
use Rattle.std.proofs.lemmas.List.Elements.{All-append, All-cons, All-nil}
use Rattle.std.proofs.lemmas.List.Splits.{slice_split-cons_yes, slice_split-cons_no}
use Rattle.std.proofs.lemmas.Option.{slice_get-map, slice_get_read}
use Rattle.std.proofs.lemmas.Slice.Eq.{bytes_eq-Decides}
use Rattle.sel_grammar.specs.declared.grammar.Attribute.{Attribute}
use Rattle.sel_grammar.specs.declared.grammar.Grammar.{Grammar}
use Rattle.sel_grammar.specs.PlainTrees.{PlainTree, size}
use Rattle.sel_forest.specs.declared.forest.Tree.{Tree}
use Rattle.sel_forest.specs.declared.forest.Forest.{Forest}
use Rattle.sel_forest.specs.ForestText.{SpellsLine, LinesSpell, no_lines, blank_line, tree_line, lines_of, SpellsForest}
use Rattle.sel_forest.specs.Postorder.{IsPostorderOf, postorder}
use Rattle.sel_forest.specs.OpenNodes.{Opened, whole, TakesToken}
use Rattle.sel_forest.specs.Printed.{name_of, operator_name, attribute_text, tree_text, forest_text, tree_of, HasNames, IsPrinted}
use Rattle.sel_forest.specs.Reprinting.{token_text, IsSmall, HasReprinted}
use Rattle.sel_forest.specs.Taking.{AreTokensOf}
use Rattle.sel_forest.specs.Tokens.{Token, Name, Number, Symbol, Colon, Open, Comma, Close, Bad, End, source}
use Rattle.sel_forest.specs.TreeText.{operator_number, value_of, SpellsAttribute, no_attribute, a_number, a_symbol, SpellsTree, no_kids, one_kid, two_kids}
use Rattle.sel_forest.specs.Valid.{IsValidTree, IsValidForest, IsOperatorOf, IsOver, depth}
use Rattle.sel_forest.specs.Limits.{most_nodes, greatest_depth}
use Rattle.sel_forest.proofs.Guessing.{stops_at}
use Rattle.sel_forest.proofs.Roots.{plain_one}
use Rattle.sel_forest.proofs.PlaceLemmas.{append-none}
use Rattle.sel_forest.proofs.Rereading.{tree_tokens, tree_spelled, tree_cut, tree_inside}

-- a valid tree is that of its plain tree
same_tree_of : (tree : Tree) (t : PlainTree) → IsPostorderOf tree t → tree ≡ tree_of t
same_tree_of tree t h = ap (λ nodes. record { nodes = nodes }) h

-- One tree more.
pub printed_first : (g : Grammar) → IsPrinted g (record { trees = [] }) []
printed_first g = record { plain = []; trees_are = refl; text_is = refl }

pub printed_next : (g : Grammar) (trees : List Tree) (tree : Tree) (t : PlainTree) (text text' : List ℕ) → IsPrinted g (record { trees = trees }) text → IsPostorderOf tree t
    → text' ≡ text ++ (tree_text g t ++ codes "\n") → IsPrinted g (record { trees = trees ++ (tree ∷ []) }) text'
printed_next g trees tree t text text' h postorder e = record {
  plain = h.plain ++ (t ∷ []);
  trees_are = (λ j. h.trees_are j ++ (same_tree_of tree t postorder j ∷ [])) ∙ sym (map-append tree_of h.plain (t ∷ []));
  text_is =
      e ∙ (λ j. h.text_is j ++ append-none (tree_text g t ++ codes "\n") j) ∙ sym (flat_map-append (λ t. tree_text g t ++ codes "\n") h.plain (t ∷ []));
}

-- The tokens of a tree in print are the tree's text.
name_is : (g : Grammar) (name : List ℕ) (kids : ℕ) → IsOperatorOf g (operator_number g name) kids → name ≡ operator_name g (operator_number g name)
name_is g name kids (operator, at, takes) = sym ((bytes_eq-Decides operator.name name).0 (stops_at name g.operators operator at)) ∙ sym (ap name_of at)

attribute_is : (xs : List Token) (a : Attribute) → SpellsAttribute xs a → flat_map token_text xs ≡ attribute_text a
attribute_is _ _ no_attribute = refl
attribute_is _ _ (a_number bytes) = ap (λ x. codes ":" ++ x) (sym (append-none (signed_decimal (value_of bytes))))
attribute_is _ _ (a_symbol bytes) = ap (λ x. codes ":" ++ x) (sym (append-none bytes))

tree_is : (g : Grammar) (ts : List Token) (t : PlainTree) → SpellsTree g ts t → IsOver g t → flat_map token_text ts ≡ tree_text g t
tree_is g _ _ (no_kids n a xs s) over = λ j. name_is g n 0 over.0 j ++ attribute_is xs a s j
tree_is g _ _ (one_kid n a xs ts t s h) over =
    ap (λ x. n ++ x) (flat_map-append token_text xs (Open ∷ (ts ++ (Close ∷ []))) ∙ ap (λ y. flat_map token_text xs ++ (codes "(" ++ y)) (flat_map-append token_text ts (Close ∷ [])))
    ∙ (λ j. name_is g n 1 over.0 j ++ (attribute_is xs a s j ++ (codes "(" ++ (tree_is g ts t h over.2 j ++ codes ")"))))
tree_is g _ _ (two_kids n a xs ts us t u s h k) over =
    ap (λ x. n ++ x) (flat_map-append token_text xs (Open ∷ (ts ++ (Comma ∷ (us ++ (Close ∷ [])))))
    ∙ ap (λ y. flat_map token_text xs ++ (codes "(" ++ y)) (flat_map-append token_text ts (Comma ∷ (us ++ (Close ∷ [])))
    ∙ ap (λ z. flat_map token_text ts ++ (codes "," ++ z)) (flat_map-append token_text us (Close ∷ []))))
    ∙ (λ j. name_is g n 2 over.0 j ++ (attribute_is xs a s j ++ (codes "(" ++ (tree_is g ts t h over.2 j ++ (codes "," ++ (tree_is g us u k over.3 j ++ codes ")"))))))

-- One token more, and a whole line.
pub reprinted_first : (g : Grammar) (text : List ℕ) (in_print : Bool) → text ≡ [] → HasReprinted g text in_print [] []
reprinted_first g text in_print e = record { plain = []; trees_are = refl; text_is = e; small = All-nil IsSmall; print_is = λ now. refl }

small_of : (os : List Opened) (t : Token) → TakesToken os t → IsSmall t
small_of os (Name bytes) h = tt
small_of os (Number bytes) h = h.0
small_of os (Symbol bytes) h = tt
small_of os Colon h = tt
small_of os Open h = tt
small_of os Comma h = tt
small_of os Close h = tt
small_of os (Bad b) h = tt
small_of os End h = tt

pub reprinted_token : (g : Grammar) (text : List ℕ) (in_print in_print' : Bool) (trees : List Tree) (os : List Opened) (ts : List Token) (t : Token) → HasReprinted g text in_print trees ts
    → TakesToken os t → (in_print' ≡ true → (in_print ≡ true) × (IsSmall t → source t ≡ token_text t)) → HasReprinted g text in_print' trees (ts ++ (t ∷ []))
reprinted_token g text in_print in_print' trees os ts t h takes stays =
    let small : IsSmall t = small_of os t takes in
    record {
      plain = h.plain;
      trees_are = h.trees_are;
      text_is = h.text_is;
      small = All-append IsSmall ts (t ∷ []) h.small (All-cons IsSmall t [] small (All-nil IsSmall));
      print_is = λ now. flat_map-append token_text ts (t ∷ []) ∙ (λ j. h.print_is (stays now).0 j ++ (sym ((stays now).1 small) j ++ [])) ∙ sym (flat_map-append source ts (t ∷ []));
    }

pub reprinted_printed : (g : Grammar) (text : List ℕ) (in_print : Bool) (trees : List Tree) → HasReprinted g text in_print trees [] → IsPrinted g (record { trees = trees }) text
reprinted_printed g text in_print trees h = record { plain = h.plain; trees_are = h.trees_are; text_is = h.text_is }

pub reprinted_line : (g : Grammar) (text text' : List ℕ) (in_print : Bool) (trees : List Tree) (ts : List Token) (tree : Tree) → HasReprinted g text in_print trees ts → AreTokensOf g ts tree
    → text' ≡ (text ++ flat_map token_text ts) ++ codes "\n" → HasReprinted g text' true (trees ++ (tree ∷ [])) []
reprinted_line g text text' in_print trees ts tree h tokens e =
    let before = forest_text g h.plain in
    let line = tree_is g ts (whole tokens.root) tokens.spells tokens.over in
    let next = printed_next g trees tree (whole tokens.root) before text' (record { plain = h.plain; trees_are = h.trees_are; text_is = refl }) tokens.postorder
    (e ∙ (λ j. (h.text_is j ++ line j) ++ codes "\n") ∙ append_assoc before (tree_text g (whole tokens.root)) (codes "\n")) in
    record { plain = next.plain; trees_are = next.trees_are; text_is = next.text_is; small = All-nil IsSmall; print_is = λ now. refl }

-- a tree of a valid forest
pub tree_at : (g : Grammar) (forest : Forest) (k : ℕ) (tree : Tree) → IsValidForest g forest → k < length forest.trees → tree ≡ slice_index_or forest.trees k tree → IsValidTree g tree
tree_at g forest k tree valid lt is = valid.trees k tree (slice_get_read forest.trees (length forest.trees) k tree refl lt is)

-- the first trees of a forest, and one more
pub taken_next : (forest : Forest) (k : ℕ) (tree : Tree) → k < length forest.trees → tree ≡ slice_index_or forest.trees k tree → take (k + 1) forest.trees ≡ take k forest.trees ++ tree ∷ []
taken_next forest k tree lt is =
    subst (λ t. take (k + 1) forest.trees ≡ take k forest.trees ++ t ∷ []) (sym is) (ap (λ k. take k forest.trees) (add-one k) ∙ take-suc forest.trees k tree lt)

-- The lines of a text that is put together of lines.
lines_cut : (line rest : List ℕ) → list_all (λ b. not (b == 10)) line ≡ true → lines_of (line ++ (10 ∷ rest)) ≡ line ∷ lines_of rest
lines_cut [] rest h = slice_split-cons_yes (λ b. b == 10) 10 rest refl
lines_cut (b ∷ line) rest h = go (b == 10) refl (lines_cut line rest)
  where
    go : (x : Bool) → (b == 10) ≡ x → (list_all (λ b. not (b == 10)) line ≡ true → lines_of (line ++ (10 ∷ rest)) ≡ line ∷ lines_of rest) → lines_of ((b ∷ line) ++ (10 ∷ rest)) ≡ (b ∷ line) ∷ lines_of rest
    go true e ih = absurd (no_line_feed e h)
      where
        no_line_feed : (b == 10) ≡ true → (not (b == 10) && list_all (λ b. not (b == 10)) line) ≡ true → ⊥
        no_line_feed e h = cc
    go false e ih =
        let more : list_all (λ b. not (b == 10)) line ≡ true = behind e h in
        slice_split-cons_no (λ b. b == 10) b (line ++ (10 ∷ rest)) e ∙ ap (onto_first b) (ih more)
      where
        behind : (b == 10) ≡ false → (not (b == 10) && list_all (λ b. not (b == 10)) line) ≡ true → list_all (λ b. not (b == 10)) line ≡ true
        behind e h = sym (ap (λ x. not x && list_all (λ b. not (b == 10)) line) e) ∙ h

module _ (g : Grammar) (names : HasNames g) where
  line_spelled : (t : PlainTree) → IsValidTree g (tree_of t) → IsOver g t → SpellsLine g (tree_text g t) (tree_of t)
  line_spelled t valid over =
      let same : valid.plain ≡ t = plain_one (tree_of t) valid.plain t valid.postorder refl in
      record {
        tokens = tree_tokens g t;
        cut = tree_cut g names t over;
        valid = record {
          plain = t;
          postorder = refl;
          over = over;
          small = subst (λ (s : PlainTree). size s ≤ most_nodes) same valid.small;
          shallow = subst (λ (s : PlainTree). depth s ≤ greatest_depth) same valid.shallow;
        };
        spells = tree_spelled g names t over;
      }

  lines_spelled : (ts : List PlainTree) → ((k : ℕ) (t : PlainTree) → slice_get ts k ≡ Some t → IsValidTree g (tree_of t)) → LinesSpell g (lines_of (forest_text g ts)) (map tree_of ts)
  lines_spelled [] valid = blank_line [] [] [] refl no_lines
  lines_spelled (t ∷ ts) valid =
      let here = valid 0 t refl in
      let over : IsOver g t = subst (IsOver g) (plain_one (tree_of t) here.plain t here.postorder refl) here.over in
      let rest = forest_text g ts in
      let apart : forest_text g (t ∷ ts) ≡ tree_text g t ++ (10 ∷ rest) = append_assoc (tree_text g t) (codes "\n") rest in
      let cut : lines_of (forest_text g (t ∷ ts)) ≡ tree_text g t ∷ lines_of rest = ap lines_of apart ∙ lines_cut (tree_text g t) rest (tree_inside g names t over) in
      subst (λ lines. LinesSpell g lines (tree_of t ∷ map tree_of ts)) (sym cut)
      (tree_line (tree_text g t) (lines_of rest) (tree_of t) (map tree_of ts) (line_spelled t here over) (lines_spelled ts (λ k s at. valid (suc k) s at)))

  pub printed_spells : (forest : Forest) (text : List ℕ) → IsValidForest g forest → IsPrinted g forest text → SpellsForest g text forest
  printed_spells forest text valid h = record {
    lines = subst (λ x. LinesSpell g (lines_of x) forest.trees) (sym h.text_is) (subst (LinesSpell g (lines_of (forest_text g h.plain))) (sym h.trees_are) (lines_spelled h.plain each));
    few = valid.few;
  }
    where
      each : (k : ℕ) (t : PlainTree) → slice_get h.plain k ≡ Some t → IsValidTree g (tree_of t)
      each k t at = valid.trees k (tree_of t) (ap (λ x. slice_get x k) h.trees_are ∙ slice_get-map tree_of h.plain k ∙ ap (option_map tree_of) at)
