-- A text has at most one of a grammar and a first fault.
use Rattle.std.proofs.Common.{◌≡◌, ℕ, suc, ◌+◌, ◌<◌, List, Option, Some, None, refl, ap, sym, ◌∙◌, subst, arith, ◌⊎◌, inl, inr, length}
use Rattle.sel_grammar.specs.Limits as limits
use Rattle.sel_grammar.specs.declared.grammar.Grammar.{Grammar}
use Rattle.sel_grammar.specs.declared.refusal.GrammarFault.{GrammarFault}
use Rattle.sel_grammar_text.specs.CostText.{wrong_cost}
use Rattle.sel_grammar_text.specs.Spots.{Spot, here}
use Rattle.sel_grammar_text.specs.Faults.{fault}
use Rattle.sel_grammar_text.specs.FormFaults.{FormFault, unclosed_quote, open_code, stray, name_too_many, bad_string, cost_line, cost_list, bad_byte}
use Rattle.sel_grammar_text.specs.GrammarText.{HasFault, IsSoundUpTo, IsWhole, HasFirstFault, at_token, behind_items, SpellsGrammar, IsGrammarFault, items_of, end_fault}
use Rattle.sel_grammar_text.specs.Meaning.{grammar_of}
use Rattle.sel_grammar_text.specs.Places.{line_of, column_of}
use Rattle.sel_grammar_text.specs.Laws.{GrammarIsOne, GrammarFaultIsOne, NotGrammarAndFault}
use Rattle.sel_grammar_text.specs.declared.fault.Fault.{Fault}

some_same : {A : Type 0} (x y : Option A) (a b : A) → x ≡ y → x ≡ Some a → y ≡ Some b → a ≡ b
some_same x y a b e f g = let h : Some a ≡ Some b = sym f ∙ e ∙ g in cc

placed : (kind a b : ℕ) → a ≡ b → fault kind a ≡ fault kind b
placed kind a b e = ap (fault kind) e

one_form_fault : (all : ℕ) (before left : List Spot) (s : Spot) (more : List ℕ) (f g : Fault) → FormFault all before left s more f → FormFault all before left s more g → f ≡ g
one_form_fault all before left s more _ _ (unclosed_quote u k) (open_code c d) = cc
one_form_fault all before left s more _ _ (open_code c d) (unclosed_quote u k) = cc
one_form_fault all before left s more _ _ (name_too_many n e l p) (open_code c d) = cc
one_form_fault all before left s more _ _ (open_code c d) (name_too_many n e l p) = cc
one_form_fault all before left s more _ _ (bad_string i b at e l p) (open_code c d) = cc
one_form_fault all before left s more _ _ (open_code c d) (bad_string i b at e l p) = cc
one_form_fault all before left s more _ _ (cost_line i b at e l p q) (open_code c d) = cc
one_form_fault all before left s more _ _ (open_code c d) (cost_line i b at e l p q) = cc
one_form_fault all before left s more _ _ (cost_list e l x y) (open_code c d) = cc
one_form_fault all before left s more _ _ (open_code c d) (cost_list e l x y) = cc
one_form_fault all before left s more _ _ (open_code c d) (open_code a b) = refl
one_form_fault all before left s more _ _ (open_code c d) (stray x nc y) = absurd (nc c d)
one_form_fault all before left s more _ _ (stray x nc y) (open_code c d) = absurd (nc c d)
one_form_fault all before left s more _ _ (unclosed_quote u k) (unclosed_quote v l) = refl
one_form_fault all before left s more _ _ (unclosed_quote u k) (stray x nc y) = absurd (x u k)
one_form_fault all before left s more _ _ (unclosed_quote u k) (name_too_many n e l p) = cc
one_form_fault all before left s more _ _ (unclosed_quote u k) (bad_string i b at e l p) = cc
one_form_fault all before left s more _ _ (unclosed_quote u k) (cost_line i b at e l p q) = cc
one_form_fault all before left s more _ _ (unclosed_quote u k) (cost_list e l x y) = cc
one_form_fault all before left s more _ _ (stray x nc y) (unclosed_quote u k) = absurd (x u k)
one_form_fault all before left s more _ _ (stray x m y) (stray z n w) = refl
one_form_fault all before left s more _ _ (stray x nc y) (name_too_many n e l p) = absurd (y l)
one_form_fault all before left s more _ _ (stray x nc y) (bad_string i b at e l p) = absurd (y l)
one_form_fault all before left s more _ _ (stray x nc y) (cost_line i b at e l p q) = absurd (y l)
one_form_fault all before left s more _ _ (stray x nc y) (cost_list e l z w) = absurd (y l)
one_form_fault all before left s more _ _ (name_too_many n e l p) (unclosed_quote u k) = cc
one_form_fault all before left s more _ _ (name_too_many n e l p) (stray x nc y) = absurd (y l)
one_form_fault all before left s more _ _ (name_too_many n e l p) (name_too_many m d k q) = refl
one_form_fault all before left s more _ _ (name_too_many n e l p) (bad_string i b at d k q) = cc
one_form_fault all before left s more _ _ (name_too_many n e l p) (cost_line i b at d k q r) = cc
one_form_fault all before left s more _ _ (name_too_many n e l p) (cost_list d k x y) = cc
one_form_fault all before left s more _ _ (bad_string i b at e l p) (unclosed_quote u k) = cc
one_form_fault all before left s more _ _ (bad_string i b at e l p) (stray x nc y) = absurd (y l)
one_form_fault all before left s more _ _ (bad_string i b at e l p) (name_too_many m d k q) = cc
one_form_fault all before left s more _ _ (bad_string i b at e l p) (bad_string j c to d k q) =
    let same : i ≡ j = cc in placed limits.template_form at to (some_same (bad_byte (s.at + 1) i) (bad_byte (s.at + 1) j) at to (ap (bad_byte (s.at + 1)) same) p q)
one_form_fault all before left s more _ _ (bad_string i b at e l p) (cost_line j c to d k q r) =
    let same : i ≡ j = cc in let no : Some at ≡ None = sym p ∙ ap (bad_byte (s.at + 1)) same ∙ q in cc
one_form_fault all before left s more _ _ (bad_string i b at e l p) (cost_list d k x y) = cc
one_form_fault all before left s more _ _ (cost_line i b at e l p q) (unclosed_quote u k) = cc
one_form_fault all before left s more _ _ (cost_line i b at e l p q) (stray x nc y) = absurd (y l)
one_form_fault all before left s more _ _ (cost_line i b at e l p q) (name_too_many m d k r) = cc
one_form_fault all before left s more _ _ (cost_line i b at e l p q) (bad_string j c to d k r) =
    let same : i ≡ j = cc in let no : Some to ≡ None = sym r ∙ sym (ap (bad_byte (s.at + 1)) same) ∙ p in cc
one_form_fault all before left s more _ _ (cost_line i b at e l p q) (cost_line j c to d k r t) =
    let same : i ≡ j = cc in let rest : b ≡ c = cc in
    placed limits.cost_form at to (some_same _ _ at to (ap (λ x. wrong_cost (s.at + length x + 2) b) same ∙ ap (wrong_cost (s.at + length j + 2)) rest) q t)
one_form_fault all before left s more _ _ (cost_line i b at e l p q) (cost_list d k x y) = cc
one_form_fault all before left s more _ _ (cost_list e l x y) (unclosed_quote u k) = cc
one_form_fault all before left s more _ _ (cost_list e l x y) (stray z nc w) = absurd (w l)
one_form_fault all before left s more _ _ (cost_list e l x y) (name_too_many m d k r) = cc
one_form_fault all before left s more _ _ (cost_list e l x y) (bad_string j c to d k r) = cc
one_form_fault all before left s more _ _ (cost_list e l x y) (cost_line j c to d k r t) = cc
one_form_fault all before left s more _ _ (cost_list e l x y) (cost_list d k z w) = refl

one_fault_here : (bytes : List ℕ) (n : ℕ) (f g : Fault) → HasFault bytes n f → HasFault bytes n g → f ≡ g
unfolding HasFault
one_fault_here bytes n f g (inl x) (inl y) = one_form_fault _ _ _ _ _ f g x y
one_fault_here bytes n f g (inl x) (inr y) = absurd (y.0 f x)
one_fault_here bytes n f g (inr x) (inl y) = absurd (x.0 g y)
one_fault_here bytes n f g (inr x) (inr y) = some_same _ _ f g refl x.2 y.2

which : (n m : ℕ) → (n < m) ⊎ ((m < n) ⊎ (n ≡ m))
which n m = grind arith

one_whole : (bytes : List ℕ) (n m : ℕ) → IsWhole bytes n → IsWhole bytes m → n ≡ m
one_whole bytes n m x y = elim (which n m) [
  | inl h ↦ absurd (y.before.open_still (suc n) h x.whole)
  | inr k ↦ elim k [ inl h ↦ absurd (x.before.open_still (suc m) h y.whole) | inr e ↦ e ]
]

whole_or_fault : (bytes : List ℕ) (n m : ℕ) (f : Fault) → IsWhole bytes n → IsSoundUpTo bytes m → HasFault bytes m f → ⊥
whole_or_fault bytes n m f x y z = elim (which n m) [
  | inl h ↦ y.open_still (suc n) h x.whole
  | inr k ↦ elim k [ inl h ↦ x.before.faultless m f h z | inr e ↦ x.last f (subst (λ k. HasFault bytes k f) (sym e) z) ]
]

one_item_fault : (bytes : List ℕ) (n m : ℕ) (f g : Fault) → IsSoundUpTo bytes n → HasFault bytes n f → IsSoundUpTo bytes m → HasFault bytes m g → f ≡ g
one_item_fault bytes n m f g x fx y gy = elim (which n m) [
  | inl h ↦ absurd (y.faultless n f h fx)
  | inr k ↦ elim k [ inl h ↦ absurd (x.faultless m g h gy) | inr e ↦ one_fault_here bytes m f g (subst (λ k. HasFault bytes k f) e fx) gy ]
]

one_fault : (bytes : List ℕ) (f g : Fault) → HasFirstFault bytes f → HasFirstFault bytes g → f ≡ g
one_fault bytes _ _ (at_token n f s x) (at_token m g t y) = one_item_fault bytes n m f g s x t y
one_fault bytes _ _ (at_token n f s x) (behind_items m g w e) = absurd (whole_or_fault bytes m n f w s x)
one_fault bytes _ _ (behind_items n f w e) (at_token m g t y) = absurd (whole_or_fault bytes n m g w t y)
one_fault bytes _ _ (behind_items n f v d) (behind_items m g w e) =
    some_same _ _ f g (ap (λ k. end_fault (items_of k bytes) (here k bytes).at) (one_whole bytes n m v w)) d e

no_both : (bytes : List ℕ) (f : Fault) (g : Grammar) → HasFirstFault bytes f → SpellsGrammar bytes g → ⊥
no_both bytes _ g (at_token n f s x) y = whole_or_fault bytes y.n n f y.whole s x
no_both bytes _ g (behind_items n f w e) y =
    let same : Some f ≡ None = sym e ∙ ap (λ k. end_fault (items_of k bytes) (here k bytes).at) (one_whole bytes n y.n w y.whole) ∙ y.no_fault in cc

pub one_grammar : GrammarIsOne
one_grammar bytes g h x y =
    x.says ∙ ap (λ k. grammar_of bytes (items_of k bytes)) (one_whole bytes x.n y.n x.whole y.whole) ∙ sym y.says

told : (bytes : List ℕ) (e f : GrammarFault) (x : IsGrammarFault bytes e) (y : IsGrammarFault bytes f) → fault e.kind x.at ≡ fault f.kind y.at → e ≡ f
told bytes e f x y same =
    let kind : e.kind ≡ f.kind = ap (λ z. z.kind) same in
    let at : x.at ≡ y.at = ap (λ z. z.at) same in
    let line : e.line ≡ f.line = x.line_is ∙ ap (line_of bytes) at ∙ sym y.line_is in
    let column : e.column ≡ f.column = x.column_is ∙ ap (column_of bytes) at ∙ sym y.column_is in
    ap (λ k. record { kind = k; line = e.line; column = e.column }) kind ∙ ap (λ l. record { kind = f.kind; line = l; column = e.column }) line
    ∙ ap (λ c. record { kind = f.kind; line = f.line; column = c }) column

pub one_grammar_fault : GrammarFaultIsOne
one_grammar_fault bytes e f x y = told bytes e f x y (one_fault bytes (fault e.kind x.at) (fault f.kind y.at) x.first_fault y.first_fault)

pub not_both : NotGrammarAndFault
not_both bytes g f x y = no_both bytes (fault f.kind y.at) g y.first_fault x
