-- Printing a reduction's template, frame by frame. A value that was printed before is copied.
use Rattle.std.specs.Prelude.{◌≡◌, ℕ, ◌+◌, ◌-◌, ◌*◌, ◌^◌, ◌≤◌, Bool, true, false, Option, Some, None, List, [], ◌∷◌, ◌++◌, length, drop, slice_get, slice_range, map}
use Rattle.std.specs.List.{sum_by}
use Rattle.sel_grammar.specs.declared.grammar.Grammar.{Grammar}
use Rattle.sel_grammar.specs.declared.grammar.Part.{Part}
use Rattle.sel_grammar.specs.Expansions.{Text, part_text, filled}
use Rattle.sel_forest.specs.declared.forest.Node.{Node}
use Rattle.sel_expand.specs.declared.printing.Frame.{Frame}
use Rattle.sel_expand.specs.declared.printing.Frame.TheVariants.{Fill, Note}
use Rattle.sel_expand.specs.declared.reductions.Reduction.{Reduction}
use Rattle.sel_expand.specs.declared.sheet.Span.{Span}
use Rattle.sel_expand.specs.declared.templates.Kind.TheVariants.{Named, Unnamed, Fragment}
use Rattle.sel_expand.specs.declared.templates.Kind.{Kind}
use Rattle.sel_expand.specs.Reductions.{Reduced, own_of}
use Rattle.sel_expand.specs.Running.{attribute_at, parts_at}
use Rattle.sel_expand.specs.Sheets.{shown, IsOver, IsCut, IsEnded, IsWhole}
use Rattle.sel_expand.specs.Values.{text_at, line_of, lines_of, AreTexts}

-- the reduction with these kids
abbrev pub with_kids : Reduction → List ℕ → Reduced
with_kids own kids = record { own = own; kids = kids }

abbrev pub flat : {A : Type 0} → Option (Option A) → Option A
flat None = None
flat (Some o) = o

-- the part of a template that has one alone
abbrev pub only_part : List Part → Option Part
only_part [] = None
only_part (part ∷ []) = Some part
only_part (part ∷ other ∷ parts) = None

-- the span holds the value of the reduction i
pub record IsSpan (apart : Bool) (texts : List Text) (out : Text) (i start end : ℕ) : Type 0 where
  pub order : start ≤ end
  pub inside : end ≤ length out
  pub holds : slice_range out start end ≡ shown apart (text_at texts i)

abbrev pub SpansHold : Bool → List Text → List (Option Span) → Text → Type 0
SpansHold apart texts spans out = (i : ℕ) (span : Span) → flat (slice_get spans i) ≡ Some span → IsSpan apart texts out i span.start span.end

-- what the template of a reduction prints from a part on
abbrev pub rest_of : Grammar → List Node → List Text → Option Reduced → ℕ → Text
rest_of g nodes texts None p = []
rest_of g nodes texts (Some r) p = filled (map (text_at texts) r.kids) (attribute_at nodes r.own.at) r.own.next (drop p (parts_at g r.own.rule))

abbrev pub from : Grammar → List Node → List Reduced → List Text → ℕ → ℕ → Text
from g nodes rs texts i p = rest_of g nodes texts (slice_get rs i) p

-- when the frames are done, first to last, the target is shown, and each note is true when it is taken
abbrev pub Leads : Bool → Grammar → List Node → List Reduced → List Text → Text → Text → List Frame → Type 0
Leads apart g nodes rs texts target out [] = out ≡ target
Leads apart g nodes rs texts target out (Fill i p ∷ frames) = Leads apart g nodes rs texts target (out ++ shown apart (from g nodes rs texts i p)) frames
Leads apart g nodes rs texts target out (Note i start ∷ frames) = IsSpan apart texts out i start (length out) × Leads apart g nodes rs texts target out frames

abbrev pub IsKidOf : Reduced → ℕ → Type 0
IsKidOf r j = (m : ℕ) × (slice_get r.kids m ≡ Some j)

-- a text was printed, or it is a kid's value that is left to be printed
pub data Puts (apart : Bool) (g : Grammar) (nodes : List Node) (rs : List Reduced) (spans : List (Option Span)) (out out' : Text) (later : Option ℕ) (wanted : List Text → Text) (IsKid : ℕ → Type 0) : Type 0 where
  printed : later ≡ None → ((texts : List Text) → AreTexts g nodes rs texts → SpansHold apart texts spans out → out' ≡ out ++ shown apart (wanted texts)) → Puts apart g nodes rs spans out out' later wanted IsKid
  postponed : (kid : ℕ) (r : Reduced) → later ≡ Some kid → IsKid kid → slice_get rs kid ≡ Some r → r.own.kind ≡ Fragment → out' ≡ out → ((texts : List Text) → wanted texts ≡ text_at texts kid)
      → Puts apart g nodes rs spans out out' later wanted IsKid

abbrev pub part_wanted : List Node → Reduced → Part → List Text → Text
part_wanted nodes r part texts = part_text (map (text_at texts) r.kids) (attribute_at nodes r.own.at) r.own.next part

-- what the template prints from the part p on is printed up to the part q
pub record IsFilledTo (apart : Bool) (g : Grammar) (nodes : List Node) (rs : List Reduced) (texts : List Text) (i p q : ℕ) (out out' : Text) : Type 0 where
  pub more : Text
  pub grown : out' ≡ out ++ more
  pub rest : more ++ shown apart (from g nodes rs texts i q) ≡ shown apart (from g nodes rs texts i p)

-- the same, whatever the values are
abbrev pub FillsTo : Bool → Grammar → List Node → List Reduced → List (Option Span) → ℕ → ℕ → ℕ → Text → Text → Type 0
FillsTo apart g nodes rs spans i p q out out' = (texts : List Text) → AreTexts g nodes rs texts → SpansHold apart texts spans out → IsFilledTo apart g nodes rs texts i p q out out'

-- a template is printed to its end, or up to the value of a kid, which is left to be printed, or until the sheet is full
pub data Fills (apart : Bool) (g : Grammar) (nodes : List Node) (rs : List Reduced) (spans : List (Option Span)) (i p : ℕ) (out out' : Text) (frames frames' : List Frame) (full : Bool) : Type 0 where
  ended : (q : ℕ) → full ≡ false → frames' ≡ frames → FillsTo apart g nodes rs spans i p q out out' → ((texts : List Text) → from g nodes rs texts i q ≡ []) → Fills apart g nodes rs spans i p out out' frames frames' full
  left : (q kid : ℕ) (r x : Reduced) (part : Part) → full ≡ false → p ≤ q → slice_get rs i ≡ Some r → slice_get (parts_at g r.own.rule) q ≡ Some part → IsKidOf r kid → slice_get rs kid ≡ Some x → x.own.kind ≡ Fragment
      → ((texts : List Text) → part_wanted nodes r part texts ≡ text_at texts kid) → frames' ≡ ((frames ++ Fill i (q + 1) ∷ []) ++ Note kid (length out') ∷ []) ++ Fill kid 0 ∷ []
      → FillsTo apart g nodes rs spans i p q out out' → Fills apart g nodes rs spans i p out out' frames frames' full
  filled_up : (q : ℕ) → full ≡ true → IsOver apart out' → FillsTo apart g nodes rs spans i p q out out' → Fills apart g nodes rs spans i p out out' frames frames' full

abbrev pub HasTexts : Grammar → List Node → List Reduced → Type 0
HasTexts g nodes rs = (texts : List Text) × AreTexts g nodes rs texts

-- the sheet is full, or it shows the target and the spans hold
abbrev pub IsDone : Bool → Bool → List Text → List (Option Span) → Text → Text → Type 0
IsDone true apart texts spans out target = IsCut apart out target
IsDone false apart texts spans out target = (out ≡ target) × SpansHold apart texts spans out

-- the template is appended
abbrev pub IsPrinted : Bool → Grammar → List Node → List Reduced → ℕ → List (Option Span) → List (Option Span) → Text → Text → Bool → Type 0
IsPrinted apart g nodes rs first spans spans' out out' full =
    (texts : List Text) → AreTexts g nodes rs texts → SpansHold apart texts spans out → IsDone full apart texts spans' out' (out ++ shown apart (from g nodes rs texts first 0))

-- a measure of what is left to do: a kid's reduction stands before its parent's
abbrev pub base : Grammar → List Reduced → ℕ
base g rs = 3 + sum_by (λ (r : Reduced). length (parts_at g r.own.rule)) rs

abbrev pub parts_or_none : Grammar → Option Reduced → List Part
parts_or_none g None = []
parts_or_none g (Some r) = parts_at g r.own.rule

abbrev pub weight : Grammar → List Reduced → Frame → ℕ
weight g rs (Fill i p) = base g rs ^ i * (1 + (length (parts_or_none g (slice_get rs i)) - p))
weight g rs (Note i start) = 1

abbrev pub work : Grammar → List Reduced → List Frame → ℕ
work g rs frames = sum_by (weight g rs) frames

-- the reduction's value is appended
abbrev pub IsValuePrinted : Bool → Grammar → List Node → List Reduced → ℕ → List (Option Span) → Text → Text → Bool → Type 0
IsValuePrinted apart g nodes rs i spans out out' full = (texts : List Text) → AreTexts g nodes rs texts → SpansHold apart texts spans out → IsEnded full apart out' (out ++ shown apart (text_at texts i))

-- all lines, and then the reduction's value
abbrev pub AreAllPrinted : Bool → Grammar → List Node → List Reduced → ℕ → Text → Bool → Type 0
AreAllPrinted apart g nodes rs i out full = (texts : List Text) → AreTexts g nodes rs texts → IsWhole full apart out (shown apart (lines_of g nodes texts rs ++ text_at texts i))

abbrev pub is_line_kind : Kind → Bool
is_line_kind Named = true
is_line_kind Unnamed = true
is_line_kind Fragment = false

abbrev pub is_line_own : Option Reduction → Bool
is_line_own None = false
is_line_own (Some own) = is_line_kind own.kind

abbrev pub is_line : Option Reduced → Bool
is_line o = is_line_own (own_of o)

abbrev pub line_at : Grammar → List Node → List Text → Option Reduced → Text
line_at g nodes texts None = []
line_at g nodes texts (Some r) = line_of g nodes texts r

-- the reduction's line is appended
abbrev pub IsLinePrinted : Bool → Grammar → List Node → List Reduced → ℕ → List (Option Span) → List (Option Span) → Text → Text → Bool → Type 0
IsLinePrinted apart g nodes rs i spans spans' out out' full =
    (texts : List Text) → AreTexts g nodes rs texts → SpansHold apart texts spans out → IsDone full apart texts spans' out' (out ++ shown apart (line_at g nodes texts (slice_get rs i)))
