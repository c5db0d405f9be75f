-- The steps by which the form of a text is followed. A state is what came last; there is none where no text of the form goes on.
use Rattle.std.specs.Prelude.{ℕ, zero, suc, List, [], ◌∷◌, Option, Some, None, Bool, true, false, if◌then◌else◌}
use Rattle.sel_grammar_text.specs.Tokens.{Token, Name, Integer, Quoted, Start, Term, Percents, Code, Colon, Equals, Open, Close, Comma, Semi, End}
use Rattle.sel_grammar_text.specs.Form.{is_small}
use Rattle.sel_grammar_text.specs.declared.form.State.{State}
use Rattle.sel_grammar_text.specs.declared.form.State.TheVariants.{Declaring, Starting, Entering, Equating, Ruling, LeftName, Wanted, Named, Closed, External, Numbered, Pricing, Priced, Pairing, Paired, Finishing, Ended}

-- behind a pattern, within as many parentheses
abbrev pub after_pattern : ℕ → Token → Option State
after_pattern (suc d) Comma = Some (Wanted (suc d))
after_pattern (suc d) Close = Some (Closed d)
after_pattern zero (Quoted i c) = Some Ruling
after_pattern zero Equals = Some External
after_pattern _ _ = None

-- among declarations: whether a start symbol is declared, and whether entries may follow
abbrev pub declare : Bool → Bool → Token → Option State
declare s t Start = if s then None else Some Starting
declare s t Term = Some (Declaring s true)
declare s t (Name n) = if t then Some (Entering s) else None
declare s t (Code n) = Some (Declaring s false)
declare s t Percents = Some Ruling
declare s t _ = None

abbrev pub step : State → Token → Option State
step (Declaring s t) token = declare s t token
step Starting (Name n) = Some (Declaring true false)
step (Entering s) Equals = Some (Equating s)
step (Equating s) (Integer d) = if is_small d then Some (Declaring s true) else None
step Ruling (Name n) = Some LeftName
step Ruling Percents = Some Ended
step Ruling End = Some Ended
step LeftName Colon = Some (Wanted zero)
step (Wanted d) (Name n) = Some (Named d)
step (Named d) Open = Some (Wanted (suc d))
step (Named d) t = after_pattern d t
step (Closed d) t = after_pattern d t
step External (Integer e) = if is_small e then Some Numbered else None
step Numbered Open = Some Pricing
step Numbered Semi = Some Ruling
step Pricing (Integer c) = Some Priced
step Priced Close = Some Finishing
step Priced Comma = Some Pairing
step Pairing (Integer c) = Some Paired
step Paired Close = Some Finishing
step Finishing Semi = Some Ruling
step _ _ = None

abbrev pub go : (State → Option State) → Option State → Option State
go f None = None
go f (Some s) = f s

-- the state behind some tokens
abbrev pub run : List Token → State → Option State
run [] s = Some s
run (t ∷ ts) s = go (run ts) (step s t)

abbrev pub begin : State
begin = Declaring false false

-- how many parentheses are open
abbrev pub open_count : State → ℕ
open_count (Wanted d) = d
open_count (Named d) = d
open_count (Closed d) = d
open_count _ = 0

-- an item ends there, or the text
abbrev pub is_border : State → Bool
is_border (Declaring s t) = true
is_border Ruling = true
is_border Ended = true
is_border _ = false

-- a parenthesis there opens a cost
abbrev pub wants_cost : State → Bool
wants_cost Numbered = true
wants_cost _ = false

abbrev pub is_name : Token → Bool
is_name (Name n) = true
is_name _ = false

-- rules haven't begun
abbrev pub is_declaring : State → Bool
is_declaring (Declaring s t) = true
is_declaring Starting = true
is_declaring (Entering s) = true
is_declaring (Equating s) = true
is_declaring _ = false
