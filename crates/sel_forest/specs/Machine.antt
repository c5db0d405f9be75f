-- The steps by which the form of a line is followed. A state is what came last, with the number of parentheses that are open.
use Rattle.std.specs.Prelude.{ℕ, zero, suc, List, [], ◌∷◌, Option, Some, None, Bool, true, false}
use Rattle.sel_forest.specs.Tokens.{Token, Name, Number, Symbol, Colon, Open, Comma, Close, End}
use Rattle.sel_forest.specs.declared.line.State.{State}
use Rattle.sel_forest.specs.declared.line.State.TheVariants.{Start, Wanted, Named, Colonned, Attributed, Closed, Ended}

-- behind a tree
abbrev pub after_tree : ℕ → Token → Option State
after_tree (suc d) Comma = Some (Wanted (suc d))
after_tree (suc d) Close = Some (Closed d)
after_tree zero End = Some Ended
after_tree _ _ = None

abbrev pub step : State → Token → Option State
step Start (Name n) = Some (Named 0)
step Start End = Some Ended
step (Wanted d) (Name n) = Some (Named d)
step (Named d) Colon = Some (Colonned d)
step (Named d) Open = Some (Wanted (suc d))
step (Named d) t = after_tree d t
step (Colonned d) (Number n) = Some (Attributed d)
step (Colonned d) (Symbol n) = Some (Attributed d)
step (Attributed d) Open = Some (Wanted (suc d))
step (Attributed d) t = after_tree d t
step (Closed d) t = after_tree d t
step _ _ = None

abbrev pub go : (State → Option State) → Option State → Option State
go f None = None
go f (Some s) = f s

-- the state behind some tokens
abbrev pub run : List Token → State → Option State
run [] s = Some s
run (t ∷ ts) s = go (run ts) (step s t)

-- whether an attribute is wanted
abbrev pub wants_attribute : State → Bool
wants_attribute (Colonned d) = true
wants_attribute _ = false

-- how many parentheses are open
abbrev pub open_count : State → ℕ
open_count (Wanted d) = d
open_count (Named d) = d
open_count (Colonned d) = d
open_count (Attributed d) = d
open_count (Closed d) = d
open_count _ = 0
