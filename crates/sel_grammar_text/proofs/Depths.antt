-- How deep a token leads, and where the end does.
use Rattle.std.proofs.Common.{◌≡◌, ℕ, suc, zero, ◌+◌, ◌≤◌, Option, Some, None, Bool, true, false, refl, subst, arith, cond}
use Rattle.sel_grammar_text.specs.Tokens.{Token, Name, Integer, Quoted, Start, Term, Percents, Code, Colon, Equals, Open, Close, Comma, Semi, End}
use Rattle.sel_grammar_text.specs.Form.{is_small}
use Rattle.sel_grammar_text.specs.FormFaults.{is_integer}
use Rattle.sel_grammar_text.specs.Machine.{after_pattern, declare, step, open_count, is_border}
use Rattle.sel_grammar_text.specs.declared.form.State.{State}
use Rattle.sel_grammar_text.specs.declared.form.State.TheVariants.{Declaring, Starting, Entering, Equating, Ruling, LeftName, Wanted, Named, Closed, External, Numbered, Pricing, Priced, Pairing, Paired, Finishing, Ended}

abbrev depth_of : Option State → ℕ
depth_of None = 0
depth_of (Some s) = open_count s

by_cond : (P : Option State → Type 0) (b : Bool) (o p : Option State) → P o → P p → P (cond b o p)
by_cond P true o p x y = x
by_cond P false o p x y = y

after_depth : (d : ℕ) (t : Token) → depth_of (after_pattern d t) ≤ d
after_depth (suc d) Comma = omega arith
after_depth (suc d) Close = omega arith
after_depth zero (Quoted i c) = omega arith
after_depth zero Equals = omega arith
after_depth _ _ = omega arith

declare_depth : (s t : Bool) (token : Token) → depth_of (declare s t token) ≤ 0
declare_depth s t Start = by_cond (λ o. depth_of o ≤ 0) s None (Some Starting) (omega arith) (omega arith)
declare_depth s t Term = omega arith
declare_depth s t (Name n) = by_cond (λ o. depth_of o ≤ 0) t (Some (Entering s)) None (omega arith) (omega arith)
declare_depth s t (Code n) = omega arith
declare_depth s t Percents = omega arith
declare_depth s t _ = omega arith

step_depth_of : (s : State) (t : Token) → depth_of (step s t) ≤ open_count s + 1
step_depth_of (Declaring s t) token = omega (arith, declare_depth s t token)
step_depth_of Starting (Name n) = omega arith
step_depth_of (Entering s) Equals = omega arith
step_depth_of (Equating s) (Integer d) = by_cond (λ o. depth_of o ≤ 0 + 1) (is_small d) (Some (Declaring s true)) None (omega arith) (omega arith)
step_depth_of Ruling (Name n) = omega arith
step_depth_of Ruling Percents = omega arith
step_depth_of Ruling End = omega arith
step_depth_of LeftName Colon = omega arith
step_depth_of (Wanted d) (Name n) = omega arith
step_depth_of (Named d) Open = omega arith
step_depth_of (Named d) t = omega (arith, after_depth d t)
step_depth_of (Closed d) t = omega (arith, after_depth d t)
step_depth_of External (Integer e) = by_cond (λ o. depth_of o ≤ 0 + 1) (is_small e) (Some Numbered) None (omega arith) (omega arith)
step_depth_of Numbered Open = omega arith
step_depth_of Numbered Semi = omega arith
step_depth_of Pricing (Integer c) = omega arith
step_depth_of Priced Close = omega arith
step_depth_of Priced Comma = omega arith
step_depth_of Pairing (Integer c) = omega arith
step_depth_of Paired Close = omega arith
step_depth_of Finishing Semi = omega arith
step_depth_of _ _ = omega arith

pub step_depth : (s : State) (t : Token) (u : State) → step s t ≡ Some u → open_count u ≤ open_count s + 1
step_depth s t u h = subst (λ o. depth_of o ≤ open_count s + 1) h (step_depth_of s t)

pub border_depth : (s : State) → is_border s ≡ true → open_count s ≡ 0
border_depth (Declaring s t) h = refl
border_depth Ruling h = refl
border_depth Ended h = refl
border_depth _ h = let z : ⊥ = cc in absurd z

abbrev ends : Option State → Type 0
ends None = Unit {0}
ends (Some s) = s ≡ Ended

after_end : (d : ℕ) → ends (after_pattern d End)
after_end zero = tt
after_end (suc d) = tt

step_end_of : (s : State) → ends (step s End)
step_end_of (Declaring s t) = tt
step_end_of Starting = tt
step_end_of (Entering s) = tt
step_end_of (Equating s) = tt
step_end_of Ruling = refl
step_end_of LeftName = tt
step_end_of (Wanted d) = tt
step_end_of (Named d) = after_end d
step_end_of (Closed d) = after_end d
step_end_of External = tt
step_end_of Numbered = tt
step_end_of Pricing = tt
step_end_of Priced = tt
step_end_of Pairing = tt
step_end_of Paired = tt
step_end_of Finishing = tt
step_end_of Ended = tt

-- behind the end nothing else comes
pub step_end : (s u : State) → step s End ≡ Some u → u ≡ Ended
step_end s u h = subst ends h (step_end_of s)

-- whether an Integer came last, where a parenthesis may follow
abbrev pub CameLast : State → Bool → Type 0
CameLast (Named d) b = b ≡ false
CameLast Numbered b = b ≡ true
CameLast _ b = Unit {0}

abbrev came : Option State → Bool → Type 0
came None b = Unit {0}
came (Some s) b = CameLast s b

after_came : (d : ℕ) (t : Token) → came (after_pattern d t) (is_integer t)
after_came (suc d) Comma = tt
after_came (suc d) Close = tt
after_came zero (Quoted i c) = tt
after_came zero Equals = tt
after_came _ _ = tt

declare_came : (s t : Bool) (token : Token) → came (declare s t token) (is_integer token)
declare_came s t Start = by_cond (λ o. came o false) s None (Some Starting) tt tt
declare_came s t Term = tt
declare_came s t (Name n) = by_cond (λ o. came o false) t (Some (Entering s)) None tt tt
declare_came s t (Code n) = tt
declare_came s t Percents = tt
declare_came s t _ = tt

step_came_of : (s : State) (t : Token) → came (step s t) (is_integer t)
step_came_of (Declaring s t) token = declare_came s t token
step_came_of Starting (Name n) = tt
step_came_of (Entering s) Equals = tt
step_came_of (Equating s) (Integer d) = by_cond (λ o. came o true) (is_small d) (Some (Declaring s true)) None tt tt
step_came_of Ruling (Name n) = tt
step_came_of Ruling Percents = tt
step_came_of Ruling End = tt
step_came_of LeftName Colon = tt
step_came_of (Wanted d) (Name n) = refl
step_came_of (Named d) Open = tt
step_came_of (Named d) t = after_came d t
step_came_of (Closed d) t = after_came d t
step_came_of External (Integer e) = by_cond (λ o. came o true) (is_small e) (Some Numbered) None refl tt
step_came_of Numbered Open = tt
step_came_of Numbered Semi = tt
step_came_of Pricing (Integer c) = tt
step_came_of Priced Close = tt
step_came_of Priced Comma = tt
step_came_of Pairing (Integer c) = tt
step_came_of Paired Close = tt
step_came_of Finishing Semi = tt
step_came_of _ _ = tt

pub step_came : (s : State) (t : Token) (u : State) → step s t ≡ Some u → CameLast u (is_integer t)
step_came s t u h = subst (λ o. came o (is_integer t)) h (step_came_of s t)
