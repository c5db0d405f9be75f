-- What is told, by what the handle holds.
use Rattle.std.proofs.Common.{◌≡◌, ℕ, List, Option, Some, None, is_some, false, inl, inr, refl, sym, subst}
use Rattle.sel_grammar.specs.declared.grammar.Grammar.{Grammar}
use Rattle.sel_grammar.specs.declared.refusal.GrammarRefusal.{GrammarRefusal}
use Rattle.sel_grammar.specs.declared.refusal.GrammarRefusal.TheVariants as refusal
use Rattle.sel_grammar_text.specs.GrammarText.{SpellsGrammar, GrammarRefusedFor}
use Rattle.sel_normal.specs.NormalFaults.{NormalRefusedFor}
use Rattle.sel_work.specs.declared.answer.Answer.{Answer}
use Rattle.sel_work.specs.declared.answer.Goal.{Goal}
use Rattle.sel_c.specs.declared.told.Told.{Told}
use Rattle.sel_c.specs.declared.accepted.Accepted.{Accepted}
use Rattle.sel_c.specs.Answers.{TellsOfLine, TellsOfHeldLine}
use Rattle.sel_c.specs.Openings.{IsUnopened, unopened_by, OpensClosed, TellsOfOpening, text_taken}

pub held_line : (held : Option Accepted) (a : Accepted) (goal : Goal) (text old new : List ℕ) (told : Told) (Tells : Answer → Type 0) → held ≡ Some a
    → TellsOfLine a.grammar goal text old new told Tells → TellsOfHeldLine held goal text old new told Tells
held_line held a goal text old new told Tells is tells = subst (λ (o : Option Accepted). TellsOfHeldLine o goal text old new told Tells) (sym is) tells

pub opening : (text : List ℕ) (old new : Option Accepted) (told : Told) → is_some old ≡ false → OpensClosed (text_taken text) new told → TellsOfOpening text old new told
opening text None new told none opens = opens
opening text (Some a) new told none opens = absurd (cc)

pub text_refused : (text : List ℕ) (r : GrammarRefusal) → GrammarRefusedFor text r → IsUnopened text (unopened_by r)
text_refused text (refusal.Fault fault) for = inl for
text_refused text refusal.NoMemory for = tt

pub normal_refused : (text : List ℕ) (g : Grammar) (r : GrammarRefusal) → SpellsGrammar text g → NormalRefusedFor g r → IsUnopened text (unopened_by r)
normal_refused text g (refusal.Fault fault) spelled for = inr (g, spelled, for)
normal_refused text g refusal.NoMemory spelled for = tt

pub none_held : (held : Option Accepted) → is_some held ≡ false → held ≡ None
none_held None none = refl
none_held (Some a) none = absurd (cc)
